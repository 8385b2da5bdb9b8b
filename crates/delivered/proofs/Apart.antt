-- Behind the lines that are read as a job's stands no further line of its last part (`job_apart`): a line that may be missing is read where its key stands. By the grammar's forms.
use Rattle.std.specs.Prelude.{Option, Some, None}
use Prim.Native.Nat.{ℕ, zero, suc}
use mathlib.Core.Path.{◌≡◌, refl, sym, subst, ◌∙◌}
use mathlib.Core.Bool.{Bool, true, false}
use mathlib.Core.List.{List, [], ◌∷◌}
use native.Mathlib.Omega.{arith}
use Rattle.lines.specs.Line.{starts_with}
use Rattle.lines.specs.Text.{bytes}
use Rattle.lines.specs.Parser.{Parser, ◌>>=◌, good, return, row, row_at, optional, optional_at, if_present, checked, chain, times, up_to}
use Rattle.lines.proofs.Parsing.{optional_there, optional_missing}
use Rattle.lines.proofs.Sound.{Halves, bind_inv}
use Rattle.quotes.specs.Grammar.{Quote, quote}
use Rattle.price_rules.specs.Rule.{Rule}
use Rattle.price_rules.specs.Grammar.{Prices, by_list, after_base, rule, unless_ruled, prices}
use Rattle.covers.specs.Grammar.{Cover, inside, cover}
use Rattle.part_lines.specs.Grammar.{PartText, after_left, part, following}
use Rattle.part_lines.specs.Behind.{BehindPart, BehindParts}
use Rattle.job_grammar.specs.Grammar.{JobText, idles, openings, parts, body, rest, job_lines}

-- where lines are read as missing, their key does not stand, and nothing is read
record Missed (key s s' : List ℕ) : Type 0 where
  unsaid : starts_with key s ≡ false
  stays : s ≡ s'

-- a line that may be missing
optional_missed : (key : List ℕ) (lo hi : ℕ) (s s' : List ℕ) (l l' : ℕ) → optional_at key lo hi s l ≡ good None s' l' → Missed key s s'
unfolding return
optional_missed key lo hi s s' l l' e = go (starts_with key s) refl
  where
    go : (b : Bool) → starts_with key s ≡ b → Missed key s s'
    go true x =
        let b = bind_inv (row_at key lo hi) _ s s' l l' None (sym (optional_there key lo hi s l x) ∙ e) in
        let y : Some b.a ≡ None = cc b.second in
        let z : ◌≡◌ {A = ℕ} 0 1 = cc in
        absurd (omega (arith, z))
    go false x = let y : good None s l ≡ good None s' l' = sym (optional_missing key lo hi s l x) ∙ e in record { unsaid = x; stays = cc }

-- lines told by the key of their first
told_missed : {B : Type 0} (key : List ℕ) (lo hi : ℕ) (f : ℕ → Parser B) (s s' : List ℕ) (l l' : ℕ) → (optional_at key lo hi >>= if_present f) s l ≡ good None s' l' → Missed key s s'
unfolding if_present return
told_missed {B} key lo hi f s s' l l' e = go b.a b.first b.second
  where
    b : Halves (optional_at key lo hi) (if_present f) s s' l l' None
    b = bind_inv (optional_at key lo hi) (if_present f) s s' l l' None e

    go : (o : Option ℕ) → optional_at key lo hi s l ≡ good o b.mid b.at → if_present f o b.mid b.at ≡ good None s' l' → Missed key s s'
    go None x y =
        let m = optional_missed key lo hi s b.mid l b.at x in
        let z : b.mid ≡ s' = cc y in
        record { unsaid = m.unsaid; stays = m.stays ∙ z }
    go (Some v) x y =
        let d = bind_inv (f v) _ b.mid s' b.at l' None y in
        let w : Some d.a ≡ None = cc d.second in
        let z : ◌≡◌ {A = ℕ} 0 1 = cc in
        absurd (omega (arith, z))

-- a chain of none reads nothing
chain_none : {A S : Type 0} (p : S → Parser A) (next : S → A → S) (n : ℕ) (k : S) (s s' : List ℕ) (l l' : ℕ) → chain p next n k s l ≡ good [] s' l' → s ≡ s'
unfolding chain return
chain_none p next zero k s s' l l' e = cc
chain_none p next (suc n) k s s' l l' e =
    let b = bind_inv (p k) _ s s' l l' [] e in
    let d = bind_inv (chain p next n (next k b.a)) _ b.mid s' b.at l' [] b.second in
    let y : (b.a ∷ d.a) ≡ [] = cc d.second in
    let z : ◌≡◌ {A = ℕ} 0 1 = cc in
    absurd (omega (arith, z))

-- a part's prices, where neither a rule nor a price is read
prices_missed : (n : ℕ) (s s' : List ℕ) (l l' : ℕ) → prices n s l ≡ good (by_list []) s' l' → Missed (bytes "base=") s s'
unfolding prices rule unless_ruled times return
prices_missed n s s' l l' e = go b.a b.first b.second
  where
    b : Halves rule (unless_ruled n) s s' l l' (by_list [])
    b = bind_inv rule (unless_ruled n) s s' l l' (by_list []) e

    go : (o : Option Rule) → rule s l ≡ good o b.mid b.at → unless_ruled n o b.mid b.at ≡ good (by_list []) s' l' → Missed (bytes "base=") s s'
    go (Some r) x y =
        let z : ◌≡◌ {A = ℕ} 0 1 = cc in
        absurd (omega (arith, z))
    go None x y =
        let m = told_missed (bytes "base=") 1 1000000 after_base s b.mid l b.at x in
        let d = bind_inv (times n quote) _ b.mid s' b.at l' (by_list []) y in
        let q : d.a ≡ [] = cc d.second in
        let w : d.mid ≡ s' = cc d.second in
        let none = chain_none {S = ℕ} (λ _. quote) (λ _ _. 0) n 0 b.mid d.mid b.at d.at (subst (λ (qs : List Quote). times n quote b.mid b.at ≡ good qs d.mid d.at) q d.first) in
        record { unsaid = m.unsaid; stays = m.stays ∙ none ∙ w }

-- a part
part_apart : (m n k : ℕ) (s s' : List ℕ) (l l' : ℕ) (p : PartText) → part m n k s l ≡ good p s' l' → BehindPart p s'
unfolding part after_left cover return
part_apart m n k s s' l l' p e =
    let b = bind_inv (row "life=" 1 1000) _ s s' l l' p e in
    let d = bind_inv (checked 5 (up_to b.a) (row "left=" 0 1000)) _ b.mid s' b.at l' p b.second in
    let g = bind_inv (cover m k) _ d.mid s' d.at l' p d.second in
    let f = bind_inv (prices n) _ g.mid s' g.at l' p g.second in
    let c : g.a ≡ p.cover = cc f.second in
    let x : f.a ≡ p.prices = cc f.second in
    let y : f.mid ≡ s' = cc f.second in
    let none = λ (h : p.prices ≡ by_list []). prices_missed n g.mid f.mid g.at f.at (subst (λ (q : Prices). prices n g.mid g.at ≡ good q f.mid f.at) (x ∙ h) f.first) in
    let uncovered = λ (h : p.cover ≡ None). told_missed (bytes "removal=") 0 1000000 (inside m k) d.mid g.mid d.at g.at (subst (λ (o : Option Cover). cover m k d.mid d.at ≡ good o g.mid g.at) (c ∙ h) g.first) in
    record {
      removal = λ h i. subst (λ (r : List ℕ). starts_with (bytes "removal=") r ≡ false) ((uncovered h).stays ∙ (none i).stays ∙ y) (uncovered h).unsaid;
      base = λ i. subst (λ (r : List ℕ). starts_with (bytes "base=") r ≡ false) ((none i).stays ∙ y) (none i).unsaid;
    }

-- the first of some parts, and then the others
parts_first : (m n j k : ℕ) (p : PartText) (qs : List PartText) (s s' : List ℕ) (l l' : ℕ) → chain (part m n) following j k s l ≡ good qs s' l' → BehindPart p s → BehindParts qs s' → BehindParts (p ∷ qs) s'
parts_first m n j k p [] s s' l l' e first others = subst (BehindPart p) (chain_none (part m n) following j k s s' l l' e) first
parts_first m n j k p (q ∷ qs) s s' l l' e first others = others

-- parts, one after the other
parts_apart : (m n j k : ℕ) (s s' : List ℕ) (l l' : ℕ) (ps : List PartText) → chain (part m n) following j k s l ≡ good ps s' l' → BehindParts ps s'
unfolding chain return
parts_apart m n zero k s s' l l' ps e = let x : [] ≡ ps = cc in subst (λ (qs : List PartText). BehindParts qs s') x tt
parts_apart m n (suc j) k s s' l l' ps e =
    let b = bind_inv (part m n k) _ s s' l l' ps e in
    let d = bind_inv (chain (part m n) following j (suc k)) _ b.mid s' b.at l' ps b.second in
    let x : (b.a ∷ d.a) ≡ ps = cc d.second in
    let y : d.mid ≡ s' = cc d.second in
    let first = part_apart m n k s b.mid l b.at b.a b.first in
    let others = parts_apart m n j (suc k) b.mid d.mid b.at d.at d.a d.first in
    subst (λ (qs : List PartText). BehindParts qs s') x (subst (BehindParts (b.a ∷ d.a)) y (parts_first m n j (suc k) b.a d.a b.mid d.mid b.at d.at d.first first others))

body_apart : (h n : ℕ) (is : Option (List ℕ)) (w : Option ℕ) (s s' : List ℕ) (l l' : ℕ) (t : JobText) → body h is w n s l ≡ good t s' l' → BehindParts t.parts s'
unfolding body parts return
body_apart h n is w s s' l l' t e =
    let b = bind_inv (openings h n) _ s s' l l' t e in
    let c = bind_inv (row "parts=" 1 16) _ b.mid s' b.at l' t b.second in
    let d = bind_inv (parts c.a n) _ c.mid s' c.at l' t c.second in
    let x : d.a ≡ t.parts = cc d.second in
    let y : d.mid ≡ s' = cc d.second in
    subst (λ (ps : List PartText). BehindParts ps s') x (subst (BehindParts d.a) y (parts_apart c.a n c.a 1 c.mid d.mid c.at d.at d.a d.first))

-- a job's lines
pub job_apart : (s s' : List ℕ) (l l' : ℕ) (t : JobText) → job_lines s l ≡ good t s' l' → BehindParts t.parts s'
unfolding job_lines rest
job_apart s s' l l' t e =
    let b = bind_inv (row "horizon=" 2 365) _ s s' l l' t e in
    let c = bind_inv (idles b.a) _ b.mid s' b.at l' t b.second in
    let d = bind_inv (optional "walk=" 0 4000000000) _ c.mid s' c.at l' t c.second in
    let f = bind_inv (row "openings=" 0 64) _ d.mid s' d.at l' t d.second in
    body_apart b.a f.a c.a d.a f.mid s' f.at l' t f.second
