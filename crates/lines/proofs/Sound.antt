-- What a parser accepts is what is written for its value (`Sound`), and what is known of that value (`Gives`). By the parsers' forms: row, optional, checked, bind, chain, whole text.
use Rattle.std.specs.Prelude.{Option, Some, None}
use Prim.Native.Nat.{ℕ, zero, suc, ◌+◌, ◌≤◌, ◌<◌}
use mathlib.Core.Path.{◌≡◌, refl, sym, ap, ◌∙◌, subst}
use mathlib.Core.List.{List, [], ◌∷◌, ◌++◌, append_assoc}
use mathlib.Core.Bool.{Bool, true, false, ◌&&◌, and-eq-true_iff}
use native.Mathlib.Omega.{arith}
use lib.Dec.{leb, ltb}
use lib.ListN.{length, drop}
use Rattle.lines.specs.Line.{starts_with, read_line_lem}
use Rattle.lines.specs.Parser.{Parsed, good, fault, Parser, ◌>>=◌, return, in_range, read_field_lem, taken, row_at, optional_at, checked, chain, rising, end as ends, accepted, finish, whole, read_text}
use Rattle.lines.specs.Text.{line, texts}
use borrow.Author.Tests.{leb-true, ltb-true}
use Rattle.base.specs.Each.{Chained}
use Rattle.lines.proofs.Parsing.{bind_good, bind_fault, InRow, row_in, optional_there, optional_missing}
use Rattle.lines.proofs.Outcomes.{not_both}
use Rattle.lines.proofs.Written.{Stands, line_written}

-- what the parser accepts is the value's text, and what it leaves
abbrev pub Sound : {A : Type 0} → Parser A → (A → List ℕ) → Type 0
Sound {A} p w = (s s' : List ℕ) (l l' : ℕ) (a : A) → p s l ≡ good a s' l' → s ≡ w a ++ s'

-- a fault is not a value, so anything follows from their being the same
pub never : {A : Type 0} {X : Type 0} {n m l : ℕ} {a : A} {s : List ℕ} → ◌≡◌ {A = Parsed A} (fault n m) (good a s l) → X
never e = let z : ◌≡◌ {A = ℕ} 0 1 = cc in absurd (omega arith)

-- the two halves of a bind that succeeds
pub record Halves {A B : Type 0} (p : Parser A) (f : A → Parser B) (s s' : List ℕ) (l l' : ℕ) (b : B) : Type 0 where
  pub a : A
  -- the bytes that the first parser leaves for the second
  pub mid : List ℕ
  -- the number of the line at which the second parser begins
  pub at : ℕ
  -- the first parser gives the value a and leaves those bytes
  pub first : p s l ≡ good a mid at
  -- the parser that follows, given a, reads on from there and gives the whole's value
  pub second : f a mid at ≡ good b s' l'

-- two parsers that succeed together have each succeeded, one behind the other
pub bind_inv : {A B : Type 0} (p : Parser A) (f : A → Parser B) (s s' : List ℕ) (l l' : ℕ) (b : B) → (p >>= f) s l ≡ good b s' l' → Halves p f s s' l l' b
bind_inv {A} p f s s' l l' b h = go (p s l) refl
  where
    go : (x : Parsed A) → p s l ≡ x → Halves p f s s' l l' b
    go (good a t m) e = record { a = a; mid = t; at = m; first = e; second = sym (bind_good p f e) ∙ h }
    go (fault n m) e = never (sym (bind_fault p f e) ∙ h)

-- what a row accepts is the line that is written for its value
pub row_sound : (key : List ℕ) (lo hi : ℕ) → Sound (row_at key lo hi) (line key)
unfolding row_at read_field_lem taken in_range
row_sound key lo hi s s' l l' a h = go (read_line_lem key s) (line_written key s) h
  where
    go : (x : Option (ℕ × ℕ)) → Stands key s x → taken s l (in_range lo hi x) ≡ good a s' l' → s ≡ line key a ++ s'
    go (Some (v, n)) w q = pick (leb lo v && leb v hi) refl
      where
        pick : (t : Bool) → (leb lo v && leb v hi) ≡ t → s ≡ line key a ++ s'
        pick true e =
            let g : good v (drop n s) (l + 1) ≡ good a s' l' = rw (in_range, e) at q in
            let x : v ≡ a = cc in
            let y : drop n s ≡ s' = cc in
            w ∙ cc
        pick false e = never (rw (in_range, e) at q)
    go None w q = never q

-- a line that may be missing: it is, or its row was read
abbrev pub Optionally : List ℕ → ℕ → ℕ → List ℕ → List ℕ → ℕ → ℕ → Option ℕ → Type 0
Optionally key lo hi s s' l l' None = s ≡ s'
Optionally key lo hi s s' l l' (Some v) = row_at key lo hi s l ≡ good v s' l'

-- an optional line that was read is missing, with nothing read, or was read as a row
pub optional_inv : (key : List ℕ) (lo hi : ℕ) (s s' : List ℕ) (l l' : ℕ) (o : Option ℕ) → optional_at key lo hi s l ≡ good o s' l' → Optionally key lo hi s s' l l' o
unfolding return
optional_inv key lo hi s s' l l' o h = go (starts_with key s) refl
  where
    go : (t : Bool) → starts_with key s ≡ t → Optionally key lo hi s s' l l' o
    go true e =
        let b = bind_inv (row_at key lo hi) _ s s' l l' o (sym (optional_there key lo hi s l e) ∙ h) in
        let x : Some b.a ≡ o = cc b.second in
        let y : good b.a b.mid b.at ≡ good b.a s' l' = cc b.second in
        subst (Optionally key lo hi s s' l l') x (b.first ∙ y)
    go false e =
        let g : good None s l ≡ good o s' l' = sym (optional_missing key lo hi s l e) ∙ h in
        let x : None ≡ o = cc in
        let y : s ≡ s' = cc in
        subst (Optionally key lo hi s s' l l') x y

-- a further rule accepts only texts that are written for their values, if the parser does
pub checked_sound : {A : Type 0} (k : ℕ) (ok : A → Bool) (p : Parser A) (w : A → List ℕ) → Sound p w → Sound (checked k ok p) w
unfolding checked
checked_sound {A} k ok p w so s s' l l' a h = go (p s l) refl
  where
    go : (x : Parsed A) → p s l ≡ x → s ≡ w a ++ s'
    go (good v t m) e = pick (ok v) refl
      where
        pick : (b : Bool) → ok v ≡ b → s ≡ w a ++ s'
        pick true y =
            let g : good v t m ≡ good a s' l' = rw (checked, e, y) at h in
            so s s' l l' a (e ∙ g)
        pick false y = never (rw (checked, e, y) at h)
    go (fault n m) e = never (rw (checked, e) at h)

-- a chain: each of its values in turn, as many as it says
pub chain_sound : {A S : Type 0} (p : S → Parser A) (next : S → A → S) (w : A → List ℕ) → ((prev : S) → Sound (p prev) w) → (n : ℕ) (prev : S) → Sound (chain p next n prev) (texts w)
unfolding chain return
chain_sound p next w so zero prev s s' l l' xs h =
    let x : [] ≡ xs = cc in
    let y : s ≡ s' = cc in
    y ∙ ap (λ (zs : List _). texts w zs ++ s') x
chain_sound p next w so (suc n) prev s s' l l' xs h =
    let b = bind_inv (p prev) _ s s' l l' xs h in
    let d = bind_inv (chain p next n (next prev b.a)) _ b.mid s' b.at l' xs b.second in
    let x : (b.a ∷ d.a) ≡ xs = cc d.second in
    let y : d.mid ≡ s' = cc d.second in
    so prev s b.mid l b.at b.a b.first
    ∙ ap (λ (r : List ℕ). w b.a ++ r) (chain_sound p next w so n (next prev b.a) b.mid d.mid b.at d.at d.a d.first ∙ ap (λ (r : List ℕ). texts w d.a ++ r) y)
    ∙ sym (append_assoc (w b.a) (texts w d.a) s')
    ∙ ap (λ (zs : List _). texts w zs ++ s') x

-- ---- what is known of an accepted value

-- each value that the parser accepts has the property
abbrev pub Gives : {A : Type 0} → Parser A → (A → Type 0) → Type 0
Gives {A} p P = (s s' : List ℕ) (l l' : ℕ) (a : A) → p s l ≡ good a s' l' → P a

-- an accepted row's value lies from lo to hi
pub row_gives : (key : List ℕ) (lo hi : ℕ) → Gives (row_at key lo hi) (λ v. (lo ≤ v) × (v ≤ hi))
row_gives key lo hi s s' l l' a e = subst (InRow lo hi) e (row_in key lo hi s l)

-- a value accepted with a further rule has what it had before, and passes the rule
pub checked_gives : {A : Type 0} (k : ℕ) (ok : A → Bool) (p : Parser A) (P : A → Type 0) → Gives p P → Gives (checked k ok p) (λ v. P v × (ok v ≡ true))
unfolding checked
checked_gives {A} k ok p P gives s s' l l' a h = go (p s l) refl
  where
    go : (x : Parsed A) → p s l ≡ x → P a × (ok a ≡ true)
    go (good v t m) e = pick (ok v) refl
      where
        pick : (b : Bool) → ok v ≡ b → P a × (ok a ≡ true)
        pick true y =
            let g : good v t m ≡ good a s' l' = rw (checked, e, y) at h in
            let x : v ≡ a = cc in
            (gives s s' l l' a (e ∙ g), sym (ap ok x) ∙ y)
        pick false y = never (rw (checked, e, y) at h)
    go (fault n m) e = never (rw (checked, e) at h)

-- a chain gives n values, each with what is known of it after the one before
pub chain_gives : {A S : Type 0} (p : S → Parser A) (next : S → A → S) (P : S → A → Type 0) → ((prev : S) → Gives (p prev) (P prev)) → (n : ℕ) (prev : S)
    → Gives (chain p next n prev) (λ xs. (length xs ≡ n) × Chained P next prev xs)
unfolding chain return
chain_gives {A} p next P gives zero prev s s' l l' xs h =
    let x : [] ≡ xs = cc in
    subst (λ (ys : List A). (length ys ≡ 0) × Chained P next prev ys) x (refl, tt)
chain_gives {A} p next P gives (suc n) prev s s' l l' xs h =
    let b = bind_inv (p prev) _ s s' l l' xs h in
    let d = bind_inv (chain p next n (next prev b.a)) _ b.mid s' b.at l' xs b.second in
    let x : (b.a ∷ d.a) ≡ xs = cc d.second in
    let r = chain_gives p next P gives n (next prev b.a) b.mid d.mid b.at d.at d.a d.first in
    subst (λ (ys : List A). (length ys ≡ suc n) × Chained P next prev ys) x (ap suc r.0, (gives prev s b.mid l b.at b.a b.first, r.1))

-- what a parser gives: a value that is known, and the text is what is written for it
pub record Told {A : Type 0} (P : A → Type 0) (w : A → List ℕ) (s s' : List ℕ) (a : A) : Type 0 where
  pub known : P a
  pub text : s ≡ w a ++ s'

-- an accepted value is known to have P, and the text is what is written for it
abbrev pub Tells : {A : Type 0} → Parser A → (A → Type 0) → (A → List ℕ) → Type 0
Tells {A} p P w = (s s' : List ℕ) (l l' : ℕ) (a : A) → p s l ≡ good a s' l' → Told P w s s' a

-- a number from 1 to hi, after the one before and within a bound
pub record Rises (hi most before v : ℕ) : Type 0 where
  -- the number is at least 1, as the line's range has it
  pub low : 1 ≤ v
  -- the number is at most hi, as the line's range has it
  pub high : v ≤ hi
  -- the number comes after the one before it
  pub after : before < v
  -- the number is at most `most`, the bound of the rule
  pub within : v ≤ most

-- an accepted line that must rise has a number in range that does, and is written for it
pub rising_tells : (n : ℕ) (key : List ℕ) (hi most before : ℕ) → Tells (checked n (rising before most) (row_at key 1 hi)) (Rises hi most before) (line key)
rising_tells n key hi most before s s' l l' v e =
    let k = checked_gives n (rising before most) (row_at key 1 hi) _ (row_gives key 1 hi) s s' l l' v e in
    let r = (and-eq-true_iff (ltb before v) (leb v most)).0 k.1 in
    record {
      known = record { low = k.0.0; high = k.0.1; after = ltb-true before v r.0; within = leb-true v most r.1 };
      text = checked_sound n (rising before most) (row_at key 1 hi) (line key) (row_sound key 1 hi) s s' l l' v e;
    }

-- ---- a whole text

-- a text that is read whole, as this value
pub record Accepted {A : Type 0} (most : ℕ) (p : Parser A) (s : List ℕ) (a : A) : Type 0 where
  -- the text has at most as many bytes as are allowed
  pub few : length s ≤ most
  -- the number of the line after the text's last one
  pub last : ℕ
  -- from line 1 on the parser gives the value and leaves no bytes
  pub lines : p s 1 ≡ good a [] last

end_inv : (s s' : List ℕ) (l l' : ℕ) (u : Unit {0}) → ends s l ≡ good u s' l' → s ≡ []
unfolding ends
end_inv [] s' l l' u h = refl
end_inv (b ∷ s) s' l l' u h = never h

-- an accepted text is not too long, and its lines give the value with nothing left behind
pub accepted_is : {A : Type 0} (most : ℕ) (p : Parser A) (s : List ℕ) (a : A) → read_text most p s ≡ accepted a → Accepted most p s a
unfolding read_text whole return
accepted_is {A} most p s a h = go (leb (length s) most) refl
  where
    done : length s ≤ most → (x : Parsed A) → whole p s 1 ≡ x → finish x ≡ accepted a → Accepted most p s a
    done few (good b t m) e f =
        let x = bind_inv p _ s t 1 m b e in
        let y = bind_inv ends _ x.mid t x.at m b x.second in
        let same : x.a ≡ a = (let u : x.a ≡ b = cc y.second in let v : b ≡ a = cc in u ∙ v) in
        let none = end_inv x.mid y.mid x.at y.at y.a y.first in
        record { few = few; last = x.at; lines = x.first ∙ cc }
    done few (fault n m) e f = not_both f refl

    go : (t : Bool) → leb (length s) most ≡ t → Accepted most p s a
    go true e = done (leb-true _ _ e) (whole p s 1) refl (rw (read_text, e) at h)
    go false e = not_both {n = 1} {l = 0} h (rw (read_text, e))
