-- Accepted lines of removal are the rendering of what they say, and that is valid (`cover_tells`). By the grammar's lines, one after the other.
use Rattle.std.specs.Prelude.{Option, Some, None}
use Prim.Native.Nat.{ℕ, ◌≤◌}
use mathlib.Core.Path.{◌≡◌, refl, sym, ap, ◌∙◌, subst}
use mathlib.Core.List.{List, [], ◌∷◌, ◌++◌, append_assoc}
use mathlib.Core.Bool.{false≢true}
use lib.ListN.{length}
use borrow.Author.Tests.{eq-eqb}
use Rattle.lines.specs.Text.{bytes, line_of, texts, optional_text}
use Rattle.lines.specs.Parser.{good, return, row, optional, if_present, checked, rising}
use Rattle.lines.proofs.Sound.{bind_inv, Optionally, optional_inv, row_sound, checked_sound, chain_sound, row_gives, checked_gives, chain_gives, Told, Tells, Rises, rising_tells}
use Rattle.base.specs.Each.{Chained}
use Rattle.covers.specs.Grammar.{other, holder, holders, inside, cover}
use Rattle.covers.specs.Rendering.{cover_text}
use Rattle.jobs.specs.Valid.{ValidHolders}
use Rattle.covers.specs.Valid.{ValidLines}

-- a holder of part k of m, after the holder before
abbrev pub KnownHolder : ℕ → ℕ → ℕ → ℕ → Type 0
KnownHolder m k before h = Rises 16 m before h × (h ≡ k → ⊥)

-- the number that a holder hands on
abbrev pub itself : ℕ → ℕ → ℕ
itself before h = h

-- an accepted `holder` line has another part of the job, after the holder before, and is written for it
pub holder_tells : (m k before : ℕ) → Tells (holder m k before) (KnownHolder m k before) (line_of "holder=")
unfolding holder
holder_tells m k before s s' l l' h e =
    let p = checked 12 (rising before m) (row "holder=" 1 16) in
    let g = checked_gives 12 (other k) p (Rises 16 m before) (λ s s' l l' h e. (rising_tells 12 _ 16 m before s s' l l' h e).known) s s' l l' h e in
    record {
      known = (g.0, λ q. false≢true (simp (eq-eqb h k q) at g.1));
      text = checked_sound 12 (other k) p (line_of "holder=") (λ s s' l l' h e. (rising_tells 12 _ 16 m before s s' l l' h e).text) s s' l l' h e;
    }

chained_holds : (m k before : ℕ) (hs : List ℕ) → Chained (KnownHolder m k) itself before hs → ValidHolders m k before hs
chained_holds m k before [] c = tt
chained_holds m k before (h ∷ hs) c = (c.0.0.after, c.0.0.within, c.0.1, chained_holds m k h hs c.1)

-- the lines behind a removal of at most 1000000
inside_tells : (m k r : ℕ) → Tells (inside m k r) (λ c. (c.removal ≡ r) × (length c.holders ≤ 15) × ValidHolders m k 0 c.holders) (λ c. line_of "inside=" (length c.holders) ++ texts (line_of "holder=") c.holders)
unfolding inside holders return
inside_tells m k r s s' l l' c e =
    let b = bind_inv (row "inside=" 0 15) _ s s' l l' c e in
    let d = bind_inv (holders m k b.a) _ b.mid s' b.at l' c b.second in
    let x : record { removal = r; holders = d.a } ≡ c = cc d.second in
    let y : d.mid ≡ s' = cc d.second in
    let n = row_gives _ 0 15 s b.mid l b.at b.a b.first in
    let g = chain_gives (holder m k) itself (KnownHolder m k) (λ before s s' l l' h e. (holder_tells m k before s s' l l' h e).known) b.a 0 b.mid d.mid b.at d.at d.a d.first in
    let count : b.a ≡ length d.a = sym g.0 in
    subst (Told _ _ s s') x (record {
      known = (refl, subst (λ (i : ℕ). i ≤ 15) count n.1, chained_holds m k 0 d.a g.1);
      text = simp append_assoc
          (row_sound _ 0 15 s b.mid l b.at b.a b.first
          ∙ ap (λ (i : ℕ). line_of "inside=" i ++ b.mid) count
          ∙ ap (λ (t : List ℕ). line_of "inside=" (length d.a) ++ t)
          (chain_sound (holder m k) itself (line_of "holder=") (λ before s s' l l' h e. (holder_tells m k before s s' l l' h e).text) b.a 0 b.mid d.mid b.at d.at d.a d.first
          ∙ ap (λ (t : List ℕ). texts (line_of "holder=") d.a ++ t) y));
    })

-- what is accepted as lines of removal is valid, and its text is what was read
pub cover_tells : (m k : ℕ) → Tells (cover m k) (ValidLines m k) (optional_text cover_text)
unfolding cover if_present return cover_text
cover_tells m k s s' l l' o e =
    let b = bind_inv (optional "removal=" 0 1000000) _ s s' l l' o e in
    go b.a b.mid b.at (optional_inv _ 0 1000000 s b.mid l b.at b.a b.first) b.second
  where
    go : (r : Option ℕ) (mid : List ℕ) (at : ℕ) → Optionally (bytes "removal=") 0 1000000 s mid l at r → if_present (inside m k) r mid at ≡ good o s' l' → Told (ValidLines m k) (optional_text cover_text) s s' o
    go None mid at none e =
        let x : None ≡ o = cc in
        let y : mid ≡ s' = cc in
        subst (Told (ValidLines m k) (optional_text cover_text) s s') x (record { known = tt; text = none ∙ y })
    go (Some r) mid at some e =
        let d = bind_inv (inside m k r) _ mid s' at l' o e in
        let x : Some d.a ≡ o = cc d.second in
        let y : d.mid ≡ s' = cc d.second in
        let t = inside_tells m k r mid d.mid at d.at d.a d.first in
        let paid : r ≡ d.a.removal = sym t.known.0 in
        subst (Told (ValidLines m k) (optional_text cover_text) s s') x (record {
          known = record { removal = subst (λ (i : ℕ). i ≤ 1000000) paid (row_gives _ 0 1000000 s mid l at r some).1; few = t.known.1; holders = t.known.2 };
          text = simp append_assoc
              (row_sound _ 0 1000000 s mid l at r some
              ∙ ap (λ (i : ℕ). line_of "removal=" i ++ mid) paid
              ∙ ap (λ (u : List ℕ). line_of "removal=" d.a.removal ++ u) (t.text ∙ append_assoc (line_of "inside=" (length d.a.holders)) (texts (line_of "holder=") d.a.holders) d.mid ∙ ap (λ (u : List ℕ). line_of "inside=" (length d.a.holders) ++ (texts (line_of "holder=") d.a.holders ++ u)) y));
        })
