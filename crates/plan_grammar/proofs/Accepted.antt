-- An accepted plan text states what valid visits make (`valid`), and unless it is empty it is the rendering of those visits (`text_tells`). By the grammar's lines, one after the other.
use Prim.Native.Nat.{ℕ, ◌≤◌}
use mathlib.Core.Path.{◌≡◌, refl, sym, ap, ◌∙◌, subst}
use mathlib.Core.List.{List, [], ◌∷◌, ◌++◌, append_assoc}
use mathlib.Core.Logic.{◌⊎◌, inl, inr, ⊎_elim}
use native.Mathlib.Omega.{arith}
use lib.ListN.{length}
use Rattle.lines.specs.Text.{line_of, texts}
use Rattle.lines.specs.Parser.{good, accepted, return, row, checked, rising}
use Rattle.lines.proofs.Outcomes.{one_value}
use Rattle.lines.proofs.Sound.{Told, Tells, Sound, bind_inv, row_sound, checked_sound, chain_sound, row_gives, chain_gives, accepted_is}
use Rattle.model.specs.Model.{Job}
use Rattle.plan_grammar.specs.Grammar.{Stated, may_stop, part, parts, visit, visits, plan_of, plan_lines, max_bytes, nothing, read_plan_lem}
use Rattle.plan_grammar.specs.Rendering.{visit_text, plan_text_lem}
use Rattle.plan_grammar.proofs.Valid.{ValidPart, ValidVisit, no_visits, Valid, step_of, part_gives, stop_gives}

part_sound : (m before : ℕ) → Sound (part m before) (line_of "part=")
unfolding part
part_sound m before = checked_sound 9 (rising before m) (row "part=" 1 16) (line_of "part=") (row_sound _ 1 16)

visit_tells : (job : Job) (before : ℕ) → Tells (visit job before) (ValidVisit job before) visit_text
unfolding visit parts return visit_text
visit_tells job before s s' l l' v e =
    let m = length job.parts in
    let stop = checked 9 (may_stop job before) (row "stop=" 1 365) in
    let b = bind_inv stop _ s s' l l' v e in
    let d = bind_inv (row "count=" 0 16) _ b.mid s' b.at l' v b.second in
    let f = bind_inv (parts m d.a) _ d.mid s' d.at l' v d.second in
    let x : record { step = b.a; parts = f.a } ≡ v = cc f.second in
    let y : f.mid ≡ s' = cc f.second in
    let k₁ = stop_gives job before s b.mid l b.at b.a b.first in
    let k₂ = row_gives _ 0 16 b.mid d.mid b.at d.at d.a d.first in
    let k₃ = chain_gives (part m) (λ _ k. k) (ValidPart m) (part_gives m) d.a 0 d.mid f.mid d.at f.at f.a f.first in
    let count : d.a ≡ length f.a = sym k₃.0 in
    subst (Told (ValidVisit job before) visit_text s s') x (record {
      known = record { later = k₁.1; high = k₁.0; opening = k₁.2; few = subst (λ (n : ℕ). n ≤ 16) count k₂.1; parts = k₃.1 };
      text = simp append_assoc
          (checked_sound 9 (may_stop job before) (row "stop=" 1 365) (line_of "stop=") (row_sound _ 1 365) s b.mid l b.at b.a b.first
          ∙ ap (λ (r : List ℕ). line_of "stop=" b.a ++ r)
          (row_sound _ 0 16 b.mid d.mid b.at d.at d.a d.first
          ∙ ap (λ (n : ℕ). line_of "count=" n ++ d.mid) count
          ∙ ap (λ (r : List ℕ). line_of "count=" (length f.a) ++ r)
          (chain_sound (part m) (λ _ k. k) (line_of "part=") (part_sound m) d.a 0 d.mid f.mid d.at f.at f.a f.first
          ∙ ap (λ (r : List ℕ). texts (line_of "part=") f.a ++ r) y)));
    })

-- lines that were read: what they state is valid, and they are the text of its visits
pub record Lines (job : Job) (s s' : List ℕ) (stated : Stated) : Type 0 where
  pub valid : Valid job stated
  pub text : s ≡ plan_text_lem stated.cost valid.vs ++ s'

-- plan lines that were read state what valid visits make, and are the text of these
pub lines_tell : (job : Job) (s s' : List ℕ) (l l' : ℕ) (stated : Stated) → plan_lines job s l ≡ good stated s' l' → Lines job s s' stated
unfolding plan_lines visits return plan_text_lem
lines_tell job s s' l l' stated e =
    let b = bind_inv (row "cost=" 0 4000000000) _ s s' l l' stated e in
    let d = bind_inv (row "stops=" 0 64) _ b.mid s' b.at l' stated b.second in
    let f = bind_inv (visits job d.a) _ d.mid s' d.at l' stated d.second in
    let x : record { cost = b.a; plan = plan_of job f.a } ≡ stated = cc f.second in
    let y : f.mid ≡ s' = cc f.second in
    let k₁ = row_gives _ 0 4000000000 s b.mid l b.at b.a b.first in
    let k₂ = row_gives _ 0 64 b.mid d.mid b.at d.at d.a d.first in
    let k₃ = chain_gives (visit job) (λ _. step_of) (ValidVisit job) (λ before s s' l l' v e. (visit_tells job before s s' l l' v e).known) d.a 0 d.mid f.mid d.at f.at f.a f.first in
    let count : d.a ≡ length f.a = sym k₃.0 in
    subst (Lines job s s') x (record {
      valid = record { cost = k₁.1; vs = f.a; visits = record { few = subst (λ (n : ℕ). n ≤ 64) count k₂.1; each = k₃.1 }; makes = refl };
      text = simp append_assoc
          (row_sound _ 0 4000000000 s b.mid l b.at b.a b.first
          ∙ ap (λ (r : List ℕ). line_of "cost=" b.a ++ r)
          (row_sound _ 0 64 b.mid d.mid b.at d.at d.a d.first
          ∙ ap (λ (n : ℕ). line_of "stops=" n ++ d.mid) count
          ∙ ap (λ (r : List ℕ). line_of "stops=" (length f.a) ++ r)
          (chain_sound (visit job) (λ _. step_of) visit_text (λ before s s' l l' v e. (visit_tells job before s s' l l' v e).text) d.a 0 d.mid f.mid d.at f.at f.a f.first
          ∙ ap (λ (r : List ℕ). texts visit_text f.a ++ r) y)));
    })

-- ---- the text

-- the empty text states doing nothing; of every other the lines were read
pub text_tells : (job : Job) (s : List ℕ) (stated : Stated) → read_plan_lem job s ≡ accepted stated → ((s ≡ []) × (nothing job ≡ stated)) ⊎ Lines job s [] stated
unfolding read_plan_lem
text_tells job [] stated e = inl (refl, one_value e refl)
text_tells job (b ∷ s) stated e = let a = accepted_is max_bytes (plan_lines job) (b ∷ s) stated e in inr (lines_tell job (b ∷ s) [] 1 a.last stated a.lines)

nothing_valid : (job : Job) → Valid job (nothing job)
nothing_valid job = record { cost = omega arith; vs = []; visits = no_visits job; makes = refl }

-- what an accepted plan text says is valid
pub valid : (job : Job) (s : List ℕ) (stated : Stated) → read_plan_lem job s ≡ accepted stated → Valid job stated
valid job s stated e = ⊎_elim (λ n. subst (Valid job) n.1 (nothing_valid job)) (λ r. r.valid) (text_tells job s stated e)
