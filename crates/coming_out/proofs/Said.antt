-- What a job's part records say of holders and removals, by their places.
use Rattle.std.specs.List.{list_any}
use mathlib.Core.Path.{◌≡◌, refl, sym, ap, subst, ◌∙◌}
use mathlib.Core.Bool.{Bool, false, ◌||◌}
use mathlib.Core.List.{List, [], ◌∷◌, map}
use Prim.Native.Nat.{ℕ, suc, ◌<◌}
use native.Mathlib.Omega.{arith}
use lib.ListN.{length, get_or, length-map}
use lib.Dec.{ltb}
use lib.Seq.{ext_get_or}
use Rattle.model.specs.Model as model
use Rattle.model.specs.Model.{listed, table, holders_at, any_held, removal_of_lem}
use Rattle.model.specs.Verdict.{no_part}
use Rattle.model.proofs.Lists.{table-length, table_at}
use Rattle.base.specs.Chosen.{numbers_of_lem}
use Rattle.jobs.specs.declared.Part.{Part}
use Rattle.jobs.specs.declared.Job.{Job}
use Rattle.jobs.specs.Views.{blank_part_lem, part_of_lem, job_of}
use Rattle.base.proofs.Lists.{map_at}
use Rattle.jobs.proofs.Jobs.{part_count, part_at_lem}
use Rattle.coming_out.specs.Rows.{place, Row, Rows, HeldBy, Removals}
use Rattle.coming_out.proofs.Listed.{numbers_listed}

-- the marks of the holders of the part at place q, and its removal
abbrev pub marks_at : List Part → ℕ → List Bool
marks_at parts q = (get_or parts q blank_part_lem).holders

-- the removal of the part at place q, as its record has it
abbrev pub removal_at : List Part → ℕ → ℕ
removal_at parts q = (get_or parts q blank_part_lem).removal

-- a part has a holder exactly if its record has a mark
pub any_holder : (n : ℕ) (ps : List Part) → list_any (λ (p : Part). ltb 0 (length (numbers_of_lem p.holders))) ps ≡ any_held (map (part_of_lem n) ps)
unfolding any_held
any_holder n [] = refl
any_holder n (p ∷ ps) = ap (λ (b : Bool). ltb 0 (length (numbers_of_lem p.holders)) || b) (any_holder n ps)

module _ (job : Job) where
  -- seen through g
  seen : {B : Type 0} (g : model.Part → B) (e : B) (q : ℕ) → q < job.part_count → get_or (map g (job_of job).parts) q e ≡ g (get_or (job_of job).parts q no_part)
  seen g e q h = map_at g (job_of job).parts q no_part e (omega (arith, h, part_count job))

  -- a matrix filled with the records' marks says who holds whom in the job
  pub held_by : (matrix : List Bool) → Rows job.part_count (marks_at job.parts) matrix → HeldBy (job_of job) job.part_count matrix
  held_by matrix rows = record { count = part_count job; at = at }
    where
      at : (q j : ℕ) → q < job.part_count → j < job.part_count → get_or matrix (place q j) false ≡ listed (holders_at (job_of job) q) (suc j)
      at q j h l =
          rows.at q j h (omega (arith, l, job.few_parts))
          ∙ sym (numbers_listed (marks_at job.parts q) j)
          ∙ ap (λ (hs : List ℕ). listed hs (suc j)) (sym (seen (λ (part : model.Part). part.holders) [] q h ∙ ap (λ (part : model.Part). part.holders) (part_at_lem job q h)))

  -- a row filled with the records' removals holds the removals of the job's parts
  pub removals_by : (removals : List ℕ) → Row 0 (table (removal_at job.parts) job.part_count) removals → Removals (job_of job) removals
  removals_by removals r = subst (λ (xs : List ℕ). Row 0 xs removals) same r
    where
      counted : length (table (removal_at job.parts) job.part_count) ≡ job.part_count
      counted = table-length (removal_at job.parts) job.part_count

      same : table (removal_at job.parts) job.part_count ≡ map removal_of_lem (job_of job).parts
      same = ext_get_or 0 (table (removal_at job.parts) job.part_count) (map removal_of_lem (job_of job).parts) (counted ∙ sym (length-map (job_of job).parts removal_of_lem ∙ part_count job))
          (λ q h. let l : q < job.part_count = omega (arith, h, counted) in
          table_at (removal_at job.parts) job.part_count q 0 l ∙ sym (seen removal_of_lem 0 q l ∙ ap removal_of_lem (part_at_lem job q l)))
