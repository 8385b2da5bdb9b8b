-- Changes at all openings, opening by opening: what the openings from k on keep, where those before it came in time, is what all keep. By one unfolding of `kept`.
use Prim.Native.Nat.{ℕ, zero, suc, ◌+◌, ◌<◌}
use Rattle.std.specs.List.{list_all, range_with_len}
use mathlib.Core.Path.{◌≡◌, refl, sym, ap, ◌∙◌}
use mathlib.Core.Bool.{Bool, true, false, ◌&&◌}
use mathlib.Core.List.{List}
use native.Mathlib.Omega.{arith}
use native.Mathlib.Numerals.{add-one}
use lib.ListN.{length, get_or, drop, drop_of_length-le, get_or-eq_default}
use lib.Seq.{drop-cons}
use lib.IntN.{ℤ, pos}
use Rattle.model.specs.Model.{within, kept}
use Rattle.model.specs.LastYes.{mark_in}
use Rattle.longest_walk.specs.Count.{in_time_lem}
use Rattle.base.proofs.Bools.{there}

module _ (life end prev : ℤ) (ss : List ℤ) where
  -- the openings from k on
  abbrev from : ℕ → Bool
  from k = kept life end (mark_in prev ss k) (drop k ss)

  from_step : (k : ℕ) → k < length ss → from k ≡ (in_time_lem life end prev ss k k && from (k + 1))
  unfolding kept
  from_step k h =
      rw (add-one k)
      (ap (kept life end (mark_in prev ss k)) (drop-cons ss k (pos 0) h)
      ∙ ap (λ (s : ℤ). within life (mark_in prev ss k) s && kept life end (get_or ss k (pos 0)) (drop (suc k) ss)) (there ss k (pos 0) end h))

  -- behind the last opening the part is kept exactly if the end comes in time
  at_end : in_time_lem life end prev ss (length ss) (length ss) ≡ from (length ss)
  unfolding kept
  at_end = let n = length ss in
      ap (within life (mark_in prev ss n)) (get_or-eq_default ss end {n = n} (omega arith))
      ∙ sym (ap (kept life end (mark_in prev ss n)) (drop_of_length-le ss {i = n} (omega arith)))

  -- the openings from k on, m of them, and the end come in time exactly if changes at all of them keep the part
  keeps_from : (m k : ℕ) → k + m ≡ length ss → (list_all (λ (j : ℕ). in_time_lem life end prev ss j j) (range_with_len k m) && in_time_lem life end prev ss (length ss) (length ss)) ≡ from k
  keeps_from zero k e = let z : length ss ≡ k = omega arith in at_end ∙ ap from z
  keeps_from (suc m) k e = go (in_time_lem life end prev ss k k) (keeps_from m (k + 1) (omega arith)) ∙ sym (from_step k (omega arith))
    where
      go : (t : Bool) → (list_all (λ (j : ℕ). in_time_lem life end prev ss j j) (range_with_len (k + 1) m) && in_time_lem life end prev ss (length ss) (length ss)) ≡ from (k + 1)
          → ((t && list_all (λ (j : ℕ). in_time_lem life end prev ss j j) (range_with_len (k + 1) m)) && in_time_lem life end prev ss (length ss) (length ss)) ≡ (t && from (k + 1))
      go true h = h
      go false h = refl

  -- changes at all openings keep the part exactly if each of them, and the end, comes in time
  pub keeps_range : (list_all (λ (j : ℕ). in_time_lem life end prev ss j j) (range_with_len 0 (length ss)) && in_time_lem life end prev ss (length ss) (length ss)) ≡ kept life end prev ss
  keeps_range = let z : 0 + length ss ≡ length ss = omega arith in keeps_from (length ss) 0 z
