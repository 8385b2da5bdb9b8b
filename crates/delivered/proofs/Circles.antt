-- Parts in a circle of holders come out together: each is reached from the other, so the same parts are reached from both.
use Prim.Native.Nat.{ℕ, ◌<◌}
use mathlib.Core.Path.{◌≡◌, sym, ◌∙◌}
use mathlib.Core.Bool.{true, false}
use native.Mathlib.Omega.{arith}
use lib.ListN.{length, get_or}
use lib.Seq.{ext_get_or}
use Rattle.model.specs.Model.{Job, comes_out, Chain, itself, by_holder}
use Rattle.base.proofs.Bools.{same_test}
use Rattle.model.proofs.Closure.{out_length, chained}

module _ (job : Job) where
  -- one chain behind another
  chain_then : {i j k : ℕ} → Chain job i j → Chain job j k → Chain job i k
  chain_then itself d = d
  chain_then (by_holder h c) d = by_holder h (chain_then c d)

  module _ (i j : ℕ) (i_in : i < length job.parts) (j-in : j < length job.parts) where
    -- what comes out with the one comes out with the other
    with_other : Chain job j i → (k : ℕ) → k < length job.parts → get_or (comes_out job i) k false ≡ true → get_or (comes_out job j) k false ≡ true
    with_other c k k-in e = (chained job j k j-in k-in).1 (chain_then c ((chained job i k i_in k-in).0 e))

  -- E7.9. "Holders may run in a circle; they then come out together."
  pub together : (i j : ℕ) → i < length job.parts → j < length job.parts → Chain job i j → Chain job j i → comes_out job i ≡ comes_out job j
  together i j i_in j-in to back =
      ext_get_or false (comes_out job i) (comes_out job j) (out_length job i ∙ sym (out_length job j))
      (λ k l. let k-in : k < length job.parts = omega (arith, l, out_length job i) in same_test _ _ (with_other i j i_in j-in back k k-in) (with_other j i j-in i_in to k k-in))
