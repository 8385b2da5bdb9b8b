-- `product`: two numbers of 32 bits have a product of 64.
use Rattle.std.proofs.Common.{mul-le-mul, arith}
use Rattle.ascent_lanes.proofs.product.Goals as goal

pub overflow_mul-result : goal.overflow_mul-result
overflow_mul-result c = omega (arith, mul-le-mul {n₁ = c.from.result} {m₁ = c.from-2.result} {n₂ = 4294967295} {m₂ = 4294967295} (omega arith) (omega arith))
