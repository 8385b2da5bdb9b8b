-- E3.1. "No division or remainder on the way to a digit", of the code that runs: none of its operations divides or takes a remainder, and it calls no other functions than those named.
use Rattle.std.specs.Prelude.{Bool, true, false, ◌&&◌, List, T}
use mir.Syntax.{Op2, add, sub, mul, div, rem, bit_and, bit_or, bit_xor, shl, shr, eq, ne, lt, le, with_addr, offset, ptr_eq, ptr_ne, ptr_lt, ptr_le, float_add, float_sub, float_mul, float_div, float_rem, float_eq, float_ne, float_lt, float_le, wrap_add, wrap_sub, wrap_mul, map2, mask, shuffle, swizzle, fold, dot4}
use mir.Syntax.{Rv, rv_opd, op2, op1, addr_of, aggregate, repeat, repeat_p, select, Body, skip, seq, assign, block, loop, cond, switch, exit, return, call, call_v, unreachable, lend_static, Arms, arm, default, no_default, Fn, Symbol}
use prog.Calls.{calls_only, among}

-- an operation that neither divides nor takes a remainder
abbrev pub undividing : Op2 → Bool
undividing (add s) = true
undividing (sub s) = true
undividing (mul s) = true
undividing (div s) = false
undividing (rem s) = false
undividing bit_and = true
undividing bit_or = true
undividing bit_xor = true
undividing shl = true
undividing (shr s) = true
undividing eq = true
undividing ne = true
undividing (lt s) = true
undividing (le s) = true
undividing with_addr = true
undividing offset = true
undividing ptr_eq = true
undividing ptr_ne = true
undividing ptr_lt = true
undividing ptr_le = true
undividing float_add = true
undividing float_sub = true
undividing float_mul = true
undividing float_div = false
undividing float_rem = false
undividing float_eq = true
undividing float_ne = true
undividing float_lt = true
undividing float_le = true
undividing wrap_add = true
undividing wrap_sub = true
undividing wrap_mul = true
undividing (map2 o) = undividing o
undividing (mask o) = undividing o
undividing (shuffle ks) = true
undividing (swizzle k) = true
undividing (fold o) = undividing o
undividing dot4 = true

-- a value that is computed without one
abbrev pub computed : Rv → Bool
computed (rv_opd x) = true
computed (op2 o x y) = undividing o
computed (op1 o x) = true
computed (addr_of p) = true
computed (aggregate xs) = true
computed (repeat x n) = true
computed (repeat_p x n) = true
computed (select b x y) = true

-- code without one
abbrev mutual
  pub undivided : Body → Bool
  undivided skip = true
  undivided (seq a b) = undivided a && undivided b
  undivided (assign p v) = computed v
  undivided (block b) = undivided b
  undivided (loop b) = undivided b
  undivided (cond c a b) = undivided a && undivided b
  undivided (switch c arms) = undivided_arms arms
  undivided (exit n) = true
  undivided return = true
  undivided (call f xs d) = true
  undivided unreachable = true
  undivided (call_v a b c d) = true
  undivided (lend_static a b c) = true

  pub undivided_arms : Arms → Bool
  undivided_arms (arm ks b arms) = undivided b && undivided_arms arms
  undivided_arms (default b) = undivided b
  undivided_arms no_default = true

-- a function's code divides nowhere, and it calls only functions of these names
pub record Undivided (names : List Symbol) (f : Fn) : Type 0 where
  pub divides_nowhere : T (undivided f.body)
  pub calls : T (calls_only (among names) f.body)
