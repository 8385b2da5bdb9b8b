-- `put_top` writes the row and its mark, and forgets what was known of it.
use Prim.Native.Nat.{ℕ}
use mathlib.Core.Path.{◌≡◌, refl}
use native.Mathlib.Omega.{arith}
use lib.ListN.{length, set, get_or}
use Rattle.lane_rows.specs.Layout.{lane_count_lem, mark_place, stack_size}
use Rattle.lane_rows.proofs.Putting.{put_mark_lem, put_past}
use Rattle.lane_rows.proofs.Memory.{put_forgets, memo_put}
use Rattle.share_rows.proofs.put_top.Goals as goal

pub returns : goal.returns
returns c = let a = c.args in
    let p = c.requires in
    let d = c.store_row in
    let g = c.forget in
    let f : ℕ → ℕ = λ q. get_or a.acc.now q 0 in
    let w = d.new.w in
    let u = set w (mark_place a.n) a.at in
    let size : length a.w.now ≡ stack_size = omega arith in
    let put = put_mark_lem f a.w.now a.n lane_count_lem w f a.at p.0 size (omega arith) (λ q l. refl) d.ensures in
    let past = put_past f a.w.now a.n lane_count_lem w a.at p.0 (omega arith) d.ensures in record { put = put_forgets lane_count_lem f a.w.now u g.new.w a.n a.at put past g.ensures p.0 p.2 (omega arith); memo = λ t e. memo_put lane_count_lem f a.w.now u g.new.w a.n a.at put past g.ensures p.0 p.2 (omega arith) t (omega (arith, e)) p.1 }
