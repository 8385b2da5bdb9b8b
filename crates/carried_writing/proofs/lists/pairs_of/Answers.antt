-- `pairs_of`: the marks and low ends of the first prices.
use Rattle.std.specs.Prelude.{Option, None}
use Rattle.std.proofs.lemmas.List.{map-append}
use Prim.Native.Nat.{ℕ, ◌+◌, ◌<◌}
use mathlib.Core.Path.{◌≡◌, sym, ap, ◌∙◌}
use mathlib.Core.List.{List, [], ◌∷◌, ◌++◌, map}
use native.Mathlib.Omega.{arith}
use native.Mathlib.Numerals.{add-one}
use lib.ListN.{length, get_or, take, length-map}
use lib.Seq.{length-take-le, take-suc, take_all}
use Rattle.lines.specs.Text.{texts}
use Rattle.lines.proofs.Texts.{texts_more}
use Rattle.carried_writing.specs.Lists.{pair_mark, low_in}
use Rattle.carried_writing.proofs.Quoted.{ends_few}
use Rattle.carried_writing.proofs.lists.pairs_of.Goals as goal

marks_more : (ls : List (Option ℕ)) (i : ℕ) → i < length ls → map pair_mark (take (i + 1) ls) ≡ map pair_mark (take i ls) ++ pair_mark (get_or ls i None) ∷ []
marks_more ls i h = ap (λ (k : ℕ). map pair_mark (take k ls)) (add-one i) ∙ ap (map pair_mark) (take-suc ls i None h) ∙ map-append pair_mark (take i ls) (get_or ls i None ∷ [])

pub push-requires : goal.push-requires
push-requires c = let l = c.loop-low in
    let ls = take l.low-index c.args.lows.now in
    let size = length-take-le l.low-index c.args.lows.now (omega arith) in (
      omega (arith, ap length l.invariant.0, length-map ls pair_mark, size, c.requires),
      omega (arith, ap length l.invariant.1, ends_few ls, size, c.requires),
    )

pub loop-low-preserved : goal.loop-low-preserved
loop-low-preserved c = let l = c.loop-low in
    let ls = c.args.lows.now in
    let low = get_or ls l.low-index None in (
      c.push.ensures.marks ∙ ap (λ (xs : List ℕ). xs ++ pair_mark low ∷ []) l.invariant.0 ∙ sym (marks_more ls l.low-index (omega arith)),
      c.push.ensures.ends ∙ ap (λ (xs : List ℕ). xs ++ low_in low) l.invariant.1 ∙ sym (texts_more low_in ls l.low-index None (omega arith)),
    )

pub returns : goal.returns
returns c = let l = c.loop-low in
    let all = take_all l.low-index c.args.lows.now (omega arith) in
    record { marks = l.invariant.0 ∙ ap (map pair_mark) all; ends = l.invariant.1 ∙ ap (texts low_in) all }
