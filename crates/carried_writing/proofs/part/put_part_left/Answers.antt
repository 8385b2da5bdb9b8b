-- `put_part_left`: the part's lines with its prices at the openings left, of which nothing is cut.
use Rattle.std.specs.Prelude.{Option}
use Prim.Native.Nat.{ℕ, ◌-◌}
use mathlib.Core.Path.{◌≡◌, sym, ap, ◌∙◌}
use mathlib.Core.List.{List, map}
use native.Mathlib.Omega.{arith}
use lib.ListN.{length, get_or, take, drop}
use Rattle.lines.specs.Text.{texts}
use Rattle.base.specs.Chosen.{numbers_of_lem}
use Rattle.line_writing.proofs.Putting.{same, room_same}
use Rattle.covers.specs.Views.{cover_there}
use Rattle.price_rules.specs.Grammar.{by_list}
use Rattle.part_lines.specs.Grammar.{PartText}
use Rattle.part_lines.specs.Rendering.{part_text}
use Rattle.part_lines.specs.Views.{blank_said}
use Rattle.part_writing.specs.Cut.{part_cut_lem}
use Rattle.part_writing.specs.Views.{cover_said, prices_said, PricesMarked}
use Rattle.part_writing.proofs.Pieces.{part_whole}
use Rattle.form_facts.specs.Facts.{quotes_from}
use Rattle.jobs.proofs.Jobs.{part_at}
use Rattle.carried_writing.specs.Lists.{pair_mark, low_in, lows_said}
use Rattle.carried_writing.specs.Left.{part_left}
use Rattle.carried_writing.proofs.Parts.{lines, few_holders, prices_are, prices_marked, lines_are, there_few}
use Rattle.carried_writing.proofs.part.put_part_left.Goals as goal
use Rattle.carried_writing.proofs.part.put_part_left.Goals.{After-all-3}

sized : (c : After-all-3) → length (lows_said (get_or c.args.text.now.said c.args.k blank_said)) ≡ 64
sized c = omega (arith, ap length c.lows_said-lows.ensures)

-- the low ends of the prices at the openings left
abbrev lows : After-all-3 → List (Option ℕ)
lows c = let a = c.args in take (a.text.now.job.job.opening_count - a.past) (drop a.past (lows_said (get_or a.text.now.said a.k blank_said)))

module _ (c : After-all-3) where
  abbrev highs : List ℕ
  highs = let a = c.args in take (a.text.now.job.job.opening_count - a.past) (drop a.past (part_at a.text.now.job.job a.k).prices)

  lows_are : take (c.args.text.now.job.job.opening_count - c.args.past) (drop c.args.past c.lows_said-lows.result) ≡ lows c
  lows_are = ap (λ (ls : List (Option ℕ)). take (c.args.text.now.job.job.opening_count - c.args.past) (drop c.args.past ls)) c.lows_said-lows.ensures

  marks_are : c.all-2.result.now ≡ map pair_mark (lows c)
  marks_are = c.all-2.ensures ∙ c.pairs_of-pairs.ensures.marks ∙ ap (map pair_mark) lows_are

  ends_are : c.all-3.result.now ≡ texts low_in (lows c)
  ends_are = c.all-3.ensures ∙ c.pairs_of-pairs.ensures.ends ∙ ap (texts low_in) lows_are

  abbrev left_lines : PartText
  left_lines = let a = c.args in part_left a.text.now.job.job.opening_count a.past a.left (lines a.text.now a.k c.requires.place)

  text_is : part_cut_lem (record { life = (part_at c.args.text.now.job.job c.args.k).life; left = c.args.left; cover = cover_said c.cover_of-cover.result; prices = by_list (quotes_from c.all-2.result.now c.all-3.result.now highs) })
      ≡ part_text left_lines
  text_is =
      let a = c.args in
      let t = a.text.now in
      let p = part_at t.job.job a.k in
      let covered = (get_or t.said a.k blank_said).covered in
      let cover : cover_said c.cover_of-cover.result ≡ cover_there covered (record { removal = p.removal; holders = numbers_of_lem p.holders }) =
      c.cover_of-cover.ensures ∙ ap (λ (hs : List ℕ). cover_there covered (record { removal = p.removal; holders = hs })) (c.all.ensures ∙ c.holders_of-holders.ensures) in
      ap part_cut_lem (lines_are t a.k c.requires.place a.past c.requires.past_few (sized c) a.left _ _ cover (prices_are t a.k c.requires.place a.past c.requires.past_few (sized c) _ _ marks_are ends_are))
      ∙ part_whole left_lines (there_few covered (record { removal = p.removal; holders = numbers_of_lem p.holders }) 15 (few_holders t a.k c.requires.place))

pub put_part-requires-clause-marked : goal.put_part-requires-clause-marked
unfolding PricesMarked
put_part-requires-clause-marked c = let h = (goal.at.put_part-requires-clause-marked c).After-all-3 in
    let a = c.args in
    prices_marked a.text.now a.k c.requires.place a.past c.requires.past_few (sized h) _ _ (marks_are h) (ends_are h)

pub put_part-requires-clause-room : goal.put_part-requires-clause-room
unfolding prices_said
put_part-requires-clause-room c = room_same c.requires.left_in_bounds (sym (text_is (goal.at.put_part-requires-clause-room c).After-all-3))

pub returns : goal.returns
unfolding prices_said
returns c = same c.put_part.ensures (text_is (goal.at.returns c).After-all-3)
