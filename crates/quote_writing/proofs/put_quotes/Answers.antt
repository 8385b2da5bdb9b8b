-- `put_quotes`: the lines of the prices yielded so far are put, and j low ends used.
use Prim.Native.Nat.{ℕ, ◌+◌, ◌≤◌, ◌<◌}
use mathlib.Core.Path.{◌≡◌, refl, ap, ap₂, subst, sym, ◌∙◌}
use mathlib.Core.Bool.{cond}
use mathlib.Core.List.{[], ◌∷◌, ◌++◌}
use native.Mathlib.Omega.{arith}
use lib.Dec.{eqb}
use lib.ListN.{length, get_or, take, length-append}
use lib.Seq.{take_all}
use Rattle.std.proofs.Common.{rules}
use Rattle.std.proofs.lemmas.Slice.Zip.{zip_turn, zip_end}
use Rattle.std.specs.Prelude.{Option, Some, None}
use Rattle.lines.specs.Text.{texts}
use Rattle.line_writing.specs.Puts.{Puts}
use Rattle.line_writing.proofs.Putting.{none, same, room_same, room_next, next}
use Rattle.quotes.specs.Grammar.{single}
use Rattle.quotes.specs.Rendering.{quote_text}
use Rattle.form_facts.specs.Facts.{sum_of}
use Rattle.form_facts.proofs.Facts.{quotes_size, quote_at, sum_next, sum_part}
use Rattle.form_facts.specs.Views.{quotes_said}
use Rattle.quotes.specs.Views.{quote_of}
use Rattle.quote_writing.proofs.put_quotes.Goals as goal
use Rattle.quote_writing.proofs.put_quotes.Goals.{In-Some, After-low_at-low, Start}

pub loop-high-init : goal.loop-high-init
loop-high-init c = record { used = refl; put = none }

-- there are as many prices as high ends
size : (s : Start) → length (quotes_said s.args.quotes) ≡ length s.args.quotes.highs.now
size s = let q = s.args.quotes in quotes_size q.banded.now q.lows.now q.highs.now s.requires.marked.size

-- the high end and the mark at hand are the next ones, and the low ends used with them are not more than there are
record Turn (c : In-Some) : Type 0 where
  inside : length c.loop-high.yielded < length c.args.quotes.highs.now
  high : get_or c.args.quotes.highs.now (length c.loop-high.yielded) 0 ≡ c.in-Some.high.now
  mark : get_or c.args.quotes.banded.now (length c.loop-high.yielded) 0 ≡ c.in-Some.mark.now
  reaches : sum_of (take (length c.loop-high.yielded) c.args.quotes.banded.now) + c.in-Some.mark.now ≤ length c.args.quotes.lows.now
  more : sum_of (take (length c.loop-high.yielded) c.args.quotes.banded.now) + c.in-Some.mark.now ≡ sum_of (take (length c.loop-high.yielded + 1) c.args.quotes.banded.now)

turn : (c : In-Some) → Turn c
turn c =
    let l = c.loop-high in
    let q = c.args.quotes in
    let i = length l.yielded in
    let zs = q.banded.now in
    let z = zip_turn q.highs.now zs l.yielded c.into_iter-high-iterator.result l.high-iterator c.next.new.self _ (search rules) (search rules) l.yielded_by (c.in-Some.high, c.in-Some.mark) c.in-Some.is c.next.ensures.steps in
    let sum = sum_next i zs z.1 in
    record {
      inside = z.0;
      high = sym (z.2 0);
      mark = sym (z.3 0);
      reaches = omega (arith, c.requires.marked.lows, sum_part (i + 1) zs, sum, z.3 0);
      more = omega (arith, sum, z.3 0);
    }

pub low_at-low-requires : goal.low_at-low-requires
low_at-low-requires c = λ e. omega (arith, (turn (goal.at.low_at-low-requires c).In-Some).reaches, e, c.loop-high.invariant.used)

-- the price at hand is the one that is put
line_is : (c : After-low_at-low) → let l = c.loop-high in
    let q = c.args.quotes in
    length l.yielded < length q.highs.now → get_or q.highs.now (length l.yielded) 0 ≡ c.in-Some.high.now → get_or q.banded.now (length l.yielded) 0 ≡ c.in-Some.mark.now
    → quote_text (get_or (quotes_said q) (length l.yielded) (single 0)) ≡ quote_text (quote_of c.low_at-low.result c.in-Some.high.now)
line_is c t high mark =
    let l = c.loop-high in
    let q = c.args.quotes in
    let i = length l.yielded in
    ap quote_text (quote_at i q.banded.now q.lows.now q.highs.now c.requires.marked.marks c.requires.marked.size t
    ∙ ap₂ (λ (m h : ℕ). quote_of (cond (eqb m 1) (Some (get_or q.lows.now (sum_of (take i q.banded.now)) 0)) None) h) mark high
    ∙ ap (λ (j : ℕ). quote_of (cond (eqb c.in-Some.mark.now 1) (Some (get_or q.lows.now j 0)) None) c.in-Some.high.now) (sym l.invariant.used)
    ∙ ap (λ (o : Option ℕ). quote_of o c.in-Some.high.now) (sym c.low_at-low.ensures))

pub put_quote-requires : goal.put_quote-requires
put_quote-requires c = let s = (goal.at.put_quote-requires c).Start in
    let l = c.loop-high in
    let t = turn (goal.at.put_quote-requires c).In-Some in
    room_same (room_next quote_text (quotes_said c.args.quotes) (length l.yielded) (single 0) c.requires.highs_in_bounds l.invariant.put (omega (arith, t.inside, size s))) (line_is (goal.at.put_quote-requires c).After-low_at-low t.inside t.high t.mark)

pub overflow_cast-j : goal.overflow_cast-j
overflow_cast-j c = omega (arith, (turn (goal.at.overflow_cast-j c).In-Some).reaches, c.well_formed)

pub overflow_add-j : goal.overflow_add-j
overflow_add-j c = omega (arith, (turn (goal.at.overflow_add-j c).In-Some).reaches, c.loop-high.invariant.used, c.well_formed)

pub loop-high-preserved : goal.loop-high-preserved
loop-high-preserved c = let s = (goal.at.loop-high-preserved c).Start in
    let l = c.loop-high in
    let q = c.args.quotes in
    let t = turn (goal.at.loop-high-preserved c).In-Some in
    let more : length l.yielded + 1 ≡ length (l.yielded ++ ((c.in-Some.high, c.in-Some.mark) ∷ [])) = sym (length-append l.yielded _) in
    record {
      used = ap (λ (j : ℕ). j + c.in-Some.mark.now) l.invariant.used ∙ t.more ∙ ap (λ (k : ℕ). sum_of (take k q.banded.now)) more;
      put = subst (λ (k : ℕ). Puts c.args.out.now (texts quote_text (take k (quotes_said q))) c.put_quote.new.out) more
          (next quote_text (quotes_said q) (length l.yielded) (single 0) (omega (arith, t.inside, size s)) l.invariant.put (same c.put_quote.ensures (sym (line_is (goal.at.loop-high-preserved c).After-low_at-low t.inside t.high t.mark))));
    }

pub returns : goal.returns
returns c = let s = (goal.at.returns c).Start in
    let l = c.loop-high in
    let q = c.args.quotes in
    let e = zip_end q.highs.now q.banded.now l.yielded c.into_iter-high-iterator.result l.high-iterator c.next.new.self _ (search rules) (search rules) l.yielded_by c.in-None.is c.next.ensures.steps in
    same l.invariant.put (ap (texts quote_text) (take_all (length l.yielded) (quotes_said q) (omega (arith, size s, e, c.requires.marked.size))))
