-- `put_openings`: the lines of the openings yielded so far are put.
use Prim.Native.Nat.{ℕ, ◌<◌}
use mathlib.Core.Path.{◌≡◌, sym, ap, subst, ◌∙◌}
use mathlib.Core.List.{List, [], ◌∷◌}
use native.Mathlib.Omega.{arith}
use lib.ListN.{length, get_or, take, length-append}
use lib.Seq.{take_all}
use Rattle.std.proofs.Common.{rules}
use Rattle.std.proofs.lemmas.Slice.Zip.{zip_turn, zip_end}
use Rattle.lines.specs.Text.{texts}
use Rattle.line_writing.specs.Puts.{Puts}
use Rattle.line_writing.proofs.Putting.{none, same, room_same, room_next, next}
use Rattle.model.specs.Model.{Opening}
use Rattle.job_grammar.specs.Rendering.{opening_text}
use Rattle.form_facts.specs.Facts.{paired}
use Rattle.form_facts.proofs.Facts.{paired_size, paired_at}
use Rattle.form_writing.proofs.lists.put_openings.Goals as goal
use Rattle.form_writing.proofs.lists.put_openings.Goals.{Start, In-Some}

abbrev blank : Opening
blank = record { step = 0; fee = 0 }

-- the openings that the lists make, and how many they are
abbrev all : Start → List Opening
all s = paired s.args.openings.now s.args.fees.now

count : (s : Start) → length (all s) ≡ length s.args.openings.now
count s = paired_size s.args.openings.now s.args.fees.now s.requires.fees_len

pub loop-step-init : goal.loop-step-init
loop-step-init c = none

-- the opening at hand is the next of them
record Turn (c : In-Some) : Type 0 where
  inside : length c.loop-step.yielded < length c.args.openings.now
  is : opening_text (get_or (paired c.args.openings.now c.args.fees.now) (length c.loop-step.yielded) blank) ≡ opening_text (record { step = c.in-Some.step.now; fee = c.in-Some.fee.now })

turn : (c : In-Some) → Turn c
turn c =
    let l = c.loop-step in
    let ks = c.args.openings.now in
    let vs = c.args.fees.now in
    let z = zip_turn ks vs l.yielded c.into_iter-step-iterator.result l.step-iterator c.next.new.self _ (search rules) (search rules) l.yielded_by (c.in-Some.step, c.in-Some.fee) c.in-Some.is c.next.ensures.steps in
    record {
      inside = z.0;
      is = ap opening_text (paired_at ks vs c.requires.fees_len (length l.yielded) blank z.0 ∙ (λ i. record { step = sym (z.2 0) i; fee = sym (z.3 0) i }));
    }

pub put_opening-requires : goal.put_opening-requires
put_opening-requires c = let s = (goal.at.put_opening-requires c).Start in
    let l = c.loop-step in
    let t = turn (goal.at.put_opening-requires c).In-Some in
    room_same (room_next opening_text (all s) (length l.yielded) blank c.requires.fees_in_bounds l.invariant (omega (arith, count s, t.inside))) t.is

pub loop-step-preserved : goal.loop-step-preserved
loop-step-preserved c = let s = (goal.at.loop-step-preserved c).Start in
    let l = c.loop-step in
    let t = turn (goal.at.loop-step-preserved c).In-Some in
    subst (λ (k : ℕ). Puts c.args.out.now (texts opening_text (take k (all s))) c.put_opening.new.out) (sym (length-append l.yielded ((c.in-Some.step, c.in-Some.fee) ∷ [])))
    (next opening_text (all s) (length l.yielded) blank (omega (arith, count s, t.inside)) l.invariant (same c.put_opening.ensures (sym t.is)))

pub returns : goal.returns
returns c = let s = (goal.at.returns c).Start in
    let l = c.loop-step in
    let e = zip_end c.args.openings.now c.args.fees.now l.yielded c.into_iter-step-iterator.result l.step-iterator c.next.new.self _ (search rules) (search rules) l.yielded_by c.in-None.is c.next.ensures.steps in
    same l.invariant (ap (texts opening_text) (take_all (length l.yielded) (all s) (omega (arith, count s, e, c.requires.fees_len))))
