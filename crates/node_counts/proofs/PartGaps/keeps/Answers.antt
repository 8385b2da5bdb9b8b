-- `keeps`: the search over the places, in the definition's words.
use Prim.Native.Nat.{ℕ, ◌-◌}
use mathlib.Core.Path.{◌≡◌, refl, sym, ap, ◌∙◌}
use mathlib.Core.Bool.{Bool, ◌&&◌}
use native.Mathlib.Omega.{arith}
use lib.ListN.{length}
use Rattle.std.proofs.Common.{rules, tests}
use Rattle.std.specs.List.{list_all, range_with_len}
use Rattle.std.proofs.lemmas.Iterator.{YieldsList-from_range}
use Rattle.std.proofs.lemmas.Iterator.Search.{all_from_yields_List}
use Rattle.longest_walk.specs.Count.{in_time_lem}
use Rattle.node_counts.proofs.Keeping.{keeps_range}
use Rattle.node_counts.proofs.PartGaps.keeps.Goals as goal
use Rattle.node_counts.proofs.PartGaps.keeps.Goals.{After-all}

-- what the search over the openings answers
found : (c : After-all) → let s = c.args.self.now in c.all.result ≡ list_all (λ (k : ℕ). in_time_lem s.life s.end s.first s.positions.now k k) (range_with_len 0 (length s.positions.now))
found c =
    let s = c.args.self.now in
    let n = length s.positions.now in
    let all : n - 0 ≡ n = omega arith in
    all_from_yields_List (λ (k : ℕ). in_time_lem s.life s.end s.first s.positions.now k k) _ _ c.all.result c.all.ensures.ran (YieldsList-from_range 0 n n refl all) (λ x b q k. search (rules, tests))

pub returns-then-all : goal.returns-then-all
returns-then-all c = let s = c.args.self.now in
    let yes = sym c.if-all.true ∙ found (goal.at.returns-then-all c).After-all in
    c.reaches.ensures ∙ ap (λ (b : Bool). b && in_time_lem s.life s.end s.first s.positions.now (length s.positions.now) (length s.positions.now)) yes ∙ keeps_range s.life s.end s.first s.positions.now

pub returns-else-all : goal.returns-else-all
returns-else-all c = let s = c.args.self.now in
    let no = sym c.if-all.false ∙ found (goal.at.returns-else-all c).After-all in
    c.if-all.false ∙ ap (λ (b : Bool). b && in_time_lem s.life s.end s.first s.positions.now (length s.positions.now) (length s.positions.now)) no ∙ keeps_range s.life s.end s.first s.positions.now
