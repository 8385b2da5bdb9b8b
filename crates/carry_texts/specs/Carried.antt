-- E12.2, E12.3. What the new job's text says, by what the old one says and the log: "every other form is kept". The model's `carried` is what it means; here the lines of removal and the pairs of prices stand where they stood.
use Rattle.std.specs.Prelude.{ℕ, ◌-◌, Bool, List, [], ◌∷◌, map, length, get_or, drop, None}
use Rattle.model.specs.Model.{Job}
use Rattle.quotes.specs.Grammar.{Quote, single}
use Rattle.price_rules.specs.Rule.{rule_prices_lem}
use Rattle.price_rules.specs.Grammar.{Prices, by_list, by_rule_lem}
use Rattle.part_lines.specs.Grammar.{PartText, meant_part}
use Rattle.job_grammar.specs.Grammar.{JobText, idle_in}
use Rattle.job_grammar.specs.Reading.{meant_job}
use Rattle.job_grammar.specs.Optionals.{idle_lines}
use Rattle.carry.specs.Carry.{Log, passed, later, renumbered, unused, natural}

-- E12.3. "A part given by E8's rule is written with `price` lines": a part's prices at n openings, those of a rule one by one, others as they are quoted
abbrev pub quoted : ℕ → Prices → List Quote
quoted n (by_list qs) = qs
quoted n (by_rule_lem r) = map single (rule_prices_lem r n)

-- a part's lines, where there were n openings: `left` is the life not yet used, the prices are those of the openings left, and the lines of removal are kept, also where they say 0 and none
abbrev pub carried_lines : ℕ → Job → ℕ → PartText → List Bool → PartText
carried_lines n job step p changes = record {
  life = p.life;
  left = natural (unused job step (meant_part n p) changes);
  cover = p.cover;
  prices = by_list (drop (passed job step) (quoted n p.prices));
}

-- all parts; one without a change set has no changes
unfoldable pub carried_part_lines : ℕ → Job → ℕ → List PartText → List (List Bool) → List PartText
carried_part_lines n job step [] cs = []
carried_part_lines n job step (p ∷ ps) cs = carried_lines n job step p (get_or cs 0 []) ∷ carried_part_lines n job step ps (drop 1 cs)

-- the new job's lines: none of idle steps where none is left; "a `walk` line is not written"
abbrev pub carried_text : JobText → Log → JobText
carried_text t log = record {
  horizon = t.horizon - log.step;
  idles = idle_lines (later log.step (idle_in t.idles));
  walk = None;
  openings = map (renumbered log.step) (drop (passed (meant_job t) log.step) t.openings);
  parts = carried_part_lines (length t.openings) (meant_job t) log.step t.parts log.plan.changes;
}
