-- The code's structs in the terms of the grammar.
use Rattle.std.specs.Prelude.{Option, Some, None}
use Rattle.price_rules.specs.Rule as rule
use Rattle.price_rules.specs.declared.Rule.{Rule}

-- the rule that a struct holds
abbrev pub rule_of : Rule → rule.Rule
rule_of r = record { base = r.base; drop = r.drop; least = r.least }

-- the rule where its lines stand
abbrev pub rule_there : Option Rule → Option rule.Rule
rule_there (Some r) = Some (rule_of r)
rule_there None = None
