-- `behind_first`: each list from behind the first part on.
use Rattle.std.proofs.lemmas.List.{take_rest}
use Rattle.form_facts.specs.Views.{lists_of}
use Rattle.first_parts.proofs.Fronts.{first_cover, first_prices}
use Rattle.first_parts.proofs.behind_first.Goals as goal

pub covers_behind-covers-requires : goal.covers_behind-covers-requires
covers_behind-covers-requires c = let r = c.requires in first_cover c.args.n (lists_of c.args.parts.now) r.0 r.1 r.2

pub rules_behind-rules-requires : goal.rules_behind-rules-requires
rules_behind-rules-requires c = let r = c.requires in first_prices c.args.n (lists_of c.args.parts.now) r.0 r.1 r.2

pub quotes_behind-quotes-requires : goal.quotes_behind-quotes-requires
quotes_behind-quotes-requires c = let r = c.requires in first_prices c.args.n (lists_of c.args.parts.now) r.0 r.1 r.2

pub returns : goal.returns
returns c = let x = lists_of c.args.parts.now in
    let a = c.covers_behind-covers.ensures in
    let b = c.rules_behind-rules.ensures in
    let d = c.quotes_behind-quotes.ensures in
    λ i. record {
      lives = take_rest x.lives 1 i;
      lefts = take_rest x.lefts 1 i;
      covered = a.covered i;
      removals = a.removals i;
      insides = a.insides i;
      holders = a.holders i;
      ruled = b.ruled i;
      bases = b.bases i;
      drops = b.drops i;
      leasts = b.leasts i;
      banded = d.banded i;
      lows = d.lows i;
      prices = d.highs i;
    }
