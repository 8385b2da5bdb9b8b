-- The code's lists in the terms of the form.
use Rattle.std.specs.Prelude.{List}
use Rattle.quotes.specs.Grammar.{Quote}
use Rattle.form_facts.specs.Facts.{PartLists, quotes_from, Marked}
use Rattle.form_facts.specs.declared.lists.FormParts.{FormParts}
use Rattle.form_facts.specs.declared.lists.QuoteLists.{QuoteLists}

-- the prices that are stated
abbrev pub quotes_said : QuoteLists → List Quote
quotes_said q = quotes_from q.banded.now q.lows.now q.highs.now

-- there are a mark for each, 0 or 1, and a low end for each that is 1
abbrev pub QuotesMarked : QuoteLists → Type 0
QuotesMarked q = Marked q.banded.now q.lows.now q.highs.now

-- the lists that are handed over
abbrev pub lists_of : FormParts → PartLists
lists_of p = record {
  lives = p.lives.now;
  lefts = p.lefts.now;
  covered = p.covers.covered.now;
  removals = p.covers.removals.now;
  insides = p.covers.insides.now;
  holders = p.covers.holders.now;
  ruled = p.rules.ruled.now;
  bases = p.rules.bases.now;
  drops = p.rules.drops.now;
  leasts = p.rules.leasts.now;
  banded = p.quotes.banded.now;
  lows = p.quotes.lows.now;
  prices = p.quotes.highs.now;
}
