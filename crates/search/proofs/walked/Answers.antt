-- `walked` is the search of the sheet: the tables, filled with their terms, and `solve` over them.
use Rattle.search_tables.specs.Flat.{sheet_in}
use Rattle.search_tables.proofs.Raising.{tables_termed}
use Rattle.search.proofs.walked.Goals as goal

pub solve-requires : goal.solve-requires
solve-requires c = let sheet = sheet_in c.args.job.now in
    let k = tables_termed sheet c.fill_rows.new.t c.put_terms.new.t c.fill_rows.ensures c.put_terms.ensures in
    ((sheet, k.0, k.1), c.requires)

pub returns : goal.returns
returns c = let sheet = sheet_in c.args.job.now in
    let k = tables_termed sheet c.fill_rows.new.t c.put_terms.new.t c.fill_rows.ensures c.put_terms.ensures in
    c.solve.ensures sheet k.0 k.1
