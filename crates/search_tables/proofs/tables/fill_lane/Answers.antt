-- `fill_lane` makes a part's lane, from its suffix table with every opening allowed.
use Rattle.search_tables.proofs.Filling.{lane_done}
use Rattle.search_tables.proofs.tables.fill_lane.Goals as goal

pub returns : goal.returns
returns c = let s = c.args.part.now in
    let r = c.requires in
    lane_done s.life s.end s.first s.positions.now s.prices.now s.allowed.now c.fill.new.tab c.args.t.now c.put_suffixes.new.t c.put_reaches.new.t c.put_prices.new.t c.args.q
    s.few r.allowed s.priced r.cheap c.fill.ensures c.put_suffixes.ensures c.put_reaches.ensures c.put_prices.ensures r.lane
