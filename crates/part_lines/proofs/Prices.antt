-- A part's prices, said and meant: behind a rule's lines no prices are listed (`ruled_read`), what is said of them means the prices of its rule, or those that are listed (`meant_said`), and so a part that is read means itself with these (`part_means`); parts of which none is changed yet (`changed_none`), and all as the generator does (`tabled`). By whether there is a rule.
use Rattle.std.specs.Prelude.{Option, Some, None, Result, Ok, Err, is_some}
use Rattle.std.specs.Option.{unwrap_or}
use Prim.Native.Nat.{ℕ}
use mathlib.Core.Path.{◌≡◌, refl, sym}
use mathlib.Core.Bool.{Bool, true, false, cond}
use mathlib.Core.List.{List, []}
use lib.ListN.{take}
use Rattle.lines.specs.Parser.{◌>>=◌, times, chain, return}
use Rattle.lines.specs.Reads.{Reads, seen}
use Rattle.lines.specs.declared.fault.Fault.{Fault}
use Rattle.lines.specs.declared.rows.Lines.{Lines}
use Rattle.lines.proofs.Parsing.{put_into}
use Rattle.quotes.specs.Grammar.{quote}
use Rattle.quotes.specs.Views.{quotes_of, quotes_told}
use Rattle.quotes.specs.declared.Quotes.{Quotes}
use Rattle.quotes.proofs.Quoted.{highs_are}
use Rattle.price_rules.specs.Grammar.{by_list, by_rule_lem, unless_ruled, meant_prices}
use Rattle.price_rules.specs.Views.{rule_of, rule_there}
use Rattle.price_rules.specs.declared.Rule.{Rule}
use Rattle.jobs.specs.Views.{part_of_lem}
use Rattle.jobs.specs.declared.Part.{Part}
use Rattle.base.specs.Chosen.{numbers_of_lem}
use Rattle.covers.specs.declared.Cover.{Cover}
use Rattle.covers.specs.Views.{cover_of, cover_said, cover_there, meant_cover}
use Rattle.part_lines.specs.Bare.{Bare}
use Rattle.part_lines.specs.Grammar.{meant_part}
use Rattle.part_lines.specs.Views.{prices_told, part_lines_lem, part_told, ruled_prices, priced, Changed, Tabled}
use Rattle.part_lines.specs.declared.said.PartSaid.{PartSaid}
use Rattle.part_lines.specs.declared.said.PartRead.{PartRead}

-- behind a rule's lines no price is listed, else n are
pub ruled_read : (o : Option Rule) (n : ℕ) (b a : Lines) (r : Result Quotes Fault) → Reads (times (cond (is_some o) 0 n) quote) b a (seen (quotes_told (cond (is_some o) 0 n)) r) → Reads (unless_ruled n (rule_there o)) b a (seen (λ q. prices_told o (quotes_told n q)) r)
unfolding unless_ruled quotes_of times chain return ◌>>=◌
ruled_read None n b a (Ok q) h = put_into by_list (times n quote) b a (Ok (quotes_told n q)) h
ruled_read None n b a (Err e) h = put_into by_list (times n quote) b a (Err e) h
ruled_read (Some r) n b a (Ok q) h = put_into (λ qs. by_rule_lem (rule_of r)) (times 0 quote) b a (Ok []) h
ruled_read (Some r) n b a (Err e) h = put_into (λ qs. by_rule_lem (rule_of r)) (times 0 quote) b a (Err e) h

-- lines of removal that are there or not, and what they say
pub there_said : (o : Option Cover) (none : Cover) → cover_there (is_some o) (cover_of (unwrap_or o none)) ≡ cover_said o
unfolding cover_there
there_said (Some c) none = refl
there_said None none = refl

-- the prices that are said mean those of the rule, and where there is none those that are listed
pub meant_said : (o : Option Rule) (n : ℕ) (ls : List (Option ℕ)) (ps : List ℕ) → meant_prices n (prices_told o (quotes_of ls ps)) ≡ ruled_prices n o ps
meant_said (Some r) n ls ps = refl
meant_said None n ls ps = highs_are ls ps

-- lines of removal that stand mean what they say, and where none stand the part has removal 0 and no holders
covered_means : (b : Bool) (p : Part) → (b ≡ false → Bare p) → meant_cover (cover_there b (record { removal = p.removal; holders = numbers_of_lem p.holders })) ≡ record { removal = p.removal; holders = numbers_of_lem p.holders }
unfolding cover_there meant_cover
covered_means true p bare = refl
covered_means false p bare = λ i. record { removal = sym (bare refl).0 i; holders = sym (bare refl).1 i }

-- a part without removal and holders, where no lines of removal stand, is with its rule's prices what its lines mean
pub bare_means : (n : ℕ) (s : PartSaid) (p : Part) → (s.covered ≡ false → Bare p) → meant_part n (part_lines_lem s (part_of_lem n p)) ≡ priced n s (part_of_lem n p)
bare_means n s p bare =
    let c : meant_cover (cover_there s.covered (record { removal = p.removal; holders = numbers_of_lem p.holders })) ≡ record { removal = p.removal; holders = numbers_of_lem p.holders } = covered_means s.covered p bare in
    let f = meant_said s.rule n s.lows (take n p.prices) in
    λ i. record { life = p.life; left = p.left; removal = (c i).removal; holders = (c i).holders; prices = f i }

-- a part that was read is, with its rule's prices, what its lines mean
pub part_means : (n : ℕ) (r : PartRead) → meant_part n (part_told n r) ≡ priced n r.said (part_of_lem n r.part)
part_means n r = bare_means n r.said r.part r.bare

-- ---- parts that are changed one after the other: none yet, one more, and the generator's

module _ (step : PartSaid → Part → Part → Type 0) where
  -- parts that are changed to the prices of their rules
  pub tabled : {m n : ℕ} {ss : List PartSaid} {ps qs : List Part} → ((s : PartSaid) (p r : Part) → step s p r → part_of_lem n r ≡ priced n s (part_of_lem n p)) → Changed m step ss ps qs → Tabled m n ss ps qs
  tabled means d = record { size = d.size; done = λ q l. means _ _ _ (d.done q l); rest = d.rest }
