-- What the writer promises, over the form, the room lent and the answer.
use Rattle.std.specs.Prelude.{ℕ, ◌+◌, ◌*◌, ◌≤◌, ◌<◌, ◌≡◌, cond, List, [], ◌∷◌, map, ◌↔◌, ◌⊎◌, eqb, length, Option, None, Some}
use Rattle.lines.specs.Text.{texts}
use Rattle.fault_lines.specs.Fault.{nowhere}
use Rattle.lines.specs.Parser.{accepted, refused, finish, whole}
use Rattle.model.specs.Model.{Opening}
use Rattle.model.specs.Limits.{last_step, dearest, most_openings, most_parts}
use Rattle.model.specs.Windows.{Rising}
use Rattle.base.specs.Each.{All}
use Rattle.job_grammar.specs.Grammar.{JobText, idle_in, job_lines, read_job_text}
use Rattle.job_grammar.specs.Faults.{last_fault}
use Rattle.part_lines.specs.Grammar.{PartText}
use Rattle.job_grammar.specs.Rendering.{job_text_lem}
use Rattle.covers.specs.Grammar.{Cover}
use Rattle.quotes.specs.Grammar.{Quote, single, pair, high_end}
use Rattle.price_rules.specs.Grammar.{Prices, by_list, by_rule_lem}
use Rattle.form_facts.specs.Facts.{PartLists, PartsAgree}
use Rattle.answers.specs.Said.{Said, Refuses}
use Rattle.form.specs.Form.{Form, stated, read_form}
use Rattle.form.specs.Write.{write_room}

-- the lists agree in length: a fee for each opening, and those of the parts as `PartsAgree` says
pub record Agree (f : Form) : Type 0 where
  pub fees : length f.fees ≡ length f.openings
  pub parts : PartsAgree (length f.openings) f.parts

-- no list is longer than a job's limits
pub record Few (f : Form) : Type 0 where
  pub idles : length f.idles ≤ last_step
  pub openings : length f.openings ≤ most_openings
  pub parts : length f.parts.lives ≤ most_parts

-- the lines before the `openings` line have no fault: each number is in its range, and the idle steps rise within the horizon
pub record StartFaultless (f : Form) : Type 0 where
  pub horizon_low : 2 ≤ f.horizon
  pub horizon_high : f.horizon ≤ last_step
  pub few_idles : length f.idles ≤ last_step
  pub idles : Rising 0 f.horizon f.idles

-- nor has the `openings` line, nor those of the openings and fees: they are not too many, as many as each other, rise within the horizon, and no fee is too high
pub record OpeningsFaultless (f : Form) : Type 0 where
  pub few : length f.openings ≤ most_openings
  pub as_many : length f.fees ≡ length f.openings
  pub openings : Rising 0 f.horizon f.openings
  pub fees : All (λ (fee : ℕ). fee ≤ dearest) f.fees

-- the line after the n idle steps and their number, if there are some; the horizon's line is line 1
abbrev pub line_after_lem : ℕ → ℕ
line_after_lem n = cond (eqb n 0) 2 (3 + n)

-- the number of the `openings` line: the one after the idle steps
abbrev pub openings_line : Form → ℕ
openings_line f = line_after_lem (length f.idles)

-- the number of the `parts` line: the one after the lines of the openings, two for each
abbrev pub parts_line : Form → ℕ
parts_line f = openings_line f + 1 + 2 * length f.openings

-- the numbers of a part's lines of removal: whether they stand, and what they say
abbrev pub mark_of : Option Cover → ℕ
mark_of None = 0
mark_of (Some c) = 1

-- a part's entry of `removals`; none where its lines don't stand
abbrev pub removal_in : Option Cover → List ℕ
removal_in None = []
removal_in (Some c) = c.removal ∷ []

-- its entry of `insides`: how many holders it names
abbrev pub insides_of : Option Cover → List ℕ
insides_of None = []
insides_of (Some c) = length c.holders ∷ []

-- its entries of `holders`, as many as that
abbrev pub holders_of_lem : Option Cover → List ℕ
holders_of_lem None = []
holders_of_lem (Some c) = c.holders

-- E8. the numbers of a part's prices: whether they stand by a rule, and what that or their list says
abbrev pub rule_mark_lem : Prices → ℕ
rule_mark_lem (by_list qs) = 0
rule_mark_lem (by_rule_lem r) = 1

-- its entry of `bases`; none where its prices are listed
abbrev pub bases_of : Prices → List ℕ
bases_of (by_list qs) = []
bases_of (by_rule_lem r) = r.base ∷ []

-- its entry of `drops`
abbrev pub drops_of : Prices → List ℕ
drops_of (by_list qs) = []
drops_of (by_rule_lem r) = r.drop ∷ []

-- its entry of `leasts`
abbrev pub leasts_of : Prices → List ℕ
leasts_of (by_list qs) = []
leasts_of (by_rule_lem r) = r.least ∷ []

-- its entries of `prices`: the high end of each; "no prices for such a part" as has a rule
abbrev pub listed_in : Prices → List ℕ
listed_in (by_list qs) = map high_end qs
listed_in (by_rule_lem r) = []

-- E11. whether a price is a pair, and its low end then
abbrev pub pair_mark : Quote → ℕ
pair_mark (single p) = 0
pair_mark (pair l h) = 1

-- a price's low end, if it is a pair
abbrev pub low_in : Quote → List ℕ
low_in (single p) = []
low_in (pair l h) = l ∷ []

-- its entries of `banded`, one for each price
abbrev pub banded_in : Prices → List ℕ
banded_in (by_list qs) = map pair_mark qs
banded_in (by_rule_lem r) = []

-- its entries of `lows`, one for each pair
abbrev pub lows_in : Prices → List ℕ
lows_in (by_list qs) = texts low_in qs
lows_in (by_rule_lem r) = []

-- the numbers that parts hold, as lists
abbrev pub lists_of : List PartText → PartLists
lists_of ps = record {
  lives = map (λ (p : PartText). p.life) ps;
  lefts = map (λ (p : PartText). p.left) ps;
  covered = map (λ (p : PartText). mark_of p.cover) ps;
  removals = texts (λ (p : PartText). removal_in p.cover) ps;
  insides = texts (λ (p : PartText). insides_of p.cover) ps;
  holders = texts (λ (p : PartText). holders_of_lem p.cover) ps;
  ruled = map (λ (p : PartText). rule_mark_lem p.prices) ps;
  bases = texts (λ (p : PartText). bases_of p.prices) ps;
  drops = texts (λ (p : PartText). drops_of p.prices) ps;
  leasts = texts (λ (p : PartText). leasts_of p.prices) ps;
  banded = texts (λ (p : PartText). banded_in p.prices) ps;
  lows = texts (λ (p : PartText). lows_in p.prices) ps;
  prices = texts (λ (p : PartText). listed_in p.prices) ps;
}

-- the numbers that a job text holds, as a form
abbrev pub form_of : JobText → Form
form_of t = record {
  horizon = t.horizon;
  idles = idle_in t.idles;
  openings = map (λ (o : Opening). o.step) t.openings;
  fees = map (λ (o : Opening). o.fee) t.openings;
  parts = lists_of t.parts;
}

-- "3, 4, 5", E7's 12 and E11's 13, to the last number of a job text's line: the writer's refusals of a line
abbrev pub FormFault : ℕ → Type 0
FormFault n = ((3 ≤ n) × (n ≤ 5)) ⊎ ((12 ≤ n) × (n ≤ last_fault))

-- E2. what is promised of the answer s to a form, where the output has `room` bytes
pub record WritePromise (f : Form) (room : ℕ) (s : Said) : Type 0 where
  -- "8 if the output has less than 32,768 bytes", since E11 40,960
  pub says_8 : (s.result ≡ 8) ↔ (room < write_room)
  -- 0 exactly if the lists agree in length and state a job that the grammar accepts
  pub says_0 : (s.result ≡ 0) ↔ ((write_room ≤ room) × (Agree f × (read_job_text (job_text_lem (stated f)) ≡ accepted (stated f))))
  -- the bytes are that job's text: "A written text reads back as the same job"
  pub writes_0 : s.result ≡ 0 → (s.bytes ≡ job_text_lem (stated f)) × (read_job_text s.bytes ≡ accepted (stated f))
  -- every refusal: 3, 4, 5 or from 12 on, text 1, its line, and no line at fault, "there is no text of the caller's"
  pub refuses : write_room ≤ room → (number line : ℕ) → read_form f ≡ refused number line
      → Refuses 1 [] number line s × (s.fault ≡ nowhere) × FormFault number
  -- "`idles` 1..365": idle steps that are too many give 3 on the `idles` line, which is line 2
  pub idles_many : write_room ≤ room → 2 ≤ f.horizon → f.horizon ≤ last_step → last_step < length f.idles → Refuses 1 [] 3 2 s
  -- "Fees not as many as openings give 3 on the `openings` line", and so do openings that are too many
  pub fees_differ : write_room ≤ room → StartFaultless f → (length f.openings ≤ most_openings → length f.fees ≡ length f.openings → ⊥) → Refuses 1 [] 3 (openings_line f) s
  -- "lefts not as many as lives, prices not parts times openings, or a list added later of a wrong length, on the `parts` line", and so do no parts or too many
  pub parts_differ : write_room ≤ room → StartFaultless f → OpeningsFaultless f → (1 ≤ length f.parts.lives → length f.parts.lives ≤ most_parts → PartsAgree (length f.openings) f.parts → ⊥)
      → Refuses 1 [] 3 (parts_line f) s
  -- "for the same faults": of lists that agree and are not too long, what is read is the very text of the job that they state
  pub reads : Agree f → Few f → read_form f ≡ finish (whole job_lines (job_text_lem (stated f)) 1)
  -- "an accepted text, read and written, comes out byte for byte"; E10. "a byte-for-byte return is owed to texts without the line" of the walk number
  pub returns : write_room ≤ room → (text : List ℕ) (t : JobText) → read_job_text text ≡ accepted t → t.walk ≡ None → f ≡ form_of t → (s.result ≡ 0) × (s.bytes ≡ text)
