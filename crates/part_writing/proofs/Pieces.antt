-- The pieces of a part's text by their cases: holders that are too many, or not (`inside_many`, `inside_few`; then nothing is cut, `part_whole`), lines of removal that stand, or not (`cover_there`, `cover_gone`), and prices by a rule,
-- or listed (`said_ruled`, `said_listed`).
use Prim.Native.Nat.{ℕ, ◌≤◌, ◌<◌}
use mathlib.Core.Path.{◌≡◌, refl, sym, ap, ◌∙◌}
use mathlib.Core.List.{List, [], ◌++◌, append-nil, append_assoc}
use borrow.Author.Tests.{le-leb, lt-leb}
use lib.ListN.{length}
use Rattle.std.specs.Prelude.{Option, Some, None, IfSome}
use Rattle.lines.specs.Text.{line_of, texts, optional_text}
use Rattle.covers.specs.Grammar as covers
use Rattle.covers.specs.Rendering.{cover_text}
use Rattle.quotes.specs.Rendering.{quote_text}
use Rattle.price_rules.specs.declared.Rule.{Rule}
use Rattle.price_rules.specs.Rendering.{rule_text, prices_text}
use Rattle.price_rules.specs.Views.{rule_of}
use Rattle.part_lines.specs.Grammar.{PartText}
use Rattle.part_lines.specs.Rendering.{part_text}
use Rattle.form_facts.specs.declared.lists.QuoteLists.{QuoteLists}
use Rattle.form_facts.specs.Views.{quotes_said}
use Rattle.part_writing.specs.Cut.{inside_cut, cover_cut, part_cut_lem}
use Rattle.part_writing.specs.Views.{cover_said, prices_said}
use Rattle.part_writing.specs.declared.cover.Cover.{Cover}
use Rattle.part_writing.specs.declared.Prices.{Prices}
use Rattle.part_writing.specs.declared.Prices.TheVariants.{ByRule, Listed}

-- ---- lines of removal

-- over fifteen parts inside are written as their number alone: it is at fault
pub inside_many : (hs : List ℕ) → 15 < length hs → inside_cut hs ≡ line_of "inside=" (length hs)
unfolding inside_cut
inside_many hs h = rw (lt-leb (length hs) 15 h) (append-nil (line_of "inside=" (length hs)))

-- up to fifteen parts inside are written as their number and a line each
pub inside_few : (hs : List ℕ) → length hs ≤ 15 → inside_cut hs ≡ line_of "inside=" (length hs) ++ texts (line_of "holder=") hs
unfolding inside_cut
inside_few hs h = rw (le-leb (length hs) 15 h)

cover_whole : (o : Option covers.Cover) → IfSome o (λ c. length c.holders ≤ 15) → optional_text cover_cut o ≡ optional_text cover_text o
unfolding cover_cut cover_text
cover_whole None h = refl
cover_whole (Some c) h =
    ap (λ (t : List ℕ). line_of "removal=" c.removal ++ t) (inside_few c.holders h)
    ∙ sym (append_assoc (line_of "removal=" c.removal) (line_of "inside=" (length c.holders)) (texts (line_of "holder=") c.holders))

-- where a part has not too many holders, nothing of its text is cut
pub part_whole : (p : PartText) → IfSome p.cover (λ c. length c.holders ≤ 15) → part_cut_lem p ≡ part_text p
unfolding part_cut_lem part_text
part_whole p h = ap (λ (t : List ℕ). line_of "life=" p.life ++ line_of "left=" p.left ++ t ++ prices_text p.prices) (cover_whole p.cover h)

-- lines that stand, and lines that don't
pub cover_there : (o : Option Cover) (c : Cover) → o ≡ Some c → optional_text cover_cut (cover_said o) ≡ line_of "removal=" c.removal ++ inside_cut c.holders.now
unfolding cover_said cover_cut
cover_there o c e = rw e refl

-- a part without lines of removal has none written
pub cover_gone : (o : Option Cover) → o ≡ None → optional_text cover_cut (cover_said o) ≡ []
unfolding cover_said
cover_gone o e = rw e refl

-- ---- prices

-- prices by a rule are written as the rule's lines
pub said_ruled : (p : Prices) (r : Rule) → p ≡ ByRule r → prices_text (prices_said p) ≡ rule_text (rule_of r)
unfolding prices_said
said_ruled p r e = rw e refl

-- prices from a list are written as its lines
pub said_listed : (p : Prices) (q : QuoteLists) → p ≡ Listed q → prices_text (prices_said p) ≡ texts quote_text (quotes_said q)
unfolding prices_said
said_listed p q e = rw e refl
