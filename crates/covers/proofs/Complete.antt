-- Valid lines of removal, written, are read back as exactly what they say (`cover_complete`). By the grammar's lines, one after the other.
use Rattle.std.specs.Prelude.{Option, Some, None}
use Prim.Native.Nat.{ℕ, ◌≤◌}
use mathlib.Core.Path.{◌≡◌, refl, ap, ◌∙◌}
use mathlib.Core.List.{List, [], ◌∷◌, ◌++◌, append_assoc}
use mathlib.Core.Bool.{true, false}
use native.Mathlib.Omega.{arith}
use lib.ListN.{length}
use borrow.Author.Tests.{ne_eqb}
use Rattle.lines.specs.Line.{starts_with}
use Rattle.lines.specs.Text.{bytes, line_of, texts, optional_text}
use Rattle.lines.specs.Parser.{good, return, row, optional, if_present, checked, rising}
use Rattle.lines.proofs.Parsing.{bind_good, optional_missing}
use Rattle.base.specs.Each.{Chained}
use Rattle.lines.proofs.Sound.{Rises}
use Rattle.lines.proofs.Complete.{Complete, row_complete, rising_complete, optional_present, checked_complete, chain_complete}
use Rattle.covers.specs.Grammar.{Cover, other, holder, holders, inside, cover}
use Rattle.covers.specs.Rendering.{cover_text}
use Rattle.jobs.specs.Valid.{ValidHolders}
use Rattle.covers.specs.Valid.{ValidLines}
use Rattle.covers.proofs.Accepted.{KnownHolder, itself}

holder_complete : (m k before : ℕ) → Complete (holder m k before) (line_of "holder=") (KnownHolder m k before)
unfolding holder
holder_complete m k before h v s l =
    let apart : other k h ≡ true = simp (ne_eqb h k v.1) in
    checked_complete 12 (other k) (checked 12 (rising before m) (row "holder=" 1 16)) (line_of "holder=") (Rises 16 m before) (rising_complete 12 _ 16 m (omega arith) before) h (v.0, apart) s l

holds_chained : (m k before : ℕ) (hs : List ℕ) → m ≤ 16 → ValidHolders m k before hs → Chained (KnownHolder m k) itself before hs
holds_chained m k before [] few v = tt
holds_chained m k before (h ∷ hs) few v =
    ((record { low = omega (arith, v.0); high = omega (arith, v.1); after = v.0; within = v.1 }, v.2), holds_chained m k h hs few v.3)

-- what follows where none stand does not begin with their key
pub cover_complete : (m k : ℕ) → m ≤ 16 → (o : Option Cover) → ValidLines m k o → (s : List ℕ) (l : ℕ) → (o ≡ None → starts_with (bytes "removal=") s ≡ false)
    → (l' : ℕ) × (cover m k (optional_text cover_text o ++ s) l ≡ good o s l')
unfolding cover inside holders if_present return cover_text
cover_complete m k few None v s l e = (l, bind_good (optional "removal=" 0 1000000) _ (optional_missing _ 0 1000000 s l (e refl)))
cover_complete m k few (Some c) v s l e =
    let n = line_of "inside=" (length c.holders) in
    let hs = texts (line_of "holder=") c.holders in
    let a = optional_present (bytes "removal=") 0 1000000 (omega arith) c.removal (omega arith, v.removal) (n ++ (hs ++ s)) l in
    let b = row_complete (bytes "inside=") 0 15 (omega arith) (length c.holders) (omega arith, v.few) (hs ++ s) a.0 in
    let d = chain_complete (holder m k) itself (line_of "holder=") (KnownHolder m k) (holder_complete m k) 0 c.holders (holds_chained m k 0 c.holders few v.holders) s b.0 in (
      d.0,
      ap (λ (x : List ℕ). cover m k x l) (append_assoc (line_of "removal=" c.removal ++ n) hs s ∙ append_assoc (line_of "removal=" c.removal) n (hs ++ s))
          ∙ bind_good (optional "removal=" 0 1000000) _ a.1
          ∙ bind_good (inside m k c.removal) _ (bind_good (row "inside=" 0 15) _ b.1 ∙ bind_good (holders m k (length c.holders)) _ d.1),
    )
