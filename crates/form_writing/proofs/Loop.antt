-- The loop that puts the parts of the lists: before it (`putting_start`), one part more (`putting_more`), the room for it (`putting_room`), and at its end (`putting_end`). By the laws of the first part.
use Prim.Native.Nat.{ℕ, ◌≤◌, ◌<◌}
use mathlib.Core.Path.{◌≡◌, refl, sym, ap, ◌∙◌}
use mathlib.Core.List.{List, [], ◌∷◌, ◌++◌, append-nil, append_assoc}
use native.Mathlib.Omega.{arith}
use lib.ListN.{length}
use Rattle.lines.specs.Text.{texts}
use Rattle.line_writing.specs.Puts.{Puts, Room}
use Rattle.line_writing.specs.declared.output.Out.{Out}
use Rattle.line_writing.proofs.Putting.{none, then, same, room_same, room_front, room_behind}
use Rattle.part_lines.specs.Grammar.{PartText}
use Rattle.form_facts.specs.Facts.{PartLists, grouped, parts_of, PartsAgree}
use Rattle.part_writing.specs.Cut.{part_cut_lem}
use Rattle.first_parts.specs.Fronts.{first_part, behind_first}
use Rattle.first_parts.proofs.Places.{parts_next, agree_next}

-- parts of the lists x are put, from o on, up to p, and y are the lists of the others
pub record Putting (n : ℕ) (x : PartLists) (o : Out) (y : PartLists) (p : Out) : Type 0 where
  -- the lists that are left agree
  pub agree : PartsAgree n y
  -- the bytes of the parts that are put
  pub done : List ℕ
  pub put : Puts o done p
  -- the text of all parts is those bytes and the text of the parts that are left
  pub whole : texts part_cut_lem (parts_of n x) ≡ done ++ texts part_cut_lem (parts_of n y)

no_parts : (n : ℕ) (x : PartLists) → length x.lives ≡ 0 → parts_of n x ≡ []
unfolding grouped
no_parts n x e = go x.lives e
  where
    go : (ls : List ℕ) → length ls ≡ 0 → parts_of n (record { lives = ls; lefts = x.lefts; covered = x.covered; removals = x.removals; insides = x.insides; holders = x.holders; ruled = x.ruled; bases = x.bases; drops = x.drops; leasts = x.leasts; banded = x.banded; lows = x.lows; prices = x.prices }) ≡ []
    go [] e = refl
    go (l ∷ ls) e = absurd (omega arith)

-- before the first part nothing of the parts is written, and all of the lists is to come
pub putting_start : (n : ℕ) (x : PartLists) (o : Out) → PartsAgree n x → Putting n x o x o
putting_start n x o h = record { agree = h; done = []; put = none; whole = refl }

module _ (n : ℕ) (x : PartLists) (o : Out) (y : PartLists) (p : Out) (putting : Putting n x o y p) where
  module _ (some : 0 < length y.lives) where
    -- the text of the part at hand, and of those behind it
    abbrev here : List ℕ
    here = part_cut_lem (first_part n y)

    abbrev behind : List ℕ
    behind = texts part_cut_lem (parts_of n (behind_first n y))

    -- they stand behind what is put
    front : texts part_cut_lem (parts_of n x) ≡ (putting.done ++ here) ++ behind
    front =
        putting.whole ∙ ap (λ (ys : List PartText). putting.done ++ texts part_cut_lem ys) (parts_next n y putting.agree some)
        ∙ sym (append_assoc putting.done here behind)

    pub putting_room : Room o (texts part_cut_lem (parts_of n x)) → Room p here
    putting_room h = room_behind (room_front behind (room_same h front)) putting.put

    pub putting_more : {q : Out} (z : PartLists) → z ≡ behind_first n y → Puts p here q → Putting n x o z q
    putting_more z e w = record {
      agree = rw e (agree_next n y putting.agree some);
      done = putting.done ++ here;
      put = then putting.put w;
      whole = rw e front;
    }

  pub putting_end : length y.lives ≤ 0 → Puts o (texts part_cut_lem (parts_of n x)) p
  putting_end last =
      let empty : length y.lives ≡ 0 = omega arith in
      same putting.put (sym (putting.whole ∙ ap (λ (ys : List PartText). putting.done ++ texts part_cut_lem ys) (no_parts n y empty) ∙ append-nil putting.done))
