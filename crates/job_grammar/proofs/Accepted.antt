-- An accepted job text is the rendering of what it says (`text_is`), and that is valid (`valid_text`, and `valid` of what it means). By the grammar's lines, one after the other.
use Rattle.std.specs.Prelude.{Option, Some, None}
use Prim.Native.Nat.{ℕ, suc, ◌≤◌}
use mathlib.Core.Path.{◌≡◌, refl, sym, ap, ◌∙◌, subst}
use mathlib.Core.List.{List, [], ◌∷◌, ◌++◌, map, append_assoc, append-nil}
use native.Mathlib.Omega.{arith}
use lib.ListN.{length, length-map}
use Rattle.lines.specs.Text.{bytes, line_of, texts, optional_text}
use Rattle.lines.specs.Parser.{good, Outcome, accepted, refused, return, row, optional, if_present, checked, rising}
use Rattle.lines.proofs.Outcomes.{one_value, not_both}
use Rattle.lines.proofs.Sound.{Told, Tells, Rises, rising_tells, bind_inv, Optionally, optional_inv, row_sound, chain_sound, row_gives, chain_gives, accepted_is}
use Rattle.base.specs.Each.{Chained, All}
use Rattle.model.specs.Model.{Opening}
use Rattle.model.specs.Windows.{Rising, steps_of}
use Rattle.job_grammar.specs.Grammar.{JobText, Given, idle_in, meant, idle, idle_steps_lem, idles, opening, openings, parts, body, rest, job_lines, max_bytes, read_job_text, meaning, read_job_lem}
use Rattle.job_grammar.specs.Rendering.{idles_text, opening_text, body_text, job_text_lem}
use Rattle.jobs.specs.Valid.{ValidOpening, ValidPart, HeldFrom, ValidJob}
use Rattle.part_lines.specs.Grammar.{PartText, meant_part, part, following}
use Rattle.part_lines.specs.Rendering.{part_text}
use Rattle.part_lines.specs.Valid.{Spelt, KnownPart}
use Rattle.part_lines.proofs.Accepted.{part_tells}
use Rattle.job_grammar.specs.Valid.{Valid, SomeIdles, Allowed, ValidText}
use Rattle.job_grammar.proofs.Lows.{meant_valid}

-- ---- steps that rise

-- a step after step `before` and within the horizon h
abbrev pub KnownStep : ℕ → ℕ → ℕ → Type 0
KnownStep h before v = Rises 365 h before v

-- ---- idle steps

-- at most 365, which rise and stay within the horizon h; and some where they are written
abbrev pub KnownIdles : ℕ → Option (List ℕ) → Type 0
KnownIdles h is = (length (idle_in is) ≤ 365) × Rising 0 h (idle_in is) × SomeIdles is

-- the number that an idle step hands on
abbrev pub itself : ℕ → ℕ → ℕ
itself before i = i

steps_rise : (h before : ℕ) (is : List ℕ) → Chained (KnownStep h) itself before is → Rising before h is
steps_rise h before [] c = tt
steps_rise h before (i ∷ is) c = (c.0.after, c.0.within, steps_rise h i is c.1)

-- accepted lines of idle steps have at most 365, rising within the horizon, and are written for them
pub idles_tell : (h : ℕ) → Tells (idles h) (KnownIdles h) (optional_text idles_text)
unfolding idles idle_steps_lem idle if_present return idles_text
idles_tell h s s' l l' is e =
    let b = bind_inv (optional "idles=" 1 365) _ s s' l l' is e in
    go b.a b.mid b.at (optional_inv _ 1 365 s b.mid l b.at b.a b.first) b.second
  where
    go : (n : Option ℕ) (mid : List ℕ) (at : ℕ) → Optionally (bytes "idles=") 1 365 s mid l at n → if_present (idle_steps_lem h) n mid at ≡ good is s' l' → Told (KnownIdles h) (optional_text idles_text) s s' is
    go None mid at none e =
        let x : None ≡ is = cc in
        let y : mid ≡ s' = cc in
        subst (Told (KnownIdles h) (optional_text idles_text) s s') x (record { known = (omega arith, tt, tt); text = none ∙ y })
    go (Some n) mid at some e =
        let d = bind_inv (idle_steps_lem h n) _ mid s' at l' is e in
        let x : Some d.a ≡ is = cc d.second in
        let y : d.mid ≡ s' = cc d.second in
        let k = row_gives _ 1 365 s mid l at n some in
        let c = chain_gives (idle h) itself (KnownStep h) (λ before s s' l l' i e. (rising_tells 4 _ 365 h before s s' l l' i e).known) n 0 mid d.mid at d.at d.a d.first in
        let count : n ≡ length d.a = sym c.0 in
        subst (Told (KnownIdles h) (optional_text idles_text) s s') x (record {
          known = (subst (λ (m : ℕ). m ≤ 365) count k.1, steps_rise h 0 d.a c.1, subst (λ (m : ℕ). 1 ≤ m) count k.0);
          text = simp append_assoc
              (row_sound _ 1 365 s mid l at n some
              ∙ ap (λ (m : ℕ). line_of "idles=" m ++ mid) count
              ∙ ap (λ (r : List ℕ). line_of "idles=" (length d.a) ++ r)
              (chain_sound (idle h) itself (line_of "idle=") (λ before s s' l l' i e. (rising_tells 4 _ 365 h before s s' l l' i e).text) n 0 mid d.mid at d.at d.a d.first
              ∙ ap (λ (r : List ℕ). texts (line_of "idle=") d.a ++ r) y));
        })

-- ---- openings

-- an opening whose step comes after `before` and within the horizon h, with its fee in range
abbrev pub KnownOpening : ℕ → ℕ → Opening → Type 0
KnownOpening h before o = KnownStep h before o.step × (o.fee ≤ 1000000)

-- what is accepted as an opening is known, and its text is what was read
pub opening_tells : (h before : ℕ) → Tells (opening h before) (KnownOpening h before) opening_text
unfolding opening return opening_text
opening_tells h before s s' l l' o e =
    let b = bind_inv (checked 4 (rising before h) (row "opening=" 1 365)) _ s s' l l' o e in
    let d = bind_inv (row "fee=" 0 1000000) _ b.mid s' b.at l' o b.second in
    let x : record { step = b.a; fee = d.a } ≡ o = cc d.second in
    let y : d.mid ≡ s' = cc d.second in
    let k = rising_tells 4 _ 365 h before s b.mid l b.at b.a b.first in
    let f = row_gives _ 0 1000000 b.mid d.mid b.at d.at d.a d.first in
    subst (Told (KnownOpening h before) opening_text s s') x (record {
      known = (k.known, f.1);
      text = simp append_assoc
          (k.text
          ∙ ap (λ (r : List ℕ). line_of "opening=" b.a ++ r) (row_sound _ 0 1000000 b.mid d.mid b.at d.at d.a d.first ∙ ap (λ (r : List ℕ). line_of "fee=" d.a ++ r) y));
    })

-- the step that an opening hands on to the one after it
abbrev pub step_of : ℕ → Opening → ℕ
step_of before o = o.step

-- openings that are each known after the one before are valid, and rise within the horizon
pub chained_rising : (h before : ℕ) (os : List Opening) → Chained (KnownOpening h) step_of before os → All ValidOpening os × Rising before h (steps_of os)
chained_rising h before [] c = (tt, tt)
chained_rising h before (o ∷ os) c =
    let r = chained_rising h o.step os c.1 in
    let k = c.0.0 in
    ((record { step_low = k.low; step_high = k.high; fee = c.0.1 }, r.0), (k.after, k.within, r.1))

-- ---- parts

-- the parts from part k of m on, with n openings: what they mean, and how their lines say it
abbrev KnownParts : ℕ → ℕ → ℕ → List PartText → Type 0
KnownParts m n k ps = All (ValidPart n) (map (meant_part n) ps) × HeldFrom m k (map (meant_part n) ps) × All (Spelt n) ps

-- numbered parts, in the model's terms
chained_parts : (m n k : ℕ) (ps : List PartText) → Chained (KnownPart m n) following k ps → KnownParts m n k ps
chained_parts m n k [] c = (tt, tt, tt)
chained_parts m n k (p ∷ ps) c =
    let r = chained_parts m n (suc k) ps c.1 in
    ((c.0.0, r.0), (c.0.1, r.1), (c.0.2, r.2))

-- parts that mean valid parts with holders in order are known along the chain of their numbers
pub parts_chained : (m n k : ℕ) (ps : List PartText) → All (ValidPart n) (map (meant_part n) ps) → HeldFrom m k (map (meant_part n) ps) → All (Spelt n) ps → Chained (KnownPart m n) following k ps
parts_chained m n k [] v h s = tt
parts_chained m n k (p ∷ ps) v h s = ((v.0, h.0, s.0), parts_chained m n (suc k) ps v.1 h.1 s.1)

-- ---- the whole

abbrev KnownJob : ℕ → Option (List ℕ) → Option ℕ → ℕ → JobText → Type 0
KnownJob h is w n t =
    (2 ≤ h → h ≤ 365 → KnownIdles h is → n ≤ 64 → ValidJob (meant t).job) × (t.walk ≡ w) × (t.horizon ≡ h) × (t.idles ≡ is) × (length t.openings ≡ n) × All (Spelt (length t.openings)) t.parts

body_tells : (h : ℕ) (is : Option (List ℕ)) (w : Option ℕ) (n : ℕ) → Tells (body h is w n) (KnownJob h is w n) body_text
unfolding body openings parts return body_text
body_tells h is w n s s' l l' g e =
    let b = bind_inv (openings h n) _ s s' l l' g e in
    let d = bind_inv (row "parts=" 1 16) _ b.mid s' b.at l' g b.second in
    let f = bind_inv (parts d.a n) _ d.mid s' d.at l' g d.second in
    let x : record { horizon = h; idles = is; walk = w; openings = b.a; parts = f.a } ≡ g = cc f.second in
    let y : f.mid ≡ s' = cc f.second in
    let k₁ = chain_gives (opening h) step_of (KnownOpening h) (λ before s s' l l' o e. (opening_tells h before s s' l l' o e).known) n 0 s b.mid l b.at b.a b.first in
    let os = chained_rising h 0 b.a k₁.1 in
    let k₂ = row_gives _ 1 16 b.mid d.mid b.at d.at d.a d.first in
    let k₃ = chain_gives (part d.a n) following (KnownPart d.a n) (λ k s s' l l' p e. (part_tells d.a n k s s' l l' p e).known) d.a 1 d.mid f.mid d.at f.at f.a f.first in
    let count : d.a ≡ length f.a = sym k₃.0 in
    let meant-count : d.a ≡ length (map (meant_part (length b.a)) f.a) = count ∙ sym (length-map f.a (meant_part (length b.a))) in
    let ps = subst (λ (q : ℕ). KnownParts d.a q 1 f.a) (sym k₁.0) (chained_parts d.a n 1 f.a k₃.1) in
    subst (Told (KnownJob h is w n) body_text s s') x (record {
      known = (
        λ low high steps few. record {
          horizon_low = low;
          horizon_high = high;
          few_idles = steps.0;
          idles = steps.1;
          few_openings = subst (λ (m : ℕ). m ≤ 64) (sym k₁.0) few;
          openings = os.0;
          rising = os.1;
          some_part = subst (λ (m : ℕ). 1 ≤ m) meant-count k₂.0;
          few_parts = subst (λ (m : ℕ). m ≤ 16) meant-count k₂.1;
          parts = ps.0;
          holders = subst (λ (m : ℕ). HeldFrom m 1 (map (meant_part (length b.a)) f.a)) meant-count ps.1;
        },
        refl,
        refl,
        refl,
        k₁.0,
        ps.2,
      );
      text = simp append_assoc
          (chain_sound (opening h) step_of opening_text (λ before s s' l l' o e. (opening_tells h before s s' l l' o e).text) n 0 s b.mid l b.at b.a b.first
          ∙ ap (λ (r : List ℕ). texts opening_text b.a ++ r)
          (row_sound _ 1 16 b.mid d.mid b.at d.at d.a d.first
          ∙ ap (λ (m : ℕ). line_of "parts=" m ++ d.mid) count
          ∙ ap (λ (r : List ℕ). line_of "parts=" (length f.a) ++ r)
          (chain_sound (part d.a n) following part_text (λ k s s' l l' p e. (part_tells d.a n k s s' l l' p e).text) d.a 1 d.mid f.mid d.at f.at f.a f.first
          ∙ ap (λ (r : List ℕ). texts part_text f.a ++ r) y)));
    })

walk_tells : Tells (optional "walk=" 0 4000000000) Allowed (optional_text (line_of "walk="))
walk_tells s s' l l' o e = go o (optional_inv _ 0 4000000000 s s' l l' o e)
  where
    go : (o : Option ℕ) → Optionally (bytes "walk=") 0 4000000000 s s' l l' o → Told Allowed (optional_text (line_of "walk=")) s s' o
    go None f = record { known = tt; text = f }
    go (Some w) f = record { known = (row_gives _ 0 4000000000 s s' l l' w f).1; text = row_sound _ 0 4000000000 s s' l l' w f }

-- an accepted job's lines say a valid text, and are what is written for it
pub lines_tell : Tells job_lines ValidText job_text_lem
unfolding job_lines rest job_text_lem
lines_tell s s' l l' g e =
    let b = bind_inv (row "horizon=" 2 365) _ s s' l l' g e in
    let c = bind_inv (idles b.a) _ b.mid s' b.at l' g b.second in
    let d = bind_inv (optional "walk=" 0 4000000000) _ c.mid s' c.at l' g c.second in
    let f = bind_inv (row "openings=" 0 64) _ d.mid s' d.at l' g d.second in
    let k₁ = row_gives _ 2 365 s b.mid l b.at b.a b.first in
    let steps = idles_tell b.a b.mid c.mid b.at c.at c.a c.first in
    let line = walk_tells c.mid d.mid c.at d.at d.a d.first in
    let k₃ = row_gives _ 0 64 d.mid f.mid d.at f.at f.a f.first in
    let t = body_tells b.a c.a d.a f.a f.mid s' f.at l' g f.second in
    let h : b.a ≡ g.horizon = sym t.known.2 in
    let w : d.a ≡ g.walk = sym t.known.1 in
    let is : c.a ≡ g.idles = sym t.known.3 in
    let n : f.a ≡ length g.openings = sym t.known.4 in
    record {
      known = record {
        means = meant_valid g (t.known.0 k₁.0 k₁.1 steps.known k₃.1) t.known.5;
        idles = subst SomeIdles is steps.known.2;
        walk = subst Allowed w line.known;
        lines = t.known.5;
      };
      text = simp append_assoc
          (row_sound _ 2 365 s b.mid l b.at b.a b.first
          ∙ ap (λ (m : ℕ). line_of "horizon=" m ++ b.mid) h
          ∙ ap (λ (r : List ℕ). line_of "horizon=" g.horizon ++ r)
          (steps.text
          ∙ ap (λ (xs : Option (List ℕ)). optional_text idles_text xs ++ c.mid) is
          ∙ ap (λ (r : List ℕ). optional_text idles_text g.idles ++ r)
          (line.text
          ∙ ap (λ (o : Option ℕ). optional_text (line_of "walk=") o ++ d.mid) w
          ∙ ap (λ (r : List ℕ). optional_text (line_of "walk=") g.walk ++ r)
          (row_sound _ 0 64 d.mid f.mid d.at f.at f.a f.first
          ∙ ap (λ (m : ℕ). line_of "openings=" m ++ f.mid) n
          ∙ ap (λ (r : List ℕ). line_of "openings=" (length g.openings) ++ r) t.text))));
    }

-- ---- the text

-- what an accepted job text says is valid
pub valid_text : (s : List ℕ) (t : JobText) → read_job_text s ≡ accepted t → ValidText t
valid_text s t e = let a = accepted_is max_bytes job_lines s t e in (lines_tell s [] 1 a.last t a.lines).known

-- an accepted job text is the rendering of what it says
pub text_is : (s : List ℕ) (t : JobText) → read_job_text s ≡ accepted t → s ≡ job_text_lem t
text_is s t e = let a = accepted_is max_bytes job_lines s t e in (lines_tell s [] 1 a.last t a.lines).text ∙ append-nil (job_text_lem t)

-- ---- what it means

-- what an accepted job text means is valid
pub valid : (s : List ℕ) (g : Given) → read_job_lem s ≡ accepted g → Valid g
valid s g e = go (read_job_text s) refl
  where
    go : (x : Outcome JobText) → read_job_text s ≡ x → Valid g
    go (accepted t) f = subst Valid (one_value e (ap meaning f)) (valid_text s t f).means
    go (refused n l) f = not_both e (ap meaning f)
