-- R20. The order of faults of a call's texts: "then the job text [..]; then the plan text".
use Rattle.std.specs.Prelude.{ℕ, List}
use Rattle.lines.specs.Parser.{Outcome, accepted, refused}
use Rattle.answers.specs.Said.{Said, refusal}

-- by what text number `which` reads as: its fault is refused, else `say` says what of its value
abbrev pub on_text : {A : Type 0} → ℕ → List ℕ → (A → Said) → Outcome A → Said
on_text which text say (accepted value) = say value
on_text which text say (refused number line) = refusal which text number line

-- by what the job text, number 1, reads as: its fault comes first, then that of text number 2, read against the job, and then what is said of both
abbrev pub on_texts : {A B : Type 0} → List ℕ → List ℕ → (A → Outcome B) → (A → B → Said) → Outcome A → Said
on_texts job second read say = on_text 1 job (λ given. on_text 2 second (say given) (read given))
