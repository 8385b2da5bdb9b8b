-- A hall as far as its text is read, in the model's terms.
use Rattle.std.specs.Prelude.{[], ◌∷◌, ◌++◌}
use Rattle.model.specs.Model.{Job}
use Rattle.hall_model.specs.Hall.{Hall}
use Rattle.hall_jobs.specs.Views.{hall_of}
use Rattle.hall_text.specs.declared.sofar.SoFar.{SoFar}

-- the hall with one line more
abbrev pub with_job : Hall → Job → Hall
with_job hall job = record { call = hall.call; jobs = hall.jobs ++ (job ∷ []) }

-- the hall of the lines that are read
abbrev pub hall_sofar : SoFar → Hall
hall_sofar s = hall_of s.hall
