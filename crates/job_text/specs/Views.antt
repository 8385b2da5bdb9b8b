-- The whole text's struct in the terms of the grammar.
use Rattle.job_grammar.specs.Grammar.{Given}
use Rattle.job_grammar.specs.Grammar as grammar
use Rattle.job_text.specs.Said.{said_text, said_given}
use Rattle.job_text.specs.declared.text.JobText.{JobText}
use Rattle.job_text.specs.declared.accepted.AcceptedText.{AcceptedText}

-- what a text says that the struct holds
abbrev pub text_of : JobText → grammar.JobText
text_of t = said_text t.walk t.said t.job

-- and what it means
abbrev pub given_of : JobText → Given
given_of t = said_given t.walk t.said t.job

-- what an accepted text says
abbrev pub text_in : AcceptedText → grammar.JobText
text_in t = said_text t.walk t.said t.job.job

-- and what it means
abbrev pub given_in : AcceptedText → Given
given_in t = said_given t.walk t.said t.job.job
