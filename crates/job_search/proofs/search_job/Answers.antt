-- `search_job`: a job without holders meets what the search over the openings alone asks.
use Rattle.job_search.proofs.search_job.Goals as goal

pub search_plain-requires : goal.search_plain-requires
search_plain-requires c = cc
