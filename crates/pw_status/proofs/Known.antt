-- The terminals of the jobs in a run are terminals of the system.
use Rattle.std.proofs.Common.{◌≡◌, ℕ, ◌<◌, Some, refl, ap}
use Rattle.pw_onecopy.specs.Behaviour.{Behaviour}
use Rattle.pw_paired.specs.State.{Job, State}
use Rattle.pw_laws.proofs.kept.Kept.{Inv}
use Rattle.pw_laws.proofs.requests.Requests.{place_of_job, sent_of}

module _ (sys : Behaviour) (s : State) (i : Inv sys s) where
  pub job-here : (c p : ℕ) (job : Job) → (s.classes c).busy p ≡ Some job → job.request.terminal < sys.terminals
  job-here c p job works = (i.out job.request.terminal _ (ap sent_of (place_of_job i.requests works refl))).live.known
