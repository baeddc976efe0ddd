-- One class is changed.
use Rattle.std.proofs.Common.{◌≡◌, ◌≢◌, ℕ, Option, Some, sym, subst}
use Rattle.std.specs.Prelude.{slice_get}
use Rattle.pw_class.specs.Queue.{Queue}
use Rattle.pw_code.specs.declared.context.Context.{Context}
use Rattle.pw_code.specs.declared.system.ClassInfo.{ClassInfo}
use Rattle.pw_code.specs.declared.system.System.{System}
use Rattle.pw_world_state.specs.Stands.{StandsForClass}
use Rattle.pw_onecopy.specs.Update.{upd}
use Rattle.pw_onecopy.proofs.Update.{upd_elim}
use Rattle.pw_paired.specs.State.{Class}

-- what is kept of the classes stands
abbrev pub ClassesStand : System → (ℕ → Class) → (ℕ → Queue) → (ℕ → ℕ → Option Context) → Type 0
ClassesStand system classes queues jobs = (c : ℕ) (info : ClassInfo) → slice_get system.classes c ≡ Some info → StandsForClass system info (classes c) (queues c) (jobs c)

pub class-changed : (system : System) (classes : ℕ → Class) (queues new_queues : ℕ → Queue) (jobs new_jobs : ℕ → ℕ → Option Context) (c : ℕ) (class : Class)
    → ((d : ℕ) → d ≢ c → new_queues d ≡ queues d) → ((d : ℕ) → d ≢ c → new_jobs d ≡ jobs d)
    → ClassesStand system classes queues jobs
    → ((info : ClassInfo) → slice_get system.classes c ≡ Some info → StandsForClass system info class (new_queues c) (new_jobs c))
    → ClassesStand system (upd classes c class) new_queues new_jobs
class-changed system classes queues new_queues jobs new_jobs c class same_queues same_jobs old new d info here =
    upd_elim classes c class d (λ k. StandsForClass system info k (new_queues d) (new_jobs d))
    (λ is. subst (λ x. slice_get system.classes x ≡ Some info → StandsForClass system info class (new_queues x) (new_jobs x)) (sym is) (new info) here)
    (λ ne. rw (same_queues d ne) (rw (same_jobs d ne) (old d info here)))
