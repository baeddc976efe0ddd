-- A world that has worked is still the one that was handed in, and where it answers a fault its disc has failed.
use Rattle.std.proofs.Common.{◌≡◌, ◌∙◌, ◌≤◌, ℕ, zero, suc, Bool, List, [], ◌∷◌, ◌++◌, length, take, ap, arith, refl, subst, sym, length-take, true, false}
use Rattle.std.proofs.lemmas.List.{take-append-le}
use Rattle.pw_base.specs.Outside.{Rose}
use Rattle.pw_code.specs.declared.system.System.{System}
use Rattle.pw_event.specs.declared.event.Event.{Event}
use Rattle.pw_event.specs.declared.script.FailLine.{FailLine}
use Rattle.pw_world_model.specs.Answers.{HasFailed, LeavesApplied, ran, with_out}
use Rattle.pw_world_model.specs.Calls.{BuildsHere}
use Rattle.pw_world_model.specs.Seen.{Seen}
use Rattle.pw_world_model.specs.Working.{Works}
use Rattle.pw_world_model.specs.Worlds.{Books, IsWorld}
use Rattle.pw_world_model.specs.declared.answers.Applied.{Applied}
use Rattle.pw_world_model.specs.declared.answers.Applied.TheVariants as applied
use Rattle.pw_world_model.specs.declared.answers.Worked.{Worked}
use Rattle.pw_world_model.specs.declared.answers.Worked.TheVariants as worked
use Rattle.pw_world_model.specs.declared.task.Outcome.{Outcome}
use Rattle.pw_workers.specs.Ends.{IsFor}
use Rattle.pw_workers.specs.InPlace.{BuildsEach}

-- a log that begins with another one does so with an entry more
longer : (log long : List Event) (entry : Event) → take (length log) long ≡ log → take (length log) (long ++ entry ∷ []) ≡ log
longer log long entry is =
    let same : length (take (length log) long) ≡ length log = ap length is in
    let taken = length-take (length log) long in
    let fits : length log ≤ length long = omega (arith, same, taken) in
    take-append-le (length log) long (entry ∷ []) fits ∙ is

module _ (system : System) (script : List FailLine) (log : List Event) (limit faults : ℕ) where
  abbrev For : Seen → Type 0
  For world = IsFor system script log limit faults world

  moved : (world other new : Seen) → new ≡ other → other.system ≡ world.system → other.script ≡ world.script
      → take (length log) other.log ≡ log → other.limit ≡ world.limit → other.faults ≡ world.faults → For world → For new
  moved world other new leaves system_is script_is begins limit_is count is =
      subst For (sym leaves)
      (record {
        system_is = system_is ∙ is.system_is;
        script_is = script_is ∙ is.script_is;
        begins = begins;
        limit_is = limit_is ∙ is.limit_is;
        count = count ∙ is.count;
      })

  -- nothing but who is out has changed
  inside : (world new : Seen) (outcome : Outcome) → new ≡ with_out outcome.actor false world → For world → For new
  inside world new outcome leaves is =
      moved world (with_out outcome.actor false world) new leaves refl refl is.begins refl refl is

  applied-same : (members : ℕ → List ℕ) (world new : Seen) (outcome : Outcome) (answer : Applied)
      → LeavesApplied members world outcome answer new → For world → For new
  applied-same members world new outcome applied.Done leaves is =
      moved world _ new leaves.1.is refl refl (longer log world.log leaves.0 is.begins) refl refl is
  applied-same members world new outcome applied.Held leaves is =
      moved world (with_out outcome.actor false (ran world outcome)) new leaves refl refl is.begins refl refl is
  applied-same members world new outcome applied.DiscFault leaves is =
      moved world _ new leaves.rest refl refl is.begins refl refl is
  applied-same members world new outcome applied.Limit leaves is = inside world new outcome leaves is
  applied-same members world new outcome (applied.Stale carried found) leaves is = inside world new outcome leaves is
  applied-same members world new outcome applied.Unrun leaves is = inside world new outcome leaves is
  applied-same members world new outcome applied.Unbuilt leaves is = inside world new outcome leaves is
  applied-same members world new outcome applied.Memory leaves is = inside world new outcome leaves is

  pub works-same : (members : ℕ → List ℕ) (world new : Seen) (answer : Worked) → Works members world answer new
      → For world → For new
  works-same members world new (worked.Applied answer) works is =
      applied-same members world new works.1.outcome answer works.1.leaves is
  works-same members world new worked.Idle works is = subst For (sym works.1) is
  works-same members world new worked.Finished works is = subst For (sym works.1) is
  works-same members world new worked.Limit works is = subst For (sym works.1.1) is
  works-same members world new worked.DiscFault works is = subst For (sym works.1) is
  works-same members world new worked.Memory works is = subst For (sym works) is

  built-here : (world new : Seen) (p : ℕ) (any : Bool) → BuildsHere world p any new → For world → For new
  built-here world new p true builds is = moved world _ new builds.1.1 refl refl is.begins refl refl is
  built-here world new p false builds is = subst For (sym builds.1) is

  pub builds-same : (pairs : ℕ) (world new : Seen) → BuildsEach pairs world new → For world → For new
  builds-same zero world new builds is = subst For (sym builds) is
  builds-same (suc p) world new builds is =
      built-here builds.0 new p builds.1.1.0 builds.1.1.1 (builds-same p world builds.0 builds.1.0 is)

-- where the disc answers a fault its count has risen
pub works-fault : (members : ℕ → List ℕ) (world new : Seen) (answer : Worked) → answer ≡ worked.Applied applied.DiscFault
    → Works members world answer new → HasFailed new
works-fault members world new answer is works =
    let applies : Works members world (worked.Applied applied.DiscFault) new =
    subst (λ (a : Worked). Works members world a new) is works
    in
    let fails = applies.1.leaves in (
      ap (λ (w : Seen). w.failed) fails.rest,
      subst (λ (n : ℕ). Rose n new.kept.disc.faults) (sym (ap (λ (w : Seen). w.faults) fails.rest)) fails.rose,
    )

-- and where it had answered one before
pub works-failed : (members : ℕ → List ℕ) (world new : Seen) (books : Books) (answer : Worked) → answer ≡ worked.DiscFault
    → IsWorld world books → Works members world answer new → HasFailed new
works-failed members world new books answer is holds works =
    let failed : Works members world worked.DiscFault new = subst (λ (a : Worked). Works members world a new) is works in
    subst HasFailed (sym failed.1) (failed.0, holds.failed failed.0)
