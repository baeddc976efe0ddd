-- What the played schedule says of the output.
use Rattle.std.proofs.Common.{◌≡◌, ℕ, List, Result, Ok, Err, refl, ap}
use Rattle.pw_net.specs.World.{NetWorld, first_world, net_world_after}
use Rattle.pw_net.proofs.Agrees.{not-aborted, has-voted}
use Rattle.pw_expand.specs.Laws.{Agrees, OutputsAgree}
use Rattle.pw_expand.specs.Printed.{schedule_text, world_text}
use Rattle.pw_expand.specs.Schedule.{Schedule, schedule_of}
use Rattle.pw_expand.specs.Systems.{schedule_played, IsFaultOf}
use Rattle.pw_expand.specs.declared.fault.ScheduleFault.{ScheduleFault}
use Rattle.pw_expand.specs.declared.fault.ScheduleFault.TheVariants.{At, Memory}

-- the text of what came out
pub played-text : (schedule : Result Schedule ℕ) (systems : ℕ) (world : NetWorld) → schedule_played first_world schedule ≡ Ok (systems, world) → schedule_text schedule ≡ Ok (world_text systems world)
played-text (Err fault) systems world is = absurd (cc is)
played-text (Ok schedule) systems world is =
    let pairs : (schedule.systems, net_world_after schedule.events) ≡ (systems, world) = cc is in
    ap (λ (p : ℕ × NetWorld). Ok (world_text p.0 p.1)) pairs

-- the fault of what was refused
pub played-fault : (schedule : Result Schedule ℕ) (fault : ScheduleFault) → IsFaultOf fault (schedule_played first_world schedule) → IsFaultOf fault (schedule_text schedule)
played-fault schedule Memory is = tt
played-fault (Err line) (At number) is = cc is
played-fault (Ok schedule) (At number) is = absurd (cc is)

agrees-in : (schedule : Result Schedule ℕ) (text : List ℕ) → schedule_text schedule ≡ Ok text → (shown : Schedule) × (schedule ≡ Ok shown) × Agrees text shown
agrees-in (Err fault) text is = absurd (cc is)
agrees-in (Ok schedule) text is =
    let same : text ≡ world_text schedule.systems (net_world_after schedule.events) = cc is in (
      schedule,
      refl,
      record {
        is = same;
        agree = λ id one other committed system. not-aborted schedule.events id one committed other system;
        voted = λ id one other committed others ne. (has-voted schedule.events id one committed other others ne).1;
      },
    )

pub outputs-agree : OutputsAgree
outputs-agree bytes text is = agrees-in (schedule_of bytes) text is
