-- Every run of a deck keeps what is promised of logs.
use Rattle.std.specs.Prelude.{List}
use Rattle.pw_event.specs.declared.event.Event.{Event}
use Rattle.pw_laws.proofs.Failures.{runs-losses, runs-suspensions}
use Rattle.pw_laws.proofs.blocks.Serializable.{is-serializable}
use Rattle.pw_laws.proofs.ends.EndsOnce.{ends-once}
use Rattle.pw_laws.specs.serial.Promises.{KeepsPromises}
use Rattle.pw_onecopy.specs.Behaviour.{Behaviour}
use Rattle.pw_onecopy.specs.IsBehaviour.{IsBehaviour}
use Rattle.pw_paired.specs.Step.{IsRun}

pub keeps-promises : (sys : Behaviour) → IsBehaviour sys → (log : List Event) → IsRun sys log → KeepsPromises sys log
keeps-promises sys behaves log run = record {
  run = run;
  serial = is-serializable sys behaves log run;
  once = ends-once sys behaves log run;
  losses = runs-losses sys log run;
  suspensions = runs-suspensions sys behaves log run;
}
