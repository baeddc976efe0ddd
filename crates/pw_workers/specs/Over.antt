-- What the run of a system over a disc leaves.
use Rattle.std.specs.Prelude.{ℕ, List, []}
use Rattle.pw_code.specs.declared.system.System.{System}
use Rattle.pw_event.specs.declared.script.FailLine.{FailLine}
use Rattle.pw_code_meaning.specs.OfSystem.{behaviour}
use Rattle.pw_world.specs.States.{seen}
use Rattle.pw_world_model.specs.Answers.{HasFailed}
use Rattle.pw_workers.specs.Endings.{EndsAs}
use Rattle.pw_workers.specs.declared.over.RunEnding as over
use Rattle.pw_workers.specs.declared.over.RunEnding.TheVariants.{Ended, Failed}
use Rattle.pw_tmf.specs.Told.{Told}
use Rattle.pw_workers.specs.Ends.{RunGoesOn, IsFor}

-- The world is one of this system, script and limit, over this disc: its log has ended so; or its disc has failed, and
-- its log is neither finished nor as long as it may be.
abbrev pub LeavesWorld : {D : Type 0} → (D → Told) → System → List FailLine → ℕ → D → over.RunEnding D → Type 0
LeavesWorld told system lines events disc (Ended ended world) =
    IsFor system lines [] events (told disc).faults (seen told world)
    × EndsAs ended events (behaviour lines system) (seen told world).log
LeavesWorld told system lines events disc (Failed world) =
    IsFor system lines [] events (told disc).faults (seen told world)
    × (HasFailed (seen told world) × RunGoesOn (seen told world))
