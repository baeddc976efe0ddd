-- A new disc pair is a disc of its system.
use Rattle.std.proofs.Common.{◌≡◌, List, ap, subst, sym}
use Rattle.pw_code.specs.declared.system.System.{System}
use Rattle.pw_disc.specs.Pair.{PairState}
use Rattle.pw_disc.specs.declared.standing.DiscPairState.TheVariants.{Two}
use Rattle.pw_disc.specs.declared.script.DiscLine.{DiscLine}
use Rattle.pw_event.specs.declared.script.FailLine.{FailLine}
use Rattle.pw_world_model.specs.Worlds.{IsDiscOf}
use Rattle.pw_world_model.proofs.Starts.{starts}
use Rattle.pw_tmf.specs.Starting.{told_at_start}

-- a pair of two members in which no unit has begun
abbrev pub new-pair : System → List DiscLine → PairState
new-pair system lines = record { standing = Two; told = told_at_start system; lines = lines; done = 0 }

pub pair-starts : (system : System) (script : List FailLine) (lines : List DiscLine) (pair : PairState)
    → pair ≡ new-pair system lines → IsDiscOf system script pair.told
pair-starts system script lines pair is =
    subst (IsDiscOf system script) (sym (ap (λ (p : PairState). p.told) is)) (starts system script)
