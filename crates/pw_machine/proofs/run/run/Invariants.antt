-- Steps have led here, and they count from a turn of the outer loop on.
use Rattle.std.proofs.Common.{◌≡◌, false, []}
use Rattle.std.specs.Prelude.{nat_eq, if◌then◌else◌}
use Rattle.pw_code_meaning.specs.Runs.{Comes}
use Rattle.pw_code_meaning.specs.Sound.{IsSound}
use Rattle.pw_machine.specs.Config.{config_of}
use Rattle.pw_machine.proofs.RunSteps.{CountsFrom, inner, outer}
use Rattle.pw_machine.proofs.run.run.Given as goal

abbrev pub invariant-verb : goal.invariant-verb
invariant-verb l = record {
  comes : Comes l.system (config_of l.fn.top l.fn.context) [] (config_of l.top l.context);
  sound : IsSound l.system (config_of l.top l.context);
}

abbrev pub decreases-verb : goal.decreases-verb
decreases-verb l = outer (config_of l.top l.context)

abbrev pub invariant-count : goal.invariant-count
invariant-count l = record {
  comes : Comes l.system (config_of l.fn.top l.fn.context) [] (config_of l.top l.context);
  counts : CountsFrom l.before (config_of l.top l.context);
  test : l.goes_on ≡ (if l.context.at_verb then false else nat_eq l.context.count l.before);
  sound : IsSound l.system (config_of l.top l.context);
}

abbrev pub decreases-count : goal.decreases-count
decreases-count l = inner l.system l.before (config_of l.top l.context)
