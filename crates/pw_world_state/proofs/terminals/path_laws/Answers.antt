use Rattle.std.proofs.Common.{refl}
use Rattle.pw_code_meaning.specs.Config.{starting}
use Rattle.pw_world_state.proofs.Arrived.{answered-one, at-its-verb, one-context, one-ready, runs-on, stands-behind, stands-ready}
use Rattle.pw_world_state.proofs.terminals.path_laws.Goals as goal

pub returns-clause-starts : goal.returns-clause-starts
returns-clause-starts c system terminal = record { at = starting system terminal.program; arrives = refl; is = refl }

pub returns-clause-runs : goal.returns-clause-runs
returns-clause-runs c = runs-on

pub returns-clause-answered : goal.returns-clause-answered
returns-clause-answered c = answered-one

pub returns-clause-one : goal.returns-clause-one
returns-clause-one c = one-context

pub returns-clause-one_ready : goal.returns-clause-one_ready
returns-clause-one_ready c = one-ready

pub returns-clause-at_verb : goal.returns-clause-at_verb
returns-clause-at_verb c = at-its-verb

pub returns-clause-stands : goal.returns-clause-stands
returns-clause-stands c = stands-behind

pub returns-clause-ready : goal.returns-clause-ready
returns-clause-ready c = stands-ready
