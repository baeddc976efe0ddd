use Rattle.pw_world_model.proofs.OfUnits.{awaits, calls, locks, started, works}
use Rattle.pw_world_model.proofs.known.known_laws.Goals as goal

pub returns-clause-rule : goal.returns-clause-rule
returns-clause-rule c world books w = w.stands.disc.rule

pub returns-clause-started : goal.returns-clause-started
returns-clause-started c world books t own w is = started world books w t own is

pub returns-clause-awaits : goal.returns-clause-awaits
returns-clause-awaits c world books t awaited w low is = awaits world books w t awaited low is

pub returns-clause-locks : goal.returns-clause-locks
returns-clause-locks c world books w = locks world books w

pub returns-clause-works : goal.returns-clause-works
returns-clause-works c world books p i request w low is = works world books w p i request low is

pub returns-clause-calls : goal.returns-clause-calls
returns-clause-calls c world books p i context call w low is at_verb asks = calls world books w p i context call low is at_verb asks
