use Rattle.pw_world.proofs.FoundEnabled.{all-unbuilt, is-built, none-has, not-unbuilt, some-shows}
use Rattle.pw_world.proofs.laws.found_laws.Goals as goal

pub returns-clause-some : goal.returns-clause-some
returns-clause-some c world books actor entry w undue unfinished values step = some-shows world books w actor entry undue unfinished values step

pub returns-clause-none : goal.returns-clause-none
returns-clause-none c world books actor w undue none values found has = none-has world books w actor undue none values found has

pub returns-clause-unbuilt : goal.returns-clause-unbuilt
returns-clause-unbuilt c world books actor entry w undue none values found e waits = all-unbuilt world books w actor entry undue none values found e waits

pub returns-clause-other : goal.returns-clause-other
returns-clause-other c world actor entry e built unbuilt = not-unbuilt world actor entry e built unbuilt

pub returns-clause-built : goal.returns-clause-built
returns-clause-built c world entry built passes = is-built world entry built passes
