-- The next step in the states of runs.
use Rattle.pw_paired.specs.Step.{after}
use Rattle.pw_tcp.proofs.Fitting.{next-fits}
use Rattle.pw_tcp.proofs.Resting as resting
use Rattle.pw_tcp.proofs.Running.{fits-together, may-step}
use Rattle.pw_tcp.proofs.Waiting as waiting
use Rattle.pw_tcp.proofs.laws.run_laws.Goals as goal

pub returns-clause-may : goal.returns-clause-may
returns-clause-may c = may-step

pub returns-clause-together : goal.returns-clause-together
returns-clause-together c = fits-together

pub returns-clause-fits : goal.returns-clause-fits
returns-clause-fits c = λ sys b log run t live member.
    next-fits sys (after sys log) t live (may-step sys b log run t live member) (fits-together sys b log run t live member)

pub returns-clause-waits : goal.returns-clause-waits
returns-clause-waits c = λ sys b log run t live member.
    waiting.waits sys (after sys log) t (may-step sys b log run t live member) (fits-together sys b log run t live member)

pub returns-clause-rests : goal.returns-clause-rests
returns-clause-rests c = resting.rests
