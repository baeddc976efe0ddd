use Rattle.std.proofs.Common.{subst, sym}
use Rattle.pathway.specs.Decks.{PairRuns, RunsDeck, Trials}
use Rattle.pathway.proofs.RunEnds.{pairs, runs, trials}
use Rattle.pathway.proofs.endings.status_of.Goals as goal

pub returns-clause-runs : goal.returns-clause-runs
returns-clause-runs c = λ events bytes text is.
    subst (λ status. RunsDeck events status bytes text) (sym c.status.ensures) (runs c.args.ended events bytes text is)

pub returns-clause-pairs : goal.returns-clause-pairs
returns-clause-pairs c = λ events bytes text is.
    subst (λ status. PairRuns events status bytes text) (sym c.status.ensures) (pairs c.args.ended events bytes text is)

pub returns-clause-trials : goal.returns-clause-trials
returns-clause-trials c = λ seed terms text is.
    subst (λ status. Trials seed terms status text) (sym c.status.ensures) (trials c.args.ended seed terms text is)
