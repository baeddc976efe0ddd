-- What is printed of a run that ended so is defined by the status of its end.
use Rattle.std.proofs.Common.{ℕ, List}
use Rattle.pathway.specs.Decks.{PairRuns, RunsDeck, Trials}
use Rattle.pw_deck_runs.specs.Headline.{Reports}
use Rattle.pw_deck_runs.specs.Trials.{Tries}
use Rattle.pw_deck_runs.specs.disc.PairRuns.{IsPairRun}
use Rattle.pw_deck_runs.specs.declared.disc.ending.PairRan.TheVariants.{Ended as PairEnded}
use Rattle.pw_workers.specs.Endings.{status_of}
use Rattle.pw_workers.specs.declared.ending.LogEnding.{LogEnding}
use Rattle.pw_workers.specs.declared.ending.LogEnding.TheVariants.{Regular, Irregular, Full}

pub runs : (ended : LogEnding) (events : ℕ) (bytes text : List ℕ) → Reports bytes events ended text
    → RunsDeck events (status_of ended) bytes text
runs Regular events bytes text is = is
runs Irregular events bytes text is = is
runs Full events bytes text is = is

pub pairs : (ended : LogEnding) (events : ℕ) (bytes text : List ℕ) → IsPairRun bytes events (PairEnded ended) text
    → PairRuns events (status_of ended) bytes text
pairs Regular events bytes text is = is
pairs Irregular events bytes text is = is
pairs Full events bytes text is = is

pub trials : (ended : LogEnding) (seed terms : ℕ) (text : List ℕ) → Tries seed terms ended text
    → Trials seed terms (status_of ended) text
trials Regular seed terms text is = is
trials Irregular seed terms text is = is
trials Full seed terms text is = is
