-- What is promised of a log.
use Rattle.std.specs.Prelude.{List}
use Rattle.pw_event.specs.declared.event.Event.{Event}
use Rattle.pw_laws.specs.progress.Failures.{Losses, Suspensions}
use Rattle.pw_onecopy.specs.Behaviour.{Behaviour}
use Rattle.pw_paired.specs.Headline.{EndsOnce, IsSerializable}
use Rattle.pw_paired.specs.Step.{IsRun}

-- Whatever fails: the log is a run of the paired system. The one-copy machine runs its serial order, where units run one
-- at a time, with the log's screens, each numbered refresh counted once, and its records. Each unit number ends at most
-- once. A pair is lost only by failures in the log, and its terminals, and no others, end as Lost. A terminal is suspended
-- only after as many restarts as it may have, each with a cause that held there.
pub record KeepsPromises (sys : Behaviour) (log : List Event) : Type 0 where
  pub run : IsRun sys log
  pub serial : IsSerializable sys log
  pub once : EndsOnce sys log
  pub losses : Losses sys log
  pub suspensions : Suspensions sys log
