-- The numbers that begin an image, as a reader gives them.
use Rattle.pw_image.specs.Reading.{Counts}
use Rattle.pw_image.specs.declared.counts.Counts.{Counts as CountsRead}

-- they are read in this order
abbrev pub seen_counts : CountsRead → Counts
seen_counts counts = (
  counts.termination,
  (
    counts.restarts,
    (counts.phase, (counts.attempt, (counts.shown, (counts.entries, counts.units)))),
  ),
)
