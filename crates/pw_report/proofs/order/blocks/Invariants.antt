use Rattle.pw_report.specs.Read.{IsWorldReadTo}
use Rattle.pw_report.proofs.order.blocks.Given as goal

-- the entries so far are read
abbrev pub invariant-loop-place : goal.invariant-loop-place
invariant-loop-place g l = IsWorldReadTo g.D.Disc.told l.world l.place l.reading l.order.items
