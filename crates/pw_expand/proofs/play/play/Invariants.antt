use Rattle.std.proofs.Common.{◌≡◌, ◌+◌, ◌≤◌, length}
use Rattle.pw_sections.specs.Lines.{lines}
use Rattle.pw_expand.specs.Schedule.{schedule_from}
use Rattle.pw_expand.specs.Systems.{HasBegun, schedule_played, world_of}
use Rattle.pw_expand.proofs.play.play.Given as goal

abbrev pub invariant-loop-line : goal.invariant-loop-line
invariant-loop-line l = record {
  so_far : schedule_played (world_of l.world.members.entries l.world.sent.items) (schedule_from l.number (lines l.rest))
      ≡ schedule_played (world_of l.initial.world.members.entries l.initial.world.sent.items) (schedule_from 1 (lines l.text));
  begun : HasBegun 0 (world_of l.world.members.entries l.world.sent.items);
  number : l.number + length l.rest ≤ 1 + length l.text;
}

abbrev pub decreases-loop-line : goal.decreases-loop-line
decreases-loop-line l = length l.rest
