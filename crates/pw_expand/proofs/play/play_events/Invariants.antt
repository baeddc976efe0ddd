use Rattle.std.proofs.Common.{◌≡◌, ◌+◌, ◌-◌, ◌≤◌, length}
use Rattle.pw_sections.specs.Lines.{lines}
use Rattle.pw_expand.specs.Schedule.{events_from, most_events}
use Rattle.pw_expand.specs.Systems.{HasBegun, played, world_of}
use Rattle.pw_expand.proofs.play.play_events.Given as goal

abbrev pub invariant-loop-line : goal.invariant-loop-line
invariant-loop-line l = record {
  so_far : played (world_of l.world.members.entries l.world.sent.items) (events_from l.systems l.number l.left (lines l.rest))
      ≡ played (world_of l.initial.world.members.entries l.initial.world.sent.items) (events_from l.systems l.first_line most_events (lines l.text));
  begun : HasBegun (most_events - l.left) (world_of l.world.members.entries l.world.sent.items);
  few : l.left ≤ most_events;
  number : l.number + length l.rest ≤ l.first_line + length l.text;
}

abbrev pub decreases-loop-line : goal.decreases-loop-line
decreases-loop-line l = length l.rest
