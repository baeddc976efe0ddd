use Rattle.std.proofs.Common.{rules, ◌∷◌, Err}
use Rattle.pw_expand.proofs.Plays.{blank-played, too-many, line-ok, line-err, line-begun}
use Rattle.pw_expand.specs.Events.{event_in}
use Rattle.pw_expand.specs.Schedule.{events_from, most_events}
use Rattle.pw_expand.specs.Systems.{ScheduleGoesOn, played, world_of}
use Rattle.pw_expand.proofs.play.play_line.Goals as goal

pub returns-then-is_blank-clause-goes_on : goal.returns-then-is_blank-clause-goes_on
returns-then-is_blank-clause-goes_on c = λ rest. blank-played _ _ _ _ c.args.line.now rest c.if-is_blank.ensures

pub returns-then-left-eq0-clause-goes_on : goal.returns-then-left-eq0-clause-goes_on
returns-then-left-eq0-clause-goes_on c = λ rest. too-many _ _ _ _ c.args.line.now c.if-is_blank.ensures c.if-left-eq0.true rest

pub returns-in_err-play_event-clause-goes_on : goal.returns-in_err-play_event-clause-goes_on
returns-in_err-play_event-clause-goes_on c =
    let goes : ScheduleGoesOn (Err c.in_err-play_event.field-0.0) (world_of c.play_event.new.world.members.entries c.play_event.new.world.sent.items) c.args.systems c.args.number
    (λ rest. played (world_of c.args.world.now.members.entries c.args.world.now.sent.items) (events_from c.args.systems c.args.number c.args.left (c.args.line.now ∷ rest))) =
    line-err c.in_err-play_event.field-0.0 _ _ _ _ _ c.args.line.now c.if-is_blank.ensures c.if-left-eq0.false c.in_err-play_event.ensures in
    search rules

pub returns-clause-goes_on : goal.returns-clause-goes_on
returns-clause-goes_on c = λ rest. line-ok _ _ _ _ _ c.args.line.now c.if-is_blank.ensures c.if-left-eq0.false c.in_ok-play_event.ensures rest

pub returns-clause-begun : goal.returns-clause-begun
returns-clause-begun c =
    line-begun _ _ c.args.number most_events c.args.left (event_in c.args.systems c.args.line.now) c.if-left-eq0.false c.requires.few c.requires.begun c.in_ok-play_event.ensures
