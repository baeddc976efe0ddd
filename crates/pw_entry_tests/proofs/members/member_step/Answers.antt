-- What is found for a seat is a step of the pair; where nothing is, the terminal is passed; and behind the last one, the
-- noted terminal is all that there is.
use Rattle.std.proofs.Common.{Some, ap, cond, subst, ◌∙◌}
use Rattle.std.specs.Option.{option_map}
use Rattle.pw_event.specs.declared.event.Event.TheVariants.{Applied}
use Rattle.pw_world_store.specs.Keeps.{kept_in}
use Rattle.pw_world_state.specs.Entered.{tcp_of}
use Rattle.pw_actor_queue.specs.declared.actor.Actor.TheVariants.{Pair}
use Rattle.pw_entry_tests.proofs.Found.{none-if}
use Rattle.pw_entry_tests.proofs.OfPair.{behind-all, behind-more, built-step, found-of-pair, member-of-seat}
use Rattle.pw_entry_tests.specs.Members.{IsBuiltFound}
use Rattle.pw_entry_tests.specs.Steps.{IsStepFound}
use Rattle.pw_entry_tests.proofs.members.member_step.Goals as goal

pub built_step-requires-clause-there : goal.built_step-requires-clause-there
built_step-requires-clause-there g c κs within =
    (member-of-seat c.args.keep.now.system (kept_in g.D.Disc.told c.args.keep.now) c.args.tcp c.seats-seats.result.now c.pair.result.now
    c.seats-seats.ensures c.pair.ensures.members c.seat-item.result c.loop-seat.seat-index c.loop-seat-test.true c.seat-item.is).there

pub is_unbuilt-requires-clause-there : goal.is_unbuilt-requires-clause-there
is_unbuilt-requires-clause-there g c κs within =
    (member-of-seat c.args.keep.now.system (kept_in g.D.Disc.told c.args.keep.now) c.args.tcp c.seats-seats.result.now c.pair.result.now
    c.seats-seats.ensures c.pair.ensures.members c.seat-item.result c.loop-seat.seat-index c.loop-seat-test.true c.seat-item.is).there

pub returns-in-Some : goal.returns-in-Some
returns-in-Some g c =
    let system = c.args.keep.now.system in
    let kept = kept_in g.D.Disc.told c.args.keep.now in
    let seat = c.seat-item.result in
    let member =
    member-of-seat system kept c.args.tcp c.seats-seats.result.now c.pair.result.now c.seats-seats.ensures c.pair.ensures.members seat
    c.loop-seat.seat-index c.loop-seat-test.true c.seat-item.is
    in
    built-step system kept c.args.tcp seat.terminal member.of_pair c.in-Some.entry c.in-Some.ensures

pub loop-seat-preserved : goal.loop-seat-preserved
loop-seat-preserved g c =
    let system = c.args.keep.now.system in
    let kept = kept_in g.D.Disc.told c.args.keep.now in
    let seats = c.seats-seats.result.now in
    let seat = c.seat-item.result in
    let i = c.loop-seat.seat-index in
    let member =
    member-of-seat system kept c.args.tcp seats c.pair.result.now c.seats-seats.ensures c.pair.ensures.members seat i c.loop-seat-test.true
    c.seat-item.is
    in
    let passed =
    subst (IsBuiltFound system kept (tcp_of system seat.terminal) seat.terminal) (none-if c.built_step.result c.in_default.not-Some)
    c.built_step.ensures
    in
    behind-more system kept c.args.tcp seats i seat c.loop-seat-test.true c.seat-item.is c.loop-seat.unbuilt member passed c.loop-seat.invariant
    c.noted-unbuilt.result (c.noted-unbuilt.ensures ∙ ap (λ note. cond note (Some seat.terminal) c.loop-seat.unbuilt) c.is_unbuilt.ensures)

pub returns-in-Some-unbuilt : goal.returns-in-Some-unbuilt
returns-in-Some-unbuilt g c =
    let system = c.args.keep.now.system in
    let kept = kept_in g.D.Disc.told c.args.keep.now in
    let seats = c.seats-seats.result.now in
    subst (λ found. IsStepFound system kept (Pair c.args.tcp) (option_map Applied found)) c.in-Some-unbuilt.is
    (found-of-pair system kept c.args.tcp seats c.pair.result.now c.seats-seats.ensures c.pair.ensures.members c.requires.taken c.requires.raised
    c.loop-seat.unbuilt (behind-all system kept c.args.tcp seats c.loop-seat.seat-index c.loop-seat.unbuilt c.loop-seat-test.false c.loop-seat.invariant))

pub returns-in-None : goal.returns-in-None
returns-in-None g c =
    let system = c.args.keep.now.system in
    let kept = kept_in g.D.Disc.told c.args.keep.now in
    let seats = c.seats-seats.result.now in
    subst (λ found. IsStepFound system kept (Pair c.args.tcp) (option_map Applied found)) c.in-None.is
    (found-of-pair system kept c.args.tcp seats c.pair.result.now c.seats-seats.ensures c.pair.ensures.members c.requires.taken c.requires.raised
    c.loop-seat.unbuilt (behind-all system kept c.args.tcp seats c.loop-seat.seat-index c.loop-seat.unbuilt c.loop-seat-test.false c.loop-seat.invariant))
