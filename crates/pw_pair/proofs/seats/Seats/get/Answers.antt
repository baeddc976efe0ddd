-- The seat at the terminal's place is the terminal's.
use Rattle.std.proofs.Common.{sym, ap, ◌∙◌, arith}
use Rattle.pw_pair.specs.Seats.{is_sound}
use Rattle.pw_pair.proofs.At.{default-find, each-sound, seat-find, within-at}
use Rattle.pw_pair.proofs.seats.Seats.get.Goals as goal

pub index-requires : goal.index-requires
index-requires c =
    let lt = within-at c.self.inside.places c.self.inside.seats.items c.args.self.now c.args.terminal c.self.view_is c.self.invariant.places_are
    c.in-Some.place.now (sym c.in-Some.ensures.value) in
    omega (arith, lt, c.self.inside.seats.ok.0)

pub returns-in-Some-clause-seat : goal.returns-in-Some-clause-seat
returns-in-Some-clause-seat c =
    sym (seat-find c.self.inside.places c.self.inside.seats.items c.args.self.now c.args.terminal c.self.view_is c.self.invariant.places_are
    c.in-Some.place.now (sym c.in-Some.ensures.value) c.index.result.now c.index.ensures)

pub returns-in-None-clause-seat : goal.returns-in-None-clause-seat
returns-in-None-clause-seat c =
    sym (default-find c.self.inside.places c.self.inside.seats.items c.args.self.now c.args.terminal c.self.view_is c.self.invariant.places_are
    (sym c.in-None.ensures.value))

pub returns-in-Some-clause-sound : goal.returns-in-Some-clause-sound
returns-in-Some-clause-sound c =
    ap is_sound c.index.ensures
    ∙ each-sound is_sound c.self.inside.seats.items c.in-Some.place.now c.index.result.now c.self.invariant.sound
    (within-at c.self.inside.places c.self.inside.seats.items c.args.self.now c.args.terminal c.self.view_is c.self.invariant.places_are
    c.in-Some.place.now (sym c.in-Some.ensures.value))
