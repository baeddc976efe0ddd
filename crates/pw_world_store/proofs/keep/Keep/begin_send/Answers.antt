use Rattle.std.proofs.Common.{◌<◌, ◌∙◌, ap, length}
use Rattle.pw_code.specs.declared.unit.Unit.{Unit}
use Rattle.pw_world_state.specs.Changes.{attempted, births_behind, unit_at}
use Rattle.pw_world_state.specs.Kept.{Kept}
use Rattle.pw_tmf.specs.Units.{begun}
use Rattle.pw_world_store.proofs.Parts.{keep-begun, seat-there, started-at, unit-step}
use Rattle.pw_world_store.proofs.keep.Keep.begin_send.Goals as goal

pub invariant_of-self-2 : goal.invariant_of-self-2
invariant_of-self-2 g c =
    let t = c.args.terminal in
    let lt : t < length c.self.inside.seats.items = seat-there t c.self.invariant (rw (← c.self.view_is) at c.requires.known) in
    keep-begun c.self.inside.system c.self.inside.seats.items (g.D.Disc.told c.self.inside.disc) (g.D.Disc.told c.begin.new.self) c.self.inside.classes c.self.inside.jobs.items c.self.inside.pairs.items
    t c.unit_at-unit.result c.args.start c.index_mut.result.now c.begin-2.new.self c.self.invariant lt (ap (λ (u : Unit). u.terminal) c.unit_at-unit.ensures)
    c.index_mut.ensures.value c.begin-2.ensures c.in_ok-begin.ensures.ok

pub returns-clause-ok : goal.returns-clause-ok
returns-clause-ok g c =
    let t = c.args.terminal in
    let lt : t < length c.self.inside.seats.items = seat-there t c.self.invariant (rw (← c.self.view_is) at c.requires.known) in
    let asked = rw (← c.self.view_is) at c.unit_at-unit.ensures in
    rw (← c.self.view_is)
    (unit-step g.D.Disc.told attempted (λ (kept : Kept). begun kept.disc (unit_at kept t c.args.number)) (λ (kept : Kept). births_behind (kept.disc.units t) kept.births) (record { system = c.self.inside.system; seats = c.self.inside.seats.items; disc = c.self.inside.disc; book = c.self.inside.classes; jobs = c.self.inside.jobs.items; pairs = c.self.inside.pairs.items; births = c.self.inside.births }) c.begin.new.self c.births_behind-births.result t c.begin-2.new.self lt
    (started-at c.self.inside.seats.items t c.unit_at-unit.result c.args.start c.index_mut.result.now c.begin-2.new.self lt c.index_mut.ensures.value c.begin-2.ensures
    (rw (← c.self.view_is) at c.requires.start))
    (c.in_ok-begin.ensures.ok ∙ ap (begun (g.D.Disc.told c.self.inside.disc)) asked)
    (rw (← c.self.view_is) at c.births_behind-births.ensures))
