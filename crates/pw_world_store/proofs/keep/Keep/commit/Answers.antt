use Rattle.std.proofs.Common.{◌<◌, ◌∙◌, ap, refl, length}
use Rattle.pw_base.specs.Outside.{counted}
use Rattle.pw_code.specs.declared.unit.Unit.{Unit}
use Rattle.pw_world_state.specs.Changes.{unit_at, without_unit}
use Rattle.pw_world_state.specs.Kept.{Kept}
use Rattle.pw_world_store.specs.Seats.{seat_unit_over}
use Rattle.pw_tmf.specs.Units.{after_commit}
use Rattle.pw_world_store.proofs.Parts.{alike-at, keep-ended, seat-there, unit-step}
use Rattle.pw_world_store.proofs.keep.Keep.commit.Goals as goal

pub invariant_of-self-2 : goal.invariant_of-self-2
invariant_of-self-2 g c =
    let t = c.args.terminal in
    let disc = g.D.Disc.told c.self.inside.disc in
    let unit = c.unit_at-unit.result in
    let lt : t < length c.self.inside.seats.items = seat-there t c.self.invariant (rw (← c.self.view_is) at c.requires.known) in
    keep-ended c.self.inside.system c.self.inside.seats.items disc disc (g.D.Disc.told c.commit.new.self) c.self.inside.classes c.self.inside.jobs.items c.self.inside.pairs.items
    t unit c.args.reply (counted disc.commits) c.index_mut.result.now c.end_unit.new.self c.self.invariant lt (ap (λ (u : Unit). u.terminal) c.unit_at-unit.ensures)
    c.index_mut.ensures.value c.end_unit.ensures refl refl refl c.in_ok-commit.ensures.ok

pub returns-clause-ok : goal.returns-clause-ok
returns-clause-ok g c =
    let t = c.args.terminal in
    let disc = g.D.Disc.told c.self.inside.disc in
    let lt : t < length c.self.inside.seats.items = seat-there t c.self.invariant (rw (← c.self.view_is) at c.requires.known) in
    let asked = rw (← c.self.view_is) at c.unit_at-unit.ensures in
    rw (← c.self.view_is)
    (unit-step g.D.Disc.told without_unit (λ (kept : Kept). after_commit kept.disc (unit_at kept t c.args.number) c.args.reply) (λ (kept : Kept). kept.births) (record { system = c.self.inside.system; seats = c.self.inside.seats.items; disc = c.self.inside.disc; book = c.self.inside.classes; jobs = c.self.inside.jobs.items; pairs = c.self.inside.pairs.items; births = c.self.inside.births }) c.commit.new.self c.self.inside.births t c.end_unit.new.self lt
    (alike-at seat_unit_over without_unit (λ s. refl) c.self.inside.seats.items t c.index_mut.result.now c.end_unit.new.self lt
    c.index_mut.ensures.value c.end_unit.ensures)
    (c.in_ok-commit.ensures.ok ∙ ap (λ (u : Unit). after_commit disc u c.args.reply) asked) refl)
