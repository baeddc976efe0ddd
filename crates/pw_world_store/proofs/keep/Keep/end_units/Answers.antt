use Rattle.std.proofs.Common.{◌∙◌, ◌<◌, List, ap, ap₂, refl, subst, sym}
use Rattle.std.specs.Prelude.{All, true}
use Rattle.pw_world_store.specs.Each.{changed_each}
use Rattle.pw_world_store.specs.Keeps.{IsKeep, kept_by}
use Rattle.pw_world_state.specs.Changes.{without_unit}
use Rattle.pw_world_state.specs.Kept.{Kept}
use Rattle.pw_world_store.specs.Seats.{seat_unit_over}
use Rattle.pw_world_store.specs.declared.seat.Seat.{Seat}
use Rattle.pw_tmf.specs.Leaving.{open_units}
use Rattle.pw_tmf.specs.Told.{Told}
use Rattle.pw_tmf.specs.Units.{HaveDistinctTerminals, CanBackOut, all_backed_out}
use Rattle.pw_tmf.proofs.LeftUnits.{may-leave}
use Rattle.pw_world_store.proofs.Changed.{changed-are, keep-over, kept-each}
use Rattle.pw_world_store.proofs.keep.Keep.end_units.Goals as goal

pub back_out-requires-clause-apart : goal.back_out-requires-clause-apart
back_out-requires-clause-apart g c κs within =
    let disc = g.D.Disc.told c.self.inside.disc in
    let low = subst (λ n. All (λ t. t < n) c.args.terminals.now) (sym c.self.invariant.disc_terminals) (rw (← c.self.view_is) at c.requires.known) in
    subst HaveDistinctTerminals (sym (c.deref.ensures.value ∙ (rw (← c.self.view_is) at c.in_ok-units.ensures))) (may-leave disc c.args.terminals.now c.requires.distinct low).0

pub back_out-requires-clause-may : goal.back_out-requires-clause-may
back_out-requires-clause-may g c κs within =
    let disc = g.D.Disc.told c.self.inside.disc in
    let low = subst (λ n. All (λ t. t < n) c.args.terminals.now) (sym c.self.invariant.disc_terminals) (rw (← c.self.view_is) at c.requires.known) in
    subst (All (CanBackOut true disc)) (sym (c.deref.ensures.value ∙ (rw (← c.self.view_is) at c.in_ok-units.ensures))) (may-leave disc c.args.terminals.now c.requires.distinct low).1

pub end_units-requires : goal.end_units-requires
end_units-requires g c =
    subst (λ n. All (λ t. t < n) c.args.terminals.now) (sym c.self.invariant.terminals) (rw (← c.self.view_is) at c.requires.known)

pub invariant_of-self-2 : goal.invariant_of-self-2
invariant_of-self-2 g c =
    let disc = g.D.Disc.told c.self.inside.disc in
    let all = subst (λ n. All (λ t. t < n) c.args.terminals.now) (sym c.self.invariant.terminals) (rw (← c.self.view_is) at c.requires.known) in
    subst (λ (seats : List Seat). IsKeep c.self.inside.system seats (g.D.Disc.told c.back_out.new.disc) c.self.inside.classes c.self.inside.jobs.items c.self.inside.pairs.items)
    (sym c.end_units.ensures)
    (keep-over c.self.inside.system c.args.terminals.now c.self.inside.seats.items disc (g.D.Disc.told c.back_out.new.disc) c.self.inside.classes c.self.inside.jobs.items c.self.inside.pairs.items
    c.self.invariant all (c.in_ok-back_out.ensures.ok ∙ ap (all_backed_out true disc) (c.deref.ensures.value ∙ (rw (← c.self.view_is) at c.in_ok-units.ensures))))

pub returns-clause-ok : goal.returns-clause-ok
returns-clause-ok g c =
    let disc = g.D.Disc.told c.self.inside.disc in
    let all = subst (λ n. All (λ t. t < n) c.args.terminals.now) (sym c.self.invariant.terminals) (rw (← c.self.view_is) at c.requires.known) in
    let told = c.in_ok-back_out.ensures.ok ∙ ap (all_backed_out true disc) (c.deref.ensures.value ∙ (rw (← c.self.view_is) at c.in_ok-units.ensures)) in
    rw (← c.self.view_is) (record {
      system = refl;
      kept =
          ap₂ (λ (seats : List Seat) (d : Told). kept_by seats d c.self.inside.classes c.self.inside.jobs.items c.self.inside.pairs.items c.self.inside.births) c.end_units.ensures told
          ∙ ap (λ (k : Kept). record k { disc = all_backed_out true disc (open_units disc c.args.terminals.now) })
          (kept-each (λ t. seat_unit_over) (λ t. without_unit) c.args.terminals.now c.self.inside.seats.items (changed_each (λ t. seat_unit_over) c.args.terminals.now c.self.inside.seats.items) disc c.self.inside.classes c.self.inside.jobs.items c.self.inside.pairs.items c.self.inside.births
          (λ u low. refl) all (changed-are (λ t. seat_unit_over) (λ t s. refl) c.args.terminals.now c.self.inside.seats.items all));
    })
