use Rattle.std.proofs.Common.{◌<◌, ◌∙◌, List, ap, refl, subst, sym}
use Rattle.std.specs.Prelude.{All}
use Rattle.pw_world_store.specs.Each.{changed_each}
use Rattle.pw_world_store.specs.Keeps.{IsKeep, kept_by}
use Rattle.pw_world_state.specs.Changes as kept
use Rattle.pw_world_store.specs.Seats.{without_path}
use Rattle.pw_world_store.specs.declared.seat.Seat.{Seat}
use Rattle.pw_world_store.proofs.Changed.{changed-are, keep-alike, kept-each}
use Rattle.pw_world_store.proofs.keep.Keep.lose_paths.Goals as goal

pub lose_paths-requires : goal.lose_paths-requires
lose_paths-requires g c =
    subst (λ n. All (λ t. t < n) c.args.terminals.now) (sym c.self.invariant.terminals) (rw (← c.self.view_is) at c.requires.known)

pub invariant_of-self : goal.invariant_of-self
invariant_of-self g c =
    let all = subst (λ n. All (λ t. t < n) c.args.terminals.now) (sym c.self.invariant.terminals) (rw (← c.self.view_is) at c.requires.known) in
    subst (λ (seats : List Seat). IsKeep c.self.inside.system seats (g.D.Disc.told c.self.inside.disc) c.self.inside.classes c.self.inside.jobs.items c.self.inside.pairs.items)
    (sym c.lose_paths.ensures)
    (keep-alike c.self.inside.system (λ t. without_path) (λ t s h. tt) (λ t s. refl) (λ t s. refl)
    c.args.terminals.now c.self.inside.seats.items (changed_each (λ t. without_path) c.args.terminals.now c.self.inside.seats.items) (g.D.Disc.told c.self.inside.disc) c.self.inside.classes c.self.inside.jobs.items c.self.inside.pairs.items c.self.invariant
    (changed-are (λ t. without_path) (λ t s. refl) c.args.terminals.now c.self.inside.seats.items all))

pub returns : goal.returns
returns g c =
    let all = subst (λ n. All (λ t. t < n) c.args.terminals.now) (sym c.self.invariant.terminals) (rw (← c.self.view_is) at c.requires.known) in
    rw (← c.self.view_is) (record {
      system = refl;
      kept =
          ap (λ (seats : List Seat). kept_by seats (g.D.Disc.told c.self.inside.disc) c.self.inside.classes c.self.inside.jobs.items c.self.inside.pairs.items c.self.inside.births) c.lose_paths.ensures
          ∙ kept-each (λ t. without_path) (λ t. kept.without_path) c.args.terminals.now c.self.inside.seats.items (changed_each (λ t. without_path) c.args.terminals.now c.self.inside.seats.items) (g.D.Disc.told c.self.inside.disc) c.self.inside.classes c.self.inside.jobs.items c.self.inside.pairs.items c.self.inside.births
          (λ u low. refl) all (changed-are (λ t. without_path) (λ t s. refl) c.args.terminals.now c.self.inside.seats.items all);
    })
