use Rattle.std.proofs.Common.{◌∙◌, ap, length, subst, sym}
use Rattle.pw_code.specs.declared.system.System.{System}
use Rattle.pw_event.specs.Due.{owner_of}
use Rattle.pw_world_state.specs.Entered.{tcp_of}
use Rattle.pw_world.specs.Ledgers.{books_of}
use Rattle.pw_world.specs.States.{WorldState, seen}
use Rattle.pw_world_model.proofs.Steps.{owner, there}
use Rattle.pw_world_model.specs.Dues.{IsOwner}
use Rattle.pw_world.proofs.world.World.booking.Goals as goal

pub mode_of-requires-after_bounds : goal.mode_of-requires-after_bounds
mode_of-requires-after_bounds g c κs within =
    let w : WorldState g.row.D.Denot = record { keep = c.self.inside.keep; first = c.self.inside.first.value; script = c.self.inside.script.lines; limit = c.self.inside.limit; failed = c.self.inside.failed; ledger = c.self.inside.ledger } in
    let can = rw (← c.self.view_is) at c.requires in
    subst (IsOwner (length w.keep.system.tcps) (length w.keep.system.classes))
    (sym (c.owner_of-owner.ensures ∙ ap (λ (s : System). owner_of (tcp_of s) c.args.entry.now) c.system.ensures))
    (owner w.keep.system w.script c.self.invariant.deck c.args.entry.now (there (seen g.D.Disc.told w) (books_of w.ledger) c.self.invariant c.args.entry.now can.legal))
