use Rattle.std.proofs.Common.{◌≡◌, ◌∙◌, ap, sym}
use Rattle.pw_code.specs.declared.system.System.{System}
use Rattle.pw_event.specs.Due.{owner_of}
use Rattle.pw_world_state.specs.Entered.{tcp_of}
use Rattle.pw_world.proofs.Entering.{same-option}
use Rattle.pw_world.specs.Ledgers.{books_of}
use Rattle.pw_world.specs.States.{WorldState, seen}
use Rattle.pw_world_model.proofs.Steps.{due-same}
use Rattle.pw_world_model.specs.Dues.{due_in}
use Rattle.pw_world_model.specs.Seen.{state_of, sys_of}
use Rattle.pw_paired.specs.Step.{line_due}
use Rattle.pw_world.proofs.world.World.is_due.Goals as goal

pub returns : goal.returns
returns g c =
    let w : WorldState g.row.D.Denot = record { keep = c.self.inside.keep; first = c.self.inside.first.value; script = c.self.inside.script.lines; limit = c.self.inside.limit; failed = c.self.inside.failed; ledger = c.self.inside.ledger } in
    let world = seen g.D.Disc.told w in
    let event = c.args.event.now in
    let due : c.due.result ≡ line_due (sys_of world) (state_of world) event =
    c.due.ensures
    ∙ (ap (due_in w.ledger.due)
    (c.owner_of.ensures ∙ ap (λ (s : System). owner_of (tcp_of s) event) c.system.ensures)
    ∙ due-same world (books_of w.ledger) c.self.invariant event
    (rw (← c.self.view_is) at c.requires)) in
    let both = same-option c.due.result c.line_wanted.result in
    rw (← c.self.view_is) (
      (λ yes. sym due ∙ (both.0 (sym c.eq.ensures ∙ yes) ∙ c.line_wanted.ensures)),
      (λ is. c.eq.ensures ∙ both.1 (due ∙ (is ∙ sym c.line_wanted.ensures))),
    )
