-- A context tells whether its path is in a transaction, and where there is none the path is empty.
use Rattle.std.proofs.Common.{◌≡◌, ◌∙◌, Some, None, [], ap, subst, sym}
use Rattle.std.specs.Prelude.{not, true}
use Rattle.pw_world_state.proofs.Agreeing.{there-is}
use Rattle.pw_world_state.specs.Kept.{KeptTerminal}
use Rattle.pw_world_state.specs.Stands.{StandsForKnown}
use Rattle.pw_world.specs.Ledgers.{books_of}
use Rattle.pw_world.specs.States.{WorldState, seen}
use Rattle.pw_world_model.specs.Seen.{state_of}
use Rattle.pw_onecopy.specs.Path.{is_outside}
use Rattle.pw_paired.specs.Terminal.{path_of}
use Rattle.pw_world.proofs.world.World.is_outside.Goals as goal

pub returns-in-Some : goal.returns-in-Some
returns-in-Some g c =
    let told = g.D.Disc.told in
    let w : WorldState g.row.D.Denot = record { keep = c.self.inside.keep; first = c.self.inside.first.value; script = c.self.inside.script.lines; limit = c.self.inside.limit; failed = c.self.inside.failed; ledger = c.self.inside.ledger } in
    let world = seen told w in
    let t = c.args.terminal in
    let found = there-is w.keep.system.terminals t (rw (← c.self.view_is) at c.requires) in
    let own : (world.kept.terminals t).context ≡ Some c.in-Some.context =
    ap (λ (k : KeptTerminal). k.context) (sym c.seat.ensures.kept) ∙ c.in-Some.is in
    subst (λ (v : WorldState g.row.D.Denot). not c.in-Some.context.in_unit ≡ is_outside (path_of (state_of (seen told v)) t)) c.self.view_is
    (c.context_laws.ensures.counts world (books_of w.ledger) t found.0 c.in-Some.context c.self.invariant found.1 own).outside

pub returns-in-None : goal.returns-in-None
returns-in-None g c =
    let told = g.D.Disc.told in
    let w : WorldState g.row.D.Denot = record { keep = c.self.inside.keep; first = c.self.inside.first.value; script = c.self.inside.script.lines; limit = c.self.inside.limit; failed = c.self.inside.failed; ledger = c.self.inside.ledger } in
    let world = seen told w in
    let t = c.args.terminal in
    let found = there-is w.keep.system.terminals t (rw (← c.self.view_is) at c.requires) in
    let path = path_of (state_of world) t in
    let none : (world.kept.terminals t).context ≡ None =
    ap (λ (k : KeptTerminal). k.context) (sym c.seat.ensures.kept) ∙ c.in-None.is in
    let empty : path ≡ [] =
    subst (StandsForKnown w.keep.system found.0 path) none (c.self.invariant.stands.terminals t found.0 found.1).path in
    subst (λ (v : WorldState g.row.D.Denot). true ≡ is_outside (path_of (state_of (seen told v)) t)) c.self.view_is (sym (ap is_outside empty))
