-- What is kept of a terminal has its ending.
use Rattle.std.proofs.Common.{◌≡◌, ◌∙◌, ap, subst, sym}
use Rattle.pw_world_state.proofs.Agreeing.{there-is}
use Rattle.pw_world_state.specs.Kept.{KeptTerminal}
use Rattle.pw_world.specs.States.{WorldState, seen}
use Rattle.pw_world_model.specs.Seen.{state_of}
use Rattle.pw_world.proofs.world.World.ending.Goals as goal

pub returns : goal.returns
returns g c =
    let told = g.D.Disc.told in
    let w : WorldState g.row.D.Denot = record { keep = c.self.inside.keep; first = c.self.inside.first.value; script = c.self.inside.script.lines; limit = c.self.inside.limit; failed = c.self.inside.failed; ledger = c.self.inside.ledger } in
    let world = seen told w in
    let t = c.args.terminal in
    let found = there-is w.keep.system.terminals t (rw (← c.self.view_is) at c.requires) in
    subst (λ (v : WorldState g.row.D.Denot). c.seat.result.now.ending ≡ ((state_of (seen told v)).terms t).ending) c.self.view_is
    (ap (λ (k : KeptTerminal). k.ending) c.seat.ensures.kept ∙ (c.self.invariant.stands.terminals t found.0 found.1).ending)
