use Rattle.std.proofs.Common.{◌<◌, ◌∙◌, ap, length, subst, sym}
use Rattle.pw_code_meaning.specs.OfSystem.{behaviour}
use Rattle.pw_paired.specs.State.{starting}
use Rattle.pw_world.proofs.Books.{length-flags}
use Rattle.pw_world.proofs.world.World.one_send.Goals as goal

pub bounds-one_sends-place : goal.bounds-one_sends-place
bounds-one_sends-place g c =
    let sys = behaviour c.self.inside.script.lines c.self.inside.keep.system in
    subst (λ n. c.args.place < n)
    (sym (ap length (c.one_sends.ensures ∙ c.self.invariant.books.one_sends)
    ∙ length-flags sys (starting sys) c.self.inside.ledger.log))
    (rw (← c.self.view_is) at c.requires)
