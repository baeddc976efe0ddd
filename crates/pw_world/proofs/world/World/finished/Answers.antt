use Rattle.std.proofs.Common.{◌∙◌, ap, sym}
use Rattle.std.specs.Prelude.{◌==◌}
use Rattle.pw_code_meaning.specs.OfSystem.{behaviour}
use Rattle.pw_paired.specs.Step.{after}
use Rattle.pw_world.proofs.world.World.finished.Goals as goal

pub returns : goal.returns
returns g c =
    let sys = behaviour c.self.inside.script.lines c.self.inside.keep.system in
    rw (← c.self.view_is)
    (ap (λ n. n == 0) (c.live.ensures ∙ c.self.invariant.books.live)
    ∙ sym (c.book_laws.ensures.live sys (after sys c.self.inside.ledger.log)))
