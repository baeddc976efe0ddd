use Rattle.std.proofs.Common.{◌∙◌, ap, length, subst, sym}
use Rattle.pw_event.specs.declared.script.Owner.{Owner}
use Rattle.pw_code.specs.declared.system.System.{System}
use Rattle.pw_world.proofs.FoundSteps.{owner-there}
use Rattle.pw_world.specs.Owners.{owner_in}
use Rattle.pw_world_model.specs.Dues.{IsOwner}
use Rattle.pw_world.proofs.world.World.step_of.Goals as goal

pub due-requires : goal.due-requires
due-requires g c =
    let system = c.self.inside.keep.system in
    let book = c.self.inside.ledger.due in
    let due = c.self.invariant.books.due in
    let there = owner-there system c.self.inside.script.lines c.args.actor c.self.invariant.deck (rw (← c.self.view_is) at c.requires.actor) in
    subst (λ (o : Owner). IsOwner (length book.tcps) (length book.classes) o)
    (sym (c.owner_of_actor.ensures ∙ ap (λ (s : System). owner_in s c.args.actor) c.system.ensures))
    (subst (λ n. IsOwner n (length book.classes) (owner_in system c.args.actor)) (sym due.tcp_count)
    (subst (λ n. IsOwner (length system.tcps) n (owner_in system c.args.actor)) (sym due.class_count) there))
