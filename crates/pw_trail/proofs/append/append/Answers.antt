-- What was staged is stored.
use Rattle.std.proofs.Common.{rules, ◌≡◌, ◌+◌, ◌∙◌, length}
use Rattle.pw_trail.proofs.Commits.{append_keeps, append_synced}
use Rattle.pw_trail.proofs.append.append.Goals as goal

pub returns-in_err-store-clause-images : goal.returns-in_err-store-clause-images
returns-in_err-store-clause-images g c files units s fit image may =
    append_keeps files _ _ _ units s c.args.unit.now c.in_ok-staged.ensures.values fit c.in_ok-staged.ensures.size _ (c.deref.ensures.value ∙ c.in_ok-staged.ensures.bytes) image
    (c.store.ensures.images image may)

pub returns-clause-images : goal.returns-clause-images
returns-clause-images g c files units s fit image may =
    append_keeps files _ _ _ units s c.args.unit.now c.in_ok-staged.ensures.values fit c.in_ok-staged.ensures.size _ (c.deref.ensures.value ∙ c.in_ok-staged.ensures.bytes) image
    (c.store.ensures.images image may)

pub returns-clause-stored : goal.returns-clause-stored
returns-clause-stored g c files units s fit =
    let next : c.in-Some.next ≡ c.args.end + length c.deref.result.now = search rules in
    append_synced files _ _ _ units s c.args.unit.now c.in_ok-staged.ensures.values fit c.in_ok-staged.ensures.size _ (c.deref.ensures.value ∙ c.in_ok-staged.ensures.bytes) _ _ _
    c.in_ok-store.ensures.stored c.in_ok-store.ensures.durable next
