use Rattle.std.proofs.Common.{◌≡◌, ◌∙◌, sym, refl, Some, None}
use Rattle.std.specs.Prelude.{position}
use Rattle.pw_class.specs.Queue.{works_for}
use Rattle.pw_class.proofs.Finds.{has-some, has-none, works-at}
use Rattle.pw_class.proofs.queue.Queue.place_of.Goals as goal

pub returns-in-Some-clause-found : goal.returns-in-Some-clause-found
returns-in-Some-clause-found c =
    let found : position (works_for c.args.terminal) c.args.self.now.busy ≡ Some c.in-Some.place =
    rw (← c.self.view_is, ← c.as_slice.ensures.value) (sym c.in-Some.ensures) in
    has-some c.args.terminal c.args.self.now c.in-Some.place found

pub returns-in-Some-clause-place : goal.returns-in-Some-clause-place
returns-in-Some-clause-place c =
    let found : position (works_for c.args.terminal) c.args.self.now.busy ≡ Some c.in-Some.place =
    rw (← c.self.view_is, ← c.as_slice.ensures.value) (sym c.in-Some.ensures) in
    (refl, works-at c.args.terminal c.args.self.now c.in-Some.place found)

pub returns-in-None-clause-found : goal.returns-in-None-clause-found
returns-in-None-clause-found c =
    let found : position (works_for c.args.terminal) c.args.self.now.busy ≡ None =
    rw (← c.self.view_is, ← c.as_slice.ensures.value) (sym c.in-None.ensures) in
    has-none c.args.terminal c.args.self.now (sym c.waits.ensures ∙ c.if-waits.false) found
