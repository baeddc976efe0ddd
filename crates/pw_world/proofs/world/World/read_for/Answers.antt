use Rattle.std.proofs.Common.{◌≡◌, ◌∙◌, None, ap, subst, sym}
use Rattle.std.proofs.lemmas.Result.{on_ok_weaker}
use Rattle.pw_code.specs.declared.system.System.{System}
use Rattle.pw_code_meaning.specs.OfSystem.{behaviour}
use Rattle.pw_world.proofs.ReadFor.{both-read, reads, work-stays}
use Rattle.pw_world.specs.Ledgers.{books_of}
use Rattle.pw_world.specs.States.{WorldState, seen}
use Rattle.pw_world_model.proofs.Steps.{acts}
use Rattle.pw_world_model.proofs.Unread.{read-of}
use Rattle.pw_world_model.specs.Actors.{IsActor, actor_of}
use Rattle.pw_world_model.specs.Seen.{Seen, sys_of, work_of}
use Rattle.pw_actor_queue.specs.declared.actor.Actor.{Actor}
use Rattle.pw_world.proofs.world.World.read_for.Goals as goal

pub read-requires-after_bounds : goal.read-requires-after_bounds
read-requires-after_bounds g c κs within =
    let w : WorldState g.row.D.Denot = record { keep = c.self.inside.keep; first = c.self.inside.first.value; script = c.self.inside.script.lines; limit = c.self.inside.limit; failed = c.self.inside.failed; ledger = c.self.inside.ledger } in
    let event = c.args.event.now in
    let own : c.actor_of-actor.result ≡ actor_of (behaviour w.script w.keep.system) event =
    c.actor_of-actor.ensures w.script ∙ ap
    (λ (s : System). actor_of (behaviour w.script s) event) c.system.ensures in
    rw (← c.self.view_is)
    (subst (IsActor w.keep.system) (sym own)
    (acts w.keep.system w.script c.self.invariant.deck event (rw (← c.self.view_is) at c.requires)))

pub returns-in_ok-read_server-in-Some-clause-read : goal.returns-in_ok-read_server-in-Some-clause-read
returns-in_ok-read_server-in-Some-clause-read g c =
    let mid = seen g.D.Disc.told c.read_server.new.self in
    let new = seen g.D.Disc.told c.read_server-in-Some.new.self in
    let t = c.in-Some.terminal in
    let o = c.in-Some.other in
    on_ok_weaker c.read_server-in-Some.result
    (λ other. (reads new.system new.kept c.args.event.now).older (t, o)
    (sym c.older_in.ensures ∙ c.in-Some.is)
    (both-read new.system new.kept t o
    (work-stays mid new t c.read_server-in-Some.ensures.ran c.in_ok-read_server-in-Some.ensures.read)
    other))
    c.read_server-in-Some.ensures.read

pub returns-in_ok-read-in-None-clause-read : goal.returns-in_ok-read-in-None-clause-read
returns-in_ok-read-in-None-clause-read g c =
    let old = seen g.D.Disc.told c.args.self.now in
    let new = seen g.D.Disc.told c.read.new.self in
    let event = c.args.event.now in
    let system : c.system.result.now ≡ new.system =
    c.system.ensures ∙ sym
    (ap (λ (s : Seen). s.system) (rw (← c.self.view_is) at c.read.ensures.ran).rest) in
    let own : c.actor_of-actor.result ≡ actor_of (sys_of new) event =
    c.actor_of-actor.ensures new.script ∙ ap
    (λ (s : System). actor_of (behaviour new.script s) event) system in
    (reads new.system new.kept event).plain (sym c.older_in.ensures ∙ c.in-None.is)
    (read-of new (books_of c.read.new.self.ledger) c.holds.ensures event
    (subst (λ (a : Actor). work_of new a ≡ None) own c.in_ok-read-in-None.ensures.read))
