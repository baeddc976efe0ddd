-- The kept context, which is sound, has run on.
use Rattle.std.proofs.Common.{◌≡◌, ◌∙◌, Some, ap, subst, sym}
use Rattle.std.specs.Option.{option_copied}
use Rattle.pw_code.specs.declared.context.Context.{Context}
use Rattle.pw_code_meaning.specs.Contexts.{RunsOn}
use Rattle.pw_code_meaning.specs.Sound.{IsSoundContext}
use Rattle.pw_world.proofs.RanTo.{ran-on, runs-at}
use Rattle.pw_world.specs.Ledgers.{books_of}
use Rattle.pw_world.specs.Running.{HasRunOn, RunsTo}
use Rattle.pw_world.specs.States.{WorldState, seen}
use Rattle.pw_world_model.proofs.Rooms.{work}
use Rattle.pw_world_model.specs.Seen.{work_of}
use Rattle.pw_world.proofs.world.World.read.Goals as goal

pub verb-requires-clause-sound : goal.verb-requires-clause-sound
verb-requires-clause-sound g c =
    let w : WorldState g.row.D.Denot = record { keep = c.self.inside.keep; first = c.self.inside.first.value; script = c.self.inside.script.lines; limit = c.self.inside.limit; failed = c.self.inside.failed; ledger = c.self.inside.ledger } in
    let own = c.in-Some.context.now in
    let is : work_of (seen g.D.Disc.told w) c.args.actor ≡ Some own =
    sym (rw (← c.self.view_is) at c.unread.ensures) ∙ ap option_copied c.in-Some.is in
    let sound =
    (work (seen g.D.Disc.told w) (books_of w.ledger) c.self.invariant c.args.actor own
    (rw (← c.self.view_is) at c.requires) is).0 in
    subst (λ s. IsSoundContext s c.in_ok-work.work) (sym c.system.ensures)
    (subst (IsSoundContext w.keep.system) (sym c.in_ok-work.ensures) sound)

pub run_to-requires-clause-runs : goal.run_to-requires-clause-runs
run_to-requires-clause-runs g c κs within =
    let w : WorldState g.row.D.Denot = record { keep = c.self.inside.keep; first = c.self.inside.first.value; script = c.self.inside.script.lines; limit = c.self.inside.limit; failed = c.self.inside.failed; ledger = c.self.inside.ledger } in
    let own = c.in-Some.context.now in
    let is : work_of (seen g.D.Disc.told w) c.args.actor ≡ Some own =
    sym (rw (← c.self.view_is) at c.unread.ensures) ∙ ap option_copied c.in-Some.is in
    let on = subst
    (λ s. RunsOn s c.in_ok-work.work c.verb.new.context c.in_ok-verb.verb) c.system.ensures
    c.in_ok-verb.ensures.runs in
    rw (← c.self.view_is) (record {
      given = own;
      is = is;
      runs = subst
          (λ (k : Context). RunsOn w.keep.system k c.verb.new.context c.in_ok-verb.verb)
          c.in_ok-work.ensures on;
    })

pub returns-clause-ran : goal.returns-clause-ran
returns-clause-ran g c =
    let w : WorldState g.row.D.Denot = record { keep = c.self.inside.keep; first = c.self.inside.first.value; script = c.self.inside.script.lines; limit = c.self.inside.limit; failed = c.self.inside.failed; ledger = c.self.inside.ledger } in
    let own = c.in-Some.context.now in
    let is : work_of (seen g.D.Disc.told w) c.args.actor ≡ Some own =
    sym (rw (← c.self.view_is) at c.unread.ensures) ∙ ap option_copied c.in-Some.is in
    let on = subst
    (λ s. RunsOn s c.in_ok-work.work c.verb.new.context c.in_ok-verb.verb) c.system.ensures
    c.in_ok-verb.ensures.runs in
    let runs : RunsTo (seen g.D.Disc.told w) c.args.actor c.in_ok-verb.verb c.verb.new.context =
    record {
      given = own;
      is = is;
      runs = subst
          (λ (k : Context). RunsOn w.keep.system k c.verb.new.context c.in_ok-verb.verb)
          c.in_ok-work.ensures on;
    } in
    let stands =
    (runs-at (seen g.D.Disc.told w)
    (books_of w.ledger) c.self.invariant c.args.actor c.in_ok-verb.verb c.verb.new.context
    (rw (← c.self.view_is) at c.requires) runs).1 in
    subst (HasRunOn (seen g.D.Disc.told c.args.self.now)) (sym c.run_to.ensures.ran)
    (ran-on (seen g.D.Disc.told c.args.self.now) c.args.actor c.verb.new.context stands)
