use Rattle.std.proofs.Common.{◌∙◌, ap, refl, subst, sym}
use Rattle.std.specs.Prelude.{if◌then◌else◌}
use Rattle.pw_code.specs.declared.system.System.{System}
use Rattle.pw_code_meaning.specs.Contexts.{RunsOn}
use Rattle.pw_code_meaning.specs.Sound.{IsSoundContext}
use Rattle.pw_world.proofs.Working.{run-back, run-works}
use Rattle.pw_world.specs.Applying.{StepsTo}
use Rattle.pw_world.specs.Ledgers.{books_of}
use Rattle.pw_world.specs.PutBack.{ran_back}
use Rattle.pw_world.specs.States.{seen}
use Rattle.pw_world_state.specs.Members.{members_of}
use Rattle.pw_world_model.specs.Seen.{Seen}
use Rattle.pw_world.proofs.world.World.run_for.Goals as goal

pub verb-requires-clause-sound : goal.verb-requires-clause-sound
verb-requires-clause-sound g c =
    let world = seen g.D.Disc.told c.args.self.now in
    let sound =
    (c.context_laws.ensures.work world (books_of c.args.self.now.ledger) c.args.actor c.args.work c.holds.ensures
    c.requires.actor c.requires.given).0 in
    subst (λ (s : System). IsSoundContext s c.args.work) (sym c.system.ensures.system) sound

pub run_to-requires-clause-runs : goal.run_to-requires-clause-runs
run_to-requires-clause-runs g c κs within = record {
  given = c.args.work;
  is = c.requires.given;
  runs = subst (λ (s : System). RunsOn s c.args.work c.verb.new.context c.in_ok-verb.verb) c.system.ensures.system
      c.in_ok-verb.ensures.runs;
}

pub go_back-requires-clause-ran : goal.go_back-requires-clause-ran
go_back-requires-clause-ran g c κs within =
    let told = g.D.Disc.told in
    let world = seen told c.args.self.now in
    let mid = seen told c.run_to.new.self in
    let answer = c.make_step-answer.result in
    let after = seen told c.make_step-answer.new.self in
    let runs = subst (λ (s : System). RunsOn s c.args.work c.verb.new.context c.in_ok-verb.verb) c.system.ensures.system
    c.in_ok-verb.ensures.runs in
    let step = subst (λ (s : System). StepsTo (members_of s) mid c.args.actor answer after)
    (ap (λ (w : Seen). w.system) c.run_to.ensures.ran) c.make_step-answer.ensures in
    let leaves = sym c.leaves_work.ensures ∙ c.if-leaves_work.true in
    let from = run-back (members_of world.system) world (books_of c.args.self.now.ledger) c.holds.ensures c.args.actor c.requires.actor
    c.requires.inside c.requires.sound c.requires.room c.args.work c.verb.new.context c.in_ok-verb.verb answer mid after
    runs c.requires.given c.run_to.ensures.ran step leaves in
    (c.args.work, (from c.args.work refl, c.requires.spare))

pub returns-then-leaves_work-clause-works : goal.returns-then-leaves_work-clause-works
returns-then-leaves_work-clause-works g c =
    let told = g.D.Disc.told in
    let world = seen told c.args.self.now in
    let mid = seen told c.run_to.new.self in
    let answer = c.make_step-answer.result in
    let after = seen told c.make_step-answer.new.self in
    let runs = subst (λ (s : System). RunsOn s c.args.work c.verb.new.context c.in_ok-verb.verb) c.system.ensures.system
    c.in_ok-verb.ensures.runs in
    let step = subst (λ (s : System). StepsTo (members_of s) mid c.args.actor answer after)
    (ap (λ (w : Seen). w.system) c.run_to.ensures.ran) c.make_step-answer.ensures in
    let leaves = sym c.leaves_work.ensures ∙ c.if-leaves_work.true in
    let from = run-back (members_of world.system) world (books_of c.args.self.now.ledger) c.holds.ensures c.args.actor c.requires.actor
    c.requires.inside c.requires.sound c.requires.room c.args.work c.verb.new.context c.in_ok-verb.verb answer mid after
    runs c.requires.given c.run_to.ensures.ran step leaves in
    let went = c.go_back.ensures c.args.work (from c.args.work refl) c.requires.spare in
    let is = went ∙ ap (λ b. if b then ran_back c.args.actor c.args.work after else after) (sym leaves) in
    run-works (members_of world.system) world (books_of c.args.self.now.ledger) c.holds.ensures c.args.actor c.requires.actor
    c.requires.inside c.requires.sound c.requires.room c.args.work c.verb.new.context c.in_ok-verb.verb answer mid after
    runs c.requires.given c.run_to.ensures.ran step (seen told c.go_back.new.self) is

pub returns-else-leaves_work-clause-works : goal.returns-else-leaves_work-clause-works
returns-else-leaves_work-clause-works g c =
    let told = g.D.Disc.told in
    let world = seen told c.args.self.now in
    let mid = seen told c.run_to.new.self in
    let answer = c.make_step-answer.result in
    let after = seen told c.make_step-answer.new.self in
    let runs = subst (λ (s : System). RunsOn s c.args.work c.verb.new.context c.in_ok-verb.verb) c.system.ensures.system
    c.in_ok-verb.ensures.runs in
    let step = subst (λ (s : System). StepsTo (members_of s) mid c.args.actor answer after)
    (ap (λ (w : Seen). w.system) c.run_to.ensures.ran) c.make_step-answer.ensures in
    let stays = sym c.leaves_work.ensures ∙ c.if-leaves_work.false in
    let is = sym (ap (λ b. if b then ran_back c.args.actor c.args.work after else after) stays) in
    run-works (members_of world.system) world (books_of c.args.self.now.ledger) c.holds.ensures c.args.actor c.requires.actor
    c.requires.inside c.requires.sound c.requires.room c.args.work c.verb.new.context c.in_ok-verb.verb answer mid after
    runs c.requires.given c.run_to.ensures.ran step after is
