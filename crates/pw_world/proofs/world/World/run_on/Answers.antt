use Rattle.std.proofs.Common.{◌≡◌, ◌∙◌, Some, ap, inl, inr, sym}
use Rattle.std.specs.Option.{option_copied}
use Rattle.pw_world.proofs.Applying.{lacks-none, runs-to}
use Rattle.pw_world.proofs.PutBack.{ran-as}
use Rattle.pw_world.specs.Ledgers.{books_of}
use Rattle.pw_world.specs.States.{seen}
use Rattle.pw_world_model.specs.Seen.{work_of}
use Rattle.pw_world.proofs.world.World.run_on.Goals as goal
use Rattle.pw_world.proofs.world.World.run_on.Goals.{in_default-via-in-Some+in-Some+in_default, in_default-via-in-Some+in_default, in_default-via-in_default}

pub unreachable-requires : goal.unreachable-requires
unreachable-requires g c =
    let world = seen g.D.Disc.told c.args.self.now in
    let outcome = c.args.outcome in
    let of = c.requires.passes.work in
    let own = c.in_ok-unread.field-0.now in
    let unread : work_of world outcome.actor ≡ Some own =
    sym c.unread.ensures ∙ ap option_copied c.in_ok-unread.was in
    let given : outcome.given ≡ Some own = of own unread in
    elim c.in_default.branch [
      | in_default-via-in-Some+in-Some+in_default w ↦
          lacks-none world outcome own of unread (inr w.in_default.is-2)
      | in_default-via-in-Some+in_default w ↦
          lacks-none world outcome own of unread (inl w.in_default.is-1)
      | in_default-via-in_default w ↦ let none = w.in_default.is-0 in absurd (cc (given, none))
    ]

pub run_to-requires-clause-runs : goal.run_to-requires-clause-runs
run_to-requires-clause-runs g c κs within =
    let world = seen g.D.Disc.told c.args.self.now in
    let outcome = c.args.outcome in
    let own = c.in_ok-unread.field-0.now in
    let ran = c.in-Some-Some-Some in
    let unread : work_of world outcome.actor ≡ Some own =
    sym c.unread.ensures ∙ ap option_copied c.in_ok-unread.was in
    runs-to world outcome own c.requires.passes.work unread ran.work ran.verb c.requires.system ran.is-1 ran.is-2

pub returns-clause-back : goal.returns-clause-back
returns-clause-back g c context same =
    let told = g.D.Disc.told in
    let world = seen told c.args.self.now in
    let outcome = c.args.outcome in
    let own = c.in_ok-unread.field-0.now in
    let ran = c.in-Some-Some-Some in
    let unread : work_of world outcome.actor ≡ Some own =
    sym c.unread.ensures ∙ ap option_copied c.in_ok-unread.was in
    let given : outcome.given ≡ Some own = c.requires.passes.work own unread in
    ran-as world (seen told c.run_to.new.self) (books_of c.args.self.now.ledger) outcome.actor context ran.work
    c.holds.ensures (unread ∙ (sym given ∙ (ran.is-0 ∙ same))) c.run_to.ensures.ran
