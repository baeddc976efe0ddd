-- The unit that is open on the terminal, if one is, is the older one of the test.
use Rattle.std.proofs.Common.{◌≡◌, Some, sym, ◌∙◌}
use Rattle.std.proofs.lemmas.Result.{IfOk-weaker}
use Rattle.pw_world_store.specs.Keeps.{kept_in}
use Rattle.pw_world_state.specs.CauseTests.{is_older}
use Rattle.pw_entry_tests.proofs.OlderFound.{apart}
use Rattle.pw_entry_tests.proofs.OlderTest.{is-before, is-first, none-open, not-before}
use Rattle.pw_entry_tests.proofs.Opened.{unit-found}
use Rattle.pw_entry_tests.specs.Causes.{units_meet}
use Rattle.pw_tmf.specs.Told.{ToldUnit}
use Rattle.pw_entry_tests.proofs.older.is_older.Goals as goal

pub meet-requires-clause-other : goal.meet-requires-clause-other
meet-requires-clause-other g c κs within =
    unit-found c.args.keep.now.system (kept_in g.D.Disc.told c.args.keep.now) c.requires.known
    c.args.terminal c.in-Some.older
    (sym c.open_unit.ensures ∙ c.in-Some.is)

pub meet-requires-clause-apart : goal.meet-requires-clause-apart
meet-requires-clause-apart g c κs within =
    let system = c.args.keep.now.system in
    let kept = kept_in g.D.Disc.told c.args.keep.now in
    apart system kept c.args.own.now c.requires.open c.in-Some.older
    (unit-found system kept c.requires.known c.args.terminal c.in-Some.older
    (sym c.open_unit.ensures ∙ c.in-Some.is))
    (is-first system kept c.args.own.now c.in-Some.older c.args.number
    (sym c.comes_before.ensures ∙ c.if-comes_before.true))

pub returns-in_default : goal.returns-in_default
returns-in_default g c =
    λ told here.
    sym (none-open c.args.keep.now.system (kept_in g.D.Disc.told c.args.keep.now) c.args.own.now
    c.requires.open told here
    c.args.terminal c.args.number (sym c.open_unit.ensures ∙ c.in_default.is))

pub returns-else-comes_before : goal.returns-else-comes_before
returns-else-comes_before g c =
    λ told here.
    not-before c.args.keep.now.system (kept_in g.D.Disc.told c.args.keep.now) c.args.own.now
    c.requires.open told here
    c.args.terminal c.args.number c.in-Some.older (sym c.open_unit.ensures ∙ c.in-Some.is)
    (sym c.comes_before.ensures ∙ c.if-comes_before.false)

pub returns-then-comes_before : goal.returns-then-comes_before
returns-then-comes_before g c =
    let system = c.args.keep.now.system in
    let kept = kept_in g.D.Disc.told c.args.keep.now in
    let own = c.args.own.now in
    let older = c.in-Some.older in
    IfOk-weaker c.meet.result (λ passes. passes ≡ units_meet system kept own older)
    (λ passes. (told : ToldUnit) → kept.disc.units own.terminal ≡ Some told → passes
    ≡ is_older system kept own.terminal told c.args.terminal c.args.number)
    (λ passes is told here.
    is-before system kept own c.requires.open told here c.args.terminal c.args.number older
    (sym c.open_unit.ensures ∙ c.in-Some.is)
    (sym c.comes_before.ensures ∙ c.if-comes_before.true) passes is) c.meet.ensures
