-- The older unit that is found is the cause, and where none is, none is.
use Rattle.std.proofs.Common.{sym, subst, ◌∙◌}
use Rattle.pw_world_store.specs.Keeps.{kept_in}
use Rattle.pw_entry_tests.proofs.CauseFound.{gone-found, none-found, older-found}
use Rattle.pw_entry_tests.specs.Causes.{IsOlderFound, units_meet}
use Rattle.pw_entry_tests.proofs.causes.older_cause.Goals as goal

pub returns-then-is_gone : goal.returns-then-is_gone
returns-then-is_gone g c =
    gone-found c.args.keep.now.system (kept_in g.D.Disc.told c.args.keep.now) c.requires.known
    c.args.own.now c.requires.open
    (sym c.is_gone.ensures ∙ c.if-is_gone.true)

pub returns-in_default : goal.returns-in_default
returns-in_default g c =
    let system = c.args.keep.now.system in
    let kept = kept_in g.D.Disc.told c.args.keep.now in
    let own = c.args.own.now in
    none-found system kept c.requires.known own c.requires.open
    (subst (IsOlderFound system kept own (units_meet system kept own)) c.in_default.is
    c.in_ok-older.ensures)

pub returns : goal.returns
returns g c =
    let system = c.args.keep.now.system in
    let kept = kept_in g.D.Disc.told c.args.keep.now in
    let own = c.args.own.now in
    older-found system kept c.requires.known own c.requires.open c.in-Some.older
    (sym c.is_gone.ensures ∙ c.if-is_gone.false)
    (subst (IsOlderFound system kept own (units_meet system kept own)) c.in-Some.is
    c.in_ok-older.ensures)
