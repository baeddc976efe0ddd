-- The test of what was read.
use Rattle.std.proofs.Common.{ap, ◌∙◌, ◌&&◌, ◌==◌, is_none, not}
use Rattle.pw_world_store.specs.Keeps.{kept_in}
use Rattle.pw_world_state.specs.Asked.{unit_in}
use Rattle.pw_world_state.specs.TerminalTests.{begins_unit, flies, start_held}
use Rattle.pw_entry_tests.proofs.AtVerb.{told-at}
use Rattle.pw_entry_tests.proofs.units.may_check_start.Goals as goal

pub returns-in-Some : goal.returns-in-Some
returns-in-Some g c =
    let kept = kept_in g.D.Disc.told c.args.keep.now in
    let t = c.args.terminal in
    let context = c.in-Some.at.now.context in
    c.is_start_due.ensures
    ∙ (ap (λ v. is_none (kept.terminals t).start && (begins_unit v (not context.in_unit) && (not ((kept.disc.ended t).number == unit_in context) && (not (start_held c.args.keep.now.system kept t (unit_in context)) && not (flies c.args.keep.now.system kept t))))) c.in-Some.ensures.verb
    ∙ told-at c.args.keep.now.system kept t c.stepping.result c.in-Some.at c.stepping.ensures.context c.in-Some.is _)
