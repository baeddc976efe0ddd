-- The test of what was read.
use Rattle.std.proofs.Common.{ap, ◌∙◌, ◌&&◌, ◌==◌, is_none, not}
use Rattle.pw_world_store.specs.Keeps.{kept_in}
use Rattle.pw_world_state.specs.Asked.{unit_in}
use Rattle.pw_world_state.specs.TerminalTests.{begins_unit, start_held}
use Rattle.pw_laws.specs.legal.Terminals.{is_over}
use Rattle.pw_entry_tests.proofs.AtVerb.{told-at}
use Rattle.pw_entry_tests.proofs.units.may_begin.Goals as goal

pub returns-in-Some : goal.returns-in-Some
returns-in-Some g c =
    let kept = kept_in g.D.Disc.told c.args.keep.now in
    let t = c.args.terminal in
    let context = c.in-Some.at.now.context in
    c.is_begun_by.ensures
    ∙ (ap (λ v. is_none (kept.terminals t).start && (begins_unit v (not context.in_unit) && (c.args.unit == unit_in context && (not ((kept.disc.ended t).number == c.args.unit) && (is_over kept.disc.ended (kept.terminals t).awaits && (start_held c.args.keep.now.system kept t (unit_in context) && c.args.restarts == (kept.terminals t).restarts)))))) c.in-Some.ensures.verb
    ∙ told-at c.args.keep.now.system kept t c.stepping.result c.in-Some.at c.stepping.ensures.context c.in-Some.is _)
