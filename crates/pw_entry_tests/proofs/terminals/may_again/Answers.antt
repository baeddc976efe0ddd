-- The test of what was read.
use Rattle.std.proofs.Common.{ap, ◌∙◌, ◌&&◌, ◌==◌, not}
use Rattle.pw_world_store.specs.Keeps.{kept_in}
use Rattle.pw_world_state.specs.Asked.{unit_in}
use Rattle.pw_laws.specs.legal.Verbs.{asks_send}
use Rattle.pw_entry_tests.proofs.AtVerb.{told-at}
use Rattle.pw_entry_tests.proofs.terminals.may_again.Goals as goal

pub returns-in-Some : goal.returns-in-Some
returns-in-Some g c =
    let kept = kept_in g.D.Disc.told c.args.keep.now in
    let t = c.args.terminal in
    let context = c.in-Some.at.now.context in
    c.is_told_again.ensures
    ∙ (ap (λ v. asks_send v && (not context.in_unit && (c.args.unit == unit_in context && (kept.disc.ended t).number == c.args.unit))) c.in-Some.ensures.verb
    ∙ told-at c.args.keep.now.system kept t c.stepping.result c.in-Some.at c.stepping.ensures.context c.in-Some.is _)
