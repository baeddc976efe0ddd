-- The test of what was read.
use Rattle.std.proofs.Common.{ap, ◌∙◌, ◌&&◌, ◌==◌}
use Rattle.pw_world_store.specs.Keeps.{kept_in}
use Rattle.pw_world_state.specs.Asked.{verb_in}
use Rattle.pw_world_state.specs.TerminalTests.{entry_line_count}
use Rattle.pw_laws.specs.legal.Verbs.{asks_accept}
use Rattle.pw_entry_tests.proofs.AtVerb.{told-at}
use Rattle.pw_entry_tests.proofs.terminals.may_end_entries.Goals as goal

pub returns-in-Some : goal.returns-in-Some
returns-in-Some g c =
    let kept = kept_in g.D.Disc.told c.args.keep.now in
    let t = c.args.terminal in
    let context = c.in-Some.at.now.context in
    c.ends_entries.ensures
    ∙ (ap (λ v. asks_accept v && context.entries == c.entries_of.result) c.in-Some.ensures.verb
    ∙ ap (λ n. asks_accept (verb_in c.args.keep.now.system context) && context.entries == n) (c.entries_of.ensures ∙ ap (λ s. entry_line_count s t) c.system.ensures) ∙ told-at c.args.keep.now.system kept t c.stepping.result c.in-Some.at c.stepping.ensures.context c.in-Some.is _)
