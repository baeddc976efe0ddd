-- The test of what was read.
use Rattle.std.proofs.Common.{ap, ◌∙◌, ◌&&◌, not}
use Rattle.pw_world_store.specs.Keeps.{kept_in}
use Rattle.pw_world_state.specs.Changes.{runs_told}
use Rattle.pw_world_state.specs.TerminalTests.{is_out}
use Rattle.pw_laws.specs.legal.Verbs.{asks_send_to}
use Rattle.pw_entry_tests.proofs.AtVerb.{told-at}
use Rattle.pw_entry_tests.proofs.terminals.may_send.Goals as goal

pub returns-in-Some : goal.returns-in-Some
returns-in-Some g c =
    let kept = kept_in g.D.Disc.told c.args.keep.now in
    let t = c.args.terminal in
    let context = c.in-Some.at.now.context in
    c.is_sent_by.ensures
    ∙ (ap (λ v. runs_told c.args.unit (kept.disc.units t) && (asks_send_to c.args.class v && not (is_out c.args.keep.now.system kept t))) c.in-Some.ensures.verb
    ∙ told-at c.args.keep.now.system kept t c.stepping.result c.in-Some.at c.stepping.ensures.context c.in-Some.is _)
