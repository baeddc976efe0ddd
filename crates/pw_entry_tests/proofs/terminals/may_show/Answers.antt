-- The test of what was read.
use Rattle.std.proofs.Common.{ap, ◌∙◌, ◌&&◌}
use Rattle.pw_world_store.specs.Keeps.{kept_in}
use Rattle.pw_world_state.specs.Asked.{next_refresh_number}
use Rattle.pw_laws.specs.legal.Values.{is_same_refresh}
use Rattle.pw_laws.specs.legal.Verbs.{asks_show}
use Rattle.pw_entry_tests.proofs.AtVerb.{told-at}
use Rattle.pw_entry_tests.proofs.terminals.may_show.Goals as goal

pub returns-in-Some : goal.returns-in-Some
returns-in-Some g c =
    let kept = kept_in g.D.Disc.told c.args.keep.now in
    let t = c.args.terminal in
    let context = c.in-Some.at.now.context in
    c.shows.ensures
    ∙ (ap (λ v. asks_show v && is_same_refresh (next_refresh_number context) (record { phase = c.args.phase; attempt = c.args.attempt; k = c.args.k })) c.in-Some.ensures.verb
    ∙ told-at c.args.keep.now.system kept t c.stepping.result c.in-Some.at c.stepping.ensures.context c.in-Some.is _)
