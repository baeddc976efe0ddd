use Rattle.std.proofs.Common.{subst}
use Rattle.pw_compiled_deck.proofs.Decks.{refuses, whole-is}
use Rattle.pw_deck_runs.proofs.Lifts.{reports}
use Rattle.pw_code_meaning.specs.OfSystem.{behaviour}
use Rattle.pw_world_state.specs.Setups.{SetupState}
use Rattle.pw_workers.specs.Endings.{IsReportOfRun}
use Rattle.pw_deck_runs.proofs.run.run.Goals as goal

pub returns-in-Err-clause-fault : goal.returns-in-Err-clause-fault
returns-in-Err-clause-fault g c = refuses c.args.bytes.now c.in-Err.refusal c.in-Err.ensures.gives

pub returns-clause-ok : goal.returns-clause-ok
returns-clause-ok g c =
    let whole = c.in-Ok.deck in
    let of = whole-is c.args.bytes.now whole c.in-Ok.ensures.gives in
    let output = c.in_ok-run_setup.field-0 in
    let events = c.args.bounds.events in
    reports c.runs_keep_their_promises.ensures c.decks_are_read_back.ensures c.args.bytes.now whole of
    c.in-Ok.ensures.small (behaviour whole.script.lines whole.system) c.in-Ok.ensures.behaves
    (c.in-Ok.ensures.same of.deck of.says) events c.args.bounds.room output.0 output.1
    (subst (λ (s : SetupState). IsReportOfRun (behaviour s.script s.system) s.system events output.0 output.1)
    c.setup_of-setup.ensures c.in_ok-run_setup.ensures)
