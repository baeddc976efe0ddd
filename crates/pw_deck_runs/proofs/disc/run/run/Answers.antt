use Rattle.std.proofs.Common.{subst}
use Rattle.pw_compiled_deck.proofs.Decks.{whole-is}
use Rattle.pw_compiled_deck.proofs.Decks as decks
use Rattle.pw_deck_runs.proofs.Comings.{comes, deck-refuses}
use Rattle.pw_deck_runs.specs.disc.Pairs.{RunsOver}
use Rattle.pw_world_state.specs.Setups.{SetupState}
use Rattle.pw_deck_runs.proofs.disc.run.run.Goals as goal

pub returns-in-Err-clause-fault : goal.returns-in-Err-clause-fault
returns-in-Err-clause-fault g c =
    deck-refuses c.args.bytes.now c.in-Err.refusal (decks.refuses c.args.bytes.now c.in-Err.refusal c.in-Err.ensures.gives)

pub returns-clause-ok : goal.returns-clause-ok
returns-clause-ok g c =
    let whole = c.in-Ok.deck in
    let of = whole-is c.args.bytes.now whole c.in-Ok.ensures.gives in
    let output = c.in_ok-run_pair.field-0 in
    let lines = c.in-Ok-read_disc_script.failures.lines in
    let events = c.args.bounds.events in
    comes c.runs_keep_their_promises.ensures c.decks_are_read_back.ensures c.args.bytes.now whole of
    c.in-Ok.ensures.small c.in-Ok.ensures.behaves (c.in-Ok.ensures.same of.deck of.says)
    lines c.in-Ok-read_disc_script.ensures events c.args.bounds.room output.0 output.1
    (subst (λ (s : SetupState). RunsOver s.system s.script events lines output.0 output.1) c.setup_of-setup.ensures c.in_ok-run_pair.ensures)
