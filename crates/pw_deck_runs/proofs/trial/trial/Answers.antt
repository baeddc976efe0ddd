use Rattle.std.proofs.Common.{◌≡◌, ◌∙◌, subst, sym}
use Rattle.std.specs.Prelude.{IfOk}
use Rattle.pw_compiled_deck.proofs.Decks.{whole-is}
use Rattle.pw_deck_runs.proofs.Runs.{AreCounted, not-refused, tried}
use Rattle.pw_deck_runs.proofs.trial.trial.Goals as goal
use Rattle.pw_code_meaning.specs.OfSystem.{behaviour}
use Rattle.pw_gen.specs.Generated.{generated}
use Rattle.pw_gen.specs.Faultless.{IsFaultless}
use Rattle.pw_deck_runs.specs.Trials.{TriesSystem}
use Rattle.pw_world_state.specs.Setups.{SetupState}

pub unreachable-requires : goal.unreachable-requires
unreachable-requires g c =
    let are : c.as_slice.result.now ≡ generated c.args.seed c.args.terminals = c.as_slice.ensures ∙ c.in_ok-bytes.ensures in
    not-refused c.as_slice.result.now c.in-Err-At.field-0-0 c.in-Err-At.field-0-1 c.in-Err-At.field-0
    c.in-Err-At.field-0-is c.in-Err-At.ensures.gives
    (subst IsFaultless (sym are) (c.generated_laws.ensures.faultless c.args.seed c.args.terminals
    c.requires.terminals.0 c.requires.terminals.1))

pub returns : goal.returns
returns g c =
    let are : c.as_slice.result.now ≡ generated c.args.seed c.args.terminals = c.as_slice.ensures ∙ c.in_ok-bytes.ensures in
    let whole = c.in-Ok.deck in
    let of = whole-is c.as_slice.result.now whole c.in-Ok.ensures.gives in
    let few = c.requires.terminals in
    let counts : AreCounted c.args.seed c.args.terminals = record {
      ends = c.generated_runs_leave_counts.ensures.ends c.args.seed c.args.terminals few.0 few.1;
      prints = c.generated_runs_leave_counts.ensures.prints c.args.seed c.args.terminals few.0 few.1;
    } in
    tried c.runs_keep_their_promises.ensures c.args.seed c.args.terminals counts c.as_slice.result.now are whole of (behaviour whole.script.lines whole.system)
    c.in-Ok.ensures.behaves (c.in-Ok.ensures.same of.deck of.says) c.try_setup.result
    (subst (λ (s : SetupState). IfOk c.try_setup.result (λ output. TriesSystem (behaviour s.script s.system) s.system output.0 output.1))
    c.setup_of-setup.ensures c.try_setup.ensures)
