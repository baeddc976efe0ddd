-- A terminal's path gets an answer, and its context is the one that was given that answer.
use Rattle.std.proofs.Common.{◌≡◌, ℕ, List, [], ◌∷◌, ◌++◌, Some, refl, sym, ap, subst, ◌∙◌}
use Rattle.std.specs.Prelude.{slice_get}
use Rattle.pw_base.proofs.Plain.{some_is}
use Rattle.pw_pair.proofs.Calling.{ending-stays}
use Rattle.pw_code.specs.declared.context.Context.{Context}
use Rattle.pw_code.specs.declared.system.System.{System}
use Rattle.pw_code.specs.declared.system.TermInfo.{TermInfo}
use Rattle.pw_event.specs.declared.script.FailLine.{FailLine}
use Rattle.pw_code_meaning.specs.OfSystem.{behaviour}
use Rattle.pw_world_state.specs.Arrivals.{IsReady, StandsForPath}
use Rattle.pw_world_state.specs.Changes.{at_terminal, kept_ran, with_context, with_ready}
use Rattle.pw_world_state.specs.Kept.{Kept}
use Rattle.pw_world_state.specs.Stands.{Stands, StandsForTerminal}
use Rattle.pw_world_state.proofs.Components.{pairs-same, terminal-changed}
use Rattle.pw_tmf.proofs.Leaving.{tells-same}
use Rattle.pw_onecopy.specs.Path.{PathAnswer}
use Rattle.pw_onecopy.proofs.Update.{upd_elim}
use Rattle.pw_paired.specs.State.{State, Term}
use Rattle.pw_paired.specs.Terminal.{path_of}
use Rattle.pw_paired.specs.Units.{give_answer}

pub answered : (system : System) (script : List FailLine) (state : State) (kept : Kept) (t : ℕ) (terminal : TermInfo) (answer : PathAnswer) (new : Context)
    → Stands system script state kept → slice_get system.terminals t ≡ Some terminal → StandsForPath system terminal (path_of state t ++ answer ∷ []) new
    → Stands system script (give_answer t answer state) (at_terminal t (with_context new) kept)
answered system script state kept t terminal answer new stands there path = record {
  terminals = terminal-changed system state.modes state.terms state.units kept.terminals t after (with_context new (kept.terminals t)) stands.terminals
      (λ info here.
      let old : StandsForTerminal system info (state.modes info.tcp) (state.terms t) (state.units t) (kept.terminals t) = stands.terminals t info here in
      record {
        path = subst (λ x. StandsForPath system x (path_of state t ++ answer ∷ []) new) (some_is (sym there ∙ here)) path;
        ready = tt;
        there = λ works lives. refl;
        start = old.start;
        restarts = old.restarts;
        awaits = old.awaits;
        pending = old.pending;
        ending = old.ending;
      });
  disc = tells-same (behaviour script system) state (give_answer t answer state) kept.disc refl refl refl refl refl stands.disc;
  classes = stands.classes;
  pairs = pairs-same system state.modes state.terms _ state.memory state.flight kept.pairs (ending-stays state.terms t after refl) stands.pairs;
  births = stands.births;
}
  where
    after : Term
    after = record (state.terms t) { path = path_of state t ++ answer ∷ [] }

-- no entry: the program has run on
pub ran : (system : System) (script : List FailLine) (state : State) (kept : Kept) (t : ℕ) (terminal : TermInfo) (new : Context)
    → Stands system script state kept → slice_get system.terminals t ≡ Some terminal → IsReady system terminal (path_of state t) new
    → Stands system script state (kept_ran t new kept)
ran system script state kept t terminal new stands there ready = record {
  terminals = λ j info here.
      upd_elim kept.terminals t (with_ready new (kept.terminals t)) j (StandsForTerminal system info (state.modes info.tcp) (state.terms j) (state.units j))
      (λ is. subst (λ x. StandsForTerminal system info (state.modes info.tcp) (state.terms x) (state.units x) (with_ready new (kept.terminals t))) (sym is)
      (own info (ap (slice_get system.terminals) (sym is) ∙ here)))
      (λ ne. stands.terminals j info here);
  disc = stands.disc;
  classes = stands.classes;
  pairs = stands.pairs;
  births = stands.births;
}
  where
    own : (info : TermInfo) → slice_get system.terminals t ≡ Some info → StandsForTerminal system info (state.modes info.tcp) (state.terms t) (state.units t) (with_ready new (kept.terminals t))
    own info here =
        let old = stands.terminals t info here in
        record {
          path = old.path;
          ready = subst (λ x. IsReady system x (path_of state t) new) (some_is (sym there ∙ here)) ready;
          there = old.there;
          start = old.start;
          restarts = old.restarts;
          awaits = old.awaits;
          pending = old.pending;
          ending = old.ending;
        }
