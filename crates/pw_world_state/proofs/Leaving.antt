-- The open units of some terminals are left.
use Rattle.std.proofs.Common.{◌≡◌, ℕ, List, Some, None, Option, Bool, true, false, cond, refl, sym}
use Rattle.std.specs.Prelude.{slice_get}
use Rattle.pw_code.specs.declared.system.ClassInfo.{ClassInfo}
use Rattle.pw_code.specs.declared.system.System.{System}
use Rattle.pw_code.specs.declared.system.TermInfo.{TermInfo}
use Rattle.pw_event.specs.declared.script.FailLine.{FailLine}
use Rattle.pw_code_meaning.specs.OfSystem.{behaviour}
use Rattle.pw_world_state.specs.Changes.{cancel, leave, without_unit}
use Rattle.pw_world_state.specs.Kept.{Kept, KeptTerminal}
use Rattle.pw_world_state.specs.Stands.{Stands, StandsForTerminal}
use Rattle.pw_world_state.proofs.Cancelled.{AgreesOn, cancelled-stands}
use Rattle.pw_tmf.proofs.Leaving.{tells-same}
use Rattle.pw_paired.specs.State.{PairMode, OpenUnit, State, Term}
use Rattle.pw_paired.specs.Units.{cancel_requests, leave_units}
use Rattle.pw_tmf.specs.Tells.{Tells}
use Rattle.pw_tmf.specs.Leaving.{is_among}

-- the terminals that are meant are those of the list
pub record Agrees (system : System) (state : State) (whose : ℕ → Bool) (terminals : List ℕ) : Type 0 where
  pub terminals_are : (t : ℕ) (info : TermInfo) → slice_get system.terminals t ≡ Some info → whose t ≡ is_among terminals t
  pub requests_are : (c : ℕ) (info : ClassInfo) → slice_get system.classes c ≡ Some info → AgreesOn whose terminals (state.classes c)

-- requests are cancelled
pub cancel-stands : (system : System) (script : List FailLine) (state : State) (kept : Kept) (whose : ℕ → Bool) (terminals : List ℕ) → Stands system script state kept → Agrees system state whose terminals
    → Stands system script (cancel_requests whose state) (cancel terminals kept)
cancel-stands system script state kept whose terminals stands agrees = record {
  terminals = stands.terminals;
  disc = tells-same (behaviour script system) state _ kept.disc refl refl refl refl refl stands.disc;
  classes = λ c info here. cancelled-stands system info whose terminals (state.classes c) (kept.queues c) (kept.jobs c) (agrees.requests_are c info here) (stands.classes c info here);
  pairs = stands.pairs;
  births = stands.births;
}

-- a terminal, of which the unit is left or not
left-terminal : (system : System) (info : TermInfo) (at : PairMode) (term : Term) (unit : Option OpenUnit) (own : KeptTerminal) (b : Bool) → StandsForTerminal system info at term unit own
    → StandsForTerminal system info at term (cond b None unit) (cond b (without_unit own) own)
left-terminal system info at term unit own false old = old
left-terminal system info at term unit own true old = record {
  path = old.path;
  ready = old.ready;
  there = old.there;
  start = tt;
  restarts = refl;
  awaits = refl;
  pending = old.pending;
  ending = old.ending;
}

-- units are left
pub left-stands : (system : System) (script : List FailLine) (state : State) (kept : Kept) (whose : ℕ → Bool) (terminals : List ℕ) → Stands system script state kept → Agrees system state whose terminals
    → Tells (behaviour script system) (leave_units (behaviour script system) whose state) (leave terminals kept).disc
    → Stands system script (leave_units (behaviour script system) whose state) (leave terminals kept)
left-stands system script state kept whose terminals stands agrees tells = record {
  terminals = λ t info here.
      rw (sym (agrees.terminals_are t info here))
      (left-terminal system info (state.modes info.tcp) (state.terms t) (state.units t) (kept.terminals t) (whose t) (stands.terminals t info here));
  disc = tells;
  classes = λ c info here. cancelled-stands system info whose terminals (state.classes c) (kept.queues c) (kept.jobs c) (agrees.requests_are c info here) (stands.classes c info here);
  pairs = stands.pairs;
  births = stands.births;
}
