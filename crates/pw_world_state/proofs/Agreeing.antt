-- The terminals of a pair are those of its list wherever something is of a terminal.
use Rattle.std.proofs.Common.{◌≡◌, ℕ, ◌<◌, ◌==◌, List, [], ◌∷◌, Option, Some, None, false, true, length, refl, sym, ap, subst, ◌∙◌, arith, ⊎_elim}
use Rattle.std.specs.Prelude.{All, IsSome, slice_get}
use Rattle.std.proofs.lemmas.Bool.{eq-eqb, ne_eqb}
use Rattle.std.proofs.lemmas.Option.{slice_get_cases}
use Rattle.std.proofs.lemmas.List.Elements.{All-head, All-tail, All-weaker}
use Rattle.pw_code.specs.declared.system.System.{System}
use Rattle.pw_event.specs.declared.script.FailLine.{FailLine}
use Rattle.pw_code_meaning.specs.OfSystem.{behaviour}
use Rattle.pw_world_state.specs.Changes.{leave}
use Rattle.pw_world_state.specs.Kept.{Kept}
use Rattle.pw_world_state.specs.Members.{AreOf, IsOf, KnowsAll}
use Rattle.pw_world_state.specs.Stands.{Stands}
use Rattle.pw_world_state.proofs.Among.{among-is}
use Rattle.pw_world_state.proofs.Cancelled.{only-agrees, only-among}
use Rattle.pw_world_state.proofs.Components.{pair-of}
use Rattle.pw_world_state.proofs.Leaving.{Agrees}
use Rattle.pw_locks.specs.declared.lock.Lock.{Lock}
use Rattle.pw_paired.specs.Failure.{is_of_pair}
use Rattle.pw_paired.specs.State.{OpenUnit, State}
use Rattle.pw_paired.specs.Units.{leave_units, only, without_locks}
use Rattle.pw_tmf.specs.Leaving.{CanLeave, is_among}
use Rattle.pw_tmf.specs.Tells.{Tells}
use Rattle.pw_tmf.proofs.LeftUnits.{tells-leave, tells-one}

pub there-is : {X : Type 0} (xs : List X) (i : ℕ) → i < length xs → (x : X) × (slice_get xs i ≡ Some x)
there-is xs i lt = ⊎_elim (λ w. (w.0, w.2)) (λ past. absurd (omega (arith, lt, past.0))) (slice_get_cases xs i).1

-- of a terminal of the system
pub pair-among : (system : System) (script : List FailLine) (p : ℕ) (terminals : List ℕ) → AreOf system p terminals → (t : ℕ) → t < length system.terminals
    → is_of_pair (behaviour script system) p t ≡ is_among terminals t
pair-among system script p terminals are t low =
    let info = there-is system.terminals t low in
    ap (λ q. q == p) (pair-of system script t info.0 info.1) ∙ sym (among-is system p terminals are t info.0 info.1)

pub agrees-of : (system : System) (script : List FailLine) (p : ℕ) (terminals : List ℕ) (state : State) → AreOf system p terminals → KnowsAll (behaviour script system) state
    → Agrees system state (is_of_pair (behaviour script system) p) terminals
agrees-of system script p terminals state are knows = record {
  terminals_are = λ t info here. ap (λ q. q == p) (pair-of system script t info here) ∙ sym (among-is system p terminals are t info here);
  requests_are = λ c info here. record {
    waiting = All-weaker (λ request. request.terminal < length system.terminals) (λ request. is_of_pair (behaviour script system) p request.terminal ≡ is_among terminals request.terminal)
        (λ request low. pair-among system script p terminals are request.terminal low) (state.classes c).waiting (knows.waiting c);
    busy = λ i job works. pair-among system script p terminals are job.request.terminal (knows.busy c i job works);
  };
}

-- the disc tells the state behind the units that are left
pub tells-left : (system : System) (script : List FailLine) (p : ℕ) (terminals : List ℕ) (state : State) (kept : Kept) → AreOf system p terminals → KnowsAll (behaviour script system) state → CanLeave (behaviour script system) state
    → Stands system script state kept → Tells (behaviour script system) (leave_units (behaviour script system) (is_of_pair (behaviour script system) p) state) (leave terminals kept).disc
tells-left system script p terminals state kept are knows may stands =
    tells-leave (behaviour script system) state kept.disc (is_of_pair (behaviour script system) p) terminals stands.disc may
    (record {
      distinct = are.distinct;
      theirs = All-weaker (IsOf system p) (λ t. is_of_pair (behaviour script system) p t ≡ true)
          (λ t one. eq-eqb _ _ (pair-of system script t one.info one.here ∙ one.of_pair)) terminals are.each;
      every = λ t mine some.
          let own = unit-there (state.units t) some in
          sym (pair-among system script p terminals are t (knows.units t own.0 own.1)) ∙ mine;
    })
  where
    unit-there : (o : Option OpenUnit) → IsSome o → (own : OpenUnit) × (o ≡ Some own)
    unit-there None some = absurd (cc some)
    unit-there (Some own) some = (own, refl)

-- a terminal without an open unit has no locks
no-locks : (units : ℕ → Option OpenUnit) (t : ℕ) → units t ≡ None → (locks : List Lock) → All (λ lock. IsSome (units lock.unit.terminal)) locks → without_locks (only t) locks ≡ locks
no-locks units t none [] all = refl
no-locks units t none (lock ∷ locks) all =
    let other : only t lock.unit.terminal ≡ false = ne_eqb lock.unit.terminal t (λ is. absurd (cc (subst (λ o. IsSome o) (ap units is ∙ none) (All-head (λ (x : Lock). IsSome (units x.unit.terminal)) lock locks all)))) in
    rw other (ap (λ xs. lock ∷ xs) (no-locks units t none locks (All-tail (λ (x : Lock). IsSome (units x.unit.terminal)) lock locks all)))

-- the same for a terminal alone
pub tells-alone : (system : System) (script : List FailLine) (state : State) (kept : Kept) (t : ℕ) → CanLeave (behaviour script system) state → Stands system script state kept
    → Tells (behaviour script system) (leave_units (behaviour script system) (only t) state) (leave (t ∷ []) kept).disc
tells-alone system script state kept t may stands = tells-one (behaviour script system) state kept.disc t stands.disc (λ none. no-locks state.units t none state.locks may.held)

pub only-agrees-in : (system : System) (state : State) (t : ℕ) → Agrees system state (only t) (t ∷ [])
only-agrees-in system state t = record {
  terminals_are = λ s info here. only-among t s;
  requests_are = λ c info here. only-agrees t (state.classes c);
}
