-- What a terminal may do whose program stands at a verb.
use Rattle.std.proofs.Common.{◌≡◌, ℕ, ◌&&◌, Bool, true, false, Option, Some, None, refl, sym, ap, ◌∙◌, cond}
use Rattle.std.specs.Borrow.{Bor}
use Rattle.std.specs.Option.{option_copied, option_map}
use Rattle.pw_code.specs.declared.context.Context.{Context}
use Rattle.pw_code.specs.declared.system.System.{System}
use Rattle.pw_world_state.specs.Kept.{Kept}
use Rattle.pw_world_state.specs.NextSteps.{HasNoVerbStep}
use Rattle.pw_world_state.specs.TerminalTests.{can_step, can_where}
use Rattle.pw_laws.specs.legal.Values.{some_with}
use Rattle.pw_world_store.specs.declared.seat.Ready.{Ready}
use Rattle.pw_entry_tests.proofs.At.{read-at}
use Rattle.pw_entry_tests.specs.Known.{stepping}

where-split : {A : Type 0} (c : Bool) (test : A → Bool) (ready : Option A) → (c && some_with test ready) ≡ some_with test (cond c ready None)
where-split true test ready = refl
where-split false test ready = refl

module _ (system : System) (kept : Kept) (t : ℕ) where
  -- the test of the context at the verb, if the terminal can step
  where-is : (test : Context → Bool) → can_where system kept t test ≡ some_with test (stepping system kept t)
  where-is test = where-split (can_step system kept t) test (kept.terminals t).ready

  -- where it cannot step it has no entry at its verb
  module _ (e : stepping system kept t ≡ None) where
    still : (test : Context → Bool) → can_where system kept t test ≡ false
    still test = where-is test ∙ ap (some_with test) e

    pub none-still : HasNoVerbStep system kept t
    none-still = record {
      show = λ phase attempt k. still _;
      key = λ k. still _;
      check_start = still _;
      check_end = still _;
      begin = λ n r. still _;
      send = λ n c. still _;
      again = λ n. still _;
      commit = λ n. still _;
      back = λ n. still _;
      stop = still _;
      entries = still _;
      fault = λ x. still _;
    }

-- the test at the verb that was read
pub told-at : (system : System) (kept : Kept) (t : ℕ) (r : Option (Bor Ready)) (ready : Bor Ready)
    → option_map (λ (one : Ready). one.context) (option_copied r) ≡ stepping system kept t → r ≡ Some ready
    → (test : Context → Bool) → test ready.now.context ≡ can_where system kept t test
told-at system kept t r ready stands is test =
    sym (where-is system kept t test ∙ ap (some_with test) (read-at r ready (stepping system kept t) stands is))
