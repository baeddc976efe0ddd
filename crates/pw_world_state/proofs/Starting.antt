-- Before the first entry.
use Rattle.std.proofs.Common.{◌≡◌, ℕ, zero, suc, ◌+◌, List, [], ◌∷◌, map, replicate, get_or, Some, None, refl, ap, ◌∙◌}
use Rattle.std.specs.Prelude.{slice_get}
use Rattle.std.proofs.lemmas.List.Elements.{All-nil, All-weaker}
use Rattle.pw_class.specs.Book.{first_queue}
use Rattle.pw_code.specs.declared.context.Context.{Context}
use Rattle.pw_code.specs.declared.system.System.{System}
use Rattle.pw_code.specs.declared.system.TermInfo.{TermInfo}
use Rattle.pw_event.specs.declared.script.FailLine.{FailLine}
use Rattle.pw_code_meaning.specs.OfSystem.{behaviour}
use Rattle.pw_world_state.specs.Arrivals.{StandsForPath}
use Rattle.pw_world_state.specs.Changes.{kept_start}
use Rattle.pw_world_state.specs.Members.{AreOf, IsOf}
use Rattle.pw_world_state.specs.Stands.{Stands, StandsForSeat}
use Rattle.pw_pair.proofs.Beginning.{all-seats, has-seat}
use Rattle.pw_pair.specs.Seats.{new_seat}
use Rattle.pw_pair.specs.declared.seat.BackupSeat.{BackupSeat}
use Rattle.pw_paired.specs.Queues.{requests_from}
use Rattle.pw_paired.specs.State.{Alone, State, starting}
use Rattle.pw_tmf.specs.Tells.{Tells}
use Rattle.pw_tmf.specs.Told.{Told}

-- no process of a class works
none-busy : (k n : ℕ) → replicate n None ≡ requests_from (λ i. None) k n
none-busy k zero = refl
none-busy k (suc n) = ap (λ xs. None ∷ xs) (none-busy (k + 1) n)

mapped-at : {A B : Type 0} (f : A → B) (xs : List A) (i : ℕ) (a : A) (d : B) → slice_get xs i ≡ Some a → get_or (map f xs) i d ≡ f a
mapped-at f [] i a d e = absurd (cc e)
mapped-at f (x ∷ xs) zero a d e = ap f (cc e)
mapped-at f (x ∷ xs) (suc i) a d e = mapped-at f xs i a d e

pub start-stands : (system : System) (script : List FailLine) (members : ℕ → List ℕ) (contexts : ℕ → Context) (disc : Told)
    → ((t : ℕ) (info : TermInfo) → slice_get system.terminals t ≡ Some info → StandsForPath system info [] (contexts t))
    → ((p : ℕ) → AreOf system p (members p)) → Tells (behaviour script system) (starting (behaviour script system)) disc
    → Stands system script (starting (behaviour script system)) (kept_start system members contexts disc)
start-stands system script members contexts disc paths are tells = record {
  terminals = λ t info here. record {
    path = paths t info here;
    ready = tt;
    there = λ works lives. refl;
    start = tt;
    restarts = refl;
    awaits = refl;
    pending = refl;
    ending = refl;
  };
  disc = tells;
  classes = λ c info here. record {
    queue_is = mapped-at first_queue system.classes c info _ here ∙ ap (λ busy. record { waiting = []; busy = busy }) (none-busy 1 info.processes);
    works_on = λ i. tt;
    within = λ i some. absurd (cc some);
  };
  pairs = λ p few. record {
    mode_is = refl;
    seats = all-seats (Stood p) (members p) [] (All-nil (Stood p)) (All-weaker (IsOf system p) (λ t. Stood p (new_seat t)) (λ t one. record {
      info = one.info;
      here = one.here;
      of_pair = one.of_pair;
      dropped = refl;
      names = λ held e. absurd (cc e);
      memory_is = tt;
      flight_is = tt;
      at_rest = λ calm. refl;
    }) (members p) (are p).each);
    every = λ t info here of. has-seat t (members p) [] ((are p).every t info here of);
  };
  births = refl;
}
  where
    first : State
    first = starting (behaviour script system)

    Stood : ℕ → BackupSeat → Type 0
    Stood p = StandsForSeat system p Alone first.terms first.memory first.flight
