-- Beyond the terminals and classes of a system what is kept is nothing.
use Rattle.std.proofs.Common.{◌≡◌, ℕ, ◌≤◌, ◌==◌, List, [], length, Option, None, Bool, true, false, refl, ap, ◌∙◌, arith}
use Rattle.std.specs.Prelude.{if◌then◌else◌}
use Rattle.std.specs.Option.{option_map}
use Rattle.std.proofs.Math.ListN.{get_or-eq_default}
use Rattle.pw_class.specs.Book.{queue_at}
use Rattle.pw_class.specs.Queue.{Queue, at_process, has_request}
use Rattle.pw_code.specs.declared.system.System.{System}
use Rattle.pw_world_store.specs.Keeps.{IsKeep, awaited_as, job_of, jobs_at, kept_by, no_seat, seat_at}
use Rattle.pw_pair.specs.Pairs.{SeenPair}
use Rattle.pw_world_store.specs.Jobs.{context_of}
use Rattle.pw_world_store.specs.declared.job.ProcessJob.{ProcessJob}
use Rattle.pw_world_store.specs.declared.seat.Seat.{Seat}
use Rattle.pw_tmf.specs.Told.{Told}
use Rattle.pw_world.specs.Bare.{IsBare}

same-if : {A : Type 0} (b : Bool) (x : A) → (if b then x else x) ≡ x
same-if true x = refl
same-if false x = refl

module _ (system : System) (seats : List Seat) (disc : Told) (book : List Queue) (jobs : List (List (Option ProcessJob))) (pairs : List SeenPair) (births : ℕ) (k : IsKeep system seats disc book jobs pairs) where
  no-seat-at : (t : ℕ) → length system.terminals ≤ t → seat_at seats t ≡ no_seat
  no-seat-at t past = let size = k.terminals in get_or-eq_default seats no_seat (omega (arith, size, past))

  no-queue-at : (c : ℕ) → length system.classes ≤ c → queue_at book c ≡ record { waiting = []; busy = [] }
  no-queue-at c past = let size = k.classes in get_or-eq_default book (record { waiting = []; busy = [] }) (omega (arith, size, past))

  no-jobs-at : (c : ℕ) → length system.classes ≤ c → jobs_at jobs c ≡ []
  no-jobs-at c past = let size = k.job_lists in get_or-eq_default jobs [] (omega (arith, size, past))

  pub bare : IsBare system (kept_by seats disc book jobs pairs births)
  bare = record {
    awaits = λ t past. ap (λ (s : Seat). option_map awaited_as s.awaits) (no-seat-at t past);
    ready = λ t past. ap (λ (s : Seat). option_map (λ at. at.context) s.ready) (no-seat-at t past);
    requests = λ c t past. ap (has_request t) (no-queue-at c past);
    busy = λ c i past. ap (λ q. at_process q i) (no-queue-at c past) ∙ same-if (i == 0) None;
    jobs = λ c i past. ap (λ l. context_of (job_of l i)) (no-jobs-at c past) ∙ ap context_of (same-if (i == 0) None);
  }
