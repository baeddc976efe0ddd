-- The process that takes the next request of a class.
use Rattle.std.proofs.Common.{◌≡◌, ℕ, suc, ◌+◌, ◌-◌, ◌<◌, ◌≤◌, List, [], ◌∷◌, Option, Some, None, cond, get_or, ◌∙◌, refl, sym, ap, ap₂, length, arith}
use Rattle.std.specs.Prelude.{Bool, is_none, not, option_map, position, slice_get, slice_index_or}
use Rattle.std.specs.List.{position_or_len}
use Rattle.std.proofs.lemmas.List.Quantifiers.{position-Some}
use Rattle.std.proofs.lemmas.Option.{slice_get-get_or}
use Rattle.pw_class.specs.Book.{queue_at}
use Rattle.pw_class.specs.Queue.{Queue, free_place, taken_of}
use Rattle.pw_class.specs.declared.request.Request.{Request}
use Rattle.pw_code.specs.Limits.{most_processes}
use Rattle.pw_code.specs.declared.system.ClassInfo.{ClassInfo}
use Rattle.pw_code.specs.declared.system.System.{System}
use Rattle.pw_world_store.specs.Calls.{request_given, given_to}
use Rattle.pw_world_store.specs.Keeps.{IsKeep, job_terminal, jobs_at, request_terminal}
use Rattle.pw_world_store.proofs.Posts.{from-one-at}
use Rattle.pw_pair.specs.Pairs.{SeenPair}
use Rattle.pw_world_store.specs.declared.job.ProcessJob.{ProcessJob}
use Rattle.pw_world_store.specs.declared.seat.Seat.{Seat}
use Rattle.pw_tmf.specs.Told.{Told}

-- ---- the request that is given

pub given-is : (waiting : List Request) (free : Option ℕ) → given_to (option_map (λ (k : ℕ). k + 1) free) (slice_get waiting 0) ≡ request_given (taken_of waiting free)
given-is [] None = refl
given-is [] (Some k) = refl
given-is (w ∷ ws) None = refl
given-is (w ∷ ws) (Some k) = refl

-- ---- the free process

none-same : (job : Option ProcessJob) (request : Option Request) → job_terminal job ≡ request_terminal request → is_none job ≡ is_none request
none-same None None e = refl
none-same None (Some r) e = absurd (cc e)
none-same (Some own) None e = absurd (cc e)
none-same (Some own) (Some r) e = refl

place-same : (jobs : List (Option ProcessJob)) (busy : List (Option Request)) → length jobs ≡ length busy
    → ((k : ℕ) → job_terminal (slice_index_or jobs k None) ≡ request_terminal (slice_index_or busy k None))
    → position_or_len is_none jobs ≡ position_or_len is_none busy
place-same [] [] size posts = refl
place-same [] (r ∷ rs) size posts = absurd (cc size)
place-same (j ∷ js) [] size posts = absurd (cc size)
place-same (j ∷ js) (r ∷ rs) size posts =
    ap₂ (λ (b : Bool) (n : ℕ). cond (not b) (1 + n) 0) (none-same j r (posts 0))
    (place-same js rs (omega (arith, size)) (λ k. posts (suc k)))

position-same : (jobs : List (Option ProcessJob)) (busy : List (Option Request)) → length jobs ≡ length busy
    → ((k : ℕ) → job_terminal (slice_index_or jobs k None) ≡ request_terminal (slice_index_or busy k None))
    → position is_none jobs ≡ position is_none busy
position-same jobs busy size posts = let place = place-same jobs busy size posts in rw (place, size) refl

pub free-same : (system : System) (seats : List Seat) (disc : Told) (book : List Queue) (jobs : List (List (Option ProcessJob))) (pairs : List SeenPair) (c : ℕ)
    → IsKeep system seats disc book jobs pairs → c < length system.classes
    → position is_none (jobs_at jobs c) ≡ free_place (queue_at book c)
free-same system seats disc book jobs pairs c old low =
    let none : ClassInfo = record { name = []; server = 0; processes = 0 } in
    let staff = old.staffed c (get_or system.classes c none) (slice_get-get_or system.classes c none low) in
    position-same (jobs_at jobs c) (queue_at book c).busy (staff.jobs_are ∙ sym staff.book)
    (λ k.
    let up : 1 ≤ k + 1 = omega arith in
    let back : k + 1 - 1 ≡ k = omega arith in
    ap (λ n. job_terminal (slice_index_or (jobs_at jobs c) n None)) (sym back)
    ∙ (ap job_terminal (sym (from-one-at (jobs_at jobs c) (k + 1) up))
    ∙ (staff.posts (k + 1)
    ∙ (ap request_terminal (from-one-at (queue_at book c).busy (k + 1) up)
    ∙ ap (λ n. request_terminal (slice_index_or (queue_at book c).busy n None)) back))))

-- there are few
pub free-low : (system : System) (seats : List Seat) (disc : Told) (book : List Queue) (jobs : List (List (Option ProcessJob))) (pairs : List SeenPair) (c k : ℕ)
    → IsKeep system seats disc book jobs pairs → c < length system.classes → position is_none (jobs_at jobs c) ≡ Some k → k < most_processes
free-low system seats disc book jobs pairs c k old low is =
    let none : ClassInfo = record { name = []; server = 0; processes = 0 } in
    let staff = old.staffed c (get_or system.classes c none) (slice_get-get_or system.classes c none low) in
    let within = (position-Some is_none (jobs_at jobs c) k None is).0 in
    let few = (old.valid.classes c none low).few in
    let size = staff.jobs_are in
    omega (arith, within, size, few)
