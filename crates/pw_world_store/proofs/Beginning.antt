-- What is kept before the first entry.
use Rattle.std.proofs.Common.{◌≡◌, ℕ, ◌+◌, ◌-◌, ◌==◌, ◌<◌, ◌≤◌, Bool, true, false, List, [], ◌∷◌, Option, Some, None, map, replicate, drop, get_or, cond, ◌++◌, append_assoc, ◌∙◌, ⊎_elim, refl, sym, ap, ap₂, subst, length, arith}
use Rattle.std.specs.Prelude.{All, if◌then◌else◌, is_some, slice_get, slice_index_or}
use Rattle.std.proofs.Math.Path.{fun_ext}
use Rattle.std.proofs.Math.Seq.{get_or-append_seam}
use Rattle.std.proofs.lemmas.Bool.{cases_lt, ne_eqb}
use Rattle.std.proofs.lemmas.List.{get_or-map, get_or-replicate, get_or_append_left, get_or_past, length-map, length-replicate, length_push}
use Rattle.std.proofs.lemmas.List.Elements.{All-head, All-tail}
use Rattle.std.proofs.lemmas.Option.{slice_get-get_or, slice_get_past}
use Rattle.pw_base.proofs.Plain.{some_is}
use Rattle.pw_class.specs.Book.{first_queue, queue_at}
use Rattle.pw_class.specs.declared.request.Request.{Request}
use Rattle.pw_code.specs.Valid.{IsValid}
use Rattle.pw_code.specs.declared.context.Context.{Context}
use Rattle.pw_code.specs.declared.system.ClassInfo.{ClassInfo}
use Rattle.pw_code.specs.declared.system.System.{System}
use Rattle.pw_code.specs.declared.system.TermInfo.{TermInfo}
use Rattle.pw_world_store.specs.Keeps.{HasVerb, IsKeep, IsStaffed, JobHasVerb, is_run, job_of, job_terminal, jobs_at, kept_by, kept_of, no_pair, no_seat, pair_at, request_terminal, seat_at, terminals_in}
use Rattle.pw_world_store.specs.Starting.{AreFirstPairs, IsIdleDisc, context_for, first_context, first_kept, no_jobs_for, seat_for}
use Rattle.pw_world_state.specs.Members.{members_from, members_of, AreOf}
use Rattle.pw_class.specs.Queue.{Queue}
use Rattle.pw_world_store.proofs.Loops.{left-is}
use Rattle.pw_world_state.proofs.Members.{members-are, seats-are}
use Rattle.pw_world_store.proofs.Parts.{of-parts}
use Rattle.pw_world_store.proofs.Posts.{no_queue}
use Rattle.pw_world_state.specs.Changes.{first_pair, first_terminal}
use Rattle.pw_world_state.specs.Kept.{KeptTerminal}
use Rattle.pw_pair.specs.Pairs.{SeenPair}
use Rattle.pw_world_store.specs.Jobs.{context_of}
use Rattle.pw_world_store.specs.declared.job.ProcessJob.{ProcessJob}
use Rattle.pw_world_store.specs.declared.seat.Seat.{Seat}
use Rattle.pw_tmf.specs.Leaving.{unit_told}
use Rattle.pw_tmf.specs.Told.{Told}

-- ---- terminals

-- each seat is one that the system says, or none
seat-is : (P : ℕ → Seat → Type 0) (system : System)
    → ((t : ℕ) (info : TermInfo) → slice_get system.terminals t ≡ Some info → P t (seat_for system info))
    → ((t : ℕ) → slice_get system.terminals t ≡ None → P t no_seat)
    → (t : ℕ) → P t (seat_at (map (seat_for system) system.terminals) t)
seat-is P system here none t =
    ⊎_elim
    (λ lt.
    let info = get_or system.terminals t (record { name = []; tcp = 0; program = 0; max_restarts = 0; entries = [] }) in
    subst (P t) (sym (get_or-map (seat_for system) system.terminals t (record { name = []; tcp = 0; program = 0; max_restarts = 0; entries = [] }) no_seat lt))
    (here t info (slice_get-get_or system.terminals t (record { name = []; tcp = 0; program = 0; max_restarts = 0; entries = [] }) lt)))
    (λ past.
    subst (P t) (sym (get_or_past (map (seat_for system) system.terminals) t no_seat (subst (λ n. n ≤ t) (sym (length-map system.terminals (seat_for system))) past)))
    (none t (slice_get_past system.terminals t past)))
    (cases_lt t (length system.terminals))

terminal-is : (system : System) (t : ℕ) → kept_of (seat_at (map (seat_for system) system.terminals) t) ≡ first_terminal (first_context system t)
terminal-is system =
    seat-is (λ t s. kept_of s ≡ first_terminal (first_context system t)) system
    (λ t info is. sym (ap (λ o. first_terminal (context_for system o)) is))
    (λ t is. sym (ap (λ o. first_terminal (context_for system o)) is))

-- ---- processes

no-place : {X : Type 0} (n i : ℕ) → slice_index_or (replicate {A = Option X} n None) i None ≡ None
no-place n i =
    ⊎_elim
    (λ lt. get_or-replicate n i None None lt)
    (λ past. get_or_past (replicate n None) i None (subst (λ k. k ≤ i) (sym (length-replicate n None)) past))
    (cases_lt i n)

-- no process has a job
no-job : (classes : List ClassInfo) (c i : ℕ) → job_of (jobs_at (map no_jobs_for classes) c) i ≡ None
no-job classes c i =
    ⊎_elim
    (λ lt.
    ap (λ js. job_of js i) (get_or-map no_jobs_for classes c (record { name = []; server = 0; processes = 0 }) [] lt)
    ∙ of-one (get_or classes c (record { name = []; server = 0; processes = 0 })).processes (i == 0))
    (λ past.
    ap (λ js. job_of js i) (get_or_past (map no_jobs_for classes) c [] (subst (λ n. n ≤ c) (sym (length-map classes no_jobs_for)) past))
    ∙ of-none (i == 0))
    (cases_lt c (length classes))
  where
    of-one : (n : ℕ) (b : Bool) → cond b None (slice_index_or (replicate {A = Option ProcessJob} n None) (i - 1) None) ≡ None
    of-one n true = refl
    of-one n false = no-place n (i - 1)

    of-none : (b : Bool) → cond b None (slice_index_or {A = Option ProcessJob} [] (i - 1) None) ≡ None
    of-none true = refl
    of-none false = get_or_past [] (i - 1) None (omega arith)

abbrev no_info : ClassInfo
no_info = record { name = []; server = 0; processes = 0 }

-- what a list of the classes has of a class
class-is : {B : Type 0} (f : ClassInfo → B) (e : B) (classes : List ClassInfo) (c : ℕ) (info : ClassInfo) → slice_get classes c ≡ Some info
    → get_or (map f classes) c e ≡ f info
class-is f e classes c info at =
    ⊎_elim
    (λ lt. get_or-map f classes c no_info e lt ∙ ap f (some_is (sym (slice_get-get_or classes c no_info lt) ∙ at)))
    (λ past. absurd (cc (at, slice_get_past classes c past)))
    (cases_lt c (length classes))

free-post : (n i : ℕ) (b : Bool) → job_terminal (cond b None (slice_index_or (replicate {A = Option ProcessJob} n None) i None))
    ≡ request_terminal (cond b None (slice_index_or (replicate {A = Option Request} n None) i None))
free-post n i true = refl
free-post n i false = ap job_terminal (no-place n i) ∙ sym (ap request_terminal (no-place n i))

-- ---- pairs

none-from : (p n t : ℕ) (infos : List TermInfo) → All (λ (info : TermInfo). info.tcp < n) infos → n ≤ p → members_from p t infos ≡ []
none-from p n t [] all past = refl
none-from p n t (info ∷ infos) all past =
    let low : info.tcp < n = All-head (λ (one : TermInfo). one.tcp < n) info infos all in
    let other : (info.tcp == p) ≡ false = ne_eqb info.tcp p (λ e. omega (arith, e, low, past)) in
    rw other (none-from p n (t + 1) infos (All-tail (λ (one : TermInfo). one.tcp < n) info infos all) past)

pair-is : (system : System) (pairs : List SeenPair) → IsValid system → AreFirstPairs system (length system.tcps) pairs → (p : ℕ)
    → pair_at pairs p ≡ first_pair (members_of system p)
pair-is system pairs valid first p =
    ⊎_elim
    (λ lt. first.each p lt)
    (λ past.
    get_or_past pairs p no_pair (subst (λ n. n ≤ p) (sym first.size) past)
    ∙ sym (ap first_pair (none-from p (length system.tcps) 0 system.terminals (λ k d lt. (valid.terminals k d lt).pair) past)))
    (cases_lt p (length system.tcps))

-- ---- the whole

pub first-kept-is : (system : System) (disc : Told) (pairs : List SeenPair) → IsValid system → AreFirstPairs system (length system.tcps) pairs
    → kept_by (map (seat_for system) system.terminals) disc (map first_queue system.classes) (map no_jobs_for system.classes) pairs 0
    ≡ first_kept system disc
first-kept-is system disc pairs valid first =
    ap₂ (λ (terminals : ℕ → KeptTerminal) (jobs : ℕ → ℕ → Option Context). of-parts terminals disc (queue_at (map first_queue system.classes)) jobs (pair_at pairs) 0)
    (fun_ext (terminal-is system)) (fun_ext (λ c. fun_ext (λ i. ap context_of (no-job system.classes c i))))
    ∙ ap (λ (all : ℕ → SeenPair). of-parts (λ t. first_terminal (first_context system t)) disc (queue_at (map first_queue system.classes)) (λ c i. None) all 0)
    (fun_ext (pair-is system pairs valid first))

pub first-keep : (system : System) (disc : Told) (pairs : List SeenPair) → IsValid system → IsIdleDisc system disc → AreFirstPairs system (length system.tcps) pairs
    → IsKeep system (map (seat_for system) system.terminals) disc (map first_queue system.classes) (map no_jobs_for system.classes) pairs
first-keep system disc pairs valid idle first = record {
  valid = valid;
  terminals = length-map system.terminals (seat_for system);
  classes = length-map system.classes first_queue;
  job_lists = length-map system.classes no_jobs_for;
  pairs_are = first.size;
  disc_terminals = idle.terminals;
  disc_files = idle.files;
  units = λ t low. seat-is (λ k s. s.unit ≡ None) system (λ k info is. refl) (λ k is. refl) t ∙ sym (ap (unit_told t) (idle.units t));
  runs = λ t low. seat-is (λ k s. is_some s.start ≡ false) system (λ k info is. refl) (λ k is. refl) t ∙ sym (ap is_run (idle.units t));
  members = λ p low.
      subst (AreOf system p)
      (sym (seats-are system p) ∙ sym (ap terminals_in (pair-is system pairs valid first p)))
      (members-are system p);
  verbs = λ t. seat-is (λ k s. HasVerb system s) system (λ k info is. tt) (λ k is. tt) t;
  staffed = λ c info at.
      let queue : queue_at (map first_queue system.classes) c ≡ first_queue info = class-is first_queue no_queue system.classes c info at in
      let jobs : jobs_at (map no_jobs_for system.classes) c ≡ no_jobs_for info = class-is no_jobs_for [] system.classes c info at in
      subst (λ q. IsStaffed info q (jobs_at (map no_jobs_for system.classes) c)) (sym queue)
      (subst (IsStaffed info (first_queue info)) (sym jobs) (record {
        book = length-replicate info.processes None;
        jobs_are = length-replicate info.processes None;
        posts = λ i. free-post info.processes (i - 1) (i == 0);
      }));
  job_verbs = λ c i. subst (JobHasVerb system) (sym (no-job system.classes c i)) tt;
}

-- ---- one after the other

-- one pair more
pub first-more : (system : System) (n : ℕ) (pairs : List SeenPair) (pair : SeenPair) → AreFirstPairs system n pairs → pair ≡ first_pair (members_of system n)
    → AreFirstPairs system (n + 1) (pairs ++ pair ∷ [])
first-more system n pairs pair old is = record {
  size = length_push pairs pair ∙ ap (λ k. k + 1) old.size;
  each = λ p low.
      ⊎_elim
      (λ lt. get_or_append_left pairs (pair ∷ []) no_pair p (subst (λ k. p < k) (sym old.size) lt) ∙ old.each p lt)
      (λ past.
      let here : p ≡ length pairs = (let size = old.size in omega (arith, past, low, size)) in
      let own : p ≡ n = omega (arith, past, low) in
      ap (λ k. get_or (pairs ++ pair ∷ []) k no_pair) here
      ∙ (get_or-append_seam pairs pair [] no_pair ∙ (is ∙ ap (λ k. first_pair (members_of system k)) (sym own))))
      (cases_lt p n);
}

-- the terminals of a pair, with those that are left
members-by : (b : Bool) (so_far : List ℕ) (t : ℕ) (rest : List ℕ) → b ≡ true → so_far ++ (if b then t ∷ rest else rest) ≡ (so_far ++ t ∷ []) ++ rest
members-by true so_far t rest e = sym (append_assoc so_far (t ∷ []) rest)
members-by false so_far t rest e = absurd (cc e)

pub members-own : (p i : ℕ) (infos : List TermInfo) (info : TermInfo) (so_far all : List ℕ) → i < length infos → info ≡ get_or infos i info → (info.tcp == p) ≡ true
    → so_far ++ members_from p i (drop i infos) ≡ all → (so_far ++ i ∷ []) ++ members_from p (i + 1) (drop (i + 1) infos) ≡ all
members-own p i infos info so_far all lt is own known =
    sym (members-by (info.tcp == p) so_far i (members_from p (i + 1) (drop (i + 1) infos)) own)
    ∙ (sym (ap (λ l. so_far ++ members_from p i l) (left-is infos i info lt is)) ∙ known)

pub members-other : (p i : ℕ) (infos : List TermInfo) (info : TermInfo) (so_far all : List ℕ) → i < length infos → info ≡ get_or infos i info → (info.tcp == p) ≡ false
    → so_far ++ members_from p i (drop i infos) ≡ all → so_far ++ members_from p (i + 1) (drop (i + 1) infos) ≡ all
members-other p i infos info so_far all lt is other known =
    ap (λ b. so_far ++ (if b then i ∷ members_from p (i + 1) (drop (i + 1) infos) else members_from p (i + 1) (drop (i + 1) infos))) (sym other)
    ∙ (sym (ap (λ l. so_far ++ members_from p i l) (left-is infos i info lt is)) ∙ known)

-- the whole, by what its parts are
pub first-keep-by : (system : System) (seats : List Seat) (disc : Told) (book : List Queue) (jobs : List (List (Option ProcessJob))) (pairs : List SeenPair)
    → IsValid system → IsIdleDisc system disc → seats ≡ map (seat_for system) system.terminals → book ≡ map first_queue system.classes
    → jobs ≡ map no_jobs_for system.classes → AreFirstPairs system (length system.tcps) pairs
    → IsKeep system seats disc book jobs pairs
first-keep-by system seats disc book jobs pairs valid idle is_seats is_book is_jobs first =
    subst (λ (s : List Seat). IsKeep system s disc book jobs pairs) (sym is_seats)
    (subst (λ (b : List Queue). IsKeep system (map (seat_for system) system.terminals) disc b jobs pairs) (sym is_book)
    (subst (λ (j : List (List (Option ProcessJob))). IsKeep system (map (seat_for system) system.terminals) disc (map first_queue system.classes) j pairs) (sym is_jobs)
    (first-keep system disc pairs valid idle first)))

pub first-kept-by : (system : System) (seats : List Seat) (disc : Told) (book : List Queue) (jobs : List (List (Option ProcessJob))) (pairs : List SeenPair)
    → IsValid system → seats ≡ map (seat_for system) system.terminals → book ≡ map first_queue system.classes
    → jobs ≡ map no_jobs_for system.classes → AreFirstPairs system (length system.tcps) pairs
    → kept_by seats disc book jobs pairs 0 ≡ first_kept system disc
first-kept-by system seats disc book jobs pairs valid is_seats is_book is_jobs first =
    ap (λ (s : List Seat). kept_by s disc book jobs pairs 0) is_seats
    ∙ (ap₂ (λ (b : List Queue) (j : List (List (Option ProcessJob))). kept_by (map (seat_for system) system.terminals) disc b j pairs 0) is_book is_jobs
    ∙ first-kept-is system disc pairs valid first)
