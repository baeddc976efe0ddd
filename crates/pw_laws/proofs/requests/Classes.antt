-- What a class has of a terminal, what each change of a class leaves of it, and where requests can be.
use Rattle.std.proofs.Common.{◌≡◌, ◌≢◌, ℕ, zero, suc, ◌+◌, ◌<◌, ◌≤◌, Bool, true, false, List, [], ◌∷◌, ◌++◌, Option, Some, None, refl, sym, ap, subst, ◌∙◌, arith}
use Rattle.std.specs.Prelude.{not, filter}
use Rattle.std.specs.List.{AllByRecursion}
use Rattle.std.proofs.lemmas.Bool.{cond_both, cond-true, cond-false, not_from_false, not_from_true}
use Rattle.std.proofs.lemmas.List.{append_assoc}
use Rattle.std.proofs.lemmas.List.Elements.{filter-append}
use Rattle.pw_class.specs.declared.request.Request.{Request}
use Rattle.pw_onecopy.proofs.Update.{upd_elim, upd-same}
use Rattle.pw_onecopy.specs.Behaviour.{Behaviour}
use Rattle.pw_onecopy.specs.Update.{upd}
use Rattle.pw_paired.specs.Server.{with_job_at, first_free, with_first_taken}
use Rattle.pw_paired.specs.State.{Class, Job}
use Rattle.pw_paired.specs.Terminal.{with_request}
use Rattle.pw_paired.specs.Units.{freed_of, without_requests}

-- none of the requests is of the terminal
abbrev pub NoneOf : ℕ → List Request → Type 0
NoneOf t requests = AllByRecursion (λ request. request.terminal ≢ t) requests

-- this one of the requests is of the terminal, and no other one
pub record IsOneOf (t : ℕ) (request : Request) (requests : List Request) : Type 0 where
  pub front : List Request
  pub back : List Request
  pub waits : requests ≡ front ++ request ∷ back
  pub whose : request.terminal ≡ t
  pub before : NoneOf t front
  pub behind : NoneOf t back

-- what is at a process is not for the terminal
abbrev pub NotFor : ℕ → Option Job → Type 0
NotFor t None = Unit {0}
NotFor t (Some job) = job.request.terminal ≢ t

-- no process works for the terminal
abbrev pub NoneWorks : ℕ → (ℕ → Option Job) → Type 0
NoneWorks t busy = (i : ℕ) → NotFor t (busy i)

-- this process works on this job of the terminal, and no other process works for it
pub record IsOneAtWork (t i : ℕ) (job : Job) (busy : ℕ → Option Job) : Type 0 where
  pub works : busy i ≡ Some job
  pub whose : job.request.terminal ≡ t
  pub others : (j : ℕ) → j ≢ i → NotFor t (busy j)

-- the class has no request of the terminal
pub record IsWithout (t : ℕ) (class : Class) : Type 0 where
  pub line : NoneOf t class.waiting
  pub work : NoneWorks t class.busy

-- this request is the terminal's only one at the class, and waits
pub record HasInLine (t : ℕ) (request : Request) (class : Class) : Type 0 where
  pub line : IsOneOf t request class.waiting
  pub work : NoneWorks t class.busy

-- this job's request is the terminal's only one at the class
pub record HasAtWork (t i : ℕ) (job : Job) (class : Class) : Type 0 where
  pub line : NoneOf t class.waiting
  pub work : IsOneAtWork t i job class.busy

-- Lists of requests.

none-append : (t : ℕ) (xs ys : List Request) → NoneOf t xs → NoneOf t ys → NoneOf t (xs ++ ys)
none-append t [] ys none more = more
none-append t (x ∷ xs) ys none more = (none.0, none-append t xs ys none.1 more)

none-filter : (t : ℕ) (p : Request → Bool) (xs : List Request) → NoneOf t xs → NoneOf t (filter p xs)
none-filter t p [] none = tt
none-filter t p (x ∷ xs) none =
    let rest : NoneOf t (filter p xs) = none-filter t p xs none.1 in
    cond_both (p x) (x ∷ filter p xs) (filter p xs) (NoneOf t) (λ _. (none.0, rest)) (λ _. rest)

-- a list that has a request of the terminal is not without
pub none_not : {t : ℕ} (front : List Request) (request : Request) (back : List Request) → request.terminal ≡ t
    → NoneOf t (front ++ request ∷ back) → ⊥
none_not [] request back whose none = none.0 whose
none_not (x ∷ front) request back whose none = none_not front request back whose none.1

-- a request of the terminal in a line is the one, and none behind it is another
pub the_one : {t : ℕ} {line : List Request}
    (front : List Request) (request : Request) (back : List Request) (one : Request)
    → line ≡ front ++ request ∷ back → request.terminal ≡ t → IsOneOf t one line → (request ≡ one) × NoneOf t back
the_one {t = t} front request back one same whose has = along front has.front (sym same ∙ has.waits) has.before
  where
    along : (front before : List Request) → front ++ request ∷ back ≡ before ++ one ∷ has.back → NoneOf t before
        → (request ≡ one) × NoneOf t back
    along [] [] is none =
        let rest : back ≡ has.back = cc in
        (cc, subst (NoneOf t) (sym rest) has.behind)
    along [] (x ∷ before) is none =
        let first : request ≡ x = cc in
        absurd (none.0 (subst (λ (r : Request). r.terminal ≡ t) first whose))
    along (x ∷ front) [] is none =
        let rest : front ++ request ∷ back ≡ has.back = cc in
        absurd (none_not front request back whose (subst (NoneOf t) (sym rest) has.behind))
    along (x ∷ front) (y ∷ before) is none =
        let rest : front ++ request ∷ back ≡ before ++ one ∷ has.back = cc in
        along front before rest none.1

-- what a change of a line leaves of a terminal
record LineKept (t : ℕ) (xs ys : List Request) : Type 0 where
  none : NoneOf t xs → NoneOf t ys
  one : (request : Request) → IsOneOf t request xs → IsOneOf t request ys

line_same : (t : ℕ) (xs : List Request) → LineKept t xs xs
line_same t xs = record { none = λ none. none; one = λ request one. one }

line_longer : (t : ℕ) (xs : List Request) (last : Request) → last.terminal ≢ t → LineKept t xs (xs ++ last ∷ [])
line_longer t xs last other = record {
  none = λ none. none-append t xs (last ∷ []) none (other, tt);
  one = λ request one. record {
    front = one.front;
    back = one.back ++ last ∷ [];
    waits = ap (λ line. line ++ last ∷ []) one.waits ∙ append_assoc one.front (request ∷ one.back) (last ∷ []);
    whose = one.whose;
    before = one.before;
    behind = none-append t one.back (last ∷ []) one.behind (other, tt);
  };
}

line_shorter : (t : ℕ) (first : Request) (xs : List Request) → first.terminal ≢ t → LineKept t (first ∷ xs) xs
line_shorter t first xs other = record {
  none = λ none. none.1;
  one = λ request one. shorter request one.front one.back one.waits one.whose one.before one.behind;
}
  where
    shorter : (request : Request) (front back : List Request) → first ∷ xs ≡ front ++ request ∷ back
        → request.terminal ≡ t → NoneOf t front → NoneOf t back → IsOneOf t request xs
    shorter request [] back waits whose before behind =
        let is_first : request ≡ first = cc in
        absurd (other (subst (λ (r : Request). r.terminal ≡ t) is_first whose))
    shorter request (x ∷ front) back waits whose before behind = record {
      front = front;
      back = back;
      waits = cc;
      whose = whose;
      before = before.1;
      behind = behind;
    }

line_filtered : (t : ℕ) (whose : ℕ → Bool) (xs : List Request) → whose t ≡ false
    → LineKept t xs (filter (λ request. not (whose request.terminal)) xs)
line_filtered t whose xs spared =
    let p : Request → Bool = λ request. not (whose request.terminal) in
    record {
      none = none-filter t p xs;
      one = λ request one.
          let stays : whose request.terminal ≡ false = subst (λ (o : ℕ). whose o ≡ false) (sym one.whose) spared in
          let passes : p request ≡ true = not_from_false _ stays in
          let at_front = cond-true (p request) (request ∷ filter p one.back) (filter p one.back) passes in
          record {
            front = filter p one.front;
            back = filter p one.back;
            waits = ap (filter p) one.waits ∙ (filter-append p one.front (request ∷ one.back)
                ∙ ap (λ line. filter p one.front ++ line) at_front);
            whose = one.whose;
            before = none-filter t p one.front one.before;
            behind = none-filter t p one.back one.behind;
          };
    }

-- no request of the terminals that are filtered out is left
none_left : (t : ℕ) (whose : ℕ → Bool) (xs : List Request) → whose t ≡ true
    → NoneOf t (filter (λ request. not (whose request.terminal)) xs)
none_left t whose [] out = tt
none_left t whose (x ∷ xs) out =
    let p : Request → Bool = λ request. not (whose request.terminal) in
    let rest : NoneOf t (filter p xs) = none_left t whose xs out in
    cond_both (p x) (x ∷ filter p xs) (filter p xs) (NoneOf t)
    (λ passes. (λ is. absurd (cc (passes, not_from_true _ (subst (λ (o : ℕ). whose o ≡ true) (sym is) out))), rest))
    (λ _. rest)

-- Processes.

-- a process with a job of the terminal works for it
pub not_for : {t : ℕ} {busy : Option Job} {job : Job} → busy ≡ Some job → job.request.terminal ≡ t → NotFor t busy → ⊥
not_for {t = t} works whose none = subst (NotFor t) works none whose

-- what a change of the processes leaves of a terminal
record WorkKept (t : ℕ) (old new : ℕ → Option Job) : Type 0 where
  none : NoneWorks t old → NoneWorks t new
  one : (i : ℕ) (job : Job) → IsOneAtWork t i job old → IsOneAtWork t i job new

work_same : (t : ℕ) (busy : ℕ → Option Job) → WorkKept t busy busy
work_same t busy = record { none = λ none. none; one = λ i job one. one }

work_at : (t : ℕ) (busy : ℕ → Option Job) (i : ℕ) (next : Option Job) → NotFor t (busy i) → NotFor t next
    → WorkKept t busy (upd busy i next)
work_at t busy i next other still = record {
  none = λ none j. upd_elim busy i next j (NotFor t) (λ _. still) (λ _. none j);
  one = λ j job one. record {
    works = upd_elim busy i next j (λ work. work ≡ Some job)
        (λ is. absurd (not_for (ap busy (sym is) ∙ one.works) one.whose other)) (λ _. one.works);
    whose = one.whose;
    others = λ k ne. upd_elim busy i next k (NotFor t) (λ _. still) (λ _. one.others k ne);
  };
}

freed_not : (t : ℕ) (whose : ℕ → Bool) (busy : Option Job) → NotFor t busy → NotFor t (freed_of whose busy)
freed_not t whose None other = tt
freed_not t whose (Some job) other =
    cond_both (whose job.request.terminal) None (Some job) (NotFor t) (λ _. tt) (λ _. other)

freed_out : (t : ℕ) (whose : ℕ → Bool) (busy : Option Job) → whose t ≡ true → NotFor t (freed_of whose busy)
freed_out t whose None out = tt
freed_out t whose (Some job) out =
    cond_both (whose job.request.terminal) None (Some job) (NotFor t) (λ _. tt)
    (λ stays is. absurd (cc (stays, subst (λ (o : ℕ). whose o ≡ true) (sym is) out)))

work_freed : (t : ℕ) (whose : ℕ → Bool) (busy : ℕ → Option Job) → whose t ≡ false
    → WorkKept t busy (λ i. freed_of whose (busy i))
work_freed t whose busy spared = record {
  none = λ none i. freed_not t whose (busy i) (none i);
  one = λ i job one. record {
    works =
        let stays : whose job.request.terminal ≡ false = subst (λ (o : ℕ). whose o ≡ false) (sym one.whose) spared in
        ap (freed_of whose) one.works ∙ cond-false (whose job.request.terminal) None (Some job) stays;
    whose = one.whose;
    others = λ j ne. freed_not t whose (busy j) (one.others j ne);
  };
}

-- a process that begins to work for the terminal
one_begins : {t : ℕ} (busy : ℕ → Option Job) (i : ℕ) (job : Job) → job.request.terminal ≡ t → NoneWorks t busy
    → IsOneAtWork t i job (upd busy i (Some job))
one_begins {t = t} busy i job whose none = record {
  works = upd-same busy i (Some job) i refl;
  whose = whose;
  others = λ j ne. upd_elim busy i (Some job) j (NotFor t) (λ is. absurd (ne is)) (λ _. none j);
}

-- the process that works for the terminal has another job of it
one_goes_on : {t : ℕ} {busy : ℕ → Option Job} {i : ℕ} {job : Job} (next : Job) → next.request.terminal ≡ t
    → IsOneAtWork t i job busy → IsOneAtWork t i next (upd busy i (Some next))
one_goes_on {t = t} {busy = busy} {i = i} next whose one = record {
  works = upd-same busy i (Some next) i refl;
  whose = whose;
  others = λ j ne. upd_elim busy i (Some next) j (NotFor t) (λ is. absurd (ne is)) (λ _. one.others j ne);
}

-- the process that works for the terminal is free
one_ends : {t : ℕ} {busy : ℕ → Option Job} {i : ℕ} {job : Job} → IsOneAtWork t i job busy
    → NoneWorks t (upd busy i None)
one_ends {t = t} {busy = busy} {i = i} one j = upd_elim busy i None j (NotFor t) (λ _. tt) (λ ne. one.others j ne)

-- A class.

-- the job of a process that starts on a request
abbrev pub new_job : Request → Job
new_job request = record { request = request; done = [] }

-- what a change of a class leaves of a terminal
pub record ClassKept (t : ℕ) (old new : Class) : Type 0 where
  pub without : IsWithout t old → IsWithout t new
  pub in_line : (request : Request) → HasInLine t request old → HasInLine t request new
  pub at_work : (i : ℕ) (job : Job) → HasAtWork t i job old → HasAtWork t i job new

class_kept : {t : ℕ} {old new : Class} → LineKept t old.waiting new.waiting → WorkKept t old.busy new.busy
    → ClassKept t old new
class_kept line work = record {
  without = λ has. record { line = line.none has.line; work = work.none has.work };
  in_line = λ request has. record { line = line.one request has.line; work = work.none has.work };
  at_work = λ i job has. record { line = line.none has.line; work = work.one i job has.work };
}

-- a class that stays
pub class_same : (t : ℕ) (class : Class) → ClassKept t class class
class_same t class = class_kept (line_same t class.waiting) (work_same t class.busy)

-- a request is sent, of the terminal and of another one

-- a request that is sent is in line
pub has_sent : {t : ℕ} {class : Class} (request : Request) → request.terminal ≡ t → IsWithout t class
    → HasInLine t request (with_request request class)
has_sent {class = class} request whose has = record {
  line = record { front = class.waiting; back = []; waits = refl; whose = whose; before = has.line; behind = tt };
  work = has.work;
}

-- one of another terminal changes nothing for this one
pub sent_kept : {t : ℕ} (class : Class) (request : Request) → request.terminal ≢ t
    → ClassKept t class (with_request request class)
sent_kept {t = t} class request other = class_kept (line_longer t class.waiting request other) (work_same t class.busy)

-- the first request is taken, of the terminal and of another one

-- a request that is taken is at work
pub has_taken : {t : ℕ} {class : Class} (i : ℕ) (request : Request) (others : List Request)
    → class.waiting ≡ request ∷ others → request.terminal ≡ t → HasInLine t request class
    → HasAtWork t i (new_job request) (with_first_taken i class.waiting class)
has_taken {t = t} {class = class} i request others first whose has =
    subst (λ (line : List Request). HasAtWork t i (new_job request) (with_first_taken i line class)) (sym first) (record {
      line = (the_one [] request others request first whose has.line).1;
      work = one_begins class.busy i (new_job request) whose has.work;
    })

-- one of another terminal changes nothing for this one
pub taken_kept : {t : ℕ} (class : Class) (i : ℕ) (request : Request) (others : List Request)
    → class.waiting ≡ request ∷ others → class.busy i ≡ None → request.terminal ≢ t
    → ClassKept t class (with_first_taken i class.waiting class)
taken_kept {t = t} class i request others first free other =
    let kept = line_shorter t request others other in
    let line = subst (λ (line : List Request). LineKept t line others) (sym first) kept in
    let work = work_at t class.busy i (Some (new_job request)) (subst (NotFor t) (sym free) tt) other in
    subst (λ (line : List Request). ClassKept t class (with_first_taken i line class)) (sym first) (class_kept line work)

-- what is at a process changes, for the terminal and for another one

-- the terminal's process goes on with another job of it
pub has_job : {t i : ℕ} {class : Class} {job : Job} (next : Job) → next.request.terminal ≡ t → HasAtWork t i job class
    → HasAtWork t i next (with_job_at i (Some next) class)
has_job next whose has = record { line = has.line; work = one_goes_on next whose has.work }

-- a process that is free again leaves the class without its request
pub without_job : {t i : ℕ} {class : Class} {job : Job} → HasAtWork t i job class
    → IsWithout t (with_job_at i None class)
without_job has = record { line = has.line; work = one_ends has.work }

-- a process of another terminal changes nothing for this one
pub process_kept : {t : ℕ} (class : Class) (i : ℕ) (job : Job) (next : Option Job) → class.busy i ≡ Some job
    → job.request.terminal ≢ t → NotFor t next → ClassKept t class (with_job_at i next class)
process_kept {t = t} class i job next works other still =
    class_kept (line_same t class.waiting) (work_at t class.busy i next (subst (NotFor t) (sym works) other) still)

-- requests are cancelled, of the terminal too and of others alone

-- a terminal whose requests are cancelled has none at the class
pub without_cancelled : {t : ℕ} (whose : ℕ → Bool) (class : Class) → whose t ≡ true
    → IsWithout t (without_requests whose class)
without_cancelled {t = t} whose class out = record {
  line = none_left t whose class.waiting out;
  work = λ i. freed_out t whose (class.busy i) out;
}

-- requests of others that are cancelled change nothing for this one
pub cancelled_kept : {t : ℕ} (whose : ℕ → Bool) (class : Class) → whose t ≡ false
    → ClassKept t class (without_requests whose class)
cancelled_kept {t = t} whose class spared =
    class_kept (line_filtered t whose class.waiting spared) (work_freed t whose class.busy spared)

-- Where requests can be.

-- process i is one of those of class c, and class c is there
pub record IsProcess (sys : Behaviour) (c i : ℕ) : Type 0 where
  pub there : c < sys.classes
  pub from_one : 1 ≤ i
  pub within : i ≤ sys.processes c

-- requests wait at classes that are there, and processes that are there work
pub record InBounds (sys : Behaviour) (classes : ℕ → Class) : Type 0 where
  pub line : (c : ℕ) (request : Request) (others : List Request) → (classes c).waiting ≡ request ∷ others
      → c < sys.classes
  pub work : (c i : ℕ) (job : Job) → (classes c).busy i ≡ Some job → IsProcess sys c i

-- at the start no request is anywhere
pub bounds_starting : (sys : Behaviour) → InBounds sys (λ c. record { waiting = []; busy = λ i. None })
bounds_starting sys = record {
  line = λ c request others first. absurd (cc first);
  work = λ c i job works. absurd (cc works);
}

bounds_at : {sys : Behaviour} {classes : ℕ → Class} (c : ℕ) (next : Class) → InBounds sys classes → c < sys.classes
    → ((i : ℕ) (job : Job) → next.busy i ≡ Some job → IsProcess sys c i) → InBounds sys (upd classes c next)
bounds_at {sys = sys} {classes = classes} c next bounds there work = record {
  line = λ d request others. upd_elim classes c next d
      (λ (class : Class). class.waiting ≡ request ∷ others → d < sys.classes)
      (λ is _. rw is there) (λ _. bounds.line d request others);
  work = λ d i job. upd_elim classes c next d (λ (class : Class). class.busy i ≡ Some job → IsProcess sys d i)
      (λ is works. subst (λ (e : ℕ). IsProcess sys e i) (sym is) (work i job works)) (λ _. bounds.work d i job);
}

process_at : {sys : Behaviour} {classes : ℕ → Class} (c i : ℕ) (next : Option Job) → InBounds sys classes → IsProcess sys c i
    → (j : ℕ) (job : Job) → upd (classes c).busy i next j ≡ Some job → IsProcess sys c j
process_at {sys = sys} {classes = classes} c i next bounds process j job =
    upd_elim (classes c).busy i next j (λ (work : Option Job). work ≡ Some job → IsProcess sys c j)
    (λ is _. subst (IsProcess sys c) (sym is) process) (λ _. bounds.work c j job)

-- a request is sent to a class that is there
pub bounds_sent : {sys : Behaviour} {classes : ℕ → Class} (c : ℕ) (request : Request) → InBounds sys classes → c < sys.classes
    → InBounds sys (upd classes c (with_request request (classes c)))
bounds_sent {classes = classes} c request bounds there =
    bounds_at c (with_request request (classes c)) bounds there (bounds.work c)

-- the free process that is found
pub found_free : (busy : ℕ → Option Job) (from n i : ℕ) → first_free busy from n ≡ Some i
    → (busy i ≡ None) × (from ≤ i) × (i < from + n)
found_free busy from zero i found = absurd (cc found)
found_free busy from (suc n) i found = by_work (busy from) refl (found_free busy (from + 1) n i)
  where
    by_work : (work : Option Job) → busy from ≡ work
        → (first_free busy (from + 1) n ≡ Some i → (busy i ≡ None) × (from + 1 ≤ i) × (i < from + 1 + n))
        → (busy i ≡ None) × (from ≤ i) × (i < from + suc n)
    by_work None free later =
        let here : from ≡ i = cc (rw free at found) in
        (ap busy (sym here) ∙ free, omega (arith, here), omega (arith, here))
    by_work (Some job) works later =
        let rest : (busy i ≡ None) × (from + 1 ≤ i) × (i < from + 1 + n) = later (rw works at found) in
        (rest.0, omega (arith, rest.1), omega (arith, rest.2))

-- the free process that is found is there
pub bounds_taken : {sys : Behaviour} {classes : ℕ → Class} (c i : ℕ) (request : Request) (others : List Request)
    → InBounds sys classes → (classes c).waiting ≡ request ∷ others
    → first_free (classes c).busy 1 (sys.processes c) ≡ Some i
    → InBounds sys (upd classes c (with_first_taken i (classes c).waiting (classes c)))
bounds_taken {sys = sys} {classes = classes} c i request others bounds first free =
    let found = found_free (classes c).busy 1 (sys.processes c) i free in
    let there : c < sys.classes = bounds.line c request others first in
    let process : IsProcess sys c i = record { there = there; from_one = found.1; within = omega (arith, found.2) } in
    subst (λ (requests : List Request). InBounds sys (upd classes c (with_first_taken i requests (classes c)))) (sym first)
    (bounds_at c (with_first_taken i (request ∷ others) (classes c)) bounds there
    (process_at c i (Some (new_job request)) bounds process))

-- a process goes on where it was
pub bounds_at_process : {sys : Behaviour} {classes : ℕ → Class} (c i : ℕ) (job : Job) (next : Option Job)
    → InBounds sys classes → (classes c).busy i ≡ Some job
    → InBounds sys (upd classes c (with_job_at i next (classes c)))
bounds_at_process {sys = sys} {classes = classes} c i job next bounds works =
    let process : IsProcess sys c i = bounds.work c i job works in
    bounds_at c (with_job_at i next (classes c)) bounds process.there (process_at c i next bounds process)

filtered_from : (p : Request → Bool) (xs : List Request) (request : Request) (others : List Request)
    → filter p xs ≡ request ∷ others → (first : Request) × (rest : List Request) × (xs ≡ first ∷ rest)
filtered_from p [] request others some = absurd (cc some)
filtered_from p (x ∷ xs) request others some = (x, xs, refl)

pub freed_from : (whose : ℕ → Bool) (busy : Option Job) (job : Job) → freed_of whose busy ≡ Some job → busy ≡ Some job
freed_from whose None job = λ works. works
freed_from whose (Some one) job =
    cond_both (whose one.request.terminal) None (Some one)
    (λ (work : Option Job). work ≡ Some job → Some one ≡ Some job)
    (λ _ none. absurd (cc none)) (λ _ same. same)

-- fewer requests are where they were
pub bounds_cancelled : {sys : Behaviour} {classes : ℕ → Class} (whose : ℕ → Bool) → InBounds sys classes
    → InBounds sys (λ c. without_requests whose (classes c))
bounds_cancelled {classes = classes} whose bounds = record {
  line = λ c request others some.
      let from = filtered_from (λ request. not (whose request.terminal)) (classes c).waiting request others some in
      bounds.line c from.0 from.1 from.2;
  work = λ c i job works. bounds.work c i job (freed_from whose ((classes c).busy i) job works);
}
