-- A terminal has at most one request: in line at a class, or at work at one of its processes.
use Rattle.std.proofs.Common.{◌≡◌, ◌≢◌, ℕ, ◌+◌, ◌-◌, ◌<◌, ◌≤◌, Bool, true, false, List, [], ◌∷◌, ◌++◌, Option, Some, None, inl, inr, refl, sym, ap, subst, ◌∙◌, arith}
use Rattle.std.specs.Prelude.{◌==◌, if◌then◌else◌}
use Rattle.std.specs.List.{list_any}
use Rattle.std.proofs.lemmas.Bool.{cases_eq, cases_lt, cond_both, eqb-false, or_parts}
use Rattle.pw_class.specs.Queue.{works_for}
use Rattle.pw_class.specs.declared.request.Request.{Request}
use Rattle.pw_onecopy.proofs.Update.{upd_elim, upd-same, upd-other}
use Rattle.pw_onecopy.specs.Behaviour.{Behaviour}
use Rattle.pw_onecopy.specs.Path.{FileResult}
use Rattle.pw_onecopy.specs.Update.{upd}
use Rattle.pw_paired.specs.Server.{with_job_at, first_free, with_first_taken, with_answer}
use Rattle.pw_paired.specs.State.{Class, Job, State}
use Rattle.pw_paired.specs.Terminal.{with_request}
use Rattle.pw_paired.specs.Units.{any_below, has_request, is_out, request_in, without_requests}
use Rattle.pw_laws.proofs.requests.Classes.{NoneOf, IsOneOf, NotFor, IsOneAtWork, IsWithout, HasInLine, HasAtWork, none_not, the_one, not_for, new_job, ClassKept, class_same, has_sent, sent_kept, has_taken, taken_kept, has_job, without_job, process_kept, without_cancelled, cancelled_kept, IsProcess, InBounds, bounds_starting, bounds_sent, found_free, bounds_taken, bounds_at_process, bounds_cancelled}
use Rattle.pw_laws.proofs.terms.KeepsPairs.{any_below-false}

-- where a terminal's request is
pub data Place : Type 0 where
  Nowhere : Place
  InLine : (class : ℕ) (request : Request) → Place
  AtWork : (class process : ℕ) (job : Job) → Place

-- class c has this of the terminal's, and no other class has a request of it
pub record OnlyAt (t c : ℕ) (Has : Class → Type 0) (classes : ℕ → Class) : Type 0 where
  pub here : Has (classes c)
  pub elsewhere : (d : ℕ) → d ≢ c → IsWithout t (classes d)

-- the terminal's request is at this place, and it has no other one
abbrev pub Placed : (ℕ → Class) → ℕ → Place → Type 0
Placed classes t Nowhere = (c : ℕ) → IsWithout t (classes c)
Placed classes t (InLine c request) = OnlyAt t c (HasInLine t request) classes
Placed classes t (AtWork c i job) = OnlyAt t c (HasAtWork t i job) classes

-- a request that is out, and the class to which it was sent
pub record Sent : Type 0 where
  pub class : ℕ
  pub request : Request

-- the request at a place
abbrev pub request_of : Place → Option Request
request_of Nowhere = None
request_of (InLine c request) = Some request
request_of (AtWork c i job) = Some job.request

-- the request at a place, with its class
abbrev pub sent_of : Place → Option Sent
sent_of Nowhere = None
sent_of (InLine c request) = Some (record { class = c; request = request })
sent_of (AtWork c i job) = Some (record { class = c; request = job.request })

-- What changes leave.

-- a terminal keeps its place where each class leaves it what it has there
placed_kept : {t : ℕ} (old new : ℕ → Class) → ((c : ℕ) → ClassKept t (old c) (new c)) → (place : Place)
    → Placed old t place → Placed new t place
placed_kept old new kept Nowhere placed = λ c. (kept c).without (placed c)
placed_kept old new kept (InLine c request) placed = record {
  here = (kept c).in_line request placed.here;
  elsewhere = λ d ne. (kept d).without (placed.elsewhere d ne);
}
placed_kept old new kept (AtWork c i job) placed = record {
  here = (kept c).at_work i job placed.here;
  elsewhere = λ d ne. (kept d).without (placed.elsewhere d ne);
}

-- one class changes, and leaves the terminal what it has there
kept_at : {t : ℕ} {next : Class} (classes : ℕ → Class) (c : ℕ) → ClassKept t (classes c) next → (place : Place)
    → Placed classes t place → Placed (upd classes c next) t place
kept_at {t = t} {next = next} classes c kept =
    placed_kept classes (upd classes c next)
    (λ d. upd_elim classes c next d (ClassKept t (classes d))
    (λ is. subst (λ (e : ℕ). ClassKept t (classes e) next) (sym is) kept) (λ _. class_same t (classes d)))

-- a class changes that alone has something of the terminal's
changed_at : {t c : ℕ} {classes : ℕ → Class} (next : Class) (Has : Class → Type 0) → Has next
    → ((d : ℕ) → d ≢ c → IsWithout t (classes d)) → OnlyAt t c Has (upd classes c next)
changed_at {t = t} {c = c} {classes = classes} next Has has elsewhere = record {
  here = subst Has (sym (upd-same classes c next c refl)) has;
  elsewhere = λ d ne. subst (IsWithout t) (sym (upd-other classes c next d ne)) (elsewhere d ne);
}

-- What is where.

-- a waiting request of the terminal is the one in its place
pub place_in_line : {t : ℕ} (classes : ℕ → Class) (place : Place) (c : ℕ)
    (front : List Request) (request : Request) (back : List Request) → (classes c).waiting ≡ front ++ request ∷ back
    → request.terminal ≡ t → Placed classes t place → place ≡ InLine c request
place_in_line {t = t} classes place c front request back waits whose placed = by_place place placed
  where
    some : NoneOf t (classes c).waiting → ⊥
    some none = none_not front request back whose (subst (NoneOf t) waits none)

    by_place : (place : Place) → Placed classes t place → place ≡ InLine c request
    by_place Nowhere placed = absurd (some (placed c).line)
    by_place (InLine d one) placed = elim (cases_eq d c) [
      | inl is ↦
          let line = subst (λ (e : ℕ). IsOneOf t one (classes e).waiting) is placed.here.line in
          let same : request ≡ one = (the_one front request back one waits whose line).0 in
          cc
      | inr ne ↦ absurd (some (placed.elsewhere c (λ is. ne (sym is))).line)
    ]
    by_place (AtWork d i job) placed = elim (cases_eq d c) [
      | inl is ↦ absurd (some (subst (λ (e : ℕ). NoneOf t (classes e).waiting) is placed.here.line))
      | inr ne ↦ absurd (some (placed.elsewhere c (λ is. ne (sym is))).line)
    ]

-- a job of the terminal is the one in its place
pub place_at_work : {t : ℕ} (classes : ℕ → Class) (place : Place) (c i : ℕ) (job : Job)
    → (classes c).busy i ≡ Some job → job.request.terminal ≡ t → Placed classes t place → place ≡ AtWork c i job
place_at_work {t = t} classes place c i job works whose placed = by_place place placed
  where
    none : NotFor t ((classes c).busy i) → ⊥
    none other = not_for works whose other

    by_place : (place : Place) → Placed classes t place → place ≡ AtWork c i job
    by_place Nowhere placed = absurd (none ((placed c).work i))
    by_place (InLine d one) placed = elim (cases_eq d c) [
      | inl is ↦ absurd (none (subst (λ (e : ℕ). NotFor t ((classes e).busy i)) is (placed.here.work i)))
      | inr ne ↦ absurd (none ((placed.elsewhere c (λ is. ne (sym is))).work i))
    ]
    by_place (AtWork d j one) placed = elim (cases_eq d c) [
      | inl is ↦
          let work = subst (λ (e : ℕ). IsOneAtWork t j one (classes e).busy) is placed.here.work in
          elim (cases_eq j i) [
            | inl same ↦
                let at : (classes c).busy i ≡ Some one = ap (classes c).busy (sym same) ∙ work.works in
                cc
            | inr ne ↦ absurd (none (work.others i (λ is. ne (sym is))))
          ]
      | inr ne ↦ absurd (none ((placed.elsewhere c (λ is. ne (sym is))).work i))
    ]

-- a terminal that is nowhere has no request in line, and no job

-- no request of it waits
pub nowhere_none_waits : {t : ℕ} (classes : ℕ → Class) (c : ℕ)
    (front : List Request) (request : Request) (back : List Request) → (classes c).waiting ≡ front ++ request ∷ back
    → Placed classes t Nowhere → request.terminal ≢ t
nowhere_none_waits {t = t} classes c front request back waits placed whose =
    none_not front request back whose (subst (NoneOf t) waits (placed c).line)

-- and none is at work
pub nowhere_no_job : {t : ℕ} (classes : ℕ → Class) (c i : ℕ) (job : Job) → (classes c).busy i ≡ Some job
    → Placed classes t Nowhere → job.request.terminal ≢ t
nowhere_no_job classes c i job works placed whose = not_for works whose ((placed c).work i)

-- a terminal has no two places
pub one_place : (t : ℕ) (classes : ℕ → Class) (place other : Place) → Placed classes t place → Placed classes t other
    → place ≡ other
one_place t classes Nowhere Nowhere placed also = refl
one_place t classes Nowhere (InLine c request) placed also =
    let line = also.here.line in
    place_in_line classes Nowhere c line.front request line.back line.waits line.whose placed
one_place t classes Nowhere (AtWork c i job) placed also =
    place_at_work classes Nowhere c i job also.here.work.works also.here.work.whose placed
one_place t classes (InLine c request) other placed also =
    let line = placed.here.line in
    sym (place_in_line classes other c line.front request line.back line.waits line.whose also)
one_place t classes (AtWork c i job) other placed also =
    sym (place_at_work classes other c i job placed.here.work.works placed.here.work.whose also)

-- the request at a terminal's place is of the terminal
pub request_is_of : {t : ℕ} {request : Request} (classes : ℕ → Class) (place : Place) → request_of place ≡ Some request
    → Placed classes t place → request.terminal ≡ t
request_is_of classes Nowhere is placed = absurd (cc is)
request_is_of {request = request} classes (InLine c one) is placed =
    let same : one ≡ request = cc in
    rw (← same) placed.here.line.whose
request_is_of {request = request} classes (AtWork c i job) is placed =
    let same : job.request ≡ request = cc in
    rw (← same) placed.here.work.whose

-- SEND: the terminal of the request, and another one.

-- a request that is sent waits
pub placed_sent : {t : ℕ} (classes : ℕ → Class) (c : ℕ) (request : Request) → request.terminal ≡ t
    → Placed classes t Nowhere → Placed (upd classes c (with_request request (classes c))) t (InLine c request)
placed_sent {t = t} classes c request whose placed =
    changed_at (with_request request (classes c)) (HasInLine t request)
    (has_sent request whose (placed c)) (λ d _. placed d)

-- another terminal keeps its place
pub placed_sent_other : {t : ℕ} (classes : ℕ → Class) (c : ℕ) (request : Request) → request.terminal ≢ t
    → (place : Place) → Placed classes t place → Placed (upd classes c (with_request request (classes c))) t place
placed_sent_other classes c request other = kept_at classes c (sent_kept (classes c) request other)

-- TAKE: the terminal of the request, and another one. The process is free.

-- a request that is taken is at work
pub placed_taken : {t : ℕ} (classes : ℕ → Class) (c i : ℕ) (request : Request) (others : List Request)
    → (classes c).waiting ≡ request ∷ others → request.terminal ≡ t → (place : Place) → Placed classes t place
    → Placed (upd classes c (with_first_taken i (classes c).waiting (classes c))) t (AtWork c i (new_job request))
placed_taken {t = t} classes c i request others first whose place placed =
    let is : place ≡ InLine c request = place_in_line classes place c [] request others first whose placed in
    let at : OnlyAt t c (HasInLine t request) classes = subst (Placed classes t) is placed in
    changed_at (with_first_taken i (classes c).waiting (classes c)) (HasAtWork t i (new_job request))
    (has_taken i request others first whose at.here) at.elsewhere

-- another terminal keeps its place
pub placed_taken_other : {t : ℕ} (classes : ℕ → Class) (c i : ℕ) (request : Request) (others : List Request)
    → (classes c).waiting ≡ request ∷ others → (classes c).busy i ≡ None → request.terminal ≢ t
    → (place : Place) → Placed classes t place
    → Placed (upd classes c (with_first_taken i (classes c).waiting (classes c))) t place
placed_taken_other classes c i request others first free other =
    kept_at classes c (taken_kept (classes c) i request others first free other)

-- FILE: the terminal of the job.
pub placed_filed : {t : ℕ} (classes : ℕ → Class) (c i : ℕ) (job : Job) → (classes c).busy i ≡ Some job
    → job.request.terminal ≡ t → (answer : FileResult) (place : Place) → Placed classes t place
    → Placed (upd classes c (with_job_at i (Some (with_answer answer job)) (classes c))) t
    (AtWork c i (with_answer answer job))
placed_filed {t = t} classes c i job works whose answer place placed =
    let next : Job = with_answer answer job in
    let is : place ≡ AtWork c i job = place_at_work classes place c i job works whose placed in
    let at : OnlyAt t c (HasAtWork t i job) classes = subst (Placed classes t) is placed in
    changed_at (with_job_at i (Some next) (classes c)) (HasAtWork t i next) (has_job next whose at.here) at.elsewhere

-- REPLY and FAIL SERVER: the terminal of the job.
pub placed_freed : {t : ℕ} (classes : ℕ → Class) (c i : ℕ) (job : Job) → (classes c).busy i ≡ Some job
    → job.request.terminal ≡ t → (place : Place) → Placed classes t place → Placed (upd classes c (with_job_at i None (classes c))) t Nowhere
placed_freed {t = t} classes c i job works whose place placed =
    let is : place ≡ AtWork c i job = place_at_work classes place c i job works whose placed in
    let at : OnlyAt t c (HasAtWork t i job) classes = subst (Placed classes t) is placed in
    λ d. upd_elim classes c (with_job_at i None (classes c)) d (IsWithout t)
    (λ _. without_job at.here) (λ ne. at.elsewhere d ne)

-- FILE, REPLY and FAIL SERVER: another terminal, where the process gets nothing of it.
pub placed_process_other : {t : ℕ} (classes : ℕ → Class) (c i : ℕ) (job : Job) (next : Option Job)
    → (classes c).busy i ≡ Some job → job.request.terminal ≢ t → NotFor t next
    → (place : Place) → Placed classes t place → Placed (upd classes c (with_job_at i next (classes c))) t place
placed_process_other classes c i job next works other still =
    kept_at classes c (process_kept (classes c) i job next works other still)

-- Requests are cancelled: a terminal whose request is, and another one.

-- a terminal whose requests are cancelled has none
pub placed_cancelled : {t : ℕ} (classes : ℕ → Class) (whose : ℕ → Bool) → whose t ≡ true
    → Placed (λ c. without_requests whose (classes c)) t Nowhere
placed_cancelled classes whose out = λ c. without_cancelled whose (classes c) out

-- another terminal keeps its place
pub placed_cancelled_other : {t : ℕ} (classes : ℕ → Class) (whose : ℕ → Bool) → whose t ≡ false
    → (place : Place) → Placed classes t place → Placed (λ c. without_requests whose (classes c)) t place
placed_cancelled_other classes whose spared =
    placed_kept classes (λ c. without_requests whose (classes c)) (λ c. cancelled_kept whose (classes c) spared)

-- At the start no terminal has a request.
pub placed_starting : (t : ℕ) → Placed (λ c. record { waiting = []; busy = λ i. None }) t Nowhere
placed_starting t = λ c. record { line = tt; work = λ i. tt }

-- Whether a request is out.

none_in : (t : ℕ) (xs : List Request) → list_any (λ request. request.terminal == t) xs ≡ false → NoneOf t xs
none_in t [] none = tt
none_in t (x ∷ xs) none =
    let parts = or_parts (x.terminal == t) (list_any (λ request. request.terminal == t) xs) none in
    (eqb-false x.terminal t parts.0, none_in t xs parts.1)

not_works : (t : ℕ) (busy : Option Job) → works_for t (request_in busy) ≡ false → NotFor t busy
not_works t None none = tt
not_works t (Some job) none = eqb-false job.request.terminal t none

none_at_work : {sys : Behaviour} {classes : ℕ → Class} (t c i : ℕ) → InBounds sys classes
    → any_below (sys.processes c) (λ j. works_for t (request_in ((classes c).busy (j + 1)))) ≡ false → NotFor t ((classes c).busy i)
none_at_work {sys = sys} {classes = classes} t c i bounds none = by_work ((classes c).busy i) refl
  where
    by_work : (work : Option Job) → (classes c).busy i ≡ work → NotFor t ((classes c).busy i)
    by_work None is = subst (NotFor t) (sym is) tt
    by_work (Some job) is =
        let process : IsProcess sys c i = bounds.work c i job is in
        let number : i - 1 + 1 ≡ i = omega (arith, process.from_one) in
        let low : i - 1 < sys.processes c = omega (arith, process.from_one, process.within) in
        let idle = any_below-false (sys.processes c) (λ j. works_for t (request_in ((classes c).busy (j + 1)))) none (i - 1) low in
        not_works t ((classes c).busy i) (subst (λ (k : ℕ). works_for t (request_in ((classes c).busy k)) ≡ false) number idle)

-- a terminal whose request is not out is nowhere
pub placed_inside : {t : ℕ} (sys : Behaviour) (state : State) → InBounds sys state.classes → is_out sys state t ≡ false
    → Placed state.classes t Nowhere
placed_inside {t = t} sys state bounds inside c = elim (cases_lt c sys.classes) [
  | inl there ↦
      let parts = or_parts (list_any (λ request. request.terminal == t) (state.classes c).waiting)
      (any_below (sys.processes c) (λ i. works_for t (request_in ((state.classes c).busy (i + 1)))))
      (any_below-false sys.classes (λ d. has_request t (sys.processes d) (state.classes d)) inside c there) in
      record { line = none_in t (state.classes c).waiting parts.0; work = λ i. none_at_work t c i bounds parts.1 }
  | inr beyond ↦ record {
    line = no_line beyond (state.classes c).waiting refl;
    work = λ i. no_work beyond i ((state.classes c).busy i) refl;
  }
]
  where
    no_line : sys.classes ≤ c → (xs : List Request) → (state.classes c).waiting ≡ xs → NoneOf t xs
    no_line beyond [] is = tt
    no_line beyond (x ∷ xs) is = absurd (omega (arith, bounds.line c x xs is, beyond))

    no_work : sys.classes ≤ c → (i : ℕ) (work : Option Job) → (state.classes c).busy i ≡ work → NotFor t work
    no_work beyond i None is = tt
    no_work beyond i (Some job) is = absurd (omega (arith, (bounds.work c i job is).there, beyond))

-- Together.

-- each terminal's request is at its place, and has no other one
pub record RequestsOk (sys : Behaviour) (classes : ℕ → Class) (places : ℕ → Place) : Type 0 where
  pub bounds : InBounds sys classes
  pub placed : (t : ℕ) → Placed classes t (places t)

-- at the start no terminal has a request
pub requests_starting : (sys : Behaviour) → RequestsOk sys (λ c. record { waiting = []; busy = λ i. None }) (λ t. Nowhere)
requests_starting sys = record { bounds = bounds_starting sys; placed = placed_starting }

-- a job is the one request of its terminal
pub place_of_job : {sys : Behaviour} {classes : ℕ → Class} {places : ℕ → Place} {c i t : ℕ} {job : Job}
    → RequestsOk sys classes places → (classes c).busy i ≡ Some job → job.request.terminal ≡ t
    → places t ≡ AtWork c i job
place_of_job {classes = classes} {places = places} {c = c} {i = i} {t = t} {job = job} ok works whose =
    place_at_work classes (places t) c i job works whose (ok.placed t)

-- a first waiting request is the one request of its terminal
pub place_of_first : {sys : Behaviour} {classes : ℕ → Class} {places : ℕ → Place} {c t : ℕ}
    {request : Request} {others : List Request} → RequestsOk sys classes places
    → (classes c).waiting ≡ request ∷ others → request.terminal ≡ t → places t ≡ InLine c request
place_of_first {classes = classes} {places = places} {c = c} {t = t} {request = request} {others = others}
    ok first whose =
    place_in_line classes (places t) c [] request others first whose (ok.placed t)

-- a request is at a class and a process that are there
pub place_inside : {sys : Behaviour} {places : ℕ → Place} {t : ℕ} (state : State) → RequestsOk sys state.classes places
    → is_out sys state t ≡ false → places t ≡ Nowhere
place_inside {sys = sys} {places = places} {t = t} state ok inside =
    sym (one_place t state.classes Nowhere (places t) (placed_inside sys state ok.bounds inside) (ok.placed t))

-- terminal t has a new place, and the others keep theirs
moved : {sys : Behaviour} {classes after : ℕ → Class} {places : ℕ → Place} (t : ℕ) (place : Place)
    → RequestsOk sys classes places → InBounds sys after → Placed after t place
    → ((j : ℕ) → j ≢ t → (other : Place) → Placed classes j other → Placed after j other)
    → RequestsOk sys after (upd places t place)
moved {after = after} {places = places} t place ok bounds own others = record {
  bounds = bounds;
  placed = λ j. upd_elim places t place j (Placed after j)
      (λ is. subst (λ (k : ℕ). Placed after k place) (sym is) own) (λ ne. others j ne (places j) (ok.placed j));
}

-- a request is sent
pub requests_sent : {sys : Behaviour} {classes : ℕ → Class} {places : ℕ → Place} {t : ℕ} (c : ℕ) (request : Request)
    → RequestsOk sys classes places → request.terminal ≡ t → c < sys.classes → places t ≡ Nowhere
    → RequestsOk sys (upd classes c (with_request request (classes c))) (upd places t (InLine c request))
requests_sent {classes = classes} {t = t} c request ok whose there nowhere =
    moved t (InLine c request) ok (bounds_sent c request ok.bounds there)
    (placed_sent classes c request whose (subst (Placed classes t) nowhere (ok.placed t)))
    (λ j ne. placed_sent_other classes c request (λ is. ne (sym is ∙ whose)))

-- a request is taken
pub requests_taken : {sys : Behaviour} {classes : ℕ → Class} {places : ℕ → Place} {c i t : ℕ}
    {request : Request} {others : List Request} → RequestsOk sys classes places
    → (classes c).waiting ≡ request ∷ others → request.terminal ≡ t
    → first_free (classes c).busy 1 (sys.processes c) ≡ Some i
    → RequestsOk sys (upd classes c (with_first_taken i (classes c).waiting (classes c)))
    (upd places t (AtWork c i (new_job request)))
requests_taken {sys = sys} {classes = classes} {places = places} {c = c} {i = i} {t = t}
    {request = request} {others = others} ok first whose free =
    let found = found_free (classes c).busy 1 (sys.processes c) i free in
    moved t (AtWork c i (new_job request)) ok (bounds_taken c i request others ok.bounds first free)
    (placed_taken classes c i request others first whose (places t) (ok.placed t))
    (λ j ne. placed_taken_other classes c i request others first found.0 (λ is. ne (sym is ∙ whose)))

-- a process goes on
pub requests_filed : {sys : Behaviour} {classes : ℕ → Class} {places : ℕ → Place} {c i t : ℕ} {job : Job}
    (answer : FileResult) → RequestsOk sys classes places → (classes c).busy i ≡ Some job → job.request.terminal ≡ t
    → RequestsOk sys (upd classes c (with_job_at i (Some (with_answer answer job)) (classes c)))
    (upd places t (AtWork c i (with_answer answer job)))
requests_filed {classes = classes} {places = places} {c = c} {i = i} {t = t} {job = job} answer ok works whose =
    let next : Job = with_answer answer job in
    let other = λ (j : ℕ) (ne : j ≢ t) (is : job.request.terminal ≡ j). ne (sym is ∙ whose) in
    moved t (AtWork c i next) ok (bounds_at_process c i job (Some next) ok.bounds works)
    (placed_filed classes c i job works whose answer (places t) (ok.placed t))
    (λ j ne. placed_process_other classes c i job (Some next) works (other j ne) (other j ne))

-- a process is free again
pub requests_freed : {sys : Behaviour} {classes : ℕ → Class} {places : ℕ → Place} {c i t : ℕ} {job : Job}
    → RequestsOk sys classes places → (classes c).busy i ≡ Some job → job.request.terminal ≡ t
    → RequestsOk sys (upd classes c (with_job_at i None (classes c))) (upd places t Nowhere)
requests_freed {classes = classes} {places = places} {c = c} {i = i} {t = t} {job = job} ok works whose =
    moved t Nowhere ok (bounds_at_process c i job None ok.bounds works)
    (placed_freed classes c i job works whose (places t) (ok.placed t))
    (λ j ne. placed_process_other classes c i job None works (λ is. ne (sym is ∙ whose)) tt)

-- the places where the requests of some terminals are cancelled
abbrev pub without_places : (ℕ → Bool) → (ℕ → Place) → ℕ → Place
without_places whose places t = if whose t then Nowhere else places t

-- requests are cancelled
pub requests_cancelled : {sys : Behaviour} {classes : ℕ → Class} {places : ℕ → Place} (whose : ℕ → Bool)
    → RequestsOk sys classes places
    → RequestsOk sys (λ c. without_requests whose (classes c)) (without_places whose places)
requests_cancelled {classes = classes} {places = places} whose ok = record {
  bounds = bounds_cancelled whose ok.bounds;
  placed = λ t. cond_both (whose t) Nowhere (places t) (Placed (λ c. without_requests whose (classes c)) t)
      (λ out. placed_cancelled classes whose out)
      (λ spared. placed_cancelled_other classes whose spared (places t) (ok.placed t));
}
