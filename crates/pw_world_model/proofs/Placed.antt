-- Whose requests are out behind an entry.
use Rattle.std.proofs.Common.{◌≡◌, ℕ, ◌+◌, ◌<◌, ◌==◌, ◌&&◌, List, [], ◌∷◌, ◌++◌, Option, Some, None, Bool, true, false, refl, sym, ap, subst, ◌∙◌}
use Rattle.std.specs.Prelude.{if◌then◌else◌}
use Rattle.std.specs.List.{list_any}
use Rattle.std.proofs.lemmas.Bool.{eq-eqb, ne_eqb, or_left, or_right}
use Rattle.pw_base.proofs.Plain.{eqb-swap}
use Rattle.pw_class.specs.Queue.{is_of, works_for}
use Rattle.pw_class.specs.declared.request.Request.{Request}
use Rattle.pw_event.specs.declared.event.Ending.TheVariants.{Stopped, NoEntries, Fault, Suspended, Lost}
use Rattle.pw_event.specs.declared.event.Event.{Event}
use Rattle.pw_event.specs.declared.event.Event.TheVariants.{Show, Key, CheckStart, CheckEnd, CheckCopy, Applied, Begin, Send, Take, File, Reply, Again, Commit, Back, Restart, FailTcp, FailServer, Takeover, Raise, End}
use Rattle.pw_world_model.specs.Touches.{leaves}
use Rattle.pw_world_model.proofs.Outs.{job-out}
use Rattle.pw_onecopy.specs.Behaviour.{Behaviour}
use Rattle.pw_onecopy.specs.IsBehaviour.{IsBehaviour}
use Rattle.pw_onecopy.specs.Path.{Failed, Replied, unit_number}
use Rattle.pw_onecopy.specs.Update.{upd}
use Rattle.pw_onecopy.proofs.Update.{upd_elim}
use Rattle.pw_paired.specs.Failure.{backup_fails, is_of_pair, lose_pair, lose_primary, primary_fails, process_fails}
use Rattle.pw_paired.specs.Server.{answer_on, do_operation, free_process, with_job_at}
use Rattle.pw_paired.specs.State.{PairMode, Alone, Raising, Paired, Down, Gone, Class, Job, State}
use Rattle.pw_paired.specs.Step.{Legal, change}
use Rattle.pw_paired.specs.Terminal.{path_of}
use Rattle.pw_paired.specs.Units.{commit_unit, give_answer, has_request, is_out, only, request_in, without_requests}
use Rattle.pw_paired.proofs.SingleEntries.{none_below}
use Rattle.pw_laws.proofs.induction.Served.{file-cases, reply-any}
use Rattle.pw_laws.proofs.kept.Kept.{Inv}
use Rattle.pw_laws.proofs.requests.Classes.{InBounds, IsWithout, NoneOf, NotFor}
use Rattle.pw_laws.proofs.requests.Requests.{AtWork, InLine, Nowhere, Place, Placed, RequestsOk, place_inside, requests_cancelled, requests_filed, requests_freed, requests_sent, place_of_first, requests_taken, without_places}
use Rattle.pw_laws.proofs.terms.KeepsChecks.{can_path, path_ok-is}
use Rattle.pw_laws.proofs.Lacking.{any_below-true}

-- ---- a place says whether a request is out

abbrev pub somewhere : Place → Bool
somewhere Nowhere = false
somewhere (InLine c request) = true
somewhere (AtWork c i job) = true

pub none-waits : (t : ℕ) (requests : List Request) → NoneOf t requests → list_any (is_of t) requests ≡ false
none-waits t [] none = refl
none-waits t (request ∷ requests) none = let first = ne_eqb request.terminal t none.0 in let later = none-waits t requests none.1 in rw (first, later) refl

none-works : (t : ℕ) (job : Option Job) → NotFor t job → works_for t (request_in job) ≡ false
none-works t None none = refl
none-works t (Some job) none = ne_eqb job.request.terminal t none

pub without-has : (t n : ℕ) (class : Class) → IsWithout t class → has_request t n class ≡ false
without-has t n class without =
    let line = none-waits t class.waiting without.line in
    let work = none_below n (λ i. works_for t (request_in (class.busy (i + 1)))) (λ i. none-works t (class.busy (i + 1)) (without.work (i + 1))) in
    rw (line, work) refl

one-waits : (t : ℕ) (front back : List Request) (request : Request) → request.terminal ≡ t → list_any (is_of t) (front ++ request ∷ back) ≡ true
one-waits t [] back request whose = let mine = eq-eqb request.terminal t whose in rw mine refl
one-waits t (x ∷ front) back request whose = or_right (is_of t x) (list_any (is_of t) (front ++ request ∷ back)) (one-waits t front back request whose)

line-there : (sys : Behaviour) (classes : ℕ → Class) → InBounds sys classes → (c : ℕ) (front back : List Request) (request : Request) → (classes c).waiting ≡ front ++ request ∷ back → c < sys.classes
line-there sys classes bounds c [] back request is = bounds.line c request back is
line-there sys classes bounds c (x ∷ front) back request is = bounds.line c x (front ++ request ∷ back) is

pub out-at : (sys : Behaviour) (state : State) (places : ℕ → Place) → RequestsOk sys state.classes places → (t : ℕ) → is_out sys state t ≡ somewhere (places t)
out-at sys state places ok t = by (places t) refl
  where
    by : (place : Place) → places t ≡ place → is_out sys state t ≡ somewhere place
    by Nowhere is =
        let placed : (c : ℕ) → IsWithout t (state.classes c) = subst (λ p. Placed state.classes t p) is (ok.placed t) in
        none_below sys.classes (λ c. has_request t (sys.processes c) (state.classes c)) (λ c. without-has t (sys.processes c) (state.classes c) (placed c))
    by (InLine c request) is =
        let here = subst (λ p. Placed state.classes t p) is (ok.placed t) in
        let line = here.here.line in
        any_below-true sys.classes (λ d. has_request t (sys.processes d) (state.classes d)) c (line-there sys state.classes ok.bounds c line.front line.back request line.waits)
        (or_left (list_any (is_of t) (state.classes c).waiting) _ (ap (list_any (is_of t)) line.waits ∙ one-waits t line.front line.back request line.whose))
    by (AtWork c i job) is =
        let here = subst (λ p. Placed state.classes t p) is (ok.placed t) in
        let work = here.here.work in
        subst (λ u. is_out sys state u ≡ true) work.whose (job-out sys state c i job (ok.bounds.work c i job work.works) work.works)

-- ---- behind an entry

-- the failure of this member cancels the requests of the pair's terminals
abbrev pub loses_in : Bool → PairMode → Bool
loses_in true Paired = true
loses_in true Raising = true
loses_in true Alone = true
loses_in true Down = false
loses_in true Gone = false
loses_in false Alone = false
loses_in false Raising = false
loses_in false Paired = false
loses_in false Down = true
loses_in false Gone = false

-- the member of the pair fails in a mode
abbrev fails_as : Behaviour → ℕ → Bool → PairMode → State → State
fails_as sys p true m s = primary_fails sys p m s
fails_as sys p false m s = backup_fails sys p m s

fails-is : (sys : Behaviour) (p k : ℕ) (primary : Bool) (s : State) → change sys s (FailTcp p primary k) ≡ fails_as sys p primary (s.modes p) s
fails-is sys p k true s = refl
fails-is sys p k false s = refl

-- whether a terminal's request is out behind an entry, by whether it was before
abbrev pub out_behind : Behaviour → State → Event → ℕ → Bool → Bool
out_behind sys s (Send t n c) u out = if u == t then true else out
out_behind sys s (Reply c i t fault) u out = if u == t then false else out
out_behind sys s (FailServer c i k) u out = if works_for u (request_in ((s.classes c).busy i)) then false else out
out_behind sys s (Restart t n cause) u out = if u == t then false else out
out_behind sys s (FailTcp p primary k) u out = if is_of_pair sys p u && loses_in primary (s.modes p) then false else out
out_behind sys s (End t ending) u out = if u == t && leaves ending then false else out
out_behind sys s entry u out = out

module _ (sys : Behaviour) (b : IsBehaviour sys) (s : State) (i : Inv sys s) where
  -- behind a change that leaves requests at these places
  moved-to : (x : State) (places : ℕ → Place) → RequestsOk sys x.classes places → (u : ℕ) (new : Bool) → somewhere (places u) ≡ new → is_out sys x u ≡ new
  moved-to x places ok u new is = out-at sys x places ok u ∙ is

  before : (u : ℕ) → somewhere (i.places u) ≡ is_out sys s u
  before u = sym (out-at sys s i.places i.requests u)

  -- one terminal has a new place
  at-one : (t u : ℕ) (place : Place) → somewhere (upd i.places t place u) ≡ (if u == t then somewhere place else is_out sys s u)
  at-one t u place =
      upd_elim i.places t place u (λ p. somewhere p ≡ (if u == t then somewhere place else is_out sys s u))
      (λ same. let e = eq-eqb u t same in rw e refl) (λ differ. let e = ne_eqb u t differ in rw e (before u))

  -- a terminal with a request keeps one
  at-kept : (t u : ℕ) (place : Place) → somewhere place ≡ is_out sys s t → somewhere (upd i.places t place u) ≡ is_out sys s u
  at-kept t u place is =
      upd_elim i.places t place u (λ p. somewhere p ≡ is_out sys s u) (λ same. is ∙ ap (is_out sys s) (sym same)) (λ differ. before u)

  at-cancelled : (whose : ℕ → Bool) (u : ℕ) → somewhere (without_places whose i.places u) ≡ (if whose u then false else is_out sys s u)
  at-cancelled whose u = by (whose u)
    where
      by : (w : Bool) → somewhere (if w then Nowhere else i.places u) ≡ (if w then false else is_out sys s u)
      by true = refl
      by false = before u

  cancelled : (x : State) (whose : ℕ → Bool) → x.classes ≡ (λ c. without_requests whose (s.classes c)) → (u : ℕ) → is_out sys x u ≡ (if whose u then false else is_out sys s u)
  cancelled x whose is u =
      out-at sys x (without_places whose i.places) (subst (λ (classes : ℕ → Class). RequestsOk sys classes (without_places whose i.places)) (sym is) (requests_cancelled whose i.requests)) u ∙ at-cancelled whose u

  job-is-out : (c p : ℕ) (job : Job) → (s.classes c).busy p ≡ Some job → is_out sys s job.request.terminal ≡ true
  job-is-out c p job works = job-out sys s c p job (i.requests.bounds.work c p job works) works

  both-cond : (a w out : Bool) → w ≡ true → (if a then false else out) ≡ (if a && w then false else out)
  both-cond true true out e = refl
  both-cond false true out e = refl
  both-cond a false out e = absurd (cc e)

  neither-cond : (a w out : Bool) → w ≡ false → out ≡ (if a && w then false else out)
  neither-cond true false out e = refl
  neither-cond false false out e = refl
  neither-cond a true out e = absurd (cc e)

  pub outs : (entry : Event) → Legal sys s entry → (u : ℕ) → is_out sys (change sys s entry) u ≡ out_behind sys s entry u (is_out sys s u)
  outs (Show t phase attempt k) l u = refl
  outs (Key t k) l u = refl
  outs (CheckStart t) l u = refl
  outs (CheckEnd t) l u = refl
  outs (CheckCopy t) l u = refl
  outs (Applied t) l u = refl
  outs (Begin t n r) l u = refl
  outs (Again t n) l u = refl
  outs (Commit t n) l u = refl
  outs (Back t n) l u = refl
  outs (Takeover p) l u = refl
  outs (Raise p) l u = refl
  outs (Send t n c) l u =
      let is_path = path_ok-is _ (s.units t) (can_path sys b s i.terms t l.fits.can) in
      out-at sys (change sys s (Send t n c)) _ (requests_sent c _ i.requests refl (b.sends t c l.fits.message (path_of s t) is_path l.fits.asks) (place_inside s i.requests l.fits.not_out)) u ∙ at-one t u _
  outs (Take c p t) l u =
      out-at sys (change sys s (Take c p t)) _ (requests_taken i.requests l.fits.first l.fits.whose l.fits.free) u
      ∙ at-kept t u _ (sym (out-at sys s i.places i.requests t ∙ ap somewhere (place_of_first i.requests l.fits.first l.fits.whose)))
  outs (File c p op mode f status) l u =
      file-cases sys s c p (λ x. is_out sys x u ≡ is_out sys s u) refl
      (λ job call works asks.
      out-at sys (do_operation sys c p job call s) _ (requests_filed (answer_on sys s call) i.requests works refl) u
      ∙ at-kept job.request.terminal u _ (sym (job-is-out c p job works)))
  outs (Reply c p t fault) l u =
      let freed = requests_freed i.requests l.fits.at_work l.fits.whose in
      let one : (x : State) → x.classes ≡ upd s.classes c (with_job_at p None (s.classes c)) → is_out sys x u ≡ (if u == t then false else is_out sys s u) =
      λ x is. out-at sys x _ (subst (λ (classes : ℕ → Class). RequestsOk sys classes (upd i.places t Nowhere)) (sym is) freed) u ∙ at-one t u Nowhere in
      reply-any sys s c p t (λ x. is_out sys x u ≡ (if u == t then false else is_out sys s u)) fault (λ reply outside. one (give_answer t (Replied reply) (commit_unit t (unit_number (path_of s t)) (Some reply) (free_process c p s))) refl)
      (λ reply inside. one (give_answer t (Replied reply) (free_process c p s)) refl) (λ x. one (give_answer t (Failed x) (free_process c p s)) refl)
  outs (Restart t n cause) l u = cancelled (change sys s (Restart t n cause)) (only t) refl u
  outs (FailServer c p k) l u = by ((s.classes c).busy p) refl
    where
      by : (o : Option Job) → (s.classes c).busy p ≡ o → is_out sys (process_fails c p k o s) u ≡ (if works_for u (request_in o) then false else is_out sys s u)
      by None idle = refl
      by (Some job) works =
          out-at sys (process_fails c p k (Some job) s) _ (requests_freed i.requests works refl) u ∙ (at-one job.request.terminal u Nowhere ∙ ap (λ e. if e then false else is_out sys s u) (eqb-swap u job.request.terminal))
  outs (FailTcp p primary k) l u = ap (λ x. is_out sys x u) (fails-is sys p k primary s) ∙ by primary (s.modes p) refl
    where
      lost : (x : State) (q : Bool) (m : PairMode) → loses_in q m ≡ true → x.classes ≡ (λ c. without_requests (is_of_pair sys p) (s.classes c)) → is_out sys x u ≡ (if is_of_pair sys p u && loses_in q m then false else is_out sys s u)
      lost x q m e is = cancelled x (is_of_pair sys p) is u ∙ both-cond (is_of_pair sys p u) (loses_in q m) (is_out sys s u) e

      by : (q : Bool) (m : PairMode) → s.modes p ≡ m → is_out sys (fails_as sys p q m s) u ≡ (if is_of_pair sys p u && loses_in q m then false else is_out sys s u)
      by true Paired is = lost (lose_primary sys p s) true Paired refl refl
      by true Raising is = lost (lose_pair sys p s) true Raising refl refl
      by true Alone is = lost (lose_pair sys p s) true Alone refl refl
      by true Down is = neither-cond (is_of_pair sys p u) false (is_out sys s u) refl
      by true Gone is = neither-cond (is_of_pair sys p u) false (is_out sys s u) refl
      by false Alone is = neither-cond (is_of_pair sys p u) false (is_out sys s u) refl
      by false Raising is = neither-cond (is_of_pair sys p u) false (is_out sys s u) refl
      by false Paired is = neither-cond (is_of_pair sys p u) false (is_out sys s u) refl
      by false Down is = lost (lose_pair sys p s) false Down refl refl
      by false Gone is = neither-cond (is_of_pair sys p u) false (is_out sys s u) refl
  outs (End t Stopped) l u = neither-cond (u == t) false (is_out sys s u) refl
  outs (End t Lost) l u = neither-cond (u == t) false (is_out sys s u) refl
  outs (End t NoEntries) l u = cancelled (change sys s (End t NoEntries)) (only t) refl u ∙ both-cond (u == t) true (is_out sys s u) refl
  outs (End t (Fault x)) l u = cancelled (change sys s (End t (Fault x))) (only t) refl u ∙ both-cond (u == t) true (is_out sys s u) refl
  outs (End t (Suspended cause)) l u = cancelled (change sys s (End t (Suspended cause))) (only t) refl u ∙ both-cond (u == t) true (is_out sys s u) refl
