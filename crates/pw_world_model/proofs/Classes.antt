-- What an entry changes of classes and processes.
use Rattle.std.proofs.Common.{◌≡◌, ℕ, suc, ◌+◌, ◌==◌, ◌&&◌, List, [], ◌∷◌, ◌++◌, length, Option, Some, None, Bool, true, false, is_some, inl, inr, ◌⊎◌, refl, sym, ap, subst, ◌∙◌, ⊎_elim, length-append, arith}
use Rattle.std.proofs.lemmas.Bool.{cases_eq, eq-eqb, eqb-false, eqb-true, and_parts}
use Rattle.pw_class.specs.declared.request.Request.{Request}
use Rattle.pw_code.specs.declared.file.FileOp.{FileOp}
use Rattle.pw_code.specs.declared.lock.LockMode.{LockMode}
use Rattle.pw_event.specs.declared.event.Event.{Event}
use Rattle.pw_event.specs.declared.event.Event.TheVariants.{Show, Key, CheckStart, CheckEnd, CheckCopy, Applied, Begin, Send, Take, File, Reply, Again, Commit, Back, Restart, FailTcp, FailServer, Takeover, Raise, End}
use Rattle.pw_world_model.proofs.Cancels.{may_cancel}
use Rattle.pw_onecopy.specs.Behaviour.{Behaviour}
use Rattle.pw_onecopy.specs.Path.{FileResult}
use Rattle.pw_onecopy.specs.Update.{upd}
use Rattle.pw_onecopy.proofs.Update.{upd-other, upd-same}
use Rattle.pw_paired.specs.Failure.{process_fails}
use Rattle.pw_paired.specs.Server.{answer_on, do_file, do_operation, with_answer, with_job_at}
use Rattle.pw_paired.specs.State.{Class, Job, State}
use Rattle.pw_paired.specs.Step.{Legal, change}
use Rattle.pw_paired.specs.Terminal.{message_of, next_verb, with_request}
use Rattle.pw_paired.specs.Units.{request_in}
use Rattle.pw_laws.proofs.induction.Served.{file-cases, file-is, reply-any, take-is}

-- the entry is one of the class or of a process of it
abbrev pub at_class : State → ℕ → Event → Bool
at_class s c (Send t n class) = class == c
at_class s c (Take class i t) = class == c
at_class s c (File class i op mode f status) = class == c
at_class s c (Reply class i t fault) = class == c
at_class s c (FailServer class i k) = class == c && is_some (request_in ((s.classes class).busy i))
at_class s c _ = false

-- the entry is one of the process
abbrev pub at_process : State → ℕ → ℕ → Event → Bool
at_process s c i (Take class process t) = class == c && process == i
at_process s c i (File class process op mode f status) = class == c && process == i
at_process s c i (Reply class process t fault) = class == c && process == i
at_process s c i (FailServer class process k) = class == c && (process == i && is_some (request_in ((s.classes class).busy process)))
at_process s c i _ = false

-- ---- parts

longer : {A : Type 0} (xs : List A) (x : A) → xs ≡ xs ++ x ∷ [] → ⊥
longer xs x is =
    let long : length xs ≡ length (xs ++ x ∷ []) = ap length is in
    let more : length (xs ++ x ∷ []) ≡ length xs + 1 = length-append xs (x ∷ []) in
    omega (arith, long, more)

shorter : {A : Type 0} (x : A) (xs : List A) → x ∷ xs ≡ xs → ⊥
shorter x xs is = let long : suc (length xs) ≡ length xs = ap length is in omega (arith, long)

abbrev done_in : Option Job → List FileResult
done_in None = []
done_in (Some job) = job.done

pub first-no : (a : Bool) → (a && true) ≡ false → a ≡ false
first-no true e = e
first-no false e = refl

last-yes : (a b : Bool) → (a && (b && true)) ≡ false → (a && b) ≡ false
last-yes true true e = e
last-yes true false e = refl
last-yes false b e = refl

both-no : (a b : Bool) → (a && b) ≡ false → a ≡ true → b ≡ true → ⊥
both-no true true e x y = absurd (cc e)
both-no true false e x y = absurd (cc y)
both-no false b e x y = absurd (cc x)

module _ (sys : Behaviour) (s : State) where
  -- from the place of the entry to the one that is looked at
  at : (x : State) (class c : ℕ) → (class == c) ≡ true → (s.classes class ≡ x.classes class → ⊥) → s.classes c ≡ x.classes c → ⊥
  at x class c e differs = subst (λ d. s.classes d ≡ x.classes d → ⊥) (eqb-true class c e) differs

  to : (x : State) (class process c i : ℕ) → (class == c) ≡ true → (process == i) ≡ true → ((s.classes class).busy process ≡ (x.classes class).busy process → ⊥)
      → (s.classes c).busy i ≡ (x.classes c).busy i → ⊥
  to x class process c i e f differs =
      subst (λ d. (s.classes d).busy i ≡ (x.classes d).busy i → ⊥) (eqb-true class c e)
      (subst (λ j. (s.classes class).busy j ≡ (x.classes class).busy j → ⊥) (eqb-true process i f) differs)

  -- a class that is another one now
  at-place : (x : State) (c : ℕ) (class : Class) → x.classes ≡ upd s.classes c class → x.classes c ≡ class
  at-place x c class is = ap (λ f. f c) is ∙ upd-same s.classes c class c refl

  -- a process that is free now
  frees : (x : State) (c i : ℕ) (job : Job) → (s.classes c).busy i ≡ Some job → x.classes ≡ upd s.classes c (with_job_at i None (s.classes c)) → (s.classes c).busy i ≡ (x.classes c).busy i → ⊥
  frees x c i job works is same =
      let free : (x.classes c).busy i ≡ None = ap (λ (y : Class). y.busy i) (at-place x c _ is) ∙ upd-same (s.classes c).busy i None i refl in
      absurd (cc (works, free, same))

  -- a process that has done an operation
  operates : (c i : ℕ) (x : State) (job : Job) (answer : FileResult) → (s.classes c).busy i ≡ Some job → x.classes ≡ upd s.classes c (with_job_at i (Some (with_answer answer job)) (s.classes c))
      → (s.classes c).busy i ≡ (x.classes c).busy i → ⊥
  operates c i x job answer works is same =
      let now : (x.classes c).busy i ≡ Some (with_answer answer job) = ap (λ (y : Class). y.busy i) (at-place x c _ is) ∙ upd-same (s.classes c).busy i _ i refl in
      longer job.done answer (ap done_in (sym works ∙ (same ∙ now)))

  reply-classes : (c i t : ℕ) (fault : Option ℕ) → (change sys s (Reply c i t fault)).classes ≡ upd s.classes c (with_job_at i None (s.classes c))
  reply-classes c i t fault =
      reply-any sys s c i t (λ x. x.classes ≡ upd s.classes c (with_job_at i None (s.classes c))) fault (λ reply outside. refl) (λ reply inside. refl) (λ x. refl)

  process-of : (x : State) (c i : ℕ) → ((s.classes c).busy i ≡ (x.classes c).busy i → ⊥) → s.classes c ≡ x.classes c → ⊥
  process-of x c i differs is = differs (ap (λ (y : Class). y.busy i) is)

  -- ---- a process at which the entry is

  file-process : (c i : ℕ) (op : FileOp) (mode : LockMode) (f status : ℕ) → Legal sys s (File c i op mode f status) → (s.classes c).busy i ≡ ((change sys s (File c i op mode f status)).classes c).busy i → ⊥
  file-process c i op mode f status l =
      subst (λ x. (s.classes c).busy i ≡ (x.classes c).busy i → ⊥) (sym (file-is sys s c i op mode f status l.fits))
      (operates c i (do_operation sys c i l.fits.job l.fits.call s) l.fits.job (answer_on sys s l.fits.call) l.fits.at_work refl)

  stop-process : (c i k : ℕ) → is_some (request_in ((s.classes c).busy i)) ≡ true → (s.classes c).busy i ≡ ((change sys s (FailServer c i k)).classes c).busy i → ⊥
  stop-process c i k some = by ((s.classes c).busy i) refl some
    where
      by : (o : Option Job) → (s.classes c).busy i ≡ o → is_some (request_in o) ≡ true → (s.classes c).busy i ≡ ((process_fails c i k o s).classes c).busy i → ⊥
      by None idle e is = absurd (cc e)
      by (Some job) works e is = frees (process_fails c i k (Some job) s) c i job works refl is

  take-process : (c i t : ℕ) → Legal sys s (Take c i t) → (s.classes c).busy i ≡ None → (s.classes c).busy i ≡ ((change sys s (Take c i t)).classes c).busy i → ⊥
  take-process c i t l free is =
      let to = take-is sys s c i t l.fits in
      let now : ((change sys s (Take c i t)).classes c).busy i ≡ Some (record { request = l.fits.request; done = [] }) =
      ap (λ (x : State). (x.classes c).busy i) to ∙ (ap (λ (y : Class). y.busy i) (upd-same s.classes c _ c refl) ∙ upd-same (s.classes c).busy i _ i refl) in
      absurd (cc (free, now, is))

  pub process-differs : (entry : Event) → Legal sys s entry → ((c i t : ℕ) → entry ≡ Take c i t → (s.classes c).busy i ≡ None) → (c i : ℕ) → at_process s c i entry ≡ true
      → (s.classes c).busy i ≡ ((change sys s entry).classes c).busy i → ⊥
  process-differs (Take class process t) l free c i e =
      let both = and_parts (class == c) (process == i) e in
      to (change sys s (Take class process t)) class process c i both.0 both.1 (take-process class process t l (free class process t refl))
  process-differs (File class process op mode f status) l free c i e =
      let both = and_parts (class == c) (process == i) e in
      to (change sys s (File class process op mode f status)) class process c i both.0 both.1 (file-process class process op mode f status l)
  process-differs (Reply class process t fault) l free c i e =
      let both = and_parts (class == c) (process == i) e in
      to (change sys s (Reply class process t fault)) class process c i both.0 both.1 (frees (change sys s (Reply class process t fault)) class process l.fits.job l.fits.at_work (reply-classes class process t fault))
  process-differs (FailServer class process k) l free c i e =
      let both = and_parts (class == c) (process == i && is_some (request_in ((s.classes class).busy process))) e in
      let second = and_parts (process == i) (is_some (request_in ((s.classes class).busy process))) both.1 in
      to (change sys s (FailServer class process k)) class process c i both.0 second.0 (stop-process class process k second.1)
  process-differs (Show t phase attempt k) l free c i e = absurd (cc e)
  process-differs (Key t k) l free c i e = absurd (cc e)
  process-differs (CheckStart t) l free c i e = absurd (cc e)
  process-differs (CheckEnd t) l free c i e = absurd (cc e)
  process-differs (CheckCopy t) l free c i e = absurd (cc e)
  process-differs (Applied t) l free c i e = absurd (cc e)
  process-differs (Begin t n r) l free c i e = absurd (cc e)
  process-differs (Send t n d) l free c i e = absurd (cc e)
  process-differs (Again t n) l free c i e = absurd (cc e)
  process-differs (Commit t n) l free c i e = absurd (cc e)
  process-differs (Back t n) l free c i e = absurd (cc e)
  process-differs (Restart t n cause) l free c i e = absurd (cc e)
  process-differs (FailTcp p primary k) l free c i e = absurd (cc e)
  process-differs (Takeover p) l free c i e = absurd (cc e)
  process-differs (Raise p) l free c i e = absurd (cc e)
  process-differs (End t ending) l free c i e = absurd (cc e)

  -- ---- a class at which the entry is

  pub class-differs : (entry : Event) → Legal sys s entry → (c : ℕ) → at_class s c entry ≡ true → s.classes c ≡ (change sys s entry).classes c → ⊥
  class-differs (Send t n class) l c e = at (change sys s (Send t n class)) class c e (λ is.
      let request : Request = record { terminal = t; unit = n; message = message_of (next_verb sys s t) } in
      let now = upd-same s.classes class (with_request request (s.classes class)) class refl in
      longer (s.classes class).waiting request (ap (λ (y : Class). y.waiting) (is ∙ now)))
  class-differs (Take class i t) l c e = at (change sys s (Take class i t)) class c e (λ is.
      let to = take-is sys s class i t l.fits in
      let now : ((change sys s (Take class i t)).classes class).waiting ≡ l.fits.others =
      ap (λ (x : State). (x.classes class).waiting) to ∙ ap (λ (y : Class). y.waiting) (upd-same s.classes class _ class refl) in
      shorter l.fits.request l.fits.others (sym l.fits.first ∙ (ap (λ (y : Class). y.waiting) is ∙ now)))
  class-differs (File class i op mode f status) l c e = at (change sys s (File class i op mode f status)) class c e (process-of (change sys s (File class i op mode f status)) class i (file-process class i op mode f status l))
  class-differs (Reply class i t fault) l c e =
      at (change sys s (Reply class i t fault)) class c e (process-of (change sys s (Reply class i t fault)) class i (frees (change sys s (Reply class i t fault)) class i l.fits.job l.fits.at_work (reply-classes class i t fault)))
  class-differs (FailServer class i k) l c e =
      let both = and_parts (class == c) (is_some (request_in ((s.classes class).busy i))) e in
      at (change sys s (FailServer class i k)) class c both.0 (process-of (change sys s (FailServer class i k)) class i (stop-process class i k both.1))
  class-differs (Show t phase attempt k) l c e = absurd (cc e)
  class-differs (Key t k) l c e = absurd (cc e)
  class-differs (CheckStart t) l c e = absurd (cc e)
  class-differs (CheckEnd t) l c e = absurd (cc e)
  class-differs (CheckCopy t) l c e = absurd (cc e)
  class-differs (Applied t) l c e = absurd (cc e)
  class-differs (Begin t n r) l c e = absurd (cc e)
  class-differs (Again t n) l c e = absurd (cc e)
  class-differs (Commit t n) l c e = absurd (cc e)
  class-differs (Back t n) l c e = absurd (cc e)
  class-differs (Restart t n cause) l c e = absurd (cc e)
  class-differs (FailTcp p primary k) l c e = absurd (cc e)
  class-differs (Takeover p) l c e = absurd (cc e)
  class-differs (Raise p) l c e = absurd (cc e)
  class-differs (End t ending) l c e = absurd (cc e)

  -- ---- what stays

  -- a class that is not the one at which the entry is
  other : (class c : ℕ) (new : Class) → (class == c) ≡ false → s.classes c ≡ upd s.classes class new c
  other class c new e = sym (upd-other s.classes class new c (λ is. eqb-false class c e (sym is)))

  file-class : (class i c : ℕ) → (class == c) ≡ false → s.classes c ≡ (do_file sys class i s).classes c
  file-class class i c e = file-cases sys s class i (λ x. s.classes c ≡ x.classes c) refl (λ job call works asks. other class c _ e)

  stop-class : (class i k c : ℕ) → (class == c && is_some (request_in ((s.classes class).busy i))) ≡ false → s.classes c ≡ (change sys s (FailServer class i k)).classes c
  stop-class class i k c = by ((s.classes class).busy i)
    where
      by : (o : Option Job) → (class == c && is_some (request_in o)) ≡ false → s.classes c ≡ (process_fails class i k o s).classes c
      by None e = refl
      by (Some job) e = other class c _ (first-no (class == c) e)

  pub class-stays : (entry : Event) → may_cancel entry ≡ false → (c : ℕ) → at_class s c entry ≡ false → s.classes c ≡ (change sys s entry).classes c
  class-stays (Send t n class) plain c e = other class c _ e
  class-stays (Take class i t) plain c e = other class c _ e
  class-stays (File class i op mode f status) plain c e = file-class class i c e
  class-stays (Reply class i t fault) plain c e = other class c (with_job_at i None (s.classes class)) e ∙ ap (λ f. f c) (sym (reply-classes class i t fault))
  class-stays (FailServer class i k) plain c e = stop-class class i k c e
  class-stays (Show t phase attempt k) plain c e = refl
  class-stays (Key t k) plain c e = refl
  class-stays (CheckStart t) plain c e = refl
  class-stays (CheckEnd t) plain c e = refl
  class-stays (CheckCopy t) plain c e = refl
  class-stays (Applied t) plain c e = refl
  class-stays (Begin t n r) plain c e = refl
  class-stays (Again t n) plain c e = refl
  class-stays (Commit t n) plain c e = refl
  class-stays (Back t n) plain c e = refl
  class-stays (Takeover p) plain c e = refl
  class-stays (Raise p) plain c e = refl
  class-stays (Restart t n cause) plain c e = absurd (cc plain)
  class-stays (FailTcp p primary k) plain c e = absurd (cc plain)
  class-stays (End t ending) plain c e = absurd (cc plain)

  -- ---- a process

  -- of another class, or another one of the class
  beside : (class process c i : ℕ) (new : Class) → (class == c && process == i) ≡ false → new.busy i ≡ (s.classes class).busy i ⊎ (process ≡ i) → (s.classes c).busy i ≡ (upd s.classes class new c).busy i
  beside class process c i new e of = ⊎_elim
      (λ same. ⊎_elim
      (λ stays. ap (λ d. (s.classes d).busy i) (sym same) ∙ (sym stays ∙ ap (λ (y : Class). y.busy i) (sym (upd-same s.classes class new c (sym same)))))
      (λ here. absurd (both-no (class == c) (process == i) e (eq-eqb class c same) (eq-eqb process i here))) of)
      (λ differ. ap (λ (y : Class). y.busy i) (sym (upd-other s.classes class new c (λ is. differ (sym is)))))
      (cases_eq class c)

  job-beside : (class process i : ℕ) (job : Option Job) → (upd (s.classes class).busy process job i ≡ (s.classes class).busy i) ⊎ (process ≡ i)
  job-beside class process i job = ⊎_elim (λ same. inr same) (λ differ. inl (upd-other (s.classes class).busy process job i (λ is. differ (sym is)))) (cases_eq process i)

  file-stays : (class process c i : ℕ) → (class == c && process == i) ≡ false → (s.classes c).busy i ≡ ((do_file sys class process s).classes c).busy i
  file-stays class process c i e = file-cases sys s class process (λ x. (s.classes c).busy i ≡ (x.classes c).busy i) refl (λ job call works asks. beside class process c i _ e (job-beside class process i _))

  stop-stays : (class process k c i : ℕ) → (class == c && (process == i && is_some (request_in ((s.classes class).busy process)))) ≡ false → (s.classes c).busy i ≡ ((change sys s (FailServer class process k)).classes c).busy i
  stop-stays class process k c i = by ((s.classes class).busy process)
    where
      by : (o : Option Job) → (class == c && (process == i && is_some (request_in o))) ≡ false → (s.classes c).busy i ≡ ((process_fails class process k o s).classes c).busy i
      by None e = refl
      by (Some job) e = beside class process c i _ (last-yes (class == c) (process == i) e) (job-beside class process i None)

  take-stays : (class process t c i : ℕ) → Legal sys s (Take class process t) → (class == c && process == i) ≡ false → (s.classes c).busy i ≡ ((change sys s (Take class process t)).classes c).busy i
  take-stays class process t c i l e =
      subst (λ (x : State). (s.classes c).busy i ≡ (x.classes c).busy i) (sym (take-is sys s class process t l.fits)) (beside class process c i _ e (job-beside class process i _))

  pub process-stays : (entry : Event) → Legal sys s entry → may_cancel entry ≡ false → (c i : ℕ) → at_process s c i entry ≡ false → (s.classes c).busy i ≡ ((change sys s entry).classes c).busy i
  process-stays (Send t n class) l plain c i e = ⊎_elim
      (λ same. ap (λ d. (s.classes d).busy i) (sym same) ∙ ap (λ (y : Class). y.busy i) (sym (upd-same s.classes class _ c (sym same))))
      (λ differ. ap (λ (y : Class). y.busy i) (sym (upd-other s.classes class _ c (λ is. differ (sym is))))) (cases_eq class c)
  process-stays (Take class process t) l plain c i e = take-stays class process t c i l e
  process-stays (File class process op mode f status) l plain c i e = file-stays class process c i e
  process-stays (Reply class process t fault) l plain c i e =
      beside class process c i (with_job_at process None (s.classes class)) e (job-beside class process i None) ∙ ap (λ f. (f c).busy i) (sym (reply-classes class process t fault))
  process-stays (FailServer class process k) l plain c i e = stop-stays class process k c i e
  process-stays (Show t phase attempt k) l plain c i e = refl
  process-stays (Key t k) l plain c i e = refl
  process-stays (CheckStart t) l plain c i e = refl
  process-stays (CheckEnd t) l plain c i e = refl
  process-stays (CheckCopy t) l plain c i e = refl
  process-stays (Applied t) l plain c i e = refl
  process-stays (Begin t n r) l plain c i e = refl
  process-stays (Again t n) l plain c i e = refl
  process-stays (Commit t n) l plain c i e = refl
  process-stays (Back t n) l plain c i e = refl
  process-stays (Takeover p) l plain c i e = refl
  process-stays (Raise p) l plain c i e = refl
  process-stays (Restart t n cause) l plain c i e = absurd (cc plain)
  process-stays (FailTcp p primary k) l plain c i e = absurd (cc plain)
  process-stays (End t ending) l plain c i e = absurd (cc plain)
