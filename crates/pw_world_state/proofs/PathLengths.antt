-- In every run no path is longer than the log, and no server has been answered more often than the log has entries.
use Rattle.std.proofs.Common.{◌≡◌, ◌⊎◌, inl, inr, ⊎_elim, ℕ, ◌+◌, ◌<◌, ◌≤◌, ◌==◌, Bool, true, false, List, [], ◌∷◌, ◌++◌, length, length-append, Option, Some, None, unwrap_or, if◌then◌else◌, refl, ap, sym, subst, arith, ◌∙◌}
use Rattle.pw_code.specs.declared.verb.Verb.{Verb}
use Rattle.pw_code.specs.declared.verb.Verb.TheVariants as verb
use Rattle.pw_class.specs.declared.request.Request.{Request}
use Rattle.pw_event.specs.declared.event.Event.{Event}
use Rattle.pw_event.specs.declared.event.Event.TheVariants as event
use Rattle.pw_onecopy.specs.Behaviour.{Behaviour}
use Rattle.pw_onecopy.specs.IsBehaviour.{IsBehaviour}
use Rattle.pw_onecopy.specs.Path.{FileResult, PathAnswer, Begun}
use Rattle.pw_onecopy.specs.Update.{upd}
use Rattle.pw_onecopy.proofs.Update.{upd_elim}
use Rattle.pw_paired.specs.Failure.{is_of_pair}
use Rattle.pw_paired.specs.Raising.{with_message}
use Rattle.pw_paired.specs.Server.{answer_on, with_answer, with_first_taken, with_job_at}
use Rattle.pw_paired.specs.State.{BackupCopy, Class, Copy, End, Job, Message, OpenUnit, Start, State, starting}
use Rattle.pw_paired.specs.Step.{IsRun, after, change, effect}
use Rattle.pw_paired.specs.Terminal.{begun_path, message_of, next_verb, path_of, unit_with_attempt, with_request}
use Rattle.pw_paired.specs.Units.{attempt_of, only, restarts_of, without_requests}
use Rattle.pw_laws.proofs.induction.Moving.{carried_view, holds-of-terms}
use Rattle.pw_laws.proofs.induction.Failed.{end-any, fail-cases, process-cases}
use Rattle.pw_laws.proofs.induction.Served.{file-cases, reply-any}
use Rattle.pw_laws.proofs.induction.Runs.{behind-runs, carried_from}
use Rattle.pw_laws.proofs.induction.Views as move
use Rattle.pw_laws.proofs.induction.Views.{Moves, View, verb_in, view_of}
use Rattle.pw_laws.proofs.requests.Classes.{freed_from}

-- ---- paths

-- the path of a message
abbrev sent : Message → List PathAnswer
sent (Start n p) = p
sent (Copy n p) = p
sent (End p) = p

-- no path of the terminal is longer
record AreShort (n : ℕ) (v : View) : Type 0 where
  pub path : length v.term.path ≤ n
  pub start : (p : List PathAnswer) → attempt_of v.unit ≡ Some p → length p ≤ n
  pub held : (memory : BackupCopy) → v.memory ≡ Some memory → length memory.start ≤ n
  pub end : (memory : BackupCopy) (p : List PathAnswer) → v.memory ≡ Some memory → memory.end ≡ Some p → length p ≤ n
  pub flies : (message : Message) → v.flight ≡ Some message → length (sent message) ≤ n

begun-short : (r : ℕ) (v : Verb) (path : List PathAnswer) → length (begun_path r v path) ≤ length path + 1
begun-short r verb.Begin path = let sum = length-append path (Begun r ∷ []) in omega (arith, sum)
begun-short r verb.Show path = omega arith
begun-short r (verb.Accept screen) path = omega arith
begun-short r (verb.Send class message) path = omega arith
begun-short r verb.End path = omega arith
begun-short r verb.Drop path = omega arith
begun-short r verb.Redo path = omega arith
begun-short r verb.Stop path = omega arith
begun-short r (verb.Fault x) path = omega arith
begun-short r (verb.File call) path = omega arith
begun-short r (verb.Reply reply) path = omega arith

attempt-is : (n birth : ℕ) (path p : List PathAnswer) (unit : Option OpenUnit) → attempt_of (Some (unit_with_attempt n birth path unit)) ≡ Some p → path ≡ p
attempt-is n birth path p None e = cc e
attempt-is n birth path p (Some unit) e = cc e

abbrev start_of : Option BackupCopy → List PathAnswer
start_of None = []
start_of (Some memory) = memory.start

abbrev end_of : Option BackupCopy → Option (List PathAnswer)
end_of None = None
end_of (Some memory) = memory.end

module _ (n : ℕ) (v w : View) (s : AreShort n v) where
  abbrev Now : View → Type 0
  Now x = AreShort (n + 1) x

  path-more : length v.term.path ≤ n + 1
  path-more = let le = s.path in omega (arith, le)

  pushed : (a : PathAnswer) → length (v.term.path ++ a ∷ []) ≤ n + 1
  pushed a = let le = s.path in let sum = length-append v.term.path (a ∷ []) in omega (arith, le, sum)

  start-more : (p : List PathAnswer) → attempt_of v.unit ≡ Some p → length p ≤ n + 1
  start-more p is = let le = s.start p is in omega (arith, le)

  held-more : (memory : BackupCopy) → v.memory ≡ Some memory → length memory.start ≤ n + 1
  held-more memory is = let le = s.held memory is in omega (arith, le)

  end-more : (memory : BackupCopy) (p : List PathAnswer) → v.memory ≡ Some memory → memory.end ≡ Some p → length p ≤ n + 1
  end-more memory p is ends = let le = s.end memory p is ends in omega (arith, le)

  flies-more : (message : Message) → v.flight ≡ Some message → length (sent message) ≤ n + 1
  flies-more message is = let le = s.flies message is in omega (arith, le)

  no-held : (memory : BackupCopy) → None ≡ Some memory → length memory.start ≤ n + 1
  no-held memory is = absurd (cc is)

  no-end : (memory : BackupCopy) (p : List PathAnswer) → None ≡ Some memory → memory.end ≡ Some p → length p ≤ n + 1
  no-end memory p is ends = absurd (cc is)

  no-flight : (message : Message) → None ≡ Some message → length (sent message) ≤ n + 1
  no-flight message is = absurd (cc is)

  no-start : (p : List PathAnswer) → None ≡ Some p → length p ≤ n + 1
  no-start p is = absurd (cc is)

  one-flight : (message : Message) → length (sent message) ≤ n + 1 → (other : Message) → Some message ≡ Some other → length (sent other) ≤ n + 1
  one-flight message le other is = let same : message ≡ other = cc is in subst (λ (m : Message). length (sent m) ≤ n + 1) same le

  -- the path goes on, and all else stays
  gets : (path : List PathAnswer) → length path ≤ n + 1 → (x : View) → x.term.path ≡ path → x.unit ≡ v.unit → x.memory ≡ v.memory → x.flight ≡ v.flight → Now x
  gets path le x is unit memory flight = record {
    path = let same = ap (length {A = PathAnswer}) is in omega (arith, same, le);
    start = λ p runs. start-more p (ap attempt_of (sym unit) ∙ runs);
    held = λ m is. held-more m (sym memory ∙ is);
    end = λ m p is. end-more m p (sym memory ∙ is);
    flies = λ m is. flies-more m (sym flight ∙ is);
  }

  at : (x : View) → w ≡ x → Now x → Now w
  at x is = subst Now (sym is)

  copied-short : (o : Option (List PathAnswer)) → attempt_of v.unit ≡ o → length (unwrap_or o v.term.path) ≤ n + 1
  copied-short None is = path-more
  copied-short (Some p) is = start-more p is

  -- what is held behind a message
  applied-held : (message : Message) → length (sent message) ≤ n → (o : Option BackupCopy) → v.memory ≡ o → (memory : BackupCopy) → with_message (Some message) o ≡ Some memory → length memory.start ≤ n + 1
  applied-held (Start u p) le o old memory is = let same : p ≡ memory.start = ap start_of is in let long = ap (length {A = PathAnswer}) same in omega (arith, le, long)
  applied-held (Copy u p) le o old memory is = let same : p ≡ memory.start = ap start_of is in let long = ap (length {A = PathAnswer}) same in omega (arith, le, long)
  applied-held (End p) le None old memory is = absurd (cc is)
  applied-held (End p) le (Some m) old memory is = let same : m.start ≡ memory.start = ap start_of is in let long = ap (length {A = PathAnswer}) same in let before = s.held m old in omega (arith, before, long)

  applied-end : (message : Message) → length (sent message) ≤ n → (o : Option BackupCopy) → v.memory ≡ o → (memory : BackupCopy) (q : List PathAnswer) → with_message (Some message) o ≡ Some memory → memory.end ≡ Some q → length q ≤ n + 1
  applied-end (Start u p) le o old memory q is ends = absurd (let none : None ≡ memory.end = ap end_of is in cc (none, ends))
  applied-end (Copy u p) le o old memory q is ends = absurd (let none : None ≡ memory.end = ap end_of is in cc (none, ends))
  applied-end (End p) le None old memory q is ends = absurd (cc is)
  applied-end (End p) le (Some m) old memory q is ends =
      let some : Some p ≡ memory.end = ap end_of is in
      let same : p ≡ q = cc (some, ends) in
      let long = ap (length {A = PathAnswer}) same in
      omega (arith, le, long)

  resumed-short : (memory : BackupCopy) → v.memory ≡ Some memory → (b : Bool) (e : Option (List PathAnswer)) → memory.end ≡ e → length (if b then unwrap_or e memory.start else memory.start) ≤ n + 1
  resumed-short memory is true None ends = held-more memory is
  resumed-short memory is true (Some p) ends = end-more memory p is ends
  resumed-short memory is false e ends = held-more memory is

  short-kept : {sys : Behaviour} {t : ℕ} → Moves sys t v w → Now w
  short-kept (move.stays is) = at v is (gets v.term.path path-more v refl refl refl refl)
  short-kept (move.settles lacks has is) = at _ is (gets v.term.path path-more _ refl refl refl refl)
  short-kept (move.shows able asks is) = at _ is (gets _ (pushed _) _ refl refl refl refl)
  short-kept (move.enters able screen k asks next exists is) = at _ is (gets _ (pushed _) _ refl refl refl refl)
  short-kept (move.sends_start able idle begins new lacking free is) =
      at _ is (record { path = path-more; start = start-more; held = held-more; end = end-more; flies = one-flight _ path-more })
  short-kept (move.sends_end able a closes lacking free is) =
      at _ is (record { path = path-more; start = start-more; held = held-more; end = end-more; flies = one-flight _ (pushed a) })
  short-kept (move.sends_copy live raising lacking free is) =
      at _ is (record { path = path-more; start = start-more; held = held-more; end = end-more; flies = one-flight _ (copied-short (attempt_of v.unit) refl) })
  short-kept (move.applies message flies has lacks is) =
      at _ is (record {
        path = path-more;
        start = start-more;
        held = applied-held message (s.flies message flies) v.memory refl;
        end = applied-end message (s.flies message flies) v.memory refl;
        flies = no-flight;
      })
  short-kept {sys = sys} {t = t} (move.begins able idle begins new holds birth is) =
      at _ is (record {
        path = let le = s.path in let more = begun-short (restarts_of v.unit) (verb_in sys t v) v.term.path in omega (arith, le, more);
        start = λ p runs. let same = ap (length {A = PathAnswer}) (attempt-is _ birth v.term.path p v.unit runs) in let le = s.path in omega (arith, same, le);
        held = held-more;
        end = end-more;
        flies = flies-more;
      })
  short-kept (move.is_answered waits reply inside is) = at _ is (gets _ (pushed _) _ refl refl refl refl)
  short-kept (move.is_served waits reply outside is) = at _ is (record { path = pushed _; start = no-start; held = held-more; end = end-more; flies = flies-more })
  short-kept (move.is_failed waits x is) = at _ is (gets _ (pushed _) _ refl refl refl refl)
  short-kept (move.is_answered_again able class message asks outside number is) = at _ is (gets _ (pushed _) _ refl refl refl refl)
  short-kept (move.commits able asks holds is) = at _ is (record { path = pushed _; start = no-start; held = held-more; end = end-more; flies = flies-more })
  short-kept (move.drops able asks holds is) = at _ is (record { path = pushed _; start = no-start; held = held-more; end = end-more; flies = flies-more })
  short-kept (move.restarts unit is_open start runs kind few is) =
      at _ is (record { path = start-more start (ap attempt_of is_open ∙ runs); start = no-start; held = held-more; end = end-more; flies = flies-more })
  short-kept (move.goes_down paired is) = at _ is (record { path = omega arith; start = start-more; held = held-more; end = end-more; flies = no-flight })
  short-kept (move.is_lost is) = at _ is (record { path = omega arith; start = no-start; held = no-held; end = no-end; flies = no-flight })
  short-kept (move.loses_backup has is) = at _ is (record { path = path-more; start = start-more; held = no-held; end = no-end; flies = no-flight })
  short-kept (move.loses_server waits k is) = at _ is (gets v.term.path path-more _ refl refl refl refl)
  short-kept (move.is_taken_over p down live held is_held is) =
      at _ is (record { path = resumed-short held is_held (v.last.number == held.unit) held.end refl; start = start-more; held = no-held; end = no-end; flies = flies-more })
  short-kept (move.is_passed_over down e dead is) = at _ is (record { path = path-more; start = start-more; held = no-held; end = no-end; flies = flies-more })
  short-kept (move.is_raised alone calm is) = at _ is (record { path = path-more; start = start-more; held = no-held; end = no-end; flies = flies-more })
  short-kept (move.stops e lacks live idle is) = at _ is (record { path = path-more; start = start-more; held = no-held; end = no-end; flies = no-flight })
  short-kept (move.leaves e lacks is) = at _ is (record { path = path-more; start = no-start; held = no-held; end = no-end; flies = no-flight })

-- the entries are counted beside the log
abbrev one-more : View → View → ℕ → ℕ
one-more v w n = n + 1

counted : (sys : Behaviour) (t : ℕ) (s : State) (n : ℕ) (log : List Event) → carried_from sys (carried_view sys t one-more) s n log ≡ n + length log
counted sys t s n [] = omega arith
counted sys t s n (entry ∷ log) = counted sys t (effect sys s entry) (n + 1) log ∙ (let same : n + 1 + length log ≡ n + length (entry ∷ log) = omega arith in same)

shorts : (sys : Behaviour) → IsBehaviour sys → (t : ℕ) → t < sys.terminals → (log : List Event) → IsRun sys log → AreShort (length log) (view_of sys (after sys log) t)
shorts sys b t known log run =
    subst (λ n. AreShort n (view_of sys (after sys log) t)) (counted sys t (starting sys) 0 log ∙ (let same : 0 + length log ≡ length log = omega arith in same))
    (holds-of-terms sys b t known one-more 0 (λ v n. AreShort n v) (λ v w term next move n s. short-kept n v w s {sys = sys} {t = t} move)
    (record { path = omega arith; start = λ p is. absurd (cc is); held = λ m is. absurd (cc is); end = λ m p is. absurd (cc is); flies = λ m is. absurd (cc is) }) log run)

pub path-short : (sys : Behaviour) → IsBehaviour sys → (log : List Event) → IsRun sys log → (t : ℕ) → t < sys.terminals → length (path_of (after sys log) t) ≤ length log
path-short sys b log run t known = (shorts sys b t known log run).path

pub start-short : (sys : Behaviour) → IsBehaviour sys → (log : List Event) → IsRun sys log → (t : ℕ) (path : List PathAnswer) → t < sys.terminals → attempt_of ((after sys log).units t) ≡ Some path → length path ≤ length log
start-short sys b log run t path known is = (shorts sys b t known log run).start path is

-- ---- servers

-- no server at work was answered more often
record AreFew (classes : ℕ → Class) (n : ℕ) : Type 0 where
  pub each : (c i : ℕ) (job : Job) → (classes c).busy i ≡ Some job → length job.done ≤ n

-- each server at work was so before, or was answered so few times
abbrev Comes : ℕ → (ℕ → Class) → (ℕ → Class) → Type 0
Comes n old new = (c i : ℕ) (job : Job) → (new c).busy i ≡ Some job → ((old c).busy i ≡ Some job) ⊎ (length job.done ≤ n + 1)

few-more : (n : ℕ) (old new : ℕ → Class) → AreFew old n → Comes n old new → AreFew new (n + 1)
few-more n old new few comes = record { each = λ c i job works. ⊎_elim (λ before. let le = few.each c i job before in omega (arith, le)) (λ less. less) (comes c i job works) }

abbrev done_of : Option Job → List FileResult
done_of None = []
done_of (Some job) = job.done

module _ (n : ℕ) (old : ℕ → Class) where
  stay : Comes n old old
  stay c i job works = inl works

  cancelled : (whose : ℕ → Bool) → Comes n old (λ c. without_requests whose (old c))
  cancelled whose c i job works = inl (freed_from whose ((old c).busy i) job works)

  -- one class gets other servers
  changed : (c : ℕ) (class : Class) → ((i : ℕ) (job : Job) → class.busy i ≡ Some job → ((old c).busy i ≡ Some job) ⊎ (length job.done ≤ n + 1)) → Comes n old (upd old c class)
  changed c class own d i job =
      upd_elim old c class d (λ x. x.busy i ≡ Some job → ((old d).busy i ≡ Some job) ⊎ (length job.done ≤ n + 1))
      (λ here works. subst (λ k. ((old k).busy i ≡ Some job) ⊎ (length job.done ≤ n + 1)) (sym here) (own i job works)) (λ other works. inl works)

  -- a process gets another server, or none
  placed : (c p : ℕ) (own : Option Job) (class : Class) → class.busy ≡ upd (old c).busy p own → ((job : Job) → own ≡ Some job → length job.done ≤ n + 1) → Comes n old (upd old c class)
  placed c p own class is few =
      changed c class (λ i job works.
      upd_elim (old c).busy p own i (λ o. o ≡ Some job → ((old c).busy i ≡ Some job) ⊎ (length job.done ≤ n + 1)) (λ here works. inr (few job works)) (λ other works. inl works)
      (ap (λ f. f i) (sym is) ∙ works))

  taken : (c p : ℕ) (waiting : List Request) → Comes n old (upd old c (with_first_taken p waiting (old c)))
  taken c p [] = changed c (old c) (λ i job works. inl works)
  taken c p (request ∷ others) =
      placed c p (Some (record { request = request; done = [] })) (with_first_taken p (request ∷ others) (old c)) refl
      (λ job is. let none : [] ≡ job.done = ap done_of is in let long = ap (length {A = FileResult}) none in omega (arith, long))

module _ (sys : Behaviour) (n : ℕ) (s : State) (few : AreFew s.classes n) where
  quiet : AreFew s.classes (n + 1)
  quiet = few-more n s.classes s.classes few (stay n s.classes)

  spares : (whose : ℕ → Bool) → AreFew (λ c. without_requests whose (s.classes c)) (n + 1)
  spares whose = few-more n s.classes _ few (cancelled n s.classes whose)

  frees : (c p : ℕ) → AreFew (upd s.classes c (with_job_at p None (s.classes c))) (n + 1)
  frees c p = few-more n s.classes _ few (placed n s.classes c p None (with_job_at p None (s.classes c)) refl (λ job none. absurd (cc none)))

  operated : (c p : ℕ) (job : Job) (a : FileResult) → (s.classes c).busy p ≡ Some job → AreFew (upd s.classes c (with_job_at p (Some (with_answer a job)) (s.classes c))) (n + 1)
  operated c p job a works =
      few-more n s.classes _ few
      (placed n s.classes c p (Some (with_answer a job)) (with_job_at p (Some (with_answer a job)) (s.classes c)) refl
      (λ other same.
      let done : job.done ++ a ∷ [] ≡ other.done = ap done_of same in
      let long = ap (length {A = FileResult}) done in
      let sum = length-append job.done (a ∷ []) in
      let le = few.each c p job works in
      omega (arith, long, sum, le)))

  servers : (entry : Event) → AreFew (change sys s entry).classes (n + 1)
  servers (event.Show t phase attempt k) = quiet
  servers (event.Key t k) = quiet
  servers (event.CheckStart t) = quiet
  servers (event.CheckEnd t) = quiet
  servers (event.CheckCopy t) = quiet
  servers (event.Applied t) = quiet
  servers (event.Begin t k r) = quiet
  servers (event.Send t k c) =
      few-more n s.classes _ few (changed n s.classes c (with_request (record { terminal = t; unit = k; message = message_of (next_verb sys s t) }) (s.classes c)) (λ i job works. inl works))
  servers (event.Take c i t) = few-more n s.classes _ few (taken n s.classes c i (s.classes c).waiting)
  servers (event.File c i op mode f status) =
      file-cases sys s c i (λ w. AreFew w.classes (n + 1)) quiet (λ job call works asks. operated c i job (answer_on sys s call) works)
  servers (event.Reply c i t fault) =
      reply-any sys s c i t (λ w. AreFew w.classes (n + 1)) fault (λ reply outside. frees c i) (λ reply inside. frees c i) (λ x. frees c i)
  servers (event.Again t k) = quiet
  servers (event.Commit t k) = quiet
  servers (event.Back t k) = quiet
  servers (event.Restart t k cause) = spares (only t)
  servers (event.FailTcp p primary k) =
      fail-cases sys s (λ w. AreFew w.classes (n + 1)) p quiet (λ paired. spares (is_of_pair sys p)) (λ which breaks. spares (is_of_pair sys p)) (λ has. quiet) primary
  servers (event.FailServer c i k) = process-cases sys s (λ w. AreFew w.classes (n + 1)) c i k quiet (λ job works. frees c i)
  servers (event.Takeover p) = quiet
  servers (event.Raise p) = quiet
  servers (event.End t e) = end-any sys s (λ w. AreFew w.classes (n + 1)) t e quiet (spares (only t))

counts : (sys : Behaviour) (s : State) (n : ℕ) (log : List Event) → carried_from sys (λ s entry n. n + 1) s n log ≡ n + length log
counts sys s n [] = omega arith
counts sys s n (entry ∷ log) = counts sys (effect sys s entry) (n + 1) log ∙ (let same : n + 1 + length log ≡ n + length (entry ∷ log) = omega arith in same)

few-behind : (sys : Behaviour) (log : List Event) → IsRun sys log → AreFew (after sys log).classes (length log)
few-behind sys log run =
    subst (AreFew (after sys log).classes) (counts sys (starting sys) 0 log ∙ (let same : 0 + length log ≡ length log = omega arith in same))
    (behind-runs sys (λ s entry n. n + 1) 0 (λ s n. AreFew s.classes n) (λ log run entry legal few. servers sys _ (after sys log) few entry) (record { each = λ c i job works. absurd (cc works) }) log run)

pub done-short : (sys : Behaviour) (log : List Event) → IsRun sys log → (c i : ℕ) (job : Job) → ((after sys log).classes c).busy i ≡ Some job → length job.done ≤ length log
done-short sys log run = (few-behind sys log run).each
