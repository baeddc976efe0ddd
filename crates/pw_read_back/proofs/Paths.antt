-- In every run the restarts and run faults on all paths are numbers of log lines.
use Rattle.std.proofs.Common.{◌≡◌, ℕ, ◌<◌, ◌≤◌, ◌^◌, ◌==◌, Bool, true, false, List, [], ◌∷◌, ◌++◌, map, Option, Some, None, unwrap_or, if◌then◌else◌, refl, ap, sym, subst, arith}
use Rattle.std.specs.Prelude.{slice_get}
use Rattle.std.specs.List.{AllByRecursion}
use Rattle.pw_code.specs.Limits.{most_restarts}
use Rattle.pw_code.specs.Valid.{IsTerminal, IsValid}
use Rattle.pw_code.specs.declared.system.ClassInfo.{ClassInfo}
use Rattle.pw_code.specs.declared.system.System.{System}
use Rattle.pw_code.specs.declared.system.TermInfo.{TermInfo}
use Rattle.pw_code.specs.declared.verb.Verb.{Verb}
use Rattle.pw_code.specs.declared.verb.Verb.TheVariants as verb
use Rattle.pw_event.specs.declared.event.Cause.{Cause}
use Rattle.pw_event.specs.declared.event.Event.{Event}
use Rattle.pw_event.specs.declared.event.Event.TheVariants as event
use Rattle.pw_event.specs.declared.script.FailLine.{FailLine}
use Rattle.pw_code_meaning.specs.Config.{starting_server}
use Rattle.pw_code_meaning.specs.Config as config
use Rattle.pw_code_meaning.specs.OfSystem.{asked_of, behaviour, file_told, number_by, operation_of, server_after, terminal_after, told}
use Rattle.pw_world_state.proofs.There.{of-all}
use Rattle.pw_onecopy.proofs.Update.{upd_elim}
use Rattle.pw_onecopy.specs.Behaviour.{Behaviour}
use Rattle.pw_onecopy.specs.IsBehaviour.{IsBehaviour}
use Rattle.pw_onecopy.specs.Path.{FileResult, PathAnswer, Begun, Dropped, Ended, Entry, Failed, Replied, Shown, unit_number}
use Rattle.pw_onecopy.specs.Update.{upd}
use Rattle.pw_paired.specs.Failure.{is_live_of, is_of_pair, resume_terminal, with_restart, with_start_path}
use Rattle.pw_paired.specs.Raising.{copied_path, with_message}
use Rattle.pw_paired.specs.Server.{LegalReply, server_verb}
use Rattle.pw_paired.specs.State.{BackupCopy, Copy, End, LastEnded, Message, OpenUnit, Start, State, Term}
use Rattle.pw_paired.specs.Step.{IsRun, after, effect}
use Rattle.pw_paired.specs.Step as step
use Rattle.pw_paired.specs.Terminal.{begun_path, closed_path, closing_answer, next_verb, path_of, path_with, unit_with_attempt}
use Rattle.pw_paired.specs.Units.{attempt_of, only, restarts_of}
use Rattle.pw_laws.proofs.BeginsOnce.{few-restarts}
use Rattle.pw_laws.proofs.Tests.{all-last}
use Rattle.pw_laws.proofs.induction.Failed.{end-any, fail-cases, process-cases}
use Rattle.pw_laws.proofs.induction.Runs as runs
use Rattle.pw_laws.proofs.induction.Served.{fault-verb, file-cases, reply-cases}
use Rattle.pw_read_back.proofs.Faults as faults
use Rattle.pw_read_back.proofs.Faults.{IsTold}

-- ---- what programs ask

-- the number of an answer, if it has one that log lines tell, is in their range
abbrev pub IsFine : PathAnswer → Type 0
IsFine (Begun r) = r < 2 ^ 32
IsFine (Failed x) = x < 2 ^ 16
IsFine _ = Unit {0}

abbrev pub AreFine : List PathAnswer → Type 0
AreFine path = AllByRecursion IsFine path

module _ (system : System) where
  files-told : (done : List FileResult) → AllByRecursion IsTold (map file_told done)
  files-told [] = tt
  files-told (a ∷ done) = (tt, files-told done)

  told-small : (terminal : TermInfo) (path : List PathAnswer) → AreFine path
      → AllByRecursion IsTold (map (told terminal.entries) path)
  told-small terminal [] fine = tt
  told-small terminal (Shown ∷ path) fine = (tt, told-small terminal path fine.1)
  told-small terminal (Entry k ∷ path) fine = (tt, told-small terminal path fine.1)
  told-small terminal (Begun r ∷ path) fine = (tt, told-small terminal path fine.1)
  told-small terminal (Replied reply ∷ path) fine = (tt, told-small terminal path fine.1)
  told-small terminal (Failed x ∷ path) fine = (fine.0, told-small terminal path fine.1)
  told-small terminal (Ended ∷ path) fine = (tt, told-small terminal path fine.1)
  told-small terminal (Dropped ∷ path) fine = (tt, told-small terminal path fine.1)

  abbrev fault_in : Verb → ℕ
  fault_in (verb.Fault x) = x
  fault_in _ = 0

  asked-small : (o : Option TermInfo) (path : List PathAnswer) (x : ℕ) → AreFine path
      → asked_of system o path ≡ verb.Fault x → x < 2 ^ 16
  asked-small None path x fine is = absurd (cc is)
  asked-small (Some terminal) path x fine is =
      faults.verb_small system (terminal_after system terminal path) x
      (faults.after_kept system (config.starting system terminal.program)
      (map (told terminal.entries) path) (told-small terminal path fine) tt) is

  served-small : (o : Option ClassInfo) (message : List ℕ) (done : List FileResult) (x : ℕ)
      → operation_of system o message done ≡ verb.Fault x → x < 2 ^ 16
  served-small None message done x is = let same : 0 ≡ x = ap fault_in is in omega (arith, same)
  served-small (Some class) message done x is =
      faults.verb_small system (server_after system class message done) x
      (faults.after_kept system (starting_server system class.server message) (map file_told done)
      (files-told done) tt) is

-- a run fault of a terminal's program, and of a server
pub ask-small : (script : List FailLine) (system : System) (t : ℕ) (path : List PathAnswer) (x : ℕ)
    → AreFine path → (behaviour script system).ask t path ≡ verb.Fault x → x < 2 ^ 16
ask-small script system t path x fine is = asked-small system
    (slice_get system.terminals t) path x fine is

pub reply-small : (script : List FailLine) (system : System) (s : State) (c i t x : ℕ)
    → LegalReply (behaviour script system) s c i t (Some x) → x < 2 ^ 16
reply-small script system s c i t x l =
    served-small system (slice_get system.classes c) l.job.request.message l.job.done x
    (fault-verb (server_verb (behaviour script system) c l.job) x l.replies)

-- servers have such run faults alone
abbrev ServesSmall : Behaviour → Type 0
ServesSmall sys = (c : ℕ) (message : List ℕ) (done : List FileResult) (x : ℕ)
    → sys.ops c message done ≡ verb.Fault x → x < 2 ^ 16

-- ---- all paths of a state

abbrev IsOne : Option (List PathAnswer) → Type 0
IsOne None = Unit {0}
IsOne (Some path) = AreFine path

abbrev Starts : Option OpenUnit → Type 0
Starts None = Unit {0}
Starts (Some unit) = IsOne unit.running

abbrev IsHeld : Option BackupCopy → Type 0
IsHeld None = Unit {0}
IsHeld (Some memory) = AreFine memory.start × IsOne memory.end

abbrev Flies : Option Message → Type 0
Flies None = Unit {0}
Flies (Some (Start n path)) = AreFine path
Flies (Some (Copy n path)) = AreFine path
Flies (Some (End path)) = AreFine path

-- those of terminals, of attempts that run, of memory and of messages
record Fine (terms : ℕ → Term) (units : ℕ → Option OpenUnit) (memory : ℕ → Option BackupCopy)
    (flight : ℕ → Option Message) : Type 0 where
  pub path : (t : ℕ) → AreFine (terms t).path
  pub start : (t : ℕ) → Starts (units t)
  pub held : (t : ℕ) → IsHeld (memory t)
  pub flies : (t : ℕ) → Flies (flight t)

abbrev FineIn : State → Type 0
FineIn s = Fine s.terms s.units s.memory s.flight

-- an answer more
pushed : (path : List PathAnswer) (a : PathAnswer) → AreFine path → IsFine a → AreFine (path ++ a ∷ [])
pushed path a fine one = all-last IsFine path a fine one

-- one of two
either : {A : Type 0} (P : A → Type 0) (b : Bool) (x y : A) → P x → P y → P (if b then x else y)
either P true x y one other = one
either P false x y one other = other

begun-fine : (r : ℕ) (v : Verb) (path : List PathAnswer) → r < 2 ^ 32 → AreFine path
    → AreFine (begun_path r v path)
begun-fine r verb.Begin path low fine = pushed path (Begun r) fine low
begun-fine r verb.Show path low fine = fine
begun-fine r (verb.Accept screen) path low fine = fine
begun-fine r (verb.Send class message) path low fine = fine
begun-fine r verb.End path low fine = fine
begun-fine r verb.Drop path low fine = fine
begun-fine r verb.Redo path low fine = fine
begun-fine r verb.Stop path low fine = fine
begun-fine r (verb.Fault x) path low fine = fine
begun-fine r (verb.File call) path low fine = fine
begun-fine r (verb.Reply reply) path low fine = fine

closed-fine : (v : Verb) (path : List PathAnswer) → AreFine path
    → AreFine (path_with (closing_answer v) path)
closed-fine verb.End path fine = pushed path Ended fine tt
closed-fine verb.Drop path fine = pushed path Dropped fine tt
closed-fine verb.Begin path fine = fine
closed-fine verb.Show path fine = fine
closed-fine (verb.Accept screen) path fine = fine
closed-fine (verb.Send class message) path fine = fine
closed-fine verb.Redo path fine = fine
closed-fine verb.Stop path fine = fine
closed-fine (verb.Fault x) path fine = fine
closed-fine (verb.File call) path fine = fine
closed-fine (verb.Reply reply) path fine = fine

copied-fine : (o : Option (List PathAnswer)) (path : List PathAnswer) → IsOne o → AreFine path
    → AreFine (unwrap_or o path)
copied-fine None path one fine = fine
copied-fine (Some start) path one fine = one

attempt-fine : (o : Option OpenUnit) → Starts o → IsOne (attempt_of o)
attempt-fine None starts = tt
attempt-fine (Some unit) starts = starts

began-fine : (n birth : ℕ) (path : List PathAnswer) (o : Option OpenUnit) → AreFine path
    → Starts (Some (unit_with_attempt n birth path o))
began-fine n birth path None fine = fine
began-fine n birth path (Some unit) fine = fine

rested-fine : (kind : Cause) (o : Option OpenUnit) → Starts (with_restart kind o)
rested-fine kind None = tt
rested-fine kind (Some unit) = tt

restarted-fine : (o : Option (List PathAnswer)) (term : Term) → IsOne o → AreFine term.path
    → AreFine (with_start_path o term).path
restarted-fine None term one fine = fine
restarted-fine (Some start) term one fine = one

applied-fine : (flight : Option Message) (memory : Option BackupCopy) → Flies flight → IsHeld memory
    → IsHeld (with_message flight memory)
applied-fine None memory flies held = held
applied-fine (Some (Start n path)) memory flies held = (flies, tt)
applied-fine (Some (Copy n path)) memory flies held = (flies, tt)
applied-fine (Some (End path)) None flies held = tt
applied-fine (Some (End path)) (Some memory) flies held = (held.0, flies)

resumed-fine : (p : ℕ) (memory : Option BackupCopy) (unit : Option OpenUnit) (last : LastEnded)
    (term : Term) → IsHeld memory → AreFine term.path
    → AreFine (resume_terminal p memory unit last term).path
resumed-fine p None unit last term held fine = fine
resumed-fine p (Some memory) unit last term held fine =
    either AreFine (last.number == memory.unit) _ memory.start
    (copied-fine memory.end memory.start held.1 held.0) held.0

module _ (sys : Behaviour) (s : State) (f : FineIn s) where
  -- one terminal has another path, unit, memory or message
  at-term : (own : ℕ) (term : Term) → AreFine term.path → (t : ℕ)
      → AreFine (upd s.terms own term t).path
  at-term own term fine t = upd_elim s.terms own term t (λ x. AreFine x.path) (λ _. fine)
      (λ _. f.path t)

  gets : (own : ℕ) (a : PathAnswer) → IsFine a → (t : ℕ)
      → AreFine (upd s.terms own (record (s.terms own) { path = path_of s own ++ a ∷ [] }) t).path
  gets own a one = at-term own _ (pushed (path_of s own) a (f.path own) one)

  at-unit : (own : ℕ) (unit : Option OpenUnit) → Starts unit → (t : ℕ) → Starts (upd s.units own unit t)
  at-unit own unit starts t = upd_elim s.units own unit t Starts (λ _. starts) (λ _. f.start t)

  at-memory : (own : ℕ) (memory : Option BackupCopy) → IsHeld memory → (t : ℕ)
      → IsHeld (upd s.memory own memory t)
  at-memory own memory held t = upd_elim s.memory own memory t IsHeld (λ _. held) (λ _. f.held t)

  at-flight : (own : ℕ) (flight : Option Message) → Flies flight → (t : ℕ)
      → Flies (upd s.flight own flight t)
  at-flight own flight flies t = upd_elim s.flight own flight t Flies (λ _. flies) (λ _. f.flies t)

  -- some terminals have none
  no-path : (test : ℕ → Bool) (t : ℕ) → AreFine
      (if test t then record (s.terms t) { path = []; pending = None } else s.terms t).path
  no-path test t = either (λ x. AreFine x.path) (test t)
      (record (s.terms t) { path = []; pending = None }) (s.terms t) tt (f.path t)

  no-unit : (test : ℕ → Bool) (t : ℕ) → Starts (if test t then None else s.units t)
  no-unit test t = either Starts (test t) None (s.units t) tt (f.start t)

  no-memory : (test : ℕ → Bool) (t : ℕ) → IsHeld (if test t then None else s.memory t)
  no-memory test t = either IsHeld (test t) None (s.memory t) tt (f.held t)

  no-flight : (test : ℕ → Bool) (t : ℕ) → Flies (if test t then None else s.flight t)
  no-flight test t = either Flies (test t) None (s.flight t) tt (f.flies t)

  answered : (own : ℕ) (a : PathAnswer) → IsFine a
      → Fine (upd s.terms own (record (s.terms own) { path = path_of s own ++ a ∷ [] }))
      s.units s.memory s.flight
  answered own a one = record { path = gets own a one; start = f.start; held = f.held; flies = f.flies }

  -- with the end of the unit
  closed : (own : ℕ) (a : PathAnswer) → IsFine a
      → Fine (upd s.terms own (record (s.terms own) { path = path_of s own ++ a ∷ [] }))
      (upd s.units own None) s.memory s.flight
  closed own a one = record {
    path = gets own a one;
    start = at-unit own None tt;
    held = f.held;
    flies = f.flies;
  }

  sends : (own : ℕ) (message : Message) → Flies (Some message)
      → Fine s.terms s.units s.memory (upd s.flight own (Some message))
  sends own message flies = record {
    path = f.path;
    start = f.start;
    held = f.held;
    flies =
        at-flight own (Some message) flies;
  }

  taken : (p t : ℕ)
      → AreFine (if is_live_of sys p s t then resume_terminal p (s.memory t) (s.units t) (s.ended t)
      (s.terms t) else s.terms t).path
  taken p t = either (λ x. AreFine x.path) (is_live_of sys p s t) _ (s.terms t)
      (resumed-fine p (s.memory t) (s.units t) (s.ended t) (s.terms t) (f.held t) (f.path t))
      (f.path t)

  keeps : (entry : Event) → step.Fits sys s entry → ((t : ℕ) → restarts_of (s.units t) < 2 ^ 32)
      → ServesSmall sys → FineIn (effect sys s entry)
  keeps (event.Show own phase attempt k) l few small = answered own Shown tt
  keeps (event.Key own k) l few small = answered own (Entry k) tt
  keeps (event.CheckStart own) l few small = sends own
      (Start (unit_number (path_of s own)) (path_of s own)) (f.path own)
  keeps (event.CheckEnd own) l few small = sends own (End (closed_path sys s own))
      (closed-fine (next_verb sys s own) (path_of s own) (f.path own))
  keeps (event.CheckCopy own) l few small =
      sends own (Copy (unit_number (copied_path s own)) (copied_path s own))
      (copied-fine (attempt_of (s.units own)) (path_of s own)
      (attempt-fine (s.units own) (f.start own)) (f.path own))
  keeps (event.Applied own) l few small = record {
    path = f.path;
    start = f.start;
    held = at-memory own _ (applied-fine (s.flight own) (s.memory own) (f.flies own) (f.held own));
    flies = at-flight own None tt;
  }
  keeps (event.Begin own n r) l few small = record {
    path = at-term own _ (begun-fine r (next_verb sys s own) (path_of s own)
        (subst (λ k. k < 2 ^ 32) (sym l.restarts) (few own)) (f.path own));
    start = at-unit own _ (began-fine n s.births (path_of s own) (s.units own) (f.path own));
    held = f.held;
    flies = f.flies;
  }
  keeps (event.Send own n c) l few small = f
  keeps (event.Take c i own) l few small = f
  keeps (event.File c i op mode file status) l few small =
      file-cases sys s c i FineIn f (λ job call works asks. f)
  keeps (event.Reply c i own fault) l few small =
      reply-cases sys s c i own FineIn fault l
      (λ reply none asks outside. closed own (Replied reply) tt)
      (λ reply none asks inside. answered own (Replied reply) tt)
      (λ x some asks. answered own (Failed x) (small c l.job.request.message l.job.done x asks))
  keeps (event.Again own n) l few small = answered own _ tt
  keeps (event.Commit own n) l few small = closed own Ended tt
  keeps (event.Back own n) l few small = closed own Dropped tt
  keeps (event.Restart own n kind) l few small = record {
    path = at-term own _ (restarted-fine (attempt_of (s.units own)) (s.terms own)
        (attempt-fine (s.units own) (f.start own)) (f.path own));
    start = at-unit own _ (rested-fine kind (s.units own));
    held = f.held;
    flies = f.flies;
  }
  keeps (event.FailTcp p primary k) l few small =
      fail-cases sys s FineIn p f
      (λ paired. record {
        path = no-path (is_of_pair sys p);
        start = f.start;
        held = f.held;
        flies =
            no-flight (is_of_pair sys p);
      })
      (λ which breaks. record {
        path = no-path (is_of_pair sys p);
        start =
            no-unit (is_of_pair sys p);
        held = no-memory (is_of_pair sys p);
        flies =
            no-flight (is_of_pair sys p);
      })
      (λ has. record {
        path = f.path;
        start = f.start;
        held = no-memory (is_of_pair sys p);
        flies =
            no-flight (is_of_pair sys p);
      }) primary
  keeps (event.FailServer c i k) l few small =
      process-cases sys s FineIn c i k f
      (λ job works. record {
        path = at-term job.request.terminal _ (f.path job.request.terminal);
        start = f.start;
        held = f.held;
        flies = f.flies;
      })
  keeps (event.Takeover p) l few small = record {
    path = taken p;
    start = f.start;
    held =
        no-memory (is_of_pair sys p);
    flies = f.flies;
  }
  keeps (event.Raise p) l few small = record {
    path = f.path;
    start = f.start;
    held =
        no-memory (is_of_pair sys p);
    flies = f.flies;
  }
  keeps (event.End own e) l few small =
      end-any sys s FineIn own e
      (record {
        path = at-term own _ (f.path own);
        start = f.start;
        held = at-memory own None tt;
        flies = at-flight own None tt;
      })
      (record {
        path = at-term own _ (f.path own);
        start = no-unit (only own);
        held =
            at-memory own None tt;
        flies = at-flight own None tt;
      })

-- ---- in every run

-- a terminal of a valid system restarts its units less often than log lines can tell
max-small : (script : List FailLine) (system : System) → IsValid system → (t : ℕ)
    → (behaviour script system).max_restarts t ≤ most_restarts
max-small script system valid t = by (slice_get system.terminals t) refl
  where
    by : (o : Option TermInfo) → slice_get system.terminals t ≡ o
        → number_by (λ (terminal : TermInfo). terminal.max_restarts) o ≤ most_restarts
    by None is = omega arith
    by (Some terminal) is =
        (of-all (IsTerminal system) system.terminals valid.terminals t terminal is).restarts

pub restarts-small : (script : List FailLine) (system : System) → IsValid system
    → IsBehaviour (behaviour script system) → (log : List Event) → IsRun (behaviour script system) log
    → (t : ℕ) → restarts_of ((after (behaviour script system) log).units t) < 2 ^ 32
restarts-small script system valid b log run t = by ((after (behaviour script system) log).units t) refl
  where
    by : (o : Option OpenUnit) → (after (behaviour script system) log).units t ≡ o
        → restarts_of o < 2 ^ 32
    by None is = omega arith
    by (Some unit) is =
        let low = few-restarts (behaviour script system) b log run t unit is in
        let high = max-small script system valid t in
        omega (arith, low, high)

pub paths-fine : (script : List FailLine) (system : System) → IsValid system
    → IsBehaviour (behaviour script system) → (log : List Event) → IsRun (behaviour script system) log
    → (t : ℕ) → AreFine (path_of (after (behaviour script system) log) t)
paths-fine script system valid b log run t =
    (runs.holds-behind (behaviour script system) FineIn
    (λ log run entry legal fine.
    keeps (behaviour script system) (after (behaviour script system) log) fine entry legal.fits
    (restarts-small script system valid b log run)
    (λ c message done x is. served-small system (slice_get system.classes c) message done x is))
    (record { path = λ t. tt; start = λ t. tt; held = λ t. tt; flies = λ t. tt }) log run).path t
