-- What RESTART, END, REPLY and FAIL SERVER keep.
use Rattle.std.proofs.Common.{◌≡◌, ℕ, ◌+◌, inl, inr, ⊎_elim, Bool, true, false, is_none, List, [], ◌∷◌, ◌++◌, Option, Some, None, if◌then◌else◌, refl, ap, sym, subst, ◌∙◌, arith}
use Rattle.std.proofs.lemmas.Bool.{cases_eq, eq-eqb, ne_eqb, cond-true, cond-false}
use Rattle.pw_code.specs.declared.verb.Verb.TheVariants as verb
use Rattle.pw_event.specs.declared.event.Cause.{Cause}
use Rattle.pw_event.specs.declared.event.Cause.TheVariants.{Server}
use Rattle.pw_event.specs.declared.event.Ending.{Ending}
use Rattle.pw_event.specs.declared.event.Ending.TheVariants as ending
use Rattle.pw_onecopy.proofs.Update.{upd_elim, upd-same, upd-other}
use Rattle.pw_onecopy.specs.Behaviour.{Behaviour}
use Rattle.pw_onecopy.specs.IsBehaviour.{IsBehaviour}
use Rattle.pw_onecopy.specs.Path.{PathAnswer, Failed, Replied, Standing, is_outside, unit_number}
use Rattle.pw_paired.specs.End.{do_end, end_terminal}
use Rattle.pw_paired.specs.Failure.{LegalRestart, awaited_after, with_start_path, do_restart, process_fails, with_restart}
use Rattle.pw_paired.specs.Raising.{is_takeover}
use Rattle.pw_paired.specs.Server.{do_reply, free_process, reply_at}
use Rattle.pw_paired.specs.State.{Job, LastEnded, BackupCopy, Message, PairMode, Start, End, Copy, OpenUnit, State, Term}
use Rattle.pw_paired.specs.Terminal.{IsLive, path_of}
use Rattle.pw_paired.specs.Units.{give_answer, attempt_of, commit_unit, last_after_leaving, leave_units, only}
use Rattle.pw_laws.proofs.Paths.{Failed-plain, plain-number, reply-outside, reply-inside, IsPath-push}
use Rattle.pw_laws.proofs.requests.Requests.{Sent}
use Rattle.pw_laws.proofs.terms.KeepsChecks.{running}
use Rattle.pw_laws.proofs.terms.KeepsPairs.{settles}
use Rattle.pw_laws.proofs.terms.KeepsUnits.{OkAt-changed, term-ends}
use Rattle.pw_laws.proofs.terms.TermOk.{UnitOk, FlightOk, IsWorking, RunningPath, PathOf, PathOk, TermOk, TermsOk, TermOk-same}

-- an attempt restarts
term-restarts : {sys : Behaviour} {t last : ℕ} {unit : Option OpenUnit} {memory : Option BackupCopy} {flight : Option Message} {term : Term} {mode : PairMode}
    (u after : OpenUnit) (start : List PathAnswer) → unit ≡ Some u → u.running ≡ Some start → after.number ≡ u.number → after.running ≡ None
    → TermOk sys t last unit memory flight term mode
    → TermOk sys t last (Some after) memory flight (record term { path = start; pending = None }) mode
term-restarts {sys = sys} {t = t} {last = last} {unit = unit} {memory = memory} {flight = flight} {term = term} u after start is_open runs same rests ok = record {
  unit_ok = λ x is. let one : after ≡ x = cc in subst (λ (y : OpenUnit). UnitOk sys t last y) one
      (record { number = same ∙ (ok.unit_ok u is_open).number; start = λ p runs_p. absurd (cc (rests, runs_p)) });
  memory_ok = ok.memory_ok;
  memory_unit = λ held x is is_x. let one : after ≡ x = cc in ok.memory_unit held u is is_open ∙ (sym same ∙ ap (λ (y : OpenUnit). y.number) one);
  flight_ok = λ message is. flies message (ok.flight_ok message is);
  quiet = ok.quiet;
  lost = λ lost. absurd (let none = ok.lost lost in cc (none, is_open));
  has_memory = ok.has_memory;
  calm = λ messages. refl;
  path_ok = λ live works untaken. subst (λ (r : Option (List PathAnswer)). PathOf sys t last r start) (sym rests) stands;
}
  where
    stands : PathOf sys t last None start
    stands =
        let own = (ok.unit_ok u is_open).start start runs in
        let number = own.1 in
        record { rest = own.0; low_is = omega (arith, number); high_is = omega (arith, number) }

    flies : (message : Message) → FlightOk sys t last unit memory term.path message → FlightOk sys t last (Some after) memory start message
    flies (Start n p) f = let idle : attempt_of unit ≡ None = f.1 in absurd (cc (idle, ap attempt_of is_open, runs))
    flies (Copy n p) f = (f.0, f.1, λ x is. let one : after ≡ x = cc in f.2 u is_open ∙ (sym same ∙ ap (λ (y : OpenUnit). y.number) one))
    flies (End p) f = f

-- a terminal ends
term-dies : {sys : Behaviour} {t last : ℕ} {unit : Option OpenUnit} {memory : Option BackupCopy} {flight : Option Message} {term : Term} {mode : PairMode}
    (ending : Ending) → TermOk sys t last unit memory flight term mode
    → TermOk sys t last unit None None (record term { pending = None; ending = Some ending }) mode
term-dies ending ok = record {
  unit_ok = ok.unit_ok;
  memory_ok = λ held is. absurd (cc is);
  memory_unit = λ held u is is_open. absurd (cc is);
  flight_ok = λ message is. absurd (cc is);
  quiet = λ none. refl;
  lost = ok.lost;
  has_memory = λ live works. absurd (cc live);
  calm = λ messages. refl;
  path_ok = λ live works untaken. absurd (cc live);
}

-- and its open unit, if any, is left
term-left : {sys : Behaviour} {t last other : ℕ} {unit : Option OpenUnit} {memory : Option BackupCopy} {flight : Option Message} {term : Term} {mode : PairMode}
    (ending : Ending) → TermOk sys t last unit memory flight term mode
    → TermOk sys t other None None None (record term { pending = None; ending = Some ending }) mode
term-left ending ok = record {
  unit_ok = λ u is. absurd (cc is);
  memory_ok = λ held is. absurd (cc is);
  memory_unit = λ held u is is_open. absurd (cc is);
  flight_ok = λ message is. absurd (cc is);
  quiet = λ none. refl;
  lost = λ lost. refl;
  has_memory = λ live works. absurd (cc live);
  calm = λ messages. refl;
  path_ok = λ live works untaken. absurd (cc live);
}

-- What holds where a request of a terminal is out: it is live, a member works, nothing is pending, an attempt of the request's
-- unit runs, and its program's next verb is the SEND.
pub record OutOk (sys : Behaviour) (s : State) (t : ℕ) (request : Sent) : Type 0 where
  pub live : IsLive sys s t
  pub working : IsWorking (s.modes (sys.pair_of t))
  pub calm : (s.terms t).pending ≡ None
  pub unit : OpenUnit
  pub is_open : s.units t ≡ Some unit
  pub number : request.request.unit ≡ unit.number
  pub start : List PathAnswer
  pub runs : unit.running ≡ Some start
  pub asks : sys.ask t (path_of s t) ≡ verb.Send request.class request.request.message

-- a cause of a failed process becomes pending
term-pending : {sys : Behaviour} {t last : ℕ} {unit : Option OpenUnit} {memory : Option BackupCopy} {flight : Option Message} {term : Term} {mode : PairMode}
    (k : ℕ) → term.pending ≡ None → TermOk sys t last unit memory flight term mode
    → TermOk sys t last unit memory flight (record term { pending = Some (Server k) }) mode
term-pending k calm ok = record {
  unit_ok = ok.unit_ok;
  memory_ok = ok.memory_ok;
  memory_unit = ok.memory_unit;
  flight_ok = ok.flight_ok;
  quiet = ok.quiet;
  lost = ok.lost;
  has_memory = ok.has_memory;
  calm = λ messages. refl;
  path_ok = λ live works untaken. ok.path_ok live works (ap is_takeover calm);
}

-- the path of a running attempt moves and stays that of a running attempt
term-runs : {sys : Behaviour} {t last : ℕ} {unit : Option OpenUnit} {memory : Option BackupCopy} {flight : Option Message} {term : Term} {mode : PairMode}
    (u : OpenUnit) (start path : List PathAnswer) → unit ≡ Some u → u.running ≡ Some start → RunningPath sys t last path
    → TermOk sys t last unit memory flight term mode
    → TermOk sys t last unit memory flight (record term { path = path }) mode
term-runs {sys = sys} {t = t} {last = last} {unit = unit} {memory = memory} {flight = flight} {term = term} u start path is_open runs here ok = record {
  unit_ok = ok.unit_ok;
  memory_ok = ok.memory_ok;
  memory_unit = ok.memory_unit;
  flight_ok = λ message is. flies message (ok.flight_ok message is);
  quiet = ok.quiet;
  lost = ok.lost;
  has_memory = ok.has_memory;
  calm = ok.calm;
  path_ok = λ live works untaken. subst (λ (x : Option OpenUnit). PathOk sys t last x path) (sym is_open) (subst (λ (r : Option (List PathAnswer)). PathOf sys t last r path) (sym runs) here);
}
  where
    flies : (message : Message) → FlightOk sys t last unit memory term.path message → FlightOk sys t last unit memory path message
    flies (Start n p) f = let idle : attempt_of unit ≡ None = f.1 in absurd (cc (idle, ap attempt_of is_open, runs))
    flies (Copy n p) f = f
    flies (End p) f = f

module _ (sys : Behaviour) (b : IsBehaviour sys) (s : State) (ok : TermsOk sys s) where
  -- RESTART keeps what holds of terminals
  pub keeps_restart : (t n : ℕ) (cause : Cause) → LegalRestart sys s t n cause → TermsOk sys (do_restart sys t cause s)
  keeps_restart t n cause l j known =
      let is_open = l.caused.is_open in
      let runs = ap attempt_of is_open ∙ l.caused.runs in
      ⊎_elim
      (λ same. TermOk-same refl (upd-same s.units t _ j same ∙ ap (with_restart cause) is_open) refl refl
      (upd-same s.terms t _ j same ∙ ap (λ (r : Option (List PathAnswer)). with_start_path r (s.terms t)) runs) refl
      (rw same (term-restarts l.unit (record l.unit { restarts = l.unit.restarts + 1; awaits = awaited_after cause l.unit.awaits; running = None }) l.caused.start is_open l.caused.runs refl refl (ok t (rw (← same) known)))))
      (λ differ. TermOk-same refl (upd-other s.units t _ j differ) refl refl (upd-other s.terms t _ j differ) refl (ok j known))
      (cases_eq j t)

  dies : (t : ℕ) (ending : Ending) → TermsOk sys (end_terminal t ending s)
  dies t ending j known =
      ⊎_elim
      (λ same. TermOk-same refl refl (upd-same s.memory t None j same) (upd-same s.flight t None j same) (upd-same s.terms t _ j same) refl
      (rw same (term-dies ending (ok t (rw (← same) known)))))
      (λ differ. TermOk-same refl refl (upd-other s.memory t None j differ) (upd-other s.flight t None j differ) (upd-other s.terms t _ j differ) refl (ok j known))
      (cases_eq j t)

  leaves : (t : ℕ) (ending : Ending) → TermsOk sys (end_terminal t ending (leave_units sys (only t) s))
  leaves t ending j known =
      ⊎_elim
      (λ same. TermOk-same refl (cond-true (only t j) None (s.units j) (eq-eqb j t same)) (upd-same s.memory t None j same) (upd-same s.flight t None j same) (upd-same s.terms t _ j same) refl
      (rw same (term-left ending (ok t (rw (← same) known)))))
      (λ differ. TermOk-same (ap (λ (x : LastEnded). x.number) (cond-false (only t j) (last_after_leaving (s.units j) (s.ended j)) (s.ended j) (ne_eqb j t differ)))
      (cond-false (only t j) None (s.units j) (ne_eqb j t differ)) (upd-other s.memory t None j differ) (upd-other s.flight t None j differ) (upd-other s.terms t _ j differ) refl (ok j known))
      (cases_eq j t)

  -- END keeps what holds of terminals
  pub keeps_end : (t : ℕ) (e : Ending) → TermsOk sys (do_end sys t e s)
  keeps_end t ending.Stopped = settles sys (end_terminal t ending.Stopped s) (sys.pair_of t) (dies t ending.Stopped)
  keeps_end t ending.NoEntries = settles sys (end_terminal t ending.NoEntries (leave_units sys (only t) s)) (sys.pair_of t) (leaves t ending.NoEntries)
  keeps_end t (ending.Fault x) = settles sys (end_terminal t (ending.Fault x) (leave_units sys (only t) s)) (sys.pair_of t) (leaves t (ending.Fault x))
  keeps_end t (ending.Suspended cause) = settles sys (end_terminal t (ending.Suspended cause) (leave_units sys (only t) s)) (sys.pair_of t) (leaves t (ending.Suspended cause))
  keeps_end t ending.Lost = settles sys (end_terminal t ending.Lost s) (sys.pair_of t) (dies t ending.Lost)

  -- where a request is out, the terminal's path is that of a running attempt
  pub out-path : (t : ℕ) (request : Sent) → OutOk sys s t request → RunningPath sys t (s.ended t).number (path_of s t)
  out-path t request out =
      running (s.units t) (ap attempt_of out.is_open ∙ out.runs)
      ((ok t out.live.known).path_ok out.live.going_on out.working (ap is_takeover out.calm))

  failed-at : (c i k : ℕ) (job : Job) → OutOk sys s job.request.terminal (record { class = c; request = job.request }) → TermsOk sys (process_fails c i k (Some job) s)
  failed-at c i k job out j known =
      upd_elim s.terms job.request.terminal _ j
      (λ (x : Term). TermOk sys j (s.ended j).number (s.units j) (s.memory j) (s.flight j) x (s.modes (sys.pair_of j)))
      (λ is. rw is (term-pending k out.calm (ok job.request.terminal out.live.known)))
      (λ _. ok j known)

  -- the failure of a process keeps what holds of terminals
  pub keeps_process_fails : (c i k : ℕ) (job : Option Job) → ((x : Job) → job ≡ Some x → OutOk sys s x.request.terminal (record { class = c; request = x.request })) → TermsOk sys (process_fails c i k job s)
  keeps_process_fails c i k None out = ok
  keeps_process_fails c i k (Some job) out = failed-at c i k job (out job refl)

  -- the path gets Replied: inside a transaction it goes on, and outside the unit that is one SEND ends
  replied-inside : (t : ℕ) (request : Sent) (reply : List ℕ) → OutOk sys s t request → is_outside (path_of s t) ≡ false
      → TermOk sys t (s.ended t).number (s.units t) (s.memory t) (s.flight t) (record (s.terms t) { path = path_of s t ++ Replied reply ∷ [] }) (s.modes (sys.pair_of t))
  replied-inside t request reply out inside =
      let here = out-path t request out in
      let stands = reply-inside reply (path_of s t) inside in
      term-runs out.unit out.start _ out.is_open out.runs
      (record {
        is_path = IsPath-push sys t (path_of s t) (Replied reply) here.is_path (rw out.asks tt);
        number = ap (λ (at : Standing). at.ended + 1) stands ∙ here.number;
        within = inl (ap (λ (at : Standing). is_none at.within) stands ∙ inside);
      })
      (ok t out.live.known)

  replied-outside : (t : ℕ) (request : Sent) (reply : List ℕ) → OutOk sys s t request → is_outside (path_of s t) ≡ true
      → TermOk sys t (unit_number (path_of s t)) None (s.memory t) (s.flight t) (record (s.terms t) { path = path_of s t ++ Replied reply ∷ [] }) (s.modes (sys.pair_of t))
  replied-outside t request reply out outside =
      let here = out-path t request out in
      let stands = reply-outside reply (path_of s t) outside in
      TermOk-same here.number refl refl refl refl refl
      (term-ends out.unit out.start _ out.is_open out.runs
      (record {
        is_path = IsPath-push sys t (path_of s t) (Replied reply) here.is_path (rw out.asks tt);
        outside = ap (λ (at : Standing). is_none at.within) stands;
      })
      (ap (λ (at : Standing). at.ended + 1) stands ∙ ap (λ (n : ℕ). n + 1) here.number)
      (ok t out.live.known))

  failed-with : (t x : ℕ) (request : Sent) → OutOk sys s t request
      → TermOk sys t (s.ended t).number (s.units t) (s.memory t) (s.flight t) (record (s.terms t) { path = path_of s t ++ Failed x ∷ [] }) (s.modes (sys.pair_of t))
  failed-with t x request out =
      let here = out-path t request out in
      term-runs out.unit out.start _ out.is_open out.runs
      (record {
        is_path = IsPath-push sys t (path_of s t) (Failed x) here.is_path (rw out.asks tt);
        number = plain-number (Failed x) (Failed-plain x) (path_of s t) ∙ here.number;
        within = inr (inr (x, b.fails t request.class x request.request.message (path_of s t) here.is_path out.asks));
      })
      (ok t out.live.known)

  -- a reply
  answers-ok : (c i t : ℕ) (request : Sent) (reply : List ℕ) (outside : Bool) → is_outside (path_of s t) ≡ outside → OutOk sys s t request
      → TermsOk sys (give_answer t (Replied reply) (if outside then commit_unit t (unit_number (path_of s t)) (Some reply) (free_process c i s) else free_process c i s))
  answers-ok c i t request reply true is out j known =
      OkAt-changed sys s j t (record { number = unit_number (path_of s t); reply = Some reply }) None _ (λ _. replied-outside t request reply out is) (ok j known)
  answers-ok c i t request reply false is out j known =
      upd_elim s.terms t _ j
      (λ (x : Term). TermOk sys j (s.ended j).number (s.units j) (s.memory j) (s.flight j) x (s.modes (sys.pair_of j)))
      (λ same. rw same (replied-inside t request reply out is))
      (λ _. ok j known)

  -- REPLY keeps what holds of terminals
  pub keeps_reply : (c i t : ℕ) (fault : Option ℕ) (request : Sent) → OutOk sys s t request → TermsOk sys (do_reply sys c i t fault s)
  keeps_reply c i t None request out = answers-ok c i t request (reply_at sys c ((s.classes c).busy i)) (is_outside (path_of s t)) refl out
  keeps_reply c i t (Some x) request out = λ j known.
      upd_elim s.terms t _ j
      (λ (y : Term). TermOk sys j (s.ended j).number (s.units j) (s.memory j) (s.flight j) y (s.modes (sys.pair_of j)))
      (λ same. rw same (failed-with t x request out))
      (λ _. ok j known)
