-- In every run each running attempt is alone on the committed records.
use Rattle.std.proofs.Common.{◌≡◌, ℕ, suc, ◌+◌, List, [], ◌∷◌, ◌++◌, true, false, Some, None, refl, ap, sym, subst, ◌∙◌, arith}
use Rattle.std.proofs.lemmas.Bool.{cond-true, false≢true}
use Rattle.pw_laws.proofs.alone.AloneCommits.{commit-files, reply-files}
use Rattle.pw_laws.proofs.alone.AloneEntries.{AllAlone}
use Rattle.pw_laws.proofs.alone.AloneFails.{alone-again, alone-back, alone-commit, alone-end, alone-fail-server, alone-fail-tcp, alone-restart, alone-takeover, no-unit}
use Rattle.pw_laws.proofs.alone.AloneServers.{alone-file, alone-reply}
use Rattle.pw_laws.proofs.alone.AloneSteps.{alone-begin, alone-key, alone-plain, alone-send, alone-show, alone-take, settled-was}
use Rattle.pw_laws.specs.attempts.Answers.{CommitsAlone, answers_after, answers_from, has_paths}
use Rattle.pw_event.specs.declared.event.Event.{Event}
use Rattle.pw_event.specs.declared.event.Event.TheVariants.{Show, Key, CheckStart, CheckEnd, CheckCopy, Applied, Begin, Send, Take, File, Reply, Again, Commit, Back, Restart, FailTcp, FailServer, Takeover, Raise, End}
use Rattle.pw_laws.proofs.Holding.{LocksOk, keeps-locks, locks-ok}
use Rattle.pw_laws.proofs.records.Committed.{records-at-start, records-ok}
use Rattle.pw_laws.proofs.records.Entries.{stays}
use Rattle.pw_laws.proofs.records.RecordsOk.{RecordsOk}
use Rattle.pw_onecopy.proofs.Update.{upd_elim}
use Rattle.pw_onecopy.specs.Attempt.{IsAttempt, attempt}
use Rattle.pw_onecopy.specs.Behaviour.{Behaviour}
use Rattle.pw_onecopy.specs.IsBehaviour.{IsBehaviour}
use Rattle.pw_onecopy.specs.Path.{PathAnswer, is_outside, unit_number}
use Rattle.pw_onecopy.specs.Update.{upd}
use Rattle.pw_paired.specs.Raising.{is_takeover, with_message}
use Rattle.pw_paired.specs.Serial.{answers_behind, reading_starts}
use Rattle.pw_paired.specs.Server.{free_process, reply_at}
use Rattle.pw_paired.specs.State.{Alone, Down, Gone, PairMode, OpenUnit, Paired, Raising, State, starting}
use Rattle.pw_paired.specs.Step.{Fits, IsRun, IsRunFrom, after, after_from, effect}
use Rattle.pw_paired.specs.Terminal.{path_of}
use Rattle.pw_paired.specs.Units.{commit_unit, committed_files}
use Rattle.pw_laws.proofs.RunSteps.{IsRunFrom-split, after_from-append}
use Rattle.pw_laws.proofs.kept.Failing.{out-job}
use Rattle.pw_laws.proofs.kept.Kept.{Inv}
use Rattle.pw_laws.proofs.kept.Runs.{keeps, kept-at-start, kept-from}
use Rattle.pw_laws.proofs.terms.KeepsChecks.{can_path, path_ok-is, within}
use Rattle.pw_laws.proofs.terms.TermOk.{IsWorking}

module _ (sys : Behaviour) (b : IsBehaviour sys) (s : State) (i : Inv sys s) (ok : RecordsOk sys s.files s.before s.locks) (lk : LocksOk s.units s.locks) (answers : ℕ → ℕ) (all : AllAlone sys b s answers) where
  -- each entry
  keeps-alone : (entry : Event) → Fits sys s entry → AllAlone sys b (effect sys s entry) (answers_behind sys s entry answers)
  keeps-alone (Show t phase attempt_no k) l = alone-show sys b s i ok lk answers all t phase attempt_no k l
  keeps-alone (Key t k) l = alone-key sys b s i ok lk answers all t k l
  keeps-alone (CheckStart t) l = alone-plain sys b s i ok lk answers all (effect sys s (CheckStart t)) refl refl refl refl refl refl (λ j works. works)
  keeps-alone (CheckEnd t) l = alone-plain sys b s i ok lk answers all (effect sys s (CheckEnd t)) refl refl refl refl refl refl (λ j works. works)
  keeps-alone (CheckCopy t) l = alone-plain sys b s i ok lk answers all (effect sys s (CheckCopy t)) refl refl refl refl refl refl (λ j works. works)
  keeps-alone (Applied t) l = alone-plain sys b s i ok lk answers all (effect sys s (Applied t)) refl refl refl refl refl refl
      (settled-was sys (record s { memory = upd s.memory t (with_message (s.flight t) (s.memory t)); flight = upd s.flight t None }) (sys.pair_of t))
  keeps-alone (Begin t n r) l = alone-begin sys b s i ok lk answers all t n r l
  keeps-alone (Send t n c) l = alone-send sys b s i ok lk answers all t n c l
  keeps-alone (Take c p t) l = alone-take sys b s i ok lk answers all c p t l
  keeps-alone (File c p op mode f status) l = alone-file sys b s i ok lk answers all c p op mode f status l
  keeps-alone (Reply c p t fault) l = alone-reply sys b s i ok lk answers all c p t fault l
  keeps-alone (Again t n) l = alone-again sys b s i ok lk answers all t n l
  keeps-alone (Commit t n) l = alone-commit sys b s i ok lk answers all t n l
  keeps-alone (Back t n) l = alone-back sys b s i ok lk answers all t n l
  keeps-alone (Restart t n kind) l = alone-restart sys b s i ok lk answers all t n kind l
  keeps-alone (FailTcp p primary k) l = alone-fail-tcp sys b s i ok lk answers all p primary k l
  keeps-alone (FailServer c p k) l = alone-fail-server sys b s i ok lk answers all c p k
  keeps-alone (Takeover p) l = alone-takeover sys b s i ok lk answers all p l
  keeps-alone (Raise p) l = alone-plain sys b s i ok lk answers all (effect sys s (Raise p)) refl refl refl refl refl refl
      (λ j. upd_elim s.modes p Raising (sys.pair_of j) (λ (m : PairMode). IsWorking m → IsWorking (s.modes (sys.pair_of j)))
      (λ same _. subst IsWorking (sym (ap s.modes same)) (rw l.alone tt)) (λ _ works. works))
  keeps-alone (End t e) l = alone-end sys b s i ok lk answers all t e l

alone-from : (sys : Behaviour) (b : IsBehaviour sys) (s : State) → Inv sys s → RecordsOk sys s.files s.before s.locks → LocksOk s.units s.locks → (answers : ℕ → ℕ) → AllAlone sys b s answers
    → (log : List Event) → IsRunFrom sys s log → AllAlone sys b (after_from sys s log) (answers_from sys s answers log)
alone-from sys b s i ok lk answers all [] run = all
alone-from sys b s i ok lk answers all (entry ∷ log) run =
    alone-from sys b (effect sys s entry) (keeps sys b s i entry run.0) (stays sys b s i ok entry run.0.fits).ok (keeps-locks sys b s i lk entry run.0.fits)
    (answers_behind sys s entry answers) (keeps-alone sys b s i ok lk answers all entry run.0.fits) log run.1

-- in every run all running attempts are alone
pub all-alone : (sys : Behaviour) (b : IsBehaviour sys) (log : List Event) → IsRun sys log → AllAlone sys b (after sys log) (answers_after sys log)
all-alone sys b log run =
    alone-from sys b (starting sys) (kept-at-start sys) (records-at-start sys b) (record { held = tt; apart = tt }) reading_starts.answers
    (λ t unit q is runs. absurd (no-unit is)) log run

-- a running attempt is one on the committed records
pub attempt-alone : (sys : Behaviour) → IsBehaviour sys → (log : List Event) → IsRun sys log → (t : ℕ) (unit : OpenUnit) (start : List PathAnswer)
    → (after sys log).units t ≡ Some unit → unit.running ≡ Some start
    → IsAttempt sys t start (committed_files sys (after sys log)) unit.restarts (answers_after sys log t)
attempt-alone sys b log run t unit start is runs = (all-alone sys b log run t unit start is runs).alone.is_attempt

working : (mode : PairMode) → has_paths mode ≡ true → IsWorking mode
working Alone works = tt
working Raising works = tt
working Paired works = tt
working Down works = false≢true works
working Gone works = false≢true works

-- and the terminal's path is its path
pub path-alone : (sys : Behaviour) → IsBehaviour sys → (log : List Event) → IsRun sys log → (t : ℕ) (unit : OpenUnit) (start : List PathAnswer)
    → (after sys log).units t ≡ Some unit → unit.running ≡ Some start
    → has_paths ((after sys log).modes (sys.pair_of t)) ≡ true → is_takeover ((after sys log).terms t).pending ≡ false
    → path_of (after sys log) t ≡ (attempt sys t start (committed_files sys (after sys log)) unit.restarts (answers_after sys log t)).path
path-alone sys b log run t unit start is runs works untaken =
    (all-alone sys b log run t unit start is runs).alone.path_is (working ((after sys log).modes (sys.pair_of t)) works) untaken

module _ (sys : Behaviour) (b : IsBehaviour sys) where
  -- the state behind one entry more
  one-entry : (log : List Event) (entry : Event) (f : ℕ) → committed_files sys (after sys (log ++ entry ∷ [])) f ≡ committed_files sys (effect sys (after sys log) entry) f
  one-entry log entry f = ap (λ (s : State). committed_files sys s f) (after_from-append sys (starting sys) log (entry ∷ []))

  -- behind a COMMIT the committed records are the files of the attempt alone
  pub commits-alone : (log : List Event) (t n : ℕ) → IsRun sys (log ++ Commit t n ∷ []) → CommitsAlone sys (after sys log) (after sys (log ++ Commit t n ∷ [])) t (answers_after sys log t)
  commits-alone log t n run =
      let parts = IsRunFrom-split sys (starting sys) log (Commit t n ∷ []) run in
      let s : State = after sys log in
      let i = kept-from sys b (starting sys) (kept-at-start sys) log parts.0 in
      let l = parts.1.0.fits in
      let path = can_path sys b s i.terms t l.can in
      let who = within (s.units t) (b.ends t (path_of s t) (path_ok-is _ (s.units t) path) l.asks) path in
      record {
        unit = who.open_unit;
        is_open = who.is_open;
        start = who.start;
        runs = who.runs;
        files = λ f.
            one-entry log (Commit t n) f
            ∙ commit-files sys b s (records-ok sys b log parts.0) i (locks-ok sys b log parts.0) (answers_after sys log) (all-alone sys b log parts.0) t n l who.open_unit who.start who.is_open who.runs f;
      }

  -- the same for a unit that is one SEND
  pub send-commits-alone : (log : List Event) (c p t : ℕ) → IsRun sys (log ++ Reply c p t None ∷ []) → is_outside (path_of (after sys log) t) ≡ true
      → CommitsAlone sys (after sys log) (after sys (log ++ Reply c p t None ∷ [])) t (answers_after sys log t + 1)
  send-commits-alone log c p t run outside =
      let parts = IsRunFrom-split sys (starting sys) log (Reply c p t None ∷ []) run in
      let s : State = after sys log in
      let i = kept-from sys b (starting sys) (kept-at-start sys) log parts.0 in
      let l = parts.1.0.fits in
      let out = out-job sys b s i c p l.job l.at_work in
      let is = ap s.units (sym l.whose) ∙ out.is_open in
      let reply : List ℕ = reply_at sys c ((s.classes c).busy p) in
      record {
        unit = out.unit;
        is_open = is;
        start = out.start;
        runs = out.runs;
        files = λ f. one-entry log (Reply c p t None) f
            ∙ (ap (λ (x : State). committed_files sys x f) (cond-true (is_outside (path_of s t)) (commit_unit t (unit_number (path_of s t)) (Some reply) (free_process c p s)) (free_process c p s) outside)
            ∙ (reply-files sys b s (records-ok sys b log parts.0) i (locks-ok sys b log parts.0) (answers_after sys log) (all-alone sys b log parts.0) c p t l out.unit out.start is out.runs f
            ∙ ap (λ (j : ℕ). (attempt sys t out.start (committed_files sys s) out.unit.restarts j).files f) (let next : suc (answers_after sys log t) ≡ answers_after sys log t + 1 = omega arith in next)));
      }
