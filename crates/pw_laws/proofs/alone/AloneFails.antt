-- Each entry keeps that running attempts are alone on the committed records: servers, ends of units, and failures.
use Rattle.std.proofs.Common.{◌≡◌, ℕ, ◌+◌, ⊎_elim, Bool, true, false, ◌==◌, is_some, is_none, List, Option, Some, None, refl, ap, sym, subst, ◌∙◌, arith}
use Rattle.std.proofs.lemmas.Bool.{cases_eq, true≢false, eq-eqb, ne_eqb, cond-true, cond-false, and_left, and_from}
use Rattle.pw_laws.proofs.alone.AloneEntries.{logged-alone, AllAlone, AloneAt, moved-committed, moved-plain, moved-withdrawn}
use Rattle.pw_laws.proofs.alone.AloneOwn.{own-cut}
use Rattle.pw_laws.proofs.alone.AloneSteps.{settled-was}
use Rattle.pw_event.specs.declared.event.Cause.{Cause}
use Rattle.pw_event.specs.declared.event.Cause.TheVariants as cause
use Rattle.pw_event.specs.declared.event.Ending.{Ending}
use Rattle.pw_event.specs.declared.event.Ending.TheVariants as ending
use Rattle.pw_event.specs.declared.event.Event.{Event}
use Rattle.pw_event.specs.declared.event.Event.TheVariants.{Again, Commit, Back, Restart, FailTcp, FailServer, Takeover, End}
use Rattle.pw_laws.proofs.Holding.{LocksOk}
use Rattle.pw_laws.proofs.records.Entries.{stays}
use Rattle.pw_laws.proofs.records.Images.{restored-file}
use Rattle.pw_laws.proofs.records.RecordsOk.{RecordsOk}
use Rattle.pw_laws.specs.locking.Seen.{AreFiles}
use Rattle.pw_onecopy.proofs.Update.{upd_elim, upd-same, upd-other}
use Rattle.pw_onecopy.specs.Behaviour.{Behaviour}
use Rattle.pw_onecopy.specs.IsBehaviour.{IsBehaviour}
use Rattle.pw_onecopy.specs.Path.{PathAnswer}
use Rattle.pw_paired.specs.End.{LegalEnd, end_terminal}
use Rattle.pw_paired.specs.Failure.{LegalRestart, LegalTakeover, lose_backup, lose_primary, lose_pair, is_live_of, is_of_pair, process_fails, with_restart, resume_terminal, runs_unit}
use Rattle.pw_paired.specs.Raising.{is_takeover, settle_mode}
use Rattle.pw_paired.specs.Serial.{one_answer_more}
use Rattle.pw_paired.specs.State.{Alone, Down, Gone, Job, BackupCopy, PairMode, OpenUnit, State, Term}
use Rattle.pw_paired.specs.Step.{Fits, effect}
use Rattle.pw_paired.specs.Terminal.{LegalAgain, LegalBack, LegalCommit}
use Rattle.pw_paired.specs.Units.{attempt_of, committed_files, leave_units, only}
use Rattle.pw_laws.proofs.ends.EndsOnce.{stopped-idle}
use Rattle.pw_laws.proofs.induction.Failed.{end-cases, fail-cases, process-cases}
use Rattle.pw_laws.proofs.kept.Failing.{out-job}
use Rattle.pw_laws.proofs.kept.Kept.{Inv}
use Rattle.pw_laws.proofs.requests.Requests.{Nowhere, placed_freed, placed_process_other, placed_cancelled, placed_cancelled_other}
use Rattle.pw_laws.proofs.terms.KeepsChecks.{can_path, running}
use Rattle.pw_laws.proofs.terms.KeepsPairs.{mode-of-pair, mode-of-other, of-pair, not-of-pair}
use Rattle.pw_laws.proofs.terms.TermOk.{IsWorking, messages-work}

-- nobody is Some and None
pub no-unit : {unit : OpenUnit} → (None ≡ Some unit) → ⊥
no-unit is = absurd (cc is)

module _ (sys : Behaviour) (b : IsBehaviour sys) (s : State) (i : Inv sys s) (ok : RecordsOk sys s.files s.before s.locks) (lk : LocksOk s.units s.locks) (answers : ℕ → ℕ) (all : AllAlone sys b s answers) where
  -- the committed records behind an entry are files
  files-behind : (entry : Event) → Fits sys s entry → AreFiles sys (committed_files sys (effect sys s entry))
  files-behind entry l =
      let st = stays sys b s i ok entry l in
      restored-file sys (effect sys s entry).before st.ok.images (effect sys s entry).files st.ok.are_files

  -- a unit of a terminal ends: the others' attempts stay
  pub alone-again : (t n : ℕ) → LegalAgain sys s t n → AllAlone sys b (effect sys s (Again t n)) (one_answer_more t answers)
  alone-again t n l j unit q is runs =
      ⊎_elim
      (λ same.
      let was = ap s.units (sym same) ∙ is in
      let path = running (s.units t) (ap attempt_of was ∙ runs) (can_path sys b s i.terms t l.can) in
      let number = path.number in
      let own = l.number in
      let last = l.last in
      absurd (omega (arith, number, own, last)))
      (λ differ. moved-plain sys b s (effect sys s (Again t n)) ok lk answers (one_answer_more t answers) j unit q
      (upd-other s.terms t _ j differ) (upd-other answers t (answers t + 1) j differ) (λ place placed. placed) (λ works. works) refl refl refl (all j unit q is runs))
      (cases_eq j t)

  -- behind COMMIT running attempts are alone
  pub alone-commit : (t n : ℕ) → LegalCommit sys s t n → AllAlone sys b (effect sys s (Commit t n)) (one_answer_more t answers)
  alone-commit t n l j unit q =
      upd_elim s.units t None j (λ (u : Option OpenUnit). u ≡ Some unit → unit.running ≡ Some q → AloneAt sys b (effect sys s (Commit t n)) (one_answer_more t answers) j unit q)
      (λ same is runs. absurd (no-unit is))
      (λ differ is runs. moved-committed sys b s (effect sys s (Commit t n)) ok lk answers (one_answer_more t answers) j unit q
      (upd-other s.terms t _ j differ) (upd-other answers t (answers t + 1) j differ) (λ place placed. placed) (λ works. works)
      (only t) (ne_eqb j t differ) refl refl refl (files-behind (Commit t n) l) (all j unit q is runs))

  -- behind BACK running attempts are alone
  pub alone-back : (t n : ℕ) → LegalBack sys s t n → AllAlone sys b (effect sys s (Back t n)) (one_answer_more t answers)
  alone-back t n l j unit q =
      upd_elim s.units t None j (λ (u : Option OpenUnit). u ≡ Some unit → unit.running ≡ Some q → AloneAt sys b (effect sys s (Back t n)) (one_answer_more t answers) j unit q)
      (λ same is runs. absurd (no-unit is))
      (λ differ is runs. moved-withdrawn sys b s (effect sys s (Back t n)) ok lk answers (one_answer_more t answers) j unit q
      (upd-other s.terms t _ j differ) (upd-other answers t (answers t + 1) j differ) (λ place placed. placed) (λ works. works)
      (only t) (ne_eqb j t differ) refl refl refl (files-behind (Back t n) l) (all j unit q is runs))

  resting-none : (kind : Cause) (was : Option OpenUnit) (unit : OpenUnit) (q : List PathAnswer) → with_restart kind was ≡ Some unit → unit.running ≡ Some q → ⊥
  resting-none kind None unit q is runs = no-unit is
  resting-none kind (Some u) unit q is runs = absurd (let none = ap attempt_of is in cc (none, runs))

  -- behind RESTART running attempts are alone
  pub alone-restart : (t n : ℕ) (kind : Cause) → LegalRestart sys s t n kind → AllAlone sys b (effect sys s (Restart t n kind)) answers
  alone-restart t n kind l j unit q =
      upd_elim s.units t (with_restart kind (s.units t)) j (λ (u : Option OpenUnit). u ≡ Some unit → unit.running ≡ Some q → AloneAt sys b (effect sys s (Restart t n kind)) answers j unit q)
      (λ same is runs. absurd (resting-none kind (s.units t) unit q is runs))
      (λ differ is runs. moved-withdrawn sys b s (effect sys s (Restart t n kind)) ok lk answers answers j unit q
      (upd-other s.terms t _ j differ) refl (λ place placed. placed_cancelled_other s.classes (only t) (ne_eqb j t differ) place placed) (λ works. works)
      (only t) (ne_eqb j t differ) refl refl refl (files-behind (Restart t n kind) l) (all j unit q is runs))

  -- a process fails
  process-alone : (c p k : ℕ) (job : Job) → (s.classes c).busy p ≡ Some job → AllAlone sys b (process_fails c p k (Some job) s) answers
  process-alone c p k job works j unit q is runs =
      ⊎_elim
      (λ same.
      let t : ℕ = job.request.terminal in
      let at = all t unit q (ap s.units (sym same) ∙ is) runs in
      let out = out-job sys b s i c p job works in
      subst (λ (x : ℕ). AloneAt sys b (process_fails c p k (Some job) s) answers x unit q) (sym same)
      (record {
        going = ap (λ (x : Term). x.ending) (upd-same s.terms t _ t refl) ∙ at.going;
        start = at.start;
        place = Nowhere;
        placed = placed_freed s.classes c p job works refl at.place at.placed;
        alone = own-cut sys b t q unit.restarts at.start (committed_files sys s) s.files s.files (answers t) s.locks s.before at.place Nowhere (s.terms t) ((process_fails c p k (Some job) s).terms t) (s.modes (sys.pair_of t)) (s.modes (sys.pair_of t))
            (λ working _. (working, ap is_takeover out.calm, ap (λ (x : Term). x.path) (upd-same s.terms t _ t refl)))
            (λ _ calm. absurd (let now = ap (λ (x : Term). x.pending) (upd-same s.terms t (record (s.terms t) { pending = Some (cause.Server k) }) t refl) in cc (now, calm)))
            at.alone;
      }))
      (λ differ. moved-plain sys b s (process_fails c p k (Some job) s) ok lk answers answers j unit q
      (upd-other s.terms job.request.terminal _ j differ) refl
      (λ place placed. placed_process_other s.classes c p job None works (λ mine. differ (sym mine)) tt place placed) (λ w. w) refl refl refl (all j unit q is runs))
      (cases_eq j job.request.terminal)

  -- behind FAIL SERVER running attempts are alone
  pub alone-fail-server : (c p k : ℕ) → AllAlone sys b (effect sys s (FailServer c p k)) answers
  alone-fail-server c p k =
      logged-alone sys b _ answers _ (process-cases sys s (λ x. AllAlone sys b x answers) c p k all (process-alone c p k))

  -- a pair loses its primary beside an up-to-date backup
  down-alone : (p : ℕ) → AllAlone sys b (lose_primary sys p s) answers
  down-alone p t unit q is runs =
      ⊎_elim
      (λ of.
      let at = all t unit q is runs in
      let mode : (lose_primary sys p s).modes (sys.pair_of t) ≡ Down = mode-of-pair sys s p t Down of in
      record {
        going = ap (λ (x : Term). x.ending) (cond-true (is_of_pair sys p t) _ (s.terms t) (eq-eqb (sys.pair_of t) p of)) ∙ at.going;
        start = at.start;
        place = Nowhere;
        placed = placed_cancelled s.classes (is_of_pair sys p) (eq-eqb (sys.pair_of t) p of);
        alone = own-cut sys b t q unit.restarts at.start (committed_files sys s) s.files s.files (answers t) s.locks s.before at.place Nowhere (s.terms t) ((lose_primary sys p s).terms t) (s.modes (sys.pair_of t)) ((lose_primary sys p s).modes (sys.pair_of t))
            (λ working _. absurd (subst IsWorking mode working)) (λ working _. absurd (subst IsWorking mode working)) at.alone;
      })
      (λ differ.
      let spared : is_of_pair sys p t ≡ false = ne_eqb (sys.pair_of t) p differ in
      moved-plain sys b s (lose_primary sys p s) ok lk answers answers t unit q
      (cond-false (is_of_pair sys p t) _ (s.terms t) spared) refl (λ place placed. placed_cancelled_other s.classes (is_of_pair sys p) spared place placed)
      (λ works. subst IsWorking (mode-of-other sys s p t Down differ) works) refl refl refl (all t unit q is runs))
      (cases_eq (sys.pair_of t) p)

  -- a pair is lost
  gone-alone : (p : ℕ) → AreFiles sys (committed_files sys (lose_pair sys p s)) → AllAlone sys b (lose_pair sys p s) answers
  gone-alone p are t unit q is runs =
      ⊎_elim
      (λ of. absurd (no-unit (sym (of-pair sys p t None (s.units t) of) ∙ is)))
      (λ differ.
      let spared : is_of_pair sys p t ≡ false = ne_eqb (sys.pair_of t) p differ in
      moved-withdrawn sys b s (lose_pair sys p s) ok lk answers answers t unit q
      (cond-false (is_of_pair sys p t) _ (s.terms t) spared) refl (λ place placed. placed_cancelled_other s.classes (is_of_pair sys p) spared place placed)
      (λ works. subst IsWorking (mode-of-other sys s p t Gone differ) works)
      (is_of_pair sys p) spared refl refl refl are (all t unit q (sym (not-of-pair sys p t None (s.units t) differ) ∙ is) runs))
      (cases_eq (sys.pair_of t) p)

  -- a pair loses its backup
  lone-alone : (p : ℕ) → IsWorking (s.modes p) → AllAlone sys b (lose_backup sys p s) answers
  lone-alone p working t unit q is runs =
      moved-plain sys b s (lose_backup sys p s) ok lk answers answers t unit q refl refl (λ place placed. placed)
      (upd_elim s.modes p Alone (sys.pair_of t) (λ (m : PairMode). IsWorking m → IsWorking (s.modes (sys.pair_of t)))
      (λ same _. subst (λ (x : ℕ). IsWorking (s.modes x)) (sym same) working) (λ _ works. works))
      refl refl refl (all t unit q is runs)

  -- behind FAIL TCP running attempts are alone
  pub alone-fail-tcp : (p : ℕ) (primary : Bool) (k : ℕ) → Fits sys s (FailTcp p primary k) → AllAlone sys b (effect sys s (FailTcp p primary k)) answers
  alone-fail-tcp p primary k l =
      logged-alone sys b _ answers _ (fail-cases sys s (λ x. AreFiles sys (committed_files sys x) → AllAlone sys b x answers) p
      (λ are. all) (λ paired are. down-alone p) (λ member breaks. gone-alone p) (λ has are. lone-alone p (messages-work (s.modes p) has))
      primary (files-behind (FailTcp p primary k) l))

  -- a terminal ends, and its open unit is left
  left-alone : (t : ℕ) (e : Ending) → AreFiles sys (committed_files sys (settle_mode sys (sys.pair_of t) (end_terminal t e (leave_units sys (only t) s))))
      → AllAlone sys b (settle_mode sys (sys.pair_of t) (end_terminal t e (leave_units sys (only t) s))) answers
  left-alone t e are j unit q is runs =
      ⊎_elim
      (λ same. absurd (no-unit (sym (cond-true (only t j) None (s.units j) (eq-eqb j t same)) ∙ is)))
      (λ differ.
      let spared = ne_eqb j t differ in
      moved-withdrawn sys b s (settle_mode sys (sys.pair_of t) (end_terminal t e (leave_units sys (only t) s))) ok lk answers answers j unit q
      (upd-other s.terms t _ j differ) refl (λ place placed. placed_cancelled_other s.classes (only t) spared place placed)
      (settled-was sys (end_terminal t e (leave_units sys (only t) s)) (sys.pair_of t) j)
      (only t) spared refl refl refl are (all j unit q (sym (cond-false (only t j) None (s.units j) spared) ∙ is) runs))
      (cases_eq j t)

  -- a terminal ends without a running attempt
  ended-alone : (t : ℕ) (e : Ending) → attempt_of (s.units t) ≡ None → AllAlone sys b (settle_mode sys (sys.pair_of t) (end_terminal t e s)) answers
  ended-alone t e idle j unit q is runs =
      ⊎_elim
      (λ same. absurd (let here = ap attempt_of (ap s.units (sym same) ∙ is) in cc (here, runs, idle)))
      (λ differ. moved-plain sys b s (settle_mode sys (sys.pair_of t) (end_terminal t e s)) ok lk answers answers j unit q
      (upd-other s.terms t _ j differ) refl (λ place placed. placed) (settled-was sys (end_terminal t e s) (sys.pair_of t) j) refl refl refl (all j unit q is runs))
      (cases_eq j t)

  -- behind END running attempts are alone
  pub alone-end : (t : ℕ) (e : Ending) → LegalEnd sys s t e → AllAlone sys b (effect sys s (End t e)) answers
  alone-end t e l =
      logged-alone sys b _ answers _ (end-cases sys s (λ x. AreFiles sys (committed_files sys x) → AllAlone sys b x answers) t e l
      (λ stopped are. ended-alone t ending.Stopped (stopped-idle sys b s i 0 0 (record { longest = λ _. 0; answers = answers }) t stopped))
      (λ lost are. ended-alone t ending.Lost (ap attempt_of ((i.terms t lost.live.known).lost lost.lost)))
      (λ leaves. left-alone t e) (files-behind (End t e) l))

  -- a backup takes over: a running attempt of the pair has TAKEOVER pending
  pub alone-takeover : (p : ℕ) → LegalTakeover s p → AllAlone sys b (effect sys s (Takeover p)) answers
  alone-takeover p l t unit q is runs =
      ⊎_elim
      (λ of.
      let at = all t unit q is runs in
      let term = i.terms t (i.known t unit is) in
      let lose_primary : s.modes (sys.pair_of t) ≡ Down = ap s.modes of ∙ l.down in
      let memory = term.has_memory at.going (rw lose_primary tt) in
      let number : memory.0.unit ≡ unit.number = term.memory_unit memory.0 unit memory.1 is in
      let live : is_live_of sys p s t ≡ true = and_from (is_of_pair sys p t) (is_none (s.terms t).ending) (eq-eqb (sys.pair_of t) p of) (ap is_none at.going) in
      let pends : runs_unit memory.0.unit (s.units t) ≡ true =
      ap (runs_unit memory.0.unit) is ∙ and_from (unit.number == memory.0.unit) (is_some unit.running) (eq-eqb unit.number memory.0.unit (sym number)) (ap is_some runs) in
      let resumes : (effect sys s (Takeover p)).terms t ≡ resume_terminal p (Some memory.0) (s.units t) (s.ended t) (s.terms t) =
      cond-true (is_live_of sys p s t) _ (s.terms t) live ∙ ap (λ (m : Option BackupCopy). resume_terminal p m (s.units t) (s.ended t) (s.terms t)) memory.1 in
      let pending : ((effect sys s (Takeover p)).terms t).pending ≡ Some (cause.Takeover p) =
      ap (λ (x : Term). x.pending) resumes ∙ cond-true (runs_unit memory.0.unit (s.units t)) (Some (cause.Takeover p)) (s.terms t).pending pends in
      record {
        going = ap (λ (x : Term). x.ending) resumes ∙ at.going;
        start = at.start;
        place = at.place;
        placed = at.placed;
        alone = own-cut sys b t q unit.restarts at.start (committed_files sys s) s.files s.files (answers t) s.locks s.before at.place at.place (s.terms t) ((effect sys s (Takeover p)).terms t) (s.modes (sys.pair_of t)) ((effect sys s (Takeover p)).modes (sys.pair_of t))
            (λ _ untaken. absurd (true≢false (sym (ap is_takeover pending) ∙ untaken)))
            (λ _ calm. absurd (cc (pending, calm)))
            at.alone;
      })
      (λ differ. moved-plain sys b s (effect sys s (Takeover p)) ok lk answers answers t unit q
      (cond-false (is_live_of sys p s t) _ (s.terms t) (and_left (is_of_pair sys p t) (is_none (s.terms t).ending) (ne_eqb (sys.pair_of t) p differ))) refl (λ place placed. placed)
      (λ works. subst IsWorking (mode-of-other sys s p t Alone differ) works) refl refl refl (all t unit q is runs))
      (cases_eq (sys.pair_of t) p)
