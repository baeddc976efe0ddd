-- Each kind of entry keeps what each state of a run keeps: FILE, REPLY, restarts, failures and ends.
use Rattle.std.proofs.Common.{◌≡◌, ◌≢◌, ℕ, ◌<◌, ⊎_elim, Bool, true, false, is_none, Option, Some, None, refl, ap, sym, subst, ◌∙◌}
use Rattle.std.proofs.lemmas.Bool.{cases_eq, eqb-false, ne_eqb, cond-false, and_left}
use Rattle.pw_event.specs.declared.event.Cause.{Cause}
use Rattle.pw_event.specs.declared.event.Ending.{Ending}
use Rattle.pw_event.specs.declared.event.Ending.TheVariants as ending
use Rattle.pw_onecopy.proofs.Update.{upd_elim, upd-other}
use Rattle.pw_onecopy.specs.Behaviour.{Behaviour}
use Rattle.pw_onecopy.specs.IsBehaviour.{IsBehaviour}
use Rattle.pw_onecopy.specs.Update.{upd}
use Rattle.pw_paired.specs.End.{LegalEnd, do_end, end_terminal}
use Rattle.pw_paired.specs.Failure.{LegalRestart, LegalTakeover, lose_backup, do_fail_server, do_fail_tcp, do_restart, do_takeover, lose_primary, lose_pair, is_live_of, is_of_pair}
use Rattle.pw_paired.specs.Raising.{LegalApplied, LegalRaise, do_applied, do_raise, lacks_one, settled_mode, with_message, settle_mode}
use Rattle.pw_paired.specs.Server.{LegalReply, answer_on, with_job_at, do_file, do_reply}
use Rattle.pw_paired.specs.State.{Term, Class, Job, PairMode, Alone, Raising, Paired, Down, Gone, OpenUnit, State}
use Rattle.pw_paired.specs.Units.{leave_units, only}
use Rattle.pw_laws.proofs.induction.Failed.{fail-cases, process-cases}
use Rattle.pw_laws.proofs.induction.Served.{file-cases, reply-any}
use Rattle.pw_laws.proofs.kept.Kept.{Inv, IsIn, OutOk-same, out-others, out-placed, out-cancelled, no-request}
use Rattle.pw_laws.proofs.kept.Steps.{known-gone, known-left}
use Rattle.pw_laws.proofs.requests.Requests.{Nowhere, RequestsOk, sent_of, place_of_job, requests_filed, requests_freed, requests_cancelled, without_places}
use Rattle.pw_laws.proofs.terms.KeepsEnds.{OutOk, keeps_restart, keeps_end, keeps_process_fails, keeps_reply}
use Rattle.pw_laws.proofs.terms.KeepsPairs.{keeps_applied, keeps_raise, keeps_fail_tcp, keeps_takeover, mode-of-other}
use Rattle.pw_laws.proofs.terms.TermOk.{IsWorking, TermsOk}

-- a pair that becomes up to date still works
raised-works : (mode : PairMode) (lacks : Bool) → IsWorking mode → IsWorking (settled_mode mode lacks)
raised-works Alone lacks works = tt
raised-works Raising true works = tt
raised-works Raising false works = tt
raised-works Paired lacks works = tt
raised-works Down lacks works = works
raised-works Gone lacks works = works

settled-works : (sys : Behaviour) (s : State) (p j : ℕ) → IsWorking (s.modes (sys.pair_of j)) → IsWorking ((settle_mode sys p s).modes (sys.pair_of j))
settled-works sys s p j works =
    upd_elim s.modes p _ (sys.pair_of j) IsWorking
    (λ same. raised-works (s.modes p) (lacks_one sys p s) (subst (λ (q : ℕ). IsWorking (s.modes q)) same works)) (λ _. works)

module _ (sys : Behaviour) (b : IsBehaviour sys) (s : State) (i : Inv sys s) where
  -- APPLIED keeps it all
  pub inv_applied : (t : ℕ) → LegalApplied sys s t → Inv sys (do_applied sys t s)
  inv_applied t l = record {
    terms = keeps_applied sys s i.terms t l;
    known = i.known;
    places = i.places;
    requests = i.requests;
    out = λ j request is. OutOk-same refl refl
        (settled-works sys (record s { memory = upd s.memory t (with_message (s.flight t) (s.memory t)); flight = upd s.flight t None }) (sys.pair_of t) j) (i.out j request is);
  }

  -- RAISE keeps it all
  pub inv_raise : (p : ℕ) → LegalRaise sys s p → Inv sys (do_raise sys p s)
  inv_raise p l = record {
    terms = keeps_raise sys s i.terms p l;
    known = i.known;
    places = i.places;
    requests = i.requests;
    out = λ j request is. OutOk-same refl refl (λ works. upd_elim s.modes p Raising (sys.pair_of j) IsWorking (λ _. tt) (λ _. works)) (i.out j request is);
  }

  -- an operation of a server
  pub inv_file : (c p : ℕ) → Inv sys (do_file sys c p s)
  inv_file c p =
      file-cases sys s c p (Inv sys) i
      (λ job call works asks.
      let place = place_of_job i.requests works refl in
      record {
        terms = i.terms;
        known = i.known;
        places = upd i.places job.request.terminal _;
        requests = requests_filed (answer_on sys s call) i.requests works refl;
        out = out-placed job.request.terminal i.places _
            (λ request is. OutOk-same refl refl (λ works. works) (i.out job.request.terminal request (ap sent_of place ∙ is)))
            (λ j differ. refl) (λ j differ. refl) (λ j works. works) i.out;
      })

  -- what holds of the terminal of a job
  pub out-job : (c p : ℕ) (job : Job) → (s.classes c).busy p ≡ Some job → OutOk sys s job.request.terminal (record { class = c; request = job.request })
  out-job c p job works = i.out job.request.terminal (record { class = c; request = job.request }) (ap sent_of (place_of_job i.requests works refl))

  -- what a reply leaves: units of terminals that are there, other terminals, the modes, and the classes but for a free process
  reply-known : (c p t : ℕ) (fault : Option ℕ) (j : ℕ) (u : OpenUnit) → (do_reply sys c p t fault s).units j ≡ Some u → j < sys.terminals
  reply-known c p t fault j u =
      reply-any sys s c p t (λ x. x.units j ≡ Some u → j < sys.terminals) fault
      (λ reply outside. known-gone t i j u) (λ reply inside. i.known j u) (λ x. i.known j u)

  reply-units : (c p t : ℕ) (fault : Option ℕ) (j : ℕ) → j ≢ t → (do_reply sys c p t fault s).units j ≡ s.units j
  reply-units c p t fault j differ =
      reply-any sys s c p t (λ x. x.units j ≡ s.units j) fault
      (λ reply outside. upd-other s.units t None j differ) (λ reply inside. refl) (λ x. refl)

  reply-terms : (c p t : ℕ) (fault : Option ℕ) (j : ℕ) → j ≢ t → (do_reply sys c p t fault s).terms j ≡ s.terms j
  reply-terms c p t fault j differ =
      let other : (x : Term) → upd s.terms t x j ≡ s.terms j = λ x. upd-other s.terms t x j differ in
      reply-any sys s c p t (λ x. x.terms j ≡ s.terms j) fault (λ reply outside. other _) (λ reply inside. other _) (λ x. other _)

  reply-modes : (c p t : ℕ) (fault : Option ℕ) → (do_reply sys c p t fault s).modes ≡ s.modes
  reply-modes c p t fault = reply-any sys s c p t (λ x. x.modes ≡ s.modes) fault (λ reply outside. refl) (λ reply inside. refl) (λ x. refl)

  reply-classes : (c p t : ℕ) (fault : Option ℕ) → (do_reply sys c p t fault s).classes ≡ upd s.classes c (with_job_at p None (s.classes c))
  reply-classes c p t fault =
      reply-any sys s c p t (λ x. x.classes ≡ upd s.classes c (with_job_at p None (s.classes c))) fault
      (λ reply outside. refl) (λ reply inside. refl) (λ x. refl)

  -- REPLY keeps it all
  pub inv_reply : (c p t : ℕ) (fault : Option ℕ) → LegalReply sys s c p t fault → Inv sys (do_reply sys c p t fault s)
  inv_reply c p t fault l =
      let out = subst (λ (k : ℕ). OutOk sys s k (record { class = c; request = l.job.request })) l.whose (out-job c p l.job l.at_work) in
      record {
        terms = keeps_reply sys b s i.terms c p t fault (record { class = c; request = l.job.request }) out;
        known = reply-known c p t fault;
        places = upd i.places t Nowhere;
        requests = subst (λ (classes : ℕ → Class). RequestsOk sys classes (upd i.places t Nowhere)) (sym (reply-classes c p t fault)) (requests_freed i.requests l.at_work l.whose);
        out = out-placed t i.places Nowhere (λ request is. absurd (cc is))
            (reply-terms c p t fault) (reply-units c p t fault) (λ j works. subst (λ (m : ℕ → PairMode). IsWorking (m (sys.pair_of j))) (sym (reply-modes c p t fault)) works) i.out;
      }

  -- RESTART keeps it all
  pub inv_restart : (t n : ℕ) (cause : Cause) → LegalRestart sys s t n cause → Inv sys (do_restart sys t cause s)
  inv_restart t n cause l = record {
    terms = keeps_restart sys b s i.terms t n cause l;
    known = λ j u. upd_elim s.units t _ j (λ (x : Option OpenUnit). x ≡ Some u → j < sys.terminals)
        (λ same _. i.known j l.unit (ap s.units same ∙ l.caused.is_open)) (λ _ is. i.known j u is);
    places = without_places (only t) i.places;
    requests = requests_cancelled (only t) i.requests;
    out = out-cancelled (only t) i.places
        (λ j spared. upd-other s.terms t _ j (eqb-false j t spared)) (λ j spared. upd-other s.units t _ j (eqb-false j t spared)) (λ j spared works. works) i.out;
  }

  -- FAIL SERVER keeps it all
  pub inv_fail_server : (c p k : ℕ) → Inv sys (do_fail_server c p k s)
  inv_fail_server c p k =
      process-cases sys s (Inv sys) c p k i
      (λ job is.
      record {
        terms = keeps_process_fails sys b s i.terms c p k (Some job) (λ x same. out-job c p x (is ∙ same));
        known = i.known;
        places = upd i.places job.request.terminal Nowhere;
        requests = requests_freed i.requests is refl;
        out = out-placed job.request.terminal i.places Nowhere (λ request e. absurd (cc e))
            (λ j differ. upd-other s.terms job.request.terminal _ j differ) (λ j differ. refl) (λ j works. works) i.out;
      })

  -- another pair keeps its mode
  beside : (p : ℕ) (mode : PairMode) (j : ℕ) → is_of_pair sys p j ≡ false → upd s.modes p mode (sys.pair_of j) ≡ s.modes (sys.pair_of j)
  beside p mode j spared = mode-of-other sys s p j mode (eqb-false (sys.pair_of j) p spared)

  inv_down : (p : ℕ) → TermsOk sys (lose_primary sys p s) → Inv sys (lose_primary sys p s)
  inv_down p terms = record {
    terms = terms;
    known = i.known;
    places = without_places (is_of_pair sys p) i.places;
    requests = requests_cancelled (is_of_pair sys p) i.requests;
    out = out-cancelled (is_of_pair sys p) i.places
        (λ j spared. cond-false (is_of_pair sys p j) _ (s.terms j) spared) (λ j spared. refl)
        (λ j spared works. subst IsWorking (sym (beside p Down j spared)) works) i.out;
  }

  inv_gone : (p : ℕ) → TermsOk sys (lose_pair sys p s) → Inv sys (lose_pair sys p s)
  inv_gone p terms = record {
    terms = terms;
    known = known-left (is_of_pair sys p) i;
    places = without_places (is_of_pair sys p) i.places;
    requests = requests_cancelled (is_of_pair sys p) i.requests;
    out = out-cancelled (is_of_pair sys p) i.places
        (λ j spared. cond-false (is_of_pair sys p j) _ (s.terms j) spared) (λ j spared. cond-false (is_of_pair sys p j) None (s.units j) spared)
        (λ j spared works. subst IsWorking (sym (beside p Gone j spared)) works) i.out;
  }

  inv_alone : (p : ℕ) → TermsOk sys (lose_backup sys p s) → Inv sys (lose_backup sys p s)
  inv_alone p terms = record {
    terms = terms;
    known = i.known;
    places = i.places;
    requests = i.requests;
    out = λ j request is. OutOk-same refl refl (λ works. upd_elim s.modes p Alone (sys.pair_of j) IsWorking (λ _. tt) (λ _. works)) (i.out j request is);
  }

  -- FAIL TCP keeps it all
  pub inv_fail_tcp : (p : ℕ) (primary : Bool) → Inv sys (do_fail_tcp sys p primary s)
  inv_fail_tcp p primary =
      fail-cases sys s (λ x. TermsOk sys x → Inv sys x) p (λ terms. i) (λ paired. inv_down p) (λ member breaks. inv_gone p) (λ has. inv_alone p)
      primary (keeps_fail_tcp sys s i.terms p primary)

  -- TAKEOVER keeps it all
  pub inv_takeover : (p : ℕ) → LegalTakeover s p → Inv sys (do_takeover sys p s)
  inv_takeover p l = record {
    terms = keeps_takeover sys s i.terms p l;
    known = i.known;
    places = i.places;
    requests = i.requests;
    out = λ j request is.
        let out = i.out j request is in
        ⊎_elim
        (λ of. absurd (subst IsWorking (ap s.modes of ∙ l.down) out.working))
        (λ differ. OutOk-same (cond-false (is_live_of sys p s j) _ (s.terms j) (and_left (is_of_pair sys p j) (is_none (s.terms j).ending) (ne_eqb (sys.pair_of j) p differ))) refl
        (λ works. subst IsWorking (sym (mode-of-other sys s p j Alone differ)) works) out)
        (cases_eq (sys.pair_of j) p);
  }

  -- a terminal ends that has no request out, and leaves no unit
  quiet-end : (t : ℕ) (e : Ending) → IsIn t i.places → TermsOk sys (settle_mode sys (sys.pair_of t) (end_terminal t e s)) → Inv sys (settle_mode sys (sys.pair_of t) (end_terminal t e s))
  quiet-end t e not_out terms = record {
    terms = terms;
    known = i.known;
    places = i.places;
    requests = i.requests;
    out = out-others t i.places not_out (λ j differ. upd-other s.terms t _ j differ) (λ j differ. refl)
        (settled-works sys (end_terminal t e s) (sys.pair_of t)) i.out;
  }

  -- a terminal ends, and its open unit is left
  left-end : (t : ℕ) (e : Ending) → TermsOk sys (settle_mode sys (sys.pair_of t) (end_terminal t e (leave_units sys (only t) s)))
      → Inv sys (settle_mode sys (sys.pair_of t) (end_terminal t e (leave_units sys (only t) s)))
  left-end t e terms = record {
    terms = terms;
    known = known-left (only t) i;
    places = without_places (only t) i.places;
    requests = requests_cancelled (only t) i.requests;
    out = out-cancelled (only t) i.places
        (λ j spared. upd-other s.terms t _ j (eqb-false j t spared)) (λ j spared. cond-false (only t j) None (s.units j) spared)
        (λ j spared. settled-works sys (end_terminal t e (leave_units sys (only t) s)) (sys.pair_of t) j) i.out;
  }

  -- END keeps it all
  pub inv_end : (t : ℕ) (e : Ending) → LegalEnd sys s t e → Inv sys (do_end sys t e s)
  inv_end t ending.Stopped l = quiet-end t ending.Stopped (no-request t i (λ c message is. absurd (cc (l.asks, is)))) (keeps_end sys b s i.terms t ending.Stopped)
  inv_end t ending.NoEntries l = left-end t ending.NoEntries (keeps_end sys b s i.terms t ending.NoEntries)
  inv_end t (ending.Fault x) l = left-end t (ending.Fault x) (keeps_end sys b s i.terms t (ending.Fault x))
  inv_end t (ending.Suspended cause) l = left-end t (ending.Suspended cause) (keeps_end sys b s i.terms t (ending.Suspended cause))
  inv_end t ending.Lost l =
      quiet-end t ending.Lost (λ request is. absurd (subst IsWorking l.lost (i.out t request is).working)) (keeps_end sys b s i.terms t ending.Lost)
