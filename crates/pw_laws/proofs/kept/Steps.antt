-- Each kind of entry keeps what each state of a run keeps.
use Rattle.std.proofs.Common.{List, ◌≡◌, ℕ, ◌<◌, Bool, Option, Some, None, if◌then◌else◌, refl, ap, sym, subst, ◌∙◌, arith}
use Rattle.std.proofs.lemmas.Bool.{cond_both}
use Rattle.pw_code.specs.declared.verb.Verb.TheVariants as verb
use Rattle.pw_onecopy.proofs.Update.{upd_elim, upd-other}
use Rattle.pw_onecopy.specs.Behaviour.{Behaviour}
use Rattle.pw_onecopy.specs.IsBehaviour.{IsBehaviour}
use Rattle.pw_onecopy.specs.Update.{upd}
use Rattle.pw_paired.specs.Raising.{LegalCheckCopy, do_check_copy}
use Rattle.pw_paired.specs.Server.{LegalTake, do_take}
use Rattle.pw_paired.specs.State.{OpenUnit, State}
use Rattle.pw_paired.specs.Terminal.{LegalShow, LegalKey, LegalCheckStart, LegalCheckEnd, LegalBegin, LegalSend, LegalAgain, LegalCommit, LegalBack, message_of, do_show, do_key, do_check_start, do_check_end, do_begin, do_send, do_again, do_commit, do_back, next_verb, path_of}
use Rattle.pw_laws.proofs.kept.Kept.{Inv, IsIn, OutOk-same, out-others, out-placed, no-request, no-request-idle}
use Rattle.pw_laws.proofs.requests.Requests.{Sent, sent_of, place_of_first, place_inside, requests_sent, requests_taken}
use Rattle.pw_laws.proofs.terms.Keeps.{keeps_show, keeps_key}
use Rattle.pw_laws.proofs.terms.KeepsChecks.{can_path, path_ok-is, keeps_check_start, keeps_check_end, keeps_check_copy}
use Rattle.pw_laws.proofs.terms.KeepsEnds.{out-path}
use Rattle.pw_laws.proofs.terms.KeepsUnits.{keeps_begin, keeps_again, keeps_commit, keeps_back}

-- a unit that was there before is a known terminal's
known-upd : {sys : Behaviour} {s : State} (t : ℕ) (unit : Option OpenUnit) → (i : Inv sys s) → t < sys.terminals
    → (j : ℕ) (u : OpenUnit) → upd s.units t unit j ≡ Some u → j < sys.terminals
known-upd {sys = sys} {s = s} t unit i known j u =
    upd_elim s.units t unit j (λ (x : Option OpenUnit). x ≡ Some u → j < sys.terminals)
    (λ same _. subst (λ (k : ℕ). k < sys.terminals) (sym same) known)
    (λ _ is. i.known j u is)

-- open units are of terminals that are there, also where one ends
pub known-gone : {sys : Behaviour} {s : State} (t : ℕ) → (i : Inv sys s) → (j : ℕ) (u : OpenUnit) → upd s.units t None j ≡ Some u → j < sys.terminals
known-gone {sys = sys} {s = s} t i j u =
    upd_elim s.units t None j (λ (x : Option OpenUnit). x ≡ Some u → j < sys.terminals) (λ _ is. absurd (cc is)) (λ _ is. i.known j u is)

-- and where some are left
pub known-left : {sys : Behaviour} {s : State} (whose : ℕ → Bool) → (i : Inv sys s) → (j : ℕ) (u : OpenUnit) → (if whose j then None else s.units j) ≡ Some u → j < sys.terminals
known-left {sys = sys} {s = s} whose i j u =
    cond_both (whose j) None (s.units j) (λ (x : Option OpenUnit). x ≡ Some u → j < sys.terminals) (λ _ is. absurd (cc is)) (λ _ is. i.known j u is)

module _ (sys : Behaviour) (b : IsBehaviour sys) (s : State) (i : Inv sys s) where
  -- SHOW keeps it all
  pub inv_show : (t phase attempt k : ℕ) → LegalShow sys s t phase attempt k → Inv sys (do_show t s)
  inv_show t phase attempt k l = record {
    terms = keeps_show sys s i.terms t phase attempt k l;
    known = i.known;
    places = i.places;
    requests = i.requests;
    out = out-others t i.places (no-request t i (λ c message is. absurd (cc (l.asks, is))))
        (λ j differ. upd-other s.terms t _ j differ) (λ j differ. refl) (λ j works. works) i.out;
  }

  -- KEY keeps it all
  pub inv_key : (t k : ℕ) → LegalKey sys s t k → Inv sys (do_key t k s)
  inv_key t k l = record {
    terms = keeps_key sys s i.terms t k l;
    known = i.known;
    places = i.places;
    requests = i.requests;
    out = out-others t i.places (no-request t i (λ c message is. absurd (cc (l.asks, is))))
        (λ j differ. upd-other s.terms t _ j differ) (λ j differ. refl) (λ j works. works) i.out;
  }

  -- messages alone change
  pub inv_check_start : (t : ℕ) → LegalCheckStart sys s t → Inv sys (do_check_start t s)
  inv_check_start t l = record {
    terms = keeps_check_start sys b s i.terms t l;
    known = i.known;
    places = i.places;
    requests = i.requests;
    out = λ j request is. OutOk-same refl refl (λ works. works) (i.out j request is);
  }

  -- CHECK END keeps it all
  pub inv_check_end : (t : ℕ) → LegalCheckEnd sys s t → Inv sys (do_check_end sys t s)
  inv_check_end t l = record {
    terms = keeps_check_end sys b s i.terms t l;
    known = i.known;
    places = i.places;
    requests = i.requests;
    out = λ j request is. OutOk-same refl refl (λ works. works) (i.out j request is);
  }

  -- CHECK COPY keeps it all
  pub inv_check_copy : (t : ℕ) → LegalCheckCopy sys s t → Inv sys (do_check_copy t s)
  inv_check_copy t l = record {
    terms = keeps_check_copy sys b s i.terms t l;
    known = i.known;
    places = i.places;
    requests = i.requests;
    out = λ j request is. OutOk-same refl refl (λ works. works) (i.out j request is);
  }

  -- BEGIN keeps it all
  pub inv_begin : (t n r : ℕ) → LegalBegin sys s t n r → Inv sys (do_begin sys t n r s)
  inv_begin t n r l = record {
    terms = keeps_begin sys b s i.terms t n r l;
    known = known-upd t _ i l.can.live.known;
    places = i.places;
    requests = i.requests;
    out = out-others t i.places (no-request-idle t i l.idle)
        (λ j differ. upd-other s.terms t _ j differ) (λ j differ. upd-other s.units t _ j differ) (λ j works. works) i.out;
  }

  -- SEND keeps it all
  pub inv_send : (t n c : ℕ) → LegalSend sys s t n c → Inv sys (do_send sys t n c s)
  inv_send t n c l =
      let is_path = path_ok-is _ (s.units t) (can_path sys b s i.terms t l.can) in
      record {
        terms = i.terms;
        known = i.known;
        places = upd i.places t _;
        requests = requests_sent c _ i.requests refl (b.sends t c l.message (path_of s t) is_path l.asks) (place_inside s i.requests l.not_out);
        out = out-placed t i.places _
            (λ request is. record {
              live = record { known = l.can.live.known; going_on = l.can.live.going_on };
              working = rw l.can.paired tt;
              calm = l.can.calm;
              unit = l.unit;
              is_open = l.is_open;
              number = let same : record { class = c; request = record { terminal = t; unit = n; message = message_of (next_verb sys s t) } } ≡ request = cc in
                  ap (λ (x : Sent). x.request.unit) (sym same) ∙ sym l.number;
              start = l.start;
              runs = l.runs;
              asks = let same : record { class = c; request = record { terminal = t; unit = n; message = message_of (next_verb sys s t) } } ≡ request = cc in
                  subst (λ (x : Sent). sys.ask t (path_of s t) ≡ verb.Send x.class x.request.message) same
                  (l.asks ∙ ap (λ (m : List ℕ). verb.Send c m) (sym (ap message_of l.asks)));
            })
            (λ j differ. refl) (λ j differ. refl) (λ j works. works) i.out;
      }

  -- TAKE keeps it all
  pub inv_take : (c p t : ℕ) → LegalTake sys s c p t → Inv sys (do_take c p s)
  inv_take c p t l =
      let place = place_of_first i.requests l.first l.whose in
      record {
        terms = i.terms;
        known = i.known;
        places = upd i.places t _;
        requests = requests_taken i.requests l.first l.whose l.free;
        out = out-placed t i.places _
            (λ request is. OutOk-same refl refl (λ works. works) (i.out t request (ap sent_of place ∙ is)))
            (λ j differ. refl) (λ j differ. refl) (λ j works. works) i.out;
      }

  -- AGAIN keeps it all
  pub inv_again : (t n : ℕ) → LegalAgain sys s t n → Inv sys (do_again t s)
  inv_again t n l = record {
    terms = keeps_again sys b s i.terms t n l;
    known = i.known;
    places = i.places;
    requests = i.requests;
    out = out-others t i.places not_out
        (λ j differ. upd-other s.terms t _ j differ) (λ j differ. refl) (λ j works. works) i.out;
  }
    where
      -- a unit that runs is not the last ended one
      not_out : IsIn t i.places
      not_out request is =
          let out = i.out t request is in
          let unit = (i.terms t out.live.known).unit_ok out.unit out.is_open in
          let begun = unit.start out.start out.runs in
          let path = out-path sys b s i.terms t request out in
          let number = path.number in
          let own = l.number in
          let last = l.last in
          absurd (omega (arith, number, own, last))

  -- COMMIT keeps it all
  pub inv_commit : (t n : ℕ) → LegalCommit sys s t n → Inv sys (do_commit t n s)
  inv_commit t n l = record {
    terms = keeps_commit sys b s i.terms t n l;
    known = known-gone t i;
    places = i.places;
    requests = i.requests;
    out = out-others t i.places (no-request t i (λ c message is. absurd (cc (l.asks, is))))
        (λ j differ. upd-other s.terms t _ j differ) (λ j differ. upd-other s.units t _ j differ) (λ j works. works) i.out;
  }

  -- BACK keeps it all
  pub inv_back : (t n : ℕ) → LegalBack sys s t n → Inv sys (do_back sys t n s)
  inv_back t n l = record {
    terms = keeps_back sys b s i.terms t n l;
    known = known-gone t i;
    places = i.places;
    requests = i.requests;
    out = out-others t i.places (no-request t i (λ c message is. absurd (cc (l.asks, is))))
        (λ j differ. upd-other s.terms t _ j differ) (λ j differ. upd-other s.units t _ j differ) (λ j works. works) i.out;
  }
