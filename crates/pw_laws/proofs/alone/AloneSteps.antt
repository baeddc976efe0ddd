-- Each entry keeps that running attempts are alone on the committed records: the entries of terminals.
use Rattle.std.proofs.Common.{◌≡◌, ℕ, suc, ◌+◌, ◌<◌, inl, inr, ⊎_elim, List, [], ◌∷◌, ◌++◌, Option, Some, None, refl, ap, sym, subst, subst₂, ◌∙◌, arith}
use Rattle.std.specs.List.{AllByRecursion}
use Rattle.std.proofs.lemmas.Bool.{cases_eq}
use Rattle.pw_laws.proofs.AttemptOps.{IsLocked}
use Rattle.pw_laws.proofs.alone.Alone.{AloneOk}
use Rattle.pw_laws.proofs.alone.AloneEntries.{AllAlone, AloneAt, moved-plain}
use Rattle.pw_laws.proofs.alone.AloneOwn.{own-answered, own-placed, taken-mid}
use Rattle.pw_class.specs.declared.request.Request.{Request}
use Rattle.pw_code.specs.declared.verb.Verb.{Verb}
use Rattle.pw_code.specs.declared.verb.Verb.TheVariants as verb
use Rattle.pw_event.specs.declared.event.Event.TheVariants.{Show, Key, Begin, Send, Take}
use Rattle.pw_laws.proofs.Holding.{LocksOk}
use Rattle.pw_laws.proofs.records.RecordsOk.{RecordsOk}
use Rattle.pw_laws.specs.locking.Held.{IsHeld}
use Rattle.pw_locks.specs.declared.lock.Lock.{Lock}
use Rattle.pw_onecopy.proofs.Update.{upd_elim, upd-same, upd-other}
use Rattle.pw_onecopy.specs.Attempt.{attempt, answer_verb, BeginsUnit}
use Rattle.pw_onecopy.specs.Behaviour.{Behaviour}
use Rattle.pw_onecopy.specs.IsBehaviour.{IsBehaviour, IsPath}
use Rattle.pw_onecopy.specs.Path.{PathAnswer, Entry, Shown, entries_on, unit_number}
use Rattle.pw_onecopy.specs.Update.{upd}
use Rattle.pw_paired.specs.Raising.{lacks_one, settle_mode}
use Rattle.pw_paired.specs.Serial.{answers_at_begin, one_answer_more}
use Rattle.pw_paired.specs.Server.{LegalTake}
use Rattle.pw_paired.specs.State.{BeforeImage, Class, PairMode, OpenUnit, State, Term}
use Rattle.pw_paired.specs.Step.{effect}
use Rattle.pw_paired.specs.Terminal.{CanStep, IsIdle, LegalBegin, LegalKey, LegalSend, LegalShow, unit_with_attempt, begun_path, message_of, next_verb, path_of}
use Rattle.pw_paired.specs.Units.{attempt_of, committed_files, restarts_of, restored_files}
use Rattle.pw_laws.proofs.kept.Kept.{Inv, IsIn, no-request, no-request-idle}
use Rattle.pw_laws.proofs.requests.Classes.{found_free}
use Rattle.pw_laws.proofs.requests.Requests.{Place, Nowhere, InLine, AtWork, Placed, Sent, sent_of, one_place, placed_sent, placed_sent_other, placed_taken, placed_taken_other, place_in_line, place_inside}
use Rattle.pw_laws.proofs.terms.KeepsChecks.{can_path, path_ok-is, running}
use Rattle.pw_laws.proofs.terms.TermOk.{IsWorking}
use Rattle.pw_laws.proofs.frontier.Standing.{raised-works}

-- a place without a request is nowhere
no-place : (place : Place) → ((sent : Sent) → sent_of place ≡ Some sent → ⊥) → place ≡ Nowhere
no-place Nowhere none = refl
no-place (InLine c request) none = absurd (none (record { class = c; request = request }) refl)
no-place (AtWork c p job) none = absurd (none (record { class = c; request = job.request }) refl)

-- an idle terminal has no locks
idle-unlocked : (units : ℕ → Option OpenUnit) (t f : ℕ) (key : List ℕ) (locks : List Lock) → AllByRecursion (IsHeld units) locks → attempt_of (units t) ≡ None → IsLocked t f key locks → ⊥
idle-unlocked units t f key [] held idle locked = locked
idle-unlocked units t f key (lock ∷ locks) held idle (inl own) =
    absurd (cc (ap attempt_of (sym (ap units own.0) ∙ held.0.is_open), held.0.runs, idle))
idle-unlocked units t f key (lock ∷ locks) held idle (inr more) = idle-unlocked units t f key locks held.1 idle more

-- a pair that works behind an entry that settles it worked before
pub settled-was : (sys : Behaviour) (s : State) (p j : ℕ) → IsWorking ((settle_mode sys p s).modes (sys.pair_of j)) → IsWorking (s.modes (sys.pair_of j))
settled-was sys s p j =
    upd_elim s.modes p _ (sys.pair_of j) (λ (m : PairMode). IsWorking m → IsWorking (s.modes (sys.pair_of j)))
    (λ same works. subst (λ (q : ℕ). IsWorking (s.modes q)) (sym same) (raised-works (s.modes p) (lacks_one sys p s) works)) (λ _ works. works)

module _ (sys : Behaviour) (b : IsBehaviour sys) (s : State) (i : Inv sys s) (ok : RecordsOk sys s.files s.before s.locks) (lk : LocksOk s.units s.locks) (answers : ℕ → ℕ) (all : AllAlone sys b s answers) where
  -- where a terminal has no request out, its attempt's place is nowhere
  pub nowhere : (t : ℕ) (place : Place) → Placed s.classes t place → IsIn t i.places → place ≡ Nowhere
  nowhere t place placed in_it = one_place t s.classes place (i.places t) placed (i.requests.placed t) ∙ no-place (i.places t) in_it

  -- the numbers of a running attempt's path and of its start path agree
  pub numbers : (t : ℕ) (unit : OpenUnit) (q : List PathAnswer) → s.units t ≡ Some unit → unit.running ≡ Some q → CanStep sys s t → unit_number (path_of s t) ≡ unit_number q
  numbers t unit q is runs can =
      let path = running (s.units t) (ap attempt_of is ∙ runs) (can_path sys b s i.terms t can) in
      let begun = ((i.terms t can.live.known).unit_ok unit is).start q runs in
      path.number ∙ sym begun.1

  -- a terminal's verb other than SEND is answered
  answered-alone : (t : ℕ) (s' : State) (answer : PathAnswer) (v : Verb) → CanStep sys s t → next_verb sys s t ≡ v
      → s'.files ≡ s.files → s'.before ≡ s.before → s'.locks ≡ s.locks → s'.units ≡ s.units → s'.classes ≡ s.classes → s'.modes ≡ s.modes
      → s'.terms ≡ upd s.terms t (record (s.terms t) { path = path_of s t ++ answer ∷ [] })
      → ((unit : OpenUnit) (q : List PathAnswer) → s.units t ≡ Some unit → unit.running ≡ Some q → (at : AloneAt sys b s answers t unit q)
      → AloneOk sys b t q unit.restarts at.start (committed_files sys s) s.files (suc (answers t)) s.locks s.before Nowhere (record (s.terms t) { path = path_of s t ++ answer ∷ [] }) (s.modes (sys.pair_of t)))
      → IsIn t i.places
      → AllAlone sys b s' (one_answer_more t answers)
  answered-alone t s' answer v can asks files before locks units classes modes terms own in_it j unit q is runs =
      let was : s.units j ≡ Some unit = ap (λ (u : ℕ → Option OpenUnit). u j) (sym units) ∙ is in
      ⊎_elim
      (λ same.
      let was_t : s.units t ≡ Some unit = ap s.units (sym same) ∙ was in
      let at = all t unit q was_t runs in
      let here : Placed s.classes t Nowhere = subst (Placed s.classes t) (nowhere t at.place at.placed in_it) at.placed in
      subst (λ (k : ℕ). AloneAt sys b s' (one_answer_more t answers) k unit q) (sym same)
      (record {
        going = ap (λ (x : ℕ → Term). (x t).ending) terms ∙ (ap (λ (x : Term). x.ending) (upd-same s.terms t _ t refl) ∙ at.going);
        start = at.start;
        place = Nowhere;
        placed = subst (λ (c : ℕ → Class). Placed c t Nowhere) (sym classes) here;
        alone = now-alone unit q at (own unit q was_t runs at);
      }))
      (λ differ. moved-plain sys b s s' ok lk answers (one_answer_more t answers) j unit q
      (ap (λ (x : ℕ → Term). x j) terms ∙ upd-other s.terms t _ j differ) (upd-other answers t (answers t + 1) j differ)
      (λ place placed. subst (λ (c : ℕ → Class). Placed c j place) (sym classes) placed) (λ works. subst (λ (m : ℕ → PairMode). IsWorking (m (sys.pair_of j))) modes works)
      files before locks (all j unit q was runs))
      (cases_eq j t)
    where
      now-alone : (unit : OpenUnit) (q : List PathAnswer) (at : AloneAt sys b s answers t unit q)
          → AloneOk sys b t q unit.restarts at.start (committed_files sys s) s.files (suc (answers t)) s.locks s.before Nowhere (record (s.terms t) { path = path_of s t ++ answer ∷ [] }) (s.modes (sys.pair_of t))
          → AloneOk sys b t q unit.restarts at.start (committed_files sys s') s'.files (one_answer_more t answers t) s'.locks s'.before Nowhere (s'.terms t) (s'.modes (sys.pair_of t))
      now-alone unit q at alone =
          subst₂ (λ (n : ℕ) (x : Term). AloneOk sys b t q unit.restarts at.start (committed_files sys s') s'.files n s'.locks s'.before Nowhere x (s'.modes (sys.pair_of t)))
          (let next : suc (answers t) ≡ answers t + 1 = omega arith in next ∙ sym (upd-same answers t (answers t + 1) t refl)) (sym (ap (λ (x : ℕ → Term). x t) terms ∙ upd-same s.terms t _ t refl))
          (subst (λ (m : ℕ → PairMode). AloneOk sys b t q unit.restarts at.start (committed_files sys s') s'.files (suc (answers t)) s'.locks s'.before Nowhere (record (s.terms t) { path = path_of s t ++ answer ∷ [] }) (m (sys.pair_of t))) (sym modes)
          (subst (λ (l : List Lock). AloneOk sys b t q unit.restarts at.start (committed_files sys s') s'.files (suc (answers t)) l s'.before Nowhere (record (s.terms t) { path = path_of s t ++ answer ∷ [] }) (s.modes (sys.pair_of t))) (sym locks)
          (subst₂ (λ (x : ℕ → List (List ℕ)) (y : List BeforeImage). AloneOk sys b t q unit.restarts at.start (restored_files sys.key_length y x) x (suc (answers t)) s.locks y Nowhere (record (s.terms t) { path = path_of s t ++ answer ∷ [] }) (s.modes (sys.pair_of t))) (sym files) (sym before) alone)))

  -- behind SHOW running attempts are alone
  pub alone-show : (t phase attempt k : ℕ) → LegalShow sys s t phase attempt k → AllAlone sys b (effect sys s (Show t phase attempt k)) (one_answer_more t answers)
  alone-show t phase attempt_no k l =
      answered-alone t (effect sys s (Show t phase attempt_no k)) Shown verb.Show l.can l.asks refl refl refl refl refl refl refl
      (λ unit q is runs at.
      let in_it = no-request t i (λ c message is. absurd (cc (l.asks, is))) in
      own-answered sys b t q unit.restarts at.start (committed_files sys s) s.files (answers t) s.locks s.before (s.terms t) (record (s.terms t) { path = path_of s t ++ Shown ∷ [] }) (s.modes (sys.pair_of t)) verb.Show
      (subst (λ (p : Place). AloneOk sys b t q unit.restarts at.start (committed_files sys s) s.files (answers t) s.locks s.before p (s.terms t) (s.modes (sys.pair_of t))) (nowhere t at.place at.placed in_it) at.alone)
      (rw l.can.paired tt) l.can.calm l.asks tt (numbers t unit q is runs l.can) (λ c message e. absurd (cc e)) (λ n e. absurd (cc e))
      (λ a path. (ap (λ (p : List PathAnswer). p ++ Shown ∷ []) path, refl)))
      (no-request t i (λ c message is. absurd (cc (l.asks, is))))

  -- behind KEY running attempts are alone
  pub alone-key : (t k : ℕ) → LegalKey sys s t k → AllAlone sys b (effect sys s (Key t k)) (one_answer_more t answers)
  alone-key t k l =
      let next = l.next in
      let exists = l.exists in
      answered-alone t (effect sys s (Key t k)) (Entry k) (verb.Accept l.screen) l.can l.asks refl refl refl refl refl refl refl
      (λ unit q is runs at.
      let in_it = no-request t i (λ c message is. absurd (cc (l.asks, is))) in
      own-answered sys b t q unit.restarts at.start (committed_files sys s) s.files (answers t) s.locks s.before (s.terms t) (record (s.terms t) { path = path_of s t ++ Entry k ∷ [] }) (s.modes (sys.pair_of t)) (verb.Accept l.screen)
      (subst (λ (p : Place). AloneOk sys b t q unit.restarts at.start (committed_files sys s) s.files (answers t) s.locks s.before p (s.terms t) (s.modes (sys.pair_of t))) (nowhere t at.place at.placed in_it) at.alone)
      (rw l.can.paired tt) l.can.calm l.asks (omega (arith, next, exists)) (numbers t unit q is runs l.can) (λ c message e. absurd (cc e)) (λ n e. absurd (cc e))
      (λ a path. (ap (λ (p : List PathAnswer). p ++ Entry k ∷ []) path ∙ ap (λ (n : ℕ). a.path ++ Entry n ∷ []) (next ∙ ap (λ (p : List PathAnswer). entries_on p + 1) path), refl)))
      (no-request t i (λ c message is. absurd (cc (l.asks, is))))

  -- entries that change messages, memory and modes alone
  pub alone-plain : (s' : State) → s'.files ≡ s.files → s'.before ≡ s.before → s'.locks ≡ s.locks → s'.units ≡ s.units → s'.classes ≡ s.classes → s'.terms ≡ s.terms
      → ((t : ℕ) → IsWorking (s'.modes (sys.pair_of t)) → IsWorking (s.modes (sys.pair_of t))) → AllAlone sys b s' answers
  alone-plain s' files before locks units classes terms works t unit q is runs =
      moved-plain sys b s s' ok lk answers answers t unit q
      (ap (λ (x : ℕ → Term). x t) terms) refl (λ place placed. subst (λ (c : ℕ → Class). Placed c t place) (sym classes) placed) (works t)
      files before locks (all t unit q (ap (λ (u : ℕ → Option OpenUnit). u t) (sym units) ∙ is) runs)

  -- a unit begins
  begin-alone : (t r : ℕ) (q : List PathAnswer) (v : Verb) (start : IsPath sys t q) → sys.ask t q ≡ v → BeginsUnit v q → IsIdle s t → (term' : Term) (mode : PairMode) → term'.path ≡ begun_path r v q
      → AloneOk sys b t q r start (committed_files sys s) s.files (answers_at_begin v) s.locks s.before Nowhere term' mode
  begin-alone t r q verb.Begin start asks begins idle term' mode path = record {
    is_attempt = (subst (λ (w : Verb). BeginsUnit w q) (sym asks) tt, record { takes = rw asks tt; is_open = refl });
    path_is = λ _ _. path ∙ ap (λ (w : Verb). (answer_verb sys t r (committed_files sys s) w (attempt sys t q (committed_files sys s) r 0)).path) (sym asks);
    locked = λ k below c message sends. no-send k below c message sends;
    spared = λ f key none k below c message sends. no-send k below c message sends;
    calm = λ _ _ _. record {
      mid = committed_files sys s;
      mid_is = ap (λ (w : Verb). (answer_verb sys t r (committed_files sys s) w (attempt sys t q (committed_files sys s) r 0)).files) (sym asks);
      agree = λ f key locked. absurd (idle-unlocked s.units t f key s.locks lk.held idle locked);
    };
  }
    where
      no-send : {P : Type 0} (k : ℕ) → k < 1 → (c : ℕ) (message : List ℕ) → sys.ask t (attempt sys t q (committed_files sys s) r k).path ≡ verb.Send c message → P
      no-send k below c message sends =
          let first : k ≡ 0 = omega (arith, below) in
          let sent : sys.ask t q ≡ verb.Send c message = subst (λ (m : ℕ). sys.ask t (attempt sys t q (committed_files sys s) r m).path ≡ verb.Send c message) first sends in
          absurd (cc (asks, sent))
  begin-alone t r q (verb.Send c message) start asks begins idle term' mode path = record {
    is_attempt = subst (λ (w : Verb). BeginsUnit w q) (sym asks) begins;
    path_is = λ _ _. path;
    locked = λ k below. absurd (omega (arith, below));
    spared = λ f key none k below. absurd (omega (arith, below));
    calm = λ _ _ _. record { mid = committed_files sys s; mid_is = refl; agree = λ f key locked. absurd (idle-unlocked s.units t f key s.locks lk.held idle locked) };
  }
  begin-alone t r q verb.Show start asks begins idle term' mode path = absurd begins
  begin-alone t r q (verb.Accept screen) start asks begins idle term' mode path = absurd begins
  begin-alone t r q verb.End start asks begins idle term' mode path = absurd begins
  begin-alone t r q verb.Drop start asks begins idle term' mode path = absurd begins
  begin-alone t r q verb.Redo start asks begins idle term' mode path = absurd begins
  begin-alone t r q verb.Stop start asks begins idle term' mode path = absurd begins
  begin-alone t r q (verb.Fault x) start asks begins idle term' mode path = absurd begins
  begin-alone t r q (verb.File call) start asks begins idle term' mode path = absurd begins
  begin-alone t r q (verb.Reply reply) start asks begins idle term' mode path = absurd begins

  begun-parts : (n births : ℕ) (path : List PathAnswer) (unit : Option OpenUnit) → ((unit_with_attempt n births path unit).running ≡ Some path) × ((unit_with_attempt n births path unit).restarts ≡ restarts_of unit)
  begun-parts n births path None = (refl, refl)
  begun-parts n births path (Some u) = (refl, refl)

  -- behind BEGIN running attempts are alone
  pub alone-begin : (t n r : ℕ) → LegalBegin sys s t n r → AllAlone sys b (effect sys s (Begin t n r)) (upd answers t (answers_at_begin (next_verb sys s t)))
  alone-begin t n r l j unit q =
      upd_elim s.units t (Some (unit_with_attempt n s.births (path_of s t) (s.units t))) j
      (λ (u : Option OpenUnit). u ≡ Some unit → unit.running ≡ Some q → AloneAt sys b (effect sys s (Begin t n r)) (upd answers t (answers_at_begin (next_verb sys s t))) j unit q)
      (λ same is runs.
      let parts = begun-parts n s.births (path_of s t) (s.units t) in
      let unit_is : unit_with_attempt n s.births (path_of s t) (s.units t) ≡ unit = cc is in
      let path_is : path_of s t ≡ q = let p = parts.0 in let u = ap (λ (x : OpenUnit). x.running) unit_is in cc (p, u, runs) in
      let restarts : r ≡ unit.restarts = l.restarts ∙ (sym parts.1 ∙ ap (λ (x : OpenUnit). x.restarts) unit_is) in
      let start = path_ok-is _ (s.units t) (can_path sys b s i.terms t l.can) in
      subst (λ (k : ℕ). AloneAt sys b (effect sys s (Begin t n r)) (upd answers t (answers_at_begin (next_verb sys s t))) k unit q) (sym same)
      (subst (λ (p : List PathAnswer). AloneAt sys b (effect sys s (Begin t n r)) (upd answers t (answers_at_begin (next_verb sys s t))) t unit p) path_is
      (record {
        going = ap (λ (x : Term). x.ending) (upd-same s.terms t _ t refl) ∙ l.can.live.going_on;
        start = start;
        place = Nowhere;
        placed = subst (Placed s.classes t) (no-place (i.places t) (no-request-idle t i l.idle)) (i.requests.placed t);
        alone =
            subst (λ (k : ℕ). AloneOk sys b t (path_of s t) k start (committed_files sys s) s.files (upd answers t (answers_at_begin (next_verb sys s t)) t) s.locks s.before Nowhere ((effect sys s (Begin t n r)).terms t) (s.modes (sys.pair_of t))) restarts
            (subst (λ (k : ℕ). AloneOk sys b t (path_of s t) r start (committed_files sys s) s.files k s.locks s.before Nowhere ((effect sys s (Begin t n r)).terms t) (s.modes (sys.pair_of t))) (sym (upd-same answers t (answers_at_begin (next_verb sys s t)) t refl))
            (begin-alone t r (path_of s t) (next_verb sys s t) start refl l.begins l.idle ((effect sys s (Begin t n r)).terms t) (s.modes (sys.pair_of t))
            (ap (λ (x : Term). x.path) (upd-same s.terms t _ t refl))));
      })))
      (λ differ is runs. moved-plain sys b s (effect sys s (Begin t n r)) ok lk answers (upd answers t (answers_at_begin (next_verb sys s t))) j unit q
      (upd-other s.terms t _ j differ) (upd-other answers t (answers_at_begin (next_verb sys s t)) j differ) (λ place placed. placed) (λ works. works) refl refl refl (all j unit q is runs))

  -- behind SEND running attempts are alone
  pub alone-send : (t n c : ℕ) → LegalSend sys s t n c → AllAlone sys b (effect sys s (Send t n c)) answers
  alone-send t n c l j unit q is runs =
      ⊎_elim
      (λ same.
      let at = all t unit q (ap s.units (sym same) ∙ is) runs in
      let here = place_inside s i.requests l.not_out in
      let gone : at.place ≡ Nowhere = one_place t s.classes at.place (i.places t) at.placed (i.requests.placed t) ∙ here in
      let request : Request = record { terminal = t; unit = n; message = message_of (next_verb sys s t) } in
      subst (λ (k : ℕ). AloneAt sys b (effect sys s (Send t n c)) answers k unit q) (sym same)
      (record {
        going = at.going;
        start = at.start;
        place = InLine c request;
        placed = placed_sent s.classes c request refl (subst (Placed s.classes t) gone at.placed);
        alone = own-placed sys b t q unit.restarts at.start (committed_files sys s) s.files (answers t) s.locks s.before Nowhere (InLine c request) (s.terms t) (s.modes (sys.pair_of t)) (λ mid is. is)
            (subst (λ (p : Place). AloneOk sys b t q unit.restarts at.start (committed_files sys s) s.files (answers t) s.locks s.before p (s.terms t) (s.modes (sys.pair_of t))) gone at.alone);
      }))
      (λ differ. moved-plain sys b s (effect sys s (Send t n c)) ok lk answers answers j unit q refl refl
      (λ place placed. placed_sent_other s.classes c _ (λ mine. differ (sym mine)) place placed) (λ works. works) refl refl refl (all j unit q is runs))
      (cases_eq j t)

  -- behind TAKE running attempts are alone
  pub alone-take : (c p t : ℕ) → LegalTake sys s c p t → AllAlone sys b (effect sys s (Take c p t)) answers
  alone-take c p t l j unit q is runs =
      let found = found_free (s.classes c).busy 1 (sys.processes c) p l.free in
      ⊎_elim
      (λ same.
      let at = all t unit q (ap s.units (sym same) ∙ is) runs in
      let here : at.place ≡ InLine c l.request = place_in_line s.classes at.place c [] l.request l.others l.first l.whose at.placed in
      subst (λ (k : ℕ). AloneAt sys b (effect sys s (Take c p t)) answers k unit q) (sym same)
      (record {
        going = at.going;
        start = at.start;
        place = AtWork c p (record { request = l.request; done = [] });
        placed = placed_taken s.classes c p l.request l.others l.first l.whose at.place at.placed;
        alone = own-placed sys b t q unit.restarts at.start (committed_files sys s) s.files (answers t) s.locks s.before (InLine c l.request) (AtWork c p (record { request = l.request; done = [] })) (s.terms t) (s.modes (sys.pair_of t))
            (taken-mid sys b t q unit.restarts at.start (attempt sys t q (committed_files sys s) unit.restarts (answers t)).files s.locks s.before c p l.request (i.requests.bounds.line c l.request l.others l.first))
            (subst (λ (x : Place). AloneOk sys b t q unit.restarts at.start (committed_files sys s) s.files (answers t) s.locks s.before x (s.terms t) (s.modes (sys.pair_of t))) here at.alone);
      }))
      (λ differ. moved-plain sys b s (effect sys s (Take c p t)) ok lk answers answers j unit q refl refl
      (λ place placed. placed_taken_other s.classes c p l.request l.others l.first found.0 (λ mine. differ (sym mine ∙ l.whose)) place placed) (λ works. works) refl refl refl (all j unit q is runs))
      (cases_eq j t)
