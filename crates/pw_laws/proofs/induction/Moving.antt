-- Each entry changes the view of each started terminal in one of the ways of `Moves`; and the induction over runs of a
-- property of one terminal's view.
use Rattle.std.proofs.Common.{◌≡◌, ◌≢◌, ℕ, ◌<◌, ⊎_elim, Bool, true, false, not, ◌&&◌, is_none, is_some, List, [], ◌∷◌, ◌++◌, Option, Some, None, refl, ap, sym, subst, ◌∙◌}
use Rattle.std.proofs.lemmas.Bool.{cases_eq, true≢false, eq-eqb, ne_eqb, cond-true, cond-false, and_cases, and_from, and_left}
use Rattle.pw_event.specs.declared.event.Cause.TheVariants as cause
use Rattle.pw_event.specs.declared.event.Ending.{Ending}
use Rattle.pw_event.specs.declared.event.Ending.TheVariants as ending
use Rattle.pw_event.specs.declared.event.Event.{Event}
use Rattle.pw_event.specs.declared.event.Event.TheVariants as event
use Rattle.pw_onecopy.proofs.Update.{upd-other, upd-same}
use Rattle.pw_onecopy.specs.Behaviour.{Behaviour}
use Rattle.pw_onecopy.specs.IsBehaviour.{IsBehaviour}
use Rattle.pw_onecopy.specs.Path.{PathAnswer}
use Rattle.pw_onecopy.specs.Update.{upd}
use Rattle.pw_paired.specs.End.{LegalEnd, end_terminal}
use Rattle.pw_paired.specs.Failure.{with_start_path, is_live_of, is_of_pair, with_restart, resume_terminal}
use Rattle.pw_paired.specs.Raising.{is_takeover, lacks_one, settled_mode, with_message, settle_mode}
use Rattle.pw_paired.specs.Serial.{reading_starts}
use Rattle.pw_paired.specs.Server.{LegalReply}
use Rattle.pw_paired.specs.State.{Alone, Down, Gone, Job, LastEnded, BackupCopy, Message, PairMode, OpenUnit, Raising, State, Term, starting}
use Rattle.pw_paired.specs.Step.{Fits, IsRun, after, change, effect}
use Rattle.pw_paired.specs.Terminal.{CanStep, unit_with_attempt, begun_path, next_verb, path_of}
use Rattle.pw_paired.specs.Units.{attempt_of, last_after_leaving, leave_units, only}
use Rattle.pw_laws.proofs.ends.EndsOnce.{stopped-idle}
use Rattle.pw_laws.proofs.induction.Failed.{end-cases, fail-cases, process-cases}
use Rattle.pw_laws.proofs.induction.Runs.{behind-runs, carried, kept}
use Rattle.pw_laws.proofs.induction.Served.{file-is, reply-cases}
use Rattle.pw_laws.proofs.induction.Views as move
use Rattle.pw_laws.proofs.induction.Views.{Able, IsThere, Moves, View, Waits, path_in, verb_in, view_of}
use Rattle.pw_laws.proofs.kept.Failing.{out-job}
use Rattle.pw_laws.proofs.kept.Kept.{Inv}
use Rattle.pw_laws.proofs.kept.Runs.{keeps as still}
use Rattle.pw_laws.proofs.terms.KeepsEnds.{OutOk}
use Rattle.pw_laws.proofs.terms.KeepsPairs.{any_below-false, mode-of-other, mode-of-pair, not-of-pair, of-pair}
use Rattle.pw_laws.proofs.terms.TermOk.{HasMessages, TermOk}

-- views of equal parts
pub View-is : {v w : View} → w.last ≡ v.last → w.unit ≡ v.unit → w.memory ≡ v.memory → w.flight ≡ v.flight → w.term ≡ v.term → w.mode ≡ v.mode → w ≡ v
View-is l u m f x o = rw (l, u, m, f, x, o) refl

module _ (sys : Behaviour) (b : IsBehaviour sys) (s : State) (i : Inv sys s) (t : ℕ) (known : t < sys.terminals) where
  abbrev v : View
  v = view_of sys s t

  -- an entry of one terminal: what it does to its own view, and that it leaves the others'
  at-own : (P : ℕ → Type 0) (own : ℕ) → P t → (t ≢ own → P own) → P own
  at-own P own mine others = ⊎_elim (λ same. subst P same mine) others (cases_eq t own)

  able : CanStep sys s t → Able sys t v
  able can = record { known = known; going_on = can.live.going_on; paired = can.paired; calm = can.calm }

  -- the path of another terminal gets an answer
  other-path : (own : ℕ) (x : Term) → t ≢ own → record v { term = upd s.terms own x t } ≡ v
  other-path own x differ = View-is refl refl refl refl (upd-other s.terms own x t differ) refl

  own-path : (a : PathAnswer) → record v { term = upd s.terms t (record (s.terms t) { path = path_of s t ++ a ∷ [] }) t } ≡ move.gets a v
  own-path a = View-is refl refl refl refl (upd-same s.terms t _ t refl) refl

  other-flight : (own : ℕ) (m : Option Message) → t ≢ own → record v { flight = upd s.flight own m t } ≡ v
  other-flight own m differ = View-is refl refl refl (upd-other s.flight own m t differ) refl refl

  own-flight : (m : Option Message) → record v { flight = upd s.flight t m t } ≡ record v { flight = m }
  own-flight m = View-is refl refl refl (upd-same s.flight t m t refl) refl refl

  -- a terminal that waits for a server
  waits : (c p : ℕ) (job : Job) → (s.classes c).busy p ≡ Some job → job.request.terminal ≡ t → Waits sys t v
  waits c p job works whose =
      let out = subst (λ (o : ℕ). OutOk sys s o (record { class = c; request = job.request })) whose (out-job sys b s i c p job works) in
      record {
        known = known;
        going_on = out.live.going_on;
        working = out.working;
        calm = out.calm;
        unit = out.unit;
        is_open = out.is_open;
        start = out.start;
        runs = out.runs;
        class = c;
        message = job.request.message;
        asks = out.asks;
      }

  moves-show : (own phase attempt k : ℕ) → Fits sys s (event.Show own phase attempt k) → Moves sys t v (view_of sys (effect sys s (event.Show own phase attempt k)) t)
  moves-show own phase attempt k =
      at-own (λ (o : ℕ). Fits sys s (event.Show o phase attempt k) → Moves sys t v (view_of sys (effect sys s (event.Show o phase attempt k)) t)) own
      (λ l. move.shows (able l.can) l.asks (own-path _)) (λ differ l. move.stays (other-path own _ differ))

  moves-key : (own k : ℕ) → Fits sys s (event.Key own k) → Moves sys t v (view_of sys (effect sys s (event.Key own k)) t)
  moves-key own k =
      at-own (λ (o : ℕ). Fits sys s (event.Key o k) → Moves sys t v (view_of sys (effect sys s (event.Key o k)) t)) own
      (λ l. move.enters (able l.can) l.screen k l.asks l.next l.exists (own-path _)) (λ differ l. move.stays (other-path own _ differ))

  moves-check-start : (own : ℕ) → Fits sys s (event.CheckStart own) → Moves sys t v (view_of sys (effect sys s (event.CheckStart own)) t)
  moves-check-start own =
      at-own (λ (o : ℕ). Fits sys s (event.CheckStart o) → Moves sys t v (view_of sys (effect sys s (event.CheckStart o)) t)) own
      (λ l. move.sends_start (able l.can) l.idle l.begins l.new l.lacking l.free (own-flight _)) (λ differ l. move.stays (other-flight own _ differ))

  moves-check-end : (own : ℕ) → Fits sys s (event.CheckEnd own) → Moves sys t v (view_of sys (effect sys s (event.CheckEnd own)) t)
  moves-check-end own =
      at-own (λ (o : ℕ). Fits sys s (event.CheckEnd o) → Moves sys t v (view_of sys (effect sys s (event.CheckEnd o)) t)) own
      (λ l. move.sends_end (able l.can) l.answer l.closes (rw l.closes at l.lacking) l.free (rw l.closes (own-flight _)))
      (λ differ l. move.stays (other-flight own _ differ))

  moves-check-copy : (own : ℕ) → Fits sys s (event.CheckCopy own) → Moves sys t v (view_of sys (effect sys s (event.CheckCopy own)) t)
  moves-check-copy own =
      at-own (λ (o : ℕ). Fits sys s (event.CheckCopy o) → Moves sys t v (view_of sys (effect sys s (event.CheckCopy o)) t)) own
      (λ l. move.sends_copy l.live.going_on l.raising l.lacking l.free (own-flight _)) (λ differ l. move.stays (other-flight own _ differ))

  -- a pair that may have become up to date: it is where memory lacks no live terminal of it
  is-there : (m : Option BackupCopy) → not (is_some m) ≡ false → IsThere m
  is-there None lacks = absurd (true≢false lacks)
  is-there (Some held) lacks = (held, refl)

  held : (x : State) (p : ℕ) → lacks_one sys p x ≡ false → sys.pair_of t ≡ p → (x.terms t).ending ≡ None → IsThere (x.memory t)
  held x p lacks of live =
      let live_of : is_live_of sys p x t ≡ true = and_from (is_of_pair sys p t) (is_none (x.terms t).ending) (eq-eqb (sys.pair_of t) p of) (ap is_none live) in
      let test = any_below-false sys.terminals (λ o. is_live_of sys p x o && not (is_some (x.memory o))) lacks t known in
      ⊎_elim (λ dead. absurd (true≢false (sym live_of ∙ dead))) (λ there. is-there (x.memory t) there)
      (and_cases (is_live_of sys p x t) (not (is_some (x.memory t))) test)

  settled-view : (x : State) (p : ℕ) → sys.pair_of t ≡ p
      → view_of sys (settle_mode sys p x) t ≡ record (view_of sys x t) { mode = settled_mode (x.modes (sys.pair_of t)) (lacks_one sys p x) }
  settled-view x p of =
      View-is refl refl refl refl refl
      (upd-same x.modes p _ (sys.pair_of t) of ∙ ap (λ (q : ℕ). settled_mode (x.modes q) (lacks_one sys p x)) (sym of))

  unsettled-view : (x : State) (p : ℕ) → sys.pair_of t ≢ p → view_of sys (settle_mode sys p x) t ≡ view_of sys x t
  unsettled-view x p differ = View-is refl refl refl refl refl (upd-other x.modes p _ (sys.pair_of t) differ)

  -- an entry of another terminal after which its pair may be up to date
  settles-other : (x : State) (p : ℕ) → view_of sys x t ≡ v → Moves sys t v (view_of sys (settle_mode sys p x) t)
  settles-other x p same =
      ⊎_elim
      (λ of.
      move.settles (lacks_one sys p x)
      (λ lacks live. subst (λ (w : View). IsThere w.memory) same (held x p lacks of (ap (λ (w : View). w.term.ending) same ∙ live)))
      (settled-view x p of ∙ ap (λ (w : View). record w { mode = settled_mode w.mode (lacks_one sys p x) }) same))
      (λ differ. move.stays (unsettled-view x p differ ∙ same))
      (cases_eq (sys.pair_of t) p)

  moves-applied : (own : ℕ) → Fits sys s (event.Applied own) → Moves sys t v (view_of sys (effect sys s (event.Applied own)) t)
  moves-applied own =
      at-own (λ (o : ℕ). Fits sys s (event.Applied o) → Moves sys t v (view_of sys (effect sys s (event.Applied o)) t)) own
      (λ l.
      move.applies l.message l.flies (⊎_elim (λ raising. rw raising tt) (λ paired. rw paired tt) l.mode) (lacks_one sys (sys.pair_of t) (taken t))
      (settled-view (taken t) (sys.pair_of t) refl
      ∙ View-is refl refl (upd-same s.memory t _ t refl ∙ ap (λ (m : Option Message). with_message m (s.memory t)) l.flies) (upd-same s.flight t None t refl) refl refl))
      (λ differ l. settles-other (taken own) (sys.pair_of own)
      (View-is refl refl (upd-other s.memory own _ t differ) (upd-other s.flight own None t differ) refl refl))
    where
      taken : ℕ → State
      taken o = record s { memory = upd s.memory o (with_message (s.flight o) (s.memory o)); flight = upd s.flight o None }

  moves-begin : (own n r : ℕ) → Fits sys s (event.Begin own n r) → Moves sys t v (view_of sys (effect sys s (event.Begin own n r)) t)
  moves-begin own n r =
      at-own (λ (o : ℕ). Fits sys s (event.Begin o n r) → Moves sys t v (view_of sys (effect sys s (event.Begin o n r)) t)) own
      (λ l. move.begins (able l.can) l.idle l.begins (λ same. l.new (same ∙ sym l.number)) l.held s.births
      (View-is refl (upd-same s.units t _ t refl ∙ ap (λ (m : ℕ). Some (unit_with_attempt m s.births (path_of s t) (s.units t))) l.number) refl refl
      (upd-same s.terms t _ t refl ∙ ap (λ (m : ℕ). record (s.terms t) { path = begun_path m (next_verb sys s t) (path_of s t) }) l.restarts) refl))
      (λ differ l. move.stays (View-is refl (upd-other s.units own _ t differ) refl refl (upd-other s.terms own _ t differ) refl))

  moves-again : (own n : ℕ) → Fits sys s (event.Again own n) → Moves sys t v (view_of sys (effect sys s (event.Again own n)) t)
  moves-again own n =
      at-own (λ (o : ℕ). Fits sys s (event.Again o n) → Moves sys t v (view_of sys (effect sys s (event.Again o n)) t)) own
      (λ l. move.is_answered_again (able l.can) l.class l.message l.asks l.outside (sym l.number ∙ sym l.last) (own-path _)) (λ differ l. move.stays (other-path own _ differ))

  -- a unit of another terminal ends
  other-over : (own : ℕ) (u : Option OpenUnit) (e : LastEnded) (x : Term) → t ≢ own
      → record v { unit = upd s.units own u t; last = upd s.ended own e t; term = upd s.terms own x t } ≡ v
  other-over own u e x differ = View-is (upd-other s.ended own e t differ) (upd-other s.units own u t differ) refl refl (upd-other s.terms own x t differ) refl

  moves-commit : (own n : ℕ) → Fits sys s (event.Commit own n) → Moves sys t v (view_of sys (effect sys s (event.Commit own n)) t)
  moves-commit own n =
      at-own (λ (o : ℕ). Fits sys s (event.Commit o n) → Moves sys t v (view_of sys (effect sys s (event.Commit o n)) t)) own
      (λ l. move.commits (able l.can) l.asks l.held
      (View-is (upd-same s.ended t _ t refl ∙ ap (λ (m : ℕ). record { number = m; reply = None }) l.number) (upd-same s.units t None t refl) refl refl (upd-same s.terms t _ t refl) refl))
      (λ differ l. move.stays (other-over own _ _ _ differ))

  moves-back : (own n : ℕ) → Fits sys s (event.Back own n) → Moves sys t v (view_of sys (effect sys s (event.Back own n)) t)
  moves-back own n =
      at-own (λ (o : ℕ). Fits sys s (event.Back o n) → Moves sys t v (view_of sys (effect sys s (event.Back o n)) t)) own
      (λ l. move.drops (able l.can) l.asks l.held
      (View-is (upd-same s.ended t _ t refl ∙ ap (λ (m : ℕ). record { number = m; reply = None }) l.number) (upd-same s.units t None t refl) refl refl (upd-same s.terms t _ t refl) refl))
      (λ differ l. move.stays (other-over own _ _ _ differ))

  moves-restart : (own n : ℕ) (kind : _) → Fits sys s (event.Restart own n kind) → Moves sys t v (view_of sys (effect sys s (event.Restart own n kind)) t)
  moves-restart own n kind =
      at-own (λ (o : ℕ). Fits sys s (event.Restart o n kind) → Moves sys t v (view_of sys (effect sys s (event.Restart o n kind)) t)) own
      (λ l. move.restarts l.unit l.caused.is_open l.caused.start l.caused.runs kind l.few
      (View-is refl (upd-same s.units t _ t refl ∙ ap (with_restart kind) l.caused.is_open) refl refl
      (upd-same s.terms t _ t refl ∙ ap (λ (q : Option (List PathAnswer)). with_start_path q (s.terms t)) (ap attempt_of l.caused.is_open ∙ l.caused.runs)) refl))
      (λ differ l. move.stays (View-is refl (upd-other s.units own _ t differ) refl refl (upd-other s.terms own _ t differ) refl))

  moves-reply : (c p own : ℕ) (fault : Option ℕ) → Fits sys s (event.Reply c p own fault) → Moves sys t v (view_of sys (change sys s (event.Reply c p own fault)) t)
  moves-reply c p own fault =
      at-own (λ (o : ℕ). LegalReply sys s c p o fault → Moves sys t v (view_of sys (change sys s (event.Reply c p o fault)) t)) own
      (λ l.
      reply-cases sys s c p t (λ (x : State). Moves sys t v (view_of sys x t)) fault l
      (λ reply none asks outside. move.is_served (waits c p l.job l.at_work l.whose) reply outside
      (View-is (upd-same s.ended t _ t refl) (upd-same s.units t None t refl) refl refl (upd-same s.terms t _ t refl) refl))
      (λ reply none asks inside. move.is_answered (waits c p l.job l.at_work l.whose) reply inside (own-path _))
      (λ x is asks. move.is_failed (waits c p l.job l.at_work l.whose) x (own-path _)))
      (λ differ l.
      reply-cases sys s c p own (λ (x : State). Moves sys t v (view_of sys x t)) fault l
      (λ reply none asks outside. move.stays (other-over own _ _ _ differ))
      (λ reply none asks inside. move.stays (other-path own _ differ))
      (λ x is asks. move.stays (other-path own _ differ)))

  -- a pair fails, and others stay
  pair-view : (p : ℕ) (mode : PairMode) (w : View) → sys.pair_of t ≡ p → record w { mode = upd s.modes p mode (sys.pair_of t) } ≡ record w { mode = mode }
  pair-view p mode w of = View-is refl refl refl refl refl (mode-of-pair sys s p t mode of)

  moves-fail-tcp : (p : ℕ) (primary : Bool) (k : ℕ) → Moves sys t v (view_of sys (change sys s (event.FailTcp p primary k)) t)
  moves-fail-tcp p primary k =
      fail-cases sys s (λ (x : State). Moves sys t v (view_of sys x t)) p (move.stays refl)
      (λ paired. ⊎_elim
      (λ of. move.goes_down (ap s.modes of ∙ paired)
      (View-is refl refl refl (of-pair sys p t None (s.flight t) of) (of-pair sys p t _ (s.terms t) of) (mode-of-pair sys s p t Down of)))
      (λ differ. move.stays (View-is refl refl refl (not-of-pair sys p t None (s.flight t) differ) (not-of-pair sys p t _ (s.terms t) differ) (mode-of-other sys s p t Down differ)))
      (cases_eq (sys.pair_of t) p))
      (λ is_primary breaks. ⊎_elim
      (λ of. move.is_lost
      (View-is (of-pair sys p t _ (s.ended t) of) (of-pair sys p t None (s.units t) of) (of-pair sys p t None (s.memory t) of) (of-pair sys p t None (s.flight t) of) (of-pair sys p t _ (s.terms t) of) (mode-of-pair sys s p t Gone of)))
      (λ differ. move.stays
      (View-is (not-of-pair sys p t _ (s.ended t) differ) (not-of-pair sys p t None (s.units t) differ) (not-of-pair sys p t None (s.memory t) differ) (not-of-pair sys p t None (s.flight t) differ) (not-of-pair sys p t _ (s.terms t) differ) (mode-of-other sys s p t Gone differ)))
      (cases_eq (sys.pair_of t) p))
      (λ works. ⊎_elim
      (λ of. move.loses_backup (subst (λ (q : ℕ). HasMessages (s.modes q)) (sym of) works)
      (View-is refl refl (of-pair sys p t None (s.memory t) of) (of-pair sys p t None (s.flight t) of) refl (mode-of-pair sys s p t Alone of)))
      (λ differ. move.stays (View-is refl refl (not-of-pair sys p t None (s.memory t) differ) (not-of-pair sys p t None (s.flight t) differ) refl (mode-of-other sys s p t Alone differ)))
      (cases_eq (sys.pair_of t) p))
      primary

  moves-fail-server : (c p k : ℕ) → Moves sys t v (view_of sys (change sys s (event.FailServer c p k)) t)
  moves-fail-server c p k =
      process-cases sys s (λ (x : State). Moves sys t v (view_of sys x t)) c p k (move.stays refl)
      (λ job works. ⊎_elim
      (λ same. move.loses_server (waits c p job works (sym same)) k
      (View-is refl refl refl refl (upd-same s.terms job.request.terminal _ t same ∙ ap (λ (o : ℕ). record (s.terms o) { pending = Some (cause.Server k) }) (sym same)) refl))
      (λ differ. move.stays (other-path job.request.terminal _ differ))
      (cases_eq t job.request.terminal))

  moves-takeover : (p : ℕ) → Fits sys s (event.Takeover p) → Moves sys t v (view_of sys (effect sys s (event.Takeover p)) t)
  moves-takeover p l =
      ⊎_elim (λ of. of-it of (s.terms t).ending refl)
      (λ differ. move.stays (View-is refl refl (not-of-pair sys p t None (s.memory t) differ) refl
      (cond-false (is_live_of sys p s t) _ (s.terms t) (and_left (is_of_pair sys p t) (is_none (s.terms t).ending) (ne_eqb (sys.pair_of t) p differ))) (mode-of-other sys s p t Alone differ)))
      (cases_eq (sys.pair_of t) p)
    where
      of-it : sys.pair_of t ≡ p → (e : Option Ending) → (s.terms t).ending ≡ e → Moves sys t v (view_of sys (effect sys s (event.Takeover p)) t)
      of-it of None live =
          let down : s.modes (sys.pair_of t) ≡ Down = ap s.modes of ∙ l.down in
          let memory = (i.terms t known).has_memory live (rw down tt) in
          move.is_taken_over p down live memory.0 memory.1
          (View-is refl refl (of-pair sys p t None (s.memory t) of) refl
          (cond-true (is_live_of sys p s t) _ (s.terms t) (and_from (is_of_pair sys p t) (is_none (s.terms t).ending) (eq-eqb (sys.pair_of t) p of) (ap is_none live))
          ∙ ap (λ (m : Option BackupCopy). resume_terminal p m (s.units t) (s.ended t) (s.terms t)) memory.1)
          (mode-of-pair sys s p t Alone of))
      of-it of (Some e) dead =
          move.is_passed_over (ap s.modes of ∙ l.down) e dead
          (View-is refl refl (of-pair sys p t None (s.memory t) of) refl
          (cond-false (is_live_of sys p s t) _ (s.terms t) (and-none (is_of_pair sys p t) dead)) (mode-of-pair sys s p t Alone of))
        where
          and-none : (of : Bool) → (s.terms t).ending ≡ Some e → (of && is_none (s.terms t).ending) ≡ false
          and-none true dead = ap is_none dead
          and-none false dead = refl

  moves-raise : (p : ℕ) → Fits sys s (event.Raise p) → Moves sys t v (view_of sys (effect sys s (event.Raise p)) t)
  moves-raise p l =
      ⊎_elim
      (λ of.
      let test = any_below-false sys.terminals (λ o. is_of_pair sys p o && is_takeover (s.terms o).pending) l.calm t known in
      let calm : is_takeover (s.terms t).pending ≡ false =
      ⊎_elim (λ not_of. absurd (true≢false (sym (eq-eqb (sys.pair_of t) p of) ∙ not_of))) (λ calm. calm) (and_cases (is_of_pair sys p t) (is_takeover (s.terms t).pending) test) in
      move.is_raised (ap s.modes of ∙ l.alone) calm (View-is refl refl (of-pair sys p t None (s.memory t) of) refl refl (mode-of-pair sys s p t Raising of)))
      (λ differ. move.stays (View-is refl refl (not-of-pair sys p t None (s.memory t) differ) refl refl (mode-of-other sys s p t Raising differ)))
      (cases_eq (sys.pair_of t) p)

  -- the terminal ends
  own-end : (e : Ending) (x : State) → view_of sys (settle_mode sys (sys.pair_of t) (end_terminal t e x)) t ≡ move.over e (lacks_one sys (sys.pair_of t) (end_terminal t e x)) (view_of sys x t)
  own-end e x =
      settled-view (end_terminal t e x) (sys.pair_of t) refl
      ∙ View-is refl refl (upd-same x.memory t None t refl) (upd-same x.flight t None t refl) (upd-same x.terms t _ t refl) refl

  other-end : (own : ℕ) (e : Ending) (x : State) → t ≢ own → view_of sys x t ≡ v → Moves sys t v (view_of sys (settle_mode sys (sys.pair_of own) (end_terminal own e x)) t)
  other-end own e x differ same =
      settles-other (end_terminal own e x) (sys.pair_of own)
      (View-is refl refl (upd-other x.memory own None t differ) (upd-other x.flight own None t differ) (upd-other x.terms own _ t differ) refl ∙ same)

  other-left : (own : ℕ) → t ≢ own → view_of sys (leave_units sys (only own) s) t ≡ v
  other-left own differ =
      View-is (cond-false (only own t) _ (s.ended t) (ne_eqb t own differ)) (cond-false (only own t) None (s.units t) (ne_eqb t own differ)) refl refl refl refl

  own-left : view_of sys (leave_units sys (only t) s) t ≡ record v { unit = None; last = last_after_leaving (s.units t) (s.ended t) }
  own-left = View-is (cond-true (only t t) _ (s.ended t) (eq-eqb t t refl)) (cond-true (only t t) None (s.units t) (eq-eqb t t refl)) refl refl refl refl

  moves-end : (own : ℕ) (e : Ending) → Fits sys s (event.End own e) → Moves sys t v (view_of sys (change sys s (event.End own e)) t)
  moves-end own e =
      at-own (λ (o : ℕ). LegalEnd sys s o e → Moves sys t v (view_of sys (change sys s (event.End o e)) t)) own
      (λ l.
      end-cases sys s (λ (x : State). Moves sys t v (view_of sys x t)) t e l
      (λ stopped. move.stops ending.Stopped _ stopped.can.live.going_on (stopped-idle sys b s i 0 0 reading_starts t stopped) (own-end ending.Stopped s))
      (λ lost. move.stops ending.Lost _ lost.live.going_on (ap attempt_of ((i.terms t known).lost lost.lost)) (own-end ending.Lost s))
      (λ leaves. move.leaves e _ (own-end e (leave_units sys (only t) s) ∙ ap (λ (w : View). move.over e (lacks_one sys (sys.pair_of t) (end_terminal t e (leave_units sys (only t) s))) w) own-left)))
      (λ differ l.
      end-cases sys s (λ (x : State). Moves sys t v (view_of sys x t)) own e l
      (λ stopped. other-end own ending.Stopped s differ refl)
      (λ lost. other-end own ending.Lost s differ refl)
      (λ leaves. other-end own e (leave_units sys (only own) s) differ (other-left own differ)))

  -- each entry
  pub moves : (entry : Event) → Fits sys s entry → Moves sys t v (view_of sys (effect sys s entry) t)
  moves (event.Show own phase attempt k) l = moves-show own phase attempt k l
  moves (event.Key own k) l = moves-key own k l
  moves (event.CheckStart own) l = moves-check-start own l
  moves (event.CheckEnd own) l = moves-check-end own l
  moves (event.CheckCopy own) l = moves-check-copy own l
  moves (event.Applied own) l = moves-applied own l
  moves (event.Begin own n r) l = moves-begin own n r l
  moves (event.Send own n c) l = move.stays refl
  moves (event.Take c p own) l = move.stays refl
  moves (event.File c p op mode f status) l =
      subst (λ (x : State). Moves sys t v (view_of sys x t)) (sym (file-is sys s c p op mode f status l)) (move.stays refl)
  moves (event.Reply c p own fault) l = moves-reply c p own fault l
  moves (event.Again own n) l = moves-again own n l
  moves (event.Commit own n) l = moves-commit own n l
  moves (event.Back own n) l = moves-back own n l
  moves (event.Restart own n kind) l = moves-restart own n kind l
  moves (event.FailTcp p primary k) l = moves-fail-tcp p primary k
  moves (event.FailServer c p k) l = moves-fail-server c p k
  moves (event.Takeover p) l = moves-takeover p l
  moves (event.Raise p) l = moves-raise p l
  moves (event.End own e) l = moves-end own e l

-- what is computed for a terminal from its view before and behind an entry
abbrev pub carried_view : Behaviour → ℕ → {A : Type 0} → (View → View → A → A) → State → Event → A → A
carried_view sys t next s entry a = next (view_of sys s t) (view_of sys (effect sys s entry) t) a

-- A property of one terminal's view and of what is computed for it beside the log, which each move keeps, holds behind every run
-- of a deck.
pub holds-of-views : (sys : Behaviour) → IsBehaviour sys → (t : ℕ) → t < sys.terminals → {A : Type 0} (next : View → View → A → A) (start : A) (P : View → A → Type 0)
    → ((log : List Event) → IsRun sys log → (v w : View) → v ≡ view_of sys (after sys log) t → Moves sys t v w → (a : A) → P v a → P w (next v w a))
    → P (view_of sys (starting sys) t) start
    → (log : List Event) → IsRun sys log → P (view_of sys (after sys log) t) (carried sys (carried_view sys t next) start log)
holds-of-views sys b t known next start P keeps first log run =
    behind-runs sys (carried_view sys t next) start (λ s a. P (view_of sys s t) a)
    (λ log run entry legal. keeps log run (view_of sys (after sys log) t) (view_of sys (effect sys (after sys log) entry) t) refl
    (moves sys b (after sys log) (kept sys b log run) t known entry legal.fits) (carried sys (carried_view sys t next) start log)) first log run

-- the same of a property of the view alone
pub holds-of-view : (sys : Behaviour) → IsBehaviour sys → (t : ℕ) → t < sys.terminals → (P : View → Type 0)
    → ((log : List Event) → IsRun sys log → (v w : View) → v ≡ view_of sys (after sys log) t → Moves sys t v w → P v → P w)
    → P (view_of sys (starting sys) t) → (log : List Event) → IsRun sys log → P (view_of sys (after sys log) t)
holds-of-view sys b t known P keeps first log run =
    holds-of-views sys b t known {A = Unit {0}} (λ v w a. tt) tt (λ v a. P v) (λ log run v w is move a. keeps log run v w is move) first log run

-- what every state of a run keeps of a terminal, in its view
abbrev pub TermAt : Behaviour → ℕ → View → Type 0
TermAt sys t v = TermOk sys t v.last.number v.unit v.memory v.flight v.term v.mode

-- the same of a property that is kept over such views
pub holds-of-terms : (sys : Behaviour) → IsBehaviour sys → (t : ℕ) → t < sys.terminals → {A : Type 0} (next : View → View → A → A) (start : A) (P : View → A → Type 0)
    → ((v w : View) → TermAt sys t v → TermAt sys t w → Moves sys t v w → (a : A) → P v a → P w (next v w a))
    → P (view_of sys (starting sys) t) start
    → (log : List Event) → IsRun sys log → P (view_of sys (after sys log) t) (carried sys (carried_view sys t next) start log)
holds-of-terms sys b t known next start P keeps first log run =
    behind-runs sys (carried_view sys t next) start (λ s a. P (view_of sys s t) a)
    (λ log run entry legal.
    let i = kept sys b log run in
    keeps (view_of sys (after sys log) t) (view_of sys (effect sys (after sys log) entry) t)
    (i.terms t known) ((still sys b (after sys log) i entry legal).terms t known)
    (moves sys b (after sys log) i t known entry legal.fits) (carried sys (carried_view sys t next) start log)) first log run
