-- A pair is Gone only by the failure of a member, and stays so.
use Rattle.std.proofs.Common.{◌≡◌, ◌≢◌, ◌⊎◌, ℕ, ⊎_elim, inl, inr, Bool, true, false, List, [], ◌∷◌, ◌++◌, None, refl, ap, sym, subst, ◌∙◌}
use Rattle.std.specs.Prelude.{◌↔◌}
use Rattle.pw_event.specs.declared.event.Ending.TheVariants as ending
use Rattle.pw_event.specs.declared.event.Event.{Event}
use Rattle.pw_event.specs.declared.event.Event.TheVariants.{Show, Key, CheckStart, CheckEnd, CheckCopy, Applied, Begin, Send, Take, File, Reply, Again, Commit, Back, Restart, FailTcp, FailServer, Takeover, Raise, End}
use Rattle.pw_onecopy.proofs.Update.{upd_elim, upd-same}
use Rattle.pw_onecopy.specs.Behaviour.{Behaviour}
use Rattle.pw_onecopy.specs.Update.{upd}
use Rattle.pw_paired.specs.End.{end_terminal}
use Rattle.pw_paired.specs.Failure.{backup_fails, do_fail_server, primary_fails}
use Rattle.pw_paired.specs.Raising.{lacks_one, settled_mode, with_message, settle_mode}
use Rattle.pw_paired.specs.Server.{do_file, do_reply}
use Rattle.pw_paired.specs.State.{Alone, Down, Gone, PairMode, Paired, Raising, State, starting}
use Rattle.pw_paired.specs.Step.{Fits, IsRun, IsRunFrom, after, after_from, effect}
use Rattle.pw_paired.specs.Units.{leave_units, only}
use Rattle.pw_laws.specs.progress.Running.{MadeGone}
use Rattle.pw_laws.proofs.RunSteps.{IsRunFrom-split, after_from-append, run-parts}
use Rattle.pw_laws.proofs.induction.Failed.{fail-by, process-cases}
use Rattle.pw_laws.proofs.induction.Served.{file-cases, reply-any}
use Rattle.pw_laws.proofs.terms.TermOk.{HasMessages}
use Rattle.pw_laws.specs.runs.Losses.{Breaks}

module _ (sys : Behaviour) (s : State) (p : ℕ) where
  -- the entry made the pair Gone
  record Breaking (entry : Event) : Type 0 where
    primary : Bool
    k : ℕ
    is : entry ≡ FailTcp p primary k
    breaks : Breaks primary (s.modes p)

  -- What an entry does to the mode of the pair: it is Gone just where it was, or by the entry, or it is another one, and then a legal entry has found
  -- it so.
  data Turns (entry : Event) (mode : PairMode) : Type 0 where
    keeps : (mode ≡ Gone) ↔ (s.modes p ≡ Gone) → Turns entry mode
    breaks : Breaking entry → mode ≡ Gone → Turns entry mode
    turns : mode ≢ Gone → (Fits sys s entry → s.modes p ≢ Gone) → Turns entry mode

  same : {entry : Event} (after : State) → after.modes p ≡ s.modes p → Turns entry (after.modes p)
  same after modes = keeps (λ gone. sym modes ∙ gone, λ gone. modes ∙ gone)

  settled-modes : {entry : Event} (q : ℕ) (x : State) → x.modes ≡ s.modes → Turns entry ((settle_mode sys q x).modes p)
  settled-modes {entry = entry} q x modes =
      upd_elim x.modes q (settled_mode (x.modes q) (lacks_one sys q x)) p (Turns entry)
      (λ is.
      keeps
      (subst (λ (m : PairMode). (settled_mode (x.modes q) (lacks_one sys q x) ≡ Gone) ↔ (m ≡ Gone))
      (ap x.modes (sym is) ∙ ap (λ (m : ℕ → PairMode). m p) modes)
      (by (x.modes q) (lacks_one sys q x))))
      (λ _. same x (ap (λ (m : ℕ → PairMode). m p) modes))
    where
      by : (mode : PairMode) (lacks : Bool) → (settled_mode mode lacks ≡ Gone) ↔ (mode ≡ Gone)
      by Gone lacks = (λ is. is, λ is. is)
      by Raising true = (λ is. is, λ is. is)
      by Raising false = (λ is. absurd (cc is), λ is. absurd (cc is))
      by Alone lacks = (λ is. is, λ is. is)
      by Paired lacks = (λ is. is, λ is. is)
      by Down lacks = (λ is. is, λ is. is)

  -- another mode than Gone for a pair that is not Gone
  other-mode : {entry : Event} (q : ℕ) (mode : PairMode) → mode ≢ Gone → (Fits sys s entry → s.modes q ≢ Gone) → Turns entry (upd s.modes q mode p)
  other-mode {entry = entry} q mode differs there =
      upd_elim s.modes q mode p (Turns entry) (λ is. turns differs (λ fits gone. there fits (ap s.modes (sym is) ∙ gone))) (λ _. same s refl)

  -- a pair is lost by the failure of a member in its mode
  lost-by : (q : ℕ) (primary : Bool) (k : ℕ) → Breaks primary (s.modes q) → Turns (FailTcp q primary k) (upd s.modes q Gone p)
  lost-by q primary k broken =
      upd_elim s.modes q Gone p (Turns (FailTcp q primary k))
      (λ is.
      breaks
      (record {
        primary = primary;
        k = k;
        is = ap (λ (x : ℕ). FailTcp x primary k) (sym is);
        breaks = subst (λ (x : ℕ). Breaks primary (s.modes x)) (sym is) broken;
      })
      refl)
      (λ _. same s refl)

  abbrev Kept : State → Type 0
  Kept x = x.modes ≡ s.modes

  turns-of : (entry : Event) → Turns entry ((effect sys s entry).modes p)
  turns-of (Show own phase attempt k) = same s refl
  turns-of (Key own k) = same s refl
  turns-of (CheckStart own) = same s refl
  turns-of (CheckEnd own) = same s refl
  turns-of (CheckCopy own) = same s refl
  turns-of (Applied own) = settled-modes (sys.pair_of own) (record s { memory = upd s.memory own (with_message (s.flight own) (s.memory own)); flight = upd s.flight own None }) refl
  turns-of (Begin own n r) = same s refl
  turns-of (Send own n c) = same s refl
  turns-of (Take c i own) = same s refl
  turns-of (File c i op mode f status) =
      same (do_file sys c i s) (ap (λ (m : ℕ → PairMode). m p) (file-cases sys s c i Kept refl (λ job call works asks. refl)))
  turns-of (Reply c i own fault) =
      same (do_reply sys c i own fault s) (ap (λ (m : ℕ → PairMode). m p) (reply-any sys s c i own Kept fault (λ reply outside. refl) (λ reply inside. refl) (λ x. refl)))
  turns-of (Again own n) = same s refl
  turns-of (Commit own n) = same s refl
  turns-of (Back own n) = same s refl
  turns-of (Restart own n cause) = same s refl
  turns-of (FailTcp q primary k) =
      fail-by sys s (λ x. Turns (FailTcp q primary k) (x.modes p)) q primary (same s refl)
      (λ paired. other-mode q Down (λ e. cc e) (λ _ gone. cc (paired, gone))) (lost-by q primary k)
      (λ has. other-mode q Alone (λ e. cc e) (λ _ gone. subst HasMessages gone has))
  turns-of (FailServer c i k) = same (do_fail_server c i k s) (ap (λ (m : ℕ → PairMode). m p) (process-cases sys s Kept c i k refl (λ job works. refl)))
  turns-of (Takeover q) = other-mode q Alone (λ e. cc e) (λ fits gone. let down = fits.down in cc (down, gone))
  turns-of (Raise q) = other-mode q Raising (λ e. cc e) (λ fits gone. let alone = fits.alone in cc (alone, gone))
  turns-of (End own ending.Stopped) = settled-modes (sys.pair_of own) (end_terminal own ending.Stopped s) refl
  turns-of (End own ending.Lost) = settled-modes (sys.pair_of own) (end_terminal own ending.Lost s) refl
  turns-of (End own ending.NoEntries) = settled-modes (sys.pair_of own) (end_terminal own ending.NoEntries (leave_units sys (only own) s)) refl
  turns-of (End own (ending.Fault x)) = settled-modes (sys.pair_of own) (end_terminal own (ending.Fault x) (leave_units sys (only own) s)) refl
  turns-of (End own (ending.Suspended cause)) = settled-modes (sys.pair_of own) (end_terminal own (ending.Suspended cause) (leave_units sys (only own) s)) refl

  -- a pair that an entry finds in another mode and leaves Gone was broken by it
  breaking : {entry : Event} {mode : PairMode} → Turns entry mode → s.modes p ≢ Gone → mode ≡ Gone → Breaking entry
  breaking (keeps both) there lost = absurd (there (both.0 lost))
  breaking (breaks broken is) there lost = broken
  breaking (turns differs found) there lost = absurd (differs lost)

  -- a pair that is Gone stays so
  staying : {entry : Event} {mode : PairMode} → Turns entry mode → Fits sys s entry → s.modes p ≡ Gone → mode ≡ Gone
  staying (keeps both) fits gone = both.1 gone
  staying (breaks broken is) fits gone = is
  staying (turns differs found) fits gone = absurd (found fits gone)

  -- the failure of a member that breaks the pair leaves it Gone
  failing : (primary : Bool) (k : ℕ) → Breaks primary (s.modes p) → (effect sys s (FailTcp p primary k)).modes p ≡ Gone
  failing true k (inl raising) = ap (λ (m : PairMode). (primary_fails sys p m s).modes p) raising ∙ upd-same s.modes p Gone p refl
  failing true k (inr alone) = ap (λ (m : PairMode). (primary_fails sys p m s).modes p) alone ∙ upd-same s.modes p Gone p refl
  failing false k down = ap (λ (m : PairMode). (backup_fails sys p m s).modes p) down ∙ upd-same s.modes p Gone p refl

is-gone : (mode : PairMode) → (mode ≡ Gone) ⊎ (mode ≢ Gone)
is-gone Gone = inl refl
is-gone Alone = inr (λ e. cc e)
is-gone Raising = inr (λ e. cc e)
is-gone Paired = inr (λ e. cc e)
is-gone Down = inr (λ e. cc e)

gone-from : (sys : Behaviour) (s : State) (p : ℕ) (log : List Event) → s.modes p ≢ Gone → (after_from sys s log).modes p ≡ Gone → MadeGone sys s log p
gone-from sys s p [] there lost = absurd (there lost)
gone-from sys s p (entry ∷ log) there lost =
    ⊎_elim
    (λ now.
    let breaks = breaking sys s p (turns-of sys s p entry) there now in
    record { before = []; primary = breaks.primary; k = breaks.k; behind = log; parts = ap (λ (e : Event). e ∷ log) breaks.is; breaks = breaks.breaks })
    (λ still.
    let rest = gone-from sys (effect sys s entry) p log still lost in
    record { before = entry ∷ rest.before; primary = rest.primary; k = rest.k; behind = rest.behind; parts = ap (λ (l : List Event). entry ∷ l) rest.parts; breaks = rest.breaks })
    (is-gone ((effect sys s entry).modes p))

-- a pair that is Gone was made so by a FAIL TCP entry
pub made-gone : (sys : Behaviour) (log : List Event) (p : ℕ) → (after sys log).modes p ≡ Gone → MadeGone sys (starting sys) log p
made-gone sys log p lost = gone-from sys (starting sys) p log (λ e. cc e) lost

-- a pair that is Gone stays so
pub gone-stays : (sys : Behaviour) (s : State) (p : ℕ) (log : List Event) → IsRunFrom sys s log → s.modes p ≡ Gone
    → (after_from sys s log).modes p ≡ Gone
gone-stays sys s p [] run gone = gone
gone-stays sys s p (entry ∷ log) run gone =
    gone-stays sys (effect sys s entry) p log run.1 (staying sys s p (turns-of sys s p entry) run.0.fits gone)

-- a pair that a FAIL TCP entry of a run made Gone is so behind the run
pub gone-made : (sys : Behaviour) (log : List Event) (p : ℕ) → IsRun sys log → MadeGone sys (starting sys) log p
    → (after sys log).modes p ≡ Gone
gone-made sys log p run made =
    let s : State = after sys made.before in
    let fail : Event = FailTcp p made.primary made.k in
    let rest = (run-parts sys log made.before (fail ∷ made.behind) run made.parts).1 in
    ap (λ (l : List Event). (after sys l).modes p) made.parts
    ∙ (ap (λ (x : State). x.modes p) (after_from-append sys (starting sys) made.before (fail ∷ made.behind))
    ∙ gone-stays sys (effect sys s fail) p made.behind rest.1 (failing sys s p made.primary made.k made.breaks))

-- a terminal is lost only so
pub lost-by-failure : (sys : Behaviour) (log : List Event) (t : ℕ) → IsRun sys (log ++ End t ending.Lost ∷ []) → MadeGone sys (starting sys) log (sys.pair_of t)
lost-by-failure sys log t run = made-gone sys log (sys.pair_of t) (IsRunFrom-split sys (starting sys) log (End t ending.Lost ∷ []) run).1.0.fits.lost
