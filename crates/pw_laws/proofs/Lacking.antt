-- While a pair is Raising, its memory lacks a live terminal.
use Rattle.std.proofs.Common.{◌≡◌, ◌≢◌, ℕ, zero, suc, ◌<◌, ⊎_elim, Bool, true, false, not, ◌&&◌, is_some, is_none, List, Option, Some, None, if◌then◌else◌, refl, ap, sym, subst, ◌∙◌, arith}
use Rattle.std.proofs.lemmas.Bool.{cases_eq, cases_Bool, cond-true, cond-false, eqb-true, true≢false, and_from}
use Rattle.pw_base.proofs.Plain.{and-first, and-second, drop-false}
use Rattle.pw_event.specs.declared.event.Ending.{Ending}
use Rattle.pw_event.specs.declared.event.Event.{Event}
use Rattle.pw_event.specs.declared.event.Event.TheVariants.{Show, Key, CheckStart, CheckEnd, CheckCopy, Applied, Begin, Send, Take, File, Reply, Again, Commit, Back, Restart, FailTcp, FailServer, Takeover, Raise, End}
use Rattle.pw_onecopy.proofs.Update.{upd_elim, upd-same, upd-other}
use Rattle.pw_onecopy.specs.Behaviour.{Behaviour}
use Rattle.pw_onecopy.specs.Path.{Failed, PathAnswer, Replied, unit_number}
use Rattle.pw_onecopy.specs.Update.{upd}
use Rattle.pw_paired.specs.End.{end_terminal}
use Rattle.pw_paired.specs.Failure.{lose_backup, with_start_path, lose_primary, lose_pair, is_live_of, is_of_pair, process_fails, resume_terminal}
use Rattle.pw_paired.specs.Raising.{lacks_one, settled_mode, with_message, settle_mode}
use Rattle.pw_paired.specs.Server.{free_process}
use Rattle.pw_paired.specs.State.{Alone, Down, Gone, LastEnded, BackupCopy, PairMode, OpenUnit, Paired, Raising, State, Term}
use Rattle.pw_paired.specs.Step.{Fits, IsRun, after, effect}
use Rattle.pw_paired.specs.Terminal.{path_of}
use Rattle.pw_paired.specs.Units.{give_answer, any_below, attempt_of, commit_unit, leave_units, only}
use Rattle.pw_laws.proofs.induction.Failed.{end-any, fail-cases, process-cases}
use Rattle.pw_laws.proofs.induction.Runs.{holds-behind}
use Rattle.pw_laws.proofs.induction.Served.{file-cases, reply-any}
use Rattle.pw_laws.proofs.terms.KeepsPairs.{any_below-false}

-- some number below n has a property
pub any_below-some : (n : ℕ) (has : ℕ → Bool) → any_below n has ≡ true → (j : ℕ) × (j < n) × (has j ≡ true)
any_below-some zero has some = absurd (true≢false (sym some))
any_below-some (suc n) has some =
    ⊎_elim
    (λ before. let one = any_below-some n has before in let below = one.1 in (one.0, omega (arith, below), one.2))
    (λ none. (n, omega arith, drop-false (any_below n has) (has n) none some))
    (cases_Bool (any_below n has))

-- a number below n has the property where one is known to
pub any_below-true : (n : ℕ) (has : ℕ → Bool) (j : ℕ) → j < n → has j ≡ true → any_below n has ≡ true
any_below-true n has j below there =
    ⊎_elim (λ some. some) (λ none. absurd (true≢false (sym there ∙ any_below-false n has none j below))) (cases_Bool (any_below n has))

module _ (sys : Behaviour) (p : ℕ) where
  abbrev LackingOk : State → Type 0
  LackingOk s = s.modes p ≡ Raising → lacks_one sys p s ≡ true

  lacks-more : (s after : State) → ((j : ℕ) → (after.terms j).ending ≡ (s.terms j).ending) → ((j : ℕ) → is_of_pair sys p j ≡ true → s.memory j ≡ None → after.memory j ≡ None)
      → lacks_one sys p s ≡ true → lacks_one sys p after ≡ true
  lacks-more s after endings memory lacks =
      let one = any_below-some sys.terminals (λ j. is_live_of sys p s j && not (is_some (s.memory j))) lacks in
      let live : is_live_of sys p s one.0 ≡ true = and-first (is_live_of sys p s one.0) (not (is_some (s.memory one.0))) one.2 in
      let none : s.memory one.0 ≡ None = empty (s.memory one.0) (and-second (is_live_of sys p s one.0) (not (is_some (s.memory one.0))) one.2) in
      any_below-true sys.terminals (λ j. is_live_of sys p after j && not (is_some (after.memory j))) one.0 one.1
      (and_from (is_live_of sys p after one.0) (not (is_some (after.memory one.0)))
      (ap (λ (e : Option Ending). is_of_pair sys p one.0 && is_none e) (endings one.0) ∙ live)
      (ap (λ (m : Option BackupCopy). not (is_some m)) (memory one.0 (and-first (is_of_pair sys p one.0) (is_none (s.terms one.0).ending) live) none)))
    where
      empty : (m : Option BackupCopy) → not (is_some m) ≡ true → m ≡ None
      empty None is = refl
      empty (Some held) is = absurd (true≢false (sym is))

  -- behind an entry that settles the pair
  settled-lacks : (s : State) → (settle_mode sys p s).modes p ≡ Raising → lacks_one sys p s ≡ true
  settled-lacks s is = by (s.modes p) (lacks_one sys p s) (sym (upd-same s.modes p (settled_mode (s.modes p) (lacks_one sys p s)) p refl) ∙ is)
    where
      by : (mode : PairMode) (lacks : Bool) → settled_mode mode lacks ≡ Raising → lacks ≡ true
      by Raising true is = refl
      by Raising false is = absurd (cc is)
      by Alone lacks is = absurd (cc is)
      by Paired lacks is = absurd (cc is)
      by Down lacks is = absurd (cc is)
      by Gone lacks is = absurd (cc is)

  module _ (s : State) (ok : LackingOk s) where
    kept : (after : State) → ((j : ℕ) → (after.terms j).ending ≡ (s.terms j).ending) → ((j : ℕ) → is_of_pair sys p j ≡ true → s.memory j ≡ None → after.memory j ≡ None)
        → (after.modes p ≡ Raising → s.modes p ≡ Raising) → LackingOk after
    kept after endings memory modes is = lacks-more s after endings memory (ok (modes is))

    own-ending : (own : ℕ) (term : Term) → term.ending ≡ (s.terms own).ending → (j : ℕ) → (upd s.terms own term j).ending ≡ (s.terms j).ending
    own-ending own term same j = upd_elim s.terms own term j (λ (x : Term). x.ending ≡ (s.terms j).ending) (λ is. subst (λ (o : ℕ). term.ending ≡ (s.terms o).ending) (sym is) same) (λ _. refl)

    -- a terminal's path or its pending cause changes alone
    own-term : (own : ℕ) (term : Term) (after : State) → term.ending ≡ (s.terms own).ending → after.terms ≡ upd s.terms own term → after.memory ≡ s.memory → after.modes ≡ s.modes → LackingOk after
    own-term own term after same terms memory modes =
        kept after (λ j. ap (λ (f : ℕ → Term). (f j).ending) terms ∙ own-ending own term same j) (λ j of none. ap (λ (m : ℕ → Option BackupCopy). m j) memory ∙ none)
        (λ is. ap (λ (m : ℕ → PairMode). m p) (sym modes) ∙ is)

    -- another mode of a pair
    other-mode : (q : ℕ) (mode : PairMode) → mode ≢ Raising → upd s.modes q mode p ≡ Raising → s.modes p ≡ Raising
    other-mode q mode differs = upd_elim s.modes q mode p (λ (m : PairMode). m ≡ Raising → s.modes p ≡ Raising) (λ _ is. absurd (differs is)) (λ _ is. is)

    emptied : (q j : ℕ) (x : Option BackupCopy) → x ≡ None → (if is_of_pair sys q j then None else x) ≡ None
    emptied q j x none = ⊎_elim (λ of. cond-true (is_of_pair sys q j) None x of) (λ other. cond-false (is_of_pair sys q j) None x other ∙ none) (cases_Bool (is_of_pair sys q j))

    if-ending : (b : Bool) (x y : Term) (e : Option Ending) → x.ending ≡ e → y.ending ≡ e → (if b then x else y).ending ≡ e
    if-ending true x y e one other = one
    if-ending false x y e one other = other

    resumed-ending : (q : ℕ) (memory : Option BackupCopy) (unit : Option OpenUnit) (last : LastEnded) (term : Term) → (resume_terminal q memory unit last term).ending ≡ term.ending
    resumed-ending q None unit last term = refl
    resumed-ending q (Some memory) unit last term = refl

    back-ending : (start : Option (List PathAnswer)) (term : Term) → (with_start_path start term).ending ≡ term.ending
    back-ending None term = refl
    back-ending (Some q) term = refl

    -- an entry of a terminal that settles its pair
    settles : (own : ℕ) (x : State) → x.modes ≡ s.modes → ((j : ℕ) → sys.pair_of j ≢ sys.pair_of own → (x.terms j).ending ≡ (s.terms j).ending)
        → ((j : ℕ) → sys.pair_of j ≢ sys.pair_of own → x.memory j ≡ s.memory j) → LackingOk (settle_mode sys (sys.pair_of own) x)
    settles own x modes endings memory =
        ⊎_elim
        (λ same. subst (λ (q : ℕ). (settle_mode sys q x).modes p ≡ Raising → lacks_one sys p (settle_mode sys q x) ≡ true) same (settled-lacks x))
        (λ differ is.
        others differ (ok (ap (λ (m : ℕ → PairMode). m p) (sym modes) ∙ (sym (upd-other x.modes (sys.pair_of own) _ p differ) ∙ is))))
        (cases_eq p (sys.pair_of own))
      where
        others : p ≢ sys.pair_of own → lacks_one sys p s ≡ true → lacks_one sys p x ≡ true
        others differ lacks =
            let one = any_below-some sys.terminals (λ j. is_live_of sys p s j && not (is_some (s.memory j))) lacks in
            let live : is_live_of sys p s one.0 ≡ true = and-first (is_live_of sys p s one.0) (not (is_some (s.memory one.0))) one.2 in
            let of : sys.pair_of one.0 ≡ p = eqb-true (sys.pair_of one.0) p (and-first (is_of_pair sys p one.0) (is_none (s.terms one.0).ending) live) in
            let away : sys.pair_of one.0 ≢ sys.pair_of own = λ same. differ (sym of ∙ same) in
            any_below-true sys.terminals (λ j. is_live_of sys p x j && not (is_some (x.memory j))) one.0 one.1
            (ap (λ (e : Option Ending). (is_of_pair sys p one.0 && is_none e) && not (is_some (x.memory one.0))) (endings one.0 away)
            ∙ (ap (λ (m : Option BackupCopy). is_live_of sys p s one.0 && not (is_some m)) (memory one.0 away) ∙ one.2))

    pair-differs : (own j : ℕ) → sys.pair_of j ≢ sys.pair_of own → j ≢ own
    pair-differs own j differ same = differ (ap sys.pair_of same)

    end-lacks : (own : ℕ) (e : Ending) (x : State) → x.terms ≡ s.terms → x.memory ≡ s.memory → x.modes ≡ s.modes → LackingOk (settle_mode sys (sys.pair_of own) (end_terminal own e x))
    end-lacks own e x terms memory modes =
        settles own (end_terminal own e x) modes
        (λ j differ. ap (λ (y : Term). y.ending) (upd-other x.terms own _ j (pair-differs own j differ) ∙ ap (λ (f : ℕ → Term). f j) terms))
        (λ j differ. upd-other x.memory own None j (pair-differs own j differ) ∙ ap (λ (m : ℕ → Option BackupCopy). m j) memory)

    keeps-lacking : (entry : Event) → Fits sys s entry → LackingOk (effect sys s entry)
    keeps-lacking (Show own phase attempt k) l = own-term own _ (effect sys s (Show own phase attempt k)) refl refl refl refl
    keeps-lacking (Key own k) l = own-term own _ (effect sys s (Key own k)) refl refl refl refl
    keeps-lacking (CheckStart own) l = ok
    keeps-lacking (CheckEnd own) l = ok
    keeps-lacking (CheckCopy own) l = ok
    keeps-lacking (Applied own) l =
        settles own (record s { memory = upd s.memory own (with_message (s.flight own) (s.memory own)); flight = upd s.flight own None }) refl (λ j differ. refl)
        (λ j differ. upd-other s.memory own _ j (pair-differs own j differ))
    keeps-lacking (Begin own n r) l = own-term own _ (effect sys s (Begin own n r)) refl refl refl refl
    keeps-lacking (Send own n c) l = ok
    keeps-lacking (Take c i own) l = ok
    keeps-lacking (File c i op mode f status) l = file-cases sys s c i LackingOk ok (λ job call works asks. ok)
    keeps-lacking (Reply c i own fault) l =
        reply-any sys s c i own LackingOk fault
        (λ reply outside. own-term own _ (give_answer own (Replied reply) (commit_unit own (unit_number (path_of s own)) (Some reply) (free_process c i s))) refl refl refl refl)
        (λ reply inside. own-term own _ (give_answer own (Replied reply) (free_process c i s)) refl refl refl refl)
        (λ x. own-term own _ (give_answer own (Failed x) (free_process c i s)) refl refl refl refl)
    keeps-lacking (Again own n) l = own-term own _ (effect sys s (Again own n)) refl refl refl refl
    keeps-lacking (Commit own n) l = own-term own _ (effect sys s (Commit own n)) refl refl refl refl
    keeps-lacking (Back own n) l = own-term own _ (effect sys s (Back own n)) refl refl refl refl
    keeps-lacking (Restart own n kind) l = own-term own _ (effect sys s (Restart own n kind)) (back-ending (attempt_of (s.units own)) (s.terms own)) refl refl refl
    keeps-lacking (FailTcp q primary k) l =
        fail-cases sys s LackingOk q ok
        (λ paired. kept (lose_primary sys q s) (λ j. if-ending (is_of_pair sys q j) _ (s.terms j) _ refl refl) (λ j of none. none) (other-mode q Down (λ is. cc is)))
        (λ member breaks.
        kept (lose_pair sys q s) (λ j. if-ending (is_of_pair sys q j) _ (s.terms j) _ refl refl) (λ j of none. emptied q j (s.memory j) none) (other-mode q Gone (λ is. cc is)))
        (λ has. kept (lose_backup sys q s) (λ j. refl) (λ j of none. emptied q j (s.memory j) none) (other-mode q Alone (λ is. cc is)))
        primary
    keeps-lacking (FailServer c i k) l =
        process-cases sys s LackingOk c i k ok (λ job works. own-term job.request.terminal _ (process_fails c i k (Some job) s) refl refl refl refl)
    keeps-lacking (Takeover q) l =
        kept (effect sys s (Takeover q)) (λ j. if-ending (is_live_of sys q s j) _ (s.terms j) _ (resumed-ending q (s.memory j) (s.units j) (s.ended j) (s.terms j)) refl)
        (λ j of none. emptied q j (s.memory j) none) (other-mode q Alone (λ is. cc is))
    keeps-lacking (Raise q) l =
        ⊎_elim
        (λ same is.
        let one = any_below-some sys.terminals (is_live_of sys q s) l.wanted in
        let of : is_of_pair sys q one.0 ≡ true = and-first (is_of_pair sys q one.0) (is_none (s.terms one.0).ending) one.2 in
        any_below-true sys.terminals (λ j. is_live_of sys p (effect sys s (Raise q)) j && not (is_some ((effect sys s (Raise q)).memory j))) one.0 one.1
        (and_from (is_live_of sys p s one.0) (not (is_some (if is_of_pair sys q one.0 then None else s.memory one.0))) (subst (λ (x : ℕ). is_live_of sys x s one.0 ≡ true) (sym same) one.2)
        (ap (λ (m : Option BackupCopy). not (is_some m)) (cond-true (is_of_pair sys q one.0) None (s.memory one.0) of))))
        (λ differ. kept (effect sys s (Raise q)) (λ j. refl) (λ j of none. emptied q j (s.memory j) none) (λ is. sym (upd-other s.modes q Raising p differ) ∙ is))
        (cases_eq p q)
    keeps-lacking (End own e) l = end-any sys s LackingOk own e (end-lacks own e s refl refl refl) (end-lacks own e (leave_units sys (only own) s) refl refl refl)

  -- in every run a pair that is Raising lacks a live terminal
  pub lacking : (log : List Event) → IsRun sys log → (after sys log).modes p ≡ Raising → lacks_one sys p (after sys log) ≡ true
  lacking log run = holds-behind sys LackingOk (λ log run entry legal ok. keeps-lacking (after sys log) ok entry legal.fits) (λ is. absurd (cc is)) log run
