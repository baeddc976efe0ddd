-- The machine follows an entry of one terminal, where it follows this terminal.
use Rattle.std.proofs.Common.{◌≡◌, ◌≢◌, ⊎_elim, ℕ, ◌<◌, ◌≤◌, List, [], ◌∷◌, ◌++◌, length, Some, None, ◌==◌, ap, sym, subst, append-nil, ◌∙◌}
use Rattle.std.proofs.lemmas.Bool.{cases_eq, cond-false, cond-true, eq-eqb, ne_eqb}
use Rattle.std.proofs.lemmas.List.Elements.{filter-append}
use Rattle.pw_event.specs.declared.event.Event.{Event}
use Rattle.pw_onecopy.specs.declared.refresh.Refresh.{Refresh}
use Rattle.pw_onecopy.specs.IsBehaviour.{IsBehaviour}
use Rattle.pw_onecopy.specs.OneCopy.{IsSerialFrom, Machine, Single, one_copy, run_blocks}
use Rattle.pw_onecopy.specs.Attempt.{attempt}
use Rattle.pw_onecopy.specs.Path.{PathAnswer}
use Rattle.pw_onecopy.specs.Refreshes.{once, refreshes_of}
use Rattle.pw_onecopy.specs.Blocks.{SerialBlock}
use Rattle.pw_paired.specs.Serial.{blocks_of}
use Rattle.pw_paired.specs.State.{Gone, PairMode, OpenUnit, State, Term}
use Rattle.pw_paired.specs.Step.{effect}
use Rattle.pw_onecopy.specs.Behaviour.{Behaviour}
use Rattle.pw_paired.specs.Units.{attempt_of, committed_files, restarts_of}
use Rattle.pw_laws.proofs.blocks.Fold.{Fold, fold_on}
use Rattle.pw_laws.proofs.blocks.Following.{Follows, FollowsAll, GoesOn, IsStranger, refreshes_so_far, running_refreshes}
use Rattle.pw_laws.proofs.blocks.Known.{Known}
use Rattle.pw_laws.proofs.blocks.Others.{follow-by, frontier-stays, longest-kept, other-follows, stranger-follows}
use Rattle.pw_laws.proofs.induction.Views.{view_of}
use Rattle.pw_laws.proofs.screens.Once.{IsIn}

-- one refresh more, of a terminal or of another one
pub refreshes-more : (t : ℕ) (shown : List Refresh) (r : Refresh) → r.terminal ≡ t → refreshes_of t (shown ++ r ∷ []) ≡ refreshes_of t shown ++ r ∷ []
refreshes-more t shown r own =
    filter-append (λ (x : Refresh). x.terminal == t) shown (r ∷ [])
    ∙ ap (λ (l : List Refresh). refreshes_of t shown ++ l) (cond-true (r.terminal == t) (r ∷ []) [] (eq-eqb r.terminal t own))

-- a refresh of another terminal changes nothing
pub refreshes-other : (t : ℕ) (shown : List Refresh) (r : Refresh) → (r.terminal ≡ t → ⊥) → refreshes_of t (shown ++ r ∷ []) ≡ refreshes_of t shown
refreshes-other t shown r other =
    filter-append (λ (x : Refresh). x.terminal == t) shown (r ∷ [])
    ∙ (ap (λ (l : List Refresh). refreshes_of t shown ++ l) (cond-false (r.terminal == t) (r ∷ []) [] (ne_eqb r.terminal t other)) ∙ append-nil (refreshes_of t shown))

module _ (sys : Behaviour) (b : IsBehaviour sys) (s : State) (f : Fold) (known : Known sys b s f) (all : FollowsAll sys s f) (entry : Event) (t : ℕ) (here : t < sys.terminals) where
  abbrev next : State
  next = effect sys s entry

  abbrev now : Fold
  now = fold_on sys s entry f

  abbrev machine : Machine
  machine = one_copy sys f.order

  -- the others stay as they were
  pub own-follows : (more : List SerialBlock) → blocks_of sys s f.reading entry ≡ more → IsSerialFrom sys machine more → (run_blocks sys machine more).files ≡ committed_files sys next
      → ((o : ℕ) → o ≢ t → (run_blocks sys machine more).terms o ≡ machine.terms o)
      → ((o : ℕ) → o ≢ t → next.terms o ≡ s.terms o) → ((o : ℕ) → o ≢ t → next.units o ≡ s.units o) → next.modes ≡ s.modes
      → ((o : ℕ) → o ≢ t → now.reading.answers o ≡ f.reading.answers o) → ((o : ℕ) → o ≢ t → refreshes_of o now.shown ≡ refreshes_of o f.shown)
      → ((o : ℕ) → o ≢ t → (u : OpenUnit) (q : List PathAnswer) → s.units o ≡ Some u → u.running ≡ Some q
      → (attempt sys o q (committed_files sys next) u.restarts (f.reading.answers o)).refreshes ≡ (attempt sys o q (committed_files sys s) u.restarts (f.reading.answers o)).refreshes)
      → Follows sys next now t ((run_blocks sys machine more).terms t) → FollowsAll sys next now
  own-follows more blocks serial files others terms units modes answers shown same own =
      follow-by sys b s f entry more blocks all.serial serial files
      (λ o is_known.
      ⊎_elim (λ is. subst (λ (x : ℕ). Follows sys next now x ((run_blocks sys machine more).terms x)) (sym is) own)
      (λ differ.
      subst (λ (x : Single). Follows sys next now o x) (sym (others o differ))
      (other-follows sys b s f entry o (machine.terms o) (ap (λ (x : Term). x.ending) (terms o differ)) (there o) (units o differ)
      (λ live open_pair.
      frontier-stays sys b s f entry o
      (λ idle. subst (λ (x : Term). length x.path ≤ length (f.frontier o)) (sym (terms o differ))
      ((known.frontiers o is_known (ap (λ (x : Term). x.ending) (sym (terms o differ)) ∙ live) (there o open_pair)).short (ap attempt_of (sym (units o differ)) ∙ idle))))
      (answers o differ) (shown o differ) (same o differ) (all.terms o is_known)))
      (cases_eq o t))
      (λ o unknown.
      let differ : o ≢ t = λ is. unknown (subst (λ (x : ℕ). x < sys.terminals) (sym is) here) in
      subst (λ (x : Single). IsStranger next now o x) (sym (others o differ))
      (stranger-follows sys b s f entry o (machine.terms o) (ap (λ (x : Term). x.ending) (terms o differ)) (shown o differ) (all.strangers o unknown)))
    where
      there : (o : ℕ) → next.modes (sys.pair_of o) ≢ Gone → s.modes (sys.pair_of o) ≢ Gone
      there o = subst (λ (m : ℕ → PairMode). m (sys.pair_of o) ≢ Gone → s.modes (sys.pair_of o) ≢ Gone) (sym modes) (λ x. x)

  -- the terminal itself, where the machine's terminal stays and nothing new is shown
  pub same-follows : (next.terms t).ending ≡ (s.terms t).ending → next.modes ≡ s.modes → restarts_of (next.units t) ≡ restarts_of (s.units t)
      → ((next.terms t).ending ≡ None → next.modes (sys.pair_of t) ≢ Gone → now.frontier t ≡ f.frontier t)
      → running_refreshes sys t (committed_files sys next) (now.reading.answers t) (next.units t) ≡ running_refreshes sys t (committed_files sys s) (f.reading.answers t) (s.units t)
      → refreshes_of t now.shown ≡ refreshes_of t f.shown → Follows sys next now t (machine.terms t)
  same-follows ending modes restarts frontier running shown =
      let ok = all.terms t here in
      let so_far : refreshes_so_far sys next now t (machine.terms t) ≡ refreshes_so_far sys s f t (machine.terms t) = ap (λ (l : List Refresh). (machine.terms t).refreshes ++ l) running in
      record {
        ending = ok.ending ∙ sym ending;
        goes = λ live there.
            let g = ok.goes (sym ending ∙ live) (subst (λ (m : ℕ → PairMode). m (sys.pair_of t) ≢ Gone) modes there) in
            record { path = g.path ∙ sym (frontier live there); restarts = g.restarts ∙ sym restarts; not_left = g.not_left; bounded = g.bounded; covers = g.covers };
        longest = longest-kept (view_of sys s t) (view_of sys next t) (f.reading.longest t) (f.frontier t) ok.longest;
        screens = ap once shown ∙ (ok.screens ∙ sym so_far);
        each = λ x there_in. subst (IsIn x) (sym so_far) (ok.each x (subst (IsIn x) shown there_in));
      }

  -- the terminal itself, with this terminal of the machine, where nothing new is shown
  pub plain-follows : (single : Single) → single.ending ≡ (next.terms t).ending
      → ((next.terms t).ending ≡ None → next.modes (sys.pair_of t) ≢ Gone → GoesOn sys t single (now.frontier t) (next.units t))
      → refreshes_so_far sys next now t single ≡ refreshes_so_far sys s f t (machine.terms t)
      → refreshes_of t now.shown ≡ refreshes_of t f.shown → Follows sys next now t single
  plain-follows single ending goes so_far shown = record {
    ending = ending;
    goes = goes;
    longest = longest-kept (view_of sys s t) (view_of sys next t) (f.reading.longest t) (f.frontier t) (all.terms t here).longest;
    screens = ap once shown ∙ ((all.terms t here).screens ∙ sym so_far);
    each = λ x there_in. subst (IsIn x) (sym so_far) ((all.terms t here).each x (subst (IsIn x) shown there_in));
  }
