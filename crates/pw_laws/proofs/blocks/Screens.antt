-- The machine follows a SHOW.
use Rattle.std.proofs.Common.{◌≡◌, ◌≢◌, ⊎_elim, ℕ, suc, ◌+◌, ◌<◌, ◌≤◌, false, ◌&&◌, is_none, List, [], ◌∷◌, ◌++◌, length, Some, None, refl, ap, sym, subst, append-nil, append_assoc, length-append, arith, ◌∙◌}
use Rattle.std.specs.Prelude.{nat_lt}
use Rattle.std.proofs.lemmas.Bool.{and_from, and_left, and_right, cond-false, cond-true, le-ltb, lt-ltb}
use Rattle.pw_code.specs.declared.verb.Verb.{Verb}
use Rattle.pw_code.specs.declared.verb.Verb.TheVariants as verb
use Rattle.pw_event.specs.declared.event.Event.{Event}
use Rattle.pw_event.specs.declared.event.Event.TheVariants as event
use Rattle.pw_onecopy.proofs.Update.{upd-other, upd-same}
use Rattle.pw_onecopy.specs.IsBehaviour.{IsBehaviour}
use Rattle.pw_onecopy.specs.declared.refresh.Refresh.{Refresh}
use Rattle.pw_onecopy.specs.OneCopy.{AsksOut, IsSerialFrom, Machine, Single, one_copy, single_behind_out, run_blocks}
use Rattle.pw_onecopy.specs.Attempt.{Attempt, attempt, answer_verb, BeginsUnit}
use Rattle.pw_onecopy.specs.Path.{PathAnswer, RefreshNumber, Shown}
use Rattle.pw_paired.specs.Raising.{is_takeover}
use Rattle.pw_onecopy.specs.Refreshes.{next_refresh, once, refresh_numbered, refreshes_of}
use Rattle.pw_onecopy.specs.Blocks.{SerialBlock, Out}
use Rattle.pw_paired.specs.Serial.{is_idle, out_block}
use Rattle.pw_paired.specs.State.{Gone, OpenUnit, State, Term}
use Rattle.pw_paired.specs.Step.{Fits, effect}
use Rattle.pw_onecopy.specs.Behaviour.{Behaviour}
use Rattle.pw_paired.specs.Terminal.{LegalShow, path_of}
use Rattle.pw_paired.specs.Units.{attempt_of, committed_files}
use Rattle.pw_laws.proofs.blocks.Fold.{Fold, fold_on}
use Rattle.pw_laws.proofs.blocks.Following.{Follows, FollowsAll, GoesOn, refreshes_so_far, running_refreshes}
use Rattle.pw_laws.proofs.blocks.Known.{Known}
use Rattle.pw_laws.proofs.blocks.Others.{frontier-stays, longest-kept}
use Rattle.pw_laws.proofs.blocks.Own.{own-follows, refreshes-more, refreshes-other}
use Rattle.pw_laws.proofs.blocks.Running.{AtWork, at-work, numbered-at, running-idle, running-is}
use Rattle.pw_laws.proofs.frontier.Frontier.{FrontierOk}
use Rattle.pw_laws.proofs.frontier.Leads.{IsForced, Leads, Next, goes_on, is_there, leads-short, next-of}
use Rattle.pw_laws.proofs.frontier.Standing.{Where, closed, grows, one-longer, running, waiting, where-of}
use Rattle.pw_laws.proofs.induction.Views.{view_of}
use Rattle.pw_laws.proofs.screens.Once.{IsIn, has_number, has-once, in-has, in-left, in-parts, in-right, once-new, once-there, parts-same}
use Rattle.pw_laws.proofs.screens.Numbers.{Covers, covers-at, covers-shown, next-bounded, next-new}
use Rattle.pw_laws.specs.locking.Records.{commits_at}

-- a SHOW or KEY reads as Out, or as nothing
pub out-is : (s : State) (f : Fold) (t : ℕ) → attempt_of (s.units t) ≡ None → f.reading.longest t < length (path_of s t) + 1 → out_block s f.reading t ≡ Out t ∷ []
out-is s f t idle longer =
    cond-true (is_idle s t && nat_lt (f.reading.longest t) (length (path_of s t) + 1)) (Out t ∷ []) []
    (and_from (is_idle s t) (nat_lt (f.reading.longest t) (length (path_of s t) + 1)) (ap is_none idle) (lt-ltb (f.reading.longest t) (length (path_of s t) + 1) longer))

-- a path that is no longer reads as nothing
pub out-short : (s : State) (f : Fold) (t : ℕ) → length (path_of s t) + 1 ≤ f.reading.longest t → out_block s f.reading t ≡ []
out-short s f t short =
    cond-false (is_idle s t && nat_lt (f.reading.longest t) (length (path_of s t) + 1)) (Out t ∷ []) []
    (and_right (is_idle s t) (nat_lt (f.reading.longest t) (length (path_of s t) + 1)) (le-ltb (f.reading.longest t) (length (path_of s t) + 1) short))

-- nor does one while an attempt runs
pub out-running : (s : State) (f : Fold) (t : ℕ) (q : List PathAnswer) → attempt_of (s.units t) ≡ Some q → out_block s f.reading t ≡ []
out-running s f t q runs =
    cond-false (is_idle s t && nat_lt (f.reading.longest t) (length (path_of s t) + 1)) (Out t ∷ []) []
    (and_left (is_idle s t) (nat_lt (f.reading.longest t) (length (path_of s t) + 1)) (ap is_none runs))

module _ (sys : Behaviour) (b : IsBehaviour sys) (s : State) (f : Fold) (known : Known sys b s f) (all : FollowsAll sys s f)
    (stay : (entry : Event) → commits_at s entry ≡ false → Fits sys s entry → committed_files sys (effect sys s entry) ≡ committed_files sys s)
    (t phase attempt_no k : ℕ) (l : LegalShow sys s t phase attempt_no k) where
  abbrev entry : Event
  entry = event.Show t phase attempt_no k

  abbrev next : State
  next = effect sys s entry

  abbrev now : Fold
  now = fold_on sys s entry f

  abbrev machine : Machine
  machine = one_copy sys f.order

  abbrev path : List PathAnswer
  path = path_of s t

  abbrev r : Refresh
  r = next_refresh sys t path

  here : t < sys.terminals
  here = l.can.live.known

  there : s.modes (sys.pair_of t) ≢ Gone
  there gone = absurd (let paired = l.can.paired in cc (paired, gone))

  ok : FrontierOk sys t (view_of sys s t) (f.frontier t)
  ok = known.frontiers t here l.can.live.going_on there

  follows : Follows sys s f t (machine.terms t)
  follows = all.terms t here

  goes : GoesOn sys t (machine.terms t) (f.frontier t) (s.units t)
  goes = follows.goes l.can.live.going_on there

  abbrev so_far : List Refresh
  so_far = refreshes_so_far sys s f t (machine.terms t)

  -- the entry's refresh is the path's next one
  is-next : r ≡ record { terminal = t; phase = phase; attempt = attempt_no; k = k; image = sys.image t path }
  is-next = ap (λ (n : RefreshNumber). refresh_numbered t n (sys.image t path)) l.number

  shown-more : refreshes_of t now.shown ≡ refreshes_of t f.shown ++ r ∷ []
  shown-more = refreshes-more t f.shown _ refl ∙ ap (λ (x : Refresh). refreshes_of t f.shown ++ x ∷ []) (sym is-next)

  new-path : path_of next t ≡ path ++ Shown ∷ []
  new-path = ap (λ (x : Term). x.path) (upd-same s.terms t _ t refl)

  ending-same : (next.terms t).ending ≡ (s.terms t).ending
  ending-same = ap (λ (x : Term). x.ending) (upd-same s.terms t _ t refl)

  longest : now.reading.longest t ≡ length (now.frontier t)
  longest = longest-kept (view_of sys s t) (view_of sys next t) (f.reading.longest t) (f.frontier t) follows.longest

  -- a new refresh is counted
  counted-new : (single : Single) → single.ending ≡ (s.terms t).ending
      → ((s.terms t).ending ≡ None → s.modes (sys.pair_of t) ≢ Gone → GoesOn sys t single (now.frontier t) (s.units t))
      → refreshes_so_far sys next now t single ≡ so_far ++ r ∷ [] → has_number r so_far ≡ false → Follows sys next now t single
  counted-new single ending going is none = record {
    ending = ending ∙ sym ending-same;
    goes = λ live there. going (sym ending-same ∙ live) there;
    longest = longest;
    screens =
        ap once shown-more
        ∙ (once-new r (refreshes_of t f.shown) (sym (has-once r (refreshes_of t f.shown)) ∙ (ap (has_number r) follows.screens ∙ none))
        ∙ (ap (λ (x : List Refresh). x ++ r ∷ []) follows.screens ∙ sym is));
    each = λ x there_in.
        subst (IsIn x) (sym is)
        (⊎_elim (λ old. in-left x so_far (r ∷ []) (follows.each x old)) (λ new. in-right x so_far (r ∷ []) new)
        (in-parts x (refreshes_of t f.shown) (r ∷ []) (subst (IsIn x) shown-more there_in)));
  }

  -- an old one is not
  counted-old : (single : Single) → single.ending ≡ (s.terms t).ending
      → ((s.terms t).ending ≡ None → s.modes (sys.pair_of t) ≢ Gone → GoesOn sys t single (now.frontier t) (s.units t))
      → refreshes_so_far sys next now t single ≡ so_far → IsIn r so_far → Follows sys next now t single
  counted-old single ending going is old = record {
    ending = ending ∙ sym ending-same;
    goes = λ live there. going (sym ending-same ∙ live) there;
    longest = longest;
    screens =
        ap once shown-more
        ∙ (once-there r (refreshes_of t f.shown)
        (sym (has-once r (refreshes_of t f.shown)) ∙ (ap (has_number r) follows.screens ∙ in-has r r so_far old (parts-same r r refl refl refl)))
        ∙ (follows.screens ∙ sym is));
    each = λ x there_in.
        subst (IsIn x) (sym is)
        (⊎_elim (λ was. follows.each x was) (λ new. ⊎_elim (λ same. subst (λ (y : Refresh). IsIn y so_far) (sym same) old) (λ none. absurd none) new)
        (in-parts x (refreshes_of t f.shown) (r ∷ []) (subst (IsIn x) shown-more there_in)));
  }

  -- all of it, where this is the terminal
  by-own : (more : List SerialBlock) → out_block s f.reading t ≡ more → IsSerialFrom sys machine more → (run_blocks sys machine more).files ≡ machine.files
      → ((o : ℕ) → o ≢ t → (run_blocks sys machine more).terms o ≡ machine.terms o)
      → Follows sys next now t ((run_blocks sys machine more).terms t) → FollowsAll sys next now
  by-own more blocks serial files others own =
      own-follows sys b s f known all entry t here more blocks serial (files ∙ (all.files ∙ sym (stay entry refl l))) others
      (λ o differ. upd-other s.terms t _ o differ) (λ o differ. refl) refl (λ o differ. upd-other f.reading.answers t _ o differ)
      (λ o differ. refreshes-other o f.shown _ (λ same. differ (sym same)))
      (λ o differ u q is runs. ap (λ (x : ℕ → List (List ℕ)). (attempt sys o q x u.restarts (f.reading.answers o)).refreshes) (stay entry refl l)) own

  -- with no running attempt
  idle-none : attempt_of (s.units t) ≡ None → running_refreshes sys t (committed_files sys next) (now.reading.answers t) (next.units t) ≡ []
  idle-none idle = running-idle sys t (committed_files sys next) (now.reading.answers t) (next.units t) idle

  so-idle : attempt_of (s.units t) ≡ None → so_far ≡ (machine.terms t).refreshes
  so-idle idle = ap (λ (x : List Refresh). (machine.terms t).refreshes ++ x) (running-idle sys t (committed_files sys s) (f.reading.answers t) (s.units t) idle) ∙ append-nil (machine.terms t).refreshes

  -- at the frontier: Out
  module _ (idle : attempt_of (s.units t) ≡ None) (same : path ≡ f.frontier t) where
    abbrev single : Single
    single = machine.terms t

    path_is : single.path ≡ path
    path_is = goes.path ∙ sym same

    asks : sys.ask t single.path ≡ verb.Show
    asks = ap (sys.ask t) path_is ∙ l.asks

    abbrev out : Single
    out = record single { path = single.path ++ Shown ∷ []; refreshes = single.refreshes ++ next_refresh sys t single.path ∷ [] }

    out_is : (run_blocks sys machine (Out t ∷ [])).terms t ≡ out
    out_is = upd-same machine.terms t _ t refl ∙ ap (λ (v : Verb). single_behind_out sys t v single) asks

    grown-to : now.frontier t ≡ path ++ Shown ∷ []
    grown-to =
        grows (view_of sys s t) (view_of sys next t) (f.frontier t) idle
        (subst (λ (p : List PathAnswer). length (f.frontier t) < length p) (sym new-path) (subst (λ (p : List PathAnswer). length p < length (path ++ Shown ∷ [])) same (one-longer path Shown))) ∙ new-path

    r_is : next_refresh sys t single.path ≡ r
    r_is = ap (next_refresh sys t) path_is

    shows-out : FollowsAll sys next now
    shows-out =
        by-own (Out t ∷ [])
        (out-is s f t idle (let long = follows.longest ∙ ap (λ (p : List PathAnswer). length p) (sym same) in omega (arith, long)))
        (record { live = record { known = here; live = follows.ending ∙ l.can.live.going_on }; not_left = goes.not_left; asks = subst (λ (v : Verb). AsksOut sys t single.path v) (sym asks) tt }, tt)
        refl (λ o differ. upd-other machine.terms t _ o differ)
        (subst (λ (x : Single). Follows sys next now t x) (sym out_is)
        (counted-new out follows.ending
        (λ live open_pair. record {
          path = ap (λ (p : List PathAnswer). p ++ Shown ∷ []) path_is ∙ sym grown-to;
          restarts = goes.restarts;
          not_left = goes.not_left;
          bounded = next-bounded sys t single.restarts single.path single.refreshes goes.bounded;
          covers = covers-shown sys t single.path single.refreshes goes.covers;
        })
        (ap (λ (x : List Refresh). (single.refreshes ++ next_refresh sys t single.path ∷ []) ++ x) (idle-none idle)
        ∙ (append-nil (single.refreshes ++ next_refresh sys t single.path ∷ [])
        ∙ (ap (λ (x : Refresh). single.refreshes ++ x ∷ []) r_is ∙ ap (λ (x : List Refresh). x ++ r ∷ []) (sym (so-idle idle)))))
        (ap (has_number r) (so-idle idle)
        ∙ subst (λ (x : Refresh). has_number x single.refreshes ≡ false) r_is (next-new sys t single.restarts single.path single.refreshes goes.bounded))))

  -- behind it: the screen was shown before
  shows-again : attempt_of (s.units t) ≡ None → Leads sys t (s.ended t) (path ++ Shown ∷ []) (f.frontier t) → FollowsAll sys next now
  shows-again idle leads =
      let short = leads-short leads in
      let sum = length-append path (Shown ∷ []) in
      let put = frontier-stays sys b s f entry t (λ _. subst (λ (p : List PathAnswer). length p ≤ length (f.frontier t)) (sym new-path) short) in
      by-own [] (out-short s f t (let long = follows.longest in omega (arith, long, short, sum))) tt refl (λ o differ. refl)
      (counted-old (machine.terms t) follows.ending
      (λ live open_pair. record { path = goes.path ∙ sym put; restarts = goes.restarts; not_left = goes.not_left; bounded = goes.bounded; covers = goes.covers })
      (ap (λ (x : List Refresh). (machine.terms t).refreshes ++ x) (idle-none idle) ∙ (append-nil (machine.terms t).refreshes ∙ sym (so-idle idle)))
      (subst (IsIn r) (sym (so-idle idle))
      (covers-at sys t path leads.rest (machine.terms t).refreshes
      (subst (λ (p : List PathAnswer). Covers sys t p (machine.terms t).refreshes) (goes.path ∙ (leads.whole ∙ append_assoc path (Shown ∷ []) leads.rest)) goes.covers))))

  -- in an attempt: the screen is its next one
  module _ (u : OpenUnit) (q : List PathAnswer) (is_open : s.units t ≡ Some u) (runs : u.running ≡ Some q) where
    abbrev w : AtWork sys b s f known all t u q
    w = at-work sys b s f known all t u q is_open runs

    abbrev j : ℕ
    j = f.reading.answers t

    abbrev at : Attempt
    at = attempt sys t q (committed_files sys s) u.restarts j

    at_path : path ≡ at.path
    at_path = w.at.alone.path_is (rw l.can.paired tt) (ap is_takeover l.can.calm)

    more-refreshes : (attempt sys t q (committed_files sys s) u.restarts (suc j)).refreshes ≡ at.refreshes ++ r ∷ []
    more-refreshes =
        ap (λ (v : Verb). (answer_verb sys t u.restarts (committed_files sys s) v at).refreshes) (ap (sys.ask t) (sym at_path) ∙ l.asks)
        ∙ ap (λ (p : List PathAnswer). at.refreshes ++ next_refresh sys t p ∷ []) (sym at_path)

    running-now : running_refreshes sys t (committed_files sys next) (now.reading.answers t) (next.units t) ≡ at.refreshes ++ r ∷ []
    running-now =
        running-is sys t (committed_files sys next) (now.reading.answers t) (next.units t) u q is_open runs
        ∙ (ap (λ (x : ℕ → List (List ℕ)). (attempt sys t q x u.restarts (now.reading.answers t)).refreshes) (stay entry refl l)
        ∙ (ap (λ (n : ℕ). (attempt sys t q (committed_files sys s) u.restarts n).refreshes) (upd-same f.reading.answers t _ t refl ∙ (let one : j + 1 ≡ suc j = omega arith in one))
        ∙ more-refreshes))

    so-running : so_far ≡ (machine.terms t).refreshes ++ at.refreshes
    so-running = ap (λ (x : List Refresh). (machine.terms t).refreshes ++ x) (running-is sys t (committed_files sys s) j (s.units t) u q is_open runs)

    shows-inside : FollowsAll sys next now
    shows-inside =
        let put = frontier-stays sys b s f entry t (λ idle. absurd (cc (is_open, runs, idle))) in
        by-own [] (out-running s f t q (ap attempt_of is_open ∙ runs)) tt refl (λ o differ. refl)
        (counted-new (machine.terms t) follows.ending
        (λ live open_pair. record { path = goes.path ∙ sym put; restarts = goes.restarts; not_left = goes.not_left; bounded = goes.bounded; covers = goes.covers })
        (ap (λ (x : List Refresh). (machine.terms t).refreshes ++ x) running-now ∙ (sym (append_assoc (machine.terms t).refreshes at.refreshes (r ∷ [])) ∙ ap (λ (x : List Refresh). x ++ r ∷ []) (sym so-running)))
        (ap (has_number r) so-running
        ∙ subst (λ (p : List PathAnswer). has_number (next_refresh sys t p) ((machine.terms t).refreshes ++ at.refreshes) ≡ false) (sym at_path)
        (next-new sys t u.restarts at.path ((machine.terms t).refreshes ++ at.refreshes) (numbered-at sys b s f known all t u q w is_open j w.at.alone.is_attempt).bounded)))

  only-shown : (a : PathAnswer) → IsForced (s.ended t) path verb.Show a → a ≡ Shown
  only-shown Shown forced = refl
  only-shown a forced = absurd forced

  -- the machine follows a SHOW
  pub follows-show : FollowsAll sys next now
  follows-show = by (where-of (s.units t) (ok.stands (rw l.can.paired tt) (ap is_takeover l.can.calm)))
    where
      go : s.units t ≡ None → Next sys t (s.ended t) path (f.frontier t) → FollowsAll sys next now
      go none (is_there same) = shows-out (ap attempt_of none) same
      go none (goes_on a forced leads) =
          shows-again (ap attempt_of none)
          (subst (λ (x : PathAnswer). Leads sys t (s.ended t) (path ++ x ∷ []) (f.frontier t)) (only-shown a (subst (λ (v : Verb). IsForced (s.ended t) path v a) l.asks forced)) leads)

      by : Where sys t (s.ended t) (s.units t) path (f.frontier t) → FollowsAll sys next now
      by (closed none leads) = go none (next-of leads)
      by (waiting u is idle same) = absurd (subst (λ (v : Verb). BeginsUnit v path) l.asks (subst (λ (p : List PathAnswer). BeginsUnit (sys.ask t p) p) (sym same) (ok.base.begins u is)))
      by (running u q is runs at) = shows-inside u q is runs
