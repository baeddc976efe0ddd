-- The refreshes of an attempt by itself: their numbers rise, and each screen on its path is among them.
use Rattle.std.proofs.Common.{◌≡◌, ◌≢◌, ℕ, zero, suc, ◌+◌, ◌*◌, ⊎_elim, true, is_none, List, [], ◌∷◌, ◌++◌, Option, Some, None, refl, ap, sym, subst, append-nil, append_assoc, arith, ◌∙◌}
use Rattle.pw_code.specs.declared.verb.Verb.{Verb}
use Rattle.pw_code.specs.declared.verb.Verb.TheVariants as verb
use Rattle.pw_laws.proofs.Paths.{reply-outside, standing-push}
use Rattle.pw_onecopy.specs.IsBehaviour.{IsBehaviour, IsPath, Suits}
use Rattle.pw_onecopy.specs.Attempt.{Attempt, IsAttempt, TakesAnswer, attempt, attempt_with_served, answer_verb, BeginsUnit}
use Rattle.pw_onecopy.specs.Path.{PathAnswer, Begun, Dropped, Ended, Entry, Failed, Replied, Shown, Standing, entries_on, standing_after_answer, number_at, standing_after_reply, standing, unit_number}
use Rattle.pw_onecopy.specs.Refreshes.{next_refresh}
use Rattle.pw_onecopy.specs.Behaviour.{Behaviour, Served, Reply, Fault}
use Rattle.pw_onecopy.specs.declared.refresh.Refresh.{Refresh}
use Rattle.pw_laws.proofs.AttemptFiles.{attempt-fine}
use Rattle.pw_laws.proofs.screens.Numbers.{AreBefore, AreBounded, Covers, IsQuiet, begun-bounded, covers-other, covers-shown, next-bounded, quiet-bounded}
use Rattle.pw_laws.proofs.screens.Once.{IsIn, in-parts}
use Rattle.pw_laws.specs.locking.Seen.{AreFiles}

-- one verb of an attempt is answered: Show, Begin or another one, with an answer to it
pub data Steps (sys : Behaviour) (t r : ℕ) (at next : Attempt) : Type 0 where
  shows : sys.ask t at.path ≡ verb.Show → next.path ≡ at.path ++ Shown ∷ [] → next.refreshes ≡ at.refreshes ++ next_refresh sys t at.path ∷ [] → Steps sys t r at next
  begins : sys.ask t at.path ≡ verb.Begin → next.path ≡ at.path ++ Begun r ∷ [] → next.refreshes ≡ at.refreshes → Steps sys t r at next
  goes_on : (a : PathAnswer) → IsQuiet a → Suits sys t at.path (sys.ask t at.path) a → next.path ≡ at.path ++ a ∷ [] → next.refreshes ≡ at.refreshes → Steps sys t r at next

served-steps : (sys : Behaviour) (t r c : ℕ) (message : List ℕ) (at : Attempt) (served : Served) → sys.ask t at.path ≡ verb.Send c message → Steps sys t r at (attempt_with_served served at)
served-steps sys t r c message at (Reply reply files) asks = goes_on (Replied reply) tt (rw asks tt) refl refl
served-steps sys t r c message at (Fault x) asks = goes_on (Failed x) tt (rw asks tt) refl refl

-- each verb that takes an answer is such a step
pub verb-steps : (sys : Behaviour) (t r : ℕ) (files : ℕ → List (List ℕ)) (at : Attempt) (v : Verb) → sys.ask t at.path ≡ v → TakesAnswer sys t at.path v → Steps sys t r at (answer_verb sys t r files v at)
verb-steps sys t r files at verb.Begin asks takes = begins asks refl refl
verb-steps sys t r files at verb.Show asks takes = shows asks refl refl
verb-steps sys t r files at (verb.Accept screen) asks takes = goes_on (Entry (entries_on at.path + 1)) tt (rw asks (refl, omega (arith, takes))) refl refl
verb-steps sys t r files at (verb.Send class message) asks takes = served-steps sys t r class message at (sys.serve class message at.files) asks
verb-steps sys t r files at verb.End asks takes = goes_on Ended tt (rw asks tt) refl refl
verb-steps sys t r files at verb.Drop asks takes = goes_on Dropped tt (rw asks tt) refl refl
verb-steps sys t r files at verb.Redo asks takes = absurd takes
verb-steps sys t r files at verb.Stop asks takes = absurd takes
verb-steps sys t r files at (verb.Fault x) asks takes = absurd takes
verb-steps sys t r files at (verb.File call) asks takes = absurd takes
verb-steps sys t r files at (verb.Reply reply) asks takes = absurd takes

-- where an attempt stands while its unit is open: in its transaction, at its start, or at a run fault
pub data Stays (sys : Behaviour) (t r : ℕ) (q path : List PathAnswer) : Type 0 where
  inside : (standing path).within ≡ Some r → Stays sys t r q path
  at_start : path ≡ q → Stays sys t r q path
  faulty : (x : ℕ) → sys.ask t path ≡ verb.Fault x → Stays sys t r q path

-- What holds of the refreshes before an attempt and of it: they lie before the path's next one, and strictly so once the unit has
-- ended; each screen on the path is among them; and its own are of its attempt of its unit.
pub record Numbered (sys : Behaviour) (t r : ℕ) (q : List PathAnswer) (before : List Refresh) (at : Attempt) : Type 0 where
  pub bounded : AreBounded r (standing at.path) (before ++ at.refreshes)
  pub over : unit_number at.path ≢ unit_number q → AreBefore (standing at.path) (before ++ at.refreshes)
  pub covers : Covers sys t at.path (before ++ at.refreshes)
  pub stays : unit_number at.path ≡ unit_number q → Stays sys t r q at.path
  pub own : (x : Refresh) → IsIn x at.refreshes → (x.phase ≡ 2 * (standing q).ended + 1) × (x.attempt ≡ r)

-- the numbers in a transaction
inside-number : (at : Standing) (w : Option ℕ) (r : ℕ) → w ≡ Some r → ((number_at at w).phase ≡ 2 * at.ended + 1) × ((number_at at w).attempt ≡ r)
inside-number at None r is = absurd (cc is)
inside-number at (Some n) r is = (refl, cc is)

-- an answer that does not end the unit leaves the attempt in its transaction
quiet-within : (r : ℕ) (at : Standing) (a : PathAnswer) → IsQuiet a → at.within ≡ Some r → (standing_after_answer at a).ended ≡ at.ended → (standing_after_answer at a).within ≡ Some r
quiet-within r at Shown quiet within same = absurd quiet
quiet-within r at (Begun n) quiet within same = absurd quiet
quiet-within r at (Entry k) quiet within same = within
quiet-within r at (Failed x) quiet within same = within
quiet-within r at Ended quiet within same = absurd (omega (arith, same))
quiet-within r at Dropped quiet within same = absurd (omega (arith, same))
quiet-within r at (Replied reply) quiet within same = by at.within within refl
  where
    by : (w : Option ℕ) → w ≡ Some r → at.within ≡ w → (standing_after_reply at w).within ≡ Some r
    by None none is = absurd (cc none)
    by (Some n) some is = within

module _ (sys : Behaviour) (b : IsBehaviour sys) (t r : ℕ) (q : List PathAnswer) (start : IsPath sys t q) (begins_it : BeginsUnit (sys.ask t q) q) (before : List Refresh) where
  outside-within : (w : Option ℕ) → is_none w ≡ true → w ≡ None
  outside-within None is = refl
  outside-within (Some n) is = absurd (cc is)

  -- the first answer of an attempt that begins with SEND
  sent-stays : (a : PathAnswer) (v : Verb) → sys.ask t q ≡ v → BeginsUnit v q → IsQuiet a → Suits sys t q v a → unit_number (q ++ a ∷ []) ≡ unit_number q → Stays sys t r q (q ++ a ∷ [])
  sent-stays (Failed x) (verb.Send c message) asks opens quiet suits same = faulty x (b.fails t c x message q start asks)
  sent-stays (Replied reply) (verb.Send c message) asks opens quiet suits same =
      absurd (let ends = ap (λ (s : Standing). s.ended + 1) (reply-outside reply q opens) in omega (arith, ends, same))
  sent-stays a (verb.Send c message) asks opens quiet suits same = absurd suits
  sent-stays (Begun n) verb.Begin asks opens quiet suits same = absurd quiet
  sent-stays a verb.Begin asks opens quiet suits same = absurd suits
  sent-stays a verb.Show asks opens quiet suits same = absurd opens
  sent-stays a (verb.Accept screen) asks opens quiet suits same = absurd opens
  sent-stays a verb.End asks opens quiet suits same = absurd opens
  sent-stays a verb.Drop asks opens quiet suits same = absurd opens
  sent-stays a verb.Redo asks opens quiet suits same = absurd opens
  sent-stays a verb.Stop asks opens quiet suits same = absurd opens
  sent-stays a (verb.Fault x) asks opens quiet suits same = absurd opens
  sent-stays a (verb.File call) asks opens quiet suits same = absurd opens
  sent-stays a (verb.Reply reply) asks opens quiet suits same = absurd opens

  -- a screen is shown in the transaction alone
  shows-inside : (path : List PathAnswer) → sys.ask t path ≡ verb.Show → Stays sys t r q path → (standing path).within ≡ Some r
  shows-inside path asks (inside within) = within
  shows-inside path asks (at_start same) = absurd (subst (λ (v : Verb). BeginsUnit v q) (ap (sys.ask t) (sym same) ∙ asks) begins_it)
  shows-inside path asks (faulty x faults) = absurd (cc (asks, faults))

  step-numbered : (at next : Attempt) → IsPath sys t at.path → unit_number at.path ≡ unit_number q → Steps sys t r at next → Numbered sys t r q before at → Numbered sys t r q before next
  step-numbered at next is_path here (shows asks path refreshes) ok =
      let list : before ++ next.refreshes ≡ (before ++ at.refreshes) ++ next_refresh sys t at.path ∷ [] =
      ap (λ (l : List Refresh). before ++ l) refreshes ∙ sym (append_assoc before at.refreshes (next_refresh sys t at.path ∷ [])) in
      let same : unit_number next.path ≡ unit_number q = ap unit_number path ∙ (ap (λ (s : Standing). s.ended + 1) (standing-push at.path Shown) ∙ here) in
      let within = shows-inside at.path asks (ok.stays here) in
      let number = inside-number (standing at.path) (standing at.path).within r within in
      record {
        bounded = rw (list, path) (next-bounded sys t r at.path (before ++ at.refreshes) ok.bounded);
        over = λ differ. absurd (differ same);
        covers = rw (list, path) (covers-shown sys t at.path (before ++ at.refreshes) ok.covers);
        stays = λ _. inside (ap (λ (s : Standing). s.within) (ap standing path ∙ standing-push at.path Shown) ∙ within);
        own = λ x there.
            ⊎_elim (λ old. ok.own x old)
            (λ new. ⊎_elim (λ is. (ap (λ (y : Refresh). y.phase) is ∙ (number.0 ∙ (let ended : (standing at.path).ended ≡ (standing q).ended = omega (arith, here) in ap (λ (n : ℕ). 2 * n + 1) ended)), ap (λ (y : Refresh). y.attempt) is ∙ number.1)) (λ none. absurd none) new)
            (in-parts x at.refreshes (next_refresh sys t at.path ∷ []) (subst (IsIn x) refreshes there));
      }
  step-numbered at next is_path here (begins asks path refreshes) ok =
      let same : unit_number next.path ≡ unit_number q = ap unit_number path ∙ (ap (λ (s : Standing). s.ended + 1) (standing-push at.path (Begun r)) ∙ here) in
      record {
        bounded = rw (refreshes, path) (subst (λ (s : Standing). AreBounded r s (before ++ at.refreshes)) (sym (standing-push at.path (Begun r)))
            (begun-bounded r (standing at.path) (before ++ at.refreshes) (outside-within (standing at.path).within (b.begins t at.path is_path asks)) ok.bounded));
        over = λ differ. absurd (differ same);
        covers = rw (refreshes, path) (covers-other sys t at.path (Begun r) (before ++ at.refreshes) (λ is. absurd (cc is)) ok.covers);
        stays = λ _. inside (ap (λ (s : Standing). s.within) (ap standing path ∙ standing-push at.path (Begun r)));
        own = λ x there. ok.own x (subst (IsIn x) refreshes there);
      }
  step-numbered at next is_path here (goes_on a quiet suits path refreshes) ok =
      let both = quiet-bounded r (standing at.path) (before ++ at.refreshes) a quiet ok.bounded in
      let stands = ap standing path ∙ standing-push at.path a in
      record {
        bounded = rw refreshes (subst (λ (s : Standing). AreBounded r s (before ++ at.refreshes)) (sym stands) both.0);
        over = λ differ. rw refreshes (subst (λ (s : Standing). AreBefore s (before ++ at.refreshes)) (sym stands)
            (both.1 (λ same. differ (ap (λ (s : Standing). s.ended + 1) stands ∙ (ap (λ (n : ℕ). n + 1) same ∙ here)))));
        covers = rw (refreshes, path) (covers-other sys t at.path a (before ++ at.refreshes) (λ is. subst IsQuiet is quiet) ok.covers);
        stays = λ same. go stands same (ok.stays here);
        own = λ x there. ok.own x (subst (IsIn x) refreshes there);
      }
    where
      go : standing next.path ≡ standing_after_answer (standing at.path) a → unit_number next.path ≡ unit_number q → Stays sys t r q at.path → Stays sys t r q next.path
      go stands same (inside within) =
          let ended = ap (λ (s : Standing). s.ended + 1) stands in
          inside (ap (λ (s : Standing). s.within) stands ∙ quiet-within r (standing at.path) a quiet within (omega (arith, ended, same, here)))
      go stands same (at_start is) =
          let moved_path : next.path ≡ q ++ a ∷ [] = path ∙ ap (λ (p : List PathAnswer). p ++ a ∷ []) is in
          subst (Stays sys t r q) (sym moved_path)
          (sent-stays a (sys.ask t q) refl begins_it quiet (subst (λ (p : List PathAnswer). Suits sys t p (sys.ask t p) a) is suits) (ap unit_number (sym moved_path) ∙ same))
      go stands same (faulty x faults) = absurd (subst (λ (v : Verb). Suits sys t at.path v a) faults suits)

  -- an attempt is so numbered
  pub numbered : (files : ℕ → List (List ℕ)) → AreFiles sys files → AreBounded r (standing q) before → Covers sys t q before → (j : ℕ) → IsAttempt sys t q files r j
      → Numbered sys t r q before (attempt sys t q files r j)
  numbered files are bounded covers zero is = record {
    bounded = subst (AreBounded r (standing q)) (sym (append-nil before)) bounded;
    over = λ differ. absurd (differ refl);
    covers = subst (Covers sys t q) (sym (append-nil before)) covers;
    stays = λ same. at_start refl;
    own = λ x there. absurd there;
  }
  numbered files are bounded covers (suc j) is =
      let at : Attempt = attempt sys t q files r j in
      step-numbered at (attempt sys t q files r (suc j)) (attempt-fine sys b t q r start files are j is.0).is_path is.1.is_open
      (verb-steps sys t r files at (sys.ask t at.path) refl is.1.takes) (numbered files are bounded covers j is.0)
