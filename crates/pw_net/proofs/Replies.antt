-- Each reply is a change that keeps what holds.
use Rattle.std.proofs.Common.{◌≡◌, ◌≢◌, ◌⊎◌, inl, inr, ⊎_elim, ℕ, ◌==◌, List, [], ◌∷◌, Option, Some, None, refl, sym, ap, subst, ◌∙◌}
use Rattle.std.proofs.lemmas.Bool.{cond_both, cases_eq, eqb-true, eqb-false}
use Rattle.pw_net.specs.Agreement.{WasSent, IsFrom}
use Rattle.pw_net.specs.Ballot.{Ballot, still_missing}
use Rattle.pw_net.specs.Rules.{Reply, silence, says, becomes, told, told_each, at_home, on_prepare, on_yes, vote_counted, on_end, on_commit, on_abort, on_ask, on_word, on_refuse, on_wait}
use Rattle.pw_net.specs.declared.message.Net.{Net}
use Rattle.pw_net.specs.declared.message.NetId.{NetId}
use Rattle.pw_net.specs.declared.message.NetWord.{NetWord}
use Rattle.pw_net.specs.declared.message.NetWord.TheVariants.{Prepare, Yes, No, Commit, Abort, Ask}
use Rattle.pw_net.specs.declared.standing.TransactionState.{TransactionState}
use Rattle.pw_net.specs.declared.standing.TransactionState.TheVariants.{Collecting, Prepared, Committed, Aborted}
use Rattle.pw_net.proofs.Moves.{Holds, Moves, IsAbout, IsPrepare, Voted}
use Rattle.pw_net.proofs.Sent.{In, in-filter, sent-as, sent-each}
use Rattle.pw_net.proofs.Standings.{behind, restarted_mark}

module _ (id : NetId) (at : ℕ → Option TransactionState) (last : ℕ) (sent : List Net) (s : ℕ) (ok : Holds id at last sent) where
  -- a reply is such a change, where the system stands so
  abbrev pub Keeps : Option TransactionState → Reply → Type 0
  Keeps a reply = Moves id at last sent s (behind a reply.turns) reply.messages

  -- the standing stays, and the messages are fit for it
  still : (new : List Net) → ((other : NetId) → WasSent (λ m. m.id ≡ other) new → other ≡ id) → (WasSent (IsAbout Prepare id) new → ⊥)
      → ((t : ℕ) → WasSent (IsFrom Yes id t) new → (t ≡ s) × (at s ≡ Some Prepared))
      → (WasSent (IsAbout Commit id) new → (s ≡ id.home) × (at s ≡ Some Committed))
      → (WasSent (IsAbout Abort id) new → (s ≡ id.home) × (at s ≡ Some Aborted)) → Moves id at last sent s (at s) new
  still new about quiet votes commits aborts = record {
    about = about;
    quiet = quiet;
    votes = votes;
    commits = commits;
    aborts = aborts;
    fresh = λ lt is. ap at is ∙ (ok.fresh lt).0;
    own = ok.own s;
    voted = ok.voted s;
    committed = λ _ e. ok.committed s e;
    stays_committed = λ e. e;
    stays_aborted = λ e. e;
    collecting = λ is ballot e t w. ok.collecting ballot (sym (ap at is) ∙ e) t w;
    all = λ is e t w. ok.all (sym (ap at is) ∙ e) t w;
  }

  silent : (a : Option TransactionState) → at s ≡ a → Keeps a silence
  silent a is = subst (λ x. Moves id at last sent s x []) is
      (still [] (λ _ w. absurd w) (λ w. absurd w) (λ _ w. absurd w) (λ w. absurd w) (λ w. absurd w))

  -- one message of a word that is fit for the standing
  saying : (a : Option TransactionState) → at s ≡ a → (word : NetWord) (to : ℕ) → word ≢ Prepare → (word ≡ Yes → a ≡ Some Prepared)
      → (word ≡ Commit → (s ≡ id.home) × (a ≡ Some Committed)) → (word ≡ Abort → (s ≡ id.home) × (a ≡ Some Aborted)) → Keeps a (says s id word to)
  saying a is word to quiet voting commit abort = subst (λ x. Moves id at last sent s x (told s id word to ∷ [])) is
      (still (told s id word to ∷ [])
      (λ other w. ⊎_elim (λ e. sym e) (λ v. absurd v) w)
      (λ w. ⊎_elim (λ p. quiet p.0) (λ v. absurd v) w)
      (λ t w. ⊎_elim (λ p. (sym p.2, is ∙ voting p.0)) (λ v. absurd v) w)
      (λ w. ⊎_elim (λ p. ((commit p.0).0, is ∙ (commit p.0).1)) (λ v. absurd v) w)
      (λ w. ⊎_elim (λ p. ((abort p.0).0, is ∙ (abort p.0).1)) (λ v. absurd v) w))

  -- what was open is aborted at its home, with such messages
  ending : (b : Ballot) (new : List Net) → at s ≡ Some (Collecting b) → s ≡ id.home
      → ((other : NetId) → WasSent (λ m. m.id ≡ other) new → other ≡ id) → (WasSent (IsAbout Prepare id) new → ⊥)
      → ((t : ℕ) → WasSent (IsFrom Yes id t) new → ⊥) → (WasSent (IsAbout Commit id) new → ⊥) → Moves id at last sent s (Some Aborted) new
  ending b new is here about quiet voting commit = record {
    about = about;
    quiet = quiet;
    votes = λ t w. absurd (voting t w);
    commits = λ w. absurd (commit w);
    aborts = λ w. (here, refl);
    fresh = λ lt _. absurd (cc (is, ap at here, (ok.fresh lt).0));
    own = λ _ _. here;
    voted = λ ne _. absurd (ne here);
    committed = λ ne _. absurd (ne here);
    stays_committed = λ e. absurd (cc (is, e));
    stays_aborted = λ e. refl;
    collecting = λ _ _ e. absurd (cc e);
    all = λ _ e. absurd (cc e);
  }

  keeps-end : (a : Option TransactionState) → at s ≡ a → s ≡ id.home → Keeps a (on_end s id a)
  keeps-end None is here = silent None is
  keeps-end (Some (Collecting b)) is here = ending b (told_each s id Abort b.others) is here
      (λ other. sent-each (λ m. m.id ≡ other) s id Abort b.others (other ≡ id) (λ to e. sym e))
      (sent-each (IsAbout Prepare id) s id Abort b.others ⊥ (λ to p. absurd (cc p.0)))
      (λ t. sent-each (IsFrom Yes id t) s id Abort b.others ⊥ (λ to p. absurd (cc p.0)))
      (sent-each (IsAbout Commit id) s id Abort b.others ⊥ (λ to p. absurd (cc p.0)))
  keeps-end (Some Prepared) is here = silent (Some Prepared) is
  keeps-end (Some Committed) is here = silent (Some Committed) is
  keeps-end (Some Aborted) is here = silent (Some Aborted) is

  keeps-prepare : (a : Option TransactionState) → at s ≡ a → WasSent (IsAbout Prepare id) sent → Keeps a (on_prepare s id a)
  keeps-prepare None is came = record {
    about = λ other w. ⊎_elim (λ e. sym e) (λ v. absurd v) w;
    quiet = λ w. ⊎_elim (λ p. absurd (cc p.0)) (λ v. absurd v) w;
    votes = λ t w. ⊎_elim (λ p. (sym p.2, refl)) (λ v. absurd v) w;
    commits = λ w. ⊎_elim (λ p. absurd (cc p.0)) (λ v. absurd v) w;
    aborts = λ w. ⊎_elim (λ p. absurd (cc p.0)) (λ v. absurd v) w;
    fresh = λ lt _. absurd ((ok.fresh lt).1 came);
    own = λ _ e. absurd (cc e);
    voted = λ _ _. inl refl;
    committed = λ _ e. absurd (cc e);
    stays_committed = λ e. absurd (cc (is, e));
    stays_aborted = λ e. absurd (cc (is, e));
    collecting = λ _ _ e. absurd (cc e);
    all = λ _ e. absurd (cc e);
  }
  keeps-prepare (Some (Collecting b)) is came = silent (Some (Collecting b)) is
  keeps-prepare (Some Prepared) is came =
      saying (Some Prepared) is Yes id.home (λ e. absurd (cc e)) (λ _. refl) (λ e. absurd (cc e)) (λ e. absurd (cc e))
  keeps-prepare (Some Committed) is came = silent (Some Committed) is
  keeps-prepare (Some Aborted) is came =
      saying (Some Aborted) is No id.home (λ e. absurd (cc e)) (λ e. absurd (cc e)) (λ e. absurd (cc e)) (λ e. absurd (cc e))

  -- at the home, where these are still missing
  counting : (b : Ballot) → at s ≡ Some (Collecting b) → s ≡ id.home → (left : List ℕ)
      → ((t : ℕ) → WasSent (IsPrepare id t) sent → In t left ⊎ WasSent (IsFrom Yes id t) sent) → Keeps (Some (Collecting b)) (vote_counted s id b.others left)
  counting b is here [] votes = record {
    about = λ other. sent-each (λ m. m.id ≡ other) s id Commit b.others (other ≡ id) (λ to e. sym e);
    quiet = sent-each (IsAbout Prepare id) s id Commit b.others ⊥ (λ to p. absurd (cc p.0));
    votes = λ t. sent-each (IsFrom Yes id t) s id Commit b.others ((t ≡ s) × (Some Committed ≡ Some Prepared)) (λ to p. absurd (cc p.0));
    commits = λ w. (here, refl);
    aborts = sent-each (IsAbout Abort id) s id Commit b.others ((s ≡ id.home) × (Some Committed ≡ Some Aborted)) (λ to p. absurd (cc p.0));
    fresh = λ lt _. absurd (cc (is, ap at here, (ok.fresh lt).0));
    own = λ _ _. here;
    voted = λ ne _. absurd (ne here);
    committed = λ ne _. absurd (ne here);
    stays_committed = λ e. refl;
    stays_aborted = λ e. absurd (cc (is, e));
    collecting = λ _ _ e. absurd (cc e);
    all = λ _ _ t w. ⊎_elim (λ v. absurd v) (λ v. v) (votes t w);
  }
  counting b is here (x ∷ xs) votes = record {
    about = λ other w. absurd w;
    quiet = λ w. absurd w;
    votes = λ t w. absurd w;
    commits = λ w. absurd w;
    aborts = λ w. absurd w;
    fresh = λ lt _. absurd (cc (is, ap at here, (ok.fresh lt).0));
    own = λ _ _. here;
    voted = λ ne _. absurd (ne here);
    committed = λ ne _. absurd (ne here);
    stays_committed = λ e. absurd (cc (is, e));
    stays_aborted = λ e. absurd (cc (is, e));
    collecting = λ _ ballot e t w.
        let same : record { others = b.others; missing = x ∷ xs } ≡ ballot = cc e in
        subst (λ (y : Ballot). In t y.missing ⊎ WasSent (IsFrom Yes id t) sent) same (votes t w);
    all = λ _ e. absurd (cc e);
  }

  keeps-yes : (from : ℕ) (a : Option TransactionState) → at s ≡ a → s ≡ id.home → WasSent (IsFrom Yes id from) sent → Keeps a (on_yes s id from a)
  keeps-yes from None is here came = silent None is
  keeps-yes from (Some (Collecting b)) is here came = counting b is here (still_missing from b)
      (λ t w. missing t (cases_eq t from) (ok.collecting b (sym (ap at here) ∙ is) t w))
    where
      missing : (t : ℕ) → (t ≡ from) ⊎ (t ≢ from) → In t b.missing ⊎ WasSent (IsFrom Yes id t) sent → In t (still_missing from b) ⊎ WasSent (IsFrom Yes id t) sent
      missing t (inl e) either = inr (subst (λ k. WasSent (IsFrom Yes id k) sent) (sym e) came)
      missing t (inr ne) (inl i) = inl (in-filter from t b.missing ne i)
      missing t (inr ne) (inr w) = inr w
  keeps-yes from (Some Prepared) is here came = silent (Some Prepared) is
  keeps-yes from (Some Committed) is here came =
      saying (Some Committed) is Commit from (λ e. absurd (cc e)) (λ e. absurd (cc e)) (λ _. (here, refl)) (λ e. absurd (cc e))
  keeps-yes from (Some Aborted) is here came =
      saying (Some Aborted) is Abort from (λ e. absurd (cc e)) (λ e. absurd (cc e)) (λ e. absurd (cc e)) (λ _. (here, refl))

  keeps-ask : (from : ℕ) (a : Option TransactionState) → at s ≡ a → s ≡ id.home → Keeps a (on_ask s id from a)
  keeps-ask from None is here = silent None is
  keeps-ask from (Some (Collecting b)) is here = silent (Some (Collecting b)) is
  keeps-ask from (Some Prepared) is here = silent (Some Prepared) is
  keeps-ask from (Some Committed) is here =
      saying (Some Committed) is Commit from (λ e. absurd (cc e)) (λ e. absurd (cc e)) (λ _. (here, refl)) (λ e. absurd (cc e))
  keeps-ask from (Some Aborted) is here =
      saying (Some Aborted) is Abort from (λ e. absurd (cc e)) (λ e. absurd (cc e)) (λ e. absurd (cc e)) (λ _. (here, refl))

  -- Commit came, so the home is committed
  keeps-commit : (a : Option TransactionState) → at s ≡ a → WasSent (IsAbout Commit id) sent → Keeps a (on_commit a)
  keeps-commit None is came = silent None is
  keeps-commit (Some (Collecting b)) is came = silent (Some (Collecting b)) is
  keeps-commit (Some Prepared) is came = let home = ok.commits came in record {
    about = λ other w. absurd w;
    quiet = λ w. absurd w;
    votes = λ t w. absurd w;
    commits = λ w. absurd w;
    aborts = λ w. absurd w;
    fresh = λ lt _. absurd (cc (home, (ok.fresh lt).0));
    own = λ _ e. absurd (cc e);
    voted = λ _ _. inr (inl refl);
    committed = λ _ _. home;
    stays_committed = λ e. refl;
    stays_aborted = λ e. absurd (cc (is, e));
    collecting = λ _ _ e. absurd (cc e);
    all = λ here _. absurd (cc (is, ap at here, home));
  }
  keeps-commit (Some Committed) is came = silent (Some Committed) is
  keeps-commit (Some Aborted) is came = silent (Some Aborted) is

  -- what is not decided is aborted, away from home or where the home is aborted
  aborting : (a : Option TransactionState) → at s ≡ a → a ≢ Some Committed → (s ≢ id.home)
      → (WasSent (IsFrom Yes id s) sent → at id.home ≡ Some Aborted) → Moves id at last sent s (Some Aborted) []
  aborting a is undecided away voted = record {
    about = λ other w. absurd w;
    quiet = λ w. absurd w;
    votes = λ t w. absurd w;
    commits = λ w. absurd w;
    aborts = λ w. absurd w;
    fresh = λ lt here. absurd (away here);
    own = λ _ e. absurd (cc e);
    voted = λ _ w. inr (inr (refl, voted w));
    committed = λ _ e. absurd (cc e);
    stays_committed = λ e. absurd (undecided (sym is ∙ e));
    stays_aborted = λ e. refl;
    collecting = λ _ _ e. absurd (cc e);
    all = λ _ e. absurd (cc e);
  }

  -- Abort came, so the home is aborted
  keeps-abort : (a : Option TransactionState) → at s ≡ a → WasSent (IsAbout Abort id) sent → Keeps a (on_abort a)
  keeps-abort None is came = let home = ok.aborts came in
      aborting None is (λ e. absurd (cc e)) (λ here. absurd (cc (is, ap at here, home))) (λ _. home)
  keeps-abort (Some (Collecting b)) is came = silent (Some (Collecting b)) is
  keeps-abort (Some Prepared) is came = let home = ok.aborts came in
      aborting (Some Prepared) is (λ e. absurd (cc e)) (λ here. absurd (cc (is, ap at here, home))) (λ _. home)
  keeps-abort (Some Committed) is came = silent (Some Committed) is
  keeps-abort (Some Aborted) is came = silent (Some Aborted) is

  -- an answer that only the home gives
  homely : (a : Option TransactionState) (reply : Reply) → at s ≡ a → (s ≡ id.home → Keeps a reply) → Keeps a (at_home s id reply)
  homely a reply is keeps = cond_both (s == id.home) reply silence (Keeps a) (λ e. keeps (eqb-true s id.home e)) (λ _. silent a is)

  pub keeps-word : (from : ℕ) (word : NetWord) (a : Option TransactionState) → at s ≡ a → WasSent (IsFrom word id from) sent → Keeps a (on_word s id from word a)
  keeps-word from Prepare a is came = keeps-prepare a is (sent-as (IsFrom Prepare id from) (IsAbout Prepare id) (λ m p. (p.0, p.1)) sent came)
  keeps-word from Yes a is came = homely a (on_yes s id from a) is (λ here. keeps-yes from a is here came)
  keeps-word from No a is came = homely a (on_end s id a) is (λ here. keeps-end a is here)
  keeps-word from Commit a is came = keeps-commit a is (sent-as (IsFrom Commit id from) (IsAbout Commit id) (λ m p. (p.0, p.1)) sent came)
  keeps-word from Abort a is came = keeps-abort a is (sent-as (IsFrom Abort id from) (IsAbout Abort id) (λ m p. (p.0, p.1)) sent came)
  keeps-word from Ask a is came = homely a (on_ask s id from a) is (λ here. keeps-ask from a is here)

  -- a system without a mark has not voted
  unvoted : at s ≡ None → s ≢ id.home → WasSent (IsFrom Yes id s) sent → at id.home ≡ Some Aborted
  unvoted is away w = none (ok.voted s away w)
    where
      none : Voted (at s) (at id.home) → at id.home ≡ Some Aborted
      none (inl e) = absurd (cc (is, e))
      none (inr (inl e)) = absurd (cc (is, e))
      none (inr (inr p)) = p.1

  pub keeps-refuse : (a : Option TransactionState) → at s ≡ a → Keeps a (on_refuse s id a)
  keeps-refuse None is = cond_both (s == id.home) silence (becomes Aborted) (Keeps None) (λ _. silent None is)
      (λ e. aborting None is (λ f. absurd (cc f)) (eqb-false s id.home e) (unvoted is (eqb-false s id.home e)))
  keeps-refuse (Some x) is = silent (Some x) is

  pub keeps-wait : (a : Option TransactionState) → at s ≡ a → Keeps a (on_wait s id a)
  keeps-wait None is = silent None is
  keeps-wait (Some (Collecting b)) is = silent (Some (Collecting b)) is
  keeps-wait (Some Prepared) is =
      saying (Some Prepared) is Ask id.home (λ e. absurd (cc e)) (λ e. absurd (cc e)) (λ e. absurd (cc e)) (λ e. absurd (cc e))
  keeps-wait (Some Committed) is = silent (Some Committed) is
  keeps-wait (Some Aborted) is = silent (Some Aborted) is

  pub keeps-give-up : (a : Option TransactionState) → at s ≡ a → s ≡ id.home → Keeps a (on_end s id a)
  keeps-give-up = keeps-end

  pub keeps-restart : (a : Option TransactionState) → at s ≡ a → Moves id at last sent s (restarted_mark a) []
  keeps-restart None is = silent None is
  keeps-restart (Some (Collecting b)) is =
      ending b [] is (ok.own s b is) (λ _ w. absurd w) (λ w. absurd w) (λ _ w. absurd w) (λ w. absurd w)
  keeps-restart (Some Prepared) is = silent (Some Prepared) is
  keeps-restart (Some Committed) is = silent (Some Committed) is
  keeps-restart (Some Aborted) is = silent (Some Aborted) is
