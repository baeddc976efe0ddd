-- What holds of one transaction in every world, and that one system's change of standing keeps it.
use Rattle.std.proofs.Common.{◌≡◌, ◌≢◌, ◌⊎◌, inl, inr, ⊎_elim, ℕ, ◌<◌, ◌≤◌, List, ◌++◌, Option, Some, None, sym, ap, subst, ◌∙◌, lt_of_le_of_lt}
use Rattle.std.proofs.lemmas.Bool.{cases_eq}
use Rattle.pw_net.specs.Agreement.{WasSent, IsFrom}
use Rattle.pw_net.specs.Ballot.{Ballot}
use Rattle.pw_net.specs.declared.message.Net.{Net}
use Rattle.pw_net.specs.declared.message.NetId.{NetId}
use Rattle.pw_net.specs.declared.message.NetWord.{NetWord}
use Rattle.pw_net.specs.declared.message.NetWord.TheVariants.{Prepare, Yes, Commit, Abort}
use Rattle.pw_net.specs.declared.standing.TransactionState.{TransactionState}
use Rattle.pw_net.specs.declared.standing.TransactionState.TheVariants.{Collecting, Prepared, Committed, Aborted}
use Rattle.pw_net.proofs.Sent.{In, sent-before, sent-split, sent-as}

-- a message with this word about the transaction
abbrev pub IsAbout : NetWord → NetId → Net → Type 0
IsAbout word id m = (m.word ≡ word) × (m.id ≡ id)

-- a Prepare of the transaction to this system
abbrev pub IsPrepare : NetId → ℕ → Net → Type 0
IsPrepare id system m = (m.word ≡ Prepare) × (m.id ≡ id) × (m.to ≡ system)

-- a system that has voted yes is prepared or committed, or aborted where its home is
abbrev pub Voted : Option TransactionState → Option TransactionState → Type 0
Voted standing home = (standing ≡ Some Prepared) ⊎ ((standing ≡ Some Committed) ⊎ ((standing ≡ Some Aborted) × (home ≡ Some Aborted)))

-- what holds of a transaction: how each system stands to it, the last number of its home, and the messages sent
pub record Holds (id : NetId) (at : ℕ → Option TransactionState) (last : ℕ) (sent : List Net) : Type 0 where
  pub fresh : last < id.number → (at id.home ≡ None) × (WasSent (IsAbout Prepare id) sent → ⊥)
  pub own : (s : ℕ) (b : Ballot) → at s ≡ Some (Collecting b) → s ≡ id.home
  pub voted : (s : ℕ) → s ≢ id.home → WasSent (IsFrom Yes id s) sent → Voted (at s) (at id.home)
  pub commits : WasSent (IsAbout Commit id) sent → at id.home ≡ Some Committed
  pub aborts : WasSent (IsAbout Abort id) sent → at id.home ≡ Some Aborted
  pub committed : (s : ℕ) → at s ≡ Some Committed → at id.home ≡ Some Committed
  pub collecting : (b : Ballot) → at id.home ≡ Some (Collecting b) → (s : ℕ) → WasSent (IsPrepare id s) sent → In s b.missing ⊎ WasSent (IsFrom Yes id s) sent
  pub all : at id.home ≡ Some Committed → (s : ℕ) → WasSent (IsPrepare id s) sent → WasSent (IsFrom Yes id s) sent

-- a change of one system's standing to b, with new messages, that keeps this
pub record Moves (id : NetId) (at : ℕ → Option TransactionState) (last : ℕ) (sent : List Net) (s : ℕ) (b : Option TransactionState) (new : List Net) : Type 0 where
  pub about : (other : NetId) → WasSent (λ m. m.id ≡ other) new → other ≡ id
  pub quiet : WasSent (IsAbout Prepare id) new → ⊥
  pub votes : (t : ℕ) → WasSent (IsFrom Yes id t) new → (t ≡ s) × (b ≡ Some Prepared)
  pub commits : WasSent (IsAbout Commit id) new → (s ≡ id.home) × (b ≡ Some Committed)
  pub aborts : WasSent (IsAbout Abort id) new → (s ≡ id.home) × (b ≡ Some Aborted)
  pub fresh : last < id.number → s ≡ id.home → b ≡ None
  pub own : (ballot : Ballot) → b ≡ Some (Collecting ballot) → s ≡ id.home
  pub voted : s ≢ id.home → WasSent (IsFrom Yes id s) sent → Voted b (at id.home)
  pub committed : s ≢ id.home → b ≡ Some Committed → at id.home ≡ Some Committed
  pub stays_committed : at s ≡ Some Committed → b ≡ Some Committed
  pub stays_aborted : at s ≡ Some Aborted → b ≡ Some Aborted
  pub collecting : s ≡ id.home → (ballot : Ballot) → b ≡ Some (Collecting ballot) → (t : ℕ) → WasSent (IsPrepare id t) sent → In t ballot.missing ⊎ WasSent (IsFrom Yes id t) sent
  pub all : s ≡ id.home → b ≡ Some Committed → (t : ℕ) → WasSent (IsPrepare id t) sent → WasSent (IsFrom Yes id t) sent

-- messages about other transactions, and numbers that rise, change nothing
pub unmoved : (id : NetId) (at now : ℕ → Option TransactionState) (last later : ℕ) (sent new : List Net) → Holds id at last sent
    → ((t : ℕ) → now t ≡ at t) → last ≤ later → (WasSent (λ m. m.id ≡ id) new → ⊥) → Holds id now later (sent ++ new)
unmoved id at now last later sent new ok same rises apart = record {
  fresh = λ lt. let f = ok.fresh (lt_of_le_of_lt rises lt) in (same id.home ∙ f.0, λ w. f.1 (old (IsAbout Prepare id) (λ m p. p.1) w));
  own = λ s b e. ok.own s b (sym (same s) ∙ e);
  voted = λ s ne w. subst (λ x. Voted x (now id.home)) (sym (same s)) (subst (λ h. Voted (at s) h) (sym (same id.home)) (ok.voted s ne (old (IsFrom Yes id s) (λ m p. p.1) w)));
  commits = λ w. same id.home ∙ ok.commits (old (IsAbout Commit id) (λ m p. p.1) w);
  aborts = λ w. same id.home ∙ ok.aborts (old (IsAbout Abort id) (λ m p. p.1) w);
  committed = λ s e. same id.home ∙ ok.committed s (sym (same s) ∙ e);
  collecting = λ b e s w. more s b (ok.collecting b (sym (same id.home) ∙ e) s (old (IsPrepare id s) (λ m p. p.1) w));
  all = λ e s w. sent-before (IsFrom Yes id s) sent new (ok.all (sym (same id.home) ∙ e) s (old (IsPrepare id s) (λ m p. p.1) w));
}
  where
    old : (P : Net → Type 0) → ((m : Net) → P m → m.id ≡ id) → WasSent P (sent ++ new) → WasSent P sent
    old P f w = ⊎_elim (λ v. v) (λ v. absurd (apart (sent-as P (λ m. m.id ≡ id) f new v))) (sent-split P sent new w)

    more : (s : ℕ) (b : Ballot) → In s b.missing ⊎ WasSent (IsFrom Yes id s) sent → In s b.missing ⊎ WasSent (IsFrom Yes id s) (sent ++ new)
    more s b (inl i) = inl i
    more s b (inr w) = inr (sent-before (IsFrom Yes id s) sent new w)

-- such a change keeps what holds
pub moved : (id : NetId) (at now : ℕ → Option TransactionState) (last : ℕ) (sent new : List Net) (s : ℕ) (b : Option TransactionState) → Holds id at last sent
    → Moves id at last sent s b new → now s ≡ b → ((t : ℕ) → t ≢ s → now t ≡ at t) → Holds id now last (sent ++ new)
moved id at now last sent new s b ok move is others = record {
  fresh = λ lt. (at-home (λ here. move.fresh lt here) (λ _. (ok.fresh lt).0), λ w. ⊎_elim (ok.fresh lt).1 move.quiet (sent-split (IsAbout Prepare id) sent new w));
  own = λ t ballot e. at-system t (λ x. x ≡ Some (Collecting ballot) → t ≡ id.home) (λ here x. here ∙ move.own ballot x) (λ _ x. ok.own t ballot x) e;
  voted = voted;
  commits = λ w. ⊎_elim (λ v. stays-committed (ok.commits v)) (λ v. let p = move.commits v in sym (ap now p.0) ∙ (is ∙ p.1)) (sent-split (IsAbout Commit id) sent new w);
  aborts = λ w. ⊎_elim (λ v. stays-aborted (ok.aborts v)) (λ v. let p = move.aborts v in sym (ap now p.0) ∙ (is ∙ p.1)) (sent-split (IsAbout Abort id) sent new w);
  committed = λ t e. at-system t (λ x. x ≡ Some Committed → now id.home ≡ Some Committed)
      (λ here x. home-or t here x) (λ _ x. stays-committed (ok.committed t x)) e;
  collecting = λ ballot e t w. more t ballot (home-ballot ballot t (asked t w) e);
  all = λ e t w. sent-before (IsFrom Yes id t) sent new (home-all t (asked t w) e);
}
  where
    at-system : (t : ℕ) (P : Option TransactionState → Type 0) → (t ≡ s → P b) → (t ≢ s → P (at t)) → P (now t)
    at-system t P here there = ⊎_elim (λ e. subst P (sym (ap now e ∙ is)) (here e)) (λ ne. subst P (sym (others t ne)) (there ne)) (cases_eq t s)

    at-home : {x : Option TransactionState} → (s ≡ id.home → b ≡ x) → (id.home ≢ s → at id.home ≡ x) → now id.home ≡ x
    at-home {x = x} here there = at-system id.home (λ y. y ≡ x) (λ e. here (sym e)) there

    stays-committed : at id.home ≡ Some Committed → now id.home ≡ Some Committed
    stays-committed e = at-home (λ here. move.stays_committed (ap at here ∙ e)) (λ _. e)

    stays-aborted : at id.home ≡ Some Aborted → now id.home ≡ Some Aborted
    stays-aborted e = at-home (λ here. move.stays_aborted (ap at here ∙ e)) (λ _. e)

    home-or : (t : ℕ) → t ≡ s → b ≡ Some Committed → now id.home ≡ Some Committed
    home-or t here x = ⊎_elim (λ e. ap now (sym e) ∙ (is ∙ x)) (λ ne. stays-committed (move.committed ne x)) (cases_eq s id.home)

    asked : (t : ℕ) → WasSent (IsPrepare id t) (sent ++ new) → WasSent (IsPrepare id t) sent
    asked t w = ⊎_elim (λ v. v) (λ v. absurd (move.quiet (sent-as (IsPrepare id t) (IsAbout Prepare id) (λ m p. (p.0, p.1)) new v))) (sent-split (IsPrepare id t) sent new w)

    more : (t : ℕ) (ballot : Ballot) → In t ballot.missing ⊎ WasSent (IsFrom Yes id t) sent → In t ballot.missing ⊎ WasSent (IsFrom Yes id t) (sent ++ new)
    more t ballot (inl i) = inl i
    more t ballot (inr w) = inr (sent-before (IsFrom Yes id t) sent new w)

    home-ballot : (ballot : Ballot) (t : ℕ) → WasSent (IsPrepare id t) sent → now id.home ≡ Some (Collecting ballot) → In t ballot.missing ⊎ WasSent (IsFrom Yes id t) sent
    home-ballot ballot t w = at-system id.home (λ x. x ≡ Some (Collecting ballot) → In t ballot.missing ⊎ WasSent (IsFrom Yes id t) sent)
        (λ here x. move.collecting (sym here) ballot x t w) (λ _ x. ok.collecting ballot x t w)

    home-all : (t : ℕ) → WasSent (IsPrepare id t) sent → now id.home ≡ Some Committed → WasSent (IsFrom Yes id t) sent
    home-all t w = at-system id.home (λ x. x ≡ Some Committed → WasSent (IsFrom Yes id t) sent)
        (λ here x. move.all (sym here) x t w) (λ _ x. ok.all x t w)

    later : (x : Option TransactionState) → Voted x (at id.home) → Voted x (now id.home)
    later x (inl e) = inl e
    later x (inr (inl e)) = inr (inl e)
    later x (inr (inr (e, a))) = inr (inr (e, stays-aborted a))

    voted : (t : ℕ) → t ≢ id.home → WasSent (IsFrom Yes id t) (sent ++ new) → Voted (now t) (now id.home)
    voted t ne w = ⊎_elim
        (λ v. at-system t (λ x. Voted x (now id.home))
        (λ here. later b (move.voted (λ e. ne (here ∙ e)) (subst (λ k. WasSent (IsFrom Yes id k) sent) here v)))
        (λ _. later (at t) (ok.voted t ne v)))
        (λ v. let p = move.votes t v in inl (ap now p.0 ∙ (is ∙ p.1)))
        (sent-split (IsFrom Yes id t) sent new w)
