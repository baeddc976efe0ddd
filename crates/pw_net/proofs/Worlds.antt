-- What holds in every world.
use Rattle.std.proofs.Common.{◌≡◌, ◌≢◌, inl, inr, ⊎_elim, ℕ, ◌+◌, ◌≤◌, eqb, List, [], ◌∷◌, Option, Some, None, refl, sym, ap, subst, ◌∙◌, arith, le_of_eq}
use Rattle.std.proofs.lemmas.Bool.{cases_eq, eq-eqb, ne_eqb, cond-true, cond-false}
use Rattle.pw_net.specs.Agreement.{WasSent, IsFrom}
use Rattle.pw_net.specs.Ballot.{Ballot}
use Rattle.pw_net.specs.Member.{Member, standing_of, turned, replied, own_id, start}
use Rattle.pw_net.specs.Rules.{Reply, told, told_each}
use Rattle.pw_net.specs.World.{NetWorld, with_member, done}
use Rattle.pw_net.specs.declared.message.Net.{Net}
use Rattle.pw_net.specs.declared.message.NetId.{NetId}
use Rattle.pw_net.specs.declared.message.NetWord.{NetWord}
use Rattle.pw_net.specs.declared.message.NetWord.TheVariants.{Prepare, Yes, Commit, Abort}
use Rattle.pw_net.specs.declared.standing.TransactionState.{TransactionState}
use Rattle.pw_net.specs.declared.standing.TransactionState.TheVariants.{Collecting, Committed}
use Rattle.pw_net.proofs.Moves.{Holds, Moves, IsAbout, IsPrepare, Voted, moved, unmoved}
use Rattle.pw_net.proofs.Sent.{In, sent-as, sent-each, sent-split}
use Rattle.pw_net.proofs.Standings.{behind, same_id, turned-same, turned-other, turned-system, turned-last}

-- the system has this member now
pub with-same : (members : ℕ → Member) (s : ℕ) (m : Member) (t : ℕ) → t ≡ s → with_member members s m t ≡ m
unfolding with_member
with-same members s m t is = cond-true (eqb t s) m (members t) (eq-eqb t s is)

-- the others have theirs
pub with-other : (members : ℕ → Member) (s : ℕ) (m : Member) (t : ℕ) → t ≢ s → with_member members s m t ≡ members t
unfolding with_member
with-other members s m t ne = cond-false (eqb t s) m (members t) (ne_eqb t s ne)

-- a fact of a member that the change keeps, is a fact that all keep
pub with-kept : {X : Type 0} (f : Member → X) (members : ℕ → Member) (s : ℕ) (m : Member) → f m ≡ f (members s) → (t : ℕ) → f (with_member members s m t) ≡ f (members t)
with-kept f members s m same t = ⊎_elim
    (λ is. ap f (with-same members s m t is) ∙ (same ∙ ap (λ k. f (members k)) (sym is)))
    (λ ne. ap f (with-other members s m t ne)) (cases_eq t s)

-- how each system stands to the transaction
abbrev pub standings : NetWorld → NetId → ℕ → Option TransactionState
standings w id t = standing_of (w.members t) id

-- what holds of every transaction, and that each member knows its system
pub record Sound (w : NetWorld) : Type 0 where
  pub systems : (t : ℕ) → (w.members t).system ≡ t
  pub holds : (id : NetId) → Holds id (standings w id) (w.members id.home).last w.sent

-- a reply about a transaction, which keeps what holds
pub reply-sound : (w : NetWorld) (s : ℕ) (id : NetId) (reply : Reply) → Sound w
    → Moves id (standings w id) (w.members id.home).last w.sent s (behind (standings w id s) reply.turns) reply.messages
    → Sound (done w s (replied (w.members s) id reply))
reply-sound w s id reply sound move = record {
  systems = λ t. with-kept (λ m. m.system) w.members s (turned (w.members s) id reply.turns) (turned-system (w.members s) id reply.turns) t ∙ sound.systems t;
  holds = λ other. ⊎_elim (same other) (differs other) (same_id other id);
}
  where
    next : NetWorld
    next = done w s (replied (w.members s) id reply)

    lasts : (t : ℕ) → (next.members t).last ≡ (w.members t).last
    lasts t = with-kept (λ m. m.last) w.members s (turned (w.members s) id reply.turns) (turned-last (w.members s) id reply.turns) t

    at-id : Holds id (standings next id) (next.members id.home).last next.sent
    at-id = subst (λ k. Holds id (standings next id) k next.sent) (sym (lasts id.home))
        (moved id (standings w id) (standings next id) (w.members id.home).last w.sent reply.messages s (behind (standings w id s) reply.turns) (sound.holds id) move
        (ap (λ m. standing_of m id) (with-same w.members s (turned (w.members s) id reply.turns) s refl) ∙ turned-same (w.members s) id reply.turns)
        (λ t ne. ap (λ m. standing_of m id) (with-other w.members s (turned (w.members s) id reply.turns) t ne)))

    same : (other : NetId) → other ≡ id → Holds other (standings next other) (next.members other.home).last next.sent
    same other is = subst (λ (k : NetId). Holds k (standings next k) (next.members k.home).last next.sent) (sym is) at-id

    differs : (other : NetId) → other ≢ id → Holds other (standings next other) (next.members other.home).last next.sent
    differs other ne = unmoved other (standings w other) (standings next other) (w.members other.home).last (next.members other.home).last w.sent reply.messages (sound.holds other)
        (with-kept (λ m. standing_of m other) w.members s (turned (w.members s) id reply.turns) (turned-other (w.members s) other id reply.turns ne))
        (le_of_eq (sym (lasts other.home))) (λ v. ne (move.about other v))

-- a start: the transaction is new, and its votes are all missing
pub start-sound : (w : NetWorld) (s : ℕ) (others : List ℕ) → Sound w → Sound (done w s (start (w.members s) others))
start-sound w s others sound = record {
  systems = λ t. with-kept (λ m. m.system) w.members s now refl t ∙ sound.systems t;
  holds = λ other. ⊎_elim (same other) (differs other) (same_id other id);
}
  where
    number : ℕ
    number = (w.members s).last + 1

    id : NetId
    id = own_id (w.members s) number

    ballot : Ballot
    ballot = record { others = others; missing = others }

    now : Member
    now = (start (w.members s) others).member

    next : NetWorld
    next = done w s (start (w.members s) others)

    new : List Net
    new = told_each (w.members s).system id Prepare others

    home : id.home ≡ s
    home = sound.systems s

    lasts : (t : ℕ) → (w.members t).last ≤ (next.members t).last
    lasts t = ⊎_elim
        (λ is. let e = ap (λ (m : Member). m.last) (with-same w.members s now t is) in let f = ap (λ k. (w.members k).last) is in omega (arith, e, f))
        (λ ne. le_of_eq (sym (ap (λ (m : Member). m.last) (with-other w.members s now t ne)))) (cases_eq t s)

    reached : (next.members id.home).last ≡ number
    reached = ap (λ (m : Member). m.last) (with-same w.members s now id.home home)

    was : Holds id (standings w id) (w.members id.home).last w.sent
    was = sound.holds id

    fresh : (standings w id id.home ≡ None) × (WasSent (IsAbout Prepare id) w.sent → ⊥)
    fresh = was.fresh (let e = ap (λ k. (w.members k).last) home in omega (arith, e))

    stands : standings next id id.home ≡ Some (Collecting ballot)
    stands = ap (λ m. standing_of m id) (with-same w.members s now id.home home) ∙ turned-same (w.members s) id (Some (Collecting ballot))

    elsewhere : (t : ℕ) → t ≢ s → standings next id t ≡ standings w id t
    elsewhere t ne = ap (λ m. standing_of m id) (with-other w.members s now t ne)

    unsent : (word : NetWord) → word ≢ Prepare → (P : Net → Type 0) → ((m : Net) → P m → m.word ≡ word) → WasSent P next.sent → WasSent P w.sent
    unsent word ne P f v = ⊎_elim (λ x. x)
        (λ x. absurd (sent-each P (w.members s).system id Prepare others ⊥ (λ to p. ne (sym (f (told (w.members s).system id Prepare to) p))) x)) (sent-split P w.sent new v)

    uncommitted : (t : ℕ) → standings next id t ≢ Some Committed
    uncommitted t e = ⊎_elim
        (λ is. absurd (cc (sym e ∙ (ap (standings next id) (is ∙ sym home) ∙ stands))))
        (λ ne. absurd (cc (fresh.0, was.committed t (sym (elsewhere t ne) ∙ e)))) (cases_eq t s)

    votes : (x : Option TransactionState) → Voted x (standings w id id.home) → Voted x (standings next id id.home)
    votes x (inl e) = inl e
    votes x (inr (inl e)) = inr (inl e)
    votes x (inr (inr (e, a))) = absurd (cc (fresh.0, a))

    at-id : Holds id (standings next id) (next.members id.home).last next.sent
    at-id = record {
      fresh = λ lt. absurd (omega (arith, lt, reached));
      own = λ t b e. ⊎_elim (λ is. is ∙ sym home) (λ ne. was.own t b (sym (elsewhere t ne) ∙ e)) (cases_eq t s);
      voted = λ t ne v.
          let away : t ≢ s = λ is. ne (is ∙ sym home) in
          votes (standings next id t) (subst (λ x. Voted x (standings w id id.home)) (sym (elsewhere t away))
          (was.voted t ne (unsent Yes (λ e. absurd (cc e)) (IsFrom Yes id t) (λ m p. p.0) v)));
      commits = λ v. absurd (cc (fresh.0, was.commits (unsent Commit (λ e. absurd (cc e)) (IsAbout Commit id) (λ m p. p.0) v)));
      aborts = λ v. absurd (cc (fresh.0, was.aborts (unsent Abort (λ e. absurd (cc e)) (IsAbout Abort id) (λ m p. p.0) v)));
      committed = λ t e. absurd (uncommitted t e);
      collecting = λ b e t v.
          let same : ballot ≡ b = cc (stands, e) in
          ⊎_elim (λ x. absurd (fresh.1 (sent-as (IsPrepare id t) (IsAbout Prepare id) (λ m p. (p.0, p.1)) w.sent x)))
          (λ x. inl (subst (λ (y : Ballot). In t y.missing) same (each-in t others x))) (sent-split (IsPrepare id t) w.sent new v);
      all = λ e. absurd (uncommitted id.home e);
    }
      where
        each-in : (t : ℕ) (xs : List ℕ) → WasSent (IsPrepare id t) (told_each (w.members s).system id Prepare xs) → In t xs
        each-in t [] v = absurd v
        each-in t (x ∷ xs) (inl p) = inl (sym p.2)
        each-in t (x ∷ xs) (inr v) = inr (each-in t xs v)

    same : (other : NetId) → other ≡ id → Holds other (standings next other) (next.members other.home).last next.sent
    same other is = subst (λ (k : NetId). Holds k (standings next k) (next.members k.home).last next.sent) (sym is) at-id

    differs : (other : NetId) → other ≢ id → Holds other (standings next other) (next.members other.home).last next.sent
    differs other ne = unmoved other (standings w other) (standings next other) (w.members other.home).last (next.members other.home).last w.sent new (sound.holds other)
        (with-kept (λ m. standing_of m other) w.members s now (turned-other (w.members s) other id (Some (Collecting ballot)) ne))
        (lasts other.home) (sent-each (λ m. m.id ≡ other) (w.members s).system id Prepare others ⊥ (λ to e. ne (sym e)))
