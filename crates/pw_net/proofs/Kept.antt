-- What the standings as they are kept come to.
use Rattle.std.proofs.Common.{◌≡◌, ◌≢◌, ◌⊎◌, inl, inr, ℕ, ◌+◌, ◌<◌, ◌≤◌, nat_le, true, false, cond, [], ◌∷◌, Some, Ordering, Less, Equal, Greater, map, refl, sym, ap, subst, ◌∙◌, arith}
use Rattle.std.proofs.lemmas.Bool.{cond_both}
use Rattle.std.proofs.lemmas.Bool.Decides.{nat_tests}
use Rattle.std.specs.BTreeMap.{insert_entry, is_at}
use Rattle.std.specs.Map.{lookup}
use Rattle.std.specs.Option.{option_map}
use Rattle.std.specs.Ordering.{match_ordering}
use Rattle.pw_base.proofs.Plain.{le-true, le-false}
use Rattle.pw_net.specs.Ballot.{Ballot}
use Rattle.pw_net.specs.Kept.{since, standings_now, is_collecting, AreBegun}
use Rattle.pw_net.specs.Member.{id_order, mark_in}
use Rattle.pw_net.specs.Rules.{standing_after_restart}
use Rattle.pw_net.specs.declared.message.Mark.{Mark}
use Rattle.pw_net.specs.declared.message.NetId.{NetId}
use Rattle.pw_net.specs.declared.standing.TransactionState.{TransactionState}
use Rattle.pw_net.specs.declared.standing.TransactionState.TheVariants.{Collecting, Prepared, Committed, Aborted}
use Rattle.pw_net.proofs.Standings.{Entries, Found, found-first, found-later, id-exact, same_id}

above : (a b : ℕ) → nat_le a b ≡ false → b < a
above a b h = grind (arith, nat_tests)

-- a look-up among what stands now
pub found-now : (lost : ℕ) (id : NetId) (es : Entries) → Found id (standings_now lost es) (option_map (since lost id.number) (lookup (is_at (id_order id)) es))
found-now lost id [] = refl
found-now lost id (e ∷ es) = place (found-now lost id es) (same_id id e.0)
  where
    place : Found id (standings_now lost es) (option_map (since lost id.number) (lookup (is_at (id_order id)) es)) → (id ≡ e.0) ⊎ (id ≢ e.0)
        → Found id (standings_now lost (e ∷ es)) (option_map (since lost id.number) (lookup (is_at (id_order id)) (e ∷ es)))
    place there (inl is) = found-first id e.0 (since lost e.0.number e.1) (standings_now lost es) is
        ∙ (ap (λ (k : NetId). Some (since lost k.number e.1)) (sym is) ∙ sym (ap (option_map (since lost id.number)) (found-first id e.0 e.1 es is)))
    place there (inr differ) = found-later id e.0 (since lost e.0.number e.1) (standings_now lost es) differ
        ∙ (there ∙ sym (ap (option_map (since lost id.number)) (found-later id e.0 e.1 es differ)))

-- a standing that loses no votes is put in among what stands now
pub put-now : (lost : ℕ) (id : NetId) (x : TransactionState) (es : Entries) → since lost id.number x ≡ x
    → standings_now lost (insert_entry id_order es id x) ≡ insert_entry id_order (standings_now lost es) id x
put-now lost id x [] stays = ap (λ y. (id, y) ∷ []) stays
put-now lost id x (e ∷ es) stays = place (put-now lost id x es stays) (id_order id e.0) refl
  where
    now : NetId × TransactionState
    now = (e.0, since lost e.0.number e.1)

    place : standings_now lost (insert_entry id_order es id x) ≡ insert_entry id_order (standings_now lost es) id x → (o : Ordering) → id_order id e.0 ≡ o
        → standings_now lost (match_ordering o ((id, x) ∷ e ∷ es) ((e.0, x) ∷ es) (e ∷ insert_entry id_order es id x))
        ≡ match_ordering o ((id, x) ∷ now ∷ standings_now lost es) ((e.0, x) ∷ standings_now lost es) (now ∷ insert_entry id_order (standings_now lost es) id x)
    place there Less is = ap (λ y. (id, y) ∷ now ∷ standings_now lost es) stays
    place there Equal is = ap (λ y. (e.0, y) ∷ standings_now lost es) (subst (λ (k : NetId). since lost k.number x ≡ x) (id-exact id e.0 is) stays)
    place there Greater is = ap (λ ys. now ∷ ys) there

-- a standing put in collects votes only for a number that was begun
pub begun-put : (last : ℕ) (id : NetId) (x : TransactionState) (es : Entries) → (is_collecting (Some x) ≡ true → id.number ≤ last) → AreBegun last es → AreBegun last (insert_entry id_order es id x)
begun-put last id x [] here begun = (here, tt)
begun-put last id x (e ∷ es) here begun = place (begun-put last id x es here begun.1) (id_order id e.0) refl
  where
    place : AreBegun last (insert_entry id_order es id x) → (o : Ordering) → id_order id e.0 ≡ o
        → AreBegun last (match_ordering o ((id, x) ∷ e ∷ es) ((e.0, x) ∷ es) (e ∷ insert_entry id_order es id x))
    place there Less is = (here, begun)
    place there Equal is = (subst (λ (k : NetId). is_collecting (Some x) ≡ true → k.number ≤ last) (id-exact id e.0 is) here, begun.1)
    place there Greater is = (begun.0, there)

-- more numbers are begun
pub begun-more : (last more : ℕ) (es : Entries) → last ≤ more → AreBegun last es → AreBegun more es
begun-more last more [] le begun = tt
begun-more last more (e ∷ es) le begun =
    ((λ is. let h = begun.0 is in omega arith), begun-more last more es le begun.1)

-- a standing that collects votes now is for a number that was begun since the last restart
open-one : (lost number : ℕ) (x : TransactionState) → is_collecting (Some (since lost number x)) ≡ true → (is_collecting (Some x) ≡ true) × (lost < number)
open-one lost number (Collecting ballot) h =
    (refl, cond_both (nat_le number lost) Aborted (Collecting ballot) (λ y. is_collecting (Some y) ≡ true → lost < number) (λ _ no. absurd (cc no)) (λ e _. above number lost e) h)
open-one lost number Prepared h = absurd (cc h)
open-one lost number Committed h = absurd (cc h)
open-one lost number Aborted h = absurd (cc h)

pub open-number : (lost last : ℕ) (id : NetId) (es : Entries) → AreBegun last es → is_collecting (lookup (is_at (id_order id)) (standings_now lost es)) ≡ true → (lost < id.number) × (id.number ≤ last)
open-number lost last id [] begun h = absurd (cc h)
open-number lost last id (e ∷ es) begun h = place (open-number lost last id es begun.1) (same_id id e.0)
  where
    Goal : Type 0
    Goal = (lost < id.number) × (id.number ≤ last)

    place : (is_collecting (lookup (is_at (id_order id)) (standings_now lost es)) ≡ true → Goal) → (id ≡ e.0) ⊎ (id ≢ e.0) → Goal
    place there (inl is) =
        let shown : is_collecting (Some (since lost e.0.number e.1)) ≡ true = sym (ap is_collecting (found-first id e.0 (since lost e.0.number e.1) (standings_now lost es) is)) ∙ h in
        let one = open-one lost e.0.number e.1 shown in
        subst (λ (k : NetId). (lost < k.number) × (k.number ≤ last)) (sym is) (one.1, begun.0 one.0)
    place there (inr differ) = there (sym (ap is_collecting (found-later id e.0 (since lost e.0.number e.1) (standings_now lost es) differ)) ∙ h)

-- a standing whose votes are for a later number stays
pub stays : (lost number : ℕ) (x : TransactionState) → (is_collecting (Some x) ≡ true → lost < number) → since lost number x ≡ x
stays lost number (Collecting ballot) later = ap (λ b. cond b Aborted (Collecting ballot)) (le-false number lost (later refl))
stays lost number Prepared later = refl
stays lost number Committed later = refl
stays lost number Aborted later = refl

-- where all votes so far are lost, what stood before is restarted
all-lost : (lost last number : ℕ) (x : TransactionState) → (is_collecting (Some x) ≡ true → number ≤ last) → since last number x ≡ standing_after_restart (since lost number x)
all-lost lost last number (Collecting ballot) begun =
    ap (λ b. cond b Aborted (Collecting ballot)) (le-true number last (begun refl)) ∙ cond_both (nat_le number lost) Aborted (Collecting ballot) (λ y. Aborted ≡ standing_after_restart y) (λ _. refl) (λ _. refl)
all-lost lost last number Prepared begun = refl
all-lost lost last number Committed begun = refl
all-lost lost last number Aborted begun = refl

pub restart-now : (lost last : ℕ) (es : Entries) → AreBegun last es → standings_now last es ≡ map (λ e. (e.0, standing_after_restart e.1)) (standings_now lost es)
restart-now lost last [] begun = refl
restart-now lost last (e ∷ es) begun =
    ap (λ y. (e.0, y) ∷ standings_now last es) (all-lost lost last e.0.number e.1 begun.0)
    ∙ ap (λ ys. (e.0, standing_after_restart (since lost e.0.number e.1)) ∷ ys) (restart-now lost last es begun.1)

-- the next number begins to collect votes
pub put-next : (lost last home : ℕ) (ballot : Ballot) (es : Entries) → lost ≤ last
    → standings_now lost (insert_entry id_order es (record { home = home; number = last + 1 }) (Collecting ballot)) ≡ insert_entry id_order (standings_now lost es) (record { home = home; number = last + 1 }) (Collecting ballot)
put-next lost last home ballot es le = put-now lost (record { home = home; number = last + 1 }) (Collecting ballot) es (stays lost (last + 1) (Collecting ballot) (λ _. omega arith))

pub begun-next : (last home : ℕ) (ballot : Ballot) (es : Entries) → AreBegun last es → AreBegun (last + 1) (insert_entry id_order es (record { home = home; number = last + 1 }) (Collecting ballot))
begun-next last home ballot es begun = begun-put (last + 1) (record { home = home; number = last + 1 }) (Collecting ballot) es (λ _. omega arith) (begun-more last (last + 1) es (omega arith) begun)

-- the marks of what stands now
pub marks-now : (lost : ℕ) (es : Entries) → map {B = NetId × Mark} (λ e. (e.0, mark_in (since lost e.0.number e.1))) es ≡ map {B = NetId × Mark} (λ e. (e.0, mark_in e.1)) (standings_now lost es)
marks-now lost [] = refl
marks-now lost (e ∷ es) = ap (λ ms. (e.0, mark_in (since lost e.0.number e.1)) ∷ ms) (marks-now lost es)
