-- How a member stands to a transaction after a change.
use Rattle.std.proofs.Common.{◌≡◌, ◌≢◌, ◌⊎◌, inl, inr, ℕ, List, [], ◌∷◌, true, false, Option, Some, None, Ordering, Less, Equal, Greater, nat_cmp, is_eq, map, refl, sym, ap, ap₂, subst, ◌∙◌, arith}
use Rattle.std.proofs.lemmas.Bool.{cases_Bool, cases_eq, cond-true, cond-false}
use Rattle.std.proofs.lemmas.Bool.Decides.{nat_tests}
use Rattle.std.proofs.lemmas.Map.Lookups.{exact_unsigned}
use Rattle.std.specs.BTreeMap.{insert_entry, is_at}
use Rattle.std.specs.Map.{lookup}
use Rattle.std.specs.Ordering.{ordering_then, match_ordering}
use Rattle.pw_base.proofs.Plain.{is_eq-Equal}
use Rattle.pw_net.specs.Member.{Member, id_order, standing_of, turned, restart}
use Rattle.pw_net.specs.Rules.{standing_after_restart}
use Rattle.pw_net.specs.declared.message.NetId.{NetId}
use Rattle.pw_net.specs.declared.standing.TransactionState.{TransactionState}

abbrev id_of : ℕ → ℕ → NetId
id_of home number = record { home = home; number = number }

id_from : (a b : NetId) → a.home ≡ b.home → a.number ≡ b.number → a ≡ b
id_from a b home number = ap₂ (λ h n. id_of h n) home number

pub same_id : (a b : NetId) → (a ≡ b) ⊎ (a ≢ b)
same_id a b = home (cases_eq a.home b.home)
  where
    number : a.home ≡ b.home → (a.number ≡ b.number) ⊎ (a.number ≢ b.number) → (a ≡ b) ⊎ (a ≢ b)
    number h (inl n) = inl (id_from a b h n)
    number h (inr ne) = inr (λ e. ne (ap (λ (id : NetId). id.number) e))

    home : (a.home ≡ b.home) ⊎ (a.home ≢ b.home) → (a ≡ b) ⊎ (a ≢ b)
    home (inl h) = number h (cases_eq a.number b.number)
    home (inr ne) = inr (λ e. ne (ap (λ (id : NetId). id.home) e))

then-equal : (o p : Ordering) → ordering_then o p ≡ Equal → (o ≡ Equal) × (p ≡ Equal)
then-equal Less p e = absurd (cc e)
then-equal Equal p e = (refl, e)
then-equal Greater p e = absurd (cc e)

pub id-exact : (a b : NetId) → id_order a b ≡ Equal → a ≡ b
id-exact a b e =
    let parts = then-equal (nat_cmp a.home b.home) (nat_cmp a.number b.number) e in
    let home = exact_unsigned a.home b.home parts.0 in
    let number = exact_unsigned a.number b.number parts.1 in
    id_from a b home number

nat-same : (n : ℕ) → nat_cmp n n ≡ Equal
nat-same n = grind (arith, nat_tests)

id-same : (a : NetId) → id_order a a ≡ Equal
id-same a = ap (λ o. ordering_then o (nat_cmp a.number a.number)) (nat-same a.home) ∙ nat-same a.number

at-same : (a : NetId) → is_at (id_order a) a ≡ true
at-same a = ap is_eq (id-same a)

at-apart : (a b : NetId) → a ≢ b → is_at (id_order a) b ≡ false
at-apart a b ne = apart (cases_Bool (is_at (id_order a) b))
  where
    apart : (is_at (id_order a) b ≡ true) ⊎ (is_at (id_order a) b ≡ false) → is_at (id_order a) b ≡ false
    apart (inl is) = absurd (ne (id-exact a b (is_eq-Equal (id_order a b) is)))
    apart (inr differ) = differ

abbrev pub Entries : Type 0
Entries = List (NetId × TransactionState)

-- what is found at a transaction behind the change of one
abbrev pub Found : NetId → Entries → Option TransactionState → Type 0
Found id entries standing = lookup (is_at (id_order id)) entries ≡ standing

pub found-first : (id key : NetId) (x : TransactionState) (es : Entries) → id ≡ key → Found id ((key, x) ∷ es) (Some x)
found-first id key x es is = cond-true (is_at (id_order id) key) (Some x) (lookup (is_at (id_order id)) es) (subst (λ k. is_at (id_order id) k ≡ true) is (at-same id))

pub found-later : (id key : NetId) (x : TransactionState) (es : Entries) → id ≢ key → Found id ((key, x) ∷ es) (lookup (is_at (id_order id)) es)
found-later id key x es ne = cond-false (is_at (id_order id) key) (Some x) (lookup (is_at (id_order id)) es) (at-apart id key ne)

found-same : (id : NetId) (x : TransactionState) (es : Entries) → Found id (insert_entry id_order es id x) (Some x)
found-same id x [] = found-first id id x [] refl
found-same id x (e ∷ es) = place (found-same id x es) (id_order id e.0) refl
  where
    place : Found id (insert_entry id_order es id x) (Some x) → (o : Ordering) → id_order id e.0 ≡ o → Found id (match_ordering o ((id, x) ∷ e ∷ es) ((e.0, x) ∷ es) (e ∷ insert_entry id_order es id x)) (Some x)
    place there Less is = found-first id id x (e ∷ es) refl
    place there Equal is = found-first id e.0 x es (id-exact id e.0 is)
    place there Greater is = found-later id e.0 e.1 (insert_entry id_order es id x) (λ same. absurd (cc (sym is ∙ (ap (λ k. id_order id k) (sym same) ∙ id-same id)))) ∙ there

found-other : (id key : NetId) (x : TransactionState) (es : Entries) → id ≢ key → Found id (insert_entry id_order es key x) (lookup (is_at (id_order id)) es)
found-other id key x [] ne = found-later id key x [] ne
found-other id key x (e ∷ es) ne = place (found-other id key x es ne) (id_order key e.0) refl
  where
    Same : Type 0
    Same = Found id (insert_entry id_order es key x) (lookup (is_at (id_order id)) es)

    rest : Same → (id ≡ e.0) ⊎ (id ≢ e.0) → Found id (e ∷ insert_entry id_order es key x) (lookup (is_at (id_order id)) (e ∷ es))
    rest there (inl is) = found-first id e.0 e.1 (insert_entry id_order es key x) is ∙ sym (found-first id e.0 e.1 es is)
    rest there (inr differ) = found-later id e.0 e.1 (insert_entry id_order es key x) differ ∙ (there ∙ sym (found-later id e.0 e.1 es differ))

    place : Same → (o : Ordering) → id_order key e.0 ≡ o → Found id (match_ordering o ((key, x) ∷ e ∷ es) ((e.0, x) ∷ es) (e ∷ insert_entry id_order es key x)) (lookup (is_at (id_order id)) (e ∷ es))
    place there Less is = found-later id key x (e ∷ es) ne
    place there Equal is =
        let apart : id ≢ e.0 = λ same. ne (same ∙ sym (id-exact key e.0 is)) in
        found-later id e.0 x es apart ∙ sym (found-later id e.0 e.1 es apart)
    place there Greater is = rest there (same_id id e.0)

-- the standing behind a change: the new one where there is one
abbrev pub behind : Option TransactionState → Option TransactionState → Option TransactionState
behind old None = old
behind old (Some standing) = Some standing

pub turned-same : (member : Member) (id : NetId) (turns : Option TransactionState) → standing_of (turned member id turns) id ≡ behind (standing_of member id) turns
turned-same member id None = refl
turned-same member id (Some x) = found-same id x member.standings

pub turned-other : (member : Member) (id key : NetId) (turns : Option TransactionState) → id ≢ key → standing_of (turned member key turns) id ≡ standing_of member id
turned-other member id key None ne = refl
turned-other member id key (Some x) ne = found-other id key x member.standings ne

-- a change keeps the member's system and its last number
pub turned-system : (member : Member) (id : NetId) (turns : Option TransactionState) → (turned member id turns).system ≡ member.system
turned-system member id None = refl
turned-system member id (Some x) = refl

pub turned-last : (member : Member) (id : NetId) (turns : Option TransactionState) → (turned member id turns).last ≡ member.last
turned-last member id None = refl
turned-last member id (Some x) = refl

-- what a restart leaves of a standing, if there is one
abbrev pub restarted_mark : Option TransactionState → Option TransactionState
restarted_mark None = None
restarted_mark (Some standing) = Some (standing_after_restart standing)

found-restarted : (id : NetId) (es : Entries) → Found id (map (λ e. (e.0, standing_after_restart e.1)) es) (restarted_mark (lookup (is_at (id_order id)) es))
found-restarted id [] = refl
found-restarted id (e ∷ es) = rest (found-restarted id es) (same_id id e.0)
  where
    rest : Found id (map (λ e. (e.0, standing_after_restart e.1)) es) (restarted_mark (lookup (is_at (id_order id)) es)) → (id ≡ e.0) ⊎ (id ≢ e.0) → Found id (map (λ e. (e.0, standing_after_restart e.1)) (e ∷ es)) (restarted_mark (lookup (is_at (id_order id)) (e ∷ es)))
    rest there (inl is) = found-first id e.0 (standing_after_restart e.1) (map (λ e. (e.0, standing_after_restart e.1)) es) is ∙ sym (ap restarted_mark (found-first id e.0 e.1 es is))
    rest there (inr differ) = found-later id e.0 (standing_after_restart e.1) (map (λ e. (e.0, standing_after_restart e.1)) es) differ ∙ (there ∙ sym (ap restarted_mark (found-later id e.0 e.1 es differ)))

pub restart-standing : (member : Member) (id : NetId) → standing_of (restart member) id ≡ restarted_mark (standing_of member id)
restart-standing member id = found-restarted id member.standings
