-- The members and messages that are kept stand for a net world.
use Rattle.std.proofs.Common.{◌≡◌, ◌≢◌, ◌⊎◌, inl, inr, ℕ, cond, List, ◌++◌, refl, sym, ap, ap₂, ◌∙◌, subst}
use Rattle.std.proofs.Math.Path.{fun_ext}
use Rattle.std.proofs.lemmas.Bool.{cases_eq, eq-eqb, ne_eqb}
use Rattle.pw_net.specs.Member.{Member, MemberOutcome}
use Rattle.pw_net.specs.World.{NetWorld, with_member, done}
use Rattle.pw_net.specs.declared.message.Net.{Net}
use Rattle.pw_expand.specs.Systems.{KeepsOthers, member_in, world_of}

pub with-same : (members : ℕ → Member) (s : ℕ) (m : Member) → with_member members s m s ≡ m
unfolding with_member
with-same members s m = ap (λ b. cond b m (members s)) (eq-eqb s s refl)

pub with-other : (members : ℕ → Member) (s : ℕ) (m : Member) (t : ℕ) → t ≢ s → with_member members s m t ≡ members t
unfolding with_member
with-other members s m t ne = ap (λ b. cond b m (members t)) (ne_eqb t s ne)

-- a member was taken out and another one was put in, and messages were sent
pub done-same : (old mid new : List (ℕ × Member)) (s : ℕ) (taken after : Member) (sent made messages : List Net) (outcome : Member → MemberOutcome)
    → taken ≡ member_in old s → KeepsOthers s old mid → after ≡ (outcome taken).member → messages ≡ (outcome taken).messages
    → member_in new s ≡ after → KeepsOthers s mid new → made ≡ sent ++ messages
    → world_of new made ≡ done (world_of old sent) s (outcome (member_in old s))
done-same old mid new s taken after sent made messages outcome is_taken others is_after are is_new kept is_made = ap₂ world_from (fun_ext member) all
  where
    world_from : (ℕ → Member) → List Net → NetWorld
    world_from members messages = record { members = members; sent = messages }

    result : Member
    result = (outcome (member_in old s)).member

    place : (t : ℕ) → (t ≡ s) ⊎ (t ≢ s) → member_in new t ≡ with_member (member_in old) s result t
    place t (inl e) =
        let there : member_in new s ≡ result = is_new ∙ (is_after ∙ ap (λ m. (outcome m).member) is_taken) in
        let P : ℕ → Type 0 = λ u. member_in new u ≡ with_member (member_in old) s result u in
        subst P (sym e) (there ∙ sym (with-same (member_in old) s result))
    place t (inr ne) = kept t ne ∙ (others t ne ∙ sym (with-other (member_in old) s result t ne))

    member : (t : ℕ) → member_in new t ≡ with_member (member_in old) s result t
    member t = place t (cases_eq t s)

    all : made ≡ sent ++ (outcome (member_in old s)).messages
    all = is_made ∙ ap (λ ms. sent ++ ms) (are ∙ ap (λ m. (outcome m).messages) is_taken)
