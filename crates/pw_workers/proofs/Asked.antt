-- The pairs are asked one after the other.
use Rattle.std.proofs.Common.{◌≡◌, ◌≢◌, ◌<◌, ◌≤◌, ◌+◌, ◌∙◌, ℕ, List, length, Option, None, Some, Result, Ok, Err, IfOk, refl, subst, sym, ⊎_elim, arith}
use Rattle.std.specs.Prelude.{slice_index_or, slice_set}
use Rattle.std.proofs.lemmas.Bool.{cases_eq}
use Rattle.std.proofs.lemmas.List.{get_or-set_other, get_or-set_same, get_or_default, length-set}
use Rattle.pw_base.specs.declared.memory.Memory.{Memory}
use Rattle.pw_pair.specs.SeenTask.{SeenTask}
use Rattle.pw_workers.specs.Places.{IsLaneAsked, IsAskedAt, lane_at}
use Rattle.pw_workers.specs.declared.lane.LinkLane.{LinkLane}

-- the lane of a place was asked, where it is there
pub asked-at : {U : Type 0} (task : Option SeenTask) (place : Option LinkLane) (lane new : LinkLane) (result : Result U Memory)
    → place ≡ Some lane → IfOk result (λ u. IsLaneAsked task lane new) → IfOk result (λ u. IsAskedAt task place (Some new))
asked-at task place lane new (Ok u) is asked =
    subst (λ (p : Option LinkLane). IsAskedAt task p (Some new)) (sym is) (new, (refl, asked))
asked-at task place lane new (Err memory) is asked = tt

module _ (first now : List (Option LinkLane)) (n : ℕ) (new : Option LinkLane) where
  -- pair n is asked behind those before it
  pub one-more : (task : ℕ → Option SeenTask) (old d : Option LinkLane) → n < length now → old ≡ slice_index_or now n d
      → ((p : ℕ) → p < n → IsAskedAt (task p) (lane_at first p) (lane_at now p)) → lane_at now n ≡ lane_at first n
      → IsAskedAt (task n) old new
      → (p : ℕ) → p < n + 1 → IsAskedAt (task p) (lane_at first p) (lane_at (slice_set now n new) p)
  one-more task old d within is done same asked p below =
      let then = slice_set now n new in
      let was : old ≡ lane_at first n = is ∙ (get_or_default now n d None within ∙ same) in
      let at_n : IsAskedAt (task n) (lane_at first n) (lane_at then n) =
      subst (λ (lane : Option LinkLane). IsAskedAt (task n) (lane_at first n) lane) (sym (get_or-set_same now n new None within))
      (subst (λ (lane : Option LinkLane). IsAskedAt (task n) lane new) was asked)
      in
      ⊎_elim
      (λ same_p. subst (λ (k : ℕ). IsAskedAt (task k) (lane_at first k) (lane_at then k)) (sym same_p) at_n)
      (λ differ.
      subst (λ (lane : Option LinkLane). IsAskedAt (task p) (lane_at first p) lane) (sym (get_or-set_other now n p new None differ)) (done p (omega arith)))
      (cases_eq p n)

  -- those behind it are as they were
  pub rest-left : ((p : ℕ) → n ≤ p → lane_at now p ≡ lane_at first p)
      → (p : ℕ) → n + 1 ≤ p → lane_at (slice_set now n new) p ≡ lane_at first p
  rest-left left p above =
      let differ : p ≢ n = λ is. omega arith in get_or-set_other now n p new None differ ∙ left p (omega arith)

  pub as-many : length now ≡ length first → length (slice_set now n new) ≡ length first
  as-many same = length-set now n new ∙ same
