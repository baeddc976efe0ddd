-- Lines one behind the other, and processes that work.
use Rattle.std.proofs.Common.{◌≡◌, ◌∙◌, ℕ, suc, ◌+◌, ◌≤◌, Bool, true, false, List, ◌++◌, Option, Some, None, refl, ap, append_assoc, arith}
use Rattle.std.specs.Option.{option_map}
use Rattle.std.specs.Prelude.{is_some, if◌then◌else◌}
use Rattle.pw_status.specs.Counts.{busy_to}
use Rattle.pw_paired.specs.State.{Job, State}
use Rattle.pw_status.specs.Text.{lines_to}

-- one line more
pub lines-more : (line : ℕ → List ℕ) (n : ℕ) (first text next : List ℕ) → text ≡ first ++ lines_to line n → next ≡ text ++ line n → next ≡ first ++ lines_to line (n + 1)
lines-more line n first text next so is =
    let one : suc n ≡ n + 1 = omega arith in
    is ∙ (ap (λ (t : List ℕ). t ++ line n) so ∙ (append_assoc first (lines_to line n) (line n) ∙ ap (λ (k : ℕ). first ++ lines_to line k) one))

some-of : (job : Option Job) → is_some (option_map (λ (j : Job). j.request.terminal) job) ≡ is_some job
some-of None = refl
some-of (Some job) = refl

-- one process more
pub busy-more : (state : State) (c n count next : ℕ) (worker : Option ℕ) (one : Bool) → count ≡ busy_to state c n → worker ≡ option_map (λ (j : Job). j.request.terminal) ((state.classes c).busy (n + 1))
    → one ≡ is_some worker → next ≡ (if one then count + 1 else count) → next ≡ busy_to state c (n + 1)
busy-more state c n count next worker one so works is becomes =
    let flag : one ≡ is_some ((state.classes c).busy (n + 1)) = is ∙ (ap is_some works ∙ some-of ((state.classes c).busy (n + 1))) in
    let more : suc n ≡ n + 1 = omega arith in
    becomes
    ∙ (ap (λ (k : ℕ). if one then k + 1 else k) so
    ∙ (ap (λ (b : Bool). if b then busy_to state c n + 1 else busy_to state c n) flag ∙ ap (busy_to state c) more))

pub one-at-most : (one : Bool) (count next n : ℕ) → count ≤ n → next ≡ (if one then count + 1 else count) → next ≤ n + 1
one-at-most true count next n few is = omega (arith, few, is)
one-at-most false count next n few is = omega (arith, few, is)
