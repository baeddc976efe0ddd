-- Words that are cut at a point.
use Rattle.std.proofs.Common.{◌≡◌, ℕ, ◌+◌, ◌<◌, ◌^◌, Bool, true, false, cond, List, [], ◌∷◌, ◌++◌, length, get_or, take, drop, Some, None, refl, sym, ap, ◌∙◌, arith, append_assoc}
use Rattle.std.specs.Prelude.{◌==◌, nat_lt}
use Rattle.std.specs.Fmt.{decimal}
use Rattle.std.specs.List.{position, position_or_len}
use Rattle.std.specs.Option.{option_map}
use Rattle.std.proofs.lemmas.Bool.{ne_eqb, eqb-true, ltb-true, lt-ltb}
use Rattle.std.proofs.lemmas.Fmt.{decimal_is_IsNumeral}
use Rattle.std.proofs.lemmas.List.{get_or_append_left, get_or_at, take_at, drop_at, length-append, length_push, get_or_default}
use Rattle.std.proofs.lemmas.List.Sums.{position_or_len_is, split_at_first, passes_at_first}
use Rattle.std.proofs.lemmas.Str.Parse.{digit_at}
use Rattle.pw_event.specs.Keywords.{or_bad}
use Rattle.pw_event.specs.Parsing.{cut}
use Rattle.pw_event.proofs.Splits.{Lacks}
use Rattle.pw_event.proofs.Steps.{Outcome}

-- digits have no byte below them
pub decimal_lacks : (c n : ℕ) → c < 48 → n < 2 ^ 64 → Lacks c (decimal n)
decimal_lacks c n low fits k d within =
    let digit = digit_at (decimal n) k (decimal_is_IsNumeral n fits).0.1 within in
    ne_eqb (get_or (decimal n) k d) c (λ e. omega (arith, get_or_default (decimal n) k d 0 within))

-- the first point is the one behind bytes without any
point_at : (before behind : List ℕ) → Lacks 46 before → position_or_len (λ b. b == 46) (before ++ 46 ∷ behind) ≡ length before
point_at before behind lacks =
    position_or_len_is (λ b. b == 46) (before ++ 46 ∷ behind) (length before) 0 (omega (arith, length-append before (46 ∷ behind)))
    (λ k less. rw (get_or_append_left before (46 ∷ behind) 0 k less) (lacks k 0 less))
    (λ within. rw (get_or_at before 46 behind 0 (length before) refl) refl)

pub cut_joined : (before behind : List ℕ) → Lacks 46 before → cut (before ++ 46 ∷ behind) ≡ Some (before, behind)
unfolding cut
cut_joined before behind lacks =
    let whole = before ++ 46 ∷ behind in
    let within : length before < length whole = omega (arith, length-append before (46 ∷ behind)) in
    let found : position (λ b. b == 46) whole ≡ Some (length before) = rw (point_at before behind lacks, lt-ltb (length before) (length whole) within) refl in
    let front : take (length before) whole ≡ before = take_at before (46 ∷ behind) (length before) refl in
    let back : drop (length before + 1) whole ≡ behind = ap (drop (length before + 1)) (sym (append_assoc before (46 ∷ []) behind)) ∙ drop_at (before ++ 46 ∷ []) behind (length before + 1) (length_push before 46) in
    rw found (ap Some cc)

cut_by : (word : List ℕ) (U : Type 0) (b : Bool) → nat_lt (position_or_len (λ b. b == 46) word) (length word) ≡ b
    → Outcome (λ (parts : List ℕ × List ℕ). word ≡ parts.0 ++ 46 ∷ parts.1) U (or_bad (option_map (λ point. (take point word, drop (point + 1) word)) (cond b (Some (position_or_len (λ b. b == 46) word)) None)))
cut_by word U true is =
    let at = position_or_len (λ b. b == 46) word in
    let within : at < length word = ltb-true at (length word) is in
    let point : get_or word at 0 ≡ 46 = eqb-true _ 46 (passes_at_first (λ b. b == 46) word 0 within) in
    split_at_first (λ b. b == 46) word 0 within ∙ ap (λ b. take at word ++ b ∷ drop (at + 1) word) point
cut_by word U false is = tt

pub cut_out : (word : List ℕ) (U : Type 0) → Outcome (λ (parts : List ℕ × List ℕ). word ≡ parts.0 ++ 46 ∷ parts.1) U (or_bad (cut word))
unfolding cut
cut_out word U = cut_by word U _ refl
