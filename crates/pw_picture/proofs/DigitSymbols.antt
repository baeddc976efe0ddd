-- How many digits are among some symbols.
use Rattle.std.proofs.Common.{◌≡◌, ℕ, ◌+◌, ◌≤◌, Bool, List, take, drop, sym, ap, ◌∙◌, cond, arith, IsTrue, not, ◌&&◌, nat_le}
use Rattle.std.proofs.lemmas.List.{take-append-drop}
use Rattle.std.proofs.lemmas.List.Sums.{sum_by-append}
use Rattle.std.proofs.lemmas.Bool.Decides.{nat_tests}
use Rattle.pw_picture.specs.Grammar.{digit_symbols, is_either, is_edited, is_body, is_run_of, after_symbol}
use Rattle.pw_picture.specs.Symbols.{begins_with}

-- the digits in front and those behind are all
in_parts : (n : ℕ) (symbols : List ℕ) → digit_symbols (take n symbols) + digit_symbols (drop n symbols) ≡ digit_symbols symbols
in_parts n symbols = sym (sum_by-append (λ x. cond (is_either 57 90 x) 1 0) (take n symbols) (drop n symbols)) ∙ ap digit_symbols (take-append-drop n symbols)

sum_above : (a b c d e : ℕ) → a + b ≡ c → d + c ≡ e → a ≤ e
sum_above a b c d e first second = omega arith

-- a part of some symbols has no more digits than all
pub fewer-part : (m n : ℕ) (symbols : List ℕ) → digit_symbols (take m (drop n symbols)) ≤ digit_symbols symbols
fewer-part m n symbols = sum_above _ _ _ _ _ (in_parts m (drop n symbols)) (in_parts n symbols)

few_by : (digits : ℕ) (a b d : Bool) → IsTrue (a && (b && (nat_le digits 18 && d))) → digits ≤ 18
few_by digits a b d h = grind (arith, nat_tests)

-- an edited picture has at most 18 digits
pub few_digits : (symbols : List ℕ) → IsTrue (is_edited symbols) → digit_symbols symbols ≤ 18
few_digits symbols h = few_by (digit_symbols symbols) (is_body (begins_with 45 symbols) (after_symbol 45 symbols)) (nat_le 1 (digit_symbols symbols)) (not (is_run_of 57 symbols)) h
