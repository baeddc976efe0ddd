-- Bytes that may stand anywhere in a line, or end one.
use Rattle.std.proofs.Common.{◌≡◌, ℕ, Bool, true, false, List, [], ◌∷◌, length, refl, arith}
use Rattle.std.specs.Prelude.{◌==◌, ◌||◌, ◌&&◌, nat_le}
use Rattle.std.specs.List.{list_all}
use Rattle.std.proofs.lemmas.Grind.{common_steps}
use Rattle.pw_text.specs.Bytes.{is_bad, line_behind, bad_bytes}

-- 0x20 to 0x7E, and LF
abbrev pub plain : ℕ → Bool
plain b = b == 10 || (nat_le 32 b && nat_le b 126)

-- such a byte is not bad
plain-not_bad : (b : ℕ) (bs : List ℕ) → plain b ≡ true → is_bad (b ∷ bs) ≡ false
plain-not_bad b bs is = grind (arith, common_steps)

-- where all bytes are plain none is bad
pub plain-bad : (bytes : List ℕ) (line : ℕ) → list_all plain bytes ≡ true → bad_bytes line bytes ≡ []
unfolding bad_bytes
plain-bad [] line all = refl
plain-bad (b ∷ bs) line all =
    let first : plain b ≡ true = grind (arith, common_steps) in
    let others : list_all plain bs ≡ true = grind (arith, common_steps) in
    rw (plain-not_bad b bs first) (plain-bad bs (line_behind b line) others)

-- the same, at the end of a look through all
pub plain-none : (rest text : List ℕ) (all : Bool) → length rest ≡ 0 → (all && list_all plain rest) ≡ list_all plain text → all ≡ true
    → (line : ℕ) → bad_bytes line text ≡ []
plain-none [] text all none so_far is line = plain-bad text line (grind (arith, common_steps))
plain-none (b ∷ bs) text all none so_far is line = absurd (omega arith)
