-- Runs of bytes, and the bytes that may not stand in a line.
use Rattle.std.proofs.Common.{◌≡◌, ℕ, Bool, true, false, List, [], ◌∷◌, length, take, take_while, Option, refl, sym, ap, ◌∙◌, arith}
use Rattle.std.proofs.lemmas.List.Folds.{length-prefix_len}
use Rattle.pw_base.specs.declared.fault.Fault.{Fault}
use Rattle.pw_base.specs.declared.fault_code.FaultCode.TheVariants.{BadCharacter}
use Rattle.pw_base.specs.First.{fault_noted, least}
use Rattle.pw_base.proofs.FirstFault.{least-append}
use Rattle.pw_text.specs.Bytes.{run, is_bad, text_fault_if, line_behind, bad_bytes}

-- as many bytes as pass a test are those that pass it
pub take-run : (test : ℕ → Bool) (bytes : List ℕ) → take (run test bytes) bytes ≡ take_while test bytes
take-run test bytes = ap (λ n. take n bytes) (length-prefix_len test bytes)

least-only_if : (is_fault : Bool) (fault : Fault) (known : Option Fault) → least known (text_fault_if is_fault fault) ≡ fault_noted known is_fault fault
least-only_if true fault known = refl
least-only_if false fault known = refl

-- the bad bytes from one byte on
bad_bytes_step : (b line : ℕ) (bs : List ℕ) (known : Option Fault)
    → least known (bad_bytes line (b ∷ bs)) ≡ least (fault_noted known (is_bad (b ∷ bs)) (record { line = line; code = BadCharacter })) (bad_bytes (line_behind b line) bs)
unfolding bad_bytes
bad_bytes_step b line bs known =
    let bad : Fault = record { line = line; code = BadCharacter } in
    least-append known (text_fault_if (is_bad (b ∷ bs)) bad) (bad_bytes (line_behind b line) bs)
    ∙ ap (λ best. least best (bad_bytes (line_behind b line) bs)) (least-only_if (is_bad (b ∷ bs)) bad known)

-- one byte further
pub bad_bytes_further : (rest behind : List ℕ) (b line : ℕ) (known next_known whole : Option Fault) (next_line : ℕ) (bad : Bool)
    → rest ≡ b ∷ behind → bad ≡ is_bad rest → next_known ≡ fault_noted known bad (record { line = line; code = BadCharacter }) → next_line ≡ line_behind b line
    → least known (bad_bytes line rest) ≡ whole → least next_known (bad_bytes next_line behind) ≡ whole
bad_bytes_further rest behind b line known next_known whole next_line bad rest_is bad_is known_is line_is so_far =
    rw (known_is, line_is, bad_is, rest_is) (sym (bad_bytes_step b line behind known) ∙ ap (λ bs. least known (bad_bytes line bs)) (sym rest_is) ∙ so_far)

-- behind the last byte there is none
pub bad_bytes_last : (rest : List ℕ) (line : ℕ) (known : Option Fault) → length rest ≡ 0 → least known (bad_bytes line rest) ≡ known
unfolding bad_bytes
bad_bytes_last [] line known none = refl
bad_bytes_last (b ∷ bs) line known none = absurd (omega arith)
