-- The number of a text that clap let through.
use Rattle.std.proofs.Common.{◌≡◌, ◌∙◌, ◌≤◌, ℕ, Option, Some, None, Result, Ok, Err, refl, ap, arith, true≢false, sym}
use Rattle.std.specs.Option.{is_some}
use Rattle.std.specs.Str.Parse.{ExplainsUnsignedError, HasUnsignedDigitsIfOk, ParsesUnsigned}
use Rattle.clap.specs.Words.{ReadsOne, Text, one_of, one_text, rows_of}
use Rattle.clap.specs.declared.parser.matches.Found.{Found}
use Rattle.clap.proofs.WalkLemmas.{one_text-rows}
use Rattle.pw_command_line.specs.CommandLine.{IsNumberIn, number_of_option}

read_as_number : {E : Type 0} (gives : Text → Result ℕ E → Type 0) (text : Option Text) (r : Option ℕ)
    → ((t : Text) (x : Result ℕ E) → gives t x → ParsesUnsigned 32 10 t x)
    → (text ≡ None → r ≡ None) → ((t : Text) → text ≡ Some t → ReadsOne gives t r) → IsNumberIn 0 4294967295 text → r ≡ Some (number_of_option text)
read_as_number gives None r how none value h = absurd h
read_as_number gives (Some t) (Some v) how none value h = ap (λ n. Some n) (how t (Ok v) (value t refl)).1
read_as_number gives (Some t) None how none value h =
    let x = value t refl in
    absurd (how t (Err x.0) x.1 (h.0, omega arith))

-- what `get_one::<u32>` gives of a number that fits
pub number_is : (f : Found) (id : Text) (r : Option ℕ) → (one_text f id ≡ None → r ≡ None)
    → ((t : Text) → one_text f id ≡ Some t → ReadsOne (λ u x. ParsesUnsigned 32 10 u x × ExplainsUnsignedError 10 u x × HasUnsignedDigitsIfOk u x) t r)
    → IsNumberIn 0 4294967295 (one_of id (rows_of f)) → r ≡ Some (number_of_option (one_of id (rows_of f)))
number_is f id r none value h =
    read_as_number (λ u x. ParsesUnsigned 32 10 u x × ExplainsUnsignedError 10 u x × HasUnsignedDigitsIfOk u x) (one_of id (rows_of f)) r (λ t x g. g.0)
    (λ e. none (one_text-rows f id ∙ e)) (λ t e. value t (one_text-rows f id ∙ e)) h

pub not_none : {X : Type 0} (r : Option X) (x : X) → r ≡ None → r ≡ Some x → ⊥
not_none None x none some = true≢false (ap (λ o. is_some o) (sym some))
not_none (Some y) x none some = true≢false (ap (λ o. is_some o) none)

pub wider : (low high : ℕ) (text : Option Text) → high ≤ 4294967295 → IsNumberIn low high text → IsNumberIn 0 4294967295 text
wider low high None most h = h
wider low high (Some t) most h = (h.0, h.1, omega arith, omega arith)

pub in_range : (low high : ℕ) (text : Option Text) → IsNumberIn low high text → (low ≤ number_of_option text) × (number_of_option text ≤ high)
in_range low high None h = absurd h
in_range low high (Some t) h = (h.2, h.3)
