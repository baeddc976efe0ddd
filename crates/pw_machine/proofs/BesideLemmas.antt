-- How two operands compare as texts, character by character.
use Rattle.std.proofs.Common.{◌≡◌, ◌≢◌, ◌==◌, nat_lt, cond, Bool, true, false, ℕ, zero, suc, ◌+◌, ◌-◌, ◌<◌, ◌≤◌, max, List, [], ◌∷◌, ◌++◌, length, take, drop, get_or, refl, sym, ap, ◌∙◌, arith, length-drop}
use Rattle.std.specs.Prelude.{replicate}
use Rattle.std.specs.Cmp.{nat_cmp_is}
use Rattle.std.proofs.lemmas.Bool.Decides.{nat_tests}
use Rattle.std.specs.Cmp.Lexicographic.{slice_cmp}
use Rattle.std.specs.Ordering.{nat_cmp, ordering_then}
use Rattle.std.specs.declared.cmp.Ordering.{Ordering}
use Rattle.std.specs.declared.cmp.Ordering.TheVariants.{Less, Equal, Greater}
use Rattle.std.proofs.lemmas.List.{get_or_past, length-replicate}
use Rattle.pw_picture.specs.Text.{fitted}
use Rattle.pw_terminal.proofs.Written.{length-fitted, fitted-same}
use Rattle.pw_code_meaning.specs.Conditions.{text_order, beside, length_of}
use Rattle.pw_tree_meaning.specs.Values.{Value, Chars, Register, Number', Text', Spaces', Zeros', operand_text}
use Rattle.pw_machine.specs.Beside.{char_beside, size_beside}
use Rattle.pw_machine.proofs.TextLemmas.{split}

-- ---- fitted texts

get_or-replicate : (n value place d : ℕ) → place < n → get_or (replicate n value) place d ≡ value
get_or-replicate zero value place d lt = absurd (omega arith)
get_or-replicate (suc n) value zero d lt = refl
get_or-replicate (suc n) value (suc place) d lt = get_or-replicate n value place d (omega arith)

-- a text as it stands in a field, character by character
pub get_or-fitted : (size : ℕ) (text : List ℕ) (place d : ℕ) → place < size → get_or (fitted size text) place d ≡ get_or text place 32
get_or-fitted zero text place d lt = absurd (omega arith)
get_or-fitted (suc size) [] place d lt =
    let e : suc size - 0 ≡ suc size = omega arith in
    ap (λ (n : ℕ). get_or (replicate n 32) place d) e ∙ get_or-replicate (suc size) 32 place d lt ∙ sym (get_or_past [] place 32 (omega arith))
get_or-fitted (suc size) (char ∷ text) zero d lt = refl
get_or-fitted (suc size) (char ∷ text) (suc place) d lt =
    let e : suc size - suc (length text) ≡ size - length text = omega arith in
    ap (λ n. get_or (take size text ++ replicate n 32) place d) e ∙ get_or-fitted size text place d (omega arith)

-- ---- operands beside another

length-beside : (own other : Value) → length (beside own other) ≡ length_of own other
length-beside Spaces' other = length-replicate (length_of Spaces' other) 32
length-beside Zeros' other = length-replicate (length_of Zeros' other) 48
length-beside (Chars p chars) other = length-fitted (length_of (Chars p chars) other) (operand_text (Chars p chars))
length-beside (Register digits value) other = length-fitted (length_of (Register digits value) other) (operand_text (Register digits value))
length-beside (Number' spelling) other = length-fitted (length_of (Number' spelling) other) (operand_text (Number' spelling))
length-beside (Text' chars) other = length-fitted (length_of (Text' chars) other) chars

max-same : (n : ℕ) → max n n ≡ n
max-same n = omega arith

sizes : (a b : Value) → max (length_of a b) (length_of b a) ≡ size_beside a b
sizes Spaces' Spaces' = refl
sizes Spaces' Zeros' = refl
sizes Zeros' Spaces' = refl
sizes Zeros' Zeros' = refl
sizes Spaces' b = max-same (length (operand_text b))
sizes Zeros' b = max-same (length (operand_text b))
sizes a Spaces' = max-same (length (operand_text a))
sizes a Zeros' = max-same (length (operand_text a))
sizes a b = refl

pub size-beside : (a b : Value) → max (length (beside a b)) (length (beside b a)) ≡ size_beside a b
size-beside a b = ap (λ n. max n (length (beside b a))) (length-beside a b) ∙ ap (λ n. max (length_of a b) n) (length-beside b a) ∙ sizes a b

all_one : (value n place : ℕ) → get_or (replicate n value) place value ≡ value
all_one value zero place = get_or_past [] place value (omega arith)
all_one value (suc n) zero = refl
all_one value (suc n) (suc place) = all_one value n place

zeros_few : (other : Value) (place : ℕ) → place < max (length_of Zeros' other) (length_of other Zeros') → place < length_of Zeros' other
zeros_few Spaces' place lt = lt
zeros_few Zeros' place lt = lt
zeros_few other place lt = omega (arith, lt)

char_by : (own other : Value) (place : ℕ) → place < max (length_of own other) (length_of other own) → get_or (beside own other) place 32 ≡ char_beside own place
char_by Spaces' other place lt = all_one 32 (length_of Spaces' other) place
char_by Zeros' other place lt = get_or-replicate (length_of Zeros' other) 48 place 32 (zeros_few other place lt)
char_by (Chars p chars) other place lt = ap (λ t. get_or t place 32) (fitted-same (length (operand_text (Chars p chars))) (operand_text (Chars p chars)) refl)
char_by (Register digits value) other place lt = ap (λ t. get_or t place 32) (fitted-same (length (operand_text (Register digits value))) (operand_text (Register digits value)) refl)
char_by (Number' spelling) other place lt = ap (λ t. get_or t place 32) (fitted-same (length (operand_text (Number' spelling))) (operand_text (Number' spelling)) refl)
char_by (Text' chars) other place lt = ap (λ t. get_or t place 32) (fitted-same (length chars) chars refl)

-- the characters that are compared
pub char-left : (a b : Value) (place : ℕ) → place < size_beside a b → get_or (fitted (size_beside a b) (beside a b)) place 0 ≡ char_beside a place
char-left a b place lt =
    get_or-fitted (size_beside a b) (beside a b) place 0 lt ∙ char_by a b place (omega (arith, sizes a b))

pub char-right : (a b : Value) (place : ℕ) → place < size_beside a b → get_or (fitted (size_beside a b) (beside b a)) place 0 ≡ char_beside b place
char-right a b place lt =
    get_or-fitted (size_beside a b) (beside b a) place 0 lt ∙ char_by b a place (omega (arith, sizes a b))

-- ---- the order, from a place on

-- the rest of two texts that are compared
abbrev pub order_from : Value → Value → ℕ → Ordering
order_from a b place =
    slice_cmp nat_cmp (drop place (fitted (size_beside a b) (beside a b))) (drop place (fitted (size_beside a b) (beside b a)))

pub order_start : (a b : Value) → order_from a b 0 ≡ text_order (beside a b) (beside b a)
order_start a b = ap (λ n. slice_cmp nat_cmp (fitted n (beside a b)) (fitted n (beside b a))) (sym (size-beside a b))

pub order_step : (a b : Value) (place : ℕ) → place < size_beside a b
    → order_from a b place ≡ ordering_then (nat_cmp (char_beside a place) (char_beside b place)) (order_from a b (place + 1))
order_step a b place lt =
    let fa = fitted (size_beside a b) (beside a b) in
    let fb = fitted (size_beside a b) (beside b a) in
    let long_a : place < length fa = omega (arith, length-fitted (size_beside a b) (beside a b)) in
    let long_b : place < length fb = omega (arith, length-fitted (size_beside a b) (beside b a)) in
    ap (λ l. slice_cmp nat_cmp l (drop place fb)) (split fa place long_a)
    ∙ ap (λ l. slice_cmp nat_cmp (get_or fa place 0 ∷ drop (place + 1) fa) l) (split fb place long_b)
    ∙ ap (λ n. ordering_then (nat_cmp n (get_or fb place 0)) (order_from a b (place + 1))) (char-left a b place lt)
    ∙ ap (λ n. ordering_then (nat_cmp (char_beside a place) n) (order_from a b (place + 1))) (char-right a b place lt)

none_left : (xs ys : List ℕ) → length xs ≡ 0 → length ys ≡ 0 → slice_cmp nat_cmp xs ys ≡ Equal
none_left [] [] a b = refl
none_left [] (y ∷ ys) a b = absurd (omega (arith, b))
none_left (x ∷ xs) ys a b = absurd (omega (arith, a))

pub order_end : (a b : Value) (place : ℕ) → size_beside a b ≤ place → order_from a b place ≡ Equal
order_end a b place le =
    let fa = fitted (size_beside a b) (beside a b) in
    let fb = fitted (size_beside a b) (beside b a) in
    none_left (drop place fa) (drop place fb)
    (omega (arith, length-drop place fa, length-fitted (size_beside a b) (beside a b)))
    (omega (arith, length-drop place fb, length-fitted (size_beside a b) (beside b a)))

-- ---- the first characters that differ decide

differ_by : (less same : Bool) (rest : Ordering) → same ≡ false → ordering_then (cond less Less (cond same Equal Greater)) rest ≡ cond less Less (cond same Equal Greater)
differ_by true same rest h = refl
differ_by false true rest h = absurd (cc)
differ_by false false rest h = refl

pub order_differs : (a b : Value) (place x y : ℕ) (found : Ordering) → place < size_beside a b → x ≡ char_beside a place → y ≡ char_beside b place → x ≢ y → found ≡ nat_cmp x y
    → found ≡ order_from a b place
order_differs a b place x y found lt one two differ is =
    let test : (x == y) ≡ false = grind (arith, nat_tests) in
    is ∙ sym (differ_by (nat_lt x y) (x == y) (order_from a b (place + 1)) test)
    ∙ ap (λ n. ordering_then (nat_cmp n y) (order_from a b (place + 1))) one
    ∙ ap (λ n. ordering_then (nat_cmp (char_beside a place) n) (order_from a b (place + 1))) two
    ∙ sym (order_step a b place lt)

pub order_goes_on : (a b : Value) (place x y : ℕ) → place < size_beside a b → x ≡ char_beside a place → y ≡ char_beside b place → x ≡ y
    → order_from a b place ≡ order_from a b (place + 1)
order_goes_on a b place x y lt one two same =
    let alike : char_beside a place ≡ char_beside b place = sym one ∙ same ∙ two in
    order_step a b place lt ∙ ap (λ o. ordering_then o (order_from a b (place + 1))) (sym (nat_cmp_is (char_beside a place) (char_beside b place) Equal alike))
