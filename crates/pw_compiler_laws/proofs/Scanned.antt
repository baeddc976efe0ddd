-- The numbers among the tokens of a text are written as numbers are.
use Rattle.std.proofs.Common.{◌≡◌, ℕ, zero, suc, ◌+◌, ◌-◌, ◌≤◌, Bool, true, false, ◌||◌, List, [], ◌∷◌, ◌++◌, length, take, drop, take_while, Option, Some, None, Ok, if◌then◌else◌, refl, sym, ap, ◌∙◌, subst, arith}
use Rattle.std.specs.Prelude.{◌==◌, codes, nat_lt}
use Rattle.std.proofs.lemmas.Bool.{and_parts, eqb-true, ltb-false, ne_eqb}
use Rattle.std.proofs.lemmas.List.{drop-drop}
use Rattle.std.proofs.lemmas.List.Folds.{length-prefix_len}
use Rattle.std.proofs.lemmas.List.Sums.{take_while-cons}
use Rattle.std.proofs.Math.Seq.{take-add}
use Rattle.pw_base.specs.declared.fault.Fault.{Fault}
use Rattle.pw_base.specs.declared.fault_code.FaultCode.TheVariants.{NumberTooLong}
use Rattle.pw_base.specs.First.{least, unless}
use Rattle.pw_base.specs.Limits.{longest_word, most_digits}
use Rattle.pw_words.specs.Words.{same_word}
use Rattle.pw_operands.specs.Resolved.{Each}
use Rattle.pw_tree_meaning.proofs.storage.Places.{each-append}
use Rattle.pw_text.specs.Bytes.{is_digit, is_letter, is_picture_byte, is_separator, is_sign, is_signed, run, begins_with, bad_bytes}
use Rattle.pw_text.specs.Cursor.{spelling}
use Rattle.pw_text.specs.Items as items
use Rattle.pw_text.specs.Items.{places_at, number_item, or_equal, mark_item, number_or_mark, line_item, text_item, quoted, word_item, word_at, dollar_item, picture_of, picture_item, item_by, item_at, is_is, is_pic, without_period}
use Rattle.pw_text.specs.Tokens.{token_of, tokens_at, tokens_in, items_from, items_of, line_after, faults_in, tokens_of}
use Rattle.pw_text.specs.declared.item.TextItem.{TextItem}
use Rattle.pw_text.specs.declared.item.TextPiece.{TextPiece}
use Rattle.pw_text.specs.declared.item.TextPiece.TheVariants as piece
use Rattle.pw_text.specs.declared.item.LinePlace.{LinePlace}
use Rattle.pw_text.specs.declared.item.LinePlace.TheVariants.{LineStart, InLine, BehindPic, BehindIs}
use Rattle.pw_text.specs.declared.token.Token.{Token}
use Rattle.pw_text.specs.declared.token.TokenKind.{TokenKind}
use Rattle.pw_text.specs.declared.token.TokenKind.TheVariants as kind
use Rattle.pw_compiler_laws.proofs.Numerals.{AreDigits, IsNumeral, point_and, signs, AreSigns, numeral-literal}
use Rattle.pw_compiler_laws.specs.Tokens.{Says, HasSpelledNumber}

-- bytes of a token of this kind: those of a number are written so
abbrev Spells : TokenKind → List ℕ → Type 0
Spells kind.Number bytes = IsNumeral bytes
Spells _ bytes = Unit {0}

abbrev PieceSpells : TextPiece → List ℕ → Type 0
PieceSpells (piece.Token found) bytes = Spells found bytes
PieceSpells _ bytes = Unit {0}

-- the bytes that an item takes of these
record ItemSpells (bytes : List ℕ) (item : TextItem) : Type 0 where
  is : PieceSpells item.piece (take item.size bytes)

-- ---- a number

take-run : (test : ℕ → Bool) (bytes : List ℕ) → take (run test bytes) bytes ≡ take_while test bytes
take-run test bytes = ap (λ n. take n bytes) (length-prefix_len test bytes)

while-digits : (bytes : List ℕ) → AreDigits (take_while is_digit bytes)
while-digits [] = tt
while-digits (b ∷ bs) = subst AreDigits (sym (take_while-cons is_digit b bs)) (by (is_digit b) refl (while-digits bs))
  where
    by : (c : Bool) → is_digit b ≡ c → AreDigits (take_while is_digit bs) → AreDigits (if c then b ∷ take_while is_digit bs else [])
    by true is all = (is, all)
    by false is all = tt

-- the digits behind a point in front
abbrev places_of : List ℕ → List ℕ
places_of [] = []
places_of (b ∷ bs) = if b == 46 then take_while is_digit bs else []

places-digits : (bytes : List ℕ) → AreDigits (places_of bytes)
places-digits [] = tt
places-digits (b ∷ bs) = by (b == 46)
  where
    by : (c : Bool) → AreDigits (if c then take_while is_digit bs else [])
    by true = while-digits bs
    by false = tt

places-long : (bytes : List ℕ) → length (places_of bytes) ≡ places_at bytes
places-long [] = refl
places-long (b ∷ bs) = by (b == 46)
  where
    by : (c : Bool) → length (if c then take_while is_digit bs else []) ≡ (if c then run is_digit bs else 0)
    by true = refl
    by false = refl

abbrev point_size : ℕ → ℕ
point_size places = if places == 0 then 0 else 1 + places

take-point : (b : ℕ) (bs ds : List ℕ) → b ≡ 46 → take (length ds) bs ≡ ds → take (point_size (length ds)) (b ∷ bs) ≡ point_and ds
take-point b bs [] is taken = refl
take-point b bs (d ∷ ds) is taken =
    let more : 1 + length (d ∷ ds) ≡ suc (length (d ∷ ds)) = omega arith in
    ap (λ c. take (if c then 0 else 1 + length (d ∷ ds)) (b ∷ bs)) (ne_eqb (length (d ∷ ds)) 0 (λ e. omega (arith, e)))
    ∙ ap (λ n. take n (b ∷ bs)) more ∙ ap (λ (xs : List ℕ). b ∷ xs) taken ∙ ap (λ n. n ∷ (d ∷ ds)) is

take-nothing : (bytes : List ℕ) → take 0 bytes ≡ []
take-nothing [] = refl
take-nothing (b ∷ bs) = refl

take-places : (bytes : List ℕ) → take (point_size (places_at bytes)) bytes ≡ point_and (places_of bytes)
take-places [] = refl
take-places (b ∷ bs) = by (b == 46) refl
  where
    by : (c : Bool) → (b == 46) ≡ c → take (point_size (if c then run is_digit bs else 0)) (b ∷ bs) ≡ point_and (if c then take_while is_digit bs else [])
    by true is = take-point b bs (take_while is_digit bs) (eqb-true b 46 is) (take-run is_digit bs)
    by false is = refl

take-number : (bytes : List ℕ) → take (run is_digit bytes + point_size (places_at (drop (run is_digit bytes) bytes))) bytes
    ≡ take_while is_digit bytes ++ point_and (places_of (drop (run is_digit bytes) bytes))
take-number bytes =
    let rest = drop (run is_digit bytes) bytes in
    take-add (run is_digit bytes) (point_size (places_at rest)) bytes
    ∙ ap (λ (xs : List ℕ). xs ++ take (point_size (places_at rest)) rest) (take-run is_digit bytes)
    ∙ ap (λ (xs : List ℕ). take_while is_digit bytes ++ xs) (take-places rest)

some-run : (b : ℕ) (bs : List ℕ) → is_digit b ≡ true → 1 ≤ length (take_while is_digit (b ∷ bs))
some-run b bs is =
    let long : length (take_while is_digit (b ∷ bs)) ≡ suc (length (take_while is_digit bs)) =
    ap length (take_while-cons is_digit b bs ∙ ap (λ c. if c then b ∷ take_while is_digit bs else []) is) in
    omega (arith, long)

some-begins : (bytes : List ℕ) → begins_with is_digit bytes ≡ true → 1 ≤ length (take_while is_digit bytes)
some-begins [] is = absurd cc
some-begins (b ∷ bs) is = some-run b bs is

number-spells : (sign : Option ℕ) (bytes : List ℕ) → AreSigns sign → 1 ≤ length (take_while is_digit bytes)
    → ItemSpells (signs sign ++ bytes) (number_item (length (signs sign)) bytes)
number-spells sign bytes signed some = by (nat_lt most_digits (run is_digit bytes + places_at rest)) refl
  where
    rest : List ℕ
    rest = drop (run is_digit bytes) bytes

    size : ℕ
    size = length (signs sign) + (run is_digit bytes + point_size (places_at rest))

    all : (o : Option ℕ) → take (length (signs o) + (run is_digit bytes + point_size (places_at rest))) (signs o ++ bytes) ≡ signs o ++ (take_while is_digit bytes ++ point_and (places_of rest))
    all None = let same : 0 + (run is_digit bytes + point_size (places_at rest)) ≡ run is_digit bytes + point_size (places_at rest) = omega arith in
        ap (λ n. take n bytes) same ∙ take-number bytes
    all (Some s) = let same : 1 + (run is_digit bytes + point_size (places_at rest)) ≡ suc (run is_digit bytes + point_size (places_at rest)) = omega arith in
        ap (λ n. take n (s ∷ bytes)) same ∙ ap (λ (xs : List ℕ). s ∷ xs) (take-number bytes)

    by : (c : Bool) → nat_lt most_digits (run is_digit bytes + places_at rest) ≡ c
        → ItemSpells (signs sign ++ bytes) (if c then items.fault NumberTooLong size else items.token kind.Number size)
    by true is = record { is = tt }
    by false is =
        let written : IsNumeral (take size (signs sign ++ bytes)) = record {
          sign = sign;
          whole = take_while is_digit bytes;
          places = places_of rest;
          is = all sign;
          signed = signed;
          digits = while-digits bytes;
          decimals = places-digits rest;
          some = some;
          few = let few : run is_digit bytes + places_at rest ≤ 18 = ltb-false most_digits (run is_digit bytes + places_at rest) is in omega (arith, few, places-long rest);
        } in
        record { is = written }

-- ---- what else stands in a line

spells-if : (bytes : List ℕ) (b : Bool) (one other : TextItem) → (b ≡ true → ItemSpells bytes one) → (b ≡ false → ItemSpells bytes other) → ItemSpells bytes (if b then one else other)
spells-if bytes true one other f g = f refl
spells-if bytes false one other f g = g refl

mark-spells : (b : ℕ) (behind bytes : List ℕ) → ItemSpells bytes (mark_item b behind)
mark-spells b behind bytes =
    spells-if bytes (b == 46) _ _ (λ _. record { is = tt }) (λ _. spells-if bytes (b == 40) _ _ (λ _. record { is = tt }) (λ _. spells-if bytes (b == 41) _ _ (λ _. record { is = tt }) (λ _. spells-if bytes (b == 61) _ _ (λ _. record { is = tt })
    (λ _. spells-if bytes (b == 60) _ _ (λ _. spells-if bytes (begins_with (λ c. c == 61) behind) _ _ (λ _. record { is = tt }) (λ _. record { is = tt }))
    (λ _. spells-if bytes (b == 62) _ _ (λ _. spells-if bytes (begins_with (λ c. c == 61) behind) _ _ (λ _. record { is = tt }) (λ _. record { is = tt })) (λ _. record { is = tt }))))))

number-or-mark : (bytes : List ℕ) → ItemSpells bytes (number_or_mark bytes)
unfolding number_or_mark
number-or-mark [] = record { is = tt }
number-or-mark (b ∷ behind) =
    spells-if (b ∷ behind) (is_digit b) _ _ (λ is. number-spells None (b ∷ behind) tt (some-run b behind is))
    (λ _. spells-if (b ∷ behind) (is_signed b behind) _ _
    (λ is. let parts = and_parts (is_sign b) (begins_with is_digit behind) is in number-spells (Some b) behind parts.0 (some-begins behind parts.1))
    (λ _. mark-spells b behind (b ∷ behind)))

text-spells : (o : Option ℕ) (behind bytes : List ℕ) → ItemSpells bytes (text_item o behind)
text-spells None behind bytes = record { is = tt }
text-spells (Some size) behind bytes = record { is = tt }

word-spells : (word bytes : List ℕ) → ItemSpells bytes (word_item word)
word-spells word bytes = spells-if bytes (nat_lt longest_word (length word)) _ _ (λ _. record { is = tt }) (λ _. spells-if bytes (is_pic word) _ _ (λ _. record { is = tt }) (λ _. record { is = tt }))

dollar-spells : (word bytes : List ℕ) → ItemSpells bytes (dollar_item word)
dollar-spells word bytes = spells-if bytes (same_word word (codes "RECEIVE")) _ _ (λ _. record { is = tt }) (λ _. record { is = tt })

line-spells : (bytes : List ℕ) → ItemSpells bytes (line_item bytes)
unfolding line_item
line-spells [] = record { is = tt }
line-spells (b ∷ bs) =
    spells-if (b ∷ bs) (is_separator b) _ _ (λ _. record { is = tt }) (λ _. spells-if (b ∷ bs) (b == 34) _ _ (λ _. text-spells (quoted false bs) bs (b ∷ bs))
    (λ _. spells-if (b ∷ bs) (is_letter b) _ _ (λ _. word-spells (word_at (b ∷ bs)) (b ∷ bs)) (λ _. spells-if (b ∷ bs) (b == 36) _ _ (λ _. dollar-spells (word_at bs) (b ∷ bs)) (λ _. number-or-mark (b ∷ bs)))))

picture-spells : (size : ℕ) (bytes : List ℕ) → ItemSpells bytes (picture_of size)
picture-spells size bytes = spells-if bytes (size == 0) _ _ (λ _. record { is = tt }) (λ _. record { is = tt })

by-spells : (place : LinePlace) (bytes : List ℕ) → ItemSpells bytes (item_by place bytes)
by-spells LineStart bytes = spells-if bytes (begins_with (λ b. b == 42) bytes) _ _ (λ _. record { is = tt }) (λ _. line-spells bytes)
by-spells InLine bytes = line-spells bytes
by-spells BehindPic bytes = spells-if bytes (is_is bytes) _ _ (λ _. record { is = tt }) (λ _. picture-spells (length (without_period (take_while is_picture_byte bytes))) bytes)
by-spells BehindIs bytes = picture-spells (length (without_period (take_while is_picture_byte bytes))) bytes

item-spells : (place : LinePlace) (bytes : List ℕ) → ItemSpells bytes (item_at place bytes)
unfolding item_at
item-spells place [] = record { is = tt }
item-spells place (b ∷ bs) = spells-if (b ∷ bs) (b == 10) _ _ (λ _. record { is = tt }) (λ _. spells-if (b ∷ bs) (b == 32 || b == 13) _ _ (λ _. record { is = tt }) (λ _. by-spells place (b ∷ bs)))

-- ---- the tokens of a text

-- a token of a text
abbrev TokenSpells : List ℕ → Token → Type 0
TokenSpells text token = Spells token.kind (spelling text token)

kind-spells : (found : TokenKind) (text bytes : List ℕ) (line at size : ℕ) → drop at text ≡ bytes → Spells found (take size bytes) → TokenSpells text (token_of found line at (at + size))
kind-spells kind.Number text bytes line at size is spells =
    let size_is : at + size - 0 - (at + 0) ≡ size = omega arith in
    let at_is : at + 0 ≡ at = omega arith in
    subst IsNumeral (sym (ap (λ n. take n (drop (at + 0) text)) size_is ∙ ap (λ n. take size (drop n text)) at_is ∙ ap (take size) is)) spells
kind-spells _ text bytes line at size is spells = tt

piece-tokens : (found : TextPiece) (text bytes : List ℕ) (line at size : ℕ) → drop at text ≡ bytes → PieceSpells found (take size bytes) → Each (TokenSpells text) (tokens_at found line at (at + size))
piece-tokens (piece.Token found) text bytes line at size is spells = (kind-spells found text bytes line at size is spells, tt)
piece-tokens (piece.Fault code) text bytes line at size is spells = tt
piece-tokens piece.Gap text bytes line at size is spells = tt
piece-tokens piece.LineEnd text bytes line at size is spells = tt

drop-next : (n : ℕ) (xs rest : List ℕ) (x : ℕ) → drop n xs ≡ x ∷ rest → drop (n + 1) xs ≡ rest
drop-next n xs rest x is = sym (drop-drop 1 n xs) ∙ ap (drop 1) is

from-spells : (text : List ℕ) (skip : ℕ) (place : LinePlace) (at line : ℕ) (bytes : List ℕ) → drop at text ≡ bytes → Each (TokenSpells text) (tokens_in (items_from skip place at line bytes))
unfolding items_from
from-spells text skip place at line [] is = tt
from-spells text (suc skip) place at line (b ∷ bs) is = from-spells text skip place (at + 1) line bs (drop-next at text bs b is)
from-spells text zero place at line (b ∷ bs) is =
    let item = item_at place (b ∷ bs) in
    each-append (TokenSpells text) (tokens_at item.piece line at (at + item.size)) _ (piece-tokens item.piece text (b ∷ bs) line at item.size is (item-spells place (b ∷ bs)).is)
    (from-spells text (item.size - 1) item.next (at + 1) (line_after item.piece line) bs (drop-next at text bs b is))

unless-tokens : (fault : Option Fault) (value tokens : List Token) → unless fault value ≡ Ok tokens → value ≡ tokens
unless-tokens None value tokens is = cc
unless-tokens (Some fault) value tokens is = absurd cc

-- the tokens of a text
tokens-spell : (text : List ℕ) (first_line : ℕ) (tokens : List Token) → tokens_of text first_line ≡ Ok tokens → Each (TokenSpells text) tokens
tokens-spell text first_line tokens is =
    subst (Each (TokenSpells text)) (unless-tokens (least None (bad_bytes first_line text ++ faults_in (items_of text first_line))) (tokens_in (items_of text first_line)) tokens is)
    (from-spells text 0 LineStart 0 first_line text refl)

says : (found : TokenKind) (bytes : List ℕ) → Spells found bytes → Says found bytes
says kind.Number bytes is = numeral-literal bytes is
says _ bytes is = tt

all-say : (text : List ℕ) (tokens : List Token) → Each (TokenSpells text) tokens → Each (HasSpelledNumber text) tokens
all-say text [] each = tt
all-say text (token ∷ tokens) each = (says token.kind (spelling text token) each.0, all-say text tokens each.1)

-- the numbers among the tokens of a text are those that they are written as
pub tokens-say : (text : List ℕ) (first_line : ℕ) (tokens : List Token) → tokens_of text first_line ≡ Ok tokens → Each (HasSpelledNumber text) tokens
tokens-say text first_line tokens is = all-say text tokens (tokens-spell text first_line tokens is)
