-- What the definition says of some texts.
use Rattle.std.proofs.Common.{◌≡◌, ℕ, List, [], ◌∷◌, ◌++◌, Result, Ok, Err, refl}
use Rattle.std.specs.Prelude.{codes}
use Rattle.pw_base.specs.declared.fault.Fault.{Fault}
use Rattle.pw_base.specs.declared.fault_code.FaultCode.{FaultCode}
use Rattle.pw_base.specs.declared.fault_code.FaultCode.TheVariants.{BadCharacter, UnclosedLiteral}
use Rattle.pw_text.specs.declared.token.TokenKind.{TokenKind}
use Rattle.pw_text.specs.declared.token.TokenKind.TheVariants.{Word, Number, Text, Picture, Period, LeftParen, RightParen, LessEqual}
use Rattle.pw_text.specs.declared.token.Token.{Token}
use Rattle.pw_text.specs.Bytes.{bad_bytes}
use Rattle.pw_text.specs.Items.{quoted, number_or_mark, line_item, without_period, item_at}
use Rattle.pw_text.specs.Tokens.{items_from, tokens_of}

abbrev token : TokenKind → ℕ → ℕ → ℕ → Token
token kind line start end = record { kind = kind; line = line; start = start; end = end }

abbrev refused : ℕ → FaultCode → Result (List Token) Fault
refused line code = Err (record { line = line; code = code })

a_move : tokens_of (codes "MOVE 12 TO A.") 1
    ≡ Ok (token Word 1 0 4 ∷ token Number 1 5 7 ∷ token Word 1 8 10 ∷ token Word 1 11 12 ∷ token Period 1 12 13 ∷ [])
unfolding items_from item_at line_item number_or_mark bad_bytes
a_move = refl

no_separator : tokens_of (codes "12A1-2") 1 ≡ Ok (token Number 1 0 2 ∷ token Word 1 2 6 ∷ [])
unfolding items_from item_at line_item number_or_mark bad_bytes
no_separator = refl

signed_numbers : tokens_of (codes "1-2,+3.4") 1 ≡ Ok (token Number 1 0 1 ∷ token Number 1 1 3 ∷ token Number 1 4 8 ∷ [])
unfolding items_from item_at line_item number_or_mark bad_bytes
signed_numbers = refl

doubled_quote : tokens_of (codes "\"A\"\"B\"<=") 1 ≡ Ok (token Text 1 1 5 ∷ token LessEqual 1 6 8 ∷ [])
unfolding items_from item_at line_item number_or_mark bad_bytes quoted
doubled_quote = refl

picture_and_period : tokens_of (codes "pic Is 9(4).") 1 ≡ Ok (token Word 1 0 3 ∷ token Word 1 4 6 ∷ token Picture 1 7 11 ∷ token Period 1 11 12 ∷ [])
unfolding items_from item_at line_item number_or_mark bad_bytes without_period
picture_and_period = refl

picture_on_its_line : tokens_of (codes "PIC" ++ 13 ∷ 10 ∷ codes "(4)") 5 ≡ Ok (token Word 5 0 3 ∷ token LeftParen 6 5 6 ∷ token Number 6 6 7 ∷ token RightParen 6 7 8 ∷ [])
unfolding items_from item_at line_item number_or_mark bad_bytes without_period
picture_on_its_line = refl

comment : tokens_of (codes "* #" ++ 10 ∷ codes "A") 1 ≡ Ok (token Word 2 4 5 ∷ [])
unfolding items_from item_at line_item number_or_mark bad_bytes
comment = refl

-- the smaller code of a line is the first
smaller_code : tokens_of (codes "ABCDEFGHIJKLMNOPQRSTUVWXYZ-1234 #") 7 ≡ refused 7 BadCharacter
unfolding items_from item_at line_item number_or_mark bad_bytes
smaller_code = refl

-- the earlier line is the first
earlier_line : tokens_of (codes "\"A" ++ 10 ∷ codes "#") 7 ≡ refused 7 UnclosedLiteral
unfolding items_from item_at line_item number_or_mark bad_bytes quoted
earlier_line = refl

comment_with_bad_byte : tokens_of (codes "*" ++ 127 ∷ []) 7 ≡ refused 7 BadCharacter
unfolding items_from item_at line_item number_or_mark bad_bytes
comment_with_bad_byte = refl
