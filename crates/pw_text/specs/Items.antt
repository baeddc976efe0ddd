-- What stands at the front of a text: a token, a fault, a gap or the end of a line.
use Rattle.std.specs.Prelude.{ℕ, ◌+◌, ◌*◌, ◌≤◌, ◌<◌, List, [], ◌∷◌, Bool, true, false, ◌&&◌, ◌||◌, nat_lt, ◌==◌, Option, Some, None, codes, drop, length, take_while, if◌then◌else◌}
use Rattle.pw_base.specs.Characters.{asterisk, carriage_return, dollar_sign, equals_sign, full_stop, greater_than_sign, left_parenthesis, less_than_sign, line_feed, quotation_mark, right_parenthesis, space}
use Rattle.pw_base.specs.declared.fault_code.FaultCode.{FaultCode}
use Rattle.pw_base.specs.declared.fault_code.FaultCode.TheVariants.{BadCharacter, UnclosedLiteral, WordTooLong, NumberTooLong}
use Rattle.pw_base.specs.Limits.{longest_word, most_digits}
use Rattle.pw_words.specs.Words.{same_word}
use Rattle.pw_text.specs.declared.token.TokenKind.{TokenKind}
use Rattle.pw_text.specs.declared.token.TokenKind.TheVariants as kind
use Rattle.pw_text.specs.declared.item.TextPiece.{TextPiece}
use Rattle.pw_text.specs.declared.item.TextPiece.TheVariants as piece
use Rattle.pw_text.specs.declared.item.LinePlace.{LinePlace}
use Rattle.pw_text.specs.declared.item.LinePlace.TheVariants.{LineStart, InLine, BehindPic, BehindIs}
use Rattle.pw_text.specs.declared.item.TextItem.{TextItem}
use Rattle.pw_text.specs.Bytes.{is_letter, is_digit, is_signed, is_word_byte, is_separator, is_picture_byte, is_line_byte, run, begins_with}

-- the quote at each end of a text is no part of it
abbrev pub quote_size : TokenKind → ℕ
quote_size kind.Text = 1
quote_size kind.Word = 0
quote_size kind.Number = 0
quote_size kind.Picture = 0
quote_size kind.Period = 0
quote_size kind.LeftParen = 0
quote_size kind.RightParen = 0
quote_size kind.Equal = 0
quote_size kind.Less = 0
quote_size kind.Greater = 0
quote_size kind.LessEqual = 0
quote_size kind.GreaterEqual = 0

-- the size of the quotes at both ends
abbrev pub quotes : TextPiece → ℕ
quotes (piece.Token kind) = 2 * quote_size kind
quotes (piece.Fault code) = 0
quotes piece.Gap = 0
quotes piece.LineEnd = 0

-- a token of a kind and a size
abbrev pub token : TokenKind → ℕ → TextItem
token kind size = record { piece = piece.Token kind; size = size; next = InLine }

-- a fault in bytes of a size
abbrev pub fault : FaultCode → ℕ → TextItem
fault code size = record { piece = piece.Fault code; size = size; next = InLine }

-- bytes that are no token
abbrev pub gap : ℕ → LinePlace → TextItem
gap size next = record { piece = piece.Gap; size = size; next = next }

-- one byte more, where there is a size
abbrev pub one_byte_more : Option ℕ → Option ℕ
one_byte_more None = None
one_byte_more (Some n) = Some (n + 1)

-- The size of a text behind its first quote, with its last; none where its line or all ends before.
-- closed: the byte before was a quote, which is the last one unless another follows it.
unfoldable pub quoted : Bool → List ℕ → Option ℕ
quoted true [] = Some 0
quoted true (b ∷ bs) = if b == quotation_mark then one_byte_more (quoted false bs) else Some 0
quoted false [] = None
quoted false (b ∷ bs) =
    if b == line_feed then None
    else (if b == quotation_mark then one_byte_more (quoted true bs)
    else one_byte_more (quoted false bs))

-- a text, or behind a quote that no other closes the rest of its line
abbrev pub text_item : Option ℕ → List ℕ → TextItem
text_item None behind = fault UnclosedLiteral (1 + run is_line_byte behind)
text_item (Some size) behind = token kind.Text (1 + size)

-- the word in front
abbrev pub word_at : List ℕ → List ℕ
word_at bytes = take_while is_word_byte bytes

-- a picture follows the word
abbrev pub is_pic : List ℕ → Bool
is_pic word = same_word word (codes "PIC") || same_word word (codes "PICTURE")

-- a word of at most so many characters as the longest
abbrev pub word_item : List ℕ → TextItem
word_item word =
    if nat_lt longest_word (length word) then fault WordTooLong (length word)
    else (if is_pic word then record (token kind.Word (length word)) { next = BehindPic }
    else token kind.Word (length word))

-- what a $ is, by the word behind it
abbrev pub dollar_item : List ℕ → TextItem
dollar_item word = if same_word word (codes "RECEIVE") then token kind.Word (1 + length word) else fault BadCharacter 1

-- how many digits stand behind a point
abbrev pub places_at : List ℕ → ℕ
places_at [] = 0
places_at (b ∷ bs) = if b == full_stop then run is_digit bs else 0

-- a number of so many digits before and behind its point, and with a sign of a size
abbrev pub number_token : ℕ → ℕ → ℕ → TextItem
number_token sign whole places =
    let size = sign + (whole + (if places == 0 then 0 else 1 + places)) in
    if nat_lt most_digits (whole + places) then fault NumberTooLong size else token kind.Number size

-- the number of these digits, with a sign of a size before them
abbrev pub number_item : ℕ → List ℕ → TextItem
number_item sign bytes = let whole = run is_digit bytes in number_token sign whole (places_at (drop whole bytes))

-- a mark that an = may follow
abbrev pub or_equal : TokenKind → TokenKind → List ℕ → TextItem
or_equal alone with_equal behind = if begins_with (λ b. b == equals_sign) behind then token with_equal 2 else token alone 1

-- a mark; every other byte is a fault
abbrev pub mark_item : ℕ → List ℕ → TextItem
mark_item b behind =
    if b == full_stop then token kind.Period 1
    else (if b == left_parenthesis then token kind.LeftParen 1
    else (if b == right_parenthesis then token kind.RightParen 1
    else (if b == equals_sign then token kind.Equal 1
    else (if b == less_than_sign then or_equal kind.Less kind.LessEqual behind
    else (if b == greater_than_sign then or_equal kind.Greater kind.GreaterEqual behind
    else fault BadCharacter 1)))))

-- a number or a mark
unfoldable pub number_or_mark : List ℕ → TextItem
number_or_mark [] = gap 1 InLine
number_or_mark (b ∷ behind) =
    if is_digit b then number_item 0 (b ∷ behind)
    else (if is_signed b behind then number_item 1 behind
    else mark_item b behind)

-- what stands in a line, where no picture is awaited
unfoldable pub line_item : List ℕ → TextItem
line_item [] = gap 1 InLine
line_item (b ∷ bs) =
    if is_separator b then gap 1 InLine
    else (if b == quotation_mark then text_item (quoted false bs) bs
    else (if is_letter b then word_item (word_at (b ∷ bs))
    else (if b == dollar_sign then dollar_item (word_at bs)
    else number_or_mark (b ∷ bs))))

-- the bytes without a period at their end
unfoldable pub without_period : List ℕ → List ℕ
without_period [] = []
without_period (b ∷ []) = if b == full_stop then [] else b ∷ []
without_period (b ∷ (c ∷ bs)) = b ∷ without_period (c ∷ bs)

-- a picture of a size, or the period where none is left
abbrev pub picture_of : ℕ → TextItem
picture_of size = if size == 0 then token kind.Period 1 else token kind.Picture size

-- the run of characters other than space; a period at its end is no part of the picture
abbrev pub picture_item : List ℕ → TextItem
picture_item bytes = picture_of (length (without_period (take_while is_picture_byte bytes)))

-- the word IS stands in front
abbrev pub is_is : List ℕ → Bool
is_is bytes = begins_with is_letter bytes && same_word (word_at bytes) (codes "IS")

-- what stands at a place of a line, which has neither ended nor goes on with a space
abbrev pub item_by : LinePlace → List ℕ → TextItem
item_by LineStart bytes = if begins_with (λ b. b == asterisk) bytes then gap (run is_line_byte bytes) InLine else line_item bytes
item_by InLine bytes = line_item bytes
item_by BehindPic bytes = if is_is bytes then record (token kind.Word (length (word_at bytes))) { next = BehindIs } else picture_item bytes
item_by BehindIs bytes = picture_item bytes

-- the place behind a space
abbrev pub behind_space : LinePlace → LinePlace
behind_space LineStart = InLine
behind_space InLine = InLine
behind_space BehindPic = BehindPic
behind_space BehindIs = BehindIs

-- what stands at a place of a line; a CR that no LF follows is a bad byte besides
unfoldable pub item_at : LinePlace → List ℕ → TextItem
item_at place [] = gap 1 place
item_at place (b ∷ bs) =
    if b == line_feed then record { piece = piece.LineEnd; size = 1; next = LineStart }
    else (if b == space || b == carriage_return then gap 1 (behind_space place)
    else item_by place (b ∷ bs))

-- An item takes one or more of the bytes, and the quotes at both ends of its token are among them.
pub record FitsBytes (item : TextItem) (bytes : List ℕ) : Type 0 where
  pub some : 0 < item.size
  pub within : item.size ≤ length bytes
  pub quotes : quotes item.piece ≤ item.size
