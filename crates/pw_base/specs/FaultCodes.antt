-- The codes of faults: their order, and the number and the text of each.
use Rattle.std.specs.Prelude.{ℕ, List, [], ◌∷◌, codes, Bool, true, ◌&&◌, nat_lt}
use Rattle.pw_base.specs.declared.fault_code.FaultCode.{FaultCode}
use Rattle.pw_base.specs.declared.fault_code.FaultCode.TheVariants.{BadCharacter, UnclosedLiteral, WordTooLong, NumberTooLong, BadPicture, BadDataEntry, NameTwice, UnknownItem, StorageTooLarge, NoSuchForm, NoIf, ParagraphTwice, FieldOutside, FieldsOverlap, BadClause, BadDivision, NotForServers, UnknownParagraph, UnknownName, WrongLength, WrongKind, BadLogLine, BadFailureLine, BadCommand, AddedTwice, UnknownObject, OutOfRange, BadStart, InputTooLong, BadSection, EndMissing, SectionTwice, BadRecord, BadEntry, TooMany}

-- the codes in the order of their numbers
abbrev pub fault_codes : List FaultCode
fault_codes =
    BadCharacter ∷ UnclosedLiteral ∷ WordTooLong ∷ NumberTooLong ∷ BadPicture ∷ BadDataEntry ∷
    NameTwice ∷ UnknownItem ∷ StorageTooLarge ∷ NoSuchForm ∷ NoIf ∷ ParagraphTwice ∷
    FieldOutside ∷ FieldsOverlap ∷ BadClause ∷ BadDivision ∷ NotForServers ∷ UnknownParagraph ∷
    UnknownName ∷ WrongLength ∷ WrongKind ∷ BadLogLine ∷ BadFailureLine ∷ BadCommand ∷
    AddedTwice ∷ UnknownObject ∷ OutOfRange ∷ BadStart ∷ InputTooLong ∷ BadSection ∷ EndMissing
    ∷ SectionTwice ∷ BadRecord ∷ BadEntry ∷ TooMany ∷ []

-- what is known of a code: its place among the codes, from 0, its number and its text
pub record Row : Type 0 where
  pub place : ℕ
  pub number : ℕ
  pub text : List ℕ

-- the row of a place, a number and a text
abbrev row : ℕ → ℕ → List ℕ → Row
row place number text = record { place = place; number = number; text = text }

-- the table of the codes
abbrev pub row_of : FaultCode → Row
row_of BadCharacter = row 0 101 (codes "BAD CHARACTER")
row_of UnclosedLiteral = row 1 102 (codes "UNCLOSED LITERAL")
row_of WordTooLong = row 2 103 (codes "WORD TOO LONG")
row_of NumberTooLong = row 3 104 (codes "NUMBER TOO LONG")
row_of BadPicture = row 4 111 (codes "BAD PICTURE")
row_of BadDataEntry = row 5 121 (codes "BAD DATA ENTRY")
row_of NameTwice = row 6 122 (codes "NAME TWICE")
row_of UnknownItem = row 7 123 (codes "UNKNOWN ITEM")
row_of StorageTooLarge = row 8 124 (codes "STORAGE TOO LARGE")
row_of NoSuchForm = row 9 131 (codes "NO SUCH FORM")
row_of NoIf = row 10 132 (codes "NO IF")
row_of ParagraphTwice = row 11 133 (codes "PARAGRAPH TWICE")
row_of FieldOutside = row 12 141 (codes "FIELD OUTSIDE")
row_of FieldsOverlap = row 13 142 (codes "FIELDS OVERLAP")
row_of BadClause = row 14 143 (codes "BAD CLAUSE")
row_of BadDivision = row 15 151 (codes "BAD DIVISION")
row_of NotForServers = row 16 152 (codes "NOT FOR SERVERS")
row_of UnknownParagraph = row 17 161 (codes "UNKNOWN PARAGRAPH")
row_of UnknownName = row 18 162 (codes "UNKNOWN NAME")
row_of WrongLength = row 19 163 (codes "WRONG LENGTH")
row_of WrongKind = row 20 164 (codes "WRONG KIND")
row_of BadLogLine = row 21 171 (codes "BAD LOG LINE")
row_of BadFailureLine = row 22 172 (codes "BAD FAILURE LINE")
row_of BadCommand = row 23 181 (codes "BAD COMMAND")
row_of AddedTwice = row 24 182 (codes "ADDED TWICE")
row_of UnknownObject = row 25 183 (codes "UNKNOWN OBJECT")
row_of OutOfRange = row 26 184 (codes "OUT OF RANGE")
row_of BadStart = row 27 185 (codes "BAD START")
row_of InputTooLong = row 28 190 (codes "INPUT TOO LONG")
row_of BadSection = row 29 191 (codes "BAD SECTION")
row_of EndMissing = row 30 192 (codes "END MISSING")
row_of SectionTwice = row 31 193 (codes "SECTION TWICE")
row_of BadRecord = row 32 194 (codes "BAD RECORD")
row_of BadEntry = row 33 195 (codes "BAD ENTRY")
row_of TooMany = row 34 196 (codes "TOO MANY")

-- the place of a code among the codes, from 0
abbrev pub place : FaultCode → ℕ
place code = (row_of code).place

-- the number of a code
abbrev pub number : FaultCode → ℕ
number code = (row_of code).number

-- the text of a code
abbrev pub text : FaultCode → List ℕ
text code = (row_of code).text

-- the number of each of the codes is smaller than that of the next
abbrev pub are_ascending : List FaultCode → Bool
are_ascending [] = true
are_ascending (a ∷ []) = true
are_ascending (a ∷ (b ∷ rest)) = nat_lt (number a) (number b) && are_ascending (b ∷ rest)
