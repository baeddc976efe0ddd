-- Where items lie, and what instructions read.
use Rattle.std.specs.Prelude.{◌≡◌, ℕ, ◌+◌, ◌-◌, ◌*◌, ◌^◌, ◌<◌, ◌≤◌, unsigned_abs, Option, None, Some, IfSome, All}
use Rattle.pw_picture.specs.declared.picture.Picture.{Picture}
use Rattle.pw_picture.specs.declared.picture.Picture.TheVariants as picture
use Rattle.pw_picture.specs.Grammar.{IsPicture, size_of}
use Rattle.pw_base.specs.Limits.{most_digits, most_occurrences}
use Rattle.pw_code.specs.Spelling.{number_in}
use Rattle.pw_code.specs.declared.place.Kind.{Kind}
use Rattle.pw_code.specs.declared.place.Kind.TheVariants.{Group, Text, Number}
use Rattle.pw_code.specs.declared.place.PlaceSubscript.{PlaceSubscript}
use Rattle.pw_code.specs.declared.place.PlaceSubscript.TheVariants as subscript
use Rattle.pw_code.specs.declared.place.PlaceTable.{PlaceTable}
use Rattle.pw_code.specs.declared.place.StoragePlace.{StoragePlace}
use Rattle.pw_code.specs.declared.operand.InstructionOperand.{InstructionOperand}
use Rattle.pw_code.specs.declared.operand.InstructionOperand.TheVariants as operand
use Rattle.pw_code.specs.declared.cond.Comparison.{Comparison}
use Rattle.pw_code.specs.declared.cond.Comparison.TheVariants as comparison
use Rattle.pw_code.specs.declared.cond.Cond.{Cond}

-- the picture of an item of a kind and a size; a group has none
abbrev pub picture_of : Kind → ℕ → Option Picture
picture_of Group size = None
picture_of Text size = Some (picture.Text size)
picture_of (Number digits places signed) size = Some (picture.Number digits places signed)

-- so many digits, of which some are decimals
abbrev pub HasDigits : ℕ → ℕ → Type 0
HasDigits digits places = (1 ≤ digits) × (digits ≤ most_digits) × (places ≤ digits)

-- what says which occurrence is meant can be read in a storage of this size
abbrev pub IsSubscriptInStorage : ℕ → PlaceSubscript → Type 0
IsSubscriptInStorage storage (subscript.Number k) = k < 10 ^ most_digits
IsSubscriptInStorage storage (subscript.Item at digits places) = HasDigits digits places × (at + digits ≤ storage)
IsSubscriptInStorage storage (subscript.Register register) = Unit {0}

-- every occurrence of an item of this size, of which the first begins at a place, lies in a storage of this size
pub record IsTableAt (storage at size : ℕ) (table : PlaceTable) : Type 0 where
  pub subscript : IsSubscriptInStorage storage table.subscript
  pub some : 1 ≤ table.occurs
  pub few : table.occurs ≤ most_occurrences
  pub inside : at + (table.occurs - 1) * table.step + size ≤ storage

-- the item lies in a storage of this size, in a table or without one
abbrev pub LiesIn : ℕ → ℕ → ℕ → Option PlaceTable → Type 0
LiesIn storage at size None = at + size ≤ storage
LiesIn storage at size (Some table) = IsTableAt storage at size table

-- an item of a program whose storage has this size, which is as long as its picture says
pub record IsPlace (storage : ℕ) (place : StoragePlace) : Type 0 where
  pub picture : IfSome (picture_of place.kind place.size) (λ p. IsPicture p × (size_of p ≡ place.size))
  pub inside : LiesIn storage place.at place.size place.table

-- an operand of such a program: a number has the value that it is written with, of at most 18 digits
abbrev pub IsOperand : ℕ → InstructionOperand → Type 0
IsOperand storage (operand.Item place) = IsPlace storage place
IsOperand storage (operand.Number spelling value) = (value ≡ number_in spelling) × (unsigned_abs value.units < 10 ^ most_digits)
IsOperand storage _ = Unit {0}

-- the operands of a comparison, and of a condition
abbrev pub IsComparison : ℕ → Comparison → Type 0
IsComparison storage (comparison.Compare left negated op right) = IsOperand storage left × IsOperand storage right
IsComparison storage (comparison.Numeric a negated) = IsOperand storage a

-- each comparison of a condition fits a storage of so many characters
abbrev pub IsCond : ℕ → Cond → Type 0
IsCond storage cond = All (All (IsComparison storage)) cond.any
