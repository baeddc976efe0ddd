-- What operands become: places in the storage, registers and literals.
use Rattle.std.specs.Prelude.{ℕ, ◌+◌, min, pos, List, Bool, true, filter, map, bytes_eq, codes, Option, Some, None, option_map, unwrap_or, if◌then◌else◌}
use Rattle.std.specs.Char.{is_ascii_digit}
use Rattle.pw_number.specs.Number.{Number, number}
use Rattle.pw_picture.specs.Stored.{value_of}
use Rattle.pw_picture.specs.Symbols.{begins_with}
use Rattle.pw_picture.specs.declared.picture.Picture.{Picture}
use Rattle.pw_picture.specs.declared.picture.Picture.TheVariants as picture
use Rattle.pw_words.specs.Words.{Word}
use Rattle.pw_data.specs.Layouts.{Laid, place_of}
use Rattle.pw_data.specs.Literals.{number_of_literal}
use Rattle.pw_data.specs.declared.item.Place as items
use Rattle.pw_forms.specs.declared.operand.Operand.{Operand}
use Rattle.pw_forms.specs.declared.operand.Operand.TheVariants as operands
use Rattle.pw_forms.specs.declared.operand.Subscript.{Subscript}
use Rattle.pw_forms.specs.declared.operand.Subscript.TheVariants as subscripts
use Rattle.pw_code.specs.declared.operand.InstructionOperand as coded
use Rattle.pw_code.specs.declared.operand.InstructionOperand.TheVariants as operand
use Rattle.pw_code.specs.declared.place.Kind.{Kind}
use Rattle.pw_code.specs.declared.place.Kind.TheVariants as kind
use Rattle.pw_code.specs.declared.place.StoragePlace.{StoragePlace}
use Rattle.pw_code.specs.declared.place.Register.{Register}
use Rattle.pw_code.specs.declared.place.Register.TheVariants as register
use Rattle.pw_code.specs.declared.place.PlaceSubscript as index
use Rattle.pw_code.specs.declared.place.PlaceSubscript.TheVariants as subscript
use Rattle.pw_code.specs.declared.place.PlaceTable.{PlaceTable}

-- the register of a name that no item has
abbrev pub register_named : Word → Register
register_named name =
    if bytes_eq name (codes "TERMINATION-STATUS") then register.Termination
    else if bytes_eq name (codes "RESTART-COUNTER") then register.Restarts
    else register.FileStatus

-- ---- places

-- a group has no picture
abbrev pub code_kind_of : Option Picture → Kind
code_kind_of (Some (picture.Text size)) = kind.Text
code_kind_of (Some (picture.Number digits places signed)) = kind.Number digits places signed
code_kind_of _ = kind.Group

-- the value of a number that is a subscript
abbrev pub subscript_number : List ℕ → ℕ
subscript_number spelling =
    if begins_with 45 spelling then 0 else value_of 0 (filter is_ascii_digit spelling)

-- a subscript by the place of an item, of which only a Number is one
abbrev pub index_at : ℕ → Option Picture → index.PlaceSubscript
index_at at (Some (picture.Number digits places signed)) = subscript.Item at digits places
index_at at _ = subscript.Item at 0 0

-- a subscript by the item of its name, and a register where no item has the name
abbrev pub index_by : Option items.Place → Word → index.PlaceSubscript
index_by None name = subscript.Register (register_named name)
index_by (Some place) name = index_at place.at place.picture

-- a subscript of an item that occurs so often: all numbers above that are as one more
abbrev pub subscript_of : Laid → ℕ → Subscript → index.PlaceSubscript
subscript_of layout occurs (subscripts.Number spelling) =
    subscript.Number (min (subscript_number spelling) (occurs + 1))
subscript_of layout occurs (subscripts.Item name) = index_by (place_of layout name) name

-- the table in which an item stands
abbrev pub table_of : Laid → items.Place → Subscript → PlaceTable
table_of layout place one =
    record { subscript = subscript_of layout place.occurs one; occurs = place.occurs; step = place.step }

-- an item with its subscript, if it has one
abbrev pub placed : Laid → items.Place → Option Subscript → StoragePlace
placed layout place one = record {
  at = place.at;
  size = place.size;
  kind = code_kind_of place.picture;
  table = option_map (table_of layout place) one;
}

-- what is no item lies nowhere
abbrev pub no_place : StoragePlace
no_place = record { at = 0; size = 0; kind = kind.Group; table = None }

-- the place of an item with its subscript, and no place where there is no item
abbrev pub place_by : Laid → Option items.Place → Option Subscript → StoragePlace
place_by layout None one = no_place
place_by layout (Some place) one = placed layout place one

-- the item that an operand is
abbrev pub place_in : Laid → Operand → StoragePlace
place_in layout (operands.Item name one) = place_by layout (place_of layout name) one
place_in layout _ = no_place

-- ---- operands

-- an operand by the item of its name, and a register where no item has the name
abbrev pub operand_by : Laid → Option items.Place → Word → Option Subscript → coded.InstructionOperand
operand_by layout None name one = operand.Register (register_named name)
operand_by layout (Some place) name one = operand.Item (placed layout place one)

-- an item or a register, or a literal as it is written
abbrev pub operand_of : Laid → Operand → coded.InstructionOperand
operand_of layout (operands.Item name one) = operand_by layout (place_of layout name) name one
operand_of layout (operands.Number spelling) =
    operand.Number spelling (unwrap_or (number_of_literal spelling) (number (pos 0) 0))
operand_of layout (operands.Text chars) = operand.Text chars
operand_of layout operands.Spaces = operand.Spaces
operand_of layout operands.Zeros = operand.Zeros
