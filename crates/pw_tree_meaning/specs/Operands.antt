-- Operands, whose subscripts are taken once, when their statement begins.
use Rattle.std.specs.Prelude.{ℕ, ◌&&◌, nat_le, List, [], ◌∷◌, bytes_eq, codes, Option, Some, None, option_map, if◌then◌else◌}
use Rattle.pw_words.specs.Words.{Word}
use Rattle.pw_data.specs.declared.item.Item.{Item}
use Rattle.pw_forms.specs.declared.operand.Operand.{Operand}
use Rattle.pw_forms.specs.declared.operand.Operand.TheVariants as operands
use Rattle.pw_forms.specs.declared.operand.Subscript.{Subscript}
use Rattle.pw_forms.specs.declared.operand.Subscript.TheVariants as subscripts
use Rattle.pw_tree_meaning.specs.Program.{Program, item_named}
use Rattle.pw_tree_meaning.specs.Store.{Store, Spot, spot_of, no_spot, chars_at}
use Rattle.pw_tree_meaning.specs.State.{ProgramState, Registers, Out, faults}
use Rattle.pw_tree_meaning.specs.Values.{Value, Chars, Register, Number', Text', Spaces', Zeros', as_it_stands, number_in, number_of, whole_part}

-- An operand once its subscript was taken: the spot of an item, or what stays as it is, a literal
-- or a register.
pub data ResolvedOperand : Type 0 where
  Stored : (spot : Spot) → ResolvedOperand
  Fixed : (value : Value) → ResolvedOperand

-- what it says at this moment
abbrev pub value_in : ResolvedOperand → Store → Value
value_in (Stored spot) store = Chars spot.picture (chars_at spot store)
value_in (Fixed value) store = value

-- its characters at this moment, as it is stored or written
abbrev pub chars_in : ResolvedOperand → Store → List ℕ
chars_in found store = as_it_stands (value_in found store)

-- the register of a name: TERMINATION-STATUS and FILE-STATUS are 9(4), RESTART-COUNTER is 9(5)
abbrev pub register_named : Registers → Word → ResolvedOperand
register_named registers name =
    if bytes_eq name (codes "TERMINATION-STATUS") then Fixed (Register 4 registers.termination)
    else if bytes_eq name (codes "RESTART-COUNTER") then Fixed (Register 5 registers.restarts)
    else Fixed (Register 4 registers.file_status)

-- an item outside OCCURS, or a register
abbrev pub plain : Option Item → Registers → Word → ResolvedOperand
plain None registers name = register_named registers name
plain (Some item) registers name = Stored (spot_of item 1)

-- the value of a subscript: the whole part of a number, of an item or of a register
abbrev pub subscript_value : Program → ProgramState → Subscript → ℕ
subscript_value program s (subscripts.Number spelling) = whole_part (number_in spelling)
subscript_value program s (subscripts.Item name) =
    whole_part (number_of (value_in (plain (item_named program name) s.registers name) s.store))

-- the spot of the occurrence that a subscript names: none where it is outside 1 to OCCURS
abbrev pub occurrence_of : Item → Option ℕ → Option ResolvedOperand
occurrence_of item None = Some (Stored (spot_of item 1))
occurrence_of item (Some k) =
    if nat_le 1 k && nat_le k item.occurs then Some (Stored (spot_of item k)) else None

-- an item or a register of a name
abbrev pub taken_item : Option Item → Registers → Word → Option ℕ → Option ResolvedOperand
taken_item None registers name subscript = Some (register_named registers name)
taken_item (Some item) registers name subscript = occurrence_of item subscript

-- an operand at this moment; none where its subscript is outside
abbrev pub operand_taken : Program → ProgramState → Operand → Option ResolvedOperand
operand_taken program s (operands.Item name subscript) =
    taken_item (item_named program name) s.registers name
    (option_map (subscript_value program s) subscript)
operand_taken program s (operands.Number spelling) = Some (Fixed (Number' spelling))
operand_taken program s (operands.Text chars) = Some (Fixed (Text' chars))
operand_taken program s operands.Spaces = Some (Fixed Spaces')
operand_taken program s operands.Zeros = Some (Fixed Zeros')

-- the spot of an item
abbrev pub spot_in : ResolvedOperand → Spot
spot_in (Stored spot) = spot
spot_in _ = no_spot

-- ---- operands of a statement, from left to right: where a subscript is outside it is SUBSCRIPT

-- goes on with what was taken; a subscript outside is run fault 203
abbrev pub with_taken : {A : Type 0} → Option A → ProgramState → (A → Out) → Out
with_taken None s next = faults 203 s
with_taken (Some found) s next = next found

-- one more of some, where there is each
abbrev pub one_more : {A : Type 0} → Option A → Option (List A) → Option (List A)
one_more None rest = None
one_more (Some first) None = None
one_more (Some first) (Some rest) = Some (first ∷ rest)

-- operands that are taken from left to right, where none is outside
abbrev pub taken_all : Program → ProgramState → List Operand → Option (List ResolvedOperand)
taken_all program s [] = Some []
taken_all program s (operand ∷ operands) =
    one_more (operand_taken program s operand) (taken_all program s operands)

-- what a statement does with one operand, and with some
abbrev pub with_operand : Program → Operand → ProgramState → (ResolvedOperand → Out) → Out
with_operand program operand s next = with_taken (operand_taken program s operand) s next

-- what a statement does with its operands
abbrev pub with_operands : Program → List Operand → ProgramState → (List ResolvedOperand → Out) → Out
with_operands program operands s next = with_taken (taken_all program s operands) s next
