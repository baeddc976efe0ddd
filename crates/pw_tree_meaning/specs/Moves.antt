-- MOVE.
use Rattle.std.specs.Prelude.{ℕ, List, [], ◌∷◌, Option, Some}
use Rattle.pw_picture.specs.declared.picture.Picture.{Picture}
use Rattle.pw_picture.specs.declared.picture.Picture.TheVariants as picture
use Rattle.pw_picture.specs.Stored.{moved}
use Rattle.pw_tree_meaning.specs.Store.{Store, Spot, put_at}
use Rattle.pw_tree_meaning.specs.State.{ProgramState}
use Rattle.pw_tree_meaning.specs.Values.{Value, Text', text_in, number_of}
use Rattle.pw_tree_meaning.specs.Operands.{ResolvedOperand, value_in}

-- the characters that a move leaves in an item of a picture and a size, or in a group
abbrev pub moved_chars : Option Picture → ℕ → Value → List ℕ
moved_chars (Some (picture.Number digits places sign)) size source =
    moved (picture.Number digits places sign) (number_of source)
moved_chars _ size source = text_in size source

-- what was read is moved to an item
abbrev pub move_value : Value → Spot → Store → Store
move_value source target store =
    put_at target (moved_chars target.picture target.size source) store

-- one move to each item, from left to right: each reads its source anew
abbrev pub moves : ResolvedOperand → List Spot → Store → Store
moves source [] store = store
moves source (target ∷ targets) store =
    moves source targets (move_value (value_in source store) target store)

-- a message, a record or a reply is moved to an item as a text
abbrev pub move_text : List ℕ → Spot → ProgramState → ProgramState
move_text chars target s = record s { store = move_value (Text' chars) target s.store }
