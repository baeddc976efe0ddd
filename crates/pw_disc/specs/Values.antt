-- What the values of a call are where it has a message: numbers that have room in their bytes, and bytes.
use Rattle.std.specs.Prelude.{ℕ, ◌<◌, ◌^◌, List, [], ◌∷◌, length, All, Option, Some, None}
use Rattle.pw_code.specs.declared.file.FileCall.{FileCall}
use Rattle.pw_code.specs.declared.unit.Unit as unit
use Rattle.pw_disc.specs.declared.call.DiscCall.{DiscCall}
use Rattle.pw_disc.specs.declared.call.DiscCall.TheVariants.{Begin, Operate, Commit, BackOut}
use Rattle.pw_image.specs.Values.{AreBytes}

-- the numbers of a unit
pub record UnitHasValues (unit : unit.Unit) : Type 0 where
  pub terminal : unit.terminal < 2 ^ 32
  pub number : unit.number < 2 ^ 32
  pub birth : unit.birth < 2 ^ 64

-- bytes behind their length
pub record PieceHasValues (piece : List ℕ) : Type 0 where
  pub size : length piece < 2 ^ 32
  pub bytes : AreBytes piece

-- the numbers and bytes of an operation
pub record FileCallHasValues (call : FileCall) : Type 0 where
  pub file : call.file < 2 ^ 32
  pub key : PieceHasValues call.key
  pub content : PieceHasValues call.content

-- the bytes of a reply, if there is one
abbrev pub ReplyHasValues : Option (List ℕ) → Type 0
ReplyHasValues None = Unit {0}
ReplyHasValues (Some reply) = PieceHasValues reply

-- there is a unit, and the others can be counted
abbrev pub UnitsHaveValues : List unit.Unit → Type 0
UnitsHaveValues [] = ⊥
UnitsHaveValues (first ∷ others) =
    UnitHasValues first × (length others < 2 ^ 32) × All UnitHasValues others

-- the numbers and bytes of a call
abbrev pub DiscCallHasValues : DiscCall → Type 0
DiscCallHasValues (Begin unit) = UnitHasValues unit
DiscCallHasValues (Operate unit call) = UnitHasValues unit × FileCallHasValues call
DiscCallHasValues (Commit unit reply) = UnitHasValues unit × ReplyHasValues reply
DiscCallHasValues (BackOut units ends) = UnitsHaveValues units
