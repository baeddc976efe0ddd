-- The faults of the pieces of a procedure.
use Rattle.std.specs.Prelude.{ℕ, List, [], ◌∷◌, ◌++◌, Bool, true, false, not, ◌||◌, nat_le, ◌==◌, bytes_eq, length, drop, Option, Some, None, if◌then◌else◌}
use Rattle.std.specs.List.{list_any}
use Rattle.pw_base.specs.declared.fault.Fault.{Fault}
use Rattle.pw_base.specs.declared.fault_code.FaultCode.{FaultCode}
use Rattle.pw_base.specs.declared.fault_code.FaultCode.TheVariants.{NoSuchForm, NoIf, ParagraphTwice}
use Rattle.pw_words.specs.Words.{Word}
use Rattle.pw_forms.specs.declared.piece.Piece.{Piece}
use Rattle.pw_forms.specs.declared.piece.Piece.TheVariants as pieces
use Rattle.pw_forms.specs.declared.piece.Placed.{Placed}

-- What the pieces so far leave: whether a paragraph has begun, which names are taken, and of each
-- open branch, from the innermost on, whether it has its ELSE.
pub record PiecesBefore : Type 0 where
  pub begun : Bool
  pub taken : Word → Bool
  pub branches : List Bool

-- before the first piece
abbrev pub nothing : PiecesBefore
nothing = record { begun = false; taken = λ name. false; branches = [] }

-- so many branches may be open
abbrev pub most_open : ℕ
most_open = 64

-- no other branch may be opened
abbrev pub is_full : List Bool → Bool
is_full branches = nat_le most_open (length branches)

-- a branch has no ELSE yet
abbrev pub can_turn : List Bool → Bool
can_turn branches = list_any not branches

-- the innermost branch without ELSE gets it, and those inside it are closed
abbrev pub else_turned : List Bool → List Bool
else_turned [] = []
else_turned (true ∷ branches) = else_turned branches
else_turned (false ∷ branches) = true ∷ branches

-- a piece that opens a branch finds room for it, and ELSE and END-IF find a branch
abbrev pub fits : List Bool → Piece → Bool
fits branches (pieces.Opens head) = not (is_full branches)
fits branches pieces.Else = can_turn branches
fits branches pieces.EndIf = not (length branches == 0)
fits branches (pieces.Name name) = true
fits branches pieces.Period = true
fits branches (pieces.Whole statement) = true
fits branches (pieces.Fault code) = true

-- the code, unless the test holds
abbrev pub code_unless : Bool → FaultCode → Option FaultCode
code_unless test code = if test then None else Some code

-- the code of a piece's fault, if it has one, where these names are taken and these branches open
abbrev pub piece_fault_code : (Word → Bool) → List Bool → Piece → Option FaultCode
piece_fault_code taken branches (pieces.Name name) = code_unless (not (taken name)) ParagraphTwice
piece_fault_code taken branches (pieces.Opens head) =
    code_unless (fits branches (pieces.Opens head)) NoSuchForm
piece_fault_code taken branches pieces.Else = code_unless (fits branches pieces.Else) NoIf
piece_fault_code taken branches pieces.EndIf = code_unless (fits branches pieces.EndIf) NoIf
piece_fault_code taken branches pieces.Period = None
piece_fault_code taken branches (pieces.Whole statement) = None
piece_fault_code taken branches (pieces.Fault code) = Some code

-- The branches behind a piece: a name and a period close all, and END-IF the innermost. A piece that
-- does not fit leaves them.
abbrev pub branches_after : List Bool → Piece → List Bool
branches_after branches (pieces.Name name) = []
branches_after branches pieces.Period = []
branches_after branches (pieces.Opens head) =
    if is_full branches then branches else false ∷ branches
branches_after branches pieces.Else = if can_turn branches then else_turned branches else branches
branches_after branches pieces.EndIf = drop 1 branches
branches_after branches (pieces.Whole statement) = branches
branches_after branches (pieces.Fault code) = branches

-- the names that are taken behind a piece
abbrev pub taken_after : (Word → Bool) → Piece → Word → Bool
taken_after taken (pieces.Name name) = λ word. bytes_eq name word || taken word
taken_after taken pieces.Period = taken
taken_after taken (pieces.Whole statement) = taken
taken_after taken (pieces.Opens head) = taken
taken_after taken pieces.Else = taken
taken_after taken pieces.EndIf = taken
taken_after taken (pieces.Fault code) = taken

-- the piece is the name of a paragraph
abbrev pub is_paragraph_name : Piece → Bool
is_paragraph_name (pieces.Name name) = true
is_paragraph_name pieces.Period = false
is_paragraph_name (pieces.Whole statement) = false
is_paragraph_name (pieces.Opens head) = false
is_paragraph_name pieces.Else = false
is_paragraph_name pieces.EndIf = false
is_paragraph_name (pieces.Fault code) = false

-- what a piece leaves
abbrev pub after_piece : PiecesBefore → Piece → PiecesBefore
after_piece before piece =
    record {
      begun = before.begun || is_paragraph_name piece;
      taken = taken_after before.taken piece;
      branches = branches_after before.branches piece;
    }

-- the fault of a line, where there is a code
abbrev pub fault_at : ℕ → Option FaultCode → List Fault
fault_at line None = []
fault_at line (Some code) = (record { line = line; code = code }) ∷ []

-- 131 for a piece in front of the first paragraph
abbrev pub early : Bool → Piece → Option FaultCode
early begun piece = code_unless (begun || is_paragraph_name piece) NoSuchForm

-- the faults of a piece
abbrev pub faults_of : PiecesBefore → Placed → List Fault
faults_of before next =
    fault_at next.line (early before.begun next.piece)
    ++ fault_at next.line (piece_fault_code before.taken before.branches next.piece)

-- the faults of pieces
unfoldable pub faults_from : PiecesBefore → List Placed → List Fault
faults_from before [] = []
faults_from before (next ∷ pieces) =
    faults_of before next ++ faults_from (after_piece before next.piece) pieces
