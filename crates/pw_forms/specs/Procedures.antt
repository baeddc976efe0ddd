-- The procedure of a program, or its first fault.
use Rattle.std.specs.Prelude.{ℕ, List, Bool, None, Result}
use Rattle.pw_base.specs.declared.fault.Fault.{Fault}
use Rattle.pw_base.specs.First.{least, unless}
use Rattle.pw_text.specs.declared.token.Token.{Token}
use Rattle.pw_forms.specs.declared.statement.Procedure.{Procedure}
use Rattle.pw_forms.specs.declared.piece.Placed.{Placed}
use Rattle.pw_forms.specs.Pieces.{pieces_of}
use Rattle.pw_forms.specs.Faults.{nothing, faults_from}
use Rattle.pw_forms.specs.Tree.{tree}

-- the procedure that pieces are, or their first fault
abbrev pub outcome_of : List Placed → Result Procedure Fault
outcome_of pieces = unless (least None (faults_from nothing pieces)) (tree pieces)

-- the procedure that tokens of a text are, in a server or in a requester, or their first fault
abbrev pub procedure_of : Bool → List ℕ → List Token → Result Procedure Fault
procedure_of server text tokens = outcome_of (pieces_of server text tokens)
