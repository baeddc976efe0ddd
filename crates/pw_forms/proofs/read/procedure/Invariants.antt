-- What was read, with the pieces that are left, is the procedure.
use Rattle.std.proofs.Common.{◌≡◌, length}
use Rattle.pw_forms.specs.Pieces.{first_mark, pieces_of}
use Rattle.pw_forms.specs.Built.{outcome}
use Rattle.pw_forms.specs.Procedures.{procedure_of}
use Rattle.pw_forms.proofs.read.procedure.Given as goal

abbrev pub invariant-loop-first : goal.invariant-loop-first
invariant-loop-first l = record {
  mark : l.mark ≡ first_mark l.server l.text l.rest;
  so_far : outcome l.reading (pieces_of l.server l.text l.rest) ≡ procedure_of l.server l.text l.tokens;
}

abbrev pub decreases-loop-first : goal.decreases-loop-first
decreases-loop-first l = length l.rest
