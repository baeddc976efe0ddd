-- What stands at a gate that is open is a record.
use Rattle.std.proofs.Common.{◌≢◌, get_or, sym, ◌∙◌, arith, rules}
use Rattle.std.proofs.lemmas.Result.{IfOk-weaker}
use Rattle.pw_trail.proofs.Framing.{open_piece}
use Rattle.pw_trail.proofs.piece.read_piece.Goals as goal

pub returns-clause-piece : goal.returns-clause-piece
returns-clause-piece g c =
    let bytes = g.D.Disk.bytes c.args.disk.now in
    let is_open : get_or c.read.new.into 0 0 ≢ 0 = search rules in
    let at = open_piece bytes c.args.at c.read.new.into (omega (arith, c.requires.total, c.requires.within)) c.in_ok-read.ensures.read is_open in
    IfOk-weaker c.read_record.result _ _ (λ piece is. is ∙ sym at) (search rules)
