-- A record as it was read.
use Rattle.std.proofs.Common.{◌≡◌, ◌-◌, length, drop, arith, rules, length-drop}
use Rattle.pw_trail.specs.Format.{size_of}
use Rattle.pw_trail.proofs.Framing.{read_short, read_whole}
use Rattle.pw_trail.proofs.piece.read_record.Goals as goal

pub returns-then-behind-size-clause-piece : goal.returns-then-behind-size-clause-piece
unfolding size_of
returns-then-behind-size-clause-piece g c =
    let bytes = g.D.Disk.bytes c.args.disk.now in
    let rest : length (drop c.args.at bytes) ≡ length bytes - c.args.at = length-drop c.args.at bytes in
    read_short bytes c.args.at c.from-size.result c.read.new.into c.in_ok-read.ensures.read (search rules) (omega (arith, c.requires.total, rest)) (omega (arith, c.requires.total, rest))

pub returns-clause-piece : goal.returns-clause-piece
unfolding size_of
returns-clause-piece g c =
    let bytes = g.D.Disk.bytes c.args.disk.now in
    let rest : length (drop c.args.at bytes) ≡ length bytes - c.args.at = length-drop c.args.at bytes in
    read_whole bytes c.args.at c.from-size.result c.read.new.into c.in_ok-read.ensures.read (search rules) (omega (arith, c.requires.total, rest)) _ (search rules) (omega (arith, c.requires.total, rest))
