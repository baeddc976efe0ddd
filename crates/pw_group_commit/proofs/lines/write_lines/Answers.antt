use Rattle.std.proofs.Common.{◌≡◌, ◌∙◌, ℕ, List, take, subst}
use Rattle.std.specs.Io.KnownBytes.{Appends}
use Rattle.pw_group_commit.proofs.Writing.{writes-front}
use Rattle.pw_group_commit.specs.Lines.{lines_of}
use Rattle.pw_group_commit.proofs.lines.write_lines.Goals as goal

pub returns-clause-writes : goal.returns-clause-writes
returns-clause-writes g c =
    let lines = lines_of c.args.names.now c.args.units.now in
    let is : c.as_slice.result.now ≡ lines = c.as_slice.ensures ∙ c.in-Ok.ensures in
    let before = g.K.Sink.written c.args.sink.now in
    let now = g.K.Sink.written c.write_all_of.new.sink in
    writes-front _ c.in-Err.field-0 lines before now (λ w. absurd (cc w))
    (subst (λ (l : List ℕ). Appends before now (take c.in-Err.field-0 l)) is c.in-Err.ensures.writes.1)
