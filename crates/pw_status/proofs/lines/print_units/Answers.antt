use Rattle.std.proofs.Common.{◌≡◌, ◌∙◌, ◌++◌, ℕ, List, subst}
use Rattle.std.specs.Prelude.{OnOk}
use Rattle.pw_status.proofs.Words.{units-words}
use Rattle.pw_status.proofs.lines.print_units.Goals as goal

pub returns : goal.returns
returns c =
    subst (λ (line : List ℕ). OnOk c.put_line.result (c.put_line.new.text ≡ c.args.text.now ++ line))
    (units-words c.args.counts.now c.as_bytes.result.now c.as_bytes-2.result.now c.as_bytes-3.result.now c.as_bytes-4.result.now c.as_bytes-5.result.now c.as_bytes-6.result.now c.as_bytes-7.result.now c.as_bytes-8.result.now
    (c.as_bytes.ensures.value ∙ c.in_ok-begun.ensures) (c.as_bytes-2.ensures.value ∙ c.in_ok-committed.ensures) (c.as_bytes-3.ensures.value ∙ c.in_ok-dropped.ensures) (c.as_bytes-4.ensures.value ∙ c.in_ok-left.ensures)
    (c.as_bytes-5.ensures.value ∙ c.in_ok-older.ensures) (c.as_bytes-6.ensures.value ∙ c.in_ok-takeover.ensures) (c.as_bytes-7.ensures.value ∙ c.in_ok-server.ensures) (c.as_bytes-8.ensures.value ∙ c.in_ok-redo.ensures))
    c.put_line.ensures
