use Rattle.std.proofs.Common.{ap, ◌∙◌}
use Rattle.pw_base.specs.First.{least}
use Rattle.pw_forms.specs.declared.reading.ProcedureReading.{ProcedureReading}
use Rattle.pw_forms.specs.Built.{before_of}
use Rattle.pw_forms.specs.Faults.{early, fault_at}
use Rattle.pw_forms.proofs.Steps.{before-after, outcome-put}
use Rattle.pw_forms.proofs.reading.ProcedureReading.put.Goals as goal

pub returns : goal.returns
returns c = λ pieces.
    let next : ProcedureReading = record { known = c.noted_code-self.result; names = c.code_of-code.new.names; build = c.put.new.self } in
    outcome-put next c.args.self.now c.args.next pieces c.early-early.result c.in_ok-code.field-0
    (c.early-early.ensures ∙ ap (λ begun. early begun c.args.next.piece) c.is_some.ensures) c.in_ok-code.ensures.code
    (c.noted_code-self.ensures ∙ ap (λ known. least known (fault_at c.args.next.line c.in_ok-code.field-0)) c.noted_code.ensures)
    (before-after (before_of next) (before_of c.args.self.now) c.args.next.piece c.in_ok-put.ensures.begun c.in_ok-code.ensures.names c.in_ok-put.ensures.branches)
    c.in_ok-put.ensures.built
