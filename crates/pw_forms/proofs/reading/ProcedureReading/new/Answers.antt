use Rattle.std.proofs.Common.{None, refl}
use Rattle.pw_forms.specs.declared.reading.ProcedureReading.{ProcedureReading}
use Rattle.pw_forms.proofs.Steps.{outcome-start}
use Rattle.pw_forms.proofs.reading.ProcedureReading.new.Goals as goal

pub returns : goal.returns
returns c = λ pieces.
    let start : ProcedureReading = record { known = None; names = c.new.result; build = c.new-2.result } in
    outcome-start start pieces refl c.new.ensures c.new-2.ensures.paragraphs c.new-2.ensures.begun c.new-2.ensures.open c.new-2.ensures.current
