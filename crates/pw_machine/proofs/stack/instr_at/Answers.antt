use Rattle.std.proofs.Common.{ap, ◌∙◌}
use Rattle.std.specs.Prelude.{slice_get}
use Rattle.pw_code.specs.declared.code.Code.{Code}
use Rattle.pw_machine.specs.Config.{frame_of}
use Rattle.pw_machine.proofs.StandLemmas.{found_at, found_can}
use Rattle.pw_machine.proofs.stack.instr_at.Goals as goal

pub returns-clause-at : goal.returns-clause-at
returns-clause-at c = found_at c.get.result _ (c.get.ensures ∙ ap (λ (code : Code). slice_get code.instrs c.args.top.now.at) c.code_at.ensures)

pub returns-clause-can : goal.returns-clause-can
returns-clause-can c =
    found_can c.args.system.now (frame_of c.args.top.now) c.get.result c.requires.valid c.requires.frame
    (c.get.ensures ∙ ap (λ (code : Code). slice_get code.instrs c.args.top.now.at) c.code_at.ensures)
