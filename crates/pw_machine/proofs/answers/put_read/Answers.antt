-- The record is moved INTO its item, and then the status is told.
use Rattle.std.proofs.Common.{None, sym, ap, ◌∙◌}
use Rattle.pw_code.specs.declared.context.Frame.{Frame}
use Rattle.pw_code.specs.declared.verb.Answer.{Answer}
use Rattle.pw_code_meaning.specs.Answers as answers
use Rattle.pw_code_meaning.specs.Reading.{Registers, spot_of}
use Rattle.pw_machine.specs.Config.{config_with, frame_of}
use Rattle.pw_machine.proofs.PutLemmas.{read_else}
use Rattle.pw_machine.proofs.answers.put_read.Goals as goal

pub returns-in-FileDone-clause-config : goal.returns-in-FileDone-clause-config
returns-in-FileDone-clause-config c =
    let top = c.args.top.now in
    let storage = top.storage.items in
    let status = c.in-FileDone.status in
    λ frames.
    c.put_status.ensures.config frames
    ∙ ap (λ (f : Frame). answers.file_done None status None (record { top = f; rest = record c.args.context.now { frames = frames } }))
    (c.move_record.ensures.top
    ∙ ap (λ (r : Registers). record (frame_of top) { storage = answers.moved_into (spot_of r storage c.args.into) status c.in-FileDone.content storage }) c.of-registers.ensures)
    ∙ ap (λ (a : Answer). answers.read_put c.args.into a (config_with frames top c.args.context.now)) (sym c.in-FileDone.is)

pub returns-in_default-clause-config : goal.returns-in_default-clause-config
returns-in_default-clause-config c =
    λ frames. c.pass_file.ensures.config frames ∙ read_else c.args.into c.args.answer.now (config_with frames c.args.top.now c.args.context.now) c.in_default.not-FileDone
