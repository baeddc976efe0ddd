-- The same programs are at work.
use Rattle.std.proofs.Common.{length, refl, ap}
use Rattle.pw_machine.specs.Config.{config_of}
use Rattle.pw_machine.specs.declared.top.Top.{Top}
use Rattle.pw_machine.proofs.SoundLemmas.{stays_sound}
use Rattle.pw_machine.proofs.act.act.Goals as goal

pub returns-in-Jump-clause-sound : goal.returns-in-Jump-clause-sound
returns-in-Jump-clause-sound c =
    stays_sound c.args.system.now (config_of c.args.top.now c.args.context.now) (config_of c.go_over.new.top c.args.context.now) c.requires.sound
    (record {
      program = ap (λ (t : Top). t.program) c.go_over.ensures;
      size = ap (λ (t : Top). length t.storage.items) c.go_over.ensures;
      frames = refl;
    })

pub returns-in-ParagraphEnd-clause-sound : goal.returns-in-ParagraphEnd-clause-sound
returns-in-ParagraphEnd-clause-sound c = stays_sound c.args.system.now (config_of c.args.top.now c.args.context.now) _ c.requires.sound c.end_paragraph.ensures.stays

pub returns-in_ok-tested-in-Until-clause-sound : goal.returns-in_ok-tested-in-Until-clause-sound
returns-in_ok-tested-in-Until-clause-sound c =
    stays_sound c.args.system.now (config_of c.args.top.now c.args.context.now) (config_of c.tested.new.top c.tested.new.context) c.requires.sound c.in_ok-tested-in-Until.ensures.stays

pub returns-in-JumpUnless-clause-sound : goal.returns-in-JumpUnless-clause-sound
returns-in-JumpUnless-clause-sound c =
    stays_sound c.args.system.now (config_of c.args.top.now c.args.context.now) (config_of c.begin_branch.new.top c.begin_branch.new.context) c.requires.sound c.begin_branch.ensures.stays

pub returns-in_ok-begin_move-in-Move-clause-sound : goal.returns-in_ok-begin_move-in-Move-clause-sound
returns-in_ok-begin_move-in-Move-clause-sound c =
    stays_sound c.args.system.now (config_of c.args.top.now c.args.context.now) (config_of c.begin_move.new.top c.begin_move.new.context) c.requires.sound c.begin_move.ensures.stays

pub returns-in-Compute-clause-sound : goal.returns-in-Compute-clause-sound
returns-in-Compute-clause-sound c =
    stays_sound c.args.system.now (config_of c.args.top.now c.args.context.now) (config_of c.begin_arithmetic.new.top c.begin_arithmetic.new.context) c.requires.sound
    c.begin_arithmetic.ensures.stays

pub returns-in-OnSizeError-clause-sound : goal.returns-in-OnSizeError-clause-sound
returns-in-OnSizeError-clause-sound c =
    stays_sound c.args.system.now (config_of c.args.top.now c.args.context.now) (config_of c.begin_guarded.new.top c.begin_guarded.new.context) c.requires.sound
    c.begin_guarded.ensures.stays
