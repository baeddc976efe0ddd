-- The program at work is taken out of its context and put back behind those that wait for it.
use Rattle.std.proofs.Common.{◌≡◌, ◌∷◌, [], ◌++◌, List, Option, length, sym, ap, ◌∙◌, arith}
use Rattle.std.specs.Option.{option_to_list}
use Rattle.pw_code.specs.declared.context.Frame.{Frame}
use Rattle.pw_machine.specs.Config.{frame_of}
use Rattle.pw_machine.proofs.SoundLemmas.{none_case}
use Rattle.pw_machine.proofs.TopLemmas.{some_there, takes, takes_sound}
use Rattle.pw_machine.proofs.run.answer.Goals as goal

pub unreachable-requires : goal.unreachable-requires
unreachable-requires c =
    let none = none_case c.pop.result _ _ c.pop.ensures.cases c.in_default.is in
    some_there c.args.system.now c.args.context.now c.requires.sound
    (omega (arith, none.0, c.take_frames-frames.result.ok.0, ap (length {A = Frame}) c.take_frames-frames.ensures.frames))

pub returns-clause-takes : goal.returns-clause-takes
returns-clause-takes c =
    let before = c.pop.new.self.items in
    let all : c.args.context.now.frames ≡ before ++ frame_of c.open-top.result ∷ [] =
    sym c.take_frames-frames.ensures.frames ∙ c.pop.ensures.items ∙ ap (λ (r : Option Frame). before ++ option_to_list r) c.in-Some.is
    ∙ ap (λ (f : Frame). before ++ f ∷ []) (sym c.open-top.ensures) in
    takes c.args.system.now c.args.answer c.args.context.now c.take_frames-frames.new.context c.put.new.context c.put_frames.new.context before c.open-top.result c.put.new.top
    c.take_frames-frames.ensures.others all (c.put.ensures.config before)
    (c.put_frames.ensures
    ∙ ap (λ (l : List Frame). record c.put.new.context { frames = l }) (c.push_reserved.ensures.items ∙ ap (λ (f : Frame). before ++ f ∷ []) c.close.ensures))

pub returns-clause-sound : goal.returns-clause-sound
returns-clause-sound c =
    let before = c.pop.new.self.items in
    let all : c.args.context.now.frames ≡ before ++ frame_of c.open-top.result ∷ [] =
    sym c.take_frames-frames.ensures.frames ∙ c.pop.ensures.items ∙ ap (λ (r : Option Frame). before ++ option_to_list r) c.in-Some.is
    ∙ ap (λ (f : Frame). before ++ f ∷ []) (sym c.open-top.ensures) in
    takes_sound c.args.system.now c.args.context.now c.put.new.context c.put_frames.new.context before c.open-top.result c.put.new.top c.requires.sound all c.put.ensures.program
    c.put.ensures.size
    (c.put_frames.ensures
    ∙ ap (λ (l : List Frame). record c.put.new.context { frames = l }) (c.push_reserved.ensures.items ∙ ap (λ (f : Frame). before ++ f ∷ []) c.close.ensures))
