use Rattle.std.proofs.Common.{◌≡◌, ◌∙◌, subst, sym}
use Rattle.pw_code.specs.Valid.{IsValid}
use Rattle.pw_code.specs.declared.context.Context.{Context}
use Rattle.pw_code.specs.declared.system.System.{System}
use Rattle.pw_code_meaning.specs.Contexts.{PutsAnswer}
use Rattle.pw_code_meaning.specs.Sound.{IsSoundContext}
use Rattle.pw_machine.specs.Stack.{HasRoom}
use Rattle.pw_world_store.specs.Keeps.{kept_in}
use Rattle.pw_entry_effects.proofs.Answering.{gone-behind, own-context}
use Rattle.pw_entry_effects.proofs.verbs.go_behind.Goals as goal

pub answer-requires-clause-valid : goal.answer-requires-clause-valid
answer-requires-clause-valid g c =
    subst IsValid (sym (c.system.ensures ∙ c.leave_verb.ensures.left.system)) c.requires.valid

pub answer-requires-clause-sound : goal.answer-requires-clause-sound
answer-requires-clause-sound g c =
    let can = c.requires.can in
    subst (λ (s : System). IsSoundContext s c.in-Some.context) (sym (c.system.ensures ∙ c.leave_verb.ensures.left.system))
    (subst (IsSoundContext c.args.keep.now.system) (own-context _ _ can.context c.in-Some.context c.leave_verb.ensures.context can.ready c.in-Some.is) can.sound)

pub answer-requires-clause-room : goal.answer-requires-clause-room
answer-requires-clause-room g c =
    let can = c.requires.can in
    subst HasRoom (own-context _ _ can.context c.in-Some.context c.leave_verb.ensures.context can.ready c.in-Some.is) can.room

pub returns : goal.returns
returns g c =
    let can = c.requires.can in
    let own : can.context ≡ c.in-Some.context = own-context _ _ can.context c.in-Some.context c.leave_verb.ensures.context can.ready c.in-Some.is in
    let puts =
    subst (λ (s : System). PutsAnswer s c.args.answer can.context c.answer.new.context) (c.system.ensures ∙ c.leave_verb.ensures.left.system)
    (subst (λ (x : Context). PutsAnswer c.system.result.now c.args.answer x c.answer.new.context) (sym own) c.answer.ensures.takes)
    in
    record {
      system = c.answer-in-Some.ensures.system ∙ c.leave_verb.ensures.left.system;
      kept =
          gone-behind c.args.keep.now.system c.args.terminal c.args.answer can.context c.answer.new.context (kept_in g.D.Disc.told c.args.keep.now) (kept_in g.D.Disc.told c.leave_verb.new.self) _
          can.sound can.ready puts c.leave_verb.ensures.left.kept c.answer-in-Some.ensures.kept;
    }
