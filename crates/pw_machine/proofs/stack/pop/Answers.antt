-- The list of frames was taken apart at its end.
use Rattle.std.proofs.Common.{◌≡◌, ◌++◌, List, None, length, ap, ◌∙◌, sym, subst, arith}
use Rattle.std.specs.Option.{option_to_list}
use Rattle.pw_code.specs.declared.context.Frame.{Frame}
use Rattle.pw_code_meaning.specs.Turns.{split_last}
use Rattle.pw_machine.specs.Stack.{popped}
use Rattle.pw_machine.proofs.SoundLemmas.{last_popped, none_case}
use Rattle.pw_machine.proofs.stack.pop.Goals as goal

pub returns-clause-last : goal.returns-clause-last
returns-clause-last c =
    let old = c.args.context.now.frames in
    let taken : c.into_vec-frames.result.items ≡ old = cc in
    let whole : old ≡ c.pop-last.new.self.items ++ option_to_list c.pop-last.result = sym taken ∙ c.pop-last.ensures.items in
    let empty : c.pop-last.result ≡ None → length old ≡ 0 =
    λ e. let none = none_case c.pop-last.result _ _ c.pop-last.ensures.cases e in omega (arith, none.0, c.into_vec-frames.result.ok.0, ap (length {A = Frame}) taken) in
    subst (λ (l : List Frame). split_last old ≡ popped l c.pop-last.result) (sym c.from_vec.ensures) (last_popped old c.pop-last.new.self.items c.pop-last.result whole empty)
