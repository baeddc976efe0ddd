-- The operand is shown as it was read.
use Rattle.std.proofs.Common.{◌≡◌, ℕ, List, Some, true, sym, ap, ◌∙◌}
use Rattle.std.specs.Prelude.{option_map}
use Rattle.pw_tree_meaning.specs.Values.{as_it_stands}
use Rattle.pw_code_meaning.specs.Reading.{Registers, read, registers_of}
use Rattle.pw_code_meaning.specs.Steps as steps
use Rattle.pw_code.specs.declared.context.Context.{Context}
use Rattle.pw_terminal.specs.Screen.{with_message}
use Rattle.pw_machine.specs.Config.{config_of}
use Rattle.pw_machine.proofs.ActLemmas.{displayed}
use Rattle.pw_machine.proofs.asks.display.Goals as goal

pub returns-in-Some-clause-config : goal.returns-in-Some-clause-config
returns-in-Some-clause-config c =
    let now = config_of c.args.top.now c.args.context.now in
    let one = c.args.shown.now in
    let found : Some c.in-Some.chars ≡ option_map as_it_stands (steps.read_here now one) =
    sym c.in-Some.is ∙ c.in_ok-chars.ensures
    ∙ ap (λ (r : Registers). option_map as_it_stands (read r c.as_slice.result.now one)) c.of-registers.ensures
    ∙ ap (λ (s : List ℕ). option_map as_it_stands (read (registers_of c.args.context.now) s one)) c.as_slice.ensures.value in
    let screen : c.message.new.image ≡ with_message c.in-Some.chars c.args.context.now.screen =
    c.message.ensures ∙ ap (λ (l : List ℕ). with_message l c.args.context.now.screen) c.as_slice-in-Some.ensures in
    ap (λ (x : Context). config_of c.args.top.now x)
    (c.ask.ensures ∙ ap (λ (s : List ℕ). record c.args.context.now { screen = s; at_verb = true }) screen)
    ∙ sym (displayed (steps.read_here now one) c.in-Some.chars now found)
