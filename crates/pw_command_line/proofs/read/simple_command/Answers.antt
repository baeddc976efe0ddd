use Rattle.std.proofs.Common.{◌≡◌, ◌∙◌, ap, ap₂, true}
use Rattle.clap.specs.Words.{app_of, with_rule}
use Rattle.clap.specs.Simple.{app_of_fields, on_top}
use Rattle.pw_command_line.specs.CommandLine.{bare_app}
use Rattle.pw_command_line.proofs.read.simple_command.Goals as goal

pub returns : goal.returns
returns c =
    let a1 = ap app_of_fields c.no_binary_name.ensures ∙ ap (on_top (λ s. record s { no_binary_name = true })) c.new.ensures.app in
    let a2 : app_of c.disable_help_flag.result ≡ bare_app = ap app_of_fields c.disable_help_flag.ensures ∙ ap (on_top (λ s. record s { disable_help_flag = true })) a1 in
    let b0 = c.in_ok-arg.ensures.shape c.command_word.ensures.local ∙ ap₂ with_rule a2 c.command_word.ensures.rule in
    let b1 = c.in_ok-arg-2.ensures.shape c.option.ensures.local ∙ ap₂ with_rule b0 c.option.ensures.rule in
    let b2 = c.in_ok-arg-3.ensures.shape c.option-2.ensures.local ∙ ap₂ with_rule b1 c.option-2.ensures.rule in
    let b3 = c.in_ok-arg-4.ensures.shape c.option-3.ensures.local ∙ ap₂ with_rule b2 c.option-3.ensures.rule in
    let b4 = c.in_ok-arg-5.ensures.shape c.option-4.ensures.local ∙ ap₂ with_rule b3 c.option-4.ensures.rule in
    c.in_ok-pathway.ensures.shape c.option-5.ensures.local ∙ ap₂ with_rule b4 c.option-5.ensures.rule
