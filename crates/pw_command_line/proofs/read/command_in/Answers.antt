use Rattle.std.proofs.Common.{◌∙◌, ap, sym, codes, option_and_then, option_map}
use Rattle.clap.specs.Words.{found_of}
use Rattle.clap.proofs.WalkLemmas.{first_value-rows}
use Rattle.pw_command_line.specs.CommandLine.{command_named}
use Rattle.pw_command_line.proofs.read.command_in.Goals as goal

pub returns-in-Some : goal.returns-in-Some
returns-in-Some c = c.command_named.ensures ∙ ap (λ o. option_and_then command_named o) (sym (ap (option_map (λ s. s.now)) c.in-Some.is) ∙ c.get_str.ensures ∙ first_value-rows (found_of c.args.matches.now) (codes "command"))

pub returns-in-None : goal.returns-in-None
returns-in-None c = ap (λ o. option_and_then command_named o) (sym (ap (option_map (λ s. s.now)) c.in-None.is) ∙ c.get_str.ensures ∙ first_value-rows (found_of c.args.matches.now) (codes "command"))
