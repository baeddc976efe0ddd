use Rattle.std.proofs.Common.{ap, ◌∙◌}
use Rattle.pw_base.specs.First.{least}
use Rattle.pw_data.specs.Entries.{line_of}
use Rattle.pw_screen.specs.Screens.{fault_of}
use Rattle.pw_screen.proofs.Steps.{outcome-put}
use Rattle.pw_screen.proofs.reading.ScreenReading.put.Goals as goal

pub returns-clause-outcome : goal.returns-clause-outcome
returns-clause-outcome c = λ parts.
    outcome-put c.args.part.now.text c.args.layout.now c.args.self.now (record { known = c.noted-self.result; taken = c.read.new.self; build = c.put.new.self })
    c.args.part.now.tokens parts c.in_ok-entry.entry c.in_ok-entry.ensures.entry c.in_ok-entry.ensures.after
    (c.noted-self.ensures ∙ ap (λ line. least c.args.self.now.known (fault_of line c.in_ok-entry.entry)) (c.line_of.ensures ∙ ap line_of c.tokens.ensures))
    c.in_ok-put.ensures.built
