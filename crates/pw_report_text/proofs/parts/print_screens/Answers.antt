use Rattle.std.proofs.Common.{List, ℕ, ◌++◌, ap, ◌∙◌, append_assoc, add-one}
use Rattle.pw_report_text.specs.Lines.{refresh_parts}
use Rattle.pw_report_text.specs.Listing.{refreshes_counted_once, screens_to}
use Rattle.pw_report_text.proofs.parts.print_screens.Goals as goal

pub loop-terminal-preserved : goal.loop-terminal-preserved
loop-terminal-preserved c =
    let screens = refreshes_counted_once c.args.refreshes.now in
    let t = c.loop-terminal.terminal in
    rw add-one
    (c.in_ok-print_screens_of.ensures
    ∙ (ap (λ (text : List ℕ). text ++ refresh_parts c.args.system.now (screens t)) c.loop-terminal.invariant
    ∙ append_assoc c.args.text.now (screens_to c.args.system.now screens t) (refresh_parts c.args.system.now (screens t))))
