use Rattle.std.proofs.Common.{◌≡◌, ◌++◌}
use Rattle.pw_report_text.specs.Listing.{refreshes_counted_once, screens_to}
use Rattle.pw_report_text.proofs.parts.print_screens.Given as goal

-- the screens of the terminals so far
abbrev pub invariant-loop-terminal : goal.invariant-loop-terminal
invariant-loop-terminal l = l.text ≡ l.fn.text ++ screens_to l.system (refreshes_counted_once l.refreshes) l.terminal
