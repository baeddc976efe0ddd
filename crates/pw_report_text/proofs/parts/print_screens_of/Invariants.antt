use Rattle.std.proofs.Common.{◌≡◌, ◌++◌, take}
use Rattle.pw_report_text.specs.Lines.{refresh_parts}
use Rattle.pw_report_text.specs.Listing.{refreshes_counted_once}
use Rattle.pw_report_text.proofs.Seen.{HasSeen}
use Rattle.pw_onecopy.specs.Refreshes.{refreshes_of}
use Rattle.pw_report_text.proofs.parts.print_screens_of.Given as goal

-- the screens of the refreshes so far, whose numbers are those that were seen
abbrev pub invariant-loop-refresh : goal.invariant-loop-refresh
invariant-loop-refresh l = record {
  text : l.text ≡ l.initial.text ++ refresh_parts l.system (refreshes_counted_once (take l.refresh-index l.refreshes) l.terminal);
  seen : HasSeen l.seen (refreshes_of l.terminal (take l.refresh-index l.refreshes));
}
