-- A watch over a new world.
use Rattle.std.proofs.Common.{◌≡◌, ◌∙◌, List, [], length, sym, ap, subst}
use Rattle.std.specs.BTreeSet.{BTreeSet}
use Rattle.pw_code.specs.Limits.{most_log_lines}
use Rattle.pw_code.specs.declared.system.System.{System}
use Rattle.pw_status.proofs.Tallying.{first-tally}
use Rattle.pw_status.specs.Shown.{AreShownOf}
use Rattle.pw_status.specs.Tally.{IsFirstTally, IsTallyOf, TallyState}
use Rattle.pw_event.specs.declared.event.Event.{Event}
use Rattle.pw_event.specs.declared.script.FailLine.{FailLine}
use Rattle.pw_code_meaning.specs.OfSystem.{behaviour}
use Rattle.pw_report_text.specs.declared.numbers.ListedRefreshNumber.{ListedRefreshNumber}
use Rattle.pw_world.specs.States.{WorldState, seen}
use Rattle.pw_world_model.specs.Worlds.{IsNew}
use Rattle.pw_paired.specs.Shown.{refreshes}
use Rattle.pw_tmf.specs.Tmf.{TmfState, told_of}
use Rattle.pw_tmf.specs.Told.{Told}
use Rattle.pw_status.proofs.Pushing.{is-of}
use Rattle.pw_status.specs.Watching.{IsWatch, WatchState, sys_in, watched}

module _ (world : WorldState TmfState) (system : System) (script : List FailLine) (disc : Told) (new : IsNew system script disc most_log_lines (seen told_of world)) where
  pub begun-seen : watched world ≡ record { system = system; script = script; log = [] }
  begun-seen =
      ap (λ (s : System). record { system = s; script = world.script; log = world.ledger.log }) new.system_is
      ∙ (ap (λ (lines : List FailLine). record { system = system; script = lines; log = world.ledger.log }) new.script_is
      ∙ ap (λ (log : List Event). record { system = system; script = script; log = log }) new.empty)

  pub watch-begun : (tally : TallyState) (numbers : List (BTreeSet ListedRefreshNumber)) → IsFirstTally system tally
      → length numbers ≡ length system.terminals → AreShownOf [] numbers → IsWatch world tally numbers
  watch-begun tally numbers first count none = record {
    limit = new.limit_is;
    sound = new.sound;
    counted = subst (λ (v : WatchState). IsTallyOf v.system (sys_in v) v.log tally) (sym begun-seen) (first-tally system (behaviour script system) (is-of system script) tally first);
    count = count ∙ sym (ap (λ (v : WatchState). length v.system.terminals) begun-seen);
    shown = subst (λ (v : WatchState). AreShownOf (refreshes (sys_in v) v.log) numbers) (sym begun-seen) none;
  }
