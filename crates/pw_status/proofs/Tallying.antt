-- All that is counted of a log is that of the log with one more entry, once this is noted.
use Rattle.std.proofs.Common.{◌≡◌, ℕ, ◌<◌, ◌≤◌, Bool, List, [], ◌∷◌, ◌++◌, length, Option, Some, None, refl, sym, ap, subst, ◌∙◌, arith}
use Rattle.std.proofs.lemmas.List.{length-set}
use Rattle.std.specs.Prelude.{slice_index_or}
use Rattle.pw_code.specs.Limits.{most_log_lines}
use Rattle.pw_code.specs.declared.system.System.{System}
use Rattle.pw_status.proofs.Attempting.{first-attempts, next-attempts}
use Rattle.pw_status.proofs.Counting.{next-counters}
use Rattle.pw_status.proofs.Waiting.{next-longest}
use Rattle.pw_status.specs.Attempts.{AreAttemptsOf, attempts_behind}
use Rattle.pw_status.specs.Counters.{AreCountersOf, CountersState, more, more_at}
use Rattle.pw_status.specs.Counts.{restarted_terminal, taken_from}
use Rattle.pw_status.specs.Longest.{AreLongestOf, longest_with, sent_to}
use Rattle.pw_status.specs.Tally.{IsFirstTally, EntryMeets, IsNotedIn, IsTallyOf, TallyState}
use Rattle.pw_status.specs.declared.tally.Met.{Met}
use Rattle.pw_event.specs.declared.event.Event.{Event}
use Rattle.pw_onecopy.specs.Behaviour.{Behaviour}
use Rattle.pw_onecopy.specs.IsBehaviour.{IsBehaviour}
use Rattle.pw_serial_order.specs.Shadow.{IsOfSystem}
use Rattle.pw_paired.specs.Step.{IsRun}
use Rattle.pw_laws.proofs.induction.Runs.{kept}

more-length : (own : Option ℕ) (counts : List ℕ) → length (more_at own counts) ≡ length counts
more-length None counts = refl
more-length (Some place) counts = length-set counts place (more (slice_index_or counts place 0))

longest-length : (own : Option ℕ) (n : ℕ) (longest : List ℕ) → length (longest_with own n longest) ≡ length longest
longest-length None n longest = refl
longest-length (Some c) n longest = length-set longest c _

pub next-tally : (system : System) (sys : Behaviour) → IsBehaviour sys → sys.terminals ≤ 128 → (log : List Event) → IsRun sys log
    → length log < most_log_lines → (entry : Event) → (met : Met) → EntryMeets sys log entry met → (old new : TallyState)
    → IsTallyOf system sys log old → IsNotedIn entry met old new → IsTallyOf system sys (log ++ entry ∷ []) new
next-tally system sys b few log run short entry met meets old new tally noted = record {
  restarts = ap (λ (c : CountersState). length c.restarts) noted.counters ∙ (more-length (restarted_terminal entry) old.counters.restarts ∙ tally.restarts);
  taken = ap (λ (c : CountersState). length c.taken) noted.counters ∙ (more-length (taken_from entry) old.counters.taken ∙ tally.taken);
  counters = subst (AreCountersOf (log ++ entry ∷ [])) (sym noted.counters) (next-counters log entry old.counters (omega (arith, short)) tally.counters);
  classes = ap length noted.longest ∙ (longest-length (sent_to entry) met.waiting old.longest ∙ tally.classes);
  longest = subst (AreLongestOf sys (log ++ entry ∷ [])) (sym noted.longest) (next-longest sys log entry old.longest met.waiting tally.longest meets.waiting);
  attempts = subst (AreAttemptsOf sys (log ++ entry ∷ [])) (sym noted.attempts)
      (subst (λ (e : Bool). AreAttemptsOf sys (log ++ entry ∷ []) (attempts_behind e entry old.attempts)) (sym meets.ends)
      (next-attempts sys log entry old.attempts few short (kept sys b log run).known tally.attempts));
}

pub first-tally : (system : System) (sys : Behaviour) → IsOfSystem system sys → (tally : TallyState) → IsFirstTally system tally → IsTallyOf system sys [] tally
first-tally system sys of tally first = record {
  restarts = first.restarts;
  taken = first.taken;
  counters = first.counters;
  classes = first.classes;
  longest = first.longest sys;
  attempts = first-attempts system sys of tally.attempts first.attempts;
}
