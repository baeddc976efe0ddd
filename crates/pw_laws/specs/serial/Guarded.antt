-- Failures against which a pair is guarded, and what a commit leaves.
use Rattle.std.specs.Prelude.{◌≡◌, ℕ, Bool, true, false, List, ◌∷◌, ◌++◌, length, filter}
use Rattle.pw_event.specs.declared.event.Event.{Event}
use Rattle.pw_event.specs.declared.event.Event.TheVariants.{FailTcp, FailServer}
use Rattle.pw_laws.specs.locking.Records.{commits_at}
use Rattle.pw_onecopy.specs.Behaviour.{Behaviour}
use Rattle.pw_paired.specs.Headline.{is_end_of}
use Rattle.pw_paired.specs.Serial.{blocks}
use Rattle.pw_paired.specs.Step.{after}
use Rattle.pw_laws.specs.runs.Losses.{Breaks}

-- no FAIL TCP entry of the log is of the primary in mode Raising or Alone, or of the backup in
-- mode Down
abbrev pub IsGuarded : Behaviour → List Event → Type 0
IsGuarded sys log =
    (before behind : List Event) (p : ℕ) (primary : Bool) (k : ℕ)
    → log ≡ before ++ FailTcp p primary k ∷ behind
    → ¬ Breaks primary ((after sys before).modes p)

-- no entry of these commits a unit, behind this log
abbrev pub NoneCommits : Behaviour → List Event → List Event → Type 0
NoneCommits sys log more =
    (first rest : List Event) (entry : Event) → more ≡ first ++ entry ∷ rest
    → commits_at (after sys (log ++ first)) entry ≡ false

-- unit n of the terminal ends exactly once in the serial order of the log
abbrev pub HasEndedOnce : Behaviour → List Event → ℕ → ℕ → Type 0
HasEndedOnce sys log t n = length (filter (is_end_of t n) (blocks sys log)) ≡ 1

-- the entry is the failure of a member or of a process
abbrev pub is_fail : Event → Bool
is_fail (FailTcp p primary k) = true
is_fail (FailServer c i k) = true
is_fail _ = false
