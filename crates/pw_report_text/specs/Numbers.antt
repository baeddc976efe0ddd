-- Refresh numbers, their order, and the first refresh of each.
use Rattle.std.specs.Prelude.{ℕ, ◌==◌, ◌&&◌, ◌||◌, Bool, List, [], if◌then◌else◌}
use Rattle.std.specs.BTreeSet.{BTreeSet, contains}
use Rattle.std.specs.Ordering.{nat_cmp, ordering_then}
use Rattle.std.specs.declared.cmp.Ordering.{Ordering}
use Rattle.pw_code.specs.declared.system.System.{System}
use Rattle.pw_report_text.specs.Lines.{refresh_part}
use Rattle.pw_report_text.specs.declared.numbers.ListedRefreshNumber.{ListedRefreshNumber}
use Rattle.pw_onecopy.specs.Refreshes.{same_number}
use Rattle.pw_onecopy.specs.declared.refresh.Refresh.{Refresh}

-- the number of a refresh
abbrev pub number_of_refresh : Refresh → ListedRefreshNumber
number_of_refresh r = record { phase = r.phase; attempt = r.attempt; k = r.k }

-- by phase, then by attempt, then by k
abbrev pub number_cmp : ListedRefreshNumber → ListedRefreshNumber → Ordering
number_cmp a b =
    ordering_then (nat_cmp a.phase b.phase)
    (ordering_then (nat_cmp a.attempt b.attempt) (nat_cmp a.k b.k))

-- the lines of a refresh of the terminal whose number was not seen
abbrev pub first_part : System → ℕ → BTreeSet ListedRefreshNumber → Refresh → List ℕ
first_part system t seen r =
    if r.terminal == t
    then (if contains number_cmp seen (number_of_refresh r) then [] else refresh_part system r)
    else []

-- a number was seen before, or is that of this refresh of the terminal
abbrev pub is_seen : ℕ → Refresh → BTreeSet ListedRefreshNumber → Refresh → Bool
is_seen t r seen other =
    contains number_cmp seen (number_of_refresh other) || (r.terminal == t && same_number other r)
