-- The greatest numbers of requests that waited at once.
use Rattle.std.specs.Prelude.{◌≡◌, ℕ, ◌<◌, List, length, max, Option, Some, None, slice_index_or, slice_set}
use Rattle.pw_status.specs.Counts.{longest_from}
use Rattle.pw_event.specs.declared.event.Event.{Event}
use Rattle.pw_event.specs.declared.event.Event.TheVariants.{Send}
use Rattle.pw_onecopy.specs.Behaviour.{Behaviour}
use Rattle.pw_paired.specs.State.{starting}

-- the class of a SEND
abbrev pub sent_to : Event → Option ℕ
sent_to (Send t n c) = Some c
sent_to _ = None

-- for each class the greatest number, where so many wait for this one
abbrev pub longest_with : Option ℕ → ℕ → List ℕ → List ℕ
longest_with None waiting longest = longest
longest_with (Some c) waiting longest =
    slice_set longest c (max (slice_index_or longest c 0) waiting)

-- for each class the greatest number of requests that waited at once in a log
abbrev pub AreLongestOf : Behaviour → List Event → List ℕ → Type 0
AreLongestOf sys log longest =
    (c : ℕ) → c < length longest
    → slice_index_or longest c 0 ≡ longest_from sys (starting sys) c log
