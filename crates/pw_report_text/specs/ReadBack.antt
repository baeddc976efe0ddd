-- How a log is read back from the text of its report.
use Rattle.std.specs.Prelude.{◌≡◌, ℕ, ◌+◌, ◌<◌, ◌^◌, ◌==◌, Bool, false, List, [], ◌∷◌, ◌++◌, codes, length, if◌then◌else◌}
use Rattle.std.specs.Fmt.{decimal}
use Rattle.std.specs.List.{AllByRecursion, list_any}
use Rattle.std.specs.Str.{bytes_eq}
use Rattle.pw_base.specs.Characters.{line_feed, space}
use Rattle.pw_code.specs.declared.lock.LockRule.{LockRule}
use Rattle.pw_code.specs.declared.lock.LockRule.TheVariants.{ReadersShare, AllExclusive}
use Rattle.pw_code.specs.declared.system.System.{System}
use Rattle.pw_event.specs.Line.{event_text}
use Rattle.pw_event.specs.declared.event.Event.{Event}

-- the words have no line end
abbrev pub IsOneLine : List ℕ → Type 0
IsOneLine words = AllByRecursion (λ b. (b == line_feed) ≡ false) words

-- the lines of a text, the first of which goes on from these words
abbrev pub lines_from : List ℕ → List ℕ → List (List ℕ)
lines_from words [] = []
lines_from words (b ∷ text) =
    if b == line_feed then words ∷ lines_from [] text else lines_from (words ++ b ∷ []) text

-- the lines of a text
abbrev pub lines_of : List ℕ → List (List ℕ)
lines_of text = lines_from [] text

-- the line heads the log
abbrev pub is_log : List ℕ → Bool
is_log words = bytes_eq words (codes "LOG")

-- the lines behind the last line LOG
abbrev pub behind_log : List (List ℕ) → List (List ℕ)
behind_log [] = []
behind_log (words ∷ rest) = if list_any is_log rest then behind_log rest
    else (if is_log words then rest else [])

-- the line of the header, if there is one
abbrev pub header_lines : LockRule → List (List ℕ)
header_lines ReadersShare = codes "PATHWAY LOG 2" ∷ []
header_lines AllExclusive = []

-- the lines of the entries, which are numbered from n
abbrev pub numbered_entry_lines : System → ℕ → List Event → List (List ℕ)
numbered_entry_lines system n [] = []
numbered_entry_lines system n (entry ∷ log) =
    (decimal n ++ space ∷ event_text system entry) ∷ numbered_entry_lines system (n + 1) log

-- the last line
abbrev pub last_words : Bool → List ℕ
last_words finished = if finished then codes "FINISHED" else codes "UNFINISHED"

-- the text of each entry is one line, and there are not too many to count
pub record AreLines (system : System) (log : List Event) : Type 0 where
  pub each : AllByRecursion (λ entry. IsOneLine (event_text system entry)) log
  pub few : length log < 2 ^ 32
