-- Paths: what a terminal's program has been answered so far, and where a path stands.
use Rattle.std.specs.Prelude.{ℕ, ◌+◌, ◌*◌, Bool, List, [], ◌∷◌, Option, Some, None, is_none}

-- what a terminal's program is answered; a path is the list of the answers so far
pub data PathAnswer : Type 0 where
  -- the screen was shown
  Shown : PathAnswer
  -- the k-th entry line was taken
  Entry : (k : ℕ) → PathAnswer
  -- the attempt with r restarts began
  Begun : (r : ℕ) → PathAnswer
  -- the server replied so
  Replied : (reply : List ℕ) → PathAnswer
  -- the server had this run fault
  Failed : (code : ℕ) → PathAnswer
  -- the transaction ended
  Ended : PathAnswer
  -- the transaction was dropped
  Dropped : PathAnswer

-- what a server's file operation is answered: the file status, and the record that was read, if any
pub record FileResult : Type 0 where
  pub status : ℕ
  pub content : Option (List ℕ)

-- Where a path stands: how many units have ended on it, the restarts of the transaction that it is
-- in, if any, and how many refreshes it has since it went into that transaction or, outside one,
-- since the last unit ended or, before any has, from the start.
pub record Standing : Type 0 where
  pub ended : ℕ
  pub within : Option ℕ
  pub shown : ℕ

-- at the start
abbrev pub standing_at_start : Standing
standing_at_start = record { ended = 0; within = None; shown = 0 }

-- behind the end of a unit
abbrev pub standing_after_unit : Standing → Standing
standing_after_unit at = record { ended = at.ended + 1; within = None; shown = 0 }

-- behind a reply: outside a transaction the SEND was a unit, which ends with it
abbrev pub standing_after_reply : Standing → Option ℕ → Standing
standing_after_reply at None = standing_after_unit at
standing_after_reply at (Some r) = at

-- behind one more answer
abbrev pub standing_after_answer : Standing → PathAnswer → Standing
standing_after_answer at Shown = record at { shown = at.shown + 1 }
standing_after_answer at (Entry k) = at
standing_after_answer at (Begun r) = record at { within = Some r; shown = 0 }
standing_after_answer at (Replied reply) = standing_after_reply at at.within
standing_after_answer at (Failed code) = at
standing_after_answer at Ended = standing_after_unit at
standing_after_answer at Dropped = standing_after_unit at

-- where a path leads from a standing
abbrev pub standing_from : Standing → List PathAnswer → Standing
standing_from at [] = at
standing_from at (answer ∷ path) = standing_from (standing_after_answer at answer) path

-- where a path stands
abbrev pub standing : List PathAnswer → Standing
standing path = standing_from standing_at_start path

-- u: the number of units ended on the path, plus 1
abbrev pub unit_number : List PathAnswer → ℕ
unit_number path = (standing path).ended + 1

-- the path is in no transaction
abbrev pub is_outside : List PathAnswer → Bool
is_outside path = is_none (standing path).within

-- a refresh number, phase.attempt.k
pub record RefreshNumber : Type 0 where
  pub phase : ℕ
  pub attempt : ℕ
  pub k : ℕ

-- the next number at a standing: phase 2n - 1 inside unit n, with the restarts of its attempt, and
-- phase 2m outside units after m ended units, with attempt 0
abbrev pub number_at : Standing → Option ℕ → RefreshNumber
number_at at None = record { phase = 2 * at.ended; attempt = 0; k = at.shown + 1 }
number_at at (Some r) = record { phase = 2 * at.ended + 1; attempt = r; k = at.shown + 1 }

-- the next refresh number of a path
abbrev pub next_number : List PathAnswer → RefreshNumber
next_number path = number_at (standing path) (standing path).within

-- how many entry lines are on the path
abbrev pub entries_on : List PathAnswer → ℕ
entries_on [] = 0
entries_on (Shown ∷ path) = entries_on path
entries_on (Entry k ∷ path) = entries_on path + 1
entries_on (Begun r ∷ path) = entries_on path
entries_on (Replied reply ∷ path) = entries_on path
entries_on (Failed code ∷ path) = entries_on path
entries_on (Ended ∷ path) = entries_on path
entries_on (Dropped ∷ path) = entries_on path
