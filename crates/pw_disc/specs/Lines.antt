-- Which lines of a disc script act at a call, by how many calls were done before it.
use Rattle.std.specs.Prelude.{ℕ, ◌&&◌, Bool, true, false, not, List, [], ◌∷◌, length, drop, take_while, nat_le, if◌then◌else◌}
use Rattle.std.specs.List.{list_any}
use Rattle.pw_disc.specs.declared.script.DiscLine.{DiscLine}
use Rattle.pw_disc.specs.declared.script.DiscLine.TheVariants.{Primary, Held, Backup}

-- a line is due behind so many calls
abbrev pub is_due : ℕ → DiscLine → Bool
is_due done (Primary n) = nat_le n done
is_due done (Held n) = nat_le n done
is_due done (Backup n) = nat_le n done

-- a HELD line acts at the end of a call, the others at the start of one
abbrev pub is_held : DiscLine → Bool
is_held (Held n) = true
is_held _ = false

-- a line is one of a primary at the start of a call
abbrev pub is_primary : DiscLine → Bool
is_primary (Primary n) = true
is_primary _ = false

-- the line acts at the start of the call
abbrev pub acts_first : ℕ → DiscLine → Bool
acts_first done line = not (is_held line) && is_due done line

-- the lines that act at the start of the call, one after the other
abbrev pub acting : ℕ → List DiscLine → List DiscLine
acting done lines = take_while (acts_first done) lines

-- the lines behind them
abbrev pub disc_lines_behind : ℕ → List DiscLine → List DiscLine
disc_lines_behind done lines = drop (length (acting done lines)) lines

-- The first of them leaves a single member, and a PRIMARY AFTER line behind it loses the pair.
abbrev pub lose_pair : List DiscLine → Bool
lose_pair [] = false
lose_pair (line ∷ lines) = list_any is_primary lines

-- the first line is a HELD line, and acts at the end of the call
abbrev pub is_held_at_front : ℕ → List DiscLine → Bool
is_held_at_front done [] = false
is_held_at_front done (line ∷ lines) = is_held line && is_due done line

-- a PRIMARY AFTER line stands behind a line other than HELD
abbrev pub begins_with_primary : List DiscLine → Bool
begins_with_primary [] = false
begins_with_primary (line ∷ lines) = is_primary line

unfoldable pub may_lose : List DiscLine → Bool
may_lose [] = false
may_lose (line ∷ lines) = if not (is_held line) && begins_with_primary lines then true else may_lose lines
