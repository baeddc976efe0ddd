-- A disc pair, and how its calls leave it.
use Rattle.std.specs.Prelude.{◌≡◌, ◌≢◌, ◌⊎◌, ◌≤◌, ℕ, Bool, true, false, List, [], ◌∷◌, drop, length, Option, Some, None, Result, Ok, Err, if◌then◌else◌}
use Rattle.std.specs.List.{list_any}
use Rattle.pw_base.specs.Outside.{counted}
use Rattle.pw_disc.specs.declared.script.DiscLine.{DiscLine}
use Rattle.pw_tmf.specs.declared.answer.DiscFault.{DiscFault}
use Rattle.pw_tmf.specs.declared.answer.DiscFault.TheVariants as fault
use Rattle.pw_tmf.specs.declared.answer.FileAnswer.{FileAnswer}
use Rattle.pw_tmf.specs.declared.answer.FileAnswer.TheVariants as answer
use Rattle.pw_tmf.specs.Faulty.{with_faults}
use Rattle.pw_tmf.specs.Tmf.{TmfState, told_of}
use Rattle.pw_tmf.specs.Told.{Told}
use Rattle.pw_disc.specs.declared.standing.DiscPairState.{DiscPairState}
use Rattle.pw_disc.specs.declared.standing.DiscPairState.TheVariants.{Two, One, Lost}
use Rattle.pw_disc.specs.Lines.{acting, disc_lines_behind, is_held_at_front, is_primary, lose_pair}

-- How many members there are; what a member keeps; how many calls failed; the lines of the script that were not used, none
-- once the pair is lost; and how many calls were done.
pub record PairKept : Type 0 where
  pub standing : DiscPairState
  pub member : TmfState
  pub faults : ℕ
  pub lines : List DiscLine
  pub done : ℕ

-- How many members there are; what each of them tells, beside the faults of the pair; the lines of the script that were
-- not used, none once the pair is lost; and how many calls were done.
pub record PairState : Type 0 where
  pub standing : DiscPairState
  pub told : Told
  pub lines : List DiscLine
  pub done : ℕ

-- how a pair stands that is lost or not, and has a backup or not
abbrev pub standing_of : Bool → Option TmfState → DiscPairState
standing_of true backup = Lost
standing_of false None = One
standing_of false (Some backup) = Two

-- a backup, if there is one, tells what the primary does
abbrev pub AreEqual : TmfState → Option TmfState → Type 0
AreEqual primary None = Unit {0}
AreEqual primary (Some backup) = told_of backup ≡ told_of primary

-- such members, and no more lines used than there are
pub record IsPair (primary : TmfState) (backup : Option TmfState) (used : ℕ) (lines : List DiscLine) : Type 0 where
  pub equal : AreEqual primary backup
  pub few : used ≤ length lines

-- the lines that are left of a pair
abbrev pub lines_left : Bool → ℕ → List DiscLine → List DiscLine
lines_left true used lines = []
lines_left false used lines = drop used lines

-- what a pair keeps, by its parts
abbrev pub kept_as : Bool → Option TmfState → TmfState → ℕ → List DiscLine → ℕ → ℕ → PairKept
kept_as gone backup primary used lines done faults = record {
  standing = standing_of gone backup;
  member = primary;
  faults = faults;
  lines = lines_left gone used lines;
  done = done;
}

-- the state of a pair: what it is by what it tells
abbrev pub state_of : PairKept → PairState
state_of kept = record {
  standing = kept.standing;
  told = with_faults kept.faults (told_of kept.member);
  lines = kept.lines;
  done = kept.done;
}

-- the state of a pair of these parts
abbrev pub seen : Bool → Option TmfState → TmfState → ℕ → List DiscLine → ℕ → ℕ → PairState
seen gone backup primary used lines done faults = record {
  standing = standing_of gone backup;
  told = with_faults faults (told_of primary);
  lines = lines_left gone used lines;
  done = done;
}

-- the lines that act at the start of the next call lose the pair
abbrev pub lost_next : PairState → Bool
lost_next pair = lose_pair (acting pair.done pair.lines)

-- the pair is lost at the next call, or was lost before it
abbrev pub IsLost : PairState → Type 0
IsLost pair = (pair.standing ≡ Lost) ⊎ (lost_next pair ≡ true)

-- it is not
pub record Lasts (pair : PairState) : Type 0 where
  pub stands : pair.standing ≢ Lost
  pub lasts : lost_next pair ≡ false

-- what a lost pair is behind a call: its count of faults rises
abbrev pub lost : PairState → PairState
lost pair = record {
  standing = Lost;
  told = record pair.told { faults = counted pair.told.faults };
  lines = [];
  done = pair.done;
}

-- how many members such lines leave of two
abbrev pub left_by : List DiscLine → DiscPairState
left_by [] = Two
left_by (line ∷ lines) = if list_any is_primary lines then Lost else One

-- lines were used
abbrev pub after_lines : DiscPairState → List DiscLine → PairState → PairState
after_lines standing lines pair = record pair { standing = standing; lines = lines }

-- behind the lines that act at the start of a call, where there are two members
abbrev pub acted : PairState → PairState
acted pair = after_lines (left_by (acting pair.done pair.lines)) (if lost_next pair then [] else disc_lines_behind pair.done pair.lines) pair

-- two members, behind the lines that act at the start of the call
abbrev pub prepared : PairState → PairState
prepared pair = after_lines Two (disc_lines_behind pair.done pair.lines) pair

-- the call was done; a HELD line that is due leaves a single member
abbrev pub finished : PairState → PairState
finished pair = record {
  standing = if is_held_at_front pair.done pair.lines then One else pair.standing;
  told = pair.told;
  lines = if is_held_at_front pair.done pair.lines then drop 1 pair.lines else pair.lines;
  done = counted pair.done;
}

-- a call that was done counts
abbrev pub after_outcome : Bool → PairState → PairState
after_outcome true pair = finished pair
after_outcome false pair = pair

-- memory ran out at a call: at least one member is there, and all else stays
pub record IsUnmade (old new : PairState) : Type 0 where
  pub stands : new.standing ≢ Lost
  pub stays : new ≡ record old { standing = new.standing }

-- the call was done, and this is told
abbrev pub done_with : PairState → Told → PairState
done_with pair told = finished (record (prepared pair) { told = told })

-- Memory ran out: either a single member raised no backup before any line acted, or the lines of the call acted, and at
-- least one member is there. All that is told stays.
abbrev pub RanOutOfMemory : PairState → PairState → Type 0
RanOutOfMemory old new =
    ((old.standing ≡ One) × (new ≡ old))
    ⊎ (Lasts old × (new.standing ≢ Lost) × (new ≡ record (prepared old) { standing = new.standing }))

-- how a call leaves the pair
abbrev pub AfterCall : Result (Unit {0}) DiscFault → PairState → PairState → Type 0
AfterCall (Ok done) old new = Lasts old × (new ≡ done_with old new.told)
AfterCall (Err fault.Failed) old new = IsLost old × (new ≡ lost old)
AfterCall (Err fault.Memory) old new = RanOutOfMemory old new

-- how an operation leaves it
abbrev pub AfterOperation : FileAnswer → PairState → PairState → Type 0
AfterOperation (answer.Done status content) old new = Lasts old × (new ≡ done_with old new.told)
AfterOperation (answer.Conflict holder) old new = Lasts old × (new ≡ prepared old)
AfterOperation answer.Failed old new = IsLost old × (new ≡ lost old)
AfterOperation answer.Memory old new = RanOutOfMemory old new
