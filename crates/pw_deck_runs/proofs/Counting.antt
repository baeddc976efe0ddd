-- The units that commit in a log: the blocks of its serial order, and its entries.
use Rattle.std.proofs.Common.{◌≡◌, ℕ, zero, suc, ◌+◌, ◌++◌, Bool, true, false, cond, List, [], ◌∷◌, Option, Some, None, refl, arith}
use Rattle.std.specs.Prelude.{count_by, is_none}
use Rattle.std.proofs.lemmas.List.Sums.{sum_by-cons}
use Rattle.pw_event.specs.declared.event.Event.{Event}
use Rattle.pw_event.specs.declared.event.Event.TheVariants.{Show, Key, CheckStart, CheckEnd, CheckCopy, Applied, Begin, Send, Take, File, Reply, Again, Commit, Back, Restart, FailTcp, FailServer, Takeover, Raise, End}
use Rattle.pw_onecopy.specs.Behaviour.{Behaviour}
use Rattle.pw_onecopy.specs.Blocks.{Attempted, SerialBlock, Committed, Done, Left, Out}
use Rattle.pw_onecopy.specs.Path.{is_outside, unit_number}
use Rattle.pw_paired.specs.Failure.{is_of_pair}
use Rattle.pw_paired.specs.Serial.{Reading, blocks_of, entry_blocks_from, last_blocks_from, left_block, left_blocks, makes_gone, read_on, reading_starts}
use Rattle.pw_paired.specs.State.{OpenUnit, State, starting}
use Rattle.pw_paired.specs.Step.{effect}
use Rattle.pw_paired.specs.Terminal.{path_of}
use Rattle.pw_world_model.specs.Commits.{commits_by, commits_from, commits_in}
use Rattle.pw_deck_runs.specs.recovery.Commits.{commits, is_commit}

abbrev count : List SerialBlock → ℕ
count blocks = count_by is_commit blocks

count-append : (first second : List SerialBlock) → count (first ++ second) ≡ count first + count second
count-append [] second = omega arith
count-append (b ∷ first) second =
    let own = sum_by-cons (λ (x : SerialBlock). cond (is_commit x) 1 0) b (first ++ second) in
    let alone = sum_by-cons (λ (x : SerialBlock). cond (is_commit x) 1 0) b first in
    let rest = count-append first second in
    omega (arith, own, alone, rest)

-- ---- blocks of units that do not commit

left-none : (t j : ℕ) (own : Option OpenUnit) → count (left_block t j own) ≡ 0
left-none t j None = refl
left-none t j (Some unit) = by (is_none unit.running)
  where
    by : (b : Bool) → count (cond b [] (Attempted t unit.number Left j ∷ [])) ≡ 0
    by true = refl
    by false = refl

lefts-none : (state : State) (reading : Reading) (whose : ℕ → Bool) (n : ℕ) → count (left_blocks state reading whose n) ≡ 0
lefts-none state reading whose zero = refl
lefts-none state reading whose (suc t) =
    let both = count-append (left_blocks state reading whose t) (cond (whose t) (left_block t (reading.answers t) (state.units t)) []) in
    let low = lefts-none state reading whose t in
    let own = by (whose t) in
    omega (arith, both, low, own)
  where
    by : (b : Bool) → count (cond b (left_block t (reading.answers t) (state.units t)) []) ≡ 0
    by true = left-none t (reading.answers t) (state.units t)
    by false = refl

-- of a path that is shown
if-out : (t : ℕ) (b : Bool) → count (cond b (Out t ∷ []) []) ≡ 0
if-out t true = refl
if-out t false = refl

-- of a REPLY OK
if-outside : (t n j : ℕ) (b : Bool) → count (cond b (Attempted t n Committed j ∷ []) []) ≡ cond b 1 0
if-outside t n j true = refl
if-outside t n j false = refl

if-gone : (blocks : List SerialBlock) (b : Bool) → count blocks ≡ 0 → count (cond b blocks []) ≡ 0
if-gone blocks true none = none
if-gone blocks false none = refl

-- ---- entries

-- an entry reads as one committing block where it commits, and else as none
entry-count : (sys : Behaviour) (state : State) (reading : Reading) (e : Event) → count (blocks_of sys state reading e) ≡ commits_by state e
entry-count sys state reading (Show t phase attempt k) = if-out t _
entry-count sys state reading (Key t k) = if-out t _
entry-count sys state reading (Commit t n) = refl
entry-count sys state reading (Reply c i t None) = if-outside t (unit_number (path_of state t)) (reading.answers t + 1) (is_outside (path_of state t))
entry-count sys state reading (Reply c i t (Some x)) = refl
entry-count sys state reading (Back t n) = refl
entry-count sys state reading (Restart t n cause) = refl
entry-count sys state reading (FailTcp p primary k) =
    if-gone (left_blocks state reading (is_of_pair sys p) sys.terminals) (makes_gone sys state (FailTcp p primary k) p)
    (lefts-none state reading (is_of_pair sys p) sys.terminals)
entry-count sys state reading (End t ending) =
    let both = count-append (left_block t (reading.answers t) (state.units t)) (Done t ending ∷ []) in
    let left = left-none t (reading.answers t) (state.units t) in
    omega (arith, both, left)
entry-count sys state reading (CheckStart t) = refl
entry-count sys state reading (CheckEnd t) = refl
entry-count sys state reading (CheckCopy t) = refl
entry-count sys state reading (Applied t) = refl
entry-count sys state reading (Begin t n r) = refl
entry-count sys state reading (Send t n c) = refl
entry-count sys state reading (Take c i t) = refl
entry-count sys state reading (File c i op mode f status) = refl
entry-count sys state reading (Again t n) = refl
entry-count sys state reading (FailServer c i k) = refl
entry-count sys state reading (Takeover p) = refl
entry-count sys state reading (Raise p) = refl

entries-count : (sys : Behaviour) (state : State) (reading : Reading) (log : List Event) → count (entry_blocks_from sys state reading log) ≡ commits_from sys state log
entries-count sys state reading [] = refl
entries-count sys state reading (e ∷ log) =
    let both = count-append (blocks_of sys state reading e) (entry_blocks_from sys (effect sys state e) (read_on sys state e reading) log) in
    let own = entry-count sys state reading e in
    let rest = entries-count sys (effect sys state e) (read_on sys state e reading) log in
    omega (arith, both, own, rest)

-- at the end attempts are left
last-none : (sys : Behaviour) (state : State) (reading : Reading) (log : List Event) → count (last_blocks_from sys state reading log) ≡ 0
last-none sys state reading [] = lefts-none state reading (λ t. true) sys.terminals
last-none sys state reading (e ∷ log) = last-none sys (effect sys state e) (read_on sys state e reading) log

-- as many units commit as entries that commit one
pub commits-are : (sys : Behaviour) (log : List Event) → commits sys log ≡ commits_in sys log
commits-are sys log =
    let both = count-append (entry_blocks_from sys (starting sys) reading_starts log) (last_blocks_from sys (starting sys) reading_starts log) in
    let entries = entries-count sys (starting sys) reading_starts log in
    let last = last-none sys (starting sys) reading_starts log in
    omega (arith, both, entries, last)
