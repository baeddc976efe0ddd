-- The call that an entry of the paired system is for a pair.
use Rattle.std.specs.Prelude.{◌≡◌, ℕ, ◌<◌, ◌==◌, Bool, true, false, List, if◌then◌else◌}
use Rattle.pw_event.specs.declared.event.Event.{Event}
use Rattle.pw_event.specs.declared.event.Event.TheVariants.{Show, Key, CheckStart, CheckEnd, CheckCopy, Applied, Begin, Send, Take, File, Reply, Again, Commit, Back, Restart, FailTcp, FailServer, Takeover, Raise, End}
use Rattle.pw_onecopy.specs.Behaviour.{Behaviour}
use Rattle.pw_onecopy.specs.Path.{PathAnswer, unit_number}
use Rattle.pw_pair.specs.Pairs.{SeenPair, after_applied, after_drop, after_raise, after_send, after_take, backup_fails, passes, primary_fails, seat_of}
use Rattle.pw_pair.specs.Rooms.{MaySend}
use Rattle.pw_pair.specs.Seats.{is_flying}
use Rattle.pw_pair.specs.declared.message.CheckKind.{CheckKind}
use Rattle.pw_pair.specs.declared.message.CheckKind.TheVariants as kind
use Rattle.pw_pair.specs.declared.message.CheckMessage.{CheckMessage}
use Rattle.pw_pair.specs.declared.mode.Mode.TheVariants as mode
use Rattle.pw_paired.specs.Failure.{is_of_pair}
use Rattle.pw_paired.specs.Raising.{copied_path}
use Rattle.pw_paired.specs.State.{State}
use Rattle.pw_paired.specs.Terminal.{closed_path, path_of}

-- the message of a CHECK entry
abbrev pub message_of : CheckKind → ℕ → ℕ → List ℕ → CheckMessage
message_of kind t unit image = record { terminal = t; kind = kind; unit = unit; image = image }

-- a member of the pair fails
abbrev pub member_fails : Bool → SeenPair → SeenPair
member_fails true pair = primary_fails pair.mode pair
member_fails false pair = backup_fails pair.mode pair

-- the call of a pair, where the entry is of it
abbrev pub if_own : Bool → (SeenPair → SeenPair) → SeenPair → SeenPair
if_own own call pair = if own then call pair else pair

-- what pair p is behind the call that an entry is for it
abbrev pub pair_after_call : (ℕ → List PathAnswer → List ℕ) → Behaviour → State → Event → ℕ → SeenPair
    → SeenPair
pair_after_call image sys state (CheckStart t) p pair =
    if_own (is_of_pair sys p t)
    (after_send (message_of kind.Start t (unit_number (path_of state t)) (image t (path_of state t))))
    pair
pair_after_call image sys state (CheckEnd t) p pair =
    if_own (is_of_pair sys p t)
    (after_send (message_of kind.End t (unit_number (path_of state t))
    (image t (closed_path sys state t)))) pair
pair_after_call image sys state (CheckCopy t) p pair =
    if_own (is_of_pair sys p t)
    (after_send (message_of kind.Copy t (unit_number (copied_path state t))
    (image t (copied_path state t)))) pair
pair_after_call image sys state (Applied t) p pair = if_own (is_of_pair sys p t) (after_applied t) pair
pair_after_call image sys state (End t ending) p pair = if_own (is_of_pair sys p t) (after_drop t) pair
pair_after_call image sys state (FailTcp q primary k) p pair = if_own (q == p) (member_fails primary) pair
pair_after_call image sys state (Takeover q) p pair = if_own (q == p) after_take pair
pair_after_call image sys state (Raise q) p pair = if_own (q == p) after_raise pair
pair_after_call image sys state _ p pair = pair

-- Where the call of an entry may be made; the message that is taken in must be built as well.
abbrev pub MayBeCalled : Behaviour → Event → SeenPair → Type 0
MayBeCalled sys (CheckStart t) pair = MaySend pair.mode kind.Start
MayBeCalled sys (CheckEnd t) pair = MaySend pair.mode kind.End
MayBeCalled sys (CheckCopy t) pair = MaySend pair.mode kind.Copy
MayBeCalled sys (Applied t) pair = t < sys.terminals → passes is_flying (seat_of t pair) ≡ true
MayBeCalled sys (Raise p) pair = pair.mode ≡ mode.Alone
MayBeCalled sys (Takeover p) pair = pair.mode ≡ mode.Down
MayBeCalled sys _ pair = Unit {0}
