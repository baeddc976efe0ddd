-- Which actors' state an entry changes, by what is kept before it.
use Rattle.std.specs.Prelude.{ℕ, ◌==◌, ◌&&◌, ◌||◌, Bool, true, false, not, is_some, if◌then◌else◌}
use Rattle.std.specs.List.{list_any}
use Rattle.pw_class.specs.Queue.{at_process, has_request, works_for}
use Rattle.pw_code.specs.declared.system.System.{System}
use Rattle.pw_event.specs.declared.event.Ending.{Ending}
use Rattle.pw_event.specs.declared.event.Ending.TheVariants.{Stopped, NoEntries, Fault, Suspended, Lost}
use Rattle.pw_event.specs.declared.event.Event.{Event}
use Rattle.pw_event.specs.declared.event.Event.TheVariants.{Show, Key, CheckStart, CheckEnd, CheckCopy, Applied, Begin, Send, Take, File, Reply, Again, Commit, Back, Restart, FailTcp, FailServer, Takeover, Raise, End}
use Rattle.pw_world_state.specs.Entered.{entered, tcp_of}
use Rattle.pw_world_state.specs.Kept.{Kept}
use Rattle.pw_world_state.specs.Members.{members_of}
use Rattle.pw_pair.specs.declared.mode.Mode.{Mode}
use Rattle.pw_pair.specs.declared.mode.Mode.TheVariants.{Alone, Raising, Paired, Down, Gone}
use Rattle.pw_paired.specs.Raising.{is_takeover}
use Rattle.pw_actor_queue.specs.declared.actor.Actor.{Actor}
use Rattle.pw_actor_queue.specs.declared.actor.Actor.TheVariants.{Terminal, Process, Pair, Class}

-- ---- pairs

-- two modes are one
abbrev pub is_same_mode : Mode → Mode → Bool
is_same_mode Alone Alone = true
is_same_mode Raising Raising = true
is_same_mode Paired Paired = true
is_same_mode Down Down = true
is_same_mode Gone Gone = true
is_same_mode _ _ = false

-- the mode of the pair is another one behind the entry
abbrev pub turns : System → Kept → Event → ℕ → Bool
turns system kept entry p =
    not (is_same_mode (kept.pairs p).mode ((entered system (members_of system) entry kept).pairs p).mode)

-- The entry changes what the pair knows of one of its terminals: what its backup holds and is sent, and whether it has
-- ended; a restart does so where a TAKEOVER cause was pending.
abbrev pub tells_of_pair : System → Kept → ℕ → Event → Bool
tells_of_pair system kept p (CheckStart t) = tcp_of system t == p
tells_of_pair system kept p (CheckEnd t) = tcp_of system t == p
tells_of_pair system kept p (CheckCopy t) = tcp_of system t == p
tells_of_pair system kept p (Applied t) = tcp_of system t == p
tells_of_pair system kept p (Restart t n cause) =
    tcp_of system t == p && is_takeover (kept.terminals t).pending
tells_of_pair system kept p (End t ending) = tcp_of system t == p
tells_of_pair system kept p _ = false

-- ---- terminals

-- the entry is one of the terminal, a reply to it, or stops the process that works for it
abbrev pub is_at : Kept → ℕ → Event → Bool
is_at kept t (Show own phase attempt k) = own == t
is_at kept t (Key own k) = own == t
is_at kept t (CheckStart own) = own == t
is_at kept t (CheckEnd own) = own == t
is_at kept t (CheckCopy own) = own == t
is_at kept t (Applied own) = own == t
is_at kept t (Begin own n r) = own == t
is_at kept t (Send own n c) = own == t
is_at kept t (Take c i own) = false
is_at kept t (File c i op mode f status) = false
is_at kept t (Reply c i own fault) = own == t
is_at kept t (Again own n) = own == t
is_at kept t (Commit own n) = own == t
is_at kept t (Back own n) = own == t
is_at kept t (Restart own n cause) = own == t
is_at kept t (FailTcp p primary k) = false
is_at kept t (FailServer c i k) = works_for t (at_process (kept.queues c) i)
is_at kept t (Takeover p) = false
is_at kept t (Raise p) = false
is_at kept t (End own ending) = own == t

-- ---- requests

-- an ending leaves an open unit, so that the terminal's request is cancelled
abbrev pub leaves : Ending → Bool
leaves Stopped = false
leaves NoEntries = true
leaves (Fault x) = true
leaves (Suspended cause) = true
leaves Lost = false

-- the failure of this member of a pair cancels the requests of its terminals
abbrev pub loses : Bool → Mode → Bool
loses true Paired = true
loses true Raising = true
loses true Alone = true
loses true Down = false
loses true Gone = false
loses false Alone = false
loses false Raising = false
loses false Paired = false
loses false Down = true
loses false Gone = false

-- the entry cancels a request for which a test of terminals passes
abbrev pub cancels_where : System → Kept → Event → (ℕ → Bool) → Bool
cancels_where system kept (Restart t n cause) has = has t
cancels_where system kept (FailTcp p primary k) has =
    loses primary (kept.pairs p).mode && list_any has (members_of system p)
cancels_where system kept (End t ending) has = leaves ending && has t
cancels_where system kept _ has = false

-- the entry is one of the process
abbrev pub is_at_process : Kept → ℕ → ℕ → Event → Bool
is_at_process kept c i (Take class process t) = class == c && process == i
is_at_process kept c i (File class process op mode f status) = class == c && process == i
is_at_process kept c i (Reply class process t fault) = class == c && process == i
is_at_process kept c i (FailServer class process k) =
    class == c && (process == i && is_some (at_process (kept.queues c) i))
is_at_process kept c i _ = false

-- the entry is one of the class or of a process of it
abbrev pub is_at_class : Kept → ℕ → Event → Bool
is_at_class kept c (Send t n class) = class == c
is_at_class kept c (Take class i t) = class == c
is_at_class kept c (File class i op mode f status) = class == c
is_at_class kept c (Reply class i t fault) = class == c
is_at_class kept c (FailServer class i k) =
    class == c && is_some (at_process (kept.queues c) i)
is_at_class kept c _ = false

-- ---- each actor

-- the entry changes the state of the actor
abbrev pub touches : System → Kept → Event → Actor → Bool
touches system kept entry (Terminal t) =
    is_at kept t entry || turns system kept entry (tcp_of system t)
touches system kept entry (Process c i) =
    is_at_process kept c i entry
    || cancels_where system kept entry (λ t. works_for t (at_process (kept.queues c) i))
touches system kept entry (Pair p) = tells_of_pair system kept p entry || turns system kept entry p
touches system kept entry (Class c) =
    is_at_class kept c entry
    || cancels_where system kept entry (λ t. has_request t (kept.queues c))

-- the length of the log when each actor's state last changed, behind an entry that makes the log this long
abbrev pub stamped : System → Kept → Event → ℕ → (Actor → ℕ) → Actor → ℕ
stamped system kept entry length stamps actor =
    if touches system kept entry actor then length else stamps actor
