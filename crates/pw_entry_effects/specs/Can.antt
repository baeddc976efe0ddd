-- What an entry asks of what is kept, so that what is kept can follow it.
use Rattle.std.specs.Prelude.{◌≡◌, ℕ, ◌<◌, ◌≤◌, ◌-◌, ◌^◌, true, false, List, [], length, IsSome, Option, Some, None, slice_get}
use Rattle.pw_class.specs.Queue.{at_process, has_request}
use Rattle.pw_class.specs.declared.request.Request.{Request}
use Rattle.pw_code.specs.Valid.{IsValid}
use Rattle.pw_code.specs.declared.context.Context.{Context}
use Rattle.pw_code.specs.declared.file.FileCall.{FileCall}
use Rattle.pw_code.specs.declared.system.ClassInfo.{ClassInfo}
use Rattle.pw_code.specs.declared.system.System.{System}
use Rattle.pw_code.specs.declared.verb.Answer.{Answer}
use Rattle.pw_code.specs.declared.verb.Verb.TheVariants as verb
use Rattle.pw_event.specs.declared.event.Event.{Event}
use Rattle.pw_event.specs.declared.event.Event.TheVariants.{Show, Key, CheckStart, CheckEnd, CheckCopy, Applied, Begin, Send, Take, File, Reply, Again, Commit, Back, Restart, FailTcp, FailServer, Takeover, Raise, End}
use Rattle.pw_code_meaning.specs.Sound.{IsSoundContext}
use Rattle.pw_image.specs.Image.{HasImage}
use Rattle.pw_world_state.specs.Asked.{answered_with, unit_in, verb_in}
use Rattle.pw_world_state.specs.Changes.{unit_at}
use Rattle.pw_world_state.specs.ClassTests.{may_take}
use Rattle.pw_world_state.specs.Entered.{copied}
use Rattle.pw_world_state.specs.Kept.{Kept}
use Rattle.pw_world_state.specs.TerminalTests.{closing, flies, seen_pair_of}
use Rattle.pw_world_state.specs.Tested.{IsPlaced}
use Rattle.pw_locks.specs.Conflicts.{holders}
use Rattle.pw_machine.specs.Stack.{HasRoom}
use Rattle.pw_pair.specs.Rooms.{MaySend}
use Rattle.pw_pair.specs.declared.message.CheckKind.{CheckKind}
use Rattle.pw_pair.specs.declared.message.CheckKind.TheVariants as kind
use Rattle.pw_pair.specs.declared.mode.Mode.{Mode}
use Rattle.pw_pair.specs.declared.mode.Mode.TheVariants as mode
use Rattle.pw_tmf.specs.Operation.{IsCall, lock_now}
use Rattle.pw_tmf.specs.Units.{CanBackOut, CanBegin, IsRunning}

-- ---- terminals

-- the terminal's program stands at its verb, with a context that can be answered
pub record CanAnswer (system : System) (kept : Kept) (t : ℕ) : Type 0 where
  pub placed : IsPlaced system t
  pub context : Context
  pub ready : (kept.terminals t).ready ≡ Some context
  pub sound : IsSoundContext system context
  pub room : HasRoom context

-- and the terminal has this entry line
pub record CanKey (system : System) (kept : Kept) (t k : ℕ) : Type 0 where
  pub can : CanAnswer system kept t
  pub low : 1 ≤ k
  pub high : k ≤ length can.placed.info.entries

-- a unit of the terminal has ended, whose reply is kept
pub record CanAgain (system : System) (kept : Kept) (t : ℕ) : Type 0 where
  pub can : CanAnswer system kept t
  pub some : 1 ≤ (kept.disc.ended t).number

-- ---- checkpoints

-- the context is there and has an image, and the pair of the terminal sends messages of this kind
pub record CanCarry (system : System) (kept : Kept) (t : ℕ) (kind : CheckKind) (context : Option Context) : Type 0 where
  pub placed : IsPlaced system t
  pub own : Context
  pub there : context ≡ Some own
  pub image : HasImage own
  pub room : HasRoom own
  pub sends : MaySend (seen_pair_of system kept t).mode kind

-- the terminal's verb ends a transaction, and what is behind its answer can be sent
pub record CanClose (system : System) (kept : Kept) (t : ℕ) : Type 0 where
  pub can : CanAnswer system kept t
  pub answer : Answer
  pub closes : closing (verb_in system can.context) ≡ Some answer
  pub carries : CanCarry system kept t kind.End (Some (answered_with system answer can.context))

-- a message of the terminal is in flight
pub record CanApply (system : System) (kept : Kept) (t : ℕ) : Type 0 where
  pub placed : IsPlaced system t
  pub flies : flies system kept t ≡ true

-- ---- units

-- the terminal's attempt starts at its context, and the disc can begin it
pub record CanBeginAt (system : System) (kept : Kept) (t n : ℕ) : Type 0 where
  pub can : CanAnswer system kept t
  pub start : Context
  pub behind : (kept.terminals t).context ≡ Some start
  pub begins : CanBegin kept.disc (unit_at kept t n)
  pub births : kept.births < 2 ^ 64 - 1

-- the terminal's program sends to this class, and has no request in any
pub record CanSend (system : System) (kept : Kept) (t c : ℕ) : Type 0 where
  pub can : CanAnswer system kept t
  pub message : List ℕ
  pub asks : verb_in system can.context ≡ verb.Send c message
  pub class : c < length system.classes
  pub alone : (d : ℕ) → has_request t (kept.queues d) ≡ false

-- an attempt of the terminal's unit runs, which can end
pub record CanCommit (system : System) (kept : Kept) (t n : ℕ) : Type 0 where
  pub can : CanAnswer system kept t
  pub runs : IsRunning kept.disc (unit_at kept t n)

-- the terminal's unit is open
pub record CanBack (system : System) (kept : Kept) (t n : ℕ) : Type 0 where
  pub can : CanAnswer system kept t
  pub may : CanBackOut true kept.disc (unit_at kept t n)

-- ---- servers

-- the process gets the first request of its class, which is of the terminal
pub record CanTake (system : System) (kept : Kept) (c i t : ℕ) : Type 0 where
  pub info : ClassInfo
  pub here : slice_get system.classes c ≡ Some info
  pub may : may_take kept c i t ≡ true

-- The server in the process stands at a file operation of the unit of its request, of which an
-- attempt runs. No lock of another unit bars it, and its context can be answered.
pub record CanOperate (system : System) (kept : Kept) (c i : ℕ) : Type 0 where
  pub class : c < length system.classes
  pub low : 1 ≤ i
  pub context : Context
  pub job : kept.jobs c i ≡ Some context
  pub at_verb : context.at_verb ≡ true
  pub call : FileCall
  pub asks : verb_in system context ≡ verb.File call
  pub request : Request
  pub post : at_process (kept.queues c) i ≡ Some request
  pub known : request.terminal < length system.terminals
  pub runs : IsRunning kept.disc (unit_at kept request.terminal request.unit)
  pub fits : IsCall kept.disc call
  pub free :
      holders (lock_now kept.disc (unit_at kept request.terminal request.unit) call) kept.disc.locks
      ≡ []
  pub sound : IsSoundContext system context
  pub room : HasRoom context

-- a server that replies stands at its verb, and where the terminal's program is in no transaction,
-- its unit of one SEND can end
pub record CanReplyTo (kept : Kept) (c i t : ℕ) (own : Context) : Type 0 where
  pub context : Context
  pub job : kept.jobs c i ≡ Some context
  pub at_verb : context.at_verb ≡ true
  pub runs : own.in_unit ≡ false → IsRunning kept.disc (unit_at kept t (unit_in own))

-- a reply, or a run fault
abbrev pub RepliesTo : Kept → ℕ → ℕ → ℕ → Context → Option ℕ → Type 0
RepliesTo kept c i t own None = CanReplyTo kept c i t own
RepliesTo kept c i t own (Some x) = Unit {0}

-- the process is busy, and the terminal's program can be answered
pub record CanReply (system : System) (kept : Kept) (c i t : ℕ) (fault : Option ℕ) : Type 0 where
  pub can : CanAnswer system kept t
  pub class : c < length system.classes
  pub low : 1 ≤ i
  pub busy : IsSome (at_process (kept.queues c) i)
  pub replies : RepliesTo kept c i t can.context fault

-- the process is one of a class, and the terminal of its request, if it is busy, is there
pub record CanStop (system : System) (kept : Kept) (c i : ℕ) : Type 0 where
  pub class : c < length system.classes
  pub known : (request : Request) → at_process (kept.queues c) i ≡ Some request
      → request.terminal < length system.terminals

-- ---- restarts and failures

-- an attempt of the terminal's unit runs, and the count of its restarts fits
pub record CanRestart (system : System) (kept : Kept) (t n : ℕ) : Type 0 where
  pub placed : IsPlaced system t
  pub runs : IsRunning kept.disc (unit_at kept t n)
  pub few : (kept.terminals t).restarts < 2 ^ 32 - 1

-- the pair is there, and has this mode
pub record CanCall (system : System) (kept : Kept) (p : ℕ) (at : Mode) : Type 0 where
  pub known : p < length system.tcps
  pub mode : (kept.pairs p).mode ≡ at

-- ---- every entry

-- what an entry asks beside that the system is valid
abbrev pub Can : System → Kept → Event → Type 0
Can system kept (Show t phase attempt k) = CanAnswer system kept t
Can system kept (Key t k) = CanKey system kept t k
Can system kept (CheckStart t) = CanCarry system kept t kind.Start (kept.terminals t).context
Can system kept (CheckEnd t) = CanClose system kept t
Can system kept (CheckCopy t) =
    CanCarry system kept t kind.Copy
    (copied (kept.terminals t).start (kept.terminals t).context)
Can system kept (Applied t) = CanApply system kept t
Can system kept (Begin t n r) = CanBeginAt system kept t n
Can system kept (Send t n c) = CanSend system kept t c
Can system kept (Take c i t) = CanTake system kept c i t
Can system kept (File c i op mode f status) = CanOperate system kept c i
Can system kept (Reply c i t fault) = CanReply system kept c i t fault
Can system kept (Again t n) = CanAgain system kept t
Can system kept (Commit t n) = CanCommit system kept t n
Can system kept (Back t n) = CanBack system kept t n
Can system kept (Restart t n cause) = CanRestart system kept t n
Can system kept (FailTcp p primary k) = p < length system.tcps
Can system kept (FailServer c i k) = CanStop system kept c i
Can system kept (Takeover p) = CanCall system kept p mode.Down
Can system kept (Raise p) = CanCall system kept p mode.Alone
Can system kept (End t ending) = IsPlaced system t

-- the entry can be made
pub record CanAct (system : System) (kept : Kept) (entry : Event) : Type 0 where
  pub valid : IsValid system
  pub can : Can system kept entry
