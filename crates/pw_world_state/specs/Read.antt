-- Whether the programs of which an entry speaks stand at their verbs, in what is kept.
use Rattle.std.specs.Prelude.{◌≡◌, ◌⊎◌, ℕ, ◌<◌, true, length, IsSome, Some}
use Rattle.pw_class.specs.Queue.{at_process}
use Rattle.pw_class.specs.declared.request.Request.{Request}
use Rattle.pw_code.specs.declared.context.Context.{Context}
use Rattle.pw_code.specs.declared.system.System.{System}
use Rattle.pw_code.specs.declared.verb.Answer.{Answer}
use Rattle.pw_event.specs.declared.event.Cause.{Cause}
use Rattle.pw_event.specs.declared.event.Cause.TheVariants.{Older, Redo}
use Rattle.pw_event.specs.declared.event.Ending.TheVariants.{Lost, Suspended}
use Rattle.pw_event.specs.declared.event.Event.{Event}
use Rattle.pw_event.specs.declared.event.Event.TheVariants.{Show, Key, CheckStart, CheckEnd, CheckCopy, Begin, Send, File, Reply, Again, Commit, Back, Restart, End}
use Rattle.pw_image.specs.Values.{HasValues}
use Rattle.pw_world_state.specs.Asked.{answered_with, verb_in}
use Rattle.pw_world_state.specs.Entered.{copied}
use Rattle.pw_world_state.specs.Kept.{Kept}
use Rattle.pw_world_state.specs.TerminalTests.{can_step, closing}

-- ---- verbs

-- where the terminal can step, its program has run on to its next verb
abbrev pub IsRead : System → Kept → ℕ → Type 0
IsRead system kept t = can_step system kept t ≡ true → IsSome (kept.terminals t).ready

-- the server in a process, if one works there, stands at its next verb
abbrev pub IsServerRead : Kept → ℕ → ℕ → Type 0
IsServerRead kept c i = (context : Context) → kept.jobs c i ≡ Some context → context.at_verb ≡ true

-- each server at work for one of two terminals stands at its next verb
abbrev pub AreServersRead : System → Kept → ℕ → ℕ → Type 0
AreServersRead system kept t o =
    (c i : ℕ) (request : Request) → c < length system.classes
    → at_process (kept.queues c) i ≡ Some request
    → (request.terminal ≡ t) ⊎ (request.terminal ≡ o) → IsServerRead kept c i

-- what is to be read for a cause
abbrev pub IsCauseRead : System → Kept → ℕ → Cause → Type 0
IsCauseRead system kept t (Older o m) = AreServersRead system kept t o
IsCauseRead system kept t Redo = IsRead system kept t
IsCauseRead system kept t _ = Unit {0}

-- what is to be read for the test of an entry
abbrev pub IsEntryRead : System → Kept → Event → Type 0
IsEntryRead system kept (Show t phase attempt k) = IsRead system kept t
IsEntryRead system kept (Key t k) = IsRead system kept t
IsEntryRead system kept (CheckStart t) = IsRead system kept t
IsEntryRead system kept (CheckEnd t) = IsRead system kept t
IsEntryRead system kept (Begin t n r) = IsRead system kept t
IsEntryRead system kept (Send t n c) = IsRead system kept t
IsEntryRead system kept (File c i op mode f status) = IsServerRead kept c i
IsEntryRead system kept (Reply c i t fault) = IsServerRead kept c i
IsEntryRead system kept (Again t n) = IsRead system kept t
IsEntryRead system kept (Commit t n) = IsRead system kept t
IsEntryRead system kept (Back t n) = IsRead system kept t
IsEntryRead system kept (Restart t n cause) = IsCauseRead system kept t cause
IsEntryRead system kept (End t (Suspended cause)) = IsCauseRead system kept t cause
IsEntryRead system kept (End t Lost) = Unit {0}
IsEntryRead system kept (End t ending) = IsRead system kept t
IsEntryRead system kept _ = Unit {0}

-- What is to be read besides, so that what is kept can follow the entry: the program that gets a
-- reply stands at its verb.
abbrev pub IsReplyRead : Kept → Event → Type 0
IsReplyRead kept (Reply c i t fault) = IsSome (kept.terminals t).ready
IsReplyRead kept _ = Unit {0}

-- ---- images: numbers and characters are of their types

-- the context of the terminal at its last answer
abbrev pub OwnValues : Kept → ℕ → Type 0
OwnValues kept t = (context : Context) → (kept.terminals t).context ≡ Some context → HasValues context

-- the context behind the answer that ends a transaction at the verb of the terminal
abbrev pub ClosedValues : System → Kept → ℕ → Type 0
ClosedValues system kept t =
    (context : Context) (a : Answer) → (kept.terminals t).ready ≡ Some context
    → closing (verb_in system context) ≡ Some a → HasValues (answered_with system a context)

-- the contexts of which an entry compares or sends the images
abbrev pub AreValued : System → Kept → Event → Type 0
AreValued system kept (CheckStart t) = OwnValues kept t
AreValued system kept (CheckEnd t) = ClosedValues system kept t
AreValued system kept (CheckCopy t) =
    (context : Context)
    → copied (kept.terminals t).start (kept.terminals t).context ≡ Some context → HasValues context
AreValued system kept (Begin t n r) = OwnValues kept t
AreValued system kept (Commit t n) = ClosedValues system kept t
AreValued system kept (Back t n) = ClosedValues system kept t
AreValued system kept _ = Unit {0}
