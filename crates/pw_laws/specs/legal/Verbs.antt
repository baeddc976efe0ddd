-- Tests of verbs: what a terminal's program or a server asks.
use Rattle.std.specs.Prelude.{ℕ, ◌==◌, Bool, true, false, List, Option, Some, None}
use Rattle.pw_code.specs.declared.file.FileCall.{FileCall}
use Rattle.pw_code.specs.declared.verb.Verb.{Verb}
use Rattle.pw_code.specs.declared.verb.Verb.TheVariants as verb
use Rattle.pw_onecopy.specs.Path.{PathAnswer, is_outside}

-- the verb is Show
abbrev pub asks_show : Verb → Bool
asks_show verb.Show = true
asks_show _ = false

-- the verb is Accept
abbrev pub asks_accept : Verb → Bool
asks_accept (verb.Accept screen) = true
asks_accept _ = false

-- the verb is Send
abbrev pub asks_send : Verb → Bool
asks_send (verb.Send class message) = true
asks_send _ = false

-- the verb is Send to class c
abbrev pub asks_send_to : ℕ → Verb → Bool
asks_send_to c (verb.Send class message) = class == c
asks_send_to c _ = false

-- the verb is End
abbrev pub asks_end : Verb → Bool
asks_end verb.End = true
asks_end _ = false

-- the verb is Drop
abbrev pub asks_drop : Verb → Bool
asks_drop verb.Drop = true
asks_drop _ = false

-- the verb is Redo
abbrev pub asks_redo : Verb → Bool
asks_redo verb.Redo = true
asks_redo _ = false

-- the verb is Stop
abbrev pub asks_stop : Verb → Bool
asks_stop verb.Stop = true
asks_stop _ = false

-- the verb is Fault(x)
abbrev pub asks_fault : ℕ → Verb → Bool
asks_fault x (verb.Fault code) = code == x
asks_fault x _ = false

-- the verb is File, of a call that passes the test
abbrev pub asks_file : (FileCall → Bool) → Verb → Bool
asks_file test (verb.File call) = test call
asks_file test _ = false

-- the verb begins a unit: it is Begin, or Send outside a transaction
abbrev pub begins_unit : Verb → List PathAnswer → Bool
begins_unit verb.Begin path = true
begins_unit (verb.Send class message) path = is_outside path
begins_unit _ path = false

-- what the server must ask for a REPLY: a reply, or the run fault of the entry
abbrev pub replies : Verb → Option ℕ → Bool
replies (verb.Reply reply) None = true
replies (verb.Fault code) (Some x) = code == x
replies _ _ = false
