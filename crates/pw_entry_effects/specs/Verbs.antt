-- What the verbs of programs say to entries.
use Rattle.std.specs.Prelude.{ℕ, Bool, true, false, Option, Some, None, if◌then◌else◌}
use Rattle.pw_code.specs.declared.context.Context.{Context}
use Rattle.pw_code.specs.declared.verb.Verb.{Verb}
use Rattle.pw_code.specs.declared.verb.Verb.TheVariants as verb
use Rattle.pw_world_state.specs.Asked.{unit_in}

-- the verb is Begin
abbrev pub begins : Option Verb → Bool
begins (Some verb.Begin) = true
begins _ = false

-- the number of the unit of one SEND at which a program waits: it is in no transaction
abbrev pub one_send : Option Context → Option ℕ
one_send None = None
one_send (Some context) = if context.in_unit then None else Some (unit_in context)
