-- What the run of a task makes of its work.
use Rattle.std.specs.Prelude.{Option, Some, None}
use Rattle.pw_code.specs.declared.context.Context.{Context}
use Rattle.pw_code.specs.declared.system.System.{System}
use Rattle.pw_code.specs.declared.verb.Verb.{Verb}
use Rattle.pw_code_meaning.specs.Contexts.{RunsOn}

-- nothing was given and nothing came of it, or the given work ran on to this verb
abbrev pub RanOn : System → Option Context → Option Verb → Option Context → Type 0
RanOn system None None None = Unit {0}
RanOn system (Some given) (Some verb) (Some work) = RunsOn system given work verb
RanOn system _ _ _ = ⊥
