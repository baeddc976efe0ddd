-- What a context says of its path: the verb that it asks, and its counts.
pub use Rattle.pw_code_meaning.specs.Counts.{CountsOf, next_refresh_number, unit_in}
use Rattle.std.specs.Prelude.{◌≡◌, ℕ, List, [], length, take, slice_index_or, ◌-◌}
use Rattle.pw_code.specs.declared.context.Context.{Context}
use Rattle.pw_code.specs.declared.system.System.{System}
use Rattle.pw_code.specs.declared.verb.Answer.{Answer}
use Rattle.pw_code.specs.declared.verb.Verb.{Verb}
use Rattle.pw_code_meaning.specs.Answers.{put}
use Rattle.pw_code_meaning.specs.Config.{Config, closed, frame_at}
use Rattle.pw_code_meaning.specs.Steps.{verb_of}
use Rattle.pw_onecopy.specs.Behaviour.{Behaviour}
use Rattle.pw_onecopy.specs.Path.{PathAnswer}

-- the configuration of a context: its last frame is that of the program at work
abbrev pub opened : Context → Config
opened context =
    let others = length context.frames - 1 in
    record {
      top = slice_index_or context.frames others (frame_at 0 []);
      rest = record context { frames = take others context.frames };
    }

-- the verb of a context that stands at one
abbrev pub verb_in : System → Context → Verb
verb_in system context = verb_of system (opened context)

-- the context with an answer put in
abbrev pub answered_with : System → Answer → Context → Context
answered_with system a context = closed (put system a (opened context))

-- a context at the verb behind a path says what the path says
pub record SaysOf (sys : Behaviour) (system : System) (t : ℕ) (path : List PathAnswer)
    (context : Context) : Type 0 where
  pub verb : verb_in system context ≡ sys.ask t path
  pub counts : CountsOf path context
