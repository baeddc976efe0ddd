-- What running and answering do to contexts.
use Rattle.std.specs.Prelude.{◌≡◌}
use Rattle.pw_code.specs.declared.context.Context.{Context}
use Rattle.pw_code.specs.declared.system.System.{System}
use Rattle.pw_code.specs.declared.verb.Answer.{Answer}
use Rattle.pw_code.specs.declared.verb.Verb.{Verb}
use Rattle.pw_code_meaning.specs.Answers.{put}
use Rattle.pw_code_meaning.specs.Config.{Config, closed}
use Rattle.pw_code_meaning.specs.Runs.{Reaches}
use Rattle.pw_code_meaning.specs.Steps.{verb_of}

-- a configuration has run on to its next verb
pub record RanToVerb (system : System) (c : Config) (new : Context) (verb : Verb) : Type 0 where
  pub at : Config
  pub reaches : Reaches system c at
  pub is : new ≡ closed at
  pub asks : verb ≡ verb_of system at

-- the context has run on to its next verb
abbrev pub RunsOn : System → Context → Context → Verb → Type 0
RunsOn system old new verb = (c : Config) → old ≡ closed c → RanToVerb system c new verb

-- an answer was put into the context
abbrev pub PutsAnswer : System → Answer → Context → Context → Type 0
PutsAnswer system a old new = (c : Config) → old ≡ closed c → new ≡ closed (put system a c)
