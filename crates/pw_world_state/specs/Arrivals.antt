-- Contexts at an answer, and at the verb that follows.
use Rattle.std.specs.Prelude.{◌≡◌, List, [], ◌∷◌, map}
use Rattle.pw_code.specs.declared.context.Context.{Context}
use Rattle.pw_code.specs.declared.system.System.{System}
use Rattle.pw_code.specs.declared.system.TermInfo.{TermInfo}
use Rattle.pw_code.specs.declared.verb.Answer.{Answer}
use Rattle.pw_code_meaning.specs.Answers.{put}
use Rattle.pw_code_meaning.specs.Config.{Config, closed, starting}
use Rattle.pw_code_meaning.specs.OfSystem.{told}
use Rattle.pw_code_meaning.specs.Runs.{Reaches}
use Rattle.pw_onecopy.specs.Path.{PathAnswer}

-- from one configuration the code, answered at each verb, comes to this one behind the last answer
abbrev pub Arrives : System → Config → List Answer → Config → Type 0
Arrives system c [] d = c ≡ d
Arrives system c (a ∷ answers) d =
    (at : Config) × (Reaches system c at × Arrives system (put system a at) answers d)

-- the program of a terminal comes to this configuration behind the last answer of a path
abbrev pub ArrivesBehind : System → TermInfo → List PathAnswer → Config → Type 0
ArrivesBehind system terminal path d =
    Arrives system (starting system terminal.program) (map (told terminal.entries) path) d

-- a context is that of a path of the terminal, at the last answer
pub record StandsForPath (system : System) (terminal : TermInfo) (path : List PathAnswer)
    (context : Context) : Type 0 where
  pub at : Config
  pub arrives : ArrivesBehind system terminal path at
  pub is : context ≡ closed at

-- a context is that of a path of the terminal, at the next verb
pub record IsReady (system : System) (terminal : TermInfo) (path : List PathAnswer)
    (context : Context) : Type 0 where
  pub from : Config
  pub arrives : ArrivesBehind system terminal path from
  pub at : Config
  pub reaches : Reaches system from at
  pub is : context ≡ closed at
