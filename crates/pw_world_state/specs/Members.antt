-- The terminals of a pair, and what is of a terminal of the system.
use Rattle.std.specs.Prelude.{◌≡◌, ℕ, ◌+◌, ◌==◌, ◌<◌, List, [], ◌∷◌, All, Some, true, slice_get, if◌then◌else◌}
use Rattle.std.specs.List.{IsDistinct}
use Rattle.pw_code.specs.declared.system.System.{System}
use Rattle.pw_code.specs.declared.system.TermInfo.{TermInfo}
use Rattle.pw_code.specs.declared.verb.Verb.TheVariants as verb
use Rattle.pw_onecopy.specs.Behaviour.{Behaviour}
use Rattle.pw_onecopy.specs.Path.{PathAnswer}
use Rattle.pw_paired.specs.State.{Job, OpenUnit, State}
use Rattle.pw_paired.specs.Terminal.{next_verb}
use Rattle.pw_tmf.specs.Leaving.{is_among}

-- the terminals of the pair among these, of which the first has this number
abbrev pub members_from : ℕ → ℕ → List TermInfo → List ℕ
members_from p t [] = []
members_from p t (info ∷ infos) =
    if info.tcp == p then t ∷ members_from p (t + 1) infos else members_from p (t + 1) infos

-- the terminals of the pair, in order
abbrev pub members_of : System → ℕ → List ℕ
members_of system p = members_from p 0 system.terminals

-- the terminal is one of the pair
pub record IsOf (system : System) (p t : ℕ) : Type 0 where
  pub info : TermInfo
  pub here : slice_get system.terminals t ≡ Some info
  pub of_pair : info.tcp ≡ p

-- the list has the terminals of the pair, each once, and no others
pub record AreOf (system : System) (p : ℕ) (terminals : List ℕ) : Type 0 where
  pub distinct : IsDistinct (λ a b. a == b) terminals
  pub each : All (IsOf system p) terminals
  pub every : (t : ℕ) (info : TermInfo) → slice_get system.terminals t ≡ Some info → info.tcp ≡ p
      → is_among terminals t ≡ true

-- open units and requests are those of started terminals
pub record KnowsAll (sys : Behaviour) (state : State) : Type 0 where
  pub units : (t : ℕ) (own : OpenUnit) → state.units t ≡ Some own → t < sys.terminals
  pub waiting : (c : ℕ)
      → All (λ request. request.terminal < sys.terminals) (state.classes c).waiting
  pub busy : (c i : ℕ) (job : Job) → (state.classes c).busy i ≡ Some job
      → job.request.terminal < sys.terminals

-- A server of a class works for a unit of which an attempt runs, and whose terminal's program asks
-- for the request.
pub record RunsFor (sys : Behaviour) (state : State) (c : ℕ) (job : Job) : Type 0 where
  pub unit : OpenUnit
  pub is_open : state.units job.request.terminal ≡ Some unit
  pub number : job.request.unit ≡ unit.number
  pub start : List PathAnswer
  pub runs : unit.running ≡ Some start
  pub asks : next_verb sys state job.request.terminal ≡ verb.Send c job.request.message
