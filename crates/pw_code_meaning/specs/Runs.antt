-- Runs of compiled code over answers.
use Rattle.std.specs.Prelude.{◌≡◌, ℕ, zero, suc, ◌+◌, ◌*◌, ◌^◌, Bool, true, false, List, [], ◌∷◌, length}
use Rattle.pw_code.specs.declared.context.Context.{Context}
use Rattle.pw_code.specs.declared.system.System.{System}
use Rattle.pw_code.specs.declared.verb.Answer.{Answer}
use Rattle.pw_code_meaning.specs.Answers.{put}
use Rattle.pw_code_meaning.specs.Config.{Config, closed, starting, starting_server}
use Rattle.pw_code_meaning.specs.Steps.{step}

-- where a run has come to, and the answers that are left
pub record Run (C A : Type 0) : Type 0 where
  pub at : C
  pub left : List A

-- At most n steps and answers of what goes on by steps and takes answers at verbs.
abbrev pub runs : {C A : Type 0} → (C → Bool) → (C → C) → (A → C → C) → ℕ → C → List A → Run C A
runs stands onward take zero c answers = record { at = c; left = answers }
runs {C} {A} stands onward take (suc n) c answers =
    elim (stands c) as (λ _. Run C A) [
      | true ↦ elim answers as (λ _. Run C A) [
        | [] ↦ record { at = c; left = [] }
        | a ∷ rest ↦ runs stands onward take n (take a c) rest
      ]
      | false ↦ runs stands onward take n (onward c) answers
    ]

-- it comes from one place over answers to another
abbrev pub ComesBy : {C A : Type 0} → (C → Bool) → (C → C) → (A → C → C) → C → List A → C → Type 0
ComesBy stands onward take c answers d =
    (n : ℕ) × (runs stands onward take n c answers ≡ record { at = d; left = [] })

-- the configuration stands at a verb
abbrev pub at_verb : Config → Bool
at_verb c = c.rest.at_verb

-- at most n steps and answers of the code
abbrev pub run : System → ℕ → Config → List Answer → Run Config Answer
run system n c answers = runs at_verb (step system) (put system) n c answers

-- the code, run from one configuration over answers, comes to another
abbrev pub Comes : System → Config → List Answer → Config → Type 0
Comes system c answers d = ComesBy at_verb (step system) (put system) c answers d

-- from one configuration the code comes to another, at its next verb
abbrev pub Reaches : System → Config → Config → Type 0
Reaches system c d = Comes system c [] d × (at_verb d ≡ true)

-- ---- contexts

-- a context is one to which the code comes over these answers
pub record StandsFrom (system : System) (c : Config) (answers : List Answer) (context : Context)
    : Type 0 where
  pub at : Config
  pub comes : Comes system c answers at
  pub is : context ≡ closed at

-- a context stands for a path of a terminal's program, told as answers
abbrev pub StandsFor : System → ℕ → List Answer → Context → Type 0
StandsFor system program path context = StandsFrom system (starting system program) path context

-- a context stands for a list of file answers of a server on a message
abbrev pub StandsForFiles : System → ℕ → List ℕ → List Answer → Context → Type 0
StandsForFiles system server message done context =
    StandsFrom system (starting_server system server message) done context

-- ---- the verb that follows answers

-- more steps than come before a verb
abbrev pub most_steps : ℕ
most_steps = 2 ^ 64

-- where the code stands at the verb that follows answers
abbrev pub config_after_answers : System → Config → List Answer → Config
config_after_answers system c answers = (run system (most_steps * (length answers + 1)) c answers).at
