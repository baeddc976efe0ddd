-- A run to the next verb, of which it is only known that there is one, is found: its length is the least at
-- which a verb is reached.
use Rattle.std.proofs.Common.{◌≡◌, ◌∙◌, ℕ, zero, suc, ◌<◌, ◌≤◌, Bool, true, false, List, [], Option, Some, None, ⊎_elim, ap, refl, sym, arith}
use Rattle.std.proofs.Math.Logic.{∥∥₁_elim, ∥∥₁_map}
use Rattle.std.proofs.Props.{props}
use Rattle.std.proofs.lemmas.Bool.{cases_lt}
use mathlib.Core.HLevel.{Σ_prop_path}
use Rattle.pw_code.specs.declared.context.Context.{Context}
use Rattle.pw_code.specs.declared.system.System.{System}
use Rattle.pw_code.specs.declared.verb.Answer.{Answer}
use Rattle.pw_code.specs.declared.verb.Verb.{Verb}
use Rattle.pw_code_meaning.specs.Answers.{put}
use Rattle.pw_code_meaning.specs.Config.{Config, closed}
use Rattle.pw_code_meaning.specs.Contexts.{RanToVerb, RunsOn}
use Rattle.pw_code_meaning.specs.Runs.{Reaches, Run, at_verb, run}
use Rattle.pw_code_meaning.specs.Steps.{step, verb_of}
use Rattle.pw_code_meaning.proofs.RunLemmas as lemmas
use Rattle.pw_world_model.specs.Tasks.{RanOn}

-- ---- the least number that passes a test

record IsLeast (test : ℕ → Bool) (n : ℕ) : Type 0 where
  pub passes : test n ≡ true
  pub before : (m : ℕ) → m < n → test m ≡ false

least : (test : ℕ → Bool) (n : ℕ) → test n ≡ true → (m : ℕ) × IsLeast test m
least test zero passes = (0, record { passes = passes; before = λ m low. absurd (omega (arith, low)) })
least test (suc n) passes = by (test 0) refl (least (λ m. test (suc m)) n passes)
  where
    by : (b : Bool) → test 0 ≡ b → ((m : ℕ) × IsLeast (λ m. test (suc m)) m)
        → (m : ℕ) × IsLeast test m
    by true first later = (0, record { passes = first; before = λ m low. absurd (omega (arith, low)) })
    by false first later = (suc later.0, record { passes = later.1.passes; before = below })
      where
        below : (m : ℕ) → m < suc later.0 → test m ≡ false
        below zero low = first
        below (suc m) low = later.1.before m (omega (arith, low))

is-least-prop : (test : ℕ → Bool) (n : ℕ) → IsProp (IsLeast test n)
is-least-prop test n = hlevel props

one-least : (test : ℕ → Bool) (n m : ℕ) → IsLeast test n → IsLeast test m → n ≡ m
one-least test n m a b = ⊎_elim (λ low. absurd (below n m a b low)) from (cases_lt n m)
  where
    below : (n m : ℕ) → IsLeast test n → IsLeast test m → n < m → ⊥
    below n m one other low =
        let here = one.passes in let before = other.before n low in absurd (cc (here, before))

    from : m ≤ n → n ≡ m
    from high = ⊎_elim (λ low. absurd (below m n b a low)) (λ low. omega (arith, high, low)) (cases_lt m n)

least-prop : (test : ℕ → Bool) → IsProp ((n : ℕ) × IsLeast test n)
least-prop test a b = Σ_prop_path (is-least-prop test) (one-least test a.0 b.0 a.1 b.1)

-- ---- runs

context-prop : (a b : Context) → IsProp (a ≡ b)
context-prop a b = hlevel props

verb-prop : (a b : Verb) → IsProp (a ≡ b)
verb-prop a b = hlevel props

module _ (system : System) where
  -- one turn without answers, by whether it stands at a verb
  abbrev turn : ℕ → Config → Bool → Run Config Answer
  turn n c b = elim b as (λ _. Run Config Answer) [
    | true ↦ record { at = c; left = [] }
    | false ↦ run system n (step system c) []
  ]

  -- without answers none are left
  none-left : (n : ℕ) (c : Config) → (run system n c []).left ≡ []
  none-left zero c = refl
  none-left (suc n) c = by (at_verb c) (none-left n (step system c))
    where
      by : (b : Bool) → (run system n (step system c) []).left ≡ [] → (turn n c b).left ≡ []
      by true later = refl
      by false later = later

  abbrev reached : ℕ → Config → Config
  reached n c = (run system n c []).at

  comes : (n : ℕ) (c : Config) → run system n c [] ≡ record { at = reached n c; left = [] }
  comes n c = ap (λ (l : List Answer). record { at = reached n c; left = l }) (none-left n c)

  abbrev stands : Config → ℕ → Bool
  stands c n = at_verb (reached n c)

  same-place : (c d : Config) (n : ℕ) → stands c n ≡ true → Reaches system c d → reached n c ≡ d
  same-place c d n here r =
      lemmas.one_place at_verb (step system) (put system) c (reached n c) d [] (n, comes n c) r.0 here r.1

  -- how far the verb is
  far : (c : Config) → ∥ ((d : Config) × Reaches system c d) ∥₁ → (n : ℕ) × IsLeast (stands c) n
  far c there = ∥∥₁_elim there (least-prop (stands c)) (λ r.
      least (stands c) r.1.0.0 (ap (λ (at : Run Config Answer). at_verb at.at) r.1.0.1 ∙ r.1.1))

  module _ (given work : Context) (verb : Verb) (there : ∥ RunsOn system given work verb ∥₁) (c : Config)
      (is : given ≡ closed c) where
    length-of : (n : ℕ) × IsLeast (stands c) n
    length-of = far c (∥∥₁_map there (λ (runs : RunsOn system given work verb).
        let ran : RanToVerb system c work verb = runs c is in (ran.at, ran.reaches)))

    abbrev at : Config
    at = reached length-of.0 c

    place : (ran : RanToVerb system c work verb) → ran.at ≡ at
    place ran = sym (same-place c ran.at length-of.0 length-of.1.passes ran.reaches)

    ran-again : RanToVerb system c work verb
    ran-again = record {
      at = at;
      reaches = ((length-of.0, comes length-of.0 c), length-of.1.passes);
      is = ∥∥₁_elim there (context-prop work (closed at)) (λ runs.
          (runs c is).is ∙ ap closed (place (runs c is)));
      asks = ∥∥₁_elim there (verb-prop verb (verb_of system at)) (λ runs.
          (runs c is).asks ∙ ap (verb_of system) (place (runs c is)));
    }

  pub ran-found : (given : Option Context) (verb : Option Verb) (work : Option Context)
      → ∥ RanOn system given verb work ∥₁ → RanOn system given verb work
  ran-found (Some given) (Some verb) (Some work) there = ran-again given work verb there
  ran-found None None None there = tt
  ran-found (Some given) (Some verb) None there = ∥∥₁_elim there (λ a b. absurd a) (λ none. none)
  ran-found (Some given) None work there = ∥∥₁_elim there (λ a b. absurd a) (λ none. none)
  ran-found None (Some verb) work there = ∥∥₁_elim there (λ a b. absurd a) (λ none. none)
  ran-found None None (Some work) there = ∥∥₁_elim there (λ a b. absurd a) (λ none. none)
