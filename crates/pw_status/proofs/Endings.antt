-- The endings of a run name terminals and pairs that are there.
use Rattle.std.proofs.Common.{◌≡◌, ◌∙◌, ℕ, ⊎_elim, List, Option, Some, refl, sym, ap, subst}
use Rattle.std.proofs.lemmas.Bool.{cases_eq}
use Rattle.std.specs.List.{AllByRecursion}
use Rattle.std.specs.Option.{IfSome}
use Rattle.std.specs.Prelude.{All}
use Rattle.pw_code.specs.declared.system.System.{System}
use Rattle.pw_event.specs.Line.{IsWordOfSystem, ending_words}
use Rattle.pw_event.specs.declared.event.Ending.{Ending}
use Rattle.pw_event.specs.declared.event.Event.{Event}
use Rattle.pw_event.specs.declared.event.Event.TheVariants as event
use Rattle.pw_event.specs.declared.script.FailLine.{FailLine}
use Rattle.pw_code_meaning.specs.OfSystem.{behaviour}
use Rattle.pw_world_state.specs.May.{IsLineThere}
use Rattle.pw_world_model.proofs.Endings.{endings, ends-others, ends-there}
use Rattle.pw_read_back.proofs.NamedLines.{named}
use Rattle.pw_onecopy.specs.Behaviour.{Behaviour}
use Rattle.pw_onecopy.specs.IsBehaviour.{IsBehaviour}
use Rattle.pw_paired.specs.State.{State, Term}
use Rattle.pw_paired.specs.Step.{IsRun, Legal, after, effect}
use Rattle.pw_laws.proofs.induction.Runs.{holds-behind}

-- the words of an ending name what is there
abbrev pub AreThere : System → Option Ending → Type 0
AreThere system ending = IfSome ending (λ (e : Ending). AllByRecursion (IsWordOfSystem system) (ending_words e))

module _ (system : System) (script : List FailLine) (b : IsBehaviour (behaviour script system)) (lines : All (IsLineThere system) script) where
  abbrev sys : Behaviour
  sys = behaviour script system

  abbrev AllThere : State → Type 0
  AllThere s = (t : ℕ) → AreThere system (s.terms t).ending

  keeps : (log : List Event) → IsRun sys log → (entry : Event) → Legal sys (after sys log) entry → AllThere (after sys log) → AllThere (effect sys (after sys log) entry)
  keeps log run (event.End t ending) legal before u =
      ⊎_elim
      (λ same.
      let there : ((effect sys (after sys log) (event.End t ending)).terms u).ending ≡ Some ending =
      ap (λ (k : ℕ). ((effect sys (after sys log) (event.End t ending)).terms k).ending) same ∙ ends-there sys (after sys log) t ending in
      subst (AreThere system) (sym there) (named system script b lines log run (event.End t ending) legal).there.1.1)
      (λ differ. subst (AreThere system) (sym (ap (λ (x : Term). x.ending) (ends-others sys (after sys log) t ending u differ))) (before u))
      (cases_eq u t)
  keeps log run entry legal before u = subst (AreThere system) (sym (endings sys (after sys log) entry refl u)) (before u)

  pub endings-there : (log : List Event) → IsRun sys log → (t : ℕ) → AreThere system ((after sys log).terms t).ending
  endings-there = holds-behind sys AllThere keeps (λ t. tt)
