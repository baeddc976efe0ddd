-- Contexts at an answer and at the verb behind it.
use Rattle.std.proofs.Common.{◌≡◌, ℕ, zero, suc, List, [], ◌∷◌, ◌++◌, map, Bool, true, false, refl, sym, ap, subst, ◌∙◌}
use Rattle.std.proofs.lemmas.List.{map-append}
use Rattle.pw_code.specs.declared.context.Context.{Context}
use Rattle.pw_code.specs.declared.system.System.{System}
use Rattle.pw_code.specs.declared.system.TermInfo.{TermInfo}
use Rattle.pw_code.specs.declared.verb.Answer.{Answer}
use Rattle.pw_code.specs.declared.verb.Verb.{Verb}
use Rattle.pw_code_meaning.specs.Answers.{put}
use Rattle.pw_code_meaning.specs.Config.{Config, closed, starting}
use Rattle.pw_code_meaning.specs.Contexts.{RanToVerb, RunsOn, PutsAnswer}
use Rattle.pw_code_meaning.specs.OfSystem.{told}
use Rattle.pw_code_meaning.specs.Runs.{Comes, ComesBy, Reaches, Run, StandsFor, at_verb, runs}
use Rattle.pw_code_meaning.specs.Steps.{step}
use Rattle.pw_code_meaning.proofs.RunLemmas as lemmas
use Rattle.pw_world_state.specs.Arrivals.{Arrives, IsReady, StandsForPath}
use Rattle.pw_onecopy.specs.Path.{PathAnswer}

-- ---- a run to a verb, an answer, and a run from there are one run

module _ {C A : Type 0} (stands : C → Bool) (onward : C → C) (take : A → C → C) where
  abbrev turn : ℕ → C → List A → Bool → Run C A
  turn n c answers b = elim b as (λ _. Run C A) [
    | true ↦ elim answers as (λ _. Run C A) [ [] ↦ record { at = c; left = [] } | a ∷ rest ↦ runs stands onward take n (take a c) rest ]
    | false ↦ runs stands onward take n (onward c) answers
  ]

  at-once : (at d : C) (a : A) (answers : List A) → stands at ≡ true → ComesBy stands onward take (take a at) answers d → ComesBy stands onward take at (a ∷ answers) d
  at-once at d a answers verb goes = (suc goes.0, ap (turn goes.0 at (a ∷ answers)) verb ∙ goes.1)

  before-turn : (n : ℕ) (c at d : C) (a : A) (answers : List A) (b : Bool) → stands c ≡ b → stands at ≡ true → ComesBy stands onward take (take a at) answers d
      → (runs stands onward take n (onward c) [] ≡ record { at = at; left = [] } → ComesBy stands onward take (onward c) (a ∷ answers) d)
      → turn n c [] b ≡ record { at = at; left = [] } → ComesBy stands onward take c (a ∷ answers) d
  before-turn n c at d a answers true e verb goes again is =
      subst (λ y. ComesBy stands onward take y (a ∷ answers) d) (sym (ap (λ (r : Run C A). r.at) is)) (at-once at d a answers verb goes)
  before-turn n c at d a answers false e verb goes again is =
      let r = again is in
      (suc r.0, ap (turn r.0 c (a ∷ answers)) e ∙ r.1)

  before : (n : ℕ) (c at d : C) (a : A) (answers : List A) → runs stands onward take n c [] ≡ record { at = at; left = [] } → stands at ≡ true
      → ComesBy stands onward take (take a at) answers d → ComesBy stands onward take c (a ∷ answers) d
  before zero c at d a answers is verb goes =
      subst (λ x. ComesBy stands onward take x (a ∷ answers) d) (sym (ap (λ (r : Run C A). r.at) is)) (at-once at d a answers verb goes)
  before (suc n) c at d a answers is verb goes =
      before-turn n c at d a answers (stands c) refl verb goes (λ x. before n (onward c) at d a answers x verb goes) is

-- ---- configurations

one-verb : (system : System) (c a b : Config) → Reaches system c a → Reaches system c b → a ≡ b
one-verb system c a b first second = lemmas.one_place at_verb (step system) (put system) c a b [] first.0 second.0 first.1 second.1

arrives-once : (system : System) (answers : List Answer) (c a b : Config) → Arrives system c answers a → Arrives system c answers b → a ≡ b
arrives-once system [] c a b first second = sym first ∙ second
arrives-once system (answer ∷ answers) c a b first second =
    arrives-once system answers (put system answer first.0) a b first.1.1
    (subst (λ at. Arrives system (put system answer at) answers b) (one-verb system c second.0 first.0 second.1.0 first.1.0) second.1.1)

arrives-more : (system : System) (answers : List Answer) (answer : Answer) (c d at : Config) → Arrives system c answers d → Reaches system d at → Arrives system c (answers ++ answer ∷ []) (put system answer at)
arrives-more system [] answer c d at first reaches = (at, (subst (λ x. Reaches system x at) (sym first) reaches, refl))
arrives-more system (one ∷ answers) answer c d at first reaches = (first.0, (first.1.0, arrives-more system answers answer (put system one first.0) d at first.1.1 reaches))

pub arrives-comes : (system : System) (answers : List Answer) (c d : Config) → Arrives system c answers d → Comes system c answers d
arrives-comes system [] c d is = subst (Comes system c []) is (0, refl)
arrives-comes system (answer ∷ answers) c d first =
    before at_verb (step system) (put system) first.1.0.0.0 c first.0 d answer answers first.1.0.0.1 first.1.0.1 (arrives-comes system answers (put system answer first.0) d first.1.1)

-- ---- contexts

pub runs-on : (system : System) (terminal : TermInfo) (path : List PathAnswer) (old new : Context) (verb : Verb) → StandsForPath system terminal path old → RunsOn system old new verb → IsReady system terminal path new
runs-on system terminal path old new verb stands ran =
    let r : RanToVerb system stands.at new verb = ran stands.at stands.is in
    record { from = stands.at; arrives = stands.arrives; at = r.at; reaches = r.reaches; is = r.is }

pub answered-one : (system : System) (terminal : TermInfo) (path : List PathAnswer) (answer : PathAnswer) (old new : Context) → IsReady system terminal path old → PutsAnswer system (told terminal.entries answer) old new
    → StandsForPath system terminal (path ++ answer ∷ []) new
answered-one system terminal path answer old new ready took = record {
  at = put system (told terminal.entries answer) ready.at;
  arrives = subst (λ answers. Arrives system (starting system terminal.program) answers (put system (told terminal.entries answer) ready.at)) (sym (map-append (told terminal.entries) path (answer ∷ [])))
      (arrives-more system (map (told terminal.entries) path) (told terminal.entries answer) (starting system terminal.program) ready.from ready.at ready.arrives ready.reaches);
  is = took ready.at ready.is;
}

pub one-context : (system : System) (terminal : TermInfo) (path : List PathAnswer) (a b : Context) → StandsForPath system terminal path a → StandsForPath system terminal path b → a ≡ b
one-context system terminal path a b first second =
    first.is ∙ (ap closed (arrives-once system (map (told terminal.entries) path) (starting system terminal.program) first.at second.at first.arrives second.arrives) ∙ sym second.is)

pub one-ready : (system : System) (terminal : TermInfo) (path : List PathAnswer) (a b : Context) → IsReady system terminal path a → IsReady system terminal path b → a ≡ b
one-ready system terminal path a b first second =
    let from : second.from ≡ first.from = arrives-once system (map (told terminal.entries) path) (starting system terminal.program) second.from first.from second.arrives first.arrives in
    first.is ∙ (ap closed (one-verb system first.from first.at second.at first.reaches (subst (λ c. Reaches system c second.at) from second.reaches)) ∙ sym second.is)

pub at-its-verb : (system : System) (terminal : TermInfo) (path : List PathAnswer) (context : Context) → IsReady system terminal path context → context.at_verb ≡ true
at-its-verb system terminal path context ready = ap (λ (x : Context). x.at_verb) ready.is ∙ ready.reaches.1

pub stands-behind : (system : System) (terminal : TermInfo) (path : List PathAnswer) (context : Context) → StandsForPath system terminal path context
    → StandsFor system terminal.program (map (told terminal.entries) path) context
stands-behind system terminal path context stands = record {
  at = stands.at;
  comes = arrives-comes system (map (told terminal.entries) path) (starting system terminal.program) stands.at stands.arrives;
  is = stands.is;
}

pub stands-ready : (system : System) (terminal : TermInfo) (path : List PathAnswer) (context : Context) → IsReady system terminal path context
    → StandsFor system terminal.program (map (told terminal.entries) path) context
stands-ready system terminal path context ready = record {
  at = ready.at;
  comes = lemmas.runs_on at_verb (step system) (put system) (starting system terminal.program) ready.from ready.at (map (told terminal.entries) path)
      (arrives-comes system (map (told terminal.entries) path) (starting system terminal.program) ready.from ready.arrives) ready.reaches.0;
  is = ready.is;
}
