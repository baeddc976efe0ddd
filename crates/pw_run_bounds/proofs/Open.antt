-- An open unit has at least one answer before it: fewer units have ended than a path has answers.
use Rattle.std.proofs.Common.{◌≡◌, ℕ, ◌<◌, List, [], ◌∷◌, ◌++◌, length, length-append, Some, refl, sym, subst, arith}
use Rattle.pw_code.specs.declared.verb.Verb.{Verb}
use Rattle.pw_code.specs.declared.verb.Verb.TheVariants as verb
use Rattle.pw_event.specs.declared.event.Event.{Event}
use Rattle.pw_laws.proofs.Paths.{IsPath-push}
use Rattle.pw_laws.proofs.blocks.Fold.{fold_after}
use Rattle.pw_laws.proofs.blocks.Known.{known}
use Rattle.pw_laws.proofs.steps.Living.{live-ok}
use Rattle.pw_onecopy.specs.Attempt.{BeginsUnit}
use Rattle.pw_onecopy.specs.Behaviour.{Behaviour}
use Rattle.pw_onecopy.specs.IsBehaviour.{IsBehaviour, IsPath, Suits}
use Rattle.pw_onecopy.specs.Path.{PathAnswer, Begun, Replied}
use Rattle.pw_paired.specs.State.{OpenUnit, State}
use Rattle.pw_paired.specs.Step.{IsRun, after}
use Rattle.pw_run_bounds.specs.Bound.{ProgramsEnd}
use Rattle.pw_run_bounds.proofs.Attempts.{few-ended}

-- fewer units have ended than n where one is open
abbrev pub OpenLow : ℕ → State → Type 0
OpenLow n s = (t : ℕ) (unit : OpenUnit) → s.units t ≡ Some unit → (s.ended t).number < n

-- a path at which a unit begins goes on
begins-short : (sys : Behaviour) (n m : ℕ) → ProgramsEnd sys n m → (t : ℕ) (path : List PathAnswer) → IsPath sys t path
    → BeginsUnit (sys.ask t path) path → length path < n
begins-short sys n m short t path is_path begins = by (sys.ask t path) refl begins
  where
    longer : (a : PathAnswer) → Suits sys t path (sys.ask t path) a → length path < n
    longer a suits = let all = short.paths t (path ++ a ∷ []) (IsPath-push sys t path a is_path suits) in omega (arith, all, length-append path (a ∷ []))

    by : (asked : Verb) → sys.ask t path ≡ asked → BeginsUnit asked path → length path < n
    by verb.Begin asks begins = longer (Begun 0) (subst (λ (v : Verb). Suits sys t path v (Begun 0)) (sym asks) tt)
    by (verb.Send class message) asks begins = longer (Replied []) (subst (λ (v : Verb). Suits sys t path v (Replied [])) (sym asks) tt)
    by verb.Show asks begins = absurd begins
    by (verb.Accept screen) asks begins = absurd begins
    by verb.End asks begins = absurd begins
    by verb.Drop asks begins = absurd begins
    by verb.Redo asks begins = absurd begins
    by verb.Stop asks begins = absurd begins
    by (verb.Fault x) asks begins = absurd begins
    by (verb.File call) asks begins = absurd begins
    by (verb.Reply reply) asks begins = absurd begins

-- it is so behind every run
pub open-low : (sys : Behaviour) → IsBehaviour sys → (n m : ℕ) → ProgramsEnd sys n m → (log : List Event) → IsRun sys log → OpenLow n (after sys log)
open-low sys b n m short log run t unit is =
    let k = known sys b log run in
    let path : List PathAnswer = (fold_after sys log).frontier t in
    let here = k.inv.known t unit is in
    let frontier = k.frontiers t here (live-ok sys b log run t unit is) (λ gone. absurd (let none = (k.inv.terms t here).lost gone in cc (none, is))) in
    let base = frontier.base in
    let low = begins-short sys n m short t path base.rest.is_path (base.begins unit is) in
    let number = base.number in
    omega (arith, low, number, few-ended path)
