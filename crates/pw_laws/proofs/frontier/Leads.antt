-- Beginnings of a frontier from which what follows is forced.
use Rattle.std.proofs.Common.{◌≡◌, ◌≢◌, ℕ, ◌+◌, ◌≤◌, true, List, [], ◌∷◌, ◌++◌, length, Some, ap, sym, subst, append-nil, append_assoc, length-append, arith, ◌∙◌}
use Rattle.pw_code.specs.declared.verb.Verb.{Verb}
use Rattle.pw_code.specs.declared.verb.Verb.TheVariants as verb
use Rattle.pw_onecopy.specs.Path.{PathAnswer, Entry, Replied, Shown, entries_on, is_outside, unit_number}
use Rattle.pw_paired.specs.State.{LastEnded}
use Rattle.pw_onecopy.specs.Behaviour.{Behaviour}
use Rattle.pw_onecopy.specs.Attempt.{BeginsUnit}

-- The answer is forced at this verb: Shown, the next entry, or the reply that TMF keeps for the last ended unit.
abbrev pub IsForced : LastEnded → List PathAnswer → Verb → PathAnswer → Type 0
IsForced last path verb.Show Shown = Unit {0}
IsForced last path (verb.Accept screen) (Entry k) = k ≡ entries_on path + 1
IsForced last path (verb.Send class message) (Replied reply) = (is_outside path ≡ true) × (unit_number path ≡ last.number) × (last.reply ≡ Some reply)
IsForced last path _ _ = ⊥

-- each answer is, where the path goes on from these
abbrev pub AreForced : Behaviour → ℕ → LastEnded → List PathAnswer → List PathAnswer → Type 0
AreForced sys t last before [] = Unit {0}
AreForced sys t last before (a ∷ rest) = IsForced last before (sys.ask t before) a × AreForced sys t last (before ++ a ∷ []) rest

-- the path is a beginning of the frontier, and what follows on the frontier is forced
pub record Leads (sys : Behaviour) (t : ℕ) (last : LastEnded) (path frontier : List PathAnswer) : Type 0 where
  pub rest : List PathAnswer
  pub whole : frontier ≡ path ++ rest
  pub forced : AreForced sys t last path rest

-- the frontier itself
pub leads-here : (sys : Behaviour) (t : ℕ) (last : LastEnded) (path frontier : List PathAnswer) → path ≡ frontier → Leads sys t last path frontier
leads-here sys t last path frontier is = record { rest = []; whole = sym is ∙ sym (append-nil path); forced = tt }

forced-more : (sys : Behaviour) (t : ℕ) (last : LastEnded) (before rest : List PathAnswer) (a : PathAnswer) → AreForced sys t last before rest
    → IsForced last (before ++ rest) (sys.ask t (before ++ rest)) a → AreForced sys t last before (rest ++ a ∷ [])
forced-more sys t last before [] a forced new = (subst (λ (p : List PathAnswer). IsForced last p (sys.ask t p) a) (append-nil before) new, tt)
forced-more sys t last before (first ∷ rest) a forced new = (
  forced.0,
  forced-more sys t last (before ++ first ∷ []) rest a forced.1
      (subst (λ (p : List PathAnswer). IsForced last p (sys.ask t p) a) (sym (append_assoc before (first ∷ []) rest)) new),
)

-- the frontier grows by an answer that is forced
pub leads-more : {sys : Behaviour} {t : ℕ} {last : LastEnded} {path frontier : List PathAnswer} (a : PathAnswer) → IsForced last frontier (sys.ask t frontier) a
    → Leads sys t last path frontier → Leads sys t last path (frontier ++ a ∷ [])
leads-more {sys = sys} {t = t} {last = last} {path = path} {frontier = frontier} a new leads = record {
  rest = leads.rest ++ a ∷ [];
  whole = ap (λ (p : List PathAnswer). p ++ a ∷ []) leads.whole ∙ append_assoc path leads.rest (a ∷ []);
  forced = forced-more sys t last path leads.rest a leads.forced (subst (λ (p : List PathAnswer). IsForced last p (sys.ask t p) a) leads.whole new);
}

-- a path that leads is the frontier, or one more forced answer leads on
pub data Next (sys : Behaviour) (t : ℕ) (last : LastEnded) (path frontier : List PathAnswer) : Type 0 where
  is_there : path ≡ frontier → Next sys t last path frontier
  goes_on : (a : PathAnswer) → IsForced last path (sys.ask t path) a → Leads sys t last (path ++ a ∷ []) frontier → Next sys t last path frontier

-- a path that leads has one
pub next-of : {sys : Behaviour} {t : ℕ} {last : LastEnded} {path frontier : List PathAnswer} → Leads sys t last path frontier → Next sys t last path frontier
next-of {sys = sys} {t = t} {last = last} {path = path} {frontier = frontier} leads = by leads.rest leads.whole leads.forced
  where
    by : (rest : List PathAnswer) → frontier ≡ path ++ rest → AreForced sys t last path rest → Next sys t last path frontier
    by [] whole forced = is_there (sym (whole ∙ append-nil path))
    by (a ∷ rest) whole forced = goes_on a forced.0 (record { rest = rest; whole = whole ∙ sym (append_assoc path (a ∷ []) rest); forced = forced.1 })

-- where the next verb begins a unit that has not ended, a path that leads is the frontier
begins-none : (last : LastEnded) (path : List PathAnswer) (v : Verb) (a : PathAnswer) → BeginsUnit v path → last.number ≢ unit_number path → IsForced last path v a → ⊥
begins-none last path verb.Begin a begins new forced = forced
begins-none last path (verb.Send class message) (Replied reply) begins new forced = new (sym forced.1)
begins-none last path (verb.Send class message) a begins new forced = absurd forced
begins-none last path verb.Show a begins new forced = absurd begins
begins-none last path (verb.Accept screen) a begins new forced = absurd begins
begins-none last path verb.End a begins new forced = absurd begins
begins-none last path verb.Drop a begins new forced = absurd begins
begins-none last path verb.Redo a begins new forced = absurd begins
begins-none last path verb.Stop a begins new forced = absurd begins
begins-none last path (verb.Fault x) a begins new forced = absurd begins
begins-none last path (verb.File call) a begins new forced = absurd begins
begins-none last path (verb.Reply reply) a begins new forced = absurd begins

-- a path that leads and begins a unit that has not ended is the frontier
pub leads-whole : {sys : Behaviour} {t : ℕ} {last : LastEnded} {path frontier : List PathAnswer} → Leads sys t last path frontier
    → BeginsUnit (sys.ask t path) path → last.number ≢ unit_number path → path ≡ frontier
leads-whole {sys = sys} {t = t} {last = last} {path = path} {frontier = frontier} leads begins new = by (next-of leads)
  where
    by : Next sys t last path frontier → path ≡ frontier
    by (is_there is) = is
    by (goes_on a forced more) = absurd (begins-none last path (sys.ask t path) a begins new forced)

-- a path that leads is no longer than the frontier
pub leads-short : {sys : Behaviour} {t : ℕ} {last : LastEnded} {path frontier : List PathAnswer} → Leads sys t last path frontier → length path ≤ length frontier
leads-short {path = path} {frontier = frontier} leads =
    let whole = ap (λ (p : List PathAnswer). length p) leads.whole ∙ length-append path leads.rest in omega (arith, whole)
