-- What one step does for the two loops of a run.
use Rattle.std.proofs.Common.{◌≡◌, ◌≢◌, ◌⊎◌, inl, inr, ℕ, ◌+◌, ◌-◌, ◌<◌, ◌≤◌, Bool, true, false, [], refl, sym, ap, ◌∙◌, subst, arith}
use Rattle.std.specs.Prelude.{nat_eq, not, if◌then◌else◌}
use Rattle.std.proofs.lemmas.Bool.Decides.{nat_tests}
use Rattle.pw_code.specs.declared.system.System.{System}
use Rattle.pw_code_meaning.specs.Answers.{put}
use Rattle.pw_code_meaning.specs.Config.{Config, most_counted}
use Rattle.pw_code_meaning.specs.Runs.{Comes, at_verb}
use Rattle.pw_code_meaning.specs.Steps.{step}
use Rattle.pw_code_meaning.proofs.Progress.{hops, step_progress}
use Rattle.pw_code_meaning.proofs.RunLemmas.{goes_on}

-- the count from a turn of the outer loop on
pub record CountsFrom (before : ℕ) (d : Config) : Type 0 where
  pub up : before ≤ d.rest.count
  pub bound : before < d.rest.count → before < most_counted

pub comes_on : (system : System) (start now next : Config) → next ≡ step system now → Comes system start [] now → now.rest.at_verb ≡ false → Comes system start [] next
comes_on system start now next is comes v = subst (λ d. Comes system start [] d) (sym is) (goes_on at_verb (step system) (put system) start now [] comes v)

pub counts_on : (system : System) (now next : Config) (before : ℕ) → next ≡ step system now → now.rest.count ≡ before → CountsFrom before next
counts_on system now next before is same =
    let p = step_progress system now in
    let made : CountsFrom before (step system now) = record { up = omega (arith, p.grows.up, same); bound = λ less. omega (arith, p.bound (omega (arith, same, less)), same) } in
    subst (CountsFrom before) (sym is) made

pub counts_start : (now : Config) (before : ℕ) → before ≡ now.rest.count → CountsFrom before now
counts_start now before same = record { up = omega (arith, same); bound = λ less. absurd (omega (arith, same, less)) }

-- what the test of the inner loop says
pub goes_on-is : (d : Config) (before : ℕ) → true ≡ (if d.rest.at_verb then false else nat_eq d.rest.count before) → (d.rest.at_verb ≡ false) × (d.rest.count ≡ before)
goes_on-is d before is = pick d.rest.at_verb (nat_eq d.rest.count before) refl refl is
  where
    pick : (a b : Bool) → d.rest.at_verb ≡ a → nat_eq d.rest.count before ≡ b → true ≡ (if a then false else b) → (d.rest.at_verb ≡ false) × (d.rest.count ≡ before)
    pick true b v e h = absurd (cc)
    pick false true v e h = (v, grind (arith, nat_tests))
    pick false false v e h = absurd (cc)

pub test-on : (v b : Bool) → v ≡ false → b ≡ (if v then false else b)
test-on v b is = sym (ap (λ a. if a then false else b) is)

pub test-off : (v b : Bool) → v ≡ true → not v ≡ (if v then false else b)
test-off v b is = ap not is ∙ sym (ap (λ a. if a then false else b) is)

-- ---- the measures

abbrev pub inner : System → ℕ → Config → ℕ
inner system before d = if d.rest.at_verb then 0 else if nat_eq d.rest.count before then hops system d + 1 else 0

abbrev pub outer : Config → ℕ
outer d = if d.rest.at_verb then 0 else most_counted - d.rest.count + 1

inner_at : (system : System) (before : ℕ) (d : Config) → d.rest.at_verb ≡ true → inner system before d ≡ 0
inner_at system before d v = ap (λ b. if b then 0 else if nat_eq d.rest.count before then hops system d + 1 else 0) v

inner_most : (system : System) (before : ℕ) (d : Config) → inner system before d ≤ hops system d + 1
inner_most system before d = pick d.rest.at_verb (nat_eq d.rest.count before)
  where
    pick : (a b : Bool) → (if a then 0 else if b then hops system d + 1 else 0) ≤ hops system d + 1
    pick true b = omega arith
    pick false true = omega arith
    pick false false = omega arith

inner_counted : (system : System) (before : ℕ) (d : Config) → before < d.rest.count → inner system before d ≡ 0
inner_counted system before d less = pick d.rest.at_verb (nat_eq d.rest.count before) differs
  where
    differs : nat_eq d.rest.count before ≡ false
    differs = grind (arith, nat_tests)

    pick : (a b : Bool) → b ≡ false → (if a then 0 else if b then hops system d + 1 else 0) ≡ 0
    pick true b e = refl
    pick false true e = absurd (cc)
    pick false false e = refl

inner_now : (system : System) (before : ℕ) (d : Config) → d.rest.at_verb ≡ false → d.rest.count ≡ before → inner system before d ≡ hops system d + 1
inner_now system before d v same =
    let equal : nat_eq d.rest.count before ≡ true = grind (arith, nat_tests) in
    ap (λ b. if b then 0 else if nat_eq d.rest.count before then hops system d + 1 else 0) v ∙ ap (λ b. if b then hops system d + 1 else 0) equal

made_falls : (system : System) (before : ℕ) (now : Config) → now.rest.at_verb ≡ false → now.rest.count ≡ before → inner system before (step system now) < inner system before now
made_falls system before now v same =
    let p = step_progress system now in
    let next : Config = step system now in
    let here = inner_now system before now v same in
    elim p.on as (λ _. inner system before next < inner system before now) [
      | inl stands ↦ let none = inner_at system before next stands in omega (arith, none, here)
      | inr on ↦
          elim on as (λ _. inner system before next < inner system before now) [
            | inl more ↦ let none = inner_counted system before next (omega (arith, more, same)) in omega (arith, none, here)
            | inr less ↦ let few = inner_most system before next in omega (arith, few, here, less)
          ]
    ]

pub inner_falls : (system : System) (before : ℕ) (now next : Config) → next ≡ step system now → now.rest.at_verb ≡ false → now.rest.count ≡ before
    → inner system before next < inner system before now
inner_falls system before now next is v same = subst (λ d. inner system before d < inner system before now) (sym is) (made_falls system before now v same)

outer_now : (d : Config) → d.rest.at_verb ≡ false → outer d ≡ most_counted - d.rest.count + 1
outer_now d v = ap (λ b. if b then 0 else most_counted - d.rest.count + 1) v

-- the inner loop has ended at a verb, or has counted
pub outer_falls : (now next : Config) (before : ℕ) → now.rest.at_verb ≡ false → before ≡ now.rest.count → CountsFrom before next
    → (next.rest.at_verb ≡ true) ⊎ (next.rest.count ≢ before) → outer next < outer now
outer_falls now next before v same counts ended = pick next.rest.at_verb refl ended (outer_now now v)
  where
    pick : (b : Bool) → next.rest.at_verb ≡ b → (next.rest.at_verb ≡ true) ⊎ (next.rest.count ≢ before) → outer now ≡ most_counted - now.rest.count + 1 → outer next < outer now
    pick true e how here = let none : outer next ≡ 0 = ap (λ b. if b then 0 else most_counted - next.rest.count + 1) e in omega (arith, none, here)
    pick false e (inl stands) here = absurd (cc)
    pick false e (inr differs) here =
        let there : outer next ≡ most_counted - next.rest.count + 1 = outer_now next e in
        let more : before < next.rest.count = omega (arith, counts.up, differs) in
        let lt : before < most_counted = counts.bound more in
        omega (arith, there, here, more, lt, same)
