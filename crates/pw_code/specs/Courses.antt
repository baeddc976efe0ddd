-- How programs at work go on.
use Rattle.std.specs.Prelude.{ℕ, Bool, true, false}
use Rattle.pw_code.specs.declared.context.Course.{Course}
use Rattle.pw_code.specs.declared.context.Course.TheVariants.{Instruction, Advisory, Fault}

-- one thing with the next instruction, one with an advisory, and one at each run fault
abbrev pub by_course : {A : Type 0} → Course → A → A → (ℕ → A) → A
by_course Instruction runs advises faults = runs
by_course Advisory runs advises faults = advises
by_course (Fault code) runs advises faults = faults code

-- with an advisory
abbrev pub is_advisory : Course → Bool
is_advisory course = by_course course false true (λ code. false)

-- at a run fault
abbrev pub is_run_fault : Course → Bool
is_run_fault course = by_course course false false (λ code. true)
