-- What holds of each thing that a course may choose.
use Rattle.std.specs.Prelude.{ℕ}
use Rattle.pw_code.specs.Courses.{by_course}
use Rattle.pw_code.specs.declared.context.Course.{Course}
use Rattle.pw_code.specs.declared.context.Course.TheVariants.{Instruction, Advisory, Fault}

pub course-holds : {A : Type 0} (P : A → Type 0) (course : Course) (runs advises : A) (faults : ℕ → A) → P runs → P advises → ((code : ℕ) → P (faults code)) → P (by_course course runs advises faults)
course-holds P Instruction runs advises faults g h k = g
course-holds P Advisory runs advises faults g h k = h
course-holds P (Fault code) runs advises faults g h k = k code
