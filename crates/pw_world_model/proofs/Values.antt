-- The context behind the answer that ends a transaction has numbers and characters of their types.
use Rattle.std.proofs.Common.{◌≡◌, ℕ, ◌-◌, ◌<◌, ◌^◌, List, [], ◌∷◌, ◌++◌, length, Option, Some, None, Bool, true, false, refl, sym, ap, subst, ◌∙◌, arith}
use Rattle.std.specs.Prelude.{IsSome, get_or, if◌then◌else◌, nat_lt, slice_get}
use Rattle.std.specs.List.{AllByRecursion}
use Rattle.std.proofs.lemmas.List.Elements.{All-from_recursion, recursion_from_All}
use Rattle.std.proofs.lemmas.Option.{slice_get_within}
use Rattle.pw_code.specs.Courses.{by_course}
use Rattle.pw_code.specs.declared.context.Course.{Course}
use Rattle.pw_code.specs.declared.context.Course.TheVariants.{Instruction, Advisory, Fault}
use Rattle.pw_code.specs.Instrs.{no_code, program_at}
use Rattle.pw_code.specs.Valid.{IsValid}
use Rattle.pw_code.specs.declared.code.Code.{Code}
use Rattle.pw_code.specs.declared.context.Context.{Context}
use Rattle.pw_code.specs.declared.context.Frame.{Frame}
use Rattle.pw_code.specs.declared.instr.Instr.{Instr}
use Rattle.pw_code.specs.declared.instr.Instr.TheVariants.{Abort, Accept, Begin, Call, Compute, Delete, Display, DisplayScreen, End, Exit, ExitProgram, Jump, JumpUnless, Move, NoCode, OnSizeError, ParagraphEnd, Perform, PerformOneOf, PerformTimes, Read, ReadNext, Receive, Reply, Restart, Rewrite, Send, StopRun, Until, Write}
use Rattle.pw_code.specs.declared.system.System.{System}
use Rattle.pw_code.specs.declared.verb.Answer.{Answer}
use Rattle.pw_code.specs.declared.verb.Verb.TheVariants as verb
use Rattle.pw_code_meaning.specs.Answers.{answered_by, put, shown, unit_end_put}
use Rattle.pw_code_meaning.specs.Config.{Config, closed, code_at, code_of}
use Rattle.pw_code_meaning.specs.Sound.{IsSoundContext}
use Rattle.pw_code_meaning.specs.Steps.{asked_by, verb_of}
use Rattle.pw_code_meaning.proofs.Bounds.{at_or}
use Rattle.pw_image.specs.Values.{FrameHasValues, HasValues}
use Rattle.pw_world_state.specs.Asked.{answered_with, verb_in}
use Rattle.pw_world_state.specs.TerminalTests.{closing}
use Rattle.pw_world_state.proofs.Behind.{open-closed}
use Rattle.pw_machine.specs.Stack.{HasRoom}

-- ---- places

abbrev IsShort : Code → Type 0
IsShort code = length code.instrs < 2 ^ 32

short : (system : System) → IsValid system → (n : ℕ) → IsShort (code_at system n)
short system valid n = pick (nat_lt n (length system.programs))
  where
    pick : (b : Bool) → IsShort (if b then program_at system n else get_or system.servers (n - length system.programs) no_code)
    pick true = at_or IsShort system.programs n no_code (λ k d lt. (valid.programs k d lt).places) (omega arith)
    pick false = at_or IsShort system.servers (n - length system.programs) no_code (λ k d lt. (valid.servers k d lt).places) (omega arith)

-- ---- the last program

last-changed : (P : Frame → Type 0) (xs : List Frame) (x y : Frame) → AllByRecursion P (xs ++ x ∷ []) → (P x → P y) → AllByRecursion P (xs ++ y ∷ [])
last-changed P [] x y all to = (to all.0, tt)
last-changed P (z ∷ xs) x y all to = (all.0, last-changed P xs x y all.1 to)

module _ (system : System) (valid : IsValid system) (c : Config) (a : Answer) where
  abbrev Closes : Option Instr → Type 0
  Closes i = (answered_by system i a c ≡ unit_end_put c) × IsSome i

  -- an instruction whose verb ends a transaction
  by-instr : (i : Option Instr) → closing (asked_by i c) ≡ Some a → Closes i
  by-instr (Some End) e = (refl, refl)
  by-instr (Some Abort) e = (refl, refl)
  by-instr None e = absurd (cc e)
  by-instr (Some (Jump n)) e = absurd (cc e)
  by-instr (Some (JumpUnless cond n)) e = absurd (cc e)
  by-instr (Some (ParagraphEnd n)) e = absurd (cc e)
  by-instr (Some (Move from to)) e = absurd (cc e)
  by-instr (Some (Compute arithmetic)) e = absurd (cc e)
  by-instr (Some (OnSizeError arithmetic over)) e = absurd (cc e)
  by-instr (Some (Perform turn)) e = absurd (cc e)
  by-instr (Some (PerformTimes turn times)) e = absurd (cc e)
  by-instr (Some (Until turn cond)) e = absurd (cc e)
  by-instr (Some (PerformOneOf turns position)) e = absurd (cc e)
  by-instr (Some Exit) e = absurd (cc e)
  by-instr (Some ExitProgram) e = absurd (cc e)
  by-instr (Some StopRun) e = absurd (cc e)
  by-instr (Some (DisplayScreen screen base)) e = absurd (cc e)
  by-instr (Some (Display one)) e = absurd (cc e)
  by-instr (Some (Accept screen keys)) e = absurd (cc e)
  by-instr (Some (Call program arguments keeps)) e = absurd (cc e)
  by-instr (Some (Send class message codes)) e = absurd (cc e)
  by-instr (Some NoCode) e = absurd (cc e)
  by-instr (Some Begin) e = absurd (cc e)
  by-instr (Some Restart) e = absurd (cc e)
  by-instr (Some (Receive place)) e = absurd (cc e)
  by-instr (Some (Reply from)) e = absurd (cc e)
  by-instr (Some (Read file locking key into)) e = absurd (cc e)
  by-instr (Some (ReadNext file locking after into)) e = absurd (cc e)
  by-instr (Some (Write file from)) e = absurd (cc e)
  by-instr (Some (Rewrite file from)) e = absurd (cc e)
  by-instr (Some (Delete file key)) e = absurd (cc e)

  by-way : (course : Course) (i : Option Instr) → closing (by_course course (asked_by i c) verb.Show verb.Fault) ≡ Some a
      → (by_course course (answered_by system i a c) (shown c) (λ code. c) ≡ unit_end_put c) × IsSome i
  by-way (Fault code) i e = absurd (cc e)
  by-way Advisory i e = absurd (cc e)
  by-way Instruction i e = by-instr i e

  module _ (closes : closing (verb_of system c) ≡ Some a) (values : HasValues (closed c)) (room : HasRoom (closed c)) where
    both : (put system a c ≡ unit_end_put c) × IsSome (slice_get (code_of system c).instrs c.top.at)
    both = by-way c.rest.course (slice_get (code_of system c).instrs c.top.at) closes

    at-low : (o : Option Instr) → slice_get (code_of system c).instrs c.top.at ≡ o → IsSome o → c.top.at < length (code_of system c).instrs
    at-low None none some = absurd (cc some)
    at-low (Some i) is some = slice_get_within (code_of system c).instrs c.top.at i is

    frames : AllByRecursion FrameHasValues (c.rest.frames ++ c.top ∷ [])
    frames = recursion_from_All FrameHasValues (c.rest.frames ++ c.top ∷ []) values.frames

    behind : HasValues (closed (unit_end_put c))
    behind =
        let units = room.units in
        let low = at-low (slice_get (code_of system c).instrs c.top.at) refl both.1 in
        let few = short system valid c.top.program in
        record {
          counts = record {
            termination = values.counts.termination;
            restarts = values.counts.restarts;
            phase = omega (arith, units);
            attempt = omega arith;
            shown = omega arith;
            entries = values.counts.entries;
            units = omega (arith, units);
          };
          whole = values.whole;
          screen = values.screen;
          frames = All-from_recursion FrameHasValues (c.rest.frames ++ (unit_end_put c).top ∷ [])
              (last-changed FrameHasValues c.rest.frames c.top (unit_end_put c).top frames
              (λ top. record { program = top.program; at = omega (arith, low, few); storage = top.storage; returns = top.returns }));
        }

    pub put-values : HasValues (closed (put system a c))
    put-values = subst (λ x. HasValues (closed x)) (sym both.0) behind

pub closed-values : (system : System) (context : Context) (a : Answer) → IsValid system → IsSoundContext system context → HasRoom context → HasValues context → closing (verb_in system context) ≡ Some a
    → HasValues (answered_with system a context)
closed-values system context a valid sound room values closes =
    let c = sound.at in
    let asks : verb_in system context ≡ verb_of system c = ap (verb_in system) sound.is ∙ ap (verb_of system) (open-closed c) in
    let into : answered_with system a context ≡ closed (put system a c) = ap (answered_with system a) sound.is ∙ ap (λ x. closed (put system a x)) (open-closed c) in
    subst HasValues (sym into) (put-values system valid c a (sym (ap closing asks) ∙ closes) (subst HasValues sound.is values) (subst HasRoom sound.is room))
