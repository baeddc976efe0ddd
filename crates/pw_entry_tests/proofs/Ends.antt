-- The context behind the end of a transaction.
use Rattle.std.proofs.Common.{◌≡◌, Option, Some, None, refl, ap, sym, subst, cond}
use Rattle.pw_code.specs.Courses.{by_course}
use Rattle.pw_code.specs.declared.context.Course.{Course}
use Rattle.pw_code.specs.declared.context.Course.TheVariants.{Instruction, Advisory, Fault}
use Rattle.pw_code.specs.declared.context.Context.{Context}
use Rattle.pw_code.specs.declared.instr.Instr.{Instr}
use Rattle.pw_code.specs.declared.instr.Instr.TheVariants.{Jump, JumpUnless, ParagraphEnd, Move, Compute, OnSizeError, Perform, PerformTimes, Until, PerformOneOf, Exit, ExitProgram, StopRun, DisplayScreen, Display, Accept, Call, Send, NoCode, Begin, End, Abort, Restart, Receive, Reply, Read, ReadNext, Write, Rewrite, Delete}
use Rattle.pw_code.specs.declared.system.System.{System}
use Rattle.pw_code.specs.declared.verb.Answer.{Answer}
use Rattle.pw_code.specs.declared.verb.Verb.{Verb}
use Rattle.pw_code.specs.declared.verb.Verb.TheVariants as verb
use Rattle.pw_code_meaning.specs.Answers.{answered_by, put, shown, unit_end_put}
use Rattle.pw_code_meaning.specs.Config.{Config, closed}
use Rattle.pw_code_meaning.specs.Steps.{asked_by, instr_of, verb_of}
use Rattle.pw_world_state.specs.Asked.{answered_with, opened, verb_in}
use Rattle.pw_entry_tests.specs.Images.{behind_end}

-- the verb ends a transaction
abbrev Closes : Verb → Type 0
Closes verb.End = Unit {0}
Closes verb.Drop = Unit {0}
Closes _ = ⊥

module _ (system : System) (a : Answer) (c : Config) where
  ends : (o : Option Instr) → Closes (asked_by o c) → answered_by system o a c ≡ unit_end_put c
  ends (Some End) h = refl
  ends (Some Abort) h = refl
  ends None h = absurd h
  ends (Some (Jump n)) h = absurd h
  ends (Some (JumpUnless cond n)) h = absurd h
  ends (Some (ParagraphEnd n)) h = absurd h
  ends (Some (Move from to)) h = absurd h
  ends (Some (Compute one)) h = absurd h
  ends (Some (OnSizeError one n)) h = absurd h
  ends (Some (Perform paragraph)) h = absurd h
  ends (Some (PerformTimes paragraph times)) h = absurd h
  ends (Some (Until one cond)) h = absurd h
  ends (Some (PerformOneOf paragraphs position)) h = absurd h
  ends (Some Exit) h = absurd h
  ends (Some ExitProgram) h = absurd h
  ends (Some StopRun) h = absurd h
  ends (Some (DisplayScreen screen base)) h = absurd h
  ends (Some (Display one)) h = absurd h
  ends (Some (Accept screen keys)) h = absurd h
  ends (Some (Call program arguments keeps)) h = absurd h
  ends (Some (Send class message codes)) h = absurd h
  ends (Some NoCode) h = absurd h
  ends (Some Begin) h = absurd h
  ends (Some Restart) h = absurd h
  ends (Some (Receive into)) h = absurd h
  ends (Some (Reply from)) h = absurd h
  ends (Some (Read file locking key into)) h = absurd h
  ends (Some (ReadNext file locking after into)) h = absurd h
  ends (Some (Write file from)) h = absurd h
  ends (Some (Rewrite file from)) h = absurd h
  ends (Some (Delete file key)) h = absurd h

  by-way : (course : Course) (v : Verb) (d : Config) → (Closes v → d ≡ unit_end_put c)
      → Closes (by_course course v verb.Show verb.Fault) → by_course course d (shown c) (λ code. c) ≡ unit_end_put c
  by-way (Fault code) v d e h = absurd h
  by-way Advisory v d e h = absurd h
  by-way Instruction v d e h = e h

  pub put-ends : Closes (verb_of system c) → put system a c ≡ unit_end_put c
  put-ends h =
      by-way c.rest.course (asked_by (instr_of system c) c) (answered_by system (instr_of system c) a c)
      (ends (instr_of system c)) h

module _ (system : System) (context : Context) (a : Answer) where
  pub end-behind : verb_in system context ≡ verb.End → answered_with system a context ≡ behind_end context
  end-behind e = ap closed (put-ends system a (opened context) (subst Closes (sym e) tt))

  pub drop-behind : verb_in system context ≡ verb.Drop → answered_with system a context ≡ behind_end context
  drop-behind e = ap closed (put-ends system a (opened context) (subst Closes (sym e) tt))
