-- A server's context behind the answer to a file operation stands at no verb.
use Rattle.std.proofs.Common.{◌≡◌, ℕ, false, List, Option, Some, None, refl}
use Rattle.pw_code.specs.Courses.{by_course}
use Rattle.pw_code.specs.declared.context.Course.{Course}
use Rattle.pw_code.specs.declared.context.Course.TheVariants.{Instruction, Advisory, Fault}
use Rattle.pw_code.specs.declared.context.Context.{Context}
use Rattle.pw_code.specs.declared.file.FileCall.{FileCall}
use Rattle.pw_code.specs.declared.instr.Instr.{Instr}
use Rattle.pw_code.specs.declared.instr.Instr.TheVariants.{Jump, JumpUnless, ParagraphEnd, Move, Compute, OnSizeError, Perform, PerformTimes, Until, PerformOneOf, Exit, ExitProgram, StopRun, DisplayScreen, Display, Accept, Call, Send, NoCode, Begin, End, Abort, Restart, Receive, Reply, Read, ReadNext, Write, Rewrite, Delete}
use Rattle.pw_code.specs.declared.system.System.{System}
use Rattle.pw_code.specs.declared.verb.Answer.TheVariants as answer
use Rattle.pw_code.specs.declared.verb.Verb.{Verb}
use Rattle.pw_code.specs.declared.verb.Verb.TheVariants as verb
use Rattle.pw_code_meaning.specs.Answers.{answered_by, put, shown}
use Rattle.pw_code_meaning.specs.Config.{Config}
use Rattle.pw_code_meaning.specs.Steps.{asked_by, instr_of, verb_of}
use Rattle.pw_world_state.specs.Asked.{answered_with, opened, verb_in}

-- an instruction that asks a file operation goes on behind its answer
by-instr : (system : System) (found : Option Instr) (c : Config) (status : ℕ) (content : Option (List ℕ))
    (call : FileCall) → asked_by found c ≡ verb.File call
    → (answered_by system found (answer.FileDone status content) c).rest.at_verb ≡ false
by-instr system None c status content call e = absurd (cc e)
by-instr system (Some (Jump n)) c status content call e = absurd (cc e)
by-instr system (Some (JumpUnless cond n)) c status content call e = absurd (cc e)
by-instr system (Some (ParagraphEnd start)) c status content call e = absurd (cc e)
by-instr system (Some (Move from to)) c status content call e = absurd (cc e)
by-instr system (Some (Compute a)) c status content call e = absurd (cc e)
by-instr system (Some (OnSizeError a n)) c status content call e = absurd (cc e)
by-instr system (Some (Perform paragraph)) c status content call e = absurd (cc e)
by-instr system (Some (PerformTimes paragraph times)) c status content call e = absurd (cc e)
by-instr system (Some (Until paragraph cond)) c status content call e = absurd (cc e)
by-instr system (Some (PerformOneOf paragraphs position)) c status content call e = absurd (cc e)
by-instr system (Some Exit) c status content call e = absurd (cc e)
by-instr system (Some ExitProgram) c status content call e = absurd (cc e)
by-instr system (Some StopRun) c status content call e = absurd (cc e)
by-instr system (Some (DisplayScreen screen base)) c status content call e = absurd (cc e)
by-instr system (Some (Display one)) c status content call e = absurd (cc e)
by-instr system (Some (Accept screen keys)) c status content call e = absurd (cc e)
by-instr system (Some (Call program arguments keeps)) c status content call e = absurd (cc e)
by-instr system (Some (Send class message codes)) c status content call e = absurd (cc e)
by-instr system (Some NoCode) c status content call e = absurd (cc e)
by-instr system (Some Begin) c status content call e = absurd (cc e)
by-instr system (Some End) c status content call e = absurd (cc e)
by-instr system (Some Abort) c status content call e = absurd (cc e)
by-instr system (Some Restart) c status content call e = absurd (cc e)
by-instr system (Some (Receive into)) c status content call e = absurd (cc e)
by-instr system (Some (Reply from)) c status content call e = absurd (cc e)
by-instr system (Some (Read file locking key into)) c status content call e = refl
by-instr system (Some (ReadNext file locking after into)) c status content call e = refl
by-instr system (Some (Write file from)) c status content call e = refl
by-instr system (Some (Rewrite file from)) c status content call e = refl
by-instr system (Some (Delete file key)) c status content call e = refl

-- where no run fault stands and no advisory is shown
by-put : (course : Course) (asked : Verb) (c onward behind : Config) (call : FileCall)
    → by_course course asked verb.Show verb.Fault ≡ verb.File call
    → (asked ≡ verb.File call → behind.rest.at_verb ≡ false)
    → (by_course course behind onward (λ code. c)).rest.at_verb ≡ false
by-put (Fault code) asked c onward behind call e next = absurd (cc e)
by-put Advisory asked c onward behind call e next = absurd (cc e)
by-put Instruction asked c onward behind call e next = next e

behind-file : (system : System) (c : Config) (status : ℕ) (content : Option (List ℕ)) (call : FileCall)
    → verb_of system c ≡ verb.File call
    → (put system (answer.FileDone status content) c).rest.at_verb ≡ false
behind-file system c status content call e =
    by-put c.rest.course (asked_by (instr_of system c) c) c (shown c)
    (answered_by system (instr_of system c) (answer.FileDone status content) c) call e
    (λ asks. by-instr system (instr_of system c) c status content call asks)

pub done-answered : (system : System) (context : Context) (status : ℕ) (content : Option (List ℕ)) (call : FileCall)
    → verb_in system context ≡ verb.File call
    → (answered_with system (answer.FileDone status content) context).at_verb ≡ false
done-answered system context status content call e =
    behind-file system (opened context) status content call e
