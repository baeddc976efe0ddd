-- What compiled code does is the same over other records.
use Rattle.std.proofs.Common.{◌≡◌, ℕ, ◌+◌, ◌*◌, List, length, Option, Some, None, refl, ap, slice_get}
use Rattle.pw_code.specs.Courses.{by_course}
use Rattle.pw_code.specs.declared.context.Context.{Context}
use Rattle.pw_code.specs.declared.context.Frame.{Frame}
use Rattle.pw_code.specs.declared.file.FileInfo.{FileInfo}
use Rattle.pw_code.specs.declared.instr.Instr.{Instr}
use Rattle.pw_code.specs.declared.instr.Instr.TheVariants.{Jump, JumpUnless, ParagraphEnd, Move, Compute, OnSizeError, Perform, PerformTimes, Until, PerformOneOf, Exit, ExitProgram, StopRun, DisplayScreen, Display, Accept, Call, Send, NoCode, Begin, End, Abort, Restart, Receive, Reply, Read, ReadNext, Write, Rewrite, Delete}
use Rattle.pw_code.specs.declared.system.System.{System}
use Rattle.pw_code.specs.declared.verb.Answer.{Answer}
use Rattle.pw_code_meaning.specs.Answers.{answered_by, put, shown}
use Rattle.pw_code_meaning.specs.Calls.{leaves, leaves_by, returned, storage_behind}
use Rattle.pw_code_meaning.specs.Config.{Config, asks, code_at, code_of, code_statement_counted}
use Rattle.pw_code_meaning.specs.Runs.{at_verb, config_after_answers, most_steps, run, runs}
use Rattle.pw_code_meaning.specs.Steps.{act, does, instr_of, step}
use Rattle.pw_code_meaning.specs.Turns.{split_last}

module _ (system : System) (files : List FileInfo) where
  -- the system with other files
  abbrev pub other : System
  other = record system { files = files }

  storage-same : (at : Option Instr) (caller callee : Frame) (rest : Context)
      → storage_behind other at caller callee rest ≡ storage_behind system at caller callee rest
  storage-same None caller callee rest = refl
  storage-same (Some (Jump n)) caller callee rest = refl
  storage-same (Some (JumpUnless cond n)) caller callee rest = refl
  storage-same (Some (ParagraphEnd start)) caller callee rest = refl
  storage-same (Some (Move from to)) caller callee rest = refl
  storage-same (Some (Compute a)) caller callee rest = refl
  storage-same (Some (OnSizeError a n)) caller callee rest = refl
  storage-same (Some (Perform turn)) caller callee rest = refl
  storage-same (Some (PerformTimes turn times)) caller callee rest = refl
  storage-same (Some (Until turn cond)) caller callee rest = refl
  storage-same (Some (PerformOneOf turns position)) caller callee rest = refl
  storage-same (Some Exit) caller callee rest = refl
  storage-same (Some ExitProgram) caller callee rest = refl
  storage-same (Some StopRun) caller callee rest = refl
  storage-same (Some (DisplayScreen screen base)) caller callee rest = refl
  storage-same (Some (Display one)) caller callee rest = refl
  storage-same (Some (Accept screen keys)) caller callee rest = refl
  storage-same (Some (Call program arguments keeps)) caller callee rest = refl
  storage-same (Some (Send class message codes)) caller callee rest = refl
  storage-same (Some NoCode) caller callee rest = refl
  storage-same (Some Begin) caller callee rest = refl
  storage-same (Some End) caller callee rest = refl
  storage-same (Some Abort) caller callee rest = refl
  storage-same (Some Restart) caller callee rest = refl
  storage-same (Some (Receive into)) caller callee rest = refl
  storage-same (Some (Reply from)) caller callee rest = refl
  storage-same (Some (Read file locking key into)) caller callee rest = refl
  storage-same (Some (ReadNext file locking after into)) caller callee rest = refl
  storage-same (Some (Write file from)) caller callee rest = refl
  storage-same (Some (Rewrite file from)) caller callee rest = refl
  storage-same (Some (Delete file key)) caller callee rest = refl

  returned-same : (before : List Frame) (caller : Frame) (c : Config) → returned other before caller c ≡ returned system before caller c
  returned-same before caller c =
      ap (λ (storage : List ℕ). record { top = record caller { at = caller.at + 1; storage = storage }; rest = record c.rest { frames = before } })
      (storage-same (slice_get (code_at system caller.program).instrs caller.at) caller c.top c.rest)

  leaves-by-same : (found : Option (List Frame × Frame)) (c : Config) → leaves_by other found c ≡ leaves_by system found c
  leaves-by-same None c = refl
  leaves-by-same (Some found) c = returned-same found.0 found.1 c

  leaves-same : leaves other ≡ leaves system
  leaves-same i c = leaves-by-same (split_last c.rest.frames) c i

  does-same : (instr : Instr) → does other instr ≡ does system instr
  does-same (Jump n) = refl
  does-same (JumpUnless cond n) = refl
  does-same (ParagraphEnd start) = refl
  does-same (Move from to) = refl
  does-same (Compute a) = refl
  does-same (OnSizeError a n) = refl
  does-same (Perform turn) = refl
  does-same (PerformTimes turn times) = refl
  does-same (Until turn cond) = refl
  does-same (PerformOneOf turns position) = refl
  does-same Exit = refl
  does-same ExitProgram = leaves-same
  does-same StopRun = refl
  does-same (DisplayScreen screen base) = refl
  does-same (Display one) = refl
  does-same (Accept screen keys) = refl
  does-same (Call program arguments keeps) = refl
  does-same (Send class message codes) = refl
  does-same NoCode = refl
  does-same Begin = refl
  does-same End = refl
  does-same Abort = refl
  does-same Restart = refl
  does-same (Receive into) = refl
  does-same (Reply from) = refl
  does-same (Read file locking key into) = refl
  does-same (ReadNext file locking after into) = refl
  does-same (Write file from) = refl
  does-same (Rewrite file from) = refl
  does-same (Delete file key) = refl

  act-same : (at : Option Instr) → act other at ≡ act system at
  act-same None = leaves-same
  act-same (Some (Jump n)) = refl
  act-same (Some (JumpUnless cond n)) = ap code_statement_counted (does-same (JumpUnless cond n))
  act-same (Some (ParagraphEnd start)) = refl
  act-same (Some (Move from to)) = ap code_statement_counted (does-same (Move from to))
  act-same (Some (Compute a)) = ap code_statement_counted (does-same (Compute a))
  act-same (Some (OnSizeError a n)) = ap code_statement_counted (does-same (OnSizeError a n))
  act-same (Some (Perform turn)) = ap code_statement_counted (does-same (Perform turn))
  act-same (Some (PerformTimes turn times)) = ap code_statement_counted (does-same (PerformTimes turn times))
  act-same (Some (Until turn cond)) = refl
  act-same (Some (PerformOneOf turns position)) = ap code_statement_counted (does-same (PerformOneOf turns position))
  act-same (Some Exit) = ap code_statement_counted (does-same Exit)
  act-same (Some ExitProgram) = ap code_statement_counted (does-same ExitProgram)
  act-same (Some StopRun) = ap code_statement_counted (does-same StopRun)
  act-same (Some (DisplayScreen screen base)) = ap code_statement_counted (does-same (DisplayScreen screen base))
  act-same (Some (Display one)) = ap code_statement_counted (does-same (Display one))
  act-same (Some (Accept screen keys)) = ap code_statement_counted (does-same (Accept screen keys))
  act-same (Some (Call program arguments keeps)) = ap code_statement_counted (does-same (Call program arguments keeps))
  act-same (Some (Send class message codes)) = ap code_statement_counted (does-same (Send class message codes))
  act-same (Some NoCode) = refl
  act-same (Some Begin) = ap code_statement_counted (does-same Begin)
  act-same (Some End) = ap code_statement_counted (does-same End)
  act-same (Some Abort) = ap code_statement_counted (does-same Abort)
  act-same (Some Restart) = ap code_statement_counted (does-same Restart)
  act-same (Some (Receive into)) = ap code_statement_counted (does-same (Receive into))
  act-same (Some (Reply from)) = ap code_statement_counted (does-same (Reply from))
  act-same (Some (Read file locking key into)) = ap code_statement_counted (does-same (Read file locking key into))
  act-same (Some (ReadNext file locking after into)) = ap code_statement_counted (does-same (ReadNext file locking after into))
  act-same (Some (Write file from)) = ap code_statement_counted (does-same (Write file from))
  act-same (Some (Rewrite file from)) = ap code_statement_counted (does-same (Rewrite file from))
  act-same (Some (Delete file key)) = ap code_statement_counted (does-same (Delete file key))

  step-same : step other ≡ step system
  step-same i c = by_course c.rest.course (act-same (instr_of system c) i c) (asks c) (λ code. asks c)

  answered-same : (at : Option Instr) (given : Answer) (c : Config) → answered_by other at given c ≡ answered_by system at given c
  answered-same None given c = refl
  answered-same (Some (Jump n)) given c = refl
  answered-same (Some (JumpUnless cond n)) given c = refl
  answered-same (Some (ParagraphEnd start)) given c = refl
  answered-same (Some (Move from to)) given c = refl
  answered-same (Some (Compute a)) given c = refl
  answered-same (Some (OnSizeError a n)) given c = refl
  answered-same (Some (Perform turn)) given c = refl
  answered-same (Some (PerformTimes turn times)) given c = refl
  answered-same (Some (Until turn cond)) given c = refl
  answered-same (Some (PerformOneOf turns position)) given c = refl
  answered-same (Some Exit) given c = refl
  answered-same (Some ExitProgram) given c = refl
  answered-same (Some StopRun) given c = refl
  answered-same (Some (DisplayScreen screen base)) given c = refl
  answered-same (Some (Display one)) given c = refl
  answered-same (Some (Accept screen keys)) given c = refl
  answered-same (Some (Call program arguments keeps)) given c = refl
  answered-same (Some (Send class message codes)) given c = refl
  answered-same (Some NoCode) given c = refl
  answered-same (Some Begin) given c = refl
  answered-same (Some End) given c = refl
  answered-same (Some Abort) given c = refl
  answered-same (Some Restart) given c = refl
  answered-same (Some (Receive into)) given c = refl
  answered-same (Some (Reply from)) given c = refl
  answered-same (Some (Read file locking key into)) given c = refl
  answered-same (Some (ReadNext file locking after into)) given c = refl
  answered-same (Some (Write file from)) given c = refl
  answered-same (Some (Rewrite file from)) given c = refl
  answered-same (Some (Delete file key)) given c = refl

  pub put-same : put other ≡ put system
  put-same i a c =
      by_course c.rest.course (answered-same (slice_get (code_of system c).instrs c.top.at) a c i)
      (shown c) (λ code. c)

  run-same : run other ≡ run system
  run-same i n c answers = runs at_verb (step-same i) (put-same i) n c answers

  -- where the code stands behind answers
  pub answers-same : config_after_answers other ≡ config_after_answers system
  answers-same i c answers = (run-same i (most_steps * (length answers + 1)) c answers).at
