-- A system with other records is one that a deck may say.
use Rattle.std.proofs.Common.{◌≡◌, ◌∙◌, ℕ, suc, ◌≤◌, Bool, true, false, List, [], ◌∷◌, length, All, sym, subst, arith, slice_get}
use Rattle.std.specs.List.{AllByRecursion}
use Rattle.std.proofs.lemmas.List.Elements.{All-from_recursion, All-weaker}
use Rattle.pw_code.specs.Instrs.{AreInstrs, HasRanges, IsKey, IsProgramCall, IsRecord, IsScreen, IsSend, size_of_item}
use Rattle.pw_code.specs.Names.{AreNames}
use Rattle.pw_code.specs.Valid.{IsClass, IsCode, IsDeckFile, IsTerminal, IsValid}
use Rattle.pw_code.specs.declared.code.Code.{Code}
use Rattle.pw_code.specs.declared.file.FileInfo.{FileInfo}
use Rattle.pw_code.specs.declared.instr.Instr.{Instr}
use Rattle.pw_code.specs.declared.instr.Instr.TheVariants.{Jump, JumpUnless, ParagraphEnd, Move, Compute, OnSizeError, Perform, PerformTimes, Until, PerformOneOf, Exit, ExitProgram, StopRun, DisplayScreen, Display, Accept, Call, Send, NoCode, Begin, End, Abort, Restart, Receive, Reply, Read, ReadNext, Write, Rewrite, Delete}
use Rattle.pw_code.specs.declared.operand.InstructionOperand.{InstructionOperand}
use Rattle.pw_code.specs.declared.instr.ReplyCode.{ReplyCode}
use Rattle.pw_code.specs.declared.place.StoragePlace.{StoragePlace}
use Rattle.pw_code.specs.declared.system.ClassInfo.{ClassInfo}
use Rattle.pw_code.specs.declared.system.System.{System}
use Rattle.pw_code.specs.declared.system.TermInfo.{TermInfo}
use Rattle.pw_files.specs.Records.{IsFile}
use Rattle.pw_records.proofs.Filed.{deck-file}
use Rattle.pw_records.proofs.Places.{alike-with, as-many, key-at}
use Rattle.pw_records.specs.Records.{AreAlike, AreRecordsOf, files_with, with_records}
use Rattle.pw_tree_meaning.specs.Program.{key_length_by}

-- each file with its records
each-file : (files : List FileInfo) (records : ℕ → List (List ℕ)) → ((f : ℕ) → IsFile (key_length_by (slice_get files f)) (records f))
    → AllByRecursion IsDeckFile (files_with files records)
each-file [] records are = tt
each-file (file ∷ files) records are = (deck-file file (records 0) (are 0), each-file files (λ f. records (suc f)) (λ f. are (suc f)))

module _ (system : System) (files : List FileInfo) (alike : AreAlike files system.files) where
  abbrev other : System
  other = record system { files = files }

  count : length files ≡ length system.files
  count = as-many files system.files alike

  screen-on : (storage screen : ℕ) → IsScreen system storage screen → IsScreen other storage screen
  screen-on storage screen h = record { known = h.known; fields = h.fields }

  call-on : (storage program : ℕ) (arguments : List StoragePlace) → IsProgramCall system storage program arguments → IsProgramCall other storage program arguments
  call-on storage program arguments h = record { known = h.known; places = h.places; sizes = h.sizes }

  send-on : (storage behind class : ℕ) (message : InstructionOperand) (codes : List ReplyCode) → IsSend system storage behind class message codes → IsSend other storage behind class message codes
  send-on storage behind class message codes h =
      record { known = h.known; sent = h.sent; few = h.few; each = h.each; over = h.over }

  key-on : (storage file : ℕ) (key : InstructionOperand) → IsKey system storage file key → IsKey other storage file key
  key-on storage file key h = record {
    known = omega (arith, h.known, count);
    operand = h.operand;
    size = h.size ∙ sym (key-at files system.files alike file _);
  }

  record-on : (storage file : ℕ) (from : InstructionOperand) → IsRecord system storage file from → IsRecord other storage file from
  record-on storage file from h = record {
    known = omega (arith, h.known, count);
    operand = h.operand;
    least = subst (λ (n : ℕ). n ≤ size_of_item from) (sym (key-at files system.files alike file _)) h.least;
    most = h.most;
  }

  ranges-on : (code : Code) (behind : ℕ) (instr : Instr) → HasRanges system code behind instr → HasRanges other code behind instr
  ranges-on code behind (Jump n) h = h
  ranges-on code behind (JumpUnless cond n) h = h
  ranges-on code behind (ParagraphEnd start) h = h
  ranges-on code behind (Move from to) h = h
  ranges-on code behind (Compute a) h = h
  ranges-on code behind (OnSizeError a n) h = h
  ranges-on code behind (Perform turn) h = h
  ranges-on code behind (PerformTimes turn times) h = h
  ranges-on code behind (Until turn cond) h = h
  ranges-on code behind (PerformOneOf turns position) h = h
  ranges-on code behind Exit h = h
  ranges-on code behind ExitProgram h = h
  ranges-on code behind StopRun h = h
  ranges-on code behind (DisplayScreen screen base) h = screen-on (length code.storage) screen h
  ranges-on code behind (Display one) h = h
  ranges-on code behind (Accept screen keys) h = (screen-on (length code.storage) screen h.0, h.1)
  ranges-on code behind (Call program arguments keeps) h = call-on (length code.storage) program arguments h
  ranges-on code behind (Send class message codes) h = send-on (length code.storage) behind class message codes h
  ranges-on code behind NoCode h = h
  ranges-on code behind Begin h = h
  ranges-on code behind End h = h
  ranges-on code behind Abort h = h
  ranges-on code behind Restart h = h
  ranges-on code behind (Receive into) h = h
  ranges-on code behind (Reply from) h = h
  ranges-on code behind (Read file locking key into) h = (key-on (length code.storage) file key h.0, h.1)
  ranges-on code behind (ReadNext file locking after into) h = (key-on (length code.storage) file after h.0, h.1)
  ranges-on code behind (Write file from) h = record-on (length code.storage) file from h
  ranges-on code behind (Rewrite file from) h = record-on (length code.storage) file from h
  ranges-on code behind (Delete file key) h = key-on (length code.storage) file key h

  instrs-on : (server : Bool) (code : Code) (instrs : List Instr) → AreInstrs server system code instrs → AreInstrs server other code instrs
  instrs-on server code [] h = tt
  instrs-on server code (instr ∷ rest) h =
      (record { kind = h.0.kind; ranges = ranges-on code (length rest) instr h.0.ranges }, instrs-on server code rest h.1)

  code-on : (server : Bool) (code : Code) → IsCode server system code → IsCode server other code
  code-on server code h = record {
    places = h.places;
    instrs = instrs-on server code code.instrs h.instrs;
    storage = h.storage;
    linkage = h.linkage;
  }

  terminal-on : (terminal : TermInfo) → IsTerminal system terminal → IsTerminal other terminal
  terminal-on terminal h = record { pair = h.pair; program = h.program; restarts = h.restarts; few = h.few; keys = h.keys }

  class-on : (class : ClassInfo) → IsClass system class → IsClass other class
  class-on class h = record { server = h.server; some = h.some; few = h.few }

  pub valid-alike : IsValid system → All IsDeckFile files → IsValid other
  valid-alike valid are = record {
    programs = All-weaker (IsCode false system) (IsCode false other) (code-on false) system.programs valid.programs;
    servers = All-weaker (IsCode true system) (IsCode true other) (code-on true) system.servers valid.servers;
    terminals = All-weaker (IsTerminal system) (IsTerminal other) terminal-on system.terminals valid.terminals;
    classes = All-weaker (IsClass system) (IsClass other) class-on system.classes valid.classes;
    files = are;
    names = record {
      tcps = valid.names.tcps;
      terminals = valid.names.terminals;
      classes = valid.names.classes;
      files = subst AreNames (sym alike.names) valid.names.files;
    };
    few = record {
      programs = valid.few.programs;
      servers = valid.few.servers;
      screens = valid.few.screens;
      classes = valid.few.classes;
      files = omega (arith, count, valid.few.files);
      tcps = valid.few.tcps;
      terminals = valid.few.terminals;
    };
  }

-- the same with other records
pub valid-with : (system : System) (records : ℕ → List (List ℕ)) → IsValid system → AreRecordsOf system records → IsValid (with_records system records)
valid-with system records valid are =
    valid-alike system (files_with system.files records) (alike-with system.files records) valid
    (All-from_recursion IsDeckFile (files_with system.files records) (each-file system.files records are.files))
