-- The programs at work of a terminal are sound, and their storages keep their sizes.
use Rattle.std.proofs.Common.{◌≡◌, ℕ, zero, suc, ◌+◌, ◌-◌, ◌≤◌, ◌<◌, Bool, true, false, List, [], ◌∷◌, ◌++◌, length, length-append, Option, Some, None, refl, sym, ap, ◌∙◌, subst, arith}
use Rattle.std.specs.Prelude.{All, option_and_then, option_map, map, slice_get, slice_index_or, nat_lt, if◌then◌else◌}
use Rattle.std.proofs.lemmas.Bool.{lt-ltb, ltb-true}
use Rattle.std.proofs.lemmas.Option.{get_or_from_slice_get, slice_get_within}
use Rattle.std.proofs.lemmas.List.Elements.{All-cons, All-nil}
use Rattle.pw_base.specs.Limits.{most_storage}
use Rattle.pw_base.proofs.Plain.{some_is}
use Rattle.pw_picture.specs.Stored.{digits_of}
use Rattle.pw_terminal.specs.Entries.{check}
use Rattle.pw_terminal.specs.declared.entries.EntryAnswer.{EntryAnswer}
use Rattle.pw_terminal.specs.declared.entries.EntryAnswer.TheVariants.{Valid, BadKey, BadField}
use Rattle.pw_terminal.proofs.Cells.{length-digits_of}
use Rattle.pw_code.proofs.CourseLemmas.{course-holds}
use Rattle.pw_code.specs.Entry.{EntryLineModel}
use Rattle.pw_code.specs.Fields.{IsField}
use Rattle.pw_code.specs.Instrs.{AreInstrs, IsProgramCall, IsInstr, IsReplyCode, no_code, program_at, screen_at}
use Rattle.pw_code.specs.Places.{IsPlace}
use Rattle.pw_code.specs.Valid.{IsCode, IsValid}
use Rattle.pw_code.specs.declared.code.Code.{Code}
use Rattle.pw_code.specs.declared.context.Context.{Context}
use Rattle.pw_code.specs.declared.context.Frame.{Frame}
use Rattle.pw_code.specs.declared.field.ScreenTable.{ScreenTable}
use Rattle.pw_code.specs.declared.instr.Instr.{Instr}
use Rattle.pw_code.specs.declared.instr.Instr.TheVariants.{Jump, JumpUnless, ParagraphEnd, Move, Compute, OnSizeError, Perform, PerformTimes, Until, PerformOneOf, Exit, ExitProgram, StopRun, DisplayScreen, Display, Accept, Call, Send, NoCode, Begin, End, Abort, Restart, Receive, Reply, Read, ReadNext, Write, Rewrite, Delete}
use Rattle.pw_code.specs.declared.instr.ReplyCode.{ReplyCode}
use Rattle.pw_code.specs.declared.place.StoragePlace.{StoragePlace}
use Rattle.pw_code.specs.declared.system.System.{System}
use Rattle.pw_code.specs.declared.verb.Answer.{Answer}
use Rattle.pw_code.specs.declared.verb.Answer.TheVariants as answer
use Rattle.pw_tree_meaning.specs.Values.{Text'}
use Rattle.pw_code_meaning.specs.Answers.{answered, answered_by, begin_put, entry_checked, entry_put, place_among, put, reply_put, shown, spot_among, unit_ended, yielded}
use Rattle.pw_code_meaning.specs.Calls.{active, called_frame, calls, copied_back, kept, leaves_by, linkage_chars, most_active, most_calls, registers_at_call, returned, stops, storage_behind}
use Rattle.pw_code_meaning.specs.Config.{Config, asks, closed, code_at, code_of, code_statement_counted, faults, most_counted, on, starting, with_taken}
use Rattle.pw_code_meaning.specs.Reading.{Registers, Spot, registers_of, spot_of, spots_of}
use Rattle.pw_code_meaning.specs.Runs.{Run, StandsFor, at_verb, runs}
use Rattle.pw_code_meaning.specs.Sound.{AreWaiting, IsSound, IsSoundContext, Waits, kept_size}
use Rattle.pw_code_meaning.specs.Steps.{act, does, holds_here, instr_of, spots_here, step}
use Rattle.pw_code_meaning.specs.Turns.{split_last}
use Rattle.pw_code_meaning.proofs.Progress.{seam}
use Rattle.pw_code_meaning.proofs.Written.{AreSpots, Sits, called-size, copied-back-size, entered-size, move-size, spot-is, spots-are}
use Rattle.pw_code_meaning.proofs.Plain.{Plain, does_plain, ends_plain, is_inner, more, same, stops_plain, test_plain}

-- ---- the programs at work

-- each waits for the next, and is one of terminals
abbrev pub Chain : System → List Frame → Frame → Type 0
Chain system [] top = Unit {0}
Chain system (frame ∷ frames) top =
    (frame.program < length system.programs) × (Waits system frame (slice_index_or frames 0 top) × Chain system frames top)

-- the first of them
abbrev bottom : List Frame → Frame → Frame
bottom [] top = top
bottom (frame ∷ frames) top = frame

abbrev IsWhole : System → Frame → Type 0
IsWhole system frame = length frame.storage ≡ length (code_at system frame.program).storage

pub record Sized (system : System) (c : Config) : Type 0 where
  pub known : c.top.program < length system.programs
  pub frame : length (code_at system c.top.program).storage ≤ length c.top.storage
  pub chain : Chain system c.rest.frames c.top
  pub few : length c.rest.frames ≤ most_calls
  pub base : IsWhole system (bottom c.rest.frames c.top)

pub waits-same : (system : System) (caller a b : Frame) → b.program ≡ a.program → length b.storage ≡ length a.storage → Waits system caller a → Waits system caller b
waits-same system caller a b program size w = record {
  arguments = w.arguments;
  keeps = w.keeps;
  frame = w.frame;
  call = subst (λ p. slice_get (code_at system caller.program).instrs caller.at ≡ Some (Call p w.arguments w.keeps)) (sym program) w.call;
  size = size ∙ (w.size ∙ ap (λ p. length (code_at system p).storage + kept_size w.keeps) (sym program));
}

chain-same : (system : System) (frames : List Frame) (a b : Frame) → b.program ≡ a.program → length b.storage ≡ length a.storage → Chain system frames a → Chain system frames b
chain-same system [] a b program size chain = tt
chain-same system (frame ∷ []) a b program size chain = (chain.0, (waits-same system frame a b program size chain.1.0, tt))
chain-same system (frame ∷ next ∷ frames) a b program size chain = (chain.0, (chain.1.0, chain-same system (next ∷ frames) a b program size chain.1.1))

base-same : (system : System) (frames : List Frame) (a b : Frame) → b.program ≡ a.program → length b.storage ≡ length a.storage → IsWhole system (bottom frames a) → IsWhole system (bottom frames b)
base-same system [] a b program size whole = size ∙ (whole ∙ ap (λ p. length (code_at system p).storage) (sym program))
base-same system (frame ∷ frames) a b program size whole = whole

plain-sized : (system : System) (c d : Config) → Plain c d → Sized system c → Sized system d
plain-sized system c d p s = record {
  known = subst (λ n. n < length system.programs) (sym p.program) s.known;
  frame = let le = s.frame in let size = p.size in let code = ap (λ n. length (code_at system n).storage) p.program in omega (arith, le, size, code);
  chain = subst (λ fs. Chain system fs d.top) (sym p.frames) (chain-same system c.rest.frames c.top d.top p.program p.size s.chain);
  few = let few = s.few in let same = ap (length {A = Frame}) p.frames in omega (arith, few, same);
  base = subst (λ fs. IsWhole system (bottom fs d.top)) (sym p.frames) (base-same system c.rest.frames c.top d.top p.program p.size s.base);
}

-- one more
chain-push : (system : System) (frames : List Frame) (a b : Frame) → Chain system frames a → a.program < length system.programs → Waits system a b → Chain system (frames ++ a ∷ []) b
chain-push system [] a b chain known waits = (known, (waits, tt))
chain-push system (frame ∷ []) a b chain known waits = (chain.0, (chain.1.0, (known, (waits, tt))))
chain-push system (frame ∷ next ∷ frames) a b chain known waits = (chain.0, (chain.1.0, chain-push system (next ∷ frames) a b chain.1.1 known waits))

bottom-push : (frames : List Frame) (a b : Frame) → bottom (frames ++ a ∷ []) b ≡ bottom frames a
bottom-push [] a b = refl
bottom-push (frame ∷ frames) a b = refl

-- one less
chain-pop : (system : System) (frames : List Frame) (a b : Frame) → Chain system (frames ++ a ∷ []) b → Chain system frames a × ((a.program < length system.programs) × Waits system a b)
chain-pop system [] a b chain = (tt, (chain.0, chain.1.0))
chain-pop system (frame ∷ []) a b chain = let rest = chain.1.1 in ((chain.0, (chain.1.0, tt)), (rest.0, rest.1.0))
chain-pop system (frame ∷ next ∷ frames) a b chain =
    let rest = chain-pop system (next ∷ frames) a b chain.1.1 in
    ((chain.0, (chain.1.0, rest.0)), rest.1)

-- ---- codes

pub code-is : (system : System) (n : ℕ) → n < length system.programs → code_at system n ≡ program_at system n
code-is system n low = ap (λ b. if b then program_at system n else slice_index_or system.servers (n - length system.programs) no_code) (lt-ltb n (length system.programs) low)

valid-code : (system : System) → IsValid system → (n : ℕ) → n < length system.programs → IsCode false system (code_at system n)
valid-code system valid n low = subst (IsCode false system) (sym (code-is system n low)) (valid.programs n no_code low)

instr-at : (system : System) (code : Code) (instrs : List Instr) → AreInstrs false system code instrs → (k : ℕ) (i : Instr) → slice_get instrs k ≡ Some i → (behind : ℕ) × IsInstr false system code behind i
instr-at system code [] are k i e = absurd (cc e)
instr-at system code (first ∷ rest) are zero i e = let is : first ≡ i = cc e in (length rest, subst (IsInstr false system code (length rest)) is are.0)
instr-at system code (first ∷ rest) are (suc k) i e = instr-at system code rest are.1 k i e

-- ---- CALL

kept-long : (keeps : Bool) (registers : Registers) → length (kept keeps registers) ≡ kept_size keeps
kept-long true registers =
    let sum = length-append (digits_of 4 registers.termination) (digits_of 5 registers.restarts) in
    let one = length-digits_of 4 registers.termination in
    let two = length-digits_of 5 registers.restarts in
    omega (arith, sum, one, two)
kept-long false registers = refl

module _ (system : System) (valid : IsValid system) where
  called-sized : (c : Config) (program : ℕ) (arguments : List StoragePlace) (keeps : Bool) (places : List Spot) → Sized system c → instr_of system c ≡ Some (Call program arguments keeps)
      → IsProgramCall system (length (code_of system c).storage) program arguments → spots_here c arguments ≡ Some places → length c.rest.frames < most_calls
      → Sized system (record { top = called_frame system program places keeps c; rest = record c.rest { frames = c.rest.frames ++ c.top ∷ [] } })
  called-sized c program arguments keeps places s at is found low =
      let n : ℕ = length (code_of system c).storage in
      let are = spots-are (registers_of c.rest) c.top.storage n arguments places is.places found in
      let code = code-is system program is.known in
      let linkage = subst (IsCode false system) code (valid-code system valid program is.known) in
      let first = called-size n arguments places (program_at system program).linkage c.top.storage (program_at system program).storage are is.sizes linkage.linkage in
      let tail = kept-long keeps (registers_of c.rest) in
      let long = length-append _ (kept keeps (registers_of c.rest)) in
      let size : length (called_frame system program places keeps c).storage ≡ length (code_at system program).storage + kept_size keeps =
      long ∙ (let same = ap (λ (x : Code). length x.storage) code in omega (arith, first, tail, same)) in
      let waits : Waits system c.top (called_frame system program places keeps c) = record {
        arguments = arguments;
        keeps = keeps;
        frame = record { known = let known = s.known in omega (arith, known); storage = s.frame };
        call = at;
        size = size;
      } in
      record {
        known = is.known;
        frame = omega (arith, size);
        chain = chain-push system c.rest.frames c.top (called_frame system program places keeps c) s.chain s.known waits;
        few = let sum = length-append c.rest.frames (c.top ∷ []) in omega (arith, sum, low);
        base = subst (IsWhole system) (sym (bottom-push c.rest.frames c.top (called_frame system program places keeps c))) s.base;
      }

  calls-sized : (c : Config) (program : ℕ) (arguments : List StoragePlace) (keeps : Bool) (places : List Spot) → Sized system c → instr_of system c ≡ Some (Call program arguments keeps)
      → IsProgramCall system (length (code_of system c).storage) program arguments → spots_here c arguments ≡ Some places → Sized system (calls system program keeps places c)
  calls-sized c program arguments keeps places s at is found =
      by (nat_lt (length c.rest.frames) most_calls) (nat_lt most_active (active system c + length (program_at system program).storage)) refl
    where
      by : (b d : Bool) → nat_lt (length c.rest.frames) most_calls ≡ b
          → Sized system (if b then (if d then faults 208 c else record { top = called_frame system program places keeps c; rest = record c.rest { frames = c.rest.frames ++ c.top ∷ [] } }) else faults 202 c)
      by true true e = plain-sized system c _ (same c _ refl refl refl) s
      by true false e = called-sized c program arguments keeps places s at is found (ltb-true (length c.rest.frames) most_calls e)
      by false d e = plain-sized system c _ (same c _ refl refl refl) s

  -- ---- where a program is left

  back-size : (o : Option (List Spot)) (arguments : List StoragePlace) (n : ℕ) (items : List (ℕ × ℕ)) (from storage : List ℕ) → ((spots : List Spot) → o ≡ Some spots → AreSpots n arguments spots)
      → map (λ place. place.size) arguments ≡ map (λ (item : ℕ × ℕ). item.1) items → n ≤ length storage → length (copied_back o (linkage_chars items from) storage) ≡ length storage
  back-size None arguments n items from storage are sizes le = refl
  back-size (Some spots) arguments n items from storage are sizes le = copied-back-size n arguments spots items from storage (are spots refl) sizes le

  returned-size : (caller callee : Frame) (context : Context) → caller.program < length system.programs → callee.program < length system.programs → Waits system caller callee
      → length (storage_behind system (slice_get (code_at system caller.program).instrs caller.at) caller callee context) ≡ length caller.storage
  returned-size caller callee context known other w =
      let n : ℕ = length (code_at system caller.program).storage in
      let instr = instr-at system (code_at system caller.program) (code_at system caller.program).instrs (valid-code system valid caller.program known).instrs caller.at (Call callee.program w.arguments w.keeps) w.call in
      let is : IsProgramCall system n callee.program w.arguments = instr.1.ranges in
      let registers : Registers = registers_at_call w.keeps (length (code_at system callee.program).storage) callee context in
      ap (λ o. length (storage_behind system o caller callee context)) w.call
      ∙ back-size (spots_of registers caller.storage w.arguments) w.arguments n (code_at system callee.program).linkage callee.storage caller.storage
      (λ spots found. spots-are registers caller.storage n w.arguments spots is.places found)
      (is.sizes ∙ ap (λ (x : Code). map (λ (item : ℕ × ℕ). item.1) x.linkage) (sym (code-is system callee.program other))) w.frame.storage

  left-sized : (o : Option (List Frame × Frame)) (c : Config) → split_last c.rest.frames ≡ o → Sized system c → Sized system (leaves_by system o c)
  left-sized None c is s = plain-sized system c (stops system c) (stops_plain system c) s
  left-sized (Some found) c is s =
      let whole : c.rest.frames ≡ found.0 ++ found.1 ∷ [] = seam c.rest.frames found.0 found.1 is in
      let parts = chain-pop system found.0 found.1 c.top (subst (λ fs. Chain system fs c.top) whole s.chain) in
      let size = returned-size found.1 c.top c.rest parts.1.0 s.known parts.1.1 in
      let few = s.few in
      let long = ap (length {A = Frame}) whole ∙ length-append found.0 (found.1 ∷ []) in
      record {
        known = parts.1.0;
        frame = let le = parts.1.1.frame.storage in omega (arith, le, size);
        chain = chain-same system found.0 found.1 (returned system found.0 found.1 c).top refl size parts.0;
        few = omega (arith, few, long);
        base = base-same system found.0 found.1 (returned system found.0 found.1 c).top refl size
            (subst (IsWhole system) (bottom-push found.0 found.1 c.top) (subst (λ fs. IsWhole system (bottom fs c.top)) whole s.base));
      }

  -- ---- steps

  more-sized : (c : Config) → Sized system c → Sized system (more c)
  more-sized c s = plain-sized system c (more c) (same c (more c) refl refl refl) s

  counted-sized : (f : Config → Config) (c : Config) → Sized system c → Sized system (f (more c)) → Sized system (code_statement_counted f c)
  counted-sized f c s t = by (nat_lt c.rest.count most_counted)
    where
      by : (b : Bool) → Sized system (if b then f (more c) else faults 201 c)
      by true = t
      by false = plain-sized system c (faults 201 c) (same c _ refl refl refl) s

  inner-sized : (i : Instr) (behind : ℕ) (c : Config) → IsInstr false system (code_of system c) behind i → is_inner i ≡ true → Sized system c → Sized system (code_statement_counted (does system i) c)
  inner-sized i behind c is inner s =
      counted-sized (does system i) c s
      (plain-sized system (more c) (does system i (more c)) (does_plain system (code_of system c) behind (more c) s.frame i is.ranges is.kind inner) (more-sized c s))

  taken-call : (c : Config) (program : ℕ) (arguments : List StoragePlace) (keeps : Bool) → Sized system c → instr_of system c ≡ Some (Call program arguments keeps)
      → IsProgramCall system (length (code_of system c).storage) program arguments → Sized system (does system (Call program arguments keeps) c)
  taken-call c program arguments keeps s at is = by (spots_here c arguments) refl
    where
      by : (o : Option (List Spot)) → spots_here c arguments ≡ o → Sized system (with_taken o (calls system program keeps) c)
      by None found = plain-sized system c (faults 203 c) (same c _ refl refl refl) s
      by (Some places) found = calls-sized c program arguments keeps places s at is found

  act-sized : (i : Instr) (behind : ℕ) (c : Config) → instr_of system c ≡ Some i → IsInstr false system (code_of system c) behind i → Sized system c → Sized system (act system (Some i) c)
  act-sized (Jump n) behind c at is s = plain-sized system c _ (same c _ refl refl refl) s
  act-sized (ParagraphEnd start) behind c at is s = plain-sized system c _ (ends_plain start (split_last c.top.returns) c) s
  act-sized (Until paragraph cond) behind c at is s = plain-sized system c _ (test_plain paragraph (holds_here c cond) c) s
  act-sized NoCode behind c at is s = plain-sized system c _ (same c _ refl refl refl) s
  act-sized ExitProgram behind c at is s = counted-sized (does system ExitProgram) c s (left-sized (split_last c.rest.frames) (more c) refl (more-sized c s))
  act-sized (Call program arguments keeps) behind c at is s =
      counted-sized (does system (Call program arguments keeps)) c s (taken-call (more c) program arguments keeps (more-sized c s) at is.ranges)
  act-sized (JumpUnless cond n) behind c at is s = inner-sized (JumpUnless cond n) behind c is refl s
  act-sized (Move from to) behind c at is s = inner-sized (Move from to) behind c is refl s
  act-sized (Compute a) behind c at is s = inner-sized (Compute a) behind c is refl s
  act-sized (OnSizeError a n) behind c at is s = inner-sized (OnSizeError a n) behind c is refl s
  act-sized (Perform paragraph) behind c at is s = inner-sized (Perform paragraph) behind c is refl s
  act-sized (PerformTimes paragraph times) behind c at is s = inner-sized (PerformTimes paragraph times) behind c is refl s
  act-sized (PerformOneOf paragraphs position) behind c at is s = inner-sized (PerformOneOf paragraphs position) behind c is refl s
  act-sized Exit behind c at is s = inner-sized Exit behind c is refl s
  act-sized StopRun behind c at is s = inner-sized StopRun behind c is refl s
  act-sized (DisplayScreen screen base) behind c at is s = inner-sized (DisplayScreen screen base) behind c is refl s
  act-sized (Display one) behind c at is s = inner-sized (Display one) behind c is refl s
  act-sized (Accept screen keys) behind c at is s = inner-sized (Accept screen keys) behind c is refl s
  act-sized (Send class message codes) behind c at is s = inner-sized (Send class message codes) behind c is refl s
  act-sized Begin behind c at is s = inner-sized Begin behind c is refl s
  act-sized End behind c at is s = inner-sized End behind c is refl s
  act-sized Abort behind c at is s = inner-sized Abort behind c is refl s
  act-sized Restart behind c at is s = inner-sized Restart behind c is refl s
  act-sized (Receive into) behind c at is s = inner-sized (Receive into) behind c is refl s
  act-sized (Reply from) behind c at is s = inner-sized (Reply from) behind c is refl s
  act-sized (Read file locking key into) behind c at is s = inner-sized (Read file locking key into) behind c is refl s
  act-sized (ReadNext file locking after into) behind c at is s = inner-sized (ReadNext file locking after into) behind c is refl s
  act-sized (Write file from) behind c at is s = inner-sized (Write file from) behind c is refl s
  act-sized (Rewrite file from) behind c at is s = inner-sized (Rewrite file from) behind c is refl s
  act-sized (Delete file key) behind c at is s = inner-sized (Delete file key) behind c is refl s

  by-instr : (o : Option Instr) (c : Config) → instr_of system c ≡ o → Sized system c → Sized system (act system o c)
  by-instr None c at s = left-sized (split_last c.rest.frames) c refl s
  by-instr (Some i) c at s =
      let found = instr-at system (code_of system c) (code_of system c).instrs (valid-code system valid c.top.program s.known).instrs c.top.at i at in
      act-sized i found.0 c at found.1 s

  pub step-sized : (c : Config) → Sized system c → Sized system (step system c)
  step-sized c s =
      let asked = plain-sized system c (asks c) (same c _ refl refl refl) s in
      course-holds (Sized system) c.rest.course _ _ _ (by-instr (instr_of system c) c refl s) asked (λ code. asked)

  -- ---- answers

  reply-frames : (b : Bool) (rest : Context) → (if b then answered rest else unit_ended rest).frames ≡ rest.frames
  reply-frames true rest = refl
  reply-frames false rest = refl

  checked-plain : (c : Config) (table : ScreenTable) (line : EntryLineModel) (found : EntryAnswer) → All (IsField (length (code_of system c).storage)) table.fields → length (code_of system c).storage ≤ length c.top.storage
      → Plain c (entry_checked table line found c)
  checked-plain c table line (Valid place) fields le = record { program = refl; size = entered-size (length (code_of system c).storage) table.fields line.fields c.top.storage fields le; frames = refl }
  checked-plain c table line BadKey fields le = same c _ refl refl refl
  checked-plain c table line (BadField place) fields le = same c _ refl refl refl

  entry-plain : (c : Config) (table : ScreenTable) (keys : List ℕ) (a : Answer) → All (IsField (length (code_of system c).storage)) table.fields → length (code_of system c).storage ≤ length c.top.storage
      → Plain c (entry_put table keys a c)
  entry-plain c table keys (answer.Entry line) fields le = checked-plain c table line (check table keys line) fields le
  entry-plain c table keys answer.Shown fields le = same c _ refl refl refl
  entry-plain c table keys (answer.Begun r) fields le = same c _ refl refl refl
  entry-plain c table keys (answer.Replied reply) fields le = same c _ refl refl refl
  entry-plain c table keys (answer.Failed code) fields le = same c _ refl refl refl
  entry-plain c table keys answer.Ended fields le = same c _ refl refl refl
  entry-plain c table keys answer.Dropped fields le = same c _ refl refl refl
  entry-plain c table keys (answer.FileDone status content) fields le = same c _ refl refl refl

  -- the spot to which a reply goes
  spot-by : (c : Config) (codes : List ReplyCode) (place : ℕ) (o : Option ReplyCode) → slice_get codes place ≡ o → All (IsReplyCode (length (code_of system c).storage)) codes → (found : ℕ × Spot)
      → option_and_then (λ code. option_map (λ spot. (place, spot)) (spot_of (registers_of c.rest) c.top.storage code.yields)) o ≡ Some found → Sits (length (code_of system c).storage) found.1
  spot-by c codes place None at all found e = absurd (cc e)
  spot-by c codes place (Some code) at all found e = by (spot_of (registers_of c.rest) c.top.storage code.yields) refl e
    where
      is : IsPlace (length (code_of system c).storage) code.yields
      is = (subst (IsReplyCode (length (code_of system c).storage)) (get_or_from_slice_get codes place code code at) (all place code (slice_get_within codes place code at))).1

      by : (o : Option Spot) → spot_of (registers_of c.rest) c.top.storage code.yields ≡ o → option_map (λ spot. (place, spot)) o ≡ Some found → Sits (length (code_of system c).storage) found.1
      by (Some spot) at e =
          let own = spot-is (registers_of c.rest) c.top.storage (length (code_of system c).storage) code.yields is spot at in
          subst (λ (x : ℕ × Spot). Sits (length (code_of system c).storage) x.1) (some_is e) own.sits
      by None at e = absurd (cc e)

  spot-among : (c : Config) (codes : List ReplyCode) (o : Option ℕ) → All (IsReplyCode (length (code_of system c).storage)) codes → (found : ℕ × Spot) → option_and_then (spot_among c codes) o ≡ Some found
      → Sits (length (code_of system c).storage) found.1
  spot-among c codes (Some place) all found e = spot-by c codes place (slice_get codes place) refl all found e
  spot-among c codes None all found e = absurd (cc e)

  yielded-plain : (c : Config) (o : Option (ℕ × Spot)) (reply : List ℕ) → ((found : ℕ × Spot) → o ≡ Some found → Sits (length (code_of system c).storage) found.1) → length (code_of system c).storage ≤ length c.top.storage
      → Plain c (yielded o reply c)
  yielded-plain c None reply sits le = record { program = refl; size = refl; frames = reply-frames c.rest.in_unit c.rest }
  yielded-plain c (Some found) reply sits le = record {
    program = refl;
    size = move-size (length (code_of system c).storage) (Text' reply) found.1 c.top.storage (sits found refl) le;
    frames = reply-frames c.rest.in_unit c.rest;
  }

  reply-plain : (c : Config) (codes : List ReplyCode) (a : Answer) → All (IsReplyCode (length (code_of system c).storage)) codes → length (code_of system c).storage ≤ length c.top.storage → Plain c (reply_put codes a c)
  reply-plain c codes (answer.Replied reply) all le = yielded-plain c (option_and_then (spot_among c codes) (place_among codes reply)) reply (spot-among c codes (place_among codes reply) all) le
  reply-plain c codes (answer.Failed code) all le = same c _ refl refl refl
  reply-plain c codes answer.Shown all le = same c _ refl refl refl
  reply-plain c codes (answer.Entry line) all le = same c _ refl refl refl
  reply-plain c codes (answer.Begun r) all le = same c _ refl refl refl
  reply-plain c codes answer.Ended all le = same c _ refl refl refl
  reply-plain c codes answer.Dropped all le = same c _ refl refl refl
  reply-plain c codes (answer.FileDone status content) all le = same c _ refl refl refl

  begin-plain : (c : Config) (a : Answer) → Plain c (begin_put a c)
  begin-plain c (answer.Begun r) = same c _ refl refl refl
  begin-plain c answer.Shown = same c _ refl refl refl
  begin-plain c (answer.Entry line) = same c _ refl refl refl
  begin-plain c (answer.Replied reply) = same c _ refl refl refl
  begin-plain c (answer.Failed code) = same c _ refl refl refl
  begin-plain c answer.Ended = same c _ refl refl refl
  begin-plain c answer.Dropped = same c _ refl refl refl
  begin-plain c (answer.FileDone status content) = same c _ refl refl refl

  answered-plain : (c : Config) (behind : ℕ) (i : Instr) (a : Answer) → IsInstr false system (code_of system c) behind i → length (code_of system c).storage ≤ length c.top.storage → Plain c (answered_by system (Some i) a c)
  answered-plain c behind (DisplayScreen screen base) a is le = same c _ refl refl refl
  answered-plain c behind (Display one) a is le = same c _ refl refl refl
  answered-plain c behind (Accept screen keys) a is le = entry-plain c (screen_at system screen) keys a is.ranges.0.fields le
  answered-plain c behind (Send class message codes) a is le = reply-plain c codes a is.ranges.each le
  answered-plain c behind Begin a is le = begin-plain c a
  answered-plain c behind End a is le = same c _ refl refl refl
  answered-plain c behind Abort a is le = same c _ refl refl refl
  answered-plain c behind (Receive into) a is le = absurd (let kind = is.kind in cc kind)
  answered-plain c behind (Reply from) a is le = absurd (let kind = is.kind in cc kind)
  answered-plain c behind (Read file locking key into) a is le = absurd (let kind = is.kind in cc kind)
  answered-plain c behind (ReadNext file locking after into) a is le = absurd (let kind = is.kind in cc kind)
  answered-plain c behind (Write file from) a is le = absurd (let kind = is.kind in cc kind)
  answered-plain c behind (Rewrite file from) a is le = absurd (let kind = is.kind in cc kind)
  answered-plain c behind (Delete file key) a is le = absurd (let kind = is.kind in cc kind)
  answered-plain c behind (Jump n) a is le = same c _ refl refl refl
  answered-plain c behind (JumpUnless cond n) a is le = same c _ refl refl refl
  answered-plain c behind (ParagraphEnd start) a is le = same c _ refl refl refl
  answered-plain c behind (Move from to) a is le = same c _ refl refl refl
  answered-plain c behind (Compute one) a is le = same c _ refl refl refl
  answered-plain c behind (OnSizeError one n) a is le = same c _ refl refl refl
  answered-plain c behind (Perform paragraph) a is le = same c _ refl refl refl
  answered-plain c behind (PerformTimes paragraph times) a is le = same c _ refl refl refl
  answered-plain c behind (Until paragraph cond) a is le = same c _ refl refl refl
  answered-plain c behind (PerformOneOf paragraphs position) a is le = same c _ refl refl refl
  answered-plain c behind Exit a is le = same c _ refl refl refl
  answered-plain c behind ExitProgram a is le = same c _ refl refl refl
  answered-plain c behind StopRun a is le = same c _ refl refl refl
  answered-plain c behind (Call program arguments keeps) a is le = same c _ refl refl refl
  answered-plain c behind NoCode a is le = same c _ refl refl refl
  answered-plain c behind Restart a is le = same c _ refl refl refl

  put-by : (c : Config) (o : Option Instr) (a : Answer) → instr_of system c ≡ o → Sized system c → Plain c (answered_by system o a c)
  put-by c None a at s = same c _ refl refl refl
  put-by c (Some i) a at s =
      let found = instr-at system (code_of system c) (code_of system c).instrs (valid-code system valid c.top.program s.known).instrs c.top.at i at in
      answered-plain c found.0 i a found.1 s.frame

  pub put-sized : (a : Answer) (c : Config) → Sized system c → Sized system (put system a c)
  put-sized a c s =
      plain-sized system c (put system a c)
      (course-holds (Plain c) c.rest.course _ _ _ (put-by c (instr_of system c) a refl s) (same c (shown c) refl refl refl) (λ code. same c c refl refl refl)) s

  -- ---- runs

  start-sized : (program : ℕ) → program < length system.programs → Sized system (starting system program)
  start-sized program known = record {
    known = known;
    frame = let same = ap (λ (x : Code). length x.storage) (code-is system program known) in omega (arith, same);
    chain = tt;
    few = omega arith;
    base = ap (λ (x : Code). length x.storage) (sym (code-is system program known));
  }

  abbrev one_turn-of : ℕ → Config → List Answer → Bool → Run Config Answer
  one_turn-of n c answers b = elim b as (λ _. Run Config Answer) [
    | true ↦ elim answers as (λ _. Run Config Answer) [
      | [] ↦ record { at = c; left = [] }
      | a ∷ rest ↦ runs at_verb (step system) (put system) n (put system a c) rest
    ]
    | false ↦ runs at_verb (step system) (put system) n (step system c) answers
  ]

  run-sized : (n : ℕ) (c d : Config) (answers : List Answer) → runs at_verb (step system) (put system) n c answers ≡ record { at = d; left = [] } → Sized system c → Sized system d
  run-sized zero c d answers is s = subst (Sized system) (ap (λ (r : Run Config Answer). r.at) is) s
  run-sized (suc n) c d answers is s =
      by (at_verb c) answers is (λ a rest is. run-sized n (put system a c) d rest is (put-sized a c s)) (λ q is. run-sized n (step system c) d q is (step-sized c s))
    where
      by : (b : Bool) (q : List Answer) → one_turn-of n c q b ≡ record { at = d; left = [] }
          → ((a : Answer) (rest : List Answer) → runs at_verb (step system) (put system) n (put system a c) rest ≡ record { at = d; left = [] } → Sized system d)
          → ((q : List Answer) → runs at_verb (step system) (put system) n (step system c) q ≡ record { at = d; left = [] } → Sized system d) → Sized system d
      by true [] is one on = subst (Sized system) (ap (λ (r : Run Config Answer). r.at) is) s
      by true (a ∷ rest) is one on = one a rest is
      by false q is one on = on q is

  -- ---- what is sound, and how much it is

  waiting-of : (frames : List Frame) (top : Frame) → Chain system frames top → AreWaiting system frames top
  waiting-of [] top chain = tt
  waiting-of (frame ∷ frames) top chain = (chain.1.0, waiting-of frames top chain.1.1)

  sound-of : (c : Config) → Sized system c → IsSound system c
  sound-of c s = record {
    top = record { known = let known = s.known in omega (arith, known); storage = s.frame };
    waiting = waiting-of c.rest.frames c.top s.chain;
    few = s.few;
  }

  abbrev IsSmall : Frame → Type 0
  IsSmall frame = length frame.storage ≤ most_storage + 9

  kept-few : (keeps : Bool) → kept_size keeps ≤ 9
  kept-few true = omega arith
  kept-few false = omega arith

  callee-small : (caller callee : Frame) → callee.program < length system.programs → Waits system caller callee → IsSmall callee
  callee-small caller callee known w =
      let size = w.size in
      let few = kept-few w.keeps in
      let code = (valid-code system valid callee.program known).storage in
      omega (arith, size, few, code)

  chain-small : (frames : List Frame) (top : Frame) → Chain system frames top → top.program < length system.programs → IsSmall (bottom frames top) → All IsSmall (frames ++ top ∷ [])
  chain-small [] top chain known first = All-cons IsSmall top [] first (All-nil IsSmall)
  chain-small (frame ∷ []) top chain known first =
      All-cons IsSmall frame (top ∷ []) first (All-cons IsSmall top [] (callee-small frame top known chain.1.0) (All-nil IsSmall))
  chain-small (frame ∷ next ∷ frames) top chain known first =
      All-cons IsSmall frame (next ∷ frames ++ top ∷ []) first (chain-small (next ∷ frames) top chain.1.1 known (callee-small frame next chain.1.1.0 chain.1.0))

  bottom-known : (frames : List Frame) (top : Frame) → Chain system frames top → top.program < length system.programs → (bottom frames top).program < length system.programs
  bottom-known [] top chain known = known
  bottom-known (frame ∷ frames) top chain known = chain.0

  small-of : (c : Config) → Sized system c → All IsSmall (closed c).frames
  small-of c s =
      let first = bottom-known c.rest.frames c.top s.chain s.known in
      let code = (valid-code system valid (bottom c.rest.frames c.top).program first).storage in
      let base = s.base in
      chain-small c.rest.frames c.top s.chain s.known (omega (arith, base, code))

  pub sized : (program : ℕ) (answers : List Answer) (context : Context) → program < length system.programs → (stands : StandsFor system program answers context) → Sized system stands.at
  sized program answers context known stands = run-sized stands.comes.0 (starting system program) stands.at answers stands.comes.1 (start-sized program known)

pub sound-stands : (system : System) (program : ℕ) (answers : List Answer) (context : Context) → IsValid system → program < length system.programs → StandsFor system program answers context → IsSoundContext system context
sound-stands system program answers context valid known stands =
    record { at = stands.at; sound = sound-of system valid stands.at (sized system valid program answers context known stands); is = stands.is }

pub small-stands : (system : System) (program : ℕ) (answers : List Answer) (context : Context) → IsValid system → program < length system.programs → StandsFor system program answers context
    → All (λ frame. length frame.storage ≤ most_storage + 9) context.frames
small-stands system program answers context valid known stands =
    subst (λ (x : Context). All (λ (frame : Frame). length frame.storage ≤ most_storage + 9) x.frames) (sym stands.is) (small-of system valid stands.at (sized system valid program answers context known stands))
