-- The instruction at which a program stands can be done on its storage, which is not smaller than that of its code.
use Rattle.std.proofs.Common.{◌≡◌, ℕ, zero, suc, ◌+◌, ◌-◌, ◌<◌, ◌≤◌, Bool, true, false, List, [], ◌∷◌, length, Option, Some, None, refl, subst, arith}
use Rattle.std.specs.Prelude.{slice_get, slice_index_or, nat_lt, if◌then◌else◌}
use Rattle.std.proofs.lemmas.Bool.{ltb-true, ltb-false}
use Rattle.std.proofs.lemmas.List.Elements.{All-get_or, All-weaker}
use Rattle.std.proofs.lemmas.Option.{slice_get_within, same_Some}
use Rattle.pw_code.specs.Fields.{IsField, HasClauses}
use Rattle.pw_code.specs.Instrs.{AreInstrs, HasRanges, IsArithmetic, IsInstr, IsItemOperand, IsKey, IsRecord, IsReplyCode, IsScreen, IsTurn, no_code, program_at, screen_at}
use Rattle.pw_code.specs.Places.{IsComparison, IsOperand, IsPlace, IsSubscriptInStorage, LiesIn}
use Rattle.pw_code.specs.Valid.{IsCode, IsValid}
use Rattle.pw_code.specs.declared.code.Code.{Code}
use Rattle.pw_code.specs.declared.cond.Comparison.{Comparison}
use Rattle.pw_code.specs.declared.cond.Comparison.TheVariants.{Compare, Numeric}
use Rattle.pw_code.specs.declared.context.Frame.{Frame}
use Rattle.pw_code.specs.declared.field.Field.{Field}
use Rattle.pw_code.specs.declared.field.FieldKind.{FieldKind}
use Rattle.pw_code.specs.declared.field.FieldKind.TheVariants as field
use Rattle.pw_code.specs.declared.instr.Arithmetic.{Arithmetic}
use Rattle.pw_code.specs.declared.instr.Instr.{Instr}
use Rattle.pw_code.specs.declared.instr.Instr.TheVariants.{Jump, JumpUnless, ParagraphEnd, Move, Compute, OnSizeError, Perform, PerformTimes, Until, PerformOneOf, Exit, ExitProgram, StopRun, DisplayScreen, Display, Accept, Call, Send, NoCode, Begin, End, Abort, Restart, Receive, Reply, Read, ReadNext, Write, Rewrite, Delete}
use Rattle.pw_code.specs.declared.instr.ReplyCode.{ReplyCode}
use Rattle.pw_code.specs.declared.operand.InstructionOperand.{InstructionOperand}
use Rattle.pw_code.specs.declared.operand.InstructionOperand.TheVariants as operand
use Rattle.pw_code.specs.declared.place.StoragePlace.{StoragePlace}
use Rattle.pw_code.specs.declared.place.PlaceSubscript.{PlaceSubscript}
use Rattle.pw_code.specs.declared.place.PlaceSubscript.TheVariants as subscript
use Rattle.pw_code.specs.declared.place.PlaceTable.{PlaceTable}
use Rattle.pw_code.specs.declared.system.System.{System}
use Rattle.pw_code_meaning.specs.Config.{code_at}
use Rattle.pw_code_meaning.specs.Sound.{IsFrame}
use Rattle.pw_machine.specs.Stack.{CanDoInstr}

-- ---- what lies in a storage lies in a larger one

subscript_grows : (m n : ℕ) → m ≤ n → (s : PlaceSubscript) → IsSubscriptInStorage m s → IsSubscriptInStorage n s
subscript_grows m n le (subscript.Number k) is = is
subscript_grows m n le (subscript.Item at digits places) is = (is.0, omega (arith, is.1))
subscript_grows m n le (subscript.Register r) is = is

lies_grows : (m n : ℕ) → m ≤ n → (at size : ℕ) (o : Option PlaceTable) → LiesIn m at size o → LiesIn n at size o
lies_grows m n le at size None is = omega (arith, is)
lies_grows m n le at size (Some table) is = record { subscript = subscript_grows m n le table.subscript is.subscript; some = is.some; few = is.few; inside = omega (arith, is.inside) }

pub place_grows : (m n : ℕ) → m ≤ n → (p : StoragePlace) → IsPlace m p → IsPlace n p
place_grows m n le p is = record { picture = is.picture; inside = lies_grows m n le p.at p.size p.table is.inside }

pub operand_grows : (m n : ℕ) → m ≤ n → (o : InstructionOperand) → IsOperand m o → IsOperand n o
operand_grows m n le (operand.Item p) is = place_grows m n le p is
operand_grows m n le (operand.Register r) is = is
operand_grows m n le (operand.Number spelling value) is = is
operand_grows m n le (operand.Text chars) is = is
operand_grows m n le operand.Spaces is = is
operand_grows m n le operand.Zeros is = is

comparison_grows : (m n : ℕ) → m ≤ n → (c : Comparison) → IsComparison m c → IsComparison n c
comparison_grows m n le (Compare left negated op right) is = (operand_grows m n le left is.0, operand_grows m n le right is.1)
comparison_grows m n le (Numeric a negated) is = operand_grows m n le a is

arithmetic_grows : (m n : ℕ) → m ≤ n → (a : Arithmetic) → IsArithmetic m a → IsArithmetic n a
arithmetic_grows m n le a is = record { first = operand_grows m n le a.first is.first; second = operand_grows m n le a.second is.second; receiver = place_grows m n le a.receiver is.receiver }

clauses_grow : (m n : ℕ) → m ≤ n → (k : FieldKind) (takes : Bool) → HasClauses m k takes → HasClauses n k takes
clauses_grow m n le (field.Literal text) takes is = is
clauses_grow m n le (field.Item picture at source show) takes is =
    (record { field = is.0.field; item = is.0.item; kinds = is.0.kinds; inside = omega (arith, is.0.inside) }, is.1)

field_grows : (m n : ℕ) → m ≤ n → (f : Field) → IsField m f → IsField n f
field_grows m n le f is = record { clauses = clauses_grow m n le f.shown f.takes is.clauses; inside = is.inside }

screen_grows : (m n : ℕ) → m ≤ n → (system : System) (screen : ℕ) → IsScreen system m screen → IsScreen system n screen
screen_grows m n le system screen is = record { known = is.known; fields = All-weaker (IsField m) (IsField n) (field_grows m n le) (screen_at system screen).fields is.fields }

item_grows : (m n : ℕ) → m ≤ n → (o : InstructionOperand) → IsItemOperand m o → IsItemOperand n o
item_grows m n le o is = record { operand = operand_grows m n le o is.operand; item = is.item }

code_grows : (m n : ℕ) → m ≤ n → (code : ReplyCode) → IsReplyCode m code → IsReplyCode n code
code_grows m n le code is = (is.0, place_grows m n le code.yields is.1)

key_grows : (m n : ℕ) → m ≤ n → (system : System) (file : ℕ) (key : InstructionOperand) → IsKey system m file key → IsKey system n file key
key_grows m n le system file key is = record { known = is.known; operand = item_grows m n le key is.operand; size = is.size }

record_grows : (m n : ℕ) → m ≤ n → (system : System) (file : ℕ) (from : InstructionOperand) → IsRecord system m file from → IsRecord system n file from
record_grows m n le system file from is = record { known = is.known; operand = item_grows m n le from is.operand; least = is.least; most = is.most }

-- the code with another storage
abbrev over : Code → List ℕ → Code
over code storage = record code { storage = storage }

pub ranges_grow : (system : System) (code : Code) (s : List ℕ) → length code.storage ≤ length s → (behind : ℕ) (i : Instr) → HasRanges system code behind i → HasRanges system (over code s) behind i
ranges_grow system code s le behind (Jump n) is = is
ranges_grow system code s le behind (JumpUnless cond n) is =
    (All-weaker _ _ (All-weaker _ _ (comparison_grows (length code.storage) (length s) le)) cond.any is.0, is.1)
ranges_grow system code s le behind (ParagraphEnd start) is = is
ranges_grow system code s le behind (Move from to) is = (operand_grows _ _ le from is.0, All-weaker _ _ (place_grows _ _ le) to is.1)
ranges_grow system code s le behind (Compute a) is = arithmetic_grows _ _ le a is
ranges_grow system code s le behind (OnSizeError a n) is = (arithmetic_grows _ _ le a is.0, is.1)
ranges_grow system code s le behind (Perform turn) is = record { start = is.start; end = is.end }
ranges_grow system code s le behind (PerformTimes turn times) is = (record { start = is.0.start; end = is.0.end }, operand_grows _ _ le times is.1)
ranges_grow system code s le behind (Until turn cond) is =
    (record { start = is.0.start; end = is.0.end }, All-weaker _ _ (All-weaker _ _ (comparison_grows (length code.storage) (length s) le)) cond.any is.1)
ranges_grow system code s le behind (PerformOneOf turns position) is =
    (All-weaker (IsTurn code) (IsTurn (over code s)) (λ turn is. record { start = is.start; end = is.end }) turns is.0, operand_grows _ _ le position is.1)
ranges_grow system code s le behind Exit is = is
ranges_grow system code s le behind ExitProgram is = is
ranges_grow system code s le behind StopRun is = is
ranges_grow system code s le behind (DisplayScreen screen base) is = screen_grows _ _ le system screen is
ranges_grow system code s le behind (Display shown) is = operand_grows _ _ le shown is
ranges_grow system code s le behind (Accept screen keys) is = (screen_grows _ _ le system screen is.0, is.1)
ranges_grow system code s le behind (Call program arguments keeps) is = record { known = is.known; places = All-weaker _ _ (place_grows _ _ le) arguments is.places; sizes = is.sizes }
ranges_grow system code s le behind (Send class message codes) is =
    record { known = is.known; sent = item_grows _ _ le message is.sent; few = is.few; each = All-weaker _ _ (code_grows (length code.storage) (length s) le) codes is.each; over = is.over }
ranges_grow system code s le behind NoCode is = is
ranges_grow system code s le behind Begin is = is
ranges_grow system code s le behind End is = is
ranges_grow system code s le behind Abort is = is
ranges_grow system code s le behind Restart is = is
ranges_grow system code s le behind (Receive into) is = place_grows _ _ le into is
ranges_grow system code s le behind (Reply from) is = item_grows _ _ le from is
ranges_grow system code s le behind (Read file locking key into) is = (key_grows _ _ le system file key is.0, place_grows _ _ le into is.1)
ranges_grow system code s le behind (ReadNext file locking after into) is = (key_grows _ _ le system file after is.0, place_grows _ _ le into is.1)
ranges_grow system code s le behind (Write file from) is = record_grows _ _ le system file from is
ranges_grow system code s le behind (Rewrite file from) is = record_grows _ _ le system file from is
ranges_grow system code s le behind (Delete file key) is = key_grows _ _ le system file key is

-- ---- the instruction at a place

instr_in : (server : Bool) (system : System) (code : Code) (instrs : List Instr) (k : ℕ) (i : Instr) → AreInstrs server system code instrs → slice_get instrs k ≡ Some i
    → IsInstr server system code (length instrs - (k + 1)) i
instr_in server system code [] k i are e = absurd (omega (arith, slice_get_within [] k i e))
instr_in server system code (x ∷ xs) zero i are e =
    let n : length xs ≡ length (x ∷ xs) - (0 + 1) = omega arith in
    subst (λ m. IsInstr server system code m i) n (subst (IsInstr server system code (length xs)) (same_Some x i e) are.0)
instr_in server system code (x ∷ xs) (suc k) i are e =
    let n : length xs - (k + 1) ≡ length (x ∷ xs) - (suc k + 1) = omega arith in
    subst (λ m. IsInstr server system code m i) n (instr_in server system code xs k i are.1 e)

-- the code of a number is one
pub record Coded (system : System) (code : Code) : Type 0 where
  pub server : Bool
  pub is : IsCode server system code

pub coded : (system : System) (n : ℕ) → IsValid system → n < length system.programs + length system.servers → Coded system (code_at system n)
coded system n valid known = pick (nat_lt n (length system.programs)) refl
  where
    pick : (b : Bool) → nat_lt n (length system.programs) ≡ b
        → Coded system (if b then program_at system n else slice_index_or system.servers (n - length system.programs) no_code)
    pick true e = record { server = false; is = All-get_or (IsCode false system) system.programs n no_code (ltb-true n (length system.programs) e) valid.programs }
    pick false e =
        let le : length system.programs ≤ n = ltb-false n (length system.programs) e in
        record { server = true; is = All-get_or (IsCode true system) system.servers (n - length system.programs) no_code (omega arith) valid.servers }

pub can_do : (system : System) (frame : Frame) (i : Instr) → IsValid system → IsFrame system frame
    → slice_get (code_at system frame.program).instrs frame.at ≡ Some i → CanDoInstr system frame i
can_do system frame i valid is e =
    let code = coded system frame.program valid is.known in
    let one = instr_in code.server system (code_at system frame.program) (code_at system frame.program).instrs frame.at i code.is.instrs e in
    record {
      within = slice_get_within (code_at system frame.program).instrs frame.at i e;
      many = code.is.places;
      ranges = ranges_grow system (code_at system frame.program) frame.storage is.storage _ i one.ranges;
    }
