-- Small codes by hand, for the worked examples.
use Rattle.std.specs.Prelude.{ℕ, List, [], ◌∷◌, codes, true, false, Some, None}
use Rattle.pw_picture.specs.declared.picture.Picture.TheVariants as picture
use Rattle.pw_code.specs.Spelling.{number_in}
use Rattle.pw_code.specs.declared.code.Code.{Code}
use Rattle.pw_code.specs.declared.cond.Comparison.{Comparison}
use Rattle.pw_code.specs.declared.cond.Comparison.TheVariants.{Compare}
use Rattle.pw_code.specs.declared.cond.Cond.{Cond}
use Rattle.pw_code.specs.declared.cond.ComparisonOperator.{ComparisonOperator}
use Rattle.pw_code.specs.declared.cond.ComparisonOperator.TheVariants.{Equal, Greater}
use Rattle.pw_code.specs.declared.field.FieldKind.TheVariants as field
use Rattle.pw_code.specs.declared.field.ScreenTable.{ScreenTable}
use Rattle.pw_code.specs.declared.instr.Instr.{Instr}
use Rattle.pw_code.specs.declared.instr.Instr.TheVariants.{JumpUnless, ParagraphEnd, Move, Compute, OnSizeError, PerformTimes, Until, PerformOneOf, Exit, StopRun, Display, Accept, Call, Send, NoCode, Begin, End, Receive, Reply, Read}
use Rattle.pw_code.specs.declared.instr.ArithmeticOperation.{ArithmeticOperation}
use Rattle.pw_code.specs.declared.instr.ArithmeticOperation.TheVariants.{Add, Divide}
use Rattle.pw_code.specs.declared.instr.Arithmetic.{Arithmetic}
use Rattle.pw_code.specs.declared.instr.Turn.{Turn}
use Rattle.pw_code.specs.declared.lock.LockRule.TheVariants.{ReadersShare}
use Rattle.pw_code.specs.declared.operand.InstructionOperand.{InstructionOperand}
use Rattle.pw_code.specs.declared.operand.InstructionOperand.TheVariants as operand
use Rattle.pw_code.specs.declared.place.Kind.{Kind}
use Rattle.pw_code.specs.declared.place.Kind.TheVariants.{Group, Text, Number}
use Rattle.pw_code.specs.declared.place.StoragePlace.{StoragePlace}
use Rattle.pw_code.specs.declared.place.PlaceSubscript.TheVariants as subscript
use Rattle.pw_code.specs.declared.system.System.{System}

-- ---- operands

-- an item of a kind at a place
abbrev pub item : Kind → ℕ → ℕ → StoragePlace
item kind at size = record { at = at; size = size; kind = kind; table = None }

-- an unsigned number of some digits
abbrev pub digits : ℕ → ℕ → StoragePlace
digits at count = item (Number count 0 false) at count

-- a digit of three from a place on, by the digit at another place
abbrev pub digit_by : ℕ → ℕ → StoragePlace
digit_by at index = record {
  at = at;
  size = 1;
  kind = Number 1 0 false;
  table = Some (record { subscript = subscript.Item index 1 0; occurs = 3; step = 1 });
}

-- a number as it is written
abbrev pub literal : List ℕ → InstructionOperand
literal spelling = operand.Number spelling (number_in spelling)

-- a comparison of an item with a number
abbrev pub compares : StoragePlace → ComparisonOperator → List ℕ → Comparison
compares place operator spelling = Compare (operand.Item place) false operator (literal spelling)

-- both hold
abbrev pub both : Comparison → Comparison → Cond
both a b = record { any = (a ∷ b ∷ []) ∷ [] }

-- a condition of one comparison alone
abbrev pub alone : Comparison → Cond
alone a = record { any = (a ∷ []) ∷ [] }

-- an operation with a number on the first digit
abbrev pub on_digit : ArithmeticOperation → List ℕ → Arithmetic
on_digit operation spelling = record {
  operation = operation;
  first = literal spelling;
  second = operand.Item (digits 0 1);
  receiver = digits 0 1;
}

-- a paragraph from one place to its end
abbrev pub paragraph : ℕ → ℕ → Turn
paragraph start end = record { start = start; end = end }

-- ---- systems

-- a sample program with these instructions
abbrev pub code : List ℕ → List Instr → Code
code storage instrs =
    record { name = codes "SAMPLE"; instrs = instrs; storage = storage; linkage = [] }

-- some programs, a server, a class of it, and a file with keys of two characters
abbrev pub system_of : List Code → Code → List ScreenTable → System
system_of programs server screens = record {
  programs = programs;
  servers = server ∷ [];
  screens = screens;
  classes = (record { name = codes "STORE"; server = 0; processes = 1 }) ∷ [];
  files = (record { name = codes "STOCK"; key = 2; records = codes "A10005" ∷ [] }) ∷ [];
  tcps = [];
  terminals = [];
  rule = ReadersShare;
}

-- one program alone
abbrev pub alone_of : Code → System
alone_of program = system_of (program ∷ []) (code [] []) []

-- ---- programs

-- P1. PERFORM P2 UNTIL N = 3. STOP RUN. P2. ADD 1 TO N. DISPLAY N.
abbrev pub counting : Code
counting = code (codes "0") (
    Exit ∷ Until (paragraph 4 6) (alone (compares (digits 0 1) Equal (codes "3"))) ∷ StopRun
    ∷ ParagraphEnd 0
    ∷ Compute (on_digit Add (codes "1"))
    ∷ Display (operand.Item (digits 0 1)) ∷ ParagraphEnd 4 ∷ [])

-- P1. PERFORM P2 N TIMES. PERFORM ONE OF P2 P3 DEPENDING ON N. STOP RUN. P2. DISPLAY N. P3.
-- DISPLAY "LAST".
abbrev pub turning : List ℕ → Code
turning n = code n (
    PerformTimes (paragraph 4 5) (operand.Item (digits 0 1))
    ∷ PerformOneOf (paragraph 4 5 ∷ paragraph 6 7 ∷ []) (operand.Item (digits 0 1)) ∷ StopRun
    ∷ ParagraphEnd 0
    ∷ Display (operand.Item (digits 0 1)) ∷ ParagraphEnd 4 ∷ Display (operand.Text (codes "LAST"))
    ∷ ParagraphEnd 6 ∷ [])

-- P1. IF I > 0 AND A (I) = 0 DISPLAY "YES" END-IF. STOP RUN.
abbrev pub testing : List ℕ → Code
testing i = code i (
    JumpUnless
    (both (compares (digits 0 1) Greater (codes "0")) (compares (digit_by 1 0) Equal (codes "0"))) 1
    ∷ Display (operand.Text (codes "YES")) ∷ StopRun ∷ ParagraphEnd 0 ∷ [])

-- P1. MOVE 2 TO I A (I). DISPLAY ALL. STOP RUN.
abbrev pub moving : Code
moving = code (codes "1000") (
    Move (literal (codes "2")) (digits 0 1 ∷ digit_by 1 0 ∷ [])
    ∷ Display (operand.Item (item Group 0 4)) ∷ StopRun ∷ ParagraphEnd 0 ∷ [])

-- P1. DIVIDE 0 INTO N ON SIZE ERROR DISPLAY "LARGE" ELSE DISPLAY N END-IF. STOP RUN.
abbrev pub dividing : Code
dividing = code (codes "5") (
    OnSizeError (on_digit Divide (codes "0")) 1
    ∷ Display (operand.Text (codes "LARGE")) ∷ Display (operand.Item (digits 0 1)) ∷ StopRun
    ∷ ParagraphEnd 0 ∷ [])

-- P1. CALL B USING I A (I). DISPLAY ALL. STOP RUN. and B: P1. MOVE 2 TO X. MOVE 7 TO Y.
abbrev pub calling : System
calling = system_of (
    code (codes "1000") (
    Call 1 (digits 0 1 ∷ digit_by 1 0 ∷ []) false
    ∷ Display (operand.Item (item Group 0 4)) ∷ StopRun ∷ ParagraphEnd 0 ∷ [])
    ∷ (record {
      name = codes "B";
      instrs =
          Move (literal (codes "2")) (digits 0 1 ∷ []) ∷ Move (literal (codes "7")) (digits 1 1 ∷ [])
          ∷ ParagraphEnd 0 ∷ [];
      storage = codes "00";
      linkage = (0, 1) ∷ (1, 1) ∷ [];
    }) ∷ []) (code [] []) []

-- A program that calls itself, again and again: P1. CALL A.
abbrev pub calling_itself : System
calling_itself = alone_of (code (codes "0") (Call 0 [] false ∷ ParagraphEnd 0 ∷ []))

-- P1. BEGIN-TRANSACTION. SEND M TO STORE REPLY CODE 5 YIELDS ANS. END-TRANSACTION. STOP RUN.
abbrev pub sending : Code
sending = code (codes "M      ") (
    Begin
    ∷ Send 0 (operand.Item (item Text 0 1)) ((record { number = 5; yields = item Text 1 6 }) ∷ [])
    ∷ NoCode ∷ End
    ∷ StopRun ∷ ParagraphEnd 0 ∷ [])

-- 01 ASK. 02 F-N AT 1, 1 PIC 9(2) USING N. P1. ACCEPT ASK UNTIL F1, F2. DISPLAY N. STOP RUN.
abbrev pub asking : System
asking = system_of (
    code (codes "00") (
    Accept 0 (1 ∷ 2 ∷ []) ∷ Display (operand.Item (digits 0 2)) ∷ StopRun ∷ ParagraphEnd 0 ∷ [])
    ∷ []) (code [] []) (
    (record {
      name = codes "ASK";
      fields = (record {
        name = codes "F-N";
        row = 1;
        column = 1;
        shown = field.Item (picture.Number 2 0 false) 0 (picture.Number 2 0 false) true;
        takes = true;
      }) ∷ [];
    }) ∷ [])

-- P1. READ $RECEIVE INTO KEY. READ STOCK KEY KEY INTO REC. WRITE $RECEIVE FROM ALL.
abbrev pub serving : System
serving = system_of [] (code (codes "  ......") (
    Receive (item Text 0 2) ∷ Read 0 false (operand.Item (item Text 0 2)) (item Text 2 6)
    ∷ Reply (operand.Item (item Group 0 8)) ∷ ParagraphEnd 0 ∷ [])) []
