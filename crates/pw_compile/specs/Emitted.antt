-- The instructions of statements, paragraphs and procedures.
use Rattle.std.specs.Prelude.{ℕ, ◌+◌, Bool, true, false, ◌||◌, List, [], ◌∷◌, ◌++◌, map, bytes_eq, position, is_some, Option, Some, None}
use Rattle.std.specs.List.{list_any}
use Rattle.pw_words.specs.Words.{Word}
use Rattle.pw_forms.specs.declared.lists.SendCode.{SendCode}
use Rattle.pw_forms.specs.declared.operand.Operand.{Operand}
use Rattle.pw_forms.specs.declared.operand.Operand.TheVariants as operands
use Rattle.pw_forms.specs.declared.statement.Paragraph.{Paragraph}
use Rattle.pw_forms.specs.declared.statement.Statement.{Statement, Row_of-Statement, end_of-Statement, more_of-Statement}
use Rattle.pw_forms.specs.declared.statement.Statement as form
use Rattle.pw_code.specs.declared.field.ScreenTable.{ScreenTable}
use Rattle.pw_code.specs.declared.instr.Instr.{Instr}
use Rattle.pw_code.specs.declared.instr.Instr.TheVariants as instr
use Rattle.pw_code.specs.declared.instr.ReplyCode.{ReplyCode}
use Rattle.pw_code.specs.declared.place.StoragePlace.{StoragePlace}
use Rattle.pw_code.specs.declared.place.PlaceSubscript as index
use Rattle.pw_code.specs.declared.place.PlaceSubscript.TheVariants as subscript
use Rattle.pw_code.specs.declared.place.PlaceTable.{PlaceTable}
use Rattle.pw_compile.specs.Conditions.{cond_of, arithmetic_of}
use Rattle.pw_compile.specs.Operands.{operand_of, place_in}
use Rattle.pw_compile.specs.Plan.{Plan, turn_of, planned_screen, planned_program, planned_class, file_of}
use Rattle.pw_compile.specs.Sizes.{row_size, body_size}

-- ---- DISPLAY: a screen, where the name is one, and else an operand

-- a program has a screen of this name
abbrev pub has_screen : List ScreenTable → Word → Bool
has_screen screens name = is_some (position (λ screen. bytes_eq screen.name name) screens)

-- DISPLAY of a name, by whether a screen has it
abbrev pub display_by : Plan → Bool → Word → Operand → Instr
display_by plan true name shown = instr.DisplayScreen (planned_screen plan name) false
display_by plan false name shown = instr.Display (operand_of plan.layout shown)

-- DISPLAY of an operand
abbrev pub display_of : Plan → Operand → Instr
display_of plan (operands.Item name None) =
    display_by plan (has_screen plan.screens name) name (operands.Item name None)
display_of plan shown = instr.Display (operand_of plan.layout shown)

-- ---- CALL: it keeps the registers where one is a subscript

-- a subscript is a register
abbrev pub is_register : index.PlaceSubscript → Bool
is_register (subscript.Register register) = true
is_register _ = false

-- a register says which occurrence of a table is meant
abbrev pub is_by_register : Option PlaceTable → Bool
is_by_register None = false
is_by_register (Some table) = is_register table.subscript

-- a CALL with these arguments keeps the registers
abbrev pub keeps : List StoragePlace → Bool
keeps places = list_any (λ place. is_by_register place.table) places

-- the items of arguments and of receivers
abbrev pub places_of : Plan → List Operand → List StoragePlace
places_of plan operands = map (place_in plan.layout) operands

-- CALL of a program with arguments
abbrev pub call_of : Plan → Word → List Operand → Instr
call_of plan program arguments =
    instr.Call (planned_program plan program) (places_of plan arguments) (keeps (places_of plan arguments))

-- ---- SEND

-- a code of a SEND, and the place of the item that it yields
abbrev pub reply_code : Plan → SendCode → ReplyCode
reply_code plan code = record { number = code.number; yields = place_in plan.layout code.yields }

-- ---- statements

module _ (plan : Plan) where
  abbrev mutual
    pub statement_code : Statement → List Instr
    statement_code (form.Move line from to) =
        instr.Move (operand_of plan.layout from) (places_of plan to) ∷ []
    statement_code (form.Arithmetic line a) = instr.Compute (arithmetic_of plan.layout a) ∷ []
    statement_code (form.OnSizeError' line a n first m second) =
        instr.OnSizeError (arithmetic_of plan.layout a) (row_size first + 1)
        ∷ (row_code first ++ instr.Jump (row_size second) ∷ row_code second)
    statement_code (form.If' line cond n first m second) =
        instr.JumpUnless (cond_of plan.layout cond) (row_size first + 1)
        ∷ (row_code first ++ instr.Jump (row_size second) ∷ row_code second)
    statement_code (form.Perform line paragraph) = instr.Perform (turn_of plan paragraph) ∷ []
    statement_code (form.PerformTimes line paragraph times) =
        instr.PerformTimes (turn_of plan paragraph) (operand_of plan.layout times) ∷ []
    statement_code (form.PerformUntil line paragraph cond) =
        instr.Exit ∷ instr.Until (turn_of plan paragraph) (cond_of plan.layout cond) ∷ []
    statement_code (form.PerformOneOf line paragraphs position) =
        instr.PerformOneOf (map (turn_of plan) paragraphs) (operand_of plan.layout position) ∷ []
    statement_code (form.Exit line) = instr.Exit ∷ []
    statement_code (form.ExitProgram line) = instr.ExitProgram ∷ []
    statement_code (form.StopRun line) = instr.StopRun ∷ []
    statement_code (form.DisplayBase line screen) =
        instr.DisplayScreen (planned_screen plan screen) true ∷ []
    statement_code (form.Display line shown) = display_of plan shown ∷ []
    statement_code (form.Accept line screen keys) = instr.Accept (planned_screen plan screen) keys ∷ []
    statement_code (form.Call line program arguments) = call_of plan program arguments ∷ []
    statement_code (form.Send line message class codes) =
        instr.Send (planned_class plan class) (operand_of plan.layout message) (map (reply_code plan) codes)
        ∷ instr.NoCode ∷ []
    statement_code (form.Begin line) = instr.Begin ∷ []
    statement_code (form.End line) = instr.End ∷ []
    statement_code (form.Abort line) = instr.Abort ∷ []
    statement_code (form.Restart line) = instr.Restart ∷ []
    statement_code (form.Receive line into) = instr.Receive (place_in plan.layout into) ∷ []
    statement_code (form.Reply line from) = instr.Reply (operand_of plan.layout from) ∷ []
    statement_code (form.Read line file locking key into) =
        instr.Read (file_of plan file) locking (operand_of plan.layout key) (place_in plan.layout into)
        ∷ []
    statement_code (form.ReadNext line file locking after into) =
        instr.ReadNext (file_of plan file) locking (operand_of plan.layout after)
        (place_in plan.layout into)
        ∷ []
    statement_code (form.Write line file from) =
        instr.Write (file_of plan file) (operand_of plan.layout from) ∷ []
    statement_code (form.Rewrite line file from) =
        instr.Rewrite (file_of plan file) (operand_of plan.layout from) ∷ []
    statement_code (form.Delete line file key) =
        instr.Delete (file_of plan file) (operand_of plan.layout key) ∷ []

    -- the statements of a branch
    pub row_code : {n : _} → Row_of-Statement n → List Instr
    row_code end_of-Statement = []
    row_code (more_of-Statement one rest) = statement_code one ++ row_code rest

  -- the statements of a paragraph
  abbrev pub body_code : List Statement → List Instr
  body_code [] = []
  body_code (one ∷ rest) = statement_code one ++ body_code rest

  -- the paragraphs from a place on, each with its end
  abbrev pub procedure_code : ℕ → List Paragraph → List Instr
  procedure_code at [] = []
  procedure_code at (paragraph ∷ paragraphs) =
      body_code paragraph.body
      ++ instr.ParagraphEnd at ∷ procedure_code (at + body_size paragraph.body + 1) paragraphs
