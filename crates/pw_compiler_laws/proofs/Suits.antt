-- What is known of the statements of a program whose names resolve.
use Rattle.std.proofs.Common.{◌≡◌, true, false, List, Option, Some, None, IsSome}
use Rattle.pw_words.specs.Words.{Word}
use Rattle.pw_forms.specs.declared.operand.Operand.{Operand}
use Rattle.pw_forms.specs.declared.operand.Operand.TheVariants as operands
use Rattle.pw_forms.specs.declared.statement.ArithmeticForm.{ArithmeticForm}
use Rattle.pw_forms.specs.declared.statement.Statement.{Statement, Row_of-Statement, end_of-Statement, more_of-Statement}
use Rattle.pw_forms.specs.declared.statement.Statement as form
use Rattle.pw_operands.specs.Resolved.{Each}
use Rattle.pw_operands.specs.Scope.{paragraph_of}
use Rattle.pw_code.specs.Instrs.{screen_at}
use Rattle.pw_code.specs.declared.field.Field.{Field}
use Rattle.pw_code.specs.declared.field.ScreenTable.{ScreenTable}
use Rattle.pw_code.specs.declared.system.System.{System}
use Rattle.pw_tree_meaning.specs.Program.{screen_named}
use Rattle.pw_tree_meaning.specs.Setting.{Setting}
use Rattle.pw_tree_meaning.specs.Arithmetic as computing
use Rattle.pw_tree_meaning.specs.Sends.{yields_of}
use Rattle.pw_tree_meaning.specs.Sound.{scope_of}
use Rattle.pw_compile.specs.Plan.{planned_screen}
use Rattle.pw_base.specs.Limits.{most_occurrences}
use Rattle.pw_code.specs.declared.place.StoragePlace.{StoragePlace}
use Rattle.pw_code.specs.declared.place.Register.{Register}
use Rattle.pw_code.specs.declared.place.Register.TheVariants as register
use Rattle.pw_code.specs.declared.place.PlaceSubscript as index
use Rattle.pw_code.specs.declared.place.PlaceSubscript.TheVariants as subscript
use Rattle.pw_code.specs.declared.place.PlaceTable.{PlaceTable}
use Rattle.std.specs.Prelude.{◌≤◌, ◌<◌, IfSome, length}
use Rattle.pw_tree_meaning.specs.Program.{program_number}
use Rattle.pw_compiler_laws.specs.Premises.{IsShownOf, CallFits, arguments_of}
use Rattle.pw_compiler_laws.specs.Systems.{plan_in}
use Rattle.pw_compiler_laws.proofs.Operands.{Indexed}
use Rattle.pw_compiler_laws.proofs.Readings.{ComparisonIndexed}

-- a register by which an argument's subscript may go
abbrev pub IsKept : Register → Type 0
IsKept register.Termination = Unit {0}
IsKept register.Restarts = Unit {0}
IsKept register.FileStatus = ⊥

abbrev pub IsKeptIndex : index.PlaceSubscript → Type 0
IsKeptIndex (subscript.Register one) = IsKept one
IsKeptIndex _ = Unit {0}

-- an argument goes by such a register alone
abbrev pub IsKeptTable : Option PlaceTable → Type 0
IsKeptTable None = Unit {0}
IsKeptTable (Some table) = IsKeptIndex table.subscript

abbrev pub IsKeptPlace : StoragePlace → Type 0
IsKeptPlace place = IsKeptTable place.table

-- an item occurs at most as often as one may
abbrev pub IsFew : StoragePlace → Type 0
IsFew place = IfSome place.table (λ table. table.occurs ≤ most_occurrences)

module _ (system : System) (setting : Setting) where
  abbrev pub Own : Operand → Type 0
  Own one = Indexed setting.is_server setting.deck setting.program one

  abbrev pub Performed : Word → Type 0
  Performed name = IsSome (paragraph_of (scope_of setting.is_server setting.deck setting.program) name)

  abbrev pub ArithmeticOwn : ArithmeticForm → Type 0
  ArithmeticOwn a = Own a.first × Own a.second × Own (computing.receiver_of a)

  -- a screen of the program, by its number in the system
  pub record IsScreenOf (name : Word) (table : ScreenTable) : Type 0 where
    pub coded : screen_at system (planned_screen (plan_in setting) name) ≡ table
    pub shown : Each (λ (field : Field). IsShownOf setting.program.layout field.shown) table.fields

  pub record ShowsScreen (name : Word) : Type 0 where
    pub table : ScreenTable
    pub is : screen_named setting.program name ≡ Some table
    pub of : IsScreenOf name table

  abbrev pub ShownBy : Option ScreenTable → Word → Type 0
  ShownBy None name = Own (operands.Item name None)
  ShownBy (Some table) name = IsScreenOf name table

  abbrev pub Shows : Operand → Type 0
  Shows (operands.Item name None) = ShownBy (screen_named setting.program name) name
  Shows one = Own one

  -- a CALL of a requester
  pub record CallSuits (name : Word) (arguments : List Operand) : Type 0 where
    pub requester : setting.is_server ≡ false
    pub own : Each Own arguments
    pub there : program_number setting.deck name < length setting.deck.programs
    pub few : Each IsFew (arguments_of setting.program arguments)
    pub kept : Each IsKeptPlace (arguments_of setting.program arguments)
    pub fits : CallFits setting.deck setting.program name arguments

  abbrev mutual
    pub Suits : Statement → Type 0
    Suits (form.Move line from to) = Own from × Each Own to
    Suits (form.Arithmetic line a) = ArithmeticOwn a
    Suits (form.OnSizeError' line a n first m second) = ArithmeticOwn a × RowSuits first × RowSuits second
    Suits (form.If' line cond n first m second) =
        Each (Each (ComparisonIndexed setting.is_server setting.deck setting.program)) cond.any × RowSuits first × RowSuits second
    Suits (form.Perform line name) = Performed name
    Suits (form.PerformTimes line name times) = Performed name × Own times
    Suits (form.PerformUntil line name cond) =
        Performed name × Each (Each (ComparisonIndexed setting.is_server setting.deck setting.program)) cond.any
    Suits (form.PerformOneOf line names position) = Each Performed names × Own position
    Suits (form.DisplayBase line name) = ShowsScreen name
    Suits (form.Display line shown) = Shows shown
    Suits (form.Accept line name keys) = ShowsScreen name
    Suits (form.Call line name arguments) = CallSuits name arguments
    Suits (form.Send line message class codes) = Own message × Each Own (yields_of codes)
    Suits (form.Receive line into) = Own into × (setting.is_server ≡ true)
    Suits (form.Reply line from) = Own from
    Suits (form.Read line file locking key into) = Own key × Own into
    Suits (form.ReadNext line file locking after into) = Own after × Own into
    Suits (form.Write line file from) = Own from
    Suits (form.Rewrite line file from) = Own from
    Suits (form.Delete line file key) = Own key
    Suits (form.Exit line) = Unit {0}
    Suits (form.ExitProgram line) = Unit {0}
    Suits (form.StopRun line) = Unit {0}
    Suits (form.Begin line) = Unit {0}
    Suits (form.End line) = Unit {0}
    Suits (form.Abort line) = Unit {0}
    Suits (form.Restart line) = Unit {0}

    pub RowSuits : {n : _} → Row_of-Statement n → Type 0
    RowSuits end_of-Statement = Unit {0}
    RowSuits (more_of-Statement one rest) = Suits one × RowSuits rest
