-- What commands add has names, and there is not too much of it.
use Rattle.std.proofs.Common.{◌≡◌, ℕ, ◌+◌, ◌≤◌, Bool, true, false, cond, List, [], ◌∷◌, ◌++◌, map, length, Option, None, Some, Result, Ok, Err, IfOk, refl, sym, ap, subst, arith, length-append}
use Rattle.std.specs.Prelude.{◌||◌, nat_le}
use Rattle.std.proofs.lemmas.Bool.{leb-false}
use Rattle.std.proofs.lemmas.List.{length-map}
use Rattle.pw_base.specs.declared.fault.Fault.{Fault}
use Rattle.pw_base.specs.declared.fault_code.FaultCode.TheVariants.{BadCommand}
use Rattle.std.specs.Str.{bytes_eq, str_to_ascii_uppercase}
use Rattle.pw_code.specs.Limits.{most_tcps, most_classes, most_terminals, most_processes, most_restarts}
use Rattle.pw_code.specs.Names.{IsName, may_name}
use Rattle.pw_sections.specs.Lines.{lines}
use Rattle.pw_sections.specs.Steps.{◌>>=◌, or_refused}
use Rattle.pw_sections.specs.Words.{words}
use Rattle.pw_words.specs.Words.{Word}
use Rattle.pw_pathcom.specs.Reading.{no_commands, starting, named, ranged, admitted, has_tcp, has_class, has_terminal, added, first_start, start_tcp, start_class, start_terminal, started, command_taken, taken_if, is_comment, is_none, line_read, lines_read, commands_of}
use Rattle.pw_pathcom.specs.Verbs.{command_of}
use Rattle.pw_pathcom.specs.declared.commands.ClassCommand.{ClassCommand}
use Rattle.pw_pathcom.specs.declared.commands.Commands.{Commands}
use Rattle.pw_pathcom.specs.declared.commands.Started.{Started}
use Rattle.pw_pathcom.specs.declared.commands.TermCommand.{TermCommand}
use Rattle.pw_pathcom.specs.declared.reading.CommandReading.{CommandReading}
use Rattle.pw_pathcom.specs.declared.verb.Object.{Object}
use Rattle.pw_pathcom.specs.declared.verb.Object.TheVariants as object
use Rattle.pw_pathcom.specs.declared.verb.CommandVerb.{CommandVerb}
use Rattle.pw_pathcom.specs.declared.verb.CommandVerb.TheVariants as verb
use Rattle.pw_deck_tables.proofs.Named.{Named, none_named, named_more}

-- the names of TCPs, of classes and of terminals
abbrev pub tcps_of : Commands → List (List ℕ)
tcps_of commands = map (λ tcp. tcp.name) commands.tcps

abbrev pub classes_of : Commands → List (List ℕ)
classes_of commands = map (λ class. class.name) commands.classes

abbrev pub terminals_of : Commands → List (List ℕ)
terminals_of commands = map (λ terminal. terminal.name) commands.terminals

-- what is added has names, and there is not too much of it
pub record AreCommands (commands : Commands) : Type 0 where
  pub tcps : Named (tcps_of commands)
  pub classes : Named (classes_of commands)
  pub terminals : Named (terminals_of commands)
  pub few_tcps : length commands.tcps ≤ most_tcps
  pub few_classes : length commands.classes ≤ most_classes
  pub few_terminals : length commands.terminals ≤ most_terminals

-- what a step leaves, where it is not refused
pub and_then : {A B : Type 0} (step : Result A Fault) (next : A → Result B Fault) (P : A → Type 0) (Q : B → Type 0)
    → IfOk step P → ((a : A) → P a → IfOk (next a) Q) → IfOk (step >>= next) Q
and_then (Ok a) next P Q h more = more a h
and_then (Err fault) next P Q h more = tt

pub no_commands_are : AreCommands no_commands
no_commands_are = record {
  tcps = none_named;
  classes = none_named;
  terminals = none_named;
  few_tcps = omega arith;
  few_classes = omega arith;
  few_terminals = omega arith;
}

-- an operand that is a name
operand_is : (line : ℕ) (operand : Word) → IfOk (named line operand) IsName
operand_is line operand = go (may_name operand) refl
  where
    go : (b : Bool) → may_name operand ≡ b → IfOk (or_refused line BadCommand (cond b (Some (str_to_ascii_uppercase operand)) None)) IsName
    go true is = is
    go false is = tt

-- an ADD that is not refused
record IsNew (there full : Bool) (done : Unit {0}) : Type 0 where
  pub new : there ≡ false
  pub room : full ≡ false

admitted_is : (line : ℕ) (there full : Bool) → IfOk (admitted line there full) (IsNew there full)
admitted_is line true full = tt
admitted_is line false true = tt
admitted_is line false false = record { new = refl; room = refl }

pub more_few : {X : Type 0} (xs : List X) (x : X) (most : ℕ) → nat_le most (length xs) ≡ false → length (xs ++ x ∷ []) ≤ most
more_few xs x most room = omega (arith, leb-false most (length xs) room, length-append xs (x ∷ []))

added_are : (line : ℕ) (reading : CommandReading) (object : Object) (name : Word) → IsName name → AreCommands reading.commands
    → IfOk (added line reading object name) (λ r. AreCommands r.commands)
added_are line reading object.Tcp name is are =
    let commands = reading.commands in
    and_then (admitted line (has_tcp commands name) (nat_le most_tcps (length commands.tcps))) _ (IsNew (has_tcp commands name) (nat_le most_tcps (length commands.tcps))) (λ r. AreCommands r.commands)
    (admitted_is line (has_tcp commands name) (nat_le most_tcps (length commands.tcps)))
    (λ done new. record {
      tcps = named_more (λ (tcp : Started). tcp.name) commands.tcps _ are.tcps is new.new;
      classes = are.classes;
      terminals = are.terminals;
      few_tcps = more_few commands.tcps _ most_tcps new.room;
      few_classes = are.few_classes;
      few_terminals = are.few_terminals;
    })
added_are line reading object.Server name is are =
    let commands = reading.commands in
    and_then (admitted line (has_class commands name) (nat_le most_classes (length commands.classes))) _ (IsNew (has_class commands name) (nat_le most_classes (length commands.classes))) (λ r. AreCommands r.commands)
    (admitted_is line (has_class commands name) (nat_le most_classes (length commands.classes)))
    (λ done new. record {
      tcps = are.tcps;
      classes = named_more (λ (class : ClassCommand). class.name) commands.classes _ are.classes is new.new;
      terminals = are.terminals;
      few_tcps = are.few_tcps;
      few_classes = more_few commands.classes _ most_classes new.room;
      few_terminals = are.few_terminals;
    })
added_are line reading object.Term name is are =
    let commands = reading.commands in
    and_then (admitted line (has_terminal commands name) (nat_le most_terminals (length commands.terminals))) _ (IsNew (has_terminal commands name) (nat_le most_terminals (length commands.terminals))) (λ r. AreCommands r.commands)
    (admitted_is line (has_terminal commands name) (nat_le most_terminals (length commands.terminals)))
    (λ done new. record {
      tcps = are.tcps;
      classes = are.classes;
      terminals = named_more (λ (terminal : TermCommand). terminal.name) commands.terminals _ are.terminals is new.new;
      few_tcps = are.few_tcps;
      few_classes = are.few_classes;
      few_terminals = more_few commands.terminals _ most_terminals new.room;
    })

-- a START changes no name
tcp_names_stay : (line : ℕ) (name : Word) (tcps : List Started) → map (λ tcp. tcp.name) (map (start_tcp line name) tcps) ≡ map (λ tcp. tcp.name) tcps
tcp_names_stay line name [] = refl
tcp_names_stay line name (t ∷ ts) = go (bytes_eq t.name name) (tcp_names_stay line name ts)
  where
    go : (b : Bool) → map (λ tcp. tcp.name) (map (start_tcp line name) ts) ≡ map (λ tcp. tcp.name) ts
        → (cond b (record t { started = first_start line t.started }) t).name ∷ map (λ tcp. tcp.name) (map (start_tcp line name) ts) ≡ t.name ∷ map (λ tcp. tcp.name) ts
    go true rest = ap (λ ns. t.name ∷ ns) rest
    go false rest = ap (λ ns. t.name ∷ ns) rest

class_names_stay : (line : ℕ) (name : Word) (classes : List ClassCommand) → map (λ class. class.name) (map (start_class line name) classes) ≡ map (λ class. class.name) classes
class_names_stay line name [] = refl
class_names_stay line name (t ∷ ts) = go (bytes_eq t.name name) (class_names_stay line name ts)
  where
    go : (b : Bool) → map (λ class. class.name) (map (start_class line name) ts) ≡ map (λ class. class.name) ts
        → (cond b (record t { started = first_start line t.started }) t).name ∷ map (λ class. class.name) (map (start_class line name) ts) ≡ t.name ∷ map (λ class. class.name) ts
    go true rest = ap (λ ns. t.name ∷ ns) rest
    go false rest = ap (λ ns. t.name ∷ ns) rest

terminal_names_stay : (line : ℕ) (name : Word) (terminals : List TermCommand) → map (λ t. t.name) (map (start_terminal line name) terminals) ≡ map (λ t. t.name) terminals
terminal_names_stay line name [] = refl
terminal_names_stay line name (t ∷ ts) = go (bytes_eq t.name name) (terminal_names_stay line name ts)
  where
    go : (b : Bool) → map (λ t. t.name) (map (start_terminal line name) ts) ≡ map (λ t. t.name) ts
        → (cond b (record t { started = first_start line t.started }) t).name ∷ map (λ t. t.name) (map (start_terminal line name) ts) ≡ t.name ∷ map (λ t. t.name) ts
    go true rest = ap (λ ns. t.name ∷ ns) rest
    go false rest = ap (λ ns. t.name ∷ ns) rest

few_stay : {X Y : Type 0} (f : X → Y) (xs : List X) (most : ℕ) → length xs ≤ most → length (map f xs) ≤ most
few_stay f xs most le = omega (arith, le, length-map xs f)

started_are : (line : ℕ) (commands : Commands) (object : Object) (name : Word) → AreCommands commands → AreCommands (started line commands object name)
started_are line commands object.Tcp name are = record {
  tcps = subst Named (sym (tcp_names_stay line name commands.tcps)) are.tcps;
  classes = are.classes;
  terminals = are.terminals;
  few_tcps = few_stay (start_tcp line name) commands.tcps most_tcps are.few_tcps;
  few_classes = are.few_classes;
  few_terminals = are.few_terminals;
}
started_are line commands object.Server name are = record {
  tcps = are.tcps;
  classes = subst Named (sym (class_names_stay line name commands.classes)) are.classes;
  terminals = are.terminals;
  few_tcps = are.few_tcps;
  few_classes = few_stay (start_class line name) commands.classes most_classes are.few_classes;
  few_terminals = are.few_terminals;
}
started_are line commands object.Term name are = record {
  tcps = are.tcps;
  classes = are.classes;
  terminals = subst Named (sym (terminal_names_stay line name commands.terminals)) are.terminals;
  few_tcps = are.few_tcps;
  few_classes = are.few_classes;
  few_terminals = few_stay (start_terminal line name) commands.terminals most_terminals are.few_terminals;
}

-- nothing is known of it
abbrev pub Any : {A : Type 0} → A → Type 0
Any a = Unit {0}

pub any_of : {A : Type 0} (step : Result A Fault) → IfOk step Any
any_of (Ok a) = tt
any_of (Err fault) = tt

taken_are : (line : ℕ) (reading : CommandReading) (verb : CommandVerb) (operand : Word) → AreCommands reading.commands
    → IfOk (command_taken line reading verb operand) (λ r. AreCommands r.commands)
taken_are line reading verb.SetTcp operand are = and_then (named line operand) _ Any (λ r. AreCommands r.commands) (any_of (named line operand)) (λ name h. are)
taken_are line reading verb.SetInitial operand are = and_then (named line operand) _ Any (λ r. AreCommands r.commands) (any_of (named line operand)) (λ name h. are)
taken_are line reading verb.SetRestarts operand are =
    and_then (ranged line 0 most_restarts operand) _ Any (λ r. AreCommands r.commands) (any_of (ranged line 0 most_restarts operand)) (λ n h. are)
taken_are line reading verb.SetProgram operand are = and_then (named line operand) _ Any (λ r. AreCommands r.commands) (any_of (named line operand)) (λ name h. are)
taken_are line reading verb.SetProcesses operand are =
    and_then (ranged line 1 most_processes operand) _ Any (λ r. AreCommands r.commands) (any_of (ranged line 1 most_processes operand)) (λ n h. are)
taken_are line reading (verb.Add object) operand are =
    and_then (named line operand) _ IsName (λ r. AreCommands r.commands) (operand_is line operand) (λ name is. added_are line reading object name is are)
taken_are line reading (verb.Start object) operand are =
    and_then (named line operand) _ Any (λ r. AreCommands r.commands) (any_of (named line operand)) (λ name h. started_are line reading.commands object name are)

if_are : (line : ℕ) (reading : CommandReading) (command : Option (CommandVerb × Word)) → AreCommands reading.commands
    → IfOk (taken_if line reading command) (λ r. AreCommands r.commands)
if_are line reading None are = tt
if_are line reading (Some command) are = taken_are line reading command.0 command.1 are

line_are : (number : ℕ) (reading : CommandReading) (line : List ℕ) → AreCommands reading.commands → IfOk (line_read number reading line) (λ r. AreCommands r.commands)
line_are number reading line are = go (is_comment line || is_none (words line))
  where
    go : (b : Bool) → IfOk (cond b (Ok reading) (taken_if number reading (command_of (words line)))) (λ r. AreCommands r.commands)
    go true = are
    go false = if_are number reading (command_of (words line)) are

lines_are : (number : ℕ) (reading : CommandReading) (all : List (List ℕ)) → AreCommands reading.commands → IfOk (lines_read number reading all) (λ r. AreCommands r.commands)
unfolding lines_read
lines_are number reading [] are = are
lines_are number reading (line ∷ rest) are =
    and_then (line_read number reading line) _ (λ r. AreCommands r.commands) (λ r. AreCommands r.commands) (line_are number reading line are)
    (λ next more. lines_are (number + 1) next rest more)

-- the commands of a text
pub commands_are : (text : List ℕ) (first_line : ℕ) → IfOk (commands_of text first_line) AreCommands
commands_are text first_line =
    and_then (lines_read first_line starting (lines text)) _ (λ r. AreCommands r.commands) AreCommands (lines_are first_line starting (lines text) no_commands_are) (λ reading are. are)
