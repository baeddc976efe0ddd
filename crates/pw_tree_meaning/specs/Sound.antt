-- Decks whose names resolve and whose tables are valid: what the meaning needs of a deck in which the
-- readers find no fault.
use Rattle.std.specs.Prelude.{◌≡◌, ℕ, ◌<◌, ◌≤◌, Bool, true, false, List, length, map, Ok}
use Rattle.pw_text.specs.declared.token.Token.{Token}
use Rattle.pw_data.specs.Layouts.{Laid, layout_of}
use Rattle.pw_forms.specs.declared.statement.Statement.{Statement}
use Rattle.pw_forms.specs.declared.statement.Statement as form
use Rattle.pw_forms.specs.declared.statement.Statement.{Row_of-Statement, end_of-Statement, more_of-Statement}
use Rattle.pw_operands.specs.Scope.{Scope}
use Rattle.pw_operands.specs.Resolved.{Each, AllResolve}
use Rattle.pw_code.specs.Valid.{IsDeckFile}
use Rattle.pw_code.specs.declared.links.Links.{Links}
use Rattle.pw_code.specs.declared.system.ClassInfo.{ClassInfo}
use Rattle.pw_code.specs.declared.system.TermInfo.{TermInfo}
use Rattle.pw_tree_meaning.specs.Program.{Program, DeckModel}

-- what the programs of a deck may name besides what is theirs
abbrev pub links_of : DeckModel → Links
links_of deck = record {
  programs = map (λ program. program.name) deck.programs;
  classes = map (λ class. class.name) deck.classes;
  files = deck.files;
}

-- what the names of a program may stand for
abbrev pub scope_of : Bool → DeckModel → Program → Scope
scope_of server deck program = record {
  server = server;
  layout = program.layout;
  screens = program.screens;
  paragraphs = program.paragraphs;
  links = links_of deck;
}

-- ---- the forms of servers and of requesters

abbrev mutual
  -- the statement is one of a server, or of a requester, and so are those of its branches
  pub HasForms : Bool → Statement → Type 0
  HasForms server (form.OnSizeError' line a n first m second) =
      RowHasForms server first × RowHasForms server second
  HasForms server (form.If' line cond n first m second) =
      RowHasForms server first × RowHasForms server second
  HasForms true (form.DisplayBase line screen) = ⊥
  HasForms true (form.Display line shown) = ⊥
  HasForms true (form.Accept line screen keys) = ⊥
  HasForms true (form.Call line program arguments) = ⊥
  HasForms true (form.Send line message class codes) = ⊥
  HasForms true (form.Begin line) = ⊥
  HasForms true (form.End line) = ⊥
  HasForms true (form.Abort line) = ⊥
  HasForms true (form.Restart line) = ⊥
  HasForms false (form.Receive line into) = ⊥
  HasForms false (form.Reply line from) = ⊥
  HasForms false (form.Read line file locking key into) = ⊥
  HasForms false (form.ReadNext line file locking after into) = ⊥
  HasForms false (form.Write line file from) = ⊥
  HasForms false (form.Rewrite line file from) = ⊥
  HasForms false (form.Delete line file key) = ⊥
  HasForms server _ = Unit {0}

  pub RowHasForms : {n : _} → Bool → Row_of-Statement n → Type 0
  RowHasForms server end_of-Statement = Unit {0}
  RowHasForms server (more_of-Statement one rest) = HasForms server one × RowHasForms server rest

-- ---- programs and tables

-- the layout is that of data without a fault
pub record IsLayout (server : Bool) (layout : Laid) : Type 0 where
  pub text : List ℕ
  pub tokens : List Token
  pub is_laid : layout_of text tokens server ≡ Ok layout

-- a program of a deck: its names resolve, its statements are those of its side, and its layout is
-- that of data
pub record IsSoundProgram (server : Bool) (deck : DeckModel) (program : Program) : Type 0 where
  pub resolves : AllResolve (scope_of server deck program)
  pub forms : Each (λ paragraph. Each (HasForms server) paragraph.body) program.paragraphs
  pub laid : IsLayout server program.layout

-- a terminal's pair and program are there
pub record IsSoundTerminal (deck : DeckModel) (terminal : TermInfo) : Type 0 where
  pub pair : terminal.tcp < length deck.tcps
  pub program : terminal.program < length deck.programs

-- a class's server is there, and it has a process
pub record IsSoundClass (deck : DeckModel) (class : ClassInfo) : Type 0 where
  pub server : class.server < length deck.servers
  pub some : 1 ≤ class.processes

-- a deck whose programs, terminals, classes and files are sound
pub record IsSoundDeck (deck : DeckModel) : Type 0 where
  pub programs : Each (IsSoundProgram false deck) deck.programs
  pub servers : Each (IsSoundProgram true deck) deck.servers
  pub terminals : Each (IsSoundTerminal deck) deck.terminals
  pub classes : Each (IsSoundClass deck) deck.classes
  pub files : Each IsDeckFile deck.files
