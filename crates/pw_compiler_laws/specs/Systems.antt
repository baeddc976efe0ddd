-- The system that the programs of a deck are compiled to.
use Rattle.std.specs.Prelude.{false, ℕ, ◌+◌, List, [], ◌∷◌, ◌++◌, map, length}
use Rattle.pw_code.specs.declared.code.Code.{Code}
use Rattle.pw_code.specs.declared.field.ScreenTable.{ScreenTable}
use Rattle.pw_code.specs.declared.links.Links.{Links}
use Rattle.pw_code.specs.declared.lock.LockRule.{LockRule}
use Rattle.pw_code.specs.declared.system.System.{System}
use Rattle.pw_tree_meaning.specs.Program.{DeckModel, Program}
use Rattle.pw_tree_meaning.specs.Setting.{Setting}
use Rattle.pw_names.specs.Calls as names
use Rattle.pw_names.specs.Calls.{lengths_of}
use Rattle.pw_tree_meaning.specs.Sound.{links_of, scope_of}
use Rattle.pw_compile.specs.Plan.{Plan, plan_of}
use Rattle.pw_compile.specs.Programs.{program_code}

-- what the code of a program goes by, in the setting in which it runs
abbrev pub plan_in : Setting → Plan
plan_in setting =
    plan_of setting.program.layout setting.program.screens setting.program.paragraphs setting.first
    (links_of setting.deck)

-- the code of a program whose screens are numbered from one on
abbrev pub code_in : Links → ℕ → Program → Code
code_in links first program =
    program_code program.name program.layout program.screens program.parameters program.paragraphs first
    links

-- the codes of programs, whose screens are numbered through
abbrev pub codes_in : Links → ℕ → List Program → List Code
codes_in links first [] = []
codes_in links first (program ∷ programs) =
    code_in links first program ∷ codes_in links (first + length program.screens) programs

-- the screens of all programs, one behind the other
abbrev pub screens_of : List Program → List ScreenTable
screens_of [] = []
screens_of (program ∷ programs) = program.screens ++ screens_of programs

-- the system of a deck under a rule of locking
abbrev pub system_of : LockRule → DeckModel → System
system_of rule deck = record {
  programs = codes_in (links_of deck) 0 deck.programs;
  servers = map (code_in (links_of deck) 0) deck.servers;
  screens = screens_of deck.programs;
  classes = deck.classes;
  files = deck.files;
  tcps = deck.tcps;
  terminals = deck.terminals;
  rule = rule;
}

-- a requester of a deck as its names are looked at: what they may stand for, and how long the items of
-- USING of each requester are
abbrev pub named_in : DeckModel → Program → names.CallScope
named_in deck program = record {
  scope = scope_of false deck program;
  usings = map (λ one. lengths_of one.layout one.parameters) deck.programs;
}
