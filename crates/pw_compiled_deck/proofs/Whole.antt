-- Every deck without a fault is sound and fits, so its system is valid and behaves as its trees do.
use Rattle.std.proofs.Common.{◌≡◌, ℕ, ◌+◌, ◌<◌, ◌≤◌, ◌^◌, false, true, List, [], ◌∷◌, map, length, All, Result, Ok, IfOk, refl, sym, ap, ◌∙◌, subst, arith}
use Rattle.std.proofs.lemmas.List.{length-map}
use Rattle.std.proofs.lemmas.List.Elements.{All-head, All-tail}
use Rattle.pw_base.specs.declared.fault.Fault.{Fault}
use Rattle.pw_code.specs.Limits.{most_fail_lines}
use Rattle.pw_code.specs.Valid.{IsTerminal, IsClass, IsDeckFile, IsValid}
use Rattle.pw_code.specs.declared.code.Code.{Code}
use Rattle.pw_code.specs.declared.field.ScreenTable.{ScreenTable}
use Rattle.pw_code.specs.declared.links.Links.{Links}
use Rattle.pw_code.specs.declared.lock.LockRule.{LockRule}
use Rattle.pw_code.specs.declared.lock.LockRule.TheVariants.{ReadersShare}
use Rattle.pw_code.specs.declared.system.ClassInfo.{ClassInfo}
use Rattle.pw_code.specs.declared.system.System.{System}
use Rattle.pw_code.specs.declared.system.TermInfo.{TermInfo}
use Rattle.pw_compile.proofs.Lengths.{code_long}
use Rattle.pw_compile.specs.Lengths.{instructions_of}
use Rattle.pw_compile.specs.Plan.{plan_of}
use Rattle.pw_deck.specs.Deck.{deck_of}
use Rattle.pw_deck.specs.Sound as decks
use Rattle.pw_deck.specs.declared.deck.ParsedDeck.{ParsedDeck}
use Rattle.pw_deck.proofs.Decks.{deck_tables}
use Rattle.pw_code_meaning.specs.OfSystem as code
use Rattle.pw_names.specs.Calls.{Lengths, lengths_of}
use Rattle.pw_names.specs.Exact.{AreRight, AllCallsFit}
use Rattle.pw_names.specs.Faults.{program_faults}
use Rattle.pw_names.specs.Names.{usings_of, requester_program}
use Rattle.pw_names.proofs.Right.{right, program-faultless}
use Rattle.pw_onecopy.specs.IsBehaviour.{IsBehaviour}
use Rattle.pw_operands.specs.Resolved.{Each}
use Rattle.pw_scobol.specs.Resolved as of_requesters
use Rattle.pw_scobol.specs.declared.requester.Requester.{Requester}
use Rattle.pw_server.specs.Resolved as of_servers
use Rattle.pw_server.specs.declared.server.Server.{Server}
use Rattle.pw_tree_meaning.specs.OfDeck as tree
use Rattle.pw_tree_meaning.specs.Program as source
use Rattle.pw_tree_meaning.specs.Sound.{links_of, IsSoundDeck, IsSoundProgram, IsSoundTerminal, IsSoundClass}
use Rattle.pw_compiler_laws.specs.Premises.{AreFitting, AreRead, IsFitting, IsReadProgram, HasTables}
use Rattle.pw_compiler_laws.specs.Systems.{code_in, codes_in, named_in, system_of}
use Rattle.pw_compiler_laws.proofs.Decks.{codes-long}
use Rattle.pw_compiler_laws.proofs.Fitting.{program-fits}
use Rattle.pw_compiler_laws.proofs.Given.{using-items}
use Rattle.pw_compiler_laws.proofs.Serves.{behaves-same}
use Rattle.pw_compiler_laws.proofs.Valid.{valid-is, each-all}
use Rattle.pw_tree_meaning.proofs.Behaviours.{sound-behaviour}
use Rattle.pw_compiled_deck.specs.Named.{IsFailNamed}
use Rattle.pw_compiled_deck.specs.Short.{IsShort, IsSmall}
use Rattle.pw_compiled_deck.specs.Whole.{of_requester, of_server, trees_of, compiled}
use Rattle.pw_compiled_deck.proofs.Lines.{line-like}
use Rattle.pw_compiled_deck.proofs.Parts.{IsReadDeck, deck-known}
use Rattle.pw_compiled_deck.proofs.Sources.{IsReadRequester, IsReadServer}
use Rattle.pw_tree_meaning.proofs.storage.Places.{each-map}
use Rattle.pw_tree_meaning.proofs.storage.Initial.{all-each}

-- ---- lists

-- what follows of two facts on each
each-made : {A B : Type 0} (f : A → B) (P Q : A → Type 0) (R : B → Type 0) → ((x : A) → P x → Q x → R (f x)) → (xs : List A) → Each P xs → Each Q xs → Each R (map f xs)
each-made f P Q R make [] first second = tt
each-made f P Q R make (x ∷ xs) first second = (make x first.0 second.0, each-made f P Q R make xs first.1 second.1)

each-both : {A : Type 0} (P Q : A → Type 0) (xs : List A) → Each P xs → Each Q xs → Each (λ x. P x × Q x) xs
each-both P Q [] first second = tt
each-both P Q (x ∷ xs) first second = ((first.0, second.0), each-both P Q xs first.1 second.1)

usings-same : (requesters : List Requester) → map (λ (one : source.Program). lengths_of one.layout one.parameters) (map of_requester requesters) ≡ usings_of requesters
usings-same [] = refl
usings-same (r ∷ rs) = ap (λ (all : List Lengths). lengths_of r.layout r.using ∷ all) (usings-same rs)

-- the paragraphs of programs whose codes are short take few instructions
codes-short : (links : Links) (first : ℕ) (programs : List source.Program) → All IsShort (codes_in links first programs) → Each (λ (p : source.Program). instructions_of p.paragraphs < 2 ^ 32) programs
codes-short links first [] all = tt
codes-short links first (p ∷ ps) all =
    let plan = plan_of p.layout p.screens p.paragraphs first links in
    let own : length (code_in links first p).instrs < 2 ^ 32 = All-head IsShort (code_in links first p) (codes_in links (first + length p.screens) ps) all in (
      omega (arith, own, code_long plan p.paragraphs 0),
      codes-short links (first + length p.screens) ps (All-tail IsShort (code_in links first p) (codes_in links (first + length p.screens) ps) all),
    )

servers-short : (links : Links) (programs : List source.Program) → All IsShort (map (code_in links 0) programs) → Each (λ (p : source.Program). instructions_of p.paragraphs < 2 ^ 32) programs
servers-short links [] all = tt
servers-short links (p ∷ ps) all =
    let plan = plan_of p.layout p.screens p.paragraphs 0 links in
    let own : length (code_in links 0 p).instrs < 2 ^ 32 = All-head IsShort (code_in links 0 p) (map (code_in links 0) ps) all in (
      omega (arith, own, code_long plan p.paragraphs 0),
      servers-short links ps (All-tail IsShort (code_in links 0 p) (map (code_in links 0) ps) all),
    )

-- ---- a deck without a fault

module _ (bytes : List ℕ) (deck : ParsedDeck) (is : deck_of bytes ≡ Ok deck) where
  abbrev trees : source.DeckModel
  trees = trees_of deck

  abbrev links : Links
  links = links_of trees

  abbrev system : System
  system = system_of ReadersShare trees

  pub known : IsReadDeck deck
  known = deck-known bytes deck is

  names : AreRight deck.requesters deck.servers links
  names = (right deck.requesters deck.servers links).0 known.names

  -- the tables, with these screens
  pub tables : (screens : List ScreenTable) → length screens < 2 ^ 32 → decks.AreTables (decks.with_code deck system.programs system.servers screens)
  tables screens few =
      subst (λ (r : Result ParsedDeck Fault). IfOk r decks.HasValidTables) is (deck_tables bytes) system.programs system.servers screens
      (codes-long links (map of_requester deck.requesters) 0 ∙ length-map deck.requesters of_requester)
      (length-map (map of_server deck.servers) (code_in links 0) ∙ length-map deck.servers of_server) few

  -- ---- programs

  requester-sound : (one : Requester) → IsReadRequester one → of_requesters.IsResolvedRequester one links → IsSoundProgram false trees (of_requester one)
  requester-sound one read resolves = record { resolves = resolves; forms = read.statements.forms; laid = read.laid }

  server-sound : (one : Server) → IsReadServer one → of_servers.IsResolvedServer one links → IsSoundProgram true trees (of_server one)
  server-sound one read resolves = record { resolves = resolves; forms = read.statements.forms; laid = read.laid }

  programs-sound : Each (IsSoundProgram false trees) trees.programs
  programs-sound = each-made of_requester IsReadRequester (λ one. of_requesters.IsResolvedRequester one links) (IsSoundProgram false trees) requester-sound deck.requesters known.requesters names.requesters_resolve

  servers-sound : Each (IsSoundProgram true trees) trees.servers
  servers-sound = each-made of_server IsReadServer (λ one. of_servers.IsResolvedServer one links) (IsSoundProgram true trees) server-sound deck.servers known.servers names.servers_resolve

  -- ---- tables

  abbrev bare : System
  bare = decks.with_code deck system.programs system.servers []

  terminal-sound : (one : TermInfo) → IsTerminal bare one → IsSoundTerminal trees one
  terminal-sound one there =
      let below : one.program < length (codes_in links 0 trees.programs) = there.program in
      record { pair = there.pair; program = omega (arith, below, codes-long links trees.programs 0) }

  class-sound : (one : ClassInfo) → IsClass bare one → IsSoundClass trees one
  class-sound one there =
      let below : one.server < length (map (code_in links 0) trees.servers) = there.server in
      record { server = omega (arith, below, length-map trees.servers (code_in links 0)); some = there.some }

  pub deck-sound : IsSoundDeck trees
  deck-sound =
      let told = tables [] (omega arith) in
      record {
        programs = programs-sound;
        servers = servers-sound;
        terminals = each-map (IsTerminal bare) (IsSoundTerminal trees) trees.terminals terminal-sound (all-each (IsTerminal bare) trees.terminals told.terminals);
        classes = each-map (IsClass bare) (IsSoundClass trees) trees.classes class-sound (all-each (IsClass bare) trees.classes told.classes);
        files = all-each IsDeckFile trees.files told.files;
      }

  -- ---- what the readers see to

  -- a requester whose names resolve and whose CALLs fit
  abbrev Faultless : Requester → Type 0
  Faultless one = of_requesters.IsResolvedRequester one links × AllCallsFit (requester_program (usings_of deck.requesters) links one)

  requester-fits : (one : Requester) → IsReadRequester one → Faultless one → IsFitting trees (of_requester one)
  requester-fits one read fits =
      let none : program_faults (requester_program (usings_of deck.requesters) links one) ≡ [] = program-faultless (requester_program (usings_of deck.requesters) links one) fits.0 fits.1 in
      let named : program_faults (named_in trees (of_requester one)) ≡ [] =
      ap (λ (usings : List Lengths). program_faults (requester_program usings links one)) (usings-same deck.requesters) ∙ none in
      record {
        screens = read.shown;
        items = using-items (of_requester one) read.parameters;
        calls = program-fits trees (of_requester one) (requester-sound one read fits.0) named;
        written = read.statements.written;
      }

  pub deck-fits : AreFitting trees
  deck-fits =
      each-made of_requester IsReadRequester Faultless (IsFitting trees) requester-fits deck.requesters known.requesters
      (each-both (λ one. of_requesters.IsResolvedRequester one links) (λ one. AllCallsFit (requester_program (usings_of deck.requesters) links one)) deck.requesters names.requesters_resolve names.requester_calls)

  -- ---- the system

  abbrev Few : source.Program → Type 0
  Few program = instructions_of program.paragraphs < 2 ^ 32

  requester-read : (one : Requester) → IsReadRequester one → Few (of_requester one) → IsReadProgram (of_requester one)
  requester-read one read few = record { statements = read.statements.numbers; written = read.statements.written; screens = read.tables; short = few }

  server-read : (one : Server) → IsReadServer one → Few (of_server one) → IsReadProgram (of_server one)
  server-read one read few = record { statements = read.statements.numbers; written = read.statements.written; screens = tt; short = few }

  each-of : {A : Type 0} (f : A → source.Program) (xs : List A) → Each Few (map f xs) → Each (λ x. Few (f x)) xs
  each-of f [] each = tt
  each-of f (x ∷ xs) each = (each.0, each-of f xs each.1)

  pub deck-reads : IsSmall system → AreRead trees
  deck-reads small = record {
    programs = each-made of_requester IsReadRequester (λ one. Few (of_requester one)) IsReadProgram requester-read deck.requesters known.requesters
        (each-of of_requester deck.requesters (codes-short links 0 trees.programs small.programs));
    servers = each-made of_server IsReadServer (λ one. Few (of_server one)) IsReadProgram server-read deck.servers known.servers
        (each-of of_server deck.servers (servers-short links trees.servers small.servers));
  }

  -- the system under another rule
  abbrev ruled : LockRule → System
  ruled rule = record deck.told.system { programs = system.programs; servers = system.servers; screens = system.screens; rule = rule }

  -- the tables, as the law of the compiler takes them
  has-tables : IsSmall system → HasTables system
  has-tables small =
      let told = subst decks.AreTables (ap ruled known.rule) (tables system.screens small.screens) in
      record { terminals = told.terminals; classes = told.classes; names = told.names; few = told.few }

  pub system-valid : IsSmall system → IsValid system
  system-valid small = valid-is ReadersShare trees deck-sound deck-fits (deck-reads small) (has-tables small)

  pub system-same : IsSmall system → code.behaviour trees.script system ≡ tree.behaviour ReadersShare trees
  system-same small = behaves-same ReadersShare trees deck-sound deck-fits (system-valid small)

  pub deck-behaves : IsBehaviour (tree.behaviour ReadersShare trees)
  deck-behaves = sound-behaviour ReadersShare trees deck-sound

  pub system-behaves : IsSmall system → IsBehaviour (code.behaviour trees.script system)
  system-behaves small = subst IsBehaviour (sym (system-same small)) deck-behaves

  pub lines-few : length trees.script ≤ most_fail_lines
  lines-few = known.few

  pub lines-there : All (IsFailNamed system) trees.script
  lines-there = each-all (IsFailNamed system) trees.script (each-map (IsFailNamed deck.told.system) (IsFailNamed system) trees.script (line-like deck.told.system system refl refl) known.lines)
