-- The codes of a sound deck are valid.
use Rattle.std.proofs.Common.{◌≡◌, ℕ, zero, suc, ◌+◌, ◌<◌, Bool, true, false, cond, List, [], ◌∷◌, length, map, All, Some, IsSome, sym, ap, ◌∙◌, subst, arith}
use Rattle.std.specs.Prelude.{slice_index_or, position, unwrap_or, bytes_eq}
use Rattle.std.specs.List.{position_from}
use Rattle.std.proofs.lemmas.Iterator.Adapters.{position_from-zero}
use Rattle.std.proofs.lemmas.List.{length-append}
use Rattle.std.proofs.lemmas.List.Elements.{All-nil, All-cons}
use Rattle.pw_words.specs.Words.{Word}
use Rattle.pw_data.specs.Layouts.{place_of}
use Rattle.pw_forms.specs.declared.statement.Paragraph.{Paragraph}
use Rattle.pw_operands.specs.Resolved.{Each}
use Rattle.pw_operands.specs.Scope.{paragraph_of, screen_of}
use Rattle.pw_code.specs.Fields.{IsTable}
use Rattle.pw_code.specs.Instrs.{IsTurn, IsScreen}
use Rattle.pw_code.specs.Valid.{IsCode, IsLinked, IsDeckFile, IsValid}
use Rattle.pw_code.specs.declared.code.Code.{Code}
use Rattle.pw_code.specs.declared.field.ScreenTable.{ScreenTable}
use Rattle.std.proofs.lemmas.Bool.{false≢true}
use Rattle.std.proofs.lemmas.Option.{slice_get_within}
use Rattle.pw_code.specs.declared.links.Links.{Links}
use Rattle.pw_code.specs.declared.lock.LockRule.{LockRule}
use Rattle.pw_tree_meaning.specs.Program.{DeckModel, Program, first_screen}
use Rattle.pw_tree_meaning.specs.Program as tree
use Rattle.pw_tree_meaning.specs.Sound.{links_of, scope_of, IsSoundDeck, IsSoundProgram}
use Rattle.pw_tree_meaning.proofs.Resolved.{each-found}
use Rattle.pw_compile.specs.Plan as plans
use Rattle.pw_compile.specs.Plan.{Plan, plan_of, turn_of}
use Rattle.pw_compile.specs.Programs.{linked_by}
use Rattle.pw_compile.specs.Sizes.{body_size, turns_from}
use Rattle.pw_compile.specs.Lengths.{instructions_of}
use Rattle.pw_compiler_laws.specs.Premises.{HasTables, DeckCallsFit, IsFitting, AreFitting, IsReadProgram, AreRead}
use Rattle.pw_compiler_laws.specs.Systems.{code_in, codes_in, screens_of, system_of}
use Rattle.pw_compiler_laws.proofs.Decks.{found-at, some-found, screen-in, each-program}
use Rattle.pw_compiler_laws.proofs.Emits.{instrs-are}
use Rattle.pw_compiler_laws.proofs.Items.{storage-few, linked-lies}
use Rattle.pw_compile.proofs.Lengths.{code_long}

pub each-all : {A : Type 0} (P : A → Type 0) (xs : List A) → Each P xs → All P xs
each-all P [] each = All-nil P
each-all P (x ∷ xs) each = All-cons P x xs each.0 (each-all P xs each.1)

-- ---- paragraphs

-- where the paragraph of a name begins and ends
record Turned (test : Paragraph → Bool) (at k : ℕ) (ps : List Paragraph) : Type 0 where
  number : ℕ
  found : position_from test k ps ≡ Some (k + number)
  start : (slice_index_or (turns_from at ps) number (record { start = 0; end = 0 })).start < at + instructions_of ps
  end : (slice_index_or (turns_from at ps) number (record { start = 0; end = 0 })).end < at + instructions_of ps

record TurnedBy (test : Paragraph → Bool) (at k : ℕ) (p : Paragraph) (ps : List Paragraph) (b : Bool) : Type 0 where
  number : ℕ
  found : cond b (Some k) (position_from test (k + 1) ps) ≡ Some (k + number)
  start : (slice_index_or (turns_from at (p ∷ ps)) number (record { start = 0; end = 0 })).start < at + instructions_of (p ∷ ps)
  end : (slice_index_or (turns_from at (p ∷ ps)) number (record { start = 0; end = 0 })).end < at + instructions_of (p ∷ ps)

turned : (test : Paragraph → Bool) (ps : List Paragraph) (at k : ℕ) → IsSome (position_from test k ps) → Turned test at k ps
turned test [] at k some = absurd cc
turned test (p ∷ ps) at k some =
    let r = by (test p) some (λ later. turned test ps (at + body_size p.body + 1) (k + 1) later) in
    record { number = r.number; found = r.found; start = r.start; end = r.end }
  where
    by : (b : Bool) → IsSome (cond b (Some k) (position_from test (k + 1) ps)) → (IsSome (position_from test (k + 1) ps) → Turned test (at + body_size p.body + 1) (k + 1) ps) → TurnedBy test at k p ps b
    by true here later = record {
      number = 0;
      found = let same : k ≡ k + 0 = omega arith in ap Some same;
      start = omega arith;
      end = omega arith;
    }
    by false there later =
        let r = later there in
        let same : k + 1 + r.number ≡ k + suc r.number = omega arith in
        record { number = suc r.number; found = r.found ∙ ap Some same; start = omega (arith, r.start); end = omega (arith, r.end) }

turn-there : (links : Links) (first : ℕ) (server : Bool) (deck : DeckModel) (program : Program) (name : Word) → IsSome (paragraph_of (scope_of server deck program) name)
    → IsTurn (code_in links first program) (turn_of (plan_of program.layout program.screens program.paragraphs first links) name)
turn-there links first server deck program name some =
    let test : Paragraph → Bool = λ p. bytes_eq p.name name in
    let plan = plan_of program.layout program.screens program.paragraphs first links in
    let r = turned test program.paragraphs 0 0 some in
    let same : 0 + r.number ≡ r.number = omega arith in
    let number : unwrap_or (position test program.paragraphs) 0 ≡ r.number = ap (λ o. unwrap_or o 0) (position_from-zero test program.paragraphs ∙ r.found) ∙ same in
    let long = code_long plan program.paragraphs 0 in
    subst (λ n. IsTurn (code_in links first program) (slice_index_or (turns_from 0 program.paragraphs) n (record { start = 0; end = 0 }))) (sym number)
    (record { start = omega (arith, r.start, long); end = omega (arith, r.end, long) })

-- ---- codes

linked-all : (server : Bool) (deck : DeckModel) (program : Program) → IsSoundProgram server deck program → (names : List Word)
    → All (IsLinked (length program.layout.storage)) (map (λ name. linked_by (place_of program.layout name)) names)
linked-all server deck program sound [] = All-nil (IsLinked (length program.layout.storage))
linked-all server deck program sound (name ∷ names) =
    All-cons (IsLinked (length program.layout.storage)) (linked_by (place_of program.layout name)) (map (λ one. linked_by (place_of program.layout one)) names)
    (linked-lies server deck program sound.laid name) (linked-all server deck program sound names)

-- the code of a program
code-valid : (rule : LockRule) (deck : DeckModel) (server : Bool) (program : Program) (first : ℕ) → IsSoundProgram server deck program → IsReadProgram program
    → (server ≡ false → Each (λ (p : Paragraph). Each (DeckCallsFit deck program) p.body) program.paragraphs)
    → (server ≡ false → (name : Word) → IsSome (screen_of (scope_of server deck program) name)
    → IsScreen (system_of rule deck) (length program.layout.storage) (plans.planned_screen (plan_of program.layout program.screens program.paragraphs first (links_of deck)) name))
    → IsCode server (system_of rule deck) (code_in (links_of deck) first program)
code-valid rule deck server program first sound read fit screens =
    let plan = plan_of program.layout program.screens program.paragraphs first (links_of deck) in
    record {
      places = omega (arith, read.short, code_long plan program.paragraphs 0);
      instrs = instrs-are rule deck server program first sound.laid (turn-there (links_of deck) first server deck program) screens sound.resolves sound.forms fit read.statements read.written;
      storage = storage-few server deck program sound.laid;
      linkage = linked-all server deck program sound program.parameters;
    }

-- ---- requesters

screens-long : (programs : List Program) (q i : ℕ) → q < length programs → i < length (tree.program_at programs q).screens → first_screen programs q + i < length (screens_of programs)
screens-long [] q i lt below = absurd (omega (arith, lt))
screens-long (x ∷ xs) zero i lt below = omega (arith, below, length-append x.screens (screens_of xs))
screens-long (x ∷ xs) (suc q) i lt below = omega (arith, screens-long xs q i (omega (arith, lt)) below, length-append x.screens (screens_of xs))

requester-valid : (rule : LockRule) (deck : DeckModel) (q : ℕ) → q < length deck.programs → IsSoundProgram false deck (tree.program_at deck.programs q) → IsFitting deck (tree.program_at deck.programs q)
    → IsReadProgram (tree.program_at deck.programs q) → IsCode false (system_of rule deck) (code_in (links_of deck) (first_screen deck.programs q) (tree.program_at deck.programs q))
requester-valid rule deck q lt sound fitting read =
    let program = tree.program_at deck.programs q in
    code-valid rule deck false program (first_screen deck.programs q) sound read (λ e. fitting.calls) (λ e name some. there name some)
  where
    there : (name : Word) → IsSome (screen_of (scope_of false deck (tree.program_at deck.programs q)) name)
        → IsScreen (system_of rule deck) (length (tree.program_at deck.programs q).layout.storage)
        (plans.planned_screen (plan_of (tree.program_at deck.programs q).layout (tree.program_at deck.programs q).screens (tree.program_at deck.programs q).paragraphs (first_screen deck.programs q) (links_of deck)) name)
    there name some =
        let program = tree.program_at deck.programs q in
        let test : ScreenTable → Bool = λ screen. bytes_eq screen.name name in
        let s = some-found test 0 program.screens some in
        let r = found-at test 0 program.screens s.0 s.1 in
        let same : 0 + r.number ≡ r.number = omega arith in
        let number : unwrap_or (position test program.screens) 0 ≡ r.number = ap (λ o. unwrap_or o 0) (position_from-zero test program.screens ∙ r.place) ∙ same in
        let at : first_screen deck.programs q + unwrap_or (position test program.screens) 0 ≡ first_screen deck.programs q + r.number = ap (λ n. first_screen deck.programs q + n) number in
        let table : slice_index_or (screens_of deck.programs) (first_screen deck.programs q + r.number) (record { name = []; fields = [] }) ≡ s.0 =
        screen-in deck.programs q r.number (record { name = []; fields = [] }) s.0 lt r.got in
        subst (λ n. IsScreen (system_of rule deck) (length program.layout.storage) n) (sym at)
        (record {
          known = screens-long deck.programs q r.number lt (slice_get_within program.screens r.number s.0 r.got);
          fields = subst (λ (one : ScreenTable). IsTable (length program.layout.storage) one) (sym table) (each-found (IsTable (length program.layout.storage)) test program.screens s.0 read.screens s.1);
        })

-- ---- all of a deck

codes-valid : (P : Code → Type 0) (links : Links) (programs : List Program) (first : ℕ)
    → ((q : ℕ) → q < length programs → P (code_in links (first + first_screen programs q) (tree.program_at programs q))) → All P (codes_in links first programs)
codes-valid P links [] first each = All-nil P
codes-valid P links (x ∷ xs) first each =
    let none : first + 0 ≡ first = omega arith in
    All-cons P (code_in links first x) (codes_in links (first + length x.screens) xs) (subst (λ n. P (code_in links n x)) none (each 0 (omega arith)))
    (codes-valid P links xs (first + length x.screens)
    (λ q lt. let same : first + (length x.screens + first_screen xs q) ≡ first + length x.screens + first_screen xs q = omega arith in
    subst (λ n. P (code_in links n (tree.program_at xs q))) same (each (suc q) (omega (arith, lt)))))

servers-valid : (P : Code → Type 0) (links : Links) (programs : List Program) → ((q : ℕ) → q < length programs → P (code_in links 0 (tree.program_at programs q))) → All P (map (code_in links 0) programs)
servers-valid P links [] each = All-nil P
servers-valid P links (x ∷ xs) each =
    All-cons P (code_in links 0 x) (map (code_in links 0) xs) (each 0 (omega arith)) (servers-valid P links xs (λ q lt. each (suc q) (omega (arith, lt))))

module _ (rule : LockRule) (deck : DeckModel) (sound : IsSoundDeck deck) (fitting : AreFitting deck) (read : AreRead deck) where
  pub programs-are : All (IsCode false (system_of rule deck)) (system_of rule deck).programs
  programs-are =
      codes-valid (IsCode false (system_of rule deck)) (links_of deck) deck.programs 0
      (λ q lt. let none : first_screen deck.programs q ≡ 0 + first_screen deck.programs q = omega arith in
      subst (λ n. IsCode false (system_of rule deck) (code_in (links_of deck) n (tree.program_at deck.programs q))) none
      (requester-valid rule deck q lt (each-program (IsSoundProgram false deck) deck.programs q sound.programs lt) (each-program (IsFitting deck) deck.programs q fitting lt)
      (each-program IsReadProgram deck.programs q read.programs lt)))

  pub servers-are : All (IsCode true (system_of rule deck)) (system_of rule deck).servers
  servers-are =
      servers-valid (IsCode true (system_of rule deck)) (links_of deck) deck.servers
      (λ q lt. code-valid rule deck true (tree.program_at deck.servers q) 0 (each-program (IsSoundProgram true deck) deck.servers q sound.servers lt)
      (each-program IsReadProgram deck.servers q read.servers lt) (λ e. absurd (false≢true (sym e))) (λ e. absurd (false≢true (sym e))))

  -- with its tables the system is valid
  pub valid-is : HasTables (system_of rule deck) → IsValid (system_of rule deck)
  valid-is tables = record {
    programs = programs-are;
    servers = servers-are;
    terminals = tables.terminals;
    classes = tables.classes;
    files = each-all IsDeckFile deck.files sound.files;
    names = tables.names;
    few = tables.few;
  }
