-- The sections of the generated deck are read one after the other.
use Rattle.std.proofs.Common.{◌≡◌, ℕ, zero, suc, ◌+◌, ◌<◌, ◌≤◌, Bool, true, false, cond, List, [], ◌∷◌, ◌++◌, map, length, drop, Option, None, Some, Result, Ok, Err, refl, sym, ap, subst, ◌∙◌, arith}
use Rattle.std.specs.Prelude.{codes, is_ok}
use Rattle.std.specs.List.{AllByRecursion}
use Rattle.pw_base.specs.declared.fault.Fault.{Fault}
use Rattle.pw_code.specs.Entry.{EntryLineModel}
use Rattle.pw_gen.specs.Generated.{number_after, entry_lines, text_of}
use Rattle.pw_sections.specs.Steps.{◌>>=◌}
use Rattle.pw_pathcom.specs.declared.commands.Commands.{Commands}
use Rattle.pw_scobol.specs.declared.requester.Requester.{Requester}
use Rattle.pw_sections.specs.declared.heading.Heading.TheVariants as heading
use Rattle.pw_server.specs.declared.server.Server.{Server}
use Rattle.pw_deck_tables.specs.Objects.{once, entries_section}
use Rattle.pw_deck_tables.specs.Pieces.{DeckPieceModel}
use Rattle.pw_deck_tables.specs.declared.objects.Objects.{Objects}
use Rattle.pw_deck_tables.specs.declared.objects.TermEntries.{TermEntries}
use Rattle.pw_words.specs.Names.{has_name}
use Rattle.pw_words.specs.Words.{Word}
use Rattle.pw_sections.specs.Entries.{entries_of}
use Rattle.pw_sections.specs.Records.{printable}
use Rattle.pw_sections.specs.Headings.{heading_of}
use Rattle.pw_deck.specs.Parts.{section_of, section_read, sections_read, with_objects}
use Rattle.pw_deck.specs.declared.parts.Parts.{Parts}
use Rattle.pw_gen.proofs.DeckTexts.{Section, lines_in, is_section, texts_of}
use Rattle.pw_gen.proofs.Tests.{name_of, head_of, names_to, GoodHead, head_is}
use Rattle.pw_gen.proofs.Entries.{lines_good, lines_counted, text_printed, text_entered}
use Rattle.pw_gen.proofs.Pieces.{read_as, goes_on}
use Rattle.pw_gen.proofs.Programs.{stock_file}
use Rattle.pw_gen.proofs.Whole.{entry_section, entry_sections, section_good}

-- what was read behind the sources and the file
abbrev pub parts_at : Requester → Server → Commands → DeckPieceModel → Option DeckPieceModel → List Word → List TermEntries → Parts
parts_at q s c p fail names entries = record {
  requesters = q ∷ [];
  servers = s ∷ [];
  objects = record {
    pathcom = Some p;
    commands = c;
    files = stock_file ∷ [];
    entered = names;
    entries = entries;
    fail = fail;
    log = None;
  };
  has_end = false;
}

-- one section of entries is read
one_read : (q : Requester) (s : Server) (c : Commands) (p : DeckPieceModel) (names : List Word) (entries : List TermEntries) (line t x : ℕ) → has_name names (name_of t) ≡ false
    → (es : List EntryLineModel) × (section_of (parts_at q s c p None names entries) line (text_of (entry_lines 8 x)) (heading.Entries (name_of t))
    ≡ Ok (parts_at q s c p None (names ++ name_of t ∷ []) (entries ++ record { name = name_of t; line = line; entries = es } ∷ [])))
one_read q s c p names entries line t x new =
    let good = lines_good 8 x in
    let few : length (entry_lines 8 x) ≤ 4096 = omega (arith, lines_counted 8 x) in
    let read = text_entered (entry_lines 8 x) (line + 1) good few in
    let parts = parts_at q s c p None names entries in
    let name = name_of t in
    let text = text_of (entry_lines 8 x) in
    let with : Bool → List EntryLineModel → Result Objects Fault = λ known es. Ok (record (parts.objects) { entered = cond known names (names ++ name ∷ []); entries = entries ++ record { name = name; line = line; entries = es } ∷ [] }) in
    let entered : Bool → Result Objects Fault = λ known. entries_of text (line + 1) >>= with known in
    let checked : Bool → Result Objects Fault = λ known. printable text (line + 1) >>= (λ done. entered known) in
    let opened : Bool → Result Objects Fault = λ known. once line known >>= (λ done. checked known) in (
      read.0,
      ap (λ known. with_objects parts (opened known)) new
          ∙ ap (λ r. with_objects parts (r >>= (λ (done : Unit {0}). entered false))) (text_printed (entry_lines 8 x) (line + 1) good)
          ∙ ap (λ r. with_objects parts (r >>= with false)) read.1,
    )

-- the entries are those of terminals of the deck
pub record IsNamed (n : ℕ) (entries : TermEntries) : Type 0 where
  pub before : ℕ
  pub few : before < n
  pub name : entries.name ≡ name_of (suc before)

-- what is read behind all sections of entries
pub record Entered (q : Requester) (s : Server) (c : Commands) (p : DeckPieceModel) (n : ℕ) (rest : List (List ℕ)) (all : Result Parts Fault) : Type 0 where
  pub entries : List TermEntries
  pub named : AllByRecursion (IsNamed n) entries
  pub line : ℕ
  pub is : all ≡ sections_read (parts_at q s c p None (names_to n) entries) line rest

more_named : (n : ℕ) (entries : List TermEntries) → AllByRecursion (IsNamed n) entries → AllByRecursion (IsNamed (suc n)) entries
more_named n [] named = tt
more_named n (e ∷ es) named = (record { before = named.0.before; few = omega (arith, named.0.few); name = named.0.name }, more_named n es named.1)

one_named : (n : ℕ) (entries : List TermEntries) (e : TermEntries) → AllByRecursion (IsNamed n) entries → IsNamed n e → AllByRecursion (IsNamed n) (entries ++ e ∷ [])
one_named n [] e named is = (is, tt)
one_named n (f ∷ es) e named is = (named.0, one_named n es e named.1 is)

pub all_entered : (q : Requester) (s : Server) (c : Commands) (p : DeckPieceModel) (count m t x line : ℕ) (entries : List TermEntries) (rest : List (List ℕ)) → t ≡ suc m → m + count ≤ 64
    → AllByRecursion (IsNamed m) entries
    → Entered q s c p (m + count) rest (sections_read (parts_at q s c p None (names_to m) entries) line (texts_of (entry_sections count t x) ++ rest))
all_entered q s c p zero m t x line entries rest at few named =
    let same : m ≡ m + 0 = omega arith in
    subst (λ n. Entered q s c p n rest (sections_read (parts_at q s c p None (names_to m) entries) line rest)) same
    (record { entries = entries; named = named; line = line; is = refl })
all_entered q s c p (suc count) m t x line entries rest at few named =
    let head = head_is m (omega (arith, few)) in
    let new : has_name (names_to m) (name_of t) ≡ false = subst (λ k. has_name (names_to m) (name_of k) ≡ false) (sym at) head.new in
    let says = subst (λ k. heading_of (63 ∷ head_of k) ≡ Some (heading.Entries (name_of k))) (sym at) head.says in
    let good : is_section (entry_section t x) ≡ true = subst (λ k. is_section (entry_section k x) ≡ true) (sym at) (section_good m x (omega (arith, few))) in
    let one = one_read q s c p (names_to m) entries line t x new in
    let e : TermEntries = record { name = name_of t; line = line; entries = one.0 } in
    let parts = parts_at q s c p None (names_to m) entries in
    let next = parts_at q s c p None (names_to m ++ name_of t ∷ []) (entries ++ e ∷ []) in
    let behind = texts_of (entry_sections count (t + 1) (number_after 8 x)) ++ rest in
    let line_then = line + length (lines_in (entry_section t x)) in
    let step = goes_on parts next line (entry_section t x) behind good (read_as parts line (entry_section t x) (heading.Entries (name_of t)) good says ∙ one.1) refl in
    let names : names_to m ++ name_of t ∷ [] ≡ names_to (suc m) = ap (λ k. names_to m ++ name_of k ∷ []) at in
    let is_named : IsNamed (suc m) e = record { before = m; few = omega arith; name = ap name_of at } in
    let more = all_entered q s c p count (suc m) (t + 1) (number_after 8 x) line_then (entries ++ e ∷ []) rest (omega (arith, at)) (omega (arith, few))
    (one_named (suc m) entries e (more_named m entries named) is_named) in
    let last : suc m + count ≡ m + suc count = omega arith in
    let all = subst (λ n. Entered q s c p n rest (sections_read (parts_at q s c p None (names_to (suc m)) (entries ++ e ∷ [])) line_then behind)) last more in
    record {
      entries = all.entries;
      named = all.named;
      line = all.line;
      is = step ∙ ap (λ ns. sections_read (parts_at q s c p None ns (entries ++ e ∷ [])) line_then behind) names ∙ all.is;
    }
