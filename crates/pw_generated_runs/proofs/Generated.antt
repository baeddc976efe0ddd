-- A generated deck that is read without a fault has the trees of a deck that counts, with the entries of its text.
use Rattle.std.proofs.Common.{◌≡◌, ℕ, zero, suc, ◌+◌, ◌<◌, ◌≤◌, ◌*◌, Bool, true, false, cond, ◌||◌, List, [], ◌∷◌, ◌++◌, length, map, Option, None, Some, Result, Ok, refl, sym, ap, subst, ⊎_elim, arith, ◌∙◌}
use Rattle.std.specs.Prelude.{codes, option_map, slice_get}
use Rattle.std.specs.Str.{bytes_eq}
use Rattle.std.proofs.lemmas.Bool.{cases_eq, true≢false}
use Rattle.std.proofs.lemmas.List.{length-map, map-append}
use Rattle.std.proofs.lemmas.List.Folds.{list_any-append}
use Rattle.std.proofs.lemmas.Option.{same_Some, slice_get-map, slice_get_within}
use Rattle.std.proofs.lemmas.Slice.Eq.{bytes_eq-Decides}
use Rattle.pw_base.specs.declared.fault.Fault.{Fault}
use Rattle.pw_code.specs.declared.system.System.{System}
use Rattle.pw_code.specs.declared.system.TermInfo.{TermInfo}
use Rattle.pw_compiled_deck.specs.Whole.{trees_of}
use Rattle.pw_deck.specs.Deck.{deck_in, deck_of, end_found, links_of, sized}
use Rattle.pw_deck.specs.Parts.{front_read, no_parts, parts_of, sections_read}
use Rattle.pw_deck.specs.declared.deck.ParsedDeck.{ParsedDeck}
use Rattle.pw_deck.specs.declared.parts.Parts.{Parts}
use Rattle.pw_deck_tables.specs.Objects.{no_objects}
use Rattle.pw_deck_tables.specs.Pieces.{DeckPieceModel}
use Rattle.pw_deck_tables.specs.Tables.{entries_for, with_entries}
use Rattle.pw_deck_tables.specs.Unknown.{fails_of, known, log_of, startable, told_of, told_with}
use Rattle.pw_deck_tables.specs.declared.objects.Objects.{Objects}
use Rattle.pw_deck_tables.specs.declared.objects.TermEntries.{TermEntries}
use Rattle.pw_deck_tables.specs.declared.told.DeckTables.{DeckTables}
use Rattle.pw_event.specs.declared.event.Event.{Event}
use Rattle.pw_event.specs.declared.script.FailLine.{FailLine}
use Rattle.pw_gen.specs.Generated.{generated, next_number, number_after, text_of}
use Rattle.pw_gen.proofs.Commands.{added, fail_lines, pathcom, programs, servers}
use Rattle.pw_gen.proofs.DeckTexts.{all_lines, cut_of, lines_in, texts_of}
use Rattle.pw_gen.proofs.Tests.{head_is, name_of, names_to}
use Rattle.pw_gen.proofs.Whole.{entry_sections, last_sections, requester_section, server_section, stock_section, whole, whole_good, whole_is}
use Rattle.pw_gen.proofs.Whole as sections_of
use Rattle.pw_generated_runs.proofs.Sections.{AreEntries, all-entered, both, commanded, ended, failing, has-file, has-requester, has-server, same_Ok, parts_with}
use Rattle.pw_generated_runs.proofs.Tables.{Tabled, TabledTerminal, system_of, tabled}
use Rattle.pw_generated_runs.proofs.Texts.{lines_behind, requester_at, server_at}
use Rattle.pw_generated_runs.specs.Counts.{stock_with}
use Rattle.pw_generated_runs.specs.Finished.{one_failure}
use Rattle.pw_generated_runs.specs.Keys.{key_digits, terminal_digits}
use Rattle.pw_generated_runs.specs.Trees.{CountingParts, HasEntries, HaveEntries, counting_deck, entry_of}
use Rattle.pw_names.specs.Names.{names_of}
use Rattle.pw_pathcom.specs.Reading.{lines_read, starting}
use Rattle.pw_pathcom.specs.declared.reading.CommandReading.{CommandReading}
use Rattle.pw_sections.specs.Lines.{lines}
use Rattle.pw_sections.specs.Parts.{DeckSections, cut}
use Rattle.pw_sections.specs.Steps.{◌>>=◌, each_line}
use Rattle.pw_words.specs.Names.{has_name}
use Rattle.pw_words.specs.Words.{Word}

-- ---- the sections together

-- what all sections say
record SaysWhole (n seed : ℕ) (final : Parts) : Type 0 where
  reading : CommandReading
  read : lines_read 2 starting (pathcom n).below ≡ Ok reading
  piece : DeckPieceModel
  requester : ℕ
  server : ℕ
  names : List Word
  entries : List TermEntries
  are : AreEntries n 1 seed entries
  fail_line : ℕ
  is : final ≡ record {
    requesters = requester_at requester ∷ [];
    servers = server_at server ∷ [];
    objects = record {
      pathcom = Some piece;
      commands = reading.commands;
      files = (record { name = codes "STOCK"; key = 2; records = stock_with (λ d. 0) }) ∷ [];
      entered = names;
      entries = entries;
      fail = Some (record { bytes = text_of fail_lines; first_line = fail_line });
      log = None;
    };
    has_end = true;
  }

says-whole : (m seed : ℕ) → m < 64 → (final : Parts) → sections_read no_parts 1 (texts_of (whole seed (suc m))) ≡ Ok final → SaysWhole (suc m) seed final
says-whole m seed few final all =
    let n : ℕ = suc m in
    let last : List (List ℕ) = texts_of last_sections in
    let tail : List (List ℕ) = texts_of (entry_sections n 1 seed ++ last_sections) in
    let split : tail ≡ texts_of (entry_sections n 1 seed) ++ last = map-append (λ (section : _). text_of (lines_in section)) (entry_sections n 1 seed) last_sections in
    let good = (added m 0 few).section in
    let c = commanded n final (texts_of (requester_section ∷ server_section ∷ stock_section ∷ []) ++ tail) good all in
    let first : Objects = record no_objects { pathcom = Some c.piece; commands = c.reading.commands } in
    let q = has-requester first final c.goes_on.line (texts_of (server_section ∷ stock_section ∷ []) ++ tail) c.goes_on.is in
    let s = has-server (requester_at q.first) first final q.goes_on.line (texts_of (stock_section ∷ []) ++ tail) q.goes_on.is in
    let f = has-file (requester_at q.first) (server_at s.first) final first s.goes_on.line tail refl s.goes_on.is in
    let second : Objects = record first { files = (record { name = codes "STOCK"; key = 2; records = stock_with (λ d. 0) }) ∷ [] } in
    let parts : Objects → Parts = parts_with (requester_at q.first ∷ []) (server_at s.first ∷ []) in
    let whole_entries = all-entered (requester_at q.first) (server_at s.first) final n second 0 1 seed f.line last refl (omega (arith, few))
    (subst (λ (rest : List (List ℕ)). sections_read (parts second) f.line rest ≡ Ok final) split f.is) in
    let third : Objects = record second { entered = whole_entries.names; entries = whole_entries.all } in
    let failed = failing (requester_at q.first) (server_at s.first) final third whole_entries.goes_on.line (texts_of (sections_of.end_section ∷ [])) whole_entries.goes_on.is in
    let fourth : Objects = record third { fail = Some (record { bytes = text_of fail_lines; first_line = whole_entries.goes_on.line + 1 }) } in
    record {
      reading = c.reading;
      read = c.read;
      piece = c.piece;
      requester = q.first;
      server = s.first;
      names = whole_entries.names;
      entries = whole_entries.all;
      are = whole_entries.are;
      fail_line = whole_entries.goes_on.line + 1;
      is = ended (requester_at q.first) (server_at s.first) final fourth failed.line failed.is;
    }

-- nothing stands in front of the first section
no-front : front_read [] ≡ Ok (tt {0})
unfolding lines each_line
no-front = refl

no-lines : length (lines []) ≡ 0
unfolding lines
no-lines = refl

-- the parts of the text are those of its sections
parts-are : (m seed : ℕ) → m < 64 → parts_of (generated seed (suc m)) ≡ sections_read no_parts 1 (texts_of (whole seed (suc m)))
parts-are m seed few =
    let n : ℕ = suc m in
    let text : List ℕ = text_of (all_lines (whole seed n)) in
    let cuts : cut true text ≡ record { front = []; sections = texts_of (whole seed n) } = cut_of (whole seed n) (whole_good seed n (omega (arith, few)) (added m 0 few).section) in
    let by : DeckSections → Result Parts Fault = λ d. front_read d.front >>= (λ (done : Unit {0}). sections_read no_parts (1 + length (lines d.front)) d.sections) in
    ap (λ ls. parts_of (text_of ls)) (whole_is seed n)
    ∙ (ap by cuts
    ∙ (ap (λ r. r >>= (λ (done : Unit {0}). sections_read no_parts (1 + length (lines [])) (texts_of (whole seed n)))) no-front
    ∙ ap (λ k. sections_read no_parts (1 + k) (texts_of (whole seed n))) no-lines))

-- ---- the entries of a terminal

numbers-after : (a b x : ℕ) → number_after b (number_after a x) ≡ number_after (a + b) x
unfolding number_after
numbers-after zero b x = let same : b ≡ 0 + b = omega arith in ap (λ c. number_after c x) same
numbers-after (suc a) b x = let same : suc (a + b) ≡ suc a + b = omega arith in numbers-after a b (next_number x) ∙ ap (λ c. number_after c x) same

-- two terminals have different names
other-names : (b : ℕ) (word : Word) → has_name (names_to b) word ≡ false → (a : ℕ) → a < b → bytes_eq word (name_of (suc a)) ≡ false
other-names zero word none a lt = absurd (omega (arith, lt))
other-names (suc b) word none a lt =
    let both_none : (has_name (names_to b) word || (bytes_eq word (name_of (suc b)) || false)) ≡ false = sym (list_any-append (bytes_eq word) (names_to b) (name_of (suc b) ∷ [])) ∙ none in
    let parts = or-false (has_name (names_to b) word) (bytes_eq word (name_of (suc b))) both_none in
    ⊎_elim
    (λ same. ap (λ (k : ℕ). bytes_eq word (name_of (suc k))) same ∙ parts.1)
    (λ differ. other-names b word parts.0 a (omega (arith, lt, differ)))
    (cases_eq a b)
  where
    or-false : (x y : Bool) → (x || (y || false)) ≡ false → (x ≡ false) × (y ≡ false)
    or-false false false is = (refl, refl)
    or-false false true is = absurd cc
    or-false true y is = absurd cc

names-differ : (a b : ℕ) → a < b → b < 64 → bytes_eq (name_of (suc a)) (name_of (suc b)) ≡ false
names-differ a b lt few = go (bytes_eq (name_of (suc a)) (name_of (suc b))) refl
  where
    go : (x : Bool) → bytes_eq (name_of (suc a)) (name_of (suc b)) ≡ x → x ≡ false
    go false is = refl
    go true is =
        let same : name_of (suc a) ≡ name_of (suc b) = (bytes_eq-Decides (name_of (suc a)) (name_of (suc b))).0 is in
        let other : bytes_eq (name_of (suc b)) (name_of (suc a)) ≡ false = other-names b (name_of (suc b)) (head_is b few).new a lt in
        let own : bytes_eq (name_of (suc b)) (name_of (suc a)) ≡ true = (bytes_eq-Decides (name_of (suc b)) (name_of (suc a))).1 (sym same) in
        absurd (true≢false (sym own ∙ other))

-- the entries of the terminals are found by their names
entries-found : (count m x : ℕ) (all : List TermEntries) → AreEntries count (suc m) x all → m + count ≤ 64 → (j : ℕ) → j < count
    → entries_for all (name_of (suc (m + j))) ≡ map entry_of (key_digits 8 (number_after (8 * j) x))
unfolding entries_for number_after
entries-found zero m x all are few j lt = absurd (omega (arith, lt))
entries-found (suc count) m x [] are few j lt = absurd are
entries-found (suc count) m x (first ∷ rest) are few zero lt =
    let at : suc (m + 0) ≡ suc m = omega arith in
    let named : first.name ≡ name_of (suc (m + 0)) = are.0 ∙ ap name_of (sym at) in
    ap (λ b. cond b first.entries (entries_for rest (name_of (suc (m + 0))))) ((bytes_eq-Decides first.name (name_of (suc (m + 0)))).1 named) ∙ are.1
entries-found (suc count) m x (first ∷ rest) are few (suc j) lt =
    let at : suc (m + suc j) ≡ suc (suc m + j) = omega arith in
    let next : suc m + 1 ≡ suc (suc m) = omega arith in
    let whole : 8 + 8 * j ≡ 8 * suc j = omega arith in
    let differs : bytes_eq first.name (name_of (suc (m + suc j))) ≡ false =
    ap (λ w. bytes_eq w (name_of (suc (m + suc j)))) are.0 ∙ names-differ m (m + suc j) (omega arith) (omega (arith, lt, few)) in
    ap (λ b. cond b first.entries (entries_for rest (name_of (suc (m + suc j))))) differs
    ∙ (ap (λ k. entries_for rest (name_of k)) at
    ∙ (entries-found count (suc m) (number_after 8 x) rest (subst (λ k. AreEntries count k (number_after 8 x) rest) next are.2) (omega (arith, few)) j (omega (arith, lt))
    ∙ ap (λ y. map entry_of (key_digits 8 y)) (numbers-after 8 (8 * j) x ∙ ap (λ k. number_after k x) whole)))

-- ---- the deck

-- what the deck of a seed and so many terminals is
pub record IsGenerated (seed n : ℕ) (deck : ParsedDeck) : Type 0 where
  pub parts : CountingParts
  pub trees : trees_of deck ≡ counting_deck parts
  pub entries : HaveEntries parts (terminal_digits seed)
  pub count : length parts.terminals ≡ n
  pub restarts : (t : ℕ) (terminal : TermInfo) → slice_get parts.terminals t ≡ Some terminal → terminal.max_restarts ≡ 64
  pub script : parts.script ≡ one_failure

-- the terminals with their entries
module _ (m seed : ℕ) (few : m < 64) (all : List TermEntries) (are : AreEntries (suc m) 1 seed all) (system : System) (line : ℕ) (known : Tabled (suc m) line system) where
  abbrev terminals : List TermInfo
  terminals = map (with_entries all) system.terminals

  record Was (t : ℕ) (terminal : TermInfo) : Type 0 where
    before : TermInfo
    has : slice_get system.terminals t ≡ Some before
    is : terminal ≡ with_entries all before

  was : (t : ℕ) (terminal : TermInfo) → slice_get terminals t ≡ Some terminal → Was t terminal
  was t terminal has = go (slice_get system.terminals t) refl (sym (slice_get-map (with_entries all) system.terminals t) ∙ has)
    where
      go : (o : Option TermInfo) → slice_get system.terminals t ≡ o → option_map (with_entries all) o ≡ Some terminal → Was t terminal
      go None is has = absurd cc
      go (Some before) is has = record { before = before; has = is; is = sym (same_Some _ _ has) }

  terminal-entries : (t : ℕ) (terminal : TermInfo) → slice_get terminals t ≡ Some terminal → HasEntries terminal (terminal_digits seed t)
  terminal-entries t terminal has =
      let w = was t terminal has in
      let own : TabledTerminal (1 + t) w.before = known.terminals t w.before w.has in
      let lt : t < suc m = let within = slice_get_within system.terminals t w.before w.has in omega (arith, within, known.count) in
      let at : 1 + t ≡ suc (0 + t) = omega arith in
      record {
        program = ap (λ (x : TermInfo). x.program) w.is ∙ own.program;
        entries =
            ap (λ (x : TermInfo). x.entries) w.is
            ∙ (ap (entries_for all) (own.name ∙ ap name_of at) ∙ entries-found (suc m) 0 seed all are (omega (arith, few)) t lt);
      }

  terminal-restarts : (t : ℕ) (terminal : TermInfo) → slice_get terminals t ≡ Some terminal → terminal.max_restarts ≡ 64
  terminal-restarts t terminal has =
      let w = was t terminal has in
      ap (λ (x : TermInfo). x.max_restarts) w.is ∙ (known.terminals t w.before w.has).restarts

module _ (m seed : ℕ) (few : m < 64) (deck : ParsedDeck) (parts : Parts) (says : SaysWhole (suc m) seed parts) where
  abbrev objects : Objects
  objects = record {
    pathcom = Some says.piece;
    commands = says.reading.commands;
    files = (record { name = codes "STOCK"; key = 2; records = stock_with (λ d. 0) }) ∷ [];
    entered = says.names;
    entries = says.entries;
    fail = Some (record { bytes = text_of fail_lines; first_line = says.fail_line });
    log = None;
  }

  abbrev whole_parts : Parts
  whole_parts = record { requesters = requester_at says.requester ∷ []; servers = server_at says.server ∷ []; objects = objects; has_end = true }

  -- the deck of these parts
  deck-is : (bytes : List ℕ) → deck_in bytes whole_parts ≡ Ok deck → IsGenerated seed (suc m) deck
  deck-is bytes is =
      let kept : DeckTables → Result ParsedDeck Fault = λ t. Ok (record { told = t; requesters = requester_at says.requester ∷ []; servers = server_at says.server ∷ [] }) in
      let reads : Unit {0} → Result ParsedDeck Fault = λ done. told_of objects programs servers >>= kept in
      let a = both (end_found bytes true) (λ (done : Unit {0}). names_of (requester_at says.requester ∷ []) (server_at says.server ∷ []) (links_of whole_parts) >>= reads) deck is in
      let b = both (names_of (requester_at says.requester ∷ []) (server_at says.server ∷ []) (links_of whole_parts)) reads deck a.two in
      let c = both (told_of objects programs servers) kept deck b.two in
      let events : List FailLine → Result DeckTables Fault = λ f. log_of objects programs servers >>= (λ (e : List Event). Ok (told_with objects programs servers f e)) in
      let d = both (known objects programs servers) (λ (done : Unit {0}). startable objects >>= (λ (done : Unit {0}). fails_of objects programs servers >>= events)) c.value c.one in
      let e = both (startable objects) (λ (done : Unit {0}). fails_of objects programs servers >>= events) c.value d.two in
      let f = both (fails_of objects programs servers) events c.value e.two in
      let g = both (log_of objects programs servers) (λ (es : List Event). Ok (told_with objects programs servers f.value es)) c.value f.two in
      let tables : Tabled (suc m) says.fail_line (system_of says.reading.commands) = tabled m says.fail_line few says.reading says.read in
      let told : told_with objects programs servers f.value g.value ≡ c.value = same_Ok _ _ g.two in
      let script : f.value ≡ one_failure = same_Ok _ _ (sym f.one ∙ tables.script) in
      let system : System = system_of says.reading.commands in
      let whole : record { told = told_with objects programs servers f.value g.value; requesters = requester_at says.requester ∷ []; servers = server_at says.server ∷ [] } ≡ deck =
      ap (λ (t : DeckTables). record { told = t; requesters = requester_at says.requester ∷ []; servers = server_at says.server ∷ [] }) told ∙ same_Ok _ _ c.two in
      let made : CountingParts = record {
        requester_line = λ i. lines_behind (i + 20) says.requester;
        server_line = λ i. lines_behind (i + 14) says.server;
        processes = tables.processes;
        tcps = system.tcps;
        terminals = map (with_entries says.entries) system.terminals;
        script = f.value;
      } in
      record {
        parts = made;
        trees = ap trees_of (sym whole) ∙ ap (λ classes. record (counting_deck made) { classes = classes }) tables.classes;
        entries = terminal-entries m seed few says.entries says.are system says.fail_line tables;
        count = length-map system.terminals (with_entries says.entries) ∙ tables.count;
        restarts = terminal-restarts m seed few says.entries says.are system says.fail_line tables;
        script = script;
      }

-- every deck that is read of the generated text
generated-is : (m seed : ℕ) → m < 64 → (deck : ParsedDeck) → deck_of (generated seed (suc m)) ≡ Ok deck → IsGenerated seed (suc m) deck
generated-is m seed few deck is =
    let bytes : List ℕ = generated seed (suc m) in
    let a = both (sized bytes) (λ (done : Unit {0}). parts_of bytes >>= deck_in bytes) deck is in
    let b = both (parts_of bytes) (deck_in bytes) deck a.two in
    let says = says-whole m seed few b.value (sym (parts-are m seed few) ∙ b.one) in
    deck-is m seed few deck b.value says bytes (ap (deck_in bytes) (sym says.is) ∙ b.two)

pub is-generated : (seed terminals : ℕ) → 1 ≤ terminals → terminals ≤ 64 → (deck : ParsedDeck) → deck_of (generated seed terminals) ≡ Ok deck → IsGenerated seed terminals deck
is-generated seed zero some few deck is = absurd (omega (arith, some))
is-generated seed (suc m) some few deck is = generated-is m seed (omega (arith, few)) deck is
