-- What the sections of a generated deck say, where it is read without a fault.
use Rattle.std.proofs.Common.{◌≡◌, ℕ, zero, suc, ◌+◌, ◌<◌, ◌≤◌, Bool, true, false, cond, List, [], ◌∷◌, ◌++◌, length, map, drop, Some, Result, Ok, Err, refl, sym, ap, subst, append_assoc, append-nil, arith, ◌∙◌}
use Rattle.std.specs.Prelude.{codes, is_some, nat_le}
use Rattle.pw_base.specs.declared.fault.Fault.{Fault}
use Rattle.pw_base.specs.declared.fault_code.FaultCode.TheVariants.{BadEntry, TooMany}
use Rattle.pw_code.specs.Entry.{EntryLineModel}
use Rattle.pw_code.specs.Limits.{most_entry_lines, most_files, most_programs, most_servers}
use Rattle.pw_deck.specs.Parts.{section_of, section_read, sections_read, with_objects}
use Rattle.pw_deck.specs.declared.parts.Parts.{Parts}
use Rattle.pw_deck_tables.specs.Objects.{has_file, no_objects, once, section_admitted, entries_section, fail_section, file_section, pathcom_section}
use Rattle.pw_deck_tables.specs.Pieces.{DeckPieceModel}
use Rattle.pw_deck_tables.specs.declared.objects.Objects.{Objects}
use Rattle.pw_deck_tables.specs.declared.objects.TermEntries.{TermEntries}
use Rattle.pw_gen.specs.Generated.{digit_of, entry_line, entry_lines, next_number, number_after, text_of}
use Rattle.pw_gen.specs.Parts.{requester, server, stock}
use Rattle.pw_gen.proofs.Commands.{fail_lines, pathcom}
use Rattle.pw_gen.proofs.DeckTexts.{Section, is_section, lines_in, lines_of, texts_of}
use Rattle.pw_gen.proofs.Entries.{are_all, lines_good}
use Rattle.pw_gen.proofs.Pieces.{below_are, read_as}
use Rattle.pw_gen.proofs.Tests.{GoodEntry, head_is, head_of, name_of}
use Rattle.pw_gen.proofs.Whole.{end_section, entry_section, entry_sections, requester_section, section_good, server_section, stock_section}
use Rattle.pw_gen.proofs.Whole as whole
use Rattle.pw_generated_runs.proofs.Server.{ten}
use Rattle.pw_generated_runs.proofs.Texts.{requester-is, requester_at, server-is, server_at, stock-is}
use Rattle.pw_generated_runs.specs.Counts.{stock_with}
use Rattle.pw_generated_runs.specs.Keys.{key_digits}
use Rattle.pw_generated_runs.specs.Trees.{entry_of}
use Rattle.pw_log_lines.specs.Fail.{failures_counted}
use Rattle.pw_pathcom.specs.Reading.{commands_of, lines_read, starting}
use Rattle.pw_pathcom.specs.declared.commands.Commands.{Commands}
use Rattle.pw_pathcom.specs.declared.reading.CommandReading.{CommandReading}
use Rattle.pw_scobol.specs.Requesters.{requester_of}
use Rattle.pw_scobol.specs.declared.requester.Requester.{Requester}
use Rattle.pw_sections.specs.Entries as entries
use Rattle.pw_sections.specs.Entries.{entries_of, entry_read, parts, pairs_of, quoted, with_entry}
use Rattle.pw_sections.specs.Headings.{heading_of}
use Rattle.pw_sections.specs.Lines.{lines}
use Rattle.pw_sections.specs.Records.{printable, records_of_text}
use Rattle.pw_sections.specs.Steps.{◌>>=◌, each_line, line_taken, or_refused, refused}
use Rattle.pw_sections.specs.Words.{words}
use Rattle.pw_sections.specs.declared.heading.Heading.{Heading}
use Rattle.pw_sections.specs.declared.heading.Heading.TheVariants as heading
use Rattle.pw_server.specs.Servers.{server_of}
use Rattle.pw_server.specs.declared.server.Server.{Server}
use Rattle.pw_words.specs.Names.{has_name, with_name}
use Rattle.pw_words.specs.Words.{Word}

-- ---- steps that were not refused

-- both steps of a reading have succeeded
pub record Both {A B : Type 0} (first : Result A Fault) (next : A → Result B Fault) (end : B) : Type 0 where
  pub value : A
  pub one : first ≡ Ok value
  pub two : next value ≡ Ok end

pub both : {A B : Type 0} (first : Result A Fault) (next : A → Result B Fault) (end : B) → (first >>= next) ≡ Ok end → Both first next end
both (Ok value) next end is = record { value = value; one = refl; two = is }
both (Err fault) next end is = absurd cc

pub same_Ok : {A : Type 0} (x y : A) → ◌≡◌ {A = Result A Fault} (Ok x) (Ok y) → x ≡ y
same_Ok x y is = cc

-- ---- a section

-- the rest is read behind parts, on some line
pub record GoesOn (parts final : Parts) (rest : List (List ℕ)) : Type 0 where
  pub line : ℕ
  pub is : sections_read parts line rest ≡ Ok final

-- a section is read, and what is behind it
pub record Taken (parts final : Parts) (line : ℕ) (section : Section) (heading : Heading) (rest : List (List ℕ)) : Type 0 where
  pub next : Parts
  pub own : section_of parts line (text_of section.below) heading ≡ Ok next
  pub more : next.has_end ≡ false → GoesOn next final rest
  pub ended : next.has_end ≡ true → next ≡ final

taken : (parts final : Parts) (line : ℕ) (section : Section) (heading : Heading) (rest : List (List ℕ)) → is_section section ≡ true
    → heading_of (63 ∷ section.head) ≡ Some heading → sections_read parts line (text_of (lines_in section) ∷ rest) ≡ Ok final
    → Taken parts final line section heading rest
unfolding sections_read
taken parts final line section heading rest good says all =
    let text : List ℕ = text_of (lines_in section) in
    let line_then : ℕ = line + length (lines text) in
    let found = both (section_read parts line text) (λ next. cond next.has_end (Ok next) (sections_read next line_then rest)) final all in
    let next : Parts = found.value in
    record {
      next = next;
      own = sym (read_as parts line section heading good says) ∙ found.one;
      more = λ none. record { line = line_then; is = sym (ap (λ b. cond b (Ok next) (sections_read next line_then rest)) none) ∙ found.two };
      ended = λ end. same_Ok next final (sym (ap (λ b. cond b (Ok next) (sections_read next line_then rest)) end) ∙ found.two);
    }

-- it goes on behind the parts that the section has left
goes : (parts final next : Parts) (line : ℕ) (section : Section) (heading : Heading) (rest : List (List ℕ)) (all : Taken parts final line section heading rest)
    → all.next ≡ next → next.has_end ≡ false → GoesOn next final rest
goes parts final next line section heading rest all is none =
    subst (λ (p : Parts). GoesOn p final rest) is (all.more (ap (λ (p : Parts). p.has_end) is ∙ none))

-- ---- what each section says

-- parts with requesters, servers and objects, before the end
abbrev pub parts_with : List Requester → List Server → Objects → Parts
parts_with requesters servers objects = record { requesters = requesters; servers = servers; objects = objects; has_end = false }

module _ (qs : List Requester) (ss : List Server) (final : Parts) where
  -- the objects of a section that is no source
  objects-of : (objects : Objects) (read : Result Objects Fault) (next : Parts) → with_objects (parts_with qs ss objects) read ≡ Ok next
      → (then : Objects) × (read ≡ Ok then) × (next ≡ parts_with qs ss then)
  objects-of objects read next is =
      let found = both read (λ o. Ok (record (parts_with qs ss objects) { objects = o })) next is in
      (found.value, found.one, sym (same_Ok _ next found.two))

-- the commands
pub record Commanded (n : ℕ) (final : Parts) (rest : List (List ℕ)) : Type 0 where
  pub reading : CommandReading
  pub read : lines_read 2 starting (pathcom n).below ≡ Ok reading
  pub piece : DeckPieceModel
  pub goes_on : GoesOn (parts_with [] [] (record no_objects { pathcom = Some piece; commands = reading.commands })) final rest

pub commanded : (n : ℕ) (final : Parts) (rest : List (List ℕ)) → is_section (pathcom n) ≡ true
    → sections_read (parts_with [] [] no_objects) 1 (text_of (lines_in (pathcom n)) ∷ rest) ≡ Ok final → Commanded n final rest
unfolding words
commanded n final rest good all =
    let section = pathcom n in
    let text : List ℕ = text_of section.below in
    let took = taken (parts_with [] [] no_objects) final 1 section heading.Pathcom rest good refl all in
    let piece : DeckPieceModel = record { bytes = text; first_line = 2 } in
    let kept : Commands → Result Objects Fault = λ c. Ok (record no_objects { pathcom = Some piece; commands = c }) in
    let objects = objects-of [] [] final no_objects (pathcom_section no_objects 1 text) took.next took.own in
    let a = both (once 1 false) (λ done. printable text 2 >>= (λ (done : Unit {0}). commands_of text 2 >>= kept)) objects.0 objects.1 in
    let b = both (printable text 2) (λ done. commands_of text 2 >>= kept) objects.0 a.two in
    let c = both (commands_of text 2) kept objects.0 b.two in
    let d = both (lines_read 2 starting (lines text)) (λ (reading : CommandReading). Ok reading.commands) c.value c.one in
    let commands : d.value.commands ≡ c.value = same_Ok _ _ d.two in
    let then : objects.0 ≡ record no_objects { pathcom = Some piece; commands = d.value.commands } =
    sym (same_Ok _ _ c.two) ∙ ap (λ (x : Commands). record no_objects { pathcom = Some piece; commands = x }) (sym commands) in
    record {
      reading = d.value;
      read = ap (lines_read 2 starting) (sym (lines_of section.below (below_are section good))) ∙ d.one;
      piece = piece;
      goes_on = goes (parts_with [] [] no_objects) final _ 1 section heading.Pathcom rest took (objects.2 ∙ ap (parts_with [] []) then) refl;
    }

-- the requester
pub record HasRequester (objects : Objects) (final : Parts) (rest : List (List ℕ)) : Type 0 where
  pub first : ℕ
  pub goes_on : GoesOn (parts_with (requester_at first ∷ []) [] objects) final rest

pub has-requester : (objects : Objects) (final : Parts) (line : ℕ) (rest : List (List ℕ))
    → sections_read (parts_with [] [] objects) line (text_of (lines_in requester_section) ∷ rest) ≡ Ok final → HasRequester objects final rest
unfolding words
has-requester objects final line rest all =
    let parts : Parts = parts_with [] [] objects in
    let name : Word = codes "KEYS" in
    let text : List ℕ = text_of (drop 1 requester) in
    let took = taken parts final line requester_section (heading.Requester name) rest refl refl all in
    let kept : Requester → Result Parts Fault = λ q. Ok (parts_with (q ∷ []) [] objects) in
    let a = both (section_admitted line false (nat_le most_programs 0)) (λ (done : Unit {0}). requester_of name text (line + 1) >>= kept) took.next took.own in
    let b = both (requester_of name text (line + 1)) kept took.next a.two in
    let same : requester_at (line + 1) ≡ b.value = same_Ok _ _ (sym (requester-is (line + 1)) ∙ b.one) in
    record {
      first = line + 1;
      goes_on = goes parts final _ line requester_section (heading.Requester name) rest took
          (sym (same_Ok _ _ b.two) ∙ ap (λ (q : Requester). parts_with (q ∷ []) [] objects) (sym same)) refl;
    }

-- the server
pub record HasServer (q : Requester) (objects : Objects) (final : Parts) (rest : List (List ℕ)) : Type 0 where
  pub first : ℕ
  pub goes_on : GoesOn (parts_with (q ∷ []) (server_at first ∷ []) objects) final rest

pub has-server : (q : Requester) (objects : Objects) (final : Parts) (line : ℕ) (rest : List (List ℕ))
    → sections_read (parts_with (q ∷ []) [] objects) line (text_of (lines_in server_section) ∷ rest) ≡ Ok final → HasServer q objects final rest
unfolding words
has-server q objects final line rest all =
    let parts : Parts = parts_with (q ∷ []) [] objects in
    let name : Word = codes "STORE-P" in
    let text : List ℕ = text_of (drop 1 server) in
    let took = taken parts final line server_section (heading.Server name) rest refl refl all in
    let kept : Server → Result Parts Fault = λ s. Ok (parts_with (q ∷ []) (s ∷ []) objects) in
    let a = both (section_admitted line false (nat_le most_servers 0)) (λ (done : Unit {0}). server_of name text (line + 1) >>= kept) took.next took.own in
    let b = both (server_of name text (line + 1)) kept took.next a.two in
    let same : server_at (line + 1) ≡ b.value = same_Ok _ _ (sym (server-is (line + 1)) ∙ b.one) in
    record {
      first = line + 1;
      goes_on = goes parts final _ line server_section (heading.Server name) rest took
          (sym (same_Ok _ _ b.two) ∙ ap (λ (s : Server). parts_with (q ∷ []) (s ∷ []) objects) (sym same)) refl;
    }

module _ (q : Requester) (s : Server) (final : Parts) where
  abbrev at : Objects → Parts
  at objects = parts_with (q ∷ []) (s ∷ []) objects

  -- the file
  pub has-file : (objects : Objects) (line : ℕ) (rest : List (List ℕ)) → objects.files ≡ [] → sections_read (at objects) line (text_of (lines_in stock_section) ∷ rest) ≡ Ok final
      → GoesOn (at (record objects { files = (record { name = codes "STOCK"; key = 2; records = stock_with (λ d. 0) }) ∷ [] })) final rest
  unfolding words
  has-file objects line rest none all =
      let text : List ℕ = text_of (drop 1 stock) in
      let took = taken (at objects) final line stock_section (heading.File (codes "STOCK") 2) rest refl refl all in
      let with : List (List ℕ) → Objects = λ records. record objects { files = objects.files ++ record { name = codes "STOCK"; key = 2; records = records } ∷ [] } in
      let kept : List (List ℕ) → Result Objects Fault = λ records. Ok (with records) in
      let objects_then = objects-of (q ∷ []) (s ∷ []) final objects (file_section objects line text (codes "STOCK") 2) took.next took.own in
      let a = both (section_admitted line (has_file objects (codes "STOCK")) (nat_le most_files (length objects.files))) (λ (done : Unit {0}). printable text (line + 1) >>= (λ (done : Unit {0}). records_of_text 2 text (line + 1) >>= kept)) objects_then.0 objects_then.1 in
      let b = both (printable text (line + 1)) (λ (done : Unit {0}). records_of_text 2 text (line + 1) >>= kept) objects_then.0 a.two in
      let c = both (records_of_text 2 text (line + 1)) kept objects_then.0 b.two in
      let same : stock_with (λ d. 0) ≡ c.value = same_Ok _ _ (sym (stock-is (line + 1)) ∙ c.one) in
      goes (at objects) final _ line stock_section (heading.File (codes "STOCK") 2) rest took
      (objects_then.2 ∙ (ap at (sym (same_Ok _ _ c.two)) ∙ (ap (λ (records : List (List ℕ)). at (with records)) (sym same)
      ∙ ap (λ (files : _). at (record objects { files = files ++ record { name = codes "STOCK"; key = 2; records = stock_with (λ d. 0) } ∷ [] })) none))) refl

-- ---- entries

-- an entry line is read
entry-reads : (d : ℕ) → d < 10 → entries.entry_of (codes "F1 F-OP=I F-KEY=A" ++ (48 + d) ∷ []) ≡ Some (entry_of d)
unfolding words parts quoted pairs_of
entry-reads = ten (λ d. entries.entry_of (codes "F1 F-OP=I F-KEY=A" ++ (48 + d) ∷ []) ≡ Some (entry_of d)) refl refl refl refl refl refl refl refl refl refl

not-refused : {A : Type 0} (b : Bool) (fault : Fault) (x y : A) → cond b (Err fault) (Ok x) ≡ Ok y → x ≡ y
not-refused true fault x y is = absurd cc
not-refused false fault x y is = same_Ok x y is

-- so are some
lines-entered : (count x number : ℕ) (before all : List EntryLineModel) → each_line entry_read number before (entry_lines count x) ≡ Ok all
    → all ≡ before ++ map entry_of (key_digits count x)
unfolding each_line entry_lines
lines-entered zero x number before all is = sym (same_Ok before all is) ∙ sym (append-nil before)
lines-entered (suc count) x number before all is =
    let next_x : ℕ = next_number x in
    let line : List ℕ = entry_line next_x in
    let good : GoodEntry line = (lines_good (suc count) x).0 in
    let d : ℕ = digit_of next_x in
    let few : d < 10 = omega arith in
    let a = both (line_taken entry_read number before line) (λ next. each_line entry_read (number + 1) next (entry_lines count next_x)) all is in
    let read : (or_refused number BadEntry (entries.entry_of line) >>= with_entry number before) ≡ Ok a.value =
    sym (ap (λ b. cond b (Ok before) (entry_read number before line)) good.some) ∙ a.one in
    let one : cond (nat_le most_entry_lines (length before)) (refused number TooMany) (Ok (before ++ entry_of d ∷ [])) ≡ Ok a.value =
    sym (ap (λ o. or_refused number BadEntry o >>= with_entry number before) (entry-reads d few)) ∙ read in
    let next : before ++ entry_of d ∷ [] ≡ a.value = not-refused (nat_le most_entry_lines (length before)) _ _ _ one in
    lines-entered count next_x (number + 1) a.value all a.two
    ∙ (ap (λ (es : List EntryLineModel). es ++ map entry_of (key_digits count next_x)) (sym next)
    ∙ append_assoc before (entry_of d ∷ []) (map entry_of (key_digits count next_x)))

text-entered : (count x number : ℕ) (all : List EntryLineModel) → entries_of (text_of (entry_lines count x)) number ≡ Ok all → all ≡ map entry_of (key_digits count x)
text-entered count x number all is =
    lines-entered count x number [] all (ap (each_line entry_read number []) (sym (lines_of (entry_lines count x) (are_all (entry_lines count x) (lines_good count x)))) ∙ is)

-- the sections of entries that were read: of so many terminals from t on, from the number after x on
abbrev pub AreEntries : ℕ → ℕ → ℕ → List TermEntries → Type 0
AreEntries zero t x [] = Unit {0}
AreEntries zero t x (first ∷ rest) = ⊥
AreEntries (suc count) t x [] = ⊥
AreEntries (suc count) t x (first ∷ rest) =
    (first.name ≡ name_of t) × (first.entries ≡ map entry_of (key_digits 8 x)) × AreEntries count (t + 1) (number_after 8 x) rest

module _ (q : Requester) (s : Server) (final : Parts) where
  -- objects with other entries
  abbrev pub with_entries_of : Objects → List Word → List TermEntries → Objects
  with_entries_of objects names all = record objects { entered = names; entries = all }

  record Entered (objects : Objects) (t x : ℕ) (rest : List (List ℕ)) : Type 0 where
    names : List Word
    own : TermEntries
    name : own.name ≡ name_of t
    lines_are : own.entries ≡ map entry_of (key_digits 8 x)
    goes_on : GoesOn (parts_with (q ∷ []) (s ∷ []) (with_entries_of objects names (objects.entries ++ own ∷ []))) final rest

  entered : (objects : Objects) (m t x line : ℕ) (rest : List (List ℕ)) → t ≡ suc m → m < 64
      → sections_read (parts_with (q ∷ []) (s ∷ []) objects) line (text_of (lines_in (entry_section t x)) ∷ rest) ≡ Ok final → Entered objects t x rest
  entered objects m t x line rest at few all =
      let parts : Parts = parts_with (q ∷ []) (s ∷ []) objects in
      let name : Word = name_of t in
      let text : List ℕ = text_of (entry_lines 8 x) in
      let good : is_section (entry_section t x) ≡ true = subst (λ k. is_section (entry_section k x) ≡ true) (sym at) (section_good m x few) in
      let says : heading_of (63 ∷ head_of t) ≡ Some (heading.Entries name) =
      subst (λ k. heading_of (63 ∷ head_of k) ≡ Some (heading.Entries (name_of k))) (sym at) (head_is m few).says in
      let took = taken parts final line (entry_section t x) (heading.Entries name) rest good says all in
      let with : List EntryLineModel → Objects = λ es. with_entries_of objects (with_name objects.entered name) (objects.entries ++ record { name = name; line = line; entries = es } ∷ []) in
      let kept : List EntryLineModel → Result Objects Fault = λ es. Ok (with es) in
      let then = objects-of (q ∷ []) (s ∷ []) final objects (entries_section objects line text name) took.next took.own in
      let a = both (once line (has_name objects.entered name)) (λ (done : Unit {0}). printable text (line + 1) >>= (λ (done : Unit {0}). entries_of text (line + 1) >>= kept)) then.0 then.1 in
      let b = both (printable text (line + 1)) (λ (done : Unit {0}). entries_of text (line + 1) >>= kept) then.0 a.two in
      let c = both (entries_of text (line + 1)) kept then.0 b.two in
      record {
        names = with_name objects.entered name;
        own = record { name = name; line = line; entries = c.value };
        name = refl;
        lines_are = text-entered 8 x (line + 1) c.value c.one;
        goes_on = goes parts final _ line (entry_section t x) (heading.Entries name) rest took (then.2 ∙ ap (parts_with (q ∷ []) (s ∷ [])) (sym (same_Ok _ _ c.two))) refl;
      }

  pub record AllEntered (objects : Objects) (count t x : ℕ) (rest : List (List ℕ)) : Type 0 where
    pub names : List Word
    pub all : List TermEntries
    pub are : AreEntries count t x all
    pub goes_on : GoesOn (parts_with (q ∷ []) (s ∷ []) (with_entries_of objects names (objects.entries ++ all))) final rest

  pub all-entered : (count : ℕ) (objects : Objects) (m t x line : ℕ) (rest : List (List ℕ)) → t ≡ suc m → m + count ≤ 64
      → sections_read (parts_with (q ∷ []) (s ∷ []) objects) line (texts_of (entry_sections count t x) ++ rest) ≡ Ok final → AllEntered objects count t x rest
  all-entered zero objects m t x line rest at few is =
      let same : objects ≡ with_entries_of objects objects.entered (objects.entries ++ []) = ap (with_entries_of objects objects.entered) (sym (append-nil objects.entries)) in
      record {
        names = objects.entered;
        all = [];
        are = tt;
        goes_on = subst (λ (o : Objects). GoesOn (parts_with (q ∷ []) (s ∷ []) o) final rest) same (record { line = line; is = is });
      }
  all-entered (suc count) objects m t x line rest at few is =
      let behind : List (List ℕ) = texts_of (entry_sections count (t + 1) (number_after 8 x)) ++ rest in
      let one = entered objects m t x line behind at (omega (arith, few)) is in
      let next : Objects = with_entries_of objects one.names (objects.entries ++ one.own ∷ []) in
      let more = all-entered count next (suc m) (t + 1) (number_after 8 x) one.goes_on.line rest (omega (arith, at)) (omega (arith, few)) one.goes_on.is in
      record {
        names = more.names;
        all = one.own ∷ more.all;
        are = (one.name, one.lines_are, more.are);
        goes_on = subst (λ (es : List TermEntries). GoesOn (parts_with (q ∷ []) (s ∷ []) (with_entries_of objects more.names es)) final rest)
            (append_assoc objects.entries (one.own ∷ []) more.all) more.goes_on;
      }

  -- the failure line
  pub failing : (objects : Objects) (line : ℕ) (rest : List (List ℕ)) → sections_read (parts_with (q ∷ []) (s ∷ []) objects) line (text_of (lines_in whole.fail_section) ∷ rest) ≡ Ok final
      → GoesOn (parts_with (q ∷ []) (s ∷ []) (record objects { fail = Some (record { bytes = text_of fail_lines; first_line = line + 1 }) })) final rest
  unfolding words
  failing objects line rest all =
      let parts : Parts = parts_with (q ∷ []) (s ∷ []) objects in
      let text : List ℕ = text_of fail_lines in
      let took = taken parts final line whole.fail_section heading.Fail rest refl refl all in
      let kept : ℕ → Result Objects Fault = λ count. Ok (record objects { fail = Some (record { bytes = text; first_line = line + 1 }) }) in
      let then = objects-of (q ∷ []) (s ∷ []) final objects (fail_section objects line text) took.next took.own in
      let a = both (once line (is_some objects.fail)) (λ (done : Unit {0}). printable text (line + 1) >>= (λ (done : Unit {0}). failures_counted text (line + 1) >>= kept)) then.0 then.1 in
      let b = both (printable text (line + 1)) (λ (done : Unit {0}). failures_counted text (line + 1) >>= kept) then.0 a.two in
      let c = both (failures_counted text (line + 1)) kept then.0 b.two in
      goes parts final _ line whole.fail_section heading.Fail rest took (then.2 ∙ ap (parts_with (q ∷ []) (s ∷ [])) (sym (same_Ok _ _ c.two))) refl

  -- the end
  pub ended : (objects : Objects) (line : ℕ) → sections_read (parts_with (q ∷ []) (s ∷ []) objects) line (text_of (lines_in end_section) ∷ []) ≡ Ok final
      → final ≡ record (parts_with (q ∷ []) (s ∷ []) objects) { has_end = true }
  unfolding words
  ended objects line all =
      let parts : Parts = parts_with (q ∷ []) (s ∷ []) objects in
      let took = taken parts final line end_section heading.End [] refl refl all in
      let next : took.next ≡ record parts { has_end = true } = sym (same_Ok _ _ took.own) in
      sym (took.ended (ap (λ (p : Parts). p.has_end) next)) ∙ next
