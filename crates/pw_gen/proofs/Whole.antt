-- The generated deck, section by section.
use Rattle.std.proofs.Common.{◌≡◌, ℕ, zero, suc, ◌+◌, ◌<◌, ◌≤◌, ◌*◌, Bool, true, false, cond, ◌&&◌, List, [], ◌∷◌, ◌++◌, map, length, drop, append_assoc, Option, None, Some, Result, Ok, Err, refl, sym, ap, subst, ◌∙◌, arith, length-append}
use Rattle.std.specs.Prelude.{codes, is_ok, nat_le, nat_lt}
use Rattle.std.specs.List.{list_all, AllByRecursion}
use Rattle.std.proofs.lemmas.Bool.{le-ltb, leb-true, and_parts}
use Rattle.pw_base.specs.Limits.{longest_input}
use Rattle.pw_base.specs.declared.fault.Fault.{Fault}
use Rattle.pw_code.specs.Entry.{EntryLineModel}
use Rattle.pw_gen.specs.Generated.{number_after, entry_lines, section_line, sections_from, terminals_from, text_of, deck_lines, generated}
use Rattle.pw_gen.specs.Parts.{commands, requester, server, stock, ending}
use Rattle.pw_sections.specs.Lines.{lines}
use Rattle.pw_sections.specs.Steps.{◌>>=◌}
use Rattle.pw_pathcom.specs.declared.commands.Commands.{Commands}
use Rattle.pw_scobol.specs.declared.requester.Requester.{Requester}
use Rattle.pw_sections.specs.declared.heading.Heading.TheVariants as heading
use Rattle.pw_server.specs.declared.server.Server.{Server}
use Rattle.pw_deck_tables.specs.Objects.{once, entries_section}
use Rattle.pw_deck_tables.specs.Pieces.{DeckPieceModel}
use Rattle.pw_deck_tables.specs.declared.objects.Objects.{Objects}
use Rattle.pw_deck_tables.specs.declared.objects.TermEntries.{TermEntries}
use Rattle.pw_words.specs.Names.{has_name}
use Rattle.pw_words.specs.Words.{Word}
use Rattle.pw_sections.specs.Entries.{entries_of}
use Rattle.pw_sections.specs.Records.{printable}
use Rattle.pw_deck.specs.Parts.{section_of, section_read, sections_read, with_objects}
use Rattle.pw_deck.specs.declared.parts.Parts.{Parts}
use Rattle.pw_gen.proofs.DeckTexts.{Section, lines_in, all_lines, is_section, is_line, are_lines, are_others, texts_of}
use Rattle.pw_gen.proofs.Tests.{holds_to, holds, name_of, head_of, names_to, is_short, GoodHead, head_is}
use Rattle.pw_gen.proofs.Entries.{lines_good, lines_counted, are_all, are_all_others, are_all_short, text_printed, text_entered}
use Rattle.pw_gen.proofs.Pieces.{read_as, goes_on}
use Rattle.pw_gen.proofs.Programs.{stock_file}
use Rattle.pw_gen.proofs.Commands.{pathcom, fail_lines}

abbrev pub requester_section : Section
requester_section = record { head = codes "SCREEN-COBOL KEYS"; below = drop 1 requester }

abbrev pub server_section : Section
server_section = record { head = codes "SERVER STORE-P"; below = drop 1 server }

abbrev pub stock_section : Section
stock_section = record { head = codes "FILE STOCK KEY 2"; below = drop 1 stock }

abbrev pub fail_section : Section
fail_section = record { head = codes "FAIL"; below = fail_lines }

abbrev pub end_section : Section
end_section = record { head = codes "END"; below = [] }

abbrev pub entry_section : ℕ → ℕ → Section
entry_section t x = record { head = head_of t; below = entry_lines 8 x }

abbrev pub entry_sections : ℕ → ℕ → ℕ → List Section
entry_sections zero t x = []
entry_sections (suc count) t x = entry_section t x ∷ entry_sections count (t + 1) (number_after 8 x)

abbrev pub last_sections : List Section
last_sections = fail_section ∷ end_section ∷ []

abbrev pub whole : ℕ → ℕ → List Section
whole seed n = pathcom n ∷ requester_section ∷ server_section ∷ stock_section ∷ (entry_sections n 1 seed ++ last_sections)

lines_more : (some more : List Section) → all_lines (some ++ more) ≡ all_lines some ++ all_lines more
lines_more [] more = refl
lines_more (s ∷ some) more = ap (λ ls. lines_in s ++ ls) (lines_more some more) ∙ sym (append_assoc (lines_in s) (all_lines some) (all_lines more))

entries_are : (count t x : ℕ) → sections_from count t x ≡ all_lines (entry_sections count t x)
unfolding sections_from
entries_are zero t x = refl
entries_are (suc count) t x = ap (λ ls. section_line t ∷ entry_lines 8 x ++ ls) (entries_are count (t + 1) (number_after 8 x))

-- its lines are those of its sections
pub whole_is : (seed n : ℕ) → deck_lines seed n ≡ all_lines (whole seed n)
whole_is seed n =
    ap (λ ls. commands ++ (terminals_from n 1 ++ (requester ++ (server ++ (stock ++ (ls ++ ending)))))) (entries_are n 1 seed)
    ∙ ap (λ ls. commands ++ (terminals_from n 1 ++ (requester ++ (server ++ (stock ++ ls))))) (sym (lines_more (entry_sections n 1 seed) last_sections))
    ∙ sym (append_assoc commands (terminals_from n 1) (requester ++ (server ++ (stock ++ all_lines (entry_sections n 1 seed ++ last_sections)))))

-- a section of entries, whose terminal has a number that it may have
pub section_good : (m x : ℕ) → m < 64 → is_section (entry_section (suc m) x) ≡ true
section_good m x few =
    let head = head_is m few in
    let good = lines_good 8 x in
    ap (λ b. b && (are_lines (entry_lines 8 x) && are_others (entry_lines 8 x))) head.line
    ∙ ap (λ b. b && are_others (entry_lines 8 x)) (are_all (entry_lines 8 x) good) ∙ are_all_others (entry_lines 8 x) good

sections_good : (count m t x : ℕ) → t ≡ suc m → m + count ≤ 64 → list_all is_section (entry_sections count t x) ≡ true
sections_good zero m t x at few = refl
sections_good (suc count) m t x at few =
    let here : is_section (entry_section t x) ≡ true = subst (λ k. is_section (entry_section k x) ≡ true) (sym at) (section_good m x (omega (arith, few))) in
    ap (λ b. b && list_all is_section (entry_sections count (t + 1) (number_after 8 x))) here
    ∙ sections_good count (suc m) (t + 1) (number_after 8 x) (omega (arith, at)) (omega (arith, few))

all_more : {A : Type 0} (p : A → Bool) (xs ys : List A) → list_all p xs ≡ true → list_all p ys ≡ true → list_all p (xs ++ ys) ≡ true
all_more p [] ys some more = more
all_more p (x ∷ xs) ys some more =
    let parts = and_parts (p x) (list_all p xs) some in
    ap (λ b. b && list_all p (xs ++ ys)) parts.0 ∙ all_more p xs ys parts.1 more

-- all of them are sections
pub whole_good : (seed n : ℕ) → n ≤ 64 → is_section (pathcom n) ≡ true → list_all is_section (whole seed n) ≡ true
whole_good seed n few first =
    ap (λ b. b && list_all is_section (requester_section ∷ server_section ∷ stock_section ∷ (entry_sections n 1 seed ++ last_sections))) first
    ∙ all_more is_section (entry_sections n 1 seed) last_sections (sections_good n 0 1 seed refl (omega (arith, few))) refl

-- how long a text of short lines is
text_size : (ls : List (List ℕ)) → list_all is_short ls ≡ true → length (text_of ls) ≤ 101 * length ls
text_size [] short = omega arith
text_size (l ∷ ls) short =
    let parts = and_parts (is_short l) (list_all is_short ls) short in
    omega (arith, leb-true (length l) 100 parts.0, text_size ls parts.1, length-append l (10 ∷ text_of ls))

entries_short : (count m t x : ℕ) → t ≡ suc m → m + count ≤ 64 → list_all is_short (all_lines (entry_sections count t x)) ≡ true
entries_short zero m t x at few = refl
entries_short (suc count) m t x at few =
    let head : is_short (63 ∷ head_of t) ≡ true = subst (λ k. is_short (63 ∷ head_of k) ≡ true) (sym at) (head_is m (omega (arith, few))).short in
    ap (λ b. b && list_all is_short (entry_lines 8 x ++ all_lines (entry_sections count (t + 1) (number_after 8 x)))) head
    ∙ all_more is_short (entry_lines 8 x) (all_lines (entry_sections count (t + 1) (number_after 8 x))) (are_all_short (entry_lines 8 x) (lines_good 8 x))
    (entries_short count (suc m) (t + 1) (number_after 8 x) (omega (arith, at)) (omega (arith, few)))

entries_counted : (count t x : ℕ) → length (all_lines (entry_sections count t x)) ≡ 9 * count
entries_counted zero t x = refl
entries_counted (suc count) t x =
    omega (
      arith,
      length-append (entry_lines 8 x) (all_lines (entry_sections count (t + 1) (number_after 8 x))),
      lines_counted 8 x,
      entries_counted count (t + 1) (number_after 8 x),
    )

-- it is not too long
pub whole_size : (seed n : ℕ) → n ≤ 64 → list_all is_short (lines_in (pathcom n)) ≡ true → nat_le (length (lines_in (pathcom n))) 300 ≡ true
    → nat_lt longest_input (length (text_of (all_lines (whole seed n)))) ≡ false
whole_size seed n few short size =
    let last = lines_more (entry_sections n 1 seed) last_sections in
    let behind = lines_in requester_section ++ (lines_in server_section ++ (lines_in stock_section ++ all_lines (entry_sections n 1 seed ++ last_sections))) in
    let tail_short : list_all is_short (all_lines (entry_sections n 1 seed ++ last_sections)) ≡ true =
    ap (list_all is_short) last ∙ all_more is_short (all_lines (entry_sections n 1 seed)) (all_lines last_sections) (entries_short n 0 1 seed refl (omega (arith, few))) refl in
    let all_short : list_all is_short (all_lines (whole seed n)) ≡ true =
    all_more is_short (lines_in (pathcom n)) behind short tail_short in
    let tail : length (all_lines (entry_sections n 1 seed ++ last_sections)) ≡ 9 * n + 3 =
    omega (arith, ap length last, length-append (all_lines (entry_sections n 1 seed)) (all_lines last_sections), entries_counted n 1 seed) in
    let count : length (all_lines (whole seed n)) ≤ 2000 =
    omega (arith, leb-true (length (lines_in (pathcom n))) 300 size, tail, few, length-append (lines_in (pathcom n)) behind) in
    le-ltb longest_input (length (text_of (all_lines (whole seed n)))) (omega (arith, text_size (all_lines (whole seed n)) all_short, count))
