-- The entry lines of the generated deck are read.
use Rattle.std.proofs.Common.{◌≡◌, ℕ, zero, suc, ◌+◌, ◌<◌, ◌≤◌, Bool, true, false, cond, ◌&&◌, List, [], ◌∷◌, ◌++◌, length, Result, Ok, refl, sym, ap, ◌∙◌, arith, length-append}
use Rattle.std.specs.Prelude.{nat_le}
use Rattle.std.specs.List.{list_all, AllByRecursion}
use Rattle.std.proofs.lemmas.Bool.{lt-leb}
use Rattle.pw_base.specs.declared.fault.Fault.{Fault}
use Rattle.pw_base.specs.declared.fault_code.FaultCode.TheVariants.{BadCharacter, BadEntry, TooMany}
use Rattle.pw_base.proofs.Plain.{is_some-Some}
use Rattle.pw_code.specs.Entry.{EntryLineModel}
use Rattle.pw_code.specs.Limits.{most_entry_lines}
use Rattle.pw_gen.specs.Generated.{next_number, digit_of, entry_line, entry_lines, text_of}
use Rattle.pw_sections.specs.Lines.{lines}
use Rattle.pw_sections.specs.Steps.{◌>>=◌, refused, or_refused, is_blank, each_line, line_taken}
use Rattle.pw_sections.specs.Entries.{entry_of, entry_read, with_entry, entries_of}
use Rattle.pw_sections.specs.Records.{is_printable, printable_line, printable}
use Rattle.pw_gen.proofs.DeckTexts.{is_line, are_lines, is_other, are_others, lines_of}
use Rattle.pw_gen.proofs.Tests.{is_short, GoodEntry, entry_is}

line_good : (x : ℕ) → GoodEntry (entry_line x)
line_good x = let few : digit_of x < 10 = omega arith in entry_is (digit_of x) few

pub lines_good : (count x : ℕ) → AllByRecursion GoodEntry (entry_lines count x)
unfolding entry_lines
lines_good zero x = tt
lines_good (suc count) x = (line_good (next_number x), lines_good count (next_number x))

pub lines_counted : (count x : ℕ) → length (entry_lines count x) ≡ count
unfolding entry_lines
lines_counted zero x = refl
lines_counted (suc count) x = ap suc (lines_counted count (next_number x))

pub are_all : (ls : List (List ℕ)) → AllByRecursion GoodEntry ls → are_lines ls ≡ true
are_all [] good = refl
are_all (l ∷ ls) good = ap (λ b. b && are_lines ls) good.0.line ∙ are_all ls good.1

pub are_all_others : (ls : List (List ℕ)) → AllByRecursion GoodEntry ls → are_others ls ≡ true
are_all_others [] good = refl
are_all_others (l ∷ ls) good = ap (λ b. b && are_others ls) good.0.other ∙ are_all_others ls good.1

pub are_all_short : (ls : List (List ℕ)) → AllByRecursion GoodEntry ls → list_all is_short ls ≡ true
are_all_short [] good = refl
are_all_short (l ∷ ls) good = ap (λ b. b && list_all is_short ls) good.0.short ∙ are_all_short ls good.1

-- their bytes may be printed
all_printed : (ls : List (List ℕ)) (number : ℕ) → AllByRecursion GoodEntry ls → each_line printable_line number (tt {0}) ls ≡ Ok (tt {0})
unfolding each_line
all_printed [] number good = refl
all_printed (l ∷ ls) number good =
    let after : Unit {0} → Result (Unit {0}) Fault = λ next. each_line printable_line (number + 1) next ls in
    let taken : line_taken printable_line number (tt {0}) l ≡ Ok (tt {0}) =
    ap (λ b. cond b (Ok (tt {0})) (printable_line number (tt {0}) l)) good.0.some ∙ ap (λ b. cond b (Ok (tt {0})) (refused number BadCharacter)) good.0.printed in
    ap (λ s. s >>= after) taken ∙ all_printed ls (number + 1) good.1

pub text_printed : (ls : List (List ℕ)) (number : ℕ) → AllByRecursion GoodEntry ls → printable (text_of ls) number ≡ Ok (tt {0})
text_printed ls number good = ap (each_line printable_line number (tt {0})) (lines_of ls (are_all ls good)) ∙ all_printed ls number good

-- they are entries, of which there are not too many
all_entered : (ls : List (List ℕ)) (number : ℕ) (before : List EntryLineModel) → AllByRecursion GoodEntry ls → length before + length ls ≤ most_entry_lines
    → (es : List EntryLineModel) × (each_line entry_read number before ls ≡ Ok es)
unfolding each_line
all_entered [] number before good few = (before, refl)
all_entered (l ∷ ls) number before good few =
    let e = is_some-Some (entry_of l) good.0.entry in
    let next = before ++ e.0 ∷ [] in
    let after : List EntryLineModel → Result (List EntryLineModel) Fault = λ s. each_line entry_read (number + 1) s ls in
    let room : nat_le most_entry_lines (length before) ≡ false = lt-leb most_entry_lines (length before) (omega (arith, few)) in
    let taken : line_taken entry_read number before l ≡ Ok next =
    ap (λ b. cond b (Ok before) (entry_read number before l)) good.0.some
    ∙ ap (λ o. or_refused number BadEntry o >>= (λ entry. with_entry number before entry)) e.1
    ∙ ap (λ b. cond b (refused number TooMany) (Ok next)) room in
    let rest = all_entered ls (number + 1) next good.1 (omega (arith, few, length-append before (e.0 ∷ []))) in
    (rest.0, ap (λ s. s >>= after) taken ∙ rest.1)

pub text_entered : (ls : List (List ℕ)) (number : ℕ) → AllByRecursion GoodEntry ls → length ls ≤ most_entry_lines
    → (es : List EntryLineModel) × (entries_of (text_of ls) number ≡ Ok es)
text_entered ls number good few =
    let room : length {A = EntryLineModel} [] + length ls ≤ most_entry_lines = omega (arith, few) in
    let all = all_entered ls number [] good room in
    (all.0, ap (each_line entry_read number []) (lines_of ls (are_all ls good)) ∙ all.1)
