-- One entry further: what is taken behind it, and what comes out.
use mathlib.Core.Path.{fun_ext}
use Rattle.std.proofs.Common.{◌≡◌, ℕ, Bool, true, false, List, [], ◌∷◌, ◌++◌, Option, Some, None, Result, Ok, Err, IfOk, OnOk, refl, sym, ap, ◌∙◌}
use Rattle.std.specs.Prelude.{◌||◌}
use Rattle.pw_base.specs.declared.memory.Memory.{Memory}
use Rattle.pw_base.specs.declared.fault.Fault.{Fault}
use Rattle.pw_base.specs.First.{least, unless}
use Rattle.pw_base.proofs.FirstFault.{least-append}
use Rattle.pw_base.proofs.Plain.{or-assoc}
use Rattle.pw_words.specs.Words.{Word, same_word}
use Rattle.pw_text.specs.declared.token.Token.{Token}
use Rattle.pw_text.specs.Cursor.{Left, spelling}
use Rattle.pw_data.specs.Names.{has_name}
use Rattle.pw_data.specs.Parts.{left_of}
use Rattle.pw_data.specs.Entries.{line_of}
use Rattle.pw_data.specs.Layouts.{Laid}
use Rattle.pw_code.specs.declared.field.ScreenTable.{ScreenTable}
use Rattle.pw_divisions.specs.Entries.{division_entries_of}
use Rattle.pw_divisions.specs.Names.{name_of, own_name_of, with_name}
use Rattle.pw_screen.specs.declared.entry.ScreenEntry.{ScreenEntry}
use Rattle.pw_screen.specs.declared.taken.ScreensTaken.{ScreensTaken}
use Rattle.pw_screen.specs.declared.reading.ScreenReading.{ScreenReading}
use Rattle.pw_screen.specs.Cells.{used_by}
use Rattle.pw_screen.specs.Entries.{ScreenEntriesBefore, at_first, begins_screen, screen_entry_of, used_after, after_screen_entry}
use Rattle.pw_screen.specs.Screens.{ScreensBehind, nothing, with_entry, screen_entries_behind, fault_of, faults_of, placed_from, screens_of}
use Rattle.pw_screen.specs.Built.{is_item, before_of, built, completed, outcome}

-- one more name beside those of the items
names-more : (text : List ℕ) (name : Option Token) (taken items : Word → Bool)
    → (λ word. with_name text name taken word || items word) ≡ with_name text name (λ word. taken word || items word)
names-more text None taken items = refl
names-more text (Some token) taken items = fun_ext (λ word. or-assoc (same_word (spelling text token) word) (taken word) (items word))

-- what an entry that begins a screen leaves
pub after-screen : (laid : Laid) (old new : ScreensTaken) (part : Left) (found : ScreenEntry) → begins_screen part ≡ true
    → has_name new.names ≡ with_name part.text (name_of part) (has_name old.names) → new.begun ≡ true → new.fields ≡ [] → new.used ≡ None
    → before_of laid new ≡ after_screen_entry (before_of laid old) part found
after-screen laid old new part found begins names begun none unused =
    ap (λ b. parts b (λ word. has_name new.names word || is_item laid word) (has_name new.fields) (used_by new.used)) begun
    ∙ ap (λ n. parts true n (has_name new.fields) (used_by new.used)) (ap (λ n. λ word. n word || is_item laid word) names ∙ names-more part.text (name_of part) (has_name old.names) (is_item laid))
    ∙ ap (λ (keys : List Word). parts true all (has_name keys) (used_by new.used)) none
    ∙ ap (λ u. parts true all (λ word. false) (used_by u)) unused
    ∙ rw begins refl
  where
    parts : Bool → (Word → Bool) → (Word → Bool) → (ℕ → Bool) → ScreenEntriesBefore
    parts b n f u = record { begun = b; names = n; fields = f; used = u }

    all : Word → Bool
    all = with_name part.text (name_of part) (λ word. has_name old.names word || is_item laid word)

-- what an entry of a field leaves
pub after-field : (laid : Laid) (old new : ScreensTaken) (part : Left) (found : ScreenEntry) → begins_screen part ≡ false
    → has_name new.fields ≡ with_name part.text (own_name_of part) (has_name old.fields) → ((place : ℕ) → used_by new.used place ≡ used_after (used_by old.used) found place)
    → new.begun ≡ old.begun → new.names ≡ old.names → before_of laid new ≡ after_screen_entry (before_of laid old) part found
after-field laid old new part found begins fields used begun names =
    ap (λ b. parts b (λ word. has_name new.names word || is_item laid word) (has_name new.fields) (used_by new.used)) begun
    ∙ ap (λ n. parts old.begun (λ word. has_name n word || is_item laid word) (has_name new.fields) (used_by new.used)) names
    ∙ ap (λ f. parts old.begun all f (used_by new.used)) fields
    ∙ ap (λ u. parts old.begun all (with_name part.text (own_name_of part) (has_name old.fields)) u) (fun_ext used)
    ∙ rw begins refl
  where
    parts : Bool → (Word → Bool) → (Word → Bool) → (ℕ → Bool) → ScreenEntriesBefore
    parts b n f u = record { begun = b; names = n; fields = f; used = u }

    all : Word → Bool
    all = λ word. has_name old.names word || is_item laid word

-- the same of what reading gives
pub field-read : (result : Result ScreenEntry Memory) (laid : Laid) (old new : ScreensTaken) (part : Left) → begins_screen part ≡ false
    → OnOk result (has_name new.fields ≡ with_name part.text (own_name_of part) (has_name old.fields))
    → IfOk result (λ found. (place : ℕ) → used_by new.used place ≡ used_after (used_by old.used) found place)
    → new.begun ≡ old.begun → new.names ≡ old.names → IfOk result (λ found. before_of laid new ≡ after_screen_entry (before_of laid old) part found)
field-read (Ok found) laid old new part begins fields used begun names = after-field laid old new part found begins fields used begun names
field-read (Err memory) laid old new part begins fields used begun names = tt

-- one entry is read
pub outcome-put : (text : List ℕ) (laid : Laid) (old new : ScreenReading) (part : List Token) (parts : List (List Token)) (found : ScreenEntry)
    → found ≡ screen_entry_of laid (before_of laid old.taken) (left_of text part) → before_of laid new.taken ≡ after_screen_entry (before_of laid old.taken) (left_of text part) found
    → new.known ≡ least old.known (fault_of (line_of part) found) → ((rest : ScreensBehind) → built new.build rest ≡ built old.build (with_entry found rest))
    → outcome text laid new parts ≡ outcome text laid old (part ∷ parts)
unfolding placed_from
outcome-put text laid old new part parts found found_is before_is known_is built_is =
    let rest = placed_from text laid (after_screen_entry (before_of laid old.taken) (left_of text part) found) parts in
    ap (λ b. unless (least new.known (faults_of (placed_from text laid b parts))) (built new.build (screen_entries_behind (placed_from text laid b parts)))) before_is
    ∙ ap (λ k. unless (least k (faults_of rest)) (built new.build (screen_entries_behind rest))) known_is
    ∙ ap (λ k. unless k (built new.build (screen_entries_behind rest))) (sym (least-append old.known (fault_of (line_of part) found) (faults_of rest)))
    ∙ ap (unless (least old.known (fault_of (line_of part) found ++ faults_of rest))) (built_is (screen_entries_behind rest))
    ∙ ap (λ f. by_entry f) found_is
  where
    by_entry : ScreenEntry → Result (List ScreenTable) Fault
    by_entry f =
        let rest = placed_from text laid (after_screen_entry (before_of laid old.taken) (left_of text part) f) parts in
        unless (least old.known (fault_of (line_of part) f ++ faults_of rest)) (built old.build (with_entry f (screen_entries_behind rest)))

-- before the first entry
pub outcome-start : (text : List ℕ) (tokens : List Token) (laid : Laid) (reading : ScreenReading) → reading.known ≡ None → before_of laid reading.taken ≡ at_first laid
    → reading.build.done.items ≡ [] → reading.build.current ≡ None → outcome text laid reading (division_entries_of tokens) ≡ screens_of text tokens laid
outcome-start text tokens laid reading known first done current =
    let parts = division_entries_of tokens in
    let rest = placed_from text laid (at_first laid) parts in
    ap (λ k. unless (least k (faults_of (placed_from text laid (before_of laid reading.taken) parts))) (built reading.build (screen_entries_behind (placed_from text laid (before_of laid reading.taken) parts)))) known
    ∙ ap (λ b. unless (least None (faults_of (placed_from text laid b parts))) (built reading.build (screen_entries_behind (placed_from text laid b parts)))) first
    ∙ ap (λ tables. unless (least None (faults_of rest)) (tables ++ completed reading.build.current (screen_entries_behind rest))) done
    ∙ ap (λ c. unless (least None (faults_of rest)) (completed c (screen_entries_behind rest))) current

-- behind the last entry
pub outcome-faulty : (text : List ℕ) (laid : Laid) (reading : ScreenReading) (fault : Fault) → reading.known ≡ Some fault → outcome text laid reading [] ≡ Err fault
unfolding placed_from
outcome-faulty text laid reading fault is = ap (λ k. unless k (built reading.build nothing)) is

pub outcome-good : (text : List ℕ) (laid : Laid) (reading : ScreenReading) (tables : List ScreenTable) → reading.known ≡ None → tables ≡ built reading.build nothing
    → outcome text laid reading [] ≡ Ok tables
unfolding placed_from
outcome-good text laid reading tables is tables_are = ap (λ k. unless k (built reading.build nothing)) is ∙ ap Ok (sym tables_are)
