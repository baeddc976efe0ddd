-- The words of a line have no spaces, so a line is cut into them.
use Rattle.std.proofs.Common.{◌≡◌, ℕ, Bool, true, false, not, List, [], ◌∷◌, ◌++◌, map, get_or, Some, None, refl, sym, ap, ◌∙◌, arith}
use Rattle.std.specs.Prelude.{◌==◌}
use Rattle.std.specs.Char.{to_ascii_uppercase}
use Rattle.std.specs.Fmt.{decimal}
use Rattle.std.specs.List.{AllByRecursion, list_all, slice_split}
use Rattle.std.specs.Str.{str_to_ascii_uppercase}
use Rattle.std.proofs.lemmas.Bool.{and_parts, ne_eqb, not-true, false≢true}
use Rattle.std.proofs.lemmas.List.Elements.{All-append, All-cons}
use Rattle.std.proofs.lemmas.List.Recursion.{and_at}
use Rattle.pw_code.specs.Names.{is_name_byte, begins_with_letter, may_name}
use Rattle.pw_code.specs.Valid.{HasNames}
use Rattle.pw_code.specs.declared.file.FileInfo.{FileInfo}
use Rattle.pw_code.specs.declared.file.FileOp.{FileOp}
use Rattle.pw_code.specs.declared.file.FileOp.TheVariants.{Read, Next, Write, Rewrite, Delete, ReadLock, NextLock}
use Rattle.pw_code.specs.declared.lock.LockMode.{LockMode}
use Rattle.pw_code.specs.declared.lock.LockMode.TheVariants.{Shared, Exclusive}
use Rattle.pw_code.specs.declared.lock.LockRule.{LockRule}
use Rattle.pw_code.specs.declared.lock.LockRule.TheVariants.{ReadersShare, AllExclusive}
use Rattle.pw_code.specs.declared.system.ClassInfo.{ClassInfo}
use Rattle.pw_code.specs.declared.system.TermInfo.{TermInfo}
use Rattle.pw_code.specs.declared.system.System.{System}
use Rattle.pw_event.specs.declared.event.Cause.{Cause}
use Rattle.pw_event.specs.declared.event.Cause.TheVariants as cause
use Rattle.pw_event.specs.declared.event.Ending.TheVariants as ending
use Rattle.pw_event.specs.declared.event.Event.{Event}
use Rattle.pw_event.specs.declared.event.Event.TheVariants.{File, Reply, Restart, FailTcp, End}
use Rattle.pw_event.specs.Line.{NamesByNumber, terminal_name, pair_name, class_name, file_name, LineWord, Plain, TerminalName, PairName, ClassName, FileName, Process, FailNumber, Number, Code, Refresh, no_terminal, no_class, no_file, names_of, spelling, sentence, event_words, cause_words, IsInRange, IsWordOfSystem}
use Rattle.pw_event.specs.Reading.{AreFormed}
use Rattle.pw_event.proofs.Leaves.{thing_name}
use Rattle.pw_event.proofs.Points.{decimal_lacks}
use Rattle.pw_event.proofs.Splits.{Lacks, split_joined}
use Rattle.pw_event.proofs.Uppers.{may_name-name}
use Rattle.pw_code.proofs.Uppers.{list_all-map}

-- a word of the format has no space
abbrev pub solid : LineWord → Bool
solid (Plain text) = list_all (λ b. not (b == 32)) text
solid _ = true

-- there are words, and those of the format have no spaces
abbrev pub are_solid : List LineWord → Bool
are_solid [] = false
are_solid (word ∷ words) = list_all solid (word ∷ words)

solid_cause : (word next : LineWord) (c : Cause) → solid word ≡ true → solid next ≡ true → list_all solid (word ∷ next ∷ cause_words c) ≡ true
solid_cause word next (cause.Older t n) one other = rw (one, other) refl
solid_cause word next (cause.Takeover p) one other = rw (one, other) refl
solid_cause word next (cause.Server k) one other = rw (one, other) refl
solid_cause word next cause.Redo one other = rw (one, other) refl

solid_file : (rule : LockRule) (c i : ℕ) (o : FileOp) (m : LockMode) (f s : ℕ) → are_solid (event_words rule (File c i o m f s)) ≡ true
solid_file ReadersShare c i Read Shared f s = refl
solid_file ReadersShare c i Next Shared f s = refl
solid_file ReadersShare c i Write Shared f s = refl
solid_file ReadersShare c i Rewrite Shared f s = refl
solid_file ReadersShare c i Delete Shared f s = refl
solid_file ReadersShare c i ReadLock Shared f s = refl
solid_file ReadersShare c i NextLock Shared f s = refl
solid_file ReadersShare c i Read Exclusive f s = refl
solid_file ReadersShare c i Next Exclusive f s = refl
solid_file ReadersShare c i Write Exclusive f s = refl
solid_file ReadersShare c i Rewrite Exclusive f s = refl
solid_file ReadersShare c i Delete Exclusive f s = refl
solid_file ReadersShare c i ReadLock Exclusive f s = refl
solid_file ReadersShare c i NextLock Exclusive f s = refl
solid_file AllExclusive c i Read m f s = refl
solid_file AllExclusive c i Next m f s = refl
solid_file AllExclusive c i Write m f s = refl
solid_file AllExclusive c i Rewrite m f s = refl
solid_file AllExclusive c i Delete m f s = refl
solid_file AllExclusive c i ReadLock m f s = refl
solid_file AllExclusive c i NextLock m f s = refl

pub solid_words : (rule : LockRule) (event : Event) → are_solid (event_words rule event) ≡ true
solid_words rule (File c i o m f s) = solid_file rule c i o m f s
solid_words rule (Reply c i t None) = refl
solid_words rule (Reply c i t (Some x)) = refl
solid_words rule (Restart t n (cause.Older o m)) = refl
solid_words rule (Restart t n (cause.Takeover p)) = refl
solid_words rule (Restart t n (cause.Server k)) = refl
solid_words rule (Restart t n cause.Redo) = refl
solid_words rule (FailTcp p true k) = refl
solid_words rule (FailTcp p false k) = refl
solid_words rule (End t ending.Stopped) = refl
solid_words rule (End t ending.NoEntries) = refl
solid_words rule (End t (ending.Fault x)) = refl
solid_words rule (End t (ending.Suspended (cause.Older o m))) = refl
solid_words rule (End t (ending.Suspended (cause.Takeover p))) = refl
solid_words rule (End t (ending.Suspended (cause.Server k))) = refl
solid_words rule (End t (ending.Suspended cause.Redo)) = refl
solid_words rule (End t ending.Lost) = refl
solid_words rule _ = refl

-- the name of a word is one
abbrev pub HasName : NamesByNumber → LineWord → Type 0
HasName names (TerminalName t) = may_name (names.terminal t) ≡ true
HasName names (PairName p) = may_name (names.pair p) ≡ true
HasName names (ClassName c) = may_name (names.class c) ≡ true
HasName names (FileName f) = may_name (names.file f) ≡ true
HasName names _ = Unit {0}

formed_word : (names : NamesByNumber) → AreFormed names → (word : LineWord) → HasName names word
formed_word names formed (TerminalName t) = formed.terminal t
formed_word names formed (PairName p) = formed.pair p
formed_word names formed (ClassName c) = formed.class c
formed_word names formed (FileName f) = formed.file f
formed_word names formed _ = tt

-- all words that name something have names
pub formed_words : (names : NamesByNumber) → AreFormed names → (words : List LineWord) → AllByRecursion (HasName names) words
formed_words names formed [] = tt
formed_words names formed (word ∷ words) = (formed_word names formed word, formed_words names formed words)

pub system_word : (system : System) → HasNames system → (word : LineWord) → IsWordOfSystem system word → HasName (names_of system) word
system_word system names (TerminalName t) there = may_name-name (terminal_name system t) (thing_name (λ (row : TermInfo). row.name) system.terminals names.terminals t no_terminal there)
system_word system names (PairName p) there = may_name-name (pair_name system p) (names.tcps.each p [] there)
system_word system names (ClassName c) there = may_name-name (class_name system c) (thing_name (λ (row : ClassInfo). row.name) system.classes names.classes c no_class there)
system_word system names (FileName f) there = may_name-name (file_name system f) (thing_name (λ (row : FileInfo). row.name) system.files names.files f no_file there)
system_word system names (Plain text) there = tt
system_word system names (Process c i) there = tt
system_word system names (FailNumber k) there = tt
system_word system names (Number n) there = tt
system_word system names (Code x) there = tt
system_word system names (Refresh p a k) there = tt

-- the words of a system's entry that name something have names
pub system_words : (system : System) → HasNames system → (words : List LineWord) → AllByRecursion (IsWordOfSystem system) words → AllByRecursion (HasName (names_of system)) words
system_words system names [] there = tt
system_words system names (word ∷ words) there = (system_word system names word there.0, system_words system names words there.1)

-- a name has no space
name_lacks : (word : List ℕ) → may_name word ≡ true → Lacks 32 word
name_lacks word formed k d within =
    let bytes : list_all is_name_byte (str_to_ascii_uppercase word) ≡ true = (and_parts _ _ (and_parts (begins_with_letter (str_to_ascii_uppercase word)) _ formed).1).1 in
    let test : ℕ → Bool = λ b. is_name_byte (to_ascii_uppercase b) in
    let here = and_at (list_all test) test refl (λ x xs. refl) word k d within (sym (list_all-map is_name_byte to_ascii_uppercase word) ∙ bytes) in
    ne_eqb (get_or word k d) 32 (λ space. false≢true (sym (ap test space) ∙ here))

plain_lacks : (text : List ℕ) → list_all (λ b. not (b == 32)) text ≡ true → Lacks 32 text
plain_lacks text plain k d within = not-true _ (and_at (list_all (λ b. not (b == 32))) (λ b. not (b == 32)) refl (λ x xs. refl) text k d within plain)

word_lacks : (names : NamesByNumber) (word : LineWord) → solid word ≡ true → HasName names word → IsInRange word → Lacks 32 (spelling names word)
word_lacks names (Plain text) is_solid named range = plain_lacks text is_solid
word_lacks names (TerminalName t) is_solid named range = name_lacks (names.terminal t) named
word_lacks names (PairName p) is_solid named range = name_lacks (names.pair p) named
word_lacks names (ClassName c) is_solid named range = name_lacks (names.class c) named
word_lacks names (FileName f) is_solid named range = name_lacks (names.file f) named
word_lacks names (Process c i) is_solid named range = decimal_lacks 32 i (omega arith) (omega (arith, range.1))
word_lacks names (FailNumber k) is_solid named range = decimal_lacks 32 k (omega arith) (omega (arith, range.1))
word_lacks names (Number n) is_solid named range = decimal_lacks 32 n (omega arith) (omega arith)
word_lacks names (Code x) is_solid named range = decimal_lacks 32 x (omega arith) (omega arith)
word_lacks names (Refresh p a k) is_solid named range =
    let test = λ (b : ℕ). (b == 32) ≡ false in
    All-append test (decimal p) (46 ∷ (decimal a ++ 46 ∷ decimal k)) (decimal_lacks 32 p (omega arith) (omega (arith, range.0)))
    (All-cons test 46 (decimal a ++ 46 ∷ decimal k) refl
    (All-append test (decimal a) (46 ∷ decimal k) (decimal_lacks 32 a (omega arith) (omega (arith, range.1)))
    (All-cons test 46 (decimal k) refl (decimal_lacks 32 k (omega arith) (omega (arith, range.2))))))

words_lack : (names : NamesByNumber) (words : List LineWord) → list_all solid words ≡ true → AllByRecursion (HasName names) words → AllByRecursion IsInRange words → AllByRecursion (Lacks 32) (map (spelling names) words)
words_lack names [] are named range = tt
words_lack names (word ∷ words) are named range =
    let both = and_parts (solid word) (list_all solid words) are in
    (word_lacks names word both.0 named.0 range.0, words_lack names words both.1 named.1 range.1)

-- a line is cut into the words of its entry
pub cut_words : (names : NamesByNumber) (words : List LineWord) → are_solid words ≡ true → AllByRecursion (HasName names) words → AllByRecursion IsInRange words
    → slice_split (λ b. b == 32) (sentence (map (spelling names) words)) ≡ map (spelling names) words
cut_words names [] are named range = absurd (false≢true are)
cut_words names (word ∷ words) are named range = split_joined 32 (spelling names word) (map (spelling names) words) (words_lack names (word ∷ words) are named range)
