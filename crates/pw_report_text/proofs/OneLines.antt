-- The text of an entry of a system is one line.
use Rattle.std.proofs.Common.{◌≡◌, ℕ, ◌<◌, ◌==◌, Bool, true, false, not, List, [], ◌∷◌, ◌++◌, length, map, get_or, Some, None, refl, ap, sym, subst, ◌∙◌, arith}
use Rattle.std.specs.Fmt.{decimal}
use Rattle.std.specs.List.{AllByRecursion, list_all}
use Rattle.std.proofs.lemmas.Bool.{and_parts, ne_eqb, true≢false}
use Rattle.std.proofs.lemmas.List.{get_or-map, length-map}
use Rattle.pw_code.specs.Names.{AreNames, IsName, is_name_byte}
use Rattle.pw_code.specs.Valid.{HasNames}
use Rattle.pw_code.specs.declared.file.FileInfo.{FileInfo}
use Rattle.pw_code.specs.declared.file.FileOp.{FileOp}
use Rattle.pw_code.specs.declared.file.FileOp.TheVariants.{Read, Next, Write, Rewrite, Delete, ReadLock, NextLock}
use Rattle.pw_code.specs.declared.lock.LockMode.{LockMode}
use Rattle.pw_code.specs.declared.lock.LockMode.TheVariants.{Shared, Exclusive}
use Rattle.pw_code.specs.declared.lock.LockRule.{LockRule}
use Rattle.pw_code.specs.declared.lock.LockRule.TheVariants.{ReadersShare, AllExclusive}
use Rattle.pw_code.specs.declared.system.ClassInfo.{ClassInfo}
use Rattle.pw_code.specs.declared.system.System.{System}
use Rattle.pw_code.specs.declared.system.TermInfo.{TermInfo}
use Rattle.pw_event.specs.Line.{IsInRange, IsNamed, IsWordOfSystem, LineWord, Plain, TerminalName, PairName, ClassName, FileName, Process, FailNumber, Number, Code, Refresh, event_text, event_words, names_of, no_class, no_file, no_terminal, sentence, spelling}
use Rattle.pw_event.specs.declared.event.Cause.TheVariants as cause
use Rattle.pw_event.specs.declared.event.Ending.TheVariants as ending
use Rattle.pw_event.specs.declared.event.Event.{Event}
use Rattle.pw_event.specs.declared.event.Event.TheVariants.{File, Reply, Restart, FailTcp, End}
use Rattle.pw_report_text.proofs.ReadingBack.{both-one, decimal-one}
use Rattle.pw_report_text.specs.ReadBack.{IsOneLine}

-- a word of the format has no line end
abbrev no_end : List ℕ → Bool
no_end text = list_all (λ b. not (b == 10)) text

abbrev solid : LineWord → Bool
solid (Plain text) = no_end text
solid _ = true

solid-file : (rule : LockRule) (c i : ℕ) (o : FileOp) (m : LockMode) (f s : ℕ) → list_all solid (event_words rule (File c i o m f s)) ≡ true
solid-file ReadersShare c i Read Shared f s = refl
solid-file ReadersShare c i Next Shared f s = refl
solid-file ReadersShare c i Write Shared f s = refl
solid-file ReadersShare c i Rewrite Shared f s = refl
solid-file ReadersShare c i Delete Shared f s = refl
solid-file ReadersShare c i ReadLock Shared f s = refl
solid-file ReadersShare c i NextLock Shared f s = refl
solid-file ReadersShare c i Read Exclusive f s = refl
solid-file ReadersShare c i Next Exclusive f s = refl
solid-file ReadersShare c i Write Exclusive f s = refl
solid-file ReadersShare c i Rewrite Exclusive f s = refl
solid-file ReadersShare c i Delete Exclusive f s = refl
solid-file ReadersShare c i ReadLock Exclusive f s = refl
solid-file ReadersShare c i NextLock Exclusive f s = refl
solid-file AllExclusive c i Read m f s = refl
solid-file AllExclusive c i Next m f s = refl
solid-file AllExclusive c i Write m f s = refl
solid-file AllExclusive c i Rewrite m f s = refl
solid-file AllExclusive c i Delete m f s = refl
solid-file AllExclusive c i ReadLock m f s = refl
solid-file AllExclusive c i NextLock m f s = refl

solid-words : (rule : LockRule) (event : Event) → list_all solid (event_words rule event) ≡ true
solid-words rule (File c i o m f s) = solid-file rule c i o m f s
solid-words rule (Reply c i t None) = refl
solid-words rule (Reply c i t (Some x)) = refl
solid-words rule (Restart t n (cause.Older o m)) = refl
solid-words rule (Restart t n (cause.Takeover p)) = refl
solid-words rule (Restart t n (cause.Server k)) = refl
solid-words rule (Restart t n cause.Redo) = refl
solid-words rule (FailTcp p true k) = refl
solid-words rule (FailTcp p false k) = refl
solid-words rule (End t ending.Stopped) = refl
solid-words rule (End t ending.NoEntries) = refl
solid-words rule (End t (ending.Fault x)) = refl
solid-words rule (End t (ending.Suspended (cause.Older o m))) = refl
solid-words rule (End t (ending.Suspended (cause.Takeover p))) = refl
solid-words rule (End t (ending.Suspended (cause.Server k))) = refl
solid-words rule (End t (ending.Suspended cause.Redo)) = refl
solid-words rule (End t ending.Lost) = refl
solid-words rule _ = refl

-- what a test of each byte says
tested : (test : ℕ → Bool) → test 10 ≡ false → (text : List ℕ) → list_all test text ≡ true → IsOneLine text
tested test ends [] all = tt
tested test ends (b ∷ text) all =
    let parts = and_parts (test b) (list_all test text) all in
    (ne_eqb b 10 (λ is. true≢false (sym parts.0 ∙ (ap test is ∙ ends))), tested test ends text parts.1)

-- a name
name-one : (name : List ℕ) → IsName name → IsOneLine name
name-one name is =
    let formed = and_parts _ _ is in
    tested is_name_byte refl name (and_parts _ (list_all is_name_byte name) formed.1).1

thing-one : {A : Type 0} (name : A → List ℕ) (things : List A) → AreNames (map name things) → (i : ℕ) (default : A) → i < length things → IsOneLine (name (get_or things i default))
thing-one name things names i default within =
    subst IsOneLine (get_or-map name things i default [] within) (name-one _ (names.each i [] (omega (arith, length-map things name))))

-- each word
word-one : (system : System) → HasNames system → (word : LineWord) → solid word ≡ true → IsWordOfSystem system word → IsInRange word → IsOneLine (spelling (names_of system) word)
word-one system names (Plain text) is there range = tested (λ b. not (b == 10)) refl text is
word-one system names (TerminalName t) is there range = thing-one (λ (row : TermInfo). row.name) system.terminals names.terminals t no_terminal there
word-one system names (PairName p) is there range = name-one _ (names.tcps.each p [] there)
word-one system names (ClassName c) is there range = thing-one (λ (row : ClassInfo). row.name) system.classes names.classes c no_class there
word-one system names (FileName f) is there range = thing-one (λ (row : FileInfo). row.name) system.files names.files f no_file there
word-one system names (Process c i) is there range = let high = range.1 in decimal-one i (omega (arith, high))
word-one system names (FailNumber k) is there range = let high = range.1 in decimal-one k (omega (arith, high))
word-one system names (Number n) is there range = decimal-one n (omega (arith, range))
word-one system names (Code x) is there range = decimal-one x (omega (arith, range))
word-one system names (Refresh phase attempt k) is there range =
    let one = range.0 in
    let two = range.1 in
    let three = range.2 in
    both-one (decimal phase) (46 ∷ (decimal attempt ++ 46 ∷ decimal k)) (decimal-one phase (omega (arith, one)))
    (refl, both-one (decimal attempt) (46 ∷ decimal k) (decimal-one attempt (omega (arith, two))) (refl, decimal-one k (omega (arith, three))))

-- all words, with single spaces between them
words-one : (system : System) → HasNames system → (words : List LineWord) → list_all solid words ≡ true → AllByRecursion (IsWordOfSystem system) words → AllByRecursion IsInRange words
    → IsOneLine (sentence (map (spelling (names_of system)) words))
words-one system names [] is there range = tt
words-one system names (word ∷ []) is there range = word-one system names word (and_parts (solid word) true is).0 there.0 range.0
words-one system names (word ∷ next ∷ words) is there range =
    let parts = and_parts (solid word) (list_all solid (next ∷ words)) is in
    both-one (spelling (names_of system) word) (32 ∷ sentence (map (spelling (names_of system)) (next ∷ words))) (word-one system names word parts.0 there.0 range.0)
    (refl, words-one system names (next ∷ words) parts.1 there.1 range.1)

-- the entry's text
pub event-one : (system : System) (entry : Event) → HasNames system → IsNamed system entry → AllByRecursion IsInRange (event_words system.rule entry) → IsOneLine (event_text system entry)
event-one system entry names named range = words-one system names (event_words system.rule entry) (solid-words system.rule entry) named.there range
