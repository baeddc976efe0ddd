-- A line is read as the entry that it spells.
use Rattle.std.proofs.Common.{◌≡◌, ℕ, Bool, true, false, List, [], ◌∷◌, map, length, Result, Ok, Err, refl, sym, ap, ◌∙◌, subst, inl, inr}
use Rattle.std.specs.Prelude.{◌==◌, ◌⊎◌, codes, nat_lt}
use Rattle.std.specs.List.{AllByRecursion, slice_split}
use Rattle.std.proofs.lemmas.Bool.{ltb-true, lt-ltb}
use Rattle.std.proofs.lemmas.List.Splits.{join_with_byte-slice_split}
use Rattle.pw_base.proofs.Plain.{same-ok}
use Rattle.pw_code.specs.Valid.{HasNames}
use Rattle.pw_code.specs.declared.system.System.{System}
use Rattle.pw_event.specs.declared.event.Event.{Event}
use Rattle.pw_event.specs.declared.fault.EventFault.{EventFault}
use Rattle.pw_event.specs.declared.fault.EventFault.TheVariants.{Bad, Unknown, Memory}
use Rattle.pw_event.specs.declared.keyword.Keyword.{Keyword}
use Rattle.pw_event.specs.declared.keyword.Keyword.TheVariants as plain
use Rattle.pw_event.specs.Keywords.{keyword_text, keyword}
use Rattle.pw_event.specs.Line.{NamesByNumber, LineWord, Plain, TerminalName, PairName, ClassName, FileName, Process, FailNumber, Number, Code, Refresh, terminal_name, pair_name, class_name, file_name, IsWordOfSystem, names_of, spelling, sentence, event_words}
use Rattle.pw_event.specs.Parsing.{line_of, event_of}
use Rattle.pw_event.specs.Reading.{AreFormed, IsLine, IsLineOf, ReadsEventLine}
use Rattle.pw_code.specs.Names.{may_name}
use Rattle.pw_event.proofs.Complete.{words_of, complete}
use Rattle.pw_event.proofs.Ends.{restart_spells, end_spells}
use Rattle.pw_event.proofs.Grammar.{spelled, grammar}
use Rattle.pw_event.proofs.Solid.{system_word, solid_words, formed_words, system_words, cut_words}
use Rattle.pw_event.proofs.Sound.{keyword_out}
use Rattle.pw_event.proofs.Spelled.{InWords, OfWords, Spells, show_spells, key_spells, again_spells, commit_spells, back_spells, check_spells, applied_spells, begin_spells, send_spells, take_spells, file_spells, reply_spells, fail_spells, takeover_spells, raise_spells}
use Rattle.pw_event.proofs.Steps.{InGrammar, and_then}

line_spells : (system : System) (word : List ℕ) (words : List (List ℕ)) (k : Keyword) → word ≡ keyword_text k → Spells system (word ∷ words) (line_of system k words)
unfolding line_of
line_spells system word words plain.Show is = rw is (show_spells system words)
line_spells system word words plain.Key is = rw is (key_spells system words)
line_spells system word words plain.Check is = rw is (check_spells system words)
line_spells system word words plain.Applied is = rw is (applied_spells system words)
line_spells system word words plain.Begin is = rw is (begin_spells system words)
line_spells system word words plain.Send is = rw is (send_spells system words)
line_spells system word words plain.Take is = rw is (take_spells system words)
line_spells system word words plain.File is = rw is (file_spells system words)
line_spells system word words plain.Reply is = rw is (reply_spells system words)
line_spells system word words plain.Again is = rw is (again_spells system words)
line_spells system word words plain.Commit is = rw is (commit_spells system words)
line_spells system word words plain.Back is = rw is (back_spells system words)
line_spells system word words plain.Restart is = rw is (restart_spells system words)
line_spells system word words plain.Fail is = rw is (fail_spells system words)
line_spells system word words plain.Takeover is = rw is (takeover_spells system words)
line_spells system word words plain.Raise is = rw is (raise_spells system words)
line_spells system word words plain.End is = rw is (end_spells system words)
line_spells system word words _ is = tt

event_spells : (system : System) (words : List (List ℕ)) → Spells system words (event_of system words)
unfolding event_of
event_spells system [] = tt
event_spells system (word ∷ words) =
    let U : Type 0 = InWords system.rule (word ∷ words) in
    and_then _ _ U (keyword word) _ (keyword_out word U) (line_spells system word words)

-- the line of an entry of a system is cut into its words
line_words : (system : System) → HasNames system → (line : List ℕ) (event : Event) → IsLineOf system line event → slice_split (λ b. b == 32) line ≡ words_of system system.rule event
line_words system names line event is =
    ap (slice_split (λ b. b == 32)) is.spelled
    ∙ cut_words (names_of system) (event_words system.rule event) (solid_words system.rule event) (system_words system names (event_words system.rule event) is.named.there) is.numbers

-- the line of an entry of a system gives that entry
pub line_gives : (system : System) → HasNames system → (line : List ℕ) (event : Event) → IsLineOf system line event → event_of system (slice_split (λ b. b == 32) line) ≡ Ok event
line_gives system names line event is = ap (event_of system) (line_words system names line event is) ∙ complete system names event is.named.line is.numbers is.named.there

-- a line of the grammar does not give Bad
line_good : (system : System) (line : List ℕ) → IsLine system.rule line → InGrammar (event_of system (slice_split (λ b. b == 32) line))
line_good system line is =
    let cut : slice_split (λ b. b == 32) line ≡ spelled is.names system.rule is.event =
    ap (slice_split (λ b. b == 32)) is.spelled ∙ cut_words is.names (event_words system.rule is.event) (solid_words system.rule is.event) (formed_words is.names is.formed (event_words system.rule is.event)) is.numbers in
    rw cut (grammar system is.names is.formed is.event is.told is.numbers)

-- the words of the line are joined again
joined : (line : List ℕ) → sentence (slice_split (λ b. b == 32) line) ≡ line
joined line = join_with_byte-slice_split 32 line

of_line : (system : System) (line : List ℕ) (event : Event) → OfWords system (slice_split (λ b. b == 32) line) event → IsLineOf system line event
of_line system line event of = record {
  named = record { line = of.told; there = of.there };
  numbers = of.numbers;
  spelled = sym (joined line) ∙ ap sentence of.spelled;
}

in_line : (system : System) (line : List ℕ) → InWords system.rule (slice_split (λ b. b == 32) line) → IsLine system.rule line
in_line system line in_words = record {
  names = in_words.names;
  event = in_words.event;
  formed = in_words.formed;
  told = in_words.told;
  numbers = in_words.numbers;
  spelled = sym (joined line) ∙ ap sentence in_words.spelled;
}

-- what the words of a line give is what reading it answers
pub line_reads : (system : System) → HasNames system → (line : List ℕ) (words : List (List ℕ)) (result : Result Event EventFault) → words ≡ slice_split (λ b. b == 32) line
    → result ≡ event_of system words → ReadsEventLine system line result
line_reads system names line words (Ok event) cut gives =
    let P : Result Event EventFault → Type 0 = λ r. Spells system (slice_split (λ b. b == 32) line) r in
    of_line system line event (subst P (sym (gives ∙ ap (event_of system) cut)) (event_spells system (slice_split (λ b. b == 32) line)))
line_reads system names line words (Err Bad) cut gives = λ is. subst InGrammar (sym (gives ∙ ap (event_of system) cut)) (line_good system line is)
line_reads system names line words (Err Unknown) cut gives =
    let P : Result Event EventFault → Type 0 = λ r. Spells system (slice_split (λ b. b == 32) line) r in (
      in_line system line (subst P (sym (gives ∙ ap (event_of system) cut)) (event_spells system (slice_split (λ b. b == 32) line))),
      λ event is.
          let other : Err Unknown ≡ Ok event = gives ∙ ap (event_of system) cut ∙ line_gives system names line event is in cc,
    )
line_reads system names line words (Err Memory) cut gives = tt

-- two entries with one line are one
pub one_entry : (system : System) → HasNames system → (line : List ℕ) (a b : Event) → IsLineOf system line a → IsLineOf system line b → a ≡ b
one_entry system names line a b is_a is_b = same-ok (event_of system (slice_split (λ b. b == 32) line)) a b (line_gives system names line a is_a) (line_gives system names line b is_b)

-- the name, or another one where the thing is not there
abbrev name_or : Bool → List ℕ → List ℕ
name_or true word = word
name_or false word = codes "A"

name_or_formed : (there : Bool) (word : List ℕ) → (there ≡ true → may_name word ≡ true) → may_name (name_or there word) ≡ true
name_or_formed true word formed = formed refl
name_or_formed false word formed = refl

-- the names of a system, and another one for what is not there
abbrev all_names : System → NamesByNumber
all_names system = record {
  terminal = λ t. name_or (nat_lt t (length system.terminals)) (terminal_name system t);
  pair = λ p. name_or (nat_lt p (length system.tcps)) (pair_name system p);
  class = λ c. name_or (nat_lt c (length system.classes)) (class_name system c);
  file = λ f. name_or (nat_lt f (length system.files)) (file_name system f);
}

all_formed : (system : System) → HasNames system → AreFormed (all_names system)
all_formed system names = record {
  terminal = λ t. name_or_formed (nat_lt t (length system.terminals)) (terminal_name system t) (λ there. system_word system names (TerminalName t) (ltb-true t (length system.terminals) there));
  pair = λ p. name_or_formed (nat_lt p (length system.tcps)) (pair_name system p) (λ there. system_word system names (PairName p) (ltb-true p (length system.tcps) there));
  class = λ c. name_or_formed (nat_lt c (length system.classes)) (class_name system c) (λ there. system_word system names (ClassName c) (ltb-true c (length system.classes) there));
  file = λ f. name_or_formed (nat_lt f (length system.files)) (file_name system f) (λ there. system_word system names (FileName f) (ltb-true f (length system.files) there));
}

same_spelling : (system : System) (word : LineWord) → IsWordOfSystem system word → spelling (names_of system) word ≡ spelling (all_names system) word
same_spelling system (TerminalName t) there = rw (lt-ltb t (length system.terminals) there) refl
same_spelling system (PairName p) there = rw (lt-ltb p (length system.tcps) there) refl
same_spelling system (ClassName c) there = rw (lt-ltb c (length system.classes) there) refl
same_spelling system (FileName f) there = rw (lt-ltb f (length system.files) there) refl
same_spelling system (Plain text) there = refl
same_spelling system (Process c i) there = refl
same_spelling system (FailNumber k) there = refl
same_spelling system (Number n) there = refl
same_spelling system (Code x) there = refl
same_spelling system (Refresh p a k) there = refl

same_spellings : (system : System) (words : List LineWord) → AllByRecursion (IsWordOfSystem system) words → map (spelling (names_of system)) words ≡ map (spelling (all_names system)) words
same_spellings system [] there = refl
same_spellings system (word ∷ words) there =
    ap (λ w. w ∷ map (spelling (names_of system)) words) (same_spelling system word there.0) ∙ ap (λ ws. spelling (all_names system) word ∷ ws) (same_spellings system words there.1)

-- the line of an entry of a system is one of the grammar
pub line_is : (system : System) → HasNames system → (line : List ℕ) (event : Event) → IsLineOf system line event → IsLine system.rule line
line_is system names line event is = record {
  names = all_names system;
  event = event;
  formed = all_formed system names;
  told = is.named.line;
  numbers = is.numbers;
  spelled = is.spelled ∙ ap sentence (same_spellings system (event_words system.rule event) is.named.there);
}

-- the line of an entry of a system is read as that entry
pub line_answer : (system : System) → HasNames system → (line : List ℕ) (event : Event) (result : Result Event EventFault) → IsLineOf system line event → ReadsEventLine system line result
    → (result ≡ Ok event) ⊎ (result ≡ Err Memory)
line_answer system names line event (Ok other) is reads = inl (ap Ok (one_entry system names line other event reads is))
line_answer system names line event (Err Bad) is reads = absurd (reads (line_is system names line event is))
line_answer system names line event (Err Unknown) is reads = absurd (reads.1 event is)
line_answer system names line event (Err Memory) is reads = inr refl
