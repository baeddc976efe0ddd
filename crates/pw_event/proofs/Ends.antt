-- Lines with a cause or an ending are read as what they spell.
use Rattle.std.proofs.Common.{◌≡◌, ℕ, zero, suc, List, [], ◌∷◌, map, true, refl}
use Rattle.std.specs.Prelude.{codes}
use Rattle.std.specs.List.{AllByRecursion}
use Rattle.pw_code.specs.declared.system.System.{System}
use Rattle.pw_event.specs.declared.event.Cause.{Cause}
use Rattle.pw_event.specs.declared.event.Cause.TheVariants as cause
use Rattle.pw_event.specs.declared.event.Ending.{Ending}
use Rattle.pw_event.specs.declared.event.Ending.TheVariants as ending
use Rattle.pw_event.specs.declared.event.Event.TheVariants.{Restart, End}
use Rattle.pw_event.specs.declared.keyword.Keyword.{Keyword}
use Rattle.pw_event.specs.declared.keyword.Keyword.TheVariants as plain
use Rattle.pw_event.specs.Keywords.{keyword_text, keyword}
use Rattle.pw_event.specs.Line.{NamesByNumber as NamesBy, LineWord, names_of, spelling, cause_words, ending_words, IsInRange, IsWordOfSystem}
use Rattle.pw_event.specs.Reading.{AreFormed}
use Rattle.pw_code.specs.Names.{may_name}
use Rattle.pw_event.specs.Parsing.{named, number, positive_count_read, terminal, pair, cause_of, cause_in, ending_of, restart, end}
use Rattle.pw_event.proofs.Numbers.{counted_out}
use Rattle.pw_event.proofs.Sound.{keyword_out, named_out, small_out, code_out, terminal_out, pair_out}
use Rattle.pw_event.proofs.Spelled.{InWords, Spells, single, some, single_formed, in_words, of_words}
use Rattle.pw_event.proofs.Steps.{Outcome, and_then}

-- the words are those of some value under some names, of which the first names a terminal
pub record InTail (A : Type 0) (tail : A → List LineWord) (t : List ℕ) (words : List (List ℕ)) : Type 0 where
  pub names : NamesBy
  pub formed : AreFormed names
  pub first : names.terminal 0 ≡ t
  pub value : A
  pub numbers : AllByRecursion IsInRange (tail value)
  pub spelled : words ≡ map (spelling names) (tail value)

-- the words are those of this value in the system
pub record OfTail (A : Type 0) (tail : A → List LineWord) (system : System) (t : List ℕ) (words : List (List ℕ)) (value : A) : Type 0 where
  pub there : AllByRecursion (IsWordOfSystem system) (tail value)
  pub numbers : AllByRecursion IsInRange (tail value)
  pub spelled : words ≡ map (spelling (names_of system)) (tail value)
  pub grammar : InTail A tail t words

-- the words of some cause, and those of this one
abbrev pub InCause : List ℕ → List (List ℕ) → Type 0
InCause t words = InTail Cause cause_words t words

abbrev pub OfCause : System → List ℕ → List (List ℕ) → Cause → Type 0
OfCause system t words c = OfTail Cause cause_words system t words c

-- the words of some ending, and those of this one
abbrev pub InEnding : List ℕ → List (List ℕ) → Type 0
InEnding t words = InTail Ending ending_words t words

abbrev pub OfEnding : System → List ℕ → List (List ℕ) → Ending → Type 0
OfEnding system t words e = OfTail Ending ending_words system t words e

in_cause : (t : List ℕ) (words : List (List ℕ)) (names : NamesBy) (c : Cause) → AreFormed names → names.terminal 0 ≡ t → AllByRecursion IsInRange (cause_words c)
    → words ≡ map (spelling names) (cause_words c) → InCause t words
in_cause t words names c formed first numbers spelled = record { names = names; formed = formed; first = first; value = c; numbers = numbers; spelled = spelled }

in_ending : (t : List ℕ) (words : List (List ℕ)) (names : NamesBy) (e : Ending) → AreFormed names → names.terminal 0 ≡ t → AllByRecursion IsInRange (ending_words e)
    → words ≡ map (spelling names) (ending_words e) → InEnding t words
in_ending t words names e formed first numbers spelled = record { names = names; formed = formed; first = first; value = e; numbers = numbers; spelled = spelled }

-- the first name, and all others
abbrev pub first_of : List ℕ → List ℕ → ℕ → List ℕ
first_of first other zero = first
first_of first other (suc n) = other

first_formed : (first other : List ℕ) → may_name first ≡ true → may_name other ≡ true → (n : ℕ) → may_name (first_of first other n) ≡ true
first_formed first other first_is other_is zero = first_is
first_formed first other first_is other_is (suc n) = other_is

cause_by : (system : System) (t word : List ℕ) (U : Type 0) → may_name t ≡ true → (k : Keyword) → word ≡ keyword_text k → (words : List (List ℕ)) → (InCause t (word ∷ words) → U)
    → Outcome (OfCause system t (word ∷ words)) U (cause_of system k words)
unfolding cause_of
cause_by system t word U formed plain.Older is (other ∷ n ∷ []) unknown =
    let words = word ∷ other ∷ n ∷ [] in
    and_then _ _ U (named other) _ (named_out other U) (λ done other_formed.
    and_then _ _ U (number 4294967295 n) _ (small_out n U) (λ m number.
    let names : NamesBy = record { terminal = first_of t other; pair = λ n. some; class = λ n. some; file = λ n. some } in
    let grammar : InCause t words = in_cause t words names (cause.Older 1 m) (record { terminal = first_formed t other formed other_formed; pair = λ n. refl; class = λ n. refl; file = λ n. refl }) refl (tt, (tt, (number.1, tt))) cc in
    and_then _ _ U (terminal system other) _ (terminal_out system other U (λ formed. unknown grammar)) (λ o name.
    record { there = (tt, (name.1, (tt, tt))); numbers = (tt, (tt, (number.1, tt))); spelled = cc; grammar = grammar })))
cause_by system t word U formed plain.Takeover is (x ∷ []) unknown =
    let words = word ∷ x ∷ [] in
    let taken_over : may_name x ≡ true → InCause t words = λ good. in_cause t words (single t x some some) (cause.Takeover 0) (single_formed t x some some formed good refl refl) refl (tt, (tt, tt)) cc in
    and_then _ _ U (pair system x) _ (pair_out system x U (λ good. unknown (taken_over good))) (λ p name.
    record { there = (tt, (name.1, tt)); numbers = (tt, (tt, tt)); spelled = cc; grammar = taken_over name.0 })
cause_by system t word U formed plain.Server is (x ∷ []) unknown =
    let words = word ∷ x ∷ [] in
    and_then _ _ U (positive_count_read x) _ (counted_out x U) (λ k line.
    record { there = (tt, (tt, tt)); numbers = (tt, (line.1, tt)); spelled = cc; grammar = in_cause t words (single t some some some) (cause.Server k) (single_formed t some some some formed refl refl refl) refl (tt, (line.1, tt)) cc })
cause_by system t word U formed plain.Redo is [] unknown = record {
  there = (tt, tt);
  numbers = (tt, tt);
  spelled = cc;
  grammar = in_cause t (word ∷ []) (single t some some some) cause.Redo (single_formed t some some some formed refl refl refl) refl (tt, tt) cc;
}
cause_by system t word U formed _ is _ unknown = tt

cause_out : (system : System) (t : List ℕ) (words : List (List ℕ)) (U : Type 0) → may_name t ≡ true → (InCause t words → U) → Outcome (OfCause system t words) U (cause_in system words)
unfolding cause_in
cause_out system t [] U formed unknown = tt
cause_out system t (word ∷ words) U formed unknown =
    and_then _ _ U (keyword word) _ (keyword_out word U) (λ k is. cause_by system t word U formed k is words unknown)

-- RESTART t n cause
pub restart_spells : (system : System) (words : List (List ℕ)) → Spells system (codes "RESTART" ∷ words) (restart system words)
unfolding restart
restart_spells system (t ∷ n ∷ rest) =
    let words = codes "RESTART" ∷ t ∷ n ∷ rest in
    let U : Type 0 = InWords system.rule words in
    and_then _ _ U (named t) _ (named_out t U) (λ done formed.
    and_then _ _ U (number 4294967295 n) _ (small_out n U) (λ k number.
    let unknown : InCause t rest → U = λ by. in_words system.rule words by.names (Restart 0 k by.value) by.formed tt (tt, (tt, (number.1, by.numbers))) cc in
    and_then _ _ U (cause_in system rest) _ (cause_out system t rest U formed unknown) (λ c (of : OfCause system t rest c).
    and_then _ _ U (terminal system t) _ (terminal_out system t U (λ formed. unknown of.grammar)) (λ i name.
    of_words system words (Restart i k c) tt (tt, (name.1, (tt, of.there))) (tt, (tt, (number.1, of.numbers))) cc))))
restart_spells system _ = tt

-- an ending alone
ending_alone : (system : System) (t word : List ℕ) (e : Ending) (words : List (List ℕ)) → may_name t ≡ true → AllByRecursion (IsWordOfSystem system) (ending_words e) → AllByRecursion IsInRange (ending_words e)
    → ((names : NamesBy) → words ≡ map (spelling names) (ending_words e)) → OfEnding system t words e
ending_alone system t word e words formed there numbers spelled = record {
  there = there;
  numbers = numbers;
  spelled = spelled (names_of system);
  grammar = in_ending t words (single t some some some) e (single_formed t some some some formed refl refl refl) refl numbers (spelled (single t some some some));
}

ending_by : (system : System) (t word : List ℕ) (U : Type 0) → may_name t ≡ true → (k : Keyword) → word ≡ keyword_text k → (words : List (List ℕ)) → (InEnding t (word ∷ words) → U)
    → Outcome (OfEnding system t (word ∷ words)) U (ending_of system k words)
unfolding ending_of
ending_by system t word U formed plain.Stopped is [] unknown = ending_alone system t word ending.Stopped (word ∷ []) formed (tt, tt) (tt, tt) (λ names. cc)
ending_by system t word U formed plain.NoEntries is [] unknown = ending_alone system t word ending.NoEntries (word ∷ []) formed (tt, tt) (tt, tt) (λ names. cc)
ending_by system t word U formed plain.Lost is [] unknown = ending_alone system t word ending.Lost (word ∷ []) formed (tt, tt) (tt, tt) (λ names. cc)
ending_by system t word U formed plain.Fault is (x ∷ []) unknown =
    and_then _ _ U (number 65535 x) _ (code_out x U) (λ n fault.
    ending_alone system t word (ending.Fault n) (word ∷ x ∷ []) formed (tt, (tt, tt)) (tt, (fault.1, tt)) (λ names. cc))
ending_by system t word U formed plain.Suspended is words unknown =
    let grammar : InCause t words → InEnding t (word ∷ words) = λ by. in_ending t (word ∷ words) by.names (ending.Suspended by.value) by.formed by.first (tt, by.numbers) cc in
    and_then _ _ U (cause_in system words) _ (cause_out system t words U formed (λ by. unknown (grammar by))) (λ c (of : OfCause system t words c).
    record { there = (tt, of.there); numbers = (tt, of.numbers); spelled = cc; grammar = grammar of.grammar })
ending_by system t word U formed _ is _ unknown = tt

-- END t ending
pub end_spells : (system : System) (words : List (List ℕ)) → Spells system (codes "END" ∷ words) (end system words)
unfolding end
end_spells system (t ∷ word ∷ rest) =
    let words = codes "END" ∷ t ∷ word ∷ rest in
    let U : Type 0 = InWords system.rule words in
    let unknown : InEnding t (word ∷ rest) → U = λ by. in_words system.rule words by.names (End 0 by.value) by.formed tt (tt, (tt, by.numbers)) cc in
    and_then _ _ U (named t) _ (named_out t U) (λ done formed.
    and_then _ _ U (keyword word) _ (keyword_out word U) (λ k is.
    and_then _ _ U (ending_of system k rest) _ (ending_by system t word U formed k is rest unknown) (λ e (of : OfEnding system t (word ∷ rest) e).
    and_then _ _ U (terminal system t) _ (terminal_out system t U (λ formed. unknown of.grammar)) (λ i name.
    of_words system words (End i e) tt (tt, (name.1, of.there)) (tt, (tt, of.numbers)) cc))))
end_spells system _ = tt
