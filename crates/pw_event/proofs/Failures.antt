-- A failure line is read as what it spells.
use Rattle.std.proofs.Common.{◌≡◌, ℕ, ◌<◌, ◌≤◌, List, [], ◌∷◌, map, length, Bool, true, false, cond, Result, Ok, Err, refl, sym, ap, ◌∙◌, subst, arith, inl, inr}
use Rattle.std.specs.Prelude.{◌==◌, slice_index_or, nat_le, codes, ◌⊎◌}
use Rattle.std.specs.Fmt.{decimal}
use Rattle.std.specs.List.{AllByRecursion, slice_split}
use Rattle.std.specs.Str.{str_to_ascii_uppercase}
use Rattle.std.proofs.lemmas.Bool.{leb-true, le-leb, ne_eqb, eqb-false}
use Rattle.std.proofs.lemmas.List.Splits.{join_with_byte-slice_split}
use Rattle.pw_base.proofs.Plain.{same-ok}
use Rattle.pw_code.specs.Limits.{most_after}
use Rattle.pw_code.specs.Names.{is_name, IsName, may_name}
use Rattle.pw_code.specs.Valid.{HasNames}
use Rattle.pw_code.specs.declared.system.ClassInfo.{ClassInfo}
use Rattle.pw_code.specs.declared.system.System.{System}
use Rattle.pw_event.specs.declared.fault.EventFault.{EventFault}
use Rattle.pw_event.specs.declared.fault.EventFault.TheVariants.{Bad, Unknown, Memory}
use Rattle.pw_event.specs.declared.script.FailLine.{FailLine}
use Rattle.pw_event.specs.declared.script.FailLine.TheVariants.{Tcp, Server}
use Rattle.pw_event.specs.Fails.{fail_words, IsFailInRange, IsFailLine, IsFailThere, IsNameOf, IsFailLineOf, ReadsFail}
use Rattle.pw_event.specs.declared.keyword.Keyword.{Keyword}
use Rattle.pw_event.specs.declared.keyword.Keyword.TheVariants as plain
use Rattle.pw_event.specs.Keywords.{keyword_text, keyword}
use Rattle.pw_event.specs.Line.{NamesByNumber as NamesBy, no_class, spelling, sentence, pair_name, class_name, IsInRange}
use Rattle.pw_event.specs.Reading.{AreFormed}
use Rattle.pw_event.specs.Parsing.{named, number, among, class_names, member, after_of, after_keyword_read, fail_process, tcp_line, fail_class, class_line, fail_line_of, fail_of, GivesUnlessMemory}
use Rattle.pw_event.proofs.Grammar.{cond_in, among_in}
use Rattle.pw_event.proofs.Leaves.{named_formed, thing_name, pair_among_of, class_among_of}
use Rattle.pw_event.proofs.Numbers.{number-decimal, number_out}
use Rattle.pw_event.proofs.Solid.{are_solid, HasName, formed_words, cut_words}
use Rattle.pw_event.proofs.Sound.{either, keyword_out, named_out, member_out, pair_among_out, class_among_out}
use Rattle.pw_event.proofs.Spelled.{single, some, single_formed}
use Rattle.pw_event.proofs.Steps.{Outcome, and_then, InGrammar, in_grammar}

-- a failure line of a system is read as it

process-decimal : (i : ℕ) → (1 ≤ i) × (i ≤ 16) → fail_process (decimal i) ≡ Ok i
unfolding fail_process
process-decimal i fits = rw (number-decimal 16 i fits.1 (omega (arith, fits.1)), ne_eqb i 0 (λ zero. omega (arith, fits.0))) refl

after_is : after_keyword_read (codes "AFTER") ≡ Ok tt
unfolding after_keyword_read keyword
after_is = refl

-- a word that is a name in upper case may be a name
may_by : (word name : List ℕ) → str_to_ascii_uppercase word ≡ name → IsName name → may_name word ≡ true
may_by word name same is = ap is_name same ∙ is

class_is_name : (system : System) → HasNames system → (c : ℕ) → c < length system.classes → IsName (class_name system c)
class_is_name system names c within = thing_name (λ (row : ClassInfo). row.name) system.classes names.classes c no_class within

complete_fail : (system : System) → HasNames system → (by : NamesBy) (fail : FailLine) → IsNameOf system by fail → IsFailThere system fail → IsFailInRange fail
    → fail_of system (map (spelling by) (fail_words fail)) ≡ Ok fail
unfolding fail_of fail_line_of keyword tcp_line class_line fail_class member
complete_fail system names by (Tcp p true n) same there range =
    rw (named_formed (by.pair p) (may_by (by.pair p) (pair_name system p) same (names.tcps.each p [] there)), after_is, number-decimal most_after n range (omega (arith, range)), same, pair_among_of system names p there) refl
complete_fail system names by (Tcp p false n) same there range =
    rw (named_formed (by.pair p) (may_by (by.pair p) (pair_name system p) same (names.tcps.each p [] there)), after_is, number-decimal most_after n range (omega (arith, range)), same, pair_among_of system names p there) refl
complete_fail system names by (Server c i n) same there range =
    rw (
      named_formed (by.class c) (may_by (by.class c) (class_name system c) same (class_is_name system names c there.0)),
      process-decimal i (range.0, range.1),
      after_is,
      number-decimal most_after n range.2 (omega (arith, range.2)),
      same,
      class_among_of system names c there.0,
      le-leb i (slice_index_or system.classes c no_class).processes there.1,
    ) refl

-- a line of the grammar is not read as a bad one

grammar_fail : (system : System) (names : NamesBy) → AreFormed names → (fail : FailLine) → IsFailInRange fail → InGrammar (fail_of system (map (spelling names) (fail_words fail)))
unfolding fail_of fail_line_of keyword tcp_line class_line fail_class member
grammar_fail system names formed (Tcp p true n) range =
    rw (named_formed (names.pair p) (formed.pair p), after_is, number-decimal most_after n range (omega (arith, range))) (in_grammar _ _ (among_in _ _) (λ p. tt))
grammar_fail system names formed (Tcp p false n) range =
    rw (named_formed (names.pair p) (formed.pair p), after_is, number-decimal most_after n range (omega (arith, range))) (in_grammar _ _ (among_in _ _) (λ p. tt))
grammar_fail system names formed (Server c i n) range =
    rw (named_formed (names.class c) (formed.class c), process-decimal i (range.0, range.1), after_is, number-decimal most_after n range.2 (omega (arith, range.2))) (in_grammar _ _ (among_in _ _) (λ c. cond_in _ _))

-- what is read is what the line spells

-- the words are those of some failure line under some names
record InFail (words : List (List ℕ)) : Type 0 where
  pub names : NamesBy
  pub fail : FailLine
  pub formed : AreFormed names
  pub numbers : IsFailInRange fail
  pub spelled : words ≡ map (spelling names) (fail_words fail)

-- the words are those of this failure line of the system
record OfFail (system : System) (words : List (List ℕ)) (fail : FailLine) : Type 0 where
  pub there : IsFailThere system fail
  pub numbers : IsFailInRange fail
  pub names : NamesBy
  pub same : IsNameOf system names fail
  pub spelled : words ≡ map (spelling names) (fail_words fail)

after_by : (word : List ℕ) (U : Type 0) (k : Keyword) → word ≡ keyword_text k → Outcome (λ done. word ≡ codes "AFTER") U (after_of k)
after_by word U plain.After is = is
after_by word U _ is = tt

after_out : (word : List ℕ) (U : Type 0) → Outcome (λ done. word ≡ codes "AFTER") U (after_keyword_read word)
unfolding after_keyword_read
after_out word U = and_then _ _ U (keyword word) _ (keyword_out word U) (after_by word U)

process_by : (i : ℕ) (word : List ℕ) (U : Type 0) (b : Bool) → (i == 0) ≡ b → (word ≡ decimal i) × (i ≤ 16) → Outcome (λ i. (word ≡ decimal i) × ((1 ≤ i) × (i ≤ 16))) U (cond {A = Result ℕ EventFault} b (Err Bad) (Ok i))
process_by i word U true none is = tt
process_by i word U false some is = (is.0, (omega (arith, eqb-false i 0 some), is.1))

fail_process_out : (word : List ℕ) (U : Type 0) → Outcome (λ i. (word ≡ decimal i) × ((1 ≤ i) × (i ≤ 16))) U (fail_process word)
unfolding fail_process
fail_process_out word U = and_then _ _ U (number 16 word) _ (number_out 16 word U) (λ i is. process_by i word U _ refl is)

tcp_spells : (system : System) (words : List (List ℕ)) → Outcome (OfFail system (codes "TCP" ∷ words)) (InFail (codes "TCP" ∷ words)) (tcp_line system words)
unfolding tcp_line
tcp_spells system (p ∷ m ∷ a ∷ n ∷ []) =
    let words = codes "TCP" ∷ p ∷ m ∷ a ∷ n ∷ [] in
    let U : Type 0 = InFail words in
    and_then _ _ U (named p) _ (named_out p U) (λ done formed.
    and_then _ _ U (member m) _ (member_out m U) (λ (b : Bool) told.
    and_then _ _ U (after_keyword_read a) _ (after_out a U) (λ done behind.
    and_then _ _ U (number most_after n) _ (number_out most_after n U) (λ k number.
    let spelled : words ≡ map (spelling (single some p some some)) (fail_words (Tcp 0 b k)) = cc in
    let unknown : U = record { names = single some p some some; fail = Tcp 0 b k; formed = single_formed some p some some refl formed refl refl; numbers = number.1; spelled = spelled } in
    and_then _ _ U (among system.tcps (str_to_ascii_uppercase p)) _ (pair_among_out system (str_to_ascii_uppercase p) U unknown) (λ i name.
    record { there = name.0; numbers = number.1; names = single some p some some; same = sym name.1; spelled = spelled })))))
tcp_spells system _ = tt

class_spells : (system : System) (words : List (List ℕ)) → Outcome (OfFail system (codes "SERVER" ∷ words)) (InFail (codes "SERVER" ∷ words)) (class_line system words)
unfolding class_line fail_class
class_spells system (c ∷ i ∷ a ∷ n ∷ []) =
    let words = codes "SERVER" ∷ c ∷ i ∷ a ∷ n ∷ [] in
    let U : Type 0 = InFail words in
    and_then _ _ U (named c) _ (named_out c U) (λ done formed.
    and_then _ _ U (fail_process i) _ (fail_process_out i U) (λ q process.
    and_then _ _ U (after_keyword_read a) _ (after_out a U) (λ done behind.
    and_then _ _ U (number most_after n) _ (number_out most_after n U) (λ k number.
    let spelled : words ≡ map (spelling (single some some c some)) (fail_words (Server 0 q k)) = cc in
    let numbers : IsFailInRange (Server 0 q k) = (process.1.0, process.1.1, number.1) in
    let unknown : U = record { names = single some some c some; fail = Server 0 q k; formed = single_formed some some c some refl refl formed refl; numbers = numbers; spelled = spelled } in
    and_then _ _ U (among (class_names system) (str_to_ascii_uppercase c)) _ (class_among_out system (str_to_ascii_uppercase c) U unknown) (λ j name.
    either _ U (nat_le q (slice_index_or system.classes j no_class).processes) _ _
    (λ few. record { there = (name.0, leb-true q (slice_index_or system.classes j no_class).processes few); numbers = numbers; names = single some some c some; same = sym name.1; spelled = spelled })
    (λ many. unknown))))))
class_spells system _ = tt

fail_line_by : (system : System) (word : List ℕ) (words : List (List ℕ)) (k : Keyword) → word ≡ keyword_text k → Outcome (OfFail system (word ∷ words)) (InFail (word ∷ words)) (fail_line_of system k words)
unfolding fail_line_of
fail_line_by system word words plain.Tcp is = rw is (tcp_spells system words)
fail_line_by system word words plain.Server is = rw is (class_spells system words)
fail_line_by system word words _ is = tt

fail_spells : (system : System) (words : List (List ℕ)) → Outcome (OfFail system words) (InFail words) (fail_of system words)
unfolding fail_of
fail_spells system [] = tt
fail_spells system (word ∷ words) =
    let U : Type 0 = InFail (word ∷ words) in
    and_then _ _ U (keyword word) _ (keyword_out word U) (fail_line_by system word words)

-- lines and their words

solid_fail : (fail : FailLine) → are_solid (fail_words fail) ≡ true
solid_fail (Tcp p true n) = refl
solid_fail (Tcp p false n) = refl
solid_fail (Server c i n) = refl

range_fail : (fail : FailLine) → IsFailInRange fail → AllByRecursion IsInRange (fail_words fail)
range_fail (Tcp p primary n) range = (tt, (tt, (tt, (tt, (omega (arith, range), tt)))))
range_fail (Server c i n) range = (tt, (tt, ((range.0, omega (arith, range.1)), (tt, (omega (arith, range.2), tt)))))

named_fail : (system : System) → HasNames system → (by : NamesBy) (fail : FailLine) → IsNameOf system by fail → IsFailThere system fail → AllByRecursion (HasName by) (fail_words fail)
named_fail system names by (Tcp p primary n) same there = (tt, (may_by (by.pair p) (pair_name system p) same (names.tcps.each p [] there), (tt, (tt, (tt, tt)))))
named_fail system names by (Server c i n) same there = (tt, (may_by (by.class c) (class_name system c) same (class_is_name system names c there.0), (tt, (tt, (tt, tt)))))

fail_gives : (system : System) → HasNames system → (line : List ℕ) (fail : FailLine) → IsFailLineOf system line fail → fail_of system (slice_split (λ b. b == 32) line) ≡ Ok fail
fail_gives system names line fail is =
    let cut : slice_split (λ b. b == 32) line ≡ map (spelling is.names) (fail_words fail) =
    ap (slice_split (λ b. b == 32)) is.spelled ∙ cut_words is.names (fail_words fail) (solid_fail fail) (named_fail system names is.names fail is.same is.there) (range_fail fail is.numbers) in
    ap (fail_of system) cut ∙ complete_fail system names is.names fail is.same is.there is.numbers

fail_good : (system : System) (line : List ℕ) → IsFailLine line → InGrammar (fail_of system (slice_split (λ b. b == 32) line))
fail_good system line is =
    let cut : slice_split (λ b. b == 32) line ≡ map (spelling is.names) (fail_words is.fail) =
    ap (slice_split (λ b. b == 32)) is.spelled ∙ cut_words is.names (fail_words is.fail) (solid_fail is.fail) (formed_words is.names is.formed (fail_words is.fail)) (range_fail is.fail is.numbers) in
    rw cut (grammar_fail system is.names is.formed is.fail is.numbers)

of_line : (system : System) (line : List ℕ) (fail : FailLine) → OfFail system (slice_split (λ b. b == 32) line) fail → IsFailLineOf system line fail
of_line system line fail of = record {
  there = of.there;
  numbers = of.numbers;
  names = of.names;
  same = of.same;
  spelled = sym (join_with_byte-slice_split 32 line) ∙ ap sentence of.spelled;
}

in_line : (line : List ℕ) → InFail (slice_split (λ b. b == 32) line) → IsFailLine line
in_line line in_words = record {
  names = in_words.names;
  fail = in_words.fail;
  formed = in_words.formed;
  numbers = in_words.numbers;
  spelled = sym (join_with_byte-slice_split 32 line) ∙ ap sentence in_words.spelled;
}

-- what the words of a line give is what reading it answers
pub fail_reads : (system : System) → HasNames system → (line : List ℕ) (words : List (List ℕ)) (result : Result FailLine EventFault) → words ≡ slice_split (λ b. b == 32) line
    → GivesUnlessMemory result (fail_of system words) → ReadsFail system line result
fail_reads system names line words (Ok fail) cut gives =
    let P : Result FailLine EventFault → Type 0 = λ r. Outcome (OfFail system (slice_split (λ b. b == 32) line)) (InFail (slice_split (λ b. b == 32) line)) r in
    of_line system line fail (subst P (sym (ap (fail_of system) cut) ∙ gives) (fail_spells system (slice_split (λ b. b == 32) line)))
fail_reads system names line words (Err Bad) cut gives = λ is. subst InGrammar (sym (ap (fail_of system) cut) ∙ gives) (fail_good system line is)
fail_reads system names line words (Err Unknown) cut gives =
    let P : Result FailLine EventFault → Type 0 = λ r. Outcome (OfFail system (slice_split (λ b. b == 32) line)) (InFail (slice_split (λ b. b == 32) line)) r in (
      in_line line (subst P (sym (ap (fail_of system) cut) ∙ gives) (fail_spells system (slice_split (λ b. b == 32) line))),
      λ fail is.
          let other : Err Unknown ≡ Ok fail = sym gives ∙ ap (fail_of system) cut ∙ fail_gives system names line fail is in cc,
    )
fail_reads system names line words (Err Memory) cut gives = tt

-- the line of a failure line of a system is one of the grammar
pub fail_is : (system : System) → HasNames system → (line : List ℕ) (fail : FailLine) → IsFailLineOf system line fail → IsFailLine line
fail_is system names line (Tcp p primary n) is =
    let word = is.names.pair p in
    record {
      names = single some word some some;
      fail = Tcp p primary n;
      formed = single_formed some word some some refl (may_by word (pair_name system p) is.same (names.tcps.each p [] is.there)) refl refl;
      numbers = is.numbers;
      spelled = is.spelled;
    }
fail_is system names line (Server c i n) is =
    let word = is.names.class c in
    record {
      names = single some some word some;
      fail = Server c i n;
      formed = single_formed some some word some refl refl (may_by word (class_name system c) is.same (class_is_name system names c is.there.0)) refl;
      numbers = is.numbers;
      spelled = is.spelled;
    }

-- two failure lines with one line are one
pub one_fail : (system : System) → HasNames system → (line : List ℕ) (a b : FailLine) → IsFailLineOf system line a → IsFailLineOf system line b → a ≡ b
one_fail system names line a b is_a is_b = same-ok (fail_of system (slice_split (λ b. b == 32) line)) a b (fail_gives system names line a is_a) (fail_gives system names line b is_b)

-- the line of a failure line of a system is read as it
pub fail_answer : (system : System) → HasNames system → (line : List ℕ) (fail : FailLine) (result : Result FailLine EventFault) → IsFailLineOf system line fail → ReadsFail system line result
    → (result ≡ Ok fail) ⊎ (result ≡ Err Memory)
fail_answer system names line fail (Ok other) is reads = inl (ap Ok (one_fail system names line other fail reads is))
fail_answer system names line fail (Err Bad) is reads = absurd (reads (fail_is system names line fail is))
fail_answer system names line fail (Err Unknown) is reads = absurd (reads.1 fail is)
fail_answer system names line fail (Err Memory) is reads = inr refl
