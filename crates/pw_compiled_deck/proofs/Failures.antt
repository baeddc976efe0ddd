-- A failure line that is read of a system names what is there, and its numbers are in range.
use Rattle.std.proofs.Common.{◌≡◌, ℕ, ◌<◌, ◌≤◌, Bool, true, false, List, [], ◌∷◌, length, map, Option, None, Some, Result, Ok, Err, IfOk, refl, arith}
use Rattle.std.specs.Prelude.{◌==◌, ◌&&◌, nat_le, bytes_eq, position, slice_index_or, if◌then◌else◌}
use Rattle.std.specs.Fmt.{decimal}
use Rattle.std.specs.List.{slice_split}
use Rattle.std.specs.Str.{str_to_ascii_uppercase}
use Rattle.std.specs.Str.Parse.{digits_value}
use Rattle.std.proofs.lemmas.Bool.{eqb-false, leb-true}
use Rattle.std.proofs.lemmas.List.{length-map}
use Rattle.std.proofs.lemmas.List.Quantifiers.{position-Some}
use Rattle.pw_code.specs.Limits.{most_after}
use Rattle.pw_code.specs.declared.system.ClassInfo.{ClassInfo}
use Rattle.pw_code.specs.declared.system.System.{System}
use Rattle.pw_event.specs.Keywords.{keyword}
use Rattle.pw_event.specs.Line.{no_class}
use Rattle.pw_event.specs.Parsing.{◌>>=◌, named, number, or_unknown, among, class_names, member, after_keyword_read, fail_process, tcp_line, fail_class, class_line, fail_line_of, fail_of, failure_in}
use Rattle.pw_event.specs.declared.fault.EventFault.{EventFault}
use Rattle.pw_event.specs.declared.fault.EventFault.TheVariants.{Bad, Unknown}
use Rattle.pw_event.specs.declared.keyword.Keyword.{Keyword}
use Rattle.pw_event.specs.declared.keyword.Keyword.TheVariants as plain
use Rattle.pw_event.specs.declared.script.FailLine.{FailLine}
use Rattle.pw_event.specs.declared.script.FailLine.TheVariants as line
use Rattle.pw_compiled_deck.specs.Named.{IsFailNamed}

next : {A B : Type 0} (P : A → Type 0) (Q : B → Type 0) (r : Result A EventFault) (more : A → Result B EventFault) → IfOk r P → ((a : A) → P a → IfOk (more a) Q) → IfOk (r >>= more) Q
next P Q (Ok a) more is further = further a is
next P Q (Err fault) more is further = tt

abbrev Any : {A : Type 0} → A → Type 0
Any a = Unit {0}

any-of : {A : Type 0} (r : Result A EventFault) → IfOk r Any
any-of (Ok a) = tt
any-of (Err fault) = tt

number-in : (limit : ℕ) (word : List ℕ) → IfOk (number limit word) (λ n. n ≤ limit)
unfolding number
number-in limit word = by (bytes_eq word (decimal (digits_value 10 word))) (nat_le (digits_value 10 word) limit) refl
  where
    by : (a b : Bool) → nat_le (digits_value 10 word) limit ≡ b → IfOk (if a && b then Ok (digits_value 10 word) else Err Bad) (λ n. n ≤ limit)
    by true true is = leb-true (digits_value 10 word) limit is
    by true false is = tt
    by false b is = tt

among-in : (names : List (List ℕ)) (word : List ℕ) → IfOk (among names word) (λ place. place < length names)
unfolding among
among-in names word = by (position (λ name. bytes_eq name word) names) refl
  where
    by : (o : Option ℕ) → position (λ name. bytes_eq name word) names ≡ o → IfOk (or_unknown o) (λ place. place < length names)
    by None is = tt
    by (Some i) is = (position-Some (λ name. bytes_eq name word) names i [] is).0

abbrev IsProcess : ℕ → Type 0
IsProcess i = (1 ≤ i) × (i ≤ 16)

process-in : (word : List ℕ) → IfOk (fail_process word) IsProcess
unfolding fail_process
process-in word = next (λ i. i ≤ 16) IsProcess (number 16 word) _ (number-in 16 word) (λ i few. by i few (i == 0) refl)
  where
    by : (i : ℕ) → i ≤ 16 → (b : Bool) → (i == 0) ≡ b → IfOk (if b then Err Bad else Ok i) IsProcess
    by i few true is = tt
    by i few false is = (omega (arith, eqb-false i 0 is), few)

module _ (system : System) where
  tcp-in : (words : List (List ℕ)) → IfOk (tcp_line system words) (IsFailNamed system)
  unfolding tcp_line
  tcp-in (p ∷ m ∷ a ∷ n ∷ []) =
      next Any (IsFailNamed system) (named p) _ (any-of (named p)) (λ done h.
      next Any (IsFailNamed system) (member m) _ (any-of (member m)) (λ primary h.
      next Any (IsFailNamed system) (after_keyword_read a) _ (any-of (after_keyword_read a)) (λ done h.
      next (λ k. k ≤ most_after) (IsFailNamed system) (number most_after n) _ (number-in most_after n) (λ k few.
      next (λ i. i < length system.tcps) (IsFailNamed system) (among system.tcps (str_to_ascii_uppercase p)) _ (among-in system.tcps (str_to_ascii_uppercase p)) (λ i there. (there, few))))))
  tcp-in _ = tt

  class-in : (name : List ℕ) (i n : ℕ) → IsProcess i → n ≤ most_after → IfOk (fail_class system name i n) (IsFailNamed system)
  unfolding fail_class
  class-in name i n is few =
      next (λ c. c < length (class_names system)) (IsFailNamed system) (among (class_names system) name) _ (among-in (class_names system) name)
      (λ c there. by c there (nat_le i (slice_index_or system.classes c no_class).processes) refl)
    where
      by : (c : ℕ) → c < length (class_names system) → (b : Bool) → nat_le i (slice_index_or system.classes c no_class).processes ≡ b
          → IfOk (if b then Ok (line.Server c i n) else Err Unknown) (IsFailNamed system)
      by c there true within =
          ((omega (arith, there, length-map system.classes (λ (class : ClassInfo). class.name)), leb-true i (slice_index_or system.classes c no_class).processes within), (is.0, is.1, few))
      by c there false within = tt

  server-in : (words : List (List ℕ)) → IfOk (class_line system words) (IsFailNamed system)
  unfolding class_line
  server-in (c ∷ i ∷ a ∷ n ∷ []) =
      next Any (IsFailNamed system) (named c) _ (any-of (named c)) (λ done h.
      next IsProcess (IsFailNamed system) (fail_process i) _ (process-in i) (λ q is.
      next Any (IsFailNamed system) (after_keyword_read a) _ (any-of (after_keyword_read a)) (λ done h.
      next (λ k. k ≤ most_after) (IsFailNamed system) (number most_after n) _ (number-in most_after n) (λ k few. class-in (str_to_ascii_uppercase c) q k is few))))
  server-in _ = tt

  line-in : (words : List (List ℕ)) (k : Keyword) → IfOk (fail_line_of system k words) (IsFailNamed system)
  unfolding fail_line_of
  line-in words plain.Tcp = tcp-in words
  line-in words plain.Server = server-in words
  line-in words _ = tt

  words-in : (words : List (List ℕ)) → IfOk (fail_of system words) (IsFailNamed system)
  unfolding fail_of
  words-in [] = tt
  words-in (word ∷ words) = next Any (IsFailNamed system) (keyword word) _ (any-of (keyword word)) (λ k h. line-in words k)

  pub failure-named : (text : List ℕ) → IfOk (failure_in system text) (IsFailNamed system)
  failure-named text = words-in (slice_split (λ b. b == 32) text)
