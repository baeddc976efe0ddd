-- What is read is what the line spells.
use Rattle.std.proofs.Common.{◌≡◌, ℕ, ◌<◌, ◌≤◌, ◌^◌, List, [], ◌∷◌, ◌++◌, map, length, get_or, Bool, true, false, cond, Option, Some, None, Result, Ok, Err, refl, sym, ap, ◌∙◌, arith}
use Rattle.std.specs.Prelude.{slice_index_or, nat_le, position, find}
use Rattle.std.specs.Fmt.{decimal}
use Rattle.std.specs.Str.{bytes_eq}
use Rattle.std.proofs.lemmas.Bool.{leb-true}
use Rattle.std.proofs.lemmas.Slice.Eq.{bytes_eq-Decides}
use Rattle.pw_code.specs.declared.file.FileInfo.{FileInfo}
use Rattle.pw_code.specs.declared.system.ClassInfo.{ClassInfo}
use Rattle.pw_code.specs.declared.system.TermInfo.{TermInfo}
use Rattle.pw_code.specs.declared.system.System.{System}
use Rattle.pw_event.specs.declared.fault.EventFault.{EventFault}
use Rattle.pw_event.specs.declared.fault.EventFault.TheVariants.{Bad, Unknown}
use Rattle.pw_event.specs.declared.keyword.Keyword.{Keyword}
use Rattle.pw_event.specs.declared.keyword.Keyword.TheVariants as plain
use Rattle.pw_event.specs.Keywords.{keyword_text, keywords, or_bad, keyword}
use Rattle.pw_event.specs.Line.{no_terminal, no_class, no_file, pair_name, class_name, refresh_number, op_text, mode_text, member_text, IsPlain}
use Rattle.pw_code.specs.Names.{may_name}
use Rattle.pw_event.specs.Parsing.{◌>>=◌, named, number, positive_count_read, or_unknown, cut, refresh, among, class_names, terminal, pair, class, file, process, op_of, op, mode_of, mode, member_of, member}
use Rattle.pw_event.proofs.Looked.{found_is, thing_is}
use Rattle.pw_event.proofs.Numbers.{number_out, counted_out}
use Rattle.pw_event.proofs.Points.{cut_out}
use Rattle.pw_event.proofs.Steps.{Outcome, and_then, weaker}

-- either way
pub either : {A : Type 0} (P : A → Type 0) (U : Type 0) (b : Bool) (x y : Result A EventFault) → (b ≡ true → Outcome P U x) → (b ≡ false → Outcome P U y) → Outcome P U (cond b x y)
either P U true x y if_so otherwise = if_so refl
either P U false x y if_so otherwise = otherwise refl

named_by : (word : List ℕ) (U : Type 0) (formed : Bool) → may_name word ≡ formed → Outcome (λ done. may_name word ≡ true) U (cond {A = Result (Unit {0}) EventFault} formed (Ok tt) (Err Bad))
named_by word U true formed = formed
named_by word U false formed = tt

pub named_out : (word : List ℕ) (U : Type 0) → Outcome (λ done. may_name word ≡ true) U (named word)
unfolding named
named_out word U = named_by word U (may_name word) refl

-- a refresh number in range
abbrev pub AreSmall : ℕ × ℕ × ℕ → Type 0
AreSmall r = (r.0 < 2 ^ 32) × (r.1 < 2 ^ 32) × (r.2 < 2 ^ 32)

pub refresh_out : (word : List ℕ) (U : Type 0) → Outcome (λ (r : ℕ × ℕ × ℕ). (word ≡ refresh_number r.0 r.1 r.2) × AreSmall r) U (refresh word)
unfolding refresh
refresh_out word U =
    and_then (λ (p : List ℕ × List ℕ). word ≡ p.0 ++ 46 ∷ p.1) _ U (or_bad (cut word)) _ (cut_out word U) (λ p one.
    and_then (λ (q : List ℕ × List ℕ). p.1 ≡ q.0 ++ 46 ∷ q.1) _ U (or_bad (cut p.1)) _ (cut_out p.1 U) (λ q other.
    and_then _ _ U (number 4294967295 p.0) _ (number_out 4294967295 p.0 U) (λ a first.
    and_then _ _ U (number 4294967295 q.0) _ (number_out 4294967295 q.0 U) (λ b second.
    and_then _ _ U (number 4294967295 q.1) _ (number_out 4294967295 q.1 U) (λ k third. (
      one ∙ ap (λ w. p.0 ++ 46 ∷ w) other ∙ ap (λ w. w ++ 46 ∷ (q.0 ++ 46 ∷ q.1)) first.0 ∙ ap (λ w. decimal a ++ 46 ∷ (w ++ 46 ∷ q.1)) second.0 ∙ ap (λ w. decimal a ++ 46 ∷ (decimal b ++ 46 ∷ w)) third.0,
      (omega (arith, first.1), omega (arith, second.1), omega (arith, third.1)),
    ))))))

-- a thing that a name names
abbrev pub Names : {A : Type 0} → (A → List ℕ) → List A → A → List ℕ → ℕ → Type 0
Names name things default word i = (may_name word ≡ true) × (i < length things) × (name (get_or things i default) ≡ word)

looked_by : {A : Type 0} (name : A → List ℕ) (things : List A) (default : A) (word : List ℕ) (U : Type 0) (found : Option ℕ) → position (λ other. bytes_eq other word) (map name things) ≡ found → may_name word ≡ true → U
    → Outcome (Names name things default word) U (or_unknown found)
looked_by name things default word U None none formed unknown = unknown
looked_by name things default word U (Some i) some formed unknown = let there = thing_is name things word i default some in (formed, there.0, there.1)

looked_out : {A : Type 0} (name : A → List ℕ) (things : List A) (default : A) (word : List ℕ) (U : Type 0) → (may_name word ≡ true → U)
    → Outcome (Names name things default word) U (named word >>= λ done. among (map name things) word)
unfolding among
looked_out name things default word U unknown =
    and_then (λ done. may_name word ≡ true) _ U (named word) _ (named_out word U) (λ done formed. looked_by name things default word U _ refl formed (unknown formed))

pub terminal_out : (system : System) (word : List ℕ) (U : Type 0) → (may_name word ≡ true → U) → Outcome (Names (λ (row : TermInfo). row.name) system.terminals no_terminal word) U (terminal system word)
unfolding terminal
terminal_out system word U unknown = looked_out (λ (row : TermInfo). row.name) system.terminals no_terminal word U unknown

placed_by : (names : List (List ℕ)) (word : List ℕ) (U : Type 0) (found : Option ℕ) → position (λ other. bytes_eq other word) names ≡ found → U
    → Outcome (λ i. (i < length names) × (get_or names i [] ≡ word)) U (or_unknown found)
placed_by names word U None none unknown = unknown
placed_by names word U (Some i) some unknown = found_is names word i some

pub pair_among_out : (system : System) (name : List ℕ) (U : Type 0) → U → Outcome (λ p. (p < length system.tcps) × (pair_name system p ≡ name)) U (among system.tcps name)
unfolding among
pair_among_out system name U unknown = placed_by system.tcps name U _ refl unknown

pub pair_out : (system : System) (word : List ℕ) (U : Type 0) → (may_name word ≡ true → U) → Outcome (Names (λ (row : List ℕ). row) system.tcps [] word) U (pair system word)
unfolding pair
pair_out system word U unknown =
    and_then (λ done. may_name word ≡ true) _ U (named word) _ (named_out word U) (λ done formed.
    weaker (λ p. (p < length system.tcps) × (pair_name system p ≡ word)) _ U _ (λ p is. (formed, is.0, is.1)) (pair_among_out system word U (unknown formed)))

named_class_by : (system : System) (name : List ℕ) (U : Type 0) (found : Option ℕ) → position (λ other. bytes_eq other name) (class_names system) ≡ found → U
    → Outcome (λ c. (c < length system.classes) × (class_name system c ≡ name)) U (or_unknown found)
named_class_by system name U None none unknown = unknown
named_class_by system name U (Some i) some unknown = thing_is (λ (row : ClassInfo). row.name) system.classes name i no_class some

pub class_among_out : (system : System) (name : List ℕ) (U : Type 0) → U → Outcome (λ c. (c < length system.classes) × (class_name system c ≡ name)) U (among (class_names system) name)
unfolding among
class_among_out system name U unknown = named_class_by system name U _ refl unknown

pub class_out : (system : System) (word : List ℕ) (U : Type 0) → (may_name word ≡ true → U) → Outcome (Names (λ (row : ClassInfo). row.name) system.classes no_class word) U (class system word)
unfolding class
class_out system word U unknown = looked_out (λ (row : ClassInfo). row.name) system.classes no_class word U unknown

pub file_out : (system : System) (word : List ℕ) (U : Type 0) → (may_name word ≡ true → U) → Outcome (Names (λ (row : FileInfo). row.name) system.files no_file word) U (file system word)
unfolding file
file_out system word U unknown = looked_out (λ (row : FileInfo). row.name) system.files no_file word U unknown

-- a process of a class
pub record IsProcess (system : System) (c i : List ℕ) (p : ℕ × ℕ) : Type 0 where
  pub class : Names (λ (row : ClassInfo). row.name) system.classes no_class c p.0
  pub number : i ≡ decimal p.1
  pub fits : (1 ≤ p.1) × (p.1 < 2 ^ 32)
  pub there : p.1 ≤ (slice_index_or system.classes p.0 no_class).processes

pub process_out : (system : System) (c i : List ℕ) (U : Type 0) → (may_name c ≡ true → (n : ℕ) → i ≡ decimal n → (1 ≤ n) × (n < 2 ^ 32) → U) → Outcome (IsProcess system c i) U (process system c i)
unfolding process
process_out system c i U unknown =
    and_then _ _ U (named c) _ (named_out c U) (λ done formed.
    and_then (λ n. (i ≡ decimal n) × ((1 ≤ n) × (n < 2 ^ 32))) _ U (positive_count_read i) _ (counted_out i U) (λ n number.
    and_then _ _ U (class system c) _ (class_out system c U (λ formed. unknown formed n number.0 number.1)) (λ k class.
    either (IsProcess system c i) U (nat_le n (slice_index_or system.classes k no_class).processes) (Ok (k, n)) (Err Unknown)
    (λ few. record { class = class; number = number.0; fits = number.1; there = leb-true n (slice_index_or system.classes k no_class).processes few })
    (λ many. unknown formed n number.0 number.1))))

keyword_by : (word : List ℕ) (U : Type 0) (k : Keyword) (ks : List Keyword) (b : Bool) → bytes_eq (keyword_text k) word ≡ b
    → Outcome (λ k. word ≡ keyword_text k) U (or_bad (find (λ k. bytes_eq (keyword_text k) word) ks)) → Outcome (λ k. word ≡ keyword_text k) U (or_bad (cond b (Some k) (find (λ k. bytes_eq (keyword_text k) word) ks)))
keyword_by word U k ks true same rest = sym ((bytes_eq-Decides (keyword_text k) word).0 same)
keyword_by word U k ks false other rest = rest

keyword_among : (word : List ℕ) (U : Type 0) (ks : List Keyword) → Outcome (λ k. word ≡ keyword_text k) U (or_bad (find (λ k. bytes_eq (keyword_text k) word) ks))
keyword_among word U [] = tt
keyword_among word U (k ∷ ks) = keyword_by word U k ks _ refl (keyword_among word U ks)

-- a keyword has its text
pub keyword_out : (word : List ℕ) (U : Type 0) → Outcome (λ k. word ≡ keyword_text k) U (keyword word)
unfolding keyword
keyword_out word U = keyword_among word U keywords

op_by : (word : List ℕ) (U : Type 0) (k : Keyword) → word ≡ keyword_text k → Outcome (λ o. IsPlain o × (word ≡ op_text o)) U (op_of k)
op_by word U plain.Read is = (tt, is)
op_by word U plain.Next is = (tt, is)
op_by word U plain.Write is = (tt, is)
op_by word U plain.Rewrite is = (tt, is)
op_by word U plain.Delete is = (tt, is)
op_by word U _ is = tt

pub op_out : (word : List ℕ) (U : Type 0) → Outcome (λ o. IsPlain o × (word ≡ op_text o)) U (op word)
unfolding op
op_out word U = and_then _ _ U (keyword word) _ (keyword_out word U) (op_by word U)

mode_by : (word : List ℕ) (U : Type 0) (k : Keyword) → word ≡ keyword_text k → Outcome (λ m. word ≡ mode_text m) U (mode_of k)
mode_by word U plain.Shared is = is
mode_by word U plain.Exclusive is = is
mode_by word U _ is = tt

pub mode_out : (word : List ℕ) (U : Type 0) → Outcome (λ m. word ≡ mode_text m) U (mode word)
unfolding mode
mode_out word U = and_then _ _ U (keyword word) _ (keyword_out word U) (mode_by word U)

member_by : (word : List ℕ) (U : Type 0) (k : Keyword) → word ≡ keyword_text k → Outcome (λ m. word ≡ member_text m) U (member_of k)
member_by word U plain.Primary is = is
member_by word U plain.Backup is = is
member_by word U _ is = tt

pub member_out : (word : List ℕ) (U : Type 0) → Outcome (λ m. word ≡ member_text m) U (member word)
unfolding member
member_out word U = and_then _ _ U (keyword word) _ (keyword_out word U) (member_by word U)

pub small_out : (word : List ℕ) (U : Type 0) → Outcome (λ n. (word ≡ decimal n) × (n < 2 ^ 32)) U (number 4294967295 word)
small_out word U = weaker (λ n. (word ≡ decimal n) × (n ≤ 4294967295)) _ U _ (λ n is. (is.0, omega (arith, is.1))) (number_out 4294967295 word U)

pub code_out : (word : List ℕ) (U : Type 0) → Outcome (λ n. (word ≡ decimal n) × (n < 2 ^ 16)) U (number 65535 word)
code_out word U = weaker (λ n. (word ≡ decimal n) × (n ≤ 65535)) _ U _ (λ n is. (is.0, omega (arith, is.1))) (number_out 65535 word U)
