-- A CALL keeps the registers by which its arguments go, where these are written in upper case.
use Rattle.std.proofs.Common.{◌≡◌, ◌≤◌, ◌<◌, ℕ, ◌+◌, ◌-◌, Bool, true, false, cond, List, [], ◌∷◌, Option, Some, None, refl, sym, ap, ◌∙◌, subst, arith}
use Rattle.std.specs.Prelude.{nat_lt, codes, option_map, if◌then◌else◌}
use Rattle.std.specs.Char.{to_ascii_uppercase, to_ascii_lowercase}
use Rattle.std.specs.Option.{option_or}
use Rattle.std.specs.Str.{str_to_ascii_uppercase, str_to_ascii_lowercase}
use Rattle.std.proofs.lemmas.Bool.{ltb-true, ltb-false, le-ltb, lt-ltb}
use Rattle.std.proofs.lemmas.Slice.Eq.{bytes_eq-Decides}
use Rattle.std.proofs.lemmas.Option.{none-some}
use Rattle.pw_words.specs.Words.{Word, same_word}
use Rattle.pw_data.specs.Entries.{picture_of_kind}
use Rattle.pw_data.specs.Layouts.{place_at, place_of}
use Rattle.pw_data.specs.declared.item.Item.{Item}
use Rattle.pw_data.specs.declared.item.ItemKind.{ItemKind}
use Rattle.pw_data.specs.declared.item.ItemKind.TheVariants as kinds
use Rattle.pw_data.specs.declared.item.Place as items
use Rattle.pw_forms.specs.declared.operand.Operand.{Operand}
use Rattle.pw_forms.specs.declared.operand.Operand.TheVariants as operands
use Rattle.pw_forms.specs.declared.operand.Subscript.TheVariants as subscripts
use Rattle.pw_operands.specs.Resolved.{Each, IsVariable}
use Rattle.pw_operands.specs.Variables.{is_index, of_place, of_register, register_of}
use Rattle.pw_operands.specs.declared.register.SpecialRegister as registers
use Rattle.pw_operands.specs.declared.variable.Variable.{Variable}
use Rattle.pw_tree_meaning.specs.Program.{DeckModel, Program, item_named}
use Rattle.pw_tree_meaning.specs.Sound.{scope_of}
use Rattle.pw_compile.specs.Operands as code
use Rattle.pw_compiler_laws.specs.Premises.{arguments_of}
use Rattle.pw_tree_meaning.specs.Written.{IsUpper, HasUpperIndex}
use Rattle.pw_compiler_laws.proofs.Operands.{Indexed}
use Rattle.pw_compiler_laws.proofs.Suits.{IsKept, IsKeptIndex, IsKeptPlace}

-- ---- upper case

upper-lower : (c : ℕ) → to_ascii_uppercase (to_ascii_lowercase c) ≡ to_ascii_uppercase c
upper-lower c = by (nat_lt c 65) (nat_lt c 91) refl refl
  where
    by : (a b : Bool) → nat_lt c 65 ≡ a → nat_lt c 91 ≡ b → to_ascii_uppercase (cond a c (cond b (c + 32) c)) ≡ to_ascii_uppercase c
    by true b low high = refl
    by false false low high = refl
    by false true low high =
        let from : 65 ≤ c = ltb-false c 65 low in
        let below : c < 91 = ltb-true c 91 high in
        let above : nat_lt (c + 32) 97 ≡ false = le-ltb (c + 32) 97 (omega (arith, from)) in
        let within : nat_lt (c + 32) 123 ≡ true = lt-ltb (c + 32) 123 (omega (arith, below)) in
        let own : nat_lt c 97 ≡ true = lt-ltb c 97 (omega (arith, below)) in
        let back : c + 32 - 32 ≡ c = omega arith in
        ap (λ b. cond b (c + 32) (cond (nat_lt (c + 32) 123) (c + 32 - 32) (c + 32))) above
        ∙ ap (λ b. cond b (c + 32 - 32) (c + 32)) within ∙ back
        ∙ sym (ap (λ b. cond b c (cond (nat_lt c 123) (c - 32) c)) own)

upper-lowered : (xs : Word) → str_to_ascii_uppercase (str_to_ascii_lowercase xs) ≡ str_to_ascii_uppercase xs
upper-lowered [] = refl
upper-lowered (x ∷ xs) =
    ap (λ c. c ∷ str_to_ascii_uppercase (str_to_ascii_lowercase xs)) (upper-lower x) ∙ ap (λ (rest : Word). to_ascii_uppercase x ∷ rest) (upper-lowered xs)

-- two words in upper case that are the same are one
same-upper : (a b : Word) → IsUpper a → IsUpper b → same_word a b ≡ true → a ≡ b
same-upper a b one two same =
    let lower = (bytes_eq-Decides (str_to_ascii_lowercase a) (str_to_ascii_lowercase b)).0 same in
    sym one ∙ sym (upper-lowered a) ∙ ap str_to_ascii_uppercase lower ∙ upper-lowered b ∙ two

-- ---- registers

kept-register : (name : Word) → IsUpper name → (v : Variable) → option_or (option_map of_register (register_of false name)) None ≡ Some v → IsKept (code.register_named name)
kept-register name upper v found = by (same_word name (codes "TERMINATION-STATUS")) (same_word name (codes "RESTART-COUNTER")) refl refl found
  where
    by : (a b : Bool) → same_word name (codes "TERMINATION-STATUS") ≡ a → same_word name (codes "RESTART-COUNTER") ≡ b
        → option_or (option_map of_register (if a then Some registers.TheVariants.TerminationStatus else if b then Some registers.TheVariants.RestartCounter else None)) None ≡ Some v
        → IsKept (code.register_named name)
    by true b one two is = subst (λ (word : Word). IsKept (code.register_named word)) (sym (same-upper name (codes "TERMINATION-STATUS") upper refl one)) tt
    by false true one two is = subst (λ (word : Word). IsKept (code.register_named word)) (sym (same-upper name (codes "RESTART-COUNTER") upper refl two)) tt
    by false false one two is = absurd (none-some v is)

kept-kind : (at : ℕ) (o : Option ItemKind) → IsKeptIndex (code.index_at at (option_map picture_of_kind o))
kept-kind at None = tt
kept-kind at (Some (kinds.Text n)) = tt
kept-kind at (Some (kinds.Number digits places sign)) = tt

kept-index : (deck : DeckModel) (program : Program) (name : Word) → IsVariable (scope_of false deck program) is_index name → IsUpper name → IsKeptIndex (code.index_by (place_of program.layout name) name)
kept-index deck program name is upper = by (item_named program name) refl
  where
    by : (o : Option Item) → item_named program name ≡ o → IsKeptIndex (code.index_by (option_map place_at o) name)
    by (Some item) e = kept-kind item.at item.kind
    by None e =
        kept-register name upper is.variable
        (ap (λ (o : Option Item). option_or (option_map of_register (register_of false name)) (option_map of_place (option_map place_at o))) (sym e) ∙ is.found)

-- ---- arguments

kept-place : (deck : DeckModel) (program : Program) (one : Operand) → Indexed false deck program one → HasUpperIndex one → IsKeptPlace (code.place_in program.layout one)
kept-place deck program (operands.Item name None) own upper = by (place_of program.layout name)
  where
    by : (o : Option items.Place) → IsKeptPlace (code.place_by program.layout o None)
    by None = tt
    by (Some place) = tt
kept-place deck program (operands.Item name (Some (subscripts.Number digits))) own upper = by (place_of program.layout name)
  where
    by : (o : Option items.Place) → IsKeptPlace (code.place_by program.layout o (Some (subscripts.Number digits)))
    by None = tt
    by (Some place) = tt
kept-place deck program (operands.Item name (Some (subscripts.Item index))) own upper = by (place_of program.layout name)
  where
    by : (o : Option items.Place) → IsKeptPlace (code.place_by program.layout o (Some (subscripts.Item index)))
    by None = tt
    by (Some place) = kept-index deck program index own upper
kept-place deck program (operands.Number digits) own upper = tt
kept-place deck program (operands.Text chars) own upper = tt
kept-place deck program operands.Spaces own upper = tt
kept-place deck program operands.Zeros own upper = tt

pub kept-places : (deck : DeckModel) (program : Program) (ones : List Operand) → Each (Indexed false deck program) ones → Each HasUpperIndex ones → Each IsKeptPlace (arguments_of program ones)
kept-places deck program [] own upper = tt
kept-places deck program (one ∷ ones) own upper = (kept-place deck program one own.0 upper.0, kept-places deck program ones own.1 upper.1)
