-- What operands of the code say is what those of the tree say.
use Rattle.std.proofs.Common.{cond, ◌≡◌, ℕ, zero, suc, ◌+◌, ◌-◌, ◌*◌, ◌<◌, ◌≤◌, min, Bool, true, false, not, List, [], ◌∷◌, ◌++◌, length, drop, take, find, Option, Some, None, IsSome, ⊎_elim, if◌then◌else◌, refl, sym, ap, ◌∙◌, subst, arith}
use Rattle.std.specs.Prelude.{nat_le, int_lt, ◌&&◌, ◌==◌, ◌/◌, ◌^◌, pos, option_map, filter, take_while, bytes_eq, codes}
use Rattle.std.specs.Option.{ForSome, option_or}
use Rattle.std.specs.Char.{is_ascii_digit}
use Rattle.std.specs.List.{list_all, prefix_len}
use Rattle.std.proofs.lemmas.List.Folds.{length-prefix_len}
use Rattle.std.proofs.lemmas.Bool.{and_parts, leb-true, le-ltb, cases_lt, false≢true}
use Rattle.std.proofs.lemmas.Option.{same_Some, none-some}
use Rattle.pw_base.proofs.Plain.{and-false}
use Rattle.pw_number.specs.Number.{number}
use Rattle.pw_number.specs.Sign.{signed}
use Rattle.pw_picture.specs.Grammar.{IsPicture, size_of}
use Rattle.pw_picture.specs.Stored.{read_of, value_of}
use Rattle.pw_picture.specs.Symbols.{begins_with}
use Rattle.pw_picture.specs.declared.picture.Picture.{Picture}
use Rattle.pw_picture.specs.declared.picture.Picture.TheVariants as picture
use Rattle.pw_words.specs.Words.{Word}
use Rattle.pw_data.specs.Entries.{picture_of_kind}
use Rattle.pw_data.specs.Layouts.{FitsPicture, place_at, place_of}
use Rattle.pw_data.specs.Names.{is_this_name}
use Rattle.pw_data.specs.Store.{joined}
use Rattle.pw_data.specs.declared.item.Item.{Item}
use Rattle.pw_data.specs.declared.item.ItemKind.{ItemKind}
use Rattle.pw_data.specs.declared.item.ItemKind.TheVariants as kinds
use Rattle.pw_forms.specs.declared.operand.Operand.{Operand}
use Rattle.pw_forms.specs.declared.operand.Operand.TheVariants as operands
use Rattle.pw_forms.specs.declared.operand.Subscript.{Subscript}
use Rattle.pw_forms.specs.declared.operand.Subscript.TheVariants as subscripts
use Rattle.pw_operands.specs.Variables.{register_of, of_place, of_register, is_index, has_no_sign}
use Rattle.pw_operands.specs.declared.register.SpecialRegister as registers
use Rattle.pw_operands.specs.declared.variable.Variable.{Variable}
use Rattle.pw_operands.specs.Scope.{variable_in}
use Rattle.pw_operands.specs.Resolved.{Each, IsVariable, IsSubscript, is_whole}
use Rattle.pw_code.specs.Places.{picture_of}
use Rattle.pw_code.specs.Spelling.{number_in}
use Rattle.pw_code.specs.declared.place.Register.TheVariants as register
use Rattle.pw_code.specs.declared.operand.InstructionOperand.TheVariants as operand
use Rattle.pw_code.specs.Instrs.{digits_of_register}
use Rattle.pw_tree_meaning.specs.Program.{DeckModel, Program, item_named}
use Rattle.pw_tree_meaning.specs.Store.{Store, Spot}
use Rattle.pw_tree_meaning.specs.Store as tree
use Rattle.pw_tree_meaning.specs.State.{ProgramState, Registers}
use Rattle.pw_tree_meaning.specs.Values.{Chars, Register, number_of, whole_part}
use Rattle.pw_tree_meaning.specs.Operands.{ResolvedOperand, Stored, Fixed, one_more, spot_in}
use Rattle.pw_tree_meaning.specs.Operands as source
use Rattle.pw_tree_meaning.specs.Sound.{scope_of}
use Rattle.pw_code_meaning.specs.Reading.{register_value, subscript_of, spot_at, code_operand_taken}
use Rattle.pw_compile.specs.Operands as code
use Rattle.pw_compiler_laws.proofs.Flat.{flat-chars}
use Rattle.pw_compiler_laws.proofs.Ground.{Ground, IsCut}
use Rattle.pw_tree_meaning.proofs.Resolved.{each-found}

-- ---- lists and tests

-- ---- pictures and places

picture-by : (k : Option ItemKind) (size : ℕ) → ForSome k (λ kind. IsPicture (picture_of_kind kind) × (size_of (picture_of_kind kind) ≡ size))
    → picture_of (code.code_kind_of (option_map picture_of_kind k)) size ≡ option_map picture_of_kind k
picture-by None size fits = refl
picture-by (Some (kinds.Text n)) size fits = ap (λ m. Some (picture.Text m)) (sym (fits (kinds.Text n) refl).1)
picture-by (Some (kinds.Number digits places sign)) size fits = refl

abbrev spot_with : ℕ → ℕ → Option Picture → Spot
spot_with at size p = record { at = at; size = size; picture = p }

place-same : (at b size : ℕ) (p q : Option Picture) → at ≡ b → p ≡ q → spot_with at size p ≡ spot_with b size q
place-same at b size p q e f = ap (λ n. spot_with n size p) e ∙ ap (λ o. spot_with b size o) f

module _ (layout_of : Program) (subscript : Option Subscript) where
  -- the spot of an occurrence
  pub spot-same : (item : Item) (k at : ℕ) → FitsPicture item → at ≡ item.at + (k - 1) * item.step
      → spot_at (code.placed layout_of.layout (place_at item) subscript) at ≡ tree.spot_of item k
  spot-same item k at fits e = place-same at (item.at + (k - 1) * item.step) item.size _ _ e (picture-by item.kind item.size fits)

-- ---- which occurrence

no-leb : (b : Bool) (x y : ℕ) → nat_le x y ≡ b → y < x → b ≡ false
no-leb true x y e lt = absurd (omega (arith, leb-true x y e, lt))
no-leb false x y e lt = refl

-- a number above the last occurrence may be any such number
within-same : (v occurs : ℕ) → (nat_le 1 (min v (occurs + 1)) && nat_le (min v (occurs + 1)) occurs) ≡ (nat_le 1 v && nat_le v occurs)
within-same v occurs =
    ⊎_elim
    (λ low. let e : min v (occurs + 1) ≡ v = omega (arith, low) in ap (λ k. nat_le 1 k && nat_le k occurs) e)
    (λ high.
    let e : min v (occurs + 1) ≡ occurs + 1 = omega (arith, high) in
    let f : nat_le (occurs + 1) occurs ≡ false = no-leb (nat_le (occurs + 1) occurs) (occurs + 1) occurs refl (omega arith) in
    let g : nat_le v occurs ≡ false = no-leb (nat_le v occurs) v occurs refl (omega (arith, high)) in
    ap (λ k. nat_le 1 k && nat_le k occurs) e ∙ ap (λ b. nat_le 1 (occurs + 1) && b) f ∙ and-false (nat_le 1 (occurs + 1))
    ∙ sym (ap (λ b. nat_le 1 v && b) g ∙ and-false (nat_le 1 v)))
    (cases_lt v (occurs + 1))

-- where the occurrence is, it is the same
at-same : (v occurs at step : ℕ) → (nat_le 1 v && nat_le v occurs) ≡ true → at + (min v (occurs + 1) - 1) * step ≡ at + (v - 1) * step
at-same v occurs at step within =
    let last : v ≤ occurs = leb-true v occurs (and_parts (nat_le 1 v) (nat_le v occurs) within).1 in
    let e : min v (occurs + 1) ≡ v = omega (arith, last) in
    ap (λ k. at + (k - 1) * step) e

-- ---- values of subscripts

not-below : (v : ℕ) → int_lt (pos v) (pos 0) ≡ false
not-below v = le-ltb v 0 (omega arith)

whole-pos : (v : ℕ) → whole_part (number (pos v) 0) ≡ v
whole-pos v = let one : v / 10 ^ 0 ≡ v = omega arith in ap (λ b. if b then 0 else v / 10 ^ 0) (not-below v) ∙ one

whole-register : (digits v : ℕ) → whole_part (number_of (Register digits v)) ≡ v
whole-register digits v = whole-pos v

module _ (registers : Registers) (store : Store) where
  by-names : (a b : Bool)
      → register_value registers (if a then register.Termination else if b then register.Restarts else register.FileStatus)
      ≡ whole_part (number_of (source.value_in (if a then Fixed (Register 4 registers.termination) else if b then Fixed (Register 5 registers.restarts) else Fixed (Register 4 registers.file_status)) store))
  by-names true b = sym (whole-register 4 registers.termination)
  by-names false true = sym (whole-register 5 registers.restarts)
  by-names false false = sym (whole-register 4 registers.file_status)

  -- a register as an operand
  taken-register : (a b : Bool)
      → Some (Fixed (Register (digits_of_register (if a then register.Termination else if b then register.Restarts else register.FileStatus))
      (register_value registers (if a then register.Termination else if b then register.Restarts else register.FileStatus))))
      ≡ Some (if a then Fixed (Register 4 registers.termination) else if b then Fixed (Register 5 registers.restarts) else Fixed (Register 4 registers.file_status))
  taken-register true b = refl
  taken-register false true = refl
  taken-register false false = refl

-- a whole number has no decimals
prefix-by : (b : Bool) (n : ℕ) (byte : ℕ) (bytes : List ℕ) → b ≡ true → drop (n + 1) bytes ≡ [] → drop (cond b (1 + n) 0 + 1) (byte ∷ bytes) ≡ []
prefix-by true n byte bytes e none = let m : 1 + n + 1 ≡ suc (n + 1) = omega arith in ap (λ k. drop k (byte ∷ bytes)) m ∙ none
prefix-by false n byte bytes e none = absurd (false≢true e)

whole-prefix : (spelling : List ℕ) → list_all (λ byte. not (byte == 46)) spelling ≡ true → drop (prefix_len (λ byte. not (byte == 46)) spelling + 1) spelling ≡ []
whole-prefix [] all = refl
whole-prefix (byte ∷ bytes) all =
    let parts = and_parts (not (byte == 46)) (list_all (λ one. not (one == 46)) bytes) all in
    prefix-by (not (byte == 46)) (prefix_len (λ one. not (one == 46)) bytes) byte bytes parts.0 (whole-prefix bytes parts.1)

whole-decimals : (spelling : List ℕ) → list_all (λ byte. not (byte == 46)) spelling ≡ true → drop (length (take_while (λ byte. not (byte == 46)) spelling) + 1) spelling ≡ []
whole-decimals spelling all =
    ap (λ n. drop (n + 1) spelling) (length-prefix_len (λ byte. not (byte == 46)) spelling) ∙ whole-prefix spelling all

whole-value : (negative : Bool) (v : ℕ) → whole_part (number (signed negative v) 0) ≡ (if negative then 0 else v)
whole-value false v = whole-pos v
whole-value true zero = refl
whole-value true (suc v) = refl

number-same : (spelling : List ℕ) → is_whole spelling ≡ true → whole_part (number_in spelling) ≡ code.subscript_number spelling
number-same spelling whole =
    ap (λ (xs : List ℕ). whole_part (number (signed (begins_with 45 spelling) (value_of 0 (filter is_ascii_digit spelling))) (length xs))) (whole-decimals spelling whole)
    ∙ whole-value (begins_with 45 spelling) (value_of 0 (filter is_ascii_digit spelling))

-- what is known of a program: its items fit their pictures, and none has the name of a register
pub record Known (server : Bool) (program : Program) : Type 0 where
  pub fits : Each FitsPicture program.layout.items
  pub unnamed : (name : Word) → IsSome (register_of server name) → item_named program name ≡ None

module _ (server : Bool) (deck : DeckModel) (program : Program) where
  -- the subscript that an operand has is one
  abbrev pub Indexed : Operand → Type 0
  Indexed (operands.Item name (Some one)) = IsSubscript (scope_of server deck program) one
  Indexed _ = Unit {0}

module _ (server : Bool) (deck : DeckModel) (program : Program) (known : Known server program) (s : ProgramState) (tail : List ℕ) (ground : Ground program s.store) where
  storage : List ℕ
  storage = joined s.store ++ tail

  pub item-fits : (name : Word) (item : Item) → item_named program name ≡ Some item → FitsPicture item
  item-fits name item is = each-found FitsPicture (λ one. is_this_name one.name name) program.layout.items item known.fits is

  pub item-cut : (name : Word) (item : Item) → item_named program name ≡ Some item → IsCut s.store item
  item-cut name item is = each-found (IsCut s.store) (λ one. is_this_name one.name name) program.layout.items item ground.0 is

  -- an item outside OCCURS, or the first occurrence
  first-chars : (name : Word) (item : Item) → item_named program name ≡ Some item → take item.size (drop item.at (joined s.store ++ tail)) ≡ tree.chars_at (tree.spot_of item 1) s.store
  first-chars name item is =
      let at : item.at ≡ item.at + (1 - 1) * item.step = omega arith in
      ap (λ n. take item.size (drop n (joined s.store ++ tail))) at
      ∙ flat-chars (tree.spot_of item 1) s.store tail (item-cut name item is 1 (omega arith) (omega arith))

  -- the item of a name is what its variable says
  pub item-variable : (name : Word) (item : Item) (variable : Variable) → item_named program name ≡ Some item
      → variable_in (scope_of server deck program) name ≡ Some variable → of_place (place_at item) ≡ variable
  item-variable name item variable is found = by (register_of server name) refl
    where
      by : (r : Option registers.SpecialRegister) → register_of server name ≡ r → of_place (place_at item) ≡ variable
      by (Some r) e =
          let none : item_named program name ≡ None = known.unnamed name (subst (λ (o : Option registers.SpecialRegister). IsSome o) (sym e) refl) in
          absurd (none-some item (sym none ∙ is))
      by None e =
          same_Some (of_place (place_at item)) variable
          (sym (ap (λ (o : Option Item). option_map of_place (option_map place_at o)) is)
          ∙ sym (ap (λ (o : Option registers.SpecialRegister). option_or (option_map of_register o) (option_map of_place (place_of program.layout name))) e) ∙ found)

  index-by : (k : Option ItemKind) (at size occurs : ℕ) (chars : List ℕ) → ForSome k (λ kind. IsPicture (picture_of_kind kind) × (size_of (picture_of_kind kind) ≡ size))
      → (has_no_sign (option_map picture_of_kind k) && occurs == 0) ≡ true → take size (drop at (joined s.store ++ tail)) ≡ chars
      → subscript_of s.registers (joined s.store ++ tail) (code.index_at at (option_map picture_of_kind k)) ≡ whole_part (number_of (Chars (option_map picture_of_kind k) chars))
  index-by None at size occurs chars fits index same = absurd cc
  index-by (Some (kinds.Text n)) at size occurs chars fits index same = absurd cc
  index-by (Some (kinds.Number digits places true)) at size occurs chars fits index same = absurd cc
  index-by (Some (kinds.Number digits places false)) at size occurs chars fits index same =
      ap (λ cs. whole_part (read_of (picture.Number digits places false) cs)) (ap (λ n. take n (drop at (joined s.store ++ tail))) (fits (kinds.Number digits places false) refl).1 ∙ same)

  -- the value of a subscript
  pub index-same : (name : Word) → IsVariable (scope_of server deck program) is_index name
      → subscript_of s.registers (joined s.store ++ tail) (code.index_by (place_of program.layout name) name) ≡ source.subscript_value program s (subscripts.Item name)
  index-same name is = by (item_named program name) refl
    where
      by : (o : Option Item) → item_named program name ≡ o
          → subscript_of s.registers (joined s.store ++ tail) (code.index_by (option_map place_at o) name)
          ≡ whole_part (number_of (source.value_in (source.plain o s.registers name) s.store))
      by None e = by-names s.registers s.store (bytes_eq name (codes "TERMINATION-STATUS")) (bytes_eq name (codes "RESTART-COUNTER"))
      by (Some item) e =
          let v = item-variable name item is.variable e is.found in
          let index : is_index (of_place (place_at item)) ≡ true = ap is_index v ∙ is.passes in
          index-by item.kind item.at item.size item.occurs _ (item-fits name item e) index (first-chars name item e)

  if-some : (b : Bool) (f : ℕ → Spot) (at : ℕ) (spot : Spot) → (b ≡ true → f at ≡ spot)
      → option_map Stored (option_map f (if b then Some at else None)) ≡ (if b then Some (Stored spot) else None)
  if-some true f at spot same = ap (λ x. Some (Stored x)) (same refl)
  if-some false f at spot same = refl

  -- an occurrence of an item
  occurrence-same : (one : Subscript) (item : Item) → FitsPicture item → IsSubscript (scope_of server deck program) one
      → code_operand_taken s.registers (joined s.store ++ tail) (operand.Item (code.placed program.layout (place_at item) (Some one)))
      ≡ source.occurrence_of item (Some (source.subscript_value program s one))
  occurrence-same (subscripts.Number spelling) item fits is =
      let v = code.subscript_number spelling in
      let k = min v (item.occurs + 1) in
      let same : v ≡ source.subscript_value program s (subscripts.Number spelling) = sym (number-same spelling is) in
      ap (λ b. option_map Stored (option_map (spot_at (code.placed program.layout (place_at item) (Some (subscripts.Number spelling)))) (if b then Some (item.at + (k - 1) * item.step) else None))) (within-same v item.occurs)
      ∙ if-some (nat_le 1 v && nat_le v item.occurs) (spot_at (code.placed program.layout (place_at item) (Some (subscripts.Number spelling)))) (item.at + (k - 1) * item.step) (tree.spot_of item v)
      (λ within. spot-same program (Some (subscripts.Number spelling)) item v (item.at + (k - 1) * item.step) fits (at-same v item.occurs item.at item.step within))
      ∙ ap (λ n. source.occurrence_of item (Some n)) same
  occurrence-same (subscripts.Item name) item fits is =
      let v = source.subscript_value program s (subscripts.Item name) in
      let place = code.placed program.layout (place_at item) (Some (subscripts.Item name)) in
      ap (λ k. option_map Stored (option_map (spot_at place) (if nat_le 1 k && nat_le k item.occurs then Some (item.at + (k - 1) * item.step) else None))) (index-same name is)
      ∙ if-some (nat_le 1 v && nat_le v item.occurs) (spot_at place) (item.at + (v - 1) * item.step) (tree.spot_of item v)
      (λ within. spot-same program (Some (subscripts.Item name)) item v (item.at + (v - 1) * item.step) fits refl)

  pub item-same : (o : Option Item) (name : Word) (subscript : Option Subscript) → ((item : Item) → o ≡ Some item → FitsPicture item) → Indexed server deck program (operands.Item name subscript)
      → code_operand_taken s.registers (joined s.store ++ tail) (code.operand_by program.layout (option_map place_at o) name subscript)
      ≡ source.taken_item o s.registers name (option_map (source.subscript_value program s) subscript)
  item-same None name subscript fits is = taken-register s.registers s.store (bytes_eq name (codes "TERMINATION-STATUS")) (bytes_eq name (codes "RESTART-COUNTER"))
  item-same (Some item) name None fits is =
      ap (λ x. Some (Stored x)) (spot-same program None item 1 item.at (fits item refl) (omega arith))
  item-same (Some item) name (Some one) fits is = occurrence-same one item (fits item refl) is

  -- an operand
  pub taken-same : (one : Operand) → Indexed server deck program one → code_operand_taken s.registers (joined s.store ++ tail) (code.operand_of program.layout one) ≡ source.operand_taken program s one
  taken-same (operands.Item name subscript) is = item-same (item_named program name) name subscript (λ item e. item-fits name item e) is
  taken-same (operands.Number spelling) is = refl
  taken-same (operands.Text chars) is = refl
  taken-same operands.Spaces is = refl
  taken-same operands.Zeros is = refl
