-- What conditions, moves and arithmetic of the code do is what those of the tree do.
use Rattle.std.proofs.Common.{◌≡◌, ℕ, ◌+◌, ◌≤◌, max, Bool, true, false, List, [], ◌∷◌, ◌++◌, length, map, Option, Some, None, if◌then◌else◌, refl, sym, ap, ◌∙◌, subst, arith}
use Rattle.std.specs.Prelude.{nat_le, ◌&&◌, ◌||◌, ◌%◌, ◌^◌, option_map, Result, Ok, Err, bytes_eq, codes}
use Rattle.std.specs.Option.{ForSome}
use Rattle.std.specs.declared.cmp.Ordering.{Ordering}
use Rattle.std.proofs.lemmas.Bool.{and_parts, leb-true}
use Rattle.std.proofs.lemmas.Option.{same_Some}
use Rattle.pw_number.specs.Number.{Number}
use Rattle.pw_number.specs.declared.size_error.SizeError.{SizeError}
use Rattle.pw_picture.specs.Grammar.{IsPicture, size_of}
use Rattle.pw_picture.specs.Stored.{moved, is_kept, is_negative, size_at}
use Rattle.pw_picture.specs.declared.picture.Picture.{Picture}
use Rattle.pw_picture.specs.declared.picture.Picture.TheVariants as picture
use Rattle.pw_words.specs.Words.{Word}
use Rattle.pw_data.specs.Entries.{picture_of_kind}
use Rattle.pw_data.specs.Layouts.{FitsPicture, place_at}
use Rattle.pw_data.specs.Store.{joined}
use Rattle.pw_data.specs.declared.item.Item.{Item}
use Rattle.pw_data.specs.declared.item.ItemKind.{ItemKind}
use Rattle.pw_forms.specs.declared.cond.ComparisonForm.{ComparisonForm}
use Rattle.pw_forms.specs.declared.cond.ComparisonForm.TheVariants as comparisons
use Rattle.pw_forms.specs.declared.cond.ConditionForm.{ConditionForm}
use Rattle.pw_forms.specs.declared.cond.Operator.{Operator}
use Rattle.pw_forms.specs.declared.cond.Operator.TheVariants as operators
use Rattle.pw_forms.specs.declared.operand.Operand.{Operand}
use Rattle.pw_forms.specs.declared.operand.Operand.TheVariants as operands
use Rattle.pw_forms.specs.declared.operand.Subscript.{Subscript}
use Rattle.pw_forms.specs.declared.statement.Operation.{Operation}
use Rattle.pw_forms.specs.declared.statement.Operation.TheVariants as operations
use Rattle.pw_operands.specs.Resolved.{Each}
use Rattle.pw_tree_meaning.specs.Program.{DeckModel, Program, item_named}
use Rattle.pw_tree_meaning.specs.Store.{Store, Spot, no_spot}
use Rattle.pw_tree_meaning.specs.Store as tree
use Rattle.pw_tree_meaning.specs.State.{ProgramState}
use Rattle.pw_tree_meaning.specs.Values.{Value, Chars, number_of}
use Rattle.pw_tree_meaning.specs.Operands.{ResolvedOperand, Stored, Fixed, one_more, spot_in}
use Rattle.pw_tree_meaning.specs.Operands as source
use Rattle.pw_tree_meaning.specs.Conditions as conditions
use Rattle.pw_tree_meaning.specs.Conditions.{condition_turned, compared, is_numeric, of_both}
use Rattle.pw_tree_meaning.specs.Moves.{moved_chars}
use Rattle.pw_tree_meaning.specs.Moves as moving
use Rattle.pw_tree_meaning.specs.Arithmetic as computing
use Rattle.pw_code_meaning.proofs.Written.{length-chars_of, length-text_in}
use Rattle.pw_code_meaning.specs.Reading.{put_at, spot_of, spots_of, value_in, read}
use Rattle.pw_code_meaning.specs.Conditions as tests
use Rattle.pw_code_meaning.specs.Moves as moves
use Rattle.pw_compile.specs.Operands as code
use Rattle.pw_compile.specs.Conditions as compiled
use Rattle.pw_compiler_laws.proofs.Flat.{flat-chars, flat-put}
use Rattle.pw_compiler_laws.proofs.Ground.{Ground, IsCut, cut-kept, ground-kept}
use Rattle.pw_compiler_laws.proofs.Operands.{Known, item-fits, item-cut, Indexed, taken-same, item-same}
use Rattle.pw_tree_meaning.proofs.storage.Cuts.{Cut}

-- ---- spots that are runs of cells

-- the spot is a run of cells, and as long as its picture says
pub record Sits (store : Store) (spot : Spot) : Type 0 where
  pub cut : Cut store spot.at spot.size
  pub fits : (p : Picture) → spot.picture ≡ Some p → size_of p ≡ spot.size

pub no-spot-sits : (store : Store) → Sits store no_spot
no-spot-sits store = record { cut = record { front = []; run = []; back = store; is = refl; starts = refl; reaches = refl }; fits = λ p e. absurd cc }

pub sits-kept : (spot : Spot) (chars : List ℕ) (store : Store) (other : Spot) → Sits store other → Sits (tree.put_at spot chars store) other
sits-kept spot chars store other s = record { cut = cut-kept spot chars store other.at other.size s.cut; fits = s.fits }

abbrev pub TakenSits : Store → ResolvedOperand → Type 0
TakenSits store (Stored spot) = Sits store spot
TakenSits store (Fixed value) = Unit {0}

pub taken-kept : (spot : Spot) (chars : List ℕ) (store : Store) (found : ResolvedOperand) → TakenSits store found → TakenSits (tree.put_at spot chars store) found
taken-kept spot chars store (Stored other) s = sits-kept spot chars store other s
taken-kept spot chars store (Fixed value) s = tt

pub spot-sits : (store : Store) (found : ResolvedOperand) → TakenSits store found → Sits store (spot_in found)
spot-sits store (Stored spot) s = s
spot-sits store (Fixed value) s = no-spot-sits store

pub value-same : (store : Store) (tail : List ℕ) (found : ResolvedOperand) → TakenSits store found → value_in (joined store ++ tail) found ≡ source.value_in found store
value-same store tail (Stored spot) s = ap (Chars spot.picture) (flat-chars spot store tail s.cut)
value-same store tail (Fixed value) s = refl

-- ---- moves

length-moved_chars : (p : Option Picture) (size : ℕ) (value : Value) → ((q : Picture) → p ≡ Some q → size_of q ≡ size) → length (moved_chars p size value) ≡ size
length-moved_chars None size value fits = length-text_in size value
length-moved_chars (Some (picture.Text n)) size value fits = length-text_in size value
length-moved_chars (Some (picture.Number digits places sign)) size value fits =
    length-chars_of digits (size_at places (number_of value) % 10 ^ digits) sign (is_negative (number_of value)) ∙ fits (picture.Number digits places sign) refl
length-moved_chars (Some (picture.Edited symbols)) size value fits = length-text_in size value

pub move-same : (value : Value) (spot : Spot) (store : Store) (tail : List ℕ) → Sits store spot
    → moves.move_value value spot (joined store ++ tail) ≡ joined (moving.move_value value spot store) ++ tail
move-same value spot store tail s =
    flat-put spot (moved_chars spot.picture spot.size value) tail store s.cut (length-moved_chars spot.picture spot.size value s.fits)

pub moves-same : (found : ResolvedOperand) (spots : List Spot) (store : Store) (tail : List ℕ) → TakenSits store found → Each (Sits store) spots
    → moves.moves found spots (joined store ++ tail) ≡ joined (moving.moves found spots store) ++ tail
moves-same found [] store tail s each = refl
moves-same found (spot ∷ spots) store tail s each =
    let value = source.value_in found store in
    let chars = moved_chars spot.picture spot.size value in
    ap (λ v. moves.moves found spots (moves.move_value v spot (joined store ++ tail))) (value-same store tail found s)
    ∙ ap (moves.moves found spots) (move-same value spot store tail each.0)
    ∙ moves-same found spots (tree.put_at spot chars store) tail (taken-kept spot chars store found s) (each-kept spots each.1)
  where
    each-kept : (others : List Spot) → Each (Sits store) others → Each (Sits (tree.put_at spot (moved_chars spot.picture spot.size (source.value_in found store)) store)) others
    each-kept [] all = tt
    each-kept (other ∷ others) all = (sits-kept spot (moved_chars spot.picture spot.size (source.value_in found store)) store other all.0, each-kept others all.1)

pub moves-ground : (program : Program) (found : ResolvedOperand) (spots : List Spot) (store : Store) → Ground program store → Ground program (moving.moves found spots store)
moves-ground program found [] store ground = ground
moves-ground program found (spot ∷ spots) store ground =
    moves-ground program found spots (moving.move_value (source.value_in found store) spot store)
    (ground-kept program spot (moved_chars spot.picture spot.size (source.value_in found store)) store ground)

-- ---- options

map-some : {A B : Type 0} (f g : A → B) (o : Option A) → ((x : A) → o ≡ Some x → f x ≡ g x) → option_map f o ≡ option_map g o
map-some f g None same = refl
map-some f g (Some x) same = ap Some (same x refl)

one-more-map : {A B : Type 0} (f : A → B) (a : Option A) (b : Option (List A)) → one_more (option_map f a) (option_map (map f) b) ≡ option_map (map f) (one_more a b)
one-more-map f None b = refl
one-more-map f (Some a) None = refl
one-more-map f (Some a) (Some b) = refl

spot-again : (o : Option Spot) → o ≡ option_map spot_in (option_map Stored o)
spot-again None = refl
spot-again (Some spot) = refl

picture-fits : (k : Option ItemKind) (size : ℕ) → ForSome k (λ kind. IsPicture (picture_of_kind kind) × (size_of (picture_of_kind kind) ≡ size))
    → (p : Picture) → option_map picture_of_kind k ≡ Some p → size_of p ≡ size
picture-fits None size fits p e = absurd cc
picture-fits (Some k) size fits p e = ap size_of (sym (same_Some (picture_of_kind k) p e)) ∙ (fits k refl).1

item-sits : (store : Store) (item : Item) (k : ℕ) → FitsPicture item → IsCut store item → 1 ≤ k → k ≤ max item.occurs 1 → Sits store (tree.spot_of item k)
item-sits store item k fits cut low high = record { cut = cut k low high; fits = picture-fits item.kind item.size fits }

occurs-by : (store : Store) (item : Item) (k : ℕ) → FitsPicture item → IsCut store item → (b : Bool) → (nat_le 1 k && nat_le k item.occurs) ≡ b
    → (found : ResolvedOperand) → (if b then Some (Stored (tree.spot_of item k)) else None) ≡ Some found → TakenSits store found
occurs-by store item k fits cut true e found is =
    let parts = and_parts _ _ e in
    let low : 1 ≤ k = leb-true 1 k parts.0 in
    let high : k ≤ item.occurs = leb-true k item.occurs parts.1 in
    subst (TakenSits store) (same_Some (Stored (tree.spot_of item k)) found is) (item-sits store item k fits cut low (omega (arith, high)))
occurs-by store item k fits cut false e found is = absurd cc

module _ (server : Bool) (deck : DeckModel) (program : Program) where
  abbrev pub ComparisonIndexed : ComparisonForm → Type 0
  ComparisonIndexed (comparisons.Compare left negated op right) =
      Indexed server deck program left × Indexed server deck program right
  ComparisonIndexed (comparisons.Numeric one negated) = Indexed server deck program one

module _ (server : Bool) (deck : DeckModel) (program : Program) (known : Known server program) (s : ProgramState) (tail : List ℕ) (ground : Ground program s.store) where
  register-sits : (a b : Bool) (x y z : Value) (found : ResolvedOperand) → Some (if a then Fixed x else if b then Fixed y else Fixed z) ≡ Some found → TakenSits s.store found
  register-sits true b x y z found is = subst (TakenSits s.store) (same_Some (Fixed x) found is) tt
  register-sits false true x y z found is = subst (TakenSits s.store) (same_Some (Fixed y) found is) tt
  register-sits false false x y z found is = subst (TakenSits s.store) (same_Some (Fixed z) found is) tt

  named-sits : (o : Option Item) (name : Word) (k : Option ℕ) → ((item : Item) → o ≡ Some item → FitsPicture item) → ((item : Item) → o ≡ Some item → IsCut s.store item)
      → (found : ResolvedOperand) → source.taken_item o s.registers name k ≡ Some found → TakenSits s.store found
  named-sits None name k fits cut found is = register-sits (bytes_eq name (codes "TERMINATION-STATUS")) (bytes_eq name (codes "RESTART-COUNTER")) _ _ _ found is
  named-sits (Some item) name None fits cut found is =
      subst (TakenSits s.store) (same_Some (Stored (tree.spot_of item 1)) found is) (item-sits s.store item 1 (fits item refl) (cut item refl) (omega arith) (omega arith))
  named-sits (Some item) name (Some k) fits cut found is = occurs-by s.store item k (fits item refl) (cut item refl) (nat_le 1 k && nat_le k item.occurs) refl found is

  fixed-sits : (value : Value) (found : ResolvedOperand) → Some (Fixed value) ≡ Some found → TakenSits s.store found
  fixed-sits value found is = subst (TakenSits s.store) (same_Some (Fixed value) found is) tt

  -- what is taken is a run of cells
  pub taken-sits : (one : Operand) (found : ResolvedOperand) → source.operand_taken program s one ≡ Some found → TakenSits s.store found
  taken-sits (operands.Item name subscript) found is =
      named-sits (item_named program name) name (option_map (source.subscript_value program s) subscript)
      (λ item e. item-fits server deck program known s tail ground name item e) (λ item e. item-cut server deck program known s tail ground name item e) found is
  taken-sits (operands.Number spelling) found is = fixed-sits _ found is
  taken-sits (operands.Text chars) found is = fixed-sits _ found is
  taken-sits operands.Spaces found is = fixed-sits _ found is
  taken-sits operands.Zeros found is = fixed-sits _ found is

  pub all-sit : (ones : List Operand) (found : List ResolvedOperand) → source.taken_all program s ones ≡ Some found → Each (TakenSits s.store) found
  all-sit [] found is = subst (Each (TakenSits s.store)) (same_Some [] found is) tt
  all-sit (one ∷ ones) found is = by (source.operand_taken program s one) (source.taken_all program s ones) (λ x e. taken-sits one x e) (λ xs e. all-sit ones xs e) is
    where
      by : (a : Option ResolvedOperand) (b : Option (List ResolvedOperand)) → ((x : ResolvedOperand) → a ≡ Some x → TakenSits s.store x) → ((xs : List ResolvedOperand) → b ≡ Some xs → Each (TakenSits s.store) xs)
          → one_more a b ≡ Some found → Each (TakenSits s.store) found
      by None b f g e = absurd cc
      by (Some x) None f g e = absurd cc
      by (Some x) (Some xs) f g e = subst (Each (TakenSits s.store)) (same_Some (x ∷ xs) found e) (f x refl, g xs refl)

  -- an operand as it is read
  pub read-same : (one : Operand) → Indexed server deck program one
      → read s.registers (joined s.store ++ tail) (code.operand_of program.layout one) ≡ option_map (λ found. source.value_in found s.store) (source.operand_taken program s one)
  read-same one is =
      ap (option_map (value_in (joined s.store ++ tail))) (taken-same server deck program known s tail ground one is)
      ∙ map-some (value_in (joined s.store ++ tail)) (λ found. source.value_in found s.store) (source.operand_taken program s one)
      (λ found e. value-same s.store tail found (taken-sits one found e))

  no-place-same : (a b : Bool) (x y z : Value) → Some no_spot ≡ option_map spot_in (Some (if a then Fixed x else if b then Fixed y else Fixed z))
  no-place-same true b x y z = refl
  no-place-same false true x y z = refl
  no-place-same false false x y z = refl

  place-by-same : (o : Option Item) (name : Word) (subscript : Option Subscript) → ((item : Item) → o ≡ Some item → FitsPicture item)
      → Indexed server deck program (operands.Item name subscript)
      → spot_of s.registers (joined s.store ++ tail) (code.place_by program.layout (option_map place_at o) subscript)
      ≡ option_map spot_in (source.taken_item o s.registers name (option_map (source.subscript_value program s) subscript))
  place-by-same None name subscript fits is = no-place-same (bytes_eq name (codes "TERMINATION-STATUS")) (bytes_eq name (codes "RESTART-COUNTER")) _ _ _
  place-by-same (Some item) name subscript fits is =
      spot-again (spot_of s.registers (joined s.store ++ tail) (code.placed program.layout (place_at item) subscript))
      ∙ ap (option_map spot_in) (item-same server deck program known s tail ground (Some item) name subscript fits is)

  -- an item that receives
  pub spot-same : (one : Operand) → Indexed server deck program one
      → spot_of s.registers (joined s.store ++ tail) (code.place_in program.layout one) ≡ option_map spot_in (source.operand_taken program s one)
  spot-same (operands.Item name subscript) is = place-by-same (item_named program name) name subscript (λ item e. item-fits server deck program known s tail ground name item e) is
  spot-same (operands.Number spelling) is = refl
  spot-same (operands.Text chars) is = refl
  spot-same operands.Spaces is = refl
  spot-same operands.Zeros is = refl

  -- items that receive
  pub spots-same : (ones : List Operand) → Each (Indexed server deck program) ones
      → spots_of s.registers (joined s.store ++ tail) (map (code.place_in program.layout) ones) ≡ option_map (map spot_in) (source.taken_all program s ones)
  spots-same [] each = refl
  spots-same (one ∷ ones) each =
      ap (λ o. one_more o (spots_of s.registers (joined s.store ++ tail) (map (code.place_in program.layout) ones))) (spot-same one each.0)
      ∙ ap (one_more (option_map spot_in (source.operand_taken program s one))) (spots-same ones each.1)
      ∙ one-more-map spot_in (source.operand_taken program s one) (source.taken_all program s ones)

  -- ---- conditions

  operator-same : (op : Operator) (found : Ordering) → tests.holds_by (compiled.operator_of op) found ≡ conditions.holds_by op found
  operator-same operators.Equal found = refl
  operator-same operators.Less found = refl
  operator-same operators.Greater found = refl
  operator-same operators.LessEqual found = refl
  operator-same operators.GreaterEqual found = refl

  two-same : (negated : Bool) (op : Operator) (a b : Option ResolvedOperand)
      → tests.of_two (λ x y. condition_turned negated (tests.holds_by (compiled.operator_of op) (compared x y))) (option_map (λ found. source.value_in found s.store) a) (option_map (λ found. source.value_in found s.store) b)
      ≡ conditions.of_two (λ x y. condition_turned negated (conditions.holds_by op (compared (source.value_in x s.store) (source.value_in y s.store)))) a b
  two-same negated op None b = refl
  two-same negated op (Some x) None = refl
  two-same negated op (Some x) (Some y) = ap (λ t. Some (condition_turned negated t)) (operator-same op (compared (source.value_in x s.store) (source.value_in y s.store)))

  one-same : (negated : Bool) (a : Option ResolvedOperand)
      → tests.of_one (λ x. condition_turned negated (is_numeric x)) (option_map (λ found. source.value_in found s.store) a) ≡ conditions.of_one (λ x. condition_turned negated (is_numeric (source.value_in x s.store))) a
  one-same negated None = refl
  one-same negated (Some x) = refl

  comparison-same : (one : ComparisonForm) → ComparisonIndexed server deck program one
      → tests.comparison_holds s.registers (joined s.store ++ tail) (compiled.comparison_of program.layout one) ≡ conditions.comparison_holds program s one
  comparison-same (comparisons.Compare left negated op right) is =
      ap (λ o. tests.of_two (λ x y. condition_turned negated (tests.holds_by (compiled.operator_of op) (compared x y))) o (read s.registers (joined s.store ++ tail) (code.operand_of program.layout right))) (read-same left is.0)
      ∙ ap (tests.of_two (λ x y. condition_turned negated (tests.holds_by (compiled.operator_of op) (compared x y))) (option_map (λ found. source.value_in found s.store) (source.operand_taken program s left))) (read-same right is.1)
      ∙ two-same negated op (source.operand_taken program s left) (source.operand_taken program s right)
  comparison-same (comparisons.Numeric one negated) is =
      ap (tests.of_one (λ x. condition_turned negated (is_numeric x))) (read-same one is) ∙ one-same negated (source.operand_taken program s one)

  all-same : (ones : List ComparisonForm) → Each (ComparisonIndexed server deck program) ones
      → tests.all_hold s.registers (joined s.store ++ tail) (map (compiled.comparison_of program.layout) ones) ≡ conditions.all_hold program s ones
  all-same [] each = refl
  all-same (one ∷ ones) each =
      ap (λ o. of_both (λ a b. a && b) o (tests.all_hold s.registers (joined s.store ++ tail) (map (compiled.comparison_of program.layout) ones))) (comparison-same one each.0)
      ∙ ap (of_both (λ a b. a && b) (conditions.comparison_holds program s one)) (all-same ones each.1)

  any-same : (lists : List (List ComparisonForm)) → Each (Each (ComparisonIndexed server deck program)) lists
      → tests.any_holds s.registers (joined s.store ++ tail) (map (map (compiled.comparison_of program.layout)) lists) ≡ conditions.any_holds program s lists
  any-same [] each = refl
  any-same (list ∷ lists) each =
      ap (λ o. of_both (λ a b. a || b) o (tests.any_holds s.registers (joined s.store ++ tail) (map (map (compiled.comparison_of program.layout)) lists))) (all-same list each.0)
      ∙ ap (of_both (λ a b. a || b) (conditions.all_hold program s list)) (any-same lists each.1)

  -- a condition
  pub holds-same : (cond : ConditionForm) → Each (Each (ComparisonIndexed server deck program)) cond.any
      → tests.code_condition_holds s.registers (joined s.store ++ tail) (compiled.cond_of program.layout cond) ≡ conditions.holds program s cond
  holds-same cond each = any-same cond.any each

-- ---- arithmetic

-- the storage of a state, if there is one
abbrev pub stored : List ℕ → Option ProgramState → Option (List ℕ)
stored tail o = option_map (λ s. joined s.store ++ tail) o

operated-same : (op : Operation) (places : ℕ) (first second : Number) → moves.operated (compiled.operation_of op) places first second ≡ computing.operated op places first second
operated-same operations.Add places first second = refl
operated-same operations.Subtract places first second = refl
operated-same operations.Multiply places first second = refl
operated-same operations.Divide places first second = refl

stored-by-same : (b : Bool) (p : Picture) (spot : Spot) (n : Number) (s : ProgramState) (tail : List ℕ) → Cut s.store spot.at spot.size → length (moved p n) ≡ spot.size
    → (if b then Some (put_at spot (moved p n) (joined s.store ++ tail)) else None) ≡ stored tail (if b then Some (record s { store = tree.put_at spot (moved p n) s.store }) else None)
stored-by-same true p spot n s tail cut long = ap Some (flat-put spot (moved p n) tail s.store cut long)
stored-by-same false p spot n s tail cut long = refl

stored-in-same : (r : Result Number SizeError) (spot : Spot) (s : ProgramState) (tail : List ℕ) → Sits s.store spot
    → moves.stored_in spot r (joined s.store ++ tail) ≡ stored tail (computing.stored_in spot r s)
stored-in-same (Err error) spot s tail sits = refl
stored-in-same (Ok n) spot s tail sits = by spot.picture refl
  where
    by : (o : Option Picture) → spot.picture ≡ o → moves.stored_by o spot n (joined s.store ++ tail) ≡ stored tail (computing.stored_by o spot n s)
    by None e = refl
    by (Some (picture.Text k)) e = refl
    by (Some (picture.Number digits places sign)) e =
        stored-by-same (is_kept (picture.Number digits places sign) n) (picture.Number digits places sign) spot n s tail sits.cut
        (length-chars_of digits (size_at places n % 10 ^ digits) sign (is_negative n) ∙ sits.fits (picture.Number digits places sign) e)
    by (Some (picture.Edited symbols)) e = refl

pub computed-same : (op : Operation) (first second : Value) (spot : Spot) (s : ProgramState) (tail : List ℕ) → Sits s.store spot
    → moves.computed (compiled.operation_of op) first second spot (joined s.store ++ tail) ≡ stored tail (computing.computed op first second spot s)
computed-same op first second spot s tail sits =
    ap (λ r. moves.stored_in spot r (joined s.store ++ tail)) (operated-same op (computing.receiver_decimals spot.picture) (number_of first) (number_of second))
    ∙ stored-in-same (computing.operated op (computing.receiver_decimals spot.picture) (number_of first) (number_of second)) spot s tail sits

-- what a computation leaves is the state with another store of the program
pub record Computed (program : Program) (s t : ProgramState) : Type 0 where
  pub store : Store
  pub is : t ≡ record s { store = store }
  pub ground : Ground program store

pub computed-state : (program : Program) (op : Operation) (first second : Value) (spot : Spot) (s t : ProgramState) → computing.computed op first second spot s ≡ Some t → Ground program s.store
    → Computed program s t
computed-state program op first second spot s t is ground = by (computing.operated op (computing.receiver_decimals spot.picture) (number_of first) (number_of second)) is
  where
    kept : (b : Bool) (p : Picture) (n : Number) → (if b then Some (record s { store = tree.put_at spot (moved p n) s.store }) else None) ≡ Some t → Computed program s t
    kept true p n e = record {
      store = tree.put_at spot (moved p n) s.store;
      is = sym (same_Some (record s { store = tree.put_at spot (moved p n) s.store }) t e);
      ground = ground-kept program spot (moved p n) s.store ground;
    }
    kept false p n e = absurd cc

    stored_by : (o : Option Picture) (n : Number) → computing.stored_by o spot n s ≡ Some t → Computed program s t
    stored_by None n e = absurd cc
    stored_by (Some p) n e = kept (is_kept p n) p n e

    by : (r : Result Number SizeError) → computing.stored_in spot r s ≡ Some t → Computed program s t
    by (Err error) e = absurd cc
    by (Ok n) e = stored_by spot.picture n e
