-- Open branches, and what stands behind them.
use Rattle.std.proofs.Common.{◌≡◌, ◌+◌, List, [], ◌∷◌, ◌++◌, length, Bool, true, false, not, Option, Some, None, refl, sym, ap, ◌∙◌, append_assoc, arith}
use Rattle.std.specs.Prelude.{◌||◌, is_some}
use Rattle.std.specs.List.{list_any}
use Rattle.std.proofs.lemmas.List.{append-nil}
use Rattle.pw_base.proofs.Plain.{or-false}
use Rattle.pw_forms.specs.declared.form.Head.{Head}
use Rattle.pw_forms.specs.declared.statement.Statement.{Statement}
use Rattle.pw_forms.specs.declared.branch.Open.{Open}
use Rattle.pw_forms.specs.Faults.{can_turn, else_turned}
use Rattle.pw_forms.specs.Tree.{ParagraphsBehind, Levels, Closed, AtElse, AtEndIf, prepend, with_else, closed}
use Rattle.pw_forms.specs.Blocks.{finished_head, branches_onto, branches, inside, around, nested}

-- ---- whether the branches have their ELSE

pub branches_onto-push : (known : List Bool) (all : List Open) (last : Open) → branches_onto known (all ++ last ∷ []) ≡ is_some last.first ∷ branches_onto known all
branches_onto-push known [] last = refl
branches_onto-push known (next ∷ all) last = branches_onto-push (is_some next.first ∷ known) all last

pub branches-push : (all more : List Open) (last : Open) → more ≡ all ++ last ∷ [] → branches more ≡ is_some last.first ∷ branches all
branches-push all more last is = ap branches is ∙ branches_onto-push [] all last

length-branches_onto : (known : List Bool) (all : List Open) → length (branches_onto known all) ≡ length known + length all
length-branches_onto known [] = omega arith
length-branches_onto known (next ∷ all) = length-branches_onto (is_some next.first ∷ known) all ∙ omega arith

pub length-branches : (all : List Open) → length (branches all) ≡ length all
length-branches all = let long = length-branches_onto [] all in omega arith

any-swap : (a b c : Bool) → (a || (b || c)) ≡ (b || (a || c))
any-swap true true c = refl
any-swap true false c = refl
any-swap false true c = refl
any-swap false false c = refl

any-branches_onto : (known : List Bool) (all : List Open) → list_any not (branches_onto known all) ≡ (list_any (λ (next : Open). not (is_some next.first)) all || list_any not known)
any-branches_onto known [] = refl
any-branches_onto known (next ∷ all) = any-branches_onto (is_some next.first ∷ known) all
    ∙ any-swap (list_any (λ (other : Open). not (is_some other.first)) all) (not (is_some next.first)) (list_any not known)
    ∙ sym (any-group (not (is_some next.first)) (list_any (λ (other : Open). not (is_some other.first)) all) (list_any not known))
  where
    any-group : (a b c : Bool) → ((a || b) || c) ≡ (a || (b || c))
    any-group true b c = refl
    any-group false b c = refl

pub any-branches : (all : List Open) → list_any not (branches all) ≡ list_any (λ (next : Open). not (is_some next.first)) all
any-branches all = any-branches_onto [] all ∙ or-false (list_any (λ (next : Open). not (is_some next.first)) all)

-- the innermost branch gets its ELSE
pub turned-branches : (fewer all more : List Open) (top next : Open) → all ≡ fewer ++ top ∷ [] → more ≡ fewer ++ next ∷ [] → is_some top.first ≡ false → is_some next.first ≡ true
    → branches more ≡ else_turned (branches all)
turned-branches fewer all more top next all_is more_is none some =
    branches-push fewer more next more_is ∙ ap (λ b. b ∷ branches fewer) some ∙ ap (λ b. else_turned (b ∷ branches fewer)) (sym none)
    ∙ ap else_turned (sym (branches-push fewer all top all_is))

-- the innermost branch has its ELSE, and is passed over
pub passed-turned : (fewer all : List Open) (top : Open) → all ≡ fewer ++ top ∷ [] → is_some top.first ≡ true → else_turned (branches fewer) ≡ else_turned (branches all)
passed-turned fewer all top all_is some = ap (λ b. else_turned (b ∷ branches fewer)) (sym some) ∙ ap else_turned (sym (branches-push fewer all top all_is))

pub passed-can_turn : (fewer all : List Open) (top : Open) → all ≡ fewer ++ top ∷ [] → is_some top.first ≡ true → can_turn (branches fewer) ≡ can_turn (branches all)
passed-can_turn fewer all top all_is some = ap (λ b. can_turn (b ∷ branches fewer)) (sym some) ∙ ap can_turn (sym (branches-push fewer all top all_is))

-- ---- what stands behind them

pub prepend-nil : (x : Levels) → prepend [] x ≡ x
prepend-nil (Closed block behind) = refl
prepend-nil (AtElse block rest) = refl
prepend-nil (AtEndIf block rest) = refl

pub prepend-prepend : (a b : List Statement) (x : Levels) → prepend a (prepend b x) ≡ prepend (a ++ b) x
prepend-prepend a b (Closed c behind) = ap (λ d. Closed d behind) (sym (append_assoc a b c))
prepend-prepend a b (AtElse c rest) = ap (λ d. AtElse d rest) (sym (append_assoc a b c))
prepend-prepend a b (AtEndIf c rest) = ap (λ d. AtEndIf d rest) (sym (append_assoc a b c))

-- a statement behind the others
pub pushed : (all more : List Open) (block longer : List Statement) (statement : Statement) (x : Levels) → more ≡ all → longer ≡ block ++ statement ∷ []
    → nested more (prepend longer x) ≡ nested all (prepend block (prepend (statement ∷ []) x))
pushed all more block longer statement x more_is longer_is =
    ap (λ fs. nested fs (prepend longer x)) more_is ∙ ap (λ b. nested all (prepend b x)) longer_is ∙ ap (nested all) (sym (prepend-prepend block (statement ∷ []) x))

nested-push : (all : List Open) (last : Open) (x : Levels) → nested (all ++ last ∷ []) x ≡ nested all (around last x)
unfolding nested
nested-push [] last x = refl
nested-push (next ∷ all) last x = ap (around next) (nested-push all last x)

-- no branch is open
pub nested-nil : (all : List Open) (x : Levels) → all ≡ [] → nested all x ≡ x
unfolding nested
nested-nil all x is = ap (λ fs. nested fs x) is

-- a head that closes, by what stands behind its last statement
pub closes-closed : (head : Head) (first : Option (List Statement)) (last : List Statement) (behind : ParagraphsBehind)
    → inside head first (prepend last (Closed [] behind)) ≡ prepend (finished_head head first last ∷ []) (Closed [] behind)
closes-closed head None last behind = ap (λ c. Closed (closed head c [] ∷ []) behind) (append-nil last)
closes-closed head (Some first) last behind = ap (λ c. Closed (closed head first c ∷ []) behind) (append-nil last)

pub closes-end : (head : Head) (first : Option (List Statement)) (last : List Statement) (x : Levels)
    → inside head first (prepend last (AtEndIf [] x)) ≡ prepend (finished_head head first last ∷ []) x
closes-end head None last x = ap (λ c. prepend (closed head c [] ∷ []) x) (append-nil last)
closes-end head (Some first) last x = ap (λ c. prepend (closed head first c ∷ []) x) (append-nil last)

pub closes-else : (head : Head) (first : Option (List Statement)) (last : List Statement) (x : Levels) → is_some first ≡ true
    → inside head first (prepend last (AtElse [] x)) ≡ prepend (finished_head head first last ∷ []) (AtElse [] x)
closes-else head None last x is = absurd cc
closes-else head (Some first) last x is = ap (λ c. AtElse (closed head first c ∷ []) x) (append-nil last)

-- a branch is opened, and nothing stands in it yet
pub opens : (all more : List Open) (last : Open) (block : List Statement) (x : Levels) → more ≡ all ++ last ∷ [] → block ≡ []
    → nested more (prepend block x) ≡ nested all (around last x)
opens all more last block x more_is block_is =
    ap (λ c. nested more (prepend c x)) block_is ∙ ap (nested more) (prepend-nil x) ∙ ap (λ fs. nested fs x) more_is ∙ nested-push all last x

pop : (fewer all : List Open) (last : Open) (x : Levels) → all ≡ fewer ++ last ∷ [] → nested all x ≡ nested fewer (around last x)
pop fewer all last x is = ap (λ fs. nested fs x) is ∙ nested-push fewer last x

-- the innermost branch is closed
pub closes : (fewer all : List Open) (top : Open) (longer block : List Statement) (x y : Levels) → all ≡ fewer ++ top ∷ []
    → longer ≡ top.before ++ finished_head top.head top.first block ∷ []
    → inside top.head top.first (prepend block x) ≡ prepend (finished_head top.head top.first block ∷ []) y
    → nested fewer (prepend longer y) ≡ nested all (prepend block x)
closes fewer all top longer block x y all_is longer_is closes_is =
    sym (pop fewer all top (prepend block x) all_is ∙ ap (λ z. nested fewer (prepend top.before z)) closes_is
    ∙ ap (nested fewer) (prepend-prepend top.before _ y) ∙ ap (λ b. nested fewer (prepend b y)) (sym longer_is))

-- the innermost branch gets its ELSE
pub turns : (fewer all more : List Open) (top next : Open) (block new : List Statement) (x : Levels) → all ≡ fewer ++ top ∷ [] → more ≡ fewer ++ next ∷ []
    → new ≡ [] → is_some top.first ≡ false → next ≡ (record top { first = Some block })
    → nested more (prepend new x) ≡ nested all (prepend block (AtElse [] x))
turns fewer all more top next block new x all_is more_is new_is none next_is =
    opens fewer more next new x more_is new_is ∙ ap (λ o. nested fewer (around o x)) next_is
    ∙ ap (λ c. nested fewer (prepend top.before (with_else top.head c x))) (sym (append-nil block))
    ∙ turned_by top.first none
    ∙ sym (pop fewer all top (prepend block (AtElse [] x)) all_is)
  where
    turned_by : (first : Option (List Statement)) → is_some first ≡ false
        → nested fewer (prepend top.before (with_else top.head (block ++ []) x)) ≡ nested fewer (prepend top.before (inside top.head first (prepend block (AtElse [] x))))
    turned_by None is = refl
    turned_by (Some first) is = absurd cc
