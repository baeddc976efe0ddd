-- Entries as trees: one in front has the members behind it, and what stands behind them beside it.
use Rattle.std.proofs.Common.{◌≡◌, ℕ, suc, Bool, true, false, not, cond, List, [], ◌∷◌, length, take, drop, refl, sym, ap, ◌∙◌, arith}
use Rattle.std.specs.Prelude.{take_while, nat_lt, ◌==◌, ◌&&◌, if◌then◌else◌}
use Rattle.std.proofs.lemmas.Bool.{ne_eqb}
use Rattle.std.proofs.lemmas.Bool.Decides.{nat_tests}
use Rattle.std.proofs.lemmas.List.Folds.{length-prefix_len}
use Rattle.std.proofs.lemmas.List.Sums.{take_while-cons}
use Rattle.pw_data.specs.declared.entry.Entry.{Entry}
use Rattle.pw_data.specs.Tree.{Forest, Empty, Node, stands_in, inside, past, forest, is_group}

-- levels that rise twice in one section rise once
rise_twice : (a b c : ℕ) (p q r : Bool) → (not (b == 77) && (nat_lt a b && (if p then q else not q))) ≡ true → (not (c == 77) && (nat_lt b c && (if q then r else not r))) ≡ true
    → (not (c == 77) && (nat_lt a c && (if p then r else not r))) ≡ true
rise_twice a b c true true true ab bc = grind (arith, nat_tests)
rise_twice a b c true true false ab bc = grind (arith, nat_tests)
rise_twice a b c true false r ab bc = grind (arith, nat_tests)
rise_twice a b c false true r ab bc = grind (arith, nat_tests)
rise_twice a b c false false true ab bc = grind (arith, nat_tests)
rise_twice a b c false false false ab bc = grind (arith, nat_tests)

stands_in-trans : (a b c : Entry) → stands_in a b ≡ true → stands_in b c ≡ true → stands_in a c ≡ true
stands_in-trans a b c ab bc = rise_twice a.level b.level c.level a.linked b.linked c.linked ab bc

inside-yes : (e m : Entry) (ms r : Forest) → stands_in e m ≡ true → inside e (Node m ms r) ≡ Node m ms (inside e r)
inside-yes e m ms r is_in = rw is_in refl

inside-no : (e m : Entry) (ms r : Forest) → stands_in e m ≡ false → inside e (Node m ms r) ≡ Empty
inside-no e m ms r is_out = rw is_out refl

past-yes : (e m : Entry) (ms r : Forest) → stands_in e m ≡ true → past e (Node m ms r) ≡ past e r
past-yes e m ms r is_in = rw is_in refl

past-no : (e m : Entry) (ms r : Forest) → stands_in e m ≡ false → past e (Node m ms r) ≡ Node m ms r
past-no e m ms r is_out = rw is_out refl

-- x stands in e, and m stands in x (or not) and in e (or not): what holds behind m holds from m on
module _ (e x m : Entry) (ms r : Forest) (x_in : stands_in e x ≡ true) where
  inside_inside-node : (b c : Bool) → stands_in x m ≡ b → stands_in e m ≡ c → inside x (inside e r) ≡ inside x r
      → inside x (inside e (Node m ms r)) ≡ inside x (Node m ms r)
  inside_inside-node true true in_x in_e is = ap (inside x) (inside-yes e m ms r in_e) ∙ inside-yes x m ms (inside e r) in_x ∙ ap (Node m ms) is ∙ sym (inside-yes x m ms r in_x)
  inside_inside-node true false in_x in_e is = absurd (cc (stands_in-trans e x m x_in in_x))
  inside_inside-node false true in_x in_e is = ap (inside x) (inside-yes e m ms r in_e) ∙ inside-no x m ms (inside e r) in_x ∙ sym (inside-no x m ms r in_x)
  inside_inside-node false false in_x in_e is = ap (inside x) (inside-no e m ms r in_e) ∙ sym (inside-no x m ms r in_x)

  past_inside-node : (b c : Bool) → stands_in x m ≡ b → stands_in e m ≡ c → past x (inside e r) ≡ inside e (past x r)
      → past x (inside e (Node m ms r)) ≡ inside e (past x (Node m ms r))
  past_inside-node true true in_x in_e is = ap (past x) (inside-yes e m ms r in_e) ∙ past-yes x m ms (inside e r) in_x ∙ is ∙ sym (ap (inside e) (past-yes x m ms r in_x))
  past_inside-node true false in_x in_e is = absurd (cc (stands_in-trans e x m x_in in_x))
  past_inside-node false true in_x in_e is = ap (past x) (inside-yes e m ms r in_e) ∙ past-no x m ms (inside e r) in_x ∙ sym (inside-yes e m ms r in_e) ∙ sym (ap (inside e) (past-no x m ms r in_x))
  past_inside-node false false in_x in_e is = ap (past x) (inside-no e m ms r in_e) ∙ sym (inside-no e m ms r in_e) ∙ sym (ap (inside e) (past-no x m ms r in_x))

  past_past-node : (b : Bool) → stands_in x m ≡ b → past e (past x r) ≡ past e r → past e (past x (Node m ms r)) ≡ past e (Node m ms r)
  past_past-node true in_x is = ap (past e) (past-yes x m ms r in_x) ∙ is ∙ sym (past-yes e m ms r (stands_in-trans e x m x_in in_x))
  past_past-node false in_x is = ap (past e) (past-no x m ms r in_x)

-- what stands in x stands in e, where x does
inside-inside : (e x : Entry) → stands_in e x ≡ true → (f : Forest) → inside x (inside e f) ≡ inside x f
inside-inside e x x_in Empty = refl
inside-inside e x x_in (Node m ms r) = inside_inside-node e x m ms r x_in (stands_in x m) (stands_in e m) refl refl (inside-inside e x x_in r)

past-inside : (e x : Entry) → stands_in e x ≡ true → (f : Forest) → past x (inside e f) ≡ inside e (past x f)
past-inside e x x_in Empty = refl
past-inside e x x_in (Node m ms r) = past_inside-node e x m ms r x_in (stands_in x m) (stands_in e m) refl refl (past-inside e x x_in r)

past-past : (e x : Entry) → stands_in e x ≡ true → (f : Forest) → past e (past x f) ≡ past e f
past-past e x x_in Empty = refl
past-past e x x_in (Node m ms r) = past_past-node e x m ms r x_in (stands_in x m) refl (past-past e x x_in r)

-- those in front that pass a test
front-yes : (p : Entry → Bool) (x : Entry) (xs : List Entry) → p x ≡ true → take_while p (x ∷ xs) ≡ x ∷ take_while p xs
front-yes p x xs is_in = take_while-cons p x xs ∙ ap (λ b. cond b (x ∷ take_while p xs) []) is_in

front-no : (p : Entry → Bool) (x : Entry) (xs : List Entry) → p x ≡ false → take_while p (x ∷ xs) ≡ []
front-no p x xs is_out = take_while-cons p x xs ∙ ap (λ b. cond b (x ∷ take_while p xs) []) is_out

-- as many as pass in front, taken
take_front : (p : Entry → Bool) (xs : List Entry) → take (length (take_while p xs)) xs ≡ take_while p xs
take_front p xs = ap (λ n. take n xs) (length-prefix_len p xs)

inside_forest-by : (e x : Entry) (xs : List Entry) (b : Bool) → stands_in e x ≡ b → inside e (forest xs) ≡ forest (take_while (stands_in e) xs)
    → inside e (forest (x ∷ xs)) ≡ forest (take_while (stands_in e) (x ∷ xs))
unfolding forest
inside_forest-by e x xs true is_in is =
    inside-yes e x (inside x (forest xs)) (past x (forest xs)) is_in
    ∙ ap (λ ms. Node x ms (inside e (past x (forest xs)))) (sym (inside-inside e x is_in (forest xs)))
    ∙ ap (Node x (inside x (inside e (forest xs)))) (sym (past-inside e x is_in (forest xs)))
    ∙ ap (λ f. Node x (inside x f) (past x f)) is
    ∙ sym (ap forest (front-yes (stands_in e) x xs is_in))
inside_forest-by e x xs false is_out is = inside-no e x (inside x (forest xs)) (past x (forest xs)) is_out ∙ sym (ap forest (front-no (stands_in e) x xs is_out))

inside_forest : (e : Entry) (xs : List Entry) → inside e (forest xs) ≡ forest (take_while (stands_in e) xs)
unfolding forest
inside_forest e [] = refl
inside_forest e (x ∷ xs) = inside_forest-by e x xs (stands_in e x) refl (inside_forest e xs)

past_forest-by : (e x : Entry) (xs : List Entry) (b : Bool) → stands_in e x ≡ b → past e (forest xs) ≡ forest (drop (length (take_while (stands_in e) xs)) xs)
    → past e (forest (x ∷ xs)) ≡ forest (drop (length (take_while (stands_in e) (x ∷ xs))) (x ∷ xs))
unfolding forest
past_forest-by e x xs true is_in is =
    past-yes e x (inside x (forest xs)) (past x (forest xs)) is_in ∙ past-past e x is_in (forest xs) ∙ is
    ∙ sym (ap (λ ys. forest (drop (length ys) (x ∷ xs))) (front-yes (stands_in e) x xs is_in))
past_forest-by e x xs false is_out is =
    past-no e x (inside x (forest xs)) (past x (forest xs)) is_out ∙ sym (ap (λ ys. forest (drop (length ys) (x ∷ xs))) (front-no (stands_in e) x xs is_out))

past_forest : (e : Entry) (xs : List Entry) → past e (forest xs) ≡ forest (drop (length (take_while (stands_in e) xs)) xs)
unfolding forest
past_forest e [] = refl
past_forest e (x ∷ xs) = past_forest-by e x xs (stands_in e x) refl (past_forest e xs)

-- the members of an entry are those behind it up to the next one that may not belong to it
pub forest-members : (e : Entry) (behind : List Entry) → forest (e ∷ behind) ≡ Node e (forest (take_while (stands_in e) behind)) (forest (drop (length (take_while (stands_in e) behind)) behind))
unfolding forest
forest-members e behind = ap (λ ms. Node e ms (past e (forest behind))) (inside_forest e behind) ∙ ap (Node e (forest (take_while (stands_in e) behind))) (past_forest e behind)

-- an entry in front, with its members and what stands behind them
pub forest-front : (e : Entry) (behind members next : List Entry) (count : ℕ) → count ≡ length (take_while (stands_in e) behind) → members ≡ take count behind → next ≡ drop count behind
    → forest (e ∷ behind) ≡ Node e (forest members) (forest next)
forest-front e behind members next count count_is members_is next_is =
    let front : members ≡ take_while (stands_in e) behind = members_is ∙ ap (λ n. take n behind) count_is ∙ take_front (stands_in e) behind in
    let rest : next ≡ drop (length (take_while (stands_in e) behind)) behind = next_is ∙ ap (λ n. drop n behind) count_is in
    forest-members e behind ∙ ap (λ ms. Node e (forest ms) (forest (drop (length (take_while (stands_in e) behind)) behind))) (sym front) ∙ ap (λ es. Node e (forest members) (forest es)) (sym rest)

-- nothing is no tree
pub forest-none : (es : List Entry) → length es ≡ 0 → forest es ≡ Empty
unfolding forest
forest-none [] none = refl
forest-none (e ∷ es) none = absurd (omega arith)

-- there are trees where there are entries
pub is_group-forest : (es : List Entry) → is_group (forest es) ≡ not (length es == 0)
unfolding forest
is_group-forest [] = refl
is_group-forest (e ∷ es) = sym (ap not (ne_eqb (suc (length es)) 0 (λ is. absurd (omega arith))))
