-- Statements with branches, whose branches are lists.
use Rattle.std.proofs.Common.{◌≡◌, ℕ, ◌+◌, ◌<◌, List, [], ◌∷◌, ◌++◌, length, map, take, get_or, refl, sym, ap, ◌∙◌, subst, append_assoc}
use Rattle.std.specs.Prelude.{Result, OnOk}
use Rattle.std.proofs.lemmas.List.{take_more, map-append}
use mathlib.Core.Former.{Count}
use Rattle.pw_forms.specs.declared.cond.ConditionForm.{ConditionForm}
use Rattle.pw_forms.specs.declared.statement.ArithmeticForm.{ArithmeticForm}
use Rattle.pw_forms.specs.declared.statement.Statement.{Statement, Row_of-Statement, end_of-Statement, more_of-Statement, items-the_row-Statement, items_hidden-the_row-Statement-0}
use Rattle.pw_forms.specs.declared.statement.Statement.TheVariants as statements
use Rattle.pw_code.specs.declared.instr.Instr.{Instr}
use Rattle.pw_code.specs.declared.instr.Instr.TheVariants as instr
use Rattle.pw_operands.proofs.Branches.{first_of, second_of}
use Rattle.pw_compile.specs.Conditions.{cond_of, arithmetic_of}
use Rattle.pw_compile.specs.Emitted.{statement_code, row_code, body_code}
use Rattle.pw_compile.specs.Plan.{Plan}
use Rattle.pw_compile.specs.Sizes.{size, row_size, body_size}

row_size-items : (n : Count) (row : Row_of-Statement n) → row_size row ≡ body_size (items-the_row-Statement n row)
row_size-items n end_of-Statement = refl
row_size-items n (more_of-Statement one rest) = ap (λ k. size one + k) (row_size-items _ rest)

pub row-size : (n : Count) (row : Row_of-Statement n) (branch : List Statement) → items-the_row-Statement n row ≡ branch → row_size row ≡ body_size branch
row-size n row branch is = row_size-items n row ∙ ap body_size is

pub size-If : (line : ℕ) (cond : ConditionForm) (first second : List Statement)
    → size (statements.If line cond first second) ≡ 1 + body_size first + 1 + body_size second
size-If line cond first second =
    let a = first_of (statements.If line cond first second) in
    let b = second_of (statements.If line cond first second) in
    ap (λ n. 1 + n + 1 + row_size b.1) (row-size a.0 a.1 first (items_hidden-the_row-Statement-0 first))
    ∙ ap (λ n. 1 + body_size first + 1 + n) (row-size b.0 b.1 second (items_hidden-the_row-Statement-0 second))

pub size-OnSizeError : (line : ℕ) (arithmetic : ArithmeticForm) (first second : List Statement)
    → size (statements.OnSizeError line arithmetic first second) ≡ 1 + body_size first + 1 + body_size second
size-OnSizeError line arithmetic first second =
    let a = first_of (statements.OnSizeError line arithmetic first second) in
    let b = second_of (statements.OnSizeError line arithmetic first second) in
    ap (λ n. 1 + n + 1 + row_size b.1) (row-size a.0 a.1 first (items_hidden-the_row-Statement-0 first))
    ∙ ap (λ n. 1 + body_size first + 1 + n) (row-size b.0 b.1 second (items_hidden-the_row-Statement-0 second))

module _ (plan : Plan) where
  row_code-items : (n : Count) (row : Row_of-Statement n) → row_code plan row ≡ body_code plan (items-the_row-Statement n row)
  row_code-items n end_of-Statement = refl
  row_code-items n (more_of-Statement one rest) = ap (λ xs. statement_code plan one ++ xs) (row_code-items _ rest)

  pub row-code : (n : Count) (row : Row_of-Statement n) (branch : List Statement) → items-the_row-Statement n row ≡ branch → row_code plan row ≡ body_code plan branch
  row-code n row branch is = row_code-items n row ∙ ap (body_code plan) is

  -- two branches, each behind its jump
  abbrev pub branches : (ℕ → Instr) → List Statement → List Statement → List Instr
  branches front first second =
      front (body_size first + 1) ∷ (body_code plan first ++ instr.Jump (body_size second) ∷ body_code plan second)

  both : (front : ℕ → Instr) (m n : Count) (one : Row_of-Statement m) (two : Row_of-Statement n) (first second : List Statement)
      → items-the_row-Statement m one ≡ first → items-the_row-Statement n two ≡ second
      → front (row_size one + 1) ∷ (row_code plan one ++ instr.Jump (row_size two) ∷ row_code plan two) ≡ branches front first second
  both front m n one two first second is js =
      ap (λ k. front (k + 1) ∷ (row_code plan one ++ instr.Jump (row_size two) ∷ row_code plan two)) (row-size m one first is)
      ∙ ap (λ xs. front (body_size first + 1) ∷ (xs ++ instr.Jump (row_size two) ∷ row_code plan two)) (row-code m one first is)
      ∙ ap (λ k. front (body_size first + 1) ∷ (body_code plan first ++ instr.Jump k ∷ row_code plan two)) (row-size n two second js)
      ∙ ap (λ xs. front (body_size first + 1) ∷ (body_code plan first ++ instr.Jump (body_size second) ∷ xs)) (row-code n two second js)

  pub code-If : (line : ℕ) (cond : ConditionForm) (first second : List Statement)
      → statement_code plan (statements.If line cond first second) ≡ branches (instr.JumpUnless (cond_of plan.layout cond)) first second
  code-If line cond first second =
      let a = first_of (statements.If line cond first second) in
      let b = second_of (statements.If line cond first second) in
      both (instr.JumpUnless (cond_of plan.layout cond)) a.0 b.0 a.1 b.1 first second (items_hidden-the_row-Statement-0 first) (items_hidden-the_row-Statement-0 second)

  pub code-OnSizeError : (line : ℕ) (arithmetic : ArithmeticForm) (first second : List Statement)
      → statement_code plan (statements.OnSizeError line arithmetic first second) ≡ branches (instr.OnSizeError (arithmetic_of plan.layout arithmetic)) first second
  code-OnSizeError line arithmetic first second =
      let a = first_of (statements.OnSizeError line arithmetic first second) in
      let b = second_of (statements.OnSizeError line arithmetic first second) in
      both (instr.OnSizeError (arithmetic_of plan.layout arithmetic)) a.0 b.0 a.1 b.1 first second (items_hidden-the_row-Statement-0 first) (items_hidden-the_row-Statement-0 second)

-- four pieces, one behind the other
four : (base a b c1 c2 c3 : List Instr) (i j : Instr) → c1 ≡ base ++ i ∷ [] → c2 ≡ c1 ++ a → c3 ≡ c2 ++ j ∷ [] → c3 ++ b ≡ base ++ i ∷ (a ++ j ∷ b)
four base a b c1 c2 c3 i j e1 e2 e3 =
    let all : c3 ++ b ≡ (((base ++ i ∷ []) ++ a) ++ j ∷ []) ++ b = cc in
    let flat : (((base ++ i ∷ []) ++ a) ++ j ∷ []) ++ b ≡ base ++ i ∷ (a ++ j ∷ b) = simp append_assoc in
    all ∙ flat

-- what the arm of a choice puts behind the code
pub choice : (plan : Plan) (front : ℕ → Instr) (base c1 c2 c3 : List Instr) (first second f1 f2 s1 s2 : List Statement)
    → f1 ≡ first → f2 ≡ first → s1 ≡ second → s2 ≡ second
    → c1 ≡ base ++ front (body_size f1 + 1) ∷ [] → c2 ≡ c1 ++ body_code plan f2 → c3 ≡ c2 ++ instr.Jump (body_size s1) ∷ []
    → c3 ++ body_code plan s2 ≡ base ++ branches plan front first second
choice plan front base c1 c2 c3 first second f1 f2 s1 s2 p1 p2 q1 q2 e1 e2 e3 =
    ap (λ s. c3 ++ body_code plan s) q2
    ∙ four base (body_code plan first) (body_code plan second) c1 c2 c3 (front (body_size first + 1)) (instr.Jump (body_size second))
    (e1 ∙ ap (λ f. base ++ front (body_size f + 1) ∷ []) p1)
    (e2 ∙ ap (λ f. c1 ++ body_code plan f) p2)
    (e3 ∙ ap (λ s. c2 ++ instr.Jump (body_size s) ∷ []) q1)

-- what the arm of another statement puts there
pub ended : {T E : Type 0} (plan : Plan) (base new own : List Instr) (s t : Statement) (result : Result T E)
    → OnOk result (new ≡ base ++ own) → s ≡ t → own ≡ statement_code plan t → OnOk result (new ≡ base ++ statement_code plan s)
ended plan base new own s t result ok same is =
    subst (λ xs. OnOk result (new ≡ base ++ xs)) (is ∙ ap (statement_code plan) (sym same)) ok

-- and behind another instruction
pub ended_two : {T E : Type 0} (plan : Plan) (base middle new : List Instr) (i j : Instr) (s t : Statement) (result : Result T E)
    → middle ≡ base ++ i ∷ [] → OnOk result (new ≡ middle ++ j ∷ []) → s ≡ t → i ∷ j ∷ [] ≡ statement_code plan t → OnOk result (new ≡ base ++ statement_code plan s)
ended_two plan base middle new i j s t result first ok same is =
    let flat : (base ++ i ∷ []) ++ j ∷ [] ≡ base ++ i ∷ j ∷ [] = append_assoc base (i ∷ []) (j ∷ []) in
    subst (λ xs. OnOk result (new ≡ xs)) (ap (λ xs. xs ++ j ∷ []) first ∙ flat ∙ ap (λ xs. base ++ xs) (is ∙ ap (statement_code plan) (sym same))) ok

-- one more of a list
pub map_further : {A B : Type 0} (f : A → B) (xs : List A) (i : ℕ) (item : A) (so_far next : List B) (one : B) → i < length xs → item ≡ get_or xs i item
    → so_far ≡ map f (take i xs) → next ≡ so_far ++ one ∷ [] → one ≡ f item → next ≡ map f (take (i + 1) xs)
map_further f xs i item so_far next one within is known pushed own =
    let more : take (i + 1) xs ≡ take i xs ++ item ∷ [] = take_more xs i item within ∙ ap (λ x. take i xs ++ x ∷ []) (sym is) in
    pushed ∙ ap (λ ys. ys ++ one ∷ []) known ∙ ap (λ y. map f (take i xs) ++ y ∷ []) own ∙ sym (ap (map f) more ∙ map-append f (take i xs) (item ∷ []))
