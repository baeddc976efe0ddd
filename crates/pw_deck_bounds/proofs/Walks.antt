-- How a requester goes on from a moment, as a tree of what it asks, with rows of answers that are no entries.
use Rattle.std.proofs.Common.{◌≡◌, ◌⊎◌, inl, inr, ⊎_elim, ℕ, ◌+◌, ◌-◌, ◌<◌, ◌≤◌, Bool, true, false, ◌||◌, List, [], ◌∷◌, length, if◌then◌else◌, Option, Some, None, refl, ap, ◌∙◌, arith}
use Rattle.std.specs.Prelude.{nat_lt}
use Rattle.pw_code.specs.Entry.{EntryLineModel}
use Rattle.pw_code.specs.declared.verb.Verb.{Verb}
use Rattle.pw_code.specs.declared.verb.Verb.TheVariants as verb
use Rattle.pw_code.specs.declared.verb.Answer.{Answer}
use Rattle.pw_code.specs.declared.verb.Answer.TheVariants as answer
use Rattle.pw_forms.specs.declared.operand.Operand.{Operand}
use Rattle.pw_tree_meaning.specs.Operands.{ResolvedOperand, operand_taken, taken_all, with_operand, with_operands, with_taken}
use Rattle.pw_tree_meaning.specs.Program.{Program}
use Rattle.pw_tree_meaning.specs.State.{Asks, Goes, Leaves, Out, ProgramState, asked, faults, most_counted, statement_counted, then_do}
use Rattle.pw_tree_meaning.proofs.trees.Taken.{taken-at, taken_all-at}
use Rattle.pw_tree_meaning.proofs.trees.Trees.{Files, Here, Left, Stuck, TakesNone, Tree, Waits, at, play}
use Rattle.pw_deck_bounds.specs.Paces.{Pace, asking, followed, silent}

-- the verb takes an entry
abbrev pub is_accept : Verb → Bool
is_accept (verb.Accept number) = true
is_accept _ = false

-- Along the tree no row of answers that are no entries is longer than the pace says; so many were taken in the row that goes on,
-- and perhaps an entry before it.
abbrev pub Keeps : Pace → ℕ → Bool → Tree → Type 0
Keeps pace taken entered (Here s) = pace.enters ≡ true → entered ≡ true
Keeps pace taken entered (Left s) = Unit {0}
Keeps pace taken entered (Stuck v s) = TakesNone v
Keeps pace taken entered (Waits v s next) =
    ((is_accept v ≡ true) × ((line : EntryLineModel) → Keeps pace 0 true (next (answer.Entry line))))
    ⊎ ((taken < pace.row) × ((a : Answer) → Keeps pace (taken + 1) entered (next a)))

-- a run with so many answers is a tree that keeps the pace
pub record Walks (most : ℕ) (pace : Pace) (run : List Answer → Files → Out) : Type 0 where
  pub tree : Tree
  pub keeps : Keeps pace 0 false tree
  pub plays : (answers : List Answer) (files : Files) → length answers ≤ most → run answers files ≡ play tree answers files

-- the same of a step from each moment
abbrev pub Paced : ℕ → Pace → (ProgramState → Out) → Type 0
Paced most pace f = (s : ProgramState) → Walks most pace (λ answers files. f (at answers files s))

-- ---- more of a row

-- so many were taken before, and perhaps an entry
pub behind : (first pace joined : Pace) (taken now : ℕ) (entered before : Bool) (t : Tree) → joined.row ≡ first.row + pace.row → now ≤ taken + first.row
    → (entered ≡ true → before ≡ true) → (joined.enters ≡ true → (before ≡ true) ⊎ (pace.enters ≡ true)) → Keeps pace taken entered t → Keeps joined now before t
behind first pace joined taken now entered before (Here s) rows few more enters keeps =
    λ is. ⊎_elim (λ done. done) (λ own. more (keeps own)) (enters is)
behind first pace joined taken now entered before (Left s) rows few more enters keeps = tt
behind first pace joined taken now entered before (Stuck v s) rows few more enters keeps = keeps
behind first pace joined taken now entered before (Waits v s next) rows few more enters keeps =
    ⊎_elim
    (λ entry. inl (entry.0, λ line. behind first pace joined 0 0 true true (next (answer.Entry line)) rows (omega arith) (λ is. is) (λ is. inl refl) (entry.1 line)))
    (λ other.
    let room = other.0 in
    inr (
      let low : now < joined.row = omega (arith, rows, few, room) in low,
      λ a. behind first pace joined (taken + 1) (now + 1) entered before (next a) rows (omega (arith, few)) more enters (other.1 a),
    ))
    keeps

-- a slower pace
pub slower : (pace other : Pace) (taken : ℕ) (entered : Bool) (t : Tree) → pace.row ≤ other.row → (other.enters ≡ true → pace.enters ≡ true)
    → Keeps pace taken entered t → Keeps other taken entered t
slower pace other taken entered t low enters keeps =
    behind (record { row = other.row - pace.row; enters = false }) pace other taken taken entered entered t (omega (arith, low)) (omega arith) (λ is. is) (λ is. inr (enters is)) keeps

-- ---- what follows a tree

-- the tree with another one where control comes behind it
abbrev pub grafted : (ProgramState → Tree) → Tree → Tree
grafted next (Here s) = next s
grafted next (Left s) = Left s
grafted next (Stuck v s) = Stuck v s
grafted next (Waits v s on) = Waits v s (λ a. grafted next (on a))

module _ (most : ℕ) (next : ProgramState → Out) (trees : ProgramState → Tree)
    (plays : (s : ProgramState) (answers : List Answer) (files : Files) → length answers ≤ most → next (at answers files s) ≡ play (trees s) answers files) where
  waited-grafted : (v : Verb) (s : ProgramState) (on : Answer → Tree)
      → ((a : Answer) (answers : List Answer) (files : Files) → length answers ≤ most → then_do (play (on a) answers files) next ≡ play (grafted trees (on a)) answers files)
      → (answers : List Answer) (files : Files) → length answers ≤ most
      → then_do (play (Waits v s on) answers files) next ≡ play (Waits v s (λ a. grafted trees (on a))) answers files
  waited-grafted v s on same [] files low = refl
  waited-grafted v s on same (a ∷ answers) files low = same a answers files (omega (arith, low))

  pub plays-grafted : (t : Tree) (answers : List Answer) (files : Files) → length answers ≤ most
      → then_do (play t answers files) next ≡ play (grafted trees t) answers files
  plays-grafted (Here s) answers files low = plays s answers files low
  plays-grafted (Left s) answers files low = refl
  plays-grafted (Stuck v s) answers files low = refl
  plays-grafted (Waits v s on) answers files low = waited-grafted v s on (λ a. plays-grafted (on a)) answers files low

-- one after the other
keeps-grafted : (first pace : Pace) (trees : ProgramState → Tree) → ((s : ProgramState) → Keeps pace 0 false (trees s))
    → (t : Tree) (taken : ℕ) (entered : Bool) → taken ≤ first.row → Keeps first taken entered t → Keeps (followed first pace) taken entered (grafted trees t)
keeps-grafted first pace trees others (Here s) taken entered low keeps =
    behind first pace (followed first pace) 0 taken false entered (trees s) refl (omega (arith, low)) (λ is. absurd (cc is)) (λ is. by first.enters is keeps) (others s)
  where
    by : (b : Bool) → (b || pace.enters) ≡ true → (b ≡ true → entered ≡ true) → (entered ≡ true) ⊎ (pace.enters ≡ true)
    by true is own = inl (own refl)
    by false is own = inr is
keeps-grafted first pace trees others (Left s) taken entered low keeps = tt
keeps-grafted first pace trees others (Stuck v s) taken entered low keeps = keeps
keeps-grafted first pace trees others (Waits v s on) taken entered low keeps =
    ⊎_elim
    (λ entry. inl (entry.0, λ line. keeps-grafted first pace trees others (on (answer.Entry line)) 0 true (omega arith) (entry.1 line)))
    (λ other.
    let room = other.0 in
    inr (let more : taken < first.row + pace.row = omega (arith, room) in more, λ a. keeps-grafted first pace trees others (on a) (taken + 1) entered (omega (arith, room)) (other.1 a)))
    keeps

-- ---- runs that are put together

module _ (most : ℕ) where
  -- control comes behind it
  pub walks-here : (s : ProgramState) → Walks most silent (λ answers files. Goes (at answers files s))
  walks-here s = record { tree = Here s; keeps = λ is. absurd (cc is); plays = λ answers files low. refl }

  -- the program is left
  pub walks-left : (pace : Pace) (s : ProgramState) → Walks most pace (λ answers files. Leaves (at answers files s))
  walks-left pace s = record { tree = Left s; keeps = tt; plays = λ answers files low. refl }

  -- it asks what takes no answer
  pub walks-stuck : (pace : Pace) (v : Verb) (s : ProgramState) → TakesNone v → Walks most pace (λ answers files. Asks v (at answers files s))
  walks-stuck pace v s none = record { tree = Stuck v s; keeps = none; plays = λ answers files low. refl }

  pub walks-fault : (pace : Pace) (x : ℕ) (s : ProgramState) → Walks most pace (λ answers files. faults x (at answers files s))
  walks-fault pace x s = walks-stuck pace (verb.Fault x) s tt

  -- the same at a slower pace
  pub walks-slower : (pace other : Pace) (run : List Answer → Files → Out) → pace.row ≤ other.row → (other.enters ≡ true → pace.enters ≡ true)
      → Walks most pace run → Walks most other run
  walks-slower pace other run low enters w = record { tree = w.tree; keeps = slower pace other 0 false w.tree low enters w.keeps; plays = w.plays }

  -- the same in other words
  pub walks-same : (pace : Pace) (run other : List Answer → Files → Out) → Walks most pace run
      → ((answers : List Answer) (files : Files) → length answers ≤ most → other answers files ≡ run answers files) → Walks most pace other
  walks-same pace run other w same = record { tree = w.tree; keeps = w.keeps; plays = λ answers files low. same answers files low ∙ w.plays answers files low }

  -- by a test
  pub walks-by : (pace : Pace) (test : Bool) (run other : List Answer → Files → Out) → Walks most pace run → Walks most pace other
      → Walks most pace (λ answers files. if test then run answers files else other answers files)
  walks-by pace true run other w v = w
  walks-by pace false run other w v = v

  -- one step after the other
  pub paced-then : (first pace : Pace) (f next : ProgramState → Out) → Paced most first f → Paced most pace next
      → Paced most (followed first pace) (λ s. then_do (f s) next)
  paced-then first pace f next w v s =
      let one = w s in
      record {
        tree = grafted (λ u. (v u).tree) one.tree;
        keeps = keeps-grafted first pace (λ u. (v u).tree) (λ u. (v u).keeps) one.tree 0 false (omega arith) one.keeps;
        plays = λ answers files low. ap (λ o. then_do o next) (one.plays answers files low)
            ∙ plays-grafted most next (λ u. (v u).tree) (λ u. (v u).plays) one.tree answers files low;
      }

  -- a statement that is counted
  pub paced-counted : (pace : Pace) (f : ProgramState → Out) → Paced most pace f → Paced most pace (statement_counted f)
  paced-counted pace f w s =
      walks-by pace (nat_lt s.count most_counted) (λ answers files. f (at answers files (record s { count = s.count + 1 }))) (λ answers files. faults 201 (at answers files s))
      (w (record s { count = s.count + 1 })) (walks-fault pace 201 s)

  -- with operands
  pub walks-taken : {A : Type 0} (pace : Pace) (s : ProgramState) (o : Option A) (run : List Answer → Files → A → Out)
      → ((x : A) → Walks most pace (λ answers files. run answers files x)) → Walks most pace (λ answers files. with_taken o (at answers files s) (run answers files))
  walks-taken pace s None run w = walks-fault pace 203 s
  walks-taken pace s (Some x) run w = w x

  pub walks-operand : (pace : Pace) (program : Program) (s : ProgramState) (operand : Operand) (run : List Answer → Files → ResolvedOperand → Out)
      → ((x : ResolvedOperand) → operand_taken program s operand ≡ Some x → Walks most pace (λ answers files. run answers files x))
      → Walks most pace (λ answers files. with_operand program operand (at answers files s) (run answers files))
  walks-operand pace program s operand run w =
      walks-same pace _ _ (by (operand_taken program s operand) refl)
      (λ answers files low. ap (λ o. with_taken o (at answers files s) (run answers files)) (taken-at program answers files s operand))
    where
      by : (o : Option ResolvedOperand) → operand_taken program s operand ≡ o → Walks most pace (λ answers files. with_taken o (at answers files s) (run answers files))
      by None is = walks-fault pace 203 s
      by (Some x) is = w x is

  pub walks-operands : (pace : Pace) (program : Program) (s : ProgramState) (operands : List Operand) (run : List Answer → Files → List ResolvedOperand → Out)
      → ((xs : List ResolvedOperand) → Walks most pace (λ answers files. run answers files xs))
      → Walks most pace (λ answers files. with_operands program operands (at answers files s) (run answers files))
  walks-operands pace program s operands run w =
      walks-same pace _ _ (walks-taken pace s (taken_all program s operands) run w)
      (λ answers files low. ap (λ o. with_taken o (at answers files s) (run answers files)) (taken_all-at program answers files s operands))

  -- a verb that takes one answer
  pub walks-asks : (v : Verb) (s : ProgramState) (next : Answer → ProgramState → Out)
      → ((a : Answer) → Walks most silent (λ answers files. next a (at answers files (record s { count = 0 }))))
      → Walks most asking (λ answers files. asked v next answers (at answers files s))
  walks-asks v s next w = record {
    tree = Waits v s (λ a. (w a).tree);
    keeps = inr (
      let one : 0 < 1 = omega arith in one,
      λ a. behind asking silent asking 0 1 false false (w a).tree refl (omega arith) (λ is. is) (λ is. absurd (cc is)) (w a).keeps,
    );
    plays = by;
  }
    where
      by : (answers : List Answer) (files : Files) → length answers ≤ most
          → asked v next answers (at answers files s) ≡ play (Waits v s (λ a. (w a).tree)) answers files
      by [] files low = refl
      by (a ∷ answers) files low = (w a).plays answers files (omega (arith, low))
