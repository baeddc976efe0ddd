-- Turns of a paragraph: a loop whose every turn takes an entry, or no other answer, has rows of two turns at most.
use Rattle.std.proofs.Common.{◌≡◌, ◌⊎◌, inl, inr, ⊎_elim, ℕ, zero, suc, ◌+◌, ◌*◌, ◌<◌, ◌≤◌, Bool, true, false, List, length, Option, Some, None, refl, ap, ◌∙◌, arith}
use Rattle.pw_code.specs.declared.verb.Verb.TheVariants as verb
use Rattle.pw_code.specs.declared.verb.Answer.{Answer}
use Rattle.pw_code.specs.declared.verb.Answer.TheVariants as answer
use Rattle.pw_tree_meaning.specs.Performs.{tested, turns, turns_until}
use Rattle.pw_tree_meaning.specs.State.{Goes, Out, ProgramState, faults, statement_counted, then_do}
use Rattle.pw_tree_meaning.proofs.trees.Trees.{Files, Here, Left, Stuck, Tree, Waits, at, play}
use Rattle.pw_deck_bounds.specs.Paces.{Pace, followed, silent}
use Rattle.pw_deck_bounds.proofs.Walks.{Keeps, Paced, Walks, grafted, paced-counted, paced-then, plays-grafted, walks-here, walks-slower}

-- the pace of a loop: rows of two turns
abbrev pub looped : Pace → Pace
looped a = record { row = a.row + a.row; enters = false }

-- each turn takes an entry, or nothing but entries
abbrev pub IsHeld : Pace → Type 0
IsHeld a = (a.enters ≡ true) ⊎ (a.row ≡ 0)

-- a run with so many answers behind any turn is a tree that keeps the pace of the loop
pub record Loops (most : ℕ) (a : Pace) (run : List Answer → Files → Out) : Type 0 where
  pub tree : Tree
  pub keeps : (taken : ℕ) (entered : Bool) → taken ≤ a.row → Keeps (looped a) taken entered tree
  pub plays : (answers : List Answer) (files : Files) → length answers ≤ most → run answers files ≡ play tree answers files

-- the turn that is under way, behind another one
keeps-looped : (a : Pace) → IsHeld a → (trees : ProgramState → Tree) → ((s : ProgramState) (taken : ℕ) (entered : Bool) → taken ≤ a.row → Keeps (looped a) taken entered (trees s))
    → (t : Tree) (own now : ℕ) (own_entered entered : Bool) → own ≤ a.row → now ≤ own + a.row → (own_entered ≡ true → now ≤ own) → Keeps a own own_entered t
    → Keeps (looped a) now entered (grafted trees t)
keeps-looped a held trees others (Here s) own now own_entered entered low few same keeps =
    others s now entered (⊎_elim (λ enters. let le = same (keeps enters) in omega (arith, le, low)) (λ none. omega (arith, none, few, low)) held)
keeps-looped a held trees others (Left s) own now own_entered entered low few same keeps = tt
keeps-looped a held trees others (Stuck v s) own now own_entered entered low few same keeps = keeps
keeps-looped a held trees others (Waits v s on) own now own_entered entered low few same keeps =
    ⊎_elim
    (λ entry. inl (entry.0, λ line. keeps-looped a held trees others (on (answer.Entry line)) 0 0 true true (omega arith) (omega arith) (λ is. let none : 0 ≤ 0 = omega arith in none) (entry.1 line)))
    (λ other.
    let room = other.0 in
    inr (
      let more : now < a.row + a.row = omega (arith, room, few) in more,
      λ x. keeps-looped a held trees others (on x) (own + 1) (now + 1) own_entered entered (omega (arith, room)) (omega (arith, few)) (λ is. let le = same is in omega (arith, le)) (other.1 x),
    ))
    keeps

module _ (most : ℕ) (a : Pace) (held : IsHeld a) (turn : ProgramState → Out) (paced : Paced most a turn) where
  -- control comes behind the loop
  loops-here : (s : ProgramState) → Loops most a (λ answers files. Goes (at answers files s))
  loops-here s = record { tree = Here s; keeps = λ taken entered low is. absurd (cc is); plays = λ answers files low. refl }

  loops-fault : (x : ℕ) (s : ProgramState) → Loops most a (λ answers files. faults x (at answers files s))
  loops-fault x s = record { tree = Stuck (verb.Fault x) s; keeps = λ taken entered low. tt; plays = λ answers files low. refl }

  -- one turn more
  loops-then : (next : ProgramState → Out) → ((s : ProgramState) → Loops most a (λ answers files. next (at answers files s)))
      → (s : ProgramState) → Loops most a (λ answers files. then_do (statement_counted turn (at answers files s)) next)
  loops-then next w s =
      let one = paced-counted most a turn paced s in
      record {
        tree = grafted (λ u. (w u).tree) one.tree;
        keeps = λ taken entered low. keeps-looped a held (λ u. (w u).tree) (λ u. (w u).keeps) one.tree 0 taken false entered (omega arith) (omega (arith, low)) (λ is. absurd (cc is)) one.keeps;
        plays = λ answers files low. ap (λ o. then_do o next) (one.plays answers files low)
            ∙ plays-grafted most next (λ u. (w u).tree) (λ u. (w u).plays) one.tree answers files low;
      }

  -- so many turns
  turns-loop : (k : ℕ) (s : ProgramState) → Loops most a (λ answers files. turns k turn (at answers files s))
  turns-loop zero s = loops-here s
  turns-loop (suc k) s = loops-then (turns k turn) (turns-loop k) s

  module _ (done : ProgramState → Option Bool) (same : (s : ProgramState) (answers : List Answer) (files : Files) → done (at answers files s) ≡ done s) where
    -- by what the test says
    loops-tested : (o : Option Bool) (s : ProgramState) (next : ProgramState → Out) → Loops most a (λ answers files. next (at answers files s))
        → Loops most a (λ answers files. tested o next (at answers files s))
    loops-tested None s next w = loops-fault 203 s
    loops-tested (Some true) s next w = loops-here s
    loops-tested (Some false) s next w = w

    loops-same : (s : ProgramState) (next : ProgramState → Out) → Loops most a (λ answers files. next (at answers files s))
        → Loops most a (λ answers files. tested (done (at answers files s)) next (at answers files s))
    loops-same s next w =
        let one = loops-tested (done s) s next w in
        record {
          tree = one.tree;
          keeps = one.keeps;
          plays = λ answers files low. ap (λ o. tested o next (at answers files s)) (same s answers files) ∙ one.plays answers files low;
        }

    -- turns until a condition holds
    until-loop : (k : ℕ) (s : ProgramState) → Loops most a (λ answers files. turns_until k done turn (at answers files s))
    until-loop zero s = loops-same s (faults 201) (loops-fault 201 s)
    until-loop (suc k) s = loops-same s (λ t. then_do (statement_counted turn t) (turns_until k done turn)) (loops-then (turns_until k done turn) (until-loop k) s)

  walks-of : (run : List Answer → Files → Out) → Loops most a run → Walks most (looped a) run
  walks-of run w = record { tree = w.tree; keeps = w.keeps 0 false (omega arith); plays = w.plays }

  -- so many turns of a held loop
  pub paced-turns : (k : ℕ) → Paced most (looped a) (turns k turn)
  paced-turns k s = walks-of _ (turns-loop k s)

  -- turns of a held loop until a condition holds
  pub paced-until : (done : ProgramState → Option Bool) → ((s : ProgramState) (answers : List Answer) (files : Files) → done (at answers files s) ≡ done s)
      → (k : ℕ) → Paced most (looped a) (turns_until k done turn)
  paced-until done same k s = walks-of _ (until-loop done same k s)

-- so many turns, whatever they take
pub paced-counted-turns : (most : ℕ) (a : Pace) (turn : ProgramState → Out) → Paced most a turn → (k : ℕ)
    → Paced most (record { row = k * a.row; enters = false }) (turns k turn)
paced-counted-turns most a turn paced zero s =
    walks-slower most silent (record { row = 0 * a.row; enters = false }) _ (omega arith) (λ is. absurd (cc is)) (walks-here most s)
paced-counted-turns most a turn paced (suc k) s =
    walks-slower most (followed a (record { row = k * a.row; enters = false })) (record { row = suc k * a.row; enters = false }) _
    (let all : suc k * a.row ≡ k * a.row + a.row = omega arith in omega (arith, all)) (λ is. absurd (cc is))
    (paced-then most a (record { row = k * a.row; enters = false }) (statement_counted turn) (turns k turn) (paced-counted most a turn paced) (paced-counted-turns most a turn paced k) s)
