-- How a run goes on from a moment, whatever it is answered: a tree of what it asks.
use Rattle.std.specs.Prelude.{◌≡◌, ℕ, ◌<◌, ◌≤◌, Bool, true, false, List, [], ◌∷◌, length}
use Rattle.pw_code.specs.declared.verb.Verb.{Verb}
use Rattle.pw_code.specs.declared.verb.Verb.TheVariants as verb
use Rattle.pw_code.specs.declared.verb.Answer.{Answer}
use Rattle.pw_code.specs.declared.verb.Answer.TheVariants as answer
use Rattle.pw_onecopy.specs.Operation.{answer_of, records_behind}
use Rattle.pw_onecopy.specs.Path.{FileResult}
use Rattle.pw_onecopy.specs.Update.{upd}
use Rattle.pw_tree_meaning.specs.Program.{DeckModel, key_length}
use Rattle.pw_tree_meaning.specs.Store.{Store, Spot, put_at}
use Rattle.pw_tree_meaning.specs.State.{ProgramState, Out, Goes, Leaves, Asks, most_counted}

-- The run is here, or has left its program, or asks what takes no answer, or asks and goes on by each answer.
pub data Tree : Type 0 where
  Here : (s : ProgramState) → Tree
  Left : (s : ProgramState) → Tree
  Stuck : (verb : Verb) (s : ProgramState) → Tree
  Waits : (verb : Verb) (s : ProgramState) (next : Answer → Tree) → Tree

-- the files of a server run by itself
abbrev pub Files : Type 0
Files = ℕ → List (List ℕ)

-- the state with these answers to come and these files
abbrev pub at : List Answer → Files → ProgramState → ProgramState
at answers files s = record s { answers = answers; files = files }

-- ---- a tree with the answers of a list

abbrev pub waited : Verb → ProgramState → (Answer → List Answer → Out) → List Answer → Files → Out
waited v s next [] files = Asks v (at [] files s)
waited v s next (a ∷ answers) files = next a answers

abbrev pub play : Tree → List Answer → Files → Out
play (Here s) answers files = Goes (at answers files s)
play (Left s) answers files = Leaves (at answers files s)
play (Stuck v s) answers files = Asks v (at answers files s)
play (Waits v s next) answers files = waited v s (λ a rest. play (next a) rest files) answers files

-- ---- a tree on files

abbrev pub on_files : DeckModel → Verb → ProgramState → (Answer → Files → Out) → Files → Out
on_files deck (verb.File call) s next files =
    let n = key_length deck call.file in
    let records = files call.file in
    let found : FileResult = answer_of n records call.op call in
    next (answer.FileDone found.status found.content) (upd files call.file (records_behind n records call))
on_files deck v s next files = Asks v (at [] files s)

abbrev pub play_alone : DeckModel → Tree → Files → Out
play_alone deck (Here s) files = Goes (at [] files s)
play_alone deck (Left s) files = Leaves (at [] files s)
play_alone deck (Stuck v s) files = Asks v (at [] files s)
play_alone deck (Waits v s next) files = on_files deck v s (λ a rest. play_alone deck (next a) rest) files

-- ---- what holds of a tree

-- Of which runs something is said: the deck, the most answers, whether runs by themselves are spoken of, what holds of
-- each store, and of each verb that is asked.
pub record Rules : Type 1 where
  pub deck : DeckModel
  pub most : ℕ
  pub Alone : Type 0
  pub Fits : Store → Type 0
  pub Right : Verb → Type 0
  pub right_fault : (x : ℕ) → Right (verb.Fault x)
  pub kept : (spot : Spot) (chars : List ℕ) (store : Store) → Fits store → Fits (put_at spot chars store)

-- the verb comes at its place: Begin and Stop outside transactions, End, Drop and Redo inside
abbrev pub InPlace : Bool → Verb → Type 0
InPlace inside verb.Begin = inside ≡ false
InPlace inside verb.Stop = inside ≡ false
InPlace inside verb.End = inside ≡ true
InPlace inside verb.Drop = inside ≡ true
InPlace inside verb.Redo = inside ≡ true
InPlace inside _ = Unit {0}

-- the verb takes no answer
abbrev pub TakesNone : Verb → Type 0
TakesNone verb.Redo = Unit {0}
TakesNone verb.Stop = Unit {0}
TakesNone (verb.Fault x) = Unit {0}
TakesNone (verb.Reply reply) = Unit {0}
TakesNone _ = ⊥

abbrev pub IsFileVerb : Verb → Type 0
IsFileVerb (verb.File call) = Unit {0}
IsFileVerb _ = ⊥

-- whether a transaction is open behind an answer
abbrev pub inside_after : Verb → Answer → Bool → Bool
inside_after verb.Begin (answer.Begun r) inside = true
inside_after verb.End a inside = false
inside_after verb.Drop a inside = false
inside_after _ a inside = inside

-- the least count behind an answer
abbrev pub count_after : Verb → ProgramState → ℕ
count_after (verb.File call) s = s.count
count_after _ s = 0

-- an operation on files is asked where more was counted
abbrev pub Counts : ℕ → Verb → ProgramState → Type 0
Counts count (verb.File call) s = (count < s.count) × (s.count ≤ most_counted)
Counts count _ s = Unit {0}

-- the tree asks this verb and takes no answer
abbrev pub EndsIn : Verb → Tree → Type 0
EndsIn v (Stuck own s) = own ≡ v
EndsIn v _ = ⊥

-- behind a SEND, a server's run fault is the program's
abbrev pub FailsIn : Verb → (Answer → Tree) → Type 0
FailsIn (verb.Send class message) next = (x : ℕ) → EndsIn (verb.Fault x) (next (answer.Failed x))
FailsIn _ next = Unit {0}

-- a state that has counted at least so many, in a transaction or not, and whose store fits
pub record IsAt (r : Rules) (count : ℕ) (inside : Bool) (s : ProgramState) : Type 0 where
  pub counted : count ≤ s.count
  pub in_place : s.in_unit ≡ inside
  pub fits : r.Fits s.store

abbrev pub Obeys : Rules → ℕ → Bool → Tree → Type 0
Obeys r count inside (Here s) = IsAt r count inside s
Obeys r count inside (Left s) = IsAt r count inside s
Obeys r count inside (Stuck v s) = InPlace inside v × r.Right v × TakesNone v
Obeys r count inside (Waits v s next) =
    InPlace inside v × r.Right v × FailsIn v next × Counts count v s
    × ((a : Answer) → Obeys r (count_after v s) (inside_after v a inside) (next a))

-- What a run does from a moment is a tree: with any answers, and by itself on any files.
pub record Found (r : Rules) (count : ℕ) (inside : Bool) (run : List Answer → Files → Out) (alone : Files → Out) : Type 0 where
  pub tree : Tree
  pub obeys : Obeys r count inside tree
  pub plays : (answers : List Answer) (files : Files) → length answers ≤ r.most → run answers files ≡ play tree answers files
  pub serves : r.Alone → (files : Files) → alone files ≡ play_alone r.deck tree files

-- what a step does from each moment, and the same step by itself; an operation on files is asked only behind a count
abbrev pub Behaves : Rules → (ProgramState → Out) → (ProgramState → Out) → Type 0
Behaves r f g =
    (s : ProgramState) → r.Fits s.store
    → Found r s.count s.in_unit (λ answers files. f (at answers files s)) (λ files. g (at [] files s))

-- the same of a step that comes right behind its count
abbrev pub Steps : Rules → (ProgramState → Out) → (ProgramState → Out) → Type 0
Steps r f g =
    (s : ProgramState) → r.Fits s.store → (count : ℕ) → count < s.count → s.count ≤ most_counted
    → Found r count s.in_unit (λ answers files. f (at answers files s)) (λ files. g (at [] files s))
