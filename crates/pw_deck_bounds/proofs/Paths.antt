-- Paths of terminals are no longer than the paces of their programs allow.
use Rattle.std.proofs.Common.{◌≡◌, ⊎_elim, ℕ, zero, suc, ◌+◌, ◌*◌, ◌-◌, ◌≤◌, Bool, true, false, max, List, [], ◌∷◌, ◌++◌, append_assoc, length, map, slice_get, if◌then◌else◌, Some, Result, Ok, Err, refl, ap, sym, subst, ◌∙◌, arith}
use Rattle.std.proofs.lemmas.List.{append-nil, length-map}
use Rattle.std.proofs.lemmas.Nat.{mul-le}
use Rattle.pw_code.specs.Entry.{EntryLineModel}
use Rattle.pw_code.specs.declared.lock.LockRule.{LockRule}
use Rattle.pw_code.specs.declared.system.TermInfo.{TermInfo}
use Rattle.pw_code.specs.declared.verb.Verb.{Verb}
use Rattle.pw_code.specs.declared.verb.Verb.TheVariants as verb
use Rattle.pw_code.specs.declared.verb.Answer.{Answer}
use Rattle.pw_onecopy.specs.Behaviour.{Behaviour}
use Rattle.pw_onecopy.specs.IsBehaviour.{Suits, SuitsFrom}
use Rattle.pw_onecopy.specs.Path.{PathAnswer, Begun, Dropped, Ended, Entry, Failed, Replied, Shown, entries_on}
use Rattle.pw_run_bounds.specs.Bound.{ProgramsEnd}
use Rattle.pw_tree_meaning.specs.OfDeck.{ask, asked_by, behaviour, number_by}
use Rattle.pw_tree_meaning.specs.Program.{DeckModel, Program, program_at, storage_size}
use Rattle.pw_tree_meaning.specs.Runs.{entry_at, most_calls, program_ended, setting_of, start, told, verb_of}
use Rattle.pw_tree_meaning.specs.Sends.{stop}
use Rattle.pw_tree_meaning.specs.State.{Asks, ProgramState, faults, most_counted}
use Rattle.pw_tree_meaning.proofs.Resolved.{below-got}
use Rattle.pw_tree_meaning.proofs.Servers.{no_files}
use Rattle.pw_tree_meaning.proofs.trees.Trees.{Here, Left, Stuck, TakesNone, Tree, Waits, play}
use Rattle.pw_deck_bounds.specs.Paces.{OpenLoop, Pace, answers_within, larger, most_answers, programs_end, requester_pace}
use Rattle.pw_deck_bounds.proofs.Programs.{called-paced, program-paced}
use Rattle.pw_deck_bounds.proofs.ServerRuns.{served-few}
use Rattle.pw_deck_bounds.proofs.Walks.{Keeps, is_accept}

-- the entries on a path with one answer more
entries-push : (path : List PathAnswer) (a : PathAnswer) → entries_on (path ++ a ∷ []) ≡ entries_on path + entries_on (a ∷ [])
entries-push [] a = omega arith
entries-push (Shown ∷ path) a = entries-push path a
entries-push (Entry k ∷ path) a = let rest = entries-push path a in omega (arith, rest)
entries-push (Begun r ∷ path) a = entries-push path a
entries-push (Replied reply ∷ path) a = entries-push path a
entries-push (Failed code ∷ path) a = entries-push path a
entries-push (Ended ∷ path) a = entries-push path a
entries-push (Dropped ∷ path) a = entries-push path a

-- a verb that takes no answer has none
none-suits : (sys : Behaviour) (t : ℕ) (before : List PathAnswer) (v : Verb) (a : PathAnswer) → TakesNone v → Suits sys t before v a → ⊥
none-suits sys t before verb.Redo a none suits = suits
none-suits sys t before verb.Stop a none suits = suits
none-suits sys t before (verb.Fault x) a none suits = suits
none-suits sys t before (verb.Reply reply) a none suits = suits
none-suits sys t before verb.Show a none suits = none
none-suits sys t before (verb.Accept screen) a none suits = none
none-suits sys t before verb.Begin a none suits = none
none-suits sys t before (verb.Send class message) a none suits = none
none-suits sys t before verb.End a none suits = none
none-suits sys t before verb.Drop a none suits = none
none-suits sys t before (verb.File call) a none suits = none

-- an Accept takes the next entry line
record TakesEntry (sys : Behaviour) (t : ℕ) (before : List PathAnswer) (a : PathAnswer) : Type 0 where
  k : ℕ
  is : a ≡ Entry k
  next : k ≡ entries_on before + 1
  there : k ≤ sys.entries t

entry-suits : (sys : Behaviour) (t : ℕ) (before : List PathAnswer) (v : Verb) (a : PathAnswer) → is_accept v ≡ true → Suits sys t before v a → TakesEntry sys t before a
entry-suits sys t before (verb.Accept screen) (Entry k) is suits = record { k = k; is = refl; next = suits.0; there = suits.1 }
entry-suits sys t before (verb.Accept screen) Shown is suits = absurd suits
entry-suits sys t before (verb.Accept screen) (Begun r) is suits = absurd suits
entry-suits sys t before (verb.Accept screen) (Replied reply) is suits = absurd suits
entry-suits sys t before (verb.Accept screen) (Failed code) is suits = absurd suits
entry-suits sys t before (verb.Accept screen) Ended is suits = absurd suits
entry-suits sys t before (verb.Accept screen) Dropped is suits = absurd suits
entry-suits sys t before verb.Show a is suits = absurd (cc is)
entry-suits sys t before verb.Begin a is suits = absurd (cc is)
entry-suits sys t before (verb.Send class message) a is suits = absurd (cc is)
entry-suits sys t before verb.End a is suits = absurd (cc is)
entry-suits sys t before verb.Drop a is suits = absurd (cc is)
entry-suits sys t before verb.Redo a is suits = absurd (cc is)
entry-suits sys t before verb.Stop a is suits = absurd (cc is)
entry-suits sys t before (verb.Fault x) a is suits = absurd (cc is)
entry-suits sys t before (verb.File call) a is suits = absurd (cc is)
entry-suits sys t before (verb.Reply reply) a is suits = absurd (cc is)

-- one entry taken, of those that are left
one-entry : (lines taken row rest own : ℕ) → taken + 1 ≤ lines → own ≤ row → rest ≤ row + (lines - (taken + 1)) * (row + 1)
    → suc rest + own ≤ row + (lines - taken) * (row + 1)
one-entry lines taken row rest own there low few =
    let one : lines - taken ≡ suc (lines - (taken + 1)) = omega (arith, there) in
    let more : (lines - taken) * (row + 1) ≡ (lines - (taken + 1)) * (row + 1) + (row + 1) = rw one (omega arith) in
    omega (arith, more, low, few)

module _ (rule : LockRule) (deck : DeckModel) (t : ℕ) (terminal : TermInfo) (there : slice_get deck.terminals t ≡ Some terminal) (p : Pace) where
  abbrev sys : Behaviour
  sys = behaviour rule deck

  abbrev lines : List EntryLineModel
  lines = terminal.entries

  -- the program goes on from these answers by the tree, for so many more
  abbrev GoesBy : Tree → List PathAnswer → ℕ → Type 0
  GoesBy tree before k =
      (rest : List PathAnswer) → length rest ≤ k
      → ask deck t (before ++ rest) ≡ verb_of (program_ended (setting_of deck terminal.program) (play tree (map (told lines) rest) no_files))

  -- the end of the program takes no answer
  end-takes-none : (s : ProgramState) → TakesNone (verb_of (stop (setting_of deck terminal.program) s))
  end-takes-none s = by s.in_unit
    where
      by : (inside : Bool) → TakesNone (verb_of (if inside then faults 207 s else Asks verb.Stop s))
      by true = tt
      by false = tt

  -- what is asked next
  asked-next : (tree : Tree) (before : List PathAnswer) (k : ℕ) → GoesBy tree before k
      → ask deck t before ≡ verb_of (program_ended (setting_of deck terminal.program) (play tree [] no_files))
  asked-next tree before k goes = ap (ask deck t) (sym (append-nil before)) ∙ goes [] (omega arith)

  -- where it takes no answer, none comes
  ends-here : (before : List PathAnswer) (a : PathAnswer) (v : Verb) → ask deck t before ≡ v → TakesNone v → Suits sys t before (sys.ask t before) a → ⊥
  ends-here before a v asks none suits = none-suits sys t before v a none (subst (λ (x : Verb). Suits sys t before x a) asks suits)

  -- one answer more
  goes-on : (v : Verb) (s : ProgramState) (next : Answer → Tree) (before : List PathAnswer) (a : PathAnswer) (k j : ℕ) → j + 1 ≤ k → GoesBy (Waits v s next) before k
      → GoesBy (next (told lines a)) (before ++ a ∷ []) j
  goes-on v s next before a k j low goes rest short = ap (ask deck t) (append_assoc before (a ∷ []) rest) ∙ goes (a ∷ rest) (omega (arith, short, low))

  -- no more answers come than the row and the entries that are left allow
  few : (tree : Tree) (taken : ℕ) (entered : Bool) → Keeps p taken entered tree → taken ≤ p.row → (before rest : List PathAnswer) (k : ℕ) → GoesBy tree before k → length rest ≤ k
      → SuitsFrom sys t before rest → length rest + taken ≤ p.row + (length lines - entries_on before) * (p.row + 1)
  few tree taken entered keeps low before [] k goes short suits = omega (arith, low)
  few (Here s) taken entered keeps low before (a ∷ rest) k goes short suits =
      absurd (ends-here before a _ (asked-next (Here s) before k goes) (end-takes-none _) suits.0)
  few (Left s) taken entered keeps low before (a ∷ rest) k goes short suits =
      absurd (ends-here before a _ (asked-next (Left s) before k goes) (end-takes-none _) suits.0)
  few (Stuck v s) taken entered keeps low before (a ∷ rest) k goes short suits =
      absurd (ends-here before a v (asked-next (Stuck v s) before k goes) keeps suits.0)
  few (Waits v s next) taken entered keeps low before (a ∷ rest) k goes short suits =
      ⊎_elim
      (λ entry.
      let takes = entry-suits sys t before v a entry.0 (subst (λ (x : Verb). Suits sys t before x a) (asked-next (Waits v s next) before k goes) suits.0) in
      let is = takes.is in
      let there_is : sys.entries t ≡ length lines = ap (number_by (λ one. length one.entries)) there in
      let count : entries_on (before ++ a ∷ []) ≡ entries_on before + 1 = entries-push before a ∙ ap (λ (x : PathAnswer). entries_on before + entries_on (x ∷ [])) is in
      let keeps_next : Keeps p 0 true (next (told lines a)) = subst (λ (x : PathAnswer). Keeps p 0 true (next (told lines x))) (sym is) (entry.1 (entry_at lines takes.k)) in
      let tail = few (next (told lines a)) 0 true keeps_next (omega arith) (before ++ a ∷ []) rest (length rest) (goes-on v s next before a k (length rest) (omega (arith, short)) goes) (omega arith) suits.1 in
      let fewer : length rest ≤ p.row + (length lines - (entries_on before + 1)) * (p.row + 1) =
      subst (λ (e : ℕ). length rest ≤ p.row + (length lines - e) * (p.row + 1)) count (omega (arith, tail)) in
      let k_there = takes.there in
      let k_next = takes.next in
      one-entry (length lines) (entries_on before) p.row (length rest) taken (omega (arith, k_there, k_next, there_is)) low fewer)
      (λ other.
      let room = other.0 in
      let count = entries-push before a in
      let tail = few (next (told lines a)) (taken + 1) entered (other.1 (told lines a)) (omega (arith, room)) (before ++ a ∷ []) rest (length rest)
      (goes-on v s next before a k (length rest) (omega (arith, short)) goes) (omega arith) suits.1 in
      let fewer = mul-le (length lines - entries_on (before ++ a ∷ [])) (p.row + 1) (length lines - entries_on before) (p.row + 1) (omega (arith, count)) (let same : p.row + 1 ≤ p.row + 1 = omega arith in same) in
      omega (arith, tail, fewer))
      keeps

  -- so no path is longer than this
  pub few-answers : requester_pace deck terminal.program ≡ Ok p → (path : List PathAnswer) → SuitsFrom sys t [] path → length path ≤ answers_within p (length lines)
  few-answers is path suits =
      let q : ℕ = terminal.program in
      let program : Program = program_at deck.programs q in
      let used : ℕ = storage_size program in
      let walk = program-paced (length path) deck q most_calls used (λ own a told_pace given. called-paced (length path) deck most_calls used own a told_pace given) p is (start program []) in
      let goes : GoesBy walk.tree [] (length path) =
      λ rest low. ap (λ o. asked_by deck o rest) there
      ∙ ap (λ o. verb_of (program_ended (setting_of deck q) o)) (walk.plays (map (told lines) rest) no_files (subst (λ (k : ℕ). k ≤ length path) (sym (length-map rest (told lines))) low)) in
      let all = few walk.tree 0 false walk.keeps (omega arith) [] path (length path) goes (omega arith) suits in
      let none : length lines - 0 ≡ length lines = omega arith in
      let same : (length lines - 0) * (p.row + 1) ≡ length lines * (p.row + 1) = ap (λ (k : ℕ). k * (p.row + 1)) none in
      omega (arith, all, same)

-- the bound of a deck is one of each terminal
record Bounded (deck : DeckModel) (terminal : TermInfo) (n : ℕ) : Type 0 where
  pace : Pace
  told : requester_pace deck terminal.program ≡ Ok pace
  low : answers_within pace (length terminal.entries) ≤ n

record Larger (entries : ℕ) (x : Result Pace OpenLoop) (y : Result ℕ OpenLoop) (n : ℕ) : Type 0 where
  pace : Pace
  told : x ≡ Ok pace
  most : ℕ
  rest : y ≡ Ok most
  is : max (answers_within pace entries) most ≡ n

larger-is : (entries : ℕ) (x : Result Pace OpenLoop) (y : Result ℕ OpenLoop) (n : ℕ) → larger entries x y ≡ Ok n → Larger entries x y n
larger-is entries (Err loop) y n is = absurd (cc is)
larger-is entries (Ok a) (Err loop) n is = absurd (cc is)
larger-is entries (Ok a) (Ok most) n is = record { pace = a; told = refl; most = most; rest = refl; is = cc is }

bounded : (deck : DeckModel) (terminals : List TermInfo) (n t : ℕ) (terminal : TermInfo) → most_answers deck terminals ≡ Ok n → slice_get terminals t ≡ Some terminal → Bounded deck terminal n
bounded deck [] n t terminal is there = absurd (cc there)
bounded deck (first ∷ terminals) n zero terminal is there =
    let all = larger-is (length first.entries) (requester_pace deck first.program) (most_answers deck terminals) n is in
    let most = all.is in
    subst (λ (one : TermInfo). Bounded deck one n) (let same : first ≡ terminal = cc there in same) (record { pace = all.pace; told = all.told; low = omega (arith, most) })
bounded deck (first ∷ terminals) n (suc t) terminal is there =
    let all = larger-is (length first.entries) (requester_pace deck first.program) (most_answers deck terminals) n is in
    let one = bounded deck terminals all.most t terminal all.rest there in
    let most = all.is in
    let low = one.low in
    record { pace = one.pace; told = one.told; low = omega (arith, most, low) }

-- where the test tells a number, the programs end
pub tested-end : (rule : LockRule) (deck : DeckModel) (n : ℕ) → programs_end deck ≡ Ok n → ProgramsEnd (behaviour rule deck) n most_counted
tested-end rule deck n is = record {
  paths = λ t path path_is.
      let one = below-got deck.terminals t path_is.known in
      let bound = bounded deck deck.terminals n t one.0 is one.1 in
      let low = bound.low in
      let few = few-answers rule deck t one.0 one.1 bound.pace bound.told path path_is.suits in
      omega (arith, low, few);
  servers = λ c message done call there served asks. served-few rule deck c message done call served asks;
}
