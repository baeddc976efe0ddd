-- What programs do is a tree: their paragraphs, their calls, their end.
use Rattle.std.proofs.Common.{◌≡◌, ℕ, zero, suc, ◌+◌, Bool, true, false, List, [], ◌∷◌, map, find, if◌then◌else◌, Option, Some, refl, arith}
use Rattle.std.specs.Prelude.{nat_lt}
use Rattle.pw_words.specs.Words.{Word}
use Rattle.pw_forms.specs.declared.operand.Operand.{Operand}
use Rattle.pw_forms.specs.declared.statement.Paragraph.{Paragraph}
use Rattle.pw_code.specs.Limits.{most_active}
use Rattle.pw_code.specs.declared.verb.Verb.TheVariants as verb
use Rattle.pw_code.specs.declared.verb.Answer.{Answer}
use Rattle.pw_tree_meaning.specs.Program.{Program, program_at, program_number, body_by, body_named, first_screen, storage_size}
use Rattle.pw_tree_meaning.specs.Store.{Store, initial_store}
use Rattle.pw_tree_meaning.specs.State.{ProgramState, Out, Goes, faults}
use Rattle.pw_tree_meaning.specs.Operands.{spot_in}
use Rattle.pw_tree_meaning.specs.Performs.{call_program, caller_state, comes_back, chars_of_all, parameter_spots, put_all}
use Rattle.pw_tree_meaning.specs.Sends.{stop}
use Rattle.pw_tree_meaning.specs.Statements.{body}
use Rattle.pw_tree_meaning.specs.Runs.{performed, most_performs, flow, program_run, setting_of, called, program_ended}
use Rattle.pw_tree_meaning.proofs.trees.Trees.{Files, at, Rules, Found, Behaves}
use Rattle.pw_tree_meaning.proofs.trees.Found.{found-same, found-by, found-here, found-fault, IsAt-own, then-behaves}
use Rattle.pw_tree_meaning.proofs.trees.Taken.{found-operands}
use Rattle.pw_tree_meaning.proofs.trees.Forms.{own, by_itself, stop-found}
use Rattle.pw_tree_meaning.proofs.trees.Finished.{comes_back-finished, ended-finished, closed, finished-found}
use Rattle.pw_tree_meaning.proofs.trees.Statements.{SuitedBody, body-behaves}

-- what other runs by themselves do, where of them nothing is said
pub found-any : (r : Rules) (count : ℕ) (inside : Bool) (run : List Answer → Files → Out) (alone other : Files → Out)
    → Found r count inside run alone → (r.Alone → ⊥) → Found r count inside run other
found-any r count inside run alone other f none = record { tree = f.tree; obeys = f.obeys; plays = f.plays; serves = λ is files. absurd (none is) }

module _ (r : Rules) (program : Program) (first : ℕ) (is_server : Bool) (message : List ℕ) where
  -- each statement of each paragraph is right
  abbrev pub SuitedAll : List Paragraph → Type 0
  SuitedAll [] = Unit {0}
  SuitedAll (paragraph ∷ rest) = SuitedBody r program first is_server message paragraph.body × SuitedAll rest

  abbrev suited-by : (test : Bool) (paragraph : Paragraph) (other : Option Paragraph)
      → SuitedBody r program first is_server message paragraph.body → SuitedBody r program first is_server message (body_by other)
      → SuitedBody r program first is_server message (body_by (if test then Some paragraph else other))
  suited-by true paragraph other fit rest = fit
  suited-by false paragraph other fit rest = rest

  suited-found : (test : Paragraph → Bool) (paragraphs : List Paragraph) → SuitedAll paragraphs
      → SuitedBody r program first is_server message (body_by (find test paragraphs))
  suited-found test [] fit = tt
  suited-found test (paragraph ∷ rest) fit = suited-by (test paragraph) paragraph (find test rest) fit.0 (suited-found test rest fit.1)

  module _ (all : SuitedAll program.paragraphs)
      (call call' : ℕ → List (List ℕ) → ProgramState → Out)
      (calls : (name : Word) (arguments : List Operand)
      → Behaves r (call_program (own r program first is_server message) call name arguments) (call_program (by_itself r program first is_server message) call' name arguments)) where
    pub performed-behaves : (d : ℕ) (name : Word)
        → Behaves r (performed d (own r program first is_server message) call name) (performed d (by_itself r program first is_server message) call' name)
    performed-behaves zero name s ok = found-fault r s.count s.in_unit 202 s
    performed-behaves (suc d) name s ok =
        body-behaves r program first is_server message
        (performed d (own r program first is_server message) call) (performed d (by_itself r program first is_server message) call')
        (performed-behaves d) call call' calls (body_named program name) (suited-found _ program.paragraphs all) s ok

    flow-behaves : (paragraphs : List Paragraph) → SuitedAll paragraphs
        → Behaves r (flow (own r program first is_server message) (performed most_performs (own r program first is_server message) call) call paragraphs)
        (flow (by_itself r program first is_server message) (performed most_performs (by_itself r program first is_server message) call') call' paragraphs)
    flow-behaves [] fit = λ s ok. found-here r s.count s.in_unit s (IsAt-own r s ok)
    flow-behaves (paragraph ∷ rest) fit =
        then-behaves r
        (body (own r program first is_server message) (performed most_performs (own r program first is_server message) call) call paragraph.body)
        (body (by_itself r program first is_server message) (performed most_performs (by_itself r program first is_server message) call') call' paragraph.body)
        (flow (own r program first is_server message) (performed most_performs (own r program first is_server message) call) call rest)
        (flow (by_itself r program first is_server message) (performed most_performs (by_itself r program first is_server message) call') call' rest)
        (body-behaves r program first is_server message
        (performed most_performs (own r program first is_server message) call) (performed most_performs (by_itself r program first is_server message) call')
        (performed-behaves most_performs) call call' calls paragraph.body fit.0)
        (flow-behaves rest fit.1)

    pub program-behaves : Behaves r (program_run (own r program first is_server message) call) (program_run (by_itself r program first is_server message) call')
    program-behaves = flow-behaves program.paragraphs all

  -- the end of a program that no other has called
  pub ended-found : (is_server ≡ false → r.Right verb.Stop) → (count : ℕ) (inside : Bool) (run : List Answer → Files → Out) (alone : Files → Out)
      → Found r count inside run alone
      → Found (closed r) count inside
      (λ answers files. program_ended (own r program first is_server message) (run answers files)) (λ files. program_ended (by_itself r program first is_server message) (alone files))
  ended-found right count inside run alone f =
      found-same (closed r) count inside _ _ _ _
      (finished-found r (λ store. ⊥) (λ spot chars store no. no) (stop (own r program first is_server message)) (stop (by_itself r program first is_server message))
      (λ s ok. stop-found (closed r) program first is_server message right s) count inside run alone f)
      (λ answers files. ended-finished (own r program first is_server message) (run answers files))
      (λ files. ended-finished (by_itself r program first is_server message) (alone files))

-- ---- CALL

-- a server has none
pub no-calls : (r : Rules) (program : Program) (first : ℕ) (is_server : Bool) (message : List ℕ) (name : Word) (arguments : List Operand)
    → Behaves r (call_program (own r program first is_server message) (λ q given t. faults 202 t) name arguments)
    (call_program (by_itself r program first is_server message) (λ q given t. faults 202 t) name arguments)
no-calls r program first is_server message name arguments s ok =
    found-operands r s.count s.in_unit program s arguments _ _ (λ found e. found-fault r s.count s.in_unit 202 s)

-- Of requesters nothing is said by themselves, and nothing of their stores.
module _ (r : Rules) (none : r.Alone → ⊥) (any : (store : Store) → r.Fits store) where
  pub calls-behave : (program : Program) (first : ℕ) (is_server : Bool) (message : List ℕ) (call call' : ℕ → List (List ℕ) → ProgramState → Out)
      → ((q : ℕ) (arguments : List (List ℕ)) → Behaves r (call q arguments) (call q arguments))
      → (name : Word) (arguments : List Operand)
      → Behaves r (call_program (own r program first is_server message) call name arguments) (call_program (by_itself r program first is_server message) call' name arguments)
  calls-behave program first is_server message call call' h name arguments s ok =
      found-any r s.count s.in_unit _ _ _
      (found-operands r s.count s.in_unit program s arguments _
      (λ files found. comes_back (program_at r.deck.programs (program_number r.deck name)) (map spot_in found) s.store
      (call (program_number r.deck name) (chars_of_all (map spot_in found) s.store) (at [] files s)))
      (λ found e.
      let callee = program_at r.deck.programs (program_number r.deck name) in
      let places = map spot_in found in
      found-same r s.count s.in_unit _ _ _ _
      (finished-found r r.Fits r.kept (λ t. Goes (caller_state callee places s.store t)) (λ t. Goes (caller_state callee places s.store t))
      (λ t fits. found-here r t.count t.in_unit (caller_state callee places s.store t) (record { counted = omega arith; in_place = refl; fits = any _ }))
      s.count s.in_unit _ _ (h (program_number r.deck name) (chars_of_all places s.store) s ok))
      (λ answers files. comes_back-finished callee places s.store _)
      (λ files. comes_back-finished callee places s.store _)))
      none

  module _ (all : (q : ℕ) → SuitedAll r (program_at r.deck.programs q) (first_screen r.deck.programs q) false [] (program_at r.deck.programs q).paragraphs) where
    pub called-behaves : (n used q : ℕ) (arguments : List (List ℕ)) → Behaves r (called n r.deck used q arguments) (called n r.deck used q arguments)
    called-behaves zero used q arguments s ok = found-fault r s.count s.in_unit 202 s
    called-behaves (suc n) used q arguments s ok =
        let callee = program_at r.deck.programs q in
        let active = used + storage_size callee in
        let begun = record s { store = put_all (parameter_spots callee) arguments (initial_store callee) } in
        found-by r s.count s.in_unit (nat_lt most_active active) _ _ _ _
        (found-fault r s.count s.in_unit 208 s)
        (found-any r s.count s.in_unit _ _ _
        (program-behaves r callee (first_screen r.deck.programs q) false [] (all q) (called n r.deck active) (called n r.deck active)
        (calls-behave callee (first_screen r.deck.programs q) false [] (called n r.deck active) (called n r.deck active) (called-behaves n active))
        begun (any _))
        none)

    -- a requester from its start
    pub requester-found : (q n : ℕ) (s : ProgramState) → r.Right verb.Stop
        → Found (closed r) s.count s.in_unit
        (λ answers files. program_ended (setting_of r.deck q) (program_run (setting_of r.deck q) (called n r.deck (storage_size (program_at r.deck.programs q))) (at answers files s)))
        (λ files. Goes s)
    requester-found q n s right =
        let program = program_at r.deck.programs q in
        let first = first_screen r.deck.programs q in
        let call = called n r.deck (storage_size program) in
        found-any (closed r) s.count s.in_unit _ _ _
        (ended-found r program first false [] (λ e. right) s.count s.in_unit _ _
        (program-behaves r program first false [] (all q) call call
        (calls-behave program first false [] call call (called-behaves n (storage_size program))) s (any _)))
        none
