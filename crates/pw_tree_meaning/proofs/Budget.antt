-- The budget of PERFORM UNTIL is never used up.
use Rattle.std.proofs.Common.{◌≡◌, ℕ, ◌+◌, ◌*◌, ◌≤◌, Bool, true, false, List, [], length, sym, ◌∙◌, arith}
use Rattle.pw_words.specs.Words.{Word}
use Rattle.pw_forms.specs.declared.operand.Operand.{Operand}
use Rattle.pw_forms.specs.declared.cond.ConditionForm.{ConditionForm}
use Rattle.pw_tree_meaning.specs.Program.{Program, DeckModel, program_at, first_screen}
use Rattle.pw_tree_meaning.specs.State.{ProgramState, Out, faults, most_counted}
use Rattle.pw_tree_meaning.specs.Conditions.{holds}
use Rattle.pw_tree_meaning.specs.Performs.{turns_until, budget, call_program}
use Rattle.pw_tree_meaning.specs.Runs.{performed, setting_of, server_setting, called}
use Rattle.pw_tree_meaning.proofs.trees.Trees.{Rules, Behaves}
use Rattle.pw_tree_meaning.proofs.trees.Taken.{holds-at}
use Rattle.pw_tree_meaning.proofs.trees.Loops.{until}
use Rattle.pw_tree_meaning.proofs.trees.Forms.{own, by_itself}
use Rattle.pw_tree_meaning.proofs.trees.Programs.{performed-behaves, called-behaves, calls-behave, no-calls}
use Rattle.pw_tree_meaning.proofs.trees.Suited.{each-fine}

-- of runs with at most so many answers
abbrev any_rules : DeckModel → ℕ → Rules
any_rules deck most = record {
  deck = deck;
  most = most;
  Alone = ⊥;
  Fits = λ store. Unit {0};
  Right = λ v. Unit {0};
  right_fault = λ x. tt;
  kept = λ spot chars store fits. tt;
}

module _ (deck : DeckModel) (program : Program) (first : ℕ) (is_server : Bool) (message : List ℕ) (s : ProgramState) where
  abbrev r : Rules
  r = any_rules deck (length s.answers)

  enough : (call : ℕ → List (List ℕ) → ProgramState → Out)
      → ((name : Word) (arguments : List Operand) → Behaves r (call_program (own r program first is_server message) call name arguments)
      (call_program (by_itself r program first is_server message) call name arguments))
      → (d more : ℕ) (name : Word) (cond : ConditionForm) → budget s ≤ more
      → turns_until more (λ t. holds program t cond) (performed d (own r program first is_server message) call name) s
      ≡ turns_until (budget s) (λ t. holds program t cond) (performed d (own r program first is_server message) call name) s
  enough call calls d more name cond le =
      let u = until r (performed d (own r program first is_server message) call name) (performed d (by_itself r program first is_server message) call name)
      (λ t. holds program t cond) (λ t. holds program t cond)
      (λ t answers files. holds-at program answers files t cond) (λ t files. holds-at program [] files t cond)
      (performed-behaves r program first is_server message (each-fine r (λ v. tt) program first is_server message program.paragraphs) call call calls d name)
      (most_counted + most_counted * length s.answers) s tt in
      u.plays more s.answers s.files (omega arith) (omega arith) le
      ∙ sym (u.plays (budget s) s.answers s.files (omega arith) (omega arith) (omega arith))

pub enough-requester : (deck : DeckModel) (q d n used more : ℕ) (name : Word) (cond : ConditionForm) (s : ProgramState) → budget s ≤ more
    → turns_until more (λ t. holds (program_at deck.programs q) t cond) (performed d (setting_of deck q) (called n deck used) name) s
    ≡ turns_until (budget s) (λ t. holds (program_at deck.programs q) t cond) (performed d (setting_of deck q) (called n deck used) name) s
enough-requester deck q d n used more name cond s le =
    let rules = any_rules deck (length s.answers) in
    let all : (p : ℕ) → _ = λ p. each-fine rules (λ v. tt) (program_at deck.programs p) (first_screen deck.programs p) false [] (program_at deck.programs p).paragraphs in
    enough deck (program_at deck.programs q) (first_screen deck.programs q) false [] s (called n deck used)
    (calls-behave rules (λ none. none) (λ store. tt) (program_at deck.programs q) (first_screen deck.programs q) false [] (called n deck used) (called n deck used)
    (called-behaves rules (λ none. none) (λ store. tt) all n used)) d more name cond le

pub enough-server : (deck : DeckModel) (q d more : ℕ) (message : List ℕ) (name : Word) (cond : ConditionForm) (s : ProgramState) → budget s ≤ more
    → turns_until more (λ t. holds (program_at deck.servers q) t cond) (performed d (server_setting deck q message false) (λ p given t. faults 202 t) name) s
    ≡ turns_until (budget s) (λ t. holds (program_at deck.servers q) t cond) (performed d (server_setting deck q message false) (λ p given t. faults 202 t) name) s
enough-server deck q d more message name cond s le =
    enough deck (program_at deck.servers q) 0 true message s (λ p given t. faults 202 t)
    (no-calls (any_rules deck (length s.answers)) (program_at deck.servers q) 0 true message) d more name cond le
