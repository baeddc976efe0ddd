-- Runs of a requester from a moment, and what follows them.
use Rattle.std.proofs.Common.{◌≡◌, ℕ, ◌+◌, Bool, true, false, List, [], ◌∷◌, if◌then◌else◌, Option, Some, refl, sym, ap, arith}
use Rattle.std.specs.Prelude.{nat_lt}
use Rattle.pw_code.specs.Entry.{EntryLineModel}
use Rattle.pw_code.specs.declared.verb.Answer.{Answer}
use Rattle.pw_code.specs.declared.verb.Verb.{Verb}
use Rattle.pw_invariants.specs.Requests.{RepliedRequest}
use Rattle.pw_onecopy.specs.Path.{PathAnswer}
use Rattle.pw_program_laws.proofs.Texts.{dealt-sized, moves-sized, moves-texts, put_at-texts}
use Rattle.pw_program_laws.specs.Known.{IsKnownAt}
use Rattle.pw_program_laws.specs.Texts.{with_moves, with_text}
use Rattle.pw_program_laws.proofs.requests.Follows.{Answers, Commits, Follows, Safe, answered, follows-none, follows-same, open_after, sent_after}
use Rattle.pw_program_laws.specs.Requests.{RequesterMoment, as_known}
use Rattle.pw_tree_meaning.specs.Moves.{moves}
use Rattle.pw_tree_meaning.specs.Operands.{ResolvedOperand, with_taken}
use Rattle.pw_tree_meaning.specs.Runs.{told, verb_of}
use Rattle.pw_tree_meaning.specs.State.{ProgramState, Out, Goes, Leaves, Asks, asks, faults, most_counted, statement_counted, then_do}
use Rattle.pw_tree_meaning.specs.Store.{Spot, put_at}

pub taken-is : {A : Type 0} (o : Option A) (x : A) (t : ProgramState) (next : A → Out) → o ≡ Some x → with_taken o t next ≡ next x
taken-is o x t next is = ap (λ o. with_taken o t next) is

then-assoc : (out : Out) (f g : ProgramState → Out) → then_do (then_do out f) g ≡ then_do out (λ t. then_do (f t) g)
then-assoc (Goes s) f g = refl
then-assoc (Leaves s) f g = refl
then-assoc (Asks v s) f g = refl

-- a state that a moment is known of
pub record Stands (sizes : List ℕ) (k : RequesterMoment) (s : ProgramState) : Type 0 where
  pub known : IsKnownAt sizes (as_known k) s
  pub in_unit : s.in_unit ≡ k.inside

module _ (sizes : List ℕ) (k : RequesterMoment) (s : ProgramState) (stands : Stands sizes k s) where
  pub stands-counted : (count : ℕ) → Stands sizes k (record s { count = count })
  stands-counted count = record {
    known = record { texts = stands.known.texts; sized = stands.known.sized; registers = stands.known.registers; files = stands.known.files };
    in_unit = stands.in_unit;
  }

  -- whatever the answers to come
  pub stands-answered : (lines : List EntryLineModel) (rest : List PathAnswer) → IsKnownAt sizes (as_known k) (answered lines rest s)
  stands-answered lines rest =
      record { texts = stands.known.texts; sized = stands.known.sized; registers = stands.known.registers; files = stands.known.files }

  pub stands-shown : (count : ℕ) (screen : List ℕ) → Stands sizes k (record s { count = count; screen = screen })
  stands-shown count screen = record {
    known = record { texts = stands.known.texts; sized = stands.known.sized; registers = stands.known.registers; files = stands.known.files };
    in_unit = stands.in_unit;
  }

  pub stands-put : (spot : Spot) (chars : List ℕ) → Stands sizes (record k { texts = with_text spot chars sizes k.texts }) (record s { store = put_at spot chars s.store })
  stands-put spot chars = record {
    known = record {
      texts = put_at-texts spot chars sizes s.store k.texts stands.known.texts stands.known.sized;
      sized = dealt-sized spot chars 0 sizes k.texts stands.known.sized;
      registers = stands.known.registers;
      files = stands.known.files;
    };
    in_unit = stands.in_unit;
  }

  pub stands-moves : (source : ResolvedOperand) (spots : List Spot)
      → Stands sizes (record k { texts = with_moves source spots sizes k.texts }) (record s { store = moves source spots s.store })
  stands-moves source spots = record {
    known = record {
      texts = moves-texts source spots sizes s.store k.texts stands.known.texts stands.known.sized;
      sized = moves-sized source spots sizes k.texts stands.known.sized;
      registers = stands.known.registers;
      files = stands.known.files;
    };
    in_unit = stands.in_unit;
  }

module _ (sizes : List ℕ) (holds : List RepliedRequest → Type 0) (lines : List EntryLineModel) (most : ℕ) where
  -- from a moment: the run is as it should be where what follows it is, from each moment at which it goes on
  abbrev pub Runs : (ProgramState → Out) → (RequesterMoment → Type 0) → RequesterMoment → Type 0
  Runs f next k =
      (s : ProgramState) → Stands sizes k s → (cont : ProgramState → Out)
      → ((after : RequesterMoment) → next after → (t : ProgramState) → Stands sizes after t → Safe holds lines most after.inside after.sent t cont)
      → Safe holds lines most k.inside k.sent s (λ t. then_do (f t) cont)

  -- the same run in other words
  pub safe-same : (inside : Bool) (sent : List RepliedRequest) (s : ProgramState) (f g : ProgramState → Out)
      → ((rest : List PathAnswer) → f (answered lines rest s) ≡ g (answered lines rest s))
      → Safe holds lines most inside sent s f → Safe holds lines most inside sent s g
  safe-same inside sent s f g same safe path le =
      follows-same holds inside sent (λ rest. f (answered lines rest s)) (λ rest. g (answered lines rest s)) path (λ rest short. same rest) (safe path le)

  -- the run of another state that comes to the same
  pub safe-moved : (inside : Bool) (sent : List RepliedRequest) (s t : ProgramState) (f g : ProgramState → Out)
      → ((rest : List PathAnswer) → f (answered lines rest s) ≡ g (answered lines rest t))
      → Safe holds lines most inside sent t g → Safe holds lines most inside sent s f
  safe-moved inside sent s t f g same safe path le =
      follows-same holds inside sent (λ rest. g (answered lines rest t)) (λ rest. f (answered lines rest s)) path (λ rest short. sym (same rest)) (safe path le)

  -- a step that asks nothing
  pub goes-on : (inside : Bool) (sent : List RepliedRequest) (f : ProgramState → Out) (s t : ProgramState) (cont : ProgramState → Out)
      → ((rest : List PathAnswer) → f (answered lines rest s) ≡ Goes (answered lines rest t))
      → Safe holds lines most inside sent t cont → Safe holds lines most inside sent s (λ u. then_do (f u) cont)
  goes-on inside sent f s t cont same safe path le =
      follows-same holds inside sent (λ rest. cont (answered lines rest t)) (λ rest. then_do (f (answered lines rest s)) cont) path
      (λ rest short. sym (ap (λ out. then_do out cont) (same rest))) (safe path le)

  -- a verb that takes no answer
  pub stuck : (inside : Bool) (sent : List RepliedRequest) (s : ProgramState) (run : ProgramState → Out)
      → ((a : PathAnswer) → Answers (verb_of (run (answered lines [] s))) a → ⊥) → Safe holds lines most inside sent s run
  stuck inside sent s run none path le = follows-none holds inside sent (λ rest. run (answered lines rest s)) path none

  -- a verb that is answered
  pub asks-safe : (inside : Bool) (sent : List RepliedRequest) (v : Verb) (next : Answer → ProgramState → Out) (s : ProgramState) (cont : ProgramState → Out)
      → ((a : PathAnswer) → Answers v a
      → Commits holds v a inside sent
      × Safe holds lines most (open_after a inside) (sent_after a v inside sent) (record s { count = 0 }) (λ u. then_do (next (told lines a) u) cont))
      → Safe holds lines most inside sent s (λ u. then_do (asks v next u) cont)
  asks-safe inside sent v next s cont each [] le = tt
  asks-safe inside sent v next s cont each (a ∷ path) le = λ fits. ((each a fits).0, (each a fits).1 path (omega (arith, le)))

  -- one run behind another
  pub then-runs : (f g : ProgramState → Out) (between next : RequesterMoment → Type 0) (k : RequesterMoment) → Runs f between k
      → ((after : RequesterMoment) → between after → Runs g next after) → Runs (λ t. then_do (f t) g) next k
  then-runs f g between next k one other s stands cont safe =
      safe-same k.inside k.sent s (λ t. then_do (f t) (λ u. then_do (g u) cont)) (λ t. then_do (then_do (f t) g) cont)
      (λ rest. sym (then-assoc (f (answered lines rest s)) g cont))
      (one s stands (λ u. then_do (g u) cont) (λ after now t at. other after now t at cont safe))

  counted-by : (b : Bool) (inside : Bool) (sent : List RepliedRequest) (s : ProgramState) (run : List PathAnswer → Out) (cont : ProgramState → Out) (path : List PathAnswer)
      → Follows holds inside sent (λ rest. then_do (run rest) cont) path
      → Follows holds inside sent (λ rest. then_do (if b then run rest else faults 201 (answered lines rest s)) cont) path
  counted-by true inside sent s run cont path now = now
  counted-by false inside sent s run cont path now = follows-none holds inside sent (λ rest. then_do (faults 201 (answered lines rest s)) cont) path (λ a fits. fits)

  -- behind the count
  pub counted-runs : (f : ProgramState → Out) (next : RequesterMoment → Type 0) (k : RequesterMoment) → Runs f next k → Runs (statement_counted f) next k
  counted-runs f next k run s stands cont safe path le =
      counted-by (nat_lt s.count most_counted) k.inside k.sent s (λ rest. f (answered lines rest (record s { count = s.count + 1 }))) cont path
      (run (record s { count = s.count + 1 }) (stands-counted sizes k s stands (s.count + 1)) cont safe path le)

  -- where it goes on at once
  pub here-runs : (next : RequesterMoment → Type 0) (k : RequesterMoment) → next k → Runs Goes next k
  here-runs next k now s stands cont safe = safe k now s stands
