-- Where a server's run by itself ends: what holds of the state in which it goes on, or of its reply and the files then.
use Rattle.std.proofs.Common.{◌≡◌, ℕ, ◌+◌, Bool, true, false, List, if◌then◌else◌, nat_lt, Option, Some, sym, subst}
use Rattle.pw_code.specs.declared.verb.Verb.{Verb}
use Rattle.pw_code.specs.declared.verb.Verb.TheVariants as verb
use Rattle.pw_program_laws.specs.Known.{RecordsByFile}
use Rattle.pw_tree_meaning.specs.Operands.{with_taken}
use Rattle.pw_tree_meaning.specs.State.{ProgramState, Out, Goes, Leaves, Asks, faults, most_counted, statement_counted, then_do}

module _ (replies : List ℕ → RecordsByFile → Type 0) where
  -- what is asked is no reply, or one that is as it should be
  abbrev pub AsksWell : Verb → ProgramState → Type 0
  AsksWell (verb.Reply reply) s = replies reply s.files
  AsksWell _ s = Unit {0}

  abbrev pub EndsWell : (ProgramState → Type 0) → Out → Type 0
  EndsWell goes (Goes s) = goes s
  EndsWell goes (Leaves s) = Unit {0}
  EndsWell goes (Asks v s) = AsksWell v s

  pub then-well : (between goes : ProgramState → Type 0) (out : Out) (next : ProgramState → Out) → EndsWell between out
      → ((s : ProgramState) → between s → EndsWell goes (next s)) → EndsWell goes (then_do out next)
  then-well between goes (Goes s) next now rest = rest s now
  then-well between goes (Leaves s) next now rest = tt
  then-well between goes (Asks v s) next now rest = now

  counted-by : (b : Bool) (goes : ProgramState → Type 0) (out : Out) (s : ProgramState) → EndsWell goes out → EndsWell goes (if b then out else faults 201 s)
  counted-by true goes out s now = now
  counted-by false goes out s now = tt

  pub counted-well : (goes : ProgramState → Type 0) (next : ProgramState → Out) (s : ProgramState) → EndsWell goes (next (record s { count = s.count + 1 }))
      → EndsWell goes (statement_counted next s)
  counted-well goes next s now = counted-by (nat_lt s.count most_counted) goes (next (record s { count = s.count + 1 })) s now

  pub taken-well : {A : Type 0} (goes : ProgramState → Type 0) (o : Option A) (x : A) (s : ProgramState) (next : A → Out) → o ≡ Some x
      → EndsWell goes (next x) → EndsWell goes (with_taken o s next)
  taken-well {A} goes o x s next is now = let P : Option A → Type 0 = λ o. EndsWell goes (with_taken o s next) in subst P (sym is) now
