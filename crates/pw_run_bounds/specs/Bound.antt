-- How long a run may be.
use Rattle.std.specs.Prelude.{◌≡◌, ℕ, zero, suc, ◌+◌, ◌*◌, ◌<◌, ◌≤◌, List, [], ◌∷◌, ◌++◌, length}
use Rattle.pw_code.specs.declared.file.FileCall.{FileCall}
use Rattle.pw_code.specs.declared.verb.Verb.TheVariants as verb
use Rattle.pw_onecopy.specs.Behaviour.{Behaviour}
use Rattle.pw_onecopy.specs.IsBehaviour.{IsPath}
use Rattle.pw_onecopy.specs.Path.{PathAnswer, FileResult}

-- each of these answers is one to an operation that the server asks, where its run goes on from the
-- answers before
abbrev pub IsServedFrom : Behaviour → ℕ → List ℕ → List FileResult → List FileResult → Type 0
IsServedFrom sys c message before [] = Unit {0}
IsServedFrom sys c message before (answer ∷ done) =
    ((call : FileCall) × (sys.ops c message before ≡ verb.File call))
    × IsServedFrom sys c message (before ++ answer ∷ []) done

-- no path of a terminal has more than n answers, and no server's run more than m operations
pub record ProgramsEnd (sys : Behaviour) (n m : ℕ) : Type 0 where
  pub paths : (t : ℕ) (path : List PathAnswer) → IsPath sys t path → length path ≤ n
  pub servers : (c : ℕ) (message : List ℕ) (done : List FileResult) (call : FileCall)
      → c < sys.classes → IsServedFrom sys c message [] done
      → sys.ops c message done ≡ verb.File call → length done < m

-- What a terminal enters for one answer, at most: CHECK START, APPLIED, BEGIN, SEND, TAKE, FILE for
-- each operation, and REPLY.
abbrev pub answer_entries : ℕ → ℕ
answer_entries m = m + 6

-- What it enters without a restart or a failure, at most: the entries of each answer, and behind
-- the last one those of another that does not come and of one more checkpoint.
abbrev pub stretch : ℕ → ℕ → ℕ
stretch n m = (n + 1) * answer_entries m + 1

-- What it enters without a failure, at most: a stretch for each attempt of each unit, of which it
-- has no more than answers, and one stretch more; each with a RESTART or the END behind it.
abbrev pub terminal_entries : ℕ → ℕ → ℕ → ℕ
terminal_entries n m restarts = (n * (restarts + 1) + 1) * (stretch n m + 1)

-- what a failure brings along, at most: its own entry, a TAKEOVER, a RAISE and, of each terminal, a
-- stretch
abbrev pub failure_entries : ℕ → ℕ → ℕ → ℕ
failure_entries terminals n m = terminals * stretch n m + 3

-- the sum of the first n numbers of a function, from that of 0 on
abbrev pub sum_below : ℕ → (ℕ → ℕ) → ℕ
sum_below zero f = 0
sum_below (suc n) f = sum_below n f + f n

-- The entries of a run, at most: those of its terminals, a RAISE of each pair, and what each failure
-- line brings along.
abbrev pub run_bound : Behaviour → ℕ → ℕ → ℕ
run_bound sys n m =
    sum_below sys.terminals (λ t. terminal_entries n m (sys.max_restarts t))
    + sys.pairs
    + length sys.script * failure_entries sys.terminals n m
