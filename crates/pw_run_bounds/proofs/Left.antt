-- What a terminal may still enter until it restarts, ends or something fails: it falls with each of its entries.
use Rattle.std.proofs.Common.{◌≡◌, ℕ, ◌+◌, ◌*◌, ◌-◌, ◌≤◌, Bool, true, false, not, ◌&&◌, ◌||◌, is_none, List, [], ◌∷◌, ◌++◌, length, suc, Option, Some, None, arith}
use Rattle.std.proofs.lemmas.Nat.{mul-le}
use Rattle.pw_event.specs.declared.event.Ending.{Ending}
use Rattle.pw_laws.proofs.induction.Views.{View, path_in, verb_in}
use Rattle.pw_laws.proofs.requests.Requests.{Place, Nowhere, InLine, AtWork}
use Rattle.pw_laws.proofs.restarts.Counting.{weight}
use Rattle.pw_laws.specs.legal.Terminals.{holds_end, holds_start}
use Rattle.pw_laws.specs.legal.Verbs.{begins_unit}
use Rattle.pw_onecopy.specs.Behaviour.{Behaviour}
use Rattle.pw_onecopy.specs.Path.{PathAnswer, unit_number}
use Rattle.pw_paired.specs.Raising.{with_message}
use Rattle.pw_paired.specs.State.{Alone, BackupCopy, Down, Gone, Message, PairMode, Paired, Raising}
use Rattle.pw_paired.specs.Terminal.{closing_answer}
use Rattle.pw_paired.specs.Units.{attempt_of, restarts_of}
use Rattle.pw_run_bounds.specs.Bound.{stretch}

-- of a copy to the backup
abbrev pub copying : Option Message → Option BackupCopy → ℕ
copying (Some message) memory = 1
copying None None = 2
copying None (Some held) = 0

-- the backup lacks the path at which a unit begins
abbrev pub lacks_start : Option BackupCopy → List PathAnswer → Bool → Bool
lacks_start memory path false = false
lacks_start memory path true = not (holds_start memory (unit_number path) path)

-- the backup lacks the path behind the answer that closes a transaction
abbrev pub lacks_end : Option BackupCopy → List PathAnswer → Option PathAnswer → Bool
lacks_end memory path None = false
lacks_end memory path (Some answer) = not (holds_end memory (path ++ answer ∷ []))

-- a checkpoint is wanted at the next verb, whatever is in flight
abbrev pub is_wanted : Behaviour → ℕ → View → Bool
is_wanted sys t v =
    lacks_start (with_message v.flight v.memory) (path_in v) (is_none (attempt_of v.unit) && begins_unit (verb_in sys t v) (path_in v))
    || lacks_end (with_message v.flight v.memory) (path_in v) (closing_answer (verb_in sys t v))

-- of checkpoints
abbrev pub checks : Behaviour → ℕ → View → ℕ
checks sys t v = copying v.flight v.memory + 2 * weight (is_wanted sys t v)

-- of its request
abbrev pub asking : ℕ → Place → ℕ
asking m Nowhere = m + 2
asking m (InLine c request) = m + 1
asking m (AtWork c i job) = m - length job.done

-- of answers, of the attempt that it may begin, and of its request
abbrev pub working : ℕ → ℕ → View → Place → ℕ
working n m v place = (n - length (path_in v)) * (m + 6) + (weight (is_none (attempt_of v.unit)) + asking m place)

-- by the mode of its pair: of this stretch, this work and these checkpoints
abbrev pub by_mode : ℕ → ℕ → ℕ → PairMode → ℕ
by_mode most work checkpoints Alone = work + 4
by_mode most work checkpoints Raising = work + checkpoints
by_mode most work checkpoints Paired = work + checkpoints
by_mode most work checkpoints Down = most
by_mode most work checkpoints Gone = 0

-- all that
abbrev pub ahead : Behaviour → ℕ → ℕ → ℕ → View → Place → ℕ
ahead sys n m t v place = by_mode (stretch n m) (working n m v place) (checks sys t v) v.mode

-- how many attempts it may still make
abbrev pub attempts : ℕ → ℕ → View → ℕ
attempts n restarts v = (n - v.last.number) * (restarts + 1) - restarts_of v.unit

-- none where it has ended
abbrev pub unless_ended : Option Ending → ℕ → ℕ
unless_ended None k = k
unless_ended (Some ending) k = 0

-- what the terminal may still enter where nothing fails
abbrev pub left : Behaviour → ℕ → ℕ → ℕ → View → Place → ℕ
left sys n m t v place =
    unless_ended v.term.ending (1 + attempts n (sys.max_restarts t) v * (stretch n m + 1) + ahead sys n m t v place)

-- ---- how much it is at most

pub weight-few : (b : Bool) → weight b ≤ 1
weight-few true = omega arith
weight-few false = omega arith

copying-few : (flight : Option Message) (memory : Option BackupCopy) → copying flight memory ≤ 2
copying-few (Some message) memory = omega arith
copying-few None None = omega arith
copying-few None (Some held) = omega arith

pub asking-few : (m : ℕ) (place : Place) → asking m place ≤ m + 2
asking-few m Nowhere = omega arith
asking-few m (InLine c request) = omega arith
asking-few m (AtWork c i job) = omega arith

-- one answer less to come
pub times-less : (n k j w : ℕ) → k ≡ j + 1 → k ≤ n → (n - j) * w ≡ (n - k) * w + w
times-less n k j w next low =
    let one : n - j ≡ suc (n - k) = omega (arith, next, low) in
    rw one (omega arith)

-- no more answers to come than at first
times-few : (n k w : ℕ) → (n - k) * w ≤ n * w
times-few n k w = mul-le (n - k) w n w (omega arith) (omega arith)

-- a stretch
pub stretch-is : (n m : ℕ) → stretch n m ≡ n * (m + 6) + (m + 7)
stretch-is n m = let one : n + 1 ≡ suc n = omega arith in rw one (omega arith)

module _ (sys : Behaviour) (n m t : ℕ) where
  working-few : (v : View) (place : Place) → working n m v place ≤ n * (m + 6) + (m + 3)
  working-few v place = omega (arith, times-few n (length (path_in v)) (m + 6), weight-few (is_none (attempt_of v.unit)), asking-few m place)

  pub checks-few : (v : View) → checks sys t v ≤ 4
  checks-few v = omega (arith, copying-few v.flight v.memory, weight-few (is_wanted sys t v))

  -- never more than a stretch
  pub ahead-few : (v : View) (place : Place) → ahead sys n m t v place ≤ stretch n m
  ahead-few v place = by v.mode (working-few v place) (checks-few v) (stretch-is n m)
    where
      by : (mode : PairMode) → working n m v place ≤ n * (m + 6) + (m + 3) → checks sys t v ≤ 4 → stretch n m ≡ n * (m + 6) + (m + 7)
          → by_mode (stretch n m) (working n m v place) (checks sys t v) mode ≤ stretch n m
      by Alone work some is = omega (arith, work, is)
      by Raising work some is = omega (arith, work, some, is)
      by Paired work some is = omega (arith, work, some, is)
      by Down work some is = omega arith
      by Gone work some is = omega arith
