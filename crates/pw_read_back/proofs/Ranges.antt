-- In every run that the program makes each number of an entry is one of a log line.
use Rattle.std.proofs.Common.{◌≡◌, ℕ, ◌+◌, ◌<◌, ◌≤◌, ◌^◌, Bool, true, false, List, [], ◌∷◌, length, length-append, Option, Some, None, refl, ap, sym, subst, arith}
use Rattle.std.specs.Prelude.{All, slice_get}
use Rattle.std.specs.List.{AllByRecursion}
use Rattle.pw_code.specs.Limits.{most_log_lines}
use Rattle.pw_code.specs.Valid.{IsClass, IsValid}
use Rattle.pw_code.specs.declared.file.FileCall.{FileCall}
use Rattle.pw_code.specs.declared.file.FileOp.{FileOp}
use Rattle.pw_code.specs.declared.file.FileOp.TheVariants as op
use Rattle.pw_code.specs.declared.lock.LockRule.{LockRule}
use Rattle.pw_code.specs.declared.lock.LockRule.TheVariants.{ReadersShare, AllExclusive}
use Rattle.pw_code.specs.declared.system.ClassInfo.{ClassInfo}
use Rattle.pw_code.specs.declared.system.System.{System}
use Rattle.pw_event.specs.Line.{IsInRange, LineWord, cause_words, ending_words, event_words, reply_words, with_mode}
use Rattle.pw_event.specs.Line.{Plain}
use Rattle.pw_event.specs.declared.event.Cause.{Cause}
use Rattle.pw_event.specs.declared.event.Cause.TheVariants as cause
use Rattle.pw_event.specs.declared.event.Ending.{Ending}
use Rattle.pw_event.specs.declared.event.Ending.TheVariants as ending
use Rattle.pw_event.specs.declared.event.Event.{Event}
use Rattle.pw_event.specs.declared.event.Event.TheVariants as event
use Rattle.pw_event.specs.declared.script.FailLine.{FailLine}
use Rattle.pw_code_meaning.specs.OfSystem.{behaviour, processes_by}
use Rattle.pw_world_state.proofs.PathLengths.{path-short}
use Rattle.pw_world_state.proofs.There.{legal-there, of-all}
use Rattle.pw_world_state.specs.May.{IsLineThere, IsThere}
use Rattle.pw_read_back.proofs.NamedLines.{log-is}
use Rattle.pw_onecopy.specs.Behaviour.{Behaviour}
use Rattle.pw_onecopy.specs.IsBehaviour.{IsBehaviour}
use Rattle.pw_onecopy.specs.Operation.{answer_of, change_answer, read_answer}
use Rattle.pw_onecopy.specs.Path.{PathAnswer, Begun, Dropped, Ended, Entry, Failed, RefreshNumber, Replied, Shown, Standing, entries_on, next_number, number_at, standing, standing_after_answer, standing_after_reply, standing_at_start, standing_from}
use Rattle.pw_paired.specs.End.{LegalEnd}
use Rattle.pw_paired.specs.Failure.{IsCaused}
use Rattle.pw_paired.specs.State.{OpenUnit, State}
use Rattle.pw_paired.specs.Step.{IsRun, Legal, after}
use Rattle.pw_paired.specs.Step as step
use Rattle.pw_paired.specs.Terminal.{LegalShow, path_of}
use Rattle.pw_laws.proofs.Tests.{all-last}
use Rattle.pw_laws.proofs.induction.Runs as runs
use Rattle.pw_laws.proofs.requests.Classes.{found_free}
use Rattle.pw_read_back.proofs.Causes.{IsLineNumber, line-number, pending-names}
use Rattle.pw_read_back.proofs.Paths.{AreFine, ask-small, paths-fine, reply-small, restarts-small}
use Rattle.pw_read_back.proofs.Units.{number-few, unit-few}
use Rattle.pw_read_back.specs.Runs.{IsRunOf}

-- ---- what a path counts

-- one answer more counts at most one
reply-counts : (at : Standing) (within : Option ℕ)
    → ((standing_after_reply at within).ended ≤ at.ended + 1)
    × ((standing_after_reply at within).shown ≤ at.shown + 1)
reply-counts at None = (omega arith, omega arith)
reply-counts at (Some r) = (omega arith, omega arith)

one-counts : (at : Standing) (a : PathAnswer)
    → ((standing_after_answer at a).ended ≤ at.ended + 1)
    × ((standing_after_answer at a).shown ≤ at.shown + 1)
one-counts at Shown = (omega arith, omega arith)
one-counts at (Entry k) = (omega arith, omega arith)
one-counts at (Begun r) = (omega arith, omega arith)
one-counts at (Replied reply) = reply-counts at at.within
one-counts at (Failed x) = (omega arith, omega arith)
one-counts at Ended = (omega arith, omega arith)
one-counts at Dropped = (omega arith, omega arith)

path-counts : (at : Standing) (path : List PathAnswer)
    → ((standing_from at path).ended ≤ at.ended + length path)
    × ((standing_from at path).shown ≤ at.shown + length path)
path-counts at [] = (omega arith, omega arith)
path-counts at (a ∷ path) =
    let one = one-counts at a in
    let rest = path-counts (standing_after_answer at a) path in
    let first = one.0 in
    let second = one.1 in
    let ended = rest.0 in
    let shown = rest.1 in
    (omega (arith, first, ended), omega (arith, second, shown))

entries-few : (path : List PathAnswer) → entries_on path ≤ length path
entries-few [] = omega arith
entries-few (Shown ∷ path) = let rest = entries-few path in omega (arith, rest)
entries-few (Entry k ∷ path) = let rest = entries-few path in omega (arith, rest)
entries-few (Begun r ∷ path) = let rest = entries-few path in omega (arith, rest)
entries-few (Replied reply ∷ path) = let rest = entries-few path in omega (arith, rest)
entries-few (Failed x ∷ path) = let rest = entries-few path in omega (arith, rest)
entries-few (Ended ∷ path) = let rest = entries-few path in omega (arith, rest)
entries-few (Dropped ∷ path) = let rest = entries-few path in omega (arith, rest)

-- the restarts of the attempt, if any, are a number of a log line
abbrev IsWithin : Option ℕ → Type 0
IsWithin None = Unit {0}
IsWithin (Some r) = r < 2 ^ 32

reply-within : (at : Standing) (within : Option ℕ) → IsWithin at.within
    → IsWithin (standing_after_reply at within).within
reply-within at None is = tt
reply-within at (Some r) is = is

path-within : (path : List PathAnswer) (at : Standing) → IsWithin at.within → AreFine path
    → IsWithin (standing_from at path).within
path-within [] at is fine = is
path-within (Shown ∷ path) at is fine = path-within path _ is fine.1
path-within (Entry k ∷ path) at is fine = path-within path _ is fine.1
path-within (Begun r ∷ path) at is fine = path-within path _ fine.0 fine.1
path-within (Replied reply ∷ path) at is fine = path-within path _ (reply-within at at.within is) fine.1
path-within (Failed x ∷ path) at is fine = path-within path _ is fine.1
path-within (Ended ∷ path) at is fine = path-within path _ tt fine.1
path-within (Dropped ∷ path) at is fine = path-within path _ tt fine.1

-- a refresh number of log lines
abbrev IsRefresh : RefreshNumber → Type 0
IsRefresh number = (number.phase < 2 ^ 32) × (number.attempt < 2 ^ 32) × (number.k < 2 ^ 32)

number-small : (at : Standing) (within : Option ℕ) → at.ended ≤ most_log_lines
    → at.shown ≤ most_log_lines → IsWithin within → IsRefresh (number_at at within)
number-small at None ended shown is = (omega (arith, ended), omega arith, omega (arith, shown))
number-small at (Some r) ended shown is = (omega (arith, ended), is, omega (arith, shown))

next-small : (path : List PathAnswer) → length path ≤ most_log_lines → AreFine path
    → IsRefresh (next_number path)
next-small path short fine =
    let counts = path-counts standing_at_start path in
    let ended = counts.0 in
    let shown = counts.1 in
    number-small (standing path) (standing path).within (omega (arith, ended, short))
    (omega (arith, shown, short)) (path-within path standing_at_start tt fine)

-- ---- file statuses

read-small : (missing : ℕ) (found : Option (List ℕ)) → missing < 2 ^ 16
    → (read_answer missing found).status < 2 ^ 16
read-small missing None low = low
read-small missing (Some content) low = omega arith

change-small : (refused : ℕ) (can : Bool) → refused < 2 ^ 16
    → (change_answer refused can).status < 2 ^ 16
change-small refused true low = omega arith
change-small refused false low = low

status-small : (n : ℕ) (records : List (List ℕ)) (one : FileOp) (call : FileCall)
    → (answer_of n records one call).status < 2 ^ 16
status-small n records op.Read call = read-small 11 _ (omega arith)
status-small n records op.ReadLock call = read-small 11 _ (omega arith)
status-small n records op.Next call = read-small 1 _ (omega arith)
status-small n records op.NextLock call = read-small 1 _ (omega arith)
status-small n records op.Write call = change-small 10 _ (omega arith)
status-small n records op.Rewrite call = change-small 11 _ (omega arith)
status-small n records op.Delete call = change-small 11 _ (omega arith)

mode-small : (rule : LockRule) (mode : List ℕ) (words : List LineWord) → AllByRecursion IsInRange words
    → AllByRecursion IsInRange (with_mode rule (Plain mode) words)
mode-small ReadersShare mode words small = (tt, small)
mode-small AllExclusive mode words small = small

-- ---- each entry

module _ (system : System) (script : List FailLine) (valid : IsValid system)
    (b : IsBehaviour (behaviour script system)) (lines : All (IsLineThere system) script)
    (few : length script < 2 ^ 32)
    (log : List Event) (run : IsRun (behaviour script system) log)
    (short : length log ≤ most_log_lines) where
  abbrev sys : Behaviour
  sys = behaviour script system

  abbrev state : State
  state = after sys log

  abbrev Small : List LineWord → Type 0
  Small words = AllByRecursion IsInRange words

  unit-small : (t : ℕ) (unit : OpenUnit) → state.units t ≡ Some unit → unit.number < 2 ^ 32
  unit-small t unit is = let low = unit-few sys b log run t unit is in omega (arith, low, short)

  line-small : (k : ℕ) → IsLineNumber (length script) k → (1 ≤ k) × (k < 2 ^ 32)
  line-small k is = let high = is.1 in (is.0, omega (arith, high, few))

  process-small : (c i : ℕ) → 1 ≤ i → i ≤ processes_by (slice_get system.classes c)
      → (1 ≤ i) × (i < 2 ^ 32)
  process-small c i low high = (low, by (slice_get system.classes c) refl high)
    where
      by : (o : Option ClassInfo) → slice_get system.classes c ≡ o → i ≤ processes_by o → i < 2 ^ 32
      by None is high = omega (arith, high)
      by (Some class) is high = let most =
          (of-all (IsClass system) system.classes valid.classes c class is).few in
          omega (arith, high, most)

  cause-small : (t n : ℕ) (one : Cause) (unit : OpenUnit) → IsCaused sys state t n one unit
      → Small (cause_words one)
  cause-small t n (cause.Older o m) unit caused = (
    tt,
    (
      tt,
      (
        subst (λ k. k < 2 ^ 32) caused.holds.number
            (unit-small o caused.holds.older caused.holds.is_open),
        tt,
      ),
    ),
  )
  cause-small t n (cause.Takeover p) unit caused = (tt, (tt, tt))
  cause-small t n (cause.Server k) unit caused =
      (tt, (line-small k (pending-names sys log run t k caused.holds.pending), tt))
  cause-small t n cause.Redo unit caused = (tt, tt)

  ending-small : (t : ℕ) (e : Ending) → LegalEnd sys state t e → Small (ending_words e)
  ending-small t ending.Stopped l = (tt, tt)
  ending-small t ending.NoEntries l = (tt, tt)
  ending-small t (ending.Fault x) l = (
    tt,
    (
      ask-small script system t (path_of state t) x
          (paths-fine script system valid b log run t) l.asks,
      tt,
    ),
  )
  ending-small t (ending.Suspended one) l = (tt, cause-small t l.unit.number one l.unit l.caused)
  ending-small t ending.Lost l = (tt, tt)

  reply-range : (c i t : ℕ) (fault : Option ℕ) → step.Fits sys state (event.Reply c i t fault)
      → Small (reply_words fault)
  reply-range c i t None l = (tt, tt)
  reply-range c i t (Some x) l = (tt, (reply-small script system state c i t x l, tt))

  refresh-small : (t phase attempt k : ℕ) → LegalShow sys state t phase attempt k
      → (phase < 2 ^ 32) × (attempt < 2 ^ 32) × (k < 2 ^ 32)
  refresh-small t phase attempt k l =
      let length = path-short sys b log run t l.can.live.known in
      subst IsRefresh l.number (next-small (path_of state t) (omega (arith, length, short))
      (paths-fine script system valid b log run t))

  words-small : (entry : Event) → IsThere system entry → step.Fits sys state entry
      → Small (event_words system.rule entry)
  words-small (event.Show t phase attempt k) there l =
      (tt, (tt, (refresh-small t phase attempt k l, tt)))
  words-small (event.Key t k) there l =
      let next = l.next in
      let counted = entries-few (path_of state t) in
      let length = path-short sys b log run t l.can.live.known in
      (tt, (tt, (omega (arith, next, counted, length, short), tt)))
  words-small (event.CheckStart t) there l = (tt, (tt, (tt, tt)))
  words-small (event.CheckEnd t) there l = (tt, (tt, (tt, tt)))
  words-small (event.CheckCopy t) there l = (tt, (tt, (tt, tt)))
  words-small (event.Applied t) there l = (tt, (tt, tt))
  words-small (event.Begin t n r) there l =
      let is = l.number in
      let low = number-few sys b log run t l.can in (
        tt,
        (
          tt,
          (
            omega (arith, is, low, short),
            (
              subst (λ k. k < 2 ^ 32) (sym l.restarts)
                  (restarts-small script system valid b log run t),
              tt,
            ),
          ),
        ),
      )
  words-small (event.Send t n c) there l =
      (tt, (tt, (subst (λ k. k < 2 ^ 32) l.number (unit-small t l.unit l.is_open), (tt, tt))))
  words-small (event.Take c i t) there l =
      let found = found_free (state.classes c).busy 1 (sys.processes c) i l.free in
      let high = found.2 in
      (tt, (tt, (process-small c i found.1 (omega (arith, high)), (tt, tt))))
  words-small (event.File c i one mode f status) there l = (
    tt,
    (
      tt,
      (
        process-small c i there.low there.high,
        (
          tt,
          mode-small system.rule _ _ (
            tt,
            (
              subst (λ k. k < 2 ^ 16) (sym l.status_is)
                  (status-small (sys.key_length l.call.file)
                  (state.files l.call.file) l.call.op l.call),
              tt,
            ),
          ),
        ),
      ),
    ),
  )
  words-small (event.Reply c i t fault) there l =
      (tt, (tt, (process-small c i there.low there.high, (tt, reply-range c i t fault l))))
  words-small (event.Again t n) there l = let is = l.number in let low =
      number-few sys b log run t l.can in (tt, (tt, (omega (arith, is, low, short), tt)))
  words-small (event.Commit t n) there l = let is = l.number in let low =
      number-few sys b log run t l.can in (tt, (tt, (omega (arith, is, low, short), tt)))
  words-small (event.Back t n) there l = let is = l.number in let low =
      number-few sys b log run t l.can in (tt, (tt, (omega (arith, is, low, short), tt)))
  words-small (event.Restart t n one) there l = (
    tt,
    (
      tt,
      (
        subst (λ k. k < 2 ^ 32) l.caused.number (unit-small t l.unit l.caused.is_open),
        cause-small t n one l.unit l.caused,
      ),
    ),
  )
  words-small (event.FailTcp p primary k) there l =
      (tt, (tt, (tt, (tt, (line-small k (line-number script k _ l.names), tt)))))
  words-small (event.FailServer c i k) there l = (
    tt,
    (
      tt,
      (
        tt,
        (
          process-small c i there.low there.high,
          (line-small k (line-number script k _ l.names), tt),
        ),
      ),
    ),
  )
  words-small (event.Takeover p) there l = (tt, (tt, tt))
  words-small (event.Raise p) there l = (tt, (tt, tt))
  words-small (event.End t e) there l = (tt, (tt, ending-small t e l))

  legal-small : (entry : Event) → Legal sys state entry → Small (event_words system.rule entry)
  legal-small entry legal = words-small entry
      (legal-there system script log entry b lines run legal) legal.fits

-- ---- each entry of a run

abbrev pub HasRanges : System → Event → Type 0
HasRanges system entry = AllByRecursion IsInRange (event_words system.rule entry)

module _ (system : System) (script : List FailLine) (valid : IsValid system)
    (b : IsBehaviour (behaviour script system)) (lines : All (IsLineThere system) script)
    (few : length script < 2 ^ 32) where
  abbrev Told : State → Type 0
  Told s = length s.log ≤ most_log_lines → AllByRecursion (HasRanges system) s.log

  log-small : (log : List Event) → IsRun (behaviour script system) log
      → Told (after (behaviour script system) log)
  log-small log run =
      runs.holds-behind (behaviour script system) Told
      (λ before was entry legal told short.
      let sum = length-append (after (behaviour script system) before).log (entry ∷ []) in
      let same = ap (length {A = Event}) (log-is (behaviour script system) before) in
      all-last (HasRanges system) (after (behaviour script system) before).log entry
      (told (omega (arith, short, sum)))
      (legal-small system script valid b lines few before was
      (omega (arith, short, sum, same)) entry legal))
      (λ short. tt) log run

pub run-small : (system : System) (script : List FailLine) (log : List Event)
    → IsRunOf system script log → AllByRecursion (HasRanges system) log
run-small system script log of =
    let told = log-small system script of.valid of.deck of.lines of.few log of.run in
    let is = log-is (behaviour script system) log in
    subst (AllByRecursion (HasRanges system)) is
    (told (subst (λ (l : List Event). length l ≤ most_log_lines) (sym is) of.short))
