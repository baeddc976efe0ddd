-- In every run each block of the serial order has a line.
use Rattle.std.proofs.Common.{ℕ, zero, suc, ◌<◌, Bool, true, false, List, [], ◌∷◌, ◌++◌, map, length, Option, Some, None, is_none, if◌then◌else◌, sym, subst, arith}
use Rattle.std.specs.Prelude.{All}
use Rattle.std.specs.List.{AllByRecursion}
use Rattle.pw_code.specs.declared.system.System.{System}
use Rattle.pw_event.specs.declared.event.Event.{Event}
use Rattle.pw_event.specs.declared.event.Event.TheVariants as event
use Rattle.pw_event.specs.declared.script.FailLine.{FailLine}
use Rattle.pw_code_meaning.specs.OfSystem.{behaviour}
use Rattle.pw_world_state.proofs.There.{legal-there}
use Rattle.pw_world_state.specs.May.{IsLineThere, IsThere}
use Rattle.pw_report_text.specs.Blocks.{IsBlockOf}
use Rattle.pw_read_back.proofs.NamedLines.{ending-there, log-is, reply-there}
use Rattle.pw_onecopy.specs.Behaviour.{Behaviour}
use Rattle.pw_onecopy.specs.Blocks as one
use Rattle.pw_onecopy.specs.IsBehaviour.{IsBehaviour}
use Rattle.pw_onecopy.specs.Path.{is_outside, unit_number}
use Rattle.pw_serial_order.proofs.Giving.{told-append}
use Rattle.pw_serial_order.proofs.Reading.{last-from, order-grows, order-whole}
use Rattle.pw_serial_order.specs.Order.{blocks_behind, entry_order, last_order, told}
use Rattle.pw_serial_order.specs.Shadow.{reading_after}
use Rattle.pw_serial_order.specs.declared.block.Block.{Block}
use Rattle.pw_paired.specs.Failure.{is_of_pair}
use Rattle.pw_paired.specs.Serial.{Reading, blocks, blocks_of, left_block, left_blocks, reading_starts, reply_commits}
use Rattle.pw_paired.specs.State.{OpenUnit, State, starting}
use Rattle.pw_paired.specs.Step.{IsRun, Legal, after}
use Rattle.pw_paired.specs.Step as step
use Rattle.pw_paired.specs.Terminal.{path_of}
use Rattle.pw_laws.proofs.induction.Runs as runs

module _ (system : System) where
  -- each of these blocks has a line
  abbrev Are : List one.SerialBlock → Type 0
  Are xs = AllByRecursion (IsBlockOf system) (map told xs)

  all-both : (xs ys : List Block) → AllByRecursion (IsBlockOf system) xs → AllByRecursion (IsBlockOf system) ys → AllByRecursion (IsBlockOf system) (xs ++ ys)
  all-both [] ys here there = there
  all-both (x ∷ xs) ys here there = (here.0, all-both xs ys here.1 there)

  both : (xs ys : List one.SerialBlock) → Are xs → Are ys → Are (xs ++ ys)
  both xs ys here there = subst (AllByRecursion (IsBlockOf system)) (sym (told-append xs ys)) (all-both (map told xs) (map told ys) here there)

  optional : (test : Bool) (xs : List one.SerialBlock) → Are xs → Are (if test then xs else [])
  optional true xs are = are
  optional false xs are = tt

  left : (t j : ℕ) → t < length system.terminals → (unit : Option OpenUnit) → Are (left_block t j unit)
  left t j low None = tt
  left t j low (Some unit) = by (is_none unit.running)
    where
      by : (none : Bool) → Are (if none then [] else one.Attempted t unit.number one.Left j ∷ [])
      by true = tt
      by false = (low, tt)

  all-left : (s : State) (r : Reading) (whose : ℕ → Bool) (n : ℕ) → ((t : ℕ) → t < n → t < length system.terminals) → Are (left_blocks s r whose n)
  all-left s r whose zero low = tt
  all-left s r whose (suc t) low =
      both (left_blocks s r whose t) (if whose t then left_block t (r.answers t) (s.units t) else []) (all-left s r whose t (λ k lt. low k (omega (arith, lt))))
      (optional (whose t) (left_block t (r.answers t) (s.units t)) (left t (r.answers t) (low t (omega arith)) (s.units t)))

  committed : (s : State) (t : ℕ) (fault : Option ℕ) (j : ℕ) → t < length system.terminals → Are (reply_commits s t fault j)
  committed s t None j low = optional (is_outside (path_of s t)) (one.Attempted t (unit_number (path_of s t)) one.Committed j ∷ []) (low, tt)
  committed s t (Some x) j low = tt

module _ (system : System) (script : List FailLine) (b : IsBehaviour (behaviour script system)) (lines : All (IsLineThere system) script) where
  abbrev sys : Behaviour
  sys = behaviour script system

  -- the blocks of one entry
  entry-blocks : (log : List Event) → IsRun sys log → (entry : Event) → Legal sys (after sys log) entry → Are system (blocks_of sys (after sys log) (reading_after sys log) entry)
  entry-blocks log run entry legal = by entry legal.fits (legal-there system script log entry b lines run legal)
    where
      by : (entry : Event) → step.Fits sys (after sys log) entry → IsThere system entry → Are system (blocks_of sys (after sys log) (reading_after sys log) entry)
      by (event.Show t phase attempt k) l low = optional system _ (one.Out t ∷ []) (low, tt)
      by (event.Key t k) l low = optional system _ (one.Out t ∷ []) (low, tt)
      by (event.CheckStart t) l low = tt
      by (event.CheckEnd t) l low = tt
      by (event.CheckCopy t) l low = tt
      by (event.Applied t) l low = tt
      by (event.Begin t n again) l low = tt
      by (event.Send t n c) l low = tt
      by (event.Take c i t) l low = tt
      by (event.File c i op mode f status) l low = tt
      by (event.Reply c i t fault) l low = committed system (after sys log) t fault _ (reply-there system script b lines log run c i t fault l)
      by (event.Again t n) l low = tt
      by (event.Commit t n) l low = (low, tt)
      by (event.Back t n) l low = (low, tt)
      by (event.Restart t n cause) l low = (low, tt)
      by (event.FailTcp p primary k) l low = optional system _ (left_blocks (after sys log) (reading_after sys log) (is_of_pair sys p) sys.terminals) (all-left system (after sys log) (reading_after sys log) (is_of_pair sys p) sys.terminals (λ t lt. lt))
      by (event.FailServer c i k) l low = tt
      by (event.Takeover p) l low = tt
      by (event.Raise p) l low = tt
      by (event.End t e) l low = both system (left_block t ((reading_after sys log).answers t) ((after sys log).units t)) (one.Done t e ∷ []) (left system t ((reading_after sys log).answers t) low ((after sys log).units t)) ((low, ending-there system script b lines log run t e l), tt)

  -- the blocks of the entries of a run
  entries : (log : List Event) → IsRun sys log → AllByRecursion (IsBlockOf system) (entry_order sys log)
  entries log run =
      subst (λ l. AllByRecursion (IsBlockOf system) (entry_order sys l)) (log-is sys log)
      (runs.holds-behind sys (λ s. AllByRecursion (IsBlockOf system) (entry_order sys s.log))
      (λ before was entry legal all.
      subst (AllByRecursion (IsBlockOf system)) (sym (order-grows sys (after sys before).log entry))
      (all-both system (entry_order sys (after sys before).log) _ all
      (subst (λ l. AllByRecursion (IsBlockOf system) (blocks_behind sys l entry)) (sym (log-is sys before)) (entry-blocks before was entry legal))))
      tt log run)

  -- the blocks of a run, with those at its end
  pub order-named : (log : List Event) → IsRun sys log → AllByRecursion (IsBlockOf system) (map told (blocks sys log))
  order-named log run =
      subst (AllByRecursion (IsBlockOf system)) (order-whole sys log)
      (all-both system (entry_order sys log) (last_order sys log) (entries log run)
      (subst (λ xs. Are system xs) (sym (last-from sys (starting sys) reading_starts log))
      (all-left system (after sys log) (reading_after sys log) (λ t. true) sys.terminals (λ t lt. lt))))
