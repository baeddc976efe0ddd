-- Each entry that commits adds one unit to those of the log, and no other entry adds any.
use Rattle.std.proofs.Common.{◌≡◌, ℕ, ◌+◌, Bool, true, false, List, [], ◌∷◌, ◌++◌, Some, None, if◌then◌else◌, refl, ap, sym, subst, append-nil, ◌∙◌}
use Rattle.std.proofs.lemmas.Bool.{true≢false}
use Rattle.pw_event.specs.declared.event.Event.{Event}
use Rattle.pw_event.specs.declared.event.Event.TheVariants as event
use Rattle.pw_invariants.proofs.Turns.{IsQuiet, added-more, left-quiet, lefts-quiet, legal-more, machine_entered, quiet-append, quiet-units}
use Rattle.pw_invariants.specs.Units.{CommitsNext, CommittedUnit, committed_units, units_in}
use Rattle.pw_laws.proofs.blocks.Fold.{fold_after}
use Rattle.pw_laws.specs.locking.Records.{commits_at}
use Rattle.pw_onecopy.specs.Behaviour.{Behaviour}
use Rattle.pw_onecopy.specs.Blocks.{SerialBlock, Out, Attempted, Done, Committed}
use Rattle.pw_onecopy.specs.IsBehaviour.{IsBehaviour}
use Rattle.pw_onecopy.specs.OneCopy.{IsSerialFrom, Machine, next_attempt}
use Rattle.pw_onecopy.specs.Path.{is_outside, unit_number}
use Rattle.pw_paired.specs.Failure.{is_of_pair}
use Rattle.pw_paired.specs.Headline.{IsSerializable}
use Rattle.pw_paired.specs.Serial.{Reading, blocks_of, left_block, left_blocks, makes_gone}
use Rattle.pw_paired.specs.State.{State}
use Rattle.pw_paired.specs.Step.{after}
use Rattle.pw_paired.specs.Terminal.{path_of}

-- an answer outside units commits nothing
out-quiet : (t : ℕ) (b : Bool) → IsQuiet (if b then Out t ∷ [] else [])
out-quiet t true = tt
out-quiet t false = tt

reply-quiet : (t j : ℕ) (b : Bool) (n : ℕ) → b ≡ false → IsQuiet (if b then Attempted t n Committed j ∷ [] else [])
reply-quiet t j true n none = absurd (true≢false none)
reply-quiet t j false n none = tt

gone-quiet : (order : List SerialBlock) (b : Bool) → IsQuiet order → IsQuiet (if b then order else [])
gone-quiet order true quiet = quiet
gone-quiet order false quiet = tt

-- nor does any entry that does not commit
pub entry-quiet : (sys : Behaviour) (s : State) (reading : Reading) (entry : Event) → commits_at s entry ≡ false → IsQuiet (blocks_of sys s reading entry)
entry-quiet sys s reading (event.Show t phase attempt k) none = out-quiet t _
entry-quiet sys s reading (event.Key t k) none = out-quiet t _
entry-quiet sys s reading (event.CheckStart t) none = tt
entry-quiet sys s reading (event.CheckEnd t) none = tt
entry-quiet sys s reading (event.CheckCopy t) none = tt
entry-quiet sys s reading (event.Applied t) none = tt
entry-quiet sys s reading (event.Begin t n r) none = tt
entry-quiet sys s reading (event.Send t n c) none = tt
entry-quiet sys s reading (event.Take c i t) none = tt
entry-quiet sys s reading (event.File c i op mode f status) none = tt
entry-quiet sys s reading (event.Reply c i t None) none = reply-quiet t (reading.answers t + 1) (is_outside (path_of s t)) (unit_number (path_of s t)) none
entry-quiet sys s reading (event.Reply c i t (Some x)) none = tt
entry-quiet sys s reading (event.Again t n) none = tt
entry-quiet sys s reading (event.Commit t n) none = absurd (true≢false none)
entry-quiet sys s reading (event.Back t n) none = tt
entry-quiet sys s reading (event.Restart t n cause) none = tt
entry-quiet sys s reading (event.FailTcp p primary k) none =
    gone-quiet (left_blocks s reading (is_of_pair sys p) sys.terminals) (makes_gone sys s (event.FailTcp p primary k) p) (lefts-quiet s reading (is_of_pair sys p) sys.terminals)
entry-quiet sys s reading (event.FailServer c i k) none = tt
entry-quiet sys s reading (event.Takeover p) none = tt
entry-quiet sys s reading (event.Raise p) none = tt
entry-quiet sys s reading (event.End t ending) none =
    quiet-append (left_block t (reading.answers t) (s.units t)) (Done t ending ∷ []) (left-quiet t (reading.answers t) (s.units t)) tt

module _ (sys : Behaviour) (b : IsBehaviour sys) (log : List Event) (first : IsSerializable sys log) where
  abbrev machine : Machine
  machine = machine_entered sys b log first

  -- no other entry adds a unit
  pub stays : (entry : Event) → IsSerializable sys (log ++ entry ∷ []) → commits_at (after sys log) entry ≡ false
      → committed_units sys (log ++ entry ∷ []) ≡ committed_units sys log
  stays entry serial none =
      added-more sys b log (entry ∷ []) first serial
      ∙ (ap (λ (units : List CommittedUnit). committed_units sys log ++ units)
      (quiet-units sys machine (blocks_of sys (after sys log) (fold_after sys log).reading entry ++ [])
      (quiet-append (blocks_of sys (after sys log) (fold_after sys log).reading entry) [] (entry-quiet sys (after sys log) (fold_after sys log).reading entry none) tt))
      ∙ append-nil (committed_units sys log))

  -- an entry whose block commits adds one
  adds-by : (entry : Event) (t n j : ℕ) → IsSerializable sys (log ++ entry ∷ [])
      → blocks_of sys (after sys log) (fold_after sys log).reading entry ≡ Attempted t n Committed j ∷ [] → CommitsNext sys log entry t n
  adds-by entry t n j serial is =
      let legal : IsSerialFrom sys machine (Attempted t n Committed j ∷ []) =
      subst (λ (order : List SerialBlock). IsSerialFrom sys machine (order ++ [])) is (legal-more sys b log (entry ∷ []) first serial) in
      record {
        unit = record { terminal = t; start = (machine.terms t).path; path = (next_attempt sys machine t j).path };
        added =
            added-more sys b log (entry ∷ []) first serial
            ∙ ap (λ (order : List SerialBlock). committed_units sys log ++ units_in sys machine (order ++ [])) is;
        terminal = refl;
        number = sym legal.0.number;
      }

  pub adds-commit : (t n : ℕ) → IsSerializable sys (log ++ event.Commit t n ∷ []) → CommitsNext sys log (event.Commit t n) t n
  adds-commit t n serial = adds-by (event.Commit t n) t n ((fold_after sys log).reading.answers t + 1) serial refl

  pub adds-reply : (c i t : ℕ) → is_outside (path_of (after sys log) t) ≡ true → IsSerializable sys (log ++ event.Reply c i t None ∷ [])
      → CommitsNext sys log (event.Reply c i t None) t (unit_number (path_of (after sys log) t))
  adds-reply c i t outside serial =
      let n : ℕ = unit_number (path_of (after sys log) t) in
      let j : ℕ = (fold_after sys log).reading.answers t + 1 in
      adds-by (event.Reply c i t None) t n j serial (ap (λ (out : Bool). if out then Attempted t n Committed j ∷ [] else []) outside)
