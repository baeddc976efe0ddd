-- What inputs, texts and calls come to.
use Rattle.std.proofs.Common.{◌≡◌, ℕ, List, length, Option, None, Some, Bool, true, false, cond, Result, Ok, Err, refl, sym, subst}
use Rattle.std.specs.Prelude.{IfSome, IfOk, nat_lt}
use Rattle.pw_base.specs.declared.fault_code.FaultCode.TheVariants.{InputTooLong}
use Rattle.pw_base.specs.declared.memory.Memory.{Memory}
use Rattle.pw_base.specs.Limits.{longest_input}
use Rattle.pw_base.specs.declared.fault.Fault.{Fault}
use Rattle.pw_input_output.specs.Inputs.{IsInput}
use Rattle.pw_input_output.specs.declared.status.Status.{Status}
use Rattle.pw_input_output.specs.declared.status.Status.TheVariants as status
use Rattle.pw_deck.specs.Deck.{deck_of}
use Rattle.pw_deck_runs.specs.disc.PairRuns.{pair_deck_of}
use Rattle.pathway.specs.declared.decks.DeckCommand.{DeckCommand}
use Rattle.pathway.specs.declared.decks.DeckCommand.TheVariants as asked
use Rattle.pathway.specs.declared.runs.RunCommand.{RunCommand}
use Rattle.pathway.specs.declared.runs.RunCommand.TheVariants as ask
use Rattle.pathway.specs.Commands.{fault_line}
use Rattle.pathway.specs.Decks.{DefinesBy, HasFault, HasFirstFault, RunsBy}
use Rattle.pathway.specs.Statuses.{OfBytes}

-- ---- inputs

-- the fault of an input that is too long
abbrev pub too_long : Fault
too_long = record { line = 0; code = InputTooLong }

input-some : (bytes had : List ℕ) (test : Bool) → Some bytes ≡ cond test None (Some had) → bytes ≡ had
input-some bytes had true same = absurd (cc same)
input-some bytes had false same = cc

input-none : (had : List ℕ) (test : Bool) → None ≡ cond test None (Some had) → test ≡ true
input-none had true same = refl
input-none had false same = absurd (cc same)

-- the bytes of an input are those that the source had left
read-some : (left : Option (List ℕ)) (bytes : List ℕ) → IsInput left (Some bytes) → IfSome left (λ had. had ≡ bytes)
read-some left bytes input =
    let same = input-some bytes input.bytes (nat_lt longest_input (length input.bytes)) input.is in
    subst (λ read. IfSome left (λ had. had ≡ read)) (sym same) input.read

-- what bytes define is of the source
pub of-bytes : (defines : Status → List ℕ → List ℕ → Type 0) (left : Option (List ℕ)) (bytes : List ℕ)
    (answer : Result (Status × List ℕ) Memory) (result : Result (Status × List ℕ) Status)
    → IsInput left (Some bytes) → IfOk answer (λ output. defines output.0 bytes output.1)
    → IfOk result (λ output. answer ≡ Ok output) → IfOk result (λ output. OfBytes defines left output.0 output.1)
of-bytes defines left bytes answer (Ok output) input is same =
    record { bytes = bytes; read = read-some left bytes input; defined = rw same at is }
of-bytes defines left bytes answer (Err e) input is same = tt

-- too long an input has the fault 190 on line 0
long-deck : (bytes : List ℕ) → nat_lt longest_input (length bytes) ≡ true → deck_of bytes ≡ Err too_long
long-deck bytes test = rw test refl

-- what is said of the line of too long an input is of the source
pub of-long : (defines : Status → List ℕ → List ℕ → Type 0) (left : Option (List ℕ))
    (refused : Result (Status × List ℕ) Memory) (result : Result (Status × List ℕ) Status)
    → ((bytes text : List ℕ) → deck_of bytes ≡ Err too_long → text ≡ fault_line too_long → defines status.Refused bytes text)
    → IsInput left None
    → IfOk refused (λ output. (output.0 ≡ status.Refused) × (output.1 ≡ fault_line too_long))
    → IfOk result (λ output. refused ≡ Ok output) → IfOk result (λ output. OfBytes defines left output.0 output.1)
of-long defines left refused (Ok output) law input is same =
    let has = rw same at is in
    let test = input-none input.bytes (nat_lt longest_input (length input.bytes)) input.is in
    record {
      bytes = input.bytes;
      read = input.read;
      defined = rw has.0 (law input.bytes output.1 (long-deck input.bytes test) has.1);
    }
of-long defines left refused (Err e) law input is same = tt

-- ---- refusals

-- the line of a fault is what its refusal defines
pub refuses : {X : Type 0} (defines : Status → List ℕ → Type 0) (read : Result X Fault) (fault : Fault)
    (result : Result (Status × List ℕ) Memory)
    → ((text : List ℕ) → HasFault read text → defines status.Refused text) → read ≡ Err fault
    → IfOk result (λ output. (output.0 ≡ status.Refused) × (output.1 ≡ fault_line fault))
    → IfOk result (λ output. defines output.0 output.1)
refuses defines read fault (Ok output) law first is =
    rw is.0 (law output.1 (record { fault = fault; first = first; is = is.1 }))
refuses defines read fault (Err memory) law first is = tt

-- of a deck that is not run
pub deck-fault : (asked : DeckCommand) (bytes text : List ℕ) → HasFirstFault bytes text → DefinesBy asked status.Refused bytes text
deck-fault asked.Check bytes text has = has
deck-fault asked.Verify bytes text has = has
deck-fault (asked.Status at) bytes text has = has

pub deck-long : (asked : DeckCommand) (bytes text : List ℕ) → deck_of bytes ≡ Err too_long → text ≡ fault_line too_long
    → DefinesBy asked status.Refused bytes text
deck-long asked bytes text first is = deck-fault asked bytes text (record { fault = too_long; first = first; is = is })

-- the first fault of a deck is that of the deck with its disc script
pair-first : (bytes : List ℕ) (fault : Fault) → deck_of bytes ≡ Err fault → pair_deck_of bytes ≡ Err fault
pair-first bytes fault first = rw first refl

-- of a deck that is run
pub run-long : (command : RunCommand) (bytes text : List ℕ) → deck_of bytes ≡ Err too_long → text ≡ fault_line too_long
    → RunsBy command status.Refused bytes text
run-long (ask.Run events) bytes text first is = record { fault = too_long; first = first; is = is }
run-long (ask.Disc events) bytes text first is =
    record { fault = too_long; first = pair-first bytes too_long first; is = is }
run-long (ask.Trail events at) bytes text first is = record { fault = too_long; first = first; is = is }
