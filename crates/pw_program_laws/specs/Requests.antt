-- What a requester's statements have to meet so that a fact holds of the requests of each unit that commits: by recursion on the
-- statements, from what is known before each. A run fault, an end, and a unit that is dropped or begun anew meet all.
use Rattle.std.specs.Prelude.{◌≡◌, ℕ, zero, suc, ◌+◌, Bool, true, false, List, [], ◌∷◌, ◌++◌, map, Some}
use Rattle.pw_forms.specs.declared.cond.ConditionForm.{ConditionForm}
use Rattle.pw_forms.specs.declared.lists.SendCode.{SendCode}
use Rattle.pw_forms.specs.declared.statement.Paragraph.{Paragraph}
use Rattle.pw_forms.specs.declared.statement.Statement.{Statement}
use Rattle.pw_forms.specs.declared.statement.Statement as form
use Rattle.pw_forms.specs.declared.statement.Statement.{Row_of-Statement, end_of-Statement, more_of-Statement}
use Rattle.pw_invariants.specs.Requests.{RepliedRequest}
use Rattle.pw_program_laws.specs.Known.{KnownMoment}
use Rattle.pw_program_laws.specs.Meets.{AnyMeets, ArithmeticMeets, BranchesOn, WithAllKnown, WithKnown}
use Rattle.pw_program_laws.specs.Texts.{HaveSizes, said, texts_in, with_moved, with_moves}
use Rattle.pw_tree_meaning.specs.Operands.{spot_in}
use Rattle.pw_tree_meaning.specs.Program.{DeckModel, Program, body_named, class_number}
use Rattle.pw_tree_meaning.specs.Runs.{most_performs}
use Rattle.pw_tree_meaning.specs.Sends.{found_by, yields_of}
use Rattle.pw_tree_meaning.specs.State.{Registers, no_registers}
use Rattle.pw_tree_meaning.specs.Store.{Spot, initial_store}
use Rattle.pw_tree_meaning.specs.Values.{Text', as_it_stands}
use Rattle.pw_words.specs.Words.{Word}

-- What is known of a requester at a moment: the texts of its elementary items, the registers, whether a transaction is open, and
-- the requests of it that were replied to.
pub record RequesterMoment : Type 0 where
  pub texts : List (List ℕ)
  pub registers : Registers
  pub inside : Bool
  pub sent : List RepliedRequest

-- the same as of a program that has no files
abbrev pub as_known : RequesterMoment → KnownMoment
as_known k = record { texts = k.texts; registers = k.registers; files = λ f. [] }

-- the moment with other items
abbrev pub with_known : RequesterMoment → KnownMoment → RequesterMoment
with_known k known = record k { texts = known.texts; registers = known.registers }

-- the requests of a unit behind one more: outside a transaction a request is a unit of its own
abbrev pub sent_behind : Bool → List RepliedRequest → RepliedRequest → List RepliedRequest
sent_behind true sent request = sent ++ request ∷ []
sent_behind false sent request = sent

-- a request outside a transaction
abbrev pub AloneMeets : (List RepliedRequest → Type 0) → Bool → RepliedRequest → Type 0
AloneMeets holds true request = Unit {0}
AloneMeets holds false request = holds (request ∷ [])

module _ (deck : DeckModel) (program : Program) (sizes : List ℕ) (holds : List RepliedRequest → Type 0) where
  -- SEND, whatever the reply; behind it the reply is in the item of its code
  abbrev pub SendMeets : List ℕ → ℕ → List SendCode → List Spot → (RequesterMoment → Type 0) → RequesterMoment → Type 0
  SendMeets message c codes items next k =
      (reply : List ℕ) →
      let request : RepliedRequest = record { class = c; message = message; reply = reply } in
      AloneMeets holds k.inside request
      × ((place : ℕ × Spot) → found_by codes items reply ≡ Some place
      → next (record k {
        texts = with_moved (Text' reply) place.1 sizes k.texts;
        registers = record k.registers { termination = place.0 + 1 };
        sent = sent_behind k.inside k.sent request;
      }))

  -- BEGIN-TRANSACTION, with any number of restarts
  abbrev pub BeginMeets : Bool → (RequesterMoment → Type 0) → RequesterMoment → Type 0
  BeginMeets true next k = Unit {0}
  BeginMeets false next k =
      (r : ℕ) → next (record k { registers = record k.registers { restarts = r }; inside = true; sent = [] })

  -- END-TRANSACTION, and ABORT-TRANSACTION
  abbrev pub EndMeets : Bool → (RequesterMoment → Type 0) → RequesterMoment → Type 0
  EndMeets true next k = holds k.sent × next (record k { inside = false; sent = [] })
  EndMeets false next k = Unit {0}

  abbrev pub AbortMeets : Bool → (RequesterMoment → Type 0) → RequesterMoment → Type 0
  AbortMeets true next k = next (record k { inside = false; sent = [] })
  AbortMeets false next k = Unit {0}

  -- performs: what a turn of a paragraph has to meet
  module _ (performs : Word → (RequesterMoment → Type 0) → RequesterMoment → Type 0) where
    -- one of some paragraphs
    abbrev pub OneOfMeets : List Word → (RequesterMoment → Type 0) → RequesterMoment → Type 0
    OneOfMeets [] next k = next k
    OneOfMeets (paragraph ∷ rest) next k = performs paragraph next k × OneOfMeets rest next k

    -- The first turns of a loop, each as it comes. Behind them each turn leaves the unit as it is, whatever the items and registers
    -- are; of these nothing is known behind the loop.
    abbrev pub TurnsMeet : ℕ → ConditionForm → Word → (RequesterMoment → Type 0) → RequesterMoment → Type 0
    TurnsMeet zero cond paragraph next k =
        (texts : List (List ℕ)) (registers : Registers) → HaveSizes sizes texts
        → performs paragraph (λ after. (after.inside ≡ k.inside) × (after.sent ≡ k.sent)) (record k { texts = texts; registers = registers })
        × next (record k { texts = texts; registers = registers })
    TurnsMeet (suc turns) cond paragraph next k =
        AnyMeets program sizes (as_known k) cond.any (λ b. BranchesOn b (next k) (performs paragraph (TurnsMeet turns cond paragraph next) k))

    abbrev mutual
      -- what follows has to be met behind the statement; of statements that are not spoken of nothing can be shown
      pub RequesterMeets : Statement → (RequesterMoment → Type 0) → RequesterMoment → Type 0
      RequesterMeets (form.Move line from to) next k =
          WithKnown program sizes (as_known k) from (λ source. WithAllKnown program sizes (as_known k) to (λ targets.
          next (record k { texts = with_moves source (map spot_in targets) sizes k.texts })))
      RequesterMeets (form.Arithmetic line a) next k =
          ArithmeticMeets deck program sizes [] (λ reply files. Unit {0}) a (λ known. next (with_known k known)) (λ known. next (with_known k known)) (as_known k)
      RequesterMeets (form.OnSizeError' line a n first m second) next k =
          ArithmeticMeets deck program sizes [] (λ reply files. Unit {0}) a (λ known. BranchMeets first next (with_known k known))
          (λ known. BranchMeets second next (with_known k known)) (as_known k)
      RequesterMeets (form.If' line cond n first m second) next k =
          AnyMeets program sizes (as_known k) cond.any (λ b. BranchesOn b (BranchMeets first next k) (BranchMeets second next k))
      RequesterMeets (form.Perform line paragraph) next k = performs paragraph next k
      RequesterMeets (form.PerformUntil line paragraph cond) next k = (turns : ℕ) × TurnsMeet turns cond paragraph next k
      RequesterMeets (form.PerformOneOf line paragraphs position) next k =
          WithKnown program sizes (as_known k) position (λ found. OneOfMeets paragraphs next k)
      RequesterMeets (form.Exit line) next k = next k
      RequesterMeets (form.ExitProgram line) next k = Unit {0}
      RequesterMeets (form.StopRun line) next k = Unit {0}
      RequesterMeets (form.DisplayBase line screen) next k = next k
      RequesterMeets (form.Display line shown) next k = WithKnown program sizes (as_known k) shown (λ found. next k)
      RequesterMeets (form.Accept line screen keys) next k =
          (texts : List (List ℕ)) (registers : Registers) → HaveSizes sizes texts → next (record k { texts = texts; registers = registers })
      RequesterMeets (form.Send line message class codes) next k =
          WithKnown program sizes (as_known k) message (λ found. WithAllKnown program sizes (as_known k) (yields_of codes) (λ items.
          SendMeets (as_it_stands (said sizes k.texts found)) (class_number deck class) codes (map spot_in items) next k))
      RequesterMeets (form.Begin line) next k = BeginMeets k.inside next k
      RequesterMeets (form.End line) next k = EndMeets k.inside next k
      RequesterMeets (form.Abort line) next k = AbortMeets k.inside next k
      RequesterMeets (form.Restart line) next k = Unit {0}
      RequesterMeets _ next k = ⊥

      -- the statements of a branch
      pub BranchMeets : {n : _} → Row_of-Statement n → (RequesterMoment → Type 0) → RequesterMoment → Type 0
      BranchMeets end_of-Statement next k = next k
      BranchMeets (more_of-Statement one rest) next k = RequesterMeets one (BranchMeets rest next) k

    -- the statements of a paragraph
    abbrev pub ParagraphMeets : List Statement → (RequesterMoment → Type 0) → RequesterMoment → Type 0
    ParagraphMeets [] next k = next k
    ParagraphMeets (one ∷ rest) next k = RequesterMeets one (ParagraphMeets rest next) k

    -- the paragraphs from one on, of which each runs on into the next
    abbrev pub ParagraphsMeet : List Paragraph → RequesterMoment → Type 0
    ParagraphsMeet [] k = Unit {0}
    ParagraphsMeet (paragraph ∷ paragraphs) k = ParagraphMeets paragraph.body (ParagraphsMeet paragraphs) k

  -- a turn of a paragraph; d: how many more PERFORMs may be active
  abbrev pub TurnMeets : ℕ → Word → (RequesterMoment → Type 0) → RequesterMoment → Type 0
  TurnMeets zero paragraph next k = Unit {0}
  TurnMeets (suc d) paragraph next k = ParagraphMeets (TurnMeets d) (body_named program paragraph) next k

  -- the whole program, from its start
  abbrev pub ProgramMeets : Type 0
  ProgramMeets =
      ParagraphsMeet (TurnMeets most_performs) program.paragraphs
      (record { texts = texts_in (initial_store program); registers = no_registers; inside = false; sent = [] })
