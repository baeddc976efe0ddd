-- One piece after the other.
use Rattle.std.proofs.Common.{◌≡◌, ℕ, List, [], ◌∷◌, ◌++◌, Bool, true, false, cond, Option, Some, None, Result, Ok, Err, OnOk, refl, sym, ap, ◌∙◌, append_assoc}
use Rattle.std.specs.Prelude.{◌||◌, is_some}
use Rattle.pw_base.specs.declared.memory.Memory.{Memory}
use Rattle.pw_base.specs.declared.fault.Fault.{Fault}
use Rattle.pw_base.specs.declared.fault_code.FaultCode.{FaultCode}
use Rattle.pw_base.specs.declared.fault_code.FaultCode.TheVariants.{NoSuchForm, NoIf}
use Rattle.pw_base.specs.First.{is_before, better, least, unless}
use Rattle.pw_base.proofs.FirstFault.{least-append}
use Rattle.pw_words.specs.Words.{Word}
use Rattle.pw_forms.specs.declared.statement.Statement.{Statement}
use Rattle.pw_forms.specs.declared.statement.Paragraph.{Paragraph}
use Rattle.pw_forms.specs.declared.statement.Procedure.{Procedure}
use Rattle.pw_forms.specs.declared.piece.Piece.{Piece}
use Rattle.pw_forms.specs.declared.piece.Piece.TheVariants as pieces
use Rattle.pw_forms.specs.declared.piece.Placed.{Placed}
use Rattle.pw_forms.specs.declared.branch.OpenParagraph.{OpenParagraph}
use Rattle.pw_forms.specs.declared.build.Begun.{Begun}
use Rattle.pw_forms.specs.declared.build.ParagraphBuilder.{ParagraphBuilder}
use Rattle.pw_forms.specs.declared.reading.ProcedureReading.{ProcedureReading}
use Rattle.pw_forms.specs.Faults.{PiecesBefore, nothing, is_paragraph_name, fits, code_unless, piece_fault_code, branches_after, taken_after, after_piece, early, fault_at, faults_from}
use Rattle.pw_forms.specs.Tree.{ParagraphsBehind, nothing_behind, Levels, Closed, AtElse, AtEndIf, prepend, behind_period, level_of, levels}
use Rattle.pw_forms.specs.Blocks.{branches, stands}
use Rattle.pw_forms.proofs.Nested.{nested-nil, prepend-nil}
use Rattle.pw_words.specs.Names.{has_name}
use Rattle.pw_forms.specs.Procedures.{outcome_of}
use Rattle.pw_forms.specs.Built.{completed, built, before_of, outcome}

-- ---- what is built

-- statements in front of what stands behind a period
abbrev pub with_front : List Statement → ParagraphsBehind → ParagraphsBehind
with_front front behind = record behind { statements = front ++ behind.statements }

pub behind_period-prepend : (front : List Statement) (x : Levels) → behind_period (prepend front x) ≡ with_front front (behind_period x)
behind_period-prepend front (Closed block behind) = ap (λ s. with_statements s behind) (append_assoc front block behind.statements)
  where
    with_statements : List Statement → ParagraphsBehind → ParagraphsBehind
    with_statements s behind = record behind { statements = s }
behind_period-prepend front (AtElse block rest) = refl
behind_period-prepend front (AtEndIf block rest) = refl

-- a name completes the paragraph before it and begins its own
pub named : (new old : ParagraphBuilder) (line : ℕ) (name : Word) (x : Levels) → new.begun ≡ Some (record { name = name; line = line }) → new.block.open.items ≡ []
    → new.block.current ≡ [] → ((behind : List Paragraph) → new.paragraphs ++ behind ≡ built old (Closed [] (record { statements = []; paragraphs = behind })))
    → built new x ≡ built old (level_of line (pieces.Name name) x)
named new old line name x begun none empty paragraphs =
    ap (λ b. new.paragraphs ++ completed b (behind_period (stands new.block x))) begun
    ∙ ap (λ y. new.paragraphs ++ completed (Some (record { name = name; line = line })) (behind_period y))
    (nested-nil new.block.open.items (prepend new.block.current x) none ∙ ap (λ c. prepend c x) empty ∙ prepend-nil x)
    ∙ paragraphs (completed (Some (record { name = name; line = line })) (behind_period x))

-- a period closes all branches
pub ended : (paragraphs : List Paragraph) (begun : Option Begun) (new old : OpenParagraph) (x : Levels) → new.open.items ≡ []
    → ((behind : ParagraphsBehind) → Closed new.current behind ≡ stands old (Closed [] behind))
    → paragraphs ++ completed begun (behind_period (stands new x)) ≡ paragraphs ++ completed begun (behind_period (stands old (Closed [] (behind_period x))))
ended paragraphs begun new old x none closes =
    ap (λ y. paragraphs ++ completed begun (behind_period y)) (nested-nil new.open.items (prepend new.current x) none)
    ∙ ap (λ b. paragraphs ++ completed begun b) (behind_period-prepend new.current x)
    ∙ ap (λ y. paragraphs ++ completed begun (behind_period y)) (closes (behind_period x))

-- the same of calls that may run out of memory
pub named-ok : (result : Result (Unit {0}) Memory) (new old : ParagraphBuilder) (line : ℕ) (name : Word) (piece : Piece) → piece ≡ pieces.Name name
    → OnOk result (new.begun ≡ Some (record { name = name; line = line })) → OnOk result (new.block.open.items ≡ []) → OnOk result (new.block.current ≡ [])
    → OnOk result ((behind : List Paragraph) → new.paragraphs ++ behind ≡ built old (Closed [] (record { statements = []; paragraphs = behind })))
    → OnOk result (fits (branches old.block.open.items) piece ≡ true → (x : Levels) → built new x ≡ built old (level_of line piece x))
named-ok (Ok done) new old line name piece is begun none empty paragraphs =
    λ fit x. named new old line name x begun none empty paragraphs ∙ ap (λ p. built old (level_of line p x)) (sym is)
named-ok (Err memory) new old line name piece is begun none empty paragraphs = tt

pub ended-ok : (result : Result (Unit {0}) Memory) (paragraphs : List Paragraph) (begun : Option Begun) (new old : OpenParagraph) (line : ℕ) (piece : Piece) → piece ≡ pieces.Period
    → OnOk result (new.open.items ≡ []) → OnOk result ((behind : ParagraphsBehind) → Closed new.current behind ≡ stands old (Closed [] behind))
    → OnOk result (fits (branches old.open.items) piece ≡ true → (x : Levels)
    → paragraphs ++ completed begun (behind_period (stands new x)) ≡ paragraphs ++ completed begun (behind_period (stands old (level_of line piece x))))
ended-ok (Ok done) paragraphs begun new old line piece is none closes =
    λ fit x. ended paragraphs begun new old x none closes ∙ ap (λ p. paragraphs ++ completed begun (behind_period (stands old (level_of line p x)))) (sym is)
ended-ok (Err memory) paragraphs begun new old line piece is none closes = tt

-- ---- the first fault

faulty-next : (test : Bool) (x known : Fault) (faults : List Fault) (a b : Procedure)
    → unless (least (Some x) faults) a ≡ unless (least (Some x) faults) b → unless (least (Some known) faults) a ≡ unless (least (Some known) faults) b
    → unless (least (cond test (Some x) (Some known)) faults) a ≡ unless (least (cond test (Some x) (Some known)) faults) b
faulty-next true x known faults a b with_x with_known = with_x
faulty-next false x known faults a b with_x with_known = with_known

-- where a fault is known, what was built does not count
pub faulty : (known : Fault) (faults : List Fault) (a b : Procedure) → unless (least (Some known) faults) a ≡ unless (least (Some known) faults) b
faulty known [] a b = refl
faulty known (x ∷ xs) a b = faulty-next (is_before x known) x known xs a b (faulty x xs a b) (faulty known xs a b)

some-better : (known : Option Fault) (fault : Fault) → (first : Fault) × (better known fault ≡ Some first)
some-better None fault = (fault, refl)
some-better (Some known) fault = some-better_by (is_before fault known)
  where
    some-better_by : (test : Bool) → (first : Fault) × (cond test (Some fault) (Some known) ≡ Some first)
    some-better_by true = (fault, refl)
    some-better_by false = (known, refl)

-- a piece that does not fit has a fault
pub misfit : (taken : Word → Bool) (branches : List Bool) (piece : Piece) → fits branches piece ≡ false → (code : FaultCode) × (piece_fault_code taken branches piece ≡ Some code)
misfit taken branches (pieces.Name name) is = absurd cc
misfit taken branches pieces.Period is = absurd cc
misfit taken branches (pieces.Whole statement) is = absurd cc
misfit taken branches (pieces.Opens head) is = (NoSuchForm, ap (λ b. code_unless b NoSuchForm) is)
misfit taken branches pieces.Else is = (NoIf, ap (λ b. code_unless b NoIf) is)
misfit taken branches pieces.EndIf is = (NoIf, ap (λ b. code_unless b NoIf) is)
misfit taken branches (pieces.Fault code) is = absurd cc

-- the faults of a piece are noted
pub noted : (known new : Option Fault) (line : ℕ) (first second : Option FaultCode) (faults : List Fault)
    → new ≡ least (least known (fault_at line first)) (fault_at line second)
    → least known ((fault_at line first ++ fault_at line second) ++ faults) ≡ least new faults
noted known new line first second faults new_is =
    least-append known (fault_at line first ++ fault_at line second) faults
    ∙ ap (λ k. least k faults) (least-append known (fault_at line first) (fault_at line second) ∙ sym new_is)

-- a fault that is noted is known
known_then : (known : Option Fault) (line : ℕ) (code : FaultCode) (second : Option FaultCode) → second ≡ Some code → (first : Fault) × (least known (fault_at line second) ≡ Some first)
known_then known line code second is =
    let found = some-better known (record { line = line; code = code }) in (found.0, ap (λ c. least known (fault_at line c)) is ∙ found.1)

-- what comes out is the same where a piece fits and was put, or has a fault that was noted
pub same_outcome : (known new : Option Fault) (line : ℕ) (first second : Option FaultCode) (faults : List Fault) (fit : Bool) (a b : Procedure)
    → new ≡ least (least known (fault_at line first)) (fault_at line second)
    → (fit ≡ true → a ≡ b) → (fit ≡ false → (code : FaultCode) × (second ≡ Some code))
    → unless (least new faults) a ≡ unless (least known ((fault_at line first ++ fault_at line second) ++ faults)) b
same_outcome known new line first second faults true a b new_is put has_fault =
    ap (unless (least new faults)) (put refl) ∙ ap (λ k. unless k b) (sym (noted known new line first second faults new_is))
same_outcome known new line first second faults false a b new_is put has_fault =
    let fault = has_fault refl in
    let found = known_then (least known (fault_at line first)) line fault.0 second fault.1 in
    let new_some : new ≡ Some found.0 = new_is ∙ found.1 in
    ap (λ k. unless (least k faults) a) new_some ∙ faulty found.0 faults a b ∙ ap (λ k. unless (least k faults) b) (sym new_some)
    ∙ ap (λ k. unless k b) (sym (noted known new line first second faults new_is))

-- what comes out behind a piece
pub outcome-put : (new old : ProcedureReading) (next : Placed) (pieces : List Placed) (first second : Option FaultCode)
    → first ≡ early (before_of old).begun next.piece → second ≡ piece_fault_code (before_of old).taken (before_of old).branches next.piece
    → new.known ≡ least (least old.known (fault_at next.line first)) (fault_at next.line second)
    → before_of new ≡ after_piece (before_of old) next.piece
    → (fits (before_of old).branches next.piece ≡ true → (x : Levels) → built new.build x ≡ built old.build (level_of next.line next.piece x))
    → outcome new pieces ≡ outcome old (next ∷ pieces)
unfolding faults_from levels
outcome-put new old next pieces first second first_is second_is known_is before_is put =
    ap (λ b. unless (least new.known (faults_from b pieces)) (record { paragraphs = built new.build (levels pieces) })) before_is
    ∙ same_outcome old.known new.known next.line first second (faults_from (after_piece (before_of old) next.piece) pieces) (fits (before_of old).branches next.piece)
    (record { paragraphs = built new.build (levels pieces) }) (record { paragraphs = built old.build (level_of next.line next.piece (levels pieces)) })
    known_is (λ fit. ap with_paragraphs (put fit (levels pieces)))
    (λ unfit. let fault = misfit (before_of old).taken (before_of old).branches next.piece unfit in (fault.0, second_is ∙ fault.1))
    ∙ rw (first_is, second_is) refl
  where
    with_paragraphs : List Paragraph → Procedure
    with_paragraphs paragraphs = record { paragraphs = paragraphs }

-- what a piece leaves, part by part
pub before-after : (new old : PiecesBefore) (piece : Piece) → new.begun ≡ (old.begun || is_paragraph_name piece) → new.taken ≡ taken_after old.taken piece
    → new.branches ≡ branches_after old.branches piece → new ≡ after_piece old piece
before-after new old piece begun taken branches_are = ap (λ b. with_parts b new.taken new.branches) begun
    ∙ ap (λ t. with_parts (old.begun || is_paragraph_name piece) t new.branches) taken ∙ ap (λ bs. with_parts (old.begun || is_paragraph_name piece) (taken_after old.taken piece) bs) branches_are
  where
    with_parts : Bool → (Word → Bool) → List Bool → PiecesBefore
    with_parts b t bs = record { begun = b; taken = t; branches = bs }

-- before the first piece nothing is left
before-start : (reading : ProcedureReading) → reading.names ≡ [] → reading.build.begun ≡ None → reading.build.block.open.items ≡ [] → before_of reading ≡ nothing
before-start reading keys begun none =
    ap (λ b. with_parts (is_some b) (has_name reading.names) (branches reading.build.block.open.items)) begun
    ∙ ap (λ names. with_parts false (has_name names) (branches reading.build.block.open.items)) keys
    ∙ ap (λ all. with_parts false (λ word. false) (branches all)) none
  where
    with_parts : Bool → (Word → Bool) → List Bool → PiecesBefore
    with_parts b t bs = record { begun = b; taken = t; branches = bs }

-- before the first piece
pub outcome-start : (reading : ProcedureReading) (pieces : List Placed) → reading.known ≡ None → reading.names ≡ []
    → reading.build.paragraphs ≡ [] → reading.build.begun ≡ None → reading.build.block.open.items ≡ [] → reading.build.block.current ≡ []
    → outcome reading pieces ≡ outcome_of pieces
outcome-start reading pieces known keys paragraphs begun none empty =
    ap (λ k. unless (least k (faults_from (before_of reading) pieces)) (record { paragraphs = built reading.build (levels pieces) })) known
    ∙ ap (λ b. unless (least None (faults_from b pieces)) (record { paragraphs = built reading.build (levels pieces) })) (before-start reading keys begun none)
    ∙ ap (λ ps. unless (least None (faults_from nothing pieces)) (record { paragraphs = ps }))
    (ap (λ ps. ps ++ completed reading.build.begun (behind_period (stands reading.build.block (levels pieces)))) paragraphs
    ∙ ap (λ b. completed b (behind_period (stands reading.build.block (levels pieces)))) begun
    ∙ ap (λ x. (behind_period x).paragraphs)
    (nested-nil reading.build.block.open.items (prepend reading.build.block.current (levels pieces)) none ∙ ap (λ c. prepend c (levels pieces)) empty ∙ prepend-nil (levels pieces)))

-- behind the last piece
pub outcome-faulty : (reading : ProcedureReading) (fault : Fault) → reading.known ≡ Some fault → outcome reading [] ≡ Err fault
unfolding faults_from
outcome-faulty reading fault is = ap (λ k. unless k (record { paragraphs = built reading.build (levels []) })) is

pub outcome-good : (reading : ProcedureReading) (paragraphs : List Paragraph) → reading.known ≡ None → paragraphs ≡ built reading.build (Closed [] nothing_behind)
    → outcome reading [] ≡ Ok (record { paragraphs = paragraphs })
unfolding faults_from levels
outcome-good reading paragraphs is paragraphs_are =
    ap (λ k. unless k (record { paragraphs = built reading.build (Closed [] nothing_behind) })) is ∙ ap (λ ps. Ok (record { paragraphs = ps })) (sym paragraphs_are)
