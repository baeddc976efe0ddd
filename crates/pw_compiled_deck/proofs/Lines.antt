-- What the failure lines of a deck name is there, and there are not too many.
use Rattle.std.proofs.Common.{◌≡◌, ℕ, ◌+◌, ◌<◌, Bool, true, false, List, [], ◌∷◌, ◌++◌, length, Option, None, Some, Result, Ok, Err, IfOk, refl, ap, ◌∙◌, arith, length-append}
use Rattle.std.specs.Prelude.{◌≤◌, nat_le, slice_index_or, ◌==◌, if◌then◌else◌}
use Rattle.std.proofs.lemmas.Bool.{leb-false}
use Rattle.pw_base.specs.declared.fault.Fault.{Fault}
use Rattle.pw_base.specs.declared.fault_code.FaultCode.TheVariants.{BadFailureLine, TooMany}
use Rattle.pw_code.specs.Limits.{most_fail_lines}
use Rattle.pw_code.specs.declared.lock.LockRule.TheVariants.{ReadersShare}
use Rattle.pw_code.specs.declared.system.System.{System}
use Rattle.pw_event.specs.Line.{no_class}
use Rattle.pw_event.specs.Parsing.{failure_in}
use Rattle.pw_event.specs.declared.fault.EventFault.{EventFault}
use Rattle.pw_event.specs.declared.script.FailLine.{FailLine}
use Rattle.pw_event.specs.declared.script.FailLine.TheVariants as line
use Rattle.pw_sections.specs.Lines.{lines}
use Rattle.pw_sections.specs.Steps.{◌>>=◌, refused, is_blank, line_taken, each_line}
use Rattle.pw_operands.specs.Resolved.{Each}
use Rattle.pw_log_lines.specs.Fail.{failure_counted, failures_counted, failure_read, failures_of}
use Rattle.pw_log_lines.specs.Grammar.{nobody, is_bad, or_unknown}
use Rattle.pw_tree_meaning.proofs.storage.Places.{each-append}
use Rattle.pw_deck_tables.proofs.Commands.{and_then, Any, any_of}
use Rattle.pw_deck_tables.specs.Pieces.{DeckPieceModel}
use Rattle.pw_deck_tables.specs.Unknown.{failures_in}
use Rattle.pw_compiled_deck.specs.Named.{IsFailNamed}
use Rattle.pw_compiled_deck.proofs.Failures.{failure-named}

-- in a system with the same pairs and classes it is there too
pub line-like : (a b : System) → a.tcps ≡ b.tcps → a.classes ≡ b.classes → (one : FailLine) → IsFailNamed a one → IsFailNamed b one
line-like a b pairs classes (line.Tcp p primary after) there = (omega (arith, there.0, ap length pairs), there.1)
line-like a b pairs classes (line.Server c i after) there =
    ((omega (arith, there.0.0, ap length classes), omega (arith, there.0.1, ap (λ all. (slice_index_or all c no_class).processes) classes)), there.1)

module _ (system : System) where
  known-there : (number : ℕ) (r : Result FailLine EventFault) → IfOk r (IsFailNamed system) → IfOk (or_unknown number r) (IsFailNamed system)
  known-there number (Ok one) is = is
  known-there number (Err fault) is = tt

  step-there : (number : ℕ) (fails : List FailLine) (text : List ℕ) → Each (IsFailNamed system) fails → IfOk (failure_read system number fails text) (Each (IsFailNamed system))
  step-there number fails text all =
      and_then (or_unknown number (failure_in system text)) _ (IsFailNamed system) (Each (IsFailNamed system)) (known-there number (failure_in system text) (failure-named system text))
      (λ one there. each-append (IsFailNamed system) fails (one ∷ []) all (there, tt))

  taken-there : (number : ℕ) (fails : List FailLine) (text : List ℕ) → Each (IsFailNamed system) fails → IfOk (line_taken (failure_read system) number fails text) (Each (IsFailNamed system))
  taken-there number fails text all = by (is_blank text)
    where
      by : (b : Bool) → IfOk (if b then Ok fails else failure_read system number fails text) (Each (IsFailNamed system))
      by true = all
      by false = step-there number fails text all

  lines-there : (number : ℕ) (fails : List FailLine) (texts : List (List ℕ)) → Each (IsFailNamed system) fails → IfOk (each_line (failure_read system) number fails texts) (Each (IsFailNamed system))
  unfolding each_line
  lines-there number fails [] all = all
  lines-there number fails (text ∷ rest) all =
      and_then (line_taken (failure_read system) number fails text) _ (Each (IsFailNamed system)) (Each (IsFailNamed system)) (taken-there number fails text all)
      (λ next more. lines-there (number + 1) next rest more)

  -- those of a piece of a deck
  pub fails-there : (piece : Option DeckPieceModel) → IfOk (failures_in system piece) (Each (IsFailNamed system))
  fails-there None = tt
  fails-there (Some piece) = lines-there piece.first_line [] (lines piece.bytes) tt

-- ---- how many there are

-- the failure lines of a piece were counted
abbrev pub IsCounted : Option DeckPieceModel → Type 0
IsCounted None = Unit {0}
IsCounted (Some piece) = (count : ℕ) × (failures_counted piece.bytes piece.first_line ≡ Ok count)

abbrev AreFew : List FailLine → Type 0
AreFew fails = length fails ≤ most_fail_lines

one-more : (system : System) (number : ℕ) (fails : List FailLine) (text : List ℕ) → IfOk (failure_read system number fails text) (λ all. length all ≡ length fails + 1)
one-more system number fails text =
    and_then (or_unknown number (failure_in system text)) _ Any (λ (all : List FailLine). length all ≡ length fails + 1) (any_of (or_unknown number (failure_in system text)))
    (λ one h. length-append fails (one ∷ []))

few-lines : (system : System) (texts : List (List ℕ)) (number : ℕ) (fails : List FailLine) → AreFew fails → (total : ℕ) → each_line failure_counted number (length fails) texts ≡ Ok total
    → IfOk (each_line (failure_read system) number fails texts) AreFew
unfolding each_line
few-lines system [] number fails few total is = few
few-lines system (text ∷ rest) number fails few total is = by (λ next small ok. few-lines system rest (number + 1) next small total ok) (is_blank text) is
  where
    read : ((next : List FailLine) → AreFew next → each_line failure_counted (number + 1) (length next) rest ≡ Ok total → IfOk (each_line (failure_read system) (number + 1) next rest) AreFew)
        → (full : Bool) → nat_le most_fail_lines (length fails) ≡ full → (bad : Bool)
        → (if bad then refused number BadFailureLine else (if full then refused number TooMany else Ok (length fails + 1)))
        >>= (λ (next : ℕ). each_line failure_counted (number + 1) next rest) ≡ Ok total
        → IfOk (failure_read system number fails text >>= (λ next. each_line (failure_read system) (number + 1) next rest)) AreFew
    read more full has true ok = absurd cc
    read more true has false ok = absurd cc
    read more false has false ok =
        let room = leb-false most_fail_lines (length fails) has in
        and_then (failure_read system number fails text) _ (λ (all : List FailLine). length all ≡ length fails + 1) AreFew (one-more system number fails text)
        (λ next long. more next (omega (arith, long, room)) (ap (λ n. each_line failure_counted (number + 1) n rest) long ∙ ok))

    by : ((next : List FailLine) → AreFew next → each_line failure_counted (number + 1) (length next) rest ≡ Ok total → IfOk (each_line (failure_read system) (number + 1) next rest) AreFew)
        → (b : Bool) → (if b then Ok (length fails) else failure_counted number (length fails) text) >>= (λ (next : ℕ). each_line failure_counted (number + 1) next rest) ≡ Ok total
        → IfOk ((if b then Ok fails else failure_read system number fails text) >>= (λ next. each_line (failure_read system) (number + 1) next rest)) AreFew
    by more true ok = more fails few ok
    by more false ok = read more (nat_le most_fail_lines (length fails)) refl (is_bad (failure_in (nobody ReadersShare) text)) ok

pub few-fails : (system : System) (piece : Option DeckPieceModel) → IsCounted piece → IfOk (failures_in system piece) (λ fails. length fails ≤ most_fail_lines)
few-fails system None counted = omega arith
few-fails system (Some piece) counted = few-lines system (lines piece.bytes) piece.first_line [] (omega arith) counted.0 counted.1
