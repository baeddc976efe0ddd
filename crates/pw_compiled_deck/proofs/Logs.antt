-- The log of a deck has not too many entries.
use Rattle.std.proofs.Common.{◌≡◌, ℕ, ◌+◌, ◌<◌, ◌≤◌, Bool, true, false, List, [], ◌∷◌, ◌++◌, length, Option, None, Some, Result, Ok, Err, IfOk, refl, ap, ◌∙◌, arith, length-append}
use Rattle.std.specs.Prelude.{nat_le, if◌then◌else◌}
use Rattle.std.proofs.lemmas.Bool.{leb-false}
use Rattle.pw_base.specs.declared.fault.Fault.{Fault}
use Rattle.pw_base.specs.declared.fault_code.FaultCode.TheVariants.{BadLogLine, TooMany}
use Rattle.pw_code.specs.Limits.{most_log_lines}
use Rattle.pw_code.specs.declared.lock.LockRule.{LockRule}
use Rattle.pw_code.specs.declared.system.System.{System}
use Rattle.pw_event.specs.declared.event.Event.{Event}
use Rattle.pw_sections.specs.Lines.{lines}
use Rattle.pw_sections.specs.Steps.{◌>>=◌, refused, is_blank, each_line}
use Rattle.pw_log_lines.specs.Grammar.{nobody, is_bad, or_unknown}
use Rattle.pw_log_lines.specs.Log.{Opened, entries_counted, entry_counted, event_read, numbered_entry, opened, rule_of}
use Rattle.pw_deck_tables.proofs.Commands.{and_then, Any, any_of}
use Rattle.pw_deck_tables.specs.Pieces.{DeckPieceModel}
use Rattle.pw_deck_tables.specs.Unknown.{events_in}

-- the entries of a piece were counted
abbrev pub IsLogCounted : Option DeckPieceModel → Type 0
IsLogCounted None = Unit {0}
IsLogCounted (Some piece) = (count : ℕ) × (entries_counted piece.bytes piece.first_line ≡ Ok count)

abbrev AreFew : List Event → Type 0
AreFew events = length events ≤ most_log_lines

one-more : (system : System) (number : ℕ) (events : List Event) (text : List ℕ) → IfOk (event_read system number events text) (λ all. length all ≡ length events + 1)
one-more system number events text =
    and_then (or_unknown number (numbered_entry system (length events + 1) text)) _ Any (λ (all : List Event). length all ≡ length events + 1)
    (any_of (or_unknown number (numbered_entry system (length events + 1) text)))
    (λ one h. length-append events (one ∷ []))

few-lines : (rule : LockRule) (system : System) (texts : List (List ℕ)) (number : ℕ) (events : List Event) → AreFew events → (total : ℕ)
    → each_line (entry_counted rule) number (length events) texts ≡ Ok total
    → IfOk (each_line (event_read system) number events texts) AreFew
unfolding each_line
few-lines rule system [] number events few total is = few
few-lines rule system (text ∷ rest) number events few total is =
    by (λ next small ok. few-lines rule system rest (number + 1) next small total ok) (is_blank text) is
  where
    read : ((next : List Event) → AreFew next → each_line (entry_counted rule) (number + 1) (length next) rest ≡ Ok total
        → IfOk (each_line (event_read system) (number + 1) next rest) AreFew)
        → (full : Bool) → nat_le most_log_lines (length events) ≡ full → (bad : Bool)
        → (if bad then refused number BadLogLine else (if full then refused number TooMany else Ok (length events + 1)))
        >>= (λ (next : ℕ). each_line (entry_counted rule) (number + 1) next rest) ≡ Ok total
        → IfOk (event_read system number events text >>= (λ next. each_line (event_read system) (number + 1) next rest)) AreFew
    read more full has true ok = absurd cc
    read more true has false ok = absurd cc
    read more false has false ok =
        let room = leb-false most_log_lines (length events) has in
        and_then (event_read system number events text) _ (λ (all : List Event). length all ≡ length events + 1) AreFew (one-more system number events text)
        (λ next long. more next (omega (arith, long, room)) (ap (λ n. each_line (entry_counted rule) (number + 1) n rest) long ∙ ok))

    by : ((next : List Event) → AreFew next → each_line (entry_counted rule) (number + 1) (length next) rest ≡ Ok total
        → IfOk (each_line (event_read system) (number + 1) next rest) AreFew)
        → (b : Bool)
        → (if b then Ok (length events) else entry_counted rule number (length events) text)
        >>= (λ (next : ℕ). each_line (entry_counted rule) (number + 1) next rest) ≡ Ok total
        → IfOk ((if b then Ok events else event_read system number events text) >>= (λ next. each_line (event_read system) (number + 1) next rest)) AreFew
    by more true ok = more events few ok
    by more false ok =
        read more (nat_le most_log_lines (length events)) refl (is_bad (numbered_entry (nobody rule) (length events + 1) text)) ok

-- those of a log are few
pub few-entries : (system : System) (piece : Option DeckPieceModel) → IsLogCounted piece → IfOk (events_in system piece) (λ events. length events ≤ most_log_lines)
few-entries system None counted = omega arith
few-entries system (Some piece) counted =
    let log : Opened = opened piece.first_line (lines piece.bytes) in
    few-lines (rule_of log.version) system log.lines log.first_line [] (omega arith) counted.0 counted.1
