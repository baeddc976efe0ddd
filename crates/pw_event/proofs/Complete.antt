-- The line of an entry of a system is read as that entry.
use Rattle.std.proofs.Common.{◌≡◌, ℕ, List, [], ◌∷◌, map, true, false, Some, None, Ok, refl}
use Rattle.std.specs.List.{AllByRecursion}
use Rattle.pw_code.specs.Valid.{HasNames}
use Rattle.pw_code.specs.declared.file.FileOp.{FileOp}
use Rattle.pw_code.specs.declared.lock.LockMode.{LockMode}
use Rattle.pw_code.specs.declared.lock.LockRule.{LockRule}
use Rattle.pw_code.specs.declared.lock.LockRule.TheVariants.{ReadersShare, AllExclusive}
use Rattle.pw_code.specs.declared.system.System.{System}
use Rattle.pw_event.specs.declared.event.Cause.TheVariants as cause
use Rattle.pw_event.specs.declared.event.Ending.TheVariants as ending
use Rattle.pw_event.specs.declared.event.Event.{Event}
use Rattle.pw_event.specs.declared.event.Event.TheVariants.{Show, Key, CheckStart, CheckEnd, CheckCopy, Applied, Begin, Send, Take, File, Reply, Again, Commit, Back, Restart, FailTcp, FailServer, Takeover, Raise, End}
use Rattle.pw_event.specs.Keywords.{keyword}
use Rattle.pw_event.specs.Line.{spelling, names_of, event_words, HasLine, IsInRange, IsWordOfSystem}
use Rattle.pw_event.specs.Parsing.{fault_of, cause_of, cause_in, ending_of, show, terminal_and_number, check, applied, begin, send, take_line_event, file_at, file_line, reply, restart, fail_tcp, fail_server, failure_of, fail, takeover, raise, end, line_of, event_of, member}
use Rattle.pw_event.proofs.Numbers.{counted-decimal}
use Rattle.pw_event.proofs.Leaves.{number_of, code_of, refresh_of, named_terminal, named_class, named_file, terminal_of, pair_of, class_of, file_of, process_of, op_of, mode_of}

-- the words with which an entry of a system is spelled
abbrev pub words_of : System → LockRule → Event → List (List ℕ)
words_of system rule event = map (spelling (names_of system)) (event_words rule event)

-- the words behind the first
abbrev behind_first : List (List ℕ) → List (List ℕ)
behind_first [] = []
behind_first (word ∷ words) = words

-- FILE c i op m f s
file_complete : (system : System) → HasNames system → (rule : LockRule) (c i : ℕ) (o : FileOp) (m : LockMode) (f s : ℕ) → HasLine rule (File c i o m f s)
    → AllByRecursion IsInRange (event_words rule (File c i o m f s)) → AllByRecursion (IsWordOfSystem system) (event_words rule (File c i o m f s))
    → file_line system rule (behind_first (words_of system rule (File c i o m f s))) ≡ Ok (File c i o m f s)
unfolding file_line file_at
file_complete system names ReadersShare c i o m f s line range there =
    rw (mode_of m, op_of o line.0, named_file system names f there.1.1.1.1.1.0, code_of s range.1.1.1.1.1.1.0, process_of system names c i there.1.0 range.1.1.0 there.1.1.0, file_of system names f there.1.1.1.1.1.0) refl
file_complete system names AllExclusive c i o m f s line range there =
    rw (line.1, op_of o line.0, named_file system names f there.1.1.1.1.0, code_of s range.1.1.1.1.1.0, process_of system names c i there.1.0 range.1.1.0 there.1.1.0, file_of system names f there.1.1.1.1.0) refl

pub complete : (system : System) → HasNames system → (event : Event) → HasLine system.rule event → AllByRecursion IsInRange (event_words system.rule event) → AllByRecursion (IsWordOfSystem system) (event_words system.rule event)
    → event_of system (words_of system system.rule event) ≡ Ok event
unfolding event_of line_of keyword show terminal_and_number check applied begin send take_line_event reply fault_of restart cause_in cause_of fail failure_of fail_tcp fail_server takeover raise end ending_of member
complete system names (Show t p a k) line range there = rw (refresh_of p a k range.1.1.0, terminal_of system names t there.1.0) refl
complete system names (Key t k) line range there = rw (number_of k range.1.1.0, terminal_of system names t there.1.0) refl
complete system names (CheckStart t) line range there = rw (terminal_of system names t there.1.0) refl
complete system names (CheckEnd t) line range there = rw (terminal_of system names t there.1.0) refl
complete system names (CheckCopy t) line range there = rw (terminal_of system names t there.1.0) refl
complete system names (Applied t) line range there = rw (terminal_of system names t there.1.0) refl
complete system names (Begin t n r) line range there = rw (number_of n range.1.1.0, number_of r range.1.1.1.0, terminal_of system names t there.1.0) refl
complete system names (Send t n c) line range there = rw (named_class system names c there.1.1.1.0, number_of n range.1.1.0, terminal_of system names t there.1.0, class_of system names c there.1.1.1.0) refl
complete system names (Take c i t) line range there = rw (named_terminal system names t there.1.1.1.0, process_of system names c i there.1.0 range.1.1.0 there.1.1.0, terminal_of system names t there.1.1.1.0) refl
complete system names (File c i o m f s) line range there = file_complete system names system.rule c i o m f s line range there
complete system names (Reply c i t None) line range there = rw (named_terminal system names t there.1.1.1.0, process_of system names c i there.1.0 range.1.1.0 there.1.1.0, terminal_of system names t there.1.1.1.0) refl
complete system names (Reply c i t (Some x)) line range there = rw (code_of x range.1.1.1.1.1.0, named_terminal system names t there.1.1.1.0, process_of system names c i there.1.0 range.1.1.0 there.1.1.0, terminal_of system names t there.1.1.1.0) refl
complete system names (Again t n) line range there = rw (number_of n range.1.1.0, terminal_of system names t there.1.0) refl
complete system names (Commit t n) line range there = rw (number_of n range.1.1.0, terminal_of system names t there.1.0) refl
complete system names (Back t n) line range there = rw (number_of n range.1.1.0, terminal_of system names t there.1.0) refl
complete system names (Restart t n (cause.Older o m)) line range there = rw (named_terminal system names t there.1.0, number_of n range.1.1.0, named_terminal system names o there.1.1.1.1.0, number_of m range.1.1.1.1.1.0, terminal_of system names o there.1.1.1.1.0, terminal_of system names t there.1.0) refl
complete system names (Restart t n (cause.Takeover p)) line range there = rw (named_terminal system names t there.1.0, number_of n range.1.1.0, pair_of system names p there.1.1.1.1.0, terminal_of system names t there.1.0) refl
complete system names (Restart t n (cause.Server k)) line range there = rw (named_terminal system names t there.1.0, number_of n range.1.1.0, counted-decimal k range.1.1.1.1.0, terminal_of system names t there.1.0) refl
complete system names (Restart t n cause.Redo) line range there = rw (named_terminal system names t there.1.0, number_of n range.1.1.0, terminal_of system names t there.1.0) refl
complete system names (FailTcp p true k) line range there = rw (counted-decimal k range.1.1.1.1.0, pair_of system names p there.1.1.0) refl
complete system names (FailTcp p false k) line range there = rw (counted-decimal k range.1.1.1.1.0, pair_of system names p there.1.1.0) refl
complete system names (FailServer c i k) line range there = rw (counted-decimal k range.1.1.1.1.0, process_of system names c i there.1.1.0 range.1.1.1.0 there.1.1.1.0) refl
complete system names (Takeover p) line range there = rw (pair_of system names p there.1.0) refl
complete system names (Raise p) line range there = rw (pair_of system names p there.1.0) refl
complete system names (End t ending.Stopped) line range there = rw (named_terminal system names t there.1.0, terminal_of system names t there.1.0) refl
complete system names (End t ending.NoEntries) line range there = rw (named_terminal system names t there.1.0, terminal_of system names t there.1.0) refl
complete system names (End t (ending.Fault x)) line range there = rw (named_terminal system names t there.1.0, code_of x range.1.1.1.0, terminal_of system names t there.1.0) refl
complete system names (End t (ending.Suspended (cause.Older o m))) line range there = rw (named_terminal system names t there.1.0, named_terminal system names o there.1.1.1.1.0, number_of m range.1.1.1.1.1.0, terminal_of system names o there.1.1.1.1.0, terminal_of system names t there.1.0) refl
complete system names (End t (ending.Suspended (cause.Takeover p))) line range there = rw (named_terminal system names t there.1.0, pair_of system names p there.1.1.1.1.0, terminal_of system names t there.1.0) refl
complete system names (End t (ending.Suspended (cause.Server k))) line range there = rw (named_terminal system names t there.1.0, counted-decimal k range.1.1.1.1.0, terminal_of system names t there.1.0) refl
complete system names (End t (ending.Suspended cause.Redo)) line range there = rw (named_terminal system names t there.1.0, terminal_of system names t there.1.0) refl
complete system names (End t ending.Lost) line range there = rw (named_terminal system names t there.1.0, terminal_of system names t there.1.0) refl
