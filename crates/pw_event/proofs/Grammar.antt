-- A line of the grammar is not read as a bad one.
use Rattle.std.proofs.Common.{◌≡◌, ℕ, ◌<◌, ◌≤◌, ◌^◌, List, [], ◌∷◌, map, Bool, true, false, cond, Option, Some, None, Ok, Err}
use Rattle.std.specs.Fmt.{decimal}
use Rattle.std.specs.List.{AllByRecursion}
use Rattle.pw_code.specs.declared.file.FileOp.{FileOp}
use Rattle.pw_code.specs.declared.lock.LockMode.{LockMode}
use Rattle.pw_code.specs.declared.lock.LockRule.{LockRule}
use Rattle.pw_code.specs.declared.lock.LockRule.TheVariants.{ReadersShare, AllExclusive}
use Rattle.pw_code.specs.declared.system.System.{System}
use Rattle.pw_event.specs.declared.event.Cause.TheVariants as cause
use Rattle.pw_event.specs.declared.event.Ending.TheVariants as ending
use Rattle.pw_event.specs.declared.event.Event.{Event}
use Rattle.pw_event.specs.declared.event.Event.TheVariants.{Show, Key, CheckStart, CheckEnd, CheckCopy, Applied, Begin, Send, Take, File, Reply, Again, Commit, Back, Restart, FailTcp, FailServer, Takeover, Raise, End}
use Rattle.pw_event.specs.declared.fault.EventFault.TheVariants.{Unknown}
use Rattle.pw_event.specs.Keywords.{keyword}
use Rattle.pw_event.specs.Line.{NamesByNumber, spelling, event_words, HasLine, IsInRange}
use Rattle.pw_event.specs.Reading.{AreFormed}
use Rattle.pw_code.specs.Names.{may_name}
use Rattle.pw_event.specs.Parsing.{or_unknown, among, terminal, pair, class, file, process, fault_of, cause_of, cause_in, ending_of, show, terminal_and_number, check, applied, begin, send, take_line_event, file_at, file_line, reply, restart, fail_tcp, fail_server, failure_of, fail, takeover, raise, end, line_of, event_of, member}
use Rattle.pw_event.proofs.Numbers.{counted-decimal}
use Rattle.pw_event.proofs.Leaves.{number_of, code_of, refresh_of, named_formed, op_of, mode_of}
use Rattle.pw_event.proofs.Steps.{InGrammar, in_grammar}

or_unknown_in : {A : Type 0} (found : Option A) → InGrammar (or_unknown found)
or_unknown_in None = tt
or_unknown_in (Some thing) = tt

pub cond_in : {A : Type 0} (b : Bool) (value : A) → InGrammar (cond b (Ok value) (Err Unknown))
cond_in true value = tt
cond_in false value = tt

pub among_in : (names : List (List ℕ)) (word : List ℕ) → InGrammar (among names word)
unfolding among
among_in names word = or_unknown_in _

terminal_in : (system : System) (word : List ℕ) → may_name word ≡ true → InGrammar (terminal system word)
unfolding terminal
terminal_in system word formed = rw (named_formed word formed) (among_in _ _)

pair_in : (system : System) (word : List ℕ) → may_name word ≡ true → InGrammar (pair system word)
unfolding pair
pair_in system word formed = rw (named_formed word formed) (among_in _ _)

class_in : (system : System) (word : List ℕ) → may_name word ≡ true → InGrammar (class system word)
unfolding class
class_in system word formed = rw (named_formed word formed) (among_in _ _)

file_in : (system : System) (word : List ℕ) → may_name word ≡ true → InGrammar (file system word)
unfolding file
file_in system word formed = rw (named_formed word formed) (among_in _ _)

process_in : (system : System) (c : List ℕ) (i : ℕ) → may_name c ≡ true → (1 ≤ i) × (i < 2 ^ 32) → InGrammar (process system c (decimal i))
unfolding process
process_in system c i formed fits = rw (named_formed c formed, counted-decimal i fits) (in_grammar _ _ (class_in system c formed) (λ c. cond_in _ _))

-- the words of an entry under some names
abbrev pub spelled : NamesByNumber → LockRule → Event → List (List ℕ)
spelled names rule event = map (spelling names) (event_words rule event)

-- the words behind the first
abbrev behind_first : List (List ℕ) → List (List ℕ)
behind_first [] = []
behind_first (word ∷ words) = words

file_grammar : (system : System) (names : NamesByNumber) → AreFormed names → (rule : LockRule) (c i : ℕ) (o : FileOp) (m : LockMode) (f s : ℕ) → HasLine rule (File c i o m f s)
    → AllByRecursion IsInRange (event_words rule (File c i o m f s)) → InGrammar (file_line system rule (behind_first (spelled names rule (File c i o m f s))))
unfolding file_line file_at
file_grammar system names formed ReadersShare c i o m f s line range =
    rw (mode_of m, op_of o line.0, named_formed (names.file f) (formed.file f), code_of s range.1.1.1.1.1.1.0) (in_grammar _ _ (process_in system (names.class c) i (formed.class c) range.1.1.0) (λ p. in_grammar _ _ (file_in system (names.file f) (formed.file f)) (λ f. tt)))
file_grammar system names formed AllExclusive c i o m f s line range =
    rw (op_of o line.0, named_formed (names.file f) (formed.file f), code_of s range.1.1.1.1.1.0) (in_grammar _ _ (process_in system (names.class c) i (formed.class c) range.1.1.0) (λ p. in_grammar _ _ (file_in system (names.file f) (formed.file f)) (λ f. tt)))

pub grammar : (system : System) (names : NamesByNumber) → AreFormed names → (event : Event) → HasLine system.rule event → AllByRecursion IsInRange (event_words system.rule event)
    → InGrammar (event_of system (spelled names system.rule event))
unfolding event_of line_of keyword show terminal_and_number check applied begin send take_line_event reply fault_of restart cause_in cause_of fail failure_of fail_tcp fail_server takeover raise end ending_of member
grammar system names formed (Show t p a k) line range = rw (refresh_of p a k range.1.1.0) (in_grammar _ _ (terminal_in system (names.terminal t) (formed.terminal t)) (λ t. tt))
grammar system names formed (Key t k) line range = rw (number_of k range.1.1.0) (in_grammar _ _ (in_grammar _ _ (terminal_in system (names.terminal t) (formed.terminal t)) (λ t. tt)) (λ r. tt))
grammar system names formed (CheckStart t) line range = in_grammar _ _ (terminal_in system (names.terminal t) (formed.terminal t)) (λ t. tt)
grammar system names formed (CheckEnd t) line range = in_grammar _ _ (terminal_in system (names.terminal t) (formed.terminal t)) (λ t. tt)
grammar system names formed (CheckCopy t) line range = in_grammar _ _ (terminal_in system (names.terminal t) (formed.terminal t)) (λ t. tt)
grammar system names formed (Applied t) line range = in_grammar _ _ (terminal_in system (names.terminal t) (formed.terminal t)) (λ t. tt)
grammar system names formed (Begin t n r) line range = rw (number_of n range.1.1.0, number_of r range.1.1.1.0) (in_grammar _ _ (terminal_in system (names.terminal t) (formed.terminal t)) (λ t. tt))
grammar system names formed (Send t n c) line range = rw (named_formed (names.class c) (formed.class c), number_of n range.1.1.0) (in_grammar _ _ (terminal_in system (names.terminal t) (formed.terminal t)) (λ t. in_grammar _ _ (class_in system (names.class c) (formed.class c)) (λ c. tt)))
grammar system names formed (Take c i t) line range = rw (named_formed (names.terminal t) (formed.terminal t)) (in_grammar _ _ (process_in system (names.class c) i (formed.class c) range.1.1.0) (λ p. in_grammar _ _ (terminal_in system (names.terminal t) (formed.terminal t)) (λ t. tt)))
grammar system names formed (File c i o m f s) line range = file_grammar system names formed system.rule c i o m f s line range
grammar system names formed (Reply c i t None) line range = rw (named_formed (names.terminal t) (formed.terminal t)) (in_grammar _ _ (process_in system (names.class c) i (formed.class c) range.1.1.0) (λ p. in_grammar _ _ (terminal_in system (names.terminal t) (formed.terminal t)) (λ t. tt)))
grammar system names formed (Reply c i t (Some x)) line range = rw (code_of x range.1.1.1.1.1.0, named_formed (names.terminal t) (formed.terminal t)) (in_grammar _ _ (process_in system (names.class c) i (formed.class c) range.1.1.0) (λ p. in_grammar _ _ (terminal_in system (names.terminal t) (formed.terminal t)) (λ t. tt)))
grammar system names formed (Again t n) line range = rw (number_of n range.1.1.0) (in_grammar _ _ (in_grammar _ _ (terminal_in system (names.terminal t) (formed.terminal t)) (λ t. tt)) (λ r. tt))
grammar system names formed (Commit t n) line range = rw (number_of n range.1.1.0) (in_grammar _ _ (in_grammar _ _ (terminal_in system (names.terminal t) (formed.terminal t)) (λ t. tt)) (λ r. tt))
grammar system names formed (Back t n) line range = rw (number_of n range.1.1.0) (in_grammar _ _ (in_grammar _ _ (terminal_in system (names.terminal t) (formed.terminal t)) (λ t. tt)) (λ r. tt))
grammar system names formed (Restart t n (cause.Older o m)) line range = rw (named_formed (names.terminal t) (formed.terminal t), number_of n range.1.1.0, named_formed (names.terminal o) (formed.terminal o), number_of m range.1.1.1.1.1.0) (in_grammar _ _ (in_grammar _ _ (terminal_in system (names.terminal o) (formed.terminal o)) (λ o. tt)) (λ c. in_grammar _ _ (terminal_in system (names.terminal t) (formed.terminal t)) (λ t. tt)))
grammar system names formed (Restart t n (cause.Takeover p)) line range = rw (named_formed (names.terminal t) (formed.terminal t), number_of n range.1.1.0) (in_grammar _ _ (in_grammar _ _ (pair_in system (names.pair p) (formed.pair p)) (λ p. tt)) (λ c. in_grammar _ _ (terminal_in system (names.terminal t) (formed.terminal t)) (λ t. tt)))
grammar system names formed (Restart t n (cause.Server k)) line range = rw (named_formed (names.terminal t) (formed.terminal t), number_of n range.1.1.0, counted-decimal k range.1.1.1.1.0) (in_grammar _ _ (terminal_in system (names.terminal t) (formed.terminal t)) (λ t. tt))
grammar system names formed (Restart t n cause.Redo) line range = rw (named_formed (names.terminal t) (formed.terminal t), number_of n range.1.1.0) (in_grammar _ _ (terminal_in system (names.terminal t) (formed.terminal t)) (λ t. tt))
grammar system names formed (FailTcp p true k) line range = rw (counted-decimal k range.1.1.1.1.0) (in_grammar _ _ (pair_in system (names.pair p) (formed.pair p)) (λ p. tt))
grammar system names formed (FailTcp p false k) line range = rw (counted-decimal k range.1.1.1.1.0) (in_grammar _ _ (pair_in system (names.pair p) (formed.pair p)) (λ p. tt))
grammar system names formed (FailServer c i k) line range = rw (counted-decimal k range.1.1.1.1.0) (in_grammar _ _ (process_in system (names.class c) i (formed.class c) range.1.1.1.0) (λ p. tt))
grammar system names formed (Takeover p) line range = in_grammar _ _ (pair_in system (names.pair p) (formed.pair p)) (λ p. tt)
grammar system names formed (Raise p) line range = in_grammar _ _ (pair_in system (names.pair p) (formed.pair p)) (λ p. tt)
grammar system names formed (End t ending.Stopped) line range = rw (named_formed (names.terminal t) (formed.terminal t)) (in_grammar _ _ (terminal_in system (names.terminal t) (formed.terminal t)) (λ t. tt))
grammar system names formed (End t ending.NoEntries) line range = rw (named_formed (names.terminal t) (formed.terminal t)) (in_grammar _ _ (terminal_in system (names.terminal t) (formed.terminal t)) (λ t. tt))
grammar system names formed (End t (ending.Fault x)) line range = rw (named_formed (names.terminal t) (formed.terminal t), code_of x range.1.1.1.0) (in_grammar _ _ (terminal_in system (names.terminal t) (formed.terminal t)) (λ t. tt))
grammar system names formed (End t (ending.Suspended (cause.Older o m))) line range = rw (named_formed (names.terminal t) (formed.terminal t), named_formed (names.terminal o) (formed.terminal o), number_of m range.1.1.1.1.1.0) (in_grammar _ _ (in_grammar _ _ (in_grammar _ _ (terminal_in system (names.terminal o) (formed.terminal o)) (λ o. tt)) (λ c. tt)) (λ c. in_grammar _ _ (terminal_in system (names.terminal t) (formed.terminal t)) (λ t. tt)))
grammar system names formed (End t (ending.Suspended (cause.Takeover p))) line range = rw (named_formed (names.terminal t) (formed.terminal t)) (in_grammar _ _ (in_grammar _ _ (in_grammar _ _ (pair_in system (names.pair p) (formed.pair p)) (λ p. tt)) (λ c. tt)) (λ c. in_grammar _ _ (terminal_in system (names.terminal t) (formed.terminal t)) (λ t. tt)))
grammar system names formed (End t (ending.Suspended (cause.Server k))) line range = rw (named_formed (names.terminal t) (formed.terminal t), counted-decimal k range.1.1.1.1.0) (in_grammar _ _ (terminal_in system (names.terminal t) (formed.terminal t)) (λ t. tt))
grammar system names formed (End t (ending.Suspended cause.Redo)) line range = rw (named_formed (names.terminal t) (formed.terminal t)) (in_grammar _ _ (terminal_in system (names.terminal t) (formed.terminal t)) (λ t. tt))
grammar system names formed (End t ending.Lost) line range = rw (named_formed (names.terminal t) (formed.terminal t)) (in_grammar _ _ (terminal_in system (names.terminal t) (formed.terminal t)) (λ t. tt))
