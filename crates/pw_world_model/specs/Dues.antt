-- Which failure lines have no FAIL entry yet, and how many entries belong to each pair and class.
use Rattle.std.specs.Prelude.{◌≡◌, ℕ, ◌+◌, ◌<◌, nat_le, not, Bool, List, [], ◌∷◌, length, filter, find, replicate, slice_index_or, slice_set, Option, Some, None, if◌then◌else◌}
use Rattle.std.specs.List.{list_any}
use Rattle.pw_event.specs.Due.{after_of, owner_entry_count, is_fail_of, is_same_owner, owner_of, owner_of_line}
use Rattle.pw_event.specs.declared.event.Event.{Event}
use Rattle.pw_event.specs.declared.script.FailLine.{FailLine}
use Rattle.pw_event.specs.declared.script.Owner.{Owner}
use Rattle.pw_event.specs.declared.script.Owner.TheVariants.{Tcp, Class}
use Rattle.pw_world_model.specs.declared.due.OpenLine.{OpenLine}

-- what is kept of failure lines: those without a FAIL entry, in order, and the counts
pub record DueBook : Type 0 where
  pub waiting : List OpenLine
  pub tcps : List ℕ
  pub classes : List ℕ

-- ---- what is due

-- how many entries belong to an owner
abbrev pub count_of : DueBook → Owner → ℕ
count_of book (Tcp p) = slice_index_or book.tcps p 0
count_of book (Class c) = slice_index_or book.classes c 0

-- the line is of the owner
abbrev pub is_line_of : Owner → OpenLine → Bool
is_line_of owner one = is_same_owner (owner_of_line one.line) owner

-- a line is due where its owner has at least as many entries as it says
abbrev pub if_due : ℕ → Option OpenLine → Option ℕ
if_due entries None = None
if_due entries (Some one) = if nat_le (after_of one.line) entries then Some one.number else None

-- the line of an owner that is due
abbrev pub due_in : DueBook → Owner → Option ℕ
due_in book owner = if_due (count_of book owner) (find (is_line_of owner) book.waiting)

-- ---- one more entry

-- one entry more of an owner
abbrev pub due_entry_counted : Owner → DueBook → DueBook
due_entry_counted (Tcp p) book = record book { tcps = slice_set book.tcps p (slice_index_or book.tcps p 0 + 1) }
due_entry_counted (Class c) book =
    record book { classes = slice_set book.classes c (slice_index_or book.classes c 0 + 1) }

-- the lines but that whose FAIL entry this is
abbrev pub without_fail : Event → List OpenLine → List OpenLine
without_fail entry lines = filter (λ line. not (is_fail_of line.number entry)) lines

-- the book of failure lines behind one more entry
abbrev pub after_entry : (ℕ → ℕ) → Event → DueBook → DueBook
after_entry pair_of entry book =
    due_entry_counted (owner_of pair_of entry) (record book { waiting = without_fail entry book.waiting })

-- ---- of a log

-- the lines with their numbers, of which the first is k
abbrev pub opened_from : ℕ → List FailLine → List OpenLine
opened_from k [] = []
opened_from k (line ∷ lines) = record { number = k; line = line } ∷ opened_from (k + 1) lines

-- before the first entry
abbrev pub first_book : ℕ → ℕ → List FailLine → DueBook
first_book tcps classes lines =
    record { waiting = opened_from 1 lines; tcps = replicate tcps 0; classes = replicate classes 0 }

-- the lines without a FAIL entry in the log
abbrev pub open_behind : List FailLine → List Event → List OpenLine
open_behind lines log = filter (λ one. not (list_any (is_fail_of one.number) log)) (opened_from 1 lines)

-- the counts are those of the log, for each pair and class
pub record IsBookOf (tcps classes : ℕ) (pair_of : ℕ → ℕ) (lines : List FailLine) (log : List Event)
    (book : DueBook) : Type 0 where
  pub waiting_is : book.waiting ≡ open_behind lines log
  pub tcp_count : length book.tcps ≡ tcps
  pub class_count : length book.classes ≡ classes
  pub tcps_are : (p : ℕ) → p < tcps → slice_index_or book.tcps p 0 ≡ owner_entry_count pair_of (Tcp p) log
  pub classes_are : (c : ℕ) → c < classes → slice_index_or book.classes c 0 ≡ owner_entry_count pair_of (Class c) log

-- the owner is one of so many pairs and classes
abbrev pub IsOwner : ℕ → ℕ → Owner → Type 0
IsOwner tcps classes (Tcp p) = p < tcps
IsOwner tcps classes (Class c) = c < classes
