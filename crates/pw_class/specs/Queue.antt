-- A class: the requests that wait for it, and what its processes work on. Processes count from 1.
use Rattle.std.specs.Prelude.{◌≡◌, IsTrue, ◌||◌, ℕ, ◌+◌, ◌-◌, ◌==◌, List, [], ◌∷◌, ◌++◌, Bool, false, not, Option, Some, None, is_none, map, filter, position, slice_index_or, slice_set, if◌then◌else◌}
use Rattle.std.specs.List.{list_any}
use Rattle.pw_class.specs.declared.request.RequestPlace.{RequestPlace}
use Rattle.pw_class.specs.declared.request.RequestPlace.TheVariants.{Waiting, Busy}
use Rattle.pw_class.specs.declared.request.Request.{Request}
use Rattle.pw_class.specs.declared.request.Taken.{Taken}
use Rattle.pw_class.specs.declared.request.Taken.TheVariants.{Got, Empty, NoneFree}

-- the requests that wait, in order, and for each process the request that it works on
pub record Queue : Type 0 where
  pub waiting : List Request
  pub busy : List (Option Request)

-- the request is of the terminal
abbrev pub is_of : ℕ → Request → Bool
is_of terminal request = request.terminal == terminal

-- a process works on a request of the terminal
abbrev pub works_for : ℕ → Option Request → Bool
works_for terminal None = false
works_for terminal (Some request) = is_of terminal request

-- what the process of this number works on, if it is busy
abbrev pub at_process : Queue → ℕ → Option Request
at_process queue process = if process == 0 then None else slice_index_or queue.busy (process - 1) None

-- the queue with one more waiting request, behind the others
abbrev pub with_request : Queue → Request → Queue
with_request queue request = record queue { waiting = queue.waiting ++ request ∷ [] }

-- the place of the free process of smallest number, if one is free
abbrev pub free_place : Queue → Option ℕ
free_place queue = position is_none queue.busy

-- what is taken of these waiting requests, where this is the free place
abbrev pub taken_of : List Request → Option ℕ → Taken
taken_of [] free = Empty
taken_of (request ∷ rest) None = NoneFree
taken_of (request ∷ rest) (Some place) = Got (place + 1) request

-- the first waiting request, for the free process of smallest number
abbrev pub taken : Queue → Taken
taken queue = taken_of queue.waiting (free_place queue)

-- the queue after a process has taken the first of these waiting requests, where this is the free place
abbrev pub after_take_of : Queue → List Request → Option ℕ → Queue
after_take_of queue [] free = queue
after_take_of queue (request ∷ rest) None = queue
after_take_of queue (request ∷ rest) (Some place) = record { waiting = rest; busy = slice_set queue.busy place (Some request) }

-- the queue after the first waiting request is taken, if it can be
abbrev pub after_take : Queue → Queue
after_take queue = after_take_of queue queue.waiting (free_place queue)

-- the queue with the process of this number free
abbrev pub with_free : Queue → ℕ → Queue
with_free queue process = record queue { busy = slice_set queue.busy (process - 1) None }

-- what a process works on, but nothing where that was for the terminal
abbrev pub busy_without : ℕ → Option Request → Option Request
busy_without terminal work = if works_for terminal work then None else work

-- the queue without the requests of the terminal
abbrev pub without : ℕ → Queue → Queue
without terminal queue = record {
  waiting = filter (λ request. not (is_of terminal request)) queue.waiting;
  busy = map (busy_without terminal) queue.busy;
}

-- a request of the terminal waits, or a process works on it
abbrev pub has_request : ℕ → Queue → Bool
has_request terminal queue = list_any (is_of terminal) queue.waiting || list_any (works_for terminal) queue.busy

-- the class of a place
abbrev pub class_of_place : RequestPlace → ℕ
class_of_place (Waiting class) = class
class_of_place (Busy class process) = class

-- the place is of this class, and a request of the terminal is there
abbrev pub IsIn : Queue → ℕ → ℕ → RequestPlace → Type 0
IsIn queue class terminal (Waiting own) = (own ≡ class) × IsTrue (list_any (is_of terminal) queue.waiting)
IsIn queue class terminal (Busy own process) = (own ≡ class) × IsTrue (works_for terminal (at_process queue process))
