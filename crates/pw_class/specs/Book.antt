-- The classes of a system.
use Rattle.std.specs.Prelude.{ℕ, List, [], Bool, Option, None, replicate, slice_index_or}
use Rattle.std.specs.List.{list_any}
use Rattle.pw_code.specs.declared.system.ClassInfo.{ClassInfo}
use Rattle.pw_class.specs.Queue.{Queue, at_process, has_request, class_of_place, IsIn}
use Rattle.pw_class.specs.declared.request.Request.{Request}
use Rattle.pw_class.specs.declared.request.RequestPlace.{RequestPlace}

-- no request waits, and each process is free
abbrev pub first_queue : ClassInfo → Queue
first_queue class = record { waiting = []; busy = replicate class.processes None }

-- what a class holds, nothing where there is no such class
abbrev pub queue_at : List Queue → ℕ → Queue
queue_at book class = slice_index_or book class (record { waiting = []; busy = [] })

-- what a process of a class works on, if it is busy
abbrev pub request_at : List Queue → ℕ → ℕ → Option Request
request_at book class process = at_process (queue_at book class) process

-- a request of the terminal is out
abbrev pub is_out : List Queue → ℕ → Bool
is_out book terminal = list_any (has_request terminal) book

-- a request of the terminal is at this place
abbrev pub IsAt : List Queue → ℕ → RequestPlace → Type 0
IsAt book terminal place = IsIn (queue_at book (class_of_place place)) (class_of_place place) terminal place
