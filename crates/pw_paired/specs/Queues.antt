-- The classes of the paired state as the book of requests has them.
use Rattle.std.specs.Prelude.{ℕ, zero, suc, ◌+◌, List, [], ◌∷◌, Option}
use Rattle.pw_class.specs.Queue.{Queue}
use Rattle.pw_class.specs.declared.request.Request.{Request}
use Rattle.pw_paired.specs.State.{Class, Job}
use Rattle.pw_paired.specs.Units.{request_in}

-- the requests on which n processes work, from this one on
abbrev pub requests_from : (ℕ → Option Job) → ℕ → ℕ → List (Option Request)
requests_from busy i zero = []
requests_from busy i (suc n) = request_in (busy i) ∷ requests_from busy (i + 1) n

-- a class of n processes as the book of requests has it: without what its servers were answered
abbrev pub queue_of : ℕ → Class → Queue
queue_of n class = record { waiting = class.waiting; busy = requests_from class.busy 1 n }
