-- The work of building a message's image outside its pair.
use Rattle.std.specs.Prelude.{◌≡◌, ℕ, List, Option, Some, None, true, if◌then◌else◌}
use Rattle.pw_pair.specs.Bodies.{image_in}
use Rattle.pw_pair.specs.Pairs.{SeenPair, seat_of}
use Rattle.pw_pair.specs.SeenTask.{SeenTask}
use Rattle.pw_pair.specs.Seats.{start_of}
use Rattle.pw_pair.specs.declared.seat.Flight.{Flight}
use Rattle.pw_pair.specs.declared.seat.BackupSeat.{BackupSeat}

-- the image that the message of a task stands for
abbrev pub image_for : SeenTask → List ℕ
image_for task = image_in task.held task.message.body

-- the message in flight and the start image that is held, where the message is not built
abbrev pub task_in : ℕ → Option (List ℕ) → Option Flight → Option SeenTask
task_in terminal held None = None
task_in terminal held (Some flight) =
    if flight.built then None
    else Some (record { terminal = terminal; message = flight.message; held = held })

-- the task of the terminal's message in flight
abbrev pub task_of : BackupSeat → Option SeenTask
task_of seat = task_in seat.terminal (start_of seat.memory) seat.flight

-- the task of a seat, if there is one
abbrev pub task_at : Option BackupSeat → Option SeenTask
task_at None = None
task_at (Some seat) = task_of seat

-- the task of the terminal's message in flight: none where there is none, or it is built
abbrev pub waiting_task : ℕ → SeenPair → Option SeenTask
waiting_task terminal pair = task_at (seat_of terminal pair)
