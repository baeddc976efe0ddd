-- How far a path goes, in numbers, and what one more answer makes of it.
use Rattle.std.specs.Prelude.{◌+◌, true, false, if◌then◌else◌}
use Rattle.pw_serial_order.specs.declared.mark.PathMark.{PathMark}

-- the empty path
abbrev pub mark_start : PathMark
mark_start = record { answers = 0; ended = 0; within = false }

-- an answer that neither begins nor ends a unit
abbrev pub mark_more : PathMark → PathMark
mark_more mark = record mark { answers = mark.answers + 1 }

-- the answer with which a transaction begins
abbrev pub mark_begun : PathMark → PathMark
mark_begun mark = record mark { answers = mark.answers + 1; within = true }

-- an answer with which a unit ends
abbrev pub mark_closed : PathMark → PathMark
mark_closed mark =
    record { answers = mark.answers + 1; ended = mark.ended + 1; within = false }

-- a reply, with which a unit ends that is one SEND
abbrev pub mark_replied : PathMark → PathMark
mark_replied mark = if mark.within then mark_more mark else mark_closed mark
