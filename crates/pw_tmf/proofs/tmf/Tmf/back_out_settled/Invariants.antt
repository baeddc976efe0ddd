use Rattle.std.proofs.Common.{ℕ, ◌+◌, ◌≤◌, Bool, List, length, vec_len}
use Rattle.std.specs.Prelude.{vec_capacity}
use Rattle.pw_code.specs.declared.unit.Unit as unit
use Rattle.pw_tmf.specs.Tmf.{TmfState, told_of}
use Rattle.pw_tmf.specs.Told.{Told}
use Rattle.pw_tmf.specs.Units.{all_backed_out}
use Rattle.pw_tmf.proofs.BackedOut.{IsBackingOut}
use Rattle.pw_tmf.proofs.tmf.Tmf.back_out_settled.Given as goal

-- some units have been backed out, and there is room for the before-images of the others
pub record IsStopping (ends : Bool) (final : Told) (state : TmfState) (rest : List unit.Unit) (len capacity : ℕ) : Type 0 where
  pub backing : IsBackingOut ends final state rest
  pub room : len + length rest ≤ capacity

abbrev pub invariant-loop-unit : goal.invariant-loop-unit
invariant-loop-unit l =
    IsStopping l.ends (all_backed_out l.ends (told_of l.fn.self) l.fn.units)
    (record { rule = l.self-inside.rule; files = l.self-inside.files.items; pending = l.lists.items; locks = l.self-inside.book; slots = l.self-inside.slots.items; commits = l.self-inside.commits })
    l.left (vec_len l.lists) (vec_capacity l.lists)

abbrev pub decreases-loop-unit : goal.decreases-loop-unit
decreases-loop-unit l = length l.left
