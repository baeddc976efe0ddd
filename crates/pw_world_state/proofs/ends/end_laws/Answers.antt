use Rattle.pw_code_meaning.specs.OfSystem.{behaviour}
use Rattle.pw_world_state.specs.Changes.{leave_at}
use Rattle.pw_world_state.proofs.Ending.{end-stands, left-at}
use Rattle.pw_world_state.proofs.ends.end_laws.Goals as goal
use Rattle.pw_paired.specs.End.{leave_unit_at}

pub returns : goal.returns
returns c = record {
  end = λ system script state kept t ending terminal stands here may.
      end-stands system script (leave_unit_at (behaviour script system) t ending state) (leave_at t ending kept) t terminal ending
      (left-at system script state kept t stands may ending) here;
}
