use Rattle.pw_laws.proofs.locking.operations.play_laws.Goals as goal
use Rattle.pw_laws.proofs.seeing.Plays.{ServerWrites-behaviour, same_play, uncovered_played}

pub returns : goal.returns
returns c = record {
  answers = λ sys b class message known x y files others n agree. (same_play sys class message (ServerWrites-behaviour sys b class message known) x y files others n agree).done;
  stays = λ sys b class message known x y files others n agree. (same_play sys class message (ServerWrites-behaviour sys b class message known) x y files others n agree).stays;
  leaves = uncovered_played;
}
