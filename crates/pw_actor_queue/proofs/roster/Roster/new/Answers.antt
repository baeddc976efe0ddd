use Rattle.pw_actor_queue.proofs.Placing.{all-blank}
use Rattle.pw_actor_queue.proofs.roster.Roster.new.Goals as goal

pub returns : goal.returns
returns c = all-blank _ (c.in_ok-vec.ensures.items_if_clones_equal (λ y is. is))
