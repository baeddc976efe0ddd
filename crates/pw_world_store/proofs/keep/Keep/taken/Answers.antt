use Rattle.std.proofs.Common.{◌∙◌, ap₂}
use Rattle.pw_class.specs.Book.{queue_at}
use Rattle.pw_class.specs.Queue.{Queue, free_place}
use Rattle.pw_world_store.specs.Calls.{given_to}
use Rattle.pw_world_store.proofs.Taking.{given-is}
use Rattle.pw_world_store.proofs.keep.Keep.taken.Goals as goal

pub returns : goal.returns
returns g c =
    let queue : Queue = queue_at c.args.self.now.book c.args.class in
    c.given.ensures ∙ (ap₂ given_to c.free_process.ensures c.first.ensures ∙ given-is queue.waiting (free_place queue))
