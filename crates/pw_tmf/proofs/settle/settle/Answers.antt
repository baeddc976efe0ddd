use Rattle.pw_tmf.proofs.Settling.{last-fits, settled-same, settling-more, settling-some}
use Rattle.pw_tmf.proofs.settle.settle.Goals as goal

pub drain-requires : goal.drain-requires
drain-requires c =
    last-fits c.args.files.now.items c.loop-images.files.items c.args.pending.now.items c.loop-images.pending.items c.pop.new.self.items c.in-Some.images c.in-Some.ensures.items c.loop-images.invariant

pub returns-in-Err-clause-files : goal.returns-in-Err-clause-files
returns-in-Err-clause-files c =
    settled-same c.args.files.now.items c.drain.new.files.items c.args.pending.now.items c.push_reserved.new.self.items
    (settling-some c.args.files.now.items c.loop-images.files.items c.args.pending.now.items c.loop-images.pending.items c.pop.new.self.items c.in-Some.images c.in-Some.ensures.items c.loop-images.invariant
    c.drain.new.files.items c.drain.new.images c.drain.ensures.keys c.drain.ensures.count c.drain.ensures.files c.drain.ensures.images c.push_reserved.new.self.items c.push_reserved.ensures.items)

pub returns-in-Err-clause-images : goal.returns-in-Err-clause-images
returns-in-Err-clause-images c =
    (settling-some c.args.files.now.items c.loop-images.files.items c.args.pending.now.items c.loop-images.pending.items c.pop.new.self.items c.in-Some.images c.in-Some.ensures.items c.loop-images.invariant
    c.drain.new.files.items c.drain.new.images c.drain.ensures.keys c.drain.ensures.count c.drain.ensures.files c.drain.ensures.images c.push_reserved.new.self.items c.push_reserved.ensures.items).fit

pub loop-images-preserved : goal.loop-images-preserved
loop-images-preserved c =
    settling-more c.args.files.now.items c.loop-images.files.items c.args.pending.now.items c.loop-images.pending.items c.pop.new.self.items c.in-Some.images c.in-Some.ensures.items c.loop-images.invariant
    c.drain.new.files.items c.drain.new.images c.drain.ensures.keys c.drain.ensures.count c.drain.ensures.files c.in_default-drain.ensures.ok
