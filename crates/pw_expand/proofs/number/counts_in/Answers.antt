use Rattle.pw_expand.proofs.Counts.{one_more, one_bad, no_more}
use Rattle.pw_expand.proofs.number.counts_in.Goals as goal

pub returns-in-None : goal.returns-in-None
returns-in-None c = one_bad c.loop-word.counts.items c.args.words.now c.loop-word.word-index _ _ c.loop-word-test.true c.in-None.ensures c.loop-word.invariant

pub loop-word-preserved : goal.loop-word-preserved
loop-word-preserved c =
    rw c.in_ok-push-in-Some.ensures.items (one_more c.loop-word.counts.items c.in-Some.count c.args.words.now c.loop-word.word-index _ _ c.loop-word-test.true c.in-Some.ensures c.loop-word.invariant)

pub returns : goal.returns
returns c = no_more c.loop-word.counts.items c.args.words.now c.loop-word.word-index _ c.loop-word-test.false c.loop-word.invariant
