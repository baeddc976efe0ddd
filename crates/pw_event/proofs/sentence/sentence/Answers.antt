use Rattle.pw_event.specs.Line.{sentence}
use Rattle.pw_event.proofs.Sentences.{texts, sentence_first, sentence_more, sentence_all}
use Rattle.pw_event.proofs.sentence.sentence.Goals as goal

pub loop-word-init : goal.loop-word-init
loop-word-init c = sentence_first c.args.words.now c.in-Some.rest.now c.in-Some.first.now c.in_ok-text.text c.in-Some.ensures.cases.0 c.in_ok-text.ensures

pub loop-word-preserved : goal.loop-word-preserved
loop-word-preserved c = sentence_more c.in-Some.rest.now c.loop-word.word-index _ c.loop-word.text c.push.new.self c.extend.new.self (sentence (texts c.args.words.now)) c.loop-word-test.true c.in_ok-push.ensures.ok c.in_ok-extend.ensures.ok c.loop-word.invariant

pub returns : goal.returns
returns c = sentence_all c.in-Some.rest.now c.loop-word.word-index c.loop-word.text (sentence (texts c.args.words.now)) c.loop-word-test.false c.loop-word.invariant
