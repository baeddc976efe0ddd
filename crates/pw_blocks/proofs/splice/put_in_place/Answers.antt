use Rattle.std.proofs.Common.{◌∙◌, arith}
use Rattle.std.proofs.lemmas.List.{nil_from_length}
use Rattle.pw_blocks.proofs.PieceLemmas.{alone}
use Rattle.pw_blocks.proofs.PutLemmas.{put_first, put_nothing}
use Rattle.pw_blocks.proofs.splice.put_in_place.Goals as goal

pub returns-in-Some : goal.returns-in-Some
returns-in-Some g c =
    put_first c.args.list.now.items c.args.place (omega (arith, c.requires.within, c.args.list.now.ok)) c.args.items.items c.loop-items.items.items c.loop-items.list.items c.in-Some.item c.loop-items.invariant.put
    (alone c.loop-items.items.items c.pop-2.new.self.items c.in-Some.item c.in-Some.ensures.items (omega (arith, c.loop-items-test.false, c.len.ensures, c.loop-items.items.ok)))

pub returns : goal.returns
returns g c =
    c.remove.ensures.items ∙ put_nothing c.args.list.now.items c.args.place (omega (arith, c.requires.within, c.args.list.now.ok)) c.args.items.items c.loop-items.items.items c.loop-items.list.items c.loop-items.invariant.put
    (nil_from_length c.loop-items.items.items (omega (arith, c.in-None.ensures.cases.0, c.loop-items.items.ok)))
