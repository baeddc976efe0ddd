use Rattle.std.proofs.Common.{◌<◌, map, length, ◌∙◌, arith}
use Rattle.std.proofs.lemmas.List.{length-map, take_all}
use Rattle.pw_event.proofs.Keyed.{keys_more, name_at}
use Rattle.pw_event.proofs.named.names_of.Goals as goal

pub loop-thing-preserved : goal.loop-thing-preserved
loop-thing-preserved g c =
    let name = g.T.Named.name_of in
    let things = c.args.things.now in
    let i = c.loop-thing.thing-index in
    let within : i < length things = c.loop-thing-test.true in
    keys_more (map name things) c.loop-thing.names.keys c.insert.new.self.keys c.name.result i c.requires
    (omega (arith, length-map things name, within)) c.in_ok-insert.ensures.keys
    (c.name.ensures ∙ name_at name things i c.thing-item.result within c.thing-item.is)
    c.loop-thing.invariant

pub returns : goal.returns
returns g c =
    let name = g.T.Named.name_of in
    let things = c.args.things.now in
    c.loop-thing.invariant ∙ take_all c.loop-thing.thing-index _ (omega (arith, length-map things name, c.loop-thing-test.false))
