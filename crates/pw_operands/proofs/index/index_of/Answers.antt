use Rattle.std.proofs.Common.{ℕ, Some, None, ap, ◌∙◌, ◌+◌}
use Rattle.std.specs.Prelude.{bytes_eq, if◌then◌else◌}
use Rattle.std.specs.Option.{option_or}
use Rattle.pw_operands.specs.Index.{indexed_number}
use Rattle.pw_operands.proofs.Indexes.{index-further, index-done}
use Rattle.pw_operands.proofs.index.index_of.Goals as goal

pub loop-thing-preserved : goal.loop-thing-preserved
loop-thing-preserved g c = record {
  number = ap (λ n. n + 1) c.loop-thing.invariant.number;
  so_far = index-further g.T.IndexedByName.name_of c.args.things.now c.loop-thing.index c.put_number.new.index c.loop-thing.thing-index c.thing-item.result c.name.result.now c.loop-thing-test.true c.thing-item.is c.name.ensures
      (λ word. c.in_ok-put_number.ensures word
      ∙ ap (λ (n : ℕ). option_or (indexed_number c.loop-thing.index word) (if bytes_eq c.name.result.now word then Some n else None)) c.loop-thing.invariant.number)
      c.loop-thing.invariant.so_far;
}

pub returns : goal.returns
returns g c = index-done g.T.IndexedByName.name_of c.args.things.now c.loop-thing.index c.loop-thing.thing-index c.loop-thing-test.false c.loop-thing.invariant.so_far
