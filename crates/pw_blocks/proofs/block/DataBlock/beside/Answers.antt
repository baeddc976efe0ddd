use Rattle.std.proofs.Common.{◌≡◌, ◌∙◌, ap, ◌++◌}
use Rattle.pw_blocks.proofs.BlockLemmas.{unpacked-beside, IsBlock-beside, IsFinger-beside}
use Rattle.pw_blocks.proofs.block.DataBlock.beside.Goals as goal
use Rattle.pw_blocks.proofs.block.DataBlock.beside.Goals.{In_ok-extend}

-- the bytes that were put together
put_together : (c : In_ok-extend) → c.extend.new.self ≡ c.args.before.now ++ c.args.behind.now
put_together c = c.in_ok-extend.ensures.ok ∙ ap (λ b. b ++ c.args.behind.now) c.in_ok-bytes.ensures

pub invariant_of-result : goal.invariant_of-result
invariant_of-result c = record {
  packed = IsBlock-beside c.args.before.now c.args.behind.now c.requires.before c.requires.behind c.extend.new.self (put_together c) c.requires.fits;
  finger = IsFinger-beside c.args.before.now c.args.behind.now c.requires.before c.requires.behind c.extend.new.self (put_together c);
}

pub returns : goal.returns
returns c = unpacked-beside c.args.before.now c.args.behind.now c.requires.before c.requires.behind c.extend.new.self (put_together c)
