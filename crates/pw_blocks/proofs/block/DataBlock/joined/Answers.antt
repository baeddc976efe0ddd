use Rattle.std.proofs.Common.{◌≡◌, ◌∙◌, ap, ◌++◌, ◌∷◌, [], ◌/◌, ◌%◌, length}
use Rattle.pw_blocks.proofs.PackingLemmas.{unpacked-joined, IsBlock-joined, IsFinger-joined}
use Rattle.pw_blocks.proofs.block.DataBlock.joined.Goals as goal
use Rattle.pw_blocks.proofs.block.DataBlock.joined.Goals.{In_ok-extend-3}

-- the bytes that were put together
put_together : (c : In_ok-extend-3) → c.extend-3.new.self ≡ (((c.args.before.now ++ length c.args.content.now / 256 ∷ []) ++ length c.args.content.now % 256 ∷ []) ++ c.args.content.now) ++ c.args.behind.now
put_together c =
    c.in_ok-extend-3.ensures.ok ∙ ap (λ b. b ++ c.args.behind.now) (c.in_ok-extend-2.ensures.ok ∙ ap (λ b. b ++ c.args.content.now) (c.in_ok-push-2.ensures.ok ∙ ap (λ b. b ++ length c.args.content.now % 256 ∷ []) (c.in_ok-push.ensures.ok ∙ ap (λ b. b ++ length c.args.content.now / 256 ∷ []) (c.in_ok-extend.ensures.ok ∙ ap (λ b. b ++ c.args.before.now) c.new-bytes.ensures))))

pub invariant_of-result : goal.invariant_of-result
invariant_of-result c = record {
  packed = IsBlock-joined c.args.before.now c.args.content.now c.args.behind.now c.requires.before c.requires.behind c.requires.content c.requires.fits c.extend-3.new.self (put_together c);
  finger = IsFinger-joined c.args.before.now c.args.content.now c.args.behind.now c.requires.before c.requires.behind c.extend-3.new.self (put_together c);
}

pub returns : goal.returns
returns c = unpacked-joined c.args.before.now c.args.content.now c.args.behind.now c.requires.before c.requires.behind c.extend-3.new.self (put_together c)
