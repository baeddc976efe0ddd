use Rattle.std.proofs.Common.{◌+◌, ◌<◌, ◌≤◌, ◌∙◌, ◌++◌, ◌∷◌, [], ap, arith, length}
use Rattle.pw_blocks.specs.Packing.{unpacked}
use Rattle.pw_blocks.proofs.BlockLemmas.{IsBlock-none, unpacked-none}
use Rattle.pw_blocks.proofs.PieceLemmas.{two_are, three_are, beside_first, beside_second, beside_neither}
use Rattle.pw_blocks.proofs.SplitLemmas.{first-alone, last-alone, split-first, split-neither, split-second, three-items, two-items}
use Rattle.pw_blocks.proofs.pieces.pieces.Goals as goal

pub joined-requires-then-before-size-le-BLOCK-2-clause-behind : goal.joined-requires-then-before-size-le-BLOCK-2-clause-behind
joined-requires-then-before-size-le-BLOCK-2-clause-behind c = IsBlock-none

pub joined-requires-then-size-behind-le-BLOCK-clause-before : goal.joined-requires-then-size-behind-le-BLOCK-clause-before
joined-requires-then-size-behind-le-BLOCK-clause-before c = IsBlock-none

pub joined-requires-2-clause-before : goal.joined-requires-2-clause-before
joined-requires-2-clause-before c = IsBlock-none

pub joined-requires-2-clause-behind : goal.joined-requires-2-clause-behind
joined-requires-2-clause-behind c = IsBlock-none

pub returns-then-before-size-le-BLOCK-2-clause-records : goal.returns-then-before-size-le-BLOCK-2-clause-records
returns-then-before-size-le-BLOCK-2-clause-records c =
    let x = c.in_ok-joined-2.field-0 in
    let y = c.in_ok-from_slice.field-0 in
    two_are c.new-blocks.result.items c.push-then-before-size-le-BLOCK-2.new.self.items c.push-then-before-size-le-BLOCK-2-2.new.self.items [] x y [] c.new-blocks.ensures.items c.in_ok-push-2.ensures.items c.in_ok-push-3.ensures.items
    ∙ beside_first (unpacked c.args.before.now) (unpacked c.args.behind.now) x y c.args.content.now c.in_ok-joined-2.ensures c.in_ok-from_slice.ensures

pub returns-then-size-behind-le-BLOCK-clause-records : goal.returns-then-size-behind-le-BLOCK-clause-records
returns-then-size-behind-le-BLOCK-clause-records c =
    let x = c.in_ok-from_slice-2.field-0 in
    let y = c.in_ok-joined-3.field-0 in
    two_are c.new-blocks.result.items c.push-2.new.self.items c.push-then-size-behind-le-BLOCK.new.self.items [] x y [] c.new-blocks.ensures.items c.in_ok-push-4.ensures.items c.in_ok-push-5.ensures.items
    ∙ beside_second (unpacked c.args.before.now) (unpacked c.args.behind.now) x y c.args.content.now c.in_ok-from_slice-2.ensures c.in_ok-joined-3.ensures

pub returns-clause-records : goal.returns-clause-records
returns-clause-records c =
    let x = c.in_ok-from_slice-2.field-0 in
    let y = c.in_ok-joined-4.field-0 in
    let z = c.in_ok-from_slice-3.field-0 in
    three_are c.new-blocks.result.items c.push-2.new.self.items c.push-3.new.self.items c.push-4.new.self.items x y z c.new-blocks.ensures.items c.in_ok-push-4.ensures.items c.in_ok-push-6.ensures.items c.in_ok-push-7.ensures.items
    ∙ beside_neither (unpacked c.args.before.now) (unpacked c.args.behind.now) x y c.args.content.now z c.in_ok-from_slice-2.ensures c.in_ok-joined-4.ensures c.in_ok-from_slice-3.ensures

pub returns-then-before-size-le-BLOCK-2-clause-split : goal.returns-then-before-size-le-BLOCK-2-clause-split
returns-then-before-size-le-BLOCK-2-clause-split c =
    let x = c.in_ok-joined-2.field-0 in
    let y = c.in_ok-from_slice.field-0 in
    let before = unpacked c.args.before.now in
    let content = c.args.content.now in
    let full : 4096 < length c.args.before.now + (length content + 2) + length c.args.behind.now = omega arith in
    let first : length c.args.before.now + (length content + 2) ≤ 4096 = omega arith in
    two-items c.new-blocks.result.items c.push-then-before-size-le-BLOCK-2.new.self.items c.push-then-before-size-le-BLOCK-2-2.new.self.items x y (before ++ content ∷ []) (unpacked c.args.behind.now)
    c.new-blocks.ensures.items c.in_ok-push-2.ensures.items c.in_ok-push-3.ensures.items (last-alone before content x c.in_ok-joined-2.ensures) c.in_ok-from_slice.ensures
    ∙ split-first c.args.before.now c.args.behind.now content c.requires.before c.requires.behind full first

pub returns-then-size-behind-le-BLOCK-clause-split : goal.returns-then-size-behind-le-BLOCK-clause-split
returns-then-size-behind-le-BLOCK-clause-split c =
    let x = c.in_ok-from_slice-2.field-0 in
    let y = c.in_ok-joined-3.field-0 in
    let behind = unpacked c.args.behind.now in
    let content = c.args.content.now in
    let full : 4096 < length c.args.before.now + (length content + 2) + length c.args.behind.now = omega arith in
    let first : 4096 < length c.args.before.now + (length content + 2) = omega arith in
    let second : length content + 2 + length c.args.behind.now ≤ 4096 = omega arith in
    two-items c.new-blocks.result.items c.push-2.new.self.items c.push-then-size-behind-le-BLOCK.new.self.items x y (unpacked c.args.before.now) (content ∷ behind)
    c.new-blocks.ensures.items c.in_ok-push-4.ensures.items c.in_ok-push-5.ensures.items c.in_ok-from_slice-2.ensures (first-alone behind content y c.in_ok-joined-3.ensures)
    ∙ split-second c.args.before.now c.args.behind.now content c.requires.before c.requires.behind full first second

pub returns-clause-split : goal.returns-clause-split
returns-clause-split c =
    let x = c.in_ok-from_slice-2.field-0 in
    let y = c.in_ok-joined-4.field-0 in
    let z = c.in_ok-from_slice-3.field-0 in
    let content = c.args.content.now in
    let full : 4096 < length c.args.before.now + (length content + 2) + length c.args.behind.now = omega arith in
    let first : 4096 < length c.args.before.now + (length content + 2) = omega arith in
    let second : 4096 < length content + 2 + length c.args.behind.now = omega arith in
    three-items c.new-blocks.result.items c.push-2.new.self.items c.push-3.new.self.items c.push-4.new.self.items x y z (unpacked c.args.before.now) (content ∷ []) (unpacked c.args.behind.now)
    c.new-blocks.ensures.items c.in_ok-push-4.ensures.items c.in_ok-push-6.ensures.items c.in_ok-push-7.ensures.items c.in_ok-from_slice-2.ensures
    (last-alone [] content y (c.in_ok-joined-4.ensures ∙ ap (λ xs. xs ++ content ∷ unpacked []) unpacked-none)) c.in_ok-from_slice-3.ensures
    ∙ split-neither c.args.before.now c.args.behind.now content c.requires.before c.requires.behind full first second
