-- The parts of a program, one behind the other.
use Rattle.std.proofs.Common.{◌++◌, ◌∷◌, [], List, ℕ, length}
use Rattle.std.specs.Int.{to_be_bytes, w16, w32}
use Rattle.std.specs.List.{flat_map}
use Rattle.std.specs.Option.{option_copied}
use Rattle.pw_image.specs.Image.{return_bytes}
use Rattle.pw_entry_tests.proofs.Left.{piece, two}
use Rattle.pw_entry_tests.proofs.images.behind_frame.Goals as goal

pub returns : goal.returns
returns c =
    let l0 = option_copied c.args.left in
    let l1 = option_copied c.behind-left.result in
    let l2 = option_copied c.behind_word-left.result in
    let l3 = option_copied c.behind_word-left-2.result in
    let l4 = option_copied c.behind-left-2.result in
    let l5 = option_copied c.behind_number.result in
    let last = option_copied c.behind_returns.result in
    let a : List ℕ = to_be_bytes w16 c.args.program in
    let b : List ℕ = to_be_bytes w32 c.args.at in
    let d : List ℕ = to_be_bytes w32 (length c.args.storage.now) in
    let e : List ℕ = length c.args.returns.now ∷ [] in
    let f : List ℕ = flat_map return_bytes c.args.returns.now in
    two a (b ++ ((d ++ c.args.storage.now) ++ (e ++ f))) l0 l1 last
    (piece c.to_be_bytes.result a l0 l1 c.behind-left.ensures c.to_be_bytes.ensures)
    (two b ((d ++ c.args.storage.now) ++ (e ++ f)) l1 l2 last c.behind_word-left.ensures
    (two (d ++ c.args.storage.now) (e ++ f) l2 l4 last
    (two d c.args.storage.now l2 l3 l4 c.behind_word-left-2.ensures c.behind-left-2.ensures)
    (two e f l4 l5 last c.behind_number.ensures c.behind_returns.ensures)))
