-- The head, and the programs.
use Rattle.std.proofs.Common.{ap, ◌∙◌, ◌++◌, ◌∷◌, [], List, ℕ, Some, length}
use Rattle.std.specs.List.{flat_map}
use Rattle.std.specs.Option.{option_copied}
use Rattle.pw_code.specs.declared.context.Frame.{Frame}
use Rattle.pw_image.specs.Image.{frame_bytes, image_of}
use Rattle.pw_entry_tests.specs.Images.{head_bytes}
use Rattle.pw_entry_tests.proofs.Imaged.{all-is, image-parts}
use Rattle.pw_entry_tests.proofs.Left.{piece, two}
use Rattle.pw_entry_tests.proofs.images.is_image.Goals as goal

pub returns : goal.returns
returns c =
    let x = c.args.context.now in
    let bytes = c.args.bytes.now in
    let l1 = option_copied c.behind_head-left.result in
    let l2 = option_copied c.behind_number.result in
    let last = option_copied c.behind_frames.result in
    let number : List ℕ = length x.frames ∷ [] in
    let programs : List ℕ = flat_map frame_bytes x.frames in
    c.is_all.ensures
    ∙ all-is bytes (head_bytes x ++ (number ++ programs)) (image_of x) last
    (two (head_bytes x) (number ++ programs) (Some bytes) l1 last c.behind_head-left.ensures
    (two number programs l1 l2 last
    (piece (length c.as_slice-frames.result.now ∷ []) number l1 l2 c.behind_number.ensures
    (ap (λ (f : List Frame). length f ∷ []) c.as_slice-frames.ensures))
    (piece (flat_map frame_bytes c.as_slice-frames.result.now) programs l2 last c.behind_frames.ensures
    (ap (flat_map frame_bytes) c.as_slice-frames.ensures))))
    (image-parts x)
