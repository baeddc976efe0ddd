-- The head, and the programs, of which the last has gone on.
use Rattle.std.proofs.Common.{ap, sym, ◌∙◌, ◌+◌, ◌++◌, ◌∷◌, [], List, ℕ, Some, length, ◌≡◌}
use Rattle.std.specs.List.{flat_map}
use Rattle.std.specs.Option.{option_copied}
use Rattle.std.proofs.lemmas.List.{nil_from_length}
use Rattle.pw_code.specs.declared.context.Frame.{Frame}
use Rattle.pw_code_meaning.specs.Config.{frame_at}
use Rattle.pw_image.specs.Image.{frame_bytes, image_of}
use Rattle.pw_entry_tests.specs.Images.{behind_end, head_bytes}
use Rattle.pw_entry_tests.proofs.Imaged.{all-is, bare-parts, end-parts, ended, gone_on}
use Rattle.pw_entry_tests.proofs.Left.{piece, two}
use Rattle.pw_entry_tests.proofs.images.is_end_image.Goals as goal

pub returns-in-Some : goal.returns-in-Some
returns-in-Some c =
    let x = c.args.context.now in
    let bytes = c.args.bytes.now in
    let top : Frame = c.in-Some.top.now in
    let others : List Frame = c.in-Some.others.now in
    let frames : x.frames ≡ others ++ top ∷ [] = sym c.as_slice.ensures ∙ c.in-Some.ensures.cases.0 in
    let l1 = option_copied c.behind_head-left.result in
    let l2 = option_copied c.behind_number.result in
    let l3 = option_copied c.behind_frames-left.result in
    let last = option_copied c.behind_frame.result in
    let number : List ℕ = (length others + 1) ∷ [] in
    let before : List ℕ = flat_map frame_bytes others in
    let own : List ℕ = frame_bytes (gone_on top) in
    c.is_all.ensures
    ∙ all-is bytes (head_bytes (ended x) ++ (number ++ (before ++ own))) (image_of (behind_end x)) last
    (two (head_bytes (ended x)) (number ++ (before ++ own)) (Some bytes) l1 last c.behind_head-left.ensures
    (two number (before ++ own) l1 l2 last c.behind_number.ensures
    (two before own l2 l3 last c.behind_frames-left.ensures
    (piece
    (frame_bytes (record { program = top.program; at = c.from-at.result + 1; storage = c.as_slice-in-Some.result.now; returns = c.as_slice-in-Some-2.result.now }))
    own l3 last c.behind_frame.ensures
    (ap (λ a. frame_bytes (record { program = top.program; at = a + 1; storage = c.as_slice-in-Some.result.now; returns = c.as_slice-in-Some-2.result.now })) c.from-at.ensures
    ∙ (ap (λ s. frame_bytes (record { program = top.program; at = top.at + 1; storage = s; returns = c.as_slice-in-Some-2.result.now })) c.as_slice-in-Some.ensures
    ∙ ap (λ r. frame_bytes (record { program = top.program; at = top.at + 1; storage = top.storage; returns = r })) c.as_slice-in-Some-2.ensures))))))
    (end-parts x others top frames)

pub returns-in-None : goal.returns-in-None
returns-in-None c =
    let x = c.args.context.now in
    let bytes = c.args.bytes.now in
    let frames : x.frames ≡ [] = sym c.as_slice.ensures ∙ nil_from_length c.as_slice.result.now c.in-None.ensures.cases in
    let l1 = option_copied c.behind_head-left.result in
    let l2 = option_copied c.behind_number-in-None.result in
    let last = option_copied c.behind_frame-in-None.result in
    let number : List ℕ = 1 ∷ [] in
    let own : List ℕ = frame_bytes (gone_on (frame_at 0 [])) in
    c.is_all-in-None.ensures
    ∙ all-is bytes (head_bytes (ended x) ++ (number ++ own)) (image_of (behind_end x)) last
    (two (head_bytes (ended x)) (number ++ own) (Some bytes) l1 last c.behind_head-left.ensures
    (two number own l1 l2 last c.behind_number-in-None.ensures c.behind_frame-in-None.ensures))
    (bare-parts x frames)
