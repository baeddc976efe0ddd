-- Its parts are those that are handed over.
use Rattle.std.proofs.Common.{ap, ◌∙◌}
use Rattle.std.specs.Option.{option_copied}
use Rattle.pw_image.specs.Image.{frame_bytes}
use Rattle.pw_entry_tests.specs.Images.{left_of}
use Rattle.pw_entry_tests.proofs.images.behind_one.Goals as goal

pub returns : goal.returns
returns c =
    let f = c.args.frame.now in
    let first = option_copied c.args.left in
    c.behind_frame.ensures
    ∙ (ap (λ a. left_of (frame_bytes (record { program = f.program; at = a; storage = c.as_slice.result.now; returns = c.as_slice-2.result.now })) first) c.from.ensures
    ∙ (ap (λ s. left_of (frame_bytes (record { program = f.program; at = f.at; storage = s; returns = c.as_slice-2.result.now })) first) c.as_slice.ensures
    ∙ ap (λ r. left_of (frame_bytes (record { program = f.program; at = f.at; storage = f.storage; returns = r })) first) c.as_slice-2.ensures))
