-- What is left behind those so far.
use Rattle.std.proofs.Common.{◌≡◌, take}
use Rattle.std.specs.List.{flat_map}
use Rattle.std.specs.Option.{option_copied}
use Rattle.pw_image.specs.Image.{return_bytes}
use Rattle.pw_entry_tests.specs.Images.{left_of}
use Rattle.pw_entry_tests.proofs.images.behind_returns.Given as goal

abbrev pub invariant-loop-active : goal.invariant-loop-active
invariant-loop-active l =
    option_copied l.rest ≡ left_of (flat_map return_bytes (take l.active-index l.returns)) (option_copied l.initial.rest)
