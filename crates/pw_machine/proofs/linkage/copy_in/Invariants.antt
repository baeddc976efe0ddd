-- What is left to copy, on the storage now, gives what all give.
use Rattle.std.proofs.Common.{◌≡◌, map, drop}
use Rattle.pw_code_meaning.specs.Calls.{put_linkage}
use Rattle.pw_code_meaning.specs.Reading.{chars_at}
use Rattle.pw_machine.specs.Views.{spot_by}
use Rattle.pw_machine.proofs.linkage.copy_in.Given as goal

abbrev pub invariant-loop-place : goal.invariant-loop-place
invariant-loop-place l =
    put_linkage (drop l.place l.linkage) (map (λ spot. chars_at spot l.from) (map spot_by (drop l.place l.places))) l.storage
    ≡ put_linkage l.linkage (map (λ spot. chars_at spot l.from) (map spot_by l.places)) l.fn.storage
