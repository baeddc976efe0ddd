-- What is left to copy, on the storage now, gives what all give.
use Rattle.std.proofs.Common.{◌≡◌, map, drop}
use Rattle.pw_code_meaning.specs.Calls.{put_all, linkage_chars}
use Rattle.pw_machine.specs.Views.{spot_by}
use Rattle.pw_machine.proofs.linkage.copy_back.Given as goal

abbrev pub invariant-loop-place : goal.invariant-loop-place
invariant-loop-place l =
    put_all (map spot_by (drop l.place l.places)) (linkage_chars (drop l.place l.linkage) l.from) l.storage
    ≡ put_all (map spot_by l.places) (linkage_chars l.linkage l.from) l.fn.storage
