-- The fields that were put, and those that are left, are all.
use Rattle.std.proofs.Common.{◌≡◌, drop}
use Rattle.pw_terminal.specs.Shown.{with_fields}
use Rattle.pw_terminal.proofs.show.show.Given as goal

abbrev pub invariant-loop-field : goal.invariant-loop-field
invariant-loop-field l = with_fields l.base l.storage (drop l.field-index l.table.fields) l.image ≡ with_fields l.base l.storage l.table.fields l.initial.image
