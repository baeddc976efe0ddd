-- The first is among those that are left.
use Rattle.std.proofs.Common.{◌≡◌, drop}
use Rattle.std.specs.Prelude.{find}
use Rattle.pw_terminal.specs.Entries.{is_entry_field}
use Rattle.pw_machine.proofs.entries.field_named.Given as goal

abbrev pub invariant-loop-field : goal.invariant-loop-field
invariant-loop-field l = find (is_entry_field l.name) (drop l.field-index l.fields) ≡ find (is_entry_field l.name) l.fields
