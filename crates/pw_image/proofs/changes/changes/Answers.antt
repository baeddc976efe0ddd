-- All records are those from the first number on, and their numbers rise.
use Rattle.std.proofs.Common.{◌≡◌, refl, ap, ◌∙◌}
use Rattle.pw_image.specs.Records.{changed_between, differs, is_rising}
use Rattle.pw_image.proofs.Patching.{rising-range}
use Rattle.pw_image.proofs.changes.changes.Goals as goal

pub from_records-requires : goal.from_records-requires
from_records-requires c =
    let all : c.add_groups.new.changed.items ≡ changed_between c.args.old.now c.args.new.now 0 c.in-Ok.count =
    rw (c.in_ok-add_groups.ensures, c.new-changed.ensures.items) refl in
    ap is_rising all ∙ rising-range (differs c.args.old.now) c.args.new.now c.in-Ok.count 0
