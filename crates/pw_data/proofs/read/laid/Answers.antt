use Rattle.std.proofs.Common.{◌++◌, ap, ◌∙◌, arith}
use Rattle.pw_data.specs.Tree.{forest}
use Rattle.pw_data.specs.Laid.{items_in}
use Rattle.pw_data.specs.Layouts.{no_table}
use Rattle.pw_data.proofs.Sizes.{too_large-none}
use Rattle.pw_data.proofs.Within.{within-laid}
use Rattle.pw_data.proofs.read.laid.Goals as goal

pub lay-requires : goal.lay-requires
lay-requires c = record { size = too_large-none 0 (forest c.args.entries.now) (omega arith) c.requires.small; kept = c.requires.kept }

pub new-requires : goal.new-requires
new-requires c =
    within-laid c.args.text.now c.args.entries.now c.lay.new.items.items c.in_ok-storage.storage
    (c.in_ok-lay.ensures ∙ ap (λ items. items ++ items_in c.args.text.now 0 no_table (forest c.args.entries.now)) c.new-items.ensures.items)
    c.in_ok-storage.ensures c.requires.size c.requires.small c.requires.pictures
