use Rattle.std.proofs.Common.{◌≡◌, ◌∙◌}
use Rattle.std.specs.Prelude.{is_some}
use Rattle.std.specs.BTreeMap.{values}
use Rattle.std.specs.List.{list_any}
use Rattle.pw_locks.specs.Searches.{is_sought}
use Rattle.pw_locks.specs.declared.search.Holders.TheVariants.{Only}
use Rattle.pw_locks.specs.declared.search.Sought.{Sought}
use Rattle.pw_locks.proofs.Holders.{found_oldest, found-any}
use Rattle.pw_locks.proofs.book.LockBook.blocks.Goals as goal

asked : goal.After-is_some → Sought
asked c = record { holders = Only c.args.holder.now; file = c.args.file; span = c.args.span; mode = c.args.mode }

found : (c : goal.After-is_some) → is_some c.oldest.result ≡ list_any (is_sought (asked c)) (values c.self.inside.locks)
unfolding asked
found c = found-any (is_sought (asked c)) (values c.self.inside.locks) c.oldest.result
    (found_oldest c.self.inside.locks c.self.inside.register (asked c) c.oldest.result c.self.invariant c.oldest.ensures)

pub returns : goal.returns
unfolding asked
returns c = rw (← c.self.view_is) (c.is_some.ensures ∙ found c)
