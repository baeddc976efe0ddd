use Rattle.pw_locks.specs.Searches.{is_sought, units_of}
use Rattle.std.specs.BTreeMap.{values}
use Rattle.pw_locks.specs.declared.search.Holders.TheVariants.{AllBut}
use Rattle.pw_locks.specs.declared.search.Sought.{Sought}
use Rattle.pw_locks.proofs.Holders.{IsOldestOf, found_oldest, none-exactly, oldest-of}
use Rattle.pw_locks.proofs.book.LockBook.conflict.Goals as goal

asked : goal.After-oldest → Sought
asked c = record { holders = AllBut c.args.unit.now; file = c.args.file; span = c.args.span; mode = c.args.mode }

found : (c : goal.After-oldest) → IsOldestOf c.oldest.result (units_of (is_sought (asked c)) (values c.self.inside.locks))
unfolding asked
found c = found_oldest c.self.inside.locks c.self.inside.register (asked c) c.oldest.result c.self.invariant c.oldest.ensures

pub returns-clause-none : goal.returns-clause-none
unfolding asked
returns-clause-none c = rw (← c.self.view_is) (none-exactly c.oldest.result (units_of (is_sought (asked c)) (values c.self.inside.locks)) (found c))

pub returns-clause-oldest : goal.returns-clause-oldest
unfolding asked
returns-clause-oldest c = rw (← c.self.view_is) (oldest-of c.oldest.result (units_of (is_sought (asked c)) (values c.self.inside.locks)) (found c))
