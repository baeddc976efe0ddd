use Rattle.std.proofs.Common.{◌≡◌, Some, sym, rules}
use Rattle.std.specs.BTreeMap.{get}
use Rattle.std.specs.Ordering.{nat_cmp}
use Rattle.pw_locks.specs.Oldest.{oldest_unit_noted}
use Rattle.pw_locks.specs.Searches.{is_sought}
use Rattle.pw_locks.proofs.Searching.{Searched-noted}
use Rattle.pw_locks.proofs.notes.note.Goals as goal

pub returns-in-Some : goal.returns-in-Some
returns-in-Some c =
    let there : get nat_cmp c.args.locks.now c.args.number ≡ Some c.in-Some.held.now = search rules in
    let gives : oldest_unit_noted c.args.known (is_sought c.args.sought.now c.in-Some.held.now) c.in-Some.held.now.unit ≡ c.noted.result = rw (← c.has.ensures) (sym c.noted.ensures) in
    rw (← gives) (Searched-noted (is_sought c.args.sought.now) c.args.locks.now c.args.known c.args.number c.in-Some.held.now there)
