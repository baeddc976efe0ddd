use Rattle.std.proofs.Common.{◌≡◌, true, false, not, Some, rules, ap, sym, ◌∙◌}
use Rattle.std.specs.BTreeMap.{get, is_at}
use Rattle.std.specs.Map.{values_of}
use Rattle.std.specs.Ordering.{nat_cmp}
use Rattle.std.specs.Prelude.{filter}
use Rattle.pw_locks.specs.Conflicts.{is_same_unit}
use Rattle.pw_locks.specs.Register.{is_held_by}
use Rattle.pw_locks.specs.declared.lock.Lock.{Lock as SeenLock}
use Rattle.pw_locks.proofs.Registers.{filter-removed}
use Rattle.pw_locks.proofs.release.take_away.Goals as goal

pub returns-in-Some-clause-others : goal.returns-in-Some-clause-others
returns-in-Some-clause-others c =
    let there : get nat_cmp c.args.locks.now c.args.number ≡ Some c.in-Some.held = search rules in
    let own : is_held_by c.args.unit.now (get nat_cmp c.args.locks.now c.args.number) ≡ true = search rules in
    let same : is_same_unit c.in-Some.held.unit c.args.unit.now ≡ true = sym (ap (is_held_by c.args.unit.now) there) ∙ own in
    let fails : not (is_same_unit c.in-Some.held.unit c.args.unit.now) ≡ false = ap not same in
    ap (λ es. filter (λ (held : SeenLock). not (is_same_unit held.unit c.args.unit.now)) (values_of es)) c.remove.ensures.entries
    ∙ filter-removed (λ held. not (is_same_unit held.unit c.args.unit.now)) (is_at (nat_cmp c.args.number)) c.in-Some.held c.args.locks.now.entries there fails
