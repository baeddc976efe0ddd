use Rattle.std.proofs.Common.{◌≡◌, [], Some, ap, sym, refl, ◌∙◌, ◌≤◌, ◌<◌, get_or, length, subst, arith}
use Rattle.std.specs.BTreeMap.{get}
use Rattle.std.specs.Ordering.{nat_cmp}
use Rattle.std.proofs.lemmas.List.{drop_all}
use Rattle.pw_locks.specs.Indexes.{found_has}
use Rattle.pw_locks.proofs.Registers.{Releasing, left_less, none_own, released}
use Rattle.pw_locks.proofs.release.release.Goals as goal

-- the unit has no locks
no_numbers : (c : goal.In_default) → Releasing c.args.unit.now c.args.locks.now c.args.locks.now c.take_unit.new.self []
no_numbers c = record {
  ordered = c.requires.ordered;
  own = λ n held is same. let here = c.take_unit.ensures.own n held (c.requires.entered n held is) same in sym (ap (λ found. found_has found n) c.in_default.is) ∙ here;
  entered = λ n held is other. c.take_unit.ensures.others n held (c.requires.entered n held is) other;
  others = refl;
}

pub returns-in_default-clause-others : goal.returns-in_default-clause-others
returns-in_default-clause-others c = released c.args.unit.now c.args.locks.now c.args.locks.now c.take_unit.new.self (no_numbers c)

pub loop-number-init : goal.loop-number-init
loop-number-init c = rw (c.deref-number-items.ensures.value) (record {
  ordered = c.requires.ordered;
  own = λ n held is same. let here = c.take_unit.ensures.own n held (c.requires.entered n held is) same in sym (ap (λ found. found_has found n) c.in-Some.is) ∙ here;
  entered = λ n held is other. c.take_unit.ensures.others n held (c.requires.entered n held is) other;
  others = refl;
})

pub loop-number-preserved : goal.loop-number-preserved
loop-number-preserved c =
    let before = c.loop-number.invariant in
    let numbers = c.deref-number-items.result.now in
    let within : c.loop-number.number-index < length numbers = omega arith in
    record {
      ordered = c.take_away.ensures.ordered;
      own = λ n held is same.
          left_less numbers c.loop-number.number-index n within
          (λ here.
          let at : get nat_cmp c.take_away.new.locks (get_or numbers c.loop-number.number-index 0) ≡ Some held = ap (get nat_cmp c.take_away.new.locks) (sym here) ∙ is in
          let other = c.take_away.ensures.gone held at in
          absurd (cc (same, other)))
          (before.own n held (c.take_away.ensures.none_new n held is) same);
      entered = λ n held is other.
          let was = c.take_away.ensures.none_new n held is in
          c.take_away.ensures.entered n held is (before.entered n held was other);
      others = c.take_away.ensures.others ∙ before.others;
    }

at_end : (c : goal.After-drop-numbers) → Releasing c.args.unit.now c.args.locks.now c.loop-number.locks c.loop-number.register []
at_end c =
    let past : length c.deref-number-items.result.now ≤ c.loop-number.number-index = omega arith in
    subst (Releasing c.args.unit.now c.args.locks.now c.loop-number.locks c.loop-number.register) (drop_all c.loop-number.number-index c.deref-number-items.result.now past) c.loop-number.invariant

pub returns-clause-registered : goal.returns-clause-registered
returns-clause-registered c =
    let last = at_end c in
    record {
      ordered = last.ordered;
      entered = λ n held is. last.entered n held is (none_own c.args.unit.now c.args.locks.now c.loop-number.locks c.loop-number.register last n held is);
    }

pub returns-clause-others : goal.returns-clause-others
returns-clause-others c = released c.args.unit.now c.args.locks.now c.loop-number.locks c.loop-number.register (at_end c)
