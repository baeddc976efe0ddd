use Rattle.pw_locks.proofs.register.LockRegister.enter.Goals as goal

pub returns-clause-stays : goal.returns-clause-stays
returns-clause-stays c = λ n other h. record {
  placed = c.put.ensures.stays other.file other.span n h.placed;
  owned = c.put-2.ensures.stays (other.unit.terminal, other.unit.number) n h.owned;
}
