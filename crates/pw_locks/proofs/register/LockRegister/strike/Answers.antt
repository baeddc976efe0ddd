use Rattle.pw_locks.proofs.register.LockRegister.strike.Goals as goal

pub returns : goal.returns
returns c = λ n other ne h. record {
  placed = c.take_out.ensures other.file other.span n ne h.placed;
  owned = c.take_out-2.ensures (other.unit.terminal, other.unit.number) n ne h.owned;
}
