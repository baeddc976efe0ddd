use Rattle.pw_workers.proofs.shared.Shared.answer.Goals as goal

pub returns-clause-comes : goal.returns-clause-comes
returns-clause-comes g c = rw (← c.self.view_is) c.apply.ensures.comes
