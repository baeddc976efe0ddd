use Rattle.pw_workers.proofs.shared.Shared.apply_on.Goals as goal

pub returns : goal.returns
returns g c = record {
  answer = c.answer-answer.result;
  answered = c.answer-answer.new.self;
  comes = c.answer-answer.ensures.comes;
  leaves = c.answer-answer.ensures.leaves;
  world_only = c.answer-answer.ensures.rest;
  behind = c.go_on_behind.ensures;
}
