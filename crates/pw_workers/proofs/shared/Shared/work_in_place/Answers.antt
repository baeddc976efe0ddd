use Rattle.std.proofs.Common.{⊎_elim, refl, subst, sym}
use Rattle.pw_workers.specs.InPlace.{GoesOnWorked}
use Rattle.pw_world_model.specs.declared.answers.Worked.{Worked}
use Rattle.pw_world_model.specs.declared.answers.Worked.TheVariants as worked
use Rattle.pw_workers.proofs.shared.Shared.work_in_place.Goals as goal

pub returns-in-Applied-clause-works : goal.returns-in-Applied-clause-works
returns-in-Applied-clause-works g c = record {
  answer = worked.Applied c.in-Applied.answer;
  answered = c.worked.new.self;
  works = c.in-Applied.ensures.works;
  world_only = c.worked.ensures.rest;
  behind = c.go_on_in_place.ensures;
}

pub returns-in-Idle-clause-works : goal.returns-in-Idle-clause-works
returns-in-Idle-clause-works g c = record {
  answer = worked.Idle;
  answered = c.worked.new.self;
  works = c.in-Idle.ensures.works;
  world_only = c.worked.ensures.rest;
  behind = refl;
}

pub returns-in-DiscFault-clause-works : goal.returns-in-DiscFault-clause-works
returns-in-DiscFault-clause-works g c = record {
  answer = worked.DiscFault;
  answered = c.worked.new.self;
  works = c.in-DiscFault.ensures.works;
  world_only = c.worked.ensures.rest;
  behind = c.end_at_fault.ensures;
}

pub returns-in-Finished-clause-works : goal.returns-in-Finished-clause-works
returns-in-Finished-clause-works g c =
    let Behind : Worked → Type 0 = λ answer. GoesOnWorked g.D.Disc.told answer c.worked.new.self c.end_run.new.self in
    record {
      answer = c.worked.result;
      answered = c.worked.new.self;
      works = c.worked.ensures.works;
      world_only = c.worked.ensures.rest;
      behind = ⊎_elim (λ is. subst Behind (sym is) c.end_run.ensures)
          (λ other. ⊎_elim (λ is. subst Behind (sym is) c.end_run.ensures) (λ is. subst Behind (sym is) c.end_run.ensures) other)
          c.in-Finished.is;
    }
