use Rattle.std.proofs.Common.{◌∙◌, List, Option, ap, inl}
use Rattle.pw_workers.specs.declared.lane.LinkLane.{LinkLane}
use Rattle.pw_workers.proofs.shared.Shared.build_in_place.Goals as goal

pub returns-in-Ok : goal.returns-in-Ok
returns-in-Ok g c =
    let old = c.args.self.now in
    let filed = c.give_back.ensures.filed c.requires.goes_on in
    inl (record {
      done = c.in-Ok.done;
      task = c.in-Ok.ensures.task;
      filed = filed.0;
      gives = filed.1;
      free = c.build.new.self;
      is_free = c.build.ensures.none;
      rest =
          c.give_back.ensures.rest
          ∙ ap (λ (lanes : List (Option LinkLane)). record old { world = c.give_back.new.self.world; lanes = lanes }) c.give_back.ensures.lane;
    })
