use Rattle.std.proofs.Common.{◌∙◌, ap, length, sym}
use Rattle.pw_world.proofs.Stamped.{noted-log, pair-stamped}
use Rattle.pw_world_model.specs.Touches.{is_same_mode}
use Rattle.pw_actor_queue.specs.Places.{notes_in}
use Rattle.pw_world.proofs.stamping.stamp_pair.Goals as goal

pub returns-then-not-is_same_mode-clause-notes : goal.returns-then-not-is_same_mode-clause-notes
returns-then-not-is_same_mode-clause-notes c =
    pair-stamped c.args.tcp c.args.mode c.args.pair.now c.seats.result.now (length c.args.ledger.now.log) (length c.stamp_called.new.self.log)
    (notes_in c.args.ledger.now.notes) (notes_in c.stamp_called.new.self.notes) (notes_in c.stamp_members.new.ledger.notes)
    (sym (c.if-not-is_same_mode.ensures ∙ ap (is_same_mode c.args.mode) c.mode.ensures)) c.seats.ensures (ap length (noted-log c.args.ledger.now c.stamp_called.new.self c.stamp_called.ensures.rest)) c.stamp_called.ensures.notes c.stamp_members.ensures.notes
