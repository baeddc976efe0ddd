-- What was found says where the reply goes.
use Rattle.std.proofs.Common.{ℕ, Option, sym, ap, ◌∙◌}
use Rattle.std.specs.Prelude.{option_map}
use Rattle.pw_machine.specs.Config.{config_with}
use Rattle.pw_machine.specs.Replies.{seen_at}
use Rattle.pw_machine.specs.declared.spot.MachineSpot as own
use Rattle.pw_machine.proofs.ReplyLemmas.{replied_none, replied_some}
use Rattle.pw_machine.proofs.replies.replied.Goals as goal

pub returns-in-Some-clause-config : goal.returns-in-Some-clause-config
returns-in-Some-clause-config c =
    λ frames.
    c.yield_to.ensures.config frames
    ∙ replied_some frames c.args.top.now c.args.context.now c.reply_taken.new.context c.args.codes.now c.args.reply.now (c.in-Some.place, c.in-Some.spot) c.reply_taken.ensures
    (sym (ap (λ (r : Option (ℕ × own.MachineSpot)). option_map seen_at r) c.in-Some.is)
    ∙ c.spot_among-found.ensures.found (config_with frames c.args.top.now c.args.context.now) (sym c.of-registers.ensures) (sym c.as_slice.ensures.value))

pub returns-in-None-clause-config : goal.returns-in-None-clause-config
returns-in-None-clause-config c =
    λ frames.
    replied_none frames c.args.top.now c.go_over.new.top c.args.context.now c.reply_taken.new.context c.args.codes.now c.args.reply.now c.go_over.ensures c.reply_taken.ensures
    (sym (ap (λ (r : Option (ℕ × own.MachineSpot)). option_map seen_at r) c.in-None.is)
    ∙ c.spot_among-found.ensures.found (config_with frames c.args.top.now c.args.context.now) (sym c.of-registers.ensures) (sym c.as_slice.ensures.value))
