-- One entry of a run.
use Rattle.std.proofs.Common.{◌≡◌, ◌++◌, ◌∷◌, [], Result, Ok, Err}
use Rattle.std.specs.Prelude.{OnOk}
use Rattle.pw_serial_order.proofs.Reading.{reads}
use Rattle.pw_serial_order.specs.Entries.{blocks_given, shadow_behind}
use Rattle.pw_serial_order.specs.Order.{blocks_behind}
use Rattle.pw_serial_order.specs.Shadow.{ShadowStands}
use Rattle.pw_serial_order.proofs.order.SerialOrder.push.Goals as goal

-- what holds of an Ok, by two facts of it
both : {A E : Type 0} (P Q R : Type 0) → (result : Result A E) → OnOk result P → OnOk result Q → (P → Q → R) → OnOk result R
both P Q R (Ok x) p q f = f p q
both P Q R (Err e) p q f = tt

pub returns-clause-reads : goal.returns-clause-reads
returns-clause-reads c = λ sys b log run told stands.
    both (c.read.new.self ≡ shadow_behind c.args.one_send c.args.entry.now c.args.self.now)
    (c.read.new.order.items ≡ c.args.order.now.items ++ blocks_given c.args.self.now c.args.entry.now)
    (ShadowStands sys (log ++ c.args.entry.now ∷ []) c.read.new.self × (c.read.new.order.items ≡ c.args.order.now.items ++ blocks_behind sys log c.args.entry.now))
    c.read.result c.read.ensures.kept c.read.ensures.order
    (λ kept order. reads sys b log c.args.entry.now c.args.one_send c.args.self.now c.read.new.self c.args.order.now.items c.read.new.order.items run told stands kept order)
