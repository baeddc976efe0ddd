use Rattle.std.proofs.Common.{true, None, refl, sym, ◌∙◌}
use Rattle.pw_screen.proofs.Steps.{after-screen, field-read}
use Rattle.pw_screen.proofs.taken.ScreensTaken.read.Goals as goal

pub returns-in_ok-found-clause-after : goal.returns-in_ok-found-clause-after
returns-in_ok-found-clause-after c =
    after-screen c.args.layout.now c.args.self.now (record { begun = true; names = c.read_screen.new.names; fields = c.new.result; used = None }) c.args.part.now c.in_ok-found.found
    (sym c.begins_screen.ensures ∙ c.if-begins_screen.true) c.in_ok-found.ensures.names refl c.new.ensures refl

pub returns-else-begins_screen-clause-after : goal.returns-else-begins_screen-clause-after
returns-else-begins_screen-clause-after c =
    field-read c.read_field.result c.args.layout.now c.args.self.now
    (record { begun = c.args.self.now.begun; names = c.args.self.now.names; fields = c.read_field.new.names; used = c.read_field.new.used }) c.args.part.now
    (sym c.begins_screen.ensures ∙ c.if-begins_screen.false) c.read_field.ensures.names c.read_field.ensures.used refl refl
