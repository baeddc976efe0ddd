use Rattle.std.proofs.Common.{refl, subst, sym}
use Rattle.std.specs.Prelude.{ℕ}
use Rattle.pw_code.specs.Valid.{IsValid}
use Rattle.pw_code.specs.declared.verb.Answer.TheVariants as answer
use Rattle.pw_world_state.specs.Changes.{attempted, births_behind, unit_at}
use Rattle.pw_world_state.specs.Kept.{Kept}
use Rattle.pw_tmf.specs.Told.{Told}
use Rattle.pw_tmf.specs.Units.{begun}
use Rattle.pw_entry_effects.proofs.Answering.{can-still, goes-behind}
use Rattle.pw_entry_effects.proofs.units.begin_transaction.Goals as goal

-- what the disc tells behind the call
abbrev told-behind : ℕ → ℕ → Kept → Told
told-behind t n kept = begun kept.disc (unit_at kept t n)

pub go_behind-requires-clause-valid : goal.go_behind-requires-clause-valid
go_behind-requires-clause-valid g c κs within = subst IsValid (sym c.in_ok-begin_send.ensures.ok.system) c.requires.valid

pub go_behind-requires-clause-can : goal.go_behind-requires-clause-can
go_behind-requires-clause-can g c κs within =
    can-still g.D.Disc.told c.args.terminal attempted (told-behind c.args.terminal c.args.unit) (λ kept. births_behind (kept.disc.units c.args.terminal) kept.births) c.args.keep.now c.begin_send.new.self
    (λ own. refl) c.in_ok-begin_send.ensures.ok c.requires.can.can

pub returns-clause-ok : goal.returns-clause-ok
returns-clause-ok g c =
    goes-behind g.D.Disc.told c.args.terminal (answer.Begun c.args.restarts) attempted (told-behind c.args.terminal c.args.unit) (λ kept. births_behind (kept.disc.units c.args.terminal) kept.births) c.args.keep.now c.begin_send.new.self c.go_behind.new.keep
    c.in_ok-begin_send.ensures.ok c.go_behind.ensures
