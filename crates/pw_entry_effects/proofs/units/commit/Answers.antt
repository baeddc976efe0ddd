use Rattle.std.proofs.Common.{refl, subst, sym}
use Rattle.std.specs.Prelude.{ℕ, None}
use Rattle.pw_code.specs.Valid.{IsValid}
use Rattle.pw_code.specs.declared.verb.Answer.TheVariants as answer
use Rattle.pw_world_state.specs.Changes.{without_unit, unit_at}
use Rattle.pw_world_state.specs.Kept.{Kept}
use Rattle.pw_tmf.specs.Told.{Told}
use Rattle.pw_tmf.specs.Units.{after_commit}
use Rattle.pw_entry_effects.proofs.Answering.{can-still, goes-behind}
use Rattle.pw_entry_effects.proofs.units.commit.Goals as goal

-- what the disc tells behind the call
abbrev told-behind : ℕ → ℕ → Kept → Told
told-behind t n kept = after_commit kept.disc (unit_at kept t n) None

pub go_behind-requires-clause-valid : goal.go_behind-requires-clause-valid
go_behind-requires-clause-valid g c κs within = subst IsValid (sym c.in_ok-commit.ensures.ok.system) c.requires.valid

pub go_behind-requires-clause-can : goal.go_behind-requires-clause-can
go_behind-requires-clause-can g c κs within =
    can-still g.D.Disc.told c.args.terminal without_unit (told-behind c.args.terminal c.args.unit) (λ kept. kept.births) c.args.keep.now c.commit.new.self
    (λ own. refl) c.in_ok-commit.ensures.ok c.requires.can.can

pub returns-clause-ok : goal.returns-clause-ok
returns-clause-ok g c =
    goes-behind g.D.Disc.told c.args.terminal answer.Ended without_unit (told-behind c.args.terminal c.args.unit) (λ kept. kept.births) c.args.keep.now c.commit.new.self c.go_behind.new.keep
    c.in_ok-commit.ensures.ok c.go_behind.ensures
