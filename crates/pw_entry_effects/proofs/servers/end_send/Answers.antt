use Rattle.std.proofs.Common.{◌∙◌, List, ℕ, Some, ap, refl, rules, subst, sym}
use Rattle.std.specs.Prelude.{IsSome}
use Rattle.pw_class.specs.Queue.{at_process}
use Rattle.pw_code.specs.Valid.{IsValid}
use Rattle.pw_code.specs.declared.verb.Answer.TheVariants as answer
use Rattle.pw_tmf.specs.Told.{Told}
use Rattle.pw_tmf.specs.Units.{after_commit}
use Rattle.pw_world_store.specs.Keeps.{kept_in}
use Rattle.pw_world_state.specs.Changes.{at_terminal, free_process, unit_at, without_unit}
use Rattle.pw_world_state.specs.Entered.{answering}
use Rattle.pw_world_state.specs.Kept.{Kept}
use Rattle.pw_entry_effects.proofs.Answering.{can-still, goes-behind}
use Rattle.pw_entry_effects.proofs.servers.end_send.Goals as goal

-- what the disc tells behind the call
abbrev told-behind : ℕ → ℕ → List ℕ → Kept → Told
told-behind t n reply kept = after_commit kept.disc (unit_at kept t n) (Some reply)

pub go_behind-requires-clause-valid : goal.go_behind-requires-clause-valid
go_behind-requires-clause-valid g c κs within = subst IsValid (sym c.in_ok-commit.ensures.ok.system) c.requires.valid

pub go_behind-requires-clause-can : goal.go_behind-requires-clause-can
go_behind-requires-clause-can g c κs within =
    can-still g.D.Disc.told c.args.terminal without_unit (told-behind c.args.terminal c.args.unit c.in_ok-kept.kept) (λ kept. kept.births) c.args.keep.now c.commit.new.self
    (λ own. refl) c.in_ok-commit.ensures.ok c.requires.can

pub free-requires-clause-busy : goal.free-requires-clause-busy
free-requires-clause-busy g c =
    let still = λ (k : Kept). IsSome (at_process (k.queues c.args.class) c.args.process) in
    let h = subst still (sym c.go_behind.ensures.kept) (subst still (sym c.in_ok-commit.ensures.ok.kept) c.requires.busy) in
    search (rules, h)

pub returns-clause-ok : goal.returns-clause-ok
returns-clause-ok g c =
    let system = c.args.keep.now.system in
    let kept : Kept = kept_in g.D.Disc.told c.args.keep.now in
    let t = c.args.terminal in
    let done = answer.Replied c.args.reply in
    let gone =
    goes-behind g.D.Disc.told t done without_unit (told-behind t c.args.unit c.in_ok-kept.kept) (λ kept. kept.births) c.args.keep.now c.commit.new.self c.go_behind.new.keep
    c.in_ok-commit.ensures.ok c.go_behind.ensures
    in
    record {
      system = c.free.ensures.system ∙ gone.system;
      kept =
          c.free.ensures.kept
          ∙ (ap (free_process c.args.class c.args.process) gone.kept
          ∙ ap (λ (reply : List ℕ). free_process c.args.class c.args.process (record (at_terminal t (λ own. without_unit (answering system done own)) kept) { disc = told-behind t c.args.unit reply kept }))
          c.in_ok-kept.ensures);
    }
