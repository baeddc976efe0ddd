use Rattle.std.proofs.Common.{◌≡◌, ◌∙◌, ℕ, Option, Some, None, ap, sym}
use Rattle.pw_base.proofs.Plain.{some_is}
use Rattle.pw_class.specs.Queue.{at_process}
use Rattle.pw_class.specs.declared.request.Request.{Request}
use Rattle.pw_event.specs.declared.event.Cause.TheVariants.{Server}
use Rattle.pw_world_store.specs.Calls.{pended}
use Rattle.pw_world_store.specs.Keeps.{kept_in, request_terminal}
use Rattle.pw_world_state.specs.Changes.{at_terminal, free_process, process_stops}
use Rattle.pw_world_state.specs.Kept.{Kept}
use Rattle.pw_world_store.proofs.keep.Keep.fail_server.Goals as goal

-- where the request is there, its terminal is the one for which the cause is pending
stopped : (c i k t : ℕ) (kept : Kept) (o : Option Request) → request_terminal o ≡ Some t
    → at_terminal t (pended (Server k)) (free_process c i kept) ≡ process_stops c i k o kept
stopped c i k t kept None e = absurd (cc e)
stopped c i k t kept (Some r) e = ap (λ x. at_terminal x (pended (Server k)) (free_process c i kept)) (sym (some_is e))

pub returns-in-Some : goal.returns-in-Some
returns-in-Some g c =
    let kept : Kept = kept_in g.D.Disc.told c.args.self.now in
    record {
      system = c.pend.ensures.system ∙ c.free.ensures.system;
      kept =
          c.pend.ensures.kept
          ∙ (ap (at_terminal c.in-Some.terminal (pended (Server c.args.line))) c.free.ensures.kept
          ∙ stopped c.args.class c.args.process c.args.line c.in-Some.terminal kept (at_process (kept.queues c.args.class) c.args.process)
          (sym c.terminal_at.ensures ∙ c.in-Some.is));
    }
