-- A process replies, is free, and its terminal goes on.
use Rattle.std.proofs.Common.{◌≡◌, ℕ, List, [], ◌∷◌, ◌++◌, Some, None, true, false, refl, sym, subst}
use Rattle.std.specs.Prelude.{IsSome, slice_get}
use Rattle.std.proofs.lemmas.Bool.{cond-true, cond-false}
use Rattle.pw_code.specs.declared.context.Context.{Context}
use Rattle.pw_code.specs.declared.system.ClassInfo.{ClassInfo}
use Rattle.pw_code.specs.declared.system.System.{System}
use Rattle.pw_code.specs.declared.system.TermInfo.{TermInfo}
use Rattle.pw_event.specs.declared.script.FailLine.{FailLine}
use Rattle.pw_code_meaning.specs.OfSystem.{behaviour}
use Rattle.pw_world_state.specs.Arrivals.{StandsForPath}
use Rattle.pw_world_state.specs.Changes.{free_process, kept_reply, kept_reply_ends}
use Rattle.pw_world_state.specs.Kept.{Kept}
use Rattle.pw_world_state.specs.Stands.{Stands}
use Rattle.pw_world_state.proofs.Answered.{answered}
use Rattle.pw_world_state.proofs.Served.{freed-stands}
use Rattle.pw_world_state.proofs.UnitChanges.{ends-stands}
use Rattle.pw_onecopy.specs.Path.{Failed, Replied, is_outside, unit_number}
use Rattle.pw_paired.specs.Server as paired
use Rattle.pw_paired.specs.Server.{do_reply, reply_at}
use Rattle.pw_paired.specs.State.{Job, State}
use Rattle.pw_paired.specs.Terminal.{path_of}
use Rattle.pw_paired.specs.Units.{commit_unit, give_answer}

module _ (system : System) (script : List FailLine) (state : State) (kept : Kept) (c i : ℕ) (info : ClassInfo) (job : Job) (stands : Stands system script state kept) (here : slice_get system.classes c ≡ Some info) (works : (state.classes c).busy i ≡ Some job) where
  abbrev pub free : State
  free = paired.free_process c i state

  -- the process that replies is free
  pub freed : Stands system script free (free_process c i kept)
  freed = freed-stands system script state kept c i info stands here ((stands.classes c info here).within i (subst IsSome (sym works) refl))

  module _ (t : ℕ) (terminal : TermInfo) (there : slice_get system.terminals t ≡ Some terminal) (new : Context) where
    pub replied : is_outside (path_of state t) ≡ false → StandsForPath system terminal (path_of state t ++ Replied (reply_at (behaviour script system) c ((state.classes c).busy i)) ∷ []) new
        → Stands system script (do_reply (behaviour script system) c i t None state) (kept_reply c i t new kept)
    replied inside path =
        let reply : List ℕ = reply_at (behaviour script system) c ((state.classes c).busy i) in
        subst (λ s. Stands system script (give_answer t (Replied reply) s) (kept_reply c i t new kept))
        (sym (cond-false (is_outside (path_of state t)) (commit_unit t (unit_number (path_of state t)) (Some reply) free) free inside))
        (answered system script free (free_process c i kept) t terminal (Replied reply) new freed there path)

    pub replied-last : (reply : List ℕ) → is_outside (path_of state t) ≡ true → reply ≡ reply_at (behaviour script system) c ((state.classes c).busy i) → StandsForPath system terminal (path_of state t ++ Replied reply ∷ []) new
        → Stands system script (do_reply (behaviour script system) c i t None state) (kept_reply_ends c i t (unit_number (path_of state t)) reply new kept)
    replied-last reply outside is path =
        subst (λ r. Stands system script (give_answer t (Replied r) (paired.commit_send t r free)) (kept_reply_ends c i t (unit_number (path_of state t)) reply new kept)) is
        (subst (λ s. Stands system script (give_answer t (Replied reply) s) (kept_reply_ends c i t (unit_number (path_of state t)) reply new kept))
        (sym (cond-true (is_outside (path_of state t)) (commit_unit t (unit_number (path_of state t)) (Some reply) free) free outside))
        (ends-stands system script free (free_process c i kept) t (unit_number (path_of state t)) terminal (Replied reply) (Some reply) new freed there path))

    pub failed-reply : (x : ℕ) → StandsForPath system terminal (path_of state t ++ Failed x ∷ []) new
        → Stands system script (do_reply (behaviour script system) c i t (Some x) state) (kept_reply c i t new kept)
    failed-reply x path = answered system script free (free_process c i kept) t terminal (Failed x) new freed there path
