-- The world before the first entry.
use Rattle.std.proofs.Common.{◌≡◌, ℕ, zero, suc, ◌+◌, ◌-◌, ◌<◌, ◌≤◌, ◌^◌, List, [], length, All, Some, false, inl, refl, ap, ◌∙◌, arith}
use Rattle.std.specs.Prelude.{slice_get}
use Rattle.pw_code.specs.Limits.{most_log_lines}
use Rattle.pw_code.specs.Valid.{IsValid}
use Rattle.pw_code.specs.declared.context.Context.{Context}
use Rattle.pw_code.specs.declared.system.System.{System}
use Rattle.pw_code.specs.declared.system.TermInfo.{TermInfo}
use Rattle.pw_event.specs.declared.script.FailLine.{FailLine}
use Rattle.pw_code_meaning.specs.OfSystem.{behaviour}
use Rattle.pw_world_state.specs.Arrivals.{StandsForPath}
use Rattle.pw_world_state.specs.Changes.{kept_start}
use Rattle.pw_world_state.specs.Kept.{Kept}
use Rattle.pw_world_state.specs.May.{IsLineThere}
use Rattle.pw_world_state.specs.Stands.{Stands}
use Rattle.pw_world_state.specs.TerminalTests as kept
use Rattle.pw_world_state.proofs.Starting.{start-stands}
use Rattle.pw_world_state.specs.Members.{members_of}
use Rattle.pw_world_model.specs.Pushed.{first_books, first_world}
use Rattle.pw_world_model.specs.Stamps.{IsStamp, state_at}
use Rattle.pw_world_model.specs.Worlds.{IsDiscOf, IsWorld, live_below}
use Rattle.pw_world_model.proofs.Dues.{first-is}
use Rattle.pw_world_state.proofs.Members.{members-are, seats-are}
use Rattle.pw_world_model.proofs.Outs.{out-same}
use Rattle.pw_onecopy.specs.Behaviour.{Behaviour}
use Rattle.pw_onecopy.specs.IsBehaviour.{IsBehaviour}
use Rattle.pw_paired.specs.State.{starting}
use Rattle.pw_paired.specs.Units.{has_request, is_out}
use Rattle.pw_paired.proofs.SingleEntries.{none_below}
use Rattle.pw_actor_queue.specs.declared.actor.Actor.{Actor}
use Rattle.pw_tmf.specs.Told.{Told}

-- no request is out
none-out : (sys : Behaviour) (t : ℕ) → is_out sys (starting sys) t ≡ false
none-out sys t = none_below sys.classes (λ c. has_request t (sys.processes c) ((starting sys).classes c)) (λ c. none_below (sys.processes c) (λ i. false) (λ i. refl))

-- every terminal is live
all-live : (n : ℕ) (sys : Behaviour) → n ≡ live_below n (starting sys)
all-live zero sys = refl
all-live (suc n) sys = let e : suc n ≡ n + 1 = omega arith in e ∙ ap (λ m. m + 1) (all-live n sys)

first-stamp : (sys : Behaviour) (actor : Actor) → IsStamp sys [] actor 0
first-stamp sys actor = record {
  within = omega arith;
  since = λ k low high. let none : k ≡ 0 = omega (arith, high) in ap (state_at sys [] actor) none;
  changed = inl refl;
}

pub first-world : (system : System) (script : List FailLine) (contexts : ℕ → Context) (disc : Told) (limit : ℕ)
    → IsValid system → IsBehaviour (behaviour script system) → limit ≤ most_log_lines → All (IsLineThere system) script → length script < 2 ^ 32 - 1 → IsDiscOf system script disc
    → ((t : ℕ) (info : TermInfo) → slice_get system.terminals t ≡ Some info → StandsForPath system info [] (contexts t))
    → IsWorld (first_world system script contexts disc limit) (first_books system script)
first-world system script contexts disc limit valid b few lines few_lines of paths = record {
  valid = valid;
  deck = b;
  run = tt;
  room = omega arith;
  few = few;
  stands = stands;
  members = λ p low. seats-are system p;
  terminals = of.terminals;
  files = of.files;
  commits = of.commits;
  lines = lines;
  few_lines = few_lines;
  asking = λ t low out. absurd (cc (out, not-out t));
  count = omega arith;
  failed = λ e. absurd (cc e);
  books = record {
    refreshes = refl;
    one_sends = refl;
    due = first-is (length system.tcps) (length system.classes) (behaviour script system).pair_of script;
    live = all-live (length system.terminals) (behaviour script system);
    stamps = λ actor is. first-stamp (behaviour script system) actor;
    marked = λ actor is may. refl;
  };
}
  where
    own : Kept
    own = kept_start system (members_of system) contexts disc

    stands : Stands system script (starting (behaviour script system)) own
    stands = start-stands system script (members_of system) contexts disc paths (members-are system) of.starts

    not-out : (t : ℕ) → kept.is_out system own t ≡ false
    not-out t = out-same system script (starting (behaviour script system)) own stands t ∙ none-out (behaviour script system) t
