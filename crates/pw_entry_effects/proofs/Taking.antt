-- What is kept, where a server starts on a request.
use Rattle.std.proofs.Common.{◌≡◌, ℕ, ◌==◌, true, false, List, [], ◌∷◌, Option, Some, None, refl}
use Rattle.std.proofs.lemmas.Bool.{and_parts, eqb-true}
use Rattle.pw_class.specs.Queue.{taken}
use Rattle.pw_class.specs.declared.request.Request.{Request}
use Rattle.pw_class.specs.declared.request.Taken.{Taken}
use Rattle.pw_class.specs.declared.request.Taken.TheVariants.{Got, Empty, NoneFree}
use Rattle.pw_code.specs.declared.system.ClassInfo.{ClassInfo}
use Rattle.pw_code.specs.declared.system.System.{System}
use Rattle.pw_world_store.specs.Calls.{can_take, is_given, process_of, taker}
use Rattle.pw_world_state.specs.ClassTests.{is_got, may_take}
use Rattle.pw_world_state.specs.Entered.{started_on}
use Rattle.pw_world_state.specs.Kept.{Kept}

-- what a process gets is given, and the process is this one
got : (i t : ℕ) (x : Taken) → is_got i t x ≡ true → (is_given x ≡ true) × (process_of x ≡ i)
got i t (Got process request) h =
    (refl, eqb-true process i (and_parts (process == i) (request.terminal == t) h).0)
got i t Empty h = absurd (cc h)
got i t NoneFree h = absurd (cc h)

pub may-be-taken : (kept : Kept) (c i t : ℕ) → may_take kept c i t ≡ true → can_take (kept.queues c) ≡ true
may-be-taken kept c i t h = (got i t (taken (kept.queues c)) h).0

pub taker-is : (kept : Kept) (c i t : ℕ) → may_take kept c i t ≡ true → taker (kept.queues c) ≡ i
taker-is kept c i t h = (got i t (taken (kept.queues c)) h).1

-- the server that takes it starts at its first instruction
pub started-fresh : (system : System) (info : Option ClassInfo) (waiting : List Request)
    → (started_on system info waiting).at_verb ≡ false
started-fresh system None waiting = refl
started-fresh system (Some info) [] = refl
started-fresh system (Some info) (request ∷ rest) = refl
