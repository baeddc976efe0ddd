-- How many units commit in a log that has one entry more.
use Rattle.std.proofs.Common.{◌≡◌, ℕ, ◌+◌, ◌-◌, ◌<◌, ◌≤◌, ◌^◌, List, [], ◌∷◌, ◌++◌, length, Some, None, Bool, true, false, refl, ap, ◌∙◌, arith}
use Rattle.std.specs.Prelude.{if◌then◌else◌}
use Rattle.pw_base.specs.Outside.{counted}
use Rattle.pw_code.specs.declared.system.System.{System}
use Rattle.pw_event.specs.declared.event.Event.{Event}
use Rattle.pw_event.specs.declared.event.Event.TheVariants.{Show, Key, CheckStart, CheckEnd, CheckCopy, Applied, Begin, Send, Take, File, Reply, Again, Commit, Back, Restart, FailTcp, FailServer, Takeover, Raise, End}
use Rattle.pw_event.specs.declared.script.FailLine.{FailLine}
use Rattle.pw_laws.specs.locking.Records.{commits_at}
use Rattle.pw_onecopy.specs.Behaviour.{Behaviour}
use Rattle.pw_paired.specs.State.{State}
use Rattle.pw_paired.specs.Step.{after_from, effect}
use Rattle.pw_world_model.specs.Commits.{commits_by, commits_from}
use Rattle.pw_world_model.proofs.Shapes.{commits-kept}
use Rattle.pw_world_state.specs.Entered.{is_outside_at}
use Rattle.pw_world_state.specs.Kept.{Kept}
use Rattle.pw_world_state.specs.Needs.{Needs}

pub commits-more : (sys : Behaviour) (state : State) (log : List Event) (entry : Event)
    → commits_from sys state (log ++ entry ∷ []) ≡ commits_from sys state log + commits_by (after_from sys state log) entry
commits-more sys state [] entry = omega arith
commits-more sys state (e ∷ log) entry =
    let more = commits-more sys (effect sys state e) log entry in
    omega (arith, more)

at-most-one : (b : Bool) → (if b then 1 else 0) ≤ 1
at-most-one true = omega arith
at-most-one false = omega arith

-- each entry commits at most one
pub commits-within : (sys : Behaviour) (state : State) (log : List Event) → commits_from sys state log ≤ length log
commits-within sys state [] = omega arith
commits-within sys state (e ∷ log) =
    let rest = commits-within sys (effect sys state e) log in
    let one = at-most-one (commits_at state e) in
    omega (arith, rest, one)

-- a count that has not come to its end is raised by one
pub counted-one : (b : Bool) (told count : ℕ) → told ≡ count → count < 2 ^ 64 - 1 → (if b then counted told else told) ≡ count + (if b then 1 else 0)
counted-one true told count is few = omega (arith, is, few)
counted-one false told count is few = omega (arith, is)

-- what is kept tells which entries commit
pub commits-same : (system : System) (script : List FailLine) (state : State) (kept : Kept) (e : Event) → Needs system script state kept e → commits-kept kept e ≡ commits_at state e
commits-same system script state kept (Reply c i t None) needs = ap is_outside_at needs.1.ready ∙ needs.1.says.counts.outside
commits-same system script state kept (Reply c i t (Some x)) needs = refl
commits-same system script state kept (Show t phase attempt k) needs = refl
commits-same system script state kept (Key t k) needs = refl
commits-same system script state kept (CheckStart t) needs = refl
commits-same system script state kept (CheckEnd t) needs = refl
commits-same system script state kept (CheckCopy t) needs = refl
commits-same system script state kept (Applied t) needs = refl
commits-same system script state kept (Begin t n r) needs = refl
commits-same system script state kept (Send t n c) needs = refl
commits-same system script state kept (Take c i t) needs = refl
commits-same system script state kept (File c i op mode f status) needs = refl
commits-same system script state kept (Again t n) needs = refl
commits-same system script state kept (Commit t n) needs = refl
commits-same system script state kept (Back t n) needs = refl
commits-same system script state kept (Restart t n cause) needs = refl
commits-same system script state kept (FailTcp p primary k) needs = refl
commits-same system script state kept (FailServer c i k) needs = refl
commits-same system script state kept (Takeover p) needs = refl
commits-same system script state kept (Raise p) needs = refl
commits-same system script state kept (End t ending) needs = refl
