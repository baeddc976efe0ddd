-- No more requests wait, and no more numbers are shown, than a log has entries.
use Rattle.std.proofs.Common.{ℕ, ◌+◌, ◌≤◌, Bool, true, false, cond, List, [], ◌∷◌, length, length-append, ap, arith}
use Rattle.std.specs.Prelude.{◌==◌, if◌then◌else◌}
use Rattle.pw_status.proofs.Waiting.{falls}
use Rattle.pw_status.specs.Counts.{waiting}
use Rattle.pw_event.specs.declared.event.Event.{Event}
use Rattle.pw_event.specs.declared.event.Event.TheVariants as event
use Rattle.pw_report_text.specs.Listing.{refreshes_counted_once}
use Rattle.pw_onecopy.proofs.Update.{upd_elim}
use Rattle.pw_onecopy.specs.Behaviour.{Behaviour}
use Rattle.pw_onecopy.specs.Refreshes.{once, others, refreshes_of, same_number}
use Rattle.pw_onecopy.specs.declared.refresh.Refresh.{Refresh}
use Rattle.pw_paired.specs.Shown.{refresh_of, refreshes_from}
use Rattle.pw_paired.specs.State.{Class, State}
use Rattle.pw_paired.specs.Step.{after_from, effect}
use Rattle.pw_paired.specs.Terminal.{message_of, next_verb, with_request}

-- ---- requests

one-more : (sys : Behaviour) (s : State) (c : ℕ) (entry : Event) → waiting (effect sys s entry) c ≤ waiting s c + 1
one-more sys s c (event.Send t n own) =
    upd_elim s.classes own (with_request (record { terminal = t; unit = n; message = message_of (next_verb sys s t) }) (s.classes own)) c
    (λ (class : Class). length class.waiting ≤ waiting s c + 1)
    (λ same.
    let longer = length-append (s.classes own).waiting (record { terminal = t; unit = n; message = message_of (next_verb sys s t) } ∷ []) in
    let here = ap (λ (k : ℕ). waiting s k) same in
    omega (arith, longer, here))
    (λ _. omega arith)
one-more sys s c entry = let few = falls sys s c entry (λ sent. absurd (cc sent)) in omega (arith, few)

pub few-waiting : (sys : Behaviour) (s : State) (c : ℕ) (log : List Event) → waiting (after_from sys s log) c ≤ waiting s c + length log
few-waiting sys s c [] = omega arith
few-waiting sys s c (entry ∷ log) =
    let rest = few-waiting sys (effect sys s entry) c log in
    let here = one-more sys s c entry in
    omega (arith, rest, here)

-- ---- refreshes

few-others : (r : Refresh) (all : List Refresh) → length (others r all) ≤ length all
few-others r [] = omega arith
few-others r (one ∷ rest) = by (same_number r one) (few-others r rest)
  where
    by : (b : Bool) → length (others r rest) ≤ length rest → length (if b then others r rest else one ∷ others r rest) ≤ length (one ∷ rest)
    by true few = omega (arith, few)
    by false few = omega (arith, few)

few-once : (all : List Refresh) → length (once all) ≤ length all
few-once [] = omega arith
few-once (r ∷ rest) = let few = few-once rest in let less = few-others r (once rest) in omega (arith, few, less)

few-of : (t : ℕ) (all : List Refresh) → length (refreshes_of t all) ≤ length all
few-of t [] = omega arith
few-of t (r ∷ rest) = by (r.terminal == t) (few-of t rest)
  where
    by : (b : Bool) → length (refreshes_of t rest) ≤ length rest → length (cond b (r ∷ refreshes_of t rest) (refreshes_of t rest)) ≤ length (r ∷ rest)
    by true few = omega (arith, few)
    by false few = omega (arith, few)

at-most-one : (sys : Behaviour) (s : State) (entry : Event) → length (refresh_of sys s entry) ≤ 1
at-most-one sys s (event.Show t phase attempt k) = omega arith
at-most-one sys s entry = omega arith

few-refreshes : (sys : Behaviour) (s : State) (log : List Event) → length (refreshes_from sys s log) ≤ length log
few-refreshes sys s [] = omega arith
few-refreshes sys s (entry ∷ log) =
    let both = length-append (refresh_of sys s entry) (refreshes_from sys (effect sys s entry) log) in
    let here = at-most-one sys s entry in
    let rest = few-refreshes sys (effect sys s entry) log in
    omega (arith, both, here, rest)

pub few-counted : (sys : Behaviour) (s : State) (log : List Event) (t : ℕ) → length (refreshes_counted_once (refreshes_from sys s log) t) ≤ length log
few-counted sys s log t =
    let all = few-refreshes sys s log in
    let own = few-of t (refreshes_from sys s log) in
    let each = few-once (refreshes_of t (refreshes_from sys s log)) in
    omega (arith, all, own, each)
