-- What each state of a run keeps: what holds of its terminals, and that each has at most one request out.
use Rattle.std.proofs.Common.{◌≡◌, ◌≢◌, ℕ, ◌<◌, ⊎_elim, Bool, false, List, Some, if◌then◌else◌, ap, sym, subst, ◌∙◌}
use Rattle.std.proofs.lemmas.Bool.{cases_eq, cond_both}
use Rattle.pw_code.specs.declared.verb.Verb.TheVariants as verb
use Rattle.pw_onecopy.proofs.Update.{upd_elim}
use Rattle.pw_onecopy.specs.Behaviour.{Behaviour}
use Rattle.pw_onecopy.specs.Update.{upd}
use Rattle.pw_paired.specs.State.{OpenUnit, State, Term}
use Rattle.pw_paired.specs.Terminal.{IsIdle, path_of}
use Rattle.pw_paired.specs.Units.{attempt_of}
use Rattle.pw_laws.proofs.requests.Requests.{Place, Nowhere, RequestsOk, Sent, sent_of}
use Rattle.pw_laws.proofs.terms.KeepsEnds.{OutOk}
use Rattle.pw_laws.proofs.terms.TermOk.{IsWorking, TermsOk}

-- all that is kept
pub record Inv (sys : Behaviour) (s : State) : Type 0 where
  pub terms : TermsOk sys s
  pub known : (t : ℕ) (unit : OpenUnit) → s.units t ≡ Some unit → t < sys.terminals
  pub places : ℕ → Place
  pub requests : RequestsOk sys s.classes places
  pub out : (t : ℕ) (request : Sent) → sent_of (places t) ≡ Some request → OutOk sys s t request

-- a request stays out as it should be where its terminal stays as it is and a member still works
pub OutOk-same : {sys : Behaviour} {s after : State} {t : ℕ} {request : Sent} → after.terms t ≡ s.terms t → after.units t ≡ s.units t
    → (IsWorking (s.modes (sys.pair_of t)) → IsWorking (after.modes (sys.pair_of t)))
    → OutOk sys s t request → OutOk sys after t request
OutOk-same {sys = sys} {s = s} {after = after} {t = t} term unit works out = record {
  live = record { known = out.live.known; going_on = ap (λ (x : Term). x.ending) term ∙ out.live.going_on };
  working = works out.working;
  calm = ap (λ (x : Term). x.pending) term ∙ out.calm;
  unit = out.unit;
  is_open = unit ∙ out.is_open;
  number = out.number;
  start = out.start;
  runs = out.runs;
  asks = ap (λ (x : Term). sys.ask t x.path) term ∙ out.asks;
}

-- a terminal has no request out
abbrev pub IsIn : ℕ → (ℕ → Place) → Type 0
IsIn t places = (request : Sent) → sent_of (places t) ≡ Some request → ⊥

-- the others' requests stay out as they should be, where one terminal has none
pub out-others : {sys : Behaviour} {s after : State} (t : ℕ) (places : ℕ → Place) → IsIn t places
    → ((j : ℕ) → j ≢ t → after.terms j ≡ s.terms j) → ((j : ℕ) → j ≢ t → after.units j ≡ s.units j)
    → ((j : ℕ) → IsWorking (s.modes (sys.pair_of j)) → IsWorking (after.modes (sys.pair_of j)))
    → ((j : ℕ) (request : Sent) → sent_of (places j) ≡ Some request → OutOk sys s j request)
    → (j : ℕ) (request : Sent) → sent_of (places j) ≡ Some request → OutOk sys after j request
out-others t places not_out term unit works out j request is =
    ⊎_elim (λ same. absurd (not_out request (subst (λ (k : ℕ). sent_of (places k) ≡ Some request) same is)))
    (λ differ. OutOk-same (term j differ) (unit j differ) (works j) (out j request is)) (cases_eq j t)

-- the same where a terminal's request is at another place
pub out-placed : {sys : Behaviour} {s after : State} (t : ℕ) (places : ℕ → Place) (place : Place)
    → ((request : Sent) → sent_of place ≡ Some request → OutOk sys after t request)
    → ((j : ℕ) → j ≢ t → after.terms j ≡ s.terms j) → ((j : ℕ) → j ≢ t → after.units j ≡ s.units j)
    → ((j : ℕ) → IsWorking (s.modes (sys.pair_of j)) → IsWorking (after.modes (sys.pair_of j)))
    → ((j : ℕ) (request : Sent) → sent_of (places j) ≡ Some request → OutOk sys s j request)
    → (j : ℕ) (request : Sent) → sent_of (upd places t place j) ≡ Some request → OutOk sys after j request
out-placed {sys = sys} {s = s} {after = after} t places place own term unit works out j request =
    upd_elim places t place j (λ (p : Place). sent_of p ≡ Some request → OutOk sys after j request)
    (λ same is. subst (λ (k : ℕ). OutOk sys after k request) (sym same) (own request is))
    (λ differ is. OutOk-same (term j differ) (unit j differ) (works j) (out j request is))

-- the same where requests of some terminals are cancelled
pub out-cancelled : {sys : Behaviour} {s after : State} (whose : ℕ → Bool) (places : ℕ → Place)
    → ((j : ℕ) → whose j ≡ false → after.terms j ≡ s.terms j) → ((j : ℕ) → whose j ≡ false → after.units j ≡ s.units j)
    → ((j : ℕ) → whose j ≡ false → IsWorking (s.modes (sys.pair_of j)) → IsWorking (after.modes (sys.pair_of j)))
    → ((j : ℕ) (request : Sent) → sent_of (places j) ≡ Some request → OutOk sys s j request)
    → (j : ℕ) (request : Sent) → sent_of (if whose j then Nowhere else places j) ≡ Some request → OutOk sys after j request
out-cancelled {sys = sys} {s = s} {after = after} whose places term unit works out j request =
    cond_both (whose j) Nowhere (places j) (λ (p : Place). sent_of p ≡ Some request → OutOk sys after j request)
    (λ _ is. absurd (cc is))
    (λ spared is. OutOk-same (term j spared) (unit j spared) (works j spared) (out j request is))

-- an attempt that sends is at no other verb
pub no-request : {sys : Behaviour} {s : State} (t : ℕ) (i : Inv sys s) → ((c : ℕ) (message : List ℕ) → sys.ask t (path_of s t) ≢ verb.Send c message) → IsIn t i.places
no-request t i differs request is = let out = i.out t request is in differs request.class request.request.message out.asks

-- nor does it lack a running attempt
pub no-request-idle : {sys : Behaviour} {s : State} (t : ℕ) (i : Inv sys s) → IsIdle s t → IsIn t i.places
no-request-idle t i idle request is = let out = i.out t request is in absurd (cc (ap attempt_of out.is_open, out.runs, idle))
