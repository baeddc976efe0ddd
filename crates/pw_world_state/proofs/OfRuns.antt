-- What the laws ask of states holds in runs.
use Rattle.std.proofs.Common.{◌≡◌, ℕ, zero, suc, ◌+◌, ◌<◌, ◌≤◌, ◌&&◌, List, [], ◌∷◌, ◌++◌, Option, Some, None, Bool, true, false, not, is_some, is_none, refl, sym, ap, subst, ◌∙◌, append_assoc, arith}
use Rattle.std.specs.Prelude.{IsSome}
use Rattle.std.specs.List.{AllByRecursion}
use Rattle.std.proofs.lemmas.Bool.{eqb-true, or_from}
use Rattle.std.proofs.lemmas.List.Elements.{All-from_recursion, All-weaker}
use Rattle.pw_class.specs.declared.request.Request.{Request}
use Rattle.pw_event.specs.declared.event.Ending.{Ending}
use Rattle.pw_event.specs.declared.event.Event.{Event}
use Rattle.pw_world_state.specs.Members.{KnowsAll, RunsFor}
use Rattle.pw_laws.specs.locking.Held.{IsHeld}
use Rattle.pw_laws.proofs.Holding.{held}
use Rattle.pw_laws.proofs.records.Committed.{records-ok}
use Rattle.pw_laws.proofs.records.Images.{ImageOk}
use Rattle.pw_locks.specs.declared.lock.Lock.{Lock}
use Rattle.pw_onecopy.specs.Behaviour.{Behaviour}
use Rattle.pw_onecopy.specs.IsBehaviour.{IsBehaviour}
use Rattle.pw_paired.specs.Failure.{is_of_pair}
use Rattle.pw_onecopy.specs.Path.{PathAnswer, unit_number}
use Rattle.pw_paired.specs.Raising.{is_takeover, lacks_one}
use Rattle.pw_paired.specs.State.{Down, BackupCopy, BeforeImage, Job, OpenUnit, State}
use Rattle.pw_paired.specs.Step.{IsRun, after}
use Rattle.pw_paired.specs.Terminal.{LegalBegin, path_of}
use Rattle.pw_paired.specs.Units.{any_below, attempt_of}
use Rattle.pw_laws.proofs.induction.Runs.{kept}
use Rattle.pw_laws.proofs.kept.Kept.{Inv}
use Rattle.pw_laws.proofs.requests.Requests.{place_in_line, place_of_job, sent_of}
use Rattle.pw_laws.proofs.terms.TermOk.{HasMemory, IsWorking, PathOf, PathOk, RestingPath, TermOk}
use Rattle.pw_tmf.specs.Leaving.{CanLeave, HasKey, IsKeyed}

module _ (sys : Behaviour) (s : State) (i : Inv sys s) where
  -- each waiting request, behind those before it
  waiting-known : (c : ℕ) (front rest : List Request) → (s.classes c).waiting ≡ front ++ rest → AllByRecursion (λ request. request.terminal < sys.terminals) rest
  waiting-known c front [] is = tt
  waiting-known c front (request ∷ rest) is =
      let place = place_in_line s.classes (i.places request.terminal) c front request rest is refl (i.requests.placed request.terminal) in (
        (i.out request.terminal _ (ap sent_of place)).live.known,
        waiting-known c (front ++ request ∷ []) rest (is ∙ sym (append_assoc front (request ∷ []) rest)),
      )

  knows : KnowsAll sys s
  knows = record {
    units = i.known;
    waiting = λ c. All-from_recursion (λ request. request.terminal < sys.terminals) (s.classes c).waiting (waiting-known c [] (s.classes c).waiting refl);
    busy = λ c p job works. (i.out job.request.terminal _ (ap sent_of (place_of_job i.requests works refl))).live.known;
  }

pub knows-all : (sys : Behaviour) → IsBehaviour sys → (log : List Event) → IsRun sys log → KnowsAll sys (after sys log)
knows-all sys b log run = knows sys (after sys log) (kept sys b log run)

-- ---- a backup that is to take over has each live terminal

none-below : (n : ℕ) (has : ℕ → Bool) → ((j : ℕ) → j < n → has j ≡ false) → any_below n has ≡ false
none-below zero has none = refl
none-below (suc n) has none = or_from (any_below n has) (has n) (none-below n has (λ j low. none j (omega (arith, low)))) (none n (omega arith))

has-each : (of : Bool) (ending : Option Ending) (memory : Option BackupCopy) → (of ≡ true → ending ≡ None → (held : BackupCopy) × (memory ≡ Some held)) → ((of && is_none ending) && not (is_some memory)) ≡ false
has-each false ending memory has = refl
has-each true (Some ending) memory has = refl
has-each true None (Some held) has = refl
has-each true None None has = absurd (cc (has refl refl).1)

pub whole-down : (sys : Behaviour) → IsBehaviour sys → (log : List Event) → IsRun sys log → (p : ℕ) → (after sys log).modes p ≡ Down → lacks_one sys p (after sys log) ≡ false
whole-down sys b log run p down =
    none-below sys.terminals _ (λ t low.
    has-each (is_of_pair sys p t) (s.terms t).ending (s.memory t)
    (λ mine lives.
    (i.terms t low).has_memory lives (subst HasMemory (sym (ap s.modes (eqb-true (sys.pair_of t) p mine) ∙ down)) tt)))
  where
    s : State
    s = after sys log

    i : Inv sys s
    i = kept sys b log run

-- ---- units can be left in any order

keyed-one : (sys : Behaviour) (image : BeforeImage) → ImageOk sys image → IsKeyed sys.key_length image
keyed-one sys image ok = by image.content refl
  where
    by : (content : Option (List ℕ)) → image.content ≡ content → HasKey (sys.key_length image.file) image.key content
    by None is = tt
    by (Some c) is = ok.key c is

pub can-leave : (sys : Behaviour) → IsBehaviour sys → (log : List Event) → IsRun sys log → CanLeave sys (after sys log)
can-leave sys b log run =
    let ok = records-ok sys b log run in
    record {
      keyed = All-weaker (ImageOk sys) (IsKeyed sys.key_length) (keyed-one sys) (after sys log).before (All-from_recursion (ImageOk sys) (after sys log).before ok.images);
      single = ok.single;
      held = All-weaker (IsHeld (after sys log).units) (λ (lock : Lock). IsSome ((after sys log).units lock.unit.terminal)) (λ lock h. rw h.is_open refl) (after sys log).locks
          (All-from_recursion (IsHeld (after sys log).units) (after sys log).locks (held sys b log run));
    }

-- ---- units

-- a unit that begins again has its number
pub begins-same : (sys : Behaviour) → IsBehaviour sys → (log : List Event) → IsRun sys log → (t n r : ℕ) → LegalBegin sys (after sys log) t n r → (own : OpenUnit) → (after sys log).units t ≡ Some own → own.number ≡ n
begins-same sys b log run t n r legal own is =
    let unit = ok.unit_ok own is in
    let path : PathOf sys t (s.ended t).number own.running (path_of s t) =
    subst (λ (o : Option OpenUnit). PathOk sys t (s.ended t).number o (path_of s t)) is
    (ok.path_ok legal.can.live.going_on (subst IsWorking (sym legal.can.paired) tt) (ap is_takeover legal.can.calm)) in
    let rests : RestingPath sys t ((s.ended t).number + 1) ((s.ended t).number + 1) (path_of s t) =
    subst (λ (o : Option (List PathAnswer)). PathOf sys t (s.ended t).number o (path_of s t)) (sym (ap attempt_of is) ∙ legal.idle) path in
    let first : own.number ≡ (s.ended t).number + 1 = unit.number in
    let second : n ≡ unit_number (path_of s t) = legal.number in
    let low : (s.ended t).number + 1 ≤ unit_number (path_of s t) = rests.low_is in
    let high : unit_number (path_of s t) ≤ (s.ended t).number + 1 = rests.high_is in
    omega (arith, first, second, low, high)
  where
    s : State
    s = after sys log

    ok : TermOk sys t (s.ended t).number (s.units t) (s.memory t) (s.flight t) (s.terms t) (s.modes (sys.pair_of t))
    ok = (kept sys b log run).terms t legal.can.live.known

-- a server works for a running attempt
pub works-for : (sys : Behaviour) → IsBehaviour sys → (log : List Event) → IsRun sys log → (c i : ℕ) (job : Job) → ((after sys log).classes c).busy i ≡ Some job → RunsFor sys (after sys log) c job
works-for sys b log run c i job works =
    let inv = kept sys b log run in
    let out = inv.out job.request.terminal _ (ap sent_of (place_of_job inv.requests works refl)) in
    record { unit = out.unit; is_open = out.is_open; number = out.number; start = out.start; runs = out.runs; asks = out.asks }
