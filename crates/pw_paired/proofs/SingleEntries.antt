-- What single entries do, in every state.
use Rattle.std.proofs.Common.{◌≡◌, ◌≢◌, ℕ, zero, suc, ◌+◌, ◌==◌, ◌&&◌, ◌||◌, ◌<◌, ◌≤◌, Bool, true, false, cond, not, List, [], ◌∷◌, Option, Some, None, filter, is_none, is_some, length, unwrap_or, refl, ap, ap₂, sym, subst, arith, ◌∙◌}
use Rattle.std.specs.Prelude.{nat_lt}
use Rattle.std.specs.List.{list_any}
use Rattle.std.proofs.lemmas.Bool.{and_left, and_right, cond-false, cond-true, eq-eqb, eqb-true, le-ltb, ne_eqb, true≢false}
use Rattle.pw_class.specs.Queue.{is_of, works_for}
use Rattle.pw_class.specs.declared.request.Request.{Request}
use Rattle.pw_event.specs.declared.event.Cause.TheVariants.{Takeover}
use Rattle.pw_onecopy.proofs.Update.{upd-same}
use Rattle.pw_onecopy.specs.Blocks.{Out}
use Rattle.pw_onecopy.specs.Behaviour.{Behaviour}
use Rattle.pw_onecopy.specs.Path.{PathAnswer}
use Rattle.pw_paired.specs.Failure.{LegalFailServer, LegalFailTcp, backup_fails, do_fail_tcp, is_of_pair, lose_pair, lose_primary, resume_terminal, resumed_path}
use Rattle.pw_paired.specs.Raising.{copied_path}
use Rattle.pw_paired.specs.Serial.{Reading, is_idle, out_block}
use Rattle.pw_paired.specs.State.{Awaited, BackupCopy, Down, Gone, Job, LastEnded, PairMode, OpenUnit, State, Term}
use Rattle.pw_paired.specs.Terminal.{IsOver, LegalBegin, awaited_of, path_of}
use Rattle.pw_paired.specs.Units.{any_below, attempt_of, freed_of, has_request, last_after_leaving, leave_units, request_in}

-- a takeover goes to the start path of a unit that TMF has not ended
pub resumed-start : (held : BackupCopy) (last : LastEnded) → last.number ≢ held.unit → resumed_path held last ≡ held.start
resumed-start held last other = cond-false (last.number == held.unit) _ _ (ne_eqb last.number held.unit other)

-- and behind one that it has ended, where the backup holds its end path
pub resumed-end : (held : BackupCopy) (last : LastEnded) (path : List PathAnswer) → last.number ≡ held.unit → held.end ≡ Some path → resumed_path held last ≡ path
resumed-end held last path same is =
    cond-true (last.number == held.unit) _ _ (eq-eqb last.number held.unit same) ∙ ap (λ (o : Option (List PathAnswer)). unwrap_or o held.start) is

-- nothing becomes pending for an attempt of another unit
pub cause-other : (p : ℕ) (held : BackupCopy) (unit : OpenUnit) (last : LastEnded) (term : Term) → unit.number ≢ held.unit
    → (resume_terminal p (Some held) (Some unit) last term).pending ≡ term.pending
cause-other p held unit last term other =
    cond-false (unit.number == held.unit && is_some unit.running) (Some (Takeover p)) term.pending
    (ap (λ (b : Bool). b && is_some unit.running) (ne_eqb unit.number held.unit other))

-- a new backup is told the start path of a running attempt
pub copied-start : (state : State) (t : ℕ) (unit : OpenUnit) (start : List PathAnswer) → state.units t ≡ Some unit → unit.running ≡ Some start
    → copied_path state t ≡ start
copied-start state t unit start is_open runs =
    ap (λ (o : Option (List PathAnswer)). unwrap_or o (path_of state t)) (ap attempt_of is_open ∙ runs)

-- no request of a terminal whose requests are cancelled

-- a request of another terminal
not-of : (t : ℕ) (whose : ℕ → Bool) (request : Request) → whose t ≡ true → whose request.terminal ≡ false → is_of t request ≡ false
not-of t whose request own other = by (is_of t request) refl
  where
    by : (b : Bool) → is_of t request ≡ b → b ≡ false
    by true is = absurd (true≢false (sym own ∙ (ap whose (sym (eqb-true request.terminal t is)) ∙ other)))
    by false is = refl

one_waits : (t : ℕ) (whose : ℕ → Bool) → whose t ≡ true → (request : Request) (rest : List Request) → list_any (is_of t) rest ≡ false
    → list_any (is_of t) (cond (not (whose request.terminal)) (request ∷ rest) rest) ≡ false
one_waits t whose own request rest none = by (whose request.terminal) refl
  where
    by : (b : Bool) → whose request.terminal ≡ b → list_any (is_of t) (cond (not b) (request ∷ rest) rest) ≡ false
    by true is = none
    by false is = ap₂ (λ (x y : Bool). x || y) (not-of t whose request own is) none

none_waits : (t : ℕ) (whose : ℕ → Bool) → whose t ≡ true → (waiting : List Request)
    → list_any (is_of t) (filter (λ request. not (whose request.terminal)) waiting) ≡ false
none_waits t whose own [] = refl
none_waits t whose own (request ∷ others) =
    one_waits t whose own request (filter (λ r. not (whose r.terminal)) others) (none_waits t whose own others)

none_at_work : (t : ℕ) (whose : ℕ → Bool) → whose t ≡ true → (job : Option Job) → works_for t (request_in (freed_of whose job)) ≡ false
none_at_work t whose own None = refl
none_at_work t whose own (Some job) = by (whose job.request.terminal) refl
  where
    by : (b : Bool) → whose job.request.terminal ≡ b → works_for t (request_in (cond b None (Some job))) ≡ false
    by true is = refl
    by false is = not-of t whose job.request own is

pub none_below : (n : ℕ) (has : ℕ → Bool) → ((i : ℕ) → has i ≡ false) → any_below n has ≡ false
none_below zero has none = refl
none_below (suc n) has none = ap₂ (λ (a b : Bool). a || b) (none_below n has none) (none n)

-- a failed primary takes the requests of its terminals along
pub requests-gone : (sys : Behaviour) (state : State) (p c t : ℕ) → sys.pair_of t ≡ p
    → has_request t (sys.processes c) ((lose_primary sys p state).classes c) ≡ false
requests-gone sys state p c t of =
    let own : is_of_pair sys p t ≡ true = eq-eqb (sys.pair_of t) p of in
    ap₂ (λ (a b : Bool). a || b) (none_waits t (is_of_pair sys p) own (state.classes c).waiting)
    (none_below (sys.processes c) (λ i. works_for t (request_in (freed_of (is_of_pair sys p) ((state.classes c).busy (i + 1)))))
    (λ i. none_at_work t (is_of_pair sys p) own ((state.classes c).busy (i + 1))))

-- a backup that fails in Down leaves the pair Gone
pub down-gone : (sys : Behaviour) (state : State) (p : ℕ) → state.modes p ≡ Down → (do_fail_tcp sys p false state).modes p ≡ Gone
down-gone sys state p down =
    ap (λ (m : PairMode). (backup_fails sys p m state).modes p) down ∙ upd-same state.modes p Gone p refl

-- a terminal of a lost pair
pub lost-term : (sys : Behaviour) (state : State) (p t : ℕ) → sys.pair_of t ≡ p
    → (lose_pair sys p state).terms t ≡ record (state.terms t) { path = []; pending = None }
lost-term sys state p t of = cond-true (is_of_pair sys p t) _ _ (eq-eqb (sys.pair_of t) p of)

-- a unit that is left has ended, and no reply of it is kept
pub left-ended : (sys : Behaviour) (whose : ℕ → Bool) (state : State) (t : ℕ) (unit : OpenUnit) → whose t ≡ true → state.units t ≡ Some unit
    → (leave_units sys whose state).ended t ≡ record { number = unit.number; reply = None }
left-ended sys whose state t unit own is =
    cond-true (whose t) _ _ own ∙ ap (λ (u : Option OpenUnit). last_after_leaving u (state.ended t)) is

-- no FAIL entry of a member is of line 0
pub no-member-line : (sys : Behaviour) (p : ℕ) (primary : Bool) → ¬ LegalFailTcp sys p primary 0
no-member-line sys p primary legal = let names = legal.names in cc names

-- and none of a process
pub no-process-line : (sys : Behaviour) (c i : ℕ) → ¬ LegalFailServer sys c i 0
no-process-line sys c i legal = let names = legal.names in cc names

-- nothing reads as Out while an attempt runs
pub out-within : (state : State) (reading : Reading) (t : ℕ) (start : List PathAnswer) → attempt_of (state.units t) ≡ Some start
    → out_block state reading t ≡ []
out-within state reading t start runs =
    cond-false (is_idle state t && nat_lt (reading.longest t) (length (path_of state t) + 1)) (Out t ∷ []) []
    (and_left (is_idle state t) (nat_lt (reading.longest t) (length (path_of state t) + 1)) (ap is_none runs))

-- nor where the path was longer before
pub out-known : (state : State) (reading : Reading) (t : ℕ) → length (path_of state t) < reading.longest t → out_block state reading t ≡ []
out-known state reading t longer =
    cond-false (is_idle state t && nat_lt (reading.longest t) (length (path_of state t) + 1)) (Out t ∷ []) []
    (and_right (is_idle state t) (nat_lt (reading.longest t) (length (path_of state t) + 1))
    (le-ltb (reading.longest t) (length (path_of state t) + 1) (omega (arith, longer))))

-- a unit that begins again awaits one that has ended
pub begins-over : (sys : Behaviour) (state : State) (t n r : ℕ) (unit : OpenUnit) (awaited : Awaited) → LegalBegin sys state t n r
    → state.units t ≡ Some unit → unit.awaits ≡ Some awaited → awaited.number ≤ (state.ended awaited.terminal).number
begins-over sys state t n r unit awaited l is awaits =
    subst (IsOver state.ended) (ap awaited_of is ∙ awaits) l.over
