-- The tests of the entries of a terminal at its own verb decide whether they are legal.
use Rattle.std.proofs.Common.{◌≡◌, ℕ, ◌+◌, List, ◌++◌, [], ◌∷◌, Option, Some, None, Decides, ap, ◌∙◌, refl}
use Rattle.pw_laws.proofs.Deciding.{yes, no, both, denied, like, itself, itself_not, number, below, at_most, none, some, one_with}
use Rattle.pw_laws.proofs.decided.Values.{paired, same_path, same_refresh}
use Rattle.pw_laws.proofs.decided.Verbs as asked
use Rattle.pw_laws.specs.legal.Terminals as test
use Rattle.pw_paired.specs.Failure.{runs_unit}
use Rattle.pw_onecopy.specs.Path.{PathAnswer, Ended, Dropped, entries_on, is_outside, next_number, unit_number}
use Rattle.pw_paired.specs.State.{Awaited, LastEnded, BackupCopy, OpenUnit, State}
use Rattle.pw_onecopy.specs.Behaviour.{Behaviour}
use Rattle.pw_paired.specs.Terminal.{IsLive, CanStep, HoldsStart, HoldsEnd, IsOver, LegalShow, LegalKey, LegalCheckStart, LegalCheckEnd, LegalBegin, LegalSend, LegalAgain, LegalCommit, LegalBack, awaited_of, closed_path, closing_answer, next_verb, path_of}
use Rattle.pw_paired.specs.Units.{attempt_of, is_out, restarts_of}

-- whether the terminal is started and has no ending
pub live : (sys : Behaviour) (state : State) (t : ℕ) → Decides (test.is_live sys state t) (IsLive sys state t)
live sys state t =
    like (both (below t sys.terminals) (none (state.terms t).ending))
    (λ h. record { known = h.0; going_on = h.1 }) (λ l. (l.known, l.going_on))

-- whether t can step: it is live, its pair is Paired and no cause is pending for it
pub can : (sys : Behaviour) (state : State) (t : ℕ) → Decides (test.can_step sys state t) (CanStep sys state t)
can sys state t =
    like (both (live sys state t) (both (paired (state.modes (sys.pair_of t))) (none (state.terms t).pending)))
    (λ h. record { live = h.0; paired = h.1.0; calm = h.1.1 }) (λ l. (l.live, (l.paired, l.calm)))

-- whether the backup holds this unit number and start path of the terminal
pub start_held : (memory : Option BackupCopy) (n : ℕ) (path : List PathAnswer) → Decides (test.holds_start memory n path) (HoldsStart memory n path)
start_held memory n path =
    like (one_with (λ (held : BackupCopy). both (number held.unit n) (same_path held.start path)) memory)
    (λ h. record { held = h.0; is_held = h.1; number_is = h.2.0; path_is = h.2.1 }) (λ l. (l.held, l.is_held, (l.number_is, l.path_is)))

-- whether the backup holds this end path of the terminal
pub end_held : (memory : Option BackupCopy) (path : List PathAnswer) → Decides (test.holds_end memory path) (HoldsEnd memory path)
end_held memory path =
    like (one_with end_is memory) (λ h. record { held = h.0; is_held = h.1; path_is = h.2 }) (λ l. (l.held, l.is_held, l.path_is))
  where
    end_is : (held : BackupCopy) → Decides (test.is_held_end_path path held) (held.end ≡ Some path)
    end_is held =
        like (one_with (λ (own : List PathAnswer). same_path own path) held.end)
        (λ h. h.1 ∙ ap (λ (p : List PathAnswer). Some p) h.2) (λ e. (path, e, refl))

-- whether the awaited unit, if any, has ended
pub over : (ended : ℕ → LastEnded) (awaited : Option Awaited) → Decides (test.is_over ended awaited) (IsOver ended awaited)
over ended None = yes tt
over ended (Some awaited) = at_most awaited.number (ended awaited.terminal).number

-- an attempt of this unit runs
pub running : (n : ℕ) (unit : Option OpenUnit)
    → Decides (runs_unit n unit) ((own : OpenUnit) × (unit ≡ Some own) × ((own.number ≡ n) × ((start : List PathAnswer) × (own.running ≡ Some start))))
running n None = no (λ h. let e = h.1 in cc e)
running n (Some unit) = one_with (λ (own : OpenUnit). both (number own.number n) (some own.running)) (Some unit)

-- whether SHOW t phase.attempt.k is legal by its kind
pub show : (sys : Behaviour) (state : State) (t phase attempt k : ℕ)
    → Decides (test.is_legal_show sys state t phase attempt k) (LegalShow sys state t phase attempt k)
show sys state t phase attempt k =
    like (both (can sys state t) (both (asked.show (next_verb sys state t))
    (same_refresh (next_number (path_of state t)) (record { phase = phase; attempt = attempt; k = k }))))
    (λ h. record { can = h.0; asks = h.1.0; number = h.1.1 }) (λ l. (l.can, (l.asks, l.number)))

-- whether KEY t k is legal by its kind
pub key : (sys : Behaviour) (state : State) (t k : ℕ) → Decides (test.is_legal_key sys state t k) (LegalKey sys state t k)
key sys state t k =
    like (both (can sys state t) (both (asked.accept (next_verb sys state t))
    (both (number k (entries_on (path_of state t) + 1)) (at_most k (sys.entries t)))))
    (λ h. record { can = h.0; screen = h.1.0.0; asks = h.1.0.1; next = h.1.1.0; exists = h.1.1.1 })
    (λ l. (l.can, ((l.screen, l.asks), (l.next, l.exists))))

-- whether CHECK t START is legal by its kind
pub check_start : (sys : Behaviour) (state : State) (t : ℕ) → Decides (test.is_legal_check_start sys state t) (LegalCheckStart sys state t)
check_start sys state t =
    let path : List PathAnswer = path_of state t in
    like (both (can sys state t) (both (none (attempt_of (state.units t)))
    (both (asked.beginning (next_verb sys state t) path)
    (both (denied (number (state.ended t).number (unit_number path)))
    (both (denied (start_held (state.memory t) (unit_number path) path)) (none (state.flight t)))))))
    (λ h. record { can = h.0; idle = h.1.0; begins = h.1.1.0; new = h.1.1.1.0; lacking = h.1.1.1.1.0; free = h.1.1.1.1.1 })
    (λ l. (l.can, (l.idle, (l.begins, (l.new, (l.lacking, l.free))))))

-- whether CHECK t END is legal by its kind
pub check_end : (sys : Behaviour) (state : State) (t : ℕ) → Decides (test.is_legal_check_end sys state t) (LegalCheckEnd sys state t)
check_end sys state t =
    like (both (can sys state t) (both (some (closing_answer (next_verb sys state t)))
    (both (denied (end_held (state.memory t) (closed_path sys state t))) (none (state.flight t)))))
    (λ h. record { can = h.0; answer = h.1.0.0; closes = h.1.0.1; lacking = h.1.1.0; free = h.1.1.1 })
    (λ l. (l.can, ((l.answer, l.closes), (l.lacking, l.free))))

-- whether BEGIN t n r is legal by its kind
pub begin : (sys : Behaviour) (state : State) (t n r : ℕ) → Decides (test.is_legal_begin sys state t n r) (LegalBegin sys state t n r)
begin sys state t n r =
    let path : List PathAnswer = path_of state t in
    like (both (can sys state t) (both (none (attempt_of (state.units t)))
    (both (asked.beginning (next_verb sys state t) path) (both (number n (unit_number path))
    (both (denied (number (state.ended t).number n)) (both (over state.ended (awaited_of (state.units t)))
    (both (start_held (state.memory t) (unit_number path) path) (number r (restarts_of (state.units t))))))))))
    (λ h. record {
      can = h.0;
      idle = h.1.0;
      begins = h.1.1.0;
      number = h.1.1.1.0;
      new = h.1.1.1.1.0;
      over = h.1.1.1.1.1.0;
      held = h.1.1.1.1.1.1.0;
      restarts = h.1.1.1.1.1.1.1;
    })
    (λ l. (l.can, (l.idle, (l.begins, (l.number, (l.new, (l.over, (l.held, l.restarts))))))))

-- whether SEND t n c is legal by its kind
pub send : (sys : Behaviour) (state : State) (t n c : ℕ) → Decides (test.is_legal_send sys state t n c) (LegalSend sys state t n c)
send sys state t n c =
    like (both (can sys state t) (both (running n (state.units t))
    (both (asked.send_to c (next_verb sys state t)) (itself_not (is_out sys state t)))))
    (λ h. record {
      can = h.0;
      unit = h.1.0.0;
      is_open = h.1.0.1;
      number = h.1.0.2.0;
      start = h.1.0.2.1.0;
      runs = h.1.0.2.1.1;
      message = h.1.1.0.0;
      asks = h.1.1.0.1;
      not_out = h.1.1.1;
    })
    (λ l. (l.can, ((l.unit, l.is_open, (l.number, (l.start, l.runs))), ((l.message, l.asks), l.not_out))))

-- whether AGAIN t n is legal by its kind
pub again : (sys : Behaviour) (state : State) (t n : ℕ) → Decides (test.is_legal_again sys state t n) (LegalAgain sys state t n)
again sys state t n =
    like (both (can sys state t) (both (asked.send (next_verb sys state t)) (both (itself (is_outside (path_of state t)))
    (both (number n (unit_number (path_of state t))) (number (state.ended t).number n)))))
    (λ h. record { can = h.0; class = h.1.0.0; message = h.1.0.1; asks = h.1.0.2; outside = h.1.1.0; number = h.1.1.1.0; last = h.1.1.1.1 })
    (λ l. (l.can, ((l.class, l.message, l.asks), (l.outside, (l.number, l.last)))))

-- whether COMMIT t n is legal by its kind
pub commit : (sys : Behaviour) (state : State) (t n : ℕ) → Decides (test.is_legal_commit sys state t n) (LegalCommit sys state t n)
commit sys state t n =
    like (both (can sys state t) (both (asked.end (next_verb sys state t))
    (both (number n (unit_number (path_of state t))) (end_held (state.memory t) (path_of state t ++ Ended ∷ [])))))
    (λ h. record { can = h.0; asks = h.1.0; number = h.1.1.0; held = h.1.1.1 }) (λ l. (l.can, (l.asks, (l.number, l.held))))

-- whether BACK t n is legal by its kind
pub back : (sys : Behaviour) (state : State) (t n : ℕ) → Decides (test.is_legal_back sys state t n) (LegalBack sys state t n)
back sys state t n =
    like (both (can sys state t) (both (asked.drop (next_verb sys state t))
    (both (number n (unit_number (path_of state t))) (end_held (state.memory t) (path_of state t ++ Dropped ∷ [])))))
    (λ h. record { can = h.0; asks = h.1.0; number = h.1.1.0; held = h.1.1.1 }) (λ l. (l.can, (l.asks, (l.number, l.held))))
