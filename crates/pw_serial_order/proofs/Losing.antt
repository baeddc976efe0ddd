-- What failures, takeovers and new backups make of what is kept of a pair's terminals.
use Rattle.std.proofs.Common.{◌≡◌, ◌==◌, ℕ, Bool, true, false, ◌&&◌, max, is_none, List, Option, Some, None, unwrap_or, if◌then◌else◌, refl, ap, ◌∙◌, arith}
use Rattle.std.proofs.lemmas.Bool.{cond-false, cond-true}
use Rattle.std.specs.Option.{option_map}
use Rattle.pw_event.specs.declared.event.Event.TheVariants as event
use Rattle.pw_onecopy.specs.Behaviour.{Behaviour}
use Rattle.pw_onecopy.specs.Path.{PathAnswer}
use Rattle.pw_serial_order.proofs.Keeping.{left-is, resting}
use Rattle.pw_serial_order.proofs.Seating.{seat-is, seat_with, the-term}
use Rattle.pw_serial_order.specs.Pairs.{is_of, seat_behind_loss}
use Rattle.pw_serial_order.specs.Seats.{at_path, down, lost, path_in, rested, resumed, without_backup, without_memory}
use Rattle.pw_serial_order.specs.Shadow.{held_of, mark_of, seat_of}
use Rattle.pw_serial_order.specs.declared.mark.PathMark.{PathMark}
use Rattle.pw_serial_order.specs.declared.pair.Loss.{Loss}
use Rattle.pw_serial_order.specs.declared.pair.Loss.TheVariants as loss
use Rattle.pw_serial_order.specs.declared.seat.OrderSeat.{OrderSeat}
use Rattle.pw_paired.specs.Failure.{is_of_pair, lose_backup, lose_pair, lose_primary, resume_terminal}
use Rattle.pw_paired.specs.Serial.{Reading}
use Rattle.pw_paired.specs.State.{BackupCopy, LastEnded, Message, OpenUnit, State, Term}
use Rattle.pw_paired.specs.Step.{change}

-- the state behind a loss
abbrev pub state_behind_loss : Behaviour → Loss → ℕ → State → State
state_behind_loss sys loss.Nothing p s = s
state_behind_loss sys loss.Primary p s = lose_primary sys p s
state_behind_loss sys loss.Backup p s = lose_backup sys p s
state_behind_loss sys loss.Pair p s = lose_pair sys p s

shorter : (idle : Bool) (n : ℕ) → (if idle then max n 0 else n) ≡ n
shorter true n = omega arith
shorter false n = refl

-- the path with which a takeover goes on
end-held : (last : ℕ) (held : BackupCopy) (b : Bool)
    → mark_of (if b then unwrap_or held.end held.start else held.start) ≡ (if b then unwrap_or (option_map mark_of held.end) (mark_of held.start) else mark_of held.start)
end-held last held false = refl
end-held last held true = by held.end
  where
    by : (end : Option (List PathAnswer)) → mark_of (unwrap_or end held.start) ≡ unwrap_or (option_map mark_of end) (mark_of held.start)
    by None = refl
    by (Some path) = refl

module _ (sys : Behaviour) (s : State) (r : Reading) (t : ℕ) (rest : rested (seat_of sys s r t) ≡ seat_of sys s r t) (p : ℕ) where
  abbrev was : OrderSeat
  was = seat_of sys s r t

  -- the parts behind a change of the terminals of a pair, where it is of the pair or not
  picked : (of : Bool) (last last' : LastEnded) (unit unit' : Option OpenUnit) (memory memory' : Option BackupCopy) (flight flight' : Option Message) (term term' : Term)
      → seat_with (sys.pair_of t) (if of then last' else last).number (if of then unit' else unit) (if of then memory' else memory) (if of then flight' else flight) (if of then term' else term) (r.longest t)
      ≡ (if of then seat_with (sys.pair_of t) last'.number unit' memory' flight' term' (r.longest t) else seat_with (sys.pair_of t) last.number unit memory flight term (r.longest t))
  picked true last last' unit unit' memory memory' flight flight' term term' = refl
  picked false last last' unit unit' memory memory' flight flight' term term' = refl

  long : (rested was).longest ≡ r.longest t
  long = ap (λ (seat : OrderSeat). seat.longest) rest

  -- a loss
  of-loss : (l : Loss) (of : Bool) → is_of_pair sys p t ≡ of → resting sys s r t rest (state_behind_loss sys l p s) ≡ (if of then seat_behind_loss l was else was)
  of-loss loss.Nothing true is = rest
  of-loss loss.Nothing false is = rest
  of-loss loss.Primary true is =
      ap rested (seat-is refl refl refl (cond-true (is_of_pair sys p t) None (s.flight t) is) (cond-true (is_of_pair sys p t) _ (s.terms t) is))
      ∙ ap (λ (n : ℕ). record (down was) { longest = n }) (shorter _ (r.longest t))
  of-loss loss.Primary false is =
      ap rested (seat-is refl refl refl (cond-false (is_of_pair sys p t) None (s.flight t) is) (cond-false (is_of_pair sys p t) _ (s.terms t) is)) ∙ rest
  of-loss loss.Backup true is =
      ap rested (seat-is refl refl (cond-true (is_of_pair sys p t) None (s.memory t) is) (cond-true (is_of_pair sys p t) None (s.flight t) is) (the-term (s.terms t)))
      ∙ ap (λ (n : ℕ). record (without_backup was) { longest = n }) long
  of-loss loss.Backup false is =
      ap rested (seat-is refl refl (cond-false (is_of_pair sys p t) None (s.memory t) is) (cond-false (is_of_pair sys p t) None (s.flight t) is) (the-term (s.terms t))) ∙ rest
  of-loss loss.Pair true is =
      ap rested
      (seat-is (ap (λ (l : LastEnded). l.number) (cond-true (is_of_pair sys p t) _ (s.ended t) is) ∙ left-is (s.units t) (s.ended t)) (cond-true (is_of_pair sys p t) None (s.units t) is)
      (cond-true (is_of_pair sys p t) None (s.memory t) is) (cond-true (is_of_pair sys p t) None (s.flight t) is) (cond-true (is_of_pair sys p t) _ (s.terms t) is))
      ∙ ap (λ (n : ℕ). record (lost was) { longest = n }) (shorter true (r.longest t))
  of-loss loss.Pair false is =
      ap rested
      (seat-is (ap (λ (l : LastEnded). l.number) (cond-false (is_of_pair sys p t) _ (s.ended t) is)) (cond-false (is_of_pair sys p t) None (s.units t) is)
      (cond-false (is_of_pair sys p t) None (s.memory t) is) (cond-false (is_of_pair sys p t) None (s.flight t) is) (cond-false (is_of_pair sys p t) _ (s.terms t) is))
      ∙ rest

  pub loss-keeps : (l : Loss) → resting sys s r t rest (state_behind_loss sys l p s) ≡ (if is_of p was then seat_behind_loss l was else was)
  loss-keeps l = of-loss l (is_of_pair sys p t) refl

  -- a terminal that goes on with its backup
  resumed-with : (memory : Option BackupCopy) (live : Bool) → s.memory t ≡ memory → is_none (s.terms t).ending ≡ live
      → rested (seat_with (sys.pair_of t) (s.ended t).number (s.units t) None (s.flight t) (if live then resume_terminal p memory (s.units t) (s.ended t) (s.terms t) else s.terms t) (r.longest t))
      ≡ without_memory (if live then at_path (path_in (s.ended t).number (mark_of (s.terms t).path) (option_map held_of memory)) was else was)
  resumed-with memory false held is = ap (λ (n : ℕ). record (without_memory was) { longest = n }) long
  resumed-with None true held is = refl
  resumed-with (Some copy) true held is =
      ap (λ (mark : PathMark). without_memory (at_path mark was)) (end-held (s.ended t).number copy ((s.ended t).number == copy.unit))

  takes-over : (of : Bool) → is_of_pair sys p t ≡ of → resting sys s r t rest (change sys s (event.Takeover p)) ≡ (if of then resumed was else was)
  takes-over true is =
      ap rested (seat-is refl refl (cond-true (is_of_pair sys p t) None (s.memory t) is) refl
      (ap (λ (b : Bool). if b && is_none (s.terms t).ending then resume_terminal p (s.memory t) (s.units t) (s.ended t) (s.terms t) else s.terms t) is))
      ∙ resumed-with (s.memory t) (is_none (s.terms t).ending) refl refl
  takes-over false is =
      ap rested (seat-is refl refl (cond-false (is_of_pair sys p t) None (s.memory t) is) refl
      (ap (λ (b : Bool). if b && is_none (s.terms t).ending then resume_terminal p (s.memory t) (s.units t) (s.ended t) (s.terms t) else s.terms t) is))
      ∙ rest

  pub takeover-keeps : resting sys s r t rest (change sys s (event.Takeover p)) ≡ (if is_of p was then resumed was else was)
  takeover-keeps = takes-over (is_of_pair sys p t) refl

  raises : (of : Bool) → is_of_pair sys p t ≡ of → resting sys s r t rest (change sys s (event.Raise p)) ≡ (if of then without_memory was else was)
  raises true is =
      ap rested (seat-is refl refl (cond-true (is_of_pair sys p t) None (s.memory t) is) refl (the-term (s.terms t)))
      ∙ ap (λ (n : ℕ). record (without_memory was) { longest = n }) long
  raises false is = ap rested (seat-is refl refl (cond-false (is_of_pair sys p t) None (s.memory t) is) refl (the-term (s.terms t))) ∙ rest

  pub raise-keeps : resting sys s r t rest (change sys s (event.Raise p)) ≡ (if is_of p was then without_memory was else was)
  raise-keeps = raises (is_of_pair sys p t) refl
