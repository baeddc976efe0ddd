-- A pair that is not up to date for the first time has had few entries: it is raised, and each terminal's path is copied and taken
-- in once.
use Rattle.std.proofs.Common.{◌≡◌, ◌≢◌, ◌⊎◌, inl, inr, ⊎_elim, ℕ, zero, suc, ◌+◌, ◌*◌, ◌<◌, ◌≤◌, Bool, true, false, cond, List, [], ◌∷◌, ◌++◌, length, filter, Option, Some, None, if◌then◌else◌, refl, ap, sym, subst, arith, ◌∙◌, length-append}
use Rattle.std.proofs.lemmas.Bool.{cases_eq, cases_lt, cond_both, eq-eqb, ne_eqb, true≢false}
use Rattle.std.proofs.lemmas.List.Elements.{filter-append}
use Rattle.pw_event.specs.Due.{is_same_owner, owner_entry_count, owner_of}
use Rattle.pw_event.specs.declared.event.Ending.{Ending}
use Rattle.pw_event.specs.declared.event.Ending.TheVariants as ending
use Rattle.pw_event.specs.declared.event.Event.{Event}
use Rattle.pw_event.specs.declared.event.Event.TheVariants as event
use Rattle.pw_event.specs.declared.script.Owner.TheVariants.{Tcp, Class}
use Rattle.pw_generated_runs.proofs.Sums.{sum-grows, sum-most, sum-same}
use Rattle.pw_generated_runs.specs.Counts.{sum_below}
use Rattle.pw_laws.proofs.induction.Failed.{end-cases}
use Rattle.pw_laws.proofs.induction.Served.{file-cases, reply-any}
use Rattle.pw_laws.proofs.terms.KeepsPairs.{not-of-pair, of-pair}
use Rattle.pw_laws.specs.serial.Guarded.{is_fail}
use Rattle.pw_onecopy.proofs.Update.{upd_both, upd_elim, upd-other, upd-same}
use Rattle.pw_onecopy.specs.Behaviour.{Behaviour}
use Rattle.pw_onecopy.specs.Path.{unit_number}
use Rattle.pw_onecopy.specs.Update.{upd}
use Rattle.pw_paired.specs.End.{LegalEnd}
use Rattle.pw_paired.specs.Failure.{is_of_pair}
use Rattle.pw_paired.specs.Raising.{LegalApplied, LegalCheckCopy, LegalRaise, copied_path, lacks_one, settled_mode, with_message}
use Rattle.pw_paired.specs.State.{Alone, BackupCopy, Copy, Down, End, Gone, Message, OpenUnit, PairMode, Paired, Raising, Start, State}
use Rattle.pw_paired.specs.Step.{Fits, change, effect}
use Rattle.pw_paired.specs.Terminal.{CanStep}
use Rattle.pw_paired.specs.Units.{only}

-- ---- what an entry leaves of a pair whose terminals have no open unit

module _ (sys : Behaviour) (p : ℕ) (s : State) (idle : (j : ℕ) → sys.pair_of j ≡ p → s.units j ≡ None) where
  -- the pair's mode and backup are as they were, and so are its terminals' units
  record Untouched (x : State) : Type 0 where
    modes : x.modes p ≡ s.modes p
    units : (j : ℕ) → sys.pair_of j ≡ p → x.units j ≡ s.units j
    memory : (j : ℕ) → sys.pair_of j ≡ p → x.memory j ≡ s.memory j
    flight : (j : ℕ) → sys.pair_of j ≡ p → x.flight j ≡ s.flight j

  -- a unit that is not open ends
  ends : (own j : ℕ) → sys.pair_of j ≡ p → upd s.units own None j ≡ s.units j
  ends own j of = upd_elim s.units own None j (λ (u : Option OpenUnit). u ≡ s.units j) (λ _. sym (idle j of)) (λ _. refl)

  -- units of other terminals are left
  leaves : (own j : ℕ) → sys.pair_of j ≡ p → (if only own j then None else s.units j) ≡ s.units j
  leaves own j of = cond_both (only own j) None (s.units j) (λ (u : Option OpenUnit). u ≡ s.units j) (λ _. sym (idle j of)) (λ _. refl)

  module _ (own : ℕ) (other : sys.pair_of own ≢ p) where
    apart : (j : ℕ) → sys.pair_of j ≡ p → j ≢ own
    apart j of same = other (ap sys.pair_of (sym same) ∙ of)

    moded : (mode : PairMode) → upd s.modes (sys.pair_of own) mode p ≡ s.modes p
    moded mode = upd-other s.modes (sys.pair_of own) mode p (λ same. other (sym same))

    ended : (e : Ending) → LegalEnd sys s own e → Untouched (change sys s (event.End own e))
    ended e l =
        end-cases sys s Untouched own e l
        (λ _. record { modes = moded _; units = λ j of. refl; memory = λ j of. upd-other s.memory own None j (apart j of); flight = λ j of. upd-other s.flight own None j (apart j of) })
        (λ _. record { modes = moded _; units = λ j of. refl; memory = λ j of. upd-other s.memory own None j (apart j of); flight = λ j of. upd-other s.flight own None j (apart j of) })
        (λ _. record { modes = moded _; units = λ j of. leaves own j of; memory = λ j of. upd-other s.memory own None j (apart j of); flight = λ j of. upd-other s.flight own None j (apart j of) })

  -- an entry of another pair, or of a class
  untouched : (entry : Event) → Fits sys s entry → is_fail entry ≡ false → owner_of sys.pair_of entry ≢ Tcp p → Untouched (change sys s entry)
  untouched (event.Show own stage attempt k) l calm other = record { modes = refl; units = λ j of. refl; memory = λ j of. refl; flight = λ j of. refl }
  untouched (event.Key own k) l calm other = record { modes = refl; units = λ j of. refl; memory = λ j of. refl; flight = λ j of. refl }
  untouched (event.CheckStart own) l calm other =
      record { modes = refl; units = λ j of. refl; memory = λ j of. refl; flight = λ j of. upd-other s.flight own _ j (apart own (λ e. other (ap Tcp e)) j of) }
  untouched (event.CheckEnd own) l calm other =
      record { modes = refl; units = λ j of. refl; memory = λ j of. refl; flight = λ j of. upd-other s.flight own _ j (apart own (λ e. other (ap Tcp e)) j of) }
  untouched (event.CheckCopy own) l calm other =
      record { modes = refl; units = λ j of. refl; memory = λ j of. refl; flight = λ j of. upd-other s.flight own _ j (apart own (λ e. other (ap Tcp e)) j of) }
  untouched (event.Applied own) l calm other = record {
    modes = moded own (λ e. other (ap Tcp e)) _;
    units = λ j of. refl;
    memory = λ j of. upd-other s.memory own _ j (apart own (λ e. other (ap Tcp e)) j of);
    flight = λ j of. upd-other s.flight own None j (apart own (λ e. other (ap Tcp e)) j of);
  }
  untouched (event.Begin own n r) l calm other =
      record { modes = refl; units = λ j of. upd-other s.units own _ j (apart own (λ e. other (ap Tcp e)) j of); memory = λ j of. refl; flight = λ j of. refl }
  untouched (event.Send own n c) l calm other = record { modes = refl; units = λ j of. refl; memory = λ j of. refl; flight = λ j of. refl }
  untouched (event.Take c i own) l calm other = record { modes = refl; units = λ j of. refl; memory = λ j of. refl; flight = λ j of. refl }
  untouched (event.File c i op mode f status) l calm other =
      file-cases sys s c i Untouched (record { modes = refl; units = λ j of. refl; memory = λ j of. refl; flight = λ j of. refl })
      (λ job call works asks. record { modes = refl; units = λ j of. refl; memory = λ j of. refl; flight = λ j of. refl })
  untouched (event.Reply c i own fault) l calm other =
      reply-any sys s c i own Untouched fault
      (λ reply outside. record { modes = refl; units = λ j of. ends own j of; memory = λ j of. refl; flight = λ j of. refl })
      (λ reply inside. record { modes = refl; units = λ j of. refl; memory = λ j of. refl; flight = λ j of. refl })
      (λ x. record { modes = refl; units = λ j of. refl; memory = λ j of. refl; flight = λ j of. refl })
  untouched (event.Again own n) l calm other = record { modes = refl; units = λ j of. refl; memory = λ j of. refl; flight = λ j of. refl }
  untouched (event.Commit own n) l calm other = record { modes = refl; units = λ j of. ends own j of; memory = λ j of. refl; flight = λ j of. refl }
  untouched (event.Back own n) l calm other = record { modes = refl; units = λ j of. ends own j of; memory = λ j of. refl; flight = λ j of. refl }
  untouched (event.Restart own n kind) l calm other =
      record { modes = refl; units = λ j of. upd-other s.units own _ j (apart own (λ e. other (ap Tcp e)) j of); memory = λ j of. refl; flight = λ j of. refl }
  untouched (event.FailTcp q primary k) l calm other = absurd (true≢false calm)
  untouched (event.FailServer c i k) l calm other = absurd (true≢false calm)
  untouched (event.Takeover q) l calm other = record {
    modes = upd-other s.modes q Alone p (λ same. other (ap Tcp (sym same)));
    units = λ j of. refl;
    memory = λ j of. not-of-pair sys q j None (s.memory j) (λ e. other (ap Tcp (sym e ∙ of)));
    flight = λ j of. refl;
  }
  untouched (event.Raise q) l calm other = record {
    modes = upd-other s.modes q Raising p (λ same. other (ap Tcp (sym same)));
    units = λ j of. refl;
    memory = λ j of. not-of-pair sys q j None (s.memory j) (λ e. other (ap Tcp (sym e ∙ of)));
    flight = λ j of. refl;
  }
  untouched (event.End own e) l calm other = ended own (λ same. other (ap Tcp same)) e l

-- ---- how far a backup is

-- how many entries of a terminal have come to this
abbrev pub weight : Option BackupCopy → Option Message → ℕ
weight None None = 0
weight None (Some message) = 1
weight (Some held) flight = 2

-- nothing was sent, a copy is in flight, or it was taken in
abbrev pub Fresh : Option BackupCopy → Option Message → Type 0
Fresh None None = Unit {0}
Fresh None (Some (Copy unit path)) = Unit {0}
Fresh (Some held) None = Unit {0}
Fresh _ _ = ⊥

weight-few : (memory : Option BackupCopy) (flight : Option Message) → weight memory flight ≤ 2
weight-few None None = omega arith
weight-few None (Some message) = omega arith
weight-few (Some held) flight = omega arith

-- a copy is taken in
record TakenIn (memory : Option BackupCopy) (flight : Option Message) : Type 0 where
  more : weight (with_message flight memory) None ≡ weight memory flight + 1
  fresh : Fresh (with_message flight memory) None

taken-in : (memory : Option BackupCopy) (flight : Option Message) (message : Message) → flight ≡ Some message → Fresh memory flight → TakenIn memory flight
taken-in None None message flies fresh = absurd cc
taken-in None (Some (Copy unit path)) message flies fresh = record { more = refl; fresh = tt }
taken-in None (Some (Start unit path)) message flies fresh = absurd fresh
taken-in None (Some (End path)) message flies fresh = absurd fresh
taken-in (Some held) None message flies fresh = absurd cc
taken-in (Some held) (Some (Copy unit path)) message flies fresh = absurd fresh
taken-in (Some held) (Some (Start unit path)) message flies fresh = absurd fresh
taken-in (Some held) (Some (End path)) message flies fresh = absurd fresh

abbrev phase : PairMode → ℕ
phase Alone = 0
phase _ = 1

-- what the entries of one terminal of the pair have come to
abbrev part : Behaviour → ℕ → State → ℕ → ℕ
part sys p s t = if is_of_pair sys p t then weight (s.memory t) (s.flight t) else 0

part-few : (sys : Behaviour) (p : ℕ) (s : State) (t : ℕ) → part sys p s t ≤ 2
part-few sys p s t = cond_both (is_of_pair sys p t) (weight (s.memory t) (s.flight t)) 0 (λ (n : ℕ). n ≤ 2) (λ _. weight-few (s.memory t) (s.flight t)) (λ _. omega arith)

twice : (n : ℕ) → sum_below n (λ t. 2) ≡ 2 * n
twice zero = refl
twice (suc n) = omega (arith, twice n)

nothing : (n : ℕ) → sum_below n (λ t. 0) ≡ 0
nothing zero = refl
nothing (suc n) = omega (arith, nothing n)

-- The pair was never up to date: none of its terminals has an open unit, its backup holds what was copied, and it has no more
-- entries than these copies come to.
pub record IsYoung (sys : Behaviour) (p : ℕ) (s : State) : Type 0 where
  pub mode : (s.modes p ≡ Alone) ⊎ (s.modes p ≡ Raising)
  pub idle : (j : ℕ) → sys.pair_of j ≡ p → s.units j ≡ None
  pub fresh : (j : ℕ) → sys.pair_of j ≡ p → Fresh (s.memory j) (s.flight j)
  pub alone : s.modes p ≡ Alone → (j : ℕ) → sys.pair_of j ≡ p → (s.memory j ≡ None) × (s.flight j ≡ None)
  pub beyond : (j : ℕ) → sys.pair_of j ≡ p → sys.terminals ≤ j → s.flight j ≡ None
  pub few : owner_entry_count sys.pair_of (Tcp p) s.log ≤ phase (s.modes p) + sum_below sys.terminals (part sys p s)

-- so it has few entries
pub young-few : (sys : Behaviour) (p : ℕ) (s : State) → IsYoung sys p s → owner_entry_count sys.pair_of (Tcp p) s.log ≤ 1 + 2 * sys.terminals
young-few sys p s young =
    let phases : phase (s.modes p) ≤ 1 = few (s.modes p) in
    omega (arith, young.few, phases, sum-most sys.terminals (part sys p s) (λ t. 2) (part-few sys p s), twice sys.terminals)
  where
    few : (mode : PairMode) → phase mode ≤ 1
    few Alone = omega arith
    few Raising = omega arith
    few Paired = omega arith
    few Down = omega arith
    few Gone = omega arith

-- at first
pub young-first : (sys : Behaviour) (p : ℕ) (s : State) → s.modes p ≡ Alone → s.log ≡ [] → ((j : ℕ) → (s.units j ≡ None) × (s.memory j ≡ None) × (s.flight j ≡ None)) → IsYoung sys p s
young-first sys p s alone none all = record {
  mode = inl alone;
  idle = λ j of. (all j).0;
  fresh = λ j of. subst (Fresh (s.memory j)) (sym (all j).2) (subst (λ (m : Option BackupCopy). Fresh m None) (sym (all j).1) tt);
  alone = λ _ j of. ((all j).1, (all j).2);
  beyond = λ j of _. (all j).2;
  few = let here : owner_entry_count sys.pair_of (Tcp p) s.log ≡ 0 = ap (owner_entry_count sys.pair_of (Tcp p)) none in omega (arith, here);
}

-- 1 where it is so
abbrev one_if : Bool → ℕ
one_if true = 1
one_if false = 0

-- one entry more
length-one : {A : Type 0} (b : Bool) (x : A) → length (cond b (x ∷ []) []) ≡ one_if b
length-one true x = refl
length-one false x = refl

counted-more : (sys : Behaviour) (p : ℕ) (log : List Event) (entry : Event)
    → owner_entry_count sys.pair_of (Tcp p) (log ++ entry ∷ []) ≡ owner_entry_count sys.pair_of (Tcp p) log + one_if (is_same_owner (owner_of sys.pair_of entry) (Tcp p))
counted-more sys p log entry =
    let own : Event → Bool = λ e. is_same_owner (owner_of sys.pair_of e) (Tcp p) in
    ap (λ (l : List Event). length l) (filter-append own log (entry ∷ []))
    ∙ (length-append (filter own log) (filter own (entry ∷ [])) ∙ ap (λ (k : ℕ). length (filter own log) + k) (length-one (own entry) entry))

tcp-same : (a b : ℕ) → Tcp a ≡ Tcp b → a ≡ b
tcp-same a b is = cc is

module _ (sys : Behaviour) (p : ℕ) (s : State) (young : IsYoung sys p s) where
  abbrev n : ℕ
  n = sys.terminals

  -- no terminal of the pair can step, nor has it a running attempt
  not-paired : s.modes p ≡ Paired → ⊥
  not-paired paired = ⊎_elim (λ is. absurd (cc (is, paired))) (λ is. absurd (cc (is, paired))) young.mode

  cannot : (own : ℕ) → sys.pair_of own ≡ p → CanStep sys s own → ⊥
  cannot own of can = not-paired (ap s.modes (sym of) ∙ can.paired)

  -- behind an entry of others
  others : (entry : Event) → Untouched sys p s young.idle (change sys s entry) → is_same_owner (owner_of sys.pair_of entry) (Tcp p) ≡ false → IsYoung sys p (effect sys s entry)
  others entry same other =
      let x : State = effect sys s entry in
      let count : owner_entry_count sys.pair_of (Tcp p) x.log ≡ owner_entry_count sys.pair_of (Tcp p) s.log =
      let more = counted-more sys p s.log entry in
      let none : one_if (is_same_owner (owner_of sys.pair_of entry) (Tcp p)) ≡ 0 = ap one_if other in
      omega (arith, more, none) in
      let parts : (j : ℕ) → j < n → part sys p s j ≡ part sys p x j =
      λ j lt. ⊎_elim
      (λ of. ap (λ (m : Option BackupCopy). if is_of_pair sys p j then weight m (s.flight j) else 0) (sym (same.memory j of)) ∙ ap (λ (f : Option Message). if is_of_pair sys p j then weight (x.memory j) f else 0) (sym (same.flight j of)))
      (λ differ. not-of-pair sys p j (weight (s.memory j) (s.flight j)) 0 differ ∙ sym (not-of-pair sys p j (weight (x.memory j) (x.flight j)) 0 differ))
      (cases_eq (sys.pair_of j) p) in
      let phases : phase (x.modes p) ≡ phase (s.modes p) = ap phase same.modes in
      record {
        mode = ⊎_elim (λ is. inl (same.modes ∙ is)) (λ is. inr (same.modes ∙ is)) young.mode;
        idle = λ j of. same.units j of ∙ young.idle j of;
        fresh = λ j of. subst (Fresh (x.memory j)) (sym (same.flight j of)) (subst (λ (m : Option BackupCopy). Fresh m (s.flight j)) (sym (same.memory j of)) (young.fresh j of));
        alone = λ is j of. let old = young.alone (sym same.modes ∙ is) j of in (same.memory j of ∙ old.0, same.flight j of ∙ old.1);
        beyond = λ j of past. same.flight j of ∙ young.beyond j of past;
        few = omega (arith, count, phases, young.few, sum-same n (part sys p s) (part sys p x) parts);
      }

  -- RAISE
  raised : LegalRaise sys s p → IsYoung sys p (effect sys s (event.Raise p))
  raised l =
      let x : State = effect sys s (event.Raise p) in
      let raising : x.modes p ≡ Raising = upd-same s.modes p Raising p refl in
      let memory : (j : ℕ) → sys.pair_of j ≡ p → x.memory j ≡ None = λ j of. of-pair sys p j None (s.memory j) of in
      let more = counted-more sys p s.log (event.Raise p) in
      let one : one_if (is_same_owner (owner_of sys.pair_of (event.Raise p)) (Tcp p)) ≡ 1 = ap one_if (eq-eqb p p refl) in
      let zeros : (j : ℕ) → j < n → part sys p s j ≡ 0 =
      λ j lt. ⊎_elim
      (λ of. let old = young.alone l.alone j of in
      of-pair sys p j (weight (s.memory j) (s.flight j)) 0 of ∙ (ap (λ (m : Option BackupCopy). weight m (s.flight j)) old.0 ∙ ap (weight None) old.1))
      (λ differ. not-of-pair sys p j (weight (s.memory j) (s.flight j)) 0 differ)
      (cases_eq (sys.pair_of j) p) in
      let before : phase (s.modes p) ≡ 0 = ap phase l.alone in
      let behind : phase (x.modes p) ≡ 1 = ap phase raising in
      record {
        mode = inr raising;
        idle = young.idle;
        fresh = λ j of. subst (λ (m : Option BackupCopy). Fresh m (s.flight j)) (sym (memory j of)) (subst (Fresh None) (sym (young.alone l.alone j of).1) tt);
        alone = λ is. absurd (cc (is, raising));
        beyond = young.beyond;
        few = omega (arith, more, one, before, behind, young.few, sum-same n (part sys p s) (λ t. 0) zeros, nothing n);
      }

  module _ (own : ℕ) (of : sys.pair_of own ≡ p) where
    -- the pair's entries
    own-entry : (entry : Event) → owner_of sys.pair_of entry ≡ Tcp (sys.pair_of own) → one_if (is_same_owner (owner_of sys.pair_of entry) (Tcp p)) ≡ 1
    own-entry entry is = ap (λ (o : _). one_if (is_same_owner o (Tcp p))) is ∙ ap one_if (eq-eqb (sys.pair_of own) p of)

    -- one terminal's part grows
    grown : (x : State) → own < n → ((j : ℕ) → j ≢ own → x.memory j ≡ s.memory j) → ((j : ℕ) → j ≢ own → x.flight j ≡ s.flight j)
        → weight (x.memory own) (x.flight own) ≡ weight (s.memory own) (s.flight own) + 1 → sum_below n (part sys p x) ≡ sum_below n (part sys p s) + 1
    grown x lt memory flight more =
        sum-grows n (part sys p s) (part sys p x) own 1 lt
        (λ j differ. ap (λ (m : Option BackupCopy). if is_of_pair sys p j then weight m (x.flight j) else 0) (memory j differ)
        ∙ ap (λ (f : Option Message). if is_of_pair sys p j then weight (s.memory j) f else 0) (flight j differ))
        (of-pair sys p own (weight (x.memory own) (x.flight own)) 0 of ∙ (more ∙ ap (λ (k : ℕ). k + 1) (sym (of-pair sys p own (weight (s.memory own) (s.flight own)) 0 of))))

    -- CHECK COPY
    copied : LegalCheckCopy sys s own → IsYoung sys p (effect sys s (event.CheckCopy own))
    copied l =
        let x : State = effect sys s (event.CheckCopy own) in
        let flown : Option Message = Some (Copy (unit_number (copied_path s own)) (copied_path s own)) in
        let raising : s.modes p ≡ Raising = ap s.modes (sym of) ∙ l.raising in
        let flies = upd-same s.flight own flown own refl in
        let others_fly : (j : ℕ) → j ≢ own → x.flight j ≡ s.flight j = λ j differ. upd-other s.flight own flown j differ in
        let more : weight (x.memory own) (x.flight own) ≡ weight (s.memory own) (s.flight own) + 1 =
        ap (λ (m : Option BackupCopy). weight m (x.flight own)) l.lacking ∙ (ap (weight None) flies ∙ sym (ap (λ (k : ℕ). k + 1) (ap (λ (m : Option BackupCopy). weight m (s.flight own)) l.lacking ∙ ap (weight None) l.free))) in
        record {
          mode = inr raising;
          idle = young.idle;
          fresh = λ j pair. upd_elim s.flight own flown j (Fresh (s.memory j))
              (λ same. subst (λ (m : Option BackupCopy). Fresh m flown) (sym (ap s.memory same ∙ l.lacking)) (tt {0})) (λ _. young.fresh j pair);
          alone = λ is. absurd (cc (is, raising));
          beyond = λ j of past. upd_elim s.flight own flown j (λ (f : Option Message). f ≡ None) (λ same. absurd (omega (arith, same, past, l.live.known))) (λ _. young.beyond j of past);
          few = omega (arith, counted-more sys p s.log (event.CheckCopy own), own-entry (event.CheckCopy own) refl, young.few, grown x l.live.known (λ j _. refl) others_fly more);
        }

    -- APPLIED
    known : LegalApplied sys s own → own < n
    known l = ⊎_elim (λ lt. lt) (λ past. absurd (let none = young.beyond own of past in cc (none, l.flies))) (cases_lt own n)

    abbrev behind : State
    behind = effect sys s (event.Applied own)

    abbrev lacks : Bool
    lacks = lacks_one sys (sys.pair_of own) (record s { memory = upd s.memory own (with_message (s.flight own) (s.memory own)); flight = upd s.flight own None })

    settled : (b : Bool) → lacks ≡ b → LegalApplied sys s own → s.modes p ≡ Raising → (behind.modes p ≡ Paired) ⊎ IsYoung sys p behind
    settled false is l raising =
        inl (upd-same s.modes (sys.pair_of own) _ p (sym of)
        ∙ (ap (λ (b : Bool). settled_mode (s.modes (sys.pair_of own)) b) is ∙ ap (λ (m : PairMode). settled_mode m false) (ap s.modes of ∙ raising)))
    settled true is l raising =
        let still : behind.modes p ≡ Raising =
        upd-same s.modes (sys.pair_of own) _ p (sym of)
        ∙ (ap (λ (b : Bool). settled_mode (s.modes (sys.pair_of own)) b) is ∙ ap (λ (m : PairMode). settled_mode m true) (ap s.modes of ∙ raising)) in
        let took = taken-in (s.memory own) (s.flight own) l.message l.flies (young.fresh own of) in
        let memory : behind.memory own ≡ with_message (s.flight own) (s.memory own) = upd-same s.memory own _ own refl in
        let flight : behind.flight own ≡ None = upd-same s.flight own None own refl in
        let more : weight (behind.memory own) (behind.flight own) ≡ weight (s.memory own) (s.flight own) + 1 =
        ap (λ (m : Option BackupCopy). weight m (behind.flight own)) memory ∙ (ap (weight (with_message (s.flight own) (s.memory own))) flight ∙ took.more) in
        let phase_before : phase (s.modes p) ≡ 1 = ap phase raising in
        let phase_behind : phase (behind.modes p) ≡ 1 = ap phase still in
        inr (record {
          mode = inr still;
          idle = young.idle;
          fresh = λ j pair. upd_both s.memory s.flight own _ None j Fresh (λ same. took.fresh) (λ _. young.fresh j pair);
          alone = λ is. absurd (cc (is, still));
          beyond = λ j pair past. upd_elim s.flight own None j (λ (f : Option Message). f ≡ None) (λ _. refl) (λ _. young.beyond j pair past);
          few = omega (
            arith,
            counted-more sys p s.log (event.Applied own),
            own-entry (event.Applied own) refl,
            young.few,
            phase_before,
            phase_behind,
            grown behind (known l) (λ j differ. upd-other s.memory own _ j differ) (λ j differ. upd-other s.flight own None j differ) more,
          );
        })

    applied : LegalApplied sys s own → (behind.modes p ≡ Paired) ⊎ IsYoung sys p behind
    applied l = ⊎_elim
        (λ alone. absurd (let none = (young.alone alone own of).1 in cc (none, l.flies)))
        (λ raising. settled lacks refl l raising)
        young.mode

  -- no terminal of it ends
  not-ended : (own : ℕ) → sys.pair_of own ≡ p → (e : Ending) → LegalEnd sys s own e → ⊥
  not-ended own of ending.Stopped l = cannot own of l.can
  not-ended own of ending.NoEntries l = cannot own of l.can
  not-ended own of (ending.Fault x) l = cannot own of l.can
  not-ended own of (ending.Suspended cause) l = absurd (let none = young.idle own of in let some = l.caused.is_open in cc (none, some))
  not-ended own of ending.Lost l =
      let gone : s.modes p ≡ Gone = ap s.modes (sym of) ∙ l.lost in
      ⊎_elim (λ is. absurd (cc (is, gone))) (λ is. absurd (cc (is, gone))) young.mode

  -- an entry of a terminal of the pair, or of another one
  by-pair : (own : ℕ) (entry : Event) → Fits sys s entry → is_fail entry ≡ false → owner_of sys.pair_of entry ≡ Tcp (sys.pair_of own)
      → (sys.pair_of own ≡ p → ((change sys s entry).modes p ≡ Paired) ⊎ IsYoung sys p (effect sys s entry)) → ((change sys s entry).modes p ≡ Paired) ⊎ IsYoung sys p (effect sys s entry)
  by-pair own entry l calm is mine =
      ⊎_elim mine
      (λ differ. inr (others entry (untouched sys p s young.idle entry l calm (λ e. differ (tcp-same (sys.pair_of own) p (sym is ∙ e))))
      (ap (λ (o : _). is_same_owner o (Tcp p)) is ∙ ne_eqb (sys.pair_of own) p differ)))
      (cases_eq (sys.pair_of own) p)

  by-class : (entry : Event) → Fits sys s entry → is_fail entry ≡ false → (c : ℕ) → owner_of sys.pair_of entry ≡ Class c → ((change sys s entry).modes p ≡ Paired) ⊎ IsYoung sys p (effect sys s entry)
  by-class entry l calm c is = inr (others entry (untouched sys p s young.idle entry l calm (λ e. absurd (cc (is, e)))) (ap (λ (o : _). is_same_owner o (Tcp p)) is))

  -- behind an entry that is no failure the pair is up to date, or is as young
  pub grows : (entry : Event) → Fits sys s entry → is_fail entry ≡ false → ((change sys s entry).modes p ≡ Paired) ⊎ IsYoung sys p (effect sys s entry)
  grows (event.Show own stage attempt k) l calm = by-pair own _ l calm refl (λ of. absurd (cannot own of l.can))
  grows (event.Key own k) l calm = by-pair own _ l calm refl (λ of. absurd (cannot own of l.can))
  grows (event.CheckStart own) l calm = by-pair own _ l calm refl (λ of. absurd (cannot own of l.can))
  grows (event.CheckEnd own) l calm = by-pair own _ l calm refl (λ of. absurd (cannot own of l.can))
  grows (event.CheckCopy own) l calm = by-pair own _ l calm refl (λ of. inr (copied own of l))
  grows (event.Applied own) l calm = by-pair own _ l calm refl (λ of. applied own of l)
  grows (event.Begin own k r) l calm = by-pair own _ l calm refl (λ of. absurd (cannot own of l.can))
  grows (event.Send own k c) l calm = by-pair own _ l calm refl (λ of. absurd (cannot own of l.can))
  grows (event.Take c i own) l calm = by-class _ l calm c refl
  grows (event.File c i op mode f status) l calm = by-class _ l calm c refl
  grows (event.Reply c i own fault) l calm = by-class _ l calm c refl
  grows (event.Again own k) l calm = by-pair own _ l calm refl (λ of. absurd (cannot own of l.can))
  grows (event.Commit own k) l calm = by-pair own _ l calm refl (λ of. absurd (cannot own of l.can))
  grows (event.Back own k) l calm = by-pair own _ l calm refl (λ of. absurd (cannot own of l.can))
  grows (event.Restart own k kind) l calm = by-pair own _ l calm refl (λ of. absurd (let none = young.idle own of in let some = l.caused.is_open in cc (none, some)))
  grows (event.FailTcp q primary k) l calm = absurd (true≢false calm)
  grows (event.FailServer c i k) l calm = absurd (true≢false calm)
  grows (event.Takeover q) l calm = ⊎_elim
      (λ same. absurd (⊎_elim (λ is. absurd (cc (ap s.modes same ∙ is, l.down))) (λ is. absurd (cc (ap s.modes same ∙ is, l.down))) young.mode))
      (λ differ. inr (others (event.Takeover q) (untouched sys p s young.idle (event.Takeover q) l calm (λ e. differ (tcp-same q p e))) (ne_eqb q p differ)))
      (cases_eq q p)
  grows (event.Raise q) l calm = ⊎_elim
      (λ same. inr (subst (λ (r : ℕ). LegalRaise sys s r → IsYoung sys p (effect sys s (event.Raise r))) (sym same) raised l))
      (λ differ. inr (others (event.Raise q) (untouched sys p s young.idle (event.Raise q) l calm (λ e. differ (tcp-same q p e))) (ne_eqb q p differ)))
      (cases_eq q p)
  grows (event.End own e) l calm = by-pair own _ l calm refl (λ of. absurd (not-ended own of e l))
