-- What the entries of pairs keep: APPLIED, RAISE, FAIL TCP and TAKEOVER, and what makes a pair up to date.
use Rattle.std.proofs.Common.{◌≡◌, ◌≢◌, ℕ, zero, suc, ◌+◌, ◌<◌, ⊎_elim, Bool, true, false, not, ◌&&◌, ◌==◌, is_none, is_some, List, Option, Some, None, unwrap_or, if◌then◌else◌, refl, ap, sym, subst, ◌∙◌, arith}
use Rattle.std.proofs.lemmas.Bool.{cases_eq, true≢false, eq-eqb, ne_eqb, eqb-true, cond-true, cond-false, or_parts, and_cases, and_from, and_left, and_right}
use Rattle.pw_event.specs.declared.event.Cause.TheVariants as cause
use Rattle.pw_event.specs.declared.event.Ending.{Ending}
use Rattle.pw_onecopy.proofs.Update.{upd-same, upd-other}
use Rattle.pw_onecopy.specs.Behaviour.{Behaviour}
use Rattle.pw_onecopy.specs.Path.{PathAnswer, unit_number}
use Rattle.pw_onecopy.specs.Update.{upd}
use Rattle.pw_paired.specs.Failure.{lose_backup, do_fail_tcp, do_takeover, lose_primary, lose_pair, is_live_of, is_of_pair, resume_terminal, resumed_path, runs_unit, without_path, LegalTakeover}
use Rattle.pw_paired.specs.Raising.{LegalApplied, LegalRaise, do_applied, do_raise, is_takeover, lacks_one, settled_mode, with_message, settle_mode, with_end}
use Rattle.pw_paired.specs.State.{PairMode, Alone, Raising, Paired, Down, Gone, LastEnded, BackupCopy, Message, Start, End, Copy, OpenUnit, State, Term}
use Rattle.pw_paired.specs.Units.{any_below}
use Rattle.pw_paired.proofs.SingleEntries.{resumed-start}
use Rattle.pw_laws.proofs.induction.Failed.{fail-cases}
use Rattle.pw_laws.proofs.terms.TermOk.{messages-work, IsRest, MemoryOk, IsWorking, HasMessages, RestingPath, PathOf, PathOk, TermOk, TermsOk, TermOk-same}

-- where no number below n has the property, each lacks it
pub any_below-false : (n : ℕ) (has : ℕ → Bool) → any_below n has ≡ false → (j : ℕ) → j < n → has j ≡ false
any_below-false zero has none j below = absurd (omega (arith, below))
any_below-false (suc n) has none j below =
    let parts = or_parts (any_below n has) (has n) none in
    ⊎_elim (λ same. rw same parts.1) (λ differ. any_below-false n has parts.0 j (omega (arith, below, differ))) (cases_eq j n)

-- a message is taken in
pub term-applied : {sys : Behaviour} {t last : ℕ} {unit : Option OpenUnit} {memory : Option BackupCopy} {flight : Option Message} {term : Term} {mode : PairMode}
    (message : Message) → flight ≡ Some message → HasMessages mode
    → TermOk sys t last unit memory flight term mode
    → TermOk sys t last unit (with_message (Some message) memory) None term mode
term-applied {sys = sys} {t = t} {last = last} {unit = unit} {memory = memory} {term = term} (Start n p) flies has ok =
    let f = ok.flight_ok (Start n p) flies in
    let next : n ≡ last + 1 = f.0.2 in
    record {
      unit_ok = ok.unit_ok;
      memory_ok = λ held is. subst (λ (m : BackupCopy). MemoryOk sys t last m) (let same : record { unit = n; start = p; end = None } ≡ held = cc in same)
          (record { start = f.0.0; number = f.0.1; low = omega (arith, next); high = omega (arith, next); end = λ path e. absurd (cc e) });
      memory_unit = λ held u is is_open.
          let same : record { unit = n; start = p; end = None } ≡ held = cc in
          ap (λ (m : BackupCopy). m.unit) (sym same) ∙ (next ∙ sym (ok.unit_ok u is_open).number);
      flight_ok = λ other is. absurd (cc is);
      quiet = λ none. refl;
      lost = ok.lost;
      has_memory = λ live works. (record { unit = n; start = p; end = None }, refl);
      calm = ok.calm;
      path_ok = ok.path_ok;
    }
term-applied {sys = sys} {t = t} {last = last} {unit = unit} {memory = memory} {term = term} (Copy n p) flies has ok =
    let f = ok.flight_ok (Copy n p) flies in
    record {
      unit_ok = ok.unit_ok;
      memory_ok = λ held is. subst (λ (m : BackupCopy). MemoryOk sys t last m) (let same : record { unit = n; start = p; end = None } ≡ held = cc in same)
          (record { start = f.0.0; number = f.0.1; low = f.0.2; high = f.0.3; end = λ path e. absurd (cc e) });
      memory_unit = λ held u is is_open.
          let same : record { unit = n; start = p; end = None } ≡ held = cc in
          ap (λ (m : BackupCopy). m.unit) (sym same) ∙ f.2 u is_open;
      flight_ok = λ other is. absurd (cc is);
      quiet = λ none. refl;
      lost = ok.lost;
      has_memory = λ live works. (record { unit = n; start = p; end = None }, refl);
      calm = ok.calm;
      path_ok = ok.path_ok;
    }
term-applied {sys = sys} {t = t} {last = last} {unit = unit} {memory = memory} {flight = flight} {term = term} {mode = mode} (End p) flies has ok =
    let f = ok.flight_ok (End p) flies in
    subst (λ (m : Option BackupCopy). TermOk sys t last unit (with_end p m) None term mode) (sym f.1) (record {
      unit_ok = ok.unit_ok;
      memory_ok = λ held is.
          let old = ok.memory_ok f.0 f.1 in
          subst (λ (m : BackupCopy). MemoryOk sys t last m) (let same : record f.0 { end = Some p } ≡ held = cc in same)
          (record {
            start = old.start;
            number = old.number;
            low = old.low;
            high = old.high;
            end = λ path e. subst (λ (q : List PathAnswer). IsRest sys t q × (unit_number q ≡ f.0.unit + 1)) (let same : p ≡ path = cc in same) (f.2, f.3);
          });
      memory_unit = λ held u is is_open.
          let same : record f.0 { end = Some p } ≡ held = cc in
          ap (λ (m : BackupCopy). m.unit) (sym same) ∙ ok.memory_unit f.0 u f.1 is_open;
      flight_ok = λ other is. absurd (cc is);
      quiet = λ none. refl;
      lost = ok.lost;
      has_memory = λ live works. (record f.0 { end = Some p }, refl);
      calm = ok.calm;
      path_ok = ok.path_ok;
    })

-- a pair becomes up to date
term-raised : {sys : Behaviour} {t last : ℕ} {unit : Option OpenUnit} {memory : Option BackupCopy} {flight : Option Message} {term : Term}
    (mode : PairMode) (lacks : Bool) → (lacks ≡ false → term.ending ≡ None → (held : BackupCopy) × (memory ≡ Some held))
    → TermOk sys t last unit memory flight term mode → TermOk sys t last unit memory flight term (settled_mode mode lacks)
term-raised Raising false has ok = record {
  unit_ok = ok.unit_ok;
  memory_ok = ok.memory_ok;
  memory_unit = ok.memory_unit;
  flight_ok = ok.flight_ok;
  quiet = λ none. absurd (none tt);
  lost = λ lost. absurd (cc lost);
  has_memory = λ live works. has refl live;
  calm = λ messages. ok.calm tt;
  path_ok = λ live works untaken. ok.path_ok live tt untaken;
}
term-raised Raising true has ok = ok
term-raised Alone lacks has ok = ok
term-raised Paired lacks has ok = ok
term-raised Down lacks has ok = ok
term-raised Gone lacks has ok = ok

memory-there : (m : Option BackupCopy) → not (is_some m) ≡ false → (held : BackupCopy) × (m ≡ Some held)
memory-there None lacks = absurd (true≢false lacks)
memory-there (Some held) lacks = (held, refl)

-- where memory lacks no live terminal of the pair, it has each
held-of : (sys : Behaviour) (s : State) (p j : ℕ) → lacks_one sys p s ≡ false → j < sys.terminals → sys.pair_of j ≡ p → (s.terms j).ending ≡ None
    → (held : BackupCopy) × (s.memory j ≡ Some held)
held-of sys s p j lacks known of live =
    let live_of : is_live_of sys p s j ≡ true = and_from (is_of_pair sys p j) (is_none (s.terms j).ending) (eq-eqb (sys.pair_of j) p of) (ap is_none live) in
    let test = any_below-false sys.terminals (λ t. is_live_of sys p s t && not (is_some (s.memory t))) lacks j known in
    ⊎_elim (λ dead. absurd (true≢false (sym live_of ∙ dead))) (λ there. memory-there (s.memory j) there)
    (and_cases (is_live_of sys p s j) (not (is_some (s.memory j))) test)

-- a pair that may have become up to date
pub settles : (sys : Behaviour) (s : State) (p : ℕ) → TermsOk sys s → TermsOk sys (settle_mode sys p s)
settles sys s p ok j known =
    ⊎_elim
    (λ of. TermOk-same refl refl refl refl refl (upd-same s.modes p _ (sys.pair_of j) of)
    (term-raised (s.modes p) (lacks_one sys p s) (λ lacks live. held-of sys s p j lacks known of live)
    (TermOk-same refl refl refl refl refl (ap s.modes (sym of)) (ok j known))))
    (λ differ. TermOk-same refl refl refl refl refl (upd-other s.modes p _ (sys.pair_of j) differ) (ok j known))
    (cases_eq (sys.pair_of j) p)

module _ (sys : Behaviour) (s : State) (ok : TermsOk sys s) where
  -- APPLIED keeps what holds of terminals
  pub keeps_applied : (t : ℕ) → LegalApplied sys s t → TermsOk sys (do_applied sys t s)
  keeps_applied t l = settles sys (record s { memory = upd s.memory t (with_message (s.flight t) (s.memory t)); flight = upd s.flight t None }) (sys.pair_of t) taken_in
    where
      has : HasMessages (s.modes (sys.pair_of t))
      has = ⊎_elim (λ raising. rw raising tt) (λ paired. rw paired tt) l.mode

      taken_in : TermsOk sys (record s { memory = upd s.memory t (with_message (s.flight t) (s.memory t)); flight = upd s.flight t None })
      taken_in j known =
          ⊎_elim
          (λ same. TermOk-same refl refl (upd-same s.memory t _ j same ∙ ap (λ (m : Option Message). with_message m (s.memory t)) l.flies) (upd-same s.flight t None j same) refl refl
          (rw same (term-applied l.message l.flies has (ok t (rw (← same) known)))))
          (λ differ. TermOk-same refl refl (upd-other s.memory t _ j differ) (upd-other s.flight t None j differ) refl refl (ok j known))
          (cases_eq j t)

-- a choice by whether a terminal is of a pair
pub of-pair : {A : Type 0} (sys : Behaviour) (p j : ℕ) (x y : A) → sys.pair_of j ≡ p → (if is_of_pair sys p j then x else y) ≡ x
of-pair sys p j x y of = cond-true (is_of_pair sys p j) x y (eq-eqb (sys.pair_of j) p of)

-- a terminal of another pair keeps what it has
pub not-of-pair : {A : Type 0} (sys : Behaviour) (p j : ℕ) (x y : A) → sys.pair_of j ≢ p → (if is_of_pair sys p j then x else y) ≡ y
not-of-pair sys p j x y differ = cond-false (is_of_pair sys p j) x y (ne_eqb (sys.pair_of j) p differ)

-- a pair gets a new backup
term-raises : {sys : Behaviour} {t last : ℕ} {unit : Option OpenUnit} {memory : Option BackupCopy} {flight : Option Message} {term : Term}
    → is_takeover term.pending ≡ false
    → TermOk sys t last unit memory flight term Alone → TermOk sys t last unit None flight term Raising
term-raises calm ok = record {
  unit_ok = ok.unit_ok;
  memory_ok = λ held is. absurd (cc is);
  memory_unit = λ held u is is_open. absurd (cc is);
  flight_ok = λ message is. let none = ok.quiet (λ has. has) in absurd (cc (none, is));
  quiet = λ none. absurd (none tt);
  lost = λ lost. absurd (cc lost);
  has_memory = λ live works. absurd works;
  calm = λ messages. calm;
  path_ok = λ live works untaken. ok.path_ok live tt untaken;
}

-- the primary fails beside an up-to-date backup
term-down : {sys : Behaviour} {t last : ℕ} {unit : Option OpenUnit} {memory : Option BackupCopy} {flight : Option Message} {term : Term}
    → TermOk sys t last unit memory flight term Paired
    → TermOk sys t last unit memory None (without_path term) Down
term-down ok = record {
  unit_ok = ok.unit_ok;
  memory_ok = ok.memory_ok;
  memory_unit = ok.memory_unit;
  flight_ok = λ message is. absurd (cc is);
  quiet = λ none. refl;
  lost = λ lost. absurd (cc lost);
  has_memory = λ live works. ok.has_memory live tt;
  calm = λ messages. absurd messages;
  path_ok = λ live works untaken. absurd works;
}

-- no member is left
term-gone : {sys : Behaviour} {t last other : ℕ} {unit : Option OpenUnit} {memory : Option BackupCopy} {flight : Option Message} {term : Term} {mode : PairMode}
    → TermOk sys t last unit memory flight term mode → TermOk sys t other None None None (without_path term) Gone
term-gone ok = record {
  unit_ok = λ u is. absurd (cc is);
  memory_ok = λ held is. absurd (cc is);
  memory_unit = λ held u is is_open. absurd (cc is);
  flight_ok = λ message is. absurd (cc is);
  quiet = λ none. refl;
  lost = λ lost. refl;
  has_memory = λ live works. absurd works;
  calm = λ messages. absurd messages;
  path_ok = λ live works untaken. absurd works;
}

-- the backup fails beside a working primary
term-alone : {sys : Behaviour} {t last : ℕ} {unit : Option OpenUnit} {memory : Option BackupCopy} {flight : Option Message} {term : Term} {mode : PairMode}
    → IsWorking mode → TermOk sys t last unit memory flight term mode → TermOk sys t last unit None None term Alone
term-alone working ok = record {
  unit_ok = ok.unit_ok;
  memory_ok = λ held is. absurd (cc is);
  memory_unit = λ held u is is_open. absurd (cc is);
  flight_ok = λ message is. absurd (cc is);
  quiet = λ none. refl;
  lost = λ lost. absurd (cc lost);
  has_memory = λ live works. absurd works;
  calm = λ messages. absurd messages;
  path_ok = λ live works untaken. ok.path_ok live working untaken;
}

-- the path at which a takeover goes on
end-or-start : (sys : Behaviour) (t last : ℕ) (m : BackupCopy) (ended : LastEnded) → ended.number ≡ last → MemoryOk sys t last m
    → RestingPath sys t last (last + 1) (resumed_path m ended)
end-or-start sys t last m ended is ok = by_test (ended.number == m.unit) refl
  where
    start : RestingPath sys t last (last + 1) m.start
    start = let n = ok.number in let l = ok.low in let h = ok.high in
        record { rest = ok.start; low_is = omega (arith, n, l); high_is = omega (arith, n, h) }

    by_end : (e : Option (List PathAnswer)) → m.end ≡ e → ended.number ≡ m.unit → RestingPath sys t last (last + 1) (unwrap_or e m.start)
    by_end None has same = start
    by_end (Some path) has same =
        let own = ok.end path has in
        let n : unit_number path ≡ m.unit + 1 = own.1 in
        record { rest = own.0; low_is = omega (arith, n, same, is); high_is = omega (arith, n, same, is) }

    by_test : (b : Bool) → (ended.number == m.unit) ≡ b → RestingPath sys t last (last + 1) (if b then unwrap_or m.end m.start else m.start)
    by_test true test = by_end m.end refl (eqb-true ended.number m.unit test)
    by_test false test = start

-- a live terminal is taken over
term-taken : {sys : Behaviour} {t last : ℕ} {unit : Option OpenUnit} {memory : Option BackupCopy} {flight : Option Message} {term : Term}
    (p : ℕ) (ended : LastEnded) → ended.number ≡ last → term.ending ≡ None
    → TermOk sys t last unit memory flight term Down
    → TermOk sys t last unit None flight (resume_terminal p memory unit ended term) Alone
term-taken {sys = sys} {t = t} {last = last} {unit = unit} {memory = memory} {flight = flight} {term = term} p ended is live ok =
    let held = ok.has_memory live tt in
    subst (λ (m : Option BackupCopy). TermOk sys t last unit None flight (resume_terminal p m unit ended term) Alone) (sym held.1) (record {
      unit_ok = ok.unit_ok;
      memory_ok = λ m e. absurd (cc e);
      memory_unit = λ m u e is_open. absurd (cc e);
      flight_ok = λ message e. let none = ok.quiet (λ has. has) in absurd (cc (none, e));
      quiet = λ none. ok.quiet (λ has. has);
      lost = λ lost. absurd (cc lost);
      has_memory = λ _ works. absurd works;
      calm = λ messages. absurd messages;
      path_ok = λ _ works untaken. goes_on held.0 held.1 unit refl untaken;
    })
  where
    by_runs : (m : BackupCopy) → memory ≡ Some m → (u : OpenUnit) → unit ≡ Some u → (r : Option (List PathAnswer)) → u.running ≡ r
        → is_takeover (if m.unit == m.unit && is_some r then Some (cause.Takeover p) else term.pending) ≡ false
        → PathOf sys t last r (resumed_path m ended)
    by_runs m is_memory u is_open None runs untaken =
        let memory_ok = ok.memory_ok m is_memory in
        let same = ok.memory_unit m u is_memory is_open in
        let next = (ok.unit_ok u is_open).number in
        let number = memory_ok.number in
        subst (λ (path : List PathAnswer). RestingPath sys t (last + 1) (last + 1) path) (sym (resumed-start m ended (λ e. absurd (omega (arith, e, is, same, next)))))
        (record { rest = memory_ok.start; low_is = omega (arith, number, same, next); high_is = omega (arith, number, same, next) })
    by_runs m is_memory u is_open (Some start) runs untaken =
        let test : (m.unit == m.unit && true) ≡ true = and_from (m.unit == m.unit) true (eq-eqb m.unit m.unit refl) refl in
        absurd (true≢false (sym (ap is_takeover (cond-true (m.unit == m.unit && true) (Some (cause.Takeover p)) term.pending test)) ∙ untaken))

    goes_on : (m : BackupCopy) → memory ≡ Some m → (here : Option OpenUnit) → unit ≡ here
        → is_takeover (if runs_unit m.unit here then Some (cause.Takeover p) else term.pending) ≡ false
        → PathOk sys t last here (resumed_path m ended)
    goes_on m is_memory None is_open untaken = end-or-start sys t last m ended is (ok.memory_ok m is_memory)
    goes_on m is_memory (Some u) is_open untaken =
        by_runs m is_memory u is_open u.running refl
        (subst (λ (n : ℕ). is_takeover (if n == m.unit && is_some u.running then Some (cause.Takeover p) else term.pending) ≡ false) (sym (ok.memory_unit m u is_memory is_open)) untaken)

-- the mode of a terminal's pair where a pair's mode changes
pub mode-of-pair : (sys : Behaviour) (s : State) (p j : ℕ) (mode : PairMode) → sys.pair_of j ≡ p → upd s.modes p mode (sys.pair_of j) ≡ mode
mode-of-pair sys s p j mode of = upd-same s.modes p mode (sys.pair_of j) of

pub mode-of-other : (sys : Behaviour) (s : State) (p j : ℕ) (mode : PairMode) → sys.pair_of j ≢ p → upd s.modes p mode (sys.pair_of j) ≡ s.modes (sys.pair_of j)
mode-of-other sys s p j mode differ = upd-other s.modes p mode (sys.pair_of j) differ

module _ (sys : Behaviour) (s : State) (ok : TermsOk sys s) where
  -- a terminal of a pair in a mode
  in-mode : (p j : ℕ) (mode : PairMode) → sys.pair_of j ≡ p → s.modes p ≡ mode → j < sys.terminals
      → TermOk sys j (s.ended j).number (s.units j) (s.memory j) (s.flight j) (s.terms j) mode
  in-mode p j mode of is known = TermOk-same refl refl refl refl refl (sym is ∙ ap s.modes (sym of)) (ok j known)

  -- RAISE keeps what holds of terminals
  pub keeps_raise : (p : ℕ) → LegalRaise sys s p → TermsOk sys (do_raise sys p s)
  keeps_raise p l j known =
      ⊎_elim
      (λ of.
      let test = any_below-false sys.terminals (λ t. is_of_pair sys p t && is_takeover (s.terms t).pending) l.calm j known in
      let calm : is_takeover (s.terms j).pending ≡ false =
      ⊎_elim (λ not_of. absurd (true≢false (sym (eq-eqb (sys.pair_of j) p of) ∙ not_of))) (λ calm. calm) (and_cases (is_of_pair sys p j) (is_takeover (s.terms j).pending) test) in
      TermOk-same refl refl (of-pair sys p j None (s.memory j) of) refl refl (mode-of-pair sys s p j Raising of)
      (term-raises calm (in-mode p j Alone of l.alone known)))
      (λ differ. TermOk-same refl refl (not-of-pair sys p j None (s.memory j) differ) refl refl (mode-of-other sys s p j Raising differ) (ok j known))
      (cases_eq (sys.pair_of j) p)

  keeps_down : (p : ℕ) → s.modes p ≡ Paired → TermsOk sys (lose_primary sys p s)
  keeps_down p is j known =
      ⊎_elim
      (λ of. TermOk-same refl refl refl (of-pair sys p j None (s.flight j) of) (of-pair sys p j _ (s.terms j) of) (mode-of-pair sys s p j Down of)
      (term-down (in-mode p j Paired of is known)))
      (λ differ. TermOk-same refl refl refl (not-of-pair sys p j None (s.flight j) differ) (not-of-pair sys p j _ (s.terms j) differ) (mode-of-other sys s p j Down differ) (ok j known))
      (cases_eq (sys.pair_of j) p)

  keeps_gone : (p : ℕ) → TermsOk sys (lose_pair sys p s)
  keeps_gone p j known =
      ⊎_elim
      (λ of. TermOk-same refl (of-pair sys p j None (s.units j) of) (of-pair sys p j None (s.memory j) of) (of-pair sys p j None (s.flight j) of)
      (of-pair sys p j _ (s.terms j) of) (mode-of-pair sys s p j Gone of)
      (term-gone (ok j known)))
      (λ differ. TermOk-same (ap (λ (x : LastEnded). x.number) (not-of-pair sys p j _ (s.ended j) differ)) (not-of-pair sys p j None (s.units j) differ)
      (not-of-pair sys p j None (s.memory j) differ) (not-of-pair sys p j None (s.flight j) differ)
      (not-of-pair sys p j _ (s.terms j) differ) (mode-of-other sys s p j Gone differ) (ok j known))
      (cases_eq (sys.pair_of j) p)

  keeps_alone : (p : ℕ) (mode : PairMode) → s.modes p ≡ mode → IsWorking mode → TermsOk sys (lose_backup sys p s)
  keeps_alone p mode is working j known =
      ⊎_elim
      (λ of. TermOk-same refl refl (of-pair sys p j None (s.memory j) of) (of-pair sys p j None (s.flight j) of) refl (mode-of-pair sys s p j Alone of)
      (term-alone working (in-mode p j mode of is known)))
      (λ differ. TermOk-same refl refl (not-of-pair sys p j None (s.memory j) differ) (not-of-pair sys p j None (s.flight j) differ) refl (mode-of-other sys s p j Alone differ) (ok j known))
      (cases_eq (sys.pair_of j) p)

  -- FAIL TCP keeps what holds of terminals
  pub keeps_fail_tcp : (p : ℕ) (primary : Bool) → TermsOk sys (do_fail_tcp sys p primary s)
  keeps_fail_tcp p primary =
      fail-cases sys s (TermsOk sys) p ok (keeps_down p) (λ member breaks. keeps_gone p)
      (λ has. keeps_alone p (s.modes p) refl (messages-work (s.modes p) has)) primary

  -- a terminal of the pair that has ended
  term-idle : (j : ℕ) (ending : Ending) → (s.terms j).ending ≡ Some ending → s.modes (sys.pair_of j) ≡ Down → j < sys.terminals
      → TermOk sys j (s.ended j).number (s.units j) None (s.flight j) (s.terms j) Alone
  term-idle j ending dead is known =
      let own = ok j known in
      record {
        unit_ok = own.unit_ok;
        memory_ok = λ held e. absurd (cc e);
        memory_unit = λ held u e is_open. absurd (cc e);
        flight_ok = λ message e. let none = own.quiet (λ has. subst HasMessages is has) in absurd (cc (none, e));
        quiet = λ none. own.quiet (λ has. subst HasMessages is has);
        lost = λ lost. absurd (cc lost);
        has_memory = λ live works. absurd works;
        calm = λ messages. absurd messages;
        path_ok = λ live works untaken. absurd (cc (live, dead));
      }

  -- TAKEOVER keeps what holds of terminals
  pub keeps_takeover : (p : ℕ) → LegalTakeover s p → TermsOk sys (do_takeover sys p s)
  keeps_takeover p l j known =
      ⊎_elim
      (λ of. of-p of (s.terms j).ending refl)
      (λ differ. TermOk-same refl refl (not-of-pair sys p j None (s.memory j) differ) refl
      (cond-false (is_live_of sys p s j) _ (s.terms j) (and_left (is_of_pair sys p j) (is_none (s.terms j).ending) (ne_eqb (sys.pair_of j) p differ)))
      (mode-of-other sys s p j Alone differ) (ok j known))
      (cases_eq (sys.pair_of j) p)
    where
      of-p : sys.pair_of j ≡ p → (e : Option Ending) → (s.terms j).ending ≡ e
          → TermOk sys j (s.ended j).number (s.units j) (if is_of_pair sys p j then None else s.memory j) (s.flight j)
          (if is_live_of sys p s j then resume_terminal p (s.memory j) (s.units j) (s.ended j) (s.terms j) else s.terms j) (upd s.modes p Alone (sys.pair_of j))
      of-p of None live = TermOk-same refl refl (of-pair sys p j None (s.memory j) of) refl
          (cond-true (is_live_of sys p s j) _ (s.terms j) (and_from (is_of_pair sys p j) (is_none (s.terms j).ending) (eq-eqb (sys.pair_of j) p of) (ap is_none live)))
          (mode-of-pair sys s p j Alone of)
          (term-taken p (s.ended j) refl live (in-mode p j Down of l.down known))
      of-p of (Some ending) dead = TermOk-same refl refl (of-pair sys p j None (s.memory j) of) refl
          (cond-false (is_live_of sys p s j) _ (s.terms j) (and_right (is_of_pair sys p j) (is_none (s.terms j).ending) (ap is_none dead)))
          (mode-of-pair sys s p j Alone of)
          (term-idle j ending dead (ap s.modes of ∙ l.down) known)
