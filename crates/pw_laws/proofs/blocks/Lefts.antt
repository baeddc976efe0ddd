-- Attempts that are left, one after the other.
use Rattle.std.proofs.Common.{◌≡◌, ◌≢◌, ℕ, zero, suc, ◌<◌, ◌≤◌, ⊎_elim, Bool, true, false, is_none, List, [], ◌∷◌, ◌++◌, Option, Some, None, if◌then◌else◌, refl, ap, sym, subst, subst₂, append-nil, arith, ◌∙◌}
use Rattle.std.proofs.lemmas.Bool.{cases_eq, true≢false}
use Rattle.pw_onecopy.proofs.Update.{upd-other, upd-same}
use Rattle.pw_onecopy.specs.Attempt.{IsAttempt, attempt}
use Rattle.pw_onecopy.specs.OneCopy.{IsSerialFrom, LegalAttempted, Machine, Single, run_blocks, single_behind}
use Rattle.pw_onecopy.specs.Path.{PathAnswer, unit_number}
use Rattle.pw_onecopy.specs.Blocks.{SerialBlock, Attempted, Left}
use Rattle.pw_paired.specs.Serial.{Reading, left_block, left_blocks}
use Rattle.pw_paired.specs.State.{OpenUnit, State}
use Rattle.pw_onecopy.specs.Behaviour.{Behaviour}
use Rattle.pw_laws.proofs.blocks.Fold.{run_blocks-append, serial-append}
use Rattle.pw_laws.proofs.blocks.Following.{attempt_refreshes, running_refreshes}

-- a terminal of the machine behind the block, if any, that leaves its attempt
abbrev pub left_in : Behaviour → ℕ → (ℕ → List (List ℕ)) → ℕ → Option (List PathAnswer) → Single → Single
left_in sys t files j None single = single
left_in sys t files j (Some start) single = single_behind Left (attempt sys t single.path files single.restarts j) single

-- the same of an open unit, if there is one
abbrev pub left_term : Behaviour → ℕ → (ℕ → List (List ℕ)) → ℕ → Option OpenUnit → Single → Single
left_term sys t files j None single = single
left_term sys t files j (Some unit) single = left_in sys t files j unit.running single

-- such a block leaves the ending
pub left-ending : (sys : Behaviour) (t : ℕ) (files : ℕ → List (List ℕ)) (j : ℕ) (unit : Option OpenUnit) (single : Single) → (left_term sys t files j unit single).ending ≡ single.ending
left-ending sys t files j None single = refl
left-ending sys t files j (Some u) single = by u.running
  where
    by : (running : Option (List PathAnswer)) → (left_in sys t files j running single).ending ≡ single.ending
    by None = refl
    by (Some q) = refl

-- its refreshes are added
pub left-refreshes : (sys : Behaviour) (t : ℕ) (files : ℕ → List (List ℕ)) (j : ℕ) (unit : Option OpenUnit) (single : Single)
    → ((u : OpenUnit) (q : List PathAnswer) → unit ≡ Some u → u.running ≡ Some q → (single.path ≡ q) × (single.restarts ≡ u.restarts))
    → (left_term sys t files j unit single).refreshes ≡ single.refreshes ++ running_refreshes sys t files j unit
left-refreshes sys t files j None single same = sym (append-nil single.refreshes)
left-refreshes sys t files j (Some u) single same = by u.running refl
  where
    by : (running : Option (List PathAnswer)) → u.running ≡ running → (left_in sys t files j running single).refreshes ≡ single.refreshes ++ attempt_refreshes sys t files j u.restarts running
    by None is = sym (append-nil single.refreshes)
    by (Some q) is =
        let both = same u q refl is in
        ap (λ (p : List PathAnswer). single.refreshes ++ (attempt sys t p files single.restarts j).refreshes) both.0
        ∙ ap (λ (r : ℕ). single.refreshes ++ (attempt sys t q files r j).refreshes) both.1

module _ (sys : Behaviour) where
  -- a terminal of two machines is one: its attempt may be left in both
  legal-left : (t n j : ℕ) (m other : Machine) → other.terms t ≡ m.terms t → other.files ≡ m.files → LegalAttempted sys m t n Left j → LegalAttempted sys other t n Left j
  legal-left t n j m other term files l = record {
    live = record { known = l.live.known; live = ap (λ (x : Single). x.ending) term ∙ l.live.live };
    not_left = ap (λ (x : Single). x.is_left) term ∙ l.not_left;
    number = l.number ∙ ap (λ (x : Single). unit_number x.path) (sym term);
    is_attempt = subst₂ (λ (x : Single) (y : ℕ → List (List ℕ)). IsAttempt sys t x.path y x.restarts j) (sym term) (sym files) l.is_attempt;
    may_be = tt;
  }

  -- what one attempt that is left does
  pub record LeftOne (m : Machine) (t j : ℕ) (unit : Option OpenUnit) (more : List SerialBlock) : Type 0 where
    pub serial : IsSerialFrom sys m more
    pub files : (run_blocks sys m more).files ≡ m.files
    pub own : (run_blocks sys m more).terms t ≡ left_term sys t m.files j unit (m.terms t)
    pub others : (o : ℕ) → o ≢ t → (run_blocks sys m more).terms o ≡ m.terms o

  -- one attempt is left
  pub left-one : (m : Machine) (t j : ℕ) (unit : Option OpenUnit) → ((u : OpenUnit) (q : List PathAnswer) → unit ≡ Some u → u.running ≡ Some q → LegalAttempted sys m t u.number Left j)
      → LeftOne m t j unit (left_block t j unit)
  left-one m t j None legal = record { serial = tt; files = refl; own = refl; others = λ o differ. refl }
  left-one m t j (Some u) legal = by u.running refl
    where
      by : (running : Option (List PathAnswer)) → u.running ≡ running → LeftOne m t j (Some u) (if is_none u.running then [] else Attempted t u.number Left j ∷ [])
      by None is =
          subst (λ (r : Option (List PathAnswer)). LeftOne m t j (Some u) (if is_none r then [] else Attempted t u.number Left j ∷ [])) (sym is)
          (record { serial = tt; files = refl; own = ap (λ (r : Option (List PathAnswer)). left_in sys t m.files j r (m.terms t)) (sym is); others = λ o differ. refl })
      by (Some q) is =
          subst (λ (r : Option (List PathAnswer)). LeftOne m t j (Some u) (if is_none r then [] else Attempted t u.number Left j ∷ [])) (sym is)
          (record {
            serial = (legal u q refl is, tt);
            files = refl;
            own = upd-same m.terms t _ t refl ∙ ap (λ (r : Option (List PathAnswer)). left_in sys t m.files j r (m.terms t)) (sym is);
            others = λ o differ. upd-other m.terms t _ o differ;
          })

  -- what the attempts of some terminals below n that are left do
  pub record LeftAll (s : State) (reading : Reading) (m : Machine) (whose : ℕ → Bool) (n : ℕ) : Type 0 where
    pub serial : IsSerialFrom sys m (left_blocks s reading whose n)
    pub files : (run_blocks sys m (left_blocks s reading whose n)).files ≡ m.files
    pub own : (t : ℕ) → t < n → whose t ≡ true → (run_blocks sys m (left_blocks s reading whose n)).terms t ≡ left_term sys t m.files (reading.answers t) (s.units t) (m.terms t)
    pub spared : (t : ℕ) → whose t ≡ false → (run_blocks sys m (left_blocks s reading whose n)).terms t ≡ m.terms t
    pub above : (t : ℕ) → n ≤ t → (run_blocks sys m (left_blocks s reading whose n)).terms t ≡ m.terms t

  module _ (s : State) (reading : Reading) (m : Machine) (whose : ℕ → Bool)
      (legal : (t : ℕ) (u : OpenUnit) (q : List PathAnswer) → s.units t ≡ Some u → u.running ≡ Some q → LegalAttempted sys m t u.number Left (reading.answers t)) where
    one-more : (n : ℕ) → LeftAll s reading m whose n → (is : Bool) → whose n ≡ is → LeftAll s reading m whose (suc n)
    one-more n all false is =
        let same : left_blocks s reading whose (suc n) ≡ left_blocks s reading whose n =
        ap (λ (x : Bool). left_blocks s reading whose n ++ (if x then left_block n (reading.answers n) (s.units n) else [])) is ∙ append-nil (left_blocks s reading whose n) in
        let run : run_blocks sys m (left_blocks s reading whose (suc n)) ≡ run_blocks sys m (left_blocks s reading whose n) = ap (run_blocks sys m) same in
        record {
          serial = subst (IsSerialFrom sys m) (sym same) all.serial;
          files = ap (λ (x : Machine). x.files) run ∙ all.files;
          own = λ t below mine. ap (λ (x : Machine). x.terms t) run
              ∙ all.own t (⊎_elim (λ at. absurd (true≢false (sym mine ∙ (ap whose at ∙ is)))) (λ differ. omega (arith, below, differ)) (cases_eq t n)) mine;
          spared = λ t other. ap (λ (x : Machine). x.terms t) run ∙ all.spared t other;
          above = λ t high. ap (λ (x : Machine). x.terms t) run ∙ all.above t (omega (arith, high));
        }
    one-more n all true is =
        let before : Machine = run_blocks sys m (left_blocks s reading whose n) in
        let last : List SerialBlock = left_block n (reading.answers n) (s.units n) in
        let same : left_blocks s reading whose (suc n) ≡ left_blocks s reading whose n ++ last =
        ap (λ (x : Bool). left_blocks s reading whose n ++ (if x then left_block n (reading.answers n) (s.units n) else [])) is in
        let run : run_blocks sys m (left_blocks s reading whose (suc n)) ≡ run_blocks sys before last = ap (run_blocks sys m) same ∙ run_blocks-append sys m (left_blocks s reading whose n) last in
        let here : before.terms n ≡ m.terms n = all.above n (omega arith) in
        let one = left-one before n (reading.answers n) (s.units n) (λ u q is_u runs. legal-left n u.number (reading.answers n) m before here all.files (legal n u q is_u runs)) in
        record {
          serial = subst (IsSerialFrom sys m) (sym same) (serial-append sys m (left_blocks s reading whose n) last all.serial one.serial);
          files = ap (λ (x : Machine). x.files) run ∙ (one.files ∙ all.files);
          own = λ t below mine.
              ap (λ (x : Machine). x.terms t) run
              ∙ ⊎_elim
              (λ at.
              subst (λ (x : ℕ). (run_blocks sys before last).terms x ≡ left_term sys x m.files (reading.answers x) (s.units x) (m.terms x)) (sym at)
              (one.own ∙ (ap (λ (x : ℕ → List (List ℕ)). left_term sys n x (reading.answers n) (s.units n) (before.terms n)) all.files ∙ ap (left_term sys n m.files (reading.answers n) (s.units n)) here)))
              (λ differ. one.others t differ ∙ all.own t (omega (arith, below, differ)) mine)
              (cases_eq t n);
          spared = λ t other. ap (λ (x : Machine). x.terms t) run ∙ (one.others t (λ at. absurd (true≢false (sym is ∙ (ap whose (sym at) ∙ other)))) ∙ all.spared t other);
          above = λ t high. ap (λ (x : Machine). x.terms t) run ∙ (one.others t (λ at. absurd (omega (arith, high, at))) ∙ all.above t (omega (arith, high)));
        }

    -- all of them are
    pub left-all : (n : ℕ) → LeftAll s reading m whose n
    left-all zero = record { serial = tt; files = refl; own = λ t below. absurd (omega (arith, below)); spared = λ t other. refl; above = λ t high. refl }
    left-all (suc n) = one-more n (left-all n) (whose n) refl
