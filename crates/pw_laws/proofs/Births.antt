-- Births of open units.
use Rattle.std.proofs.Common.{◌≡◌, ◌≢◌, ℕ, ◌+◌, ◌<◌, Bool, List, [], ◌∷◌, Option, Some, None, if◌then◌else◌, refl, ap, sym, ◌∙◌, arith}
use Rattle.std.proofs.lemmas.Bool.{cond_both}
use Rattle.pw_event.specs.declared.event.Cause.{Cause}
use Rattle.pw_event.specs.declared.event.Event.{Event}
use Rattle.pw_event.specs.declared.event.Event.TheVariants.{Show, Key, CheckStart, CheckEnd, CheckCopy, Applied, Begin, Send, Take, File, Reply, Again, Commit, Back, Restart, FailTcp, FailServer, Takeover, Raise, End}
use Rattle.pw_onecopy.proofs.Update.{upd_elim}
use Rattle.pw_onecopy.specs.Behaviour.{Behaviour}
use Rattle.pw_onecopy.specs.Path.{PathAnswer}
use Rattle.pw_onecopy.specs.Update.{upd}
use Rattle.pw_paired.specs.Failure.{is_of_pair, with_restart}
use Rattle.pw_paired.specs.State.{OpenUnit, State, starting}
use Rattle.pw_paired.specs.Step.{effect, after_from}
use Rattle.pw_paired.specs.Terminal.{unit_with_attempt, births_after, path_of}
use Rattle.pw_paired.specs.Units.{birth_of, only}
use Rattle.pw_laws.proofs.induction.Failed.{end-any, fail-cases, process-cases}
use Rattle.pw_laws.proofs.induction.Served.{file-cases, reply-any}

-- births of open units differ, and lie below the next one
pub record BirthsOk (units : ℕ → Option OpenUnit) (births : ℕ) : Type 0 where
  pub below : (t : ℕ) (unit : OpenUnit) → units t ≡ Some unit → unit.birth < births
  pub apart : (t o : ℕ) (unit other : OpenUnit) → t ≢ o → units t ≡ Some unit → units o ≡ Some other → unit.birth ≢ other.birth

-- each open unit was open before, with its birth
abbrev Remain : (ℕ → Option OpenUnit) → (ℕ → Option OpenUnit) → Type 0
Remain old new = (t : ℕ) (unit : OpenUnit) → new t ≡ Some unit → (was : OpenUnit) × (old t ≡ Some was) × (was.birth ≡ unit.birth)

remain : {old new : ℕ → Option OpenUnit} {births : ℕ} → Remain old new → BirthsOk old births → BirthsOk new births
remain from ok = record {
  below = λ t unit is. let was = from t unit is in let low = ok.below t was.0 was.1 in let same = was.2 in omega (arith, low, same);
  apart = λ t o unit other differ is is_other same.
      let was = from t unit is in
      let was_other = from o other is_other in
      ok.apart t o was.0 was_other.0 differ was.1 was_other.1 (was.2 ∙ (same ∙ sym was_other.2));
}

remain-without : (units : ℕ → Option OpenUnit) (t : ℕ) → Remain units (upd units t None)
remain-without units t j unit =
    upd_elim units t None j (λ (x : Option OpenUnit). x ≡ Some unit → (was : OpenUnit) × (units j ≡ Some was) × (was.birth ≡ unit.birth))
    (λ _ is. absurd (cc is)) (λ _ is. (unit, is, refl))

remain-left : (units : ℕ → Option OpenUnit) (whose : ℕ → Bool) → Remain units (λ t. if whose t then None else units t)
remain-left units whose t unit =
    cond_both (whose t) None (units t) (λ (x : Option OpenUnit). x ≡ Some unit → (was : OpenUnit) × (units t ≡ Some was) × (was.birth ≡ unit.birth))
    (λ _ is. absurd (cc is)) (λ _ is. (unit, is, refl))

remain-restarted : (units : ℕ → Option OpenUnit) (t : ℕ) (cause : Cause) (unit : Option OpenUnit) → units t ≡ unit → Remain units (upd units t (with_restart cause unit))
remain-restarted units t cause None now j unit =
    upd_elim units t None j (λ (x : Option OpenUnit). x ≡ Some unit → (was : OpenUnit) × (units j ≡ Some was) × (was.birth ≡ unit.birth))
    (λ _ is. absurd (cc is)) (λ _ is. (unit, is, refl))
remain-restarted units t cause (Some u) now j unit =
    upd_elim units t (with_restart cause (Some u)) j (λ (x : Option OpenUnit). x ≡ Some unit → (was : OpenUnit) × (units j ≡ Some was) × (was.birth ≡ unit.birth))
    (λ same is. (u, ap units same ∙ now, ap birth_of is)) (λ _ is. (unit, is, refl))

-- a unit begins
begins-ok : {units : ℕ → Option OpenUnit} {births : ℕ} (t n : ℕ) (path : List PathAnswer) (unit : Option OpenUnit) → units t ≡ unit
    → BirthsOk units births → BirthsOk (upd units t (Some (unit_with_attempt n births path unit))) (births_after unit births)
begins-ok {units = units} {births = births} t n path None now ok = record {
  below = λ j x. upd_elim units t (Some (unit_with_attempt n births path None)) j (λ (y : Option OpenUnit). y ≡ Some x → x.birth < births + 1)
      (λ _ is. let same : births ≡ x.birth = ap birth_of is in omega (arith, same))
      (λ _ is. let low = ok.below j x is in omega (arith, low));
  apart = λ j o x y differ. upd_elim units t (Some (unit_with_attempt n births path None)) j
      (λ (z : Option OpenUnit). z ≡ Some x → upd units t (Some (unit_with_attempt n births path None)) o ≡ Some y → x.birth ≢ y.birth)
      (λ same is. upd_elim units t (Some (unit_with_attempt n births path None)) o (λ (z : Option OpenUnit). z ≡ Some y → x.birth ≢ y.birth)
      (λ too _. absurd (differ (same ∙ sym too)))
      (λ _ is_y e. let low = ok.below o y is_y in let new : births ≡ x.birth = ap birth_of is in absurd (omega (arith, low, new, e))))
      (λ _ is. upd_elim units t (Some (unit_with_attempt n births path None)) o (λ (z : Option OpenUnit). z ≡ Some y → x.birth ≢ y.birth)
      (λ _ is_y e. let low = ok.below j x is in let new : births ≡ y.birth = ap birth_of is_y in absurd (omega (arith, low, new, e)))
      (λ _ is_y. ok.apart j o x y differ is is_y));
}
begins-ok {units = units} {births = births} t n path (Some u) now ok = remain again ok
  where
    again : Remain units (upd units t (Some (unit_with_attempt n births path (Some u))))
    again j x = upd_elim units t (Some (unit_with_attempt n births path (Some u))) j (λ (y : Option OpenUnit). y ≡ Some x → (was : OpenUnit) × (units j ≡ Some was) × (was.birth ≡ x.birth))
        (λ same is. (u, ap units same ∙ now, ap birth_of is)) (λ _ is. (x, is, refl))

module _ (sys : Behaviour) (s : State) (ok : BirthsOk s.units s.births) where
  abbrev Kept : State → Type 0
  Kept x = BirthsOk x.units x.births

  keeps-births : (entry : Event) → BirthsOk (effect sys s entry).units (effect sys s entry).births
  keeps-births (Show t phase attempt k) = ok
  keeps-births (Key t k) = ok
  keeps-births (CheckStart t) = ok
  keeps-births (CheckEnd t) = ok
  keeps-births (CheckCopy t) = ok
  keeps-births (Applied t) = ok
  keeps-births (Begin t n r) = begins-ok t n (path_of s t) (s.units t) refl ok
  keeps-births (Send t n c) = ok
  keeps-births (Take c p t) = ok
  keeps-births (File c p op mode f status) = file-cases sys s c p Kept ok (λ job call works asks. ok)
  keeps-births (Reply c p t fault) =
      reply-any sys s c p t Kept fault (λ reply outside. remain (remain-without s.units t) ok) (λ reply inside. ok) (λ x. ok)
  keeps-births (Again t n) = ok
  keeps-births (Commit t n) = remain (remain-without s.units t) ok
  keeps-births (Back t n) = remain (remain-without s.units t) ok
  keeps-births (Restart t n cause) = remain (remain-restarted s.units t cause (s.units t) refl) ok
  keeps-births (FailTcp p primary k) =
      fail-cases sys s Kept p ok (λ paired. ok) (λ member breaks. remain (remain-left s.units (is_of_pair sys p)) ok) (λ has. ok) primary
  keeps-births (FailServer c p k) = process-cases sys s Kept c p k ok (λ job works. ok)
  keeps-births (Takeover p) = ok
  keeps-births (Raise p) = ok
  keeps-births (End t e) = end-any sys s Kept t e ok (remain (remain-left s.units (only t)) ok)

births-from : (sys : Behaviour) (s : State) → BirthsOk s.units s.births → (log : List Event) → BirthsOk (after_from sys s log).units (after_from sys s log).births
births-from sys s ok [] = ok
births-from sys s ok (entry ∷ log) = births-from sys (effect sys s entry) (keeps-births sys s ok entry) log

-- behind every log births differ and lie below the next one
pub births-ok : (sys : Behaviour) (log : List Event) → BirthsOk (after_from sys (starting sys) log).units (after_from sys (starting sys) log).births
births-ok sys log = births-from sys (starting sys)
    (record { below = λ t unit is. absurd (cc is); apart = λ t o unit other differ is is_other same. absurd (cc is) }) log
