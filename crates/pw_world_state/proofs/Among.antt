-- The terminals of a pair, as a list.
use Rattle.std.proofs.Common.{◌≡◌, ℕ, ◌==◌, List, Some, true, sym, ap, subst, ◌∙◌, ⊎_elim}
use Rattle.std.specs.Prelude.{All, slice_get}
use Rattle.std.proofs.lemmas.Bool.{cases_Bool, cases_eq, eq-eqb, eqb-true, ne_eqb}
use Rattle.pw_base.proofs.Plain.{some_is}
use Rattle.pw_code.specs.declared.system.System.{System}
use Rattle.pw_code.specs.declared.system.TermInfo.{TermInfo}
use Rattle.pw_world_state.specs.Members.{AreOf, IsOf}
use Rattle.pw_pair.proofs.Seating.{any-so}
use Rattle.pw_tmf.specs.Leaving.{is_among}

-- what holds of each holds of one of them
pub one-of : (P : ℕ → Type 0) (terminals : List ℕ) → All P terminals → (t : ℕ) → is_among terminals t ≡ true → P t
one-of P terminals all t among =
    any-so P (λ one. one == t) (P t) terminals all (λ one p is. subst (λ x. P x) (eqb-true one t is) p) among

-- a terminal of the system is among them where it is of the pair
pub among-is : (system : System) (p : ℕ) (terminals : List ℕ) → AreOf system p terminals → (t : ℕ) (info : TermInfo) → slice_get system.terminals t ≡ Some info
    → is_among terminals t ≡ (info.tcp == p)
among-is system p terminals are t info here =
    ⊎_elim (λ of. are.every t info here of ∙ sym (eq-eqb info.tcp p of))
    (λ ne. ⊎_elim
    (λ among. let one = one-of (IsOf system p) terminals are.each t among in
    absurd (ne (ap (λ (x : TermInfo). x.tcp) (some_is (sym here ∙ one.here)) ∙ one.of_pair)))
    (λ none. none ∙ sym (ne_eqb info.tcp p ne)) (cases_Bool (is_among terminals t)))
    (cases_eq info.tcp p)
