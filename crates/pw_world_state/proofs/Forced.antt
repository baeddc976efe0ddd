-- What paths count that lead to one frontier, and what the path of an attempt counts.
use Rattle.std.proofs.Common.{◌≡◌, ◌≢◌, ◌⊎◌, inl, inr, ⊎_elim, ℕ, ◌+◌, ◌<◌, ◌≤◌, Bool, true, false, is_none, List, [], ◌∷◌, ◌++◌, length, Option, Some, None, refl, ap, ap₂, sym, subst, append-nil, append_assoc, arith, ◌∙◌, true≢false}
use Rattle.std.proofs.lemmas.List.{nil_from_length}
use Rattle.pw_base.proofs.Plain.{is_none-None}
use Rattle.pw_code.specs.declared.verb.Verb.{Verb}
use Rattle.pw_code.specs.declared.verb.Verb.TheVariants as verb
use Rattle.pw_code_meaning.proofs.Counting.{begun-push, begun_after, begun_from, entries-push}
use Rattle.pw_onecopy.specs.Attempt.{BeginsUnit}
use Rattle.pw_onecopy.specs.Behaviour.{Behaviour}
use Rattle.pw_onecopy.specs.IsBehaviour.{IsBehaviour, IsPath, Suits, SuitsFrom}
use Rattle.pw_onecopy.specs.Path.{PathAnswer, Begun, Dropped, Ended, Entry, Failed, Replied, Shown, Standing, entries_on, is_outside, standing, standing_after_answer, standing_after_reply, unit_number}
use Rattle.pw_paired.specs.State.{LastEnded}
use Rattle.pw_laws.proofs.Paths.{IsPath-push, standing-push}
use Rattle.pw_laws.proofs.frontier.Leads.{AreForced, IsForced, Leads}

-- ---- forced answers

-- a forced answer is Shown, an entry, or a reply outside a transaction
pub data Kind (last : LastEnded) (path : List PathAnswer) (a : PathAnswer) : Type 0 where
  is_shown : a ≡ Shown → Kind last path a
  is_entry : (k : ℕ) → a ≡ Entry k → Kind last path a
  is_reply : (reply : List ℕ) → a ≡ Replied reply → is_outside path ≡ true → last.reply ≡ Some reply → Kind last path a

kind-of : (last : LastEnded) (path : List PathAnswer) (v : Verb) (a : PathAnswer) → IsForced last path v a → Kind last path a
kind-of last path verb.Show Shown forced = is_shown refl
kind-of last path verb.Show a forced = absurd forced
kind-of last path (verb.Accept screen) (Entry k) forced = is_entry k refl
kind-of last path (verb.Accept screen) a forced = absurd forced
kind-of last path (verb.Send class message) (Replied reply) forced = is_reply reply refl forced.0 forced.2
kind-of last path (verb.Send class message) a forced = absurd forced
kind-of last path verb.Begin a forced = absurd forced
kind-of last path verb.End a forced = absurd forced
kind-of last path verb.Drop a forced = absurd forced
kind-of last path verb.Redo a forced = absurd forced
kind-of last path verb.Stop a forced = absurd forced
kind-of last path (verb.Fault x) a forced = absurd forced
kind-of last path (verb.File call) a forced = absurd forced
kind-of last path (verb.Reply reply) a forced = absurd forced

-- one that is forced where a unit begins is the reply of the last ended unit
pub begins-reply : (last : LastEnded) (path : List PathAnswer) (v : Verb) (a : PathAnswer) → BeginsUnit v path → IsForced last path v a → (reply : List ℕ) × (last.reply ≡ Some reply)
begins-reply last path (verb.Send class message) (Replied reply) begins forced = (reply, forced.2)
begins-reply last path (verb.Send class message) a begins forced = absurd forced
begins-reply last path verb.Begin a begins forced = absurd forced
begins-reply last path verb.Show a begins forced = absurd begins
begins-reply last path (verb.Accept screen) a begins forced = absurd begins
begins-reply last path verb.End a begins forced = absurd begins
begins-reply last path verb.Drop a begins forced = absurd begins
begins-reply last path verb.Redo a begins forced = absurd begins
begins-reply last path verb.Stop a begins forced = absurd begins
begins-reply last path (verb.Fault x) a begins forced = absurd begins
begins-reply last path (verb.File call) a begins forced = absurd begins
begins-reply last path (verb.Reply reply) a begins forced = absurd begins

abbrev ended_on : List PathAnswer → ℕ
ended_on path = (standing path).ended

-- refreshes and entries
abbrev weight : List PathAnswer → ℕ
weight path = (standing path).shown + entries_on path

-- behind so many forced answers: a unit has ended, or each of them counts
abbrev Grown : List PathAnswer → ℕ → List PathAnswer → Type 0
Grown path n whole = (ended_on path < ended_on whole) ⊎ ((ended_on whole ≡ ended_on path) × (weight whole ≡ weight path + n))

-- one more answer
abbrev One : List PathAnswer → PathAnswer → Type 0
One path a = (ended_on (path ++ a ∷ []) ≡ ended_on path + 1) ⊎ ((ended_on (path ++ a ∷ []) ≡ ended_on path) × (weight (path ++ a ∷ []) ≡ weight path + 1))

one-more : (last : LastEnded) (path : List PathAnswer) (a : PathAnswer) → Kind last path a → One path a
one-more last path a (is_shown is) =
    subst (One path) (sym is)
    (inr (
      ap (λ (at : Standing). at.ended) (standing-push path Shown),
      let first = ap (λ (at : Standing). at.shown) (standing-push path Shown) in
          let second = entries-push path Shown in omega (arith, first, second),
    ))
one-more last path a (is_entry k is) =
    subst (One path) (sym is)
    (inr (
      ap (λ (at : Standing). at.ended) (standing-push path (Entry k)),
      let first = ap (λ (at : Standing). at.shown) (standing-push path (Entry k)) in
          let second = entries-push path (Entry k) in omega (arith, first, second),
    ))
one-more last path a (is_reply reply is outside kept) =
    subst (One path) (sym is)
    (inl (ap (λ (at : Standing). at.ended) (standing-push path (Replied reply)) ∙ ap (λ (w : Option ℕ). (standing_after_reply (standing path) w).ended) (is_none-None (standing path).within outside)))

grows : (sys : Behaviour) (t : ℕ) (last : LastEnded) (path rest : List PathAnswer) → AreForced sys t last path rest → Grown path (length rest) (path ++ rest)
grows sys t last path [] forced = inr (ap ended_on (append-nil path), let same = ap weight (append-nil path) in omega (arith, same))
grows sys t last path (a ∷ rest) forced =
    both (one-more last path a (kind-of last path (sys.ask t path) a forced.0))
    (subst (Grown (path ++ a ∷ []) (length rest)) (append_assoc path (a ∷ []) rest) (grows sys t last (path ++ a ∷ []) rest forced.1))
  where
    both : One path a → Grown (path ++ a ∷ []) (length rest) (path ++ a ∷ rest) → Grown path (length (a ∷ rest)) (path ++ a ∷ rest)
    both (inl one) (inl more) = inl (omega (arith, one, more))
    both (inl one) (inr more) = inl (let same = more.0 in omega (arith, one, same))
    both (inr one) (inl more) = inl (let same = one.0 in omega (arith, same, more))
    both (inr one) (inr more) = inr (more.0 ∙ one.0, let first = one.1 in let second = more.1 in omega (arith, first, second))

none-left : (path : List PathAnswer) (n : ℕ) (whole : List PathAnswer) → Grown path n whole → ended_on whole ≡ ended_on path → weight whole ≡ weight path → n ≡ 0
none-left path n whole (inl more) ended same = absurd (omega (arith, more, ended))
none-left path n whole (inr more) ended same = let sum = more.1 in omega (arith, sum, same)

-- ---- two beginnings of one path

split : (p q r s : List PathAnswer) → p ++ r ≡ q ++ s → ((m : List PathAnswer) × (q ≡ p ++ m) × (r ≡ m ++ s)) ⊎ ((m : List PathAnswer) × (p ≡ q ++ m) × (s ≡ m ++ r))
split [] q r s e = inl (q, refl, e)
split (x ∷ p) [] r s e = inr (x ∷ p, refl, sym e)
split (x ∷ p) (y ∷ q) r s e =
    let head : x ≡ y = cc e in
    let tail : p ++ r ≡ q ++ s = cc e in
    ⊎_elim (λ w. inl (w.0, ap₂ (λ a l. a ∷ l) (sym head) w.1, w.2)) (λ w. inr (w.0, ap₂ (λ a l. a ∷ l) head w.1, w.2)) (split p q r s tail)

forced-front : (sys : Behaviour) (t : ℕ) (last : LastEnded) (path m rest : List PathAnswer) → AreForced sys t last path (m ++ rest) → AreForced sys t last path m
forced-front sys t last path [] rest forced = tt
forced-front sys t last path (a ∷ m) rest forced = (forced.0, forced-front sys t last (path ++ a ∷ []) m rest forced.1)

-- a longer one of these counts more
longer-same : (sys : Behaviour) (t : ℕ) (last : LastEnded) (p q m rest more : List PathAnswer) → AreForced sys t last p rest → rest ≡ m ++ more → q ≡ p ++ m
    → ended_on q ≡ ended_on p → weight q ≡ weight p → q ≡ p
longer-same sys t last p q m rest more forced whole is ended same =
    let all = grows sys t last p m (forced-front sys t last p m more (subst (AreForced sys t last p) whole forced)) in
    let none : m ≡ [] = nil_from_length m (none-left p (length m) q (subst (Grown p (length m)) (sym is) all) ended same) in
    is ∙ (ap (λ l. p ++ l) none ∙ append-nil p)

-- paths that lead to one frontier and count the same are one
pub same-lead : {sys : Behaviour} {t : ℕ} {last : LastEnded} {p q frontier : List PathAnswer} → Leads sys t last p frontier → Leads sys t last q frontier
    → (standing q).ended ≡ (standing p).ended → (standing q).shown + entries_on q ≡ (standing p).shown + entries_on p → q ≡ p
same-lead {sys = sys} {t = t} {last = last} {p = p} {q = q} {frontier = frontier} one other ended same =
    ⊎_elim (λ w. longer-same sys t last p q w.0 one.rest other.rest one.forced w.2 w.1 ended same)
    (λ w. sym (longer-same sys t last q p w.0 other.rest one.rest other.forced w.2 w.1 (sym ended) (sym same)))
    (split p q one.rest other.rest (sym one.whole ∙ other.whole))

-- ---- attempts

-- where a path stands that begins with attempt r of the unit behind e ended ones: in it, behind it, in the next unit,
-- or behind that
data Phase (e r : ℕ) (at : Standing) (begun : ℕ) : Type 0 where
  inside : at.ended ≡ e → at.within ≡ Some r → begun ≡ r → Phase e r at begun
  behind : at.ended ≡ e + 1 → at.within ≡ None → begun ≡ r → Phase e r at begun
  again : at.ended ≡ e + 1 → (n : ℕ) → at.within ≡ Some n → Phase e r at begun
  far : e + 2 ≤ at.ended → Phase e r at begun

far-reply : (e r : ℕ) (at : Standing) (begun : ℕ) (w : Option ℕ) → e + 2 ≤ at.ended → Phase e r (standing_after_reply at w) begun
far-reply e r at begun None low = far (omega (arith, low))
far-reply e r at begun (Some n) low = far low

phase-more : (e r : ℕ) (at : Standing) (begun : ℕ) (a : PathAnswer) → ((n : ℕ) → a ≡ Begun n → at.within ≡ None) → Phase e r at begun → Phase e r (standing_after_answer at a) (begun_after begun a)
phase-more e r at begun Shown begins (inside ended within is) = inside ended within is
phase-more e r at begun Shown begins (behind ended within is) = behind ended within is
phase-more e r at begun Shown begins (again ended n within) = again ended n within
phase-more e r at begun Shown begins (far low) = far low
phase-more e r at begun (Entry k) begins (inside ended within is) = inside ended within is
phase-more e r at begun (Entry k) begins (behind ended within is) = behind ended within is
phase-more e r at begun (Entry k) begins (again ended n within) = again ended n within
phase-more e r at begun (Entry k) begins (far low) = far low
phase-more e r at begun (Failed x) begins (inside ended within is) = inside ended within is
phase-more e r at begun (Failed x) begins (behind ended within is) = behind ended within is
phase-more e r at begun (Failed x) begins (again ended n within) = again ended n within
phase-more e r at begun (Failed x) begins (far low) = far low
phase-more e r at begun (Begun k) begins (inside ended within is) = absurd (let none = begins k refl in cc (none, within))
phase-more e r at begun (Begun k) begins (behind ended within is) = again ended k refl
phase-more e r at begun (Begun k) begins (again ended n within) = again ended k refl
phase-more e r at begun (Begun k) begins (far low) = far low
phase-more e r at begun (Replied reply) begins (inside ended within is) =
    subst (λ w. Phase e r (standing_after_reply at w) begun) (sym within) (inside ended within is)
phase-more e r at begun (Replied reply) begins (behind ended within is) =
    subst (λ w. Phase e r (standing_after_reply at w) begun) (sym within) (far (omega (arith, ended)))
phase-more e r at begun (Replied reply) begins (again ended n within) =
    subst (λ w. Phase e r (standing_after_reply at w) begun) (sym within) (again ended n within)
phase-more e r at begun (Replied reply) begins (far low) = far-reply e r at begun at.within low
phase-more e r at begun Ended begins (inside ended within is) = behind (ap (λ n. n + 1) ended) refl is
phase-more e r at begun Ended begins (behind ended within is) = far (omega (arith, ended))
phase-more e r at begun Ended begins (again ended n within) = far (omega (arith, ended))
phase-more e r at begun Ended begins (far low) = far (omega (arith, low))
phase-more e r at begun Dropped begins (inside ended within is) = behind (ap (λ n. n + 1) ended) refl is
phase-more e r at begun Dropped begins (behind ended within is) = far (omega (arith, ended))
phase-more e r at begun Dropped begins (again ended n within) = far (omega (arith, ended))
phase-more e r at begun Dropped begins (far low) = far (omega (arith, low))

-- Begun is an answer to Begin alone
begun-suits : (sys : Behaviour) (t : ℕ) (path : List PathAnswer) (v : Verb) (n : ℕ) → Suits sys t path v (Begun n) → v ≡ verb.Begin
begun-suits sys t path verb.Begin n suits = refl
begun-suits sys t path verb.Show n suits = absurd suits
begun-suits sys t path (verb.Accept screen) n suits = absurd suits
begun-suits sys t path (verb.Send class message) n suits = absurd suits
begun-suits sys t path verb.End n suits = absurd suits
begun-suits sys t path verb.Drop n suits = absurd suits
begun-suits sys t path verb.Redo n suits = absurd suits
begun-suits sys t path verb.Stop n suits = absurd suits
begun-suits sys t path (verb.Fault x) n suits = absurd suits
begun-suits sys t path (verb.File call) n suits = absurd suits
begun-suits sys t path (verb.Reply reply) n suits = absurd suits

pub suits-behind : (sys : Behaviour) (t : ℕ) (before path rest : List PathAnswer) → SuitsFrom sys t before (path ++ rest) → SuitsFrom sys t (before ++ path) rest
suits-behind sys t before [] rest suits = subst (λ p. SuitsFrom sys t p rest) (sym (append-nil before)) suits
suits-behind sys t before (a ∷ path) rest suits = subst (λ p. SuitsFrom sys t p rest) (append_assoc before (a ∷ []) path) (suits-behind sys t (before ++ a ∷ []) path rest suits.1)

pub suits-front : (sys : Behaviour) (t : ℕ) (before path rest : List PathAnswer) → SuitsFrom sys t before (path ++ rest) → SuitsFrom sys t before path
suits-front sys t before [] rest suits = tt
suits-front sys t before (a ∷ path) rest suits = (suits.0, suits-front sys t (before ++ a ∷ []) path rest suits.1)

module _ (sys : Behaviour) (b : IsBehaviour sys) (t : ℕ) where
  abbrev At : ℕ → ℕ → List PathAnswer → Type 0
  At e r p = Phase e r (standing p) (begun_from 0 p)

  phases : (e r : ℕ) (p rest : List PathAnswer) → IsPath sys t p → SuitsFrom sys t p rest → At e r p → At e r (p ++ rest)
  phases e r p [] is_path suits at = subst (At e r) (sym (append-nil p)) at
  phases e r p (a ∷ rest) is_path suits at =
      subst (At e r) (append_assoc p (a ∷ []) rest)
      (phases e r (p ++ a ∷ []) rest (IsPath-push sys t p a is_path suits.0) suits.1
      (rw (standing-push p a, begun-push 0 p a)
      (phase-more e r (standing p) (begun_from 0 p) a
      (λ n is. is_none-None (standing p).within (b.begins t p is_path (begun-suits sys t p (sys.ask t p) n (subst (Suits sys t p (sys.ask t p)) is suits.0))))
      at)))

  -- a path that runs on in attempt r from a path
  from-start : (start more : List PathAnswer) (r : ℕ) → IsPath sys t (start ++ Begun r ∷ more) → At (standing start).ended r (start ++ Begun r ∷ more)
  from-start start more r is_path =
      let whole : start ++ Begun r ∷ more ≡ (start ++ Begun r ∷ []) ++ more = sym (append_assoc start (Begun r ∷ []) more) in
      let suits : SuitsFrom sys t [] ((start ++ Begun r ∷ []) ++ more) = subst (SuitsFrom sys t []) whole is_path.suits in
      subst (At (standing start).ended r) (sym whole)
      (phases (standing start).ended r (start ++ Begun r ∷ []) more
      (record { known = is_path.known; suits = suits-front sys t [] (start ++ Begun r ∷ []) more suits })
      (suits-behind sys t [] (start ++ Begun r ∷ []) more suits)
      (rw (standing-push start (Begun r), begun-push 0 start (Begun r)) (inside refl refl refl)))

  -- the restarts of the last attempt on it, while it is in the unit
  pub begun-inside : (start more path : List PathAnswer) (r : ℕ) → IsPath sys t path → path ≡ start ++ Begun r ∷ more → (standing path).ended ≡ (standing start).ended → begun_from 0 path ≡ r
  begun-inside start more path r is_path whole ended =
      by (subst (At (standing start).ended r) (sym whole) (from-start start more r (subst (IsPath sys t) whole is_path)))
    where
      by : At (standing start).ended r path → begun_from 0 path ≡ r
      by (inside e w is) = is
      by (behind e w is) = absurd (omega (arith, e, ended))
      by (again e n w) = absurd (omega (arith, e, ended))
      by (far low) = absurd (omega (arith, low, ended))

  -- and behind it
  pub begun-behind : (start more path : List PathAnswer) (r : ℕ) → IsPath sys t path → path ≡ start ++ Begun r ∷ more → (standing path).ended ≡ (standing start).ended + 1 → is_outside path ≡ true
      → begun_from 0 path ≡ r
  begun-behind start more path r is_path whole ended outside =
      by (subst (At (standing start).ended r) (sym whole) (from-start start more r (subst (IsPath sys t) whole is_path)))
    where
      by : At (standing start).ended r path → begun_from 0 path ≡ r
      by (inside e w is) = absurd (omega (arith, e, ended))
      by (behind e w is) = is
      by (again e n w) = absurd (true≢false (sym outside ∙ ap is_none w))
      by (far low) = absurd (omega (arith, low, ended))
