-- A message in flight is one of a live terminal, and a pair that has or had a backup is there.
use Rattle.std.proofs.Common.{◌≡◌, ℕ, ◌<◌, Bool, cond, List, Option, Some, None, refl, sym, subst, ◌∙◌}
use Rattle.std.proofs.lemmas.Bool.{cond_both, eqb-true}
use Rattle.pw_base.proofs.Plain.{and-first}
use Rattle.pw_event.specs.declared.event.Ending.{Ending}
use Rattle.pw_event.specs.declared.event.Event.{Event}
use Rattle.pw_event.specs.declared.event.Event.TheVariants as event
use Rattle.pw_laws.proofs.Lacking.{any_below-some}
use Rattle.pw_laws.proofs.induction.Failed.{end-any, fail-cases, process-cases}
use Rattle.pw_laws.proofs.induction.Runs.{holds-behind}
use Rattle.pw_laws.proofs.induction.Served.{file-cases, reply-any}
use Rattle.pw_laws.proofs.steps.Living.{ending-stays}
use Rattle.pw_onecopy.proofs.Update.{upd_elim, upd-same}
use Rattle.pw_onecopy.specs.Behaviour.{Behaviour}
use Rattle.pw_onecopy.specs.IsBehaviour.{IsBehaviour}
use Rattle.pw_onecopy.specs.Update.{upd}
use Rattle.pw_paired.specs.Failure.{is_live_of, is_of_pair}
use Rattle.pw_paired.specs.Raising.{LegalRaise, settled_mode}
use Rattle.pw_paired.specs.State.{Alone, Down, Gone, Message, PairMode, Paired, Raising, State}
use Rattle.pw_paired.specs.Step.{Fits, IsRun, after, change, effect}

-- a backup is there, or was until the primary failed
abbrev HadBackup : PairMode → Type 0
HadBackup Alone = ⊥
HadBackup Raising = Unit {0}
HadBackup Paired = Unit {0}
HadBackup Down = Unit {0}
HadBackup Gone = ⊥

-- a pair that becomes up to date has one
settled-had : (mode : PairMode) (lacks : Bool) → HadBackup (settled_mode mode lacks) → HadBackup mode
settled-had Alone lacks had = had
settled-had Raising lacks had = tt
settled-had Paired lacks had = tt
settled-had Down lacks had = tt
settled-had Gone lacks had = had

-- the terminal is started and has no ending
abbrev pub Live : Behaviour → State → ℕ → Type 0
Live sys s t = (t < sys.terminals) × ((s.terms t).ending ≡ None)

-- a message in flight is one of a live terminal
abbrev pub FliesLive : Behaviour → State → Type 0
FliesLive sys s = (t : ℕ) (message : Message) → s.flight t ≡ Some message → Live sys s t

-- a pair that has or had a backup is there
abbrev pub PairsThere : Behaviour → State → Type 0
PairsThere sys s = (p : ℕ) → HadBackup (s.modes p) → p < sys.pairs

module _ (sys : Behaviour) (b : IsBehaviour sys) (s : State) (flies : FliesLive sys s) (pairs : PairsThere sys s) where
  -- what an entry leaves in flight was so before it or is of a live terminal, and the pairs are there
  abbrev Leaves : State → Type 0
  Leaves x = ((t : ℕ) (message : Message) → x.flight t ≡ Some message → Live sys s t) × ((p : ℕ) → HadBackup (x.modes p) → p < sys.pairs)

  same : Leaves s
  same = (flies, pairs)

  sends : (own : ℕ) (message : Option Message) → Live sys s own → Leaves (record s { flight = upd s.flight own message })
  sends own message live = (
    λ t one. upd_elim s.flight own message t (λ (f : Option Message). f ≡ Some one → Live sys s t)
        (λ is flown. subst (Live sys s) (sym is) live) (λ differ. flies t one),
    pairs,
  )

  -- the messages of one terminal go
  without : (own t : ℕ) (message : Message) → upd s.flight own None t ≡ Some message → Live sys s t
  without own t message =
      upd_elim s.flight own None t (λ (f : Option Message). f ≡ Some message → Live sys s t) (λ is none. absurd (cc none)) (λ differ. flies t message)

  -- a pair has another mode
  moded : (p : ℕ) (mode : PairMode) → (HadBackup mode → p < sys.pairs) → (q : ℕ) → HadBackup (upd s.modes p mode q) → q < sys.pairs
  moded p mode there q =
      upd_elim s.modes p mode q (λ (o : PairMode). HadBackup o → q < sys.pairs) (λ is had. subst (λ (r : ℕ). r < sys.pairs) (sym is) (there had)) (λ differ. pairs q)

  -- those of a pair go
  without-pair : (p t : ℕ) (message : Message) → (cond (is_of_pair sys p t) None (s.flight t)) ≡ Some message → Live sys s t
  without-pair p t message flown = cond_both (is_of_pair sys p t) None (s.flight t) (λ (f : Option Message). f ≡ Some message → Live sys s t)
      (λ _ none. absurd (cc none)) (λ _. flies t message) flown

  raised : (p : ℕ) → LegalRaise sys s p → p < sys.pairs
  raised p l =
      let one = any_below-some sys.terminals (is_live_of sys p s) l.wanted in
      let of : sys.pair_of one.0 ≡ p = eqb-true (sys.pair_of one.0) p (and-first (is_of_pair sys p one.0) _ one.2) in
      subst (λ (q : ℕ). q < sys.pairs) of (b.pairs one.0 one.1)

  leaves : (entry : Event) → Fits sys s entry → Leaves (change sys s entry)
  leaves (event.Show own phase attempt k) l = same
  leaves (event.Key own k) l = same
  leaves (event.CheckStart own) l = sends own _ (l.can.live.known, l.can.live.going_on)
  leaves (event.CheckEnd own) l = sends own _ (l.can.live.known, l.can.live.going_on)
  leaves (event.CheckCopy own) l = sends own _ (l.live.known, l.live.going_on)
  leaves (event.Applied own) l = (without own, moded (sys.pair_of own) _ (λ had. pairs (sys.pair_of own) (settled-had (s.modes (sys.pair_of own)) _ had)))
  leaves (event.Begin own n r) l = same
  leaves (event.Send own n c) l = same
  leaves (event.Take c i own) l = same
  leaves (event.File c i op mode f status) l = file-cases sys s c i Leaves same (λ job call works asks. same)
  leaves (event.Reply c i own fault) l = reply-any sys s c i own Leaves fault (λ reply outside. same) (λ reply inside. same) (λ x. same)
  leaves (event.Again own n) l = same
  leaves (event.Commit own n) l = same
  leaves (event.Back own n) l = same
  leaves (event.Restart own n kind) l = same
  leaves (event.FailTcp p primary k) l =
      fail-cases sys s Leaves p same
      (λ paired. (without-pair p, moded p Down (λ _. pairs p (subst HadBackup (sym paired) tt))))
      (λ member breaks. (without-pair p, moded p Gone (λ none. absurd none)))
      (λ has. (without-pair p, moded p Alone (λ none. absurd none)))
      primary
  leaves (event.FailServer c i k) l = process-cases sys s Leaves c i k same (λ job works. same)
  leaves (event.Takeover p) l = (flies, moded p Alone (λ none. absurd none))
  leaves (event.Raise p) l = (flies, moded p Raising (λ _. raised p l))
  leaves (event.End own e) l =
      let settled : (x : State) → x.modes ≡ s.modes → (lacks : Bool) → (q : ℕ) → HadBackup (upd s.modes (sys.pair_of own) (settled_mode (s.modes (sys.pair_of own)) lacks) q) → q < sys.pairs =
      λ x is lacks. moded (sys.pair_of own) _ (λ had. pairs (sys.pair_of own) (settled-had (s.modes (sys.pair_of own)) lacks had)) in
      end-any sys s Leaves own e (without own, settled s refl _) (without own, settled s refl _)

  -- the terminal of a message that is left in flight does not end
  unended : (entry : Event) → Fits sys s entry → (t : ℕ) (message : Message) → (change sys s entry).flight t ≡ Some message → (e : Ending) → entry ≡ event.End t e → ⊥
  unended entry l t message flown e is = none (subst (λ (x : Event). (change sys s x).flight t ≡ Some message) is flown)
    where
      none : (change sys s (event.End t e)).flight t ≡ Some message → ⊥
      none =
          let gone : upd s.flight t None t ≡ Some message → ⊥ = λ there. absurd (let empty = upd-same s.flight t None t refl in cc (empty, there)) in
          end-any sys s (λ x. x.flight t ≡ Some message → ⊥) t e gone gone

  step-flies : (entry : Event) → Fits sys s entry → FliesLive sys (effect sys s entry)
  step-flies entry l t message flown =
      let was = (leaves entry l).0 t message flown in
      (was.0, ending-stays sys s t entry l (unended entry l t message flown) ∙ was.1)

  step-pairs : (entry : Event) → Fits sys s entry → PairsThere sys (effect sys s entry)
  step-pairs entry l = (leaves entry l).1

-- it is so behind every run
pub known : (sys : Behaviour) → IsBehaviour sys → (log : List Event) → IsRun sys log → FliesLive sys (after sys log) × PairsThere sys (after sys log)
known sys b =
    holds-behind sys (λ s. FliesLive sys s × PairsThere sys s)
    (λ log run entry legal ok. (step-flies sys b (after sys log) ok.0 ok.1 entry legal.fits, step-pairs sys b (after sys log) ok.0 ok.1 entry legal.fits))
    (λ t message flown. absurd (cc flown), λ p had. absurd had)
