-- What an entry leaves of a terminal at which it is not.
use Rattle.std.proofs.Common.{◌≡◌, ◌≢◌, ℕ, ◌==◌, ◌&&◌, Option, Some, None, Bool, true, false, is_none, refl, sym, ap, ◌∙◌, ⊎_elim}
use Rattle.std.specs.Prelude.{if◌then◌else◌}
use Rattle.std.proofs.lemmas.Bool.{cases_eq, eqb-false, ne_eqb, and_left}
use Rattle.pw_base.proofs.Plain.{and-false}
use Rattle.pw_class.specs.Queue.{works_for}
use Rattle.pw_event.specs.declared.event.Ending.{Ending}
use Rattle.pw_event.specs.declared.event.Ending.TheVariants.{Stopped, NoEntries, Fault, Suspended, Lost}
use Rattle.pw_event.specs.declared.event.Event.{Event}
use Rattle.pw_event.specs.declared.event.Event.TheVariants.{Show, Key, CheckStart, CheckEnd, CheckCopy, Applied, Begin, Send, Take, File, Reply, Again, Commit, Back, Restart, FailTcp, FailServer, Takeover, Raise, End}
use Rattle.pw_world_model.specs.Stamps.{state_in}
use Rattle.pw_world_model.specs.Touches.{leaves}
use Rattle.pw_world_model.proofs.Placed.{loses_in, out_behind, outs}
use Rattle.pw_onecopy.specs.Behaviour.{Behaviour}
use Rattle.pw_onecopy.specs.IsBehaviour.{IsBehaviour}
use Rattle.pw_onecopy.specs.Update.{upd}
use Rattle.pw_onecopy.proofs.Update.{upd-other, upd-same}
use Rattle.pw_paired.specs.Failure.{backup_fails, is_live_of, is_of_pair, lose_backup, lose_pair, lose_primary, primary_fails, process_fails}
use Rattle.pw_paired.specs.State.{PairMode, Alone, Raising, Paired, Down, Gone, Job, State}
use Rattle.pw_paired.specs.Step.{Legal, change}
use Rattle.pw_paired.specs.Units.{is_out, only, request_in}
use Rattle.pw_actor_queue.specs.declared.actor.Actor.TheVariants.{Terminal}
use Rattle.pw_laws.proofs.induction.Served.{file-cases, reply-any}
use Rattle.pw_laws.proofs.kept.Kept.{Inv}

-- ---- the entries of a terminal

-- the entry is one of the terminal, a reply to it, or stops the process that works for it
abbrev pub at_terminal : State → ℕ → Event → Bool
at_terminal s u (Show t phase attempt k) = t == u
at_terminal s u (Key t k) = t == u
at_terminal s u (CheckStart t) = t == u
at_terminal s u (CheckEnd t) = t == u
at_terminal s u (CheckCopy t) = t == u
at_terminal s u (Applied t) = t == u
at_terminal s u (Begin t n r) = t == u
at_terminal s u (Send t n c) = t == u
at_terminal s u (Take c i t) = false
at_terminal s u (File c i op mode f status) = false
at_terminal s u (Reply c i t fault) = t == u
at_terminal s u (Again t n) = t == u
at_terminal s u (Commit t n) = t == u
at_terminal s u (Back t n) = t == u
at_terminal s u (Restart t n cause) = t == u
at_terminal s u (FailTcp p primary k) = false
at_terminal s u (FailServer c i k) = works_for u (request_in ((s.classes c).busy i))
at_terminal s u (Takeover p) = false
at_terminal s u (Raise p) = false
at_terminal s u (End t ending) = t == u

-- ---- a terminal at which the entry is not

-- two states have the same of the terminal
pub record SameAt (s x : State) (u : ℕ) : Type 0 where
  pub terms : x.terms u ≡ s.terms u
  pub units : x.units u ≡ s.units u
  pub ended : x.ended u ≡ s.ended u
  pub memory : x.memory u ≡ s.memory u
  pub flight : x.flight u ≡ s.flight u

unlike : (t u : ℕ) → (t == u) ≡ false → u ≢ t
unlike t u e is = eqb-false t u e (sym is)

pick-no : {A : Type 0} (b : Bool) (x y : A) → b ≡ false → (if b then x else y) ≡ y
pick-no true x y e = absurd (cc e)
pick-no false x y e = refl

module _ (sys : Behaviour) (s : State) (u : ℕ) where
  -- a pair whose mode turns is not that of a terminal whose pair has its mode
  turned : (p : ℕ) (new : PairMode) → s.modes p ≢ new → upd s.modes p new (sys.pair_of u) ≡ s.modes (sys.pair_of u) → is_of_pair sys p u ≡ false
  turned p new differ same =
      ⊎_elim (λ is. absurd (differ (ap s.modes (sym is) ∙ (sym same ∙ upd-same s.modes p new (sys.pair_of u) is)))) (λ other. ne_eqb (sys.pair_of u) p other) (cases_eq (sys.pair_of u) p)

  down-same : (p : ℕ) → is_of_pair sys p u ≡ false → SameAt s (lose_primary sys p s) u
  down-same p other = record { terms = pick-no (is_of_pair sys p u) _ _ other; units = refl; ended = refl; memory = refl; flight = pick-no (is_of_pair sys p u) _ _ other }

  gone-same : (p : ℕ) → is_of_pair sys p u ≡ false → SameAt s (lose_pair sys p s) u
  gone-same p other = record {
    terms = pick-no (is_of_pair sys p u) _ _ other;
    units = pick-no (is_of_pair sys p u) _ _ other;
    ended = pick-no (is_of_pair sys p u) _ _ other;
    memory = pick-no (is_of_pair sys p u) _ _ other;
    flight = pick-no (is_of_pair sys p u) _ _ other;
  }

  alone-same : (p : ℕ) → is_of_pair sys p u ≡ false → SameAt s (lose_backup sys p s) u
  alone-same p other = record { terms = refl; units = refl; ended = refl; memory = pick-no (is_of_pair sys p u) _ _ other; flight = pick-no (is_of_pair sys p u) _ _ other }

  same-at : SameAt s s u
  same-at = record { terms = refl; units = refl; ended = refl; memory = refl; flight = refl }

  fails-same : (p k : ℕ) (primary : Bool) → (change sys s (FailTcp p primary k)).modes (sys.pair_of u) ≡ s.modes (sys.pair_of u) → SameAt s (change sys s (FailTcp p primary k)) u
  fails-same p k true same = by (s.modes p) refl same
    where
      by : (m : PairMode) → s.modes p ≡ m → (primary_fails sys p m s).modes (sys.pair_of u) ≡ s.modes (sys.pair_of u) → SameAt s (primary_fails sys p m s) u
      by Paired is e = down-same p (turned p Down (λ d. absurd (cc (is, d))) e)
      by Raising is e = gone-same p (turned p Gone (λ d. absurd (cc (is, d))) e)
      by Alone is e = gone-same p (turned p Gone (λ d. absurd (cc (is, d))) e)
      by Down is e = same-at
      by Gone is e = same-at
  fails-same p k false same = by (s.modes p) refl same
    where
      by : (m : PairMode) → s.modes p ≡ m → (backup_fails sys p m s).modes (sys.pair_of u) ≡ s.modes (sys.pair_of u) → SameAt s (backup_fails sys p m s) u
      by Paired is e = alone-same p (turned p Alone (λ d. absurd (cc (is, d))) e)
      by Raising is e = alone-same p (turned p Alone (λ d. absurd (cc (is, d))) e)
      by Down is e = gone-same p (turned p Gone (λ d. absurd (cc (is, d))) e)
      by Alone is e = same-at
      by Gone is e = same-at

  stops-same : (c i k : ℕ) (o : Option Job) → works_for u (request_in o) ≡ false → SameAt s (process_fails c i k o s) u
  stops-same c i k None e = same-at
  stops-same c i k (Some job) e = record { terms = upd-other s.terms job.request.terminal _ u (unlike job.request.terminal u e); units = refl; ended = refl; memory = refl; flight = refl }

  ends-same : (t : ℕ) (ending : Ending) → u ≢ t → SameAt s (change sys s (End t ending)) u
  ends-same t ending other = by ending
    where
      no : only t u ≡ false
      no = ne_eqb u t other

      by : (e : Ending) → SameAt s (change sys s (End t e)) u
      by Stopped = record { terms = upd-other s.terms t _ u other; units = refl; ended = refl; memory = upd-other s.memory t None u other; flight = upd-other s.flight t None u other }
      by Lost = record { terms = upd-other s.terms t _ u other; units = refl; ended = refl; memory = upd-other s.memory t None u other; flight = upd-other s.flight t None u other }
      by NoEntries = record { terms = upd-other s.terms t _ u other; units = pick-no (only t u) _ _ no; ended = pick-no (only t u) _ _ no; memory = upd-other s.memory t None u other; flight = upd-other s.flight t None u other }
      by (Fault x) = record { terms = upd-other s.terms t _ u other; units = pick-no (only t u) _ _ no; ended = pick-no (only t u) _ _ no; memory = upd-other s.memory t None u other; flight = upd-other s.flight t None u other }
      by (Suspended c) = record { terms = upd-other s.terms t _ u other; units = pick-no (only t u) _ _ no; ended = pick-no (only t u) _ _ no; memory = upd-other s.memory t None u other; flight = upd-other s.flight t None u other }

  pub rest : (entry : Event) → Legal sys s entry → at_terminal s u entry ≡ false → (change sys s entry).modes (sys.pair_of u) ≡ s.modes (sys.pair_of u) → SameAt s (change sys s entry) u
  rest (Show t phase attempt k) l e m = record { terms = upd-other s.terms t _ u (unlike t u e); units = refl; ended = refl; memory = refl; flight = refl }
  rest (Key t k) l e m = record { terms = upd-other s.terms t _ u (unlike t u e); units = refl; ended = refl; memory = refl; flight = refl }
  rest (CheckStart t) l e m = record { terms = refl; units = refl; ended = refl; memory = refl; flight = upd-other s.flight t _ u (unlike t u e) }
  rest (CheckEnd t) l e m = record { terms = refl; units = refl; ended = refl; memory = refl; flight = upd-other s.flight t _ u (unlike t u e) }
  rest (CheckCopy t) l e m = record { terms = refl; units = refl; ended = refl; memory = refl; flight = upd-other s.flight t _ u (unlike t u e) }
  rest (Applied t) l e m = record { terms = refl; units = refl; ended = refl; memory = upd-other s.memory t _ u (unlike t u e); flight = upd-other s.flight t None u (unlike t u e) }
  rest (Begin t n r) l e m = record { terms = upd-other s.terms t _ u (unlike t u e); units = upd-other s.units t _ u (unlike t u e); ended = refl; memory = refl; flight = refl }
  rest (Send t n c) l e m = record { terms = refl; units = refl; ended = refl; memory = refl; flight = refl }
  rest (Take c i t) l e m = record { terms = refl; units = refl; ended = refl; memory = refl; flight = refl }
  rest (File c i op mode f status) l e m = file-cases sys s c i (λ x. SameAt s x u) same-at (λ job call works asks. record { terms = refl; units = refl; ended = refl; memory = refl; flight = refl })
  rest (Reply c i t fault) l e m =
      let other = unlike t u e in
      reply-any sys s c i t (λ x. SameAt s x u) fault
      (λ reply outside. record { terms = upd-other s.terms t _ u other; units = upd-other s.units t None u other; ended = upd-other s.ended t _ u other; memory = refl; flight = refl })
      (λ reply inside. record { terms = upd-other s.terms t _ u other; units = refl; ended = refl; memory = refl; flight = refl })
      (λ x. record { terms = upd-other s.terms t _ u other; units = refl; ended = refl; memory = refl; flight = refl })
  rest (Again t n) l e m = record { terms = upd-other s.terms t _ u (unlike t u e); units = refl; ended = refl; memory = refl; flight = refl }
  rest (Commit t n) l e m =
      record { terms = upd-other s.terms t _ u (unlike t u e); units = upd-other s.units t None u (unlike t u e); ended = upd-other s.ended t _ u (unlike t u e); memory = refl; flight = refl }
  rest (Back t n) l e m =
      record { terms = upd-other s.terms t _ u (unlike t u e); units = upd-other s.units t None u (unlike t u e); ended = upd-other s.ended t _ u (unlike t u e); memory = refl; flight = refl }
  rest (Restart t n cause) l e m = record { terms = upd-other s.terms t _ u (unlike t u e); units = upd-other s.units t _ u (unlike t u e); ended = refl; memory = refl; flight = refl }
  rest (FailTcp p primary k) l e m = fails-same p k primary m
  rest (FailServer c i k) l e m = stops-same c i k ((s.classes c).busy i) e
  rest (Takeover p) l e m =
      let other = turned p Alone (λ d. let down = l.fits.down in absurd (cc (down, d))) m in
      record {
        terms = pick-no (is_live_of sys p s u) _ _ (and_left (is_of_pair sys p u) (is_none (s.terms u).ending) other);
        units = refl;
        ended = refl;
        memory = pick-no (is_of_pair sys p u) _ _ other;
        flight = refl;
      }
  rest (Raise p) l e m =
      let other = turned p Raising (λ d. let alone = l.fits.alone in absurd (cc (alone, d))) m in
      record { terms = refl; units = refl; ended = refl; memory = pick-no (is_of_pair sys p u) _ _ other; flight = refl }
  rest (End t ending) l e m = ends-same t ending (unlike t u e)

module _ (sys : Behaviour) (b : IsBehaviour sys) (s : State) (i : Inv sys s) (u : ℕ) where
  unless-turned : (p k : ℕ) (primary : Bool) → (change sys s (FailTcp p primary k)).modes (sys.pair_of u) ≡ s.modes (sys.pair_of u) → (is_of_pair sys p u && loses_in primary (s.modes p)) ≡ false
  unless-turned p k true same = by (s.modes p) refl same
    where
      by : (m : PairMode) → s.modes p ≡ m → (primary_fails sys p m s).modes (sys.pair_of u) ≡ s.modes (sys.pair_of u) → (is_of_pair sys p u && loses_in true m) ≡ false
      by Paired is e = and_left (is_of_pair sys p u) true (turned sys s u p Down (λ d. absurd (cc (is, d))) e)
      by Raising is e = and_left (is_of_pair sys p u) true (turned sys s u p Gone (λ d. absurd (cc (is, d))) e)
      by Alone is e = and_left (is_of_pair sys p u) true (turned sys s u p Gone (λ d. absurd (cc (is, d))) e)
      by Down is e = and-false (is_of_pair sys p u)
      by Gone is e = and-false (is_of_pair sys p u)
  unless-turned p k false same = by (s.modes p) refl same
    where
      by : (m : PairMode) → s.modes p ≡ m → (backup_fails sys p m s).modes (sys.pair_of u) ≡ s.modes (sys.pair_of u) → (is_of_pair sys p u && loses_in false m) ≡ false
      by Down is e = and_left (is_of_pair sys p u) true (turned sys s u p Gone (λ d. absurd (cc (is, d))) e)
      by Paired is e = and-false (is_of_pair sys p u)
      by Raising is e = and-false (is_of_pair sys p u)
      by Alone is e = and-false (is_of_pair sys p u)
      by Gone is e = and-false (is_of_pair sys p u)

  -- its request stays out, or in
  out-rest : (entry : Event) → Legal sys s entry → at_terminal s u entry ≡ false → (change sys s entry).modes (sys.pair_of u) ≡ s.modes (sys.pair_of u)
      → out_behind sys s entry u (is_out sys s u) ≡ is_out sys s u
  out-rest (Send t n c) l e m = pick-no (u == t) true (is_out sys s u) (ne_eqb u t (unlike t u e))
  out-rest (Reply c p t fault) l e m = pick-no (u == t) false (is_out sys s u) (ne_eqb u t (unlike t u e))
  out-rest (FailServer c p k) l e m = pick-no (works_for u (request_in ((s.classes c).busy p))) false (is_out sys s u) e
  out-rest (Restart t n cause) l e m = pick-no (u == t) false (is_out sys s u) (ne_eqb u t (unlike t u e))
  out-rest (FailTcp p primary k) l e m = pick-no (is_of_pair sys p u && loses_in primary (s.modes p)) false (is_out sys s u) (unless-turned p k primary m)
  out-rest (End t ending) l e m = pick-no (u == t && leaves ending) false (is_out sys s u) (and_left (u == t) (leaves ending) (ne_eqb u t (unlike t u e)))
  out-rest (Show t phase attempt k) l e m = refl
  out-rest (Key t k) l e m = refl
  out-rest (CheckStart t) l e m = refl
  out-rest (CheckEnd t) l e m = refl
  out-rest (CheckCopy t) l e m = refl
  out-rest (Applied t) l e m = refl
  out-rest (Begin t n r) l e m = refl
  out-rest (Take c p t) l e m = refl
  out-rest (File c p op mode f status) l e m = refl
  out-rest (Again t n) l e m = refl
  out-rest (Commit t n) l e m = refl
  out-rest (Back t n) l e m = refl
  out-rest (Takeover p) l e m = refl
  out-rest (Raise p) l e m = refl

  pub stays-same : (entry : Event) → Legal sys s entry → at_terminal s u entry ≡ false → (change sys s entry).modes (sys.pair_of u) ≡ s.modes (sys.pair_of u)
      → state_in sys s (Terminal u) ≡ state_in sys (change sys s entry) (Terminal u)
  stays-same entry l e m =
      let r = rest sys s u entry l e m in
      let out : is_out sys (change sys s entry) u ≡ is_out sys s u = outs sys b s i entry l u ∙ out-rest entry l e m in
      let terms = r.terms in
      let units = r.units in
      let ended = r.ended in
      let memory = r.memory in
      let flight = r.flight in
      cc (terms, units, ended, memory, flight, out, m)
