-- The frontier where the path of a terminal gets an answer: SHOW, KEY, REPLY and AGAIN.
use Rattle.std.proofs.Common.{◌≡◌, ◌≢◌, ℕ, ◌+◌, ◌<◌, ◌≤◌, false, List, [], ◌∷◌, ◌++◌, length, Option, Some, None, unwrap_or, is_none, refl, ap, sym, subst, append_assoc, arith, ◌∙◌}
use Rattle.std.proofs.lemmas.Bool.{true≢false}
use Rattle.pw_code.specs.declared.verb.Verb.{Verb}
use Rattle.pw_code.specs.declared.verb.Verb.TheVariants as verb
use Rattle.pw_laws.proofs.terms.KeepsChecks as path
use Rattle.pw_laws.proofs.Paths.{IsPath-push, IsPlain, Entry-plain, Failed-plain, Shown-plain, plain-number, plain-outside, reply-inside}
use Rattle.pw_onecopy.specs.IsBehaviour.{IsBehaviour, IsPath, Suits}
use Rattle.pw_paired.specs.Failure.{resumed_path}
use Rattle.pw_onecopy.specs.Path.{PathAnswer, Begun, Entry, Failed, Replied, Shown, Standing, entries_on, is_outside, unit_number}
use Rattle.pw_paired.specs.Raising.{is_takeover}
use Rattle.pw_paired.specs.State.{Copy, End, Message, OpenUnit, Start}
use Rattle.pw_onecopy.specs.Behaviour.{Behaviour}
use Rattle.pw_onecopy.specs.Attempt.{BeginsUnit}
use Rattle.pw_paired.specs.Terminal.{kept_reply}
use Rattle.pw_paired.specs.Units.{attempt_of}
use Rattle.pw_laws.proofs.frontier.Frontier.{FrontierOk, IsFlying, RunsFrom, fails, frontier_behind, sends, transacts}
use Rattle.pw_laws.proofs.frontier.Leads.{IsForced, Leads, Next, goes_on, is_there, leads-here, leads-more, leads-short, next-of}
use Rattle.pw_laws.proofs.frontier.Standing.{NoClose, Where, closed, ends-moved, flies-moved, grown, none-of-verb, one-longer, put, running, to-stand, waiting, where-of}
use Rattle.pw_laws.proofs.induction.Moving.{TermAt}
use Rattle.pw_laws.proofs.induction.Views.{Able, View, Waits, gets, path_in, verb_in}

-- a unit is not closed and open
pub no-open : {unit : Option OpenUnit} {u : OpenUnit} → unit ≡ None → unit ≡ Some u → ⊥
no-open none is = absurd (cc (none, is))

module _ (sys : Behaviour) (t : ℕ) (v : View) (frontier : List PathAnswer) (ok : FrontierOk sys t v frontier) where
  -- the path of a running attempt
  pub answer-runs : (a : PathAnswer) (u : OpenUnit) (q : List PathAnswer) → v.unit ≡ Some u → u.running ≡ Some q → NoClose sys t (path_in v)
      → RunsFrom sys t u.restarts frontier (path_in v ++ a ∷ []) → FrontierOk sys t (gets a v) frontier
  answer-runs a u q is runs none at = record {
    base = ok.base;
    short = λ idle. absurd (cc (is, runs, idle));
    stands = λ works untaken. to-stand (running u q is runs at);
    held = ok.held;
    ends = λ has unit memory e is_u is_m is_e. ends-moved (path_in v ++ a ∷ []) none (ok.ends has unit memory e is_u is_m is_e);
    flies = λ message is. flies-moved sys t v.last v.unit v.memory frontier (path_in v) (path_in v ++ a ∷ []) message none (ok.flies message is);
    alone = ok.alone;
  }

  -- between units, where the frontier is longer: the answer is the one on the frontier
  flies-behind : (other : List PathAnswer) → v.unit ≡ None → (message : Message) → IsFlying sys t v.last v.unit v.memory frontier (path_in v) message
      → IsFlying sys t v.last v.unit v.memory frontier other message
  flies-behind other none (Start n p) flies = tt
  flies-behind other none (Copy n p) flies = flies
  flies-behind other none (End p) flies = absurd (no-open none flies.is_open)

  pub answer-behind : (a : PathAnswer) → v.unit ≡ None → Leads sys t v.last (path_in v ++ a ∷ []) frontier → FrontierOk sys t (gets a v) frontier
  answer-behind a none leads = record {
    base = ok.base;
    short = λ idle. leads-short leads;
    stands = λ works untaken. to-stand (closed none leads);
    held = ok.held;
    ends = λ has unit memory e is_u is_m is_e. absurd (no-open none is_u);
    flies = λ message is. flies-behind (path_in v ++ a ∷ []) none message (ok.flies message is);
    alone = ok.alone;
  }

  -- between units, at the frontier: it grows
  flies-grown : (a : PathAnswer) → v.unit ≡ None → path_in v ≡ frontier → IsForced v.last frontier (sys.ask t frontier) a → (message : Message)
      → IsFlying sys t v.last v.unit v.memory frontier (path_in v) message → IsFlying sys t v.last v.unit v.memory (path_in v ++ a ∷ []) (path_in v ++ a ∷ []) message
  flies-grown a none same forced (Start n p) flies = tt
  flies-grown a none same forced (Copy n p) flies =
      (subst (λ (f : List PathAnswer). Leads sys t v.last p (f ++ a ∷ [])) (sym same) (leads-more a forced flies.0), λ u is. absurd (no-open none is))
  flies-grown a none same forced (End p) flies = absurd (no-open none flies.is_open)

  pub answer-grows : (a : PathAnswer) → v.unit ≡ None → path_in v ≡ frontier → IsForced v.last frontier (sys.ask t frontier) a → IsPlain a
      → Suits sys t (path_in v) (verb_in sys t v) a → FrontierOk sys t (gets a v) (path_in v ++ a ∷ [])
  answer-grows a none same forced plain suits = record {
    base = record {
      rest = record {
        is_path = IsPath-push sys t (path_in v) a (subst (IsPath sys t) (sym same) ok.base.rest.is_path) suits;
        outside = plain-outside a plain (path_in v) ∙ (ap is_outside same ∙ ok.base.rest.outside);
      };
      number = plain-number a plain (path_in v) ∙ (ap unit_number same ∙ ok.base.number);
      begins = λ u is. absurd (no-open none is);
      start = λ q runs. absurd (cc (none, runs));
    };
    short = λ idle. omega arith;
    stands = λ works untaken. to-stand (closed none (leads-here sys t v.last (path_in v ++ a ∷ []) (path_in v ++ a ∷ []) refl));
    held = λ memory is.
        let h = ok.held memory is in
        record {
          resumes = subst (λ (f : List PathAnswer). Leads sys t v.last (resumed_path memory v.last) (f ++ a ∷ [])) (sym same) (leads-more a forced h.resumes);
          at_open = λ u is_u. absurd (no-open none is_u);
          no_end = h.no_end;
        };
    ends = λ has unit memory e is_u is_m is_e. absurd (no-open none is_u);
    flies = λ message is. flies-grown a none same forced message (ok.flies message is);
    alone = ok.alone;
  }

module _ (sys : Behaviour) (b : IsBehaviour sys) (t : ℕ) (v : View) (frontier : List PathAnswer) (ok : FrontierOk sys t v frontier) where
  -- a running attempt that neither sends nor has a run fault is in its transaction
  runs-plain : (r : ℕ) (a : PathAnswer) → IsPlain a → ((c : ℕ) (message : List ℕ) → verb_in sys t v ≢ verb.Send c message) → ((x : ℕ) → verb_in sys t v ≢ verb.Fault x)
      → RunsFrom sys t r frontier (path_in v) → RunsFrom sys t r frontier (path_in v ++ a ∷ [])
  runs-plain r a plain no_send no_fault (transacts begins more whole inside) =
      transacts begins (more ++ a ∷ []) (ap (λ (p : List PathAnswer). p ++ a ∷ []) whole ∙ append_assoc frontier (Begun r ∷ more) (a ∷ [])) (plain-outside a plain (path_in v) ∙ inside)
  runs-plain r a plain no_send no_fault (sends c message asks is) = absurd (no_send c message (ap (sys.ask t) is ∙ asks))
  runs-plain r a plain no_send no_fault (fails c x message asks is) =
      absurd (no_fault x (ap (sys.ask t) is ∙ b.fails t c x message frontier ok.base.rest.is_path asks))

  -- SHOW and KEY
  plain-kept : (a : PathAnswer) (w : Verb) → verb_in sys t v ≡ w → Able sys t v → IsPlain a → Suits sys t (path_in v) (verb_in sys t v) a
      → ((x : PathAnswer) → IsForced v.last (path_in v) w x → x ≡ a) → IsForced v.last (path_in v) w a
      → (¬ BeginsUnit w (path_in v)) → NoClose sys t (path_in v) → ((c : ℕ) (message : List ℕ) → verb_in sys t v ≢ verb.Send c message) → ((x : ℕ) → verb_in sys t v ≢ verb.Fault x)
      → FrontierOk sys t (gets a v) (frontier_behind v (gets a v) frontier)
  plain-kept a w asks able plain suits only forced no_begin no_close no_send no_fault = by (where-of v.unit (ok.stands (rw able.paired tt) (ap is_takeover able.calm)))
    where
      go : v.unit ≡ None → Next sys t v.last (path_in v) frontier → FrontierOk sys t (gets a v) (frontier_behind v (gets a v) frontier)
      go none (is_there same) =
          grown v (gets a v) frontier (ap attempt_of none) (subst (λ (f : List PathAnswer). length f < length (path_in v ++ a ∷ [])) same (one-longer (path_in v) a))
          (answer-grows sys t v frontier ok a none same
          (subst (λ (p : List PathAnswer). IsForced v.last p (sys.ask t p) a) same (subst (λ (x : Verb). IsForced v.last (path_in v) x a) (sym asks) forced)) plain suits)
      go none (goes_on x is_forced leads) =
          let same = only x (subst (λ (y : Verb). IsForced v.last (path_in v) y x) asks is_forced) in
          put v (gets a v) frontier (answer-behind sys t v frontier ok a none (subst (λ (y : PathAnswer). Leads sys t v.last (path_in v ++ y ∷ []) frontier) same leads))

      by : Where sys t v.last v.unit (path_in v) frontier → FrontierOk sys t (gets a v) (frontier_behind v (gets a v) frontier)
      by (closed none leads) = go none (next-of leads)
      by (waiting u is idle same) =
          absurd (no_begin (subst (λ (x : Verb). BeginsUnit x (path_in v)) asks (subst (λ (p : List PathAnswer). BeginsUnit (sys.ask t p) p) (sym same) (ok.base.begins u is))))
      by (running u q is runs at) =
          put v (gets a v) frontier (answer-runs sys t v frontier ok a u q is runs no_close (runs-plain u.restarts a plain no_send no_fault at))

  only-shown : (x : PathAnswer) → IsForced v.last (path_in v) verb.Show x → x ≡ Shown
  only-shown Shown forced = refl
  only-shown x forced = absurd forced

  only-entry : (screen k : ℕ) → k ≡ entries_on (path_in v) + 1 → (x : PathAnswer) → IsForced v.last (path_in v) (verb.Accept screen) x → x ≡ Entry k
  only-entry screen k next (Entry n) forced = ap (λ (m : ℕ). Entry m) (forced ∙ sym next)
  only-entry screen k next x forced = absurd forced

  pub show-kept : Able sys t v → verb_in sys t v ≡ verb.Show → FrontierOk sys t (gets Shown v) (frontier_behind v (gets Shown v) frontier)
  show-kept able asks =
      plain-kept Shown verb.Show asks able Shown-plain (rw asks tt) only-shown tt (λ begins. begins) (none-of-verb sys t (path_in v) verb.Show asks refl)
      (λ c message is. absurd (cc (asks, is))) (λ x is. absurd (cc (asks, is)))

  pub key-kept : Able sys t v → (screen k : ℕ) → verb_in sys t v ≡ verb.Accept screen → k ≡ entries_on (path_in v) + 1 → k ≤ sys.entries t
      → FrontierOk sys t (gets (Entry k) v) (frontier_behind v (gets (Entry k) v) frontier)
  key-kept able screen k asks next exists =
      plain-kept (Entry k) (verb.Accept screen) asks able (Entry-plain k) (rw asks (next, exists)) (only-entry screen k next) next (λ begins. begins)
      (none-of-verb sys t (path_in v) (verb.Accept screen) asks refl)
      (λ c message is. absurd (cc (asks, is))) (λ x is. absurd (cc (asks, is)))

  -- a terminal that waits for a server has a running attempt
  sent-none : (w : Waits sys t v) → NoClose sys t (path_in v)
  sent-none w = none-of-verb sys t (path_in v) (verb.Send w.class w.message) w.asks refl

  pub waiting-at : (w : Waits sys t v) → RunsFrom sys t w.unit.restarts frontier (path_in v)
  waiting-at w = by (where-of v.unit (ok.stands w.working (ap is_takeover w.calm)))
    where
      by : Where sys t v.last v.unit (path_in v) frontier → RunsFrom sys t w.unit.restarts frontier (path_in v)
      by (closed none leads) = absurd (no-open none w.is_open)
      by (waiting u is idle same) = absurd (let one : u ≡ w.unit = let is_w = w.is_open in cc (is, is_w) in let running = ap (λ (x : OpenUnit). x.running) one in let runs = w.runs in cc (running, idle, runs))
      by (running u q is runs at) = subst (λ (x : OpenUnit). RunsFrom sys t x.restarts frontier (path_in v)) (let is_w = w.is_open in let one : u ≡ w.unit = cc (is, is_w) in one) at

  -- REPLY OK in a transaction
  pub answered-kept : (w : Waits sys t v) (reply : List ℕ) → is_outside (path_in v) ≡ false → FrontierOk sys t (gets (Replied reply) v) (frontier_behind v (gets (Replied reply) v) frontier)
  answered-kept w reply inside =
      put v (gets (Replied reply) v) frontier (answer-runs sys t v frontier ok (Replied reply) w.unit w.start w.is_open w.runs (sent-none w) (by (waiting-at w)))
    where
      by : RunsFrom sys t w.unit.restarts frontier (path_in v) → RunsFrom sys t w.unit.restarts frontier (path_in v ++ Replied reply ∷ [])
      by (transacts begins more whole here) =
          transacts begins (more ++ Replied reply ∷ []) (ap (λ (p : List PathAnswer). p ++ Replied reply ∷ []) whole ∙ append_assoc frontier (Begun w.unit.restarts ∷ more) (Replied reply ∷ []))
          (ap (λ (at : Standing). is_none at.within) (reply-inside reply (path_in v) inside) ∙ inside)
      by (sends c message asks is) = absurd (true≢false (sym (ap is_outside is ∙ ok.base.rest.outside) ∙ inside))
      by (fails c x message asks is) =
          absurd (true≢false (sym (ap is_outside is ∙ (plain-outside (Failed x) (Failed-plain x) frontier ∙ ok.base.rest.outside)) ∙ inside))

  -- REPLY FAULT
  pub failed-kept : (w : Waits sys t v) (x : ℕ) → FrontierOk sys t (gets (Failed x) v) (frontier_behind v (gets (Failed x) v) frontier)
  failed-kept w x =
      put v (gets (Failed x) v) frontier (answer-runs sys t v frontier ok (Failed x) w.unit w.start w.is_open w.runs (sent-none w) (by (waiting-at w)))
    where
      by : RunsFrom sys t w.unit.restarts frontier (path_in v) → RunsFrom sys t w.unit.restarts frontier (path_in v ++ Failed x ∷ [])
      by (transacts begins more whole here) =
          transacts begins (more ++ Failed x ∷ []) (ap (λ (p : List PathAnswer). p ++ Failed x ∷ []) whole ∙ append_assoc frontier (Begun w.unit.restarts ∷ more) (Failed x ∷ []))
          (plain-outside (Failed x) (Failed-plain x) (path_in v) ∙ here)
      by (sends c message asks is) = fails c x message asks (ap (λ (p : List PathAnswer). p ++ Failed x ∷ []) is)
      by (fails c y message asks is) =
          absurd (let faulty = ap (sys.ask t) is ∙ b.fails t c y message frontier ok.base.rest.is_path asks in let sent = w.asks in cc (faulty, sent))

  -- AGAIN
  pub again-kept : TermAt sys t v → Able sys t v → (class : ℕ) (message : List ℕ) → verb_in sys t v ≡ verb.Send class message → unit_number (path_in v) ≡ v.last.number
      → FrontierOk sys t (gets (Replied (kept_reply v.last)) v) (frontier_behind v (gets (Replied (kept_reply v.last)) v) frontier)
  again-kept term able class message asks number = by (where-of v.unit (ok.stands (rw able.paired tt) (ap is_takeover able.calm)))
    where
      next : List PathAnswer
      next = path_in v ++ Replied (kept_reply v.last) ∷ []

      not-there : path_in v ≡ frontier → ⊥
      not-there same = let here = ap unit_number same in let base = ok.base.number in absurd (omega (arith, here, base, number))

      only : (x : PathAnswer) → IsForced v.last (path_in v) (verb.Send class message) x → x ≡ Replied (kept_reply v.last)
      only (Replied reply) forced = ap (λ (r : List ℕ). Replied r) (sym (ap (λ (r : Option (List ℕ)). unwrap_or r []) forced.2))
      only x forced = absurd forced

      go : v.unit ≡ None → Next sys t v.last (path_in v) frontier → FrontierOk sys t (gets (Replied (kept_reply v.last)) v) (frontier_behind v (gets (Replied (kept_reply v.last)) v) frontier)
      go none (is_there same) = absurd (not-there same)
      go none (goes_on x forced leads) =
          put v (gets (Replied (kept_reply v.last)) v) frontier
          (answer-behind sys t v frontier ok (Replied (kept_reply v.last)) none
          (subst (λ (y : PathAnswer). Leads sys t v.last (path_in v ++ y ∷ []) frontier) (only x (subst (λ (y : Verb). IsForced v.last (path_in v) y x) asks forced)) leads))

      by : Where sys t v.last v.unit (path_in v) frontier → FrontierOk sys t (gets (Replied (kept_reply v.last)) v) (frontier_behind v (gets (Replied (kept_reply v.last)) v) frontier)
      by (closed none leads) = go none (next-of leads)
      by (waiting u is idle same) = absurd (not-there same)
      by (running u q is runs at) =
          let path = path.running v.unit (ap attempt_of is ∙ runs) (term.path_ok able.going_on (rw able.paired tt) (ap is_takeover able.calm)) in
          let next = path.number in
          absurd (omega (arith, next, number))
