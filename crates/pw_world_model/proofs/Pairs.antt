-- What an entry changes of what a pair knows of its terminals.
use Rattle.std.proofs.Common.{◌≡◌, ℕ, ◌==◌, ◌&&◌, List, Option, Some, None, Bool, true, false, is_some, refl, sym, ap, ap₂, subst, ◌∙◌}
use Rattle.std.specs.Prelude.{if◌then◌else◌}
use Rattle.std.proofs.Math.Path.{fun_ext}
use Rattle.std.proofs.lemmas.Bool.{eq-eqb, eqb-true, and_parts}
use Rattle.pw_pair.proofs.Calling.{start-ending}
use Rattle.pw_class.specs.Queue.{works_for}
use Rattle.pw_event.specs.declared.event.Ending.{Ending}
use Rattle.pw_event.specs.declared.event.Event.{Event}
use Rattle.pw_event.specs.declared.event.Event.TheVariants.{Show, Key, CheckStart, CheckEnd, CheckCopy, Applied, Begin, Send, Take, File, Reply, Again, Commit, Back, Restart, FailTcp, FailServer, Takeover, Raise, End}
use Rattle.pw_world_model.specs.Stamps.{ActorState, PairTerminal, OfPair, member_of, state_in}
use Rattle.pw_world_model.proofs.Endings.{ends-there}
use Rattle.pw_world_model.proofs.Unlike.{SameAt, at_terminal, rest}
use Rattle.pw_onecopy.specs.Behaviour.{Behaviour}
use Rattle.pw_onecopy.specs.IsBehaviour.{IsBehaviour}
use Rattle.pw_onecopy.specs.Path.{Failed, PathAnswer, Replied, unit_number}
use Rattle.pw_onecopy.specs.Update.{upd}
use Rattle.pw_onecopy.proofs.Update.{upd-same}
use Rattle.pw_paired.specs.Failure.{process_fails, with_start_path}
use Rattle.pw_paired.specs.Raising.{is_takeover}
use Rattle.pw_paired.specs.State.{Job, Message, State, Term}
use Rattle.pw_paired.specs.Step.{Legal, change}
use Rattle.pw_paired.specs.Server.{free_process}
use Rattle.pw_paired.specs.Terminal.{path_of}
use Rattle.pw_paired.specs.Units.{attempt_of, commit_unit, give_answer, request_in}
use Rattle.pw_actor_queue.specs.declared.actor.Actor.TheVariants.{Pair}
use Rattle.pw_laws.proofs.induction.Served.{reply-any}
use Rattle.pw_laws.proofs.kept.Failing.{out-job}
use Rattle.pw_laws.proofs.kept.Kept.{Inv}

-- the entry changes what the pair knows of one of its terminals
abbrev pub at_pair : Behaviour → State → ℕ → Event → Bool
at_pair sys s p (CheckStart t) = sys.pair_of t == p
at_pair sys s p (CheckEnd t) = sys.pair_of t == p
at_pair sys s p (CheckCopy t) = sys.pair_of t == p
at_pair sys s p (Applied t) = sys.pair_of t == p
at_pair sys s p (Restart t n cause) = sys.pair_of t == p && is_takeover (s.terms t).pending
at_pair sys s p (End t ending) = sys.pair_of t == p
at_pair sys s p _ = false

abbrev member_in : ℕ → ActorState → Option PairTerminal
member_in t (OfPair mode members) = members t
member_in t _ = None

abbrev flies_in : Option PairTerminal → Option Message
flies_in None = None
flies_in (Some m) = m.flight

abbrev taken_in : Option PairTerminal → Bool
taken_in None = false
taken_in (Some m) = m.taken_over

abbrev ended_in : Option PairTerminal → Bool
ended_in None = false
ended_in (Some m) = m.ended

if-yes : {A : Type 0} (b : Bool) (x y : A) → b ≡ true → (if b then x else y) ≡ x
if-yes true x y e = refl
if-yes false x y e = absurd (cc e)

module _ (sys : Behaviour) (s x : State) (p t : ℕ) (mine : (sys.pair_of t == p) ≡ true) (is : state_in sys s (Pair p) ≡ state_in sys x (Pair p)) where
  -- what the pair knows of one of its terminals is the same
  known : Some (member_of s t) ≡ Some (member_of x t)
  known =
      sym (if-yes (sys.pair_of t == p) (Some (member_of s t)) None mine)
      ∙ (ap (member_in t) is ∙ if-yes (sys.pair_of t == p) (Some (member_of x t)) None mine)

  flight-same : s.flight t ≡ x.flight t
  flight-same = ap flies_in known

  taken-same : is_takeover (s.terms t).pending ≡ is_takeover (x.terms t).pending
  taken-same = ap taken_in known

  ended-same : is_some (s.terms t).ending ≡ is_some (x.terms t).ending
  ended-same = ap ended_in known

calm-path : (o : Option (List PathAnswer)) (term : Term) → (with_start_path o term).pending ≡ None
calm-path None term = refl
calm-path (Some start) term = refl

module _ (sys : Behaviour) (b : IsBehaviour sys) (s : State) (i : Inv sys s) (p : ℕ) where
  -- a message of the terminal is in flight now
  sent : (t : ℕ) (message : Message) → (sys.pair_of t == p) ≡ true → s.flight t ≡ None → s.flight t ≡ upd s.flight t (Some message) t → ⊥
  sent t message mine free same = let there : upd s.flight t (Some message) t ≡ Some message = upd-same s.flight t (Some message) t refl in absurd (cc (free, same, there))

  -- the entry changes it
  pub pair-differs : (entry : Event) → Legal sys s entry → ((t : ℕ) (ending : Ending) → entry ≡ End t ending → (s.terms t).ending ≡ None) → at_pair sys s p entry ≡ true
      → state_in sys s (Pair p) ≡ state_in sys (change sys s entry) (Pair p) → ⊥
  pair-differs (CheckStart t) l live e is = sent t _ e l.fits.free (flight-same sys s (change sys s (CheckStart t)) p t e is)
  pair-differs (CheckEnd t) l live e is = sent t _ e l.fits.free (flight-same sys s (change sys s (CheckEnd t)) p t e is)
  pair-differs (CheckCopy t) l live e is = sent t _ e l.fits.free (flight-same sys s (change sys s (CheckCopy t)) p t e is)
  pair-differs (Applied t) l live e is =
      let flies = l.fits.flies in
      let same = flight-same sys s (change sys s (Applied t)) p t e is in
      let gone : (change sys s (Applied t)).flight t ≡ None = upd-same s.flight t None t refl in
      absurd (cc (flies, same, gone))
  pair-differs (Restart t n cause) l live e is =
      let both = and_parts (sys.pair_of t == p) (is_takeover (s.terms t).pending) e in
      let same = taken-same sys s (change sys s (Restart t n cause)) p t both.0 is in
      let calm : is_takeover ((change sys s (Restart t n cause)).terms t).pending ≡ false = ap (λ (y : Term). is_takeover y.pending) (upd-same s.terms t _ t refl) ∙ ap is_takeover (calm-path (attempt_of (s.units t)) (s.terms t)) in
      let pends = both.1 in
      absurd (cc (pends, same, calm))
  pair-differs (End t ending) l live e is =
      let same = ended-same sys s (change sys s (End t ending)) p t e is in
      let none : is_some (s.terms t).ending ≡ false = ap is_some (live t ending refl) in
      let there : is_some ((change sys s (End t ending)).terms t).ending ≡ true = ap is_some (ends-there sys s t ending) in
      absurd (cc (none, there, same))
  pair-differs (Show t phase attempt k) l live e is = absurd (cc e)
  pair-differs (Key t k) l live e is = absurd (cc e)
  pair-differs (Begin t n r) l live e is = absurd (cc e)
  pair-differs (Send t n c) l live e is = absurd (cc e)
  pair-differs (Take c q t) l live e is = absurd (cc e)
  pair-differs (File c q op mode f status) l live e is = absurd (cc e)
  pair-differs (Reply c q t fault) l live e is = absurd (cc e)
  pair-differs (Again t n) l live e is = absurd (cc e)
  pair-differs (Commit t n) l live e is = absurd (cc e)
  pair-differs (Back t n) l live e is = absurd (cc e)
  pair-differs (FailTcp q primary k) l live e is = absurd (cc e)
  pair-differs (FailServer c q k) l live e is = absurd (cc e)
  pair-differs (Takeover q) l live e is = absurd (cc e)
  pair-differs (Raise q) l live e is = absurd (cc e)

  -- ---- it leaves it

  -- as the pair knows it the terminal stays
  abbrev Stays : State → ℕ → Type 0
  Stays x t = member_of x t ≡ member_of s t

  by-parts : (x : State) (t : ℕ) → (x.terms t).ending ≡ (s.terms t).ending → is_takeover (x.terms t).pending ≡ is_takeover (s.terms t).pending → x.memory t ≡ s.memory t → x.flight t ≡ s.flight t → Stays x t
  by-parts x t ending pending memory flight = let ended : is_some (x.terms t).ending ≡ is_some (s.terms t).ending = ap is_some ending in cc (ended, pending, memory, flight)

  from-same : (x : State) (t : ℕ) → SameAt s x t → Stays x t
  from-same x t same = by-parts x t (ap (λ (y : Term). y.ending) same.terms) (ap (λ (y : Term). is_takeover y.pending) same.terms) same.memory same.flight

  -- the path alone changes
  moved : (x : State) (t : ℕ) (path : List PathAnswer) → x.terms ≡ upd s.terms t (record (s.terms t) { path = path }) → x.memory ≡ s.memory → x.flight ≡ s.flight → Stays x t
  moved x t path terms memory flight =
      let at : x.terms t ≡ record (s.terms t) { path = path } = ap (λ f. f t) terms ∙ upd-same s.terms t _ t refl in
      by-parts x t (ap (λ (y : Term). y.ending) at) (ap (λ (y : Term). is_takeover y.pending) at) (ap (λ f. f t) memory) (ap (λ f. f t) flight)

  not-mine : (t own : ℕ) → (own == t) ≡ true → sys.pair_of t ≡ p → (sys.pair_of own == p) ≡ false → ⊥
  not-mine t own e of none = let yes : (sys.pair_of own == p) ≡ true = eq-eqb (sys.pair_of own) p (ap sys.pair_of (eqb-true own t e) ∙ of) in absurd (cc (none, yes))

  -- from the terminal of the entry to the one that is looked at
  to : (x : State) (own t : ℕ) → (own == t) ≡ true → Stays x own → Stays x t
  to x own t e stays = subst (Stays x) (eqb-true own t e) stays

  own-stays : (entry : Event) → Legal sys s entry → at_pair sys s p entry ≡ false → (t : ℕ) → sys.pair_of t ≡ p → at_terminal s t entry ≡ true → Stays (change sys s entry) t
  own-stays (Show own phase attempt k) l none t of e = to (change sys s (Show own phase attempt k)) own t e (moved (change sys s (Show own phase attempt k)) own _ refl refl refl)
  own-stays (Key own k) l none t of e = to (change sys s (Key own k)) own t e (moved (change sys s (Key own k)) own _ refl refl refl)
  own-stays (CheckStart own) l none t of e = absurd (not-mine t own e of none)
  own-stays (CheckEnd own) l none t of e = absurd (not-mine t own e of none)
  own-stays (CheckCopy own) l none t of e = absurd (not-mine t own e of none)
  own-stays (Applied own) l none t of e = absurd (not-mine t own e of none)
  own-stays (Begin own n r) l none t of e = to (change sys s (Begin own n r)) own t e (moved (change sys s (Begin own n r)) own _ refl refl refl)
  own-stays (Send own n c) l none t of e = refl
  own-stays (Reply c q own fault) l none t of e = to (change sys s (Reply c q own fault)) own t e
      (reply-any sys s c q own (λ x. Stays x own) fault (λ reply outside. moved (give_answer own (Replied reply) (commit_unit own (unit_number (path_of s own)) (Some reply) (free_process c q s))) own _ refl refl refl)
      (λ reply inside. moved (give_answer own (Replied reply) (free_process c q s)) own _ refl refl refl) (λ x. moved (give_answer own (Failed x) (free_process c q s)) own _ refl refl refl))
  own-stays (Again own n) l none t of e = to (change sys s (Again own n)) own t e (moved (change sys s (Again own n)) own _ refl refl refl)
  own-stays (Commit own n) l none t of e = to (change sys s (Commit own n)) own t e (moved (change sys s (Commit own n)) own _ refl refl refl)
  own-stays (Back own n) l none t of e = to (change sys s (Back own n)) own t e (moved (change sys s (Back own n)) own _ refl refl refl)
  own-stays (Restart own n cause) l none t of e =
      let same : own ≡ t = eqb-true own t e in
      let mine : (sys.pair_of own == p) ≡ true = eq-eqb (sys.pair_of own) p (ap sys.pair_of same ∙ of) in
      let quiet : is_takeover (s.terms own).pending ≡ false = sym (ap (λ a. a && is_takeover (s.terms own).pending) mine) ∙ none in
      let at : (change sys s (Restart own n cause)).terms own ≡ with_start_path (attempt_of (s.units own)) (s.terms own) = upd-same s.terms own _ own refl in
      to (change sys s (Restart own n cause)) own t e
      (by-parts (change sys s (Restart own n cause)) own
      (ap (λ (y : Term). y.ending) at ∙ start-ending (attempt_of (s.units own)) (s.terms own))
      (ap (λ (y : Term). is_takeover y.pending) at ∙ (ap is_takeover (calm-path (attempt_of (s.units own)) (s.terms own)) ∙ sym quiet)) refl refl)
  own-stays (FailServer c q k) l none t of e = by ((s.classes c).busy q) refl e
    where
      by : (o : Option Job) → (s.classes c).busy q ≡ o → works_for t (request_in o) ≡ true → Stays (process_fails c q k o s) t
      by None idle none = absurd (cc none)
      by (Some job) works mine =
          let whose : job.request.terminal ≡ t = eqb-true job.request.terminal t mine in
          let calm : (s.terms t).pending ≡ None = subst (λ v. (s.terms v).pending ≡ None) whose (out-job sys b s i c q job works).calm in
          let at = upd-same s.terms job.request.terminal _ t (sym whose) in
          by-parts (process_fails c q k (Some job) s) t (ap (λ (y : Term). y.ending) at ∙ ap (λ v. (s.terms v).ending) whose)
          (ap (λ (y : Term). is_takeover y.pending) at ∙ sym (ap is_takeover calm)) refl refl
  own-stays (End own ending) l none t of e = absurd (not-mine t own e of none)
  own-stays (Take c q own) l none t of e = absurd (cc e)
  own-stays (File c q op mode f status) l none t of e = absurd (cc e)
  own-stays (FailTcp q primary k) l none t of e = absurd (cc e)
  own-stays (Takeover q) l none t of e = absurd (cc e)
  own-stays (Raise q) l none t of e = absurd (cc e)

  stays : (entry : Event) → Legal sys s entry → at_pair sys s p entry ≡ false → (change sys s entry).modes p ≡ s.modes p → (t : ℕ) → sys.pair_of t ≡ p → Stays (change sys s entry) t
  stays entry l none m t of = by (at_terminal s t entry) refl
    where
      by : (a : Bool) → at_terminal s t entry ≡ a → Stays (change sys s entry) t
      by true e = own-stays entry l none t of e
      by false e = from-same (change sys s entry) t (rest sys s t entry l e (subst (λ q. (change sys s entry).modes q ≡ s.modes q) (sym of) m))

  pub pair-stays : (entry : Event) → Legal sys s entry → at_pair sys s p entry ≡ false → (change sys s entry).modes p ≡ s.modes p
      → state_in sys s (Pair p) ≡ state_in sys (change sys s entry) (Pair p)
  pair-stays entry l none m = ap₂ OfPair (sym m) (fun_ext (λ t. each t (sys.pair_of t == p) refl))
    where
      each : (t : ℕ) (mine : Bool) → (sys.pair_of t == p) ≡ mine → (if mine then Some (member_of s t) else None) ≡ (if mine then Some (member_of (change sys s entry) t) else None)
      each t true e = ap Some (sym (stays entry l none m t (eqb-true (sys.pair_of t) p e)))
      each t false e = refl
