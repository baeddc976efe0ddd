-- What each kind of entry keeps of its terminal, and of the others.
use Rattle.std.proofs.Common.{◌≡◌, ◌≢◌, ℕ, ◌<◌, inl, false, List, [], ◌∷◌, ◌++◌, Option, Some, None, sym, subst, ⊎_elim, ◌∙◌}
use Rattle.pw_code.specs.declared.verb.Verb.{Verb}
use Rattle.pw_code.specs.declared.verb.Verb.TheVariants as verb
use Rattle.pw_onecopy.proofs.Update.{upd_elim}
use Rattle.pw_onecopy.specs.Attempt.{BeginsUnit}
use Rattle.pw_onecopy.specs.Behaviour.{Behaviour}
use Rattle.pw_onecopy.specs.IsBehaviour.{Suits}
use Rattle.pw_onecopy.specs.Path.{PathAnswer, Shown, Entry, is_outside}
use Rattle.pw_paired.specs.State.{PairMode, BackupCopy, Message, Start, End, Copy, OpenUnit, State, Term}
use Rattle.pw_paired.specs.Terminal.{LegalShow, LegalKey, do_show, do_key, next_verb, path_of}
use Rattle.pw_paired.specs.Units.{give_answer}
use Rattle.pw_laws.proofs.Paths.{IsPlain, Shown-plain, Entry-plain, plain-number, plain-outside, IsPath-push}
use Rattle.pw_laws.proofs.terms.TermOk.{FlightOk, RunningPath, RestingPath, PathOf, PathOk, TermOk, TermsOk}

-- the parts of a terminal in a state
abbrev pub OkAt : Behaviour → State → ℕ → Type 0
OkAt sys s j = TermOk sys j (s.ended j).number (s.units j) (s.memory j) (s.flight j) (s.terms j) (s.modes (sys.pair_of j))

-- the verb is one at which a terminal neither begins a unit, nor sends, nor has a run fault
record IsOwn (sys : Behaviour) (t : ℕ) (path : List PathAnswer) : Type 0 where
  no_begin : ¬ BeginsUnit (sys.ask t path) path
  no_send : (c : ℕ) (message : List ℕ) → sys.ask t path ≢ verb.Send c message
  no_fault : (x : ℕ) → sys.ask t path ≢ verb.Fault x

-- a resting path gets a plain answer
resting-plain : (sys : Behaviour) (t low high : ℕ) (path : List PathAnswer) (answer : PathAnswer) → IsPlain answer
    → Suits sys t path (sys.ask t path) answer → RestingPath sys t low high path → RestingPath sys t low high (path ++ answer ∷ [])
resting-plain sys t low high path answer plain suits ok = record {
  rest = record { is_path = IsPath-push sys t path answer ok.rest.is_path suits; outside = plain-outside answer plain path ∙ ok.rest.outside };
  low_is = rw (plain-number answer plain path) ok.low_is;
  high_is = rw (plain-number answer plain path) ok.high_is;
}

-- a running attempt that neither sends nor has a run fault is in its transaction
inside : {sys : Behaviour} {t last : ℕ} {path : List PathAnswer} → RunningPath sys t last path
    → ((c : ℕ) (message : List ℕ) → sys.ask t path ≢ verb.Send c message) → ((x : ℕ) → sys.ask t path ≢ verb.Fault x)
    → is_outside path ≡ false
inside ok no_send no_fault =
    ⊎_elim (λ within. within)
    (λ other. ⊎_elim (λ sends. absurd (no_send sends.0 sends.1 sends.2)) (λ faults. absurd (no_fault faults.0 faults.1)) other)
    ok.within

-- a path gets a plain answer
path-plain : (sys : Behaviour) (t last : ℕ) (running : Option (List PathAnswer)) (path : List PathAnswer) (answer : PathAnswer) → IsPlain answer
    → Suits sys t path (sys.ask t path) answer → IsOwn sys t path
    → PathOf sys t last running path → PathOf sys t last running (path ++ answer ∷ [])
path-plain sys t last None path answer plain suits own ok = resting-plain sys t _ _ path answer plain suits ok
path-plain sys t last (Some start) path answer plain suits own ok = record {
  is_path = IsPath-push sys t path answer ok.is_path suits;
  number = plain-number answer plain path ∙ ok.number;
  within = inl (plain-outside answer plain path ∙ inside ok own.no_send own.no_fault);
}

path_ok-plain : (sys : Behaviour) (t last : ℕ) (unit : Option OpenUnit) (path : List PathAnswer) (answer : PathAnswer) → IsPlain answer
    → Suits sys t path (sys.ask t path) answer → IsOwn sys t path
    → PathOk sys t last unit path → PathOk sys t last unit (path ++ answer ∷ [])
path_ok-plain sys t last None path answer plain suits own ok = resting-plain sys t _ _ path answer plain suits ok
path_ok-plain sys t last (Some unit) path answer plain suits own ok = path-plain sys t last unit.running path answer plain suits own ok

-- a message in flight stays as it should be where the path moves, unless it is a START
flight-moved : (sys : Behaviour) (t last : ℕ) (unit : Option OpenUnit) (memory : Option BackupCopy) (path other : List PathAnswer) (message : Message)
    → (¬ BeginsUnit (sys.ask t path) path) → FlightOk sys t last unit memory path message → FlightOk sys t last unit memory other message
flight-moved sys t last unit memory path other (Start n p) no_begin ok =
    absurd (no_begin (subst (λ (q : List PathAnswer). BeginsUnit (sys.ask t q) q) (sym ok.2) ok.3))
flight-moved sys t last unit memory path other (Copy n p) no_begin ok = ok
flight-moved sys t last unit memory path other (End p) no_begin ok = ok

-- the path of a terminal at its own verb gets a plain answer
term-plain : {sys : Behaviour} {t last : ℕ} {unit : Option OpenUnit} {memory : Option BackupCopy} {flight : Option Message} {term : Term} {mode : PairMode} (answer : PathAnswer)
    → IsPlain answer → Suits sys t term.path (sys.ask t term.path) answer → IsOwn sys t term.path
    → TermOk sys t last unit memory flight term mode
    → TermOk sys t last unit memory flight (record term { path = term.path ++ answer ∷ [] }) mode
term-plain {sys = sys} {t = t} {last = last} {unit = unit} {memory = memory} {term = term} answer plain suits own ok = record {
  unit_ok = ok.unit_ok;
  memory_ok = ok.memory_ok;
  memory_unit = ok.memory_unit;
  flight_ok = λ message is. flight-moved sys t last unit memory term.path _ message own.no_begin (ok.flight_ok message is);
  quiet = ok.quiet;
  lost = ok.lost;
  has_memory = ok.has_memory;
  calm = ok.calm;
  path_ok = λ live works untaken. path_ok-plain sys t last unit term.path answer plain suits own (ok.path_ok live works untaken);
}

-- a verb is no other one
own-show : {sys : Behaviour} {t : ℕ} {path : List PathAnswer} → sys.ask t path ≡ verb.Show → IsOwn sys t path
own-show {sys = sys} {t = t} {path = path} asks = record {
  no_begin = λ begins. subst (λ (v : Verb). BeginsUnit v path) asks begins;
  no_send = λ c message sends. absurd (cc (asks, sends));
  no_fault = λ x faults. absurd (cc (asks, faults));
}

own-accept : {sys : Behaviour} {t screen : ℕ} {path : List PathAnswer} → sys.ask t path ≡ verb.Accept screen → IsOwn sys t path
own-accept {sys = sys} {t = t} {path = path} asks = record {
  no_begin = λ begins. subst (λ (v : Verb). BeginsUnit v path) asks begins;
  no_send = λ c message sends. absurd (cc (asks, sends));
  no_fault = λ x faults. absurd (cc (asks, faults));
}

module _ (sys : Behaviour) (s : State) (ok : TermsOk sys s) where
  -- a terminal's path gets a plain answer
  answered-plain : (t : ℕ) (answer : PathAnswer) → t < sys.terminals → IsPlain answer
      → Suits sys t (path_of s t) (next_verb sys s t) answer → IsOwn sys t (path_of s t)
      → TermsOk sys (give_answer t answer s)
  answered-plain t answer known plain suits own j j_known =
      upd_elim s.terms t _ j
      (λ (x : Term). TermOk sys j (s.ended j).number (s.units j) (s.memory j) (s.flight j) x (s.modes (sys.pair_of j)))
      (λ is. rw is (term-plain answer plain suits own (ok t known)))
      (λ _. ok j j_known)

  -- SHOW keeps what holds of terminals
  pub keeps_show : (t phase attempt k : ℕ) → LegalShow sys s t phase attempt k → TermsOk sys (do_show t s)
  keeps_show t phase attempt k l = answered-plain t Shown l.can.live.known Shown-plain (rw l.asks tt) (own-show l.asks)

  -- KEY keeps what holds of terminals
  pub keeps_key : (t k : ℕ) → LegalKey sys s t k → TermsOk sys (do_key t k s)
  keeps_key t k l = answered-plain t (Entry k) l.can.live.known (Entry-plain k) (rw l.asks (l.next, l.exists)) (own-accept l.asks)
