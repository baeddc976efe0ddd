-- What the entries of units keep: BEGIN, AGAIN, COMMIT, BACK and REPLY.
use Rattle.std.proofs.Common.{◌≡◌, ℕ, ◌+◌, inl, inr, ⊎_elim, false, List, [], ◌∷◌, ◌++◌, is_none, Option, Some, None, refl, ap, sym, subst, ◌∙◌, arith}
use Rattle.std.proofs.lemmas.Bool.{cases_eq}
use Rattle.pw_code.specs.declared.verb.Verb.{Verb}
use Rattle.pw_code.specs.declared.verb.Verb.TheVariants as verb
use Rattle.pw_onecopy.proofs.Update.{upd_elim, upd-same, upd-other}
use Rattle.pw_onecopy.specs.Attempt.{BeginsUnit}
use Rattle.pw_onecopy.specs.Behaviour.{Behaviour}
use Rattle.pw_onecopy.specs.IsBehaviour.{IsBehaviour, IsPath, Suits}
use Rattle.pw_onecopy.specs.Path.{PathAnswer, Begun, Replied, Standing, is_outside, unit_number, Dropped, Ended}
use Rattle.pw_onecopy.specs.Update.{upd}
use Rattle.pw_paired.specs.State.{PairMode, LastEnded, BackupCopy, Message, Start, End, Copy, OpenUnit, State, Term}
use Rattle.pw_paired.specs.Terminal.{CanStep, HoldsStart, LegalBegin, LegalAgain, LegalCommit, LegalBack, unit_with_attempt, begun_path, do_begin, do_again, do_commit, do_back, kept_reply, next_verb, path_of}
use Rattle.pw_paired.specs.Units.{attempt_of}
use Rattle.pw_laws.proofs.Paths.{IsClosing, Ended-closing, Dropped-closing, closing-number, closing-outside, Begun-number, Begun-inside, reply-outside, IsPath-push}
use Rattle.pw_laws.proofs.terms.KeepsChecks.{can_path, path_ok-is, resting, upper, within}
use Rattle.pw_laws.proofs.terms.TermOk.{IsRest, UnitOk, FlightOk, HasMessages, RunningPath, PathOf, PathOk, TermOk, TermsOk, TermOk-same}

-- A running unit ends: its number is the last ended one now, and the path stands behind it.
pub term-ends : {sys : Behaviour} {t last : ℕ} {unit : Option OpenUnit} {memory : Option BackupCopy} {flight : Option Message} {term : Term} {mode : PairMode}
    (open_unit : OpenUnit) (start path : List PathAnswer) → unit ≡ Some open_unit → open_unit.running ≡ Some start
    → IsRest sys t path → unit_number path ≡ last + 1 + 1
    → TermOk sys t last unit memory flight term mode
    → TermOk sys t (last + 1) None memory flight (record term { path = path }) mode
term-ends {sys = sys} {t = t} {last = last} {unit = unit} {memory = memory} {flight = flight} {term = term} open_unit start path is_open runs rest number ok = record {
  unit_ok = λ u e. absurd (cc e);
  memory_ok = λ held is.
      let m = ok.memory_ok held is in
      let same = ok.memory_unit held open_unit is is_open in
      let next = (ok.unit_ok open_unit is_open).number in
      record { start = m.start; number = m.number; low = omega (arith, same, next); high = omega (arith, same, next); end = m.end };
  memory_unit = λ held u is e. absurd (cc e);
  flight_ok = λ message is. flies message (ok.flight_ok message is);
  quiet = ok.quiet;
  lost = λ lost. refl;
  has_memory = ok.has_memory;
  calm = ok.calm;
  path_ok = λ live works untaken. record { rest = rest; low_is = omega (arith, number); high_is = omega (arith, number) };
}
  where
    flies : (message : Message) → FlightOk sys t last unit memory term.path message → FlightOk sys t (last + 1) None memory path message
    flies (Start n p) f = let idle : attempt_of unit ≡ None = f.1 in absurd (cc (idle, ap attempt_of is_open, runs))
    flies (Copy n p) f =
        let next = (ok.unit_ok open_unit is_open).number in
        let same : n ≡ open_unit.number = f.2 open_unit is_open in
        ((f.0.0, f.0.1, omega (arith, next, same), omega (arith, next, same)), f.1, λ u e. absurd (cc e))
    flies (End p) f = f

-- the unit that was one SEND is answered again
pub term-again : {sys : Behaviour} {t last : ℕ} {unit : Option OpenUnit} {memory : Option BackupCopy} {flight : Option Message} {term : Term} {mode : PairMode}
    (path : List PathAnswer) → unit_number term.path ≡ last → IsRest sys t path → unit_number path ≡ last + 1
    → PathOk sys t last unit term.path
    → TermOk sys t last unit memory flight term mode
    → TermOk sys t last unit memory flight (record term { path = path }) mode
term-again {sys = sys} {t = t} {last = last} {unit = unit} {memory = memory} {flight = flight} {term = term} path behind rest number here ok = record {
  unit_ok = ok.unit_ok;
  memory_ok = ok.memory_ok;
  memory_unit = ok.memory_unit;
  flight_ok = λ message is. flies message (ok.flight_ok message is);
  quiet = ok.quiet;
  lost = ok.lost;
  has_memory = ok.has_memory;
  calm = ok.calm;
  path_ok = λ live works untaken. moves unit here;
}
  where
    flies : (message : Message) → FlightOk sys t last unit memory term.path message → FlightOk sys t last unit memory path message
    flies (Start n p) f =
        let same : unit_number term.path ≡ unit_number p = ap unit_number f.2 in
        let is = f.0.1 in
        let next = f.0.2 in
        absurd (omega (arith, behind, same, is, next))
    flies (Copy n p) f = f
    flies (End p) f = f

    moves-open : (u : OpenUnit) (r : Option (List PathAnswer)) → u.running ≡ r → PathOf sys t last r term.path → PathOf sys t last r path
    moves-open u None is p = let low = p.low_is in absurd (omega (arith, low, behind))
    moves-open u (Some start) is p = let next = p.number in absurd (omega (arith, next, behind))

    moves : (unit : Option OpenUnit) → PathOk sys t last unit term.path → PathOk sys t last unit path
    moves None p = record { rest = rest; low_is = omega (arith, number); high_is = omega (arith, number) }
    moves (Some u) p = moves-open u u.running refl p

-- an attempt begins
pub term-begins : {sys : Behaviour} {t last : ℕ} {unit : Option OpenUnit} {memory : Option BackupCopy} {flight : Option Message} {term : Term} {mode : PairMode}
    (open_unit : OpenUnit) (path : List PathAnswer)
    → open_unit.running ≡ Some term.path → open_unit.number ≡ last + 1
    → IsRest sys t term.path → unit_number term.path ≡ last + 1
    → HoldsStart memory (unit_number term.path) term.path → HasMessages mode
    → RunningPath sys t last path
    → TermOk sys t last unit memory flight term mode
    → TermOk sys t last (Some open_unit) memory flight (record term { path = path }) mode
term-begins {sys = sys} {t = t} {last = last} {unit = unit} {memory = memory} {flight = flight} {term = term} open_unit path runs next rest number held has here ok = record {
  unit_ok = λ u is. let same : open_unit ≡ u = cc in subst (λ (x : OpenUnit). UnitOk sys t last x) same
      (record { number = next; start = λ p is_start. let one : term.path ≡ p = cc in subst (λ (q : List PathAnswer). IsRest sys t q × (unit_number q ≡ last + 1)) one (rest, number) });
  memory_ok = ok.memory_ok;
  memory_unit = λ m u is is_open.
      let one : held.held ≡ m = cc (held.is_held, is) in
      let same : open_unit ≡ u = cc in
      ap (λ (x : BackupCopy). x.unit) (sym one) ∙ (held.number_is ∙ (number ∙ (sym next ∙ ap (λ (x : OpenUnit). x.number) same)));
  flight_ok = λ message is. flies message (ok.flight_ok message is);
  quiet = ok.quiet;
  lost = λ lost. absurd (subst HasMessages lost has);
  has_memory = ok.has_memory;
  calm = ok.calm;
  path_ok = λ live works untaken. subst (λ (r : Option (List PathAnswer)). PathOf sys t last r path) (sym runs) here;
}
  where
    flies : (message : Message) → FlightOk sys t last unit memory term.path message → FlightOk sys t last (Some open_unit) memory path message
    flies (Start n p) f = absurd (f.4 (subst (λ (q : List PathAnswer). HoldsStart memory n q) f.2
        (subst (λ (m : ℕ). HoldsStart memory m term.path) (number ∙ sym f.0.2) held)))
    flies (Copy n p) f = absurd (cc (f.1, held.is_held))
    flies (End p) f = f

-- a terminal's parts, where its path and its units change
pub OkAt-changed : (sys : Behaviour) (s : State) (j t : ℕ) (ended : LastEnded) (unit : Option OpenUnit) (term : Term) → (j ≡ t → TermOk sys t ended.number unit (s.memory t) (s.flight t) term (s.modes (sys.pair_of t)))
    → TermOk sys j (s.ended j).number (s.units j) (s.memory j) (s.flight j) (s.terms j) (s.modes (sys.pair_of j))
    → TermOk sys j (upd s.ended t ended j).number (upd s.units t unit j) (s.memory j) (s.flight j) (upd s.terms t term j) (s.modes (sys.pair_of j))
OkAt-changed sys s j t ended unit term own other =
    ⊎_elim
    (λ same. TermOk-same (ap (λ (x : LastEnded). x.number) (upd-same s.ended t ended j same)) (upd-same s.units t unit j same) refl refl (upd-same s.terms t term j same) refl (rw same (own same)))
    (λ differ. TermOk-same (ap (λ (x : LastEnded). x.number) (upd-other s.ended t ended j differ)) (upd-other s.units t unit j differ) refl refl (upd-other s.terms t term j differ) refl other)
    (cases_eq j t)

-- an entry of one terminal changes its unit and itself alone
pub OkAt-units : (sys : Behaviour) (s : State) (j t : ℕ) (unit : Option OpenUnit) (term : Term) → (j ≡ t → TermOk sys t (s.ended t).number unit (s.memory t) (s.flight t) term (s.modes (sys.pair_of t)))
    → TermOk sys j (s.ended j).number (s.units j) (s.memory j) (s.flight j) (s.terms j) (s.modes (sys.pair_of j))
    → TermOk sys j (s.ended j).number (upd s.units t unit j) (s.memory j) (s.flight j) (upd s.terms t term j) (s.modes (sys.pair_of j))
OkAt-units sys s j t unit term own other =
    ⊎_elim
    (λ same. TermOk-same refl (upd-same s.units t unit j same) refl refl (upd-same s.terms t term j same) refl (rw same (own same)))
    (λ differ. TermOk-same refl (upd-other s.units t unit j differ) refl refl (upd-other s.terms t term j differ) refl other)
    (cases_eq j t)

-- the path behind a beginning is that of a running attempt
begun-running : (sys : Behaviour) → IsBehaviour sys → (t last r : ℕ) (path : List PathAnswer) (v : Verb) → sys.ask t path ≡ v → BeginsUnit v path
    → IsPath sys t path → unit_number path ≡ last + 1 → RunningPath sys t last (begun_path r v path)
begun-running sys b t last r path verb.Begin asks begins is_path number = record {
  is_path = IsPath-push sys t path (Begun r) is_path (rw asks tt);
  number = Begun-number r path ∙ number;
  within = inl (Begun-inside r path);
}
begun-running sys b t last r path (verb.Send c message) asks begins is_path number =
    record { is_path = is_path; number = number; within = inr (inl (c, message, asks)) }
begun-running sys b t last r path verb.Show asks begins is_path number = absurd begins
begun-running sys b t last r path (verb.Accept screen) asks begins is_path number = absurd begins
begun-running sys b t last r path verb.End asks begins is_path number = absurd begins
begun-running sys b t last r path verb.Drop asks begins is_path number = absurd begins
begun-running sys b t last r path verb.Redo asks begins is_path number = absurd begins
begun-running sys b t last r path verb.Stop asks begins is_path number = absurd begins
begun-running sys b t last r path (verb.Fault x) asks begins is_path number = absurd begins
begun-running sys b t last r path (verb.File call) asks begins is_path number = absurd begins
begun-running sys b t last r path (verb.Reply reply) asks begins is_path number = absurd begins

-- the unit that begins is the next one, and runs from this path
begun-unit : (last n births : ℕ) (path : List PathAnswer) (unit : Option OpenUnit) → n ≡ last + 1 → ((u : OpenUnit) → unit ≡ Some u → u.number ≡ last + 1)
    → ((unit_with_attempt n births path unit).number ≡ last + 1) × ((unit_with_attempt n births path unit).running ≡ Some path)
begun-unit last n births path None is numbers = (is, refl)
begun-unit last n births path (Some u) is numbers = (numbers u refl, refl)

module _ (sys : Behaviour) (b : IsBehaviour sys) (s : State) (ok : TermsOk sys s) where
  -- BEGIN keeps what holds of terminals
  pub keeps_begin : (t n r : ℕ) → LegalBegin sys s t n r → TermsOk sys (do_begin sys t n r s)
  keeps_begin t n r l j j_known =
      let path = can_path sys b s ok t l.can in
      let rest = resting (s.units t) l.idle path in
      let number : unit_number (path_of s t) ≡ (s.ended t).number + 1 =
      upper _ _ rest.low_is rest.high_is (λ same. l.new (same ∙ sym l.number)) in
      let unit = begun-unit (s.ended t).number n s.births (path_of s t) (s.units t) (l.number ∙ number) (λ u is. ((ok t l.can.live.known).unit_ok u is).number) in
      OkAt-units sys s j t _ _
      (λ _. term-begins _ _ unit.1 unit.0 rest.rest number l.held (rw l.can.paired tt)
      (begun-running sys b t _ r (path_of s t) (next_verb sys s t) refl l.begins rest.rest.is_path number)
      (ok t l.can.live.known))
      (ok j j_known)

  -- AGAIN keeps what holds of terminals
  pub keeps_again : (t n : ℕ) → LegalAgain sys s t n → TermsOk sys (do_again t s)
  keeps_again t n l j j_known =
      let path = can_path sys b s ok t l.can in
      let reply : List ℕ = kept_reply (s.ended t) in
      let suits : Suits sys t (path_of s t) (next_verb sys s t) (Replied reply) = rw l.asks tt in
      let behind : unit_number (path_of s t) ≡ (s.ended t).number = sym l.number ∙ sym l.last in
      let stands = reply-outside reply (path_of s t) l.outside in
      upd_elim s.terms t _ j
      (λ (x : Term). TermOk sys j (s.ended j).number (s.units j) (s.memory j) (s.flight j) x (s.modes (sys.pair_of j)))
      (λ is. rw is (term-again _ behind
      (record { is_path = IsPath-push sys t (path_of s t) (Replied reply) (path_ok-is _ (s.units t) path) suits; outside = ap (λ (at : Standing). is_none at.within) stands })
      (ap (λ (at : Standing). at.ended + 1) stands ∙ ap (λ (m : ℕ). m + 1) behind)
      path (ok t l.can.live.known)))
      (λ _. ok j j_known)

  -- a transaction ends at its verb
  closes-unit : (t n : ℕ) (a : PathAnswer) → CanStep sys s t → n ≡ unit_number (path_of s t) → is_outside (path_of s t) ≡ false → IsClosing a
      → Suits sys t (path_of s t) (next_verb sys s t) a
      → TermOk sys t n None (s.memory t) (s.flight t) (record (s.terms t) { path = path_of s t ++ a ∷ [] }) (s.modes (sys.pair_of t))
  closes-unit t n a can number inside closing suits =
      let here = within (s.units t) inside (can_path sys b s ok t can) in
      let is : n ≡ (s.ended t).number + 1 = number ∙ here.path_is.number in
      TermOk-same is refl refl refl refl refl
      (term-ends here.open_unit here.start _ here.is_open here.runs
      (record { is_path = IsPath-push sys t (path_of s t) a here.path_is.is_path suits; outside = closing-outside a closing (path_of s t) })
      (closing-number a closing (path_of s t) ∙ ap (λ (m : ℕ). m + 1) here.path_is.number)
      (ok t can.live.known))

  -- COMMIT keeps what holds of terminals
  pub keeps_commit : (t n : ℕ) → LegalCommit sys s t n → TermsOk sys (do_commit t n s)
  keeps_commit t n l j j_known =
      let is_path = path_ok-is _ (s.units t) (can_path sys b s ok t l.can) in
      OkAt-changed sys s j t _ _ _
      (λ _. closes-unit t n Ended l.can l.number (b.ends t (path_of s t) is_path l.asks) Ended-closing (rw l.asks tt))
      (ok j j_known)

  -- BACK keeps what holds of terminals
  pub keeps_back : (t n : ℕ) → LegalBack sys s t n → TermsOk sys (do_back sys t n s)
  keeps_back t n l j j_known =
      let is_path = path_ok-is _ (s.units t) (can_path sys b s ok t l.can) in
      OkAt-changed sys s j t _ _ _
      (λ _. closes-unit t n Dropped l.can l.number (b.drops t (path_of s t) is_path l.asks) Dropped-closing (rw l.asks tt))
      (ok j j_known)
