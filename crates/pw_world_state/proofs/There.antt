-- In every run a legal entry names what is there.
use Rattle.std.proofs.Common.{◌≡◌, ◌≢◌, ⊎_elim, ℕ, zero, suc, ◌+◌, ◌<◌, ◌≤◌, ◌&&◌, ◌||◌, Bool, true, false, List, [], ◌∷◌, length, Option, Some, None, if◌then◌else◌, refl, sym, ap, subst, ◌∙◌, arith}
use Rattle.std.specs.Prelude.{All, slice_get}
use Rattle.std.proofs.lemmas.Bool.{eqb-true}
use Rattle.std.proofs.lemmas.Option.{get_or_from_slice_get, slice_get_within}
use Rattle.pw_code.specs.declared.system.System.{System}
use Rattle.pw_event.specs.declared.event.Ending.{Ending}
use Rattle.pw_event.specs.declared.event.Ending.TheVariants as ending
use Rattle.pw_event.specs.declared.event.Event.{Event}
use Rattle.pw_event.specs.declared.event.Event.TheVariants as event
use Rattle.pw_event.specs.declared.script.FailLine.{FailLine}
use Rattle.pw_event.specs.declared.script.FailLine.TheVariants as line
use Rattle.pw_code_meaning.specs.OfSystem.{behaviour}
use Rattle.pw_world_state.specs.May.{IsLineThere, IsProcessOf, IsThere}
use Rattle.pw_laws.proofs.Deciding.{both, itself, some_below}
use Rattle.pw_laws.proofs.decided.Legality.{jobs-there}
use Rattle.pw_laws.specs.legal.Causes.{JobsAreThere}
use Rattle.pw_onecopy.proofs.Update.{upd_elim}
use Rattle.pw_onecopy.specs.Behaviour.{Behaviour}
use Rattle.pw_onecopy.specs.IsBehaviour.{IsBehaviour, IsPath}
use Rattle.pw_onecopy.specs.Update.{upd}
use Rattle.pw_paired.specs.End.{LegalEnd, end_terminal}
use Rattle.pw_paired.specs.Failure.{fail_line, is_live_of, is_of_pair, lose_backup, lose_pair, lose_primary, process_fails}
use Rattle.pw_paired.specs.Raising.{LegalRaise, settle_mode, settled_mode}
use Rattle.pw_paired.specs.Server.{LegalTake}
use Rattle.pw_paired.specs.State.{PairMode, Alone, Raising, Paired, Down, Gone, Job, Message, State}
use Rattle.pw_paired.specs.Step.{IsRun, Legal, after, change, effect}
use Rattle.pw_paired.specs.Step as step
use Rattle.pw_paired.specs.Units.{any_below, leave_units, only}
use Rattle.pw_laws.proofs.induction.Failed.{end-any, fail-cases, process-cases}
use Rattle.pw_laws.proofs.induction.Runs as runs
use Rattle.pw_laws.proofs.induction.Served.{file-cases, reply-any}
use Rattle.pw_laws.proofs.kept.Kept.{Inv}
use Rattle.pw_paired.specs.Raising as raising

-- ---- messages and modes

-- the pair has or had a backup
abbrev pub HasBackup : PairMode → Type 0
HasBackup Alone = ⊥
HasBackup Raising = Unit {0}
HasBackup Paired = Unit {0}
HasBackup Down = Unit {0}
HasBackup Gone = ⊥

-- messages are those of started terminals, and a pair with a backup is one of the system
pub record Known (sys : Behaviour) (s : State) : Type 0 where
  pub flights : (t : ℕ) (message : Message) → s.flight t ≡ Some message → t < sys.terminals
  pub modes : (p : ℕ) → HasBackup (s.modes p) → p < sys.pairs

module _ (sys : Behaviour) (s : State) (k : Known sys s) where
  -- neither changes
  same : (w : State) → w.flight ≡ s.flight → w.modes ≡ s.modes → Known sys w
  same w flight modes = record {
    flights = λ t message is. k.flights t message (ap (λ f. f t) (sym flight) ∙ is);
    modes = λ p has. k.modes p (subst (λ f. HasBackup (f p)) modes has);
  }

  -- a terminal sends a message
  sent : (w : State) (t : ℕ) (message : Message) → t < sys.terminals → w.flight ≡ upd s.flight t (Some message) → w.modes ≡ s.modes → Known sys w
  sent w t message low flight modes = record {
    flights = λ j one is.
        upd_elim s.flight t (Some message) j (λ o. o ≡ Some one → j < sys.terminals) (λ here _. subst (λ n. n < sys.terminals) (sym here) low) (λ other is. k.flights j one is)
        (ap (λ f. f j) (sym flight) ∙ is);
    modes = λ p has. k.modes p (subst (λ f. HasBackup (f p)) modes has);
  }

  -- that of a terminal goes
  dropped : (w : State) (t : ℕ) → w.flight ≡ upd s.flight t None → w.modes ≡ s.modes → Known sys w
  dropped w t flight modes = record {
    flights = λ j one is.
        upd_elim s.flight t None j (λ o. o ≡ Some one → j < sys.terminals) (λ here is. absurd (cc is)) (λ other is. k.flights j one is)
        (ap (λ f. f j) (sym flight) ∙ is);
    modes = λ p has. k.modes p (subst (λ f. HasBackup (f p)) modes has);
  }

  settled : (mode : PairMode) (lacks : Bool) → HasBackup (settled_mode mode lacks) → HasBackup mode
  settled Alone lacks has = has
  settled Raising lacks has = tt
  settled Paired lacks has = tt
  settled Down lacks has = tt
  settled Gone lacks has = has

  -- a pair gets a mode
  moved : (w : State) (p : ℕ) (mode : PairMode) → (HasBackup mode → p < sys.pairs) → ((t : ℕ) (message : Message) → w.flight t ≡ Some message → s.flight t ≡ Some message) → w.modes ≡ upd s.modes p mode → Known sys w
  moved w p mode there flight modes = record {
    flights = λ t message is. k.flights t message (flight t message is);
    modes = λ q has.
        upd_elim s.modes p mode q (λ m. HasBackup m → q < sys.pairs) (λ here has. subst (λ n. n < sys.pairs) (sym here) (there has)) (λ other has. k.modes q has)
        (subst (λ f. HasBackup (f q)) modes has);
  }

  spared : (own : Bool) (t : ℕ) (message : Message) → (if own then None else s.flight t) ≡ Some message → s.flight t ≡ Some message
  spared false t message is = is
  spared true t message is = absurd (cc is)

settles : (sys : Behaviour) (s : State) → Known sys s → (p : ℕ) → Known sys (settle_mode sys p s)
settles sys s k p =
    moved sys s k (settle_mode sys p s) p (settled_mode (s.modes p) (raising.lacks_one sys p s)) (λ has. k.modes p (settled sys s k (s.modes p) (raising.lacks_one sys p s) has)) (λ t message is. is) refl

logged : (sys : Behaviour) (s : State) (log : List Event) → Known sys s → Known sys (record s { log = log })
logged sys s log k = record { flights = k.flights; modes = k.modes }

-- a pair with a live terminal is there
live-pair : (sys : Behaviour) → IsBehaviour sys → (s : State) (p : ℕ) → any_below sys.terminals (is_live_of sys p s) ≡ true → p < sys.pairs
live-pair sys b s p e =
    let found = (some_below (λ t. both (itself (is_of_pair sys p t)) (itself _)) sys.terminals).0 e in
    subst (λ q. q < sys.pairs) (eqb-true (sys.pair_of found.0) p found.2.0) (b.pairs found.0 found.1)

module _ (sys : Behaviour) (b : IsBehaviour sys) (s : State) (k : Known sys s) where
  keeps : (entry : Event) → step.Fits sys s entry → Known sys (change sys s entry)
  keeps (event.Show t phase attempt n) l = same sys s k _ refl refl
  keeps (event.Key t n) l = same sys s k _ refl refl
  keeps (event.CheckStart t) l = sent sys s k _ t _ l.can.live.known refl refl
  keeps (event.CheckEnd t) l = sent sys s k _ t _ l.can.live.known refl refl
  keeps (event.CheckCopy t) l = sent sys s k _ t _ l.live.known refl refl
  keeps (event.Applied t) l = settles sys _ (dropped sys s k _ t refl refl) (sys.pair_of t)
  keeps (event.Begin t n r) l = same sys s k _ refl refl
  keeps (event.Send t n c) l = same sys s k _ refl refl
  keeps (event.Take c i t) l = same sys s k _ refl refl
  keeps (event.File c i op mode f status) l = file-cases sys s c i (Known sys) k (λ job call works asks. same sys s k _ refl refl)
  keeps (event.Reply c i t fault) l =
      reply-any sys s c i t (Known sys) fault (λ reply outside. same sys s k _ refl refl) (λ reply inside. same sys s k _ refl refl) (λ x. same sys s k _ refl refl)
  keeps (event.Again t n) l = same sys s k _ refl refl
  keeps (event.Commit t n) l = same sys s k _ refl refl
  keeps (event.Back t n) l = same sys s k _ refl refl
  keeps (event.Restart t n cause) l = same sys s k _ refl refl
  keeps (event.FailTcp p primary n) l =
      fail-cases sys s (Known sys) p k
      (λ paired. moved sys s k (lose_primary sys p s) p Down (λ has. k.modes p (subst HasBackup (sym paired) tt)) (λ t message is. spared sys s k (is_of_pair sys p t) t message is) refl)
      (λ which breaks. moved sys s k (lose_pair sys p s) p Gone (λ has. absurd has) (λ t message is. spared sys s k (is_of_pair sys p t) t message is) refl)
      (λ has. moved sys s k (lose_backup sys p s) p Alone (λ has. absurd has) (λ t message is. spared sys s k (is_of_pair sys p t) t message is) refl) primary
  keeps (event.FailServer c i n) l = process-cases sys s (Known sys) c i n k (λ job works. same sys s k _ refl refl)
  keeps (event.Takeover p) l = moved sys s k _ p Alone (λ has. absurd has) (λ t message is. is) refl
  keeps (event.Raise p) l = moved sys s k _ p Raising (λ has. live-pair sys b s p l.wanted) (λ t message is. is) refl
  keeps (event.End t e) l =
      end-any sys s (Known sys) t e (settles sys _ (dropped sys s k (end_terminal t e s) t refl refl) (sys.pair_of t))
      (settles sys _ (dropped sys s k (end_terminal t e (leave_units sys (only t) s)) t refl refl) (sys.pair_of t))

pub known : (sys : Behaviour) → IsBehaviour sys → (log : List Event) → IsRun sys log → Known sys (after sys log)
known sys b log run =
    runs.holds-behind sys (Known sys)
    (λ log run entry legal k. logged sys (change sys (after sys log) entry) _ (keeps sys b (after sys log) k entry legal.fits))
    (record { flights = λ t message is. absurd (cc is); modes = λ p has. absurd has }) log run

-- ---- what a legal entry names

-- an element of a list of which all hold
pub of-all : {A : Type 0} (P : A → Type 0) (xs : List A) → All P xs → (i : ℕ) (x : A) → slice_get xs i ≡ Some x → P x
of-all P xs all i x is = subst P (get_or_from_slice_get xs i x x is) (all i x (slice_get_within xs i x is))

line-at : (system : System) (script : List FailLine) → All (IsLineThere system) script → (n : ℕ) (one : FailLine) → fail_line script n ≡ Some one → IsLineThere system one
line-at system script all zero one is = absurd (cc is)
line-at system script all (suc n) one is = of-all (IsLineThere system) script all n one is

module _ (system : System) (script : List FailLine) (b : IsBehaviour (behaviour script system)) (lines : All (IsLineThere system) script) (log : List Event) (run : IsRun (behaviour script system) log) where
  abbrev sys : Behaviour
  sys = behaviour script system

  abbrev state : State
  state = after sys log

  inv : Inv sys state
  inv = runs.kept sys b log run

  names : Known sys state
  names = known sys b log run

  jobs : JobsAreThere sys state
  jobs = jobs-there sys b log run

  process : (c i : ℕ) (job : Job) → (state.classes c).busy i ≡ Some job → IsProcessOf system c i
  process c i job works = let bounds = jobs.processes c i job works in record { class = jobs.classes c i job works; low = bounds.0; high = bounds.1 }

  ended : (t : ℕ) (e : Ending) → LegalEnd sys state t e → t < length system.terminals
  ended t ending.Stopped l = l.can.live.known
  ended t ending.NoEntries l = l.can.live.known
  ended t (ending.Fault x) l = l.can.live.known
  ended t (ending.Suspended cause) l = inv.known t l.unit l.caused.is_open
  ended t ending.Lost l = l.live.known

  fits-there : (entry : Event) → step.Fits sys state entry → IsThere system entry
  fits-there (event.Show t phase attempt n) l = l.can.live.known
  fits-there (event.Key t n) l = l.can.live.known
  fits-there (event.CheckStart t) l = l.can.live.known
  fits-there (event.CheckEnd t) l = l.can.live.known
  fits-there (event.CheckCopy t) l = l.live.known
  fits-there (event.Applied t) l = names.flights t l.message l.flies
  fits-there (event.Begin t n r) l = l.can.live.known
  fits-there (event.Send t n c) l = l.can.live.known
  fits-there (event.Take c i t) l = inv.requests.bounds.line c l.request l.others l.first
  fits-there (event.File c i op mode f status) l = process c i l.job l.at_work
  fits-there (event.Reply c i t fault) l = process c i l.job l.at_work
  fits-there (event.Again t n) l = l.can.live.known
  fits-there (event.Commit t n) l = l.can.live.known
  fits-there (event.Back t n) l = l.can.live.known
  fits-there (event.Restart t n cause) l = inv.known t l.unit l.caused.is_open
  fits-there (event.FailTcp p primary n) l = line-at system script lines n (line.Tcp p primary l.after) l.names
  fits-there (event.FailServer c i n) l = line-at system script lines n (line.Server c i l.after) l.names
  fits-there (event.Takeover p) l = names.modes p (subst HasBackup (sym l.down) tt)
  fits-there (event.Raise p) l = live-pair sys b state p l.wanted
  fits-there (event.End t e) l = ended t e l

pub legal-there : (system : System) (script : List FailLine) (log : List Event) (entry : Event) → IsBehaviour (behaviour script system) → All (IsLineThere system) script → IsRun (behaviour script system) log
    → Legal (behaviour script system) (after (behaviour script system) log) entry → IsThere system entry
legal-there system script log entry b lines run legal = fits-there system script b lines log run entry legal.fits
