-- Whose requests an entry cancels, and what is left of a class and of a process.
use Rattle.std.proofs.Common.{◌≡◌, ℕ, ◌<◌, ◌==◌, ◌&&◌, ◌||◌, List, [], ◌∷◌, Option, Some, None, Bool, true, false, refl, sym, ap, subst, ◌∙◌}
use Rattle.std.specs.List.{AllByRecursion, list_any}
use Rattle.std.specs.Option.{IfSome}
use Rattle.std.proofs.Math.Path.{fun_ext}
use Rattle.std.proofs.lemmas.Bool.{eq-eqb, eqb-true, true≢false, and_parts, or_right}
use Rattle.std.proofs.lemmas.List.Elements.{recursion_from_All}
use Rattle.pw_class.specs.Queue.{is_of, works_for}
use Rattle.pw_class.specs.declared.request.Request.{Request}
use Rattle.pw_event.specs.declared.event.Ending.TheVariants.{Stopped, NoEntries, Fault, Suspended, Lost}
use Rattle.pw_event.specs.declared.event.Event.{Event}
use Rattle.pw_event.specs.declared.event.Event.TheVariants.{Show, Key, CheckStart, CheckEnd, CheckCopy, Applied, Begin, Send, Take, File, Reply, Again, Commit, Back, Restart, FailTcp, FailServer, Takeover, Raise, End}
use Rattle.pw_world_state.specs.Members.{KnowsAll}
use Rattle.pw_world_model.specs.Touches.{leaves}
use Rattle.pw_world_model.proofs.Placed.{loses_in, without-has}
use Rattle.pw_onecopy.specs.Behaviour.{Behaviour}
use Rattle.pw_paired.specs.Failure.{backup_fails, is_of_pair, primary_fails}
use Rattle.pw_paired.specs.State.{PairMode, Alone, Raising, Paired, Down, Gone, Job, State}
use Rattle.pw_paired.specs.Step.{change}
use Rattle.pw_paired.specs.Units.{freed_of, has_request, only, request_in, without_requests}
use Rattle.pw_laws.proofs.requests.Cancelling.{cancelled-none, cancelled-same}
use Rattle.pw_laws.proofs.requests.Classes.{without_cancelled}
use Rattle.pw_tmf.specs.Leaving.{is_among}

-- the entry cancels a request of a terminal that passes a test; the lists have the terminals of each pair
abbrev pub cancels_in : (ℕ → List ℕ) → State → Event → (ℕ → Bool) → Bool
cancels_in members s (Restart t n cause) has = has t
cancels_in members s (FailTcp p primary k) has = loses_in primary (s.modes p) && list_any has (members p)
cancels_in members s (End t ending) has = leaves ending && has t
cancels_in members s _ has = false

-- the entry is a restart, a failure of a pair or an ending
abbrev pub may_cancel : Event → Bool
may_cancel (Restart t n cause) = true
may_cancel (FailTcp p primary k) = true
may_cancel (End t ending) = true
may_cancel _ = false

-- ---- requests of a terminal that are cancelled

-- the requests of these terminals are cancelled, of which one passes the test
pub record Cancels (s x : State) (has : ℕ → Bool) : Type 0 where
  pub whose : ℕ → Bool
  pub classes : x.classes ≡ (λ c. without_requests whose (s.classes c))
  pub t : ℕ
  pub mine : whose t ≡ true
  pub passes : has t ≡ true

-- the requests of these terminals are cancelled, and none of them passes the test
pub record CancelsNone (sys : Behaviour) (s x : State) (has : ℕ → Bool) : Type 0 where
  pub whose : ℕ → Bool
  pub classes : x.classes ≡ (λ c. without_requests whose (s.classes c))
  pub none : (t : ℕ) → t < sys.terminals → whose t ≡ true → has t ≡ false

-- one of a list passes
passes-of : (has : ℕ → Bool) (ts : List ℕ) → list_any has ts ≡ true → (t : ℕ) × ((is_among ts t ≡ true) × (has t ≡ true))
passes-of has [] e = absurd (cc e)
passes-of has (t ∷ ts) e = by (has t) refl e (passes-of has ts)
  where
    by : (b : Bool) → has t ≡ b → (b || list_any has ts) ≡ true → (list_any has ts ≡ true → (u : ℕ) × ((is_among ts u ≡ true) × (has u ≡ true))) → (u : ℕ) × ((is_among (t ∷ ts) u ≡ true) × (has u ≡ true))
    by true is e later = let own : (t == t) ≡ true = eq-eqb t t refl in (t, (rw own refl, is))
    by false is e later = let found = later e in (found.0, (or_right (t == found.0) (is_among ts found.0) found.1.0, found.1.1))

-- none of a list passes
fails-each : (has : ℕ → Bool) (ts : List ℕ) → list_any has ts ≡ false → (t : ℕ) → is_among ts t ≡ true → has t ≡ false
fails-each has [] e t among = absurd (cc among)
fails-each has (s ∷ ts) e t among = by (has s) (s == t) refl refl e among (λ none. fails-each has ts none t)
  where
    by : (a b : Bool) → has s ≡ a → (s == t) ≡ b → (a || list_any has ts) ≡ false → (b || is_among ts t) ≡ true → (list_any has ts ≡ false → is_among ts t ≡ true → has t ≡ false) → has t ≡ false
    by true b is same e among later = absurd (cc e)
    by false true is same e among later = subst (λ v. has v ≡ false) (eqb-true s t same) is
    by false false is same e among later = later e among

nobody : (s : State) → s.classes ≡ (λ c. without_requests (λ t. false) (s.classes c))
nobody s = fun_ext (λ c. sym (cancelled-none (s.classes c)))

module _ (sys : Behaviour) (members : ℕ → List ℕ) (among : (p t : ℕ) → t < sys.terminals → is_of_pair sys p t ≡ is_among (members p) t) (within : (p t : ℕ) → is_among (members p) t ≡ true → t < sys.terminals) (s : State) where
  pub cancel-some : (entry : Event) (has : ℕ → Bool) → cancels_in members s entry has ≡ true → Cancels s (change sys s entry) has
  cancel-some (Restart t n cause) has e = record { whose = only t; classes = refl; t = t; mine = eq-eqb t t refl; passes = e }
  cancel-some (End t NoEntries) has e = record { whose = only t; classes = refl; t = t; mine = eq-eqb t t refl; passes = e }
  cancel-some (End t (Fault x)) has e = record { whose = only t; classes = refl; t = t; mine = eq-eqb t t refl; passes = e }
  cancel-some (End t (Suspended cause)) has e = record { whose = only t; classes = refl; t = t; mine = eq-eqb t t refl; passes = e }
  cancel-some (End t Stopped) has e = absurd (cc e)
  cancel-some (End t Lost) has e = absurd (cc e)
  cancel-some (FailTcp p true k) has e = by (s.modes p) refl (and_parts (loses_in true (s.modes p)) (list_any has (members p)) e).0
    where
      found : (t : ℕ) × ((is_among (members p) t ≡ true) × (has t ≡ true))
      found = passes-of has (members p) (and_parts (loses_in true (s.modes p)) (list_any has (members p)) e).1

      mine : is_of_pair sys p found.0 ≡ true
      mine = among p found.0 (within p found.0 found.1.0) ∙ found.1.0

      by : (m : PairMode) → s.modes p ≡ m → loses_in true m ≡ true → Cancels s (primary_fails sys p m s) has
      by Paired is l = record { whose = is_of_pair sys p; classes = refl; t = found.0; mine = mine; passes = found.1.1 }
      by Raising is l = record { whose = is_of_pair sys p; classes = refl; t = found.0; mine = mine; passes = found.1.1 }
      by Alone is l = record { whose = is_of_pair sys p; classes = refl; t = found.0; mine = mine; passes = found.1.1 }
      by Down is l = absurd (cc l)
      by Gone is l = absurd (cc l)
  cancel-some (FailTcp p false k) has e = by (s.modes p) refl (and_parts (loses_in false (s.modes p)) (list_any has (members p)) e).0
    where
      found : (t : ℕ) × ((is_among (members p) t ≡ true) × (has t ≡ true))
      found = passes-of has (members p) (and_parts (loses_in false (s.modes p)) (list_any has (members p)) e).1

      mine : is_of_pair sys p found.0 ≡ true
      mine = among p found.0 (within p found.0 found.1.0) ∙ found.1.0

      by : (m : PairMode) → s.modes p ≡ m → loses_in false m ≡ true → Cancels s (backup_fails sys p m s) has
      by Down is l = record { whose = is_of_pair sys p; classes = refl; t = found.0; mine = mine; passes = found.1.1 }
      by Paired is l = absurd (cc l)
      by Raising is l = absurd (cc l)
      by Alone is l = absurd (cc l)
      by Gone is l = absurd (cc l)
  cancel-some (Show t phase attempt k) has e = absurd (cc e)
  cancel-some (Key t k) has e = absurd (cc e)
  cancel-some (CheckStart t) has e = absurd (cc e)
  cancel-some (CheckEnd t) has e = absurd (cc e)
  cancel-some (CheckCopy t) has e = absurd (cc e)
  cancel-some (Applied t) has e = absurd (cc e)
  cancel-some (Begin t n r) has e = absurd (cc e)
  cancel-some (Send t n c) has e = absurd (cc e)
  cancel-some (Take c i t) has e = absurd (cc e)
  cancel-some (File c i op mode f status) has e = absurd (cc e)
  cancel-some (Reply c i t fault) has e = absurd (cc e)
  cancel-some (Again t n) has e = absurd (cc e)
  cancel-some (Commit t n) has e = absurd (cc e)
  cancel-some (Back t n) has e = absurd (cc e)
  cancel-some (FailServer c i k) has e = absurd (cc e)
  cancel-some (Takeover p) has e = absurd (cc e)
  cancel-some (Raise p) has e = absurd (cc e)

  only-one : (t : ℕ) (has : ℕ → Bool) → has t ≡ false → (u : ℕ) → u < sys.terminals → only t u ≡ true → has u ≡ false
  only-one t has e u low is = subst (λ v. has v ≡ false) (sym (eqb-true u t is)) e

  none-at-all : (x : State) (has : ℕ → Bool) → x.classes ≡ s.classes → CancelsNone sys s x has
  none-at-all x has same = record { whose = λ t. false; classes = same ∙ nobody s; none = λ t low e. absurd (true≢false (sym e)) }

  of-members : (p : ℕ) (has : ℕ → Bool) → list_any has (members p) ≡ false → (t : ℕ) → t < sys.terminals → is_of_pair sys p t ≡ true → has t ≡ false
  of-members p has e t low is = fails-each has (members p) e t (sym (among p t low) ∙ is)

  pub cancel-none : (entry : Event) (has : ℕ → Bool) → may_cancel entry ≡ true → cancels_in members s entry has ≡ false → CancelsNone sys s (change sys s entry) has
  cancel-none (Restart t n cause) has may e = record { whose = only t; classes = refl; none = only-one t has e }
  cancel-none (End t NoEntries) has may e = record { whose = only t; classes = refl; none = only-one t has e }
  cancel-none (End t (Fault x)) has may e = record { whose = only t; classes = refl; none = only-one t has e }
  cancel-none (End t (Suspended cause)) has may e = record { whose = only t; classes = refl; none = only-one t has e }
  cancel-none (End t Stopped) has may e = none-at-all (change sys s (End t Stopped)) has refl
  cancel-none (End t Lost) has may e = none-at-all (change sys s (End t Lost)) has refl
  cancel-none (FailTcp p true k) has may e = by (s.modes p) e
    where
      by : (m : PairMode) → (loses_in true m && list_any has (members p)) ≡ false → CancelsNone sys s (primary_fails sys p m s) has
      by Paired e = record { whose = is_of_pair sys p; classes = refl; none = of-members p has e }
      by Raising e = record { whose = is_of_pair sys p; classes = refl; none = of-members p has e }
      by Alone e = record { whose = is_of_pair sys p; classes = refl; none = of-members p has e }
      by Down e = none-at-all s has refl
      by Gone e = none-at-all s has refl
  cancel-none (FailTcp p false k) has may e = by (s.modes p) e
    where
      by : (m : PairMode) → (loses_in false m && list_any has (members p)) ≡ false → CancelsNone sys s (backup_fails sys p m s) has
      by Down e = record { whose = is_of_pair sys p; classes = refl; none = of-members p has e }
      by Paired e = none-at-all _ has refl
      by Raising e = none-at-all _ has refl
      by Alone e = none-at-all s has refl
      by Gone e = none-at-all s has refl
  cancel-none (Show t phase attempt k) has may e = absurd (cc may)
  cancel-none (Key t k) has may e = absurd (cc may)
  cancel-none (CheckStart t) has may e = absurd (cc may)
  cancel-none (CheckEnd t) has may e = absurd (cc may)
  cancel-none (CheckCopy t) has may e = absurd (cc may)
  cancel-none (Applied t) has may e = absurd (cc may)
  cancel-none (Begin t n r) has may e = absurd (cc may)
  cancel-none (Send t n c) has may e = absurd (cc may)
  cancel-none (Take c i t) has may e = absurd (cc may)
  cancel-none (File c i op mode f status) has may e = absurd (cc may)
  cancel-none (Reply c i t fault) has may e = absurd (cc may)
  cancel-none (Again t n) has may e = absurd (cc may)
  cancel-none (Commit t n) has may e = absurd (cc may)
  cancel-none (Back t n) has may e = absurd (cc may)
  cancel-none (FailServer c i k) has may e = absurd (cc may)
  cancel-none (Takeover p) has may e = absurd (cc may)
  cancel-none (Raise p) has may e = absurd (cc may)

-- ---- what is left of a class and of a process

module _ (sys : Behaviour) (s x : State) (knows : KnowsAll sys s) (c : ℕ) where
  -- a class that had a request of one of them is another one
  pub class-cancels : Cancels s x (λ t. has_request t (sys.processes c) (s.classes c)) → s.classes c ≡ x.classes c → ⊥
  class-cancels one is =
      let now : has_request one.t (sys.processes c) (x.classes c) ≡ false =
      ap (λ f. has_request one.t (sys.processes c) (f c)) one.classes ∙ without-has one.t (sys.processes c) (without_requests one.whose (s.classes c)) (without_cancelled one.whose (s.classes c) one.mine) in
      let before = one.passes in
      let same : has_request one.t (sys.processes c) (s.classes c) ≡ has_request one.t (sys.processes c) (x.classes c) = ap (has_request one.t (sys.processes c)) is in
      absurd (cc (now, before, same))

  -- so is a process that worked for one of them
  pub process-cancels : (i : ℕ) → Cancels s x (λ t. works_for t (request_in ((s.classes c).busy i))) → (s.classes c).busy i ≡ (x.classes c).busy i → ⊥
  process-cancels i one is = by ((s.classes c).busy i) refl one.passes
    where
      freed : (job : Job) → (s.classes c).busy i ≡ Some job → job.request.terminal ≡ one.t → (x.classes c).busy i ≡ None
      freed job works whose =
          let mine : one.whose job.request.terminal ≡ true = subst (λ v. one.whose v ≡ true) (sym whose) one.mine in
          ap (λ f. (f c).busy i) one.classes ∙ (ap (freed_of one.whose) works ∙ rw mine refl)

      by : (o : Option Job) → (s.classes c).busy i ≡ o → works_for one.t (request_in o) ≡ true → ⊥
      by None idle e = absurd (cc e)
      by (Some job) works e = let gone = freed job works (eqb-true job.request.terminal one.t e) in absurd (cc (works, gone, is))

  module _ (one : CancelsNone sys s x (λ t. has_request t (sys.processes c) (s.classes c))) (work : (i : ℕ) (job : Job) → (s.classes c).busy i ≡ Some job → has_request job.request.terminal (sys.processes c) (s.classes c) ≡ true) where
    spared : (t : ℕ) → t < sys.terminals → has_request t (sys.processes c) (s.classes c) ≡ true → one.whose t ≡ false
    spared t low has = by (one.whose t) refl
      where
        by : (b : Bool) → one.whose t ≡ b → b ≡ false
        by false e = refl
        by true e = let none = one.none t low e in absurd (cc (none, has))

    or-left : (a b : Bool) → a ≡ true → (a || b) ≡ true
    or-left true b e = refl
    or-left false b e = absurd (cc e)

    waiting-spared : (rest : List Request) → AllByRecursion (λ request. request.terminal < sys.terminals) rest
        → ((t : ℕ) → list_any (is_of t) rest ≡ true → list_any (is_of t) (s.classes c).waiting ≡ true) → AllByRecursion (λ request. one.whose request.terminal ≡ false) rest
    waiting-spared [] low in-line = tt
    waiting-spared (request ∷ rest) low in-line =
        let own : is_of request.terminal request ≡ true = eq-eqb request.terminal request.terminal refl in
        let there = in-line request.terminal (or-left (is_of request.terminal request) (list_any (is_of request.terminal) rest) own) in
        (spared request.terminal low.0 (or-left (list_any (is_of request.terminal) (s.classes c).waiting) _ there), waiting-spared rest low.1 (λ t e. in-line t (or_right (is_of t request) (list_any (is_of t) rest) e)))

    busy-spared : (i : ℕ) (o : Option Job) → (s.classes c).busy i ≡ o → IfSome o (λ own. one.whose own.request.terminal ≡ false)
    busy-spared i None idle = tt
    busy-spared i (Some job) works = spared job.request.terminal (knows.busy c i job works) (work i job works)

    pub class-spared : s.classes c ≡ x.classes c
    class-spared =
        sym (ap (λ f. f c) one.classes
        ∙ (cancelled-same one.whose (λ t. false) (s.classes c)
        (waiting-spared (s.classes c).waiting (recursion_from_All (λ (request : Request). request.terminal < sys.terminals) (s.classes c).waiting (knows.waiting c)) (λ t e. e))
        (λ i. busy-spared i ((s.classes c).busy i) refl)
        ∙ cancelled-none (s.classes c)))

  pub process-spared : (i : ℕ) → CancelsNone sys s x (λ t. works_for t (request_in ((s.classes c).busy i))) → (s.classes c).busy i ≡ (x.classes c).busy i
  process-spared i one = by ((s.classes c).busy i) refl
    where
      by : (o : Option Job) → (s.classes c).busy i ≡ o → (s.classes c).busy i ≡ (x.classes c).busy i
      by None idle = idle ∙ sym (ap (λ f. (f c).busy i) one.classes ∙ ap (freed_of one.whose) idle)
      by (Some job) works = left (one.whose job.request.terminal) refl
        where
          left : (b : Bool) → one.whose job.request.terminal ≡ b → (s.classes c).busy i ≡ (x.classes c).busy i
          left true e =
              let none = one.none job.request.terminal (knows.busy c i job works) e in
              let own : works_for job.request.terminal (request_in ((s.classes c).busy i)) ≡ true = ap (λ o. works_for job.request.terminal (request_in o)) works ∙ eq-eqb job.request.terminal job.request.terminal refl in
              absurd (cc (none, own))
          left false e = works ∙ sym (ap (λ f. (f c).busy i) one.classes ∙ (ap (freed_of one.whose) works ∙ rw e refl))
