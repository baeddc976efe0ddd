-- How runs of the code lead from one configuration to another.
use Rattle.std.proofs.Common.{◌≡◌, ℕ, suc, ◌+◌, ◌<◌, ◌≤◌, Bool, true, false, List, [], ◌∷◌, ◌++◌, length, Option, Some, None, if◌then◌else◌, ◌⊎◌, refl, sym, ap, ◌∙◌, subst, arith}
use Rattle.std.specs.Prelude.{nat_lt, slice_get, option_map}
use Rattle.std.proofs.lemmas.Bool.{ltb-true, ltb-false}
use Rattle.pw_data.specs.Store.{joined}
use Rattle.pw_code.specs.declared.context.Frame.{Frame}
use Rattle.pw_code.specs.declared.context.Course.TheVariants.{Instruction}
use Rattle.pw_code.specs.declared.context.Return.{Return}
use Rattle.pw_code.specs.declared.instr.Instr.{Instr}
use Rattle.pw_code.specs.declared.instr.Instr.TheVariants as instr
use Rattle.pw_code.specs.declared.system.System.{System}
use Rattle.pw_code.specs.declared.verb.Answer.{Answer}
use Rattle.pw_code.specs.declared.verb.Verb.{Verb}
use Rattle.pw_code.specs.declared.verb.Verb.TheVariants as verb
use Rattle.pw_tree_meaning.specs.Program.{Program}
use Rattle.pw_tree_meaning.specs.State.{ProgramState, Out, Goes, Leaves, Asks, then_do, most_counted}
use Rattle.pw_tree_meaning.specs.State as source
use Rattle.pw_tree_meaning.specs.Operands as operands
use Rattle.pw_tree_meaning.specs.Performs.{budget}
use Rattle.pw_code_meaning.specs.Answers.{put, shown, answered_by}
use Rattle.pw_code_meaning.specs.Calls.{leaves}
use Rattle.pw_code_meaning.specs.Config.{Config, code_at, asks, faults, code_statement_counted, with_taken}
use Rattle.pw_code_meaning.specs.Runs.{Run, run, at_verb}
use Rattle.pw_code_meaning.specs.Steps.{act, does, step, verb_of, asked_by}
use Rattle.pw_compiler_laws.proofs.Ground.{Ground}

-- the program at work by its number, those that wait for it, and what lies behind its items
pub record Env : Type 0 where
  pub program : ℕ
  pub callers : List Frame
  pub tail : List ℕ

-- what a context counts along its path besides what the tree's state has
pub record Marks : Type 0 where
  pub phase : ℕ
  pub attempt : ℕ
  pub shown : ℕ
  pub entries : ℕ
  pub units : ℕ

-- the configuration at a place with these active PERFORMs that has a state of the tree
abbrev pub mach : Env → ℕ → List Return → ProgramState → Marks → Config
mach e at rs s m = record {
  top = record { program = e.program; at = at; storage = joined s.store ++ e.tail; returns = rs };
  rest = record {
    termination = s.registers.termination;
    restarts = s.registers.restarts;
    file_status = s.registers.file_status;
    phase = m.phase;
    attempt = m.attempt;
    shown = m.shown;
    entries = m.entries;
    units = m.units;
    in_unit = s.in_unit;
    course = Instruction;
    at_verb = false;
    count = s.count;
    screen = s.screen;
    frames = e.callers;
  };
}

-- by the test of the count
count_cases {ℓ} : (s : ProgramState) (P : Bool → Type ℓ) → (s.count < most_counted → P true) → (most_counted ≤ s.count → P false) → P (nat_lt s.count most_counted)
count_cases s P yes_case no_case = pick (nat_lt s.count most_counted) refl
  where
    pick : (b : Bool) → nat_lt s.count most_counted ≡ b → P b
    pick true e = yes_case (ltb-true _ _ e)
    pick false e = no_case (ltb-false _ _ e)

module _ (system : System) where
  -- each run from the second place is one from the first
  abbrev pub Leads : Config → List Answer → Config → List Answer → Type 0
  Leads c p d q = (k : ℕ) → (j : ℕ) × (run system j c p ≡ run system k d q)

  -- the code comes to this verb, with no answer left, and shows this screen
  pub record Ends (c : Config) (p : List Answer) (v : Verb) (screen : List ℕ) : Type 0 where
    pub steps : ℕ
    pub last : Config
    pub comes : run system steps c p ≡ record { at = last; left = [] }
    pub stands : at_verb last ≡ true
    pub asks_it : verb_of system last ≡ v
    pub shows : last.rest.screen ≡ screen

  pub stays : (c : Config) (p : List Answer) → Leads c p c p
  stays c p k = (k, refl)

  -- one instruction
  pub one : (e : Env) (at : ℕ) (rs : List Return) (s : ProgramState) (m : Marks) (p : List Answer) (i : Option Instr) → slice_get (code_at system e.program).instrs at ≡ i
      → Leads (mach e at rs s m) p (act system i (mach e at rs s m)) p
  one e at rs s m p i h k = (suc k, ap (λ o. run system k (act system o (mach e at rs s m)) p) h)

  module _ (program : Program) (e : Env) where
    -- the code comes to a place in a state of the tree, where no more can be counted than so much
    pub record Came (b : ℕ) (c : Config) (p : List Answer) (to : ℕ) (rs : List Return) (t : ProgramState) : Type 0 where
      pub marks : Marks
      pub ground : Ground program t.store
      pub less : budget t ≤ b
      pub leads : Leads c p (mach e to rs t marks) t.answers

    -- the code comes to where the program is left
    pub record Left (b : ℕ) (c : Config) (p : List Answer) (t : ProgramState) : Type 0 where
      pub at : ℕ
      pub returns : List Return
      pub marks : Marks
      pub quiet : (slice_get (code_at system e.program).instrs at ≡ None) ⊎ (slice_get (code_at system e.program).instrs at ≡ Some instr.ExitProgram)
      pub ground : Ground program t.store
      pub less : budget t ≤ b
      pub leads : Leads c p (leaves system (mach e at returns t marks)) t.answers

    -- the code does what a statement comes to
    abbrev pub Does : ℕ → Config → List Answer → ℕ → List Return → Out → Type 0
    Does b c p to rs (Goes t) = Came b c p to rs t
    Does b c p to rs (Leaves t) = Left b c p t
    Does b c p to rs (Asks v t) = Ends c p v t.screen

    -- it does so from a configuration with the answers of a state of the tree, within what that state leaves to count
    abbrev pub DoesFrom : ProgramState → Config → ℕ → List Return → Out → Type 0
    DoesFrom s c to rs o = Does (budget s) c s.answers to rs o

    -- the code comes to the end of the program, or to this verb
    abbrev pub Finishes : ℕ → Config → List Answer → Out → Type 0
    Finishes b c p (Goes t) = Left b c p t
    Finishes b c p (Leaves t) = Left b c p t
    Finishes b c p (Asks v t) = Ends c p v t.screen

    pub finishes_after : (a b : ℕ) (c q : Config) (p r : List Answer) (o : Out) → a ≤ b → Leads c p q r → Finishes a q r o → Finishes b c p o
    finishes_after a b c q p r (Goes t) le l f = record {
      at = f.at;
      returns = f.returns;
      marks = f.marks;
      quiet = f.quiet;
      ground = f.ground;
      less = omega (arith, f.less, le);
      leads = λ k. let y = f.leads k in let x = l y.0 in (x.0, x.1 ∙ y.1);
    }
    finishes_after a b c q p r (Leaves t) le l f = record {
      at = f.at;
      returns = f.returns;
      marks = f.marks;
      quiet = f.quiet;
      ground = f.ground;
      less = omega (arith, f.less, le);
      leads = λ k. let y = f.leads k in let x = l y.0 in (x.0, x.1 ∙ y.1);
    }
    finishes_after a b c q p r (Asks v t) le l f =
        let x = l f.steps in record { steps = x.0; last = f.last; comes = x.1 ∙ f.comes; stands = f.stands; asks_it = f.asks_it; shows = f.shows }

    pub after : (b : ℕ) (c d : Config) (p q : List Answer) (to : ℕ) (rs : List Return) (o : Out) → Leads c p d q → Does b d q to rs o → Does b c p to rs o
    after b c d p q to rs (Goes t) l r = record { marks = r.marks; ground = r.ground; less = r.less; leads = λ k. let y = r.leads k in let x = l y.0 in (x.0, x.1 ∙ y.1) }
    after b c d p q to rs (Leaves t) l r = record {
      at = r.at;
      returns = r.returns;
      marks = r.marks;
      quiet = r.quiet;
      ground = r.ground;
      less = r.less;
      leads = λ k. let y = r.leads k in let x = l y.0 in (x.0, x.1 ∙ y.1);
    }
    after b c d p q to rs (Asks v t) l r =
        let x = l r.steps in record { steps = x.0; last = r.last; comes = x.1 ∙ r.comes; stands = r.stands; asks_it = r.asks_it; shows = r.shows }

    pub weaker : (a b : ℕ) (c : Config) (p : List Answer) (to : ℕ) (rs : List Return) (o : Out) → a ≤ b → Does a c p to rs o → Does b c p to rs o
    weaker a b c p to rs (Goes t) le r = record { marks = r.marks; ground = r.ground; less = omega (arith, r.less, le); leads = r.leads }
    weaker a b c p to rs (Leaves t) le r = record { at = r.at; returns = r.returns; marks = r.marks; quiet = r.quiet; ground = r.ground; less = omega (arith, r.less, le); leads = r.leads }
    weaker a b c p to rs (Asks v t) le r = r

    pub seq : (b : ℕ) (c : Config) (p : List Answer) (mid to : ℕ) (rs rs' : List Return) (o : Out) (next : ProgramState → Out) → Does b c p mid rs o
        → ((t : ProgramState) (m : Marks) → budget t ≤ b → Ground program t.store → DoesFrom t (mach e mid rs t m) to rs' (next t)) → Does b c p to rs' (then_do o next)
    seq b c p mid to rs rs' (Goes t) next r h =
        weaker (budget t) b c p to rs' (next t) r.less (after (budget t) c (mach e mid rs t r.marks) p t.answers to rs' (next t) r.leads (h t r.marks r.less r.ground))
    seq b c p mid to rs rs' (Leaves t) next r h = r
    seq b c p mid to rs rs' (Asks v t) next r h = r

    pub ends_at : (b : ℕ) (c : Config) (p : List Answer) (to to' : ℕ) (rs : List Return) (o : Out) → to ≡ to' → Does b c p to rs o → Does b c p to' rs o
    ends_at b c p to to' rs o same r = subst (λ n. Does b c p n rs o) same r

    -- a configuration that takes no answer
    frozen : (c : Config) (p : List Answer) → c.rest.at_verb ≡ true → ((a : Answer) → put system a c ≡ c) → (j : ℕ) × (run system j c p ≡ record { at = c; left = [] })
    frozen c [] v h = (0, refl)
    frozen c (a ∷ p) v h =
        let r = frozen c p v h in (
          suc r.0,
          ap (λ b. elim b as (λ _. Run Config Answer) [ true ↦ run system r.0 (put system a c) p | false ↦ run system r.0 (step system c) (a ∷ p) ]) v ∙ ap (λ d. run system r.0 d p) (h a) ∙ r.1,
        )

    -- a run fault
    pub fault_ends : (c : Config) (p : List Answer) (x : ℕ) → Ends (faults x c) p (verb.Fault x) c.rest.screen
    fault_ends c p x =
        let r = frozen (faults x c) p refl (λ a. refl) in
        record { steps = r.0; last = faults x c; comes = r.1; stands = refl; asks_it = refl; shows = refl }

    -- a statement or a turn begins
    pub ticks : (at : ℕ) (rs : List Return) (s : ProgramState) (m : Marks) (to : ℕ) (rs' : List Return) (f : Config → Config) (next : ProgramState → Out)
        → ((t : ProgramState) → budget t < budget s → t.store ≡ s.store → DoesFrom t (f (mach e at rs t m)) to rs' (next t))
        → DoesFrom s (code_statement_counted f (mach e at rs s m)) to rs' (source.statement_counted next s)
    ticks at rs s m to rs' f next h =
        count_cases s (λ b. DoesFrom s (if b then f (mach e at rs (record s { count = s.count + 1 }) m) else faults 201 (mach e at rs s m)) to rs' (if b then next (record s { count = s.count + 1 }) else source.faults 201 s))
        (λ lt. let t = record s { count = s.count + 1 } in let less : budget t < budget s = omega (arith, lt) in weaker (budget t) (budget s) _ s.answers to rs' (next t) (omega (arith, less)) (h t less refl))
        (λ ge. fault_ends (mach e at rs s m) s.answers 201)

    -- a statement by its instruction
    pub begins : (at : ℕ) (rs : List Return) (s : ProgramState) (m : Marks) (to : ℕ) (rs' : List Return) (i : Instr) (next : ProgramState → Out) → slice_get (code_at system e.program).instrs at ≡ Some i
        → act system (Some i) ≡ code_statement_counted (does system i)
        → ((t : ProgramState) → t.store ≡ s.store → DoesFrom t (does system i (mach e at rs t m)) to rs' (next t))
        → DoesFrom s (mach e at rs s m) to rs' (source.statement_counted next s)
    begins at rs s m to rs' i next h is r =
        after (budget s) _ _ s.answers s.answers to rs' (source.statement_counted next s) (one e at rs s m s.answers (Some i) h)
        (subst (λ f. DoesFrom s (f (mach e at rs s m)) to rs' (source.statement_counted next s)) (sym is) (ticks at rs s m to rs' (does system i) next (λ t lt same. r t same)))

    -- operands whose subscripts were taken, or SUBSCRIPT
    pub taken_does : {A B : Type 0} (f : A → B) (o : Option A) (o' : Option B) (b at : ℕ) (rs : List Return) (s : ProgramState) (m : Marks) (to : ℕ) (rs' : List Return)
        (next : B → Config → Config) (goes : A → Out) → o' ≡ option_map f o
        → ((x : A) → o ≡ Some x → Does b (next (f x) (mach e at rs s m)) s.answers to rs' (goes x))
        → Does b (with_taken o' next (mach e at rs s m)) s.answers to rs' (operands.with_taken o s goes)
    taken_does f None o' b at rs s m to rs' next goes is h =
        subst (λ o. Does b (with_taken o next (mach e at rs s m)) s.answers to rs' (source.faults 203 s)) (sym is) (fault_ends (mach e at rs s m) s.answers 203)
    taken_does f (Some x) o' b at rs s m to rs' next goes is h =
        subst (λ o. Does b (with_taken o next (mach e at rs s m)) s.answers to rs' (goes x)) (sym is) (h x refl)

    -- a verb
    pub verb_does : (at : ℕ) (rs : List Return) (s : ProgramState) (m : Marks) (to : ℕ) (rs' : List Return) (i : Instr) (v : Verb) (next : Answer → ProgramState → Out)
        → slice_get (code_at system e.program).instrs at ≡ Some i → asked_by (Some i) (asks (mach e at rs s m)) ≡ v
        → ((a : Answer) (answers : List Answer) → let t : ProgramState = record s { count = 0; answers = answers } in
        DoesFrom t (answered_by system (Some i) a (asks (mach e at rs s m))) to rs' (next a t))
        → DoesFrom s (asks (mach e at rs s m)) to rs' (source.asks v next s)
    verb_does at rs s m to rs' i v next h is r = by s.answers refl
      where
        by : (answers : List Answer) → s.answers ≡ answers → Does (budget s) (asks (mach e at rs s m)) answers to rs' (source.asked v next answers s)
        by [] same = record { steps = 0; last = asks (mach e at rs s m); comes = refl; stands = refl; asks_it = ap (λ o. asked_by o (asks (mach e at rs s m))) h ∙ is; shows = refl }
        by (a ∷ answers) same =
            let t : ProgramState = record s { count = 0; answers = answers } in
            let longer : length s.answers ≡ length (a ∷ answers) = ap length same in
            weaker (budget t) (budget s) (asks (mach e at rs s m)) (a ∷ answers) to rs' (next a t) (omega (arith, longer))
            (after (budget t) (asks (mach e at rs s m)) (answered_by system (Some i) a (asks (mach e at rs s m))) (a ∷ answers) answers to rs' (next a t)
            (λ k. (suc k, ap (λ o. run system k (answered_by system o a (asks (mach e at rs s m))) answers) h)) (r a answers))

    -- a verb at which no answer is taken
    pub stop_ends : (at : ℕ) (rs : List Return) (s : ProgramState) (m : Marks) (i : Option Instr) (v : Verb) → slice_get (code_at system e.program).instrs at ≡ i → asked_by i (asks (mach e at rs s m)) ≡ v
        → ((a : Answer) → answered_by system i a (asks (mach e at rs s m)) ≡ asks (mach e at rs s m)) → Ends (asks (mach e at rs s m)) s.answers v s.screen
    stop_ends at rs s m i v h is r =
        let z = frozen (asks (mach e at rs s m)) s.answers refl (λ a. ap (λ o. answered_by system o a (asks (mach e at rs s m))) h ∙ r a) in
        record { steps = z.0; last = asks (mach e at rs s m); comes = z.1; stands = refl; asks_it = ap (λ o. asked_by o (asks (mach e at rs s m))) h ∙ is; shows = refl }
