-- What the code of a statement does is what the statement does.
use Rattle.std.proofs.Common.{◌≡◌, ℕ, zero, suc, ◌+◌, ◌-◌, ◌*◌, ◌<◌, ◌≤◌, Bool, true, false, List, [], ◌∷◌, ◌++◌, length, map, Option, Some, None, if◌then◌else◌, refl, sym, ap, ◌∙◌, subst, arith}
use Rattle.std.specs.Prelude.{nat_lt, ◌==◌, slice_get, option_map}
use Rattle.std.proofs.lemmas.Bool.{eq-eqb, eqb-true, le-ltb}
use Rattle.pw_words.specs.Words.{Word}
use Rattle.pw_data.specs.Store.{joined}
use Rattle.pw_forms.specs.declared.cond.ConditionForm.{ConditionForm}
use Rattle.pw_forms.specs.declared.operand.Operand.{Operand}
use Rattle.pw_forms.specs.declared.statement.ArithmeticForm.{ArithmeticForm}
use Rattle.pw_forms.specs.declared.statement.Statement.{Statement}
use Rattle.pw_operands.specs.Resolved.{Each}
use Rattle.pw_code.specs.declared.context.Return.{Return}
use Rattle.pw_code.specs.declared.instr.Instr.{Instr}
use Rattle.pw_code.specs.declared.instr.Instr.TheVariants as instr
use Rattle.pw_code.specs.declared.instr.Turn.{Turn}
use Rattle.pw_code.specs.declared.system.System.{System}
use Rattle.pw_code.specs.declared.verb.Answer.{Answer}
use Rattle.pw_code.specs.declared.verb.Answer.TheVariants as answer
use Rattle.pw_code.specs.declared.verb.Verb.{Verb}
use Rattle.pw_code.specs.declared.verb.Verb.TheVariants as verb
use Rattle.pw_tree_meaning.specs.Setting.{Setting}
use Rattle.pw_tree_meaning.specs.State.{ProgramState, Out, Goes, Leaves, Asks, then_do}
use Rattle.pw_tree_meaning.specs.State as source
use Rattle.pw_tree_meaning.specs.Operands as operands
use Rattle.pw_tree_meaning.specs.Operands.{ResolvedOperand, spot_in}
use Rattle.pw_tree_meaning.specs.Arithmetic as computing
use Rattle.pw_tree_meaning.specs.Conditions as conditions
use Rattle.pw_tree_meaning.specs.Moves as moving
use Rattle.pw_tree_meaning.specs.Performs.{budget, turns, turns_until, tested}
use Rattle.pw_tree_meaning.specs.Statements.{move_all}
use Rattle.pw_code_meaning.specs.Config.{Config, code_at, asks, faults, code_statement_counted, on, with_storage, with_taken}
use Rattle.pw_code_meaning.specs.Reading.{spot_of, read}
use Rattle.pw_code_meaning.specs.Moves as moves
use Rattle.pw_code_meaning.specs.Answers as puts
use Rattle.pw_code_meaning.specs.Calls as calls
use Rattle.pw_code_meaning.specs.Steps as steps
use Rattle.pw_tree_meaning.specs.Sends as sends
use Rattle.pw_code_meaning.specs.Turns as turning
use Rattle.pw_compile.specs.Operands as code
use Rattle.pw_compile.specs.Conditions as compiled
use Rattle.pw_compile.specs.Emitted.{body_code}
use Rattle.pw_compile.specs.Plan.{Plan}
use Rattle.pw_compile.specs.Sizes.{body_size}
use Rattle.pw_compiler_laws.proofs.Ground.{Ground}
use Rattle.pw_compiler_laws.proofs.Operands.{Known, Indexed, taken-same}
use Rattle.pw_compiler_laws.proofs.Readings.{Sits, TakenSits, spot-sits, taken-sits, all-sit, read-same, spots-same, spot-same, moves-same, moves-ground, ComparisonIndexed, holds-same, computed-same, Computed, computed-state, stored}
use Rattle.pw_compiler_laws.proofs.Leading.{Env, Marks, mach, Leads, DoesFrom, stays, one, after, seq, fault_ends, ticks, taken_does, verb_does, stop_ends}

-- ---- where instructions stand

-- these instructions stand in the code from a place on
abbrev pub HasAt : List Instr → ℕ → List Instr → Type 0
HasAt all at [] = Unit {0}
HasAt all at (i ∷ is) = (slice_get all at ≡ Some i) × HasAt all (at + 1) is

pub has_front : (all : List Instr) (at : ℕ) (a b : List Instr) → HasAt all at (a ++ b) → HasAt all at a
has_front all at [] b h = tt
has_front all at (i ∷ a) b h = (h.0, has_front all (at + 1) a b h.1)

pub has_back : (all : List Instr) (at : ℕ) (a b : List Instr) (n : ℕ) → n ≡ at + length a → HasAt all at (a ++ b) → HasAt all n b
has_back all at [] b n e h = let e' : at ≡ n = omega (arith, e) in subst (λ n. HasAt all n b) e' h
has_back all at (i ∷ a) b n e h = has_back all (at + 1) a b n (omega (arith, e)) h.1

pub split-end : {A : Type 0} (xs : List A) (x : A) → turning.split_last (xs ++ x ∷ []) ≡ Some (xs, x)
split-end [] x = refl
split-end (y ∷ ys) x = ap (turning.last_behind y) (split-end ys x)

-- the plan is of the program of a setting, whose layout it has
pub record IsPlan (setting : Setting) (plan : Plan) : Type 0 where
  pub layout : plan.layout ≡ setting.program.layout

module _ (system : System) (setting : Setting) (known : Known setting.is_server setting.program) (e : Env) (plan : Plan) (is_plan : IsPlan setting plan) where
  -- MOVE
  pub move_does : (at : ℕ) (rs : List Return) (s : ProgramState) (m : Marks) (from : Operand) (to : List Operand) → Ground setting.program s.store
      → Indexed setting.is_server setting.deck setting.program from → Each (Indexed setting.is_server setting.deck setting.program) to
      → DoesFrom system setting.program e s (steps.move_all (code.operand_of setting.program.layout from) (map (code.place_in setting.program.layout) to) (mach e at rs s m)) (at + 1) rs
      (move_all setting from to s)
  move_does at rs s m from to ground i j =
      taken_does system setting.program e (λ found. found) (operands.operand_taken setting.program s from) _ (budget s) at rs s m (at + 1) rs _ _
      (taken-same setting.is_server setting.deck setting.program known s e.tail ground from i ∙ same-map (operands.operand_taken setting.program s from))
      (λ source is.
      taken_does system setting.program e (map spot_in) (operands.taken_all setting.program s to) _ (budget s) at rs s m (at + 1) rs _ _
      (spots-same setting.is_server setting.deck setting.program known s e.tail ground to j)
      (λ targets js.
      let spots = map spot_in targets in
      let t : ProgramState = record s { store = moving.moves source spots s.store } in
      let sits = taken-sits setting.is_server setting.deck setting.program known s e.tail ground from source is in
      let all = each-spots s targets (all-sit setting.is_server setting.deck setting.program known s e.tail ground to targets js) in
      record {
        marks = m;
        ground = moves-ground setting.program source spots s.store ground;
        less = omega arith;
        leads = subst (λ (storage : List ℕ). Leads system (on (with_storage storage (mach e at rs s m))) s.answers (mach e (at + 1) rs t m) s.answers)
            (sym (moves-same source spots s.store e.tail sits all)) (stays system (mach e (at + 1) rs t m) s.answers);
      }))
    where
      same-map : {A : Type 0} (o : Option A) → o ≡ option_map (λ found. found) o
      same-map None = refl
      same-map (Some x) = refl

      each-spots : (u : ProgramState) (targets : List ResolvedOperand) → Each (TakenSits u.store) targets → Each (Sits u.store) (map spot_in targets)
      each-spots u [] all = tt
      each-spots u (target ∷ targets) all = (spot-sits u.store target all.0, each-spots u targets all.1)

  -- ---- arithmetic

  abbrev pub ArithmeticIndexed : ArithmeticForm → Type 0
  ArithmeticIndexed a =
      Indexed setting.is_server setting.deck setting.program a.first × Indexed setting.is_server setting.deck setting.program a.second
      × Indexed setting.is_server setting.deck setting.program (computing.receiver_of a)

  receiver-same : (o : Option Operand) (second : Operand) → compiled.receiver_by o second ≡ computing.receiver_by o second
  receiver-same None second = refl
  receiver-same (Some item) second = refl

  module _ (at to : ℕ) (rs : List Return) (s : ProgramState) (m : Marks) (ground : Ground setting.program s.store) (f g : Config → Config) (on_error else' : ProgramState → Out)
      (hf : DoesFrom system setting.program e s (f (mach e at rs s m)) to rs (on_error s))
      (hg : (t : ProgramState) → Computed setting.program s t → DoesFrom system setting.program e s (g (with_storage (joined t.store ++ e.tail) (mach e at rs s m))) to rs (else' t)) where
    or_else_does : (o : Option ProgramState) (o' : Option (List ℕ)) → o' ≡ stored e.tail o → ((t : ProgramState) → o ≡ Some t → Computed setting.program s t)
        → DoesFrom system setting.program e s (steps.or_else o' f g (mach e at rs s m)) to rs (computing.or_else o s on_error else')
    or_else_does None o' is h = subst (λ x. DoesFrom system setting.program e s (steps.or_else x f g (mach e at rs s m)) to rs (on_error s)) (sym is) hf
    or_else_does (Some t) o' is h = subst (λ x. DoesFrom system setting.program e s (steps.or_else x f g (mach e at rs s m)) to rs (else' t)) (sym is) (hg t (h t refl))

    three_does : (a : ArithmeticForm) (o1 o2 o3 : Option ResolvedOperand) → ((x : ResolvedOperand) → o3 ≡ Some x → Sits s.store (spot_in x))
        → DoesFrom system setting.program e s (with_taken (moves.operands_with (option_map (λ found. operands.value_in found s.store) o1) (option_map (λ found. operands.value_in found s.store) o2) (option_map spot_in o3))
        (λ found d. steps.or_else (moves.result_of (compiled.operation_of a.operation) found d.top.storage) f g d) (mach e at rs s m)) to rs
        (operands.with_taken o1 s (λ x. operands.with_taken o2 s (λ y. operands.with_taken o3 s (λ z.
        computing.or_else (computing.computed a.operation (operands.value_in x s.store) (operands.value_in y s.store) (spot_in z) s) s on_error else'))))
    three_does a None o2 o3 sits = fault_ends system setting.program e (mach e at rs s m) s.answers 203
    three_does a (Some x) None o3 sits = fault_ends system setting.program e (mach e at rs s m) s.answers 203
    three_does a (Some x) (Some y) None sits = fault_ends system setting.program e (mach e at rs s m) s.answers 203
    three_does a (Some x) (Some y) (Some z) sits =
        let v = operands.value_in x s.store in
        let w = operands.value_in y s.store in
        or_else_does (computing.computed a.operation v w (spot_in z) s) _ (computed-same a.operation v w (spot_in z) s e.tail (sits z refl))
        (λ t is. computed-state setting.program a.operation v w (spot_in z) s t is ground)

    pub arithmetic_does : (a : ArithmeticForm) → ArithmeticIndexed a
        → DoesFrom system setting.program e s (steps.computes (compiled.arithmetic_of setting.program.layout a) f g (mach e at rs s m)) to rs
        (computing.arithmetic_on setting.program a on_error else' s)
    arithmetic_does a is =
        let r1 = read-same setting.is_server setting.deck setting.program known s e.tail ground a.first is.0 in
        let r2 = read-same setting.is_server setting.deck setting.program known s e.tail ground a.second is.1 in
        let r3 = ap (λ o. spot_of s.registers (joined s.store ++ e.tail) (code.place_in setting.program.layout o)) (receiver-same a.giving a.second)
        ∙ spot-same setting.is_server setting.deck setting.program known s e.tail ground (computing.receiver_of a) is.2 in
        let whole : Option moves.Operands → Type 0 = λ o.
        DoesFrom system setting.program e s (with_taken o (λ found d. steps.or_else (moves.result_of (compiled.operation_of a.operation) found d.top.storage) f g d) (mach e at rs s m)) to rs
        (computing.arithmetic_on setting.program a on_error else' s) in
        subst whole (sym (ap (λ o. moves.operands_with o (read s.registers (joined s.store ++ e.tail) (code.operand_of setting.program.layout a.second)) (spot_of s.registers (joined s.store ++ e.tail) (code.place_in setting.program.layout (compiled.receiver_by a.giving a.second)))) r1
        ∙ ap (λ o. moves.operands_with (option_map (λ found. operands.value_in found s.store) (operands.operand_taken setting.program s a.first)) o (spot_of s.registers (joined s.store ++ e.tail) (code.place_in setting.program.layout (compiled.receiver_by a.giving a.second)))) r2
        ∙ ap (λ o. moves.operands_with (option_map (λ found. operands.value_in found s.store) (operands.operand_taken setting.program s a.first)) (option_map (λ found. operands.value_in found s.store) (operands.operand_taken setting.program s a.second)) o) r3))
        (three_does a (operands.operand_taken setting.program s a.first) (operands.operand_taken setting.program s a.second) (operands.operand_taken setting.program s (computing.receiver_of a))
        (λ x taken_is. spot-sits s.store x (taken-sits setting.is_server setting.deck setting.program known s e.tail ground (computing.receiver_of a) x taken_is)))

  -- ---- verbs of transactions, and the end

  if_does : (b : Bool) (c d : Config) (to : ℕ) (rs : List Return) (s : ProgramState) (o q : Out) → DoesFrom system setting.program e s c to rs o → DoesFrom system setting.program e s d to rs q
      → DoesFrom system setting.program e s (if b then c else d) to rs (if b then o else q)
  if_does true c d to rs s o q h g = h
  if_does false c d to rs s o q h g = g

  begin_answered : (at : ℕ) (rs : List Return) (s : ProgramState) (m : Marks) → Ground setting.program s.store → (a : Answer) (answers : List Answer)
      → let t : ProgramState = record s { count = 0; answers = answers } in
      DoesFrom system setting.program e t (puts.begin_put a (asks (mach e at rs s m))) (at + 1) rs (sends.after_begin_answer a t)
  begin_answered at rs s m ground (answer.Begun r) answers =
      record { marks = record m { phase = 2 * m.units + 1; attempt = r; shown = 0 }; ground = ground; less = omega arith; leads = stays system _ answers }
  begin_answered at rs s m ground answer.Shown answers = record { marks = m; ground = ground; less = omega arith; leads = stays system _ answers }
  begin_answered at rs s m ground (answer.Entry line) answers = record { marks = m; ground = ground; less = omega arith; leads = stays system _ answers }
  begin_answered at rs s m ground (answer.Replied reply) answers = record { marks = m; ground = ground; less = omega arith; leads = stays system _ answers }
  begin_answered at rs s m ground (answer.Failed x) answers = record { marks = m; ground = ground; less = omega arith; leads = stays system _ answers }
  begin_answered at rs s m ground answer.Ended answers = record { marks = m; ground = ground; less = omega arith; leads = stays system _ answers }
  begin_answered at rs s m ground answer.Dropped answers = record { marks = m; ground = ground; less = omega arith; leads = stays system _ answers }
  begin_answered at rs s m ground (answer.FileDone status content) answers = record { marks = m; ground = ground; less = omega arith; leads = stays system _ answers }

  pub begin_does : (at : ℕ) (rs : List Return) (s : ProgramState) (m : Marks) → Ground setting.program s.store → slice_get (code_at system e.program).instrs at ≡ Some instr.Begin
      → DoesFrom system setting.program e s (steps.does system instr.Begin (mach e at rs s m)) (at + 1) rs (sends.begin s)
  begin_does at rs s m ground h =
      if_does s.in_unit (faults 205 (mach e at rs s m)) (asks (mach e at rs s m)) (at + 1) rs s (source.faults 205 s) (source.asks verb.Begin sends.after_begin_answer s)
      (fault_ends system setting.program e (mach e at rs s m) s.answers 205)
      (verb_does system setting.program e at rs s m (at + 1) rs instr.Begin verb.Begin sends.after_begin_answer h refl (λ a answers. begin_answered at rs s m ground a answers))

  pub unit_end_does : (at : ℕ) (rs : List Return) (s : ProgramState) (m : Marks) (i : Instr) (v : Verb) → Ground setting.program s.store → slice_get (code_at system e.program).instrs at ≡ Some i
      → steps.asked_by (Some i) (asks (mach e at rs s m)) ≡ v → ((a : Answer) → puts.answered_by system (Some i) a (asks (mach e at rs s m)) ≡ puts.unit_end_put (asks (mach e at rs s m)))
      → DoesFrom system setting.program e s (if s.in_unit then asks (mach e at rs s m) else faults 206 (mach e at rs s m)) (at + 1) rs (if s.in_unit then source.asks v sends.outside s else source.faults 206 s)
  unit_end_does at rs s m i v ground h is same =
      if_does s.in_unit (asks (mach e at rs s m)) (faults 206 (mach e at rs s m)) (at + 1) rs s (source.asks v sends.outside s) (source.faults 206 s)
      (verb_does system setting.program e at rs s m (at + 1) rs i v sends.outside h is (λ a given.
      let t : ProgramState = record s { count = 0; answers = given } in
      let n : Marks = record m { units = m.units + 1; phase = 2 * (m.units + 1); attempt = 0; shown = 0 } in
      subst (λ c. DoesFrom system setting.program e t c (at + 1) rs (Goes (record t { in_unit = false }))) (sym (same a))
      (record { marks = n; ground = ground; less = omega arith; leads = stays system _ given })))
      (fault_ends system setting.program e (mach e at rs s m) s.answers 206)

  pub restart_does : (at : ℕ) (rs : List Return) (s : ProgramState) (m : Marks) → slice_get (code_at system e.program).instrs at ≡ Some instr.Restart
      → DoesFrom system setting.program e s (steps.does system instr.Restart (mach e at rs s m)) (at + 1) rs (sends.restart s)
  restart_does at rs s m h =
      if_does s.in_unit (asks (mach e at rs s m)) (faults 206 (mach e at rs s m)) (at + 1) rs s (Asks verb.Redo s) (source.faults 206 s)
      (stop_ends system setting.program e at rs s m (Some instr.Restart) verb.Redo h refl (λ a. refl))
      (fault_ends system setting.program e (mach e at rs s m) s.answers 206)

  module _ (kind : (if nat_lt e.program (length system.programs) then false else true) ≡ setting.is_server) where
    -- STOP RUN, and the end of a program that no other called
    pub stop_does : (at to : ℕ) (rs rs' : List Return) (s : ProgramState) (m : Marks) (i : Option Instr) → slice_get (code_at system e.program).instrs at ≡ i → steps.asked_by i (asks (mach e at rs s m)) ≡ verb.Stop
        → ((a : Answer) → puts.answered_by system i a (asks (mach e at rs s m)) ≡ asks (mach e at rs s m))
        → DoesFrom system setting.program e s (calls.stops system (mach e at rs s m)) to rs' (sends.stop setting s)
    stop_does at to rs rs' s m i h is same =
        subst (λ b. DoesFrom system setting.program e s (if b then faults 209 (mach e at rs s m) else (if s.in_unit then faults 207 (mach e at rs s m) else asks (mach e at rs s m))) to rs' (sends.stop setting s)) (sym kind)
        (if_does setting.is_server (faults 209 (mach e at rs s m)) (if s.in_unit then faults 207 (mach e at rs s m) else asks (mach e at rs s m)) to rs' s (source.faults 209 s) (if s.in_unit then source.faults 207 s else Asks verb.Stop s)
        (fault_ends system setting.program e (mach e at rs s m) s.answers 209)
        (if_does s.in_unit (faults 207 (mach e at rs s m)) (asks (mach e at rs s m)) to rs' s (source.faults 207 s) (Asks verb.Stop s)
        (fault_ends system setting.program e (mach e at rs s m) s.answers 207)
        (stop_ends system setting.program e at rs s m i verb.Stop h is same)))

  -- ---- PERFORM

  -- the paragraph stands at its turn
  pub record Stands (turn : Turn) (ones : List Statement) : Type 0 where
    pub here : HasAt (code_at system e.program).instrs turn.start (body_code plan ones)
    pub end : slice_get (code_at system e.program).instrs turn.end ≡ Some (instr.ParagraphEnd turn.start)
    pub long : turn.start + body_size ones ≡ turn.end

  same-number : (n : ℕ) → (n == n) ≡ true
  same-number n = eq-eqb n n refl

  not-zero : (n : ℕ) → (suc n == 0) ≡ false
  not-zero n = by (suc n == 0) refl
    where
      by : (b : Bool) → (suc n == 0) ≡ b → b ≡ false
      by true is = let none : suc n ≡ 0 = eqb-true (suc n) 0 is in absurd (omega (arith, none))
      by false is = refl

  at-end : (start at : ℕ) (rs : List Return) (r : Return) (s : ProgramState) (m : Marks) → r.until ≡ at
      → turning.ends start (mach e at (rs ++ r ∷ []) s m) ≡ turning.comes_back start rs r (mach e at (rs ++ r ∷ []) s m)
  at-end start at rs r s m is =
      ap (λ o. turning.ends_by start o (mach e at (rs ++ r ∷ []) s m)) (split-end rs r)
      ∙ ap (λ b. if b then turning.comes_back start rs r (mach e at (rs ++ r ∷ []) s m) else on (mach e at (rs ++ r ∷ []) s m)) (ap (λ n. n == at) is ∙ same-number at)

  module _ (perform : Word → ProgramState → Out) (d : ℕ) (name : Word) (turn : Turn)
      (end : slice_get (code_at system e.program).instrs turn.end ≡ Some (instr.ParagraphEnd turn.start))
      (full : (rs : List Return) (t : ProgramState) → length rs + d ≡ turning.most_performs → nat_lt (length rs) turning.most_performs ≡ false → perform name t ≡ source.faults 202 t)
      (inside : (rs : List Return) (r : Return) (t : ProgramState) (m : Marks) → length rs + d ≡ turning.most_performs → nat_lt (length rs) turning.most_performs ≡ true → Ground setting.program t.store
      → DoesFrom system setting.program e t (mach e turn.start (rs ++ r ∷ []) t m) turn.end (rs ++ r ∷ []) (perform name t)) where
    -- a turn that begins, from where it comes back to a place
    pub turn_does : (resume x to : ℕ) (rs : List Return) (left : ℕ) (t : ProgramState) (m : Marks) (next : ProgramState → Out) → length rs + d ≡ turning.most_performs → Ground setting.program t.store
        → ((u : ProgramState) (n : Marks) → budget u < budget t → Ground setting.program u.store → nat_lt (length rs) turning.most_performs ≡ true
        → DoesFrom system setting.program e u (turning.comes_back turn.start rs (record { resume = resume; until = turn.end; turns = left }) (mach e turn.end (rs ++ (record { resume = resume; until = turn.end; turns = left }) ∷ []) u n)) to rs (next u))
        → DoesFrom system setting.program e t (turning.turn resume turn left (mach e x rs t m)) to rs (source.statement_counted (λ u. then_do (perform name u) next) t)
    turn_does resume x to rs left t m next is ground h =
        let r : Return = record { resume = resume; until = turn.end; turns = left } in
        ticks system setting.program e x rs t m to rs
        (λ c. if nat_lt (length c.top.returns) turning.most_performs then turning.placed turn.start (c.top.returns ++ r ∷ []) c else faults 202 c)
        (λ u. then_do (perform name u) next)
        (λ u less same. by (nat_lt (length rs) turning.most_performs) refl u less same)
      where
        by : (b : Bool) → nat_lt (length rs) turning.most_performs ≡ b → (u : ProgramState) → budget u < budget t → u.store ≡ t.store
            → DoesFrom system setting.program e u (if b then mach e turn.start (rs ++ (record { resume = resume; until = turn.end; turns = left }) ∷ []) u m else faults 202 (mach e x rs u m)) to rs (then_do (perform name u) next)
        by false f u less same =
            subst (λ o. DoesFrom system setting.program e u (faults 202 (mach e x rs u m)) to rs (then_do o next)) (sym (full rs u is f)) (fault_ends system setting.program e (mach e x rs u m) u.answers 202)
        by true f u less same =
            let r : Return = record { resume = resume; until = turn.end; turns = left } in
            seq system setting.program e (budget u) (mach e turn.start (rs ++ r ∷ []) u m) u.answers turn.end to (rs ++ r ∷ []) rs (perform name u) next
            (inside rs r u m is f (subst (Ground setting.program) (sym same) ground))
            (λ w n w_less w_ground.
            after system setting.program e (budget w) _ _ w.answers w.answers to rs (next w) (one system e turn.end (rs ++ r ∷ []) w n w.answers (Some (instr.ParagraphEnd turn.start)) end)
            (subst (λ c. DoesFrom system setting.program e w c to rs (next w)) (sym (at-end turn.start turn.end rs r w n refl))
            (h w n (omega (arith, less, w_less)) w_ground f)))

    -- PERFORM
    pub perform_does : (at : ℕ) (rs : List Return) (t : ProgramState) (m : Marks) → length rs + d ≡ turning.most_performs → Ground setting.program t.store
        → DoesFrom system setting.program e t (turning.turn (at + 1) turn 0 (mach e at rs t m)) (at + 1) rs (source.statement_counted (perform name) t)
    perform_does at rs t m is ground =
        subst (λ o. DoesFrom system setting.program e t (turning.turn (at + 1) turn 0 (mach e at rs t m)) (at + 1) rs o) (goes_same (nat_lt t.count source.most_counted))
        (turn_does (at + 1) at (at + 1) rs 0 t m Goes is ground
        (λ u n less u_ground f. record { marks = n; ground = u_ground; less = omega arith; leads = stays system (mach e (at + 1) rs u n) u.answers }))
      where
        then-goes : (o : Out) → then_do o Goes ≡ o
        then-goes (Goes u) = refl
        then-goes (Leaves u) = refl
        then-goes (Asks v u) = refl

        goes_same : (b : Bool) → (if b then then_do (perform name (record t { count = t.count + 1 })) Goes else source.faults 201 t) ≡ (if b then perform name (record t { count = t.count + 1 }) else source.faults 201 t)
        goes_same true = then-goes (perform name (record t { count = t.count + 1 }))
        goes_same false = refl

    -- the turns that follow one
    later_does : (n resume : ℕ) (rs : List Return) (t : ProgramState) (m : Marks) → length rs + d ≡ turning.most_performs → nat_lt (length rs) turning.most_performs ≡ true → Ground setting.program t.store
        → let r : Return = record { resume = resume; until = turn.end; turns = n } in
        DoesFrom system setting.program e t (turning.comes_back turn.start rs r (mach e turn.end (rs ++ r ∷ []) t m)) resume rs (turns n (perform name) t)
    later_does zero resume rs t m is f ground = record { marks = m; ground = ground; less = omega arith; leads = stays system (mach e resume rs t m) t.answers }
    later_does (suc n) resume rs t m is f ground =
        let r : Return = record { resume = resume; until = turn.end; turns = suc n } in
        let q : Return = record { resume = resume; until = turn.end; turns = suc n - 1 } in
        let fewer : suc n - 1 ≡ n = omega arith in
        let again : DoesFrom system setting.program e t (code_statement_counted (turning.placed turn.start (rs ++ q ∷ [])) (mach e turn.end (rs ++ r ∷ []) t m)) resume rs (then_do (source.statement_counted (perform name) t) (turns n (perform name))) =
        subst (λ o. DoesFrom system setting.program e t (code_statement_counted (turning.placed turn.start (rs ++ q ∷ [])) (mach e turn.end (rs ++ r ∷ []) t m)) resume rs o) (counted-then t)
        (ticks system setting.program e turn.end (rs ++ r ∷ []) t m resume rs (turning.placed turn.start (rs ++ q ∷ [])) (λ u. then_do (perform name u) (turns n (perform name)))
        (λ u less same.
        seq system setting.program e (budget u) (mach e turn.start (rs ++ q ∷ []) u m) u.answers turn.end resume (rs ++ q ∷ []) rs (perform name u) (turns n (perform name))
        (inside rs q u m is f (subst (Ground setting.program) (sym same) ground))
        (λ w k w_less w_ground.
        after system setting.program e (budget w) _ _ w.answers w.answers resume rs (turns n (perform name) w) (one system e turn.end (rs ++ q ∷ []) w k w.answers (Some (instr.ParagraphEnd turn.start)) end)
        (subst (λ c. DoesFrom system setting.program e w c resume rs (turns n (perform name) w)) (sym (at-end turn.start turn.end rs q w k refl))
        (subst (λ j. DoesFrom system setting.program e w (turning.comes_back turn.start rs (record { resume = resume; until = turn.end; turns = j }) (mach e turn.end (rs ++ (record { resume = resume; until = turn.end; turns = j }) ∷ []) w k)) resume rs (turns n (perform name) w))
        (sym fewer) (later_does n resume rs w k is f w_ground)))))) in
        subst (λ b. DoesFrom system setting.program e t (if b then turning.placed resume rs (mach e turn.end (rs ++ r ∷ []) t m) else code_statement_counted (turning.placed turn.start (rs ++ q ∷ [])) (mach e turn.end (rs ++ r ∷ []) t m)) resume rs (then_do (source.statement_counted (perform name) t) (turns n (perform name))))
        (sym (not-zero n)) again
      where
        counted-by : (b : Bool) (u v : ProgramState) → then_do (if b then perform name u else source.faults 201 v) (turns n (perform name)) ≡ (if b then then_do (perform name u) (turns n (perform name)) else source.faults 201 v)
        counted-by true u v = refl
        counted-by false u v = refl

        counted-then : (u : ProgramState) → source.statement_counted (λ w. then_do (perform name w) (turns n (perform name))) u ≡ then_do (source.statement_counted (perform name) u) (turns n (perform name))
        counted-then u = sym (counted-by (nat_lt u.count source.most_counted) (record u { count = u.count + 1 }) u)

    -- PERFORM TIMES
    pub times_does : (count at : ℕ) (rs : List Return) (t : ProgramState) (m : Marks) → length rs + d ≡ turning.most_performs → Ground setting.program t.store
        → DoesFrom system setting.program e t (turning.turns turn count (mach e at rs t m)) (at + 1) rs (turns count (perform name) t)
    times_does zero at rs t m is ground = record { marks = m; ground = ground; less = omega arith; leads = stays system (mach e (at + 1) rs t m) t.answers }
    times_does (suc n) at rs t m is ground =
        let fewer : suc n - 1 ≡ n = omega arith in
        let first : DoesFrom system setting.program e t (turning.turn (at + 1) turn n (mach e at rs t m)) (at + 1) rs (source.statement_counted (λ u. then_do (perform name u) (turns n (perform name))) t) =
        turn_does (at + 1) at (at + 1) rs n t m (turns n (perform name)) is ground (λ u k less u_ground f. later_does n (at + 1) rs u k is f u_ground) in
        subst (λ b. DoesFrom system setting.program e t (if b then on (mach e at rs t m) else turning.turn (at + 1) turn (suc n - 1) (mach e at rs t m)) (at + 1) rs (then_do (source.statement_counted (perform name) t) (turns n (perform name))))
        (sym (not-zero n))
        (subst (λ k. DoesFrom system setting.program e t (turning.turn (at + 1) turn k (mach e at rs t m)) (at + 1) rs (then_do (source.statement_counted (perform name) t) (turns n (perform name)))) (sym fewer)
        (subst (λ o. DoesFrom system setting.program e t (turning.turn (at + 1) turn n (mach e at rs t m)) (at + 1) rs o) (counted-by (nat_lt t.count source.most_counted)) first))
      where
        counted-by : (b : Bool) → (if b then then_do (perform name (record t { count = t.count + 1 })) (turns n (perform name)) else source.faults 201 t)
            ≡ then_do (if b then perform name (record t { count = t.count + 1 }) else source.faults 201 t) (turns n (perform name))
        counted-by true = refl
        counted-by false = refl

    -- PERFORM UNTIL, from the test on
    pub until_does : (n at : ℕ) (cond : ConditionForm) (rs : List Return) (t : ProgramState) (m : Marks) → length rs + d ≡ turning.most_performs → Ground setting.program t.store → Each (Each (ComparisonIndexed setting.is_server setting.deck setting.program)) cond.any
        → slice_get (code_at system e.program).instrs at ≡ Some (instr.Until turn (compiled.cond_of setting.program.layout cond)) → budget t ≤ n
        → DoesFrom system setting.program e t (mach e at rs t m) (at + 1) rs (turns_until n (λ u. conditions.holds setting.program u cond) (perform name) t)
    until_does zero at cond rs t m is ground fits h le =
        let full_count : nat_lt t.count source.most_counted ≡ false = le-ltb t.count source.most_counted (omega (arith, le)) in
        after system setting.program e (budget t) _ _ t.answers t.answers (at + 1) rs _ (one system e at rs t m t.answers (Some (instr.Until turn (compiled.cond_of setting.program.layout cond))) h)
        (subst (λ o. DoesFrom system setting.program e t (turning.tested turn o (mach e at rs t m)) (at + 1) rs (tested (conditions.holds setting.program t cond) (source.faults 201) t))
        (sym (holds-same setting.is_server setting.deck setting.program known t e.tail ground cond fits)) (by full_count (conditions.holds setting.program t cond)))
      where
        by : nat_lt t.count source.most_counted ≡ false → (o : Option Bool) → DoesFrom system setting.program e t (turning.tested turn o (mach e at rs t m)) (at + 1) rs (tested o (source.faults 201) t)
        by f None = fault_ends system setting.program e (mach e at rs t m) t.answers 203
        by f (Some true) = record { marks = m; ground = ground; less = omega arith; leads = stays system (mach e (at + 1) rs t m) t.answers }
        by f (Some false) =
            subst (λ b. DoesFrom system setting.program e t (if b then (if nat_lt (length rs) turning.most_performs then mach e turn.start (rs ++ (record { resume = at; until = turn.end; turns = 0 }) ∷ []) (record t { count = t.count + 1 }) m else faults 202 (mach e at rs (record t { count = t.count + 1 }) m)) else faults 201 (mach e at rs t m)) (at + 1) rs (source.faults 201 t))
            (sym f) (fault_ends system setting.program e (mach e at rs t m) t.answers 201)
    until_does (suc n) at cond rs t m is ground fits h le =
        let next = turns_until n (λ u. conditions.holds setting.program u cond) (perform name) in
        let again : DoesFrom system setting.program e t (turning.turn at turn 0 (mach e at rs t m)) (at + 1) rs (source.statement_counted (λ u. then_do (perform name u) next) t) =
        turn_does at at (at + 1) rs 0 t m next is ground (λ u k less u_ground f. until_does n at cond rs u k is u_ground fits h (omega (arith, le, less))) in
        after system setting.program e (budget t) _ _ t.answers t.answers (at + 1) rs _ (one system e at rs t m t.answers (Some (instr.Until turn (compiled.cond_of setting.program.layout cond))) h)
        (subst (λ o. DoesFrom system setting.program e t (turning.tested turn o (mach e at rs t m)) (at + 1) rs (turns_until (suc n) (λ u. conditions.holds setting.program u cond) (perform name) t))
        (sym (holds-same setting.is_server setting.deck setting.program known t e.tail ground cond fits)) (by (conditions.holds setting.program t cond) again))
      where
        by : (o : Option Bool) → DoesFrom system setting.program e t (turning.turn at turn 0 (mach e at rs t m)) (at + 1) rs (source.statement_counted (λ u. then_do (perform name u) (turns_until n (λ w. conditions.holds setting.program w cond) (perform name))) t)
            → DoesFrom system setting.program e t (turning.tested turn o (mach e at rs t m)) (at + 1) rs (tested o (λ u. then_do (source.statement_counted (perform name) u) (turns_until n (λ w. conditions.holds setting.program w cond) (perform name))) t)
        by None again = fault_ends system setting.program e (mach e at rs t m) t.answers 203
        by (Some true) again = record { marks = m; ground = ground; less = omega arith; leads = stays system (mach e (at + 1) rs t m) t.answers }
        by (Some false) again = subst (λ o. DoesFrom system setting.program e t (turning.turn at turn 0 (mach e at rs t m)) (at + 1) rs o) (counted-by (nat_lt t.count source.most_counted)) again
          where
            counted-by : (b : Bool) → (if b then then_do (perform name (record t { count = t.count + 1 })) (turns_until n (λ w. conditions.holds setting.program w cond) (perform name)) else source.faults 201 t)
                ≡ then_do (if b then perform name (record t { count = t.count + 1 }) else source.faults 201 t) (turns_until n (λ w. conditions.holds setting.program w cond) (perform name))
            counted-by true = refl
            counted-by false = refl
