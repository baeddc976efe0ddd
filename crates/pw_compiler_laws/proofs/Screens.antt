-- The code of DISPLAY and ACCEPT does what they do.
use Rattle.std.proofs.Common.{◌≡◌, ℕ, suc, ◌+◌, ◌*◌, Bool, List, [], ◌∷◌, ◌++◌, length, Some, refl, sym, ap, ◌∙◌, subst, arith}
use Rattle.std.specs.Prelude.{slice_get}
use Rattle.pw_data.specs.Store.{joined}
use Rattle.pw_forms.specs.declared.operand.Operand.{Operand}
use Rattle.pw_operands.specs.Resolved.{Each}
use Rattle.pw_code.specs.Entry.{EntryLineModel}
use Rattle.pw_code.specs.Instrs.{screen_at}
use Rattle.pw_code.specs.declared.context.Course.TheVariants.{Advisory}
use Rattle.pw_code.specs.declared.context.Return.{Return}
use Rattle.pw_code.specs.declared.field.Field.{Field}
use Rattle.pw_code.specs.declared.field.ScreenTable.{ScreenTable}
use Rattle.pw_code.specs.declared.instr.Instr.{Instr}
use Rattle.pw_code.specs.declared.instr.Instr.TheVariants as instr
use Rattle.pw_code.specs.declared.system.System.{System}
use Rattle.pw_code.specs.declared.verb.Answer.{Answer}
use Rattle.pw_code.specs.declared.verb.Answer.TheVariants as answer
use Rattle.pw_code.specs.declared.verb.Verb.TheVariants as verb
use Rattle.pw_terminal.specs.Screen.{with_message}
use Rattle.pw_terminal.specs.Shown.{with_screen}
use Rattle.pw_terminal.specs.Entries.{check, with_advice}
use Rattle.pw_terminal.specs.declared.entries.EntryAnswer.{EntryAnswer}
use Rattle.pw_terminal.specs.declared.entries.EntryAnswer.TheVariants as found
use Rattle.pw_tree_meaning.specs.Setting.{Setting}
use Rattle.pw_tree_meaning.specs.State.{ProgramState, Out, Goes, most_counted}
use Rattle.pw_tree_meaning.specs.Operands as operands
use Rattle.pw_tree_meaning.specs.Performs.{budget}
use Rattle.pw_tree_meaning.specs.Screens as screens
use Rattle.pw_tree_meaning.specs.Values.{as_it_stands}
use Rattle.pw_code_meaning.specs.Answers as puts
use Rattle.pw_code_meaning.specs.Config.{Config, code_at, asks, on, with_storage}
use Rattle.pw_code_meaning.specs.Runs.{run}
use Rattle.pw_code_meaning.specs.Steps as steps
use Rattle.pw_compile.specs.Operands as code
use Rattle.pw_compiler_laws.proofs.Ground.{Ground}
use Rattle.pw_compiler_laws.proofs.Operands.{Known, Indexed}
use Rattle.pw_compiler_laws.proofs.Readings.{read-same}
use Rattle.pw_compiler_laws.proofs.Leading.{Env, Marks, mach, Leads, Does, DoesFrom, stays, after, weaker, taken_does, verb_does}
use Rattle.pw_compiler_laws.specs.Premises.{IsShownOf}
use Rattle.pw_compiler_laws.proofs.Fields.{fields-sit, shown-same, entered-same, entered-ground}

module _ (system : System) (setting : Setting) (known : Known setting.is_server setting.program) (e : Env) where
  -- ---- DISPLAY

  -- cells are shown
  pub cells_do : (at : ℕ) (rs : List Return) (s : ProgramState) (m : Marks) (i : Instr) (cells : List ℕ) → Ground setting.program s.store
      → slice_get (code_at system e.program).instrs at ≡ Some i
      → steps.asked_by (Some i) (asks (mach e at rs (record s { screen = cells }) m)) ≡ verb.Show
      → ((a : Answer) → puts.answered_by system (Some i) a (asks (mach e at rs (record s { screen = cells }) m)) ≡ on (puts.shown (asks (mach e at rs (record s { screen = cells }) m))))
      → DoesFrom system setting.program e s (steps.shows cells (mach e at rs s m)) (at + 1) rs (screens.shows cells s)
  cells_do at rs s m i cells ground h is same =
      let u : ProgramState = record s { screen = cells } in
      verb_does system setting.program e at rs u m (at + 1) rs i verb.Show (λ a t. Goes t) h is
      (λ a given.
      let t : ProgramState = record u { count = 0; answers = given } in
      subst (λ c. DoesFrom system setting.program e t c (at + 1) rs (Goes t)) (sym (same a))
      (record { marks = record m { shown = m.shown + 1 }; ground = ground; less = omega arith; leads = stays system _ given }))

  -- a screen
  pub screen_does : (base : Bool) (n : ℕ) (table : ScreenTable) (at : ℕ) (rs : List Return) (s : ProgramState) (m : Marks) → Ground setting.program s.store
      → screen_at system n ≡ table → Each (λ (field : Field). IsShownOf setting.program.layout field.shown) table.fields
      → slice_get (code_at system e.program).instrs at ≡ Some (instr.DisplayScreen n base)
      → DoesFrom system setting.program e s (steps.does system (instr.DisplayScreen n base) (mach e at rs s m)) (at + 1) rs (screens.display_table base (Some table) s)
  screen_does base n table at rs s m ground is each h =
      let sits = fields-sit setting.program s.store table.fields known.fits ground each in
      let same : with_screen base (joined s.store ++ e.tail) (screen_at system n) s.screen ≡ with_screen base (joined s.store) table s.screen =
      ap (λ (one : ScreenTable). with_screen base (joined s.store ++ e.tail) one s.screen) is
      ∙ shown-same base s.store e.tail table.fields _ sits in
      subst (λ (cells : List ℕ). DoesFrom system setting.program e s (steps.shows cells (mach e at rs s m)) (at + 1) rs (screens.display_table base (Some table) s)) (sym same)
      (cells_do at rs s m (instr.DisplayScreen n base) (with_screen base (joined s.store) table s.screen) ground h refl (λ a. refl))

  -- an operand
  pub operand_shown : (one : Operand) → Indexed setting.is_server setting.deck setting.program one → (at : ℕ) (rs : List Return) (s : ProgramState) (m : Marks) → Ground setting.program s.store
      → slice_get (code_at system e.program).instrs at ≡ Some (instr.Display (code.operand_of setting.program.layout one))
      → DoesFrom system setting.program e s (steps.does system (instr.Display (code.operand_of setting.program.layout one)) (mach e at rs s m)) (at + 1) rs
      (operands.with_operand setting.program one s (λ found. screens.shows (with_message (operands.chars_in found s.store) s.screen) s))
  operand_shown one own at rs s m ground h =
      taken_does system setting.program e (λ found. operands.value_in found s.store) (operands.operand_taken setting.program s one) _ (budget s) at rs s m (at + 1) rs
      (λ value d. steps.shows (with_message (as_it_stands value) d.rest.screen) d)
      (λ found. screens.shows (with_message (operands.chars_in found s.store) s.screen) s)
      (read-same setting.is_server setting.deck setting.program known s e.tail ground one own)
      (λ found taken_is.
      cells_do at rs s m (instr.Display (code.operand_of setting.program.layout one)) (with_message (operands.chars_in found s.store) s.screen) ground h refl (λ a. refl))

  -- ---- ACCEPT

  module _ (at : ℕ) (rs : List Return) (n : ℕ) (keys : List ℕ) (table : ScreenTable) (is : screen_at system n ≡ table)
      (each : Each (λ (field : Field). IsShownOf setting.program.layout field.shown) table.fields)
      (h : slice_get (code_at system e.program).instrs at ≡ Some (instr.Accept n keys)) where
    -- at the ACCEPT, whatever is counted
    abbrev there : ℕ → ProgramState → Marks → Config
    there count s m = asks (mach e at rs (record s { count = count }) m)

    -- behind a wrong entry
    abbrev wrong : ProgramState → Marks → Config
    wrong s m = record (mach e at rs (record s { count = 0 }) m) { rest = record (mach e at rs (record s { count = 0 }) m).rest { course = Advisory } }

    abbrev Awaits : List Answer → Config → Out → Type 0
    Awaits answers c o = Does system setting.program e (most_counted * length answers) c answers (at + 1) rs o

    -- an entry that was looked at
    checked : (line : EntryLineModel) (answer_is : EntryAnswer) (count : ℕ) (s : ProgramState) (m : Marks) (given : List Answer) (next : ProgramState → Out) → Ground setting.program s.store
        → ((t : ProgramState) (k : Marks) → Ground setting.program t.store → Awaits given (wrong t k) (next t))
        → Does system setting.program e (most_counted * length given + most_counted) (puts.entry_checked table line answer_is (there count s m)) given (at + 1) rs
        (screens.entry_checked table line answer_is next (record s { count = 0; answers = given }))
    checked line (found.Valid place) count s m given next ground h' =
        let t : ProgramState = record s {
          count = 0;
          answers = given;
          store = screens.store_entered table.fields line.fields s.store;
          registers = record s.registers { termination = place };
        } in
        let k : Marks = record m { entries = m.entries + 1 } in
        let sits = fields-sit setting.program s.store table.fields known.fits ground each in
        let c : List ℕ → Config = λ storage.
        on (record (with_storage storage (there count s m)) { rest = record (puts.answered (there count s m).rest) { entries = m.entries + 1; termination = place } }) in
        record {
          marks = k;
          ground = entered-ground setting.program table.fields line.fields s.store ground;
          less = omega arith;
          leads = subst (λ (storage : List ℕ). Leads system (c storage) given (mach e (at + 1) rs t k) given) (sym (entered-same table.fields line.fields s.store e.tail sits))
              (stays system (mach e (at + 1) rs t k) given);
        }
    checked line found.BadKey count s m given next ground h' =
        let t : ProgramState = record s { count = 0; answers = given; screen = with_advice found.BadKey line s.screen } in
        weaker system setting.program e (most_counted * length given) (most_counted * length given + most_counted) _ given (at + 1) rs (next t) (omega arith)
        (h' t (record m { entries = m.entries + 1 }) ground)
    checked line (found.BadField place) count s m given next ground h' =
        let t : ProgramState = record s { count = 0; answers = given; screen = with_advice (found.BadField place) line s.screen } in
        weaker system setting.program e (most_counted * length given) (most_counted * length given + most_counted) _ given (at + 1) rs (next t) (omega arith)
        (h' t (record m { entries = m.entries + 1 }) ground)

    -- what is no entry
    passes : (count : ℕ) (s : ProgramState) (m : Marks) (given : List Answer) → Ground setting.program s.store
        → Does system setting.program e (most_counted * length given + most_counted) (puts.passed (there count s m)) given (at + 1) rs (Goes (record s { count = 0; answers = given }))
    passes count s m given ground = record { marks = m; ground = ground; less = omega arith; leads = stays system _ given }

    -- an answer
    taken : (a : Answer) (count : ℕ) (s : ProgramState) (m : Marks) (given : List Answer) (next : ProgramState → Out) → Ground setting.program s.store
        → ((t : ProgramState) (k : Marks) → Ground setting.program t.store → Awaits given (wrong t k) (next t))
        → Does system setting.program e (most_counted * length given + most_counted) (puts.entry_put table keys a (there count s m)) given (at + 1) rs
        (screens.entry_taken table keys a next (record s { count = 0; answers = given }))
    taken (answer.Entry line) count s m given next ground h' = checked line (check table keys line) count s m given next ground h'
    taken answer.Shown count s m given next ground h' = passes count s m given ground
    taken (answer.Begun r) count s m given next ground h' = passes count s m given ground
    taken (answer.Replied reply) count s m given next ground h' = passes count s m given ground
    taken (answer.Failed x) count s m given next ground h' = passes count s m given ground
    taken answer.Ended count s m given next ground h' = passes count s m given ground
    taken answer.Dropped count s m given next ground h' = passes count s m given ground
    taken (answer.FileDone status content) count s m given next ground h' = passes count s m given ground

    mutual
      pub awaited_does : (answers : List Answer) (count : ℕ) (s : ProgramState) (m : Marks) → Ground setting.program s.store
          → Awaits answers (there count s m) (screens.awaited table keys (verb.Accept n) answers s)
      awaited_does [] count s m ground =
          record { steps = 0; last = there count s m; comes = refl; stands = refl; asks_it = ap (λ o. steps.asked_by o (there count s m)) h; shows = refl }
      awaited_does (a ∷ answers) count s m ground =
          let o : Out = screens.entry_taken table keys a (screens.advised table keys (verb.Accept n) answers) (record s { count = 0; answers = answers }) in
          weaker system setting.program e (most_counted * length answers + most_counted) (most_counted * length (a ∷ answers)) (there count s m) (a ∷ answers) (at + 1) rs o (omega arith)
          (after system setting.program e (most_counted * length answers + most_counted) (there count s m) (puts.answered_by system (Some (instr.Accept n keys)) a (there count s m)) (a ∷ answers) answers (at + 1) rs o
          (λ k. (suc k, ap (λ i. run system k (puts.answered_by system i a (there count s m)) answers) h))
          (subst (λ (one : ScreenTable). Does system setting.program e (most_counted * length answers + most_counted) (puts.entry_put one keys a (there count s m)) answers (at + 1) rs o) (sym is)
          (taken a count s m answers (screens.advised table keys (verb.Accept n) answers) ground (λ t k t_ground. advised_does answers t k t_ground))))

      pub advised_does : (answers : List Answer) (s : ProgramState) (m : Marks) → Ground setting.program s.store
          → Awaits answers (wrong s m) (screens.advised table keys (verb.Accept n) answers s)
      advised_does [] s m ground = record { steps = 1; last = asks (wrong s m); comes = refl; stands = refl; asks_it = refl; shows = refl }
      advised_does (a ∷ answers) s m ground =
          let t : ProgramState = record s { count = 0; answers = answers } in
          let k : Marks = record m { shown = m.shown + 1 } in
          let o : Out = screens.awaited table keys (verb.Accept n) answers t in
          weaker system setting.program e (most_counted * length answers) (most_counted * length (a ∷ answers)) (wrong s m) (a ∷ answers) (at + 1) rs o (omega arith)
          (after system setting.program e (most_counted * length answers) (wrong s m) (there 1 t k) (a ∷ answers) answers (at + 1) rs o
          (λ j. (suc (suc (suc j)), ap (λ i. run system j (steps.act system i (mach e at rs t k)) answers) h))
          (awaited_does answers 1 t k ground))

    pub accept_does : (s : ProgramState) (m : Marks) → Ground setting.program s.store
        → DoesFrom system setting.program e s (asks (mach e at rs s m)) (at + 1) rs (screens.awaited table keys (verb.Accept n) s.answers s)
    accept_does s m ground =
        weaker system setting.program e (most_counted * length s.answers) (budget s) (asks (mach e at rs s m)) s.answers (at + 1) rs (screens.awaited table keys (verb.Accept n) s.answers s) (omega arith)
        (awaited_does s.answers s.count s m ground)
