-- Programs of terminals and servers, from their start to their next verb.
use Rattle.std.proofs.Common.{◌≡◌, ℕ, zero, suc, ◌+◌, ◌-◌, ◌<◌, Bool, true, false, List, [], ◌∷◌, ◌++◌, length, map, fold, sum_by, Some, None, ◌⊎◌, inl, inr, if◌then◌else◌, refl, sym, ap, ◌∙◌, subst, arith}
use Rattle.std.specs.Prelude.{nat_lt, slice_get, slice_index_or}
use Rattle.std.proofs.lemmas.Bool.{le-ltb, lt-ltb}
use Rattle.std.proofs.lemmas.List.{length-append, append-nil}
use Rattle.pw_data.specs.Store.{joined}
use Rattle.pw_forms.specs.declared.statement.Paragraph.{Paragraph}
use Rattle.pw_operands.specs.Resolved.{Each}
use Rattle.pw_code.specs.Instrs.{no_code, program_at}
use Rattle.pw_code.specs.declared.code.Code.{Code}
use Rattle.pw_code.specs.declared.context.Frame.{Frame}
use Rattle.pw_code.specs.declared.context.Return.{Return}
use Rattle.pw_code.specs.declared.instr.Instr.TheVariants as instr
use Rattle.pw_code.specs.declared.system.System.{System}
use Rattle.pw_code.specs.declared.verb.Answer.{Answer}
use Rattle.pw_code.specs.declared.verb.Verb.TheVariants as verb
use Rattle.pw_tree_meaning.specs.Program.{DeckModel, Program, storage_size, first_screen}
use Rattle.pw_tree_meaning.specs.Program as tree
use Rattle.pw_tree_meaning.specs.Setting.{Setting}
use Rattle.pw_tree_meaning.specs.Sound.{links_of}
use Rattle.pw_tree_meaning.specs.State.{ProgramState, Out, Goes, Leaves, Asks}
use Rattle.pw_tree_meaning.specs.State as source
use Rattle.pw_tree_meaning.specs.Sends as sends
use Rattle.pw_tree_meaning.specs.Store.{Spot, initial_store}
use Rattle.pw_tree_meaning.specs.Performs as performs
use Rattle.pw_tree_meaning.specs.Performs.{budget}
use Rattle.pw_tree_meaning.specs.Runs.{most_calls, setting_of, server_setting, called, program_run, program_ended, start, server_run, verb_of, asked_screen}
use Rattle.pw_code_meaning.specs.Calls as calls
use Rattle.pw_code_meaning.specs.Config.{Config, code_at, starting, starting_server, frame_at, fresh, faults}
use Rattle.pw_code_meaning.specs.Reading as reading
use Rattle.pw_code_meaning.specs.Turns as turns
use Rattle.pw_compile.specs.Programs.{linkage_of}
use Rattle.pw_compiler_laws.specs.Systems.{code_in, plan_in}
use Rattle.pw_compiler_laws.proofs.Ground.{Ground}
use Rattle.pw_compiler_laws.proofs.Operands.{Known}
use Rattle.pw_compiler_laws.proofs.Readings.{Sits}
use Rattle.pw_compiler_laws.proofs.Leading.{Env, Marks, mach, Leads, Ends, Left, Does, DoesFrom, Finishes, fault_ends}
use Rattle.pw_compiler_laws.proofs.Statements.{stop_does}
use Rattle.pw_compiler_laws.proofs.Suits.{Suits}
use Rattle.pw_compiler_laws.specs.Premises.{AreItems}
use Rattle.pw_compiler_laws.proofs.Arguments.{linkage-put, arguments-say, arguments-long, put-ground}
use Rattle.pw_compiler_laws.proofs.Calls.{IsCallee, CallDoes, inner}
use Rattle.pw_compiler_laws.proofs.Whole.{IsSet, is_plan_in}
use Rattle.pw_compiler_laws.proofs.Flow.{program_does}

-- what is known of a program of terminals, by its number
pub record IsProgram (system : System) (deck : DeckModel) (q : ℕ) : Type 0 where
  pub known : Known false (tree.program_at deck.programs q)
  pub requester : nat_lt q (length system.programs) ≡ true
  pub coded : program_at system q ≡ code_in (links_of deck) (first_screen deck.programs q) (tree.program_at deck.programs q)
  pub items : AreItems (tree.program_at deck.programs q) (tree.program_at deck.programs q).parameters
  pub suits : Each (λ (p : Paragraph). Each (Suits system (setting_of deck q)) p.body) (tree.program_at deck.programs q).paragraphs
  pub ground : Ground (tree.program_at deck.programs q) (initial_store (tree.program_at deck.programs q))
  pub starts : joined (initial_store (tree.program_at deck.programs q)) ≡ (tree.program_at deck.programs q).layout.storage

-- a record in a list is that of its number
sum-behind : {A : Type 0} (f : A → ℕ) (xs : List A) (y : A) (n : ℕ) → fold (λ a x. a + f x) n (xs ++ y ∷ []) ≡ fold (λ a x. a + f x) n xs + f y
sum-behind f [] y n = refl
sum-behind f (x ∷ xs) y n = sum-behind f xs y (n + f x)

module _ (system : System) (deck : DeckModel) (all : (q : ℕ) → q < length deck.programs → IsProgram system deck q) where
  code-is : (q : ℕ) → q < length deck.programs → code_at system q ≡ code_in (links_of deck) (first_screen deck.programs q) (tree.program_at deck.programs q)
  code-is q lt = ap (λ b. if b then program_at system q else slice_index_or system.servers (q - length system.programs) no_code) (all q lt).requester ∙ (all q lt).coded

  pub is_callee : (q : ℕ) → q < length deck.programs → IsCallee system q (tree.program_at deck.programs q)
  is_callee q lt = record {
    fits = (all q lt).known.fits;
    storage = ap (λ (code : Code). code.storage) (code-is q lt);
    linkage = ap (λ (code : Code). code.linkage) (code-is q lt);
    items = (all q lt).items;
  }

  abbrev env : ℕ → List Frame → List ℕ → Env
  env q callers tail = record { program = q; callers = callers; tail = tail }

  is_set : (q : ℕ) → q < length deck.programs → (callers : List Frame) (tail : List ℕ) → IsSet system (setting_of deck q) (env q callers tail)
  is_set q lt callers tail = record {
    known = (all q lt).known;
    kind = ap (λ b. if b then false else true) (all q lt).requester;
    not_alone = refl;
    told = λ is. absurd cc;
    stored = ap (λ (code : Code). length code.storage) (code-is q lt);
    callees = is_callee;
  }

  -- a program from its first paragraph on
  runs_by : (q : ℕ) (lt : q < length deck.programs) (callers : List Frame) (tail : List ℕ) (call : ℕ → List (List ℕ) → ProgramState → Out) → CallDoes system (setting_of deck q) (env q callers tail) call
      → (s : ProgramState) (m : Marks) → Ground (tree.program_at deck.programs q) s.store
      → Finishes system (tree.program_at deck.programs q) (env q callers tail) (budget s) (mach (env q callers tail) 0 [] s m) s.answers (program_run (setting_of deck q) call s)
  runs_by q lt callers tail call does s m ground =
      program_does system (setting_of deck q) (env q callers tail) (is_set q lt callers tail) call (λ is. does)
      (ap (λ (code : Code). code.instrs) (code-is q lt)) (all q lt).suits s m ground

  -- the storage with which a called program starts
  enters : (q : ℕ) → q < length deck.programs → (spots : List Spot) (store : _) (tail : List ℕ) → Each (Sits store) spots
      → map (λ (spot : Spot). spot.size) spots ≡ map (λ (item : ℕ × ℕ). item.1) (linkage_of (tree.program_at deck.programs q).layout (tree.program_at deck.programs q).parameters)
      → calls.put_linkage (program_at system q).linkage (map (λ (spot : Spot). reading.chars_at spot (joined store ++ tail)) spots) (program_at system q).storage
      ≡ joined (performs.put_all (performs.parameter_spots (tree.program_at deck.programs q)) (performs.chars_of_all spots store) (initial_store (tree.program_at deck.programs q)))
  enters q lt spots store tail sits sizes =
      let callee = tree.program_at deck.programs q in
      let known = all q lt in
      let given = performs.chars_of_all spots store in
      let store' = initial_store callee in
      ap (λ (code : Code). calls.put_linkage code.linkage (map (λ (spot : Spot). reading.chars_at spot (joined store ++ tail)) spots) code.storage) known.coded
      ∙ ap (λ (chars : List (List ℕ)). calls.put_linkage (linkage_of callee.layout callee.parameters) chars callee.layout.storage) (arguments-say spots store tail sits)
      ∙ ap (λ (storage : List ℕ). calls.put_linkage (linkage_of callee.layout callee.parameters) given storage) (sym known.starts ∙ sym (append-nil (joined store')))
      ∙ linkage-put callee known.known.fits callee.parameters given store' known.items known.ground (arguments-long spots store sits ∙ sizes)
      ∙ append-nil (joined (performs.put_all (performs.parameter_spots callee) given store'))

  abbrev Does' : ℕ → ℕ → ℕ → List Frame → List ℕ → Type 0
  Does' n used q callers tail = CallDoes system (setting_of deck q) (env q callers tail) (called n deck used)

  -- CALLs of a program behind some that wait
  pub calls_do : (n used q : ℕ) → q < length deck.programs → (callers : List Frame) (tail : List ℕ) → length callers + n ≡ most_calls
      → sum_by (calls.items_of system) callers + length (code_at system q).storage ≡ used → Does' n used q callers tail
  calls_do zero used q lt callers tail depth sum p keeping spots at rs s m below sits sizes =
      let e = env q callers tail in
      let full : nat_lt (length callers) most_calls ≡ false = le-ltb (length callers) most_calls (omega (arith, depth)) in
      subst (λ b. Finishes system (tree.program_at deck.programs p) (inner e p keeping at rs s) (budget s)
      (if b then (if nat_lt calls.most_active (calls.active system (mach e at rs s m) + length (program_at system p).storage) then faults 208 (mach e at rs s m) else (record {
        top = calls.called_frame system p spots keeping (mach e at rs s m);
        rest = record (mach e at rs s m).rest { frames = callers ++ (mach e at rs s m).top ∷ [] };
      })) else faults 202 (mach e at rs s m))
      s.answers (source.faults 202 s)) (sym full)
      (fault_ends system (tree.program_at deck.programs p) e (mach e at rs s m) s.answers 202)
  calls_do (suc n) used q lt callers tail depth sum p keeping spots at rs s m below sits sizes =
      let e = env q callers tail in
      let callee = tree.program_at deck.programs p in
      let inside = inner e p keeping at rs s in
      let space : nat_lt (length callers) most_calls ≡ true = lt-ltb (length callers) most_calls (omega (arith, depth)) in
      let size : length (program_at system p).storage ≡ storage_size callee = ap (λ (code : Code). length code.storage) (all p below).coded in
      let entered : Config = record {
        top = calls.called_frame system p spots keeping (mach e at rs s m);
        rest = record (mach e at rs s m).rest { frames = callers ++ (mach e at rs s m).top ∷ [] };
      } in
      let t : ProgramState = record s { store = performs.put_all (performs.parameter_spots callee) (performs.chars_of_all spots s.store) (initial_store callee) } in
      let active : calls.active system (mach e at rs s m) + length (program_at system p).storage ≡ used + storage_size callee =
      ap (λ k. k + length (program_at system p).storage) sum ∙ ap (λ k. used + k) size in
      let long : length (callers ++ (mach e at rs s m).top ∷ []) ≡ length callers + 1 = length-append callers ((mach e at rs s m).top ∷ []) in
      let more : sum_by (calls.items_of system) (callers ++ (mach e at rs s m).top ∷ []) + length (code_at system p).storage ≡ used + storage_size callee =
      ap (λ k. k + length (code_at system p).storage) (sum-behind (calls.items_of system) callers (mach e at rs s m).top 0 ∙ sum) ∙ ap (λ (code : Code). used + length code.storage) (code-is p below) in
      let run : Finishes system callee inside (budget t) (mach inside 0 [] t m) t.answers (program_run (setting_of deck p) (called n deck (used + storage_size callee)) t) =
      runs_by p below (callers ++ (mach e at rs s m).top ∷ []) (calls.kept keeping s.registers) (called n deck (used + storage_size callee))
      (calls_do n (used + storage_size callee) p below (callers ++ (mach e at rs s m).top ∷ []) (calls.kept keeping s.registers) (omega (arith, depth, long)) more)
      t m (put-ground callee (performs.parameter_spots callee) (performs.chars_of_all spots s.store) (initial_store callee) (all p below).ground) in
      let goes : Finishes system callee inside (budget s) entered s.answers (program_run (setting_of deck p) (called n deck (used + storage_size callee)) t) =
      subst (λ (storage : List ℕ). Finishes system callee inside (budget s) (record {
        top = frame_at p (storage ++ calls.kept keeping s.registers);
        rest = record (mach e at rs s m).rest { frames = callers ++ (mach e at rs s m).top ∷ [] };
      }) s.answers (program_run (setting_of deck p) (called n deck (used + storage_size callee)) t)) (sym (enters p below spots s.store tail sits sizes)) run in
      subst (λ b. Finishes system callee inside (budget s)
      (if b then (if nat_lt calls.most_active (calls.active system (mach e at rs s m) + length (program_at system p).storage) then faults 208 (mach e at rs s m) else entered) else faults 202 (mach e at rs s m))
      s.answers (called (suc n) deck used p (performs.chars_of_all spots s.store) s)) (sym space)
      (subst (λ k. Finishes system callee inside (budget s) (if nat_lt calls.most_active k then faults 208 (mach e at rs s m) else entered) s.answers (called (suc n) deck used p (performs.chars_of_all spots s.store) s)) (sym active)
      (by (nat_lt calls.most_active (used + storage_size callee)) entered (program_run (setting_of deck p) (called n deck (used + storage_size callee)) t) goes))
    where
      by : (b : Bool) (c : Config) (o : Out)
          → Finishes system (tree.program_at deck.programs p) (inner (env q callers tail) p keeping at rs s) (budget s) c s.answers o
          → Finishes system (tree.program_at deck.programs p) (inner (env q callers tail) p keeping at rs s) (budget s) (if b then faults 208 (mach (env q callers tail) at rs s m) else c) s.answers (if b then source.faults 208 s else o)
      by true c o run = fault_ends system (tree.program_at deck.programs p) (env q callers tail) (mach (env q callers tail) at rs s m) s.answers 208
      by false c o run = run

-- ---- the end

pub first_ends : (system : System) (c d : Config) (p q : List Answer) (v : _) (screen : List ℕ) → Leads system c p d q → Ends system d q v screen → Ends system c p v screen
first_ends system c d p q v screen l f =
    let x = l f.steps in record { steps = x.0; last = f.last; comes = x.1 ∙ f.comes; stands = f.stands; asks_it = f.asks_it; shows = f.shows }

module _ (system : System) (setting : Setting) (e : Env) (set : IsSet system setting e) (first : e.callers ≡ []) where
  stopped : (a b : Bool) (c : Config) (p : List Answer) (n to : ℕ) (rs : List Return) (t : ProgramState)
      → Does system setting.program e n c p to rs (if a then source.faults 209 t else if b then source.faults 207 t else Asks verb.Stop t)
      → Ends system c p (verb_of (if a then source.faults 209 t else if b then source.faults 207 t else Asks verb.Stop t)) (asked_screen (if a then source.faults 209 t else if b then source.faults 207 t else Asks verb.Stop t))
  stopped true b c p n to rs t d = d
  stopped false true c p n to rs t d = d
  stopped false false c p n to rs t d = d

  left-ends : (b : ℕ) (c : Config) (p : List Answer) (t : ProgramState) → Left system setting.program e b c p t → Ends system c p (verb_of (sends.stop setting t)) (asked_screen (sends.stop setting t))
  left-ends b c p t l =
      let at_end = mach e l.at l.returns t l.marks in
      let none : calls.leaves system at_end ≡ calls.stops system at_end = ap (λ (frames : List Frame). calls.leaves_by system (turns.split_last frames) at_end) first in
      first_ends system c (calls.leaves system at_end) p t.answers _ _ l.leads
      (subst (λ d. Ends system d t.answers (verb_of (sends.stop setting t)) (asked_screen (sends.stop setting t))) (sym none)
      (stopped setting.is_server t.in_unit (calls.stops system at_end) t.answers (budget t) l.at l.returns t (by l.quiet)))
    where
      by : (slice_get (code_at system e.program).instrs l.at ≡ None) ⊎ (slice_get (code_at system e.program).instrs l.at ≡ Some instr.ExitProgram)
          → DoesFrom system setting.program e t (calls.stops system (mach e l.at l.returns t l.marks)) l.at l.returns (sends.stop setting t)
      by (inl none) = stop_does system setting set.known e (plan_in setting) (is_plan_in setting) set.kind l.at l.at l.returns l.returns t l.marks None none refl (λ a. refl)
      by (inr exit) = stop_does system setting set.known e (plan_in setting) (is_plan_in setting) set.kind l.at l.at l.returns l.returns t l.marks (Some instr.ExitProgram) exit refl (λ a. refl)

  pub ended_does : (b : ℕ) (c : Config) (p : List Answer) (o : Out) → Finishes system setting.program e b c p o → Ends system c p (verb_of (program_ended setting o)) (asked_screen (program_ended setting o))
  ended_does b c p (Goes t) f = left-ends b c p t f
  ended_does b c p (Leaves t) f = left-ends b c p t f
  ended_does b c p (Asks v t) f = f

abbrev pub no_marks : Marks
no_marks = record { phase = 0; attempt = 0; shown = 0; entries = 0; units = 0 }

-- ---- terminals

module _ (system : System) (deck : DeckModel) (all : (q : ℕ) → q < length deck.programs → IsProgram system deck q) where
  -- a program of a terminal comes to what its tree asks, over any answers
  pub terminal_does : (q : ℕ) → q < length deck.programs → (answers : List Answer)
      → let setting = setting_of deck q in
      let out = program_ended setting (program_run setting (called most_calls deck (storage_size setting.program)) (start setting.program answers)) in
      Ends system (starting system q) answers (verb_of out) (asked_screen out)
  terminal_does q lt answers =
      let setting = setting_of deck q in
      let program = setting.program in
      let s = start program answers in
      let e : Env = record { program = q; callers = []; tail = [] } in
      let storage : joined (initial_store program) ++ [] ≡ (program_at system q).storage =
      append-nil (joined (initial_store program)) ∙ (all q lt).starts ∙ sym (ap (λ (code : Code). code.storage) (all q lt).coded) in
      let none : 0 + length (code_at system q).storage ≡ storage_size program =
      ap (λ (code : Code). 0 + length code.storage) (code-is system deck all q lt) ∙ omega arith in
      let run = runs_by system deck all q lt [] [] (called most_calls deck (storage_size program))
      (calls_do system deck all most_calls (storage_size program) q lt [] [] refl none) s no_marks (all q lt).ground in
      let out = program_ended setting (program_run setting (called most_calls deck (storage_size program)) s) in
      subst (λ (chars : List ℕ). Ends system (record { top = frame_at q chars; rest = fresh }) answers (verb_of out) (asked_screen out)) storage
      (ended_does system setting e (is_set system deck all q lt [] []) refl (budget s) (mach e 0 [] s no_marks) answers (program_run setting (called most_calls deck (storage_size program)) s) run)

-- ---- servers

-- what is known of a server, by its number
pub record IsServer (system : System) (deck : DeckModel) (q : ℕ) : Type 0 where
  pub known : Known true (tree.program_at deck.servers q)
  pub server : nat_lt (length system.programs + q) (length system.programs) ≡ false
  pub coded : code_at system (length system.programs + q) ≡ code_in (links_of deck) 0 (tree.program_at deck.servers q)
  pub suits : (message : List ℕ) → Each (λ (p : Paragraph). Each (Suits system (server_setting deck q message false)) p.body) (tree.program_at deck.servers q).paragraphs
  pub ground : Ground (tree.program_at deck.servers q) (initial_store (tree.program_at deck.servers q))
  pub starts : joined (initial_store (tree.program_at deck.servers q)) ≡ (tree.program_at deck.servers q).layout.storage

module _ (system : System) (deck : DeckModel) (all : (q : ℕ) → q < length deck.programs → IsProgram system deck q) where
  -- a server comes to what its tree asks, over any answers
  pub server_does : (q : ℕ) → IsServer system deck q → (message : List ℕ) (answers : List Answer)
      → let setting = server_setting deck q message false in
      let out = server_run setting (start setting.program answers) in
      Ends system (starting_server system q message) answers (verb_of out) (asked_screen out)
  server_does q is message answers =
      let setting = server_setting deck q message false in
      let program = setting.program in
      let s = start program answers in
      let n = length system.programs + q in
      let e : Env = record { program = n; callers = []; tail = message } in
      let storage : joined (initial_store program) ++ message ≡ (code_at system n).storage ++ message =
      ap (λ (chars : List ℕ). chars ++ message) (is.starts ∙ sym (ap (λ (code : Code). code.storage) is.coded)) in
      let set : IsSet system setting e = record {
        known = is.known;
        kind = ap (λ b. if b then false else true) is.server;
        not_alone = refl;
        told = λ same. refl;
        stored = ap (λ (code : Code). length code.storage) is.coded;
        callees = is_callee system deck all;
      } in
      let call : ℕ → List (List ℕ) → ProgramState → Out = λ p given t. source.faults 202 t in
      let run = program_does system setting e set call (λ no. absurd cc) (ap (λ (code : Code). code.instrs) is.coded) (is.suits message) s no_marks is.ground in
      let out = server_run setting s in
      subst (λ (chars : List ℕ). Ends system (record { top = frame_at n chars; rest = fresh }) answers (verb_of out) (asked_screen out)) storage
      (ended_does system setting e set refl (budget s) (mach e 0 [] s no_marks) answers (program_run setting call s) run)
