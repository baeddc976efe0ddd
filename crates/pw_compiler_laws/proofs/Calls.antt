-- The code of CALL does what it does, where the called program does.
use Rattle.std.proofs.Common.{◌≡◌, ℕ, ◌+◌, ◌<◌, Bool, true, false, List, [], ◌∷◌, ◌++◌, length, map, Some, refl, sym, ap, ◌∙◌, subst}
use Rattle.std.specs.Prelude.{slice_get, option_map}
use Rattle.pw_words.specs.Words.{Word}
use Rattle.pw_data.specs.Layouts.{FitsPicture}
use Rattle.pw_data.specs.Store.{joined}
use Rattle.pw_forms.specs.declared.operand.Operand.{Operand}
use Rattle.pw_operands.specs.Resolved.{Each}
use Rattle.pw_code.specs.declared.context.Frame.{Frame}
use Rattle.pw_code.specs.declared.context.Return.{Return}
use Rattle.pw_code.specs.declared.instr.Instr.TheVariants as instr
use Rattle.pw_code.specs.declared.place.StoragePlace.{StoragePlace}
use Rattle.pw_code.specs.declared.system.System.{System}
use Rattle.pw_tree_meaning.specs.Program.{Program, program_at, program_number}
use Rattle.pw_tree_meaning.specs.Setting.{Setting}
use Rattle.pw_tree_meaning.specs.State.{ProgramState, Out, Goes, Leaves, Asks}
use Rattle.pw_tree_meaning.specs.Store.{Spot}
use Rattle.pw_tree_meaning.specs.Operands as operands
use Rattle.pw_tree_meaning.specs.Operands.{ResolvedOperand, spot_in}
use Rattle.pw_tree_meaning.specs.Performs as tree
use Rattle.pw_tree_meaning.specs.Performs.{budget}
use Rattle.pw_code_meaning.specs.Calls as calls
use Rattle.pw_code_meaning.specs.Config.{Config, code_at, with_taken}
use Rattle.pw_code_meaning.specs.Reading.{spots_of}
use Rattle.pw_compile.specs.Emitted.{keeps}
use Rattle.pw_compile.specs.Operands as code
use Rattle.pw_compile.specs.Programs.{linkage_of}
use Rattle.pw_compiler_laws.proofs.Flat.{drop-front}
use Rattle.pw_compiler_laws.proofs.Ground.{Ground}
use Rattle.pw_compiler_laws.proofs.Operands.{Known}
use Rattle.pw_compiler_laws.proofs.Readings.{Sits, TakenSits, spot-sits, all-sit, spots-same}
use Rattle.pw_compiler_laws.proofs.Leading.{Env, Marks, mach, Leads, Does, DoesFrom, Finishes, taken_does}
use Rattle.pw_compiler_laws.proofs.Statements.{split-end}
use Rattle.pw_compiler_laws.specs.Premises.{AreItems}
use Rattle.pw_compiler_laws.proofs.Suits.{IsFew, IsKeptPlace, CallSuits}
use Rattle.pw_compiler_laws.proofs.Arguments.{spots-long, spots-kept, spots-free, linkage-says, linkage-long, arguments-put, put-ground}

-- what is known of a program that is called
pub record IsCallee (system : System) (q : ℕ) (program : Program) : Type 0 where
  pub fits : Each FitsPicture program.layout.items
  pub storage : (code_at system q).storage ≡ program.layout.storage
  pub linkage : (code_at system q).linkage ≡ linkage_of program.layout program.parameters
  pub items : AreItems program program.parameters

-- the called program, behind its caller
abbrev pub inner : Env → ℕ → Bool → ℕ → List Return → ProgramState → Env
inner e q keeping at rs s = record {
  program = q;
  callers = e.callers ++ (record { program = e.program; at = at; storage = joined s.store ++ e.tail; returns = rs }) ∷ [];
  tail = calls.kept keeping s.registers;
}

module _ (system : System) (setting : Setting) (e : Env) where
  -- the code of the called program does what a call does
  abbrev pub CallDoes : (ℕ → List (List ℕ) → ProgramState → Out) → Type 0
  CallDoes call =
      (q : ℕ) (keeping : Bool) (spots : List Spot) (at : ℕ) (rs : List Return) (s : ProgramState) (m : Marks) → q < length setting.deck.programs
      → Each (Sits s.store) spots
      → map (λ (spot : Spot). spot.size) spots
      ≡ map (λ (item : ℕ × ℕ). item.1) (linkage_of (program_at setting.deck.programs q).layout (program_at setting.deck.programs q).parameters)
      → Finishes system (program_at setting.deck.programs q) (inner e q keeping at rs s) (budget s) (calls.calls system q keeping spots (mach e at rs s m)) s.answers
      (call q (tree.chars_of_all spots s.store) s)

  module _ (q : ℕ) (keeping : Bool) (spots : List Spot) (places : List StoragePlace) (at : ℕ) (rs : List Return) (s : ProgramState)
      (h : slice_get (code_at system e.program).instrs at ≡ Some (instr.Call q places keeping))
      (keeping_is : keeping ≡ keeps places) (kept : Each IsKeptPlace places) (few : Each IsFew places)
      (found : spots_of s.registers (joined s.store ++ e.tail) places ≡ Some spots)
      (callee : IsCallee system q (program_at setting.deck.programs q))
      (sits : Each (Sits s.store) spots)
      (sizes : map (λ (spot : Spot). spot.size) spots
      ≡ map (λ (item : ℕ × ℕ). item.1) (linkage_of (program_at setting.deck.programs q).layout (program_at setting.deck.programs q).parameters)) where
    abbrev called : Program
    called = program_at setting.deck.programs q

    -- the caller as it waits
    abbrev caller : Frame
    caller = record { program = e.program; at = at; storage = joined s.store ++ e.tail; returns = rs }

    abbrev left_at : ℕ → List Return → ProgramState → Marks → Config
    left_at to returns u n = mach (inner e q keeping at rs s) to returns u n

    -- the places from before the call
    places-again : (b : Bool) → keeping ≡ b → (to : ℕ) (returns : List Return) (u : ProgramState) (n : Marks) → Ground called u.store
        → spots_of (calls.registers_at_call keeping (length (code_at system q).storage) (left_at to returns u n).top (left_at to returns u n).rest) (joined s.store ++ e.tail) places ≡ Some spots
    places-again true is to returns u n ground =
        let long : length (joined u.store) ≡ length (code_at system q).storage = ground.1 ∙ sym (ap length callee.storage) in
        ap (λ b. spots_of (calls.registers_at_call b (length (code_at system q).storage) (record { program = q; at = to; storage = joined u.store ++ calls.kept b s.registers; returns = returns }) (left_at to returns u n).rest) (joined s.store ++ e.tail) places) is
        ∙ ap (λ (chars : List ℕ). spots_of (calls.kept_in chars) (joined s.store ++ e.tail) places) (drop-front (joined u.store) (calls.kept true s.registers) (length (code_at system q).storage) long)
        ∙ spots-kept s.registers (joined s.store ++ e.tail) places spots kept few found
    places-again false is to returns u n ground =
        ap (λ b. spots_of (calls.registers_at_call b (length (code_at system q).storage) (record { program = q; at = to; storage = joined u.store ++ calls.kept keeping s.registers; returns = returns }) (left_at to returns u n).rest) (joined s.store ++ e.tail) places) is
        ∙ spots-free s.registers u.registers (joined s.store ++ e.tail) places spots (sym keeping_is ∙ is) found

    -- the storage of the caller behind the call
    storage-back : (to : ℕ) (returns : List Return) (u : ProgramState) (n : Marks) → Ground called u.store
        → calls.storage_behind system (slice_get (code_at system e.program).instrs at) caller (left_at to returns u n).top (left_at to returns u n).rest
        ≡ joined (tree.put_all spots (tree.chars_of_all (tree.parameter_spots called) u.store) s.store) ++ e.tail
    storage-back to returns u n ground =
        let charss = tree.chars_of_all (tree.parameter_spots called) u.store in
        ap (λ o. calls.storage_behind system o caller (left_at to returns u n).top (left_at to returns u n).rest) h
        ∙ ap (λ o. calls.copied_back o (calls.linkage_chars (code_at system q).linkage (left_at to returns u n).top.storage) caller.storage) (places-again keeping refl to returns u n ground)
        ∙ ap (λ (items : List (ℕ × ℕ)). calls.put_all spots (calls.linkage_chars items (left_at to returns u n).top.storage) caller.storage) callee.linkage
        ∙ ap (λ (given : List (List ℕ)). calls.put_all spots given caller.storage) (linkage-says called callee.fits called.parameters u.store (calls.kept keeping s.registers) callee.items ground)
        ∙ arguments-put spots charss s.store e.tail sits (linkage-long called callee.fits called.parameters u.store callee.items ground ∙ sym sizes)

    abbrev back : ℕ → List Return → ProgramState → Marks → List ℕ → Config
    back to returns u n storage = record {
      top = record caller { at = at + 1; storage = storage };
      rest = record (left_at to returns u n).rest { frames = e.callers };
    }

    -- the called program is left
    leaves-same : (to : ℕ) (returns : List Return) (u : ProgramState) (n : Marks) → Ground called u.store
        → calls.leaves system (left_at to returns u n) ≡ mach e (at + 1) rs (tree.caller_state called spots s.store u) n
    leaves-same to returns u n ground =
        ap (λ o. calls.leaves_by system o (left_at to returns u n)) (split-end e.callers caller)
        ∙ ap (back to returns u n) (storage-back to returns u n ground)

    -- behind the call
    pub comes_back_does : (c : Config) (b : ℕ) → Ground setting.program s.store → (o : Out) → Finishes system called (inner e q keeping at rs s) b c s.answers o
        → Does system setting.program e b c s.answers (at + 1) rs (tree.comes_back called spots s.store o)
    comes_back_does c b ground (Goes u) f =
        record {
          marks = f.marks;
          ground = put-ground setting.program spots (tree.chars_of_all (tree.parameter_spots called) u.store) s.store ground;
          less = f.less;
          leads = subst (λ d. Leads system c s.answers d u.answers) (leaves-same f.at f.returns u f.marks f.ground) f.leads;
        }
    comes_back_does c b ground (Leaves u) f =
        record {
          marks = f.marks;
          ground = put-ground setting.program spots (tree.chars_of_all (tree.parameter_spots called) u.store) s.store ground;
          less = f.less;
          leads = subst (λ d. Leads system c s.answers d u.answers) (leaves-same f.at f.returns u f.marks f.ground) f.leads;
        }
    comes_back_does c b ground (Asks v u) f = f

  module _ (known : Known setting.is_server setting.program) where
    each-spots : (u : ProgramState) (targets : List ResolvedOperand) → Each (TakenSits u.store) targets → Each (Sits u.store) (map spot_in targets)
    each-spots u [] all = tt
    each-spots u (target ∷ targets) all = (spot-sits u.store target all.0, each-spots u targets all.1)

    -- CALL
    pub call_does : (call : ℕ → List (List ℕ) → ProgramState → Out) → CallDoes call → (name : Word) (arguments : List Operand) (number : ℕ) → number ≡ program_number setting.deck name
        → CallSuits system setting name arguments → IsCallee system (program_number setting.deck name) (program_at setting.deck.programs (program_number setting.deck name))
        → (at : ℕ) (rs : List Return) (s : ProgramState) (m : Marks) → Ground setting.program s.store
        → slice_get (code_at system e.program).instrs at
        ≡ Some (instr.Call number (map (code.place_in setting.program.layout) arguments) (keeps (map (code.place_in setting.program.layout) arguments)))
        → DoesFrom system setting.program e s (with_taken (spots_of s.registers (joined s.store ++ e.tail) (map (code.place_in setting.program.layout) arguments))
        (calls.calls system number (keeps (map (code.place_in setting.program.layout) arguments))) (mach e at rs s m)) (at + 1) rs (tree.call_program setting call name arguments s)
    call_does call does name arguments number same suits callee at rs s m ground h =
        let q = program_number setting.deck name in
        let places : List StoragePlace = map (code.place_in setting.program.layout) arguments in
        let spots_are = spots-same setting.is_server setting.deck setting.program known s e.tail ground arguments suits.own in
        subst (λ n. DoesFrom system setting.program e s (with_taken (spots_of s.registers (joined s.store ++ e.tail) places) (calls.calls system n (keeps places)) (mach e at rs s m)) (at + 1) rs (tree.call_program setting call name arguments s)) (sym same)
        (taken_does system setting.program e (map spot_in) (operands.taken_all setting.program s arguments) _ (budget s) at rs s m (at + 1) rs
        (calls.calls system q (keeps places)) (λ found. tree.call_at setting.deck call q (map spot_in found) s) spots_are
        (λ found found_is.
        let spots = map spot_in found in
        let taken : spots_of s.registers (joined s.store ++ e.tail) places ≡ Some spots = spots_are ∙ ap (option_map (map spot_in)) found_is in
        let sits = each-spots s found (all-sit setting.is_server setting.deck setting.program known s e.tail ground arguments found found_is) in
        let sizes = spots-long s.registers (joined s.store ++ e.tail) places spots taken ∙ suits.fits.sizes in
        comes_back_does q (keeps places) spots places at rs s (h ∙ ap (λ n. Some (instr.Call n places (keeps places))) same) refl suits.kept suits.few taken callee sits sizes
        (calls.calls system q (keeps places) spots (mach e at rs s m)) (budget s) ground (call q (tree.chars_of_all spots s.store) s)
        (does q (keeps places) spots at rs s m suits.there sits sizes)))
