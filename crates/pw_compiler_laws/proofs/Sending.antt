-- The code of SEND, READ and READ NEXT does what they do.
use Rattle.std.proofs.Common.{◌≡◌, ℕ, zero, suc, ◌+◌, ◌*◌, Bool, true, false, not, List, [], ◌∷◌, ◌++◌, length, map, Option, Some, None, if◌then◌else◌, refl, sym, ap, ◌∙◌, subst, arith}
use Rattle.std.specs.Prelude.{◌==◌, cond, slice_get, option_map, option_and_then, position, ltb}
use Rattle.std.specs.List.{position_or_len}
use Rattle.std.proofs.lemmas.Option.{same_Some}
use Rattle.pw_words.specs.Words.{Word}
use Rattle.pw_data.specs.Store.{joined}
use Rattle.pw_forms.specs.declared.lists.SendCode.{SendCode}
use Rattle.pw_forms.specs.declared.operand.Operand.{Operand}
use Rattle.pw_operands.specs.Resolved.{Each}
use Rattle.pw_code.specs.declared.context.Context.{Context}
use Rattle.pw_code.specs.declared.context.Return.{Return}
use Rattle.pw_code.specs.declared.file.FileCall.{FileCall}
use Rattle.pw_code.specs.declared.instr.Instr.{Instr}
use Rattle.pw_code.specs.declared.instr.Instr.TheVariants as instr
use Rattle.pw_code.specs.declared.instr.ReplyCode.{ReplyCode}
use Rattle.pw_code.specs.declared.place.StoragePlace.{StoragePlace}
use Rattle.pw_code.specs.declared.system.System.{System}
use Rattle.pw_code.specs.declared.verb.Answer.{Answer}
use Rattle.pw_code.specs.declared.verb.Answer.TheVariants as answer
use Rattle.pw_code.specs.declared.verb.Verb.TheVariants as verb
use Rattle.pw_tree_meaning.specs.Program.{class_number}
use Rattle.pw_tree_meaning.specs.Setting.{Setting}
use Rattle.pw_tree_meaning.specs.State.{ProgramState, Registers, Out, Goes, Leaves, Asks}
use Rattle.pw_tree_meaning.specs.State as source
use Rattle.pw_tree_meaning.specs.Store.{Spot}
use Rattle.pw_tree_meaning.specs.Operands as operands
use Rattle.pw_tree_meaning.specs.Operands.{ResolvedOperand, spot_in}
use Rattle.pw_tree_meaning.specs.Performs.{budget}
use Rattle.pw_tree_meaning.specs.Files as files
use Rattle.pw_tree_meaning.specs.Moves as moving
use Rattle.pw_tree_meaning.specs.Sends as sends
use Rattle.pw_tree_meaning.specs.Values.{Text'}
use Rattle.pw_tree_meaning.proofs.Resolved.{each-got}
use Rattle.pw_code_meaning.specs.Answers as puts
use Rattle.pw_code_meaning.specs.Config.{Config, code_at, asks, faults, on, over, with_storage, with_taken}
use Rattle.pw_code_meaning.specs.Moves as moves
use Rattle.pw_code_meaning.specs.Reading.{spot_of, spots_of}
use Rattle.pw_code_meaning.specs.Runs.{run}
use Rattle.pw_code_meaning.specs.Steps as steps
use Rattle.pw_compile.specs.Emitted.{reply_code}
use Rattle.pw_compile.specs.Operands as code
use Rattle.pw_compiler_laws.specs.Systems.{plan_in}
use Rattle.pw_compiler_laws.proofs.Ground.{Ground, ground-kept}
use Rattle.pw_compiler_laws.proofs.Operands.{Known, Indexed, taken-same}
use Rattle.pw_compiler_laws.proofs.Readings.{Sits, TakenSits, spot-sits, taken-sits, all-sit, read-same, spot-same, spots-same, move-same}
use Rattle.pw_compiler_laws.proofs.Leading.{Env, Marks, mach, Does, DoesFrom, stays, one, after, weaker, fault_ends, taken_does, verb_does}
use Rattle.pw_compiler_laws.proofs.Arguments.{one-some, no-one}

-- ---- lists

same-map : {A : Type 0} (o : Option A) → o ≡ option_map (λ found. found) o
same-map None = refl
same-map (Some x) = refl

first-map : {A B : Type 0} (f : A → B) (p : B → Bool) (xs : List A) → position_or_len p (map f xs) ≡ position_or_len (λ x. p (f x)) xs
first-map f p [] = refl
first-map f p (x ∷ xs) = ap (λ n. cond (not (p (f x))) (1 + n) 0) (first-map f p xs)

long-map : {A B : Type 0} (f : A → B) (xs : List A) → length (map f xs) ≡ length xs
long-map f [] = refl
long-map f (x ∷ xs) = ap suc (long-map f xs)

-- the place of the first that passes, among what others become
pub position-map : {A B : Type 0} (f : A → B) (p : B → Bool) (xs : List A) → position p (map f xs) ≡ position (λ x. p (f x)) xs
position-map f p xs =
    ap (λ n. cond (ltb n (length (map f xs))) (Some n) None) (first-map f p xs)
    ∙ ap (λ n. cond (ltb (position_or_len (λ x. p (f x)) xs) n) (Some (position_or_len (λ x. p (f x)) xs)) None) (long-map f xs)

-- ---- receivers

-- each spot is that of its place
abbrev numbered : ℕ → Spot → ℕ × Spot
numbered i spot = (i, spot)

pub spot-at : (registers : Registers) (storage : List ℕ) (codes : List ReplyCode) (spots : List Spot) (i : ℕ)
    → spots_of registers storage (map (λ (one : ReplyCode). one.yields) codes) ≡ Some spots
    → option_and_then (λ (one : ReplyCode). option_map (numbered i) (spot_of registers storage one.yields)) (slice_get codes i)
    ≡ option_map (numbered i) (slice_get spots i)
spot-at registers storage codes spots i all = by codes spots i all
  where
    by : (ones : List ReplyCode) (found : List Spot) (k : ℕ) → spots_of registers storage (map (λ (one : ReplyCode). one.yields) ones) ≡ Some found
        → option_and_then (λ (one : ReplyCode). option_map (numbered i) (spot_of registers storage one.yields)) (slice_get ones k)
        ≡ option_map (numbered i) (slice_get found k)
    by [] [] k e = refl
    by [] (y ∷ ys) k e = absurd cc
    by (x ∷ xs) [] k e = absurd (no-one (spot_of registers storage x.yields) (spots_of registers storage (map (λ (one : ReplyCode). one.yields) xs)) e)
    by (x ∷ xs) (y ∷ ys) zero e =
        let parts = one-some (spot_of registers storage x.yields) (spots_of registers storage (map (λ (one : ReplyCode). one.yields) xs)) y ys e in
        ap (option_map (numbered i)) parts.0
    by (x ∷ xs) (y ∷ ys) (suc k) e =
        let parts = one-some (spot_of registers storage x.yields) (spots_of registers storage (map (λ (one : ReplyCode). one.yields) xs)) y ys e in
        by xs ys k parts.1

module _ (system : System) (setting : Setting) (known : Known setting.is_server setting.program) (e : Env) where
  abbrev Own : Operand → Type 0
  Own one = Indexed setting.is_server setting.deck setting.program one

  each-spots : (u : ProgramState) (targets : List ResolvedOperand) → Each (TakenSits u.store) targets → Each (Sits u.store) (map spot_in targets)
  each-spots u [] all = tt
  each-spots u (target ∷ targets) all = (spot-sits u.store target all.0, each-spots u targets all.1)

  -- ---- SEND

  yields-same : (codes : List SendCode) → map (λ (one : ReplyCode). one.yields) (map (reply_code (plan_in setting)) codes) ≡ map (code.place_in setting.program.layout) (sends.yields_of codes)
  yields-same [] = refl
  yields-same (one ∷ ones) = ap (λ (rest : List StoragePlace). code.place_in setting.program.layout one.yields ∷ rest) (yields-same ones)

  -- behind a reply, which may have been a unit
  pub record Replied (at : ℕ) (rs : List Return) (t : ProgramState) (m : Marks) : Type 0 where
    pub marks : Marks
    pub is : puts.reply_taken (asks (mach e at rs t m)).rest ≡ (mach e at rs (record t { count = 0 }) marks).rest

  replied-by : (at : ℕ) (rs : List Return) (t : ProgramState) (m : Marks) (b : Bool) → t.in_unit ≡ b → Replied at rs t m
  replied-by at rs t m true inside =
      record { marks = m; is = ap (λ b. if b then puts.answered (asks (mach e at rs t m)).rest else puts.unit_ended (asks (mach e at rs t m)).rest) inside }
  replied-by at rs t m false inside =
      record {
        marks = record m { units = m.units + 1; phase = 2 * (m.units + 1); attempt = 0; shown = 0 };
        is = ap (λ b. if b then puts.answered (asks (mach e at rs t m)).rest else puts.unit_ended (asks (mach e at rs t m)).rest) inside
            ∙ ap (λ b. record (puts.unit_ended (asks (mach e at rs t m)).rest) { in_unit = b }) (sym inside);
      }

  module _ (codes : List SendCode) (items : List Spot) (at : ℕ) (rs : List Return) (t : ProgramState) (m : Marks) (ground : Ground setting.program t.store)
      (sit : Each (Sits t.store) items)
      (all : spots_of t.registers (joined t.store ++ e.tail) (map (λ (one : ReplyCode). one.yields) (map (reply_code (plan_in setting)) codes)) ≡ Some items)
      (behind : slice_get (code_at system e.program).instrs (at + 1) ≡ Some instr.NoCode) where
    abbrev ones : List ReplyCode
    ones = map (reply_code (plan_in setting)) codes

    abbrev at_send : Config
    at_send = asks (mach e at rs t m)

    -- the code that a reply has, with the item to which it goes
    found-same : (reply : List ℕ) → option_and_then (puts.spot_among at_send ones) (puts.place_among ones reply) ≡ sends.found_by codes items reply
    found-same reply = by-code (sends.code_in_reply reply)
      where
        by-place : (o : Option ℕ) → option_and_then (puts.spot_among at_send ones) o ≡ option_and_then (sends.item_at items) o
        by-place None = refl
        by-place (Some i) = spot-at t.registers (joined t.store ++ e.tail) ones items i all

        by-code : (o : Option ℕ) → option_and_then (puts.spot_among at_send ones) (option_and_then (λ number. position (λ (one : ReplyCode). one.number == number) ones) o)
            ≡ option_and_then (sends.item_at items) (option_and_then (sends.reply_code_place codes) o)
        by-code None = refl
        by-code (Some number) =
            by-place (position (λ (one : ReplyCode). one.number == number) ones)
            ∙ ap (option_and_then (sends.item_at items)) (position-map (reply_code (plan_in setting)) (λ (one : ReplyCode). one.number == number) codes)

    -- the item of a code that was found
    found-sits : (o : Option ℕ) (found : ℕ × Spot) → option_and_then (sends.item_at items) o ≡ Some found → Sits t.store found.1
    found-sits None found is = absurd cc
    found-sits (Some i) found is = by (slice_get items i) refl is
      where
        by : (o : Option Spot) → slice_get items i ≡ o → option_map (numbered i) o ≡ Some found → Sits t.store found.1
        by None got is' = absurd cc
        by (Some spot) got is' =
            subst (λ (pair : ℕ × Spot). Sits t.store pair.1) (same_Some (numbered i spot) found is') (each-got (Sits t.store) items i spot sit got)

    yielded_does : (reply : List ℕ) (given : List Answer) (o : Option (ℕ × Spot)) → ((found : ℕ × Spot) → o ≡ Some found → Sits t.store found.1)
        → let u : ProgramState = record t { count = 0; answers = given } in
        DoesFrom system setting.program e u (puts.yielded o reply at_send) (at + 1 + 1) rs (sends.yielded o reply u)
    yielded_does reply given None sits =
        let u : ProgramState = record t { count = 0; answers = given } in
        let r = replied-by at rs t m t.in_unit refl in
        subst (λ (rest : Context). DoesFrom system setting.program e u (on (record at_send { rest = rest })) (at + 1 + 1) rs (source.faults 204 u)) (sym r.is)
        (after system setting.program e (budget u) (mach e (at + 1) rs u r.marks) (faults 204 (mach e (at + 1) rs u r.marks)) given given (at + 1 + 1) rs (source.faults 204 u)
        (one system e (at + 1) rs u r.marks given (Some instr.NoCode) behind) (fault_ends system setting.program e (mach e (at + 1) rs u r.marks) given 204))
    yielded_does reply given (Some found) sits =
        let u : ProgramState = record t { count = 0; answers = given } in
        let v : ProgramState = moving.move_text reply found.1 (record u { registers = record u.registers { termination = found.0 + 1 } }) in
        let r = replied-by at rs t m t.in_unit refl in
        let c : List ℕ → Context → Config = λ storage rest. over 1 (record (with_storage storage at_send) { rest = record rest { termination = found.0 + 1 } }) in
        subst (λ (rest : Context). DoesFrom system setting.program e u (c (moves.move_text reply found.1 (joined t.store ++ e.tail)) rest) (at + 1 + 1) rs (Goes v)) (sym r.is)
        (subst (λ (storage : List ℕ). DoesFrom system setting.program e u (c storage (mach e at rs u r.marks).rest) (at + 1 + 1) rs (Goes v))
        (sym (move-same (Text' reply) found.1 t.store e.tail (sits found refl)))
        (record {
          marks = r.marks;
          ground = ground-kept setting.program found.1 (moving.moved_chars found.1.picture found.1.size (Text' reply)) t.store ground;
          less = omega arith;
          leads = stays system (mach e (at + 1 + 1) rs v r.marks) given;
        }))

    passes : (given : List Answer) → let u : ProgramState = record t { count = 0; answers = given } in
        DoesFrom system setting.program e u (over 1 (record at_send { rest = puts.answered at_send.rest })) (at + 1 + 1) rs (Goes u)
    passes given = record { marks = m; ground = ground; less = omega arith; leads = stays system _ given }

    reply_does : (a : Answer) (given : List Answer) → let u : ProgramState = record t { count = 0; answers = given } in
        DoesFrom system setting.program e u (puts.reply_put ones a at_send) (at + 1 + 1) rs (sends.after_send_answer codes items a u)
    reply_does (answer.Replied reply) given =
        let u : ProgramState = record t { count = 0; answers = given } in
        subst (λ o. DoesFrom system setting.program e u (puts.yielded o reply at_send) (at + 1 + 1) rs (sends.yielded (sends.found_by codes items reply) reply u)) (sym (found-same reply))
        (yielded_does reply given (sends.found_by codes items reply)
        (λ found is. found-sits (option_and_then (sends.reply_code_place codes) (sends.code_in_reply reply)) found is))
    reply_does (answer.Failed x) given =
        let u : ProgramState = record t { count = 0; answers = given } in
        let c : Config = mach e at rs u m in
        after system setting.program e (budget u) (puts.failed x at_send) (faults x c) given given (at + 1 + 1) rs (source.faults x u)
        (λ k. (suc k, refl)) (fault_ends system setting.program e c given x)
    reply_does answer.Shown given = passes given
    reply_does (answer.Entry line) given = passes given
    reply_does (answer.Begun r) given = passes given
    reply_does answer.Ended given = passes given
    reply_does answer.Dropped given = passes given
    reply_does (answer.FileDone status content) given = passes given

  -- the message and the items of YIELDS are taken, and the reply is awaited
  pub send_does : (message : Operand) (class : Word) (number : ℕ) (codes : List SendCode) → number ≡ class_number setting.deck class → Own message → Each Own (sends.yields_of codes)
      → (at : ℕ) (rs : List Return) (t : ProgramState) (m : Marks) → Ground setting.program t.store
      → slice_get (code_at system e.program).instrs at
      ≡ Some (instr.Send number (code.operand_of setting.program.layout message) (map (reply_code (plan_in setting)) codes))
      → slice_get (code_at system e.program).instrs (at + 1) ≡ Some instr.NoCode
      → DoesFrom system setting.program e t (steps.sends (code.operand_of setting.program.layout message) (map (reply_code (plan_in setting)) codes) (mach e at rs t m)) (at + 1 + 1) rs
      (sends.send setting message class codes t)
  send_does message class number codes same own all at rs t m ground h behind =
      let i : Instr = instr.Send number (code.operand_of setting.program.layout message) (map (reply_code (plan_in setting)) codes) in
      let items_same : spots_of t.registers (joined t.store ++ e.tail) (map (λ (one : ReplyCode). one.yields) (map (reply_code (plan_in setting)) codes))
      ≡ option_map (map spot_in) (operands.taken_all setting.program t (sends.yields_of codes)) =
      ap (spots_of t.registers (joined t.store ++ e.tail)) (yields-same codes)
      ∙ spots-same setting.is_server setting.deck setting.program known t e.tail ground (sends.yields_of codes) all in
      taken_does system setting.program e (λ found. found) (operands.operand_taken setting.program t message) _ (budget t) at rs t m (at + 1 + 1) rs
      (λ found. with_taken (spots_of t.registers (joined t.store ++ e.tail) (map (λ (one : ReplyCode). one.yields) (map (reply_code (plan_in setting)) codes))) (λ items. asks))
      (λ found. operands.with_operands setting.program (sends.yields_of codes) t (λ items.
      source.asks (verb.Send (class_number setting.deck class) (operands.chars_in found t.store)) (sends.after_send_answer codes (map spot_in items)) t))
      (taken-same setting.is_server setting.deck setting.program known t e.tail ground message own ∙ same-map (operands.operand_taken setting.program t message))
      (λ found taken_is.
      taken_does system setting.program e (map spot_in) (operands.taken_all setting.program t (sends.yields_of codes)) _ (budget t) at rs t m (at + 1 + 1) rs
      (λ items. asks)
      (λ items. source.asks (verb.Send (class_number setting.deck class) (operands.chars_in found t.store)) (sends.after_send_answer codes (map spot_in items)) t)
      items_same
      (λ items items_are.
      verb_does system setting.program e at rs t m (at + 1 + 1) rs i (verb.Send (class_number setting.deck class) (operands.chars_in found t.store)) (sends.after_send_answer codes (map spot_in items)) h
      (ap (λ o. verb.Send number (steps.chars_by o))
      (read-same setting.is_server setting.deck setting.program known t e.tail ground message own ∙ ap (option_map (λ x. operands.value_in x t.store)) taken_is)
      ∙ ap (λ n. verb.Send n (operands.chars_in found t.store)) same)
      (λ a given.
      reply_does codes (map spot_in items) at rs t m ground
      (each-spots t items (all-sit setting.is_server setting.deck setting.program known t e.tail ground (sends.yields_of codes) items items_are))
      (items_same ∙ ap (option_map (map spot_in)) items_are) behind a given)))

  -- ---- READ and READ NEXT

  module _ (not_alone : setting.alone ≡ false) where
    -- an operation is asked
    pub operation_asked : (i : Instr) (into : Option Spot) (call : FileCall) (at : ℕ) (rs : List Return) (t : ProgramState) (m : Marks)
        → slice_get (code_at system e.program).instrs at ≡ Some i → steps.asked_by (Some i) (asks (mach e at rs t m)) ≡ verb.File call
        → ((a : Answer) (given : List Answer) → let u : ProgramState = record t { answers = given } in
        DoesFrom system setting.program e u (puts.answered_by system (Some i) a (asks (mach e at rs t m))) (at + 1) rs (files.file_answered into a u))
        → DoesFrom system setting.program e t (asks (mach e at rs t m)) (at + 1) rs (files.operates setting call into t)
    operation_asked i into call at rs t m h v next =
        subst (λ b. DoesFrom system setting.program e t (asks (mach e at rs t m)) (at + 1) rs (if b then files.operation_done setting.deck call into t else files.operation_asked call into t.answers t)) (sym not_alone)
        (by t.answers refl)
      where
        by : (given : List Answer) → t.answers ≡ given → Does system setting.program e (budget t) (asks (mach e at rs t m)) given (at + 1) rs (files.operation_asked call into given t)
        by [] answers_are = record { steps = 0; last = asks (mach e at rs t m); comes = refl; stands = refl; asks_it = ap (λ o. steps.asked_by o (asks (mach e at rs t m))) h ∙ v; shows = refl }
        by (a ∷ given) answers_are =
            let u : ProgramState = record t { answers = given } in
            let longer : length t.answers ≡ length (a ∷ given) = ap length answers_are in
            weaker system setting.program e (budget u) (budget t) (asks (mach e at rs t m)) (a ∷ given) (at + 1) rs (files.file_answered into a u) (omega (arith, longer))
            (after system setting.program e (budget u) (asks (mach e at rs t m)) (puts.answered_by system (Some i) a (asks (mach e at rs t m))) (a ∷ given) given (at + 1) rs (files.file_answered into a u)
            (λ k. (suc k, ap (λ o. run system k (puts.answered_by system o a (asks (mach e at rs t m))) given) h))
            (next a given))

    -- a record that was read
    read_answered : (at : ℕ) (rs : List Return) (t : ProgramState) (m : Marks) (place : StoragePlace) (into : Spot) → Ground setting.program t.store → Sits t.store into
        → spot_of t.registers (joined t.store ++ e.tail) place ≡ Some into → (a : Answer) (given : List Answer)
        → let u : ProgramState = record t { answers = given } in
        DoesFrom system setting.program e u (puts.read_put place a (asks (mach e at rs t m))) (at + 1) rs (files.file_answered (Some into) a u)
    read_answered at rs t m place into ground sits is (answer.FileDone status content) given =
        let u : ProgramState = record t { answers = given } in
        subst (λ o. DoesFrom system setting.program e u (puts.file_done o status content (asks (mach e at rs t m))) (at + 1) rs (files.file_done (Some into) status content u)) (sym is)
        (by-content content)
      where
        by-status : (b : Bool) (chars : List ℕ) → let u : ProgramState = record t { answers = given; registers = record t.registers { file_status = status } } in
            DoesFrom system setting.program e u (on (record (with_storage (if b then moves.move_text chars into (joined t.store ++ e.tail) else joined t.store ++ e.tail) (asks (mach e at rs t m))) { rest = record (asks (mach e at rs t m)).rest { at_verb = false; file_status = status } })) (at + 1) rs (Goes (if b then moving.move_text chars into u else u))
        by-status true chars =
            let u : ProgramState = record t { answers = given; registers = record t.registers { file_status = status } } in
            subst (λ (storage : List ℕ). DoesFrom system setting.program e u (on (record (with_storage storage (asks (mach e at rs t m))) { rest = record (asks (mach e at rs t m)).rest { at_verb = false; file_status = status } })) (at + 1) rs (Goes (moving.move_text chars into u)))
            (sym (move-same (Text' chars) into t.store e.tail sits))
            (record {
              marks = m;
              ground = ground-kept setting.program into (moving.moved_chars into.picture into.size (Text' chars)) t.store ground;
              less = omega arith;
              leads = stays system (mach e (at + 1) rs (moving.move_text chars into u) m) given;
            })
        by-status false chars = record { marks = m; ground = ground; less = omega arith; leads = stays system _ given }

        by-content : (o : Option (List ℕ)) → let u : ProgramState = record t { answers = given } in
            DoesFrom system setting.program e u (puts.file_done (Some into) status o (asks (mach e at rs t m))) (at + 1) rs (files.file_done (Some into) status o u)
        by-content None = record { marks = m; ground = ground; less = omega arith; leads = stays system _ given }
        by-content (Some chars) = by-status (status == 0) chars
    read_answered at rs t m place into ground sits is answer.Shown given = record { marks = m; ground = ground; less = omega arith; leads = stays system _ given }
    read_answered at rs t m place into ground sits is (answer.Entry line) given = record { marks = m; ground = ground; less = omega arith; leads = stays system _ given }
    read_answered at rs t m place into ground sits is (answer.Begun r) given = record { marks = m; ground = ground; less = omega arith; leads = stays system _ given }
    read_answered at rs t m place into ground sits is (answer.Replied reply) given = record { marks = m; ground = ground; less = omega arith; leads = stays system _ given }
    read_answered at rs t m place into ground sits is (answer.Failed x) given = record { marks = m; ground = ground; less = omega arith; leads = stays system _ given }
    read_answered at rs t m place into ground sits is answer.Ended given = record { marks = m; ground = ground; less = omega arith; leads = stays system _ given }
    read_answered at rs t m place into ground sits is answer.Dropped given = record { marks = m; ground = ground; less = omega arith; leads = stays system _ given }

    pub read_does : (key into : Operand) → Own key → Own into → (at : ℕ) (rs : List Return) (t : ProgramState) (m : Marks) → Ground setting.program t.store → (i : Instr)
        → slice_get (code_at system e.program).instrs at ≡ Some i → (call_of : List ℕ → FileCall)
        → ((found : ResolvedOperand) → steps.read_here (asks (mach e at rs t m)) (code.operand_of setting.program.layout key) ≡ Some (operands.value_in found t.store)
        → steps.asked_by (Some i) (asks (mach e at rs t m)) ≡ verb.File (call_of (operands.chars_in found t.store)))
        → ((a : Answer) → puts.answered_by system (Some i) a (asks (mach e at rs t m)) ≡ puts.read_put (code.place_in setting.program.layout into) a (asks (mach e at rs t m)))
        → DoesFrom system setting.program e t (steps.reads (code.operand_of setting.program.layout key) (code.place_in setting.program.layout into) (mach e at rs t m)) (at + 1) rs
        (operands.with_operand setting.program key t (λ found. operands.with_operand setting.program into t (λ item.
        files.operates setting (call_of (operands.chars_in found t.store)) (Some (spot_in item)) t)))
    read_does key into own own_into at rs t m ground i h call_of asked same =
        taken_does system setting.program e (λ found. found) (operands.operand_taken setting.program t key) _ (budget t) at rs t m (at + 1) rs
        (λ found. with_taken (spot_of t.registers (joined t.store ++ e.tail) (code.place_in setting.program.layout into)) (λ item. asks))
        (λ found. operands.with_operand setting.program into t (λ item. files.operates setting (call_of (operands.chars_in found t.store)) (Some (spot_in item)) t))
        (taken-same setting.is_server setting.deck setting.program known t e.tail ground key own ∙ same-map (operands.operand_taken setting.program t key))
        (λ found taken_is.
        taken_does system setting.program e spot_in (operands.operand_taken setting.program t into) _ (budget t) at rs t m (at + 1) rs
        (λ item. asks) (λ item. files.operates setting (call_of (operands.chars_in found t.store)) (Some (spot_in item)) t)
        (spot-same setting.is_server setting.deck setting.program known t e.tail ground into own_into)
        (λ item item_is.
        operation_asked i (Some (spot_in item)) (call_of (operands.chars_in found t.store)) at rs t m h
        (asked found (read-same setting.is_server setting.deck setting.program known t e.tail ground key own ∙ ap (option_map (λ x. operands.value_in x t.store)) taken_is))
        (λ a given.
        let u : ProgramState = record t { answers = given } in
        subst (λ c. DoesFrom system setting.program e u c (at + 1) rs (files.file_answered (Some (spot_in item)) a u)) (sym (same a))
        (read_answered at rs t m (code.place_in setting.program.layout into) (spot_in item) ground
        (spot-sits t.store item (taken-sits setting.is_server setting.deck setting.program known t e.tail ground into item item_is))
        (spot-same setting.is_server setting.deck setting.program known t e.tail ground into own_into ∙ ap (option_map spot_in) item_is) a given))))
