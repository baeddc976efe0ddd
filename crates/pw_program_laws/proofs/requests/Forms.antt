-- The forms of statements that ask nothing, and SEND and the verbs of transactions.
use Rattle.std.proofs.Common.{◌≡◌, ℕ, ◌+◌, Bool, true, false, List, [], map, if◌then◌else◌, Option, Some, None, Result, Ok, Err, refl, sym, ap, ◌∙◌}
use Rattle.pw_code.specs.Entry.{EntryLineModel}
use Rattle.pw_code.specs.declared.verb.Answer.TheVariants as answer
use Rattle.pw_code.specs.declared.verb.Verb.TheVariants as verb
use Rattle.pw_forms.specs.declared.lists.SendCode.{SendCode}
use Rattle.pw_forms.specs.declared.operand.Operand.{Operand}
use Rattle.pw_forms.specs.declared.statement.ArithmeticForm as arithmetic
use Rattle.pw_invariants.specs.Requests.{RepliedRequest}
use Rattle.pw_number.specs.Number.{Number}
use Rattle.pw_number.specs.declared.size_error.SizeError.{SizeError}
use Rattle.pw_onecopy.specs.Path.{PathAnswer, Shown, Entry, Begun, Replied, Failed, Ended, Dropped}
use Rattle.pw_picture.specs.declared.picture.Picture.{Picture}
use Rattle.pw_picture.specs.Stored.{is_kept, moved}
use Rattle.pw_program_laws.proofs.Operands.{all-taken, known-taken}
use Rattle.pw_program_laws.proofs.Texts.{value_in-texts}
use Rattle.pw_program_laws.specs.Known.{IsKnownAt}
use Rattle.pw_program_laws.specs.Meets.{ArithmeticMeets, WithAllKnown, WithKnown, received}
use Rattle.pw_program_laws.specs.Texts.{said, with_moved, with_moves, with_text}
use Rattle.pw_program_laws.proofs.requests.Follows.{Answers, Commits, Safe, answered, open_after, sent_after}
use Rattle.pw_program_laws.proofs.requests.Runs.{Runs, Stands, asks-safe, goes-on, safe-moved, safe-same, stands-answered, stands-counted, stands-moves, stands-put, stuck, taken-is}
use Rattle.pw_program_laws.specs.Requests.{AbortMeets, BeginMeets, EndMeets, RequesterMoment, SendMeets, as_known, sent_behind, with_known}
use Rattle.pw_tree_meaning.specs.Arithmetic.{arithmetic_on, computed, operated, or_else, receiver_decimals, receiver_of, stored_by, stored_in}
use Rattle.pw_tree_meaning.specs.Moves.{moved_chars, moves}
use Rattle.pw_tree_meaning.specs.Operands.{chars_in, operand_taken, spot_in, taken_all, value_in, with_taken}
use Rattle.pw_tree_meaning.specs.Program.{DeckModel, Program, class_number}
use Rattle.pw_tree_meaning.specs.Runs.{told, verb_of}
use Rattle.pw_tree_meaning.specs.Sends.{abort, after_begin_answer, after_send_answer, begin, end, found_by, outside, restart, send, stop, yielded, yields_of}
use Rattle.pw_tree_meaning.specs.Setting.{Setting}
use Rattle.pw_tree_meaning.specs.State.{ProgramState, Registers, Out, Goes, Leaves, Asks, asks, faults, then_do}
use Rattle.pw_tree_meaning.specs.Statements.{move_all}
use Rattle.pw_tree_meaning.specs.Store.{Spot, put_at}
use Rattle.pw_tree_meaning.specs.Values.{Text', Value, as_it_stands, number_of}
use Rattle.pw_words.specs.Words.{Word}

-- ---- results

-- what follows a result: the characters that a receiver gets are stored, if there are any
abbrev settled : Option (List ℕ) → Spot → (ProgramState → Out) → (ProgramState → Out) → ProgramState → Out
settled None spot on_error else' t = on_error t
settled (Some chars) spot on_error else' t = else' (record t { store = put_at spot chars t.store })

module _ (on_error else' : ProgramState → Out) (spot : Spot) (t : ProgramState) where
  kept-result : (b : Bool) (p : Picture) (n : Number)
      → or_else (if b then Some (record t { store = put_at spot (moved p n) t.store }) else None) t on_error else' ≡ settled (if b then Some (moved p n) else None) spot on_error else' t
  kept-result true p n = refl
  kept-result false p n = refl

  picture-result : (o : Option Picture) (n : Number) → or_else (stored_by o spot n t) t on_error else' ≡ settled (received o (Ok n)) spot on_error else' t
  picture-result None n = refl
  picture-result (Some p) n = kept-result (is_kept p n) p n

  result-is : (r : Result Number SizeError) → or_else (stored_in spot r t) t on_error else' ≡ settled (received spot.picture r) spot on_error else' t
  result-is (Ok n) = picture-result spot.picture n
  result-is (Err error) = refl

module _ (deck : DeckModel) (program : Program) (first : ℕ) (sizes : List ℕ) (holds : List RepliedRequest → Type 0) (lines : List EntryLineModel) (most : ℕ) where
  -- a program of a terminal
  abbrev pub requester : Setting
  requester = record { deck = deck; program = program; first = first; is_server = false; message = []; alone = false }

  -- ---- MOVE and arithmetic

  pub move-runs : (from : Operand) (to : List Operand) (next : RequesterMoment → Type 0) (k : RequesterMoment)
      → WithKnown program sizes (as_known k) from (λ source. WithAllKnown program sizes (as_known k) to (λ targets. next (record k { texts = with_moves source (map spot_in targets) sizes k.texts })))
      → Runs sizes holds lines most (move_all requester from to) next k
  move-runs from to next k now s stands cont safe =
      let x = known-taken program sizes (as_known k) from _ now in
      let xs = all-taken program sizes (as_known k) to _ x.2 in
      let spots : List Spot = map spot_in xs.0 in
      goes-on sizes holds lines most k.inside k.sent (move_all requester from to) s (record s { store = moves x.0 spots s.store }) cont
      (λ rest.
      let t : ProgramState = answered lines rest s in
      taken-is (operand_taken program t from) x.0 t (λ source. with_taken (taken_all program t to) t (λ targets. Goes (record t { store = moves source (map spot_in targets) t.store }))) (x.1 t (stands-answered sizes k s stands lines rest))
      ∙ taken-is (taken_all program t to) xs.0 t (λ targets. Goes (record t { store = moves x.0 (map spot_in targets) t.store })) (xs.1 t (stands-answered sizes k s stands lines rest)))
      (safe (record k { texts = with_moves x.0 spots sizes k.texts }) xs.2 (record s { store = moves x.0 spots s.store }) (stands-moves sizes k s stands x.0 spots))

  pub arithmetic-runs : (a : arithmetic.ArithmeticForm) (fails goes next : RequesterMoment → Type 0) (on_error else' : ProgramState → Out)
      → ((k : RequesterMoment) → fails k → Runs sizes holds lines most on_error next k)
      → ((k : RequesterMoment) → goes k → Runs sizes holds lines most else' next k)
      → (k : RequesterMoment)
      → ArithmeticMeets deck program sizes [] (λ reply files. Unit {0}) a (λ known. fails (with_known k known)) (λ known. goes (with_known k known)) (as_known k)
      → Runs sizes holds lines most (arithmetic_on program a on_error else') next k
  arithmetic-runs a fails goes next on_error else' failing going k now s stands cont safe =
      let x = known-taken program sizes (as_known k) a.first _ now in
      let y = known-taken program sizes (as_known k) a.second _ x.2 in
      let z = known-taken program sizes (as_known k) (receiver_of a) _ y.2 in
      let spot : Spot = spot_in z.0 in
      let result : Value → Value → Result Number SizeError = λ u v. operated a.operation (receiver_decimals spot.picture) (number_of u) (number_of v) in
      let u : Value = said sizes k.texts x.0 in
      let v : Value = said sizes k.texts y.0 in
      let one : value_in x.0 s.store ≡ u = value_in-texts x.0 sizes s.store k.texts stands.known.texts stands.known.sized in
      let other : value_in y.0 s.store ≡ v = value_in-texts y.0 sizes s.store k.texts stands.known.texts stands.known.sized in
      let is : (rest : List PathAnswer) → arithmetic_on program a on_error else' (answered lines rest s) ≡ settled (received spot.picture (result u v)) spot on_error else' (answered lines rest s) =
      λ rest.
      let t : ProgramState = answered lines rest s in
      let at : IsKnownAt sizes (as_known k) t = stands-answered sizes k s stands lines rest in
      taken-is (operand_taken program t a.first) x.0 t
      (λ p. with_taken (operand_taken program t a.second) t (λ q. with_taken (operand_taken program t (receiver_of a)) t (λ r. or_else (computed a.operation (value_in p t.store) (value_in q t.store) (spot_in r) t) t on_error else')))
      (x.1 t at)
      ∙ taken-is (operand_taken program t a.second) y.0 t
      (λ q. with_taken (operand_taken program t (receiver_of a)) t (λ r. or_else (computed a.operation (value_in x.0 t.store) (value_in q t.store) (spot_in r) t) t on_error else'))
      (y.1 t at)
      ∙ taken-is (operand_taken program t (receiver_of a)) z.0 t (λ r. or_else (computed a.operation (value_in x.0 t.store) (value_in y.0 t.store) (spot_in r) t) t on_error else') (z.1 t at)
      ∙ ap (λ p. or_else (stored_in spot (result p (value_in y.0 t.store)) t) t on_error else') one
      ∙ ap (λ q. or_else (stored_in spot (result u q) t) t on_error else') other
      ∙ result-is on_error else' spot t (result u v) in
      by spot (received spot.picture (result u v)) is z.2.0 z.2.1
    where
      by : (spot : Spot) (o : Option (List ℕ))
          → ((rest : List PathAnswer) → arithmetic_on program a on_error else' (answered lines rest s) ≡ settled o spot on_error else' (answered lines rest s))
          → (o ≡ None → fails (with_known k (as_known k)))
          → ((chars : List ℕ) → o ≡ Some chars → goes (with_known k (record (as_known k) { texts = with_text spot chars sizes k.texts })))
          → Safe holds lines most k.inside k.sent s (λ t. then_do (arithmetic_on program a on_error else' t) cont)
      by spot None is none some =
          safe-moved sizes holds lines most k.inside k.sent s s (λ t. then_do (arithmetic_on program a on_error else' t) cont) (λ t. then_do (on_error t) cont)
          (λ rest. ap (λ out. then_do out cont) (is rest)) (failing k (none refl) s stands cont safe)
      by spot (Some chars) is none some =
          safe-moved sizes holds lines most k.inside k.sent s (record s { store = put_at spot chars s.store }) (λ t. then_do (arithmetic_on program a on_error else' t) cont) (λ t. then_do (else' t) cont)
          (λ rest. ap (λ out. then_do out cont) (is rest))
          (going (record k { texts = with_text spot chars sizes k.texts }) (some chars refl) (record s { store = put_at spot chars s.store }) (stands-put sizes k s stands spot chars) cont safe)

  -- ---- SEND

  replied-safe : (message : List ℕ) (c : ℕ) (reply : List ℕ) (next : RequesterMoment → Type 0) (k : RequesterMoment) (s : ProgramState) → Stands sizes k s
      → (cont : ProgramState → Out)
      → ((after : RequesterMoment) → next after → (t : ProgramState) → Stands sizes after t → Safe holds lines most after.inside after.sent t cont)
      → (o : Option (ℕ × Spot))
      → ((place : ℕ × Spot) → o ≡ Some place
      → next (record k {
        texts = with_moved (Text' reply) place.1 sizes k.texts;
        registers = record k.registers { termination = place.0 + 1 };
        sent = sent_behind k.inside k.sent (record { class = c; message = message; reply = reply });
      }))
      → Safe holds lines most k.inside (sent_behind k.inside k.sent (record { class = c; message = message; reply = reply })) s (λ u. then_do (yielded o reply u) cont)
  replied-safe message c reply next k s stands cont safe None now =
      stuck sizes holds lines most k.inside (sent_behind k.inside k.sent (record { class = c; message = message; reply = reply })) s (λ u. then_do (yielded None reply u) cont) (λ a fits. fits)
  replied-safe message c reply next k s stands cont safe (Some place) now =
      let request : RepliedRequest = record { class = c; message = message; reply = reply } in
      let spot : Spot = place.1 in
      let t : ProgramState = record s { registers = record s.registers { termination = place.0 + 1 }; store = put_at spot (moved_chars spot.picture spot.size (Text' reply)) s.store } in
      let put = stands-put sizes k s stands spot (moved_chars spot.picture spot.size (Text' reply)) in
      goes-on sizes holds lines most k.inside (sent_behind k.inside k.sent request) (yielded (Some place) reply) s t cont (λ rest. refl)
      (safe (record k {
        texts = with_moved (Text' reply) place.1 sizes k.texts;
        registers = record k.registers { termination = place.0 + 1 };
        sent = sent_behind k.inside k.sent request;
      }) (now place refl) t
      (record {
        known = record {
          texts = put.known.texts;
          sized = put.known.sized;
          registers = ap (λ (r : Registers). record r { termination = place.0 + 1 }) stands.known.registers;
          files = stands.known.files;
        };
        in_unit = stands.in_unit;
      }))

  pub send-runs : (message : Operand) (class : Word) (codes : List SendCode) (next : RequesterMoment → Type 0) (k : RequesterMoment)
      → WithKnown program sizes (as_known k) message (λ found. WithAllKnown program sizes (as_known k) (yields_of codes) (λ items.
      SendMeets deck program sizes holds (as_it_stands (said sizes k.texts found)) (class_number deck class) codes (map spot_in items) next k))
      → Runs sizes holds lines most (send requester message class codes) next k
  send-runs message class codes next k now s stands cont safe =
      let x = known-taken program sizes (as_known k) message _ now in
      let xs = all-taken program sizes (as_known k) (yields_of codes) _ x.2 in
      let spots : List Spot = map spot_in xs.0 in
      let c : ℕ = class_number deck class in
      let chars : List ℕ = as_it_stands (said sizes k.texts x.0) in
      let same : chars_in x.0 s.store ≡ chars = ap as_it_stands (value_in-texts x.0 sizes s.store k.texts stands.known.texts stands.known.sized) in
      let after = stands-counted sizes k s stands 0 in
      safe-same sizes holds lines most k.inside k.sent s (λ u. then_do (asks (verb.Send c chars) (after_send_answer codes spots) u) cont) (λ u. then_do (send requester message class codes u) cont)
      (λ rest.
      let t : ProgramState = answered lines rest s in
      sym (ap (λ out. then_do out cont)
      (taken-is (operand_taken program t message) x.0 t
      (λ found. with_taken (taken_all program t (yields_of codes)) t (λ items. asks (verb.Send c (chars_in found t.store)) (after_send_answer codes (map spot_in items)) t)) (x.1 t (stands-answered sizes k s stands lines rest))
      ∙ taken-is (taken_all program t (yields_of codes)) xs.0 t (λ items. asks (verb.Send c (chars_in x.0 t.store)) (after_send_answer codes (map spot_in items)) t) (xs.1 t (stands-answered sizes k s stands lines rest))
      ∙ ap (λ m. asks (verb.Send c m) (after_send_answer codes spots) t) same)))
      (asks-safe sizes holds lines most k.inside k.sent (verb.Send c chars) (after_send_answer codes spots) s cont
      (each c chars spots xs.2 (record s { count = 0 }) after))
    where
      each : (c : ℕ) (chars : List ℕ) (spots : List Spot) → SendMeets deck program sizes holds chars c codes spots next k → (t : ProgramState) → Stands sizes k t
          → (a : PathAnswer) → Answers (verb.Send c chars) a
          → Commits holds (verb.Send c chars) a k.inside k.sent
          × Safe holds lines most (open_after a k.inside) (sent_after a (verb.Send c chars) k.inside k.sent) t (λ u. then_do (after_send_answer codes spots (told lines a) u) cont)
      each c chars spots met t at (Replied reply) fits = ((met reply).0, replied-safe chars c reply next k t at cont safe (found_by codes spots reply) (met reply).1)
      each c chars spots met t at (Failed code) fits = (tt, stuck sizes holds lines most k.inside k.sent t (λ u. then_do (faults code u) cont) (λ a fits. fits))
      each c chars spots met t at Shown fits = absurd fits
      each c chars spots met t at (Entry n) fits = absurd fits
      each c chars spots met t at (Begun r) fits = absurd fits
      each c chars spots met t at Ended fits = absurd fits
      each c chars spots met t at Dropped fits = absurd fits

  -- ---- transactions

  by-open : (b : Bool) (inside : Bool) (sent : List RepliedRequest) (s : ProgramState) (one other : ProgramState → Out) (cont : ProgramState → Out) → s.in_unit ≡ b
      → Safe holds lines most inside sent s (λ u. then_do (if b then one u else other u) cont)
      → Safe holds lines most inside sent s (λ u. then_do (if u.in_unit then one u else other u) cont)
  by-open b inside sent s one other cont is safe =
      safe-same sizes holds lines most inside sent s (λ u. then_do (if b then one u else other u) cont) (λ u. then_do (if u.in_unit then one u else other u) cont)
      (λ rest. let t : ProgramState = answered lines rest s in sym (ap (λ (b : Bool). then_do (if b then one t else other t) cont) is)) safe

  fault-safe : (code : ℕ) (inside : Bool) (sent : List RepliedRequest) (s : ProgramState) (cont : ProgramState → Out)
      → Safe holds lines most inside sent s (λ u. then_do (faults code u) cont)
  fault-safe code inside sent s cont = stuck sizes holds lines most inside sent s (λ u. then_do (faults code u) cont) (λ a fits. fits)

  -- a transaction opens or closes
  moved-stands : (k : RequesterMoment) (s : ProgramState) → Stands sizes k s → (b : Bool) (sent : List RepliedRequest)
      → Stands sizes (record k { inside = b; sent = sent }) (record s { in_unit = b; count = 0 })
  moved-stands k s stands b sent = record {
    known = record { texts = stands.known.texts; sized = stands.known.sized; registers = stands.known.registers; files = stands.known.files };
    in_unit = refl;
  }

  pub begin-runs : (next : RequesterMoment → Type 0) (k : RequesterMoment) → BeginMeets deck program sizes holds k.inside next k → Runs sizes holds lines most begin next k
  begin-runs next k now s stands cont safe =
      by-open k.inside k.inside k.sent s (faults 205) (asks verb.Begin after_begin_answer) cont stands.in_unit (by k.inside now)
    where
      each : ((r : ℕ) → next (record k { registers = record k.registers { restarts = r }; inside = true; sent = [] })) → (a : PathAnswer) → Answers verb.Begin a
          → Commits holds verb.Begin a k.inside k.sent
          × Safe holds lines most (open_after a k.inside) (sent_after a verb.Begin k.inside k.sent) (record s { count = 0 }) (λ u. then_do (after_begin_answer (told lines a) u) cont)
      each now (Begun r) fits = (
        tt,
        goes-on sizes holds lines most true [] (after_begin_answer (answer.Begun r)) (record s { count = 0 }) (record s { count = 0; in_unit = true; registers = record s.registers { restarts = r } }) cont (λ rest. refl)
            (safe (record k { registers = record k.registers { restarts = r }; inside = true; sent = [] }) (now r) (record s { count = 0; in_unit = true; registers = record s.registers { restarts = r } })
            (record {
              known = record {
                texts = stands.known.texts;
                sized = stands.known.sized;
                registers = ap (λ (x : Registers). record x { restarts = r }) stands.known.registers;
                files = stands.known.files;
              };
              in_unit = refl;
            })),
      )
      each now Shown fits = absurd fits
      each now (Entry n) fits = absurd fits
      each now (Replied reply) fits = absurd fits
      each now (Failed code) fits = absurd fits
      each now Ended fits = absurd fits
      each now Dropped fits = absurd fits

      by : (b : Bool) → BeginMeets deck program sizes holds b next k
          → Safe holds lines most k.inside k.sent s (λ u. then_do (if b then faults 205 u else asks verb.Begin after_begin_answer u) cont)
      by true now = fault-safe 205 k.inside k.sent s cont
      by false now = asks-safe sizes holds lines most k.inside k.sent verb.Begin after_begin_answer s cont (each now)

  pub end-runs : (next : RequesterMoment → Type 0) (k : RequesterMoment) → EndMeets deck program sizes holds k.inside next k → Runs sizes holds lines most end next k
  end-runs next k now s stands cont safe =
      by-open k.inside k.inside k.sent s (asks verb.End outside) (faults 206) cont stands.in_unit (by k.inside now)
    where
      each : holds k.sent × next (record k { inside = false; sent = [] }) → (a : PathAnswer) → Answers verb.End a
          → Commits holds verb.End a k.inside k.sent
          × Safe holds lines most (open_after a k.inside) (sent_after a verb.End k.inside k.sent) (record s { count = 0 }) (λ u. then_do (outside (told lines a) u) cont)
      each now Ended fits = (
        now.0,
        goes-on sizes holds lines most false [] (outside answer.Ended) (record s { count = 0 }) (record s { in_unit = false; count = 0 }) cont (λ rest. refl)
            (safe (record k { inside = false; sent = [] }) now.1 (record s { in_unit = false; count = 0 }) (moved-stands k s stands false [])),
      )
      each now Shown fits = absurd fits
      each now (Entry n) fits = absurd fits
      each now (Begun r) fits = absurd fits
      each now (Replied reply) fits = absurd fits
      each now (Failed code) fits = absurd fits
      each now Dropped fits = absurd fits

      by : (b : Bool) → EndMeets deck program sizes holds b next k
          → Safe holds lines most k.inside k.sent s (λ u. then_do (if b then asks verb.End outside u else faults 206 u) cont)
      by true now = asks-safe sizes holds lines most k.inside k.sent verb.End outside s cont (each now)
      by false now = fault-safe 206 k.inside k.sent s cont

  pub abort-runs : (next : RequesterMoment → Type 0) (k : RequesterMoment) → AbortMeets deck program sizes holds k.inside next k → Runs sizes holds lines most abort next k
  abort-runs next k now s stands cont safe =
      by-open k.inside k.inside k.sent s (asks verb.Drop outside) (faults 206) cont stands.in_unit (by k.inside now)
    where
      each : next (record k { inside = false; sent = [] }) → (a : PathAnswer) → Answers verb.Drop a
          → Commits holds verb.Drop a k.inside k.sent
          × Safe holds lines most (open_after a k.inside) (sent_after a verb.Drop k.inside k.sent) (record s { count = 0 }) (λ u. then_do (outside (told lines a) u) cont)
      each now Dropped fits = (
        tt,
        goes-on sizes holds lines most false [] (outside answer.Dropped) (record s { count = 0 }) (record s { in_unit = false; count = 0 }) cont (λ rest. refl)
            (safe (record k { inside = false; sent = [] }) now (record s { in_unit = false; count = 0 }) (moved-stands k s stands false [])),
      )
      each now Shown fits = absurd fits
      each now (Entry n) fits = absurd fits
      each now (Begun r) fits = absurd fits
      each now (Replied reply) fits = absurd fits
      each now (Failed code) fits = absurd fits
      each now Ended fits = absurd fits

      by : (b : Bool) → AbortMeets deck program sizes holds b next k
          → Safe holds lines most k.inside k.sent s (λ u. then_do (if b then asks verb.Drop outside u else faults 206 u) cont)
      by true now = asks-safe sizes holds lines most k.inside k.sent verb.Drop outside s cont (each now)
      by false now = fault-safe 206 k.inside k.sent s cont

  redo-by : (b : Bool) (s : ProgramState) (cont : ProgramState → Out) (a : PathAnswer) → Answers (verb_of (then_do (if b then Asks verb.Redo s else faults 206 s) cont)) a → ⊥
  redo-by true s cont a fits = fits
  redo-by false s cont a fits = fits

  pub restart-runs : (next : RequesterMoment → Type 0) (k : RequesterMoment) → Runs sizes holds lines most restart next k
  restart-runs next k s stands cont safe = stuck sizes holds lines most k.inside k.sent s (λ u. then_do (restart u) cont) (redo-by s.in_unit (answered lines [] s) cont)

  stop-by : (b : Bool) (s : ProgramState) (cont : ProgramState → Out) (a : PathAnswer) → Answers (verb_of (then_do (if b then faults 207 s else Asks verb.Stop s) cont)) a → ⊥
  stop-by true s cont a fits = fits
  stop-by false s cont a fits = fits

  pub stop-runs : (next : RequesterMoment → Type 0) (k : RequesterMoment) → Runs sizes holds lines most (stop requester) next k
  stop-runs next k s stands cont safe = stuck sizes holds lines most k.inside k.sent s (λ u. then_do (stop requester u) cont) (stop-by s.in_unit (answered lines [] s) cont)

  pub leave-runs : (next : RequesterMoment → Type 0) (k : RequesterMoment) → Runs sizes holds lines most Leaves next k
  leave-runs next k s stands cont safe = stuck sizes holds lines most k.inside k.sent s (λ u. then_do (Leaves u) cont) (λ a fits. fits)
