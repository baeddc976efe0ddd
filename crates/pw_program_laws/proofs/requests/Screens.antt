-- DISPLAY and ACCEPT: behind an entry the items have any texts of their sizes.
use Rattle.std.proofs.Common.{◌≡◌, ℕ, ◌+◌, ◌≤◌, Bool, false, List, [], ◌∷◌, length, map, Option, Some, None, refl, sym, ap, subst, arith}
use Rattle.pw_code.specs.Entry.{EntryLineModel}
use Rattle.pw_code.specs.declared.field.Field.{Field}
use Rattle.pw_code.specs.declared.field.FieldKind.{FieldKind}
use Rattle.pw_code.specs.declared.field.FieldKind.TheVariants as field
use Rattle.pw_code.specs.declared.field.ScreenTable.{ScreenTable}
use Rattle.pw_code.specs.declared.verb.Answer.{Answer}
use Rattle.pw_code.specs.declared.verb.Verb.TheVariants as verb
use Rattle.pw_data.specs.Store.{joined}
use Rattle.pw_forms.specs.declared.operand.Operand.{Operand}
use Rattle.pw_invariants.specs.Requests.{RepliedRequest}
use Rattle.pw_onecopy.specs.Path.{PathAnswer, Shown, Entry, Begun, Replied, Failed, Ended, Dropped}
use Rattle.pw_picture.specs.Grammar.{size_of}
use Rattle.pw_program_laws.proofs.Operands.{known-taken}
use Rattle.pw_program_laws.proofs.Texts.{dealt-sized, put_at-texts}
use Rattle.pw_program_laws.specs.Meets.{WithKnown}
use Rattle.pw_program_laws.specs.Texts.{HaveSizes, texts_in}
use Rattle.pw_program_laws.proofs.requests.Follows.{Answers, Commits, Follows, Safe, answered, open_after, sent_after}
use Rattle.pw_program_laws.proofs.requests.Forms.{requester}
use Rattle.pw_program_laws.proofs.requests.Runs.{Runs, Stands, asks-safe, safe-same, stands-answered, stands-shown, taken-is}
use Rattle.pw_program_laws.specs.Requests.{RequesterMoment, as_known}
use Rattle.pw_terminal.specs.Entries.{check, with_advice}
use Rattle.pw_terminal.specs.Screen.{with_message}
use Rattle.pw_terminal.specs.Shown.{with_screen}
use Rattle.pw_terminal.specs.declared.entries.EntryAnswer.{EntryAnswer}
use Rattle.pw_terminal.specs.declared.entries.EntryAnswer.TheVariants.{Valid, BadKey, BadField}
use Rattle.pw_tree_meaning.specs.Operands.{chars_in, operand_taken}
use Rattle.pw_tree_meaning.specs.Program.{DeckModel, Program, screen_named, screen_number}
use Rattle.pw_tree_meaning.specs.Runs.{entry_at, told}
use Rattle.pw_tree_meaning.specs.Screens.{accept, accept_by, advised, awaited, display, display_by, display_table, entered_by, entered_chars, entered_in, entry_checked, screen_in, shows, store_entered}
use Rattle.pw_tree_meaning.specs.State.{ProgramState, Registers, Out, Goes, asks, then_do}
use Rattle.pw_tree_meaning.specs.Store.{Spot, Store, put_at}
use Rattle.pw_words.specs.Words.{Word}

module _ (deck : DeckModel) (program : Program) (first : ℕ) (sizes : List ℕ) (holds : List RepliedRequest → Type 0) (lines : List EntryLineModel) (most : ℕ) where
  -- ---- DISPLAY

  shown-safe : (cells : List ℕ) (next : RequesterMoment → Type 0) (k : RequesterMoment) → next k → (s : ProgramState) → Stands sizes k s → (cont : ProgramState → Out)
      → ((after : RequesterMoment) → next after → (t : ProgramState) → Stands sizes after t → Safe holds lines most after.inside after.sent t cont)
      → Safe holds lines most k.inside k.sent (record s { screen = cells }) (λ u. then_do (asks verb.Show (λ a t. Goes t) u) cont)
  shown-safe cells next k now s stands cont safe =
      asks-safe sizes holds lines most k.inside k.sent verb.Show (λ a t. Goes t) (record s { screen = cells }) cont each
    where
      each : (a : PathAnswer) → Answers verb.Show a
          → Commits holds verb.Show a k.inside k.sent
          × Safe holds lines most (open_after a k.inside) (sent_after a verb.Show k.inside k.sent) (record s { screen = cells; count = 0 }) (λ u. then_do (Goes u) cont)
      each Shown fits = (tt, safe k now (record s { screen = cells; count = 0 }) (stands-shown sizes k s stands 0 cells))
      each (Entry n) fits = absurd fits
      each (Begun r) fits = absurd fits
      each (Replied reply) fits = absurd fits
      each (Failed code) fits = absurd fits
      each Ended fits = absurd fits
      each Dropped fits = absurd fits

  pub table-runs : (base : Bool) (o : Option ScreenTable) (next : RequesterMoment → Type 0) (k : RequesterMoment) → next k → Runs sizes holds lines most (display_table base o) next k
  table-runs base None next k now s stands cont safe = shown-safe s.screen next k now s stands cont safe
  table-runs base (Some table) next k now s stands cont safe = shown-safe (with_screen base (joined s.store) table s.screen) next k now s stands cont safe

  display-by : (o : Option ScreenTable) (shown : Operand) (next : RequesterMoment → Type 0) (k : RequesterMoment) → WithKnown program sizes (as_known k) shown (λ found. next k)
      → Runs sizes holds lines most (display_by o (requester deck program first sizes holds lines most) shown) next k
  display-by (Some table) shown next k now =
      let x = known-taken program sizes (as_known k) shown _ now in table-runs false (Some table) next k x.2
  display-by None shown next k now = λ s stands cont safe.
      let x = known-taken program sizes (as_known k) shown _ now in
      let cells : List ℕ = with_message (chars_in x.0 s.store) s.screen in
      safe-same sizes holds lines most k.inside k.sent s (λ u. then_do (shows cells u) cont) (λ u. then_do (display_by None (requester deck program first sizes holds lines most) shown u) cont)
      (λ rest.
      let t : ProgramState = answered lines rest s in
      sym (ap (λ out. then_do out cont)
      (taken-is (operand_taken program t shown) x.0 t (λ found. shows (with_message (chars_in found t.store) t.screen) t) (x.1 t (stands-answered sizes k s stands lines rest)))))
      (shown-safe cells next k x.2 s stands cont safe)

  pub display-runs : (shown : Operand) (next : RequesterMoment → Type 0) (k : RequesterMoment) → WithKnown program sizes (as_known k) shown (λ found. next k)
      → Runs sizes holds lines most (display (requester deck program first sizes holds lines most) shown) next k
  display-runs shown next k now = display-by (screen_in program shown) shown next k now

  -- ---- ACCEPT

  put-sized : (spot : Spot) (chars : List ℕ) (store : Store) → HaveSizes sizes (texts_in store) → HaveSizes sizes (texts_in (put_at spot chars store))
  put-sized spot chars store sized =
      let P : List (List ℕ) → Type 0 = HaveSizes sizes in
      subst P (sym (put_at-texts spot chars sizes store (texts_in store) refl sized)) (dealt-sized spot chars 0 sizes (texts_in store) sized)

  kind-sized : (shown : FieldKind) (value : List ℕ) (store : Store) → HaveSizes sizes (texts_in store) → HaveSizes sizes (texts_in (entered_in shown value store))
  kind-sized (field.Literal text) value store sized = sized
  kind-sized (field.Item picture at source show) value store sized = put-sized (record { at = at; size = size_of source; picture = Some source }) (entered_chars source value) store sized

  field-sized : (o : Option Field) (value : List ℕ) (store : Store) → HaveSizes sizes (texts_in store) → HaveSizes sizes (texts_in (entered_by o value store))
  field-sized None value store sized = sized
  field-sized (Some found) value store sized = kind-sized found.shown value store sized

  entered-sized : (fields : List Field) (pairs : List (List ℕ × List ℕ)) (store : Store) → HaveSizes sizes (texts_in store) → HaveSizes sizes (texts_in (store_entered fields pairs store))
  entered-sized fields [] store sized = sized
  entered-sized fields (pair ∷ pairs) store sized = entered-sized fields pairs _ (field-sized _ pair.1 store sized)

  -- a state of which only the sizes of its items are known
  record Loose (k : RequesterMoment) (s : ProgramState) : Type 0 where
    sized : HaveSizes sizes (texts_in s.store)
    in_unit : s.in_unit ≡ k.inside
    files : s.files ≡ (λ f. [])

  module _ (table : ScreenTable) (keys : List ℕ) (number : ℕ) (next : RequesterMoment → Type 0) (k : RequesterMoment)
      (now : (texts : List (List ℕ)) (registers : Registers) → HaveSizes sizes texts → next (record k { texts = texts; registers = registers }))
      (cont : ProgramState → Out)
      (safe : (after : RequesterMoment) → next after → (t : ProgramState) → Stands sizes after t → Safe holds lines most after.inside after.sent t cont) where
    loose-safe : (t : ProgramState) → Loose k t → Safe holds lines most k.inside k.sent t cont
    loose-safe t loose =
        safe (record k { texts = texts_in t.store; registers = t.registers }) (now (texts_in t.store) t.registers loose.sized) t
        (record { known = record { texts = refl; sized = loose.sized; registers = refl; files = loose.files }; in_unit = loose.in_unit })

    checked : (path : List PathAnswer) → length path ≤ most → (wrong : List Answer → ProgramState → Out)
        → ((s : ProgramState) → Loose k s → Follows holds k.inside k.sent (λ rest. then_do (wrong (map (told lines) rest) (answered lines rest s)) cont) path)
        → (line : EntryLineModel) (found : EntryAnswer) (s : ProgramState) → Loose k s
        → Follows holds k.inside k.sent (λ rest. then_do (entry_checked table line found (wrong (map (told lines) rest)) (answered lines rest s)) cont) path
    checked path le wrong go line (Valid position) s loose =
        loose-safe (record s { store = store_entered table.fields line.fields s.store; registers = record s.registers { termination = position } })
        (record { sized = entered-sized table.fields line.fields s.store loose.sized; in_unit = loose.in_unit; files = loose.files }) path le
    checked path le wrong go line BadKey s loose =
        go (record s { screen = with_advice BadKey line s.screen }) (record { sized = loose.sized; in_unit = loose.in_unit; files = loose.files })
    checked path le wrong go line (BadField place) s loose =
        go (record s { screen = with_advice (BadField place) line s.screen }) (record { sized = loose.sized; in_unit = loose.in_unit; files = loose.files })

    again : (s : ProgramState) → Loose k s → Loose k (record s { count = 0 })
    again s loose = record { sized = loose.sized; in_unit = loose.in_unit; files = loose.files }

    mutual
      awaited-follows : (path : List PathAnswer) → length path ≤ most → (s : ProgramState) → Loose k s
          → Follows holds k.inside k.sent (λ rest. then_do (awaited table keys (verb.Accept number) (map (told lines) rest) (answered lines rest s)) cont) path
      awaited-follows [] le s loose = tt
      awaited-follows (Entry n ∷ path) le s loose = λ fits. (
        tt,
        checked path (omega (arith, le)) (advised table keys (verb.Accept number)) (advised-follows path (omega (arith, le)))
            (entry_at lines n) (check table keys (entry_at lines n)) (record s { count = 0 }) (again s loose),
      )
      awaited-follows (Shown ∷ path) le s loose = λ fits. absurd fits
      awaited-follows (Begun r ∷ path) le s loose = λ fits. absurd fits
      awaited-follows (Replied reply ∷ path) le s loose = λ fits. absurd fits
      awaited-follows (Failed code ∷ path) le s loose = λ fits. absurd fits
      awaited-follows (Ended ∷ path) le s loose = λ fits. absurd fits
      awaited-follows (Dropped ∷ path) le s loose = λ fits. absurd fits

      advised-follows : (path : List PathAnswer) → length path ≤ most → (s : ProgramState) → Loose k s
          → Follows holds k.inside k.sent (λ rest. then_do (advised table keys (verb.Accept number) (map (told lines) rest) (answered lines rest s)) cont) path
      advised-follows [] le s loose = tt
      advised-follows (Shown ∷ path) le s loose = λ fits. (tt, awaited-follows path (omega (arith, le)) (record s { count = 0 }) (again s loose))
      advised-follows (Entry n ∷ path) le s loose = λ fits. absurd fits
      advised-follows (Begun r ∷ path) le s loose = λ fits. absurd fits
      advised-follows (Replied reply ∷ path) le s loose = λ fits. absurd fits
      advised-follows (Failed code ∷ path) le s loose = λ fits. absurd fits
      advised-follows (Ended ∷ path) le s loose = λ fits. absurd fits
      advised-follows (Dropped ∷ path) le s loose = λ fits. absurd fits

  sized-in : (k : RequesterMoment) (s : ProgramState) → Stands sizes k s → HaveSizes sizes (texts_in s.store)
  sized-in k s stands = let P : List (List ℕ) → Type 0 = HaveSizes sizes in subst P (sym stands.known.texts) stands.known.sized

  accept-by : (o : Option ScreenTable) (keys : List ℕ) (number : ℕ) (next : RequesterMoment → Type 0) (k : RequesterMoment)
      → ((texts : List (List ℕ)) (registers : Registers) → HaveSizes sizes texts → next (record k { texts = texts; registers = registers }))
      → Runs sizes holds lines most (accept_by o keys number) next k
  accept-by None keys number next k now s stands cont safe = safe k (now k.texts k.registers stands.known.sized) s stands
  accept-by (Some table) keys number next k now s stands cont safe = λ path le.
      awaited-follows table keys number next k now cont safe path le s (record { sized = sized-in k s stands; in_unit = stands.in_unit; files = stands.known.files })

  pub accept-runs : (name : Word) (keys : List ℕ) (next : RequesterMoment → Type 0) (k : RequesterMoment)
      → ((texts : List (List ℕ)) (registers : Registers) → HaveSizes sizes texts → next (record k { texts = texts; registers = registers }))
      → Runs sizes holds lines most (accept (requester deck program first sizes holds lines most) name keys) next k
  accept-runs name keys next k now = accept-by (screen_named program name) keys (first + screen_number program name) next k now
