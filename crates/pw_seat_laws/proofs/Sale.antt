-- SALE-P, run by itself, keeps the seats.
use Rattle.std.proofs.Common.{◌≡◌, ◌≢◌, ℕ, zero, suc, ◌+◌, ◌-◌, ◌*◌, ◌<◌, ◌≤◌, Bool, true, false, List, [], ◌∷◌, length, take, drop, Option, Some, None, inl, inr, ◌⊎◌, if◌then◌else◌, refl, sym, ap, ◌∙◌, subst, arith}
use Rattle.std.specs.Prelude.{◌&&◌, ◌||◌, ◌==◌, nat_le, codes}
use Rattle.std.specs.Ordering.{is_eq}
use Rattle.std.proofs.lemmas.Bool.{and_parts, leb-true}
use Rattle.std.proofs.lemmas.List.Elements.{All-contains}
use Rattle.std.proofs.lemmas.Map.Text.{is_eq-slice_cmp}
use Rattle.std.proofs.lemmas.Slice.Eq.{bytes_eq-Decides}
use Rattle.pw_code.specs.declared.file.FileOp.TheVariants.{Write, Rewrite}
use Rattle.pw_files.proofs.Nearest.{record_after-found}
use Rattle.pw_files.proofs.RecordLemmas.{IsFile-with_record}
use Rattle.pw_files.specs.Records.{IsContent, IsFile, has_key, record_after, record_at, with_record}
use Rattle.pw_forms.specs.declared.operand.Operand.TheVariants as operands
use Rattle.pw_forms.specs.declared.statement.Statement as form
use Rattle.pw_forms.specs.declared.statement.Statement.{Statement, Row_of-Statement, end_of-Statement, more_of-Statement}
use Rattle.pw_invariants.specs.Units.{FileRecords}
use Rattle.pw_laws.proofs.seeing.FoundRecords.{next-found}
use Rattle.pw_onecopy.proofs.Update.{upd-other, upd-same}
use Rattle.pw_onecopy.specs.Operation.{change_answer, read_answer}
use Rattle.pw_onecopy.specs.Update.{upd}
use Rattle.pw_picture.specs.declared.picture.Picture.{Picture}
use Rattle.pw_picture.specs.declared.picture.Picture.TheVariants as picture
use Rattle.pw_picture.specs.Text.{fitted}
use Rattle.pw_program_laws.proofs.Ends.{EndsWell, counted-well}
use Rattle.pw_seat_laws.proofs.Held.{Fits, Held, dots, fits-put, held-key, held-outside, held-read, held-taken, held-written, holder-long, holder_spot, key_spot, row-long, row_spot}
use Rattle.pw_seat_laws.proofs.Parts.{apart-by, put-outside}
use Rattle.pw_seat_laws.proofs.Rows.{keeps-on, keeps-rewritten}
use Rattle.pw_seat_laws.proofs.Trees.{all_got, has_sale, is_done, is_found, is_free, is_refused, move, next_row, of_table, one_of, one_to, own, past_four, row_found, row_try, row_write, tells_seats, too_few, sale_main, sale_program, take_seat, try_seat, write_sale}
use Rattle.pw_seat_laws.proofs.Turns.{add-step, counted, finds, if-step, move-step, nth, own-records, perform-step, plain-row, plain-step, put_in, row-step, step, until-step}
use Rattle.pw_seat_laws.specs.Seats.{KeepsSeats}
use Rattle.pw_seat_laws.specs.Servers.{SeatChoices, seat_deck}
use Rattle.pw_tree_meaning.specs.Conditions.{compared, of_both, of_two}
use Rattle.pw_tree_meaning.specs.Files.{file_done, read_next, receive, reply, write_by}
use Rattle.pw_tree_meaning.specs.Operands.{ResolvedOperand, Fixed, Stored, spot_in, value_in}
use Rattle.pw_tree_meaning.specs.Program.{DeckModel}
use Rattle.pw_tree_meaning.specs.Runs.{performed}
use Rattle.pw_tree_meaning.specs.Setting.{Setting}
use Rattle.pw_tree_meaning.specs.State.{ProgramState, Out, Goes, faults}
use Rattle.pw_tree_meaning.specs.Statements.{body, branch_row}
use Rattle.pw_tree_meaning.specs.Store.{Spot, Store, chars_at, initial_store, put_at}
use Rattle.pw_words.specs.Words.{Word}
use Rattle.pw_tree_meaning.specs.Values.{Chars, Register, Number', Text', number_of, whole_part}

some-is : {A : Type 0} {x y : A} → Some x ≡ Some y → x ≡ y
some-is e = cc

-- ---- what is known at a moment

abbrev Rows : List (List ℕ) → List (List ℕ) → Type 0
Rows before records = IsFile 6 records × KeepsSeats before records

-- the items have their sizes, and the file keeps its seats
pub record Kept (before : List (List ℕ)) (store : Store) (records : List (List ℕ)) : Type 0 where
  pub fits : Fits store
  pub rows : Rows before records

-- SEAT-ROW is a row of the file, but for seats that nobody held
record Trying (before : List (List ℕ)) (row : List ℕ) (store : Store) (records : List (List ℕ)) : Type 0 where
  pub rows : Rows before records
  pub there : record_at 6 records (take 6 row) ≡ Some row
  pub content : IsContent 6 row
  pub held : Held row store

abbrev one_digit : Spot → Store → ℕ
one_digit spot store = whole_part (number_of (Chars (Some (picture.Number 1 0 false)) (chars_at spot store)))

abbrev digit_spot : ℕ → Spot
digit_spot at = record { at = at; size = 1; picture = Some (picture.Number 1 0 false) }

-- and nobody holds the seat of I
record Taking (before : List (List ℕ)) (row : List ℕ) (store : Store) (records : List (List ℕ)) : Type 0 where
  pub trying : Trying before row store records
  pub free : (seat : ℕ) → seat < 4 → one_digit (digit_spot 68) store ≡ suc seat → chars_at (holder_spot seat) store ≡ dots

-- SALE-P begins so
pub starts-kept : (before records : List (List ℕ)) → IsFile 6 records → KeepsSeats before records → Kept before (initial_store sale_program) records
starts-kept before records file keeps = record { fits = refl; rows = (file, keeps) }

module _ (before : List (List ℕ)) where
  kept-put : (spot : Spot) (chars : List ℕ) (store : Store) (records : List (List ℕ)) → Kept before store records → Kept before (put_at spot chars store) records
  kept-put spot chars store records kept = record { fits = fits-put spot chars store kept.fits; rows = kept.rows }

  abbrev Outside : Spot → Type 0
  Outside spot = (p : ℕ) → spot.at ≤ p → p < spot.at + spot.size → 25 ≤ p → p < 67 → ⊥

  module _ (row : List ℕ) where
    trying-put : (spot : Spot) (chars : List ℕ) (store : Store) (records : List (List ℕ)) → Outside spot
        → Trying before row store records → Trying before row (put_at spot chars store) records
    trying-put spot chars store records away trying =
        record { rows = trying.rows; there = trying.there; content = trying.content; held = held-outside row spot chars store away trying.held }

    taking-put : (spot : Spot) (chars : List ℕ) (store : Store) (records : List (List ℕ)) → spot.at ≡ 67 → spot.size ≡ 1
        → Taking before row store records → Taking before row (put_at spot chars store) records
    taking-put spot chars store records at size taking =
        record {
          trying = trying-put spot chars store records (λ p from below low high. omega (arith, from, high, at)) taking.trying;
          free = λ seat lt is.
              put-outside (holder_spot seat) spot (apart-by (holder_spot seat) spot (λ p from below low high. omega (arith, from, at, high, lt))) chars store
              ∙ taking.free seat lt
              (sym
              (ap (λ xs. whole_part (number_of (Chars (Some (picture.Number 1 0 false)) xs)))
              (put-outside (digit_spot 68) spot (apart-by (digit_spot 68) spot (λ p from below low high. omega (arith, below, low, at, size))) chars store))
              ∙ is);
        }

-- ---- subscripts

within : (k : ℕ) (spot : ℕ → Spot) (z : ResolvedOperand) → (if nat_le 1 k && nat_le k 4 then Some (Stored (spot k)) else None) ≡ Some z
    → (1 ≤ k) × (k ≤ 4) × (z ≡ Stored (spot k))
within k spot z e = by (nat_le 1 k && nat_le k 4) refl e
  where
    by : (b : Bool) → (nat_le 1 k && nat_le k 4) ≡ b → (if b then Some (Stored (spot k)) else None) ≡ Some z → (1 ≤ k) × (k ≤ 4) × (z ≡ Stored (spot k))
    by true is e = let parts = and_parts _ _ is in (leb-true 1 k parts.0, leb-true k 4 parts.1, sym (some-is e))
    by false is e = absurd cc

-- the spot of an occurrence in a table
abbrev table_spot : ℕ → ℕ → ℕ → Picture → ℕ → Spot
table_spot at size step p k = record { at = at + (k - 1) * step; size = size; picture = Some p }

-- ---- tests

first-holds : (x : Option Bool) (b : Bool) → of_both (λ a b. a || b) (of_both (λ a b. a && b) x (of_both (λ a b. a && b) (Some b) (Some true))) (Some false) ≡ Some true → x ≡ Some true
first-holds None b e = absurd cc
first-holds (Some true) b e = refl
first-holds (Some false) b e = absurd cc

are-dots : (chars : List ℕ) → length chars ≡ 6 → is_eq (compared (Chars (Some (picture.Text 6)) chars) (Text' dots)) ≡ true → chars ≡ dots
are-dots (a ∷ b ∷ c ∷ d ∷ e ∷ f ∷ []) long is =
    (bytes_eq-Decides (a ∷ b ∷ c ∷ d ∷ e ∷ f ∷ []) dots).0 (sym (is_eq-slice_cmp (a ∷ b ∷ c ∷ d ∷ e ∷ f ∷ []) dots) ∙ is)
are-dots [] long is = absurd (omega (arith, long))
are-dots (a ∷ []) long is = absurd (omega (arith, long))
are-dots (a ∷ b ∷ []) long is = absurd (omega (arith, long))
are-dots (a ∷ b ∷ c ∷ []) long is = absurd (omega (arith, long))
are-dots (a ∷ b ∷ c ∷ d ∷ []) long is = absurd (omega (arith, long))
are-dots (a ∷ b ∷ c ∷ d ∷ e ∷ []) long is = absurd (omega (arith, long))
are-dots (a ∷ b ∷ c ∷ d ∷ e ∷ f ∷ g ∷ rest) long is = absurd (omega (arith, long))

-- the seat of an occurrence is tested
abbrev tests_free : Store → ℕ → Bool
tests_free store k = is_eq (compared (Chars (Some (picture.Text 6)) (chars_at (table_spot 34 6 9 (picture.Text 6) k) store)) (Text' dots))

seat-tested : (k : ℕ) (store : Store) → Fits store
    → of_two (λ a b. is_eq (compared (value_in a store) (value_in b store)))
    (if nat_le 1 k && nat_le k 4 then Some (Stored (table_spot 34 6 9 (picture.Text 6) k)) else None) (Some (Fixed (Text' dots))) ≡ Some true
    → (seat : ℕ) → seat < 4 → k ≡ suc seat → chars_at (holder_spot seat) store ≡ dots
seat-tested k store fits e seat lt is = by (nat_le 1 k && nat_le k 4) e
  where
    by : (b : Bool)
        → of_two (λ a b. is_eq (compared (value_in a store) (value_in b store)))
        (if b then Some (Stored (table_spot 34 6 9 (picture.Text 6) k)) else None) (Some (Fixed (Text' dots))) ≡ Some true
        → chars_at (holder_spot seat) store ≡ dots
    by true e =
        let one : tests_free store k ≡ true = some-is e in
        let free : tests_free store (suc seat) ≡ true = sym (ap (tests_free store) is) ∙ one in
        are-dots (chars_at (holder_spot seat) store) (holder-long store fits seat lt) free
    by false e = absurd cc

-- ---- the statements

module _ (choices : SeatChoices) (message : List ℕ) (before : List (List ℕ)) where
  abbrev deck : DeckModel
  deck = seat_deck choices

  abbrev pub sale_setting : Setting
  sale_setting = record { deck = deck; program = sale_program; first = 0; is_server = true; message = message; alone = true }

  abbrev call : ℕ → List (List ℕ) → ProgramState → Out
  call q arguments t = faults 202 t

  abbrev replies : List ℕ → FileRecords → Type 0
  replies reply left = KeepsSeats before (left 0)

  abbrev KeptAt : ProgramState → Type 0
  KeptAt s = Kept before s.store (s.files 0)

  module _ (row : List ℕ) where
    abbrev TryingAt : ProgramState → Type 0
    TryingAt s = Trying before row s.store (s.files 0)

    abbrev TakingAt : ProgramState → Type 0
    TakingAt s = Taking before row s.store (s.files 0)

    -- a number in an item outside SEAT-ROW
    put-got : (place : ℕ) (found : ResolvedOperand) (chars : List ℕ) (s : ProgramState) → (place < 67 → ⊥) → Some (Stored (digit_spot place)) ≡ Some found → TryingAt s → TryingAt (put_in (spot_in found) chars s)
    put-got place found chars s high e now =
        let At : ResolvedOperand → Type 0 = λ z. TryingAt (put_in (spot_in z) chars s) in
        subst At (some-is e) (trying-put before row (digit_spot place) chars s.store (s.files 0) (λ p from below low up. high (omega (arith, from, up))) now)

    takes : (d : ℕ) (s : ProgramState) → TakingAt s → EndsWell replies TryingAt (body sale_setting (performed d sale_setting call) call take_seat s)
    takes d s now =
        let perform : Word → ProgramState → Out = performed d sale_setting call in
        step replies sale_setting perform call TryingAt TakingAt (nth 0 take_seat) (drop 1 take_seat) s
        (add-step replies sale_setting perform call TakingAt (one_to (codes "GOT")) s now (λ found chars e. got found chars (counted s) e now))
        (λ t now.
        step replies sale_setting perform call TryingAt TryingAt (nth 1 take_seat) (drop 2 take_seat) t
        (move-step replies sale_setting perform call TryingAt (own (codes "S-NAME")) (of_table (codes "R-HOLDER") (codes "I")) t (λ found chars e. seated found chars (counted t) e now))
        (λ t now.
        step replies sale_setting perform call TryingAt TryingAt (nth 2 take_seat) (drop 3 take_seat) t
        (move-step replies sale_setting perform call TryingAt (own (codes "R-NUMBER")) (of_table (codes "S-ROW") (codes "GOT")) t (λ found chars e. listed 13 2 (picture.Text 2) found chars (counted t) (omega arith) e now))
        (λ t now.
        step replies sale_setting perform call TryingAt TryingAt (nth 3 take_seat) [] t
        (move-step replies sale_setting perform call TryingAt (of_table (codes "R-LETTER") (codes "I")) (of_table (codes "S-LETTER") (codes "GOT")) t (λ found chars e. listed 15 1 (picture.Text 1) found chars (counted t) (omega arith) e now))
        (λ t now. now))))
      where
        got : (found : ResolvedOperand) (chars : List ℕ) (s : ProgramState) → Some (Stored (digit_spot 67)) ≡ Some found → TakingAt s → TakingAt (put_in (spot_in found) chars s)
        got found chars s e now =
            let At : ResolvedOperand → Type 0 = λ z. TakingAt (put_in (spot_in z) chars s) in
            subst At (some-is e) (taking-put before row (digit_spot 67) chars s.store (s.files 0) refl refl now)

        seated : (found : ResolvedOperand) (chars : List ℕ) (t : ProgramState)
            → (if nat_le 1 (one_digit (digit_spot 68) t.store) && nat_le (one_digit (digit_spot 68) t.store) 4 then Some (Stored (table_spot 34 6 9 (picture.Text 6) (one_digit (digit_spot 68) t.store))) else None) ≡ Some found
            → TakingAt t → TryingAt (put_in (spot_in found) chars t)
        seated found chars t e now =
            let k : ℕ = one_digit (digit_spot 68) t.store in
            let at = within k (table_spot 34 6 9 (picture.Text 6)) found e in
            let At : ResolvedOperand → Type 0 = λ z. TryingAt (put_in (spot_in z) chars t) in
            let own : k ≡ suc (k - 1) = omega (arith, at.0) in
            let few : k - 1 < 4 = omega (arith, at.0, at.1) in
            let trying : TryingAt t = now.trying in
            subst At (sym at.2)
            (record {
              rows = trying.rows;
              there = trying.there;
              content = trying.content;
              held = held-taken row (table_spot 34 6 9 (picture.Text 6) k) (k - 1) chars t.store refl refl few (now.free (k - 1) few own) trying.held;
            })

        listed : (at size : ℕ) (p : Picture) (found : ResolvedOperand) (chars : List ℕ) (t : ProgramState) → at + size ≤ 16
            → (if nat_le 1 (one_digit (digit_spot 67) t.store) && nat_le (one_digit (digit_spot 67) t.store) 4 then Some (Stored (table_spot at size 3 p (one_digit (digit_spot 67) t.store))) else None) ≡ Some found
            → TryingAt t → TryingAt (put_in (spot_in found) chars t)
        listed at size p found chars t short e now =
            let k : ℕ = one_digit (digit_spot 67) t.store in
            let is = within k (table_spot at size 3 p) found e in
            let At : ResolvedOperand → Type 0 = λ z. TryingAt (put_in (spot_in z) chars t) in
            subst At (sym is.2) (trying-put before row (table_spot at size 3 p k) chars t.store (t.files 0) (λ q from below low up. omega (arith, below, low, short, is.0, is.1)) now)

    taken : (d : ℕ) (s : ProgramState) → TakingAt s → EndsWell replies TryingAt (performed d sale_setting call (codes "TAKE-SEAT") s)
    taken zero s now = tt
    taken (suc d) s now = takes d s now

    -- one seat
    tries : (d : ℕ) (s : ProgramState) → TryingAt s → EndsWell replies TryingAt (body sale_setting (performed d sale_setting call) call try_seat s)
    tries d s now =
        let perform : Word → ProgramState → Out = performed d sale_setting call in
        step replies sale_setting perform call TryingAt TryingAt (nth 0 try_seat) (drop 1 try_seat) s
        (if-step replies sale_setting perform call TryingAt is_free (branch_row sale_setting perform call (more_of-Statement (form.Perform 1 (codes "TAKE-SEAT")) end_of-Statement)) Goes s
        (λ e.
        row-step replies sale_setting perform call TryingAt TryingAt (form.Perform 1 (codes "TAKE-SEAT")) end_of-Statement (counted s)
        (perform-step replies sale_setting perform call TryingAt (codes "TAKE-SEAT") (counted s)
        (taken d (counted (counted (counted s)))
        (record { trying = now; free = λ seat lt is. seat-tested (one_digit (digit_spot 68) s.store) s.store now.held.fits (first-holds _ _ e) seat lt is })))
        (λ t now. now))
        (λ e. now))
        (λ t now.
        step replies sale_setting perform call TryingAt TryingAt (nth 1 try_seat) [] t
        (add-step replies sale_setting perform call TryingAt (one_to (codes "I")) t now (λ found chars e. put-got 68 found chars (counted t) (λ low. omega (arith, low)) e now))
        (λ t now. now))

    tried : (d : ℕ) (s : ProgramState) → TryingAt s → EndsWell replies TryingAt (performed d sale_setting call (codes "TRY-SEAT") s)
    tried zero s now = tt
    tried (suc d) s now = tries d s now

    -- the row is written
    rows-written : (store : Store) (records : List (List ℕ)) → Trying before row store records → (b : Bool)
        → Rows before (if (change_answer 11 b).status == 0 then with_record 6 records (chars_at row_spot store) else records)
    rows-written store records trying true =
        let new : List ℕ = chars_at row_spot store in
        let key : take 6 new ≡ take 6 row = held-key row store trying.held trying.content.0 in
        let there : record_at 6 records (take 6 new) ≡ Some row = ap (record_at 6 records) key ∙ trying.there in
        let long : length new ≡ 42 = row-long store trying.held.fits in (
          IsFile-with_record 6 records trying.rows.0 new (omega (arith, long), omega (arith, long)),
          keeps-on before records (with_record 6 records new) trying.rows.1 (keeps-rewritten records row new there (held-written row store trying.held)),
        )
    rows-written store records trying false = trying.rows

  -- ---- one row

  abbrev Read : ProgramState → Type 0
  Read s = KeptAt s × ((s.registers.file_status ≡ 1) ⊎ ((row : List ℕ) × Trying before row s.store (s.files 0)))

  nothing-found : (status : ℕ) → status ≡ 1 → Some (is_eq (compared (Register 4 status) (Number' (codes "0")))) ≡ Some true → ⊥
  nothing-found status is e =
      let none : Some false ≡ Some true = sym (ap (λ (n : ℕ). Some (is_eq (compared (Register 4 n) (Number' (codes "0"))))) is) ∙ e in absurd cc

  rows-kept : (files : FileRecords) (f : ℕ) (records : List (List ℕ)) (store : Store) → Fits store → f ≡ 0 → Rows before records → Kept before store (upd files f records 0)
  rows-kept files f records store fits is rows = record { fits = fits; rows = subst (Rows before) (sym (upd-same files f records 0 (sym is))) rows }

  row-tried : (d : ℕ) (t : ProgramState) → KeptAt t → (t.registers.file_status ≡ 1) ⊎ ((row : List ℕ) × Trying before row t.store (t.files 0))
      → Some (is_eq (compared (Register 4 t.registers.file_status) (Number' (codes "0")))) ≡ Some true
      → EndsWell replies KeptAt (branch_row sale_setting (performed d sale_setting call) call row_found t)
  row-tried d t kept (inl none) e = absurd (nothing-found t.registers.file_status none e)
  row-tried d t kept (inr (row, trying)) e =
      let perform : Word → ProgramState → Out = performed d sale_setting call in
      row-step replies sale_setting perform call KeptAt (TryingAt row) (move (operands.Number (codes "1")) (own (codes "I"))) row_try t
      (move-step replies sale_setting perform call (TryingAt row) (operands.Number (codes "1")) (own (codes "I")) t (λ found chars e. put-got row 68 found chars (counted t) (λ low. omega (arith, low)) e trying))
      (λ t now.
      row-step replies sale_setting perform call KeptAt (TryingAt row) (form.PerformUntil 1 (codes "TRY-SEAT") past_four) row_write t
      (until-step replies sale_setting perform call (TryingAt row) (codes "TRY-SEAT") past_four t (λ u known. tried row d (counted u) known) now)
      (λ t now.
      row-step replies sale_setting perform call KeptAt KeptAt (form.Rewrite 1 (codes "SEATS") (own (codes "SEAT-ROW"))) end_of-Statement t
      (counted-well replies KeptAt (write_by sale_setting Rewrite (codes "SEATS") (own (codes "SEAT-ROW"))) t
      (rows-kept t.files 0 _ t.store now.held.fits refl (rows-written row t.store (t.files 0) now (has_key 6 (t.files 0) (take 6 (chars_at row_spot t.store))))))
      (λ t now. now)))

  reads-row : (d : ℕ) (s : ProgramState) → KeptAt s → EndsWell replies KeptAt (body sale_setting (performed d sale_setting call) call next_row s)
  reads-row d s now =
      let perform : Word → ProgramState → Out = performed d sale_setting call in
      step replies sale_setting perform call KeptAt Read (nth 0 next_row) (drop 1 next_row) s
      (counted-well replies Read (read_next sale_setting (codes "SEATS") true (own (codes "R-KEY")) (own (codes "SEAT-ROW"))) s
      (let records : List (List ℕ) = s.files 0 in
      let key : List ℕ = chars_at key_spot s.store in
      let o : Option (List ℕ) = record_after 6 records key in
      own-records s.files 0
      (λ files. EndsWell replies Read (file_done (Some row_spot) (read_answer 1 o).status (read_answer 1 o).content (record s { count = s.count + 1; files = files })))
      (finds replies Read o row_spot (counted s)
      (λ none. (now, inl refl))
      (λ content is. (
        kept-put before row_spot (fitted 42 content) s.store records now,
        inr (
          content,
          record {
            rows = now.rows;
            there = (next-found 6 records now.rows.0 key content is).there;
            content = All-contains (IsContent 6) records content now.rows.0.contents (record_after-found 6 key records content is).0;
            held = held-read content s.store now.fits;
          },
        ),
      )))))
      (λ t read.
      step replies sale_setting perform call KeptAt KeptAt (nth 1 next_row) [] t
      (if-step replies sale_setting perform call KeptAt (is_found (own (codes "S-FLIGHT"))) (branch_row sale_setting perform call row_found) Goes t
      (λ e. row-tried d (counted t) read.0 read.1 (first-holds _ _ e))
      (λ e. read.0))
      (λ t now. now))

  row-read : (d : ℕ) (s : ProgramState) → KeptAt s → EndsWell replies KeptAt (performed d sale_setting call (codes "NEXT-ROW") s)
  row-read zero s now = tt
  row-read (suc d) s now = reads-row d s now

  -- ---- the rest

  any-put : (spot : Spot) (chars : List ℕ) (s : ProgramState) → KeptAt s → KeptAt (put_in spot chars s)
  any-put spot chars s now = kept-put before spot chars s.store (s.files 0) now

  writes-sale : (d : ℕ) (s : ProgramState) → KeptAt s → EndsWell replies KeptAt (body sale_setting (performed d sale_setting call) call write_sale s)
  writes-sale d s now =
      let perform : Word → ProgramState → Out = performed d sale_setting call in
      step replies sale_setting perform call KeptAt KeptAt (nth 0 write_sale) (drop 1 write_sale) s
      (counted-well replies KeptAt (write_by sale_setting Write (codes "SALES") (own (codes "SALE-REC"))) s
      (record { fits = now.fits; rows = subst (Rows before) (sym (upd-other s.files 1 _ 0 not-one)) now.rows }))
      (λ t now.
      step replies sale_setting perform call KeptAt KeptAt (nth 1 write_sale) [] t
      (if-step replies sale_setting perform call KeptAt is_refused (branch_row sale_setting perform call has_sale) (branch_row sale_setting perform call tells_seats) t
      (λ e. plain-row replies sale_setting perform call KeptAt (λ s now. now) any-put has_sale (tt, (tt, tt)) (counted t) now)
      (λ e. plain-row replies sale_setting perform call KeptAt (λ s now. now) any-put tells_seats (tt, tt) (counted t) now))
      (λ t now. now))
    where
      not-one : ◌≢◌ {A = ℕ} 0 1
      not-one e = absurd cc

  sale-written : (d : ℕ) (s : ProgramState) → KeptAt s → EndsWell replies KeptAt (performed d sale_setting call (codes "WRITE-SALE") s)
  sale-written zero s now = tt
  sale-written (suc d) s now = writes-sale d s now

  abbrev most : Word → ProgramState → Out
  most = performed 64 sale_setting call

  pub main-keeps : (s : ProgramState) → KeptAt s → EndsWell replies (λ t. ⊥) (body sale_setting most call sale_main s)
  main-keeps s now =
      step replies sale_setting most call (λ t. ⊥) KeptAt (nth 0 sale_main) (drop 1 sale_main) s
      (counted-well replies KeptAt (receive sale_setting (own (codes "SALE-REC"))) s
      (any-put (record { at = 0; size = 25; picture = None }) (fitted 25 message) (counted s) now))
      (λ t now.
      step replies sale_setting most call (λ t. ⊥) KeptAt (nth 1 sale_main) (drop 2 sale_main) t
      (plain-step replies sale_setting most call KeptAt (λ s now. now) any-put (nth 1 sale_main) tt t now)
      (λ t now.
      step replies sale_setting most call (λ t. ⊥) KeptAt (nth 2 sale_main) (drop 3 sale_main) t
      (until-step replies sale_setting most call KeptAt (codes "NEXT-ROW") (is_done (own (codes "S-FLIGHT")) all_got) t (λ u known. row-read 64 (counted u) known) now)
      (λ t now.
      step replies sale_setting most call (λ t. ⊥) KeptAt (nth 3 sale_main) (drop 4 sale_main) t
      (if-step replies sale_setting most call KeptAt (one_of ((all_got ∷ []) ∷ []))
      (branch_row sale_setting most call (more_of-Statement (form.Perform 1 (codes "WRITE-SALE")) end_of-Statement)) (branch_row sale_setting most call too_few) t
      (λ e.
      row-step replies sale_setting most call KeptAt KeptAt (form.Perform 1 (codes "WRITE-SALE")) end_of-Statement (counted t)
      (perform-step replies sale_setting most call KeptAt (codes "WRITE-SALE") (counted t) (sale-written 64 (counted (counted (counted t))) now))
      (λ t now. now))
      (λ e. plain-row replies sale_setting most call KeptAt (λ s now. now) any-put too_few (tt, (tt, tt)) (counted t) now))
      (λ t now.
      step replies sale_setting most call (λ t. ⊥) (λ t. ⊥) (nth 4 sale_main) [] t
      (counted-well replies (λ t. ⊥) (reply sale_setting (own (codes "ANSWER"))) t now.rows.1)
      (λ t never. absurd never)))))
