-- The blocks of an entry, counted by how attempts are over.
use Rattle.std.proofs.Common.{⊎_elim, ◌≡◌, ℕ, zero, suc, ◌+◌, ◌<◌, ◌≤◌, Bool, true, false, ◌&&◌, List, [], ◌∷◌, ◌++◌, length, map, take, Option, Some, None, refl, sym, ap, subst, ◌∙◌, arith, is_none}
use Rattle.std.proofs.lemmas.List.Sums.{count_by-le-length, count_by_more_no, count_by_more_yes, sum_by-append}
use Rattle.std.proofs.Math.ListN.{get_or}
use Rattle.std.proofs.lemmas.Bool.{cases_lt}
use Rattle.std.proofs.lemmas.List.{take_all}
use Rattle.std.proofs.lemmas.Option.{get_or_from_slice_get, slice_get_past, slice_get_within}
use Rattle.std.specs.Prelude.{◌==◌, count_by, is_some, nat_lt, slice_get, if◌then◌else◌}
use Rattle.pw_status.proofs.Each.{one-item}
use Rattle.pw_status.specs.Attempts.{AreSeatsOf, commits, drops, is_over_by, is_running, running_of, runs_at, seat_of}
use Rattle.pw_status.specs.Counts.{is_committed, is_dropped, is_left}
use Rattle.pw_status.specs.Over.{ends_at, left_at, over_at, over_if}
use Rattle.pw_status.specs.declared.attempts.AttemptSeat.{AttemptSeat}
use Rattle.pw_status.specs.declared.over.Whose.{Whose}
use Rattle.pw_status.specs.declared.over.Whose.TheVariants.{One, Pair}
use Rattle.pw_event.specs.declared.event.Ending.{Ending}
use Rattle.pw_event.specs.declared.event.Event.{Event}
use Rattle.pw_event.specs.declared.event.Event.TheVariants as event
use Rattle.pw_onecopy.specs.Behaviour.{Behaviour}
use Rattle.pw_onecopy.specs.Blocks as one
use Rattle.pw_onecopy.specs.Path.{PathAnswer, is_outside, unit_number}
use Rattle.pw_serial_order.specs.Entries.{leaves}
use Rattle.pw_serial_order.specs.Order.{told}
use Rattle.pw_serial_order.specs.declared.block.Block.{Block}
use Rattle.pw_serial_order.specs.declared.block.Block.TheVariants as block
use Rattle.pw_serial_order.specs.declared.block.How as order
use Rattle.pw_serial_order.specs.declared.block.How.TheVariants as how
use Rattle.pw_serial_order.proofs.Giving.{told-append}
use Rattle.pw_paired.specs.Failure.{is_of_pair}
use Rattle.pw_paired.specs.Serial.{Reading, blocks_of, is_idle, left_block, left_blocks, makes_gone}
use Rattle.pw_paired.specs.State.{OpenUnit, State}
use Rattle.pw_paired.specs.Terminal.{path_of}
use Rattle.pw_paired.specs.Units.{attempt_of}

-- one, where it is
abbrev pub number : Bool → ℕ
number b = if b then 1 else 0

-- ---- by a test that takes attempts by how they are over

module _ (p : Block → Bool) (kind : order.How → Bool) (no_out : (t : ℕ) → p (block.Out t) ≡ false) (no_done : (t : ℕ) (e : Ending) → p (block.Done t e) ≡ false)
    (by_how : (t n : ℕ) (over : order.How) → p (block.Ended t n over) ≡ kind over) where
  abbrev counted_in : List one.SerialBlock → ℕ
  counted_in blocks = count_by p (map told blocks)

  parts : (front back : List one.SerialBlock) → counted_in (front ++ back) ≡ counted_in front + counted_in back
  parts front back = ap (count_by p) (told-append front back) ∙ sum_by-append (λ (b : Block). if p b then 1 else 0) (map told front) (map told back)

  shown-none : (b : Bool) (t : ℕ) → counted_in (if b then one.Out t ∷ [] else []) ≡ 0
  shown-none true t = one-item p (block.Out t) false (no_out t)
  shown-none false t = refl

  -- an attempt that is left
  left-one : (t j : ℕ) (unit : Option OpenUnit) → counted_in (left_block t j unit) ≡ (if is_some (attempt_of unit) then number (kind how.Left) else 0)
  left-one t j None = refl
  left-one t j (Some unit) = by unit.running
    where
      by : (running : Option (List PathAnswer))
          → counted_in (if is_none running then [] else one.Attempted t unit.number one.Left j ∷ []) ≡ (if is_some running then number (kind how.Left) else 0)
      by None = refl
      by (Some start) = one-item p (block.Ended t unit.number how.Left) (kind how.Left) (by_how t unit.number how.Left)

  -- at an END
  ended : (t j : ℕ) (unit : Option OpenUnit) (e : Ending) → counted_in (left_block t j unit ++ one.Done t e ∷ []) ≡ (if is_some (attempt_of unit) then number (kind how.Left) else 0)
  ended t j unit e =
      let both = parts (left_block t j unit) (one.Done t e ∷ []) in
      let last : counted_in (one.Done t e ∷ []) ≡ 0 = one-item p (block.Done t e) false (no_done t e) in
      let first = left-one t j unit in
      omega (arith, both, last, first)

  -- where none that is left is counted
  module _ (no_left : kind how.Left ≡ false) where
    nothing : (b : Bool) → (if b then number (kind how.Left) else 0) ≡ 0
    nothing true = ap number no_left
    nothing false = refl

    left-step : (s : State) (r : Reading) (t : ℕ) (rest : List one.SerialBlock) (b : Bool) → counted_in rest ≡ 0
        → counted_in (rest ++ (if b then left_block t (r.answers t) (s.units t) else [])) ≡ 0
    left-step s r t rest true before =
        let both = parts rest (left_block t (r.answers t) (s.units t)) in
        let last = left-one t (r.answers t) (s.units t) ∙ nothing (is_some (attempt_of (s.units t))) in
        omega (arith, both, last, before)
    left-step s r t rest false before = let both = parts rest [] in omega (arith, both, before)

    lefts-none : (s : State) (r : Reading) (whose : ℕ → Bool) (n : ℕ) → counted_in (left_blocks s r whose n) ≡ 0
    lefts-none s r whose zero = refl
    lefts-none s r whose (suc t) = left-step s r t (left_blocks s r whose t) (whose t) (lefts-none s r whose t)

    failed : (s : State) (r : Reading) (whose : ℕ → Bool) (n p : ℕ) (b : Bool)
        → counted_in (if b then left_blocks s r whose n else []) ≡ number (is_over_by kind (over_if b (Pair p) how.Left))
    failed s r whose n p true = lefts-none s r whose n ∙ sym (ap number no_left)
    failed s r whose n p false = refl

    replied : (t n j : ℕ) (outside : Bool) → counted_in (if outside then one.Attempted t n one.Committed j ∷ [] else []) ≡ number (is_over_by kind (over_if (outside && true) (One t) how.Commit))
    replied t n j true = one-item p (block.Ended t n how.Commit) (kind how.Commit) (by_how t n how.Commit)
    replied t n j false = refl

    faulted : (t : ℕ) (outside : Bool) → 0 ≡ number (is_over_by kind (over_if (outside && false) (One t) how.Commit))
    faulted t true = refl
    faulted t false = refl

    end-none : (t : ℕ) (b : Bool) → number (is_over_by kind (over_if b (One t) how.Left)) ≡ 0
    end-none t true = ap number no_left
    end-none t false = refl

    -- the blocks of an entry
    pub by-blocks : (sys : Behaviour) (s : State) (r : Reading) (entry : Event)
        → counted_in (blocks_of sys s r entry) ≡ number (is_over_by kind (over_at (ends_at sys s entry) entry))
    by-blocks sys s r (event.Show t phase attempt k) = shown-none (is_idle s t && nat_lt (r.longest t) (length (path_of s t) + 1)) t
    by-blocks sys s r (event.Key t k) = shown-none (is_idle s t && nat_lt (r.longest t) (length (path_of s t) + 1)) t
    by-blocks sys s r (event.CheckStart t) = refl
    by-blocks sys s r (event.CheckEnd t) = refl
    by-blocks sys s r (event.CheckCopy t) = refl
    by-blocks sys s r (event.Applied t) = refl
    by-blocks sys s r (event.Begin t n restarts) = refl
    by-blocks sys s r (event.Send t n c) = refl
    by-blocks sys s r (event.Take c i t) = refl
    by-blocks sys s r (event.File c i op mode f status) = refl
    by-blocks sys s r (event.Reply c i t None) = replied t (unit_number (path_of s t)) (r.answers t + 1) (is_outside (path_of s t))
    by-blocks sys s r (event.Reply c i t (Some x)) = faulted t (is_outside (path_of s t))
    by-blocks sys s r (event.Again t n) = refl
    by-blocks sys s r (event.Commit t n) = one-item p (block.Ended t n how.Commit) (kind how.Commit) (by_how t n how.Commit)
    by-blocks sys s r (event.Back t n) = one-item p (block.Ended t n how.Dropped) (kind how.Dropped) (by_how t n how.Dropped)
    by-blocks sys s r (event.Restart t n cause) = one-item p (block.Ended t n how.Restart) (kind how.Restart) (by_how t n how.Restart)
    by-blocks sys s r (event.FailTcp q primary k) = failed s r (is_of_pair sys q) sys.terminals q (makes_gone sys s (event.FailTcp q primary k) q)
    by-blocks sys s r (event.FailServer c i k) = refl
    by-blocks sys s r (event.Takeover q) = refl
    by-blocks sys s r (event.Raise q) = refl
    by-blocks sys s r (event.End t e) = ended t (r.answers t) (s.units t) e ∙ (nothing (is_some (attempt_of (s.units t))) ∙ sym (end-none t (leaves e)))

-- those that commit, and those that are dropped
commit-how : (t n : ℕ) (over : order.How) → is_committed (block.Ended t n over) ≡ commits over
commit-how t n how.Commit = refl
commit-how t n how.Dropped = refl
commit-how t n how.Restart = refl
commit-how t n how.Left = refl

drop-how : (t n : ℕ) (over : order.How) → is_dropped (block.Ended t n over) ≡ drops over
drop-how t n how.Commit = refl
drop-how t n how.Dropped = refl
drop-how t n how.Restart = refl
drop-how t n how.Left = refl

pub commits-in : (sys : Behaviour) (s : State) (r : Reading) (entry : Event)
    → count_by is_committed (map told (blocks_of sys s r entry)) ≡ number (is_over_by commits (over_at (ends_at sys s entry) entry))
commits-in sys s r entry = by-blocks is_committed commits (λ t. refl) (λ t e. refl) commit-how refl sys s r entry

pub drops-in : (sys : Behaviour) (s : State) (r : Reading) (entry : Event)
    → count_by is_dropped (map told (blocks_of sys s r entry)) ≡ number (is_over_by drops (over_at (ends_at sys s entry) entry))
drops-in sys s r entry = by-blocks is_dropped drops (λ t. refl) (λ t e. refl) drop-how refl sys s r entry

-- ---- those that are left

abbrev pub is_left_how : order.How → Bool
is_left_how how.Left = true
is_left_how _ = false

left-how : (t n : ℕ) (over : order.How) → is_left (block.Ended t n over) ≡ is_left_how over
left-how t n how.Commit = refl
left-how t n how.Dropped = refl
left-how t n how.Restart = refl
left-how t n how.Left = refl

abbrev left_in : List one.SerialBlock → ℕ
left_in blocks = count_by is_left (map told blocks)

module _ (sys : Behaviour) (s : State) (r : Reading) (seats : List AttemptSeat) (are : AreSeatsOf sys s seats) where
  abbrev runs_in_pair : ℕ → AttemptSeat → Bool
  runs_in_pair p seat = seat.tcp == p && seat.runs

  -- one more terminal
  pair-step : (p t : ℕ) → t < sys.terminals → (a b : Bool) → (sys.pair_of t == p) ≡ a → is_running s t ≡ b
      → count_by (runs_in_pair p) (take t seats) + number (a && b) ≡ count_by (runs_in_pair p) (take (t + 1) seats)
  pair-step p t known a b own runs = by (a && b) refl
    where
      low : t < length seats
      low = subst (λ (n : ℕ). t < n) (sym are.count) known

      here : get_or seats t (seat_of sys s t) ≡ seat_of sys s t
      here = get_or_from_slice_get seats t (seat_of sys s t) (seat_of sys s t) (are.seat t known)

      test : runs_in_pair p (get_or seats t (seat_of sys s t)) ≡ (a && b)
      test = ap (runs_in_pair p) here ∙ (ap (λ (x : Bool). x && is_running s t) own ∙ ap (λ (x : Bool). a && x) runs)

      by : (c : Bool) → (a && b) ≡ c → count_by (runs_in_pair p) (take t seats) + number c ≡ count_by (runs_in_pair p) (take (t + 1) seats)
      by true is = sym (count_by_more_yes (runs_in_pair p) seats t (seat_of sys s t) low (test ∙ is))
      by false is = let more = count_by_more_no (runs_in_pair p) seats t (seat_of sys s t) low (test ∙ is) in omega (arith, more)

  left-pair : (p t : ℕ) (rest : List one.SerialBlock) (a : Bool) → t < sys.terminals → is_of_pair sys p t ≡ a → left_in rest ≡ count_by (runs_in_pair p) (take t seats)
      → left_in (rest ++ (if a then left_block t (r.answers t) (s.units t) else [])) ≡ count_by (runs_in_pair p) (take (t + 1) seats)
  left-pair p t rest true known own before =
      let both = parts is_left is_left_how (λ t. refl) (λ t e. refl) left-how rest (left_block t (r.answers t) (s.units t)) in
      let last = left-one is_left is_left_how (λ t. refl) (λ t e. refl) left-how t (r.answers t) (s.units t) in
      let more = pair-step p t known true (is_running s t) own refl in
      omega (arith, both, last, before, more)
  left-pair p t rest false known own before =
      let both = parts is_left is_left_how (λ t. refl) (λ t e. refl) left-how rest [] in
      let more = pair-step p t known false (is_running s t) own refl in
      omega (arith, both, before, more)

  pair-to : (p n : ℕ) → n ≤ sys.terminals → left_in (left_blocks s r (is_of_pair sys p) n) ≡ count_by (runs_in_pair p) (take n seats)
  pair-to p zero all = refl
  pair-to p (suc t) all =
      let next : t + 1 ≡ suc t = omega arith in
      left-pair p t (left_blocks s r (is_of_pair sys p) t) (is_of_pair sys p t) (omega (arith, all)) refl (pair-to p t (omega (arith, all)))
      ∙ ap (λ (n : ℕ). count_by (runs_in_pair p) (take n seats)) next

  pair-left : (p : ℕ) → left_in (left_blocks s r (is_of_pair sys p) sys.terminals) ≡ count_by (runs_in_pair p) seats
  pair-left p =
      pair-to p sys.terminals (omega arith)
      ∙ ap (count_by (runs_in_pair p)) (take_all sys.terminals seats (let same = are.count in omega (arith, same)))

  failed-left : (p : ℕ) (b : Bool) → left_in (if b then left_blocks s r (is_of_pair sys p) sys.terminals else []) ≡ running_of seats (if b then Some (Pair p) else None)
  failed-left p true = pair-left p
  failed-left p false = refl

  -- an attempt of the terminal runs only where it is there
  end-left : ((t : ℕ) (own : OpenUnit) → s.units t ≡ Some own → t < sys.terminals) → (t : ℕ)
      → (if is_running s t then number true else 0) ≡ running_of seats (Some (One t))
  end-left known t =
      ⊎_elim
      (λ low. ap runs_at (sym (are.seat t low)))
      (λ past.
      let none : is_running s t ≡ false = by (s.units t) refl past in
      ap (λ (b : Bool). if b then 1 else 0) none ∙ ap runs_at (sym (slice_get_past seats t (let same = are.count in omega (arith, same)))))
      (cases_lt t sys.terminals)
    where
      by : (unit : Option OpenUnit) → s.units t ≡ unit → sys.terminals ≤ t → is_some (attempt_of unit) ≡ false
      by None is past = refl
      by (Some own) is past = let low = known t own is in absurd (omega (arith, low))

  pub lefts-in : ((t : ℕ) (own : OpenUnit) → s.units t ≡ Some own → t < sys.terminals) → (entry : Event)
      → left_in (blocks_of sys s r entry) ≡ running_of seats (left_at (ends_at sys s entry) entry)
  lefts-in known (event.Show t phase attempt k) = shown-none is_left is_left_how (λ t. refl) (λ t e. refl) left-how (is_idle s t && nat_lt (r.longest t) (length (path_of s t) + 1)) t
  lefts-in known (event.Key t k) = shown-none is_left is_left_how (λ t. refl) (λ t e. refl) left-how (is_idle s t && nat_lt (r.longest t) (length (path_of s t) + 1)) t
  lefts-in known (event.CheckStart t) = refl
  lefts-in known (event.CheckEnd t) = refl
  lefts-in known (event.CheckCopy t) = refl
  lefts-in known (event.Applied t) = refl
  lefts-in known (event.Begin t n restarts) = refl
  lefts-in known (event.Send t n c) = refl
  lefts-in known (event.Take c i t) = refl
  lefts-in known (event.File c i op mode f status) = refl
  lefts-in known (event.Reply c i t None) = none-left (is_outside (path_of s t)) t
    where
      none-left : (b : Bool) (own : ℕ) → left_in (if b then one.Attempted own (unit_number (path_of s own)) one.Committed (r.answers own + 1) ∷ [] else []) ≡ 0
      none-left true own = refl
      none-left false own = refl
  lefts-in known (event.Reply c i t (Some x)) = refl
  lefts-in known (event.Again t n) = refl
  lefts-in known (event.Commit t n) = refl
  lefts-in known (event.Back t n) = refl
  lefts-in known (event.Restart t n cause) = refl
  lefts-in known (event.FailTcp q primary k) = failed-left q (makes_gone sys s (event.FailTcp q primary k) q)
  lefts-in known (event.FailServer c i k) = refl
  lefts-in known (event.Takeover q) = refl
  lefts-in known (event.Raise q) = refl
  lefts-in known (event.End t e) = ended is_left is_left_how (λ t. refl) (λ t e. refl) left-how t (r.answers t) (s.units t) e ∙ end-left known t

-- no more than there are terminals
pub few-running : (seats : List AttemptSeat) (whose : Option Whose) → running_of seats whose ≤ length seats
few-running seats None = omega arith
few-running seats (Some (One t)) = at-most (slice_get seats t) refl
  where
    flag : (b : Bool) (n : ℕ) → 0 < n → (if b then 1 else 0) ≤ n
    flag true n some = omega (arith, some)
    flag false n some = omega arith

    at-most : (seat : Option AttemptSeat) → slice_get seats t ≡ seat → runs_at seat ≤ length seats
    at-most None is = omega arith
    at-most (Some seat) is = let low = slice_get_within seats t seat is in flag seat.runs (length seats) (omega (arith, low))
few-running seats (Some (Pair p)) = count_by-le-length (λ (seat : AttemptSeat). seat.tcp == p && seat.runs) seats
