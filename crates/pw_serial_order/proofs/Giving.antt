-- The blocks of an entry, without their numbers of answers.
use Rattle.std.proofs.Common.{◌≡◌, ℕ, zero, suc, ◌+◌, ◌<◌, Bool, true, false, not, ◌&&◌, nat_lt, is_none, List, [], ◌∷◌, ◌++◌, length, map, Option, Some, None, if◌then◌else◌, refl, ap, sym, ◌∙◌, arith}
use Rattle.std.specs.Prelude.{slice_get}
use Rattle.std.specs.Option.{option_map}
use Rattle.pw_onecopy.specs.Behaviour.{Behaviour}
use Rattle.pw_onecopy.specs.Blocks as one
use Rattle.pw_onecopy.specs.Path.{PathAnswer, is_outside, unit_number}
use Rattle.pw_serial_order.proofs.Seating.{idle-is}
use Rattle.pw_serial_order.specs.Entries.{attempt_left, left_at, left_to, out_given, reply_given, unit_left}
use Rattle.pw_serial_order.specs.Order.{told}
use Rattle.pw_serial_order.specs.Shadow.{mark_of, open_of, seat_of}
use Rattle.pw_serial_order.specs.declared.block.Block.{Block}
use Rattle.pw_serial_order.specs.declared.block.Block.TheVariants as block
use Rattle.pw_serial_order.specs.declared.block.How.TheVariants as how
use Rattle.pw_serial_order.specs.declared.seat.OrderSeat.{OrderSeat}
use Rattle.pw_paired.specs.Serial.{Reading, left_block, left_blocks, out_block, reply_commits}
use Rattle.pw_paired.specs.State.{OpenUnit, State}
use Rattle.pw_paired.specs.Terminal.{path_of}

told-if : (b : Bool) (x : one.SerialBlock) → map told (if b then x ∷ [] else []) ≡ (if b then told x ∷ [] else [])
told-if true x = refl
told-if false x = refl

-- the blocks of two lists
pub told-append : (xs ys : List one.SerialBlock) → map told (xs ++ ys) ≡ map told xs ++ map told ys
told-append [] ys = refl
told-append (x ∷ xs) ys = ap (λ (l : List Block). told x ∷ l) (told-append xs ys)

module _ (sys : Behaviour) (s : State) (r : Reading) where
  -- a SHOW or KEY
  pub out-told : (t : ℕ) → map told (out_block s r t) ≡ out_given t (seat_of sys s r t)
  out-told t =
      told-if _ (one.Out t)
      ∙ ap (λ (b : Bool). if b && nat_lt (r.longest t) (length (path_of s t) + 1) then block.Out t ∷ [] else []) (sym (idle-is (s.units t)))

  -- a REPLY
  pub reply-told : (t : ℕ) (fault : Option ℕ) (j : ℕ) → map told (reply_commits s t fault j) ≡ reply_given t fault (seat_of sys s r t)
  reply-told t (Some x) j = refl
  reply-told t None j = by (is_outside (path_of s t))
    where
      by : (b : Bool) → map told (if b then one.Attempted t (unit_number (path_of s t)) one.Committed j ∷ [] else [])
          ≡ (if not b then [] else block.Ended t (unit_number (path_of s t)) how.Commit ∷ [])
      by true = refl
      by false = refl

  -- an open unit that is left
  pub unit-told : (t j : ℕ) (unit : Option OpenUnit) → map told (left_block t j unit) ≡ unit_left t (option_map open_of unit)
  unit-told t j None = refl
  unit-told t j (Some unit) = by unit.running
    where
      by : (running : Option (List PathAnswer)) → map told (if is_none running then [] else one.Attempted t unit.number one.Left j ∷ []) ≡ attempt_left t unit.number (option_map mark_of running)
      by None = refl
      by (Some path) = refl

  -- units that are left, one after the other
  pub left-told : (whose : ℕ → Bool) (among : OrderSeat → Bool) (seats : List OrderSeat) (n : ℕ)
      → ((t : ℕ) → t < n → slice_get seats t ≡ Some (seat_of sys s r t)) → ((t : ℕ) → t < n → among (seat_of sys s r t) ≡ whose t)
      → map told (left_blocks s r whose n) ≡ left_to among seats n
  left-told whose among seats zero seat same = refl
  left-told whose among seats (suc t) seat same =
      told-append (left_blocks s r whose t) (if whose t then left_block t (r.answers t) (s.units t) else [])
      ∙ (ap (λ (l : List Block). l ++ map told (if whose t then left_block t (r.answers t) (s.units t) else []))
      (left-told whose among seats t (λ k lt. seat k (omega arith)) (λ k lt. same k (omega arith)))
      ∙ ap (λ (l : List Block). left_to among seats t ++ l)
      (by (whose t) ∙ (ap (λ (b : Bool). if b then unit_left t (option_map open_of (s.units t)) else []) (sym (same t (omega arith)))
      ∙ ap (left_at among t) (sym (seat t (omega arith))))))
    where
      by : (b : Bool) → map told (if b then left_block t (r.answers t) (s.units t) else []) ≡ (if b then unit_left t (option_map open_of (s.units t)) else [])
      by true = unit-told t (r.answers t) (s.units t)
      by false = refl

-- no seat is among them
pub none-left : (among : OrderSeat → Bool) (seats : List OrderSeat) (n : ℕ) → ((t : ℕ) (seat : OrderSeat) → t < n → slice_get seats t ≡ Some seat → among seat ≡ false) → left_to among seats n ≡ []
none-left among seats zero none = refl
none-left among seats (suc t) none =
    ap (λ (l : List Block). l ++ left_at among t (slice_get seats t)) (none-left among seats t (λ k seat lt is. none k seat (omega arith) is))
    ∙ by (slice_get seats t) refl
  where
    by : (at : Option OrderSeat) → slice_get seats t ≡ at → left_at among t at ≡ []
    by None is = refl
    by (Some seat) is = ap (λ (b : Bool). if b then unit_left t seat.unit else []) (none t seat (omega arith) is)
