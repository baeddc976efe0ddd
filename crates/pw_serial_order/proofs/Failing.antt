-- What a pair loses, by its mode.
use Rattle.std.proofs.Common.{◌≡◌, ℕ, ◌<◌, ⊎_elim, Bool, true, false, not, ◌&&◌, is_none, is_some, List, [], ◌∷◌, Option, Some, None, if◌then◌else◌, refl, ap, sym, subst, ◌∙◌, suc}
use Rattle.std.proofs.lemmas.Bool.{cases_Bool, eqb-true, false≢true}
use Rattle.std.proofs.lemmas.Option.{slice_get_within}
use Rattle.std.specs.List.{list_any}
use Rattle.std.specs.Prelude.{slice_get}
use Rattle.std.specs.Option.{option_map}
use Rattle.std.proofs.lemmas.Map.Keys.{any_passes_from_place}
use Rattle.pw_base.proofs.Plain.{and-first, and-second, drop-false}
use Rattle.pw_event.specs.declared.event.Event.TheVariants as event
use Rattle.pw_onecopy.proofs.Update.{upd-same}
use Rattle.pw_onecopy.specs.Behaviour.{Behaviour}
use Rattle.pw_serial_order.proofs.Losing.{state_behind_loss}
use Rattle.pw_serial_order.specs.Entries.{Shadow}
use Rattle.pw_serial_order.specs.Pairs.{is_of, lacks, loss_of, mode_behind}
use Rattle.pw_serial_order.specs.Seats.{is_lacking}
use Rattle.pw_serial_order.specs.Shadow.{ShadowStandsAt, held_of, mode_of, seat_of}
use Rattle.pw_serial_order.specs.declared.pair.Loss.{Loss}
use Rattle.pw_serial_order.specs.declared.pair.Loss.TheVariants as loss
use Rattle.pw_serial_order.specs.declared.seat.OrderSeat.{OrderSeat}
use Rattle.pw_paired.specs.Failure.{backup_fails, do_fail_tcp, is_live_of, is_of_pair, primary_fails}
use Rattle.pw_paired.specs.Raising.{lacks_one}
use Rattle.pw_paired.specs.Serial.{Reading, is_gone, makes_gone}
use Rattle.pw_paired.specs.State.{Alone, BackupCopy, Down, Gone, PairMode, Paired, Raising, State}
use Rattle.pw_laws.proofs.Lacking.{any_below-some}

-- what is lost when a member fails
abbrev pub state_loss : PairMode → Bool → Loss
state_loss Paired true = loss.Primary
state_loss Paired false = loss.Backup
state_loss Raising true = loss.Pair
state_loss Raising false = loss.Backup
state_loss Alone true = loss.Pair
state_loss Alone false = loss.Nothing
state_loss Down true = loss.Nothing
state_loss Down false = loss.Pair
state_loss Gone primary = loss.Nothing

-- the pair is lost
abbrev pub is_whole : Loss → Bool
is_whole loss.Pair = true
is_whole _ = false

module _ (sys : Behaviour) (s : State) (p : ℕ) where
  -- the failure is that loss
  pub fails-as : (primary : Bool) → do_fail_tcp sys p primary s ≡ state_behind_loss sys (state_loss (s.modes p) primary) p s
  fails-as true = by (s.modes p)
    where
      by : (m : PairMode) → primary_fails sys p m s ≡ state_behind_loss sys (state_loss m true) p s
      by Paired = refl
      by Raising = refl
      by Alone = refl
      by Down = refl
      by Gone = refl
  fails-as false = by (s.modes p)
    where
      by : (m : PairMode) → backup_fails sys p m s ≡ state_behind_loss sys (state_loss m false) p s
      by Paired = refl
      by Raising = refl
      by Alone = refl
      by Down = refl
      by Gone = refl

  -- the mode behind it
  pub mode-lost : (l : Loss) → mode_of ((state_behind_loss sys l p s).modes p) ≡ mode_behind l (mode_of (s.modes p))
  mode-lost loss.Nothing = refl
  mode-lost loss.Primary = ap mode_of (upd-same s.modes p Down p refl)
  mode-lost loss.Backup = ap mode_of (upd-same s.modes p Alone p refl)
  mode-lost loss.Pair = ap mode_of (upd-same s.modes p Gone p refl)

  -- whether the pair is lost by it
  gone-as : (m : PairMode) (primary : Bool) → s.modes p ≡ m
      → (is_gone ((state_behind_loss sys (state_loss m primary) p s).modes p) && not (is_gone m)) ≡ is_whole (state_loss m primary)
  gone-as Paired true is = ap (λ (m : PairMode). is_gone m && true) (upd-same s.modes p Down p refl)
  gone-as Paired false is = ap (λ (m : PairMode). is_gone m && true) (upd-same s.modes p Alone p refl)
  gone-as Raising true is = ap (λ (m : PairMode). is_gone m && true) (upd-same s.modes p Gone p refl)
  gone-as Raising false is = ap (λ (m : PairMode). is_gone m && true) (upd-same s.modes p Alone p refl)
  gone-as Alone true is = ap (λ (m : PairMode). is_gone m && true) (upd-same s.modes p Gone p refl)
  gone-as Alone false is = ap (λ (m : PairMode). is_gone m && true) is
  gone-as Down true is = ap (λ (m : PairMode). is_gone m && true) is
  gone-as Down false is = ap (λ (m : PairMode). is_gone m && true) (upd-same s.modes p Gone p refl)
  gone-as Gone true is = ap (λ (m : PairMode). is_gone m && false) is
  gone-as Gone false is = ap (λ (m : PairMode). is_gone m && false) is

  pub makes-gone : (primary : Bool) (k : ℕ) → makes_gone sys s (event.FailTcp p primary k) p ≡ is_whole (state_loss (s.modes p) primary)
  makes-gone primary k =
      ap (λ (x : State). is_gone (x.modes p) && not (is_gone (s.modes p))) (fails-as primary) ∙ gone-as (s.modes p) primary refl

pub any-place : {X : Type 0} (test : X → Bool) (xs : List X) → list_any test xs ≡ true → (k : ℕ) × (x : X) × (slice_get xs k ≡ Some x) × (test x ≡ true)
any-place test [] is = absurd (false≢true is)
any-place test (y ∷ xs) is =
    ⊎_elim (λ here. (0, y, refl, here))
    (λ not_here. let rest = any-place test xs (drop-false (test y) (list_any test xs) not_here is) in (suc rest.0, rest.1, rest.2, rest.3))
    (cases_Bool (test y))

-- nothing is held
lacking-is : (memory : Option BackupCopy) → is_none (option_map held_of memory) ≡ not (is_some memory)
lacking-is None = refl
lacking-is (Some held) = refl

module _ (sys : Behaviour) (s : State) (r : Reading) (shadow : Shadow) (stands : ShadowStandsAt sys s r shadow) (p : ℕ) where
  -- a seat that is lacking is that of a lacking terminal
  lacks-as : (t : ℕ) → (is_of p (seat_of sys s r t) && is_lacking (seat_of sys s r t)) ≡ (is_live_of sys p s t && not (is_some (s.memory t)))
  lacks-as t =
      ap (λ (b : Bool). is_of_pair sys p t && (is_none (s.terms t).ending && b)) (lacking-is (s.memory t))
      ∙ joined (is_of_pair sys p t) (is_none (s.terms t).ending) (not (is_some (s.memory t)))
    where
      joined : (a b c : Bool) → (a && (b && c)) ≡ ((a && b) && c)
      joined true b c = refl
      joined false b c = refl

  -- where the backup lacks a live terminal, its seats tell so
  lacks-some : lacks_one sys p s ≡ true → lacks p shadow.seats ≡ true
  lacks-some some =
      let one = any_below-some sys.terminals (λ t. is_live_of sys p s t && not (is_some (s.memory t))) some in
      any_passes_from_place (λ (seat : OrderSeat). is_of p seat && is_lacking seat) shadow.seats one.0 (seat_of sys s r one.0) (stands.seat one.0 one.1) (lacks-as one.0 ∙ one.2)

  -- and where it holds each, they do too
  lacks-none : ((t : ℕ) → t < sys.terminals → sys.pair_of t ≡ p → (s.terms t).ending ≡ None → (held : BackupCopy) × (s.memory t ≡ Some held)) → lacks p shadow.seats ≡ false
  lacks-none holds = ⊎_elim (λ some. absurd (none some)) (λ is. is) (cases_Bool (lacks p shadow.seats))
    where
      none : lacks p shadow.seats ≡ true → ⊥
      none some =
          let one = any-place (λ (seat : OrderSeat). is_of p seat && is_lacking seat) shadow.seats some in
          let t : ℕ = one.0 in
          let known : t < sys.terminals = subst (λ (n : ℕ). t < n) stands.seats (slice_get_within shadow.seats t one.1 one.2) in
          let same : one.1 ≡ seat_of sys s r t = cc (one.2, stands.seat t known) in
          let lacking : (is_live_of sys p s t && not (is_some (s.memory t))) ≡ true = sym (lacks-as t) ∙ (ap (λ (seat : OrderSeat). is_of p seat && is_lacking seat) (sym same) ∙ one.3) in
          let live = and-first (is_live_of sys p s t) (not (is_some (s.memory t))) lacking in
          let of = eqb-true (sys.pair_of t) p (and-first (is_of_pair sys p t) (is_none (s.terms t).ending) live) in
          let held = holds t known of (no-ending (s.terms t).ending (and-second (is_of_pair sys p t) (is_none (s.terms t).ending) live)) in
          absurd (some-held (s.memory t) held.0 held.1 (and-second (is_live_of sys p s t) (not (is_some (s.memory t))) lacking))
        where
          no-ending : {X : Type 0} (e : Option X) → is_none e ≡ true → e ≡ None
          no-ending None is = refl
          no-ending (Some x) is = absurd (false≢true is)

          some-held : (memory : Option BackupCopy) (held : BackupCopy) → memory ≡ Some held → not (is_some memory) ≡ true → ⊥
          some-held None held is none = absurd (cc is)
          some-held (Some copy) held is none = false≢true none

  -- the loss by the kept mode and the seats is that by the mode
  pub loss-told : (s.modes p ≡ Raising → lacks_one sys p s ≡ true)
      → (s.modes p ≡ Paired → (t : ℕ) → t < sys.terminals → sys.pair_of t ≡ p → (s.terms t).ending ≡ None → (held : BackupCopy) × (s.memory t ≡ Some held))
      → (primary : Bool) → loss_of (mode_of (s.modes p)) primary (lacks p shadow.seats) ≡ state_loss (s.modes p) primary
  loss-told raising paired = by (s.modes p) refl
    where
      by : (m : PairMode) → s.modes p ≡ m → (primary : Bool) → loss_of (mode_of m) primary (lacks p shadow.seats) ≡ state_loss m primary
      by Paired is true = ap (λ (b : Bool). if b then loss.Pair else loss.Primary) (lacks-none (paired is))
      by Paired is false = refl
      by Raising is true = ap (λ (b : Bool). if b then loss.Pair else loss.Primary) (lacks-some (raising is))
      by Raising is false = refl
      by Alone is true = refl
      by Alone is false = refl
      by Down is true = refl
      by Down is false = refl
      by Gone is true = refl
      by Gone is false = refl
