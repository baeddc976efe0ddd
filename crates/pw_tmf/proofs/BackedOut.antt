-- Units that are backed out one after the other.
use Rattle.std.proofs.Common.{◌≡◌, ◌≢◌, ℕ, ◌∙◌, sym, ap, subst, Bool, List, [], ◌∷◌, filter}
use Rattle.std.specs.Prelude.{All, slice_set}
use Rattle.std.proofs.lemmas.List.Elements.{All-head, All-tail, All-nil, All-cons}
use Rattle.pw_blocks.specs.Blocks.{BlocksState}
use Rattle.pw_code.specs.declared.lock.LockRule.{LockRule}
use Rattle.pw_code.specs.declared.unit.Unit as unit
use Rattle.pw_locks.specs.declared.lock.Lock.{Lock}
use Rattle.pw_paired.specs.State.{BeforeImage}
use Rattle.pw_tmf.specs.Slots.{SlotState, backed_out_slot}
use Rattle.pw_tmf.specs.Tmf.{IsTmf, TmfState, slot_at, told_of, unit_at, with_images}
use Rattle.pw_tmf.specs.Told.{Told}
use Rattle.pw_tmf.specs.Units.{HaveDistinctTerminals, CanBackOut, IsOpen, all_backed_out, backed_out}
use Rattle.pw_tmf.proofs.Stopped.{IsTmf-backed_out, backing, can-open, can-still, others, told-backed_out}

-- some units have been backed out, and these are left
pub record IsBackingOut (ends : Bool) (goal : Told) (state : TmfState) (rest : List unit.Unit) : Type 0 where
  pub told : all_backed_out ends (told_of state) rest ≡ goal
  pub ok : IsTmf state
  pub apart : HaveDistinctTerminals rest
  pub can : All (CanBackOut ends (told_of state)) rest

-- a fact of the units of other terminals
all-apart : (P Q : unit.Unit → Type 0) (u : unit.Unit) → ((v : unit.Unit) → v.terminal ≢ u.terminal → P v → Q v) → (vs : List unit.Unit) → All (λ v. v.terminal ≢ u.terminal) vs → All P vs → All Q vs
all-apart P Q u more [] a h = All-nil Q
all-apart P Q u more (v ∷ vs) a h =
    let R : unit.Unit → Type 0 = λ v. v.terminal ≢ u.terminal in
    All-cons Q v vs (more v (All-head R v vs a) (All-head P v vs h)) (all-apart P Q u more vs (All-tail R v vs a) (All-tail P v vs h))

-- the next unit is open
pub next-open : (ends : Bool) (goal : Told) (state : TmfState) (u : unit.Unit) (rest units : List unit.Unit) → units ≡ u ∷ rest → IsBackingOut ends goal state units → IsOpen (told_of state) u
next-open ends goal state u rest units is b = can-open ends (told_of state) u (All-head (CanBackOut ends (told_of state)) u rest (subst (All (CanBackOut ends (told_of state))) is b.can))

-- one more is backed out
pub one-more : (ends : Bool) (goal : Told) (state next : TmfState) (u : unit.Unit) (rest units : List unit.Unit) → units ≡ u ∷ rest → IsBackingOut ends goal state units
    → next.rule ≡ state.rule → next.files ≡ state.files → next.pending ≡ with_images state.pending (unit_at state.slots u.terminal) → next.locks ≡ filter (others u) state.locks
    → next.slots ≡ slice_set state.slots u.terminal (backed_out_slot ends (slot_at state.slots u.terminal)) → next.commits ≡ state.commits
    → IsBackingOut ends goal next rest
one-more ends goal state next u rest units is b rule files pending locks slots commits =
    let open_u : IsOpen (told_of state) u = next-open ends goal state u rest units is b in
    let apart : HaveDistinctTerminals (u ∷ rest) = subst HaveDistinctTerminals is b.apart in
    let can : All (CanBackOut ends (told_of state)) (u ∷ rest) = subst (All (CanBackOut ends (told_of state))) is b.can in
    let next_is : next ≡ backing state u open_u.open_unit open_u.here open_u.number open_u.terminal b.ok ends = state-is next state.rule state.files _ _ _ state.commits rule files pending locks slots commits in
    let told_is : told_of next ≡ backed_out ends (told_of state) u = ap told_of next_is ∙ told-backed_out state u open_u.open_unit open_u.here open_u.number open_u.terminal b.ok ends in
    record {
      told = ap (λ (t : Told). all_backed_out ends t rest) told_is ∙ (ap (all_backed_out ends (told_of state)) (sym is) ∙ b.told);
      ok = subst IsTmf (sym next_is) (IsTmf-backed_out state u open_u.open_unit open_u.here open_u.number open_u.terminal b.ok ends);
      apart = apart.1;
      can = subst (λ (t : Told). All (CanBackOut ends t) rest) (sym told_is)
          (all-apart (CanBackOut ends (told_of state)) (CanBackOut ends (backed_out ends (told_of state) u)) u (λ v differ h. can-still ends ends (told_of state) u v differ h) rest apart.0
          (All-tail (CanBackOut ends (told_of state)) u rest can));
    }
  where
    state-is : (s : TmfState) (rule : LockRule) (files : List BlocksState) (pending : List (List BeforeImage)) (locks : List Lock) (slots : List SlotState) (commits : ℕ)
        → s.rule ≡ rule → s.files ≡ files → s.pending ≡ pending → s.locks ≡ locks → s.slots ≡ slots → s.commits ≡ commits → s ≡ record { rule = rule; files = files; pending = pending; locks = locks; slots = slots; commits = commits }
    state-is s rule files pending locks slots commits a b c d e f =
        ap (λ x. record s { rule = x }) a
        ∙ (ap (λ x. record s { rule = rule; files = x }) b
        ∙ (ap (λ x. record s { rule = rule; files = files; pending = x }) c
        ∙ (ap (λ x. record s { rule = rule; files = files; pending = pending; locks = x }) d
        ∙ (ap (λ x. record s { rule = rule; files = files; pending = pending; locks = locks; slots = x }) e
        ∙ ap (λ x. record { rule = rule; files = files; pending = pending; locks = locks; slots = slots; commits = x }) f))))
