-- The terminals of which something was held go on with it; where memory is wanting, the memory is back.
use Rattle.std.proofs.Common.{◌≡◌, ℕ, ◌<◌, ◌∙◌, true, List, ap, ap₂, length, refl, subst, sym}
use Rattle.std.specs.Prelude.{All, slice_set}
use Rattle.std.specs.List.{list_all}
use Rattle.std.proofs.lemmas.List.{get_or-set_same, set-set}
use Rattle.pw_world_store.specs.Each.{gone_on, resumption_at}
use Rattle.pw_world_store.specs.Keeps.{KeepState, kept_in, pair_at, seat_at, terminals_in}
use Rattle.pw_world_store.proofs.Changed.{AreChanged, keep-alike, kept-each}
use Rattle.pw_world_store.proofs.Failing.{ended_of, goes-on, gone-are, members-low, resumed-low, start-left, terminals_of, unit-left, verb-left}
use Rattle.pw_world_store.proofs.Pairing.{keep-pair, pair-is, pair-stays, pair-step, pair-there, terminals-each}
use Rattle.pw_world_state.specs.Changes.{at_pair, taken_over}
use Rattle.pw_pair.specs.Pairs.{SeenPair, after_put_back, after_take, memory_of, seat_of}
use Rattle.pw_pair.specs.Seats.{has_own_memory, without_backup}
use Rattle.pw_pair.specs.Takeover.{AreResumed, last_ended}
use Rattle.pw_pair.specs.declared.backup.Held.{Held}
use Rattle.pw_pair.specs.declared.mode.Mode.TheVariants.{Alone}
use Rattle.pw_world_store.specs.declared.seat.Seat.{Seat}
use Rattle.pw_world_store.proofs.keep.Keep.takeover.Goals as goal

pub go_on_each-requires : goal.go_on_each-requires
go_on_each-requires g c =
    let p = c.args.tcp in
    let disc = g.D.Disc.told c.self.inside.disc in
    let seats = c.self.inside.seats.items in
    let pairs = c.self.inside.pairs.items in
    let one = c.index_mut.result.now in
    let resumed = c.in-Ok.resumed.items in
    let held = (pair_at pairs p).seats in
    let last = λ (t : ℕ). (disc.ended t).number in
    let lt : p < length pairs = pair-there p c.self.invariant (rw (← c.self.view_is) at c.requires.known) in
    let is = pair-is pairs p one lt c.index_mut.ensures.value in
    let own : list_all has_own_memory held ≡ true = ap (λ (x : SeenPair). list_all has_own_memory x.seats) is ∙ c.take_backup-backup.ensures.own in
    let images : c.take_backup-backup.result ≡ memory_of held = c.take_backup-backup.ensures.images ∙ ap (λ (x : SeenPair). memory_of x.seats) (sym is) in
    let terminals : c.deref.result.now ≡ terminals_of held = c.deref.ensures.value ∙ (rw (← c.self.view_is) at c.in_ok-terminals.ensures.terminals) in
    let ended : c.deref-2.result.now ≡ ended_of last (terminals_of held) = c.deref-2.ensures.value ∙ ((rw (← c.self.view_is) at c.in_ok-ended.ensures) ∙ ap (ended_of last) terminals) in
    let goes : AreResumed (memory_of held) (ended_of last (terminals_of held)) resumed =
    subst (λ (l : List (ℕ × ℕ)). AreResumed (memory_of held) l resumed) ended (subst (λ (l : List Held). AreResumed l c.deref-2.result.now resumed) images c.in-Ok.ensures.resumed)
    in
    let all = subst (λ n. All (λ t. t < n) (terminals_of held)) (sym c.self.invariant.terminals) (members-low (c.self.invariant.members p lt)) in
    resumed-low (length seats) (last_ended (ended_of last (terminals_of held))) held resumed own goes all

pub invariant_of-self : goal.invariant_of-self
invariant_of-self g c =
    let p = c.args.tcp in
    let disc = g.D.Disc.told c.self.inside.disc in
    let seats = c.self.inside.seats.items in
    let pairs = c.self.inside.pairs.items in
    let one = c.index_mut.result.now in
    let resumed = c.in-Ok.resumed.items in
    let held = (pair_at pairs p).seats in
    let last = λ (t : ℕ). (disc.ended t).number in
    let lt : p < length pairs = pair-there p c.self.invariant (rw (← c.self.view_is) at c.requires.known) in
    let is = pair-is pairs p one lt c.index_mut.ensures.value in
    let own : list_all has_own_memory held ≡ true = ap (λ (x : SeenPair). list_all has_own_memory x.seats) is ∙ c.take_backup-backup.ensures.own in
    let images : c.take_backup-backup.result ≡ memory_of held = c.take_backup-backup.ensures.images ∙ ap (λ (x : SeenPair). memory_of x.seats) (sym is) in
    let terminals : c.deref.result.now ≡ terminals_of held = c.deref.ensures.value ∙ (rw (← c.self.view_is) at c.in_ok-terminals.ensures.terminals) in
    let ended : c.deref-2.result.now ≡ ended_of last (terminals_of held) = c.deref-2.ensures.value ∙ ((rw (← c.self.view_is) at c.in_ok-ended.ensures) ∙ ap (ended_of last) terminals) in
    let goes : AreResumed (memory_of held) (ended_of last (terminals_of held)) resumed =
    subst (λ (l : List (ℕ × ℕ)). AreResumed (memory_of held) l resumed) ended (subst (λ (l : List Held). AreResumed l c.deref-2.result.now resumed) images c.in-Ok.ensures.resumed)
    in
    let all = subst (λ n. All (λ t. t < n) (terminals_of held)) (sym c.self.invariant.terminals) (members-low (c.self.invariant.members p lt)) in
    let how = resumption_at (pair_at pairs p) disc in
    let change = λ (t : ℕ) (s : Seat). gone_on p (how t) s in
    let are = subst (AreChanged change (terminals_of held) seats) (sym c.go_on_each.ensures)
    (gone-are p last held resumed seats (c.self.invariant.members p lt).distinct own goes all)
    in
    keep-pair c.self.inside.system c.go_on_each.new.seats.items disc c.self.inside.classes c.self.inside.jobs.items pairs p one c.take_backup-backup.new.self
    (keep-alike c.self.inside.system change (λ t s h. verb-left c.self.inside.system p (how t) s h) (λ t s. unit-left p (how t) s) (λ t s. start-left p (how t) s)
    (terminals_of held) seats c.go_on_each.new.seats.items disc c.self.inside.classes c.self.inside.jobs.items pairs c.self.invariant are)
    lt c.index_mut.ensures.value (ap terminals_in c.take_backup-backup.ensures.after ∙ terminals-each Alone without_backup (λ s. refl) one)

pub returns-in-Ok-clause-ok : goal.returns-in-Ok-clause-ok
returns-in-Ok-clause-ok g c =
    let p = c.args.tcp in
    let disc = g.D.Disc.told c.self.inside.disc in
    let seats = c.self.inside.seats.items in
    let pairs = c.self.inside.pairs.items in
    let one = c.index_mut.result.now in
    let resumed = c.in-Ok.resumed.items in
    let held = (pair_at pairs p).seats in
    let last = λ (t : ℕ). (disc.ended t).number in
    let lt : p < length pairs = pair-there p c.self.invariant (rw (← c.self.view_is) at c.requires.known) in
    let is = pair-is pairs p one lt c.index_mut.ensures.value in
    let own : list_all has_own_memory held ≡ true = ap (λ (x : SeenPair). list_all has_own_memory x.seats) is ∙ c.take_backup-backup.ensures.own in
    let images : c.take_backup-backup.result ≡ memory_of held = c.take_backup-backup.ensures.images ∙ ap (λ (x : SeenPair). memory_of x.seats) (sym is) in
    let terminals : c.deref.result.now ≡ terminals_of held = c.deref.ensures.value ∙ (rw (← c.self.view_is) at c.in_ok-terminals.ensures.terminals) in
    let ended : c.deref-2.result.now ≡ ended_of last (terminals_of held) = c.deref-2.ensures.value ∙ ((rw (← c.self.view_is) at c.in_ok-ended.ensures) ∙ ap (ended_of last) terminals) in
    let goes : AreResumed (memory_of held) (ended_of last (terminals_of held)) resumed =
    subst (λ (l : List (ℕ × ℕ)). AreResumed (memory_of held) l resumed) ended (subst (λ (l : List Held). AreResumed l c.deref-2.result.now resumed) images c.in-Ok.ensures.resumed)
    in
    let all = subst (λ n. All (λ t. t < n) (terminals_of held)) (sym c.self.invariant.terminals) (members-low (c.self.invariant.members p lt)) in
    let how = resumption_at (pair_at pairs p) disc in
    let change = λ (t : ℕ) (s : Seat). gone_on p (how t) s in
    let are = subst (AreChanged change (terminals_of held) seats) (sym c.go_on_each.ensures)
    (gone-are p last held resumed seats (c.self.invariant.members p lt).distinct own goes all)
    in
    let births = c.self.inside.births in
    let kept = kept_in g.D.Disc.told (record { system = c.self.inside.system; seats = seats; disc = c.self.inside.disc; book = c.self.inside.classes; jobs = c.self.inside.jobs.items; pairs = pairs; births = births }) in
    let left = pair-step g.D.Disc.told after_take (record { system = c.self.inside.system; seats = c.go_on_each.new.seats.items; disc = c.self.inside.disc; book = c.self.inside.classes; jobs = c.self.inside.jobs.items; pairs = pairs; births = births }) p one c.take_backup-backup.new.self lt c.index_mut.ensures.value c.take_backup-backup.ensures.after in
    rw (← c.self.view_is) (record {
      system = refl;
      kept =
          left.kept
          ∙ ap (at_pair p after_take)
          (kept-each change (taken_over p kept) (terminals_of held) seats c.go_on_each.new.seats.items disc c.self.inside.classes c.self.inside.jobs.items pairs births
          (λ u low. goes-on p u (seat_at seats u) (disc.units u) (disc.ended u).number (seat_of u (pair_at pairs p)) (c.self.invariant.units u low) (c.self.invariant.runs u low)) all are);
    })

pub returns-clause-err : goal.returns-clause-err
returns-clause-err g c =
    let p = c.args.tcp in
    let pairs = c.self.inside.pairs.items in
    let one = c.index_mut.result.now in
    let taken = c.take_backup-backup.new.self in
    let again = c.index_mut-in-Err.result.now in
    let lt : p < length pairs = pair-there p c.self.invariant (rw (← c.self.view_is) at c.requires.known) in
    let second : again ≡ taken = c.index_mut-in-Err.ensures.value ∙ get_or-set_same pairs p taken again lt in
    let given : c.in-Err.backup ≡ c.take_backup-backup.result = c.in-Err.ensures.back in
    let back : c.put_back.new.self ≡ one =
    c.put_back.ensures ∙ (ap₂ (λ (b : List Held) (x : SeenPair). after_put_back b x) given second ∙ c.take_backup-backup.ensures.back)
    in
    let same : slice_set (slice_set pairs p taken) p c.put_back.new.self ≡ pairs =
    set-set pairs p taken c.put_back.new.self ∙ pair-stays pairs p one c.put_back.new.self c.index_mut.ensures.value back
    in
    let state : List SeenPair → KeepState g.row.D.Denot = λ l. record { system = c.self.inside.system; seats = c.self.inside.seats.items; disc = c.self.inside.disc; book = c.self.inside.classes; jobs = c.self.inside.jobs.items; pairs = l; births = c.self.inside.births } in
    ap state same ∙ c.self.view_is
