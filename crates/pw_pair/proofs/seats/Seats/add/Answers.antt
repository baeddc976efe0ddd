-- One more seat stands behind the others, and the map has its place.
use Rattle.std.proofs.Common.{◌≡◌, ◌++◌, ◌∷◌, [], true, cond, refl, sym, ap, subst, ◌∙◌, arith, Some, None, Option, ℕ, List}
use Rattle.std.specs.BTreeMap.{get}
use Rattle.std.specs.List.{list_any}
use Rattle.std.specs.Ordering.{nat_cmp}
use Rattle.std.specs.Result.{is_ok}
use Rattle.std.specs.Option.{is_some}
use Rattle.pw_base.proofs.Plain.{is_some-None}
use Rattle.pw_pair.specs.Places.{AreSeats}
use Rattle.pw_pair.specs.Seats.{is_seat_of, new_seat}
use Rattle.pw_pair.specs.declared.seat.BackupSeat.{BackupSeat}
use Rattle.pw_pair.proofs.Adding.{added, same-places}
use Rattle.pw_pair.proofs.At.{has-terminal}
use Rattle.pw_pair.proofs.seats.Seats.add.Goals as goal

pub returns-then-contains_key-clause-ok : goal.returns-then-contains_key-clause-ok
returns-then-contains_key-clause-ok c =
    let has = ap (λ l. list_any (is_seat_of c.args.terminal) l) (sym c.self.view_is)
    ∙ has-terminal c.self.inside.places c.self.inside.seats.items c.args.terminal c.self.invariant.places_are _ refl
    ∙ sym c.if-contains_key.ensures in
    ap (λ b. cond b c.args.self.now (c.args.self.now ++ new_seat c.args.terminal ∷ [])) (sym has)

pub invariant_of-self-in_err-insert : goal.invariant_of-self-in_err-insert
invariant_of-self-in_err-insert c =
    let P : List BackupSeat → Type 0 = λ l. AreSeats l c.insert.new.self c.self.inside.lacking c.self.inside.waiting in
    subst P (sym c.in_ok-reserve.ensures.items)
    (record {
      places_are = same-places c.self.inside.places c.insert.new.self _ c.in_err-insert.ensures.err c.self.invariant.places_are;
      sound = c.self.invariant.sound;
      lacks = c.self.invariant.lacks;
      waits = c.self.invariant.waits;
    })

pub invariant_of-self-2 : goal.invariant_of-self-2
invariant_of-self-2 c =
    let absent = is_some-None (get nat_cmp c.self.inside.places c.args.terminal) (sym c.if-contains_key.ensures) in
    added c.self.inside.seats.items c.push.new.self.items c.self.inside.places c.insert.new.self c.self.inside.lacking c.self.inside.waiting c.args.terminal c.len-place.result
    c.self.invariant absent (let e = c.len-place.ensures in let n = c.self.inside.seats.ok.0 in omega (arith, e, n)) c.in_ok-insert.ensures.updates.0
    (c.push.ensures.items ∙ ap (λ r. cond (is_ok r) (c.reserve.new.self.items ++ c.new.result ∷ []) c.reserve.new.self.items) c.unwrap.ensures
    ∙ ap (λ l. l ++ c.new.result ∷ []) c.in_ok-reserve.ensures.items ∙ ap (λ s. c.self.inside.seats.items ++ s ∷ []) c.new.ensures)

pub returns-clause-ok : goal.returns-clause-ok
returns-clause-ok c =
    let has = ap (λ l. list_any (is_seat_of c.args.terminal) l) (sym c.self.view_is)
    ∙ has-terminal c.self.inside.places c.self.inside.seats.items c.args.terminal c.self.invariant.places_are _ refl
    ∙ sym c.if-contains_key.ensures in
    c.push.ensures.items ∙ ap (λ r. cond (is_ok r) (c.reserve.new.self.items ++ c.new.result ∷ []) c.reserve.new.self.items) c.unwrap.ensures
    ∙ ap (λ l. l ++ c.new.result ∷ []) c.in_ok-reserve.ensures.items ∙ ap (λ s. c.self.inside.seats.items ++ s ∷ []) c.new.ensures
    ∙ ap (λ l. l ++ new_seat c.args.terminal ∷ []) c.self.view_is
    ∙ ap (λ b. cond b c.args.self.now (c.args.self.now ++ new_seat c.args.terminal ∷ [])) (sym has)
