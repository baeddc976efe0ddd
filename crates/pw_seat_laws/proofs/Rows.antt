-- What keeps the seats of a file, and that a row which keeps its holders may be written in place of the old one.
use Rattle.std.proofs.Common.{◌≡◌, ℕ, true, false, List, take, Some, refl, sym, ap, ◌∙◌, subst}
use Rattle.std.specs.Prelude.{bytes_eq}
use Rattle.std.proofs.lemmas.Slice.Eq.{bytes_eq-Decides}
use Rattle.pw_files.proofs.Lookups.{record_at-with_other, record_at-with_record}
use Rattle.pw_files.specs.Records.{record_at, with_record}
use Rattle.pw_seat_laws.proofs.Parts.{by-bool}
use Rattle.pw_seat_laws.specs.Seats.{KeepsHolders, KeepsSeats, holder_in}

pub keeps-itself : (records : List (List ℕ)) → KeepsSeats records records
keeps-itself records key row is = (row, is, λ seat lt held. refl)

holders-on : (row between now : List ℕ) → KeepsHolders row between → KeepsHolders between now → KeepsHolders row now
holders-on row between now first second seat lt held =
    let same : holder_in seat between ≡ holder_in seat row = first seat lt held in
    second seat lt (λ free. held (sym same ∙ free)) ∙ same

pub keeps-on : (before between after : List (List ℕ)) → KeepsSeats before between → KeepsSeats between after → KeepsSeats before after
keeps-on before between after first second key row is =
    let one = first key row is in
    let two = second key one.0 one.1 in
    (two.0, two.1, holders-on row one.0 two.0 one.2 two.2)

-- a row in place of one of its key
pub keeps-rewritten : (records : List (List ℕ)) (row new : List ℕ) → record_at 6 records (take 6 new) ≡ Some row → KeepsHolders row new → KeepsSeats records (with_record 6 records new)
keeps-rewritten records row new there holders key old is =
    let At : Type 0 = (now : List ℕ) × (record_at 6 (with_record 6 records new) key ≡ Some now) × KeepsHolders old now in
    let decides = bytes_eq-Decides key (take 6 new) in
    by-bool (bytes_eq key (take 6 new)) At
    (λ e.
    let own : key ≡ take 6 new = decides.0 e in
    let same : old ≡ row = some-is (sym is ∙ ap (record_at 6 records) own ∙ there) in
    (new, ap (record_at 6 (with_record 6 records new)) own ∙ record_at-with_record 6 records new, subst (λ r. KeepsHolders r new) (sym same) holders))
    (λ e.
    (old, record_at-with_other 6 records new key (λ own. absurd (false-true (sym e ∙ decides.1 own))) ∙ is, λ seat lt held. refl))
  where
    some-is : {x y : List ℕ} → Some x ≡ Some y → x ≡ y
    some-is e = cc

    false-true : false ≡ true → ⊥
    false-true e = absurd cc
