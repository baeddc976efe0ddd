-- Arguments that are copied one after the other.
use Rattle.std.proofs.Common.{◌≡◌, ℕ, ◌+◌, ◌<◌, ◌≤◌, List, [], ◌∷◌, length, drop, map, get_or, Option, Some, None, refl, sym, ap, ◌∙◌, arith}
use Rattle.std.proofs.Math.ListN.{drop_of_length-le}
use Rattle.std.specs.Prelude.{All, option_map}
use Rattle.pw_code.specs.declared.place.StoragePlace.{StoragePlace}
use Rattle.std.proofs.lemmas.List.{append-nil, get_or-map, length-map}
use Rattle.pw_code.specs.Valid.{IsLinked}
use Rattle.pw_code_meaning.specs.Reading.{Registers, Spot, at_this_moment, one_more, spot_at, spot_of, spots_of}
use Rattle.pw_machine.specs.Views.{IsSpot, spot_by}
use Rattle.pw_machine.specs.declared.spot.MachineSpot as own
use Rattle.pw_machine.proofs.StatementLemmas.{in_front}

-- the sizes of both are the same one by one
pub size_at : {A : Type 0} (size : A → ℕ) (places : List A) (linkage : List (ℕ × ℕ)) (i : ℕ) (d : ℕ × ℕ) (e : A) → map size places ≡ map (λ item. item.1) linkage
    → i < length places → size (get_or places i e) ≡ (get_or linkage i d).1
size_at size places linkage i d e same lt =
    let both : length places ≡ length linkage = sym (length-map places size) ∙ ap (length {A = ℕ}) same ∙ length-map linkage (λ item. item.1) in
    sym (get_or-map size places i e 0 lt) ∙ ap (λ l. get_or l i 0) same ∙ get_or-map (λ item. item.1) linkage i d 0 (omega (arith, both, lt))

same_length : {A : Type 0} (size : A → ℕ) (places : List A) (linkage : List (ℕ × ℕ)) → map size places ≡ map (λ item. item.1) linkage → length places ≡ length linkage
same_length size places linkage same = sym (length-map places size) ∙ ap (length {A = ℕ}) same ∙ length-map linkage (λ item. item.1)

-- each argument lies in its linkage item, and goes back to its spot
pub in_fits : (places : List own.MachineSpot) (linkage : List (ℕ × ℕ)) (i : ℕ) (d : ℕ × ℕ) (e : own.MachineSpot) (n long m : ℕ) → All (IsLinked n) linkage
    → map (λ (spot : own.MachineSpot). spot.size) places ≡ map (λ item. item.1) linkage → i < length places → m ≡ (get_or places i e).size → long ≡ n
    → (get_or linkage i d).0 + m ≤ long
in_fits places linkage i d e n long m linked same lt size all =
    let both = same_length (λ (spot : own.MachineSpot). spot.size) places linkage same in
    let inside = linked i d (omega (arith, both)) in
    let one = size_at (λ (spot : own.MachineSpot). spot.size) places linkage i d e same lt in
    omega (arith, inside, one, size, all)

pub back_fits : (places : List own.MachineSpot) (linkage : List (ℕ × ℕ)) (i : ℕ) (d : ℕ × ℕ) (e : own.MachineSpot) (n long m : ℕ) → All (IsSpot n) places
    → map (λ (spot : own.MachineSpot). spot.size) places ≡ map (λ item. item.1) linkage → i < length places → m ≡ (get_or linkage i d).1 → long ≡ n
    → (get_or places i e).at + m ≤ long
back_fits places linkage i d e n long m spots same lt size all =
    let inside = spots i e lt in
    let one = size_at (λ (spot : own.MachineSpot). spot.size) places linkage i d e same lt in
    omega (arith, inside.inside, one, size, all)

-- the spots of places have their sizes
size_of : (place : StoragePlace) (at : Option ℕ) (spot : Spot) → Some spot ≡ option_map (spot_at place) at → spot.size ≡ place.size
size_of place None spot e = absurd (cc)
size_of place (Some at) spot e = let is : spot ≡ spot_at place at = cc in ap (λ (s : Spot). s.size) is

pub sizes_of : (registers : Registers) (storage : List ℕ) (places : List StoragePlace) (spots : List own.MachineSpot) → Some (map spot_by spots) ≡ spots_of registers storage places
    → map (λ (spot : own.MachineSpot). spot.size) spots ≡ map (λ (place : StoragePlace). place.size) places
sizes_of registers storage [] [] e = refl
sizes_of registers storage [] (spot ∷ spots) e = absurd (cc)
sizes_of registers storage (place ∷ places) spots e =
    pick spots (spot_of registers storage place) (spots_of registers storage places) refl refl (sizes_of registers storage places) e
  where
    pick : (spots : List own.MachineSpot) (first : Option Spot) (rest : Option (List Spot)) → spot_of registers storage place ≡ first → spots_of registers storage places ≡ rest
        → ((more : List own.MachineSpot) → Some (map spot_by more) ≡ spots_of registers storage places → map (λ (spot : own.MachineSpot). spot.size) more ≡ map (λ (place : StoragePlace). place.size) places)
        → Some (map spot_by spots) ≡ one_more first rest → map (λ (spot : own.MachineSpot). spot.size) spots ≡ place.size ∷ map (λ (place : StoragePlace). place.size) places
    pick spots None rest a b ih e = absurd (cc)
    pick spots (Some first) None a b ih e = absurd (cc)
    pick [] (Some first) (Some rest) a b ih e = absurd (cc)
    pick (spot ∷ spots) (Some first) (Some rest) a b ih e =
        let front : spot_by spot ≡ first = cc in
        let behind : map spot_by spots ≡ rest = cc in
        let here : spot.size ≡ first.size = ap (λ (s : Spot). s.size) front in
        let size : first.size ≡ place.size = size_of place (at_this_moment registers storage place.at place.table) first (sym a) in
        let more : Some (map spot_by spots) ≡ spots_of registers storage places = ap (λ l. Some l) behind ∙ sym b in
        let sizes = ih spots more in
        ap (λ n. n ∷ map (λ (spot : own.MachineSpot). spot.size) spots) (here ∙ size) ∙ ap (λ l. place.size ∷ l) sizes

-- those of all places, once none is left
pub sizes_at_end : (registers : Registers) (storage : List ℕ) (places : List StoragePlace) (i : ℕ) (spots : List own.MachineSpot) → length places ≤ i
    → in_front (map spot_by spots) (spots_of registers storage (drop i places)) ≡ spots_of registers storage places
    → map (λ (spot : own.MachineSpot). spot.size) spots ≡ map (λ (place : StoragePlace). place.size) places
sizes_at_end registers storage places i spots past so_far =
    let none : drop i places ≡ [] = drop_of_length-le places past in
    let all : in_front (map spot_by spots) (spots_of registers storage (drop i places)) ≡ Some (map spot_by spots) =
    ap (λ l. in_front (map spot_by spots) (spots_of registers storage l)) none ∙ ap (λ l. Some l) (append-nil (map spot_by spots)) in
    sizes_of registers storage places spots (sym all ∙ so_far)
