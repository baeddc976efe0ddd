-- A change of one byte of extents is refused, or it is one of a gate that stays open.
use Rattle.std.proofs.Common.{◌≡◌, ◌≢◌, ◌⊎◌, inl, inr, ℕ, zero, suc, ◌+◌, ◌-◌, ◌^◌, ◌<◌, List, [], ◌∷◌, ◌++◌, length, get_or, take, drop, set, Option, Some, None, refl, sym, ◌∙◌, ap, subst, arith, length-append, length-drop}
use Rattle.std.specs.Prelude.{Result, Ok, Err, IsErr}
use Rattle.std.proofs.lemmas.Bool.{cases_lt}
use Rattle.std.proofs.lemmas.List.{append_assoc, drop-append-le, drop-set-add, drop-set-lt, get_or-append_right, get_or-drop, get_or_append_left, length-set, set-append_left, set-append_right, take_at}
use Rattle.pw_summed_disk.specs.Damage.{AreSmall, FindsChanges, RefusesChanges, extents_of}
use Rattle.pw_summed_disk.specs.Extents.{content_from, open_gate, piece_in, sealed, shut_gate, sum_in, with_piece, word_of}
use Rattle.pw_summed_disk.specs.Summed.{behind}
use Rattle.pw_summed_disk.specs.Sums.{sum_of}
use Rattle.pw_summed_disk.proofs.Changes.{changed_number, changed_sum, changed_word, kept_number, kept_word}
use Rattle.pw_summed_disk.proofs.Reading.{IsFound, IsSealed, at_open, found_is, gated, sealed_is, sum_front, word_front}

-- ---- a sealed piece
module _ (bytes piece other : List ℕ) (s : IsSealed bytes piece) (i byte : ℕ) (within : i < length bytes) (old : get_or bytes i 0 < 256) (new : byte < 256) (differs : byte ≢ get_or bytes i 0) where
  abbrev now : List ℕ
  now = set bytes i byte

  size : length now ≡ 16 + length piece
  size = length-set bytes i byte ∙ s.size

  first : word_of (now ++ other) ≡ word_of now
  first = word_front now other (omega (arith, size))

  second : word_of (drop 4 (now ++ other)) ≡ word_of (drop 4 now)
  second = ap word_of (drop-append-le 4 now other (omega (arith, size))) ∙ word_front (drop 4 now) other (omega (arith, size, length-drop 4 now))

  third : sum_in (drop 8 (now ++ other)) ≡ sum_in (drop 8 now)
  third = ap sum_in (drop-append-le 8 now other (omega (arith, size))) ∙ sum_front (drop 8 now) other (omega (arith, size, length-drop 8 now))

  module _ (found : List ℕ) (f : IsFound (now ++ other) found) where
    -- the piece that was found, where the lengths are the same
    found_same : word_of now ≡ length piece → found ≡ drop 16 now
    found_same is =
        let n : length found ≡ length piece = sym f.word ∙ first ∙ is in
        sym f.is
        ∙ ap (λ (m : ℕ). take m (drop 16 (now ++ other))) n
        ∙ ap (take (length piece)) (drop-append-le 16 now other (omega (arith, size)))
        ∙ take_at (drop 16 now) other (length piece) (length-drop 16 now ∙ omega (arith, size))

    never : ⊥
    never = elim (cases_lt i 4) [
      | inl low ↦
          let again : word_of (drop 4 now) ≡ length piece = ap word_of (drop-set-lt 4 bytes i byte low) ∙ s.again in
          let same : word_of now ≡ word_of bytes = sym first ∙ f.word ∙ sym f.again ∙ second ∙ again ∙ sym s.word in
          differs (changed_word bytes i byte (omega (arith, s.size)) low same)
      | inr high ↦
          let word : word_of now ≡ length piece = kept_word bytes i byte (omega (arith, s.size)) high ∙ s.word in
          let n : length found ≡ length piece = sym f.word ∙ first ∙ word in
          elim (cases_lt i 8) [
            | inl low ↦
                let j = i - 4 in
                let i_is : i ≡ 4 + j = omega arith in
                let moved : drop 4 now ≡ set (drop 4 bytes) j byte = ap (λ (k : ℕ). drop 4 (set bytes k byte)) i_is ∙ drop-set-add 4 bytes j byte in
                let same : word_of (set (drop 4 bytes) j byte) ≡ word_of (drop 4 bytes) = ap word_of (sym moved) ∙ sym second ∙ f.again ∙ n ∙ sym s.again in
                differs (changed_word (drop 4 bytes) j byte (omega (arith, s.size, length-drop 4 bytes)) (omega arith) same ∙ get_or-drop 4 bytes j 0 ∙ ap (λ (k : ℕ). get_or bytes k 0) (sym i_is))
            | inr higher ↦ elim (cases_lt i 16) [
              | inl low ↦
                  let j = i - 8 in
                  let i_is : i ≡ 8 + j = omega arith in
                  let moved : drop 8 now ≡ set (drop 8 bytes) j byte = ap (λ (k : ℕ). drop 8 (set bytes k byte)) i_is ∙ drop-set-add 8 bytes j byte in
                  let same_piece : found ≡ piece = found_same word ∙ drop-set-lt 16 bytes i byte low ∙ s.is in
                  let same : sum_in (set (drop 8 bytes) j byte) ≡ sum_in (drop 8 bytes) = ap sum_in (sym moved) ∙ sym third ∙ f.sum ∙ ap sum_of same_piece ∙ sym s.sum in
                  differs (changed_number (drop 8 bytes) j byte (omega (arith, s.size, length-drop 8 bytes)) (omega arith) same ∙ get_or-drop 8 bytes j 0 ∙ ap (λ (k : ℕ). get_or bytes k 0) (sym i_is))
              | inr highest ↦
                  let j = i - 16 in
                  let i_is : i ≡ 16 + j = omega arith in
                  let k = i - 8 in
                  let k_is : i ≡ 8 + k = omega arith in
                  let moved : drop 16 now ≡ set piece j byte = ap (λ (m : ℕ). drop 16 (set bytes m byte)) i_is ∙ drop-set-add 16 bytes j byte ∙ ap (λ (l : List ℕ). set l j byte) s.is in
                  let moved_8 : drop 8 now ≡ set (drop 8 bytes) k byte = ap (λ (m : ℕ). drop 8 (set bytes m byte)) k_is ∙ drop-set-add 8 bytes k byte in
                  let stays : sum_in (drop 8 now) ≡ sum_of piece = ap sum_in moved_8 ∙ kept_number (drop 8 bytes) k byte (omega (arith, s.size, length-drop 8 bytes)) (omega arith) ∙ s.sum in
                  let own : get_or bytes i 0 ≡ get_or piece j 0 = ap (λ (m : ℕ). get_or bytes m 0) i_is ∙ sym (get_or-drop 16 bytes j 0) ∙ ap (λ (l : List ℕ). get_or l j 0) s.is in
                  let same : sum_of (set piece j byte) ≡ sum_of piece = ap sum_of (sym (found_same word ∙ moved)) ∙ sym f.sum ∙ third ∙ stays in
                  differs (changed_sum piece j byte (omega (arith, s.size)) (omega (arith, own)) new same ∙ sym own)
            ]
          ]
    ]

none_of : (o : Option (List ℕ)) → ((piece : List ℕ) → o ≡ Some piece → ⊥) → o ≡ None
none_of None never_some = refl
none_of (Some piece) never_some = absurd (never_some piece refl)

-- a sealed piece with one byte changed is none
pub changed_piece : (bytes piece other : List ℕ) → IsSealed bytes piece → (i byte : ℕ) → i < length bytes → get_or bytes i 0 < 256 → byte < 256 → byte ≢ get_or bytes i 0
    → piece_in (set bytes i byte ++ other) ≡ None
changed_piece bytes piece other s i byte within old new differs =
    none_of (piece_in (set bytes i byte ++ other)) (λ found is. never bytes piece other s i byte within old new differs found (found_is (set bytes i byte ++ other) found is))

-- ---- extents

-- an open gate with one byte changed is open
open_0 : (byte : ℕ) → word_of (byte ∷ 80 ∷ 69 ∷ 78 ∷ []) ≢ word_of shut_gate
unfolding word_of
open_0 byte e = absurd (omega arith)

open_1 : (byte : ℕ) → byte < 256 → word_of (79 ∷ byte ∷ 69 ∷ 78 ∷ []) ≢ word_of shut_gate
unfolding word_of
open_1 byte new e = absurd (omega arith)

open_2 : (byte : ℕ) → byte < 256 → word_of (79 ∷ 80 ∷ byte ∷ 78 ∷ []) ≢ word_of shut_gate
unfolding word_of
open_2 byte new e = absurd (omega arith)

open_3 : (byte : ℕ) → byte < 256 → word_of (79 ∷ 80 ∷ 69 ∷ byte ∷ []) ≢ word_of shut_gate
unfolding word_of
open_3 byte new e = absurd (omega arith)

open_4 : word_of open_gate ≢ word_of shut_gate
unfolding word_of
open_4 e = absurd (omega arith)

err_behind : (front : List ℕ) (later : Result (List ℕ) ℕ) → IsErr later → IsErr (behind front later)
err_behind front (Ok content) is = absurd cc
err_behind front (Err place) is = is

err_none : (o : Option (List ℕ)) (place : ℕ) (later : Result (List ℕ) ℕ) → o ≡ None → IsErr (with_piece o place later)
err_none None place later is = refl
err_none (Some piece) place later is = absurd cc

-- the same bytes from a place on, or they are refused
abbrev Same : ℕ → List ℕ → List ℕ → Type 0
Same place bytes before = (content_from place 0 bytes ≡ content_from place 0 before) ⊎ IsErr (content_from place 0 bytes)

module _ (piece : List ℕ) (small : length piece < 2 ^ 32) (later : List ℕ) where
  -- the gate
  gate_same : (place a b c d : ℕ) → word_of (a ∷ b ∷ c ∷ d ∷ []) ≢ word_of shut_gate
      → Same place (a ∷ b ∷ c ∷ d ∷ (sealed piece ++ later)) (79 ∷ 80 ∷ 69 ∷ 78 ∷ (sealed piece ++ later))
  gate_same place a b c d is_open =
      inl (gated place (place + (20 + length piece)) a b c d (sealed piece) piece later is_open (sealed_is piece small) refl
      ∙ sym (gated place (place + (20 + length piece)) 79 80 69 78 (sealed piece) piece later open_4 (sealed_is piece small) refl))

  -- the piece
  piece_refused : (place i byte : ℕ) (before : List ℕ) → i < length (sealed piece) → get_or (sealed piece) i 0 < 256 → byte < 256 → byte ≢ get_or (sealed piece) i 0
      → Same place (79 ∷ 80 ∷ 69 ∷ 78 ∷ (set (sealed piece) i byte ++ later)) before
  piece_refused place i byte before within old new differs =
      let rest = set (sealed piece) i byte ++ later in
      let bytes : List ℕ = 79 ∷ 80 ∷ 69 ∷ 78 ∷ rest in
      let behind_it = content_from (place + 1) (19 + word_of rest) (80 ∷ 69 ∷ 78 ∷ rest) in
      let opened : word_of bytes ≢ word_of shut_gate = λ e. open_4 (sym (word_front open_gate rest (omega arith)) ∙ e) in
      inr (subst (λ (r : Result (List ℕ) ℕ). IsErr r) (sym (at_open bytes place behind_it opened))
      (err_none (piece_in rest) place behind_it (changed_piece (sealed piece) piece later (sealed_is piece small) i byte within old new differs)))

  -- what stands behind
  behind_same : (place : ℕ) (bytes : List ℕ) → Same (place + (20 + length piece)) bytes later → Same place (79 ∷ 80 ∷ 69 ∷ 78 ∷ (sealed piece ++ bytes)) (79 ∷ 80 ∷ 69 ∷ 78 ∷ (sealed piece ++ later))
  behind_same place bytes (inl same) =
      inl (gated place (place + (20 + length piece)) 79 80 69 78 (sealed piece) piece bytes open_4 (sealed_is piece small) refl
      ∙ ap (behind (1 ∷ piece)) same
      ∙ sym (gated place (place + (20 + length piece)) 79 80 69 78 (sealed piece) piece later open_4 (sealed_is piece small) refl))
  behind_same place bytes (inr refused) =
      inr (subst (λ (r : Result (List ℕ) ℕ). IsErr r) (sym (gated place (place + (20 + length piece)) 79 80 69 78 (sealed piece) piece bytes open_4 (sealed_is piece small) refl))
      (err_behind (1 ∷ piece) (content_from (place + (20 + length piece)) 0 bytes) refused))

finds_at : (pieces : List (List ℕ)) (rest : List ℕ) (place i byte : ℕ) → AreSmall pieces → i < length (extents_of pieces) → get_or (extents_of pieces) i 0 < 256 → byte < 256
    → byte ≢ get_or (extents_of pieces) i 0 → Same place (set (extents_of pieces) i byte ++ rest) (extents_of pieces ++ rest)
finds_at [] rest place i byte small within old new differs = absurd (omega arith)
finds_at (piece ∷ pieces) rest place zero byte small within old new differs =
    subst (λ (l : List ℕ). Same place (byte ∷ 80 ∷ 69 ∷ 78 ∷ l) (79 ∷ 80 ∷ 69 ∷ 78 ∷ l)) (sym (append_assoc (sealed piece) (extents_of pieces) rest))
    (gate_same piece small.0 (extents_of pieces ++ rest) place byte 80 69 78 (open_0 byte))
finds_at (piece ∷ pieces) rest place (suc zero) byte small within old new differs =
    subst (λ (l : List ℕ). Same place (79 ∷ byte ∷ 69 ∷ 78 ∷ l) (79 ∷ 80 ∷ 69 ∷ 78 ∷ l)) (sym (append_assoc (sealed piece) (extents_of pieces) rest))
    (gate_same piece small.0 (extents_of pieces ++ rest) place 79 byte 69 78 (open_1 byte new))
finds_at (piece ∷ pieces) rest place (suc (suc zero)) byte small within old new differs =
    subst (λ (l : List ℕ). Same place (79 ∷ 80 ∷ byte ∷ 78 ∷ l) (79 ∷ 80 ∷ 69 ∷ 78 ∷ l)) (sym (append_assoc (sealed piece) (extents_of pieces) rest))
    (gate_same piece small.0 (extents_of pieces ++ rest) place 79 80 byte 78 (open_2 byte new))
finds_at (piece ∷ pieces) rest place (suc (suc (suc zero))) byte small within old new differs =
    subst (λ (l : List ℕ). Same place (79 ∷ 80 ∷ 69 ∷ byte ∷ l) (79 ∷ 80 ∷ 69 ∷ 78 ∷ l)) (sym (append_assoc (sealed piece) (extents_of pieces) rest))
    (gate_same piece small.0 (extents_of pieces ++ rest) place 79 80 69 byte (open_3 byte new))
finds_at (piece ∷ pieces) rest place (suc (suc (suc (suc i)))) byte small within old new differs =
    let own = sealed piece in
    let later = extents_of pieces in
    let before : List ℕ = 79 ∷ 80 ∷ 69 ∷ 78 ∷ ((own ++ later) ++ rest) in
    elim (cases_lt i (length own)) [
      | inl here ↦
          let at : get_or (own ++ later) i 0 ≡ get_or own i 0 = get_or_append_left own later 0 i here in
          let is : (set (own ++ later) i byte) ++ rest ≡ set own i byte ++ (later ++ rest) =
          ap (λ (l : List ℕ). l ++ rest) (set-append_left own later i byte here) ∙ append_assoc (set own i byte) later rest in
          subst (λ (l : List ℕ). Same place (79 ∷ 80 ∷ 69 ∷ 78 ∷ l) before) (sym is)
          (piece_refused piece small.0 (later ++ rest) place i byte before here (omega (arith, at)) new (λ e. differs (e ∙ sym at)))
      | inr there ↦
          let j = i - length own in
          let at : get_or (own ++ later) i 0 ≡ get_or later j 0 = get_or-append_right own later (length own) i 0 refl there in
          let is : (set (own ++ later) i byte) ++ rest ≡ own ++ (set later j byte ++ rest) =
          ap (λ (l : List ℕ). l ++ rest) (set-append_right own later (length own) i byte refl there) ∙ append_assoc own (set later j byte) rest in
          let within_later : j < length later = omega (arith, length-append own later) in
          subst (λ (l : List ℕ). Same place (79 ∷ 80 ∷ 69 ∷ 78 ∷ l) before) (sym is)
          (subst (λ (l : List ℕ). Same place (79 ∷ 80 ∷ 69 ∷ 78 ∷ (own ++ (set later j byte ++ rest))) (79 ∷ 80 ∷ 69 ∷ 78 ∷ l)) (sym (append_assoc own later rest))
          (behind_same piece small.0 (later ++ rest) place (set later j byte ++ rest)
          (finds_at pieces rest (place + (20 + length piece)) j byte small.1 within_later (omega (arith, at)) new (λ e. differs (e ∙ sym at)))))
    ]

pub finds : FindsChanges
finds pieces tail place byte small within old new differs = finds_at pieces (shut_gate ++ tail) 0 place byte small within old new differs

pub refuses : RefusesChanges
refuses piece other place byte small within old new differs = changed_piece (sealed piece) piece other (sealed_is piece small) place byte within old new differs
