-- What a crash leaves at each step of a store.
use Rattle.std.proofs.Common.{◌≡◌, ℕ, ◌+◌, List, [], ◌∷◌, ◌++◌, length, take, drop, refl, ◌∙◌, ap, subst, arith, length-append}
use Rattle.std.proofs.lemmas.List.{append-nil, drop_all, drop_at, take_all, take-append-le}
use Rattle.pw_volume.specs.Crash.{written, Torn}
use Rattle.pw_trail.specs.Stored.{IsBehind, IsGated}

-- a write at the end leaves what stood there
pub torn_behind : (at n : ℕ) (bytes image : List ℕ) → length bytes ≡ at → Torn at n bytes image → IsBehind bytes image
torn_behind at n bytes image size torn =
    let after = torn.middle ++ (drop (at + n) bytes ++ torn.tail) in
    record { tail = after; is = torn.is ∙ ap (λ (l : List ℕ). l ++ after) (take_all at bytes (omega arith)) }

appended : (at : ℕ) (piece bytes : List ℕ) → length bytes ≡ at → written at piece bytes ≡ bytes ++ piece
appended at piece bytes size =
    ap (λ (l : List ℕ). l ++ (piece ++ drop (at + length piece) bytes)) (take_all at bytes (omega arith))
    ∙ ap (λ (l : List ℕ). bytes ++ (piece ++ l)) (drop_all (at + length piece) bytes (omega arith))
    ∙ ap (λ (l : List ℕ). bytes ++ l) (append-nil piece)

one : (middle : List ℕ) → length middle ≡ 1 → (gate : ℕ) × (middle ≡ gate ∷ [])
one [] size = absurd (omega arith)
one (gate ∷ []) size = (gate, refl)
one (gate ∷ b ∷ middle) size = absurd (omega arith)

module _ (gate : ℕ) (bytes staged : List ℕ) (size : length bytes ≡ gate + 1) where
  front : take gate (bytes ++ staged) ≡ take gate bytes
  front = take-append-le gate bytes staged (omega arith)

  back : drop (gate + 1) (bytes ++ staged) ≡ staged
  back = drop_at bytes staged (gate + 1) size

  -- a write of the gate leaves what stands on both sides
  opening : (image : List ℕ) → Torn gate 1 (bytes ++ staged) image → IsGated gate bytes staged image
  opening image torn =
      let single = one torn.middle (torn.size ∙ omega (arith, length-append bytes staged)) in
      record {
        gate = single.0;
        tail = torn.tail;
        is =
            torn.is
            ∙ ap (λ (l : List ℕ). l ++ (torn.middle ++ (drop (gate + 1) (bytes ++ staged) ++ torn.tail))) front
            ∙ ap (λ (l : List ℕ). take gate bytes ++ (torn.middle ++ (l ++ torn.tail))) back
            ∙ ap (λ (l : List ℕ). take gate bytes ++ (l ++ (staged ++ torn.tail))) single.1;
      }

  pub torn_gate : (before image : List ℕ) → before ≡ written (gate + 1) staged bytes → Torn gate 1 before image → IsGated gate bytes staged image
  torn_gate before image is torn = opening image (subst (λ l. Torn gate 1 l image) (is ∙ appended (gate + 1) staged bytes size) torn)

  opened : written gate (1 ∷ []) (bytes ++ staged) ≡ take gate bytes ++ (1 ∷ staged)
  opened =
      ap (λ (l : List ℕ). l ++ (1 ∷ drop (gate + 1) (bytes ++ staged))) front ∙ ap (λ (l : List ℕ). take gate bytes ++ (1 ∷ l)) back

  -- the gate is opened in what was written
  pub opens : (before after : List ℕ) → before ≡ written (gate + 1) staged bytes → after ≡ written gate (1 ∷ []) before → after ≡ take gate bytes ++ (1 ∷ staged)
  opens before after is then = then ∙ ap (written gate (1 ∷ [])) (is ∙ appended (gate + 1) staged bytes size) ∙ opened
