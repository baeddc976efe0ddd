-- What a summed disk has below, by its parts.
use Rattle.std.proofs.Common.{◌≡◌, ℕ, ◌+◌, ◌<◌, ◌≤◌, List, [], ◌∷◌, ◌++◌, length, get_or, take, drop, None, refl, sym, ◌∙◌, ap, subst, arith, length-append, length-take}
use Rattle.std.specs.Prelude.{Result, Ok}
use Rattle.std.proofs.lemmas.Bool.Decides.{nat_tests}
use Rattle.std.proofs.lemmas.List.{append-nil, append_assoc, drop-drop, drop_all, drop_at, get_or-drop, take-append-drop, take_all, take_at}
use Rattle.pw_volume.specs.Crash.{written, Torn}
use Rattle.pw_summed_disk.specs.Extents.{content_of, piece_in, shut_gate, staged, word_of}
use Rattle.pw_summed_disk.specs.Summed.{AreExtents, IsSummedFile, content, read_of}
use Rattle.pw_summed_disk.proofs.Reading.{HasGate, closed, gate_word, has_gate}

-- nothing is no sealed piece
pub piece_none : piece_in [] ≡ None
piece_none = grind (arith, nat_tests)

-- bytes that are read
pub is_whole : (below own : List ℕ) → content_of below ≡ Ok own → content_of below ≡ Ok (content below)
is_whole below own is = is ∙ sym (ap (λ (r : Result (List ℕ) ℕ). Ok (read_of r)) is)

pub is_content : (below own : List ℕ) → content_of below ≡ Ok own → content below ≡ own
is_content below own is = ap read_of is

-- the parts of what is below
module _ (gate end : ℕ) (bytes below : List ℕ) (f : IsSummedFile gate end bytes below) where
  -- whatever stands behind the shut gate
  pub shut_reads : (tail : List ℕ) → content_of (take gate below ++ (shut_gate ++ tail)) ≡ Ok (take end bytes ++ (0 ∷ staged (piece_in tail)))
  shut_reads tail = closed (take gate below) (take end bytes) tail 83 72 85 84 f.extents refl

  pub file_reads : content_of below ≡ Ok bytes
  file_reads = ap content_of f.below_is ∙ shut_reads (drop (gate + 4) below) ∙ ap Ok (sym f.bytes_are)

  pub file_content : content below ≡ bytes
  file_content = is_content below bytes file_reads

  pub gate_within : gate + 4 ≤ length below
  gate_within = omega (arith, ap length f.below_is, length-append (take gate below) (shut_gate ++ drop (gate + 4) below), f.gate_is)

  pub end_within : end < length bytes
  end_within = omega (arith, ap length f.bytes_are, length-append (take end bytes) (0 ∷ staged (piece_in (drop (gate + 4) below))), f.end_is)

-- what is below from its parts
module _ (gate end : ℕ) (front own rest bytes below : List ℕ) (are : AreExtents front own) (gate_is : length front ≡ gate) (end_is : length own ≡ end)
    (below_is : below ≡ front ++ (shut_gate ++ rest)) (bytes_are : bytes ≡ own ++ (0 ∷ staged (piece_in rest))) where
  front_is : take gate below ≡ front
  front_is = ap (take gate) below_is ∙ take_at front (shut_gate ++ rest) gate gate_is

  own_is : take end bytes ≡ own
  own_is = ap (take end) bytes_are ∙ take_at own (0 ∷ staged (piece_in rest)) end end_is

  pub rest_is : drop (gate + 4) below ≡ rest
  rest_is =
      ap (drop (gate + 4)) (below_is ∙ sym (append_assoc front shut_gate rest))
      ∙ drop_at (front ++ shut_gate) rest (gate + 4) (length-append front shut_gate ∙ omega (arith, gate_is))

  pub file_of : IsSummedFile gate end bytes below
  file_of = record {
    extents = subst (λ (l : List ℕ). AreExtents l (take end bytes)) (sym front_is) (subst (λ (l : List ℕ). AreExtents front l) (sym own_is) are);
    below_is = below_is ∙ ap (λ (l : List ℕ). l ++ (shut_gate ++ rest)) (sym front_is) ∙ ap (λ (l : List ℕ). take gate below ++ (shut_gate ++ l)) (sym rest_is);
    bytes_are = bytes_are ∙ ap (λ (l : List ℕ). l ++ (0 ∷ staged (piece_in rest))) (sym own_is) ∙ ap (λ (l : List ℕ). take end bytes ++ (0 ∷ staged (piece_in l))) (sym rest_is);
    gate_is = ap length front_is ∙ gate_is;
    end_is = ap length own_is ∙ end_is;
  }

-- ---- steps of bytes

-- a write at the end leaves what stood there
pub past_end : (at n : ℕ) (bytes image : List ℕ) → length bytes ≡ at → Torn at n bytes image → (tail : List ℕ) × (image ≡ bytes ++ tail)
past_end at n bytes image size torn =
    let after = torn.middle ++ (drop (at + n) bytes ++ torn.tail) in
    (after, torn.is ∙ ap (λ (l : List ℕ). l ++ after) (take_all at bytes (omega arith)))

-- and may leave anything behind it
pub torn_past : (at n : ℕ) (bytes tail image : List ℕ) → at ≡ length bytes → image ≡ bytes ++ tail → Torn at n bytes image
torn_past at n bytes tail image size is = record {
  middle = [];
  tail = tail;
  size = omega arith;
  is =
      is
      ∙ ap (λ (l : List ℕ). l ++ tail) (sym (take_all at bytes (omega arith)))
      ∙ ap (λ (l : List ℕ). take at bytes ++ (l ++ tail)) (sym (drop_all (at + n) bytes (omega arith)));
}

pub appended : (at : ℕ) (piece bytes : List ℕ) → length bytes ≡ at → written at piece bytes ≡ bytes ++ piece
appended at piece bytes size =
    ap (λ (l : List ℕ). l ++ (piece ++ drop (at + length piece) bytes)) (take_all at bytes (omega arith))
    ∙ ap (λ (l : List ℕ). bytes ++ (piece ++ l)) (drop_all (at + length piece) bytes (omega arith))
    ∙ ap (λ (l : List ℕ). bytes ++ l) (append-nil piece)

-- a write of one byte
module _ (at x : ℕ) (front rest bytes : List ℕ) (size : length front ≡ at) (is : bytes ≡ front ++ (x ∷ rest)) where
  at_front : take at bytes ≡ front
  at_front = ap (take at) is ∙ take_at front (x ∷ rest) at size

  at_rest : drop (at + 1) bytes ≡ rest
  at_rest = ap (drop (at + 1)) (is ∙ sym (append_assoc front (x ∷ []) rest)) ∙ drop_at (front ++ x ∷ []) rest (at + 1) (length-append front (x ∷ []) ∙ omega (arith, size))

  pub torn_one : (y : ℕ) (tail image : List ℕ) → image ≡ front ++ (y ∷ (rest ++ tail)) → Torn at 1 bytes image
  torn_one y tail image left = record {
    middle = y ∷ [];
    tail = tail;
    size = omega (arith, ap length is, length-append front (x ∷ rest), size);
    is =
        left
        ∙ ap (λ (l : List ℕ). l ++ (y ∷ (rest ++ tail))) (sym at_front)
        ∙ ap (λ (l : List ℕ). take at bytes ++ (y ∷ (l ++ tail))) (sym at_rest);
  }

  pub written_one : (y : ℕ) → written at (y ∷ []) bytes ≡ front ++ (y ∷ rest)
  written_one y =
      ap (λ (l : List ℕ). l ++ (y ∷ drop (at + 1) bytes)) at_front ∙ ap (λ (l : List ℕ). front ++ (y ∷ l)) at_rest

  pub rest_behind : drop (at + 1) bytes ≡ rest
  rest_behind = at_rest

-- ---- what was read

byte_values : (a b c d : ℕ) → a < 256 → b < 256 → c < 256 → d < 256 → word_of (a ∷ b ∷ c ∷ d ∷ []) ≡ word_of shut_gate → (a ≡ 83) × (b ≡ 72) × (c ≡ 85) × (d ≡ 84)
unfolding word_of
byte_values a b c d one two three four is = (omega arith, omega arith, omega arith, omega arith)

module _ (below front : List ℕ) (at : ℕ) (within : at ≤ length below) (are : AreExtents (take at below) front) (long : 4 ≤ length (drop at below))
    (shut : word_of (drop at below) ≡ word_of shut_gate) (small : (k : ℕ) → get_or below k 0 < 256) where
  abbrev gate : HasGate (drop at below)
  gate = has_gate (drop at below) long

  in_range : (k : ℕ) → get_or (drop at below) k 0 < 256
  in_range k = omega (arith, get_or-drop at below k 0, small (at + k))

  rest_moved : drop 4 (drop at below) ≡ drop (at + 4) below
  rest_moved = drop-drop 4 at below

  gate_there : drop at below ≡ shut_gate ++ drop (at + 4) below
  gate_there =
      let is = gate.is in
      let v = byte_values gate.a gate.b gate.c gate.d
      (omega (arith, in_range 0, ap (λ (l : List ℕ). get_or l 0 0) is))
      (omega (arith, in_range 1, ap (λ (l : List ℕ). get_or l 1 0) is))
      (omega (arith, in_range 2, ap (λ (l : List ℕ). get_or l 2 0) is))
      (omega (arith, in_range 3, ap (λ (l : List ℕ). get_or l 3 0) is))
      (sym (gate_word (drop at below) gate) ∙ shut) in
      let first : gate.a ≡ 83 = v.0 in
      let second : gate.b ≡ 72 = v.1 in
      let third : gate.c ≡ 85 = v.2 in
      let fourth : gate.d ≡ 84 = v.3 in
      is
      ∙ ap (λ (x : ℕ). x ∷ gate.b ∷ gate.c ∷ gate.d ∷ drop 4 (drop at below)) first
      ∙ ap (λ (x : ℕ). 83 ∷ x ∷ gate.c ∷ gate.d ∷ drop 4 (drop at below)) second
      ∙ ap (λ (x : ℕ). 83 ∷ 72 ∷ x ∷ gate.d ∷ drop 4 (drop at below)) third
      ∙ ap (λ (x : ℕ). 83 ∷ 72 ∷ 85 ∷ x ∷ drop 4 (drop at below)) fourth
      ∙ ap (λ (l : List ℕ). shut_gate ++ l) rest_moved

  pub read_file : (end : ℕ) (bytes : List ℕ) → end ≡ length front → bytes ≡ front ++ (0 ∷ staged (piece_in (drop 4 (drop at below)))) → IsSummedFile at end bytes below
  read_file end bytes end_is bytes_are =
      file_of at end (take at below) front (drop (at + 4) below) bytes below are (length-take at below ∙ omega arith) (sym end_is)
      (sym (take-append-drop at below) ∙ ap (λ (l : List ℕ). take at below ++ l) gate_there)
      (bytes_are ∙ ap (λ (l : List ℕ). front ++ (0 ∷ staged (piece_in l))) rest_moved)
