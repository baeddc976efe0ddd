-- A body behind its length.
use Rattle.std.proofs.Common.{◌≡◌, ◌≢◌, ℕ, ◌+◌, ◌^◌, ◌<◌, ◌≤◌, Bool, true, false, cond, ltb, List, [], ◌∷◌, ◌++◌, length, get_or, take, drop, Some, None, option_map, refl, sym, ◌∙◌, ap, arith, length-append, length-take, length-drop}
use Rattle.std.specs.Int.{w32, to_be_bytes}
use Rattle.std.proofs.lemmas.Bool.{le-ltb, lt-ltb, ltb-false}
use Rattle.std.proofs.lemmas.Bool.Decides.{nat_tests}
use Rattle.std.proofs.lemmas.Nat.{from_be_bytes-to_be_bytes_4}
use Rattle.std.proofs.lemmas.List.{drop-drop, drop_more, drop_at, take_at, take-append-drop, drop-append-le, drop-take}
use Rattle.pw_trail.specs.Format.{body_in, framed, size_of}
use Rattle.pw_trail.specs.Stored.{piece_in}

-- the first four bytes alone tell the length
pub size_front : (front rest : List ℕ) → 4 ≤ length front → size_of (front ++ rest) ≡ size_of front
unfolding size_of
size_front (a ∷ b ∷ c ∷ d ∷ front) rest long = refl
size_front [] rest long = absurd (omega arith)
size_front (a ∷ []) rest long = absurd (omega arith)
size_front (a ∷ b ∷ []) rest long = absurd (omega arith)
size_front (a ∷ b ∷ c ∷ []) rest long = absurd (omega arith)

pub size_taken : (n : ℕ) (bytes : List ℕ) → 4 ≤ n → 4 ≤ length bytes → size_of (take n bytes) ≡ size_of bytes
size_taken n bytes long there =
    sym (size_front (take n bytes) (drop n bytes) (omega (arith, length-take n bytes))) ∙ ap size_of (take-append-drop n bytes)

-- a record that is cut short
pub cut_short : (bytes : List ℕ) → length bytes < 4 + size_of bytes → body_in bytes ≡ None
cut_short bytes short = ap (λ b. cond b None (Some (take (size_of bytes) (drop 4 bytes)))) (lt-ltb (length bytes) (4 + size_of bytes) short)

-- a whole one
pub whole : (bytes : List ℕ) → 4 + size_of bytes ≤ length bytes → body_in bytes ≡ Some (take (size_of bytes) (drop 4 bytes))
whole bytes long = ap (λ b. cond b None (Some (take (size_of bytes) (drop 4 bytes)))) (le-ltb (length bytes) (4 + size_of bytes) long)

-- what was read of a record, as it stands behind its gate
module _ (bytes : List ℕ) (at size : ℕ) (head : List ℕ) (is_head : head ≡ take 4 (drop at bytes)) (is_size : size ≡ size_of head) (long : 4 ≤ length (drop at bytes)) where
  told : size ≡ size_of (drop at bytes)
  told = is_size ∙ ap size_of is_head ∙ size_taken 4 (drop at bytes) (omega arith) long

  pub read_short : length (drop at bytes) < 4 + size → None ≡ option_map Some (body_in (drop at bytes))
  read_short short = sym (ap (option_map Some) (cut_short (drop at bytes) (omega (arith, told))))

  pub read_whole : (body : List ℕ) → body ≡ take size (drop (at + 4) bytes) → 4 + size ≤ length (drop at bytes) → Some (Some body) ≡ option_map Some (body_in (drop at bytes))
  read_whole body is fits =
      let here : body ≡ take (size_of (drop at bytes)) (drop 4 (drop at bytes)) = is ∙ ap (λ (n : ℕ). take n (drop (at + 4) bytes)) told ∙ ap (take (size_of (drop at bytes))) (sym (drop-drop 4 at bytes)) in
      ap (λ (b : List ℕ). Some (Some b)) here ∙ sym (ap (option_map Some) (whole (drop at bytes) (omega (arith, told))))

-- the byte that was read at a place
gate_at : (bytes : List ℕ) (at : ℕ) (head : List ℕ) → at < length bytes → head ≡ take 1 (drop at bytes) → get_or head 0 0 ≡ get_or bytes at 0
gate_at bytes at head within is = ap (λ (l : List ℕ). get_or l 0 0) (is ∙ ap (take 1) (drop_more bytes at 0 within))

pub piece_open : (gate : ℕ) (rest : List ℕ) → gate ≢ 0 → piece_in (gate ∷ rest) ≡ option_map Some (body_in rest)
piece_open gate rest is_open = grind (arith, nat_tests)

pub piece_shut : (gate : ℕ) (rest : List ℕ) → gate ≡ 0 → piece_in (gate ∷ rest) ≡ Some None
piece_shut gate rest is = grind (arith, nat_tests)

-- what stands at a gate that is open, and at one that is closed
module _ (bytes : List ℕ) (at : ℕ) (head : List ℕ) (within : at < length bytes) (is_head : head ≡ take 1 (drop at bytes)) where
  pub open_piece : get_or head 0 0 ≢ 0 → piece_in (drop at bytes) ≡ option_map Some (body_in (drop (at + 1) bytes))
  open_piece is_open =
      ap piece_in (drop_more bytes at 0 within)
      ∙ piece_open (get_or bytes at 0) (drop (at + 1) bytes) (λ e. is_open (gate_at bytes at head within is_head ∙ e))

  pub shut_piece : get_or head 0 0 ≡ 0 → Some None ≡ piece_in (drop at bytes)
  shut_piece is =
      sym (ap piece_in (drop_more bytes at 0 within)
      ∙ piece_shut (get_or bytes at 0) (drop (at + 1) bytes) (sym (gate_at bytes at head within is_head) ∙ is))

-- a length, and a body of that length
pub record IsFrame (frame body : List ℕ) : Type 0 where
  pub size : length frame ≡ 4 + size_of frame
  pub is : drop 4 frame ≡ body

-- its body, whatever stands behind it
pub frame_body : (frame body other : List ℕ) → IsFrame frame body → body_in (frame ++ other) ≡ Some body
frame_body frame body other f =
    let told : size_of (frame ++ other) ≡ size_of frame = size_front frame other (omega (arith, f.size)) in
    let body_size : length (drop 4 frame) ≡ size_of frame = length-drop 4 frame ∙ omega (arith, f.size) in
    whole (frame ++ other) (omega (arith, told, length-append frame other, f.size))
    ∙ ap (λ (n : ℕ). Some (take n (drop 4 (frame ++ other)))) told
    ∙ ap (λ (l : List ℕ). Some (take (size_of frame) l)) (drop-append-le 4 frame other (omega (arith, f.size)))
    ∙ ap Some (take_at (drop 4 frame) other (size_of frame) body_size ∙ f.is)

-- and its length
pub frame_size : (frame body other : List ℕ) → IsFrame frame body → 4 + size_of (frame ++ other) ≡ length frame
frame_size frame body other f = let told : size_of (frame ++ other) ≡ size_of frame = size_front frame other (omega (arith, f.size)) in omega (arith, told, f.size)

size_framed : (body rest : List ℕ) → length body < 2 ^ 32 → size_of (to_be_bytes w32 (length body) ++ rest) ≡ length body
unfolding size_of
size_framed body rest fits = from_be_bytes-to_be_bytes_4 (length body) fits

-- a body that is framed
pub framed_is : (body : List ℕ) → length body < 2 ^ 32 → IsFrame (framed body) body
framed_is body fits = record {
  size = length-append (to_be_bytes w32 (length body)) body ∙ omega (arith, size_framed body body fits);
  is = drop_at (to_be_bytes w32 (length body)) body 4 refl;
}

pub length-framed : (body : List ℕ) → length (framed body) ≡ 4 + length body
length-framed body = length-append (to_be_bytes w32 (length body)) body ∙ omega arith

body_passed : (b : Bool) (whole body : List ℕ) → cond b None (Some whole) ≡ Some body → (b ≡ false) × (whole ≡ body)
body_passed true whole body is = absurd cc
body_passed false whole body is = (refl, cc)

-- a body that was found is framed by the bytes that it takes
pub record IsTaken (bytes body : List ℕ) : Type 0 where
  pub fits : 4 + length body ≤ length bytes
  pub frame : IsFrame (take (4 + length body) bytes) body

pub found_is : (bytes body : List ℕ) → body_in bytes ≡ Some body → IsTaken bytes body
found_is bytes body is =
    let p = body_passed (ltb (length bytes) (4 + size_of bytes)) (take (size_of bytes) (drop 4 bytes)) body is in
    let fits : 4 + size_of bytes ≤ length bytes = ltb-false _ _ p.0 in
    let size : length body ≡ size_of bytes = ap length (sym p.1) ∙ length-take (size_of bytes) (drop 4 bytes) ∙ omega (arith, length-drop 4 bytes) in
    record {
      fits = omega arith;
      frame = record {
        size = length-take (4 + length body) bytes ∙ omega (arith, size_taken (4 + length body) bytes (omega arith) (omega arith));
        is = drop-take 4 (length body) bytes ∙ ap (λ (n : ℕ). take n (drop 4 bytes)) size ∙ p.1;
      };
    }
