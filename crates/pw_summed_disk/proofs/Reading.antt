-- How the content of a summed disk is read.
use Rattle.std.proofs.Common.{◌≡◌, ◌≢◌, ℕ, zero, suc, ◌+◌, ◌^◌, ◌<◌, ◌≤◌, Bool, true, false, cond, List, [], ◌∷◌, ◌++◌, length, take, drop, Option, Some, None, refl, sym, ◌∙◌, ap, subst, arith, length-append, length-take, length-drop}
use Rattle.std.specs.Prelude.{Result, Ok, Err, ◌==◌, ◌&&◌, nat_lt}
use Rattle.std.proofs.lemmas.Bool.Decides.{nat_tests}
use Rattle.std.proofs.lemmas.Nat.{from_be_bytes-to_be_bytes_4, from_be_bytes-to_be_bytes_8}
use Rattle.std.proofs.lemmas.List.{append_assoc, drop-append-le, drop-take, take-append-drop, take_at}
use Rattle.std.proofs.Math.Seq.{take-add}
use Rattle.pw_summed_disk.specs.Extents.{at_gate, content_from, content_of, piece_in, sealed, shut_gate, staged, sum_in, with_piece, word_of}
use Rattle.pw_summed_disk.specs.Summed.{AreExtents, behind}
use Rattle.pw_summed_disk.specs.Sums.{after_byte, sum_from, sum_of}

-- ---- numbers in bytes

-- the first four bytes alone tell the first number
pub word_front : (front rest : List ℕ) → 4 ≤ length front → word_of (front ++ rest) ≡ word_of front
unfolding word_of
word_front (a ∷ b ∷ c ∷ d ∷ front) rest long = refl
word_front [] rest long = absurd (omega arith)
word_front (a ∷ []) rest long = absurd (omega arith)
word_front (a ∷ b ∷ []) rest long = absurd (omega arith)
word_front (a ∷ b ∷ c ∷ []) rest long = absurd (omega arith)

pub word_taken : (n : ℕ) (bytes : List ℕ) → 4 ≤ n → 4 ≤ length bytes → word_of (take n bytes) ≡ word_of bytes
word_taken n bytes long there =
    sym (word_front (take n bytes) (drop n bytes) (omega (arith, length-take n bytes))) ∙ ap word_of (take-append-drop n bytes)

-- and the first eight the sum
pub sum_front : (front rest : List ℕ) → 8 ≤ length front → sum_in (front ++ rest) ≡ sum_in front
unfolding sum_in
sum_front (a ∷ b ∷ c ∷ d ∷ e ∷ f ∷ g ∷ h ∷ front) rest long = refl
sum_front [] rest long = absurd (omega arith)
sum_front (a ∷ []) rest long = absurd (omega arith)
sum_front (a ∷ b ∷ []) rest long = absurd (omega arith)
sum_front (a ∷ b ∷ c ∷ []) rest long = absurd (omega arith)
sum_front (a ∷ b ∷ c ∷ d ∷ []) rest long = absurd (omega arith)
sum_front (a ∷ b ∷ c ∷ d ∷ e ∷ []) rest long = absurd (omega arith)
sum_front (a ∷ b ∷ c ∷ d ∷ e ∷ f ∷ []) rest long = absurd (omega arith)
sum_front (a ∷ b ∷ c ∷ d ∷ e ∷ f ∷ g ∷ []) rest long = absurd (omega arith)

pub sum_taken : (n : ℕ) (bytes : List ℕ) → 8 ≤ n → 8 ≤ length bytes → sum_in (take n bytes) ≡ sum_in bytes
sum_taken n bytes long there =
    sym (sum_front (take n bytes) (drop n bytes) (omega (arith, length-take n bytes))) ∙ ap sum_in (take-append-drop n bytes)

-- a sum is a number of eight bytes
sum_small_from : (sum : ℕ) (bytes : List ℕ) → sum < 2 ^ 64 → sum_from sum bytes < 2 ^ 64
sum_small_from sum [] small = small
sum_small_from sum (byte ∷ rest) small = sum_small_from (after_byte sum byte) rest (omega arith)

pub sum_small : (bytes : List ℕ) → sum_of bytes < 2 ^ 64
unfolding sum_of
sum_small bytes = sum_small_from 14695981039346656037 bytes (omega arith)

-- ---- sealed pieces

-- bytes are a sealed piece, whatever stands behind them
pub record IsSealed (bytes piece : List ℕ) : Type 0 where
  pub size : length bytes ≡ 16 + length piece
  pub word : word_of bytes ≡ length piece
  pub again : word_of (drop 4 bytes) ≡ length piece
  pub sum : sum_in (drop 8 bytes) ≡ sum_of piece
  pub is : drop 16 bytes ≡ piece

whole : (bytes piece : List ℕ) → 16 + word_of bytes ≤ length bytes → word_of (drop 4 bytes) ≡ word_of bytes → take (word_of bytes) (drop 16 bytes) ≡ piece
    → sum_in (drop 8 bytes) ≡ sum_of piece → piece_in bytes ≡ Some piece
whole bytes piece long again is sum =
    let own : sum_in (drop 8 bytes) ≡ sum_of (take (word_of bytes) (drop 16 bytes)) = sum ∙ ap sum_of (sym is) in
    let found : piece_in bytes ≡ Some (take (word_of bytes) (drop 16 bytes)) = grind (arith, nat_tests) in
    found ∙ ap Some is

pub sealed_word : (bytes piece other : List ℕ) → IsSealed bytes piece → word_of (bytes ++ other) ≡ length piece
sealed_word bytes piece other s = word_front bytes other (omega (arith, s.size)) ∙ s.word

pub sealed_piece : (bytes piece other : List ℕ) → IsSealed bytes piece → piece_in (bytes ++ other) ≡ Some piece
sealed_piece bytes piece other s =
    let word : word_of (bytes ++ other) ≡ length piece = sealed_word bytes piece other s in
    let again : word_of (drop 4 (bytes ++ other)) ≡ length piece =
    ap word_of (drop-append-le 4 bytes other (omega (arith, s.size))) ∙ word_front (drop 4 bytes) other (omega (arith, s.size, length-drop 4 bytes)) ∙ s.again in
    let sum : sum_in (drop 8 (bytes ++ other)) ≡ sum_of piece =
    ap sum_in (drop-append-le 8 bytes other (omega (arith, s.size))) ∙ sum_front (drop 8 bytes) other (omega (arith, s.size, length-drop 8 bytes)) ∙ s.sum in
    let behind : drop 16 (bytes ++ other) ≡ piece ++ other = drop-append-le 16 bytes other (omega (arith, s.size)) ∙ ap (λ (l : List ℕ). l ++ other) s.is in
    let is : take (word_of (bytes ++ other)) (drop 16 (bytes ++ other)) ≡ piece =
    ap (λ (n : ℕ). take n (drop 16 (bytes ++ other))) word ∙ ap (take (length piece)) behind ∙ take_at piece other (length piece) refl in
    whole (bytes ++ other) piece (omega (arith, word, length-append bytes other, s.size)) (again ∙ sym word) is sum

-- what is spelled is one
pub sealed_is : (piece : List ℕ) → length piece < 2 ^ 32 → IsSealed (sealed piece) piece
unfolding word_of sum_in
sealed_is piece small = record {
  size = omega arith;
  word = from_be_bytes-to_be_bytes_4 (length piece) small;
  again = from_be_bytes-to_be_bytes_4 (length piece) small;
  sum = from_be_bytes-to_be_bytes_8 (sum_of piece) (sum_small piece);
  is = refl;
}

-- what was found is one
pub record IsFound (bytes piece : List ℕ) : Type 0 where
  pub fits : 16 + length piece ≤ length bytes
  pub word : word_of bytes ≡ length piece
  pub again : word_of (drop 4 bytes) ≡ length piece
  pub sum : sum_in (drop 8 bytes) ≡ sum_of piece
  pub is : take (length piece) (drop 16 bytes) ≡ piece
  pub sealed : IsSealed (take (16 + length piece) bytes) piece

tested : (short both : Bool) (own piece : List ℕ) → cond short None (cond both (Some own) None) ≡ Some piece → (short ≡ false) × (both ≡ true) × (own ≡ piece)
tested true both own piece is = absurd cc
tested false false own piece is = absurd cc
tested false true own piece is = (refl, refl, cc)

both_true : (a b : Bool) → (a && b) ≡ true → (a ≡ true) × (b ≡ true)
both_true true true is = (refl, refl)
both_true true false is = absurd cc
both_true false b is = absurd cc

pub found_is : (bytes piece : List ℕ) → piece_in bytes ≡ Some piece → IsFound bytes piece
found_is bytes piece is =
    let own = take (word_of bytes) (drop 16 bytes) in
    let t = tested (nat_lt (length bytes) (16 + word_of bytes)) (word_of (drop 4 bytes) == word_of bytes && sum_in (drop 8 bytes) == sum_of own) own piece is in
    let b = both_true (word_of (drop 4 bytes) == word_of bytes) (sum_in (drop 8 bytes) == sum_of own) t.1 in
    let long : 16 + word_of bytes ≤ length bytes = let test : nat_lt (length bytes) (16 + word_of bytes) ≡ false = t.0 in grind (arith, nat_tests) in
    let again : word_of (drop 4 bytes) ≡ word_of bytes = let test : (word_of (drop 4 bytes) == word_of bytes) ≡ true = b.0 in grind (arith, nat_tests) in
    let sum : sum_in (drop 8 bytes) ≡ sum_of own = let test : (sum_in (drop 8 bytes) == sum_of own) ≡ true = b.1 in grind (arith, nat_tests) in
    let size : length piece ≡ word_of bytes = ap length (sym t.2) ∙ length-take (word_of bytes) (drop 16 bytes) ∙ omega (arith, length-drop 16 bytes) in
    let n = length piece in
    let own_sum : sum_in (drop 8 bytes) ≡ sum_of piece = sum ∙ ap sum_of t.2 in
    let four : 16 + n ≡ 4 + (12 + n) = omega arith in
    let eight : 16 + n ≡ 8 + (8 + n) = omega arith in
    let behind_head : take n (drop 16 bytes) ≡ piece = ap (λ (m : ℕ). take m (drop 16 bytes)) size ∙ t.2 in
    record {
      fits = omega arith;
      word = sym size;
      again = again ∙ sym size;
      sum = own_sum;
      is = behind_head;
      sealed = record {
        size = length-take (16 + n) bytes ∙ omega arith;
        word = word_taken (16 + n) bytes (omega arith) (omega arith) ∙ sym size;
        again =
            ap (λ (m : ℕ). word_of (drop 4 (take m bytes))) four
            ∙ ap word_of (drop-take 4 (12 + n) bytes)
            ∙ word_taken (12 + n) (drop 4 bytes) (omega arith) (omega (arith, length-drop 4 bytes))
            ∙ again
            ∙ sym size;
        sum =
            ap (λ (m : ℕ). sum_in (drop 8 (take m bytes))) eight
            ∙ ap sum_in (drop-take 8 (8 + n) bytes)
            ∙ sum_taken (8 + n) (drop 8 bytes) (omega arith) (omega (arith, length-drop 8 bytes))
            ∙ own_sum;
        is = drop-take 16 n bytes ∙ behind_head;
      };
    }

-- ---- content

-- bytes before the next gate are passed over
passes : (front other : List ℕ) (place n next : ℕ) → length front ≡ n → place + n ≡ next → content_from place n (front ++ other) ≡ content_from next 0 other
passes [] other place zero next size is = let e : place ≡ next = omega arith in ap (λ (p : ℕ). content_from p 0 other) e
passes [] other place (suc n) next size is = absurd (omega arith)
passes (byte ∷ front) other place zero next size is = absurd (omega arith)
passes (byte ∷ front) other place (suc n) next size is = passes front other (place + 1) n next (omega arith) (omega arith)

-- a shut gate, and an open one
at_shut : (bytes : List ℕ) (place : ℕ) (later : Result (List ℕ) ℕ) → word_of bytes ≡ word_of shut_gate → at_gate bytes place later ≡ Ok (0 ∷ staged (piece_in (drop 4 bytes)))
at_shut bytes place later is = grind (arith, nat_tests)

pub at_open : (bytes : List ℕ) (place : ℕ) (later : Result (List ℕ) ℕ) → word_of bytes ≢ word_of shut_gate → at_gate bytes place later ≡ with_piece (piece_in (drop 4 bytes)) place later
at_open bytes place later is_open = grind (arith, nat_tests)

shut_from : (place a b c d : ℕ) (rest : List ℕ) → word_of (a ∷ b ∷ c ∷ d ∷ []) ≡ word_of shut_gate
    → content_from place 0 (a ∷ b ∷ c ∷ d ∷ rest) ≡ Ok (0 ∷ staged (piece_in rest))
shut_from place a b c d rest is =
    at_shut (a ∷ b ∷ c ∷ d ∷ rest) place (content_from (place + 1) (19 + word_of rest) (b ∷ c ∷ d ∷ rest)) (word_front (a ∷ b ∷ c ∷ d ∷ []) rest (omega arith) ∙ is)

pieced : (piece : List ℕ) (place : ℕ) (later : Result (List ℕ) ℕ) → with_piece (Some piece) place later ≡ behind (1 ∷ piece) later
pieced piece place (Ok later) = refl
pieced piece place (Err at) = refl

behind_twice : (front piece : List ℕ) (later : Result (List ℕ) ℕ) → behind front (behind piece later) ≡ behind (front ++ piece) later
behind_twice front piece (Ok later) = ap Ok (sym (append_assoc front piece later))
behind_twice front piece (Err at) = refl

behind_none : (later : Result (List ℕ) ℕ) → later ≡ behind [] later
behind_none (Ok later) = refl
behind_none (Err at) = refl

pub gated : (place next a b c d : ℕ) (bytes piece other : List ℕ) → word_of (a ∷ b ∷ c ∷ d ∷ []) ≢ word_of shut_gate → IsSealed bytes piece → place + (20 + length piece) ≡ next
    → content_from place 0 (a ∷ b ∷ c ∷ d ∷ (bytes ++ other)) ≡ behind (1 ∷ piece) (content_from next 0 other)
gated place next a b c d bytes piece other is_open s there =
    let later = content_from (place + 1) (19 + word_of (bytes ++ other)) (b ∷ c ∷ d ∷ (bytes ++ other)) in
    let word : word_of (a ∷ b ∷ c ∷ d ∷ (bytes ++ other)) ≡ word_of (a ∷ b ∷ c ∷ d ∷ []) = word_front (a ∷ b ∷ c ∷ d ∷ []) (bytes ++ other) (omega arith) in
    let opened : word_of (a ∷ b ∷ c ∷ d ∷ (bytes ++ other)) ≢ word_of shut_gate = λ e. is_open (sym word ∙ e) in
    let passed : later ≡ content_from next 0 other =
    ap (λ (n : ℕ). content_from (place + 1) (19 + n) (b ∷ c ∷ d ∷ (bytes ++ other))) (sealed_word bytes piece other s)
    ∙ passes (b ∷ c ∷ d ∷ bytes) other (place + 1) (19 + length piece) next (omega (arith, s.size)) (omega arith) in
    at_open (a ∷ b ∷ c ∷ d ∷ (bytes ++ other)) place later opened
    ∙ ap (λ (o : Option (List ℕ)). with_piece o place later) (sealed_piece bytes piece other s)
    ∙ pieced piece place later
    ∙ ap (behind (1 ∷ piece)) passed

-- no extents, and one more
pub extents_none : AreExtents [] []
extents_none other = behind_none (content_from 0 0 other)

pub extents_more : (bytes front : List ℕ) (a b c d : ℕ) (own piece : List ℕ) → AreExtents bytes front → word_of (a ∷ b ∷ c ∷ d ∷ []) ≢ word_of shut_gate → IsSealed own piece
    → AreExtents (bytes ++ (a ∷ b ∷ c ∷ d ∷ own)) (front ++ (1 ∷ piece))
extents_more bytes front a b c d own piece are is_open s other =
    let next = length (bytes ++ (a ∷ b ∷ c ∷ d ∷ own)) in
    ap content_of (append_assoc bytes (a ∷ b ∷ c ∷ d ∷ own) other)
    ∙ are (a ∷ b ∷ c ∷ d ∷ (own ++ other))
    ∙ ap (behind front) (gated (length bytes) next a b c d own piece other is_open s (omega (arith, length-append bytes (a ∷ b ∷ c ∷ d ∷ own), s.size)))
    ∙ behind_twice front (1 ∷ piece) (content_from next 0 other)

-- extents, a shut gate, and anything
pub closed : (bytes front rest : List ℕ) (a b c d : ℕ) → AreExtents bytes front → word_of (a ∷ b ∷ c ∷ d ∷ []) ≡ word_of shut_gate
    → content_of (bytes ++ (a ∷ b ∷ c ∷ d ∷ rest)) ≡ Ok (front ++ (0 ∷ staged (piece_in rest)))
closed bytes front rest a b c d are is = are (a ∷ b ∷ c ∷ d ∷ rest) ∙ ap (behind front) (shut_from (length bytes) a b c d rest is)

-- ---- reading on

-- a gate that is cut short is none
cut_gate : (place : ℕ) (rest : List ℕ) → length rest < 4 → content_from place 0 rest ≡ Err place
unfolding word_of
cut_gate place [] short = refl
cut_gate place (a ∷ []) short = at_open (a ∷ []) place (content_from (place + 1) (19 + word_of []) []) (λ e. absurd (omega arith))
cut_gate place (a ∷ b ∷ []) short = at_open (a ∷ b ∷ []) place (content_from (place + 1) (19 + word_of []) (b ∷ [])) (λ e. absurd (omega arith))
cut_gate place (a ∷ b ∷ c ∷ []) short = at_open (a ∷ b ∷ c ∷ []) place (content_from (place + 1) (19 + word_of []) (b ∷ c ∷ [])) (λ e. absurd (omega arith))
cut_gate place (a ∷ b ∷ c ∷ d ∷ rest) short = absurd (omega arith)

-- four bytes, and what stands behind them
pub record HasGate (bytes : List ℕ) : Type 0 where
  pub a : ℕ
  pub b : ℕ
  pub c : ℕ
  pub d : ℕ
  pub is : bytes ≡ a ∷ b ∷ c ∷ d ∷ drop 4 bytes

pub has_gate : (bytes : List ℕ) → 4 ≤ length bytes → HasGate bytes
has_gate (a ∷ b ∷ c ∷ d ∷ rest) long = record { a = a; b = b; c = c; d = d; is = refl }
has_gate [] long = absurd (omega arith)
has_gate (a ∷ []) long = absurd (omega arith)
has_gate (a ∷ b ∷ []) long = absurd (omega arith)
has_gate (a ∷ b ∷ c ∷ []) long = absurd (omega arith)

pub gate_word : (bytes : List ℕ) (g : HasGate bytes) → word_of bytes ≡ word_of (g.a ∷ g.b ∷ g.c ∷ g.d ∷ [])
gate_word bytes g = ap word_of g.is ∙ word_front (g.a ∷ g.b ∷ g.c ∷ g.d ∷ []) (drop 4 bytes) (omega arith)

module _ (below front : List ℕ) (at : ℕ) (within : at ≤ length below) (are : AreExtents (take at below) front) where
  size : length (take at below) ≡ at
  size = length-take at below ∙ omega arith

  split : below ≡ take at below ++ drop at below
  split = sym (take-append-drop at below)

  reads : content_of below ≡ behind front (content_from at 0 (drop at below))
  reads = ap content_of split ∙ are (drop at below) ∙ ap (λ (n : ℕ). behind front (content_from n 0 (drop at below))) size

  -- no gate stands there
  pub breaks : length (drop at below) < 4 → content_of below ≡ Err at
  breaks short = reads ∙ ap (behind front) (cut_gate at (drop at below) short)

  module _ (long : 4 ≤ length (drop at below)) where
    g : HasGate (drop at below)
    g = has_gate (drop at below) long

    -- an open gate, and no piece behind it
    pub refuses : word_of (drop at below) ≢ word_of shut_gate → piece_in (drop 4 (drop at below)) ≡ None → content_of below ≡ Err at
    refuses is_open none =
        let later = content_from (at + 1) (19 + word_of (drop 4 (drop at below))) (g.b ∷ g.c ∷ g.d ∷ drop 4 (drop at below)) in
        let bytes : List ℕ = g.a ∷ g.b ∷ g.c ∷ g.d ∷ drop 4 (drop at below) in
        let opened : word_of bytes ≢ word_of shut_gate = λ e. is_open (ap word_of g.is ∙ e) in
        reads
        ∙ ap (λ (l : List ℕ). behind front (content_from at 0 l)) g.is
        ∙ ap (behind front) (at_open bytes at later opened ∙ ap (λ (o : Option (List ℕ)). with_piece o at later) none)

    -- an open gate, and a piece
    pub goes_on : (piece : List ℕ) → word_of (drop at below) ≢ word_of shut_gate → piece_in (drop 4 (drop at below)) ≡ Some piece
        → AreExtents (take (at + (20 + length piece)) below) (front ++ (1 ∷ piece))
    goes_on piece is_open found =
        let f = found_is (drop 4 (drop at below)) piece found in
        let own = take (16 + length piece) (drop 4 (drop at below)) in
        let more : 20 + length piece ≡ suc (suc (suc (suc (16 + length piece)))) = omega arith in
        let taken : take (at + (20 + length piece)) below ≡ take at below ++ (g.a ∷ g.b ∷ g.c ∷ g.d ∷ own) =
        take-add at (20 + length piece) below
        ∙ ap (λ (l : List ℕ). take at below ++ take (20 + length piece) l) g.is
        ∙ ap (λ (n : ℕ). take at below ++ take n (g.a ∷ g.b ∷ g.c ∷ g.d ∷ drop 4 (drop at below))) more in
        subst (λ (l : List ℕ). AreExtents l (front ++ (1 ∷ piece))) (sym taken)
        (extents_more (take at below) front g.a g.b g.c g.d own piece are (λ e. is_open (gate_word (drop at below) g ∙ e)) f.sealed)

    pub goes_within : (piece : List ℕ) → piece_in (drop 4 (drop at below)) ≡ Some piece → at + (20 + length piece) ≤ length below
    goes_within piece found = let f = found_is (drop 4 (drop at below)) piece found in omega (arith, f.fits, length-drop 4 (drop at below), length-drop at below)
