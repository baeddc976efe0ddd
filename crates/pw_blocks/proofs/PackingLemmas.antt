-- Packed contents can be unpacked, and lie one after another.
use Rattle.std.proofs.Common.{◌≡◌, ℕ, zero, suc, ◌+◌, ◌*◌, ◌/◌, ◌%◌, ◌≤◌, ◌∙◌, sym, ap, subst, refl, arith, List, [], ◌∷◌, ◌++◌, length, take, drop, cond, true, false, Some, None, length-append}
use Rattle.std.specs.Prelude.{All}
use Rattle.std.proofs.lemmas.List.{append_assoc, take_at, drop_at}
use Rattle.std.proofs.lemmas.List.Elements.{All-append, All-cons}
use Rattle.std.proofs.lemmas.List.Concat.{flat_map-append}
use Rattle.pw_blocks.specs.Packing.{packed, packed_all, unpacked_most, unpacked, IsBlock, IsFinger, IsFirst, from_key}
use Rattle.std.specs.Ordering.{is_lt}
use Rattle.pw_files.specs.Records.{compared}
use Rattle.std.specs.Borrow.{Bor}
use Rattle.pw_base.specs.Limits.{most_content}

-- the two bytes of a length give it back
pub two_bytes : (n : ℕ) → n / 256 * 256 + n % 256 ≡ n
two_bytes n = omega arith

-- packed contents are unpacked to themselves
pub unpacked_most-packed_all : (contents : List (List ℕ)) (most : ℕ) → length (packed_all contents) ≤ most → unpacked_most most (packed_all contents) ≡ contents
unpacked_most-packed_all [] zero h = refl
unpacked_most-packed_all [] (suc most) h = refl
unpacked_most-packed_all (content ∷ contents) zero h = absurd (omega (arith, h))
unpacked_most-packed_all (content ∷ contents) (suc most) h =
    let n : ℕ = length content in
    let size : n / 256 * 256 + n % 256 ≡ n = two_bytes n in
    let rest : List ℕ = packed_all contents in
    let small : length rest ≤ most = omega (arith, h, length-append content rest) in
    ap (λ k. take k (content ++ rest) ∷ unpacked_most most (drop k (content ++ rest))) size
    ∙ ap (λ c. c ∷ unpacked_most most (drop n (content ++ rest))) (take_at content rest n refl)
    ∙ ap (λ bytes. content ∷ unpacked_most most bytes) (drop_at content rest n refl)
    ∙ ap (λ cs. content ∷ cs) (unpacked_most-packed_all contents most small)

-- so bytes that are those of some contents unpack to these
pub unpacked-packed_all : (contents : List (List ℕ)) → unpacked (packed_all contents) ≡ contents
unfolding unpacked
unpacked-packed_all contents = unpacked_most-packed_all contents (length (packed_all contents)) (omega arith)

-- the bytes of some contents are a block, where they fit
pub IsBlock-packed : (contents : List (List ℕ)) (bytes : List ℕ) → bytes ≡ packed_all contents → All (λ content. length content ≤ most_content) contents → length bytes ≤ 4096 → IsBlock bytes
IsBlock-packed contents bytes is small fits =
    let same : unpacked bytes ≡ contents = ap unpacked is ∙ unpacked-packed_all contents in
    record {
      whole = ap packed_all same ∙ sym is;
      contents = subst (All (λ content. length content ≤ most_content)) (sym same) small;
      fits = fits;
    }

module _ (n : ℕ) (key : List ℕ) (parts : Bor (List ℕ) × Bor (List ℕ)) where
  -- a first record below the key is passed over
  pub from_key-behind : (left : List (List ℕ)) → IsFirst (Some parts) left → is_lt (compared n key parts.0.now) ≡ true → (more : List (List ℕ)) × (parts.1.now ≡ packed_all more) × (from_key n more key ≡ from_key n left key)
  from_key-behind [] first less = absurd first
  from_key-behind (content ∷ contents) first less =
      (contents, first.1, sym (ap (λ b. cond b (from_key n contents key) (content ∷ contents)) (ap (λ c. is_lt (compared n key c)) (sym first.0) ∙ less)))

  -- a first record that is not below the key is where it stops
  pub from_key-here : (left : List (List ℕ)) → IsFirst (Some parts) left → is_lt (compared n key parts.0.now) ≡ false → from_key n left key ≡ left
  from_key-here [] first less = absurd first
  from_key-here (content ∷ contents) first less =
      ap (λ b. cond b (from_key n contents key) (content ∷ contents)) (ap (λ c. is_lt (compared n key c)) (sym first.0) ∙ less)

-- and so is the end
pub from_key-end : (n : ℕ) (key : List ℕ) (left : List (List ℕ)) → IsFirst None left → from_key n left key ≡ left
from_key-end n key [] first = refl
from_key-end n key (content ∷ contents) first = absurd first

module _ (before content behind : List ℕ) (first : IsBlock before) (last : IsBlock behind) where
  -- the bytes of some records, of one with this content and of more records
  abbrev pub joined_bytes : List ℕ
  joined_bytes = (((before ++ length content / 256 ∷ []) ++ length content % 256 ∷ []) ++ content) ++ behind

  -- are those of all of them
  pub joined_are : joined_bytes ≡ packed_all (unpacked before ++ content ∷ unpacked behind)
  joined_are =
      simp append_assoc
      (sym (flat_map-append packed (unpacked before) (content ∷ unpacked behind)
      ∙ ap (λ bytes. bytes ++ (length content / 256 ∷ length content % 256 ∷ content ++ packed_all (unpacked behind))) first.whole
      ∙ ap (λ bytes. before ++ (length content / 256 ∷ length content % 256 ∷ content ++ bytes)) last.whole))

  pub unpacked-joined : (new : List ℕ) → new ≡ joined_bytes → unpacked new ≡ unpacked before ++ content ∷ unpacked behind
  unpacked-joined new is = ap unpacked (is ∙ joined_are) ∙ unpacked-packed_all (unpacked before ++ content ∷ unpacked behind)

  pub IsFinger-joined : (new : List ℕ) → new ≡ joined_bytes → IsFinger new (length before)
  IsFinger-joined new is = record {
    front = unpacked before;
    back = content ∷ unpacked behind;
    contents = sym (unpacked-joined new is);
    place = ap length first.whole;
  }

  pub IsBlock-joined : length content ≤ most_content → length before + length content + 2 + length behind ≤ 4096 → (new : List ℕ) → new ≡ joined_bytes → IsBlock new
  IsBlock-joined small fits new is =
      let long : length new ≡ length before + length content + 2 + length behind = ap length is ∙ simp length-append (omega arith) in
      IsBlock-packed (unpacked before ++ content ∷ unpacked behind) new (is ∙ joined_are)
      (All-append (λ c. length c ≤ most_content) (unpacked before) (content ∷ unpacked behind) first.contents (All-cons (λ c. length c ≤ most_content) content (unpacked behind) small last.contents))
      (omega arith)

-- the bytes from a finger on are those of the contents there
pub from_finger : (bytes : List ℕ) (finger : ℕ) (at : IsFinger bytes finger) → IsBlock bytes → drop finger bytes ≡ packed_all at.back
from_finger bytes finger at block =
    ap (drop finger) (sym block.whole ∙ ap packed_all (sym at.contents) ∙ flat_map-append packed at.front at.back)
    ∙ drop_at (packed_all at.front) (packed_all at.back) finger at.place
