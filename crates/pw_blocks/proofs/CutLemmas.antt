-- The parts of a block round a key.
use Rattle.std.proofs.Common.{◌≡◌, ℕ, ◌+◌, ◌-◌, ◌≤◌, ◌∙◌, sym, ap, subst, refl, arith, true, false, Bool, List, [], ◌∷◌, ◌++◌, take, length, cond, length-append, Some, None}
use Rattle.std.specs.Prelude.{All}
use Rattle.std.specs.List.{AllByRecursion}
use Rattle.std.specs.List.Sorted.{IsStrictlySortedBy}
use Rattle.std.specs.Option.{option_copied}
use Rattle.std.specs.Ordering.{is_lt, is_eq, is_gt}
use Rattle.std.specs.declared.cmp.Ordering.{Ordering}
use Rattle.std.specs.declared.cmp.Ordering.TheVariants.{Less, Equal, Greater}
use Rattle.std.proofs.lemmas.Cmp.{nat_list_cmp_total}
use Rattle.std.proofs.lemmas.List.{append-nil, take_at}
use Rattle.std.proofs.lemmas.List.Elements.{All-from_recursion, recursion_from_All}
use Rattle.std.proofs.lemmas.List.Concat.{flat_map-append}
use Rattle.pw_base.proofs.Plain.{is_lt-Less}
use Rattle.pw_base.specs.Limits.{most_content}
use Rattle.pw_files.specs.Records.{key_cmp, compared, below, above, record_at}
use Rattle.pw_blocks.specs.declared.cut.Cut.{Cut}
use Rattle.pw_blocks.specs.Cuts.{IsCut, Rises}
use Rattle.pw_blocks.specs.Packing.{packed, packed_all, unpacked, IsBlock, from_key}
use Rattle.pw_blocks.proofs.PackingLemmas.{IsBlock-packed, unpacked-packed_all}
use Rattle.pw_blocks.proofs.RoundLemmas.{all_front, all_back, all_unmapped, sorted_back, round_below, round_above, round_at, above_not_below}

module _ (n : ℕ) (key : List ℕ) where
  abbrev pub AllLess : List (List ℕ) → Type 0
  AllLess xs = AllByRecursion (λ content. compared n key content ≡ Less) xs

  abbrev pub AllGreater : List (List ℕ) → Type 0
  AllGreater xs = AllByRecursion (λ content. compared n key content ≡ Greater) xs

  -- the contents before those from a key on are below it
  pub before_key : (contents : List (List ℕ)) → (front : List (List ℕ)) × (front ++ from_key n contents key ≡ contents) × AllLess front
  before_key [] = ([], refl, tt)
  before_key (content ∷ contents) =
      let at : (b : Bool) → is_lt (compared n key content) ≡ b → (front : List (List ℕ)) × (front ++ cond b (from_key n contents key) (content ∷ contents) ≡ content ∷ contents) × AllLess front =
      λ b is. elim b as (λ b. is_lt (compared n key content) ≡ b → (front : List (List ℕ)) × (front ++ cond b (from_key n contents key) (content ∷ contents) ≡ content ∷ contents) × AllLess front) [
        | true ↦ λ e. let rest = before_key contents in (content ∷ rest.0, ap (λ xs. content ∷ xs) rest.1, (is_lt-Less (compared n key content) e, rest.2))
        | false ↦ λ e. ([], refl, tt)
      ] is in
      at (is_lt (compared n key content)) refl

  -- the first content from a key on is not below it
  pub from_key_first : (contents : List (List ℕ)) (first : List ℕ) (rest : List (List ℕ)) → from_key n contents key ≡ first ∷ rest → is_lt (compared n key first) ≡ false
  from_key_first [] first rest h = cc
  from_key_first (content ∷ contents) first rest h =
      let at : (b : Bool) → is_lt (compared n key content) ≡ b → cond b (from_key n contents key) (content ∷ contents) ≡ first ∷ rest → is_lt (compared n key first) ≡ false =
      λ b is. elim b as (λ b. is_lt (compared n key content) ≡ b → cond b (from_key n contents key) (content ∷ contents) ≡ first ∷ rest → is_lt (compared n key first) ≡ false) [
        | true ↦ λ e k. from_key_first contents first rest k
        | false ↦ λ e k. let same : content ≡ first = cc in ap (λ c. is_lt (compared n key c)) (sym same) ∙ e
      ] is in
      at (is_lt (compared n key content)) refl h

  -- where keys rise, the contents from a key on are behind one that is below it
  pub from_key-past : (front rest : List (List ℕ)) (content : List ℕ) → Rises n (front ++ content ∷ rest) → compared n key content ≡ Less
      → from_key n (front ++ content ∷ rest) key ≡ from_key n rest key
  unfolding IsStrictlySortedBy
  from_key-past [] rest content rises less = ap (λ o. cond (is_lt o) (from_key n rest key) (content ∷ rest)) less
  from_key-past (x ∷ front) rest content rises less =
      let f : List ℕ → List ℕ = λ c. take n c in
      let across = all_back (λ y. key_cmp (f x) (f y) ≡ Less) front (content ∷ rest)
      (all_unmapped f (λ y. key_cmp (f x) y ≡ Less) (λ y. key_cmp (f x) (f y) ≡ Less) (λ y h. h) (front ++ content ∷ rest) rises.0) in
      let below : compared n key x ≡ Less = nat_list_cmp_total.trans (f x) (f content) key across.0 less in
      ap (λ o. cond (is_lt o) (from_key n (front ++ content ∷ rest) key) (x ∷ (front ++ content ∷ rest))) below ∙ from_key-past front rest content rises.1 less

  -- where keys rise, the contents behind one that is not below the key are above it
  pub behind_above : (contents front rest : List (List ℕ)) (first : List ℕ) → Rises n contents → front ++ first ∷ rest ≡ contents → is_lt (compared n key first) ≡ false → AllGreater rest
  unfolding IsStrictlySortedBy
  behind_above contents front rest first rises whole not_less =
      let f : List ℕ → List ℕ = λ content. take n content in
      let s = sorted_back key_cmp f front (first ∷ rest) (subst (Rises n) (sym whole) rises) in
      all_unmapped f (λ k. key_cmp (f first) k ≡ Less) (λ content. compared n key content ≡ Greater) (λ content. above_not_below n key first not_less (f content)) rest s.0

  -- parts of the contents of a block, with those that may have the key between them
  pub cut_is : (bytes : List ℕ) (cut : Cut) (front middle back : List (List ℕ)) → IsBlock bytes → front ++ (middle ++ back) ≡ unpacked bytes → AllLess front → AllGreater back → cut.before.now ≡ packed_all front → cut.behind.now ≡ packed_all back → below n middle key ≡ [] → above n middle key ≡ [] → option_copied cut.here ≡ record_at n middle key → IsCut n (unpacked bytes) key cut
  cut_is bytes cut front middle back block whole less greater before behind none_below none_above here =
      let small : List ℕ → Type 0 = λ content. length content ≤ most_content in
      let l : All (λ content. compared n key content ≡ Less) front = All-from_recursion (λ content. compared n key content ≡ Less) front less in
      let g : All (λ content. compared n key content ≡ Greater) back = All-from_recursion (λ content. compared n key content ≡ Greater) back greater in
      let all_small : AllByRecursion small (front ++ (middle ++ back)) = recursion_from_All small (front ++ (middle ++ back)) (subst (All small) (sym whole) block.contents) in
      let long : length (packed_all front) + (length (packed_all middle) + length (packed_all back)) ≡ length bytes =
      sym (ap length (flat_map-append packed front (middle ++ back) ∙ ap (λ bs. packed_all front ++ bs) (flat_map-append packed middle back)) ∙ (length-append (packed_all front) (packed_all middle ++ packed_all back) ∙ ap (λ k. length (packed_all front) + k) (length-append (packed_all middle) (packed_all back)))) ∙ ap length (ap packed_all whole ∙ block.whole) in
      let fit : length bytes ≤ 4096 = block.fits in
      let first_long : length cut.before.now ≡ length (packed_all front) = ap length before in
      let last_long : length cut.behind.now ≡ length (packed_all back) = ap length behind in
      record {
        before_block = IsBlock-packed front cut.before.now before (All-from_recursion small front (all_front small front (middle ++ back) all_small)) (omega arith);
        behind_block = IsBlock-packed back cut.behind.now behind (All-from_recursion small back (all_back small middle back (all_back small front (middle ++ back) all_small))) (omega arith);
        fits = omega arith;
        below = ap unpacked before ∙ unpacked-packed_all front ∙ sym (ap (λ xs. below n xs key) (sym whole) ∙ round_below n key front middle back l g ∙ ap (λ xs. front ++ xs) none_below ∙ append-nil front);
        here = here ∙ sym (ap (λ xs. record_at n xs key) (sym whole) ∙ round_at n key front middle back l g);
        above = ap unpacked behind ∙ unpacked-packed_all back ∙ sym (ap (λ xs. above n xs key) (sym whole) ∙ round_above n key front middle back l g ∙ ap (λ xs. xs ++ back) none_above);
      }

-- the bytes before those of the contents from a key on
pub before_bytes : (bytes rest : List ℕ) (front back : List (List ℕ)) → bytes ≡ packed_all (front ++ back) → rest ≡ packed_all back → take (length bytes - length rest) bytes ≡ packed_all front
before_bytes bytes rest front back is rest_is =
    let whole : bytes ≡ packed_all front ++ packed_all back = is ∙ flat_map-append packed front back in
    let long : length (packed_all front) ≡ length bytes - length rest = omega (arith, ap length whole, ap length rest_is, length-append (packed_all front) (packed_all back)) in
    ap (take (length bytes - length rest)) whole ∙ take_at (packed_all front) (packed_all back) (length bytes - length rest) long

-- what is equal is on neither side
pub below_one : (n : ℕ) (content key : List ℕ) → compared n key content ≡ Equal → below n (content ∷ []) key ≡ []
below_one n content key is = ap (λ o. cond (is_lt o) (content ∷ []) []) is

pub above_one : (n : ℕ) (content key : List ℕ) → compared n key content ≡ Equal → above n (content ∷ []) key ≡ []
above_one n content key is = ap (λ o. cond (is_gt o) (content ∷ []) []) is

pub record_at_one : (n : ℕ) (content key : List ℕ) → compared n key content ≡ Equal → Some content ≡ record_at n (content ∷ []) key
record_at_one n content key is = sym (ap (λ o. cond (is_eq o) (Some content) None) is)

-- what is neither less nor equal is greater
pub greater_is : (o : Ordering) → is_lt o ≡ false → is_eq o ≡ false → o ≡ Greater
greater_is Less h k = cc
greater_is Equal h k = cc
greater_is Greater h k = refl
