-- What lies round a key in a file of blocks, and what a change of one block makes of the records.
use Rattle.std.proofs.Common.{◌≡◌, ◌≢◌, ℕ, zero, suc, ◌∙◌, sym, ap, subst, refl, List, [], ◌∷◌, ◌++◌, map, take, drop, get_or}
use Rattle.std.specs.Prelude.{All}
use Rattle.std.proofs.lemmas.List.{append_assoc}
use Rattle.std.proofs.lemmas.List.Elements.{All-append, All-take, All-drop}
use Rattle.std.proofs.lemmas.List.Concat.{flat_map-append}
use Rattle.pw_files.specs.Records.{key_cmp, below, above, record_at, with_record, without_key, IsFile, IsContent}
use Rattle.pw_files.proofs.RecordLemmas.{IsFile-with_record, IsFile-without_key}
use Rattle.pw_blocks.specs.declared.cut.Cut.{Cut}
use Rattle.pw_blocks.specs.Blocks.{records_of, first_key, with_blocks, IsBlockFile, IsHome}
use Rattle.pw_blocks.specs.Cuts.{IsCut, Rises}
use Rattle.pw_blocks.specs.Packing.{unpacked}
use Rattle.pw_blocks.specs.Seats.{IsSeat}
use Rattle.pw_blocks.proofs.PutLemmas.{map-with_blocks}
use Rattle.pw_blocks.proofs.RoundLemmas.{round_below, round_above, round_at, sorted_front, sorted_back}

-- the records of the blocks are those before a place, those at it and those behind it
records_round : (blocks : List (List (List ℕ))) (place : ℕ) → records_of (take place blocks) ++ (get_or blocks place [] ++ records_of (drop (suc place) blocks)) ≡ records_of blocks
records_round [] zero = refl
records_round [] (suc place) = refl
records_round (block ∷ blocks) zero = refl
records_round (block ∷ blocks) (suc place) =
    append_assoc block (records_of (take place blocks)) (get_or blocks place [] ++ records_of (drop (suc place) blocks)) ∙ ap (λ xs. block ++ xs) (records_round blocks place)

-- the records of blocks with others in place of one
records_with : (blocks : List (List (List ℕ))) (place : ℕ) (pieces : List (List (List ℕ))) → records_of (with_blocks blocks place pieces) ≡ records_of (take place blocks) ++ (records_of pieces ++ records_of (drop (suc place) blocks))
records_with blocks place pieces =
    flat_map-append (λ block. block) (take place blocks) (pieces ++ drop (suc place) blocks) ∙ ap (λ xs. records_of (take place blocks) ++ xs) (flat_map-append (λ block. block) pieces (drop (suc place) blocks))

module _ (n : ℕ) (blocks : List (List (List ℕ))) (place : ℕ) where
  -- the keys in a block of a file rise
  pub block_rises : IsFile n (records_of blocks) → Rises n (get_or blocks place [])
  block_rises file =
      let f : List ℕ → List ℕ = λ content. take n content in
      let low : List (List ℕ) = records_of (take place blocks) in
      let high : List (List ℕ) = records_of (drop (suc place) blocks) in
      sorted_front key_cmp f (get_or blocks place []) high (sorted_back key_cmp f low (get_or blocks place [] ++ high) (subst (Rises n) (sym (records_round blocks place)) file.order))

  -- what lies round a key in its home is what lies round it in the file
  pub seat_is : (key : List ℕ) (cut : Cut) → IsHome n blocks key place → IsCut n (get_or blocks place []) key cut → IsSeat n blocks key place cut
  seat_is key cut home cut_is =
      let low : List (List ℕ) = records_of (take place blocks) in
      let block : List (List ℕ) = get_or blocks place [] in
      let high : List (List ℕ) = records_of (drop (suc place) blocks) in
      record {
        before_block = cut_is.before_block;
        behind_block = cut_is.behind_block;
        fits = cut_is.fits;
        below = ap (λ xs. below n xs key) (sym (records_round blocks place)) ∙ round_below n key low block high home.low home.high ∙ ap (λ xs. low ++ xs) (sym cut_is.below);
        here = ap (λ xs. record_at n xs key) (sym (records_round blocks place)) ∙ round_at n key low block high home.low home.high ∙ sym cut_is.here;
        above = ap (λ xs. above n xs key) (sym (records_round blocks place)) ∙ round_above n key low block high home.low home.high ∙ ap (λ xs. xs ++ high) (sym cut_is.above);
      }

  module _ (cut : Cut) (pieces : List (List (List ℕ))) where
    -- blocks of the records before a key, a content and those behind it put the content in its place
    pub written_is : (content : List ℕ) → IsSeat n blocks (take n content) place cut → records_of pieces ≡ unpacked cut.before.now ++ content ∷ unpacked cut.behind.now → records_of (with_blocks blocks place pieces) ≡ with_record n (records_of blocks) content
    written_is content seat are =
        let low : List (List ℕ) = records_of (take place blocks) in
        let high : List (List ℕ) = records_of (drop (suc place) blocks) in
        records_with blocks place pieces ∙ ap (λ xs. low ++ (xs ++ high)) are
        ∙ sym (ap (λ xs. xs ++ content ∷ above n (records_of blocks) (take n content)) seat.below ∙ ap (λ xs. (low ++ unpacked cut.before.now) ++ content ∷ xs) seat.above ∙ append_assoc low (unpacked cut.before.now) (content ∷ (unpacked cut.behind.now ++ high))
        ∙ ap (λ xs. low ++ xs) (sym (append_assoc (unpacked cut.before.now) (content ∷ unpacked cut.behind.now) high)))

    pub IsFile-written : (content : List ℕ) → IsFile n (records_of blocks) → IsContent n content → IsSeat n blocks (take n content) place cut → records_of pieces ≡ unpacked cut.before.now ++ content ∷ unpacked cut.behind.now → IsFile n (records_of (with_blocks blocks place pieces))
    IsFile-written content file fits seat are = subst (IsFile n) (sym (written_is content seat are)) (IsFile-with_record n (records_of blocks) file content fits)

    -- and blocks of the records before it and behind it take it away
    pub removed_are : (key : List ℕ) → IsSeat n blocks key place cut → records_of pieces ≡ unpacked cut.before.now ++ unpacked cut.behind.now → records_of (with_blocks blocks place pieces) ≡ without_key n (records_of blocks) key
    removed_are key seat are =
        let low : List (List ℕ) = records_of (take place blocks) in
        let high : List (List ℕ) = records_of (drop (suc place) blocks) in
        records_with blocks place pieces ∙ ap (λ xs. low ++ (xs ++ high)) are
        ∙ sym (ap (λ xs. xs ++ above n (records_of blocks) key) seat.below ∙ ap (λ xs. (low ++ unpacked cut.before.now) ++ xs) seat.above ∙ append_assoc low (unpacked cut.before.now) (unpacked cut.behind.now ++ high)
        ∙ ap (λ xs. low ++ xs) (sym (append_assoc (unpacked cut.before.now) (unpacked cut.behind.now) high)))

    pub IsFile-taken : (key : List ℕ) → IsFile n (records_of blocks) → IsSeat n blocks key place cut → records_of pieces ≡ unpacked cut.before.now ++ unpacked cut.behind.now → IsFile n (records_of (with_blocks blocks place pieces))
    IsFile-taken key file seat are = subst (IsFile n) (sym (removed_are key seat are)) (IsFile-without_key n (records_of blocks) file key)

  -- a file of blocks is one with other blocks in place of one, and their first keys in the index
  pub IsBlockFile-put : (index pieces_index : List (List ℕ)) (pieces : List (List (List ℕ))) → IsBlockFile n blocks index → IsFile n (records_of (with_blocks blocks place pieces)) → All (λ block. block ≢ []) pieces → pieces_index ≡ map (first_key n) pieces → IsBlockFile n (with_blocks blocks place pieces) (with_blocks index place pieces_index)
  IsBlockFile-put index pieces_index pieces old file some keys =
      let P : List (List ℕ) → Type 0 = λ block. block ≢ [] in
      record {
        file = file;
        none_empty = All-append P (take place blocks) (pieces ++ drop (suc place) blocks) (All-take P place blocks old.none_empty) (All-append P pieces (drop (suc place) blocks) some (All-drop P (suc place) blocks old.none_empty));
        first_keys = ap (λ keys. with_blocks keys place pieces_index) old.first_keys ∙ ap (λ keys. with_blocks (map (first_key n) blocks) place keys) keys ∙ map-with_blocks (first_key n) blocks place pieces;
      }
