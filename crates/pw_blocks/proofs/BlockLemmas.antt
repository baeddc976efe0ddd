-- Blocks of no bytes, of the records of two runs of bytes, and of a first record.
use Rattle.std.proofs.Common.{◌≡◌, ℕ, ◌+◌, ◌≤◌, ◌∙◌, sym, ap, refl, arith, List, [], ◌∷◌, ◌++◌, length, Some, None, length-append}
use Rattle.std.specs.Borrow.{Bor}
use Rattle.std.proofs.lemmas.List.Elements.{All-append, All-nil}
use Rattle.std.proofs.lemmas.List.Concat.{flat_map-append}
use Rattle.pw_base.specs.Limits.{most_content}
use Rattle.pw_blocks.specs.Packing.{packed, packed_all, unpacked, IsBlock, IsFinger, IsFirst}
use Rattle.pw_blocks.proofs.PackingLemmas.{IsBlock-packed, unpacked-packed_all}

-- no bytes are the block of no records
pub IsBlock-none : IsBlock []
IsBlock-none = IsBlock-packed [] [] refl (All-nil (λ content. length content ≤ most_content)) (omega arith)

-- and have none
pub unpacked-none : unpacked [] ≡ []
unpacked-none = unpacked-packed_all []

module _ (before behind : List ℕ) (first : IsBlock before) (last : IsBlock behind) (new : List ℕ) (is : new ≡ before ++ behind) where
  -- two runs of records one behind the other
  beside_are : new ≡ packed_all (unpacked before ++ unpacked behind)
  beside_are = is ∙ sym (flat_map-append packed (unpacked before) (unpacked behind) ∙ ap (λ bytes. bytes ++ packed_all (unpacked behind)) first.whole ∙ ap (λ bytes. before ++ bytes) last.whole)

  pub unpacked-beside : unpacked new ≡ unpacked before ++ unpacked behind
  unpacked-beside = ap unpacked beside_are ∙ unpacked-packed_all (unpacked before ++ unpacked behind)

  pub IsFinger-beside : IsFinger new (length before)
  IsFinger-beside = record { front = unpacked before; back = unpacked behind; contents = sym unpacked-beside; place = ap length first.whole }

  pub IsBlock-beside : length before + length behind ≤ 4096 → IsBlock new
  IsBlock-beside fits =
      let long : length new ≡ length before + length behind = ap length is ∙ length-append before behind in
      IsBlock-packed (unpacked before ++ unpacked behind) new beside_are (All-append (λ c. length c ≤ most_content) (unpacked before) (unpacked behind) first.contents last.contents) (omega arith)

-- what a first record leaves
pub first_step : (parts : Bor (List ℕ) × Bor (List ℕ)) (left : List (List ℕ)) → IsFirst (Some parts) left → (more : List (List ℕ)) × (left ≡ parts.0.now ∷ more) × (parts.1.now ≡ packed_all more)
first_step parts [] first = absurd first
first_step parts (content ∷ more) first = (more, ap (λ c. c ∷ more) (sym first.0), first.1)

-- where there is no first record, there is none
pub first_end : (left : List (List ℕ)) → IsFirst None left → left ≡ []
first_end [] first = refl
first_end (content ∷ more) first = absurd first
