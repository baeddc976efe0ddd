use Rattle.std.proofs.Common.{◌≡◌, ℕ, ◌+◌, ◌<◌, List, [], ◌∷◌, ◌++◌, length, take, map, sym, ap, ◌∙◌, arith}
use Rattle.std.specs.Char.{to_ascii_lowercase}
use Rattle.std.specs.Prelude.{slice_set, slice_index_or}
use Rattle.std.proofs.lemmas.List.{take_more, take_more_set, map-append, length-set}
use Rattle.pw_data.proofs.index.folded.Goals as goal

-- one byte more is in lower case
fold-step : (name folded : List ℕ) (at x : ℕ) → at < length name → at < length folded → x ≡ to_ascii_lowercase (slice_index_or name at 0) → take at folded ≡ map to_ascii_lowercase (take at name)
    → take (at + 1) (slice_set folded at x) ≡ map to_ascii_lowercase (take (at + 1) name)
fold-step name folded at x in_name in_folded x_is so_far =
    take_more_set folded at x in_folded ∙ ap (λ xs. xs ++ x ∷ []) so_far ∙ ap (λ y. map to_ascii_lowercase (take at name) ++ y ∷ []) x_is
    ∙ sym (map-append to_ascii_lowercase (take at name) (slice_index_or name at 0 ∷ [])) ∙ ap (map to_ascii_lowercase) (sym (take_more name at 0 in_name))

pub loop-at-preserved : goal.loop-at-preserved
loop-at-preserved c = record {
  long = length-set c.loop-at.folded c.loop-at.at c.to_ascii_lowercase.result ∙ c.loop-at.invariant.long;
  so_far = fold-step c.args.name.now c.loop-at.folded c.loop-at.at c.to_ascii_lowercase.result c.loop-at-test.true (omega (arith, c.loop-at-test.true, c.loop-at.invariant.long, c.requires)) c.to_ascii_lowercase.ensures.value c.loop-at.invariant.so_far;
}
