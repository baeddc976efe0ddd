-- Both tables begin with the words that begin a piece, so what a word begins is found among these.
use Rattle.std.proofs.Common.{◌≡◌, ℕ, ◌+◌, ◌≤◌, Bool, true, false, cond, List, [], ◌∷◌, ◌++◌, length, drop, Option, Some, refl, sym, ap, ◌∙◌, arith}
use Rattle.std.specs.Prelude.{unwrap_or}
use Rattle.std.specs.List.{position_from}
use Rattle.std.proofs.lemmas.Option.{slice_get_past}
use Rattle.std.proofs.lemmas.Iterator.Adapters.{position_from-zero}
use Rattle.pw_words.specs.Words.{Word, same_word, word_place}
use Rattle.pw_words.specs.Texts.{piece_words, requester_words, server_words}
use Rattle.pw_forms.specs.declared.mark.TokenMark.{TokenMark}
use Rattle.pw_forms.specs.declared.mark.TokenMark.TheVariants.{Other}
use Rattle.pw_forms.specs.Words.{table_place, marks, mark_at}

past-marks : (place : ℕ) → 23 ≤ place → mark_at (Some place) ≡ Other
past-marks place past = ap (λ (found : Option TokenMark). unwrap_or found Other) (slice_get_past marks place past)

module _ (word : Word) where
  -- a row behind the words that begin a piece begins none
  none-behind : (place : ℕ) (rows : List Word) → 23 ≤ place → mark_at (position_from (λ row. same_word row word) place rows) ≡ Other
  none-behind place [] past = refl
  none-behind place (row ∷ rows) past = go (same_word row word) (none-behind (place + 1) rows (omega arith))
    where
      go : (b : Bool) → mark_at (position_from (λ row. same_word row word) (place + 1) rows) ≡ Other
          → mark_at (cond b (Some place) (position_from (λ row. same_word row word) (place + 1) rows)) ≡ Other
      go true rest = past-marks place past
      go false rest = rest

  among-first : (place : ℕ) (front behind : List Word) → place + length front ≡ 23
      → mark_at (position_from (λ row. same_word row word) place (front ++ behind)) ≡ mark_at (position_from (λ row. same_word row word) place front)
  among-first place [] behind all = none-behind place behind (omega arith)
  among-first place (row ∷ front) behind all = go (same_word row word) (among-first (place + 1) front behind (omega arith))
    where
      go : (b : Bool)
          → mark_at (position_from (λ row. same_word row word) (place + 1) (front ++ behind)) ≡ mark_at (position_from (λ row. same_word row word) (place + 1) front)
          → mark_at (cond b (Some place) (position_from (λ row. same_word row word) (place + 1) (front ++ behind)))
          ≡ mark_at (cond b (Some place) (position_from (λ row. same_word row word) (place + 1) front))
      go true rest = refl
      go false rest = rest

  among-pieces : (behind : List Word) → mark_at (word_place piece_words word) ≡ mark_at (word_place (piece_words ++ behind) word)
  among-pieces behind =
      ap mark_at (position_from-zero (λ row. same_word row word) piece_words)
      ∙ sym (among-first 0 piece_words behind refl)
      ∙ ap mark_at (sym (position_from-zero (λ row. same_word row word) (piece_words ++ behind)))

  -- what a word begins is found among the words that begin a piece
  pub piece_mark : (server : Bool) → mark_at (word_place piece_words word) ≡ mark_at (table_place server word)
  unfolding table_place
  piece_mark true = among-pieces (drop 23 server_words)
  piece_mark false = among-pieces (drop 23 requester_words)
