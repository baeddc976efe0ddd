-- Each word of the tables ends with a letter, so a word that does not is none of them.
use Rattle.std.proofs.Common.{◌≡◌, ℕ, ◌+◌, Bool, true, false, cond, List, [], ◌∷◌, ◌++◌, length, Some, None, refl, ap, ◌∙◌, arith}
use Rattle.std.specs.Prelude.{is_some}
use Rattle.std.specs.List.{list_all, position_from}
use Rattle.std.specs.Char.{is_ascii_lowercase, to_ascii_lowercase}
use Rattle.std.specs.Str.{str_to_ascii_lowercase}
use Rattle.std.specs.Cmp.Lexicographic.{bytes_decides}
use Rattle.std.proofs.lemmas.Bool.{and_parts}
use Rattle.std.proofs.lemmas.Iterator.Adapters.{position_from-zero}
use Rattle.pw_words.specs.Words.{Word, same_word}
use Rattle.pw_words.specs.Texts.{requester_words, server_words}
use Rattle.pw_forms.specs.Words.{table_place, is_table_word}

-- a word in lower case ends with a letter
abbrev letter_end : Word → Bool
letter_end [] = false
letter_end (byte ∷ []) = is_ascii_lowercase byte
letter_end (byte ∷ (next ∷ rest)) = letter_end (next ∷ rest)

end-last : (front : Word) (last : ℕ) → letter_end (str_to_ascii_lowercase (front ++ last ∷ [])) ≡ is_ascii_lowercase (to_ascii_lowercase last)
end-last [] last = refl
end-last (byte ∷ []) last = refl
end-last (byte ∷ (next ∷ front)) last = end-last (next ∷ front) last

none-among : (word : Word) (place : ℕ) (rows : List Word) → letter_end (str_to_ascii_lowercase word) ≡ false
    → list_all (λ row. letter_end (str_to_ascii_lowercase row)) rows ≡ true → position_from (λ row. same_word row word) place rows ≡ None
none-among word place [] ends all = refl
none-among word place (row ∷ rows) ends all =
    let parts = and_parts (letter_end (str_to_ascii_lowercase row)) (list_all (λ row. letter_end (str_to_ascii_lowercase row)) rows) all in
    go (same_word row word) refl parts.0 (none-among word (place + 1) rows ends parts.1)
  where
    go : (b : Bool) → same_word row word ≡ b → letter_end (str_to_ascii_lowercase row) ≡ true
        → position_from (λ row. same_word row word) (place + 1) rows ≡ None
        → cond b (Some place) (position_from (λ row. same_word row word) (place + 1) rows) ≡ None
    go true is letter rest =
        let same : letter_end (str_to_ascii_lowercase row) ≡ letter_end (str_to_ascii_lowercase word) = ap letter_end ((bytes_decides (str_to_ascii_lowercase row) (str_to_ascii_lowercase word)).0 is) in
        absurd cc
    go false is letter rest = rest

no-table-word : (word : Word) → letter_end (str_to_ascii_lowercase word) ≡ false → (server : Bool) → is_table_word server word ≡ false
unfolding table_place
no-table-word word ends true = ap is_some (position_from-zero (λ row. same_word row word) server_words ∙ none-among word 0 server_words ends refl)
no-table-word word ends false = ap is_some (position_from-zero (λ row. same_word row word) requester_words ∙ none-among word 0 requester_words ends refl)

-- a word of no byte, or whose last byte is no letter, is no table word
pub no-letter : (word front : Word) (last : ℕ) → word ≡ front ++ last ∷ [] → is_ascii_lowercase (to_ascii_lowercase last) ≡ false
    → (server : Bool) → is_table_word server word ≡ false
no-letter word front last is other =
    no-table-word word (ap (λ (w : Word). letter_end (str_to_ascii_lowercase w)) is ∙ end-last front last ∙ other)

pub no-byte : (word : Word) → length word ≡ 0 → (server : Bool) → is_table_word server word ≡ false
no-byte [] none = no-table-word [] refl
no-byte (byte ∷ bytes) none = absurd (omega arith)
