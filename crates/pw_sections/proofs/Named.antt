-- One pair more, and its name.
use Rattle.std.proofs.Common.{◌≡◌, ℕ, Bool, ◌||◌, cond, nat_le, List, [], ◌∷◌, ◌++◌, length, None, Some, refl, sym, ap, ◌∙◌}
use Rattle.std.specs.Str.{bytes_eq}
use Rattle.pw_base.proofs.Plain.{bytes_eq-swap}
use Rattle.pw_code.specs.Limits.{most_pairs}
use Rattle.pw_words.specs.Names.{has_name}
use Rattle.pw_sections.specs.Entries.{NameValue, has_field, with_pair}
use Rattle.pw_sections.specs.Pairs.{names_of}

-- a name is among the names where a pair has it
has-named : (pairs : List NameValue) (name : List ℕ) → has_name (names_of pairs) name ≡ has_field pairs name
has-named [] name = refl
has-named (pair ∷ pairs) name =
    ap (λ b. b || has_name (names_of pairs) name) (bytes_eq-swap name pair.0) ∙ ap (λ b. bytes_eq pair.0 name || b) (has-named pairs name)

-- whether the name of a pair stands already, by the names
pub has-by : (pairs : List NameValue) (names : List (List ℕ)) (name : List ℕ) (b : Bool) → names ≡ names_of pairs → b ≡ has_name names name → has_field pairs name ≡ b
has-by pairs names name b named is = sym (is ∙ ap (λ ns. has_name ns name) named ∙ has-named pairs name)

-- a pair may stand behind the others or not, by the two tests
pub with-by : (pairs : List NameValue) (pair : NameValue) (there full : Bool) → has_field pairs pair.0 ≡ there → nat_le most_pairs (length pairs) ≡ full
    → with_pair pairs (Some pair) ≡ cond (there || full) None (Some (pairs ++ pair ∷ []))
with-by pairs pair there full is_there is_full =
    ap (λ b. cond (b || nat_le most_pairs (length pairs)) None (Some (pairs ++ pair ∷ []))) is_there
    ∙ ap (λ b. cond (there || b) None (Some (pairs ++ pair ∷ []))) is_full
