-- Keys in a set that keeps their order.
use Rattle.std.proofs.Common.{◌≡◌, ℕ, Bool, true, false, cond, ◌||◌, List, [], ◌∷◌, ◌++◌, map, Bor, refl, ap, ◌∙◌}
use Rattle.std.specs.List.{list_any}
use Rattle.std.specs.Str.{bytes_eq}
use Rattle.std.proofs.lemmas.List.{map-append}
use Rattle.indexmap.specs.IndexSet.{insert_key}
use Rattle.pw_sections.specs.Keys.{is_seen, with_key}

abbrev pub texts : List (Bor (List ℕ)) → List (List ℕ)
texts keys = map (λ key. key.now) keys

abbrev pub same_key : Bor (List ℕ) → Bor (List ℕ) → Bool
same_key a b = bytes_eq a.now b.now

-- a key is seen among the texts where it is among the keys
pub seen_in : (keys : List (Bor (List ℕ))) (key : Bor (List ℕ)) → list_any (same_key key) keys ≡ is_seen (texts keys) key.now
seen_in [] key = refl
seen_in (k ∷ keys) key = ap (λ rest. bytes_eq key.now k.now || rest) (seen_in keys key)

-- and it is put behind the others where it is new
pub put_in : (keys next : List (Bor (List ℕ))) (key : Bor (List ℕ)) → next ≡ insert_key same_key keys key → texts next ≡ with_key (texts keys) key.now
put_in keys next key inserted = ap texts inserted ∙ by_test (list_any (same_key key) keys) (is_seen (texts keys) key.now) (seen_in keys key)
  where
    by_test : (a b : Bool) → a ≡ b → texts (cond a keys (keys ++ key ∷ [])) ≡ cond b (texts keys) (texts keys ++ key.now ∷ [])
    by_test true b is = ap (λ t. cond t (texts keys) (texts keys ++ key.now ∷ [])) is
    by_test false b is = map-append (λ (k : Bor (List ℕ)). k.now) keys (key ∷ []) ∙ ap (λ t. cond t (texts keys) (texts keys ++ key.now ∷ [])) is
