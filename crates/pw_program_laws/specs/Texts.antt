-- What lies in the items of a store of which only the sizes are known.
use Rattle.std.specs.Prelude.{◌≡◌, ℕ, ◌+◌, List, [], ◌∷◌, ◌++◌, length, map, drop, if◌then◌else◌}
use Rattle.pw_picture.specs.Text.{fitted}
use Rattle.pw_tree_meaning.specs.Moves.{moved_chars}
use Rattle.pw_tree_meaning.specs.Operands.{ResolvedOperand, Stored, Fixed}
use Rattle.pw_tree_meaning.specs.Store.{Spot, Store, lies_in}
use Rattle.pw_tree_meaning.specs.Values.{Value, Chars}

-- the characters of each elementary item, in the order in which they lie
abbrev pub texts_in : Store → List (List ℕ)
texts_in store = map (λ cell. cell.chars) store

-- each text is as long as its size says
abbrev pub HaveSizes : List ℕ → List (List ℕ) → Type 0
HaveSizes [] [] = Unit {0}
HaveSizes (size ∷ sizes) (text ∷ texts) = (length text ≡ size) × HaveSizes sizes texts
HaveSizes _ _ = ⊥

-- the texts that lie in a spot, where the first of these sizes begins at a place
abbrev pub texts_from : Spot → ℕ → List ℕ → List (List ℕ) → List (List ℕ)
texts_from spot place (size ∷ sizes) (text ∷ texts) =
    let rest = texts_from spot (place + size) sizes texts in
    if lies_in spot place then text ∷ rest else rest
texts_from spot place _ _ = []

-- texts, one behind the other
abbrev pub one_text : List (List ℕ) → List ℕ
one_text [] = []
one_text (text ∷ []) = text
one_text (text ∷ next ∷ texts) = text ++ one_text (next ∷ texts)

-- the characters of an item, where its elementary ones have these sizes and texts
abbrev pub text_at : Spot → List ℕ → List (List ℕ) → List ℕ
text_at spot sizes texts = one_text (texts_from spot 0 sizes texts)

-- the texts with characters dealt out over those in a spot: each takes as many as its size
abbrev pub dealt_from : Spot → List ℕ → ℕ → List ℕ → List (List ℕ) → List (List ℕ)
dealt_from spot chars place (size ∷ sizes) (text ∷ texts) =
    (if lies_in spot place then fitted size chars else text)
    ∷ dealt_from spot (if lies_in spot place then drop size chars else chars) (place + size) sizes texts
dealt_from spot chars place _ texts = texts

-- the texts with these characters in an item
abbrev pub with_text : Spot → List ℕ → List ℕ → List (List ℕ) → List (List ℕ)
with_text spot chars sizes texts = dealt_from spot chars 0 sizes texts

-- what an operand says
abbrev pub said : List ℕ → List (List ℕ) → ResolvedOperand → Value
said sizes texts (Stored spot) = Chars spot.picture (text_at spot sizes texts)
said sizes texts (Fixed value) = value

-- the texts with a value moved to an item, and to each of some
abbrev pub with_moved : Value → Spot → List ℕ → List (List ℕ) → List (List ℕ)
with_moved value spot sizes texts = with_text spot (moved_chars spot.picture spot.size value) sizes texts

-- the texts behind the moves of a MOVE, of which each reads its source anew
abbrev pub with_moves : ResolvedOperand → List Spot → List ℕ → List (List ℕ) → List (List ℕ)
with_moves source [] sizes texts = texts
with_moves source (spot ∷ spots) sizes texts =
    with_moves source spots sizes (with_moved (said sizes texts source) spot sizes texts)
