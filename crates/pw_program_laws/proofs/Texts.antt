-- What is read of a store and put into it, by the sizes of its items.
use Rattle.std.proofs.Common.{◌≡◌, ℕ, zero, suc, ◌+◌, Bool, true, false, List, [], ◌∷◌, ◌++◌, length, drop, if◌then◌else◌, refl, sym, ap, ◌∙◌, subst, arith}
use Rattle.std.proofs.lemmas.List.{append-nil, length-append, length-take, length-replicate}
use Rattle.pw_data.specs.Store.{Cell}
use Rattle.pw_picture.specs.Text.{fitted}
use Rattle.pw_program_laws.specs.Texts.{HaveSizes, dealt_from, one_text, said, text_at, texts_from, texts_in, with_moved, with_moves, with_text}
use Rattle.pw_tree_meaning.specs.Moves.{moves}
use Rattle.pw_tree_meaning.specs.Operands.{ResolvedOperand, Fixed, Stored, value_in}
use Rattle.pw_tree_meaning.specs.Store.{Spot, Store, chars_at, chars_from, lies_in, put_at, put_from}
use Rattle.pw_tree_meaning.specs.Values.{Chars}

pub length-fitted : (size : ℕ) (text : List ℕ) → length (fitted size text) ≡ size
length-fitted size text = simp (length-append, length-take, length-replicate) (omega arith)

-- ---- reading

text-first : (text : List ℕ) (texts : List (List ℕ)) → text ++ one_text texts ≡ one_text (text ∷ texts)
text-first text [] = append-nil text
text-first text (next ∷ texts) = refl

text-by : (b : Bool) (text chars : List ℕ) (texts : List (List ℕ)) → chars ≡ one_text texts
    → (if b then text else []) ++ chars ≡ one_text (if b then text ∷ texts else texts)
text-by true text chars texts e = ap (λ c. text ++ c) e ∙ text-first text texts
text-by false text chars texts e = e

chars_from-texts : (spot : Spot) (place : ℕ) (sizes : List ℕ) (store : Store) → HaveSizes sizes (texts_in store)
    → chars_from spot place store ≡ one_text (texts_from spot place sizes (texts_in store))
chars_from-texts spot place [] [] sized = refl
chars_from-texts spot place [] (cell ∷ cells) sized = absurd sized
chars_from-texts spot place (size ∷ sizes) [] sized = absurd sized
chars_from-texts spot place (size ∷ sizes) (cell ∷ cells) sized =
    let P : ℕ → Type 0 = λ n. chars_from spot place (cell ∷ cells) ≡ one_text (texts_from spot place (n ∷ sizes) (texts_in (cell ∷ cells))) in
    subst P sized.0
    (text-by (lies_in spot place) cell.chars _ _ (chars_from-texts spot (place + length cell.chars) sizes cells sized.1))

-- what an item says
pub chars_at-texts : (spot : Spot) (sizes : List ℕ) (store : Store) (texts : List (List ℕ)) → texts_in store ≡ texts → HaveSizes sizes texts
    → chars_at spot store ≡ text_at spot sizes texts
chars_at-texts spot sizes store texts is sized =
    let P : List (List ℕ) → Type 0 = HaveSizes sizes in
    chars_from-texts spot 0 sizes store (subst P (sym is) sized) ∙ ap (text_at spot sizes) is

pub value_in-texts : (found : ResolvedOperand) (sizes : List ℕ) (store : Store) (texts : List (List ℕ)) → texts_in store ≡ texts → HaveSizes sizes texts
    → value_in found store ≡ said sizes texts found
value_in-texts (Stored spot) sizes store texts is sized = ap (Chars spot.picture) (chars_at-texts spot sizes store texts is sized)
value_in-texts (Fixed value) sizes store texts is sized = refl

-- ---- writing

put-by : (b : Bool) (cell : Cell) (new : List ℕ) (one other : Store) (texts : List ℕ → List (List ℕ)) (less chars : List ℕ) → texts_in one ≡ texts less → texts_in other ≡ texts chars
    → texts_in (if b then record cell { chars = new } ∷ one else cell ∷ other) ≡ (if b then new else cell.chars) ∷ texts (if b then less else chars)
put-by true cell new one other texts less chars e1 e2 = ap (λ xs. new ∷ xs) e1
put-by false cell new one other texts less chars e1 e2 = ap (λ xs. cell.chars ∷ xs) e2

put_from-texts : (spot : Spot) (chars : List ℕ) (place : ℕ) (sizes : List ℕ) (store : Store) → HaveSizes sizes (texts_in store)
    → texts_in (put_from spot chars place store) ≡ dealt_from spot chars place sizes (texts_in store)
put_from-texts spot chars place [] [] sized = refl
put_from-texts spot chars place [] (cell ∷ cells) sized = absurd sized
put_from-texts spot chars place (size ∷ sizes) [] sized = absurd sized
put_from-texts spot chars place (size ∷ sizes) (cell ∷ cells) sized =
    let P : ℕ → Type 0 = λ n. texts_in (put_from spot chars place (cell ∷ cells)) ≡ dealt_from spot chars place (n ∷ sizes) (texts_in (cell ∷ cells)) in
    subst P sized.0
    (put-by (lies_in spot place) cell (fitted (length cell.chars) chars) (put_from spot (drop (length cell.chars) chars) (place + length cell.chars) cells)
    (put_from spot chars (place + length cell.chars) cells) (λ c. dealt_from spot c (place + length cell.chars) sizes (texts_in cells)) (drop (length cell.chars) chars) chars
    (put_from-texts spot (drop (length cell.chars) chars) (place + length cell.chars) sizes cells sized.1)
    (put_from-texts spot chars (place + length cell.chars) sizes cells sized.1))

pub put_at-texts : (spot : Spot) (chars : List ℕ) (sizes : List ℕ) (store : Store) (texts : List (List ℕ)) → texts_in store ≡ texts → HaveSizes sizes texts
    → texts_in (put_at spot chars store) ≡ with_text spot chars sizes texts
put_at-texts spot chars sizes store texts is sized =
    let P : List (List ℕ) → Type 0 = HaveSizes sizes in
    put_from-texts spot chars 0 sizes store (subst P (sym is) sized) ∙ ap (with_text spot chars sizes) is

dealt-by : (b : Bool) (size : ℕ) (chars text : List ℕ) → length text ≡ size → length (if b then fitted size chars else text) ≡ size
dealt-by true size chars text own = length-fitted size chars
dealt-by false size chars text own = own

-- the sizes stay
pub dealt-sized : (spot : Spot) (chars : List ℕ) (place : ℕ) (sizes : List ℕ) (texts : List (List ℕ)) → HaveSizes sizes texts
    → HaveSizes sizes (dealt_from spot chars place sizes texts)
dealt-sized spot chars place [] [] sized = sized
dealt-sized spot chars place [] (text ∷ texts) sized = absurd sized
dealt-sized spot chars place (size ∷ sizes) [] sized = absurd sized
dealt-sized spot chars place (size ∷ sizes) (text ∷ texts) sized = (
  dealt-by (lies_in spot place) size chars text sized.0,
  dealt-sized spot (if lies_in spot place then drop size chars else chars) (place + size) sizes texts sized.1,
)

-- ---- moves

pub moves-sized : (source : ResolvedOperand) (spots : List Spot) (sizes : List ℕ) (texts : List (List ℕ)) → HaveSizes sizes texts
    → HaveSizes sizes (with_moves source spots sizes texts)
moves-sized source [] sizes texts sized = sized
moves-sized source (spot ∷ spots) sizes texts sized = moves-sized source spots sizes _ (dealt-sized spot _ 0 sizes texts sized)

pub moves-texts : (source : ResolvedOperand) (spots : List Spot) (sizes : List ℕ) (store : Store) (texts : List (List ℕ)) → texts_in store ≡ texts → HaveSizes sizes texts
    → texts_in (moves source spots store) ≡ with_moves source spots sizes texts
moves-texts source [] sizes store texts is sized = is
moves-texts source (spot ∷ spots) sizes store texts is sized =
    moves-texts source spots sizes _ (with_moved (said sizes texts source) spot sizes texts)
    (put_at-texts spot _ sizes store texts is sized
    ∙ ap (λ value. with_moved value spot sizes texts) (value_in-texts source sizes store texts is sized))
    (dealt-sized spot _ 0 sizes texts sized)

-- ---- given sizes

-- the first of some texts
abbrev pub first_of : List (List ℕ) → List ℕ
first_of [] = []
first_of (text ∷ texts) = text

-- the one at a place
abbrev pub text_no : ℕ → List (List ℕ) → List ℕ
text_no zero texts = first_of texts
text_no (suc n) texts = text_no n (drop 1 texts)

-- as many texts as sizes
abbrev pub parted : List ℕ → List (List ℕ) → List (List ℕ)
parted [] texts = []
parted (size ∷ sizes) texts = first_of texts ∷ parted sizes (drop 1 texts)

-- texts of given sizes, one by one
pub texts-parted : (sizes : List ℕ) (texts : List (List ℕ)) → HaveSizes sizes texts → texts ≡ parted sizes texts
texts-parted [] [] sized = refl
texts-parted [] (text ∷ texts) sized = absurd sized
texts-parted (size ∷ sizes) [] sized = absurd sized
texts-parted (size ∷ sizes) (text ∷ texts) sized = ap (λ rest. text ∷ rest) (texts-parted sizes texts sized.1)
