-- What is left of bytes behind others.
use Rattle.std.proofs.Common.{◌≡◌, ℕ, ◌+◌, ◌<◌, ◌==◌, ◌&&◌, Bool, true, false, List, [], ◌∷◌, ◌++◌, length, take, drop, get_or, Option, Some, None, refl, ap, sym, ◌∙◌, cond}
use Rattle.std.proofs.lemmas.List.{flat_map_more, get_or_default, take_more}
use Rattle.std.specs.Borrow.{Bor}
use Rattle.std.specs.List.{flat_map}
use Rattle.std.specs.Option.{MatchOption, option_copied}
use Rattle.std.specs.Str.{bytes_eq}
use Rattle.pw_entry_tests.specs.Images.{IsRestBehind, is_all, left_behind, left_of}

-- ---- one front behind the other

mutual-of : (c : Bool) (b : List ℕ) (left : Option (List ℕ)) (both : Option (List ℕ)) → both ≡ left_of b left
    → cond c both None ≡ left_of b (cond c left None)
mutual-of true b left both e = e
mutual-of false b left both e = refl

behind-append : (a b bytes : List ℕ) → left_behind (a ++ b) bytes ≡ left_of b (left_behind a bytes)
behind-append [] b bytes = refl
behind-append (one ∷ a) b [] = refl
behind-append (one ∷ a) b (byte ∷ bytes) =
    mutual-of (byte == one) b (left_behind a bytes) (left_behind (a ++ b) bytes) (behind-append a b bytes)

pub left-append : (a b : List ℕ) (left : Option (List ℕ)) → left_of (a ++ b) left ≡ left_of b (left_of a left)
left-append a b None = refl
left-append a b (Some bytes) = behind-append a b bytes

-- behind nothing all is left
pub left-nothing : (left : Option (List ℕ)) → left_of [] left ≡ left
left-nothing None = refl
left-nothing (Some bytes) = refl

-- ---- all of it

all-of : (c d : Bool) (left : Option (List ℕ)) → d ≡ is_all left → (c && d) ≡ is_all (cond c left None)
all-of true d left e = e
all-of false d left e = refl

-- bytes are others where nothing is left of them behind those
pub is-all : (bytes front : List ℕ) → bytes_eq bytes front ≡ is_all (left_behind front bytes)
is-all [] [] = refl
is-all (byte ∷ bytes) [] = refl
is-all [] (one ∷ front) = refl
is-all (byte ∷ bytes) (one ∷ front) =
    all-of (byte == one) (bytes_eq bytes front) (left_behind front bytes) (is-all bytes front)

-- ---- what `strip_prefix` says

stripped-at : (c : Bool) (front bytes : List ℕ)
    → (bytes_eq (take (length front) bytes) front ≡ true → left_behind front bytes ≡ Some (drop (length front) bytes))
    → (c && bytes_eq (take (length front) bytes) front) ≡ true
    → cond c (left_behind front bytes) None ≡ Some (drop (length front) bytes)
stripped-at true front bytes rest h = rest h
stripped-at false front bytes rest h = cc h

pub stripped : (front bytes : List ℕ) → bytes_eq (take (length front) bytes) front ≡ true
    → left_behind front bytes ≡ Some (drop (length front) bytes)
stripped [] bytes e = refl
stripped (one ∷ front) [] e = cc e
stripped (one ∷ front) (byte ∷ bytes) e = stripped-at (byte == one) front bytes (stripped front bytes) e

refused-at : (c : Bool) (front bytes : List ℕ)
    → (bytes_eq (take (length front) bytes) front ≡ false → left_behind front bytes ≡ None)
    → (c && bytes_eq (take (length front) bytes) front) ≡ false → cond c (left_behind front bytes) None ≡ None
refused-at true front bytes rest h = rest h
refused-at false front bytes rest h = refl

pub refused : (front bytes : List ℕ) → bytes_eq (take (length front) bytes) front ≡ false
    → left_behind front bytes ≡ None
refused [] bytes e = cc e
refused (one ∷ front) [] e = refl
refused (one ∷ front) (byte ∷ bytes) e = refused-at (byte == one) front bytes (refused front bytes) e

-- ---- one piece more of several

module _ {A : Type 0} (spell : A → List ℕ) (xs : List A) (i : ℕ) (x : A) (lt : i < length xs) (is : x ≡ get_or xs i x) where
  pub left-more : (first left new : Option (List ℕ)) → left ≡ left_of (flat_map spell (take i xs)) first → new ≡ left_of (spell x) left
      → new ≡ left_of (flat_map spell (take (i + 1) xs)) first
  left-more first left new so_far e =
      e ∙ ap (λ l. left_of (spell x) l) so_far ∙ sym (left-append (flat_map spell (take i xs)) (spell x) first)
      ∙ ap (λ l. left_of l first) (flat_map_more spell [] (take i xs) x)
      ∙ ap (λ l. left_of (flat_map spell l) first) (ap (λ y. take i xs ++ y ∷ []) is ∙ sym (take_more xs i x lt))

pub strip-left : (front bytes : List ℕ) (r : Option (Bor (List ℕ)))
    → MatchOption r (bytes_eq (take (length front) bytes) front ≡ false)
    (λ x. (bytes_eq (take (length front) bytes) front ≡ true) × (x.now ≡ drop (length front) bytes) × (length x.now + length front ≡ length bytes))
    → option_copied r ≡ left_behind front bytes
strip-left front bytes None h = sym (refused front bytes h)
strip-left front bytes (Some x) h = ap Some h.1 ∙ sym (stripped front bytes h.0)

-- the same of one that is read at its place
pub left-more-at : {A : Type 0} (spell : A → List ℕ) (xs : List A) (i : ℕ) (d : A) → i < length xs → (first left new : Option (List ℕ))
    → left ≡ left_of (flat_map spell (take i xs)) first → IsRestBehind (spell (get_or xs i d)) left new
    → new ≡ left_of (flat_map spell (take (i + 1) xs)) first
left-more-at spell xs i d lt first left new so_far h =
    left-more spell xs i (get_or xs i d) lt (get_or_default xs i d (get_or xs i d) lt) first left new so_far h.is

-- ---- pieces one behind the other

pub piece : (front bytes : List ℕ) (first left : Option (List ℕ)) → left ≡ left_of front first → front ≡ bytes → left ≡ left_of bytes first
piece front bytes first left e is = e ∙ ap (λ l. left_of l first) is

pub two : (a b : List ℕ) (first left last : Option (List ℕ)) → left ≡ left_of a first → last ≡ left_of b left → last ≡ left_of (a ++ b) first
two a b first left last e h = h ∙ (ap (left_of b) e ∙ sym (left-append a b first))
