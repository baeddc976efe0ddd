-- Readers: each gives a value and what is left behind it, or nothing where it finds none.
use Rattle.std.specs.Prelude.{Option, None, Some}

-- a reader of what is left of something
abbrev pub ReaderOf : Type 0 → Type 0 → Type 0
ReaderOf Left A = Left → Option (A × Left)

-- behind what was read goes on the reader that the value chooses
abbrev pub and_then : {Left A B : Type 0} → Option (A × Left) → (A → ReaderOf Left B) → Option (B × Left)
and_then None next = None
and_then (Some found) next = next found.0 found.1

-- reads one thing, and then what that asks for
infixl 10 ◌>>=◌
abbrev pub ◌>>=◌ : {Left A B : Type 0} → ReaderOf Left A → (A → ReaderOf Left B) → ReaderOf Left B
first >>= next = λ left. and_then (first left) next

-- reads one thing, which is passed over, and then another
infixl 10 ◌>>◌
abbrev pub ◌>>◌ : {Left A B : Type 0} → ReaderOf Left A → ReaderOf Left B → ReaderOf Left B
first >> second = first >>= (λ _. second)

-- a value, for which nothing is read
abbrev pub pure : {Left A : Type 0} → A → ReaderOf Left A
pure value = λ left. Some (value, left)

-- nothing is found
abbrev pub fails : {Left A : Type 0} → ReaderOf Left A
fails = λ left. None
