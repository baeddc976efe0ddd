-- What is left of bytes behind others, and the image behind the answer that ends a transaction.
use Rattle.std.specs.Prelude.{◌≡◌, ℕ, ◌==◌, Bool, true, false, List, [], ◌∷◌, ◌++◌, Option, Some, None, if◌then◌else◌}
use Rattle.pw_code.specs.Courses.{is_advisory}
use Rattle.pw_code.specs.declared.context.Context.{Context}
use Rattle.pw_code_meaning.specs.Answers.{unit_end_put}
use Rattle.pw_code_meaning.specs.Config.{closed}
use Rattle.pw_image.specs.Image.{count_bytes, mark, truth}
use Rattle.pw_world_state.specs.Asked.{opened}

-- what stands behind these bytes at the front of others, none where those begin otherwise
abbrev pub left_behind : List ℕ → List ℕ → Option (List ℕ)
left_behind [] bytes = Some bytes
left_behind (one ∷ front) [] = None
left_behind (one ∷ front) (byte ∷ bytes) = if byte == one then left_behind front bytes else None

-- the same of bytes that may be missing
abbrev pub left_of : List ℕ → Option (List ℕ) → Option (List ℕ)
left_of front None = None
left_of front (Some bytes) = left_behind front bytes

-- the second is what is left of the first behind these bytes
pub record IsRestBehind (front : List ℕ) (first last : Option (List ℕ)) : Type 0 where
  pub is : last ≡ left_of front first

-- nothing is left
abbrev pub is_all : Option (List ℕ) → Bool
is_all (Some []) = true
is_all _ = false

-- the context of a program at the end of a transaction, behind the answer
abbrev pub behind_end : Context → Context
behind_end context = closed (unit_end_put (opened context))

-- what stands in an image before its cells
abbrev pub number_bytes : Context → List ℕ
number_bytes context =
    mark ++ (count_bytes context ++ (truth context.in_unit ∷ [] ++ (truth (is_advisory context.course) ∷ [])))

-- what stands in an image before the number of its programs
abbrev pub head_bytes : Context → List ℕ
head_bytes context =
    mark ++ (count_bytes context ++ (truth context.in_unit ∷ [] ++ (truth (is_advisory context.course) ∷ [] ++ context.screen)))
