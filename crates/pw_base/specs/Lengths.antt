-- How long the keys and the contents of record files may be.
use Rattle.std.specs.Prelude.{ℕ, ◌≤◌, List, length}
use Rattle.pw_base.specs.Limits.{most_content}

-- a key may have this many bytes
abbrev pub IsKeyLength : ℕ → Type 0
IsKeyLength n = (1 ≤ n) × (n ≤ 255)

-- a content has a whole key, and at most 4,000 bytes
abbrev pub IsContent : ℕ → List ℕ → Type 0
IsContent n content = (n ≤ length content) × (length content ≤ most_content)
