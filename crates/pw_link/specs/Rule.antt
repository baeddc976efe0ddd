-- The rule of a lane's channel: what it holds, and what each pass knows.
use Rattle.std.specs.Prelude.{◌≡◌, ℕ, List, [], ◌∷◌, ◌++◌, Option, Some, None}
use mathlib.Core.Option.{some}
use lib.ListN.{get_elem?}
use Rattle.pw_link.specs.declared.rule.PassNote.{PassNote}

module _ {M : Type 0} where
  -- what a pass knows
  abbrev pub note : Option (List M) → Option (List M) → Option M → PassNote M
  note took got due = record { took = took; got = got; due = due }

  -- a list that is known grows at its end
  abbrev pub longer : Option (List M) → M → Option (List M)
  longer None x = None
  longer (Some l) x = Some (l ++ x ∷ [])

-- one pass at most has the part, and P holds of it
pub record Sole {M X : Type 0} (part : PassNote M → Option X) (P : X → Type 0) (views : List (PassNote M)) : Type 0 where
  pub at : ℕ
  pub only : (pass : ℕ) (v : PassNote M) (x : X) → get_elem? views pass ≡ some v → part v ≡ Some x → (pass ≡ at) × P x

-- What was taken from the channel is a prefix of what it took, and it holds the rest. The primary's pass knows what it
-- took, the backup's what was taken, and one pass at most a message that the channel holds, which is then all that it holds.
pub record IsChannelInOrder {M : Type 0} (items : List M) (views : List (PassNote M)) : Type 0 where
  pub took : List M
  pub got : List M
  pub rest : took ≡ got ++ items
  pub primary : Sole (λ v. v.took) (λ l. l ≡ took) views
  pub backup : Sole (λ v. v.got) (λ l. l ≡ got) views
  pub waiting : Sole (λ v. v.due) (λ x. items ≡ x ∷ []) views
