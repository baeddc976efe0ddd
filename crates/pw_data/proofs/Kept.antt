-- What entries keep of their pictures.
use Rattle.std.proofs.Common.{◌≡◌, ℕ, suc, List, [], ◌∷◌, All, Option, Some, None, refl, sym, ap, ◌∙◌, subst, arith}
use Rattle.std.specs.Prelude.{option_map, option_and_then}
use Rattle.std.proofs.lemmas.List.Elements.{All-nil, All-cons, All-take, All-drop}
use Rattle.pw_picture.specs.declared.picture.Picture.{Picture}
use Rattle.pw_picture.specs.declared.picture.Picture.TheVariants.{Text, Number, Edited}
use Rattle.pw_data.specs.declared.literal.Literal.{Literal}
use Rattle.pw_data.specs.declared.entry.Entry.{Entry}
use Rattle.pw_data.specs.Entries.{picture_of_kind, kind_of, picture_at, KeepsPicture}
use Rattle.pw_data.specs.Laid.{initial_by}
use Rattle.pw_data.proofs.Cells.{Each}
use Rattle.pw_data.proofs.Loops.{Cut}

-- an item begins by its kind
initial_by-kind : (value : Option Literal) (p : Option Picture) → initial_by value (option_map picture_of_kind (option_and_then kind_of p)) ≡ initial_by value p
initial_by-kind value None = refl
initial_by-kind value (Some (Text size)) = refl
initial_by-kind value (Some (Number digits places signed)) = refl
initial_by-kind value (Some (Edited symbols)) = refl

-- an entry's item begins by the kind that it keeps
pub initial-kept : (text : List ℕ) (e : Entry) (value : Option Literal) → KeepsPicture text e → initial_by value (option_map picture_of_kind e.kind) ≡ initial_by value (picture_at text e.clauses.picture)
initial-kept text e value kept = ap (λ kind. initial_by value (option_map picture_of_kind kind)) kept.0 ∙ initial_by-kind value (picture_at text e.clauses.picture)

pub Each-All : (P : Entry → Type 0) (entries : List Entry) → Each P entries → All P entries
Each-All P [] each = All-nil P
Each-All P (e ∷ es) each = All-cons P e es each.0 (Each-All P es each.1)

-- what holds of entries holds of the first, of its members and of those behind them
module _ (P : Entry → Type 0) (rest : List Entry) (entry : Entry) (behind members next : List Entry) (count : ℕ) (cut : Cut rest entry behind members next count) (all : All P rest) where
  all-there : All P (entry ∷ behind)
  all-there = subst (All P) cut.rest_is all

  all-behind : All P behind
  all-behind k d within = all-there (suc k) d (omega arith)

  pub all-first : P entry
  all-first = all-there 0 entry (omega arith)

  pub all-members : All P members
  all-members = subst (All P) (sym cut.members_is) (All-take P count behind all-behind)

  pub all-next : All P next
  all-next = subst (All P) (sym cut.next_is) (All-drop P count behind all-behind)
