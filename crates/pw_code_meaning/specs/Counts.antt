-- What the counts of a context say of the path for which it stands.
use Rattle.std.specs.Prelude.{◌≡◌, ℕ, ◌+◌, not, List}
use Rattle.pw_code.specs.declared.context.Context.{Context}
use Rattle.pw_onecopy.specs.Path.{PathAnswer, RefreshNumber, entries_on, is_outside, next_number, unit_number}

-- its next refresh number
abbrev pub next_refresh_number : Context → RefreshNumber
next_refresh_number context =
    record { phase = context.phase; attempt = context.attempt; k = context.shown + 1 }

-- the number of its next unit, or of the one that it is in
abbrev pub unit_in : Context → ℕ
unit_in context = context.units + 1

-- the counts of a context are those of a path
pub record CountsOf (path : List PathAnswer) (context : Context) : Type 0 where
  pub unit : unit_in context ≡ unit_number path
  pub outside : not context.in_unit ≡ is_outside path
  pub number : next_refresh_number context ≡ next_number path
  pub entries : context.entries ≡ entries_on path
