-- Cells that lie one behind the other do not overlap.
use Rattle.std.proofs.Common.{◌≡◌, ℕ, ◌+◌, ◌-◌, ◌*◌, ◌≤◌, List, [], ◌∷◌, length, inl, sym, ap, ◌∙◌, arith}
use Rattle.std.proofs.lemmas.Option.{same_Some}
use Rattle.pw_data.specs.declared.item.Item.{Item}
use Rattle.pw_data.specs.Store.{Cell, LiesAt, LieFrom, ApartFrom, AreApart}

-- a cell lies at one place alone
same-place : (items : List Item) (cell : Cell) (p q : ℕ) → LiesAt items p cell → LiesAt items q cell → p ≡ q
same-place items cell p q a b =
    a.begins ∙ ap (λ (item : Item). item.at + (cell.occurrence - 1) * item.step) (same_Some a.item b.item (sym a.found ∙ b.found)) ∙ sym b.begins

-- cells from a place on are apart from one that ends there or before
apart-from : (items : List Item) (cell : Cell) (end place : ℕ) (others : List Cell) → end ≤ place → ((p : ℕ) → LiesAt items p cell → p + length cell.chars ≡ end) → LieFrom items place others
    → ApartFrom items cell others
apart-from items cell end place [] before ends lie = tt
apart-from items cell end place (other ∷ others) before ends lie = (
  λ p q at_p at_q. inl (omega (arith, ends p at_p, same-place items other q place at_q lie.0)),
  apart-from items cell end (place + length other.chars) others (omega arith) ends lie.1,
)

-- cells that lie one behind the other are apart
pub are-apart : (items : List Item) (place : ℕ) (cells : List Cell) → LieFrom items place cells → AreApart items cells
are-apart items place [] lie = tt
are-apart items place (cell ∷ cells) lie = (
  apart-from items cell (place + length cell.chars) (place + length cell.chars) cells (omega arith) (λ p at. ap (λ n. n + length cell.chars) (same-place items cell p place at lie.0)) lie.1,
  are-apart items (place + length cell.chars) cells lie.1,
)
