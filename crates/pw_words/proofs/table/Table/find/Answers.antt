use Rattle.std.proofs.Common.{◌≡◌, ℕ, Option, Bool, true, ap, ◌∙◌, map, sym, subst}
use Rattle.std.specs.Prelude.{find, slice_get, IfSome, ◌<◌}
use Rattle.std.specs.Str.{str_to_ascii_lowercase}
use Rattle.std.proofs.lemmas.List.{length-map}
use Rattle.pw_words.specs.Index.{is_row, place_by}
use Rattle.pw_words.proofs.Places.{place_by-all, find-passes, found-within}
use Rattle.pw_words.proofs.table.Table.find.Goals as goal

pub returns-clause-place : goal.returns-clause-place
returns-clause-place g c =
    let rows = map (λ row. row.now) c.self.inside.rows.now in
    let index = map (λ places. places.now) c.self.inside.index.now in
    let by_index : c.place_among.result ≡ place_by index rows (str_to_ascii_lowercase c.args.word.now) =
    c.place_among.ensures
    ∙ ap (λ places. find (λ place. is_row (slice_get rows place) (str_to_ascii_lowercase c.args.word.now)) places) c.places_of.ensures in
    rw (← c.self.view_is) (by_index ∙ place_by-all index rows c.args.word.now c.self.invariant.2)

pub returns-clause-bound : goal.returns-clause-bound
returns-clause-bound g c =
    let rows = map (λ row. row.now) c.self.inside.rows.now in
    let folded = str_to_ascii_lowercase c.args.word.now in
    let test : ℕ → Bool = λ place. is_row (slice_get rows place) folded in
    let Passes : Option ℕ → Type 0 = λ found. IfSome found (λ place. test place ≡ true) in
    let passes : IfSome c.place_among.result (λ place. test place ≡ true) = subst Passes (sym c.place_among.ensures) (find-passes test c.places_of.result.now) in
    let Within : ℕ → Type 0 = λ n. IfSome c.place_among.result (λ place. place < n) in
    subst Within (length-map c.self.inside.rows.now (λ row. row.now) ∙ c.self.invariant.0) (found-within rows folded c.place_among.result passes)
