-- What is found among the places that are left is found among all.
use Rattle.std.proofs.Common.{◌≡◌, length, map}
use Rattle.std.specs.Prelude.{find, slice_get}
use Rattle.std.specs.Str.{str_to_ascii_lowercase}
use Rattle.pw_words.specs.Index.{is_row}
use Rattle.pw_words.proofs.table.place_among.Given as goal

abbrev pub invariant-loop-place : goal.invariant-loop-place
invariant-loop-place l =
    find (λ place. is_row (slice_get (map (λ row. row.now) l.rows) place) (str_to_ascii_lowercase l.word)) l.rest
    ≡ find (λ place. is_row (slice_get (map (λ row. row.now) l.rows) place) (str_to_ascii_lowercase l.word)) l.places

abbrev pub decreases-loop-place : goal.decreases-loop-place
decreases-loop-place l = length l.rest
