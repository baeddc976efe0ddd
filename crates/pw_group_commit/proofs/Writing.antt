-- Lines that were written, one piece behind another.
use Rattle.std.proofs.Common.{◌≡◌, ◌∙◌, ◌++◌, [], ap, sym, ℕ, List, Option, take, drop}
use Rattle.std.proofs.KnownBytes.{Appends-trans}
use Rattle.std.proofs.lemmas.List.Concat.{flat_map-append}
use Rattle.std.proofs.lemmas.List.{append-nil, append_assoc, take-append-drop}
use Rattle.std.specs.Io.KnownBytes.{Appends}
use Rattle.pw_group_commit.specs.Lines.{WritesLines, line_of, lines_of}
use Rattle.pw_group_commit.specs.declared.follower.UnitName.{UnitName}

-- a sink took the first bytes of a piece
pub writes-front : (are_whole : Type 0) (count : ℕ) (lines : List ℕ) (before now : Option (List ℕ)) → (are_whole → drop count lines ≡ [])
    → Appends before now (take count lines) → WritesLines are_whole lines before now
writes-front are_whole count lines before now whole wrote = record {
  own = take count lines;
  rest = drop count lines;
  are = sym (take-append-drop count lines);
  whole = whole;
  wrote = wrote;
}

-- more lines behind those that were all written
pub writes-more : (was_whole more_whole are_whole : Type 0) (names : List (List ℕ)) (told units : List UnitName) (start before now : Option (List ℕ))
    → was_whole → WritesLines was_whole (lines_of names told) start before → WritesLines more_whole (lines_of names units) before now
    → (are_whole → more_whole) → WritesLines are_whole (lines_of names (told ++ units)) start now
writes-more was_whole more_whole are_whole names told units start before now holds one two on = record {
  own = one.own ++ two.own;
  rest = two.rest;
  are =
      flat_map-append (line_of names) told units
      ∙ ap (λ (l : List ℕ). l ++ lines_of names units) (one.are ∙ ap (λ (l : List ℕ). one.own ++ l) (one.whole holds) ∙ append-nil one.own)
      ∙ ap (λ (l : List ℕ). one.own ++ l) two.are
      ∙ sym (append_assoc one.own two.own two.rest);
  whole = λ w. two.whole (on w);
  wrote = Appends-trans start before now one.own two.own one.wrote two.wrote;
}
