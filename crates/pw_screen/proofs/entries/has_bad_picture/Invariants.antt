-- None of the tokens so far is a bad picture.
use Rattle.std.proofs.Common.{◌≡◌, drop}
use Rattle.std.specs.List.{list_any}
use Rattle.pw_data.specs.Entries.{is_bad_picture}
use Rattle.pw_screen.proofs.entries.has_bad_picture.Given as goal

abbrev pub invariant-loop-token : goal.invariant-loop-token
invariant-loop-token l = list_any (is_bad_picture l.part.text) (drop l.token-index l.part.tokens) ≡ list_any (is_bad_picture l.part.text) l.part.tokens
