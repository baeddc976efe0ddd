-- The tokens that are counted, with the names in front of those that are left, are the names in front.
use Rattle.std.proofs.Common.{◌≡◌, ◌+◌, length, take_while}
use Rattle.pw_data.specs.Names.{has_name}
use Rattle.pw_divisions.specs.Divisions.{is_parameter}
use Rattle.pw_divisions.proofs.using.parameter_count.Given as goal

abbrev pub invariant-loop-token : goal.invariant-loop-token
invariant-loop-token l = record {
  within : l.count + length l.rest ≡ length l.cursor.tokens;
  so_far : l.count + length (take_while (is_parameter l.cursor.text (has_name l.names)) l.rest)
      ≡ length (take_while (is_parameter l.cursor.text (has_name l.names)) l.cursor.tokens);
}

abbrev pub decreases-loop-token : goal.decreases-loop-token
decreases-loop-token l = length l.rest
