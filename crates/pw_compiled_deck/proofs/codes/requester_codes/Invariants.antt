-- The codes so far, with those that are left, are all, and so are the screens.
use Rattle.std.proofs.Common.{◌≡◌, ◌+◌, ◌++◌, ◌<◌, ◌^◌, All, drop, length, map}
use Rattle.pw_compiler_laws.specs.Systems.{codes_in, screens_of}
use Rattle.pw_compiled_deck.specs.Short.{IsShort}
use Rattle.pw_compiled_deck.specs.Whole.{of_requester}
use Rattle.pw_compiled_deck.proofs.codes.requester_codes.Given as goal

abbrev pub invariant-loop-requester : goal.invariant-loop-requester
invariant-loop-requester l = record {
  codes : l.codes ++ codes_in l.links l.first (map of_requester (drop l.requester-index l.requesters)) ≡ codes_in l.links 0 (map of_requester l.requesters);
  short : All IsShort l.codes;
  screens : l.first + length (screens_of (map of_requester (drop l.requester-index l.requesters))) ≡ length (screens_of (map of_requester l.requesters));
  fits : l.first < 2 ^ 32;
}
