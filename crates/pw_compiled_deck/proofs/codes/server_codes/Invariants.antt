-- The codes so far, with those of the servers that are left, are all.
use Rattle.std.proofs.Common.{◌≡◌, ◌++◌, All, drop, map}
use Rattle.pw_compiler_laws.specs.Systems.{code_in}
use Rattle.pw_compiled_deck.specs.Short.{IsShort}
use Rattle.pw_compiled_deck.specs.Whole.{of_server}
use Rattle.pw_compiled_deck.proofs.codes.server_codes.Given as goal

abbrev pub invariant-loop-server : goal.invariant-loop-server
invariant-loop-server l = record {
  codes : l.codes ++ map (code_in l.links 0) (map of_server (drop l.server-index l.servers)) ≡ map (code_in l.links 0) (map of_server l.servers);
  short : All IsShort l.codes;
}
