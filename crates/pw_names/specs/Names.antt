-- The first fault of the names of a deck's programs.
use Rattle.std.specs.Prelude.{List, ◌++◌, map, flat_map, None, Result}
use Rattle.pw_base.specs.declared.fault.Fault.{Fault}
use Rattle.pw_base.specs.First.{unless}
use Rattle.pw_code.specs.declared.links.Links.{Links}
use Rattle.pw_scobol.specs.declared.requester.Requester.{Requester}
use Rattle.pw_server.specs.declared.server.Server.{Server}
use Rattle.pw_operands.specs.Scope.{requester_scope, server_scope}
use Rattle.pw_operands.specs.Resolved.{Each}
use Rattle.pw_scobol.specs.Resolved as of_requester
use Rattle.pw_server.specs.Resolved as of_server
use Rattle.pw_names.specs.Calls.{Lengths, lengths_of, CallScope}
use Rattle.pw_names.specs.Order.{first}
use Rattle.pw_names.specs.Faults.{program_faults}

-- how long the USING items of each requester are
abbrev pub usings_of : List Requester → List Lengths
usings_of requesters = map (λ requester. lengths_of requester.layout requester.using) requesters

-- a requester among others
abbrev pub requester_program : List Lengths → Links → Requester → CallScope
requester_program usings links requester =
    record {
      scope = requester_scope requester.layout requester.screens requester.procedure links;
      usings = usings;
    }

-- a server
abbrev pub server_program : List Lengths → Links → Server → CallScope
server_program usings links server =
    record { scope = server_scope server.layout server.procedure links; usings = usings }

-- the faults of requesters
abbrev pub requester_faults : List Lengths → Links → List Requester → List Fault
requester_faults usings links requesters =
    flat_map (λ requester. program_faults (requester_program usings links requester)) requesters

-- the faults of servers
abbrev pub server_faults : List Lengths → Links → List Server → List Fault
server_faults usings links servers =
    flat_map (λ server. program_faults (server_program usings links server)) servers

-- the faults of all programs
abbrev pub all_faults : List Requester → List Server → Links → List Fault
all_faults requesters servers links =
    requester_faults (usings_of requesters) links requesters
    ++ server_faults (usings_of requesters) links servers

-- nothing, or the first fault
abbrev pub names_of : List Requester → List Server → Links → Result (Unit {0}) Fault
names_of requesters servers links = unless (first None (all_faults requesters servers links)) tt

-- every name of each requester resolves, and every operand has its kind and length
abbrev pub AllRequestersResolve : List Requester → Links → Type 0
AllRequestersResolve requesters links =
    Each (λ one. of_requester.IsResolvedRequester one links) requesters

-- the same of the servers
abbrev pub AllServersResolve : List Server → Links → Type 0
AllServersResolve servers links = Each (λ one. of_server.IsResolvedServer one links) servers
