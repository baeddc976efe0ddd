use Rattle.std.proofs.Common.{◌≡◌, List, map, sym, ap, ◌∙◌}
use Rattle.pw_code.specs.declared.system.ClassInfo.{ClassInfo}
use Rattle.pw_scobol.specs.declared.requester.Requester.{Requester}
use Rattle.pw_server.specs.declared.server.Server.{Server}
use Rattle.pw_compiler_laws.specs.Systems.{code_in, codes_in}
use Rattle.pw_compiled_deck.specs.Whole.{of_requester, of_server}
use Rattle.pw_compiled_deck.proofs.Coding.{linked, made}
use Rattle.pw_compiled_deck.proofs.deck.compiled.Goals as goal

pub returns-clause-deck : goal.returns-clause-deck
returns-clause-deck c =
    let deck = c.args.deck in
    let names = c.in_ok-requester_names.field-0 in
    let classes = c.in_ok-class_names.field-0 in
    let first : c.as_slice.result.now ≡ deck.requesters = cc in
    let second : c.as_slice-2.result.now ≡ deck.told.system.classes = cc in
    let third : c.as_slice-3.result.now ≡ deck.requesters = cc in
    let fourth : c.as_slice-4.result.now ≡ deck.servers = cc in
    made deck names classes c.in_ok-programs.programs c.in_ok-servers.servers c.in_ok-screens.screens
    (c.in_ok-requester_names.ensures ∙ ap (map (λ (r : Requester). r.name)) first)
    (c.in_ok-class_names.ensures ∙ ap (map (λ (class : ClassInfo). class.name)) second)
    (c.in_ok-programs.ensures.codes ∙ ap (λ (rs : List Requester). codes_in (linked deck names classes) 0 (map of_requester rs)) third)
    (c.in_ok-servers.ensures.codes ∙ ap (λ (ss : List Server). map (code_in (linked deck names classes) 0) (map of_server ss)) fourth)
    c.in_ok-screens.ensures
