use Rattle.std.proofs.Common.{◌≡◌, map, rules, refl, ap, ◌∙◌}
use Rattle.pw_base.specs.First.{Refuses}
use Rattle.pw_code.specs.declared.links.Links.{Links}
use Rattle.pw_pathcom.specs.declared.commands.ClassCommand.{ClassCommand}
use Rattle.pw_scobol.specs.declared.requester.Requester.{Requester}
use Rattle.pw_server.specs.declared.server.Server.{Server}
use Rattle.pw_deck_tables.proofs.Good.{good_names, good_few}
use Rattle.pw_deck.specs.Deck.{deck_in}
use Rattle.pw_deck.specs.Parts.{program_names, server_names}
use Rattle.pw_deck.proofs.Finish.{Looked, names_refused, told_refused, deck_told, few_programs}
use Rattle.pw_deck.proofs.Good.{parts_are}
use Rattle.pw_deck.proofs.deck.finish.Goals as goal

pub tell-requires-clause-names : goal.tell-requires-clause-names
tell-requires-clause-names c = good_names _ _ _ (parts_are c.args.bytes.now c.args.parts c.requires.parts).objects

pub tell-requires-clause-counts : goal.tell-requires-clause-counts
tell-requires-clause-counts c = good_few _ _ _ (parts_are c.args.bytes.now c.args.parts c.requires.parts).objects

pub returns-in_err-names : goal.returns-in_err-names
returns-in_err-names c =
    let parts = c.args.parts in
    let first : c.as_slice.result.now ≡ parts.requesters = cc in
    let classes : c.as_slice-2.result.now ≡ parts.objects.commands.classes = cc in
    let links : Links = record { programs = c.in_ok-requester_names.field-0; classes = c.in_ok-class_names.field-0; files = parts.objects.files } in
    let looked : Looked c.args.bytes.now parts c.as_slice-3.result.now c.as_slice-4.result.now links = record {
      done = c.in_ok-end_found.field-0;
      ended = c.in_ok-end_found.ensures;
      requesters = cc;
      servers = cc;
      programs = c.in_ok-requester_names.ensures ∙ ap (map (λ (r : Requester). r.name)) first;
      classes = c.in_ok-class_names.ensures ∙ ap (map (λ (class : ClassCommand). class.name)) classes;
      files = refl;
    } in
    let refused : Refuses c.in_err-names.field-0.0 (deck_in c.args.bytes.now parts) =
    names_refused _ c.args.bytes.now parts c.as_slice-3.result.now c.as_slice-4.result.now links looked c.in_err-names.ensures.gives in
    search rules

pub tell-requires-clause-few : goal.tell-requires-clause-few
tell-requires-clause-few c =
    let parts = c.args.parts in
    let first : c.as_slice.result.now ≡ parts.requesters = cc in
    let classes : c.as_slice-2.result.now ≡ parts.objects.commands.classes = cc in
    let links : Links = record { programs = c.in_ok-requester_names.field-0; classes = c.in_ok-class_names.field-0; files = parts.objects.files } in
    let looked : Looked c.args.bytes.now parts c.as_slice-3.result.now c.as_slice-4.result.now links = record {
      done = c.in_ok-end_found.field-0;
      ended = c.in_ok-end_found.ensures;
      requesters = cc;
      servers = cc;
      programs = c.in_ok-requester_names.ensures ∙ ap (map (λ (r : Requester). r.name)) first;
      classes = c.in_ok-class_names.ensures ∙ ap (map (λ (class : ClassCommand). class.name)) classes;
      files = refl;
    } in
    let serving : c.as_slice-5.result.now ≡ parts.servers = cc in
    let given : c.as_slice-6.result.now ≡ c.in_ok-requester_names.field-0 = cc in
    let served : c.as_slice-7.result.now ≡ c.in_ok-server_programs.server_programs = cc in
    let programs : c.as_slice-6.result.now ≡ program_names parts = given ∙ looked.programs in
    let servers : c.as_slice-7.result.now ≡ server_names parts = served ∙ c.in_ok-server_programs.ensures ∙ ap (map (λ (s : Server). s.name)) serving in
    few_programs c.args.bytes.now parts c.as_slice-6.result.now c.as_slice-7.result.now c.requires.parts programs servers

pub returns-in_err-told : goal.returns-in_err-told
returns-in_err-told c =
    let parts = c.args.parts in
    let first : c.as_slice.result.now ≡ parts.requesters = cc in
    let classes : c.as_slice-2.result.now ≡ parts.objects.commands.classes = cc in
    let links : Links = record { programs = c.in_ok-requester_names.field-0; classes = c.in_ok-class_names.field-0; files = parts.objects.files } in
    let looked : Looked c.args.bytes.now parts c.as_slice-3.result.now c.as_slice-4.result.now links = record {
      done = c.in_ok-end_found.field-0;
      ended = c.in_ok-end_found.ensures;
      requesters = cc;
      servers = cc;
      programs = c.in_ok-requester_names.ensures ∙ ap (map (λ (r : Requester). r.name)) first;
      classes = c.in_ok-class_names.ensures ∙ ap (map (λ (class : ClassCommand). class.name)) classes;
      files = refl;
    } in
    let serving : c.as_slice-5.result.now ≡ parts.servers = cc in
    let given : c.as_slice-6.result.now ≡ c.in_ok-requester_names.field-0 = cc in
    let served : c.as_slice-7.result.now ≡ c.in_ok-server_programs.server_programs = cc in
    let programs : c.as_slice-6.result.now ≡ program_names parts = given ∙ looked.programs in
    let servers : c.as_slice-7.result.now ≡ server_names parts = served ∙ c.in_ok-server_programs.ensures ∙ ap (map (λ (s : Server). s.name)) serving in
    let refused : Refuses c.in_err-told.field-0.0 (deck_in c.args.bytes.now parts) =
    told_refused _ c.args.bytes.now parts c.as_slice-3.result.now c.as_slice-4.result.now links c.in_ok-names.field-0 c.as_slice-6.result.now c.as_slice-7.result.now looked
    c.in_ok-names.ensures.gives programs servers c.in_err-told.ensures in
    search rules

pub returns : goal.returns
returns c =
    let parts = c.args.parts in
    let first : c.as_slice.result.now ≡ parts.requesters = cc in
    let classes : c.as_slice-2.result.now ≡ parts.objects.commands.classes = cc in
    let links : Links = record { programs = c.in_ok-requester_names.field-0; classes = c.in_ok-class_names.field-0; files = parts.objects.files } in
    let looked : Looked c.args.bytes.now parts c.as_slice-3.result.now c.as_slice-4.result.now links = record {
      done = c.in_ok-end_found.field-0;
      ended = c.in_ok-end_found.ensures;
      requesters = cc;
      servers = cc;
      programs = c.in_ok-requester_names.ensures ∙ ap (map (λ (r : Requester). r.name)) first;
      classes = c.in_ok-class_names.ensures ∙ ap (map (λ (class : ClassCommand). class.name)) classes;
      files = refl;
    } in
    let serving : c.as_slice-5.result.now ≡ parts.servers = cc in
    let given : c.as_slice-6.result.now ≡ c.in_ok-requester_names.field-0 = cc in
    let served : c.as_slice-7.result.now ≡ c.in_ok-server_programs.server_programs = cc in
    let programs : c.as_slice-6.result.now ≡ program_names parts = given ∙ looked.programs in
    let servers : c.as_slice-7.result.now ≡ server_names parts = served ∙ c.in_ok-server_programs.ensures ∙ ap (map (λ (s : Server). s.name)) serving in
    deck_told c.args.bytes.now parts c.as_slice-3.result.now c.as_slice-4.result.now links c.in_ok-names.field-0 c.as_slice-6.result.now c.as_slice-7.result.now c.in_ok-told.told looked
    c.in_ok-names.ensures.gives programs servers c.in_ok-told.ensures
