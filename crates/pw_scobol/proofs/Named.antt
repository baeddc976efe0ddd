-- Each name of USING is that of an item.
use Rattle.std.proofs.Common.{◌≡◌, ℕ, false, true, List, get_or, map, All, Ok, ◌∙◌}
use Rattle.std.proofs.lemmas.Bool.{and_parts}
use Rattle.std.proofs.lemmas.List.Elements.{All-map}
use Rattle.pw_text.specs.declared.token.TokenKind.TheVariants as kind
use Rattle.pw_text.specs.declared.token.Token.{Token}
use Rattle.pw_text.specs.Cursor.{has_kind, spelling}
use Rattle.pw_data.specs.Parts.{part_of, parts_of}
use Rattle.pw_data.specs.Layouts.{Laid, layout_of}
use Rattle.pw_divisions.specs.Divided.{Divided}
use Rattle.pw_divisions.specs.Entries.{division_entries_of}
use Rattle.pw_divisions.specs.Names.{upper_name}
use Rattle.pw_divisions.specs.Divisions.{parameters, is_parameter}
use Rattle.pw_scobol.specs.Using.{IsParameter}
use Rattle.pw_scobol.proofs.Items.{item-of_entry}
use Rattle.pw_scobol.proofs.Parameters.{parameter-of, read-parameter, entry-among, same-upper}
use Rattle.pw_scobol.proofs.Divided.{HasUsing}

-- a token of USING is the name of an item
named : (text : List ℕ) (parts : Divided) (layout : Laid) (using : HasUsing text parts) → layout_of text parts.stored false ≡ Ok layout
    → (token : Token) → is_parameter text (parameters text using.linkage) token ≡ true → IsParameter layout (upper_name text token)
named text parts layout using laid token is =
    let found = parameter-of text (division_entries_of using.linkage) (spelling text token) (and_parts (has_kind kind.Word token) (parameters text using.linkage (spelling text token)) is).1 in
    let read = read-parameter text found.tokens found.name found.name_is in
    let among = entry-among text (parts_of text parts.stored) (part_of true found.tokens) read.entry (using.are_parts found.tokens found.among) read.is in
    let item = item-of_entry text parts.stored false layout laid read.entry (spelling text found.name) (upper_name text token) among read.name_is
    (same-upper (spelling text found.name) (spelling text token) found.same) in
    record { item = item.item; found = item.found; level = item.of.level ∙ read.level; linked = item.of.linked ∙ read.linked }

-- each of the names is
pub all-named : (text : List ℕ) (parts : Divided) (layout : Laid) → HasUsing text parts → layout_of text parts.stored false ≡ Ok layout
    → All (IsParameter layout) (map (upper_name text) parts.using_names)
all-named text parts layout using laid =
    All-map (IsParameter layout) (upper_name text) parts.using_names
    (λ k d within. named text parts layout using laid (get_or parts.using_names k d) (using.are_named k d within))
