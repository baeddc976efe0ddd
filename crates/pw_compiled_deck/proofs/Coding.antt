-- The codes and the screens of programs, one program further, and the deck that they make.
use Rattle.std.proofs.Common.{◌≡◌, ℕ, suc, ◌+◌, ◌<◌, List, [], ◌∷◌, ◌++◌, map, length, get_or, drop, refl, sym, ap, ◌∙◌, append_assoc, append-nil, add-one, arith}
use Rattle.std.proofs.Math.Seq.{drop-cons}
use Rattle.std.proofs.lemmas.List.{length-append}
use Rattle.pw_code.specs.declared.code.Code.{Code}
use Rattle.pw_code.specs.declared.field.ScreenTable.{ScreenTable}
use Rattle.pw_code.specs.declared.links.Links.{Links}
use Rattle.pw_code.specs.declared.lock.LockRule.TheVariants.{ReadersShare}
use Rattle.pw_code.specs.declared.system.ClassInfo.{ClassInfo}
use Rattle.pw_deck.specs.declared.deck.ParsedDeck as trees
use Rattle.pw_scobol.specs.declared.requester.Requester.{Requester}
use Rattle.pw_server.specs.declared.server.Server.{Server}
use Rattle.pw_tree_meaning.specs.Program as source
use Rattle.pw_tree_meaning.specs.Sound.{links_of}
use Rattle.pw_compiler_laws.specs.Systems.{code_in, codes_in, screens_of}
use Rattle.pw_words.specs.Words.{Word}
use Rattle.pw_compiled_deck.specs.Whole.{of_requester, of_server, trees_of, compiled}
use Rattle.pw_compiled_deck.specs.declared.deck.Deck.{Deck}

-- ---- one program further

front-of : {A : Type 0} (xs : List A) (i : ℕ) (x : A) → i < length xs → x ≡ get_or xs i x → drop i xs ≡ x ∷ drop (i + 1) xs
front-of xs i x within is = rw (add-one, drop-cons xs i x) (ap (λ y. y ∷ drop (suc i) xs) (sym is))

pub codes-further : (links : Links) (rs : List Requester) (codes next : List Code) (code : Code) (first after i : ℕ) (r : Requester) (whole : List Code) → i < length rs → r ≡ get_or rs i r
    → next ≡ codes ++ code ∷ [] → code ≡ code_in links first (of_requester r) → after ≡ first + length r.screens
    → codes ++ codes_in links first (map of_requester (drop i rs)) ≡ whole → next ++ codes_in links after (map of_requester (drop (i + 1) rs)) ≡ whole
codes-further links rs codes next code first after i r whole within is next_is code_is after_is so_far =
    let rest : List source.Program = map of_requester (drop (i + 1) rs) in
    ap (λ (n : List Code). n ++ codes_in links after rest) next_is ∙ append_assoc codes (code ∷ []) (codes_in links after rest)
    ∙ ap (λ (c : Code). codes ++ c ∷ codes_in links after rest) code_is
    ∙ ap (λ (n : ℕ). codes ++ code_in links first (of_requester r) ∷ codes_in links n rest) after_is
    ∙ ap (λ (ys : List Requester). codes ++ codes_in links first (map of_requester ys)) (sym (front-of rs i r within is)) ∙ so_far

pub screens-further : (rs : List Requester) (first after i : ℕ) (r : Requester) → i < length rs → r ≡ get_or rs i r → after ≡ first + length r.screens
    → first + length (screens_of (map of_requester (drop i rs))) ≡ length (screens_of (map of_requester rs))
    → after + length (screens_of (map of_requester (drop (i + 1) rs))) ≡ length (screens_of (map of_requester rs))
screens-further rs first after i r within is after_is so_far =
    let split : length (screens_of (map of_requester (drop i rs))) ≡ length r.screens + length (screens_of (map of_requester (drop (i + 1) rs))) =
    ap (λ (ys : List Requester). length (screens_of (map of_requester ys))) (front-of rs i r within is) ∙ length-append r.screens (screens_of (map of_requester (drop (i + 1) rs))) in
    omega (arith, split, after_is, so_far)

pub servers-further : (links : Links) (ss : List Server) (codes next : List Code) (code : Code) (i : ℕ) (s : Server) (whole : List Code) → i < length ss → s ≡ get_or ss i s
    → next ≡ codes ++ code ∷ [] → code ≡ code_in links 0 (of_server s)
    → codes ++ map (code_in links 0) (map of_server (drop i ss)) ≡ whole → next ++ map (code_in links 0) (map of_server (drop (i + 1) ss)) ≡ whole
servers-further links ss codes next code i s whole within is next_is code_is so_far =
    let rest : List Code = map (code_in links 0) (map of_server (drop (i + 1) ss)) in
    ap (λ (n : List Code). n ++ rest) next_is ∙ append_assoc codes (code ∷ []) rest
    ∙ ap (λ (c : Code). codes ++ c ∷ rest) code_is
    ∙ ap (λ (ys : List Server). codes ++ map (code_in links 0) (map of_server ys)) (sym (front-of ss i s within is)) ∙ so_far

-- the screens of one requester more
pub screens-more : (rs : List Requester) (r : Requester) → screens_of (map of_requester (rs ++ r ∷ [])) ≡ screens_of (map of_requester rs) ++ r.screens
screens-more [] r = append-nil r.screens
screens-more (x ∷ xs) r =
    ap (λ (ys : List ScreenTable). x.screens ++ ys) (screens-more xs r) ∙ sym (append_assoc x.screens (screens_of (map of_requester xs)) r.screens)

-- ---- the deck

-- what programs may name besides what is theirs
abbrev pub linked : trees.ParsedDeck → List Word → List Word → Links
linked deck names classes = record { programs = names; classes = classes; files = deck.told.system.files }

-- a deck with these codes and screens
abbrev pub with_codes : trees.ParsedDeck → List Code → List Code → List ScreenTable → Deck
with_codes deck programs servers screens = record {
  system = record {
    programs = programs;
    servers = servers;
    screens = screens;
    classes = deck.told.system.classes;
    files = deck.told.system.files;
    tcps = deck.told.system.tcps;
    terminals = deck.told.system.terminals;
    rule = ReadersShare;
  };
  script = deck.told.script;
  log = deck.told.log;
  version = deck.told.version;
}

programs-named : (rs : List Requester) → map (λ (r : Requester). r.name) rs ≡ map (λ (program : source.Program). program.name) (map of_requester rs)
programs-named [] = refl
programs-named (r ∷ rs) = ap (λ (names : List Word). r.name ∷ names) (programs-named rs)

links-same : (deck : trees.ParsedDeck) (names classes : List Word) → names ≡ map (λ (r : Requester). r.name) deck.requesters → classes ≡ map (λ (class : ClassInfo). class.name) deck.told.system.classes
    → linked deck names classes ≡ links_of (trees_of deck)
links-same deck names classes names_are classes_are =
    ap (λ (n : List Word). linked deck n classes) (names_are ∙ programs-named deck.requesters)
    ∙ ap (λ (n : List Word). linked deck (map (λ (program : source.Program). program.name) (map of_requester deck.requesters)) n) classes_are

pub made : (deck : trees.ParsedDeck) (names classes : List Word) (programs servers : List Code) (screens : List ScreenTable) → names ≡ map (λ (r : Requester). r.name) deck.requesters
    → classes ≡ map (λ (class : ClassInfo). class.name) deck.told.system.classes → programs ≡ codes_in (linked deck names classes) 0 (map of_requester deck.requesters)
    → servers ≡ map (code_in (linked deck names classes) 0) (map of_server deck.servers) → screens ≡ screens_of (map of_requester deck.requesters) → with_codes deck programs servers screens ≡ compiled deck
made deck names classes programs servers screens names_are classes_are programs_are servers_are screens_are =
    let same = links-same deck names classes names_are classes_are in
    ap (λ (ps : List Code). with_codes deck ps servers screens) (programs_are ∙ ap (λ (l : Links). codes_in l 0 (map of_requester deck.requesters)) same)
    ∙ ap (λ (ss : List Code). with_codes deck (codes_in (links_of (trees_of deck)) 0 (map of_requester deck.requesters)) ss screens)
    (servers_are ∙ ap (λ (l : Links). map (code_in l 0) (map of_server deck.servers)) same)
    ∙ ap (λ (all : List ScreenTable). with_codes deck (codes_in (links_of (trees_of deck)) 0 (map of_requester deck.requesters)) (map (code_in (links_of (trees_of deck)) 0) (map of_server deck.servers)) all) screens_are
