-- A parse that succeeds gives each option a text that passed its parser.
use Rattle.std.proofs.Common.{◌≡◌, ◌∙◌, ◌<◌, ◌≤◌, ℕ, Bool, zero, suc, List, [], ◌∷◌, Option, Some, None, true, false, refl, sym, ap, subst, inl, inr, arith, length, is_some, codes, map}
use Rattle.std.specs.List.{All, list_all, position_or_len, slice_index_or}
use Rattle.std.specs.Str.{bytes_eq}
use Rattle.std.specs.Prelude.{find, option_map, slice_get}
use Rattle.std.specs.Borrow.{Bor}
use Rattle.std.proofs.lemmas.Slice.Eq.{bytes_eq-Decides}
use Rattle.std.proofs.lemmas.List.Elements.{All-get_or}
use Rattle.std.proofs.lemmas.List.{get_or-map, length-map}
use Rattle.clap.specs.Facts.{Entry, EntryPasses, HasId, HasReading, IsParsed, PassesArg, ValuesPass, WantsDefault, args_of, groups_of, least_values, parser_of, parser_of_value}
use Rattle.clap.specs.Built.{IsAuto, IsParsedFrom, IsPlain, SameRules}
use Rattle.clap.specs.Matches.{found_of, matched_of, one_text}
use Rattle.clap.specs.Values.{Accepts, read_as, reading_of}
use Rattle.clap.specs.Words.{Row, Rule, Text, app_of, items_of, one_of, rows_of, rule_of}
use Rattle.clap.specs.declared.builder.command.Command.TheViews.{out-Command as fields_of}
use Rattle.clap.specs.Simple.{IsSimple, HasReadyLeaves, is_ready, shape_of}
use Rattle.clap.specs.Faults.{has_free_rules}
use Rattle.clap.specs.declared.builder.action.ArgAction.TheVariants.{Count, Set}
use Rattle.clap.specs.declared.builder.arg.Arg.{Arg}
use Rattle.clap.specs.declared.builder.command.Command.{Command}
use Rattle.clap.specs.declared.builder.value_parser.ValueParser.{ValueParser}
use Rattle.clap.specs.declared.builder.value_parser.ValueParser.TheVariants as vp
use Rattle.clap.specs.declared.builder.value_parser.Reading.{Reading}
use Rattle.clap.specs.declared.parser.matches.ArgMatches.{ArgMatches}
use Rattle.clap.specs.declared.parser.matches.Found.{Found}
use Rattle.clap.specs.declared.parser.matches.MatchedArg.{MatchedArg}
use Rattle.clap.proofs.CallerLemmas.{default_present, entry_by_id, same_rules_by_id}
use Rattle.clap.proofs.FaultLemmas.{free_args}
use Rattle.clap.proofs.SimpleLemmas.{ready_simple}
use Rattle.clap.proofs.WalkLemmas.{one_text-rows}
use Rattle.pw_command_line.specs.CommandLine.{IsNumberIn, option_rule, pathway_app}

-- ---- the command is simple, and excludes nothing

simple_command : (c : Command) → app_of c ≡ pathway_app → IsSimple c
simple_command c e =
    let ready : is_ready (shape_of c) ≡ true = ap (λ a. is_ready a.top) e in
    let leaves : HasReadyLeaves c = ap (λ a. list_all Rattle.clap.specs.Simple.is_ready_leaf a.subs) e in
    ready_simple c ready leaves

plain_command : (c : Command) → app_of c ≡ pathway_app → IsPlain c
plain_command c e =
    let simple = simple_command c e in
    let free = free_args c simple (ap (λ a. has_free_rules a.top) e) in
    let groups = Rattle.clap.proofs.SimpleLemmas.simple_groups c (ap (λ a. list_all (λ r. r.is_simple) a.top.rules) e) in
    ((λ k d lt. ((free k d lt).exclusive, (free k d lt).conflicts, (simple.args k d lt).overrides, groups k d lt)), simple.groups)

-- ---- the rule at a place

abbrev rules : List Rule
rules = pathway_app.top.rules

rules_are : (c : Command) → app_of c ≡ pathway_app → map rule_of (args_of c) ≡ rules
rules_are c e = ap (λ a. a.top.rules) e

six : (c : Command) → app_of c ≡ pathway_app → length (args_of c) ≡ 6
six c e = sym (length-map (args_of c) rule_of) ∙ ap length (rules_are c e)

rule_at : (c : Command) → app_of c ≡ pathway_app → (k : ℕ) (d : Arg) → k < 6 → rule_of (slice_index_or (args_of c) k d) ≡ slice_index_or rules k (rule_of d)
rule_at c e k d lt =
    let inside : k < length (args_of c) = rw (six c e) lt in
    sym (get_or-map rule_of (args_of c) k d (rule_of d) inside) ∙ ap (λ l. slice_index_or l k (rule_of d)) (rules_are c e)

-- the ids are distinct
place : (j : ℕ) (d : Rule) → j < 6 → position_or_len (λ r. bytes_eq r.id (slice_index_or rules j d).id) rules ≡ j
place zero d lt = refl
place (suc zero) d lt = refl
place (suc (suc zero)) d lt = refl
place (suc (suc (suc zero))) d lt = refl
place (suc (suc (suc (suc zero)))) d lt = refl
place (suc (suc (suc (suc (suc zero))))) d lt = refl
place (suc (suc (suc (suc (suc (suc j)))))) d lt = absurd (omega arith)

one_place : (c : Command) → app_of c ≡ pathway_app → (k : ℕ) (d : Arg) → k < 6 → (j : ℕ) (x : Arg) → j < length (args_of c)
    → bytes_eq (slice_index_or (args_of c) j x).id.now (slice_index_or (args_of c) k d).id.now ≡ true → j ≡ k
one_place c e k d lt j x inside same =
    let below : j < 6 = rw (six c e) at inside in
    let ids : (slice_index_or rules j (rule_of x)).id ≡ (slice_index_or rules k (rule_of d)).id =
    sym (ap (λ (r : Rule). r.id) (rule_at c e j x below)) ∙ ((bytes_eq-Decides _ _).0 same ∙ ap (λ (r : Rule). r.id) (rule_at c e k d lt)) in
    sym (place j (rule_of x) below) ∙ (ap (λ (t : Text). position_or_len (λ r. bytes_eq r.id t) rules) ids ∙ place k (rule_of d) lt)

-- ---- the entry of an option

found_at : (xs : List Entry) (id : Text) (i : ℕ) → i < length xs → ((d : Entry) → bytes_eq (slice_index_or xs i d).0.now id ≡ true)
    → is_some (option_map (λ e. e.1) (find (λ e. bytes_eq e.0.now id) xs)) ≡ true
found_at [] id i lt hit = absurd (omega arith)
found_at (x ∷ xs) id zero lt hit = rw (hit x) refl
found_at (x ∷ xs) id (suc i) lt hit = go (bytes_eq x.0.now id) refl (found_at xs id i (omega arith) hit)
  where
    go : (b : Bool) → bytes_eq x.0.now id ≡ b → is_some (option_map (λ e. e.1) (find (λ e. bytes_eq e.0.now id) xs)) ≡ true
        → is_some (option_map (λ e. e.1) (find (λ e. bytes_eq e.0.now id) (x ∷ xs))) ≡ true
    go true e rest = rw e refl
    go false e rest = rw e rest

head_passes : (P : Bor Text → Type 0) (how : Reading) (vs : List (Bor Text)) → All P vs → 0 < length vs
    → (v : Bor Text) × (option_map (λ s. read_as how s.now) (slice_get vs 0) ≡ Some (read_as how v.now)) × P v
head_passes P how [] h lt = absurd (omega arith)
head_passes P how (v ∷ vs) h lt = (v, refl, All-get_or P (v ∷ vs) 0 v (omega arith) h)

-- an entry of an argument that takes a value, and has `low` to `high` for its parser
entry_reads : (f : Found) (id : Text) (Q : Text → Type 0) (how : Reading) (x : MatchedArg) → matched_of f id ≡ Some x → 0 < length x.vals.items
    → x.reading ≡ how → All (λ v. Q v.now) x.vals.items → (t : Text) × (one_text f id ≡ Some (read_as how t)) × Q t
entry_reads f id Q how x found some reads all =
    let head = head_passes (λ v. Q v.now) how x.vals.items all some in
    (head.0.now, rw (found, reads) head.1, head.2)

-- an argument with a default that takes one value has a text that passed its parser
default_reads : (old : Command) (m : ArgMatches) (p : IsParsedFrom old m) → IsPlain old → (fields_of old).has_globals ≡ false
    → (k : ℕ) (d : Arg) → k < length (args_of old) → WantsDefault (slice_index_or (args_of old) k d)
    → (slice_index_or (args_of old) k d).action ≡ Some Set → (slice_index_or (args_of old) k d).val_delim ≡ None
    → 1 ≤ least_values (slice_index_or (args_of old) k d)
    → ((j : ℕ) (e : Arg) → j < length (args_of old)
    → bytes_eq (slice_index_or (args_of old) j e).id.now (slice_index_or (args_of old) k d).id.now ≡ true → j ≡ k)
    → ((slice_index_or (args_of old) k d).id.now ≡ [] → ⊥) → (IsAuto (slice_index_or (args_of old) k d) → ⊥)
    → (q : ValueParser) → (slice_index_or (args_of old) k d).value_parser ≡ Some q
    → (t : Text) × (one_text (found_of m) (slice_index_or (args_of old) k d).id.now ≡ Some (read_as (reading_of q) t))
    × Accepts (slice_index_or (args_of old) k d).ignore_case q t
default_reads old m p plain globals k d lt wants set delim least unique named own q parser =
    let at = default_present old m p globals k d lt wants in
    let parsed = p.parsed (p.from.globals ∙ globals) in
    let xs = (found_of m).entries.items in
    go (matched_of (found_of m) (slice_index_or (args_of old) k d).id.now) refl
    (found_at xs (slice_index_or (args_of old) k d).id.now at.0 at.1 at.2) parsed.values
  where
    rules_by : (j : ℕ) (x : Arg) → j < length (args_of p.built) → slice_index_or (args_of p.built) j x ≡ x
        → bytes_eq x.id.now (slice_index_or (args_of old) k d).id.now ≡ true → SameRules (slice_index_or (args_of old) k d) x
    rules_by = same_rules_by_id old m p k d lt unique own

    entry : (x : MatchedArg) (e : Entry) → matched_of (found_of m) (slice_index_or (args_of old) k d).id.now ≡ Some x → e.1 ≡ x
        → e.0.now ≡ (slice_index_or (args_of old) k d).id.now → EntryPasses p.built e
        → (t : Text) × (one_text (found_of m) (slice_index_or (args_of old) k d).id.now ≡ Some (read_as (reading_of q) t))
        × Accepts (slice_index_or (args_of old) k d).ignore_case q t
    entry x e found same key pass =
        let id = (slice_index_or (args_of old) k d).id.now in
        let no_groups : groups_of p.built ≡ [] = (p.from.plain plain).1 in
        let no_group : e.1.is_group ≡ true → ⊥ = λ g. elim (pass.3 g) [
          | inl empty ↦ named (sym key ∙ empty)
          | inr lots ↦
              let bad : 0 < 0 = rw no_groups at lots in
              absurd (omega arith)
        ] in
        let some : 0 < length e.1.vals.items = elim pass.1 [
          | inl h ↦ absurd (no_group h.0)
          | inr (inl v) ↦ v
          | inr (inr (inl h)) ↦
              let any = h.1 in
              let s = rules_by any.0 any.1 any.2 any.3 (rw key at any.4.0) in
              let is_set : any.1.action ≡ Some Set = s.action Set set in
              let bad : Set ≡ Count = rw is_set at any.4.1 in
              cc
          | inr (inr (inr h)) ↦
              let s = rules_by h.0 h.1 h.2 h.3 (rw key at h.4.0) in
              elim h.4.1 [
                | inl none ↦
                    let one = s.least set least in
                    absurd (omega arith)
                | inr has ↦
                    let bad : false ≡ true = rw (s.val_delim, delim) at has in
                    cc
              ]
        ] in
        let all : All (λ v. PassesArg p.built e.0.now v.now) e.1.vals.items = elim pass.0 [
          | inl g ↦ absurd (no_group g)
          | inr vals ↦ vals
        ] in
        let accepted : All (λ (v : Bor Text). Accepts (slice_index_or (args_of old) k d).ignore_case q v.now) e.1.vals.items = λ i b below.
        accepts (slice_index_or e.1.vals.items i b).now (subst (λ (w : Text). PassesArg p.built w (slice_index_or e.1.vals.items i b).now) key (all i b below)) in
        let reads : e.1.reading ≡ reading_of q = elim pass.4 [
          | inl g ↦ absurd (no_group g)
          | inr h ↦ reading e.1.reading (subst (λ (w : Text). HasReading p.built w e.1.reading) key h)
        ] in
        entry_reads (found_of m) id (λ t. Accepts (slice_index_or (args_of old) k d).ignore_case q t) (reading_of q) e.1 (found ∙ ap (λ y. Some y) (sym same)) some reads accepted
      where
        accepts : (t : Text) → PassesArg p.built (slice_index_or (args_of old) k d).id.now t → Accepts (slice_index_or (args_of old) k d).ignore_case q t
        accepts t any =
            let s = rules_by any.0 any.1 any.2 any.3 any.4.0 in
            let is_q : parser_of any.1 ≡ q = ap parser_of_value (s.parser q parser) in
            subst (λ (b : Bool). Accepts b q t) s.ignore_case (subst (λ (w : ValueParser). Accepts any.1.ignore_case w t) is_q any.4.1)

        reading : (r : Reading) → HasReading p.built (slice_index_or (args_of old) k d).id.now r → r ≡ reading_of q
        reading r any =
            let s = rules_by any.0 any.1 any.2 any.3 any.4.0 in
            let is_q : parser_of any.1 ≡ q = ap parser_of_value (s.parser q parser) in
            sym any.4.1 ∙ ap reading_of is_q

    go : (o : Option MatchedArg) → matched_of (found_of m) (slice_index_or (args_of old) k d).id.now ≡ o
        → is_some (matched_of (found_of m) (slice_index_or (args_of old) k d).id.now) ≡ true
        → ValuesPass p.built (found_of m)
        → (t : Text) × (one_text (found_of m) (slice_index_or (args_of old) k d).id.now ≡ Some (read_as (reading_of q) t))
        × Accepts (slice_index_or (args_of old) k d).ignore_case q t
    go None e some values =
        let bad : false ≡ true = rw e at some in
        cc
    go (Some x) e some values =
        let got = entry_by_id (EntryPasses p.built) (found_of m).entries.items (slice_index_or (args_of old) k d).id.now x values e in
        entry x got.0 e got.1 ((bytes_eq-Decides _ _).0 got.2) got.3

-- ---- the options of the command

auto_free : (id : Text) (a : Arg) → a.id.now ≡ id → (id ≡ codes "help" → ⊥) → (id ≡ codes "version" → ⊥) → IsAuto a → ⊥
auto_free id a is help version (inl h) = help (sym is ∙ h)
auto_free id a is help version (inr h) = version (sym is ∙ h)

differ : (s t : Text) → bytes_eq s t ≡ false → s ≡ t → ⊥
differ s t other same =
    let yes = (bytes_eq-Decides s t).1 same in
    let bad : false ≡ true = rw other at yes in
    cc

some_text : (t : Text) → bytes_eq t [] ≡ false → t ≡ [] → ⊥
some_text t other = differ t [] other

-- the option at the place k has a number in its range
option_number : (c : Command) (m : ArgMatches) → app_of c ≡ pathway_app → IsParsedFrom c m
    → (k : ℕ) (id : Text) (low high : ℕ) (usual : Text) → k < 6
    → ((r : Rule) → slice_index_or rules k r ≡ option_rule id low high usual)
    → bytes_eq id [] ≡ false → bytes_eq id (codes "help") ≡ false → bytes_eq id (codes "version") ≡ false
    → IsNumberIn low high (one_of id (rows_of (found_of m)))
option_number c m e p k id low high usual lt is named help version = go (args_of c) refl
  where
    at : (d : Arg) → IsNumberIn low high (one_of id (rows_of (found_of m)))
    at d =
        let a = slice_index_or (args_of c) k d in
        let rule : rule_of a ≡ option_rule id low high usual = rule_at c e k d lt ∙ is (rule_of d) in
        let simple = simple_command c e in
        let inside : k < length (args_of c) = rw (six c e) lt in
        let key : a.id.now ≡ id = ap (λ (r : Rule). r.id) rule in
        let defaults : length (items_of a.default_vals) ≡ 1 = sym (length-map (items_of a.default_vals) (λ s. s.now)) ∙ ap (λ (r : Rule). length r.defaults) rule in
        let single : least_values a ≡ 1 = ap (λ (r : Rule). (Rattle.clap.specs.Facts.unwrap_or_range r.range).start_inclusive) rule in
        let got = default_reads c m p (plain_command c e) simple.globals k d inside
        ((simple.args k d inside).default_ifs, omega arith)
        (ap (λ (r : Rule). r.action) rule) (simple.args k d inside).delimiter (omega arith)
        (one_place c e k d lt)
        (λ none. some_text id named (sym key ∙ none))
        (auto_free id a key (differ id (codes "help") help) (differ id (codes "version") version))
        (vp.Unsigned low high) (ap (λ (r : Rule). r.parser) rule) in
        let text : one_of id (rows_of (found_of m)) ≡ Some got.0 = sym (one_text-rows (found_of m) id) ∙ (ap (λ (t : Text). one_text (found_of m) t) (sym key) ∙ got.1) in
        subst (IsNumberIn low high) (sym text) got.2

    go : (xs : List Arg) → args_of c ≡ xs → IsNumberIn low high (one_of id (rows_of (found_of m)))
    go [] none =
        let empty : length (args_of c) ≡ 0 = ap (λ (l : List Arg). length l) none in
        absurd (omega (arith, empty, six c e))
    go (d ∷ xs) some = at d

-- each option of a parse that succeeds has a number in its range
pub record HasNumbers (rows : List Row) : Type 0 where
  pub workers : IsNumberIn 1 16 (one_of (codes "workers") rows)
  pub events : IsNumberIn 1 500000 (one_of (codes "events") rows)
  pub seed : IsNumberIn 0 4294967295 (one_of (codes "seed") rows)
  pub terms : IsNumberIn 1 64 (one_of (codes "terms") rows)
  pub at : IsNumberIn 0 500000 (one_of (codes "at") rows)

pub numbers : (c : Command) (m : ArgMatches) → app_of c ≡ pathway_app → IsParsedFrom c m → HasNumbers (rows_of (found_of m))
numbers c m e p = record {
  workers = option_number c m e p 1 (codes "workers") 1 16 (codes "2") (omega arith) (λ r. refl) refl refl refl;
  events = option_number c m e p 2 (codes "events") 1 500000 (codes "100000") (omega arith) (λ r. refl) refl refl refl;
  seed = option_number c m e p 3 (codes "seed") 0 4294967295 (codes "1") (omega arith) (λ r. refl) refl refl refl;
  terms = option_number c m e p 4 (codes "terms") 1 64 (codes "8") (omega arith) (λ r. refl) refl refl refl;
  at = option_number c m e p 5 (codes "at") 0 500000 (codes "0") (omega arith) (λ r. refl) refl refl refl;
}
