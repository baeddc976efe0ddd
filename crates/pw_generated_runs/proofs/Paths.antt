-- The requester on a path of rounds: what it asks there.
use Rattle.std.proofs.Common.{◌≡◌, ℕ, zero, suc, ◌+◌, ◌-◌, ◌*◌, ◌<◌, ◌≤◌, Bool, true, false, List, [], ◌∷◌, ◌++◌, length, map, Option, Some, refl, ap, sym, arith, append-nil, ◌∙◌}
use Rattle.std.specs.Prelude.{option_map, slice_get, unwrap_or}
use Rattle.std.specs.List.{AllByRecursion}
use Rattle.std.proofs.lemmas.List.{length-map}
use Rattle.std.proofs.lemmas.Option.{slice_get-get_or, slice_get-map, slice_get_within}
use Rattle.std.proofs.Math.ListN.{get_or}
use Rattle.pw_code.specs.Entry.{EntryLineModel}
use Rattle.pw_code.specs.declared.lock.LockRule.{LockRule}
use Rattle.pw_code.specs.declared.system.TermInfo.{TermInfo}
use Rattle.pw_code.specs.declared.verb.Answer.{Answer}
use Rattle.pw_code.specs.declared.verb.Answer.TheVariants as answer
use Rattle.pw_code.specs.declared.verb.Verb.TheVariants as verb
use Rattle.pw_generated_runs.proofs.Requester.{Held, awaits, begins-so, between, finish, held_at_start, loop, round, sends, shows}
use Rattle.pw_generated_runs.specs.Rounds.{HasCodeZero, RunsInRounds, asked_behind, request_of, rounds, rounds_from}
use Rattle.pw_generated_runs.specs.Trees.{CountingParts, HasEntries, HaveEntries, counting_deck, entry_of}
use Rattle.pw_onecopy.specs.Path.{PathAnswer, Entry, Replied}
use Rattle.pw_tree_meaning.specs.OfDeck.{asked_by, behaviour, number_by}
use Rattle.pw_tree_meaning.specs.Performs.{budget}
use Rattle.pw_tree_meaning.specs.Runs.{entry_at, run_after, told, verb_of}
use Rattle.pw_tree_meaning.specs.Sends.{code_in_reply}

-- as many turns as there are rounds, and so many more
abbrev turns_for : List (List ℕ) → ℕ → ℕ
turns_for [] n = n
turns_for (reply ∷ replies) n = suc (turns_for replies n)

turns-are : (replies : List (List ℕ)) (n : ℕ) → turns_for replies n ≡ length replies + n
turns-are [] n = omega arith
turns-are (reply ∷ replies) n = omega (arith, turns-are replies n)

-- a path has an answer for each round
long-enough : (k : ℕ) (replies : List (List ℕ)) (rest : List PathAnswer) → length replies ≤ length (rounds_from k replies ++ rest)
long-enough k [] rest = omega arith
long-enough k (reply ∷ replies) rest = omega (arith, long-enough (k + 1) replies rest)

module _ (parts : CountingParts) (lines : List EntryLineModel) (digits : List ℕ) (same : lines ≡ map entry_of digits) where
  -- the entry of a digit
  entry-is : (k d : ℕ) → slice_get digits k ≡ Some d → entry_at lines (k + 1) ≡ entry_of d
  entry-is k d has =
      let back : k + 1 - 1 ≡ k = omega arith in
      ap (λ (i : ℕ). unwrap_or (slice_get lines i) (record { key = 0; fields = [] })) back
      ∙ (ap (λ (ls : List EntryLineModel). unwrap_or (slice_get ls k) (record { key = 0; fields = [] })) same
      ∙ (ap (λ (o : Option EntryLineModel). unwrap_or o (record { key = 0; fields = [] })) (slice_get-map entry_of digits k)
      ∙ ap (λ (o : Option ℕ). unwrap_or (option_map entry_of o) (record { key = 0; fields = [] })) has))

  -- so is what an entry of a path tells
  told-entry : (k d : ℕ) → slice_get digits k ≡ Some d → told lines (Entry (k + 1)) ≡ answer.Entry (entry_of d)
  told-entry k d has = ap (λ (line : EntryLineModel). answer.Entry line) (entry-is k d has)

  -- behind some rounds the requester is between two rounds
  record Skips (n : ℕ) (begins : Bool) (held : Held) (replies : List (List ℕ)) (path rest : List PathAnswer) : Type 0 where
    begins_then : Bool
    held_then : Held
    is : loop parts (turns_for replies n) (between begins held (map (told lines) path)) ≡ loop parts n (between begins_then held_then (map (told lines) rest))

  skips : (n k : ℕ) (replies : List (List ℕ)) (begins : Bool) (held : Held) (rest : List PathAnswer) → AllByRecursion HasCodeZero replies → k + length replies ≤ length digits
      → Skips n begins held replies (rounds_from (k + 1) replies ++ rest) rest
  skips n k [] begins held rest good few = record { begins_then = begins; held_then = held; is = refl }
  skips n k (reply ∷ replies) begins held rest good few =
      let behind : List PathAnswer = rounds_from (k + 1 + 1) replies ++ rest in
      let some = slice_get-get_or digits k 0 (omega (arith, few)) in
      let d : ℕ = get_or digits k 0 in
      let one = round parts begins (turns_for replies n) held d reply (map (told lines) behind) good.0 in
      let more = skips n (k + 1) replies false one.0 rest good.1 (omega (arith, few)) in
      record {
        begins_then = more.begins_then;
        held_then = more.held_then;
        is =
            ap (λ (first : Answer). loop parts (suc (turns_for replies n)) (between begins held (first ∷ answer.Replied reply ∷ answer.Shown ∷ map (told lines) behind))) (told-entry k d some)
            ∙ (one.1 ∙ more.is);
      }

  -- from the start
  record StandsBehind (replies : List (List ℕ)) (rest : List PathAnswer) : Type 0 where
    more : ℕ
    begins_then : Bool
    held_then : Held
    is : run_after (counting_deck parts) 0 lines (rounds replies ++ rest) ≡ finish parts (loop parts (suc more) (between begins_then held_then (map (told lines) rest)))

  turns-left : (count taken : ℕ) → taken ≤ count → (more : ℕ) × (100000 - 1 + 100000 * count ≡ taken + suc more)
  turns-left count taken few = (99998 + 100000 * count - taken, omega (arith, few))

  stands-behind : (replies : List (List ℕ)) (rest : List PathAnswer) → AllByRecursion HasCodeZero replies → length replies ≤ length digits → StandsBehind replies rest
  stands-behind replies rest good few =
      let path : List PathAnswer = rounds replies ++ rest in
      let left = turns-left (length (map (told lines) path)) (length replies) (omega (arith, long-enough 1 replies rest, length-map path (told lines))) in
      let all : budget (between true (held_at_start parts) (map (told lines) path)) ≡ turns_for replies (suc left.0) = left.1 ∙ sym (turns-are replies (suc left.0)) in
      let skip = skips (suc left.0) 0 replies true (held_at_start parts) rest good (omega (arith, few)) in
      record {
        more = left.0;
        begins_then = skip.begins_then;
        held_then = skip.held_then;
        is =
            begins-so parts lines path
            ∙ (ap (λ (n : ℕ). finish parts (loop parts n (between true (held_at_start parts) (map (told lines) path)))) all
            ∙ ap (finish parts) skip.is);
      }

  -- ---- what it asks

  accepts : (replies : List (List ℕ)) → AllByRecursion HasCodeZero replies → length replies ≤ length digits → verb_of (run_after (counting_deck parts) 0 lines (rounds replies)) ≡ verb.Accept 0
  accepts replies good few =
      let behind = stands-behind replies [] good few in
      ap (λ (path : List PathAnswer). verb_of (run_after (counting_deck parts) 0 lines path)) (sym (append-nil (rounds replies)))
      ∙ (ap verb_of behind.is ∙ awaits parts behind.begins_then behind.more behind.held_then)

  sends-key : (replies : List (List ℕ)) (d : ℕ) → AllByRecursion HasCodeZero replies → length replies < length digits → slice_get digits (length replies) ≡ Some d
      → verb_of (run_after (counting_deck parts) 0 lines (rounds replies ++ Entry (length replies + 1) ∷ [])) ≡ verb.Send 0 (request_of d)
  sends-key replies d good few has =
      let behind = stands-behind replies (Entry (length replies + 1) ∷ []) good (omega (arith, few)) in
      ap verb_of behind.is
      ∙ (ap (λ (first : Answer). verb_of (finish parts (loop parts (suc behind.more) (between behind.begins_then behind.held_then (first ∷ []))))) (told-entry (length replies) d has)
      ∙ sends parts behind.begins_then behind.more behind.held_then d)

  shows-reply : (replies : List (List ℕ)) (reply : List ℕ) → AllByRecursion HasCodeZero replies → length replies < length digits
      → verb_of (run_after (counting_deck parts) 0 lines (rounds replies ++ Entry (length replies + 1) ∷ Replied reply ∷ [])) ≡ asked_behind (code_in_reply reply)
  shows-reply replies reply good few =
      let behind = stands-behind replies (Entry (length replies + 1) ∷ Replied reply ∷ []) good (omega (arith, few)) in
      let d : ℕ = get_or digits (length replies) 0 in
      ap verb_of behind.is
      ∙ (ap (λ (first : Answer). verb_of (finish parts (loop parts (suc behind.more) (between behind.begins_then behind.held_then (first ∷ answer.Replied reply ∷ [])))))
      (told-entry (length replies) d (slice_get-get_or digits (length replies) 0 few))
      ∙ shows parts behind.begins_then behind.more behind.held_then d reply)

-- ---- in the deck

some-in : {A : Type 0} (xs : List A) (k : ℕ) → k < length xs → (x : A) × (slice_get xs k ≡ Some x)
some-in [] k lt = absurd (omega (arith, lt))
some-in (x ∷ xs) zero lt = (x, refl)
some-in (x ∷ xs) (suc k) lt = some-in xs k (omega (arith, lt))

-- each terminal runs in rounds
pub runs-in-rounds : (rule : LockRule) (parts : CountingParts) (digits : ℕ → List ℕ) → HaveEntries parts digits
    → (t : ℕ) → t < length parts.terminals → RunsInRounds (behaviour rule (counting_deck parts)) t (digits t)
runs-in-rounds rule parts digits have t lt =
    let some = some-in parts.terminals t lt in
    let terminal : TermInfo = some.0 in
    let own : HasEntries terminal (digits t) = have t terminal some.1 in
    let asked : (path : List PathAnswer) → asked_by (counting_deck parts) (slice_get parts.terminals t) path ≡ verb_of (run_after (counting_deck parts) 0 terminal.entries path) =
    λ path. ap (λ (o : Option TermInfo). asked_by (counting_deck parts) o path) some.1 ∙ ap (λ (q : ℕ). verb_of (run_after (counting_deck parts) q terminal.entries path)) own.program in
    record {
      entries = ap (number_by (λ (one : TermInfo). length one.entries)) some.1 ∙ (ap (λ (lines : List EntryLineModel). length lines) own.entries ∙ length-map (digits t) entry_of);
      accepts = λ replies good few. asked (rounds replies) ∙ accepts parts terminal.entries (digits t) own.entries replies good few;
      sends = λ replies d good has.
          asked (rounds replies ++ Entry (length replies + 1) ∷ [])
          ∙ sends-key parts terminal.entries (digits t) own.entries replies d good (slice_get_within (digits t) (length replies) d has) has;
      shows = λ replies reply good few.
          asked (rounds replies ++ Entry (length replies + 1) ∷ Replied reply ∷ []) ∙ shows-reply parts terminal.entries (digits t) own.entries replies reply good few;
    }
