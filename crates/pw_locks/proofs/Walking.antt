-- A walk back through the runs of a chain.
use Rattle.std.proofs.Common.{◌≡◌, ◌⊎◌, inl, inr, ℕ, List, [], ◌∷◌, ◌++◌, Bool, true, false, cond, Option, Some, None, append_assoc, refl, sym, ap, subst, ◌∙◌}
use Rattle.std.specs.Prelude.{filter}
use Rattle.std.specs.BTreeMap.{BTreeMap, get, is_at, IsOrdered}
use Rattle.std.specs.BTreeMap.Range.{range_contains, entries_between}
use Rattle.std.specs.Cmp.{IsTotalOrder}
use Rattle.std.specs.Cmp.Lexicographic.{slice_cmp}
use Rattle.std.specs.List.{AllByRecursion}
use Rattle.std.specs.List.Sorted.{IsStrictlySortedBy}
use Rattle.std.specs.Map.{lookup, keys_of}
use Rattle.std.specs.Ordering.{nat_cmp, is_eq, ordering_reverse}
use Rattle.std.specs.declared.cmp.Ordering.{Ordering}
use Rattle.std.specs.declared.cmp.Ordering.TheVariants.{Less, Equal, Greater}
use Rattle.std.specs.declared.ops.Bound.TheVariants.{Unbounded}
use Rattle.std.proofs.lemmas.Cmp.{tied_itself, nat_list_cmp_total}
use Rattle.std.proofs.lemmas.List.Kept.{IsStrictlySortedBy-filter}
use Rattle.std.proofs.lemmas.Map.Entries.{lookup-filter-keys}
use Rattle.std.proofs.lemmas.Map.Keys.{sorted_head, sorted_tail}
use Rattle.pw_code.specs.declared.unit.Unit as unit
use Rattle.pw_locks.specs.Chains.{IsMet}
use Rattle.pw_locks.specs.Indexes.{has}
use Rattle.pw_locks.specs.Keys.{ends_by}
use Rattle.pw_locks.specs.Reach.{before, is_reached}
use Rattle.pw_locks.specs.Runs.{IsRising}
use Rattle.pw_locks.specs.Searches.{Searched}
use Rattle.pw_locks.specs.Spans.{Precedes}
use Rattle.pw_locks.specs.declared.lock.Lock.{Lock}
use Rattle.pw_locks.specs.declared.run.SpanLocks.{SpanLocks}
use Rattle.pw_locks.specs.declared.span.Span.{Span}
use Rattle.pw_locks.proofs.Chaining.{at_same, one_run, filed, ends_by-itself}
use Rattle.pw_locks.proofs.Order.{not-itself, not-both-ways, Precedes-below}
use Rattle.pw_locks.proofs.Reaching.{has-left, has-right, begins_before, overlap-reached, reached-later}
use Rattle.pw_locks.proofs.Searching.{Searched-then, Searched-fewer, Searched-same, has-append}

abbrev Key : Type 0
Key = List ℕ

abbrev Entry : Type 0
Entry = Key × SpanLocks

abbrev key_cmp : Key → Key → Ordering
key_cmp = slice_cmp nat_cmp

total : IsTotalOrder key_cmp
total = nat_list_cmp_total

abbrev found_at : Key → List Entry → Option SpanLocks
found_at key es = lookup (is_at (key_cmp key)) es

abbrev IsSorted : List Entry → Type 0
IsSorted es = IsStrictlySortedBy key_cmp (keys_of es)

-- the numbers of all runs
abbrev pub numbers_in : List Entry → List ℕ
numbers_in [] = []
numbers_in (e ∷ es) = e.1.numbers.items ++ numbers_in es

-- the runs that a walk has seen are those that are not left
pub record Walked (test : Lock → Bool) (locks : BTreeMap ℕ Lock) (known found : Option unit.Unit) (all left : List Entry) : Type 0 where
  pub done : List Entry
  pub whole : all ≡ left ++ done
  pub searched : Searched test locks known found (λ n. has (numbers_in done) n ≡ true)

append_none : (es : List Entry) → es ++ [] ≡ es
append_none [] = refl
append_none (e ∷ es) = ap (λ rest. e ∷ rest) (append_none es)

swapped : {A B : Type 0} → A ⊎ B → B ⊎ A
swapped (inl a) = inr a
swapped (inr b) = inl b

-- at the start all are left
pub Walked-start : (test : Lock → Bool) (locks : BTreeMap ℕ Lock) (known : Option unit.Unit) (all left : List Entry) → left ≡ all → Walked test locks known known all left
Walked-start test locks known all left is = record {
  done = [];
  whole = sym is ∙ sym (append_none left);
  searched = Searched-same test locks known (λ n. has (numbers_in []) n ≡ true) (λ n h. absurd (cc h));
}

-- one run more
pub Walked-more : (test : Lock → Bool) (locks : BTreeMap ℕ Lock) (known found last : Option unit.Unit) (all left rest : List Entry) (e : Entry)
    → Walked test locks known found all left → left ≡ rest ++ e ∷ [] → Searched test locks found last (λ n. has e.1.numbers.items n ≡ true) → Walked test locks known last all rest
Walked-more test locks known found last all left rest e walked is seen = record {
  done = e ∷ walked.done;
  whole = walked.whole ∙ (ap (λ xs. xs ++ walked.done) is ∙ append_assoc rest (e ∷ []) walked.done);
  searched =
      Searched-then test locks known found last (λ n. has (numbers_in walked.done) n ≡ true) (λ n. has e.1.numbers.items n ≡ true) (λ n. has (e.1.numbers.items ++ numbers_in walked.done) n ≡ true)
      (λ n h. swapped (has-append e.1.numbers.items (numbers_in walked.done) n h)) walked.searched seen;
}

has-found : (es : List Entry) (key : Key) (run : SpanLocks) (n : ℕ) → found_at key es ≡ Some run → has run.numbers.items n ≡ true → has (numbers_in es) n ≡ true
has-found [] key run n is h = absurd (cc is)
has-found (e ∷ es) key run n is h =
    elim (is_at (key_cmp key) e.0) as (λ b. cond b (Some e.1) (found_at key es) ≡ Some run → has (e.1.numbers.items ++ numbers_in es) n ≡ true) [
      | true ↦ λ here. let one : run ≡ e.1 = cc in has-left e.1.numbers.items (numbers_in es) n (subst (λ (r : SpanLocks). has r.numbers.items n ≡ true) one h)
      | false ↦ λ there. has-right e.1.numbers.items (numbers_in es) n (has-found es key run n there h)
    ] is

keys-filter : (p : Key → Bool) (es : List Entry) → keys_of (filter (λ e. p e.0) es) ≡ filter p (keys_of es)
keys-filter p [] = refl
keys-filter p (e ∷ es) =
    elim (p e.0) as (λ b. keys_of (cond b (e ∷ filter (λ e. p e.0) es) (filter (λ e. p e.0) es)) ≡ cond b (e.0 ∷ filter p (keys_of es)) (filter p (keys_of es))) [
      | true ↦ ap (λ ks. e.0 ∷ ks) (keys-filter p es)
      | false ↦ keys-filter p es
    ]

sorted-between : (p : Key → Bool) (es : List Entry) → IsSorted es → IsSorted (filter (λ e. p e.0) es)
sorted-between p es sorted = rw (keys-filter p es) (IsStrictlySortedBy-filter key_cmp p (keys_of es) sorted)

at_middle : (P : Key → Type 0) (rest : List Entry) (e : Entry) (done : List Entry) → AllByRecursion P (keys_of (rest ++ e ∷ done)) → P e.0
at_middle P [] e done h = h.0
at_middle P (x ∷ rest) e done h = at_middle P rest e done h.1

-- the entry at which a list is split is found
found-middle : (rest : List Entry) (e : Entry) (done : List Entry) → IsSorted (rest ++ e ∷ done) → found_at e.0 (rest ++ e ∷ done) ≡ Some e.1
found-middle [] e done sorted = let here : is_at (key_cmp e.0) e.0 ≡ true = ap is_eq (tied_itself total e.0) in rw here refl
found-middle (x ∷ rest) e done sorted =
    let less : Precedes x.0 e.0 = at_middle (λ k. Precedes x.0 k) rest e done (sorted_head key_cmp x.0 (keys_of (rest ++ e ∷ done)) sorted) in
    let more : key_cmp e.0 x.0 ≡ Greater = total.antisymm e.0 x.0 ∙ ap ordering_reverse less in
    let other : is_at (key_cmp e.0) x.0 ≡ false = ap is_eq more in
    rw other (found-middle rest e done (sorted_tail key_cmp x.0 (keys_of (rest ++ e ∷ done)) sorted))

-- what is found in the list stands behind that entry, or at it or before it
found-parts : (rest : List Entry) (e : Entry) (done : List Entry) (key : Key) (run : SpanLocks) → IsSorted (rest ++ e ∷ done) → found_at key (rest ++ e ∷ done) ≡ Some run
    → (found_at key done ≡ Some run) ⊎ (¬ Precedes e.0 key)
found-parts [] e done key run sorted is =
    elim (is_at (key_cmp key) e.0) as (λ b. is_at (key_cmp key) e.0 ≡ b → cond b (Some e.1) (found_at key done) ≡ Some run → (found_at key done ≡ Some run) ⊎ (¬ Precedes e.0 key)) [
      | true ↦ λ at _. inr (λ h. not-itself e.0 (subst (Precedes e.0) (at_same key e.0 at) h))
      | false ↦ λ _ there. inl there
    ] refl is
found-parts (x ∷ rest) e done key run sorted is =
    elim (is_at (key_cmp key) x.0) as (λ b. is_at (key_cmp key) x.0 ≡ b → cond b (Some x.1) (found_at key (rest ++ e ∷ done)) ≡ Some run → (found_at key done ≡ Some run) ⊎ (¬ Precedes e.0 key)) [
      | true ↦ λ at _.
          let less : Precedes x.0 e.0 = at_middle (λ k. Precedes x.0 k) rest e done (sorted_head key_cmp x.0 (keys_of (rest ++ e ∷ done)) sorted) in
          inr (λ h. not-both-ways x.0 e.0 less (subst (Precedes e.0) (at_same key x.0 at) h))
      | false ↦ λ _ there. found-parts rest e done key run (sorted_tail key_cmp x.0 (keys_of (rest ++ e ∷ done)) sorted) there
    ] refl is

-- what is found between two bounds is found in the whole
found-whole : (p : Key → Bool) (es : List Entry) (key : Key) (run : SpanLocks) → found_at key (filter (λ e. p e.0) es) ≡ Some run → found_at key es ≡ Some run
found-whole p es key run is =
    elim (p key) as (λ b. p key ≡ b → found_at key es ≡ Some run) [
      | true ↦ λ h. sym (lookup-filter-keys (is_at (key_cmp key)) p true (λ k at. sym (ap p (at_same key k at)) ∙ h) es) ∙ is
      | false ↦ λ h.
          let none : found_at key (filter (λ e. p e.0) es) ≡ None = lookup-filter-keys (is_at (key_cmp key)) p false (λ k at. sym (ap p (at_same key k at)) ∙ h) es in
          absurd (cc (none, is))
    ] refl

found-between : (p : Key → Bool) (es : List Entry) (key : Key) (run : SpanLocks) → p key ≡ true → found_at key es ≡ Some run → found_at key (filter (λ e. p e.0) es) ≡ Some run
found-between p es key run passes is = lookup-filter-keys (is_at (key_cmp key)) p true (λ k at. sym (ap p (at_same key k at)) ∙ passes) es ∙ is

abbrev pub earlier : Span → BTreeMap Key SpanLocks → List Entry
earlier span runs = entries_between key_cmp Unbounded (before span) runs.entries

-- what is met is found among the earlier ones
abbrev IsFoundMet : Span → BTreeMap Key SpanLocks → ℕ → Type 0
IsFoundMet span runs n = (low : Key) × (run : SpanLocks) × (get key_cmp runs low ≡ Some run) × (found_at low (earlier span runs) ≡ Some run) × (is_reached span run.high ≡ true) × (has run.numbers.items n ≡ true)

found-met : (span : Span) (runs : BTreeMap Key SpanLocks) (n : ℕ) → IsMet span runs n → IsFoundMet span runs n
found-met span runs n met =
    let run = filed (get key_cmp runs met.0) met.1 n met.3 in
    let reach : is_reached span run.0.high ≡ true = subst (λ end. is_reached span end ≡ true) (sym run.2) (overlap-reached span met.0 met.1 met.2) in
    (met.0, run.0, run.1, found-between (range_contains key_cmp Unbounded (before span)) runs.entries met.0 run.0 (begins_before span met.0 met.1 met.2) run.1, reach, run.3)

-- where none is left, all are seen
pub Walked-end : (runs : BTreeMap Key SpanLocks) (span : Span) (test : Lock → Bool) (locks : BTreeMap ℕ Lock) (known found : Option unit.Unit) (left : List Entry)
    → Walked test locks known found (earlier span runs) left → left ≡ [] → Searched test locks known found (IsMet span runs)
Walked-end runs span test locks known found left walked none =
    Searched-fewer test locks known found (λ n. has (numbers_in walked.done) n ≡ true) (IsMet span runs) seen walked.searched
  where
    all_done : earlier span runs ≡ walked.done
    all_done = walked.whole ∙ ap (λ xs. xs ++ walked.done) none

    seen : (n : ℕ) → IsMet span runs n → has (numbers_in walked.done) n ≡ true
    seen n met =
        let f = found-met span runs n met in
        has-found walked.done f.0 f.1 n (subst (λ es. found_at f.0 es ≡ Some f.1) all_done f.3) f.5

-- where one is not reached, none before it is
pub Walked-stop : (runs : BTreeMap Key SpanLocks) → IsRising runs → IsOrdered key_cmp runs → (span : Span) (test : Lock → Bool) (locks : BTreeMap ℕ Lock) (known found : Option unit.Unit) (left rest : List Entry) (e : Entry)
    → Walked test locks known found (earlier span runs) left → left ≡ rest ++ e ∷ [] → is_reached span e.1.high ≡ false → Searched test locks known found (IsMet span runs)
Walked-stop runs rising ordered span test locks known found left rest e walked is out =
    Searched-fewer test locks known found (λ n. has (numbers_in walked.done) n ≡ true) (IsMet span runs) seen walked.searched
  where
    split : earlier span runs ≡ rest ++ e ∷ walked.done
    split = walked.whole ∙ (ap (λ xs. xs ++ walked.done) is ∙ append_assoc rest (e ∷ []) walked.done)

    sorted : IsSorted (rest ++ e ∷ walked.done)
    sorted = subst IsSorted split (sorted-between (range_contains key_cmp Unbounded (before span)) runs.entries ordered)

    there : get key_cmp runs e.0 ≡ Some e.1
    there =
        found-whole (range_contains key_cmp Unbounded (before span)) runs.entries e.0 e.1
        (subst (λ es. found_at e.0 es ≡ Some e.1) (sym split) (found-middle rest e walked.done sorted))

    -- a run at it or before it does not end later
    ends : (key : Key) (run : SpanLocks) → get key_cmp runs key ≡ Some run → ¬ Precedes e.0 key → ends_by run.high e.1.high ≡ true
    ends key run here past =
        elim (key_cmp key e.0) as (λ r. key_cmp key e.0 ≡ r → ends_by run.high e.1.high ≡ true) [
          | Less ↦ λ p. rising e.0 e.1 there key run here (Precedes-below key e.0 p)
          | Equal ↦ λ p.
              let at : is_at (key_cmp key) e.0 ≡ true = ap is_eq p in
              subst (λ (r : SpanLocks). ends_by run.high r.high ≡ true) (one_run runs key e.0 run e.1 (at_same key e.0 at) here there) (ends_by-itself run.high)
          | Greater ↦ λ p. absurd (past (total.antisymm e.0 key ∙ ap ordering_reverse p))
        ] refl

    seen : (n : ℕ) → IsMet span runs n → has (numbers_in walked.done) n ≡ true
    seen n met = from (found-met span runs n met)
      where
        from : IsFoundMet span runs n → has (numbers_in walked.done) n ≡ true
        from f = either (found-parts rest e walked.done f.0 f.1 sorted (subst (λ es. found_at f.0 es ≡ Some f.1) split f.3))
          where
            either : (found_at f.0 walked.done ≡ Some f.1) ⊎ (¬ Precedes e.0 f.0) → has (numbers_in walked.done) n ≡ true
            either (inl behind) = has-found walked.done f.0 f.1 n behind f.5
            either (inr past) =
                let yes : is_reached span e.1.high ≡ true = reached-later span f.1.high e.1.high f.4 (ends f.0 f.1 f.2 past) in
                absurd (cc (out, yes))
