-- The book of failure lines says what the log says.
use Rattle.std.proofs.Common.{◌≡◌, ℕ, zero, suc, ◌+◌, ◌<◌, ◌==◌, ◌&&◌, ◌||◌, List, [], ◌∷◌, ◌++◌, length, filter, find, get_or, set, take, Option, Some, None, Bool, true, false, not, cond, refl, sym, ap, ap₂, ◌∙◌, ⊎_elim, arith}
use Rattle.std.specs.List.{list_any}
use Rattle.std.proofs.lemmas.Bool.{cases_eq, eq-eqb, ne_eqb}
use Rattle.std.proofs.lemmas.List.{get_or-replicate, get_or-set_other, get_or-set_same, length-replicate, length-set}
use Rattle.std.proofs.lemmas.List.Folds.{list_any-append}
use Rattle.pw_event.specs.Due.{Numbered, due_line, owner_entry_count, is_fail_of, is_open, is_same_owner, next_failure, numbered, owner_of, owner_of_line}
use Rattle.pw_event.specs.Due as event
use Rattle.pw_event.specs.declared.event.Event.{Event}
use Rattle.pw_event.specs.declared.script.FailLine.{FailLine}
use Rattle.pw_event.specs.declared.script.Owner.{Owner}
use Rattle.pw_event.specs.declared.script.Owner.TheVariants.{Tcp, Class}
use Rattle.pw_world_model.specs.Dues.{DueBook, IsBookOf, IsOwner, after_entry, count_of, due_entry_counted, due_in, first_book, if_due, is_line_of, open_behind, opened_from, without_fail}
use Rattle.pw_world_model.specs.declared.due.OpenLine.{OpenLine}

-- ---- lists

filter-twice : {X : Type 0} (f g h : X → Bool) → ((x : X) → h x ≡ (f x && g x)) → (xs : List X) → filter g (filter f xs) ≡ filter h xs
filter-twice f g h same [] = refl
filter-twice f g h same (x ∷ xs) = by (f x) (g x) refl refl (filter-twice f g h same xs)
  where
    by : (a b : Bool) → f x ≡ a → g x ≡ b → filter g (filter f xs) ≡ filter h xs → filter g (filter f (x ∷ xs)) ≡ filter h (x ∷ xs)
    by true true e k later = let both : h x ≡ true = same x ∙ ap₂ (λ a b. a && b) e k in rw (e, k, both) (ap (λ ys. x ∷ ys) later)
    by true false e k later = let both : h x ≡ false = same x ∙ ap₂ (λ a b. a && b) e k in rw (e, k, both) later
    by false b e k later = let both : h x ≡ false = same x ∙ ap (λ a. a && g x) e in rw (e, both) later

filter-all : {X : Type 0} (f : X → Bool) → ((x : X) → f x ≡ true) → (xs : List X) → filter f xs ≡ xs
filter-all f all [] = refl
filter-all f all (x ∷ xs) = let is : f x ≡ true = all x in rw is (ap (λ ys. x ∷ ys) (filter-all f all xs))

-- one more at the end is counted where it passes
count-more : {X : Type 0} (f : X → Bool) (xs : List X) (x : X) → length (filter f (xs ++ x ∷ [])) ≡ cond (f x) (length (filter f xs) + 1) (length (filter f xs))
count-more f [] x = by (f x)
  where
    by : (b : Bool) → length (cond b (x ∷ []) []) ≡ cond b (0 + 1) 0
    by true = refl
    by false = refl
count-more f (y ∷ xs) x = by (f y) (count-more f xs x)
  where
    count : ℕ
    count = length (filter f xs)

    by : (b : Bool) → length (filter f (xs ++ x ∷ [])) ≡ cond (f x) (length (filter f xs) + 1) (length (filter f xs))
        → length (cond b (y ∷ filter f (xs ++ x ∷ [])) (filter f (xs ++ x ∷ []))) ≡ cond (f x) (length (cond b (y ∷ filter f xs) (filter f xs)) + 1) (length (cond b (y ∷ filter f xs) (filter f xs)))
    by false later = later
    by true later = ap suc later ∙ both (f x)
      where
        both : (b : Bool) → suc (cond b (length (filter f xs) + 1) (length (filter f xs))) ≡ cond b (suc (length (filter f xs)) + 1) (suc (length (filter f xs)))
        both true = let e : suc (length (filter f xs) + 1) ≡ suc (length (filter f xs)) + 1 = omega arith in e
        both false = refl

-- ---- what is due

-- a line as the log numbers it
abbrev as_numbered : Option OpenLine → Option Numbered
as_numbered None = None
as_numbered (Some one) = Some (record { number = one.number; line = one.line })

abbrev fired : List Event → OpenLine → Bool
fired log one = not (list_any (is_fail_of one.number) log)

-- the first line of the owner without a FAIL entry
found : (log : List Event) (owner : Owner) (k : ℕ) (lines : List FailLine) → as_numbered (find (is_line_of owner) (filter (fired log) (opened_from k lines))) ≡ find (is_open log owner) (numbered k lines)
found log owner k [] = refl
found log owner k (line ∷ lines) = by (list_any (is_fail_of k) log) (is_same_owner (owner_of_line line) owner) refl refl (found log owner (k + 1) lines)
  where
    by : (a b : Bool) → list_any (is_fail_of k) log ≡ a → is_same_owner (owner_of_line line) owner ≡ b
        → as_numbered (find (is_line_of owner) (filter (fired log) (opened_from (k + 1) lines))) ≡ find (is_open log owner) (numbered (k + 1) lines)
        → as_numbered (find (is_line_of owner) (filter (fired log) (opened_from k (line ∷ lines)))) ≡ find (is_open log owner) (numbered k (line ∷ lines))
    by true true e f later = rw (e, f) later
    by true false e f later = rw (e, f) later
    by false true e f later = rw (e, f) refl
    by false false e f later = rw (e, f) later

same-due : (n : ℕ) (o : Option OpenLine) → if_due n o ≡ event.if_due n (as_numbered o)
same-due n None = refl
same-due n (Some one) = refl

module _ (tcps classes : ℕ) (pair_of : ℕ → ℕ) (lines : List FailLine) (log : List Event) (book : DueBook) (is : IsBookOf tcps classes pair_of lines log book) where
  count-is : (owner : Owner) → IsOwner tcps classes owner → count_of book owner ≡ owner_entry_count pair_of owner log
  count-is (Tcp p) low = is.tcps_are p low
  count-is (Class c) low = is.classes_are c low

  pub due-is : (owner : Owner) → IsOwner tcps classes owner → due_in book owner ≡ due_line pair_of lines log owner
  due-is owner low =
      ap₂ (λ n o. if_due n (find (is_line_of owner) o)) (count-is owner low) is.waiting_is
      ∙ (same-due (owner_entry_count pair_of owner log) (find (is_line_of owner) (open_behind lines log))
      ∙ ap (event.if_due (owner_entry_count pair_of owner log)) (found log owner 1 lines))

  -- ---- one more entry

  module _ (entry : Event) where
    own : Owner
    own = owner_of pair_of entry

    more : (owner : Owner) → owner_entry_count pair_of owner (log ++ entry ∷ []) ≡ cond (is_same_owner (owner_of pair_of entry) owner) (owner_entry_count pair_of owner log + 1) (owner_entry_count pair_of owner log)
    more owner = count-more (λ x. is_same_owner (owner_of pair_of x) owner) log entry

    lines-are : without_fail entry book.waiting ≡ open_behind lines (log ++ entry ∷ [])
    lines-are =
        ap (without_fail entry) is.waiting_is
        ∙ filter-twice (fired log) (λ line. not (is_fail_of line.number entry)) (fired (log ++ entry ∷ []))
        (λ line. ap not (list_any-append (is_fail_of line.number) log (entry ∷ [])) ∙ both (list_any (is_fail_of line.number) log) (is_fail_of line.number entry))
        (opened_from 1 lines)
      where
        both : (a b : Bool) → not (a || (b || false)) ≡ (not a && not b)
        both true b = refl
        both false true = refl
        both false false = refl

    -- the counts of one kind, where the entry is one of a place
    counts-more : (n : ℕ) (counts : List ℕ) (p : ℕ) (at : ℕ → Owner) → length counts ≡ n → p < n → ((q : ℕ) → is_same_owner (owner_of pair_of entry) (at q) ≡ (p == q))
        → ((q : ℕ) → q < n → get_or counts q 0 ≡ owner_entry_count pair_of (at q) log)
        → (q : ℕ) → q < n → get_or (set counts p (get_or counts p 0 + 1)) q 0 ≡ owner_entry_count pair_of (at q) (log ++ entry ∷ [])
    counts-more n counts p at long low same old q few =
        ⊎_elim
        (λ equal.
        let test : is_same_owner (owner_of pair_of entry) (at q) ≡ true = same q ∙ eq-eqb p q equal in
        ap (λ j. get_or (set counts p (get_or counts p 0 + 1)) j 0) (sym equal)
        ∙ (get_or-set_same counts p (get_or counts p 0 + 1) 0 (omega (arith, low, long))
        ∙ (ap (λ j. get_or counts j 0 + 1) equal ∙ (ap (λ m. m + 1) (old q few)
        ∙ sym (more (at q) ∙ ap (λ b. cond b (owner_entry_count pair_of (at q) log + 1) (owner_entry_count pair_of (at q) log)) test)))))
        (λ differ.
        let test : is_same_owner (owner_of pair_of entry) (at q) ≡ false = same q ∙ ne_eqb p q differ in
        get_or-set_other counts p q (get_or counts p 0 + 1) 0 (λ e. differ (sym e))
        ∙ (old q few ∙ sym (more (at q) ∙ ap (λ b. cond b (owner_entry_count pair_of (at q) log + 1) (owner_entry_count pair_of (at q) log)) test)))
        (cases_eq p q)

    -- the counts of the other kind stay
    counts-stay : (counts : List ℕ) (at : ℕ → Owner) → ((q : ℕ) → is_same_owner (owner_of pair_of entry) (at q) ≡ false) → (q : ℕ) → get_or counts q 0 ≡ owner_entry_count pair_of (at q) log
        → get_or counts q 0 ≡ owner_entry_count pair_of (at q) (log ++ entry ∷ [])
    counts-stay counts at other q old = old ∙ sym (more (at q) ∙ ap (λ b. cond b (owner_entry_count pair_of (at q) log + 1) (owner_entry_count pair_of (at q) log)) (other q))

    by-owner : (owner : Owner) → owner_of pair_of entry ≡ owner → IsOwner tcps classes owner → IsBookOf tcps classes pair_of lines (log ++ entry ∷ []) (due_entry_counted owner (record book { waiting = without_fail entry book.waiting }))
    by-owner (Tcp p) is_own low = record {
      waiting_is = lines-are;
      tcp_count = length-set book.tcps p _ ∙ is.tcp_count;
      class_count = is.class_count;
      tcps_are = counts-more tcps book.tcps p Tcp is.tcp_count low (λ q. ap (λ o. is_same_owner o (Tcp q)) is_own) is.tcps_are;
      classes_are = λ c few. counts-stay book.classes Class (λ q. ap (λ o. is_same_owner o (Class q)) is_own) c (is.classes_are c few);
    }
    by-owner (Class c) is_own low = record {
      waiting_is = lines-are;
      tcp_count = is.tcp_count;
      class_count = length-set book.classes c _ ∙ is.class_count;
      tcps_are = λ p few. counts-stay book.tcps Tcp (λ q. ap (λ o. is_same_owner o (Tcp q)) is_own) p (is.tcps_are p few);
      classes_are = counts-more classes book.classes c Class is.class_count low (λ q. ap (λ o. is_same_owner o (Class q)) is_own) is.classes_are;
    }

    pub next-is : IsOwner tcps classes (owner_of pair_of entry) → IsBookOf tcps classes pair_of lines (log ++ entry ∷ []) (after_entry pair_of entry book)
    next-is low = by-owner (owner_of pair_of entry) refl low

-- before the first entry
pub first-is : (tcps classes : ℕ) (pair_of : ℕ → ℕ) (lines : List FailLine) → IsBookOf tcps classes pair_of lines [] (first_book tcps classes lines)
first-is tcps classes pair_of lines = record {
  waiting_is = sym (filter-all (fired []) (λ line. refl) (opened_from 1 lines));
  tcp_count = length-replicate tcps 0;
  class_count = length-replicate classes 0;
  tcps_are = λ p low. get_or-replicate tcps p 0 0 low;
  classes_are = λ c low. get_or-replicate classes c 0 0 low;
}

-- ---- the lines one after the other

pub opened-more : (k i : ℕ) (lines : List FailLine) (d : FailLine) → i < length lines → opened_from k (take (i + 1) lines) ≡ opened_from k (take i lines) ++ record { number = k + i; line = get_or lines i d } ∷ []
opened-more k i [] d low = absurd (omega (arith, low))
opened-more k zero (line ∷ lines) d low = let e : k ≡ k + 0 = omega arith in ap (λ n. record { number = n; line = line } ∷ []) e
opened-more k (suc i) (line ∷ lines) d low =
    let e : k + 1 + i ≡ k + suc i = omega arith in
    let f : suc i + 1 ≡ suc (i + 1) = omega arith in
    ap (λ n. opened_from k (take n (line ∷ lines))) f
    ∙ ap (λ xs. record { number = k; line = line } ∷ xs)
    (opened-more (k + 1) i lines d (omega (arith, low)) ∙ ap (λ n. opened_from (k + 1) (take i lines) ++ record { number = n; line = get_or lines i d } ∷ []) e)
