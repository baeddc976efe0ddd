-- The records that differ, put into the old image, give the new one.
use Rattle.std.proofs.Common.{◌≡◌, ℕ, zero, suc, ◌+◌, ◌-◌, ◌*◌, min, ◌<◌, ◌≤◌, Bool, true, false, ◌&&◌, ◌==◌, cond, not, Decides, List, [], ◌∷◌, ◌++◌, length, get_or, take, drop, map, nat_lt, append_assoc, refl, sym, ap, ◌∙◌, ⊎_elim, arith}
use Rattle.std.proofs.Math.Seq.{drop-cons, take-add, take-append_seam, drop-append-add}
use Rattle.std.proofs.lemmas.Bool.{true≢false, lt-ltb, eq-eqb, cases_lt, ltb-true, eqb-true, not-false}
use Rattle.std.proofs.lemmas.List.{take_all, drop_all, drop-drop, take-append-drop, append-nil, length-append, length-take, length-take-le, length-drop}
use Rattle.std.proofs.lemmas.List.FromFn.{filter_of_map_range_with_len_more}
use Rattle.std.proofs.lemmas.Slice.Eq.{bytes_eq-Decides}
use Rattle.std.specs.List.{filter, list_all, range_with_len}
use Rattle.pw_image.specs.Records.{changed_records, differs, is_rising, lies_in, numbered_record, patched, record_at, record_count, rises_above, with_record}
use Rattle.pw_image.specs.declared.changed.Changed.{Changed}

Decides-both : (a b : Bool) → Decides (a && b) ((a ≡ true) × (b ≡ true))
Decides-both true b = (λ e. (refl, e), λ h. h.1)
Decides-both false b = (λ e. absurd (true≢false (sym e)), λ h. h.0)

-- the records are those of all numbers below the count
pub counted : (bytes k : ℕ) → k < record_count bytes → 64 * k < bytes
counted bytes k h = omega arith

-- a number behind the last record lies past the image
past : (bytes : ℕ) → bytes ≤ 64 * record_count bytes
past bytes = omega arith

-- one record more or less in a filter
rising-cond : (b : Bool) (k : ℕ) (c : Changed) (rest : List Changed) → k < c.number
    → rises_above c.number rest ≡ true → rises_above k rest ≡ true → rises_above k (cond b (c ∷ rest) rest) ≡ true
rising-cond true k c rest h own all = rw (lt-ltb k c.number h) own
rising-cond false k c rest h own all = all

-- numbers from a on rise above each number below a
rises-range : (p : Changed → Bool) (image : List ℕ) (n k a : ℕ) → k < a
    → rises_above k (filter p (map (numbered_record image) (range_with_len a n))) ≡ true
rises-range p image zero k a h = refl
rises-range p image (suc n) k a h =
    rising-cond (p (numbered_record image a)) k (numbered_record image a) (filter p (map (numbered_record image) (range_with_len (a + 1) n))) h
    (rises-range p image n a (a + 1) (omega arith)) (rises-range p image n k (a + 1) (omega arith))

rising-first : (b : Bool) (c : Changed) (rest : List Changed) → rises_above c.number rest ≡ true → is_rising rest ≡ true
    → is_rising (cond b (c ∷ rest) rest) ≡ true
rising-first true c rest own all = own
rising-first false c rest own all = all

pub rising-range : (p : Changed → Bool) (image : List ℕ) (n a : ℕ)
    → is_rising (filter p (map (numbered_record image) (range_with_len a n))) ≡ true
rising-range p image zero a = refl
rising-range p image (suc n) a =
    rising-first (p (numbered_record image a)) (numbered_record image a) (filter p (map (numbered_record image) (range_with_len (a + 1) n)))
    (rises-range p image n a (a + 1) (omega arith)) (rising-range p image n (a + 1))

-- the numbers of changed records rise
pub rising : (old new : List ℕ) → is_rising (changed_records old new) ≡ true
rising old new = rising-range (differs old) new (record_count (length new)) 0

-- what holds of each holds of those that pass
all-cond : (q : Changed → Bool) (b : Bool) (c : Changed) (rest : List Changed) → q c ≡ true → list_all q rest ≡ true
    → list_all q (cond b (c ∷ rest) rest) ≡ true
all-cond q true c rest own all = rw own all
all-cond q false c rest own all = all

all-range : (q p : Changed → Bool) (f : ℕ → Changed) (n a : ℕ) → ((k : ℕ) → k < a + n → q (f k) ≡ true)
    → list_all q (filter p (map f (range_with_len a n))) ≡ true
all-range q p f zero a h = refl
all-range q p f (suc n) a h =
    all-cond q (p (f a)) (f a) (filter p (map f (range_with_len (a + 1) n))) (h a (omega arith))
    (all-range q p f n (a + 1) (λ k lt. h k (omega arith)))

-- how long a record is
pub record-length : (image : List ℕ) (k : ℕ) → length (record_at image k) ≡ min 64 (length image - 64 * k)
record-length image k = length-take 64 (drop (64 * k) image) ∙ ap (λ n. min 64 n) (length-drop (64 * k) image)

-- records of one number are as long in images of one length
pub same-length : (image other : List ℕ) (k : ℕ) → length image ≡ length other → length (record_at image k) ≡ length (record_at other k)
same-length image other k e =
    record-length image k ∙ ap (λ n. min 64 (n - 64 * k)) e ∙ sym (record-length other k)

-- a record of the new image lies in an old one of the same length
lies-numbered : (old new : List ℕ) → length old ≡ length new → (k : ℕ) → 64 * k < length new → lies_in old (numbered_record new k) ≡ true
lies-numbered old new e k h =
    rw (lt-ltb (64 * k) (length old) (omega arith)) (eq-eqb _ _ (same-length new old k (sym e)))

-- changed records lie in the old image
pub within : (old new : List ℕ) → length old ≡ length new → list_all (lies_in old) (changed_records old new) ≡ true
within old new e =
    all-range (lies_in old) (differs old) (numbered_record new) (record_count (length new)) 0
    (λ k h. lies-numbered old new e k (counted (length new) k (omega arith)))

none-range : (p : Changed → Bool) (f : ℕ → Changed) (n a : ℕ) → ((k : ℕ) → p (f k) ≡ false) → filter p (map f (range_with_len a n)) ≡ []
none-range p f zero a h = refl
none-range p f (suc n) a h = rw (h a) (none-range p f n (a + 1) h)

-- between equal images there are none
pub none : (image : List ℕ) → changed_records image image ≡ []
none image =
    none-range (differs image) (numbered_record image) (record_count (length image)) 0
    (λ k. ap not ((bytes_eq-Decides (record_at image k) (record_at image k)).1 refl))

-- one record more
patched-more : (image : List ℕ) (xs ys : List Changed) → patched image (xs ++ ys) ≡ patched (patched image xs) ys
patched-more image [] ys = refl
patched-more image (x ∷ xs) ys = patched-more (with_record image x) xs ys

-- the new image up to a place, and the old one from there
abbrev joined : List ℕ → List ℕ → ℕ → List ℕ
joined old new m = take m new ++ drop m old

-- the bytes from a place on are the record there and those behind it
rest-at : (image : List ℕ) (k : ℕ) → drop (64 * k) image ≡ record_at image k ++ drop (64 * k + 64) image
rest-at image k =
    sym (take-append-drop 64 (drop (64 * k) image)) ∙ ap (λ l. record_at image k ++ l) (drop-drop 64 (64 * k) image)

-- the image up to the next record
front-at : (image : List ℕ) (k : ℕ) → take (64 * k + 64) image ≡ take (64 * k) image ++ record_at image k
front-at image k = take-add (64 * k) 64 image

-- a record that is equal in both
same-step : (old new : List ℕ) (k : ℕ) → record_at old k ≡ record_at new k
    → joined old new (64 * k) ≡ joined old new (64 * k + 64)
same-step old new k e =
    ap (λ l. take (64 * k) new ++ l) (rest-at old k ∙ ap (λ l. l ++ drop (64 * k + 64) old) e)
    ∙ sym (append_assoc (take (64 * k) new) (record_at new k) (drop (64 * k + 64) old))
    ∙ ap (λ l. l ++ drop (64 * k + 64) old) (sym (front-at new k))

-- behind a record nothing is left, or it has 64 bytes
behind : (old new : List ℕ) (k : ℕ) → length old ≡ length new → 64 * k < length new
    → drop (64 * k + length (record_at new k)) old ≡ drop (64 * k + 64) old
behind old new k e h =
    ⊎_elim
    (λ short. drop_all _ old (omega (arith, record-length new k)) ∙ sym (drop_all _ old (omega arith)))
    (λ (long : 64 * k + 64 ≤ length new).
    ap (λ (n : ℕ). drop (64 * k + n) old) (record-length new k ∙ omega arith))
    (cases_lt (length new) (64 * k + 64))

-- a record that is put between a front and a rest
put-at : (front rest bytes left : List ℕ) (k : ℕ) → length front ≡ 64 * k → drop (length bytes) rest ≡ left
    → with_record (front ++ rest) (record { number = k; bytes = bytes }) ≡ (front ++ bytes) ++ left
put-at front rest bytes left k e h =
    ap (λ l. l ++ (bytes ++ drop (64 * k + length bytes) (front ++ rest)))
    (ap (λ n. take n (front ++ rest)) (sym e) ∙ take-append_seam front rest)
    ∙ ap (λ l. front ++ (bytes ++ l))
    (ap (λ n. drop (n + length bytes) (front ++ rest)) (sym e) ∙ drop-append-add front rest (length bytes) ∙ h)
    ∙ sym (append_assoc front bytes left)

-- a record that differs
put-step : (old new : List ℕ) (k : ℕ) → length old ≡ length new → 64 * k < length new
    → with_record (joined old new (64 * k)) (numbered_record new k) ≡ joined old new (64 * k + 64)
put-step old new k e h =
    put-at (take (64 * k) new) (drop (64 * k) old) (record_at new k) (drop (64 * k + 64) old) k
    (length-take-le (64 * k) new (omega arith))
    (drop-drop (length (record_at new k)) (64 * k) old ∙ behind old new k e h)
    ∙ ap (λ l. l ++ drop (64 * k + 64) old) (sym (front-at new k))

-- a record that is put where it differs
one-step : (old new : List ℕ) (k : ℕ) (b : Bool) → length old ≡ length new → 64 * k < length new
    → differs old (numbered_record new k) ≡ b
    → patched (joined old new (64 * k)) (cond b (numbered_record new k ∷ []) []) ≡ joined old new (64 * k + 64)
one-step old new k true e h d = put-step old new k e h
one-step old new k false e h d =
    same-step old new k ((bytes_eq-Decides (record_at old k) (record_at new k)).0 (not-false _ d))

-- with the changed records of the first k numbers
patched-range : (old new : List ℕ) → length old ≡ length new → (k : ℕ) → k ≤ record_count (length new)
    → patched old (filter (differs old) (map (numbered_record new) (range_with_len 0 k))) ≡ joined old new (64 * k)
patched-range old new e zero h = refl
patched-range old new e (suc k) h =
    let changed : List Changed = filter (differs old) (map (numbered_record new) (range_with_len 0 k)) in
    let last : List Changed = cond (differs old (numbered_record new k)) (numbered_record new k ∷ []) [] in
    ap (λ n. patched old (filter (differs old) (map (numbered_record new) (range_with_len 0 n)))) (let P : suc k ≡ k + 1 = omega arith in P)
    ∙ ap (λ l. patched old l) (filter_of_map_range_with_len_more (differs old) (numbered_record new) 0 k k (omega arith))
    ∙ patched-more old changed last
    ∙ ap (λ i. patched i last) (patched-range old new e k (omega arith))
    ∙ one-step old new k (differs old (numbered_record new k)) e (counted (length new) k (omega arith)) refl
    ∙ ap (λ n. joined old new n) (let P : 64 * k + 64 ≡ 64 * suc k = omega arith in P)

-- changed records, put into the old image, give the new one
pub patch : (old new : List ℕ) → length old ≡ length new → patched old (changed_records old new) ≡ new
patch old new e =
    let count : ℕ = record_count (length new) in
    let all : length new ≤ 64 * count = past (length new) in
    patched-range old new e count (omega arith)
    ∙ ap (λ l. l ++ drop (64 * count) old) (take_all (64 * count) new all)
    ∙ ap (λ l. new ++ l) (drop_all (64 * count) old (omega arith))
    ∙ append-nil new

-- Records that lie in an image.

-- such a record ends within the image
pub lies-within : (image : List ℕ) (changed : Changed) → lies_in image changed ≡ true
    → (64 * changed.number < length image) × (length changed.bytes ≡ length (record_at image changed.number))
lies-within image changed h =
    let k = (Decides-both (nat_lt (64 * changed.number) (length image)) (length changed.bytes == length (record_at image changed.number))).0 h in
    (ltb-true _ _ k.0, eqb-true _ _ k.1)

pub lies-end : (image : List ℕ) (changed : Changed) → lies_in image changed ≡ true
    → 64 * changed.number + length changed.bytes ≤ length image
lies-end image changed h =
    let k = lies-within image changed h in
    let lt = k.0 in let e = k.1 in
    omega (arith, record-length image changed.number)

-- it leaves the image's length
pub with-record-length : (image : List ℕ) (changed : Changed) → lies_in image changed ≡ true → length (with_record image changed) ≡ length image
with-record-length image changed h =
    let end = lies-end image changed h in
    length-append (take (64 * changed.number) image) (changed.bytes ++ drop (64 * changed.number + length changed.bytes) image)
    ∙ omega (
      arith,
      length-append changed.bytes (drop (64 * changed.number + length changed.bytes) image),
      length-take (64 * changed.number) image,
      length-drop (64 * changed.number + length changed.bytes) image,
    )

-- what lies in an image lies in every one of its length
pub lies-same : (image other : List ℕ) (changed : Changed) → length image ≡ length other → lies_in other changed ≡ true → lies_in image changed ≡ true
lies-same image other changed e h =
    let k = lies-within other changed h in
    let lt : 64 * changed.number < length image = let below = k.0 in omega arith in
    rw (lt-ltb (64 * changed.number) (length image) lt) (eq-eqb _ _ (k.1 ∙ same-length other image changed.number (sym e)))

-- One record is put after the other.

-- what all pass each passes
pub each-passes : {A : Type 0} (test : A → Bool) (xs : List A) (i : ℕ) (d : A) → list_all test xs ≡ true → i < length xs
    → test (get_or xs i d) ≡ true
each-passes test [] i d h lt = absurd (omega arith)
each-passes test (x ∷ xs) zero d h lt = ((Decides-both (test x) (list_all test xs)).0 h).0
each-passes test (x ∷ xs) (suc i) d h lt = each-passes test xs i d ((Decides-both (test x) (list_all test xs)).0 h).1 (omega arith)

-- the next record is put in its place
pub patched-next : (image : List ℕ) (xs : List Changed) (i : ℕ) (x : Changed) → i < length xs → x ≡ get_or xs i x
    → patched image (drop i xs) ≡ patched (with_record image x) (drop (i + 1) xs)
patched-next image xs i x lt e =
    ap (λ l. patched image l) (drop-cons xs i x lt ∙ ap (λ y. y ∷ drop (suc i) xs) (sym e))
    ∙ ap (λ n. patched (with_record image x) (drop n xs)) (let P : suc i ≡ i + 1 = omega arith in P)
