-- The records that differ among those of some numbers.
use Rattle.std.proofs.Common.{◌≡◌, ℕ, zero, suc, ◌+◌, ◌*◌, ◌≤◌, Bool, true, false, cond, not, List, [], ◌∷◌, ◌++◌, Result, Ok, Err, take, drop, refl, sym, ap, ◌∙◌, arith, append_assoc}
use Rattle.std.specs.Prelude.{OnOk}
use Rattle.std.proofs.lemmas.List.{drop-drop, drop-take}
use Rattle.std.proofs.lemmas.Slice.Eq.{bytes_eq-Decides}
use Rattle.pw_image.specs.Records.{changed_between, differs, numbered_record, record_at, records_between}
use Rattle.pw_image.specs.declared.changed.Changed.{Changed}

first-taken : (m n : ℕ) (xs : List ℕ) → m ≤ n → take m (take n xs) ≡ take m xs
first-taken zero n xs h = refl
first-taken (suc m) zero xs h = absurd (omega arith)
first-taken (suc m) (suc n) [] h = refl
first-taken (suc m) (suc n) (x ∷ xs) h = ap (λ (l : List ℕ). x ∷ l) (first-taken m n xs (omega arith))

-- where some records are equal in both images, the first of them is
first-same : (old new : List ℕ) (from count : ℕ) → records_between old from (count + 1) ≡ records_between new from (count + 1)
    → record_at old from ≡ record_at new from
first-same old new from count same =
    sym (first-taken 64 (64 * (count + 1)) (drop (64 * from) old) (omega arith))
    ∙ (ap (take 64) same ∙ first-taken 64 (64 * (count + 1)) (drop (64 * from) new) (omega arith))

behind-first : (image : List ℕ) (from count : ℕ)
    → drop 64 (records_between image from (count + 1)) ≡ records_between image (from + 1) count
behind-first image from count =
    let more : 64 * (count + 1) ≡ 64 + 64 * count = omega arith in
    let next : 64 * from + 64 ≡ 64 * (from + 1) = omega arith in
    ap (λ (k : ℕ). drop 64 (take k (drop (64 * from) image))) more
    ∙ (drop-take {X = ℕ} 64 (64 * count) (drop (64 * from) image)
    ∙ (ap (take (64 * count)) (drop-drop 64 (64 * from) image)
    ∙ ap (λ (k : ℕ). take (64 * count) (drop k image)) next))

-- and so are the others
others-same : (old new : List ℕ) (from count : ℕ) → records_between old from (count + 1) ≡ records_between new from (count + 1)
    → records_between old (from + 1) count ≡ records_between new (from + 1) count
others-same old new from count same =
    sym (behind-first old from count) ∙ (ap (drop 64) same ∙ behind-first new from count)

-- records that are equal in both images do not differ
pub none-between : (old new : List ℕ) (from count : ℕ) → records_between old from count ≡ records_between new from count
    → changed_between old new from count ≡ []
none-between old new from zero same = refl
none-between old new from (suc count) same =
    let one : suc count ≡ count + 1 = omega arith in
    let all : records_between old from (count + 1) ≡ records_between new from (count + 1) =
    ap (records_between old from) (sym one) ∙ (same ∙ ap (records_between new from) one) in
    let equal : differs old (numbered_record new from) ≡ false =
    ap not ((bytes_eq-Decides (record_at old from) (record_at new from)).1 (first-same old new from count all)) in
    rw equal (none-between old new (from + 1) count (others-same old new from count all))

more-cond : (b : Bool) (c : Changed) (rest others : List Changed)
    → cond b (c ∷ (rest ++ others)) (rest ++ others) ≡ cond b (c ∷ rest) rest ++ others
more-cond true c rest others = refl
more-cond false c rest others = refl

-- those of some numbers, and those of the numbers behind these
pub both-between : (old new : List ℕ) (from first others : ℕ)
    → changed_between old new from (first + others) ≡ changed_between old new from first ++ changed_between old new (from + first) others
both-between old new from zero others = rw ((let P : from + 0 ≡ from = omega arith in P), (let P : 0 + others ≡ others = omega arith in P)) refl
both-between old new from (suc first) others =
    let one : suc first + others ≡ suc (first + others) = omega arith in
    let next : (from + 1) + first ≡ from + suc first = omega arith in
    ap (changed_between old new from) one
    ∙ (ap (λ (l : List Changed). cond (differs old (numbered_record new from)) (numbered_record new from ∷ l) l) (both-between old new (from + 1) first others)
    ∙ (more-cond (differs old (numbered_record new from)) (numbered_record new from) (changed_between old new (from + 1) first) (changed_between old new ((from + 1) + first) others)
    ∙ ap (λ (k : ℕ). changed_between old new from (suc first) ++ changed_between old new k others) next))

-- those of the first half, and those of the other one behind them
pub put-both : {E : Type 0} (put : Result (Unit {0}) E) (items first all : List Changed) (old new : List ℕ) (from half others count : ℕ)
    → half + others ≡ count → first ≡ items ++ changed_between old new from half
    → OnOk put (all ≡ first ++ changed_between old new (from + half) others) → OnOk put (all ≡ items ++ changed_between old new from count)
put-both (Ok _) items first all old new from half others count whole so is =
    let rest = changed_between old new (from + half) others in
    is
    ∙ (ap (λ (l : List Changed). l ++ rest) so
    ∙ (append_assoc items (changed_between old new from half) rest
    ∙ (ap (λ (l : List Changed). items ++ l) (sym (both-between old new from half others))
    ∙ ap (λ (k : ℕ). items ++ changed_between old new from k) whole)))
put-both (Err _) items first all old new from half others count whole so is = is
