-- Forms: what a reader takes is what was spelled, and what was spelled it takes again.
use Rattle.std.proofs.Common.{◌≡◌, ℕ, zero, suc, ◌+◌, ◌^◌, ◌<◌, ◌≤◌, Bool, true, false, cond, ltb, List, [], ◌∷◌, ◌++◌, length, get_or, take, drop, Option, Some, None, refl, sym, ap, subst, ◌∙◌, append_assoc, arith, inl, inr}
use Rattle.std.specs.Int.{Width, w16, w32, w64, byte_len, from_be_bytes, to_be_bytes}
use Rattle.std.specs.List.{flat_map, AllByRecursion}
use Rattle.std.proofs.lemmas.Bool.{cases_lt, ltb-false, le-ltb}
use Rattle.std.proofs.lemmas.List.{take_at, drop_at, take-append-drop, length-append, length-take, get_or-drop, get_or-take, get_or_past}
use Rattle.std.proofs.lemmas.List.Concat.{flat_map-cons}
use Rattle.std.proofs.lemmas.Nat.{be_bytes_2, be_bytes_4, be_bytes_8, from_be_bytes-to_be_bytes_2, from_be_bytes-to_be_bytes_4, from_be_bytes-to_be_bytes_8}
use Rattle.pw_base.proofs.Plain.{some_is, cond_passed}
use Rattle.pw_image.specs.Reading.{Front, ◌>>=◌, number_at, byte_at, block_at, both_at, made_at, many_at, counted_at}
use Rattle.pw_image.specs.Values.{AreBytes}

pub AreBytes-drop : (n : ℕ) (bytes : List ℕ) → AreBytes bytes → AreBytes (drop n bytes)
AreBytes-drop n bytes h i = rw get_or-drop (h (n + i))

pub AreBytes-take : (n : ℕ) (bytes : List ℕ) → AreBytes bytes → AreBytes (take n bytes)
AreBytes-take n bytes h i =
    elim (cases_lt i n) [
      | inl lt ↦ rw (get_or-take n bytes i 0 lt) (h i)
      | inr le ↦ rw (get_or_past (take n bytes) i 0 (omega (arith, length-take n bytes))) (omega arith)
    ]

-- the value of a step that was made
pub bind_some : {A B : Type 0} (r : Option A) (f : A → Option B) (y : B) → (r >>= f) ≡ Some y → (x : A) × (r ≡ Some x) × (f x ≡ Some y)
bind_some (Some x) f y e = (x, refl, e)
bind_some None f y e = absurd cc

-- a test that did not fail
cond_failed : {A : Type 0} (b : Bool) (x y : A) → cond b None (Some x) ≡ Some y → (b ≡ false) × (x ≡ y)
cond_failed true x y e = absurd cc
cond_failed false x y e = (refl, cc)

-- what a reader took from the front
pub record Takes (bytes text rest : List ℕ) : Type 0 where
  pub parts : bytes ≡ text ++ rest
  pub rest_fits : AreBytes rest

pub Takes-then : (a x b y c : List ℕ) → Takes a x b → Takes b y c → Takes a (x ++ y) c
Takes-then a x b y c p q = record {
  parts = p.parts ∙ ap (λ (t : List ℕ). x ++ t) q.parts ∙ sym (append_assoc x y c);
  rest_fits = q.rest_fits;
}

-- a reader takes what is spelled of values that fit, and takes it again
pub record IsForm {A : Type 0} (read : List ℕ → Front A) (spell : A → List ℕ) (Fits : A → Type 0) : Type 0 where
  pub takes : (bytes : List ℕ) (x : A) (rest : List ℕ) → AreBytes bytes → read bytes ≡ Some (x, rest) → Takes bytes (spell x) rest × Fits x
  pub again : (x : A) (rest : List ℕ) → Fits x → read (spell x ++ rest) ≡ Some (x, rest)

-- Numbers.

record IsWide (w : Width) (limit : ℕ) : Type 0 where
  len : (n : ℕ) → length (to_be_bytes w n) ≡ byte_len w
  back : (bytes : List ℕ) → length bytes ≡ byte_len w → AreBytes bytes → to_be_bytes w (from_be_bytes w bytes) ≡ bytes
  again : (n : ℕ) → n < limit → from_be_bytes w (to_be_bytes w n) ≡ n
  below : (bytes : List ℕ) → AreBytes bytes → from_be_bytes w bytes < limit

wide16 : IsWide w16 (2 ^ 16)
wide16 = record {
  len = λ n. refl;
  back = λ bytes len fits. be_bytes_2 bytes _ len fits refl;
  again = λ n lt. from_be_bytes-to_be_bytes_2 n lt;
  below = λ bytes fits. omega (arith, fits 0, fits 1);
}

wide32 : IsWide w32 (2 ^ 32)
wide32 = record {
  len = λ n. refl;
  back = λ bytes len fits. be_bytes_4 bytes _ len fits refl;
  again = λ n lt. from_be_bytes-to_be_bytes_4 n lt;
  below = λ bytes fits. omega (arith, fits 0, fits 1, fits 2, fits 3);
}

wide64 : IsWide w64 (2 ^ 64)
wide64 = record {
  len = λ n. refl;
  back = λ bytes len fits. be_bytes_8 bytes _ len fits refl;
  again = λ n lt. from_be_bytes-to_be_bytes_8 n lt;
  below = λ bytes fits. omega (arith, fits 0, fits 1, fits 2, fits 3, fits 4, fits 5, fits 6, fits 7);
}

number_takes : (w : Width) (limit : ℕ) (wide : IsWide w limit) (bytes : List ℕ) (n : ℕ) (rest : List ℕ) → AreBytes bytes → number_at w bytes ≡ Some (n, rest)
    → Takes bytes (to_be_bytes w n) rest × (n < limit)
number_takes w limit wide bytes n rest fits e =
    let g = cond_failed (ltb (length bytes) (byte_len w)) (from_be_bytes w (take (byte_len w) bytes), drop (byte_len w) bytes) (n, rest) e in
    let long : byte_len w ≤ length bytes = ltb-false _ _ g.0 in
    let n-is : from_be_bytes w (take (byte_len w) bytes) ≡ n = ap (λ (p : ℕ × List ℕ). p.0) g.1 in
    let rest-is : drop (byte_len w) bytes ≡ rest = ap (λ (p : ℕ × List ℕ). p.1) g.1 in
    let front : to_be_bytes w n ≡ take (byte_len w) bytes =
    rw (← n-is) (wide.back (take (byte_len w) bytes) (omega (arith, length-take (byte_len w) bytes)) (AreBytes-take (byte_len w) bytes fits)) in (
      record { parts = rw (front, ← rest-is) (sym (take-append-drop (byte_len w) bytes)); rest_fits = rw (← rest-is) (AreBytes-drop (byte_len w) bytes fits) },
      rw (← n-is) (wide.below (take (byte_len w) bytes) (AreBytes-take (byte_len w) bytes fits)),
    )

number_again : (w : Width) (limit : ℕ) (wide : IsWide w limit) (n : ℕ) (rest : List ℕ) → n < limit → number_at w (to_be_bytes w n ++ rest) ≡ Some (n, rest)
number_again w limit wide n rest lt =
    let len = wide.len n in
    let long : ltb (length (to_be_bytes w n ++ rest)) (byte_len w) ≡ false = le-ltb _ _ (omega (arith, length-append (to_be_bytes w n) rest)) in
    rw (long, take_at (to_be_bytes w n) rest (byte_len w) len, drop_at (to_be_bytes w n) rest (byte_len w) len, wide.again n lt) refl

number : (w : Width) (limit : ℕ) → IsWide w limit → IsForm (number_at w) (to_be_bytes w) (λ n. n < limit)
number w limit wide = record { takes = number_takes w limit wide; again = number_again w limit wide }

pub number16 : IsForm (number_at w16) (to_be_bytes w16) (λ n. n < 2 ^ 16)
number16 = number w16 (2 ^ 16) wide16

pub number32 : IsForm (number_at w32) (to_be_bytes w32) (λ n. n < 2 ^ 32)
number32 = number w32 (2 ^ 32) wide32

pub number64 : IsForm (number_at w64) (to_be_bytes w64) (λ n. n < 2 ^ 64)
number64 = number w64 (2 ^ 64) wide64

-- Bytes.

byte_takes : (test : ℕ → Bool) (bytes : List ℕ) (x : ℕ) (rest : List ℕ) → AreBytes bytes → byte_at test bytes ≡ Some (x, rest)
    → Takes bytes (x ∷ []) rest × ((test x ≡ true) × (x < 256))
byte_takes test [] x rest fits e = absurd cc
byte_takes test (byte ∷ bytes) x rest fits e =
    let g = cond_passed (test byte) (Some (byte, bytes)) (x, rest) e in
    let P : ℕ × List ℕ → Type 0 = λ p. Takes (byte ∷ bytes) (p.0 ∷ []) p.1 × ((test p.0 ≡ true) × (p.0 < 256)) in
    subst P (some_is g.1) (record { parts = refl; rest_fits = λ i. fits (suc i) }, (g.0, fits 0))

pub byte : (test : ℕ → Bool) → IsForm (byte_at test) (λ b. b ∷ []) (λ b. (test b ≡ true) × (b < 256))
byte test = record { takes = byte_takes test; again = λ x rest fits. let passed : test x ≡ true = fits.0 in rw passed refl }

block_takes : (n : ℕ) (bytes x rest : List ℕ) → AreBytes bytes → block_at n bytes ≡ Some (x, rest)
    → Takes bytes x rest × ((length x ≡ n) × AreBytes x)
block_takes n bytes x rest fits e =
    let g = cond_failed (ltb (length bytes) n) (take n bytes, drop n bytes) (x, rest) e in
    let long : n ≤ length bytes = ltb-false _ _ g.0 in
    let P : List ℕ × List ℕ → Type 0 = λ p. Takes bytes p.0 p.1 × ((length p.0 ≡ n) × AreBytes p.0) in
    subst P g.1 (
      record { parts = sym (take-append-drop n bytes); rest_fits = AreBytes-drop n bytes fits },
      (omega (arith, length-take n bytes), AreBytes-take n bytes fits),
    )

block_again : (n : ℕ) (x rest : List ℕ) → ((length x ≡ n) × AreBytes x) → block_at n (x ++ rest) ≡ Some (x, rest)
block_again n x rest fits =
    let len : length x ≡ n = fits.0 in
    let long : ltb (length (x ++ rest)) n ≡ false = le-ltb _ _ (omega (arith, length-append x rest)) in
    rw (long, take_at x rest n len, drop_at x rest n len) refl

pub block : (n : ℕ) → IsForm (block_at n) (λ l. l) (λ l. (length l ≡ n) × AreBytes l)
block n = record { takes = block_takes n; again = block_again n }

-- Forms of forms.

module _ {A B : Type 0} (one : List ℕ → Front A) (other : List ℕ → Front B) (spell_one : A → List ℕ) (spell_other : B → List ℕ)
    (FitsOne : A → Type 0) (FitsOther : B → Type 0) (f : IsForm one spell_one FitsOne) (g : IsForm other spell_other FitsOther) where
  both_takes : (bytes : List ℕ) (x : A × B) (rest : List ℕ) → AreBytes bytes → both_at one other bytes ≡ Some (x, rest)
      → Takes bytes (spell_one x.0 ++ spell_other x.1) rest × (FitsOne x.0 × FitsOther x.1)
  both_takes bytes x rest fits e =
      let a = bind_some (one bytes) (λ first. other first.1 >>= λ second. Some ((first.0, second.0), second.1)) (x, rest) e in
      let b = bind_some (other a.0.1) (λ second. Some ((a.0.0, second.0), second.1)) (x, rest) a.2 in
      let first = f.takes bytes a.0.0 a.0.1 fits a.1 in
      let second = g.takes a.0.1 b.0.0 b.0.1 first.0.rest_fits b.1 in
      let P : (A × B) × List ℕ → Type 0 = λ p. Takes bytes (spell_one p.0.0 ++ spell_other p.0.1) p.1 × (FitsOne p.0.0 × FitsOther p.0.1) in
      subst P (some_is b.2) (Takes-then bytes (spell_one a.0.0) a.0.1 (spell_other b.0.0) b.0.1 first.0 second.0, (first.1, second.1))

  both_again : (x : A × B) (rest : List ℕ) → FitsOne x.0 × FitsOther x.1 → both_at one other ((spell_one x.0 ++ spell_other x.1) ++ rest) ≡ Some (x, rest)
  both_again x rest fits =
      ap (both_at one other) (append_assoc (spell_one x.0) (spell_other x.1) rest)
      ∙ ap (λ r. r >>= λ first. other first.1 >>= λ second. Some ((first.0, second.0), second.1)) (f.again x.0 (spell_other x.1 ++ rest) fits.0)
      ∙ ap (λ r. r >>= λ second. Some ((x.0, second.0), second.1)) (g.again x.1 rest fits.1)

  pub both : IsForm (both_at one other) (λ x. spell_one x.0 ++ spell_other x.1) (λ x. FitsOne x.0 × FitsOther x.1)
  both = record { takes = both_takes; again = both_again }

-- a value made of what was read
pub record IsMade {A B : Type 0} (make : A → B) (parts : B → A) (spell : A → List ℕ) (spell_made : B → List ℕ) (Fits : A → Type 0)
    (FitsMade : B → Type 0) : Type 0 where
  pub spelled : (x : A) → Fits x → spell_made (make x) ≡ spell x
  pub fit : (x : A) → Fits x → FitsMade (make x)
  pub whole : (y : B) → FitsMade y → make (parts y) ≡ y
  pub parts_fit : (y : B) → FitsMade y → Fits (parts y)

module _ {A B : Type 0} (make : A → B) (parts : B → A) (read : List ℕ → Front A) (spell : A → List ℕ) (spell_made : B → List ℕ)
    (Fits : A → Type 0) (FitsMade : B → Type 0) (m : IsMade make parts spell spell_made Fits FitsMade) (f : IsForm read spell Fits) where
  made_takes : (bytes : List ℕ) (y : B) (rest : List ℕ) → AreBytes bytes → made_at make read bytes ≡ Some (y, rest)
      → Takes bytes (spell_made y) rest × FitsMade y
  made_takes bytes y rest fits e =
      let a = bind_some (read bytes) (λ front. Some (make front.0, front.1)) (y, rest) e in
      let t = f.takes bytes a.0.0 a.0.1 fits a.1 in
      let P : B × List ℕ → Type 0 = λ p. Takes bytes (spell_made p.0) p.1 × FitsMade p.0 in
      let Q : List ℕ → Type 0 = λ s. Takes bytes s a.0.1 in
      subst P (some_is a.2) (subst Q (sym (m.spelled a.0.0 t.1)) t.0, m.fit a.0.0 t.1)

  made_again : (y : B) (rest : List ℕ) → FitsMade y → made_at make read (spell_made y ++ rest) ≡ Some (y, rest)
  made_again y rest fits =
      ap (λ z. made_at make read (z ++ rest)) (ap spell_made (sym (m.whole y fits)) ∙ m.spelled (parts y) (m.parts_fit y fits))
      ∙ ap (λ r. r >>= λ front. Some (make front.0, front.1)) (f.again (parts y) rest (m.parts_fit y fits))
      ∙ ap (λ z. Some (z, rest)) (m.whole y fits)

  pub made : IsForm (made_at make read) spell_made FitsMade
  made = record { takes = made_takes; again = made_again }

module _ {A : Type 0} (read : List ℕ → Front A) (spell : A → List ℕ) (Fits : A → Type 0) (f : IsForm read spell Fits) where
  many_take : (n : ℕ) (bytes : List ℕ) (xs : List A) (rest : List ℕ) → AreBytes bytes → many_at read n bytes ≡ Some (xs, rest)
      → Takes bytes (flat_map spell xs) rest × ((length xs ≡ n) × AllByRecursion Fits xs)
  unfolding many_at
  many_take zero bytes xs rest fits e =
      let P : List A × List ℕ → Type 0 = λ p. Takes bytes (flat_map spell p.0) p.1 × ((length p.0 ≡ 0) × AllByRecursion Fits p.0) in
      subst P (some_is e) (record { parts = refl; rest_fits = fits }, (refl, tt))
  many_take (suc n) bytes xs rest fits e =
      let a = bind_some (read bytes) (λ first. many_at read n first.1 >>= λ others. Some (first.0 ∷ others.0, others.1)) (xs, rest) e in
      let b = bind_some (many_at read n a.0.1) (λ others. Some (a.0.0 ∷ others.0, others.1)) (xs, rest) a.2 in
      let first = f.takes bytes a.0.0 a.0.1 fits a.1 in
      let second = many_take n a.0.1 b.0.0 b.0.1 first.0.rest_fits b.1 in
      let P : List A × List ℕ → Type 0 = λ p. Takes bytes (flat_map spell p.0) p.1 × ((length p.0 ≡ suc n) × AllByRecursion Fits p.0) in
      let whole = Takes-then bytes (spell a.0.0) a.0.1 (flat_map spell b.0.0) b.0.1 first.0 second.0 in
      subst P (some_is b.2) (rw flat_map-cons whole, (ap suc second.1.0, (first.1, second.1.1)))

  many_again : (n : ℕ) (xs : List A) (rest : List ℕ) → (length xs ≡ n) × AllByRecursion Fits xs → many_at read n (flat_map spell xs ++ rest) ≡ Some (xs, rest)
  unfolding many_at
  many_again zero [] rest fits = refl
  many_again zero (x ∷ xs) rest fits = absurd (let e : suc (length xs) ≡ 0 = fits.0 in omega arith)
  many_again (suc n) [] rest fits = absurd (let e : 0 ≡ suc n = fits.0 in omega arith)
  many_again (suc n) (x ∷ xs) rest fits =
      let e : length xs ≡ n = let h : suc (length xs) ≡ suc n = fits.0 in omega arith in
      ap (many_at read (suc n)) (ap (λ l. l ++ rest) (flat_map-cons spell x xs) ∙ append_assoc (spell x) (flat_map spell xs) rest)
      ∙ ap (λ r. r >>= λ first. many_at read n first.1 >>= λ others. Some (first.0 ∷ others.0, others.1)) (f.again x (flat_map spell xs ++ rest) fits.1.0)
      ∙ ap (λ r. r >>= λ others. Some (x ∷ others.0, others.1)) (many_again n xs rest (e, fits.1.1))

  pub many : (n : ℕ) → IsForm (many_at read n) (flat_map spell) (λ xs. (length xs ≡ n) × AllByRecursion Fits xs)
  many n = record { takes = many_take n; again = many_again n }

module _ {A : Type 0} (count : List ℕ → Front ℕ) (test : ℕ → Bool) (items : ℕ → List ℕ → Front A) (spell_count : ℕ → List ℕ) (spell : A → List ℕ)
    (FitsCount : ℕ → Type 0) (size : A → ℕ) (Fits : A → Type 0) (f : IsForm count spell_count FitsCount)
    (each : (n : ℕ) → IsForm (items n) spell (λ xs. (size xs ≡ n) × Fits xs)) where
  counted_takes : (bytes : List ℕ) (x : A) (rest : List ℕ) → AreBytes bytes → counted_at count test items bytes ≡ Some (x, rest)
      → Takes bytes (spell_count (size x) ++ spell x) rest × (FitsCount (size x) × ((test (size x) ≡ true) × Fits x))
  counted_takes bytes x rest fits e =
      let a = bind_some (count bytes) (λ front. cond (test front.0) (items front.0 front.1) None) (x, rest) e in
      let g = cond_passed (test a.0.0) (items a.0.0 a.0.1) (x, rest) a.2 in
      let first = f.takes bytes a.0.0 a.0.1 fits a.1 in
      let second = (each a.0.0).takes a.0.1 x rest first.0.rest_fits g.1 in
      let P : ℕ → Type 0 = λ n. Takes bytes (spell_count n ++ spell x) rest × (FitsCount n × ((test n ≡ true) × Fits x)) in
      subst P (sym second.1.0) (Takes-then bytes (spell_count a.0.0) a.0.1 (spell x) rest first.0 second.0, (first.1, (g.0, second.1.1)))

  counted_again : (x : A) (rest : List ℕ) → FitsCount (size x) × ((test (size x) ≡ true) × Fits x)
      → counted_at count test items ((spell_count (size x) ++ spell x) ++ rest) ≡ Some (x, rest)
  counted_again x rest fits =
      ap (counted_at count test items) (append_assoc (spell_count (size x)) (spell x) rest)
      ∙ ap (λ r. r >>= λ front. cond (test front.0) (items front.0 front.1) None) (f.again (size x) (spell x ++ rest) fits.0)
      ∙ ap (λ b. cond b (items (size x) (spell x ++ rest)) None) fits.1.0
      ∙ (each (size x)).again x rest (refl, fits.1.1)

  pub counted : IsForm (counted_at count test items) (λ x. spell_count (size x) ++ spell x) (λ x. FitsCount (size x) × ((test (size x) ≡ true) × Fits x))
  counted = record { takes = counted_takes; again = counted_again }
