-- Reading one thing after the other, as a loop does.
use Rattle.std.proofs.Common.{◌≡◌, ℕ, suc, ◌-◌, ◌+◌, ◌≤◌, ◌<◌, List, [], ◌∷◌, ◌++◌, Option, Some, None, refl, sym, ap, ◌∙◌, append_assoc, arith}
use Rattle.std.proofs.lemmas.List.{append-nil}
use Rattle.pw_image.specs.Reading.{FailsPart, Front, ◌>>=◌, many_at}
use Rattle.pw_image.specs.declared.fault.BytesFault.{BytesFault}
use Rattle.pw_image.specs.declared.fault.BytesFault.TheVariants.{Bad, Memory}

module _ {A : Type 0} (read : List ℕ → Front A) where
  -- what was read before, and what is still read
  abbrev pub with_front : List A → Front (List A) → Front (List A)
  with_front front found = found >>= λ x. Some (front ++ x.0, x.1)

  regroup : (front : List A) (x : A) (found : Front (List A)) → with_front front (found >>= λ others. Some (x ∷ others.0, others.1)) ≡ with_front (front ++ x ∷ []) found
  regroup front x (Some found) = ap (λ (xs : List A). Some (xs, found.1)) (sym (append_assoc front (x ∷ []) found.0))
  regroup front x None = refl

  pub goes_on : (front : List A) (count i : ℕ) (bytes : List ℕ) (x : A) (after : List ℕ) (total : Front (List A)) → i < count → read bytes ≡ Some (x, after)
      → with_front front (many_at read (count - i) bytes) ≡ total → with_front (front ++ x ∷ []) (many_at read (count - (i + 1)) after) ≡ total
  unfolding many_at
  goes_on front count i bytes x after total lt h so_far =
      let k : count - i ≡ suc (count - (i + 1)) = omega arith in
      let one : with_front front (many_at read (count - i) bytes) ≡ with_front (front ++ x ∷ []) (many_at read (count - (i + 1)) after) =
      rw (k, h) (regroup front x (many_at read (count - (i + 1)) after)) in
      sym one ∙ so_far

  pub ends : (front : List A) (count i : ℕ) (bytes : List ℕ) (total : Front (List A)) → i < count → read bytes ≡ None
      → with_front front (many_at read (count - i) bytes) ≡ total → total ≡ None
  unfolding many_at
  ends front count i bytes total lt h so_far =
      let k : count - i ≡ suc (count - (i + 1)) = omega arith in
      let one : with_front front (many_at read (count - i) bytes) ≡ None = rw (k, h) refl in
      sym so_far ∙ one

  pub fails : (fault : BytesFault) (front : List A) (count i : ℕ) (bytes : List ℕ) (total : Front (List A)) → i < count → FailsPart fault (read bytes)
      → with_front front (many_at read (count - i) bytes) ≡ total → FailsPart fault total
  fails Bad front count i bytes total lt h so_far = ends front count i bytes total lt h so_far
  fails Memory front count i bytes total lt h so_far = tt

  pub is_done : (front : List A) (count i : ℕ) (bytes : List ℕ) (total : Front (List A)) → count ≤ i
      → with_front front (many_at read (count - i) bytes) ≡ total → total ≡ Some (front, bytes)
  unfolding many_at
  is_done front count i bytes total le so_far =
      let k : count - i ≡ 0 = omega arith in
      let one : with_front front (many_at read (count - i) bytes) ≡ Some (front, bytes) = rw k (ap (λ (xs : List A). Some (xs, bytes)) (append-nil front)) in
      sym so_far ∙ one
