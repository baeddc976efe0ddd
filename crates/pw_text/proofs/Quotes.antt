-- One byte after the other behind a quote.
use Rattle.std.proofs.Common.{◌≡◌, ◌≢◌, ℕ, ◌+◌, ◌<◌, Bool, true, false, cond, List, [], ◌∷◌, length, get_or, drop, Option, Some, None, refl, sym, ap, ◌∙◌, add-one, arith}
use Rattle.std.proofs.Math.Seq.{drop-cons}
use Rattle.std.proofs.lemmas.List.{drop_all}
use Rattle.std.proofs.lemmas.Bool.{eq-eqb, ne_eqb}
use Rattle.std.specs.Prelude.{◌==◌}
use Rattle.pw_text.specs.Items.{quoted, one_byte_more}

-- a size behind bytes that are counted already
abbrev pub plus : ℕ → Option ℕ → Option ℕ
plus i None = None
plus i (Some n) = Some (i + n)

plus-one_more : (i : ℕ) (size : Option ℕ) → plus i (one_byte_more size) ≡ plus (i + 1) size
plus-one_more i None = refl
plus-one_more i (Some n) = ap Some (omega arith)

front : (bytes : List ℕ) (i : ℕ) → i < length bytes → drop i bytes ≡ get_or bytes i 0 ∷ drop (i + 1) bytes
front bytes i within = rw (add-one, drop-cons bytes i 0) refl

pub quoted_closed : (b : ℕ) (bs : List ℕ) → b ≢ 34 → quoted true (b ∷ bs) ≡ Some 0
unfolding quoted
quoted_closed b bs ne = rw (ne_eqb b 34 ne) refl

pub quoted_doubled : (b : ℕ) (bs : List ℕ) → b ≡ 34 → quoted true (b ∷ bs) ≡ one_byte_more (quoted false bs)
unfolding quoted
quoted_doubled b bs is = rw (eq-eqb b 34 is) refl

pub quoted_line : (b : ℕ) (bs : List ℕ) → b ≡ 10 → quoted false (b ∷ bs) ≡ None
unfolding quoted
quoted_line b bs is = rw (eq-eqb b 10 is) refl

pub quoted_quote : (b : ℕ) (bs : List ℕ) → b ≢ 10 → b ≡ 34 → quoted false (b ∷ bs) ≡ one_byte_more (quoted true bs)
unfolding quoted
quoted_quote b bs ne is = rw (ne_eqb b 10 ne, eq-eqb b 34 is) refl

pub quoted_byte : (b : ℕ) (bs : List ℕ) → b ≢ 10 → b ≢ 34 → quoted false (b ∷ bs) ≡ one_byte_more (quoted false bs)
unfolding quoted
quoted_byte b bs no_lf no_quote = rw (ne_eqb b 10 no_lf, ne_eqb b 34 no_quote) refl

-- at the end of all bytes
pub quoted_end : (closed : Bool) (bytes : List ℕ) (i : ℕ) (whole : Option ℕ) → length bytes ≡ i → plus i (quoted closed (drop i bytes)) ≡ whole → whole ≡ cond closed (Some (length bytes)) None
unfolding quoted
quoted_end true bytes i whole all is = let gone : drop i bytes ≡ [] = drop_all i bytes (omega arith) in sym (rw gone at is) ∙ ap Some (omega arith)
quoted_end false bytes i whole all is = let gone : drop i bytes ≡ [] = drop_all i bytes (omega arith) in sym (rw gone at is)

-- one byte further
pub quoted_further : (closed next : Bool) (bytes : List ℕ) (i : ℕ) (whole : Option ℕ) → i < length bytes
    → quoted closed (get_or bytes i 0 ∷ drop (i + 1) bytes) ≡ one_byte_more (quoted next (drop (i + 1) bytes))
    → plus i (quoted closed (drop i bytes)) ≡ whole → plus (i + 1) (quoted next (drop (i + 1) bytes)) ≡ whole
quoted_further closed next bytes i whole within one is =
    sym (plus-one_more i (quoted next (drop (i + 1) bytes))) ∙ sym (ap (plus i) (ap (quoted closed) (front bytes i within) ∙ one)) ∙ is

-- the text ends here, or its line does
pub quoted_stops : (closed : Bool) (bytes : List ℕ) (i : ℕ) (whole size : Option ℕ) → i < length bytes
    → quoted closed (get_or bytes i 0 ∷ drop (i + 1) bytes) ≡ size → plus i (quoted closed (drop i bytes)) ≡ whole → plus i size ≡ whole
quoted_stops closed bytes i whole size within one is = sym (ap (plus i) (ap (quoted closed) (front bytes i within) ∙ one)) ∙ is

one_more-some : (size : Option ℕ) (n : ℕ) → Some n ≡ one_byte_more size → 0 < n
one_more-some None n is = absurd cc
one_more-some (Some m) n is = let same : n ≡ m + 1 = cc in omega arith

quoted-some_by : (is_lf is_quote : Bool) (bs : List ℕ) (n : ℕ) → Some n ≡ cond is_lf None (cond is_quote (one_byte_more (quoted true bs)) (one_byte_more (quoted false bs))) → 0 < n
quoted-some_by true is_quote bs n is = absurd cc
quoted-some_by false true bs n is = one_more-some (quoted true bs) n is
quoted-some_by false false bs n is = one_more-some (quoted false bs) n is

-- the last quote counts
pub quoted-some : (bytes : List ℕ) (n : ℕ) → Some n ≡ quoted false bytes → 0 < n
unfolding quoted
quoted-some [] n is = absurd cc
quoted-some (b ∷ bs) n is = quoted-some_by (b == 10) (b == 34) bs n is
