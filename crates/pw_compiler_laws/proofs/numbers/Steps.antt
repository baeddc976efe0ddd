-- Steps of readers over tokens of which the numbers are those that they are written as.
use Rattle.std.proofs.Common.{◌≡◌, ℕ, zero, suc, Bool, true, false, List, [], ◌∷◌, ◌++◌, drop, Option, Some, None, if◌then◌else◌, refl, ap, subst}
use Rattle.std.specs.Prelude.{nat_le}
use Rattle.pw_operands.specs.Resolved.{Each}
use Rattle.pw_text.specs.declared.token.Token.{Token}
use Rattle.pw_text.specs.declared.token.TokenKind.{TokenKind}
use Rattle.pw_words.specs.Words.{Word}
use Rattle.pw_forms.specs.Readers.{Rest, Reader, and_then, ◌>>=◌, pure, fails, token, takes, left, is_done, expects, eats, ends, some, some_from, up_to, up_to_from, separated, separated_from, form_rest_behind, past, past_kind, sees, sees_kind}
use Rattle.pw_forms.specs.Forms as reads
use Rattle.pw_compiler_laws.specs.Tokens.{HasSpelledNumber}
use Rattle.pw_tree_meaning.proofs.sides.Readers.{as_read, each-more, first_read}

-- nothing is said of a value
abbrev pub Any : {A : Type 0} → A → Type 0
Any x = Unit {0}

abbrev rest_read : {A : Type 0} → Option (A × Rest) → Rest → Rest
rest_read None other = other
rest_read (Some found) other = found.1

each-drop : {A : Type 0} (P : A → Type 0) (xs : List A) → Each P xs → Each P (drop 1 xs)
each-drop P [] each = tt
each-drop P (x ∷ xs) each = each.1

module _ (text : List ℕ) where
  -- what is left is of this text, and its numbers are those that they are written as
  pub record Good (rest : Rest) : Type 0 where
    pub same : rest.text ≡ text
    pub all : Each (HasSpelledNumber text) rest.tokens

  -- each value that a reader gives is one of these, and what it leaves is good
  abbrev pub Yields : {A : Type 0} → (A → Type 0) → Reader A → Type 0
  Yields {A} P reader = (rest : Rest) (x : A) (after : Rest) → Good rest → reader rest ≡ Some (x, after) → P x × Good after

  pub found-is : {A : Type 0} (P : A → Type 0) (x y : A) (rest after : Rest) → Good rest → P x → as_read x rest ≡ as_read y after → P y × Good after
  found-is P x y rest after good p e = (subst P (ap (λ o. first_read o x) e) p, subst Good (ap (λ o. rest_read o rest) e) good)

  pub found-if : {A : Type 0} (P : A → Type 0) (b : Bool) (x y : A) (rest after : Rest) → Good rest → P x → (if b then as_read x rest else None) ≡ as_read y after → P y × Good after
  found-if P true x y rest after good p e = found-is P x y rest after good p e
  found-if P false x y rest after good p e = absurd cc

  yields-then : {A B : Type 0} (P : A → Type 0) (Q : B → Type 0) (o : Option (A × Rest)) (k : A → Reader B) → ((x : A) (after : Rest) → o ≡ Some (x, after) → P x × Good after)
      → ((x : A) → P x → Yields Q (k x)) → (y : B) (after : Rest) → and_then o k ≡ Some (y, after) → Q y × Good after
  yields-then P Q None k given h y after e = absurd cc
  yields-then P Q (Some found) k given h y after e = let first = given found.0 found.1 refl in h found.0 first.0 found.1 y after first.1 e

  pub yields-bind : {A B : Type 0} (P : A → Type 0) (Q : B → Type 0) (m : Reader A) (k : A → Reader B) → Yields P m → ((x : A) → P x → Yields Q (k x)) → Yields Q (m >>= k)
  yields-bind P Q m k given h rest y after good e = yields-then P Q (m rest) k (λ x more is. given rest x more good is) h y after e

  pub yields-any : {A B : Type 0} (Q : B → Type 0) (m : Reader A) (k : A → Reader B) → Yields Any m → ((x : A) → Yields Q (k x)) → Yields Q (m >>= k)
  yields-any Q m k given h = yields-bind Any Q m k given (λ x _. h x)

  pub yields-pure : {A : Type 0} (P : A → Type 0) (x : A) → P x → Yields P (pure x)
  yields-pure P x is rest y after good e = found-is P x y rest after good is e

  pub yields-fails : {A : Type 0} (P : A → Type 0) → Yields P fails
  yields-fails P rest x after good e = absurd cc

  pub yields-if : {A : Type 0} (P : A → Type 0) (b : Bool) (one other : Reader A) → Yields P one → Yields P other → Yields P (if b then one else other)
  yields-if P true one other f g = f
  yields-if P false one other f g = g

  pub yields-test : {A : Type 0} (P : A → Type 0) (test : Rest → Bool) (one other : Reader A) → Yields P one → Yields P other → Yields P (λ rest. if test rest then one rest else other rest)
  yields-test {A} P test one other f g rest x after good e = by (test rest) e
    where
      by : (b : Bool) → (if b then one rest else other rest) ≡ Some (x, after) → P x × Good after
      by true h = f rest x after good h
      by false h = g rest x after good h

  -- ---- tokens

  good-behind : (rest : Rest) → Good rest → Good (form_rest_behind rest)
  unfolding form_rest_behind
  good-behind rest good = record { same = good.same; all = each-drop (HasSpelledNumber text) rest.tokens good.all }

  good-if : (b : Bool) (one other : Rest) → Good one → Good other → Good (if b then one else other)
  good-if true one other f g = f
  good-if false one other f g = g

  token-by : (server : Bool) (own : List ℕ) (tokens : List Token) (x : Token) (after : Rest) → Good (record { server = server; text = own; tokens = tokens })
      → token (record { server = server; text = own; tokens = tokens }) ≡ Some (x, after) → HasSpelledNumber text x × Good after
  unfolding token
  token-by server own [] x after good e = absurd cc
  token-by server own (next ∷ tokens) x after good e =
      let rest : Rest = record { server = server; text = own; tokens = next ∷ tokens } in
      found-is (HasSpelledNumber text) next x (form_rest_behind rest) after (good-behind rest good) good.all.0 e

  pub token-gives : Yields (HasSpelledNumber text) token
  token-gives rest x after good e = token-by rest.server rest.text rest.tokens x after good e

  pub eats-gives : (word : Word) → Yields Any (eats word)
  unfolding past
  eats-gives word rest x after good e = found-is Any (sees word rest) x (past word rest) after (good-if (sees word rest) (form_rest_behind rest) rest (good-behind rest good) good) tt e

  pub takes-gives : (found : TokenKind) → Yields Any (takes found)
  unfolding past_kind
  takes-gives found rest x after good e = found-is Any (sees_kind found rest) x (past_kind found rest) after (good-if (sees_kind found rest) (form_rest_behind rest) rest (good-behind rest good) good) tt e

  pub expects-gives : (word : Word) → Yields Any (expects word)
  unfolding expects
  expects-gives word rest x after good e = found-if Any (sees word rest) tt x (form_rest_behind rest) after (good-behind rest good) tt e

  pub ends-gives : Yields Any ends
  unfolding ends
  ends-gives rest x after good e = found-if Any (is_done rest) tt x rest after good tt e

  pub most-gives : (n : ℕ) → Yields Any (reads.at_most reads.most n)
  unfolding reads.at_most
  most-gives n = yields-if Any (nat_le n reads.most) _ _ (yields-pure Any tt tt) (yields-fails Any)

  -- ---- lists

  some-from-gives : {A : Type 0} (P : A → Type 0) (one : Reader A) → Yields P one → (n : ℕ) (found : List A) → Each P found → Yields (Each P) (some_from one n found)
  unfolding some_from
  some-from-gives P one given zero found each = yields-fails (Each P)
  some-from-gives P one given (suc n) found each =
      yields-bind P (Each P) one _ given
      (λ x is. yields-test (Each P) is_done (pure (found ++ x ∷ [])) (some_from one n (found ++ x ∷ []))
      (yields-pure (Each P) (found ++ x ∷ []) (each-more P found x each is)) (some-from-gives P one given n (found ++ x ∷ []) (each-more P found x each is)))

  pub some-gives : {A : Type 0} (P : A → Type 0) (one : Reader A) → Yields P one → Yields (Each P) (some one)
  some-gives P one given rest ys after good e = some-from-gives P one given (left rest) [] tt rest ys after good e

  up-to-from-gives : {A : Type 0} (P : A → Type 0) (word : Word) (one : Reader A) → Yields P one → (n : ℕ) (found : List A) → Each P found → Yields (Each P) (up_to_from word one n found)
  unfolding up_to_from
  up-to-from-gives P word one given zero found each = yields-fails (Each P)
  up-to-from-gives P word one given (suc n) found each =
      yields-bind P (Each P) one _ given
      (λ x is. yields-any (Each P) (eats word) _ (eats-gives word) (λ last. yields-if (Each P) last _ _
      (yields-pure (Each P) (found ++ x ∷ []) (each-more P found x each is)) (up-to-from-gives P word one given n (found ++ x ∷ []) (each-more P found x each is))))

  pub up-to-gives : {A : Type 0} (P : A → Type 0) (word : Word) (one : Reader A) → Yields P one → Yields (Each P) (up_to word one)
  up-to-gives P word one given rest ys after good e = up-to-from-gives P word one given (left rest) [] tt rest ys after good e

  separated-from-gives : {A : Type 0} (P : A → Type 0) (word : Word) (one : Reader A) → Yields P one → (n : ℕ) (found : List A) → Each P found → Yields (Each P) (separated_from word one n found)
  unfolding separated_from
  separated-from-gives P word one given zero found each = yields-fails (Each P)
  separated-from-gives P word one given (suc n) found each =
      yields-bind P (Each P) one _ given
      (λ x is. yields-any (Each P) (eats word) _ (eats-gives word) (λ more. yields-if (Each P) more _ _
      (separated-from-gives P word one given n (found ++ x ∷ []) (each-more P found x each is)) (yields-pure (Each P) (found ++ x ∷ []) (each-more P found x each is))))

  pub separated-gives : {A : Type 0} (P : A → Type 0) (word : Word) (one : Reader A) → Yields P one → Yields (Each P) (separated word one)
  separated-gives P word one given rest ys after good e = separated-from-gives P word one given (left rest) [] tt rest ys after good e
