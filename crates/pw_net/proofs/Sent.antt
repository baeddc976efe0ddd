-- Messages that were sent.
use Rattle.std.proofs.Common.{◌≡◌, ◌≢◌, ◌⊎◌, inl, inr, ℕ, zero, suc, ◌==◌, List, [], ◌∷◌, ◌++◌, ◌<◌, length, not, Some, filter, slice_get, Contains, sym, subst, ◌∙◌, arith}
use Rattle.std.proofs.lemmas.Bool.{cond_both, eqb-true, not-false}
use Rattle.pw_net.specs.Agreement.{WasSent}
use Rattle.pw_net.specs.Rules.{told, told_each}
use Rattle.pw_net.specs.World.{message_at}
use Rattle.pw_net.specs.declared.message.Net.{Net}
use Rattle.pw_net.specs.declared.message.NetId.{NetId}
use Rattle.pw_net.specs.declared.message.NetWord.{NetWord}

pub sent-before : (P : Net → Type 0) (xs ys : List Net) → WasSent P xs → WasSent P (xs ++ ys)
sent-before P [] ys w = absurd w
sent-before P (x ∷ xs) ys (inl p) = inl p
sent-before P (x ∷ xs) ys (inr w) = inr (sent-before P xs ys w)

pub sent-after : (P : Net → Type 0) (xs ys : List Net) → WasSent P ys → WasSent P (xs ++ ys)
sent-after P [] ys w = w
sent-after P (x ∷ xs) ys w = inr (sent-after P xs ys w)

pub sent-split : (P : Net → Type 0) (xs ys : List Net) → WasSent P (xs ++ ys) → WasSent P xs ⊎ WasSent P ys
sent-split P [] ys w = inr w
sent-split P (x ∷ xs) ys (inl p) = inl (inl p)
sent-split P (x ∷ xs) ys (inr w) = later (sent-split P xs ys w)
  where
    later : WasSent P xs ⊎ WasSent P ys → WasSent P (x ∷ xs) ⊎ WasSent P ys
    later (inl v) = inl (inr v)
    later (inr v) = inr v

pub sent-as : (P Q : Net → Type 0) → ((m : Net) → P m → Q m) → (xs : List Net) → WasSent P xs → WasSent Q xs
sent-as P Q f [] w = absurd w
sent-as P Q f (x ∷ xs) (inl p) = inl (f x p)
sent-as P Q f (x ∷ xs) (inr w) = inr (sent-as P Q f xs w)

-- what follows from any one message to one of these systems follows
pub sent-each : (P : Net → Type 0) (own : ℕ) (id : NetId) (word : NetWord) (others : List ℕ) (Q : Type 0)
    → ((to : ℕ) → P (told own id word to) → Q) → WasSent P (told_each own id word others) → Q
sent-each P own id word [] Q f w = absurd w
sent-each P own id word (other ∷ others) Q f (inl p) = f other p
sent-each P own id word (other ∷ others) Q f (inr w) = sent-each P own id word others Q f w

-- a number in a list
abbrev pub In : ℕ → List ℕ → Type 0
In x [] = ⊥
In x (y ∷ ys) = (x ≡ y) ⊎ In x ys

pub in-contains : (xs : List ℕ) (x : ℕ) → Contains xs x → In x xs
in-contains [] x (k, lt, e) = absurd (omega (arith, lt))
in-contains (y ∷ ys) x (zero, lt, e) = inl (sym e)
in-contains (y ∷ ys) x (suc k, lt, e) = let less : k < length ys = omega (arith, lt) in inr (in-contains ys x (k, less, e))

-- the message to one of these systems was sent
pub each-sent : (P : Net → Type 0) (own : ℕ) (id : NetId) (word : NetWord) (others : List ℕ) (to : ℕ)
    → P (told own id word to) → In to others → WasSent P (told_each own id word others)
each-sent P own id word [] to p i = absurd i
each-sent P own id word (other ∷ others) to p (inl is) = inl (subst (λ x. P (told own id word x)) is p)
each-sent P own id word (other ∷ others) to p (inr i) = inr (each-sent P own id word others to p i)

-- a message in its place was sent
slice-sent : (P : Net → Type 0) (xs : List Net) (k : ℕ) (m : Net) → slice_get xs k ≡ Some m → P m → WasSent P xs
slice-sent P [] k m e p = absurd (cc e)
slice-sent P (x ∷ xs) zero m e p = let same : x ≡ m = cc e in inl (subst P (sym same) p)
slice-sent P (x ∷ xs) (suc k) m e p = inr (slice-sent P xs k m e p)

pub at-sent : (P : Net → Type 0) (xs : List Net) (k : ℕ) (m : Net) → message_at xs k ≡ Some m → P m → WasSent P xs
at-sent P xs zero m e p = absurd (cc e)
at-sent P xs (suc k) m e p = slice-sent P xs k m e p

-- what is in a list stays in it when a number is taken out, but for that number
pub in-filter : (y x : ℕ) (xs : List ℕ) → x ≢ y → In x xs → In x (filter (λ other. not (other == y)) xs)
in-filter y x [] ne i = absurd i
in-filter y x (z ∷ zs) ne (inl is) =
    cond_both (not (z == y)) (z ∷ filter (λ other. not (other == y)) zs) (filter (λ other. not (other == y)) zs) (In x)
    (λ _. inl is) (λ e. absurd (ne (is ∙ eqb-true z y (not-false (z == y) e))))
in-filter y x (z ∷ zs) ne (inr i) =
    cond_both (not (z == y)) (z ∷ filter (λ other. not (other == y)) zs) (filter (λ other. not (other == y)) zs) (In x)
    (λ _. inr (in-filter y x zs ne i)) (λ _. in-filter y x zs ne i)
