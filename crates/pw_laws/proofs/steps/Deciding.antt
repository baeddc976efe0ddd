-- Whether two paths are one, and whether the backup holds a start path or an end path, is decided.
use Rattle.std.proofs.Common.{◌≡◌, ◌≢◌, ◌⊎◌, inl, inr, ⊎_elim, ℕ, List, [], ◌∷◌, Option, Some, None, refl, ap, ap₂, ◌∙◌}
use Rattle.std.proofs.lemmas.Bool.{cases_eq}
use Rattle.pw_onecopy.specs.Path.{PathAnswer, Begun, Dropped, Ended, Entry, Failed, Replied, Shown}
use Rattle.pw_paired.specs.State.{BackupCopy}
use Rattle.pw_paired.specs.Terminal.{HoldsEnd, HoldsStart}

-- two bytes are one or not, and so are two texts
bytes-decided : (a b : List ℕ) → (a ≡ b) ⊎ (a ≢ b)
bytes-decided [] [] = inl refl
bytes-decided [] (y ∷ b) = inr (λ e. absurd (cc e))
bytes-decided (x ∷ a) [] = inr (λ e. absurd (cc e))
bytes-decided (x ∷ a) (y ∷ b) =
    ⊎_elim
    (λ same. ⊎_elim (λ rest. inl (ap₂ (λ (n : ℕ) (l : List ℕ). n ∷ l) same rest)) (λ differ. inr (λ e. differ (cc e))) (bytes-decided a b))
    (λ differ. inr (λ e. differ (cc e)))
    (cases_eq x y)

number-decided : (f : ℕ → PathAnswer) → ((x y : ℕ) → f x ≡ f y → x ≡ y) → (x y : ℕ) → (f x ≡ f y) ⊎ (f x ≢ f y)
number-decided f one x y = ⊎_elim (λ same. inl (ap f same)) (λ differ. inr (λ e. differ (one x y e))) (cases_eq x y)

answer-decided : (a b : PathAnswer) → (a ≡ b) ⊎ (a ≢ b)
answer-decided Shown Shown = inl refl
answer-decided (Entry k) (Entry n) = number-decided (λ x. Entry x) (λ x y e. cc e) k n
answer-decided (Begun r) (Begun n) = number-decided (λ x. Begun x) (λ x y e. cc e) r n
answer-decided (Replied reply) (Replied other) =
    ⊎_elim (λ same. inl (ap (λ (l : List ℕ). Replied l) same)) (λ differ. inr (λ e. differ (cc e))) (bytes-decided reply other)
answer-decided (Failed x) (Failed y) = number-decided (λ n. Failed n) (λ n m e. cc e) x y
answer-decided Ended Ended = inl refl
answer-decided Dropped Dropped = inl refl
answer-decided Shown b = inr (λ e. absurd (cc e))
answer-decided (Entry k) b = inr (λ e. absurd (cc e))
answer-decided (Begun r) b = inr (λ e. absurd (cc e))
answer-decided (Replied reply) b = inr (λ e. absurd (cc e))
answer-decided (Failed x) b = inr (λ e. absurd (cc e))
answer-decided Ended b = inr (λ e. absurd (cc e))
answer-decided Dropped b = inr (λ e. absurd (cc e))

-- two paths are one, or not
pub path-decided : (p q : List PathAnswer) → (p ≡ q) ⊎ (p ≢ q)
path-decided [] [] = inl refl
path-decided [] (b ∷ q) = inr (λ e. absurd (cc e))
path-decided (a ∷ p) [] = inr (λ e. absurd (cc e))
path-decided (a ∷ p) (b ∷ q) =
    ⊎_elim
    (λ same. ⊎_elim (λ rest. inl (ap₂ (λ (x : PathAnswer) (l : List PathAnswer). x ∷ l) same rest)) (λ differ. inr (λ e. differ (cc e))) (path-decided p q))
    (λ differ. inr (λ e. differ (cc e)))
    (answer-decided a b)

-- the backup holds this start
pub start-decided : (memory : Option BackupCopy) (number : ℕ) (path : List PathAnswer) → HoldsStart memory number path ⊎ (¬ HoldsStart memory number path)
start-decided None number path = inr (λ h. absurd (let is = h.is_held in cc is))
start-decided (Some held) number path =
    ⊎_elim
    (λ same.
    ⊎_elim (λ here. inl (record { held = held; is_held = refl; number_is = here; path_is = same }))
    (λ differ. inr (λ h. differ (let is = h.is_held in let one : held ≡ h.held = cc is in ap (λ (m : BackupCopy). m.unit) one ∙ h.number_is)))
    (cases_eq held.unit number))
    (λ differ. inr (λ h. differ (let is = h.is_held in let one : held ≡ h.held = cc is in ap (λ (m : BackupCopy). m.start) one ∙ h.path_is)))
    (path-decided held.start path)

-- the backup holds this end
end-in : (held : BackupCopy) (path : List PathAnswer) (end : Option (List PathAnswer)) → held.end ≡ end → HoldsEnd (Some held) path ⊎ (¬ HoldsEnd (Some held) path)
end-in held path None none =
    inr (λ h. absurd (let is = h.is_held in let one : held ≡ h.held = cc is in let there = ap (λ (m : BackupCopy). m.end) one in let path_is = h.path_is in cc (none, there, path_is)))
end-in held path (Some end) is =
    ⊎_elim (λ same. inl (record { held = held; is_held = refl; path_is = is ∙ ap (λ (p : List PathAnswer). Some p) same }))
    (λ differ. inr (λ h. differ (let held_is = h.is_held in let one : held ≡ h.held = cc held_is in let there = ap (λ (m : BackupCopy). m.end) one in let path_is = h.path_is in cc (is, there, path_is))))
    (path-decided end path)

-- the backup holds this end path, or not
pub end-decided : (memory : Option BackupCopy) (path : List PathAnswer) → HoldsEnd memory path ⊎ (¬ HoldsEnd memory path)
end-decided None path = inr (λ h. absurd (let is = h.is_held in cc is))
end-decided (Some held) path = end-in held path held.end refl
