-- The tests of single values decide what they say.
use Rattle.std.proofs.Common.{◌≡◌, ℕ, Bool, true, false, List, [], ◌∷◌, Option, Some, None, Decides, refl, ap}
use Rattle.std.proofs.lemmas.Slice.Eq.{bytes_eq-Decides}
use Rattle.pw_code.specs.declared.file.FileOp.{FileOp}
use Rattle.pw_code.specs.declared.file.FileOp.TheVariants.{Read, Next, Write, Rewrite, Delete, ReadLock, NextLock}
use Rattle.pw_code.specs.declared.lock.LockMode.{LockMode}
use Rattle.pw_code.specs.declared.lock.LockMode.TheVariants.{Shared, Exclusive}
use Rattle.pw_event.specs.declared.event.Cause.{Cause}
use Rattle.pw_event.specs.declared.event.Cause.TheVariants as cause
use Rattle.pw_event.specs.declared.script.FailLine.{FailLine}
use Rattle.pw_event.specs.declared.script.FailLine.TheVariants as line
use Rattle.pw_laws.proofs.Deciding.{yes, no, both, like, number}
use Rattle.pw_laws.specs.legal.Values.{is_alone, is_raising, is_paired, is_down, is_same_number, is_same_truth, is_same_answer, is_same_path, is_same_refresh, is_same_op, is_same_mode, is_takeover_by, is_server_by, is_line_of_member, is_line_of_process}
use Rattle.pw_onecopy.specs.Path.{PathAnswer, Shown, Entry, Begun, Replied, Failed, Ended, Dropped, RefreshNumber}
use Rattle.pw_paired.specs.Serial.{is_gone}
use Rattle.pw_paired.specs.State.{PairMode, Alone, Raising, Paired, Down, Gone}

-- whether the mode is Alone
pub alone : (mode : PairMode) → Decides (is_alone mode) (mode ≡ Alone)
alone Alone = yes refl
alone _ = no (λ e. cc e)

-- whether the mode is Raising
pub raising : (mode : PairMode) → Decides (is_raising mode) (mode ≡ Raising)
raising Raising = yes refl
raising _ = no (λ e. cc e)

-- whether the mode is Paired
pub paired : (mode : PairMode) → Decides (is_paired mode) (mode ≡ Paired)
paired Paired = yes refl
paired _ = no (λ e. cc e)

-- whether the mode is Down
pub down : (mode : PairMode) → Decides (is_down mode) (mode ≡ Down)
down Down = yes refl
down _ = no (λ e. cc e)

-- whether the mode is Gone
pub gone : (mode : PairMode) → Decides (is_gone mode) (mode ≡ Gone)
gone Gone = yes refl
gone _ = no (λ e. cc e)

-- whether both are none, or one number
pub same_number : (a b : Option ℕ) → Decides (is_same_number a b) (a ≡ b)
same_number None None = yes refl
same_number (Some a) (Some b) = like (number a b) (λ e. ap (λ (n : ℕ). Some n) e) (λ e. cc)
same_number _ _ = no (λ e. cc e)

-- whether both are true, or both false
pub same_truth : (a b : Bool) → Decides (is_same_truth a b) (a ≡ b)
same_truth true true = yes refl
same_truth false false = yes refl
same_truth _ _ = no (λ e. cc e)

-- whether two answers are one
pub same_answer : (a b : PathAnswer) → Decides (is_same_answer a b) (a ≡ b)
same_answer Shown Shown = yes refl
same_answer (Entry k) (Entry l) = like (number k l) (ap Entry) (λ e. cc)
same_answer (Begun r) (Begun s) = like (number r s) (ap Begun) (λ e. cc)
same_answer (Replied reply) (Replied other) = like (bytes_eq-Decides reply other) (ap Replied) (λ e. cc)
same_answer (Failed code) (Failed other) = like (number code other) (ap Failed) (λ e. cc)
same_answer Ended Ended = yes refl
same_answer Dropped Dropped = yes refl
same_answer _ _ = no (λ e. cc e)

-- whether two paths are one
pub same_path : (a b : List PathAnswer) → Decides (is_same_path a b) (a ≡ b)
same_path [] [] = yes refl
same_path (answer ∷ path) (other ∷ others) =
    like (both (same_answer answer other) (same_path path others)) (λ h. let one = h.0 in let rest = h.1 in cc) (λ e. (cc, cc))
same_path _ _ = no (λ e. cc e)

-- whether two refresh numbers are one
pub same_refresh : (a b : RefreshNumber) → Decides (is_same_refresh a b) (a ≡ b)
same_refresh a b =
    like (both (number a.phase b.phase) (both (number a.attempt b.attempt) (number a.k b.k)))
    (λ h i. record { phase = h.0 i; attempt = h.1.0 i; k = h.1.1 i })
    (λ e. (ap (λ (n : RefreshNumber). n.phase) e, (ap (λ (n : RefreshNumber). n.attempt) e, ap (λ (n : RefreshNumber). n.k) e)))

-- whether two operations are one
pub same_op : (a b : FileOp) → Decides (is_same_op a b) (a ≡ b)
same_op Read Read = yes refl
same_op Next Next = yes refl
same_op Write Write = yes refl
same_op Rewrite Rewrite = yes refl
same_op Delete Delete = yes refl
same_op ReadLock ReadLock = yes refl
same_op NextLock NextLock = yes refl
same_op _ _ = no (λ e. cc e)

-- whether two modes of locking are one
pub same_mode : (a b : LockMode) → Decides (is_same_mode a b) (a ≡ b)
same_mode Shared Shared = yes refl
same_mode Exclusive Exclusive = yes refl
same_mode _ _ = no (λ e. cc e)

-- whether the cause is TAKEOVER p
pub takeover_by : (p : ℕ) (pending : Cause) → Decides (is_takeover_by p pending) (pending ≡ cause.Takeover p)
takeover_by p (cause.Takeover q) = like (number q p) (λ e. ap cause.Takeover e) (λ e. cc)
takeover_by p _ = no (λ e. cc e)

-- whether the cause is SERVER k
pub server_by : (k : ℕ) (pending : Cause) → Decides (is_server_by k pending) (pending ≡ cause.Server k)
server_by k (cause.Server l) = like (number l k) (λ e. ap cause.Server e) (λ e. cc)
server_by k _ = no (λ e. cc e)

-- whether the line is one of the primary, or of the backup, of pair p
pub line_of_member : (p : ℕ) (primary : Bool) (named : FailLine)
    → Decides (is_line_of_member p primary named) ((after : ℕ) × (named ≡ line.Tcp p primary after))
line_of_member p primary (line.Tcp q own after) =
    like (both (number q p) (same_truth own primary)) (λ h. (after, let pair = h.0 in let member = h.1 in cc)) (λ h. let e = h.1 in (cc, cc))
line_of_member p primary _ = no (λ h. let e = h.1 in cc e)

-- whether the line is one of process i of class c
pub line_of_process : (c i : ℕ) (named : FailLine)
    → Decides (is_line_of_process c i named) ((after : ℕ) × (named ≡ line.Server c i after))
line_of_process c i (line.Server d j after) =
    like (both (number d c) (number j i)) (λ h. (after, let class = h.0 in let process = h.1 in cc)) (λ h. let e = h.1 in (cc, cc))
line_of_process c i _ = no (λ h. let e = h.1 in cc e)
