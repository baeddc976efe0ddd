-- What two members come to at the same call, and what a pair tells of it, which has faults of its own.
use Rattle.std.proofs.Common.{◌≡◌, ◌⊎◌, ℕ, ◌<◌, refl, sym, ap, subst, ◌∙◌, cond, Bool, true, false, List, [], length, Option, inl, inr, arith}
use Rattle.pw_code.specs.declared.file.FileCall.{FileCall}
use Rattle.pw_code.specs.declared.unit.Unit as unit
use Rattle.pw_disc.specs.declared.call.DiscCall.{DiscCall}
use Rattle.pw_disc.specs.declared.call.DiscCall.TheVariants.{Begin, Operate, Commit, BackOut}
use Rattle.pw_locks.specs.Conflicts.{holders}
use Rattle.pw_locks.specs.Oldest.{IsOldest}
use Rattle.pw_tmf.specs.Answers.{Operates}
use Rattle.pw_tmf.specs.Faulty.{with_faults}
use Rattle.pw_tmf.specs.Operation.{IsCall, after_operation, lock_now}
use Rattle.pw_tmf.specs.Told.{Told}
use Rattle.pw_tmf.specs.Units.{CanBegin, after_commit, all_backed_out, begun}
use Rattle.pw_tmf.specs.declared.answer.FileAnswer.{FileAnswer}
use Rattle.pw_tmf.proofs.WithFaults.{all-inside, faults-backed_out, running-inside}
use Rattle.pw_disc.specs.Calls.{CanMake, IsAnswer, Makes, is_done, is_operation}
use Rattle.pw_disc.specs.Pair.{PairState, after_outcome}
use Rattle.pw_disc.specs.declared.outcome.DiscOutcome.{DiscOutcome}
use Rattle.pw_disc.specs.declared.outcome.DiscOutcome.TheVariants.{Done, Operated, Conflict}

-- where nobody holds a lock, there is no oldest holder
none_oldest : (holder : unit.Unit) (units : List unit.Unit) → units ≡ [] → IsOldest holder units → ⊥
none_oldest holder units none oldest =
    let within : oldest.among.0 < length units = oldest.among.1 in
    let empty : length units ≡ 0 = ap length none in
    omega arith

-- two members that tell the same come to outcomes of one kind
pub same_kind : (a b : DiscOutcome) (told new_a new_b : Told) (call : DiscCall) → Makes a told call new_a → Makes b told call new_b → is_done a ≡ is_done b
same_kind Done Done told new_a new_b call one two = refl
same_kind Done (Operated status content) told new_a new_b call one two = refl
same_kind Done (Conflict holder) told new_a new_b (Begin u) one two = absurd two
same_kind Done (Conflict holder) told new_a new_b (Operate u call) one two = absurd one
same_kind Done (Conflict holder) told new_a new_b (Commit u reply) one two = absurd two
same_kind Done (Conflict holder) told new_a new_b (BackOut units ends) one two = absurd two
same_kind (Operated status content) Done told new_a new_b call one two = refl
same_kind (Operated status content) (Operated status' content') told new_a new_b call one two = refl
same_kind (Operated status content) (Conflict holder) told new_a new_b (Begin u) one two = absurd two
same_kind (Operated status content) (Conflict holder) told new_a new_b (Operate u call) one two =
    absurd (none_oldest holder (holders (lock_now told u call) told.locks) one.0 two.0)
same_kind (Operated status content) (Conflict holder) told new_a new_b (Commit u reply) one two = absurd two
same_kind (Operated status content) (Conflict holder) told new_a new_b (BackOut units ends) one two = absurd two
same_kind (Conflict holder) Done told new_a new_b (Begin u) one two = absurd one
same_kind (Conflict holder) Done told new_a new_b (Operate u call) one two = absurd two
same_kind (Conflict holder) Done told new_a new_b (Commit u reply) one two = absurd one
same_kind (Conflict holder) Done told new_a new_b (BackOut units ends) one two = absurd one
same_kind (Conflict holder) (Operated status content) told new_a new_b (Begin u) one two = absurd one
same_kind (Conflict holder) (Operated status content) told new_a new_b (Operate u call) one two =
    absurd (none_oldest holder (holders (lock_now told u call) told.locks) two.0 one.0)
same_kind (Conflict holder) (Operated status content) told new_a new_b (Commit u reply) one two = absurd one
same_kind (Conflict holder) (Operated status content) told new_a new_b (BackOut units ends) one two = absurd one
same_kind (Conflict holder) (Conflict other) told new_a new_b call one two = refl

-- what is told behind a call, by its kind
abbrev told_behind : Bool → Told → DiscCall → Told
told_behind done told (Begin u) = begun told u
told_behind done told (Operate u call) = cond done (after_operation told u call) told
told_behind done told (Commit u reply) = after_commit told u reply
told_behind done told (BackOut units ends) = all_backed_out ends told units

made_is : (a : DiscOutcome) (told new : Told) (call : DiscCall) → Makes a told call new → new ≡ told_behind (is_done a) told call
made_is Done told new (Begin u) made = made
made_is Done told new (Operate u call) made = absurd made
made_is Done told new (Commit u reply) made = made
made_is Done told new (BackOut units ends) made = made
made_is (Operated status content) told new (Begin u) made = absurd made
made_is (Operated status content) told new (Operate u call) made = made.2
made_is (Operated status content) told new (Commit u reply) made = absurd made
made_is (Operated status content) told new (BackOut units ends) made = absurd made
made_is (Conflict holder) told new (Begin u) made = absurd made
made_is (Conflict holder) told new (Operate u call) made = made.1
made_is (Conflict holder) told new (Commit u reply) made = absurd made
made_is (Conflict holder) told new (BackOut units ends) made = absurd made

-- they tell the same behind it
pub same_told : (a b : DiscOutcome) (told new_a new_b : Told) (call : DiscCall) → Makes a told call new_a → Makes b told call new_b → new_a ≡ new_b
same_told a b told new_a new_b call one two =
    made_is a told new_a call one
    ∙ ap (λ (done : Bool). told_behind done told call) (same_kind a b told new_a new_b call one two)
    ∙ sym (made_is b told new_b call two)

begin_inside : (n : ℕ) (told : Told) (u : unit.Unit) → CanBegin (with_faults n told) u → CanBegin told u
begin_inside n told u can = record { terminal = can.terminal; number = can.number; not_ended = can.not_ended; free = can.free; births = can.births }

call_inside : (n : ℕ) (told : Told) (call : FileCall) → IsCall (with_faults n told) call → IsCall told call
call_inside n told call can = record { file = can.file; content = can.content; key = can.key }

-- the conditions of a call do not look at faults
pub can_inside : (n : ℕ) (told : Told) (call : DiscCall) → CanMake (with_faults n told) call → CanMake told call
can_inside n told (Begin u) can = begin_inside n told u can
can_inside n told (Operate u call) can = (running-inside n told u can.0, call_inside n told call can.1)
can_inside n told (Commit u reply) can = running-inside n told u can
can_inside n told (BackOut units ends) can = (can.0, can.1, all-inside ends n told units can.2)

-- nor does what it makes
pub makes_outside : (n : ℕ) (a : DiscOutcome) (told new : Told) (call : DiscCall) → Makes a told call new → Makes a (with_faults n told) call (with_faults n new)
makes_outside n Done told new (Begin u) made = ap (with_faults n) made
makes_outside n Done told new (Operate u call) made = absurd made
makes_outside n Done told new (Commit u reply) made = ap (with_faults n) made
makes_outside n Done told new (BackOut units ends) made = ap (with_faults n) made ∙ faults-backed_out ends n told units
makes_outside n (Operated status content) told new (Begin u) made = absurd made
makes_outside n (Operated status content) told new (Operate u call) made = (made.0, made.1, ap (with_faults n) made.2)
makes_outside n (Operated status content) told new (Commit u reply) made = absurd made
makes_outside n (Operated status content) told new (BackOut units ends) made = absurd made
makes_outside n (Conflict holder) told new (Begin u) made = absurd made
makes_outside n (Conflict holder) told new (Operate u call) made = (made.0, ap (with_faults n) made.1)
makes_outside n (Conflict holder) told new (Commit u reply) made = absurd made
makes_outside n (Conflict holder) told new (BackOut units ends) made = absurd made

-- what one of two members came to is told by the pair
pub answered : (a b result : DiscOutcome) (call : DiscCall) (n : ℕ) (told told_new old new : Told) → with_faults n told ≡ old → new ≡ with_faults n told_new
    → Makes a told call told_new → Makes b told call told_new → (result ≡ a) ⊎ (result ≡ b) → Makes result old call new
answered a b result call n told told_new old new is is_new by_a by_b (inl e) =
    subst (λ (o : DiscOutcome). Makes o old call new) (sym e)
    (subst (λ (t : Told). Makes a t call new) is (subst (λ (t : Told). Makes a (with_faults n told) call t) (sym is_new) (makes_outside n a told told_new call by_a)))
answered a b result call n told told_new old new is is_new by_a by_b (inr e) =
    subst (λ (o : DiscOutcome). Makes o old call new) (sym e)
    (subst (λ (t : Told). Makes b t call new) is (subst (λ (t : Told). Makes b (with_faults n told) call t) (sym is_new) (makes_outside n b told told_new call by_b)))

-- what is told stays where a call counts
pub told_stays : (done : Bool) (pair : PairState) → (after_outcome done pair).told ≡ pair.told
told_stays true pair = refl
told_stays false pair = refl

-- an operation answers what it came to
answers : (a : DiscOutcome) (result : FileAnswer) (old new : Told) (u : unit.Unit) (call : FileCall)
    → Makes a old (Operate u call) new → IsAnswer a result → Operates result old u call new
answers Done result old new u call made is = absurd made
answers (Operated status content) result old new u call made is = subst (λ (r : FileAnswer). Operates r old u call new) (sym is) made
answers (Conflict holder) result old new u call made is = subst (λ (r : FileAnswer). Operates r old u call new) (sym is) made

pub operated : (a : DiscOutcome) (result : FileAnswer) (between old new : Told) (u : unit.Unit) (copy call : FileCall) → between ≡ old → copy ≡ call
    → Makes a between (Operate u copy) new → IsAnswer a result → Operates result old u call new
operated a result between old new u copy call is is_copy made answer =
    answers a result old new u call
    (subst (λ (t : Told). Makes a t (Operate u call) new) is (subst (λ (k : FileCall). Makes a between (Operate u k) new) is_copy made)) answer
