-- The tests of blocks decide whether they are legal in the one-copy machine.
use Rattle.std.proofs.Common.{ℕ, zero, suc, List, [], ◌∷◌, Option, Some, Decides, refl, ap, ◌∙◌}
use Rattle.pw_code.specs.declared.verb.Verb.{Verb}
use Rattle.pw_code.specs.declared.verb.Verb.TheVariants as verb
use Rattle.pw_event.specs.declared.event.Ending.{Ending}
use Rattle.pw_event.specs.declared.event.Ending.TheVariants as ending
use Rattle.pw_laws.proofs.Deciding.{yes, no, both, like, itself_not, number, below, none, one_with}
use Rattle.pw_laws.proofs.decided.Values.{same_answer}
use Rattle.pw_laws.proofs.decided.Verbs as asked
use Rattle.pw_laws.specs.legal.Blocks as test
use Rattle.pw_onecopy.specs.OneCopy.{AsksOut, EndsCommitted, IsGoingOn, IsSerial, IsSerialFrom, LegalBlock, Machine, MayBe, MayEnd, Single, beginning, next_attempt, run_block}
use Rattle.pw_onecopy.specs.Attempt.{Attempt, GoesOn, IsAttempt, TakesAnswer, attempt}
use Rattle.pw_onecopy.specs.Path.{PathAnswer, Dropped, Ended, Replied, entries_on, unit_number}
use Rattle.pw_onecopy.specs.Blocks.{SerialBlock, Out, Attempted, Done, AttemptEnding, Committed, Aborted, Restarted, Left}
use Rattle.pw_onecopy.specs.Behaviour.{Behaviour}

taking : (sys : Behaviour) (t : ℕ) (path : List PathAnswer) (v : Verb) → Decides (test.takes_answer sys t path v) (TakesAnswer sys t path v)
taking sys t path verb.Begin = yes tt
taking sys t path verb.Show = yes tt
taking sys t path (verb.Accept screen) = below (entries_on path) (sys.entries t)
taking sys t path (verb.Send class message) = yes tt
taking sys t path verb.End = yes tt
taking sys t path verb.Drop = yes tt
taking sys t path _ = no (λ h. absurd h)

going : (sys : Behaviour) (t : ℕ) (q : List PathAnswer) (at : Attempt) → Decides (test.goes_on sys t q at) (GoesOn sys t q at)
going sys t q at =
    like (both (taking sys t at.path (sys.ask t at.path)) (number (unit_number at.path) (unit_number q)))
    (λ h. record { takes = h.0; is_open = h.1 }) (λ l. (l.takes, l.is_open))

attempted : (sys : Behaviour) (t : ℕ) (q : List PathAnswer) (files : ℕ → List (List ℕ)) (r j : ℕ)
    → Decides (test.is_attempt sys t q files r j) (IsAttempt sys t q files r j)
attempted sys t q files r zero = asked.beginning (sys.ask t q) q
attempted sys t q files r (suc j) = both (attempted sys t q files r j) (going sys t q (attempt sys t q files r j))

going_on : (sys : Behaviour) (machine : Machine) (t : ℕ) → Decides (test.is_going_on sys machine t) (IsGoingOn sys machine t)
going_on sys machine t =
    like (both (below t sys.terminals) (none (machine.terms t).ending))
    (λ h. record { known = h.0; live = h.1 }) (λ l. (l.known, l.live))

out : (sys : Behaviour) (t : ℕ) (path : List PathAnswer) (v : Verb) → Decides (test.asks_out sys t path v) (AsksOut sys t path v)
out sys t path verb.Show = yes tt
out sys t path (verb.Accept screen) = below (entries_on path) (sys.entries t)
out sys t path _ = no (λ h. absurd h)

committed : (v : Verb) (last : Option PathAnswer) → Decides (test.ends_committed v last) (EndsCommitted v last)
committed v (Some Ended) = yes tt
committed (verb.Send class message) (Some (Replied reply)) = yes tt
committed _ _ = no (λ h. absurd h)

over : (sys : Behaviour) (t : ℕ) (single : Single) (at : Attempt) (how : AttemptEnding) → Decides (test.may_be sys t single at how) (MayBe sys t single at how)
over sys t single at Committed = committed (sys.ask t single.path) at.last
over sys t single at Aborted =
    like (one_with (λ (last : PathAnswer). same_answer last Dropped) at.last)
    (λ h. h.1 ∙ ap (λ (a : PathAnswer). Some a) h.2) (λ e. (Dropped, e, refl))
over sys t single at Restarted = below single.restarts (sys.max_restarts t)
over sys t single at Left = yes tt

ending-of : (sys : Behaviour) (t : ℕ) (single : Single) (how : Ending) (v : Verb) → Decides (test.may_end sys t single how v) (MayEnd sys t single how v)
ending-of sys t single ending.Stopped v = asked.stop v
ending-of sys t single ending.NoEntries v =
    like (both (asked.accept v) (number (entries_on single.path) (sys.entries t))) (λ h. (h.0.0, h.0.1, h.1)) (λ l. ((l.0, l.1), l.2))
ending-of sys t single (ending.Fault x) v = asked.fault x v
ending-of sys t single (ending.Suspended cause) v = number single.restarts (sys.max_restarts t)
ending-of sys t single ending.Lost v = yes tt

-- whether the block is legal in the machine
pub block : (sys : Behaviour) (machine : Machine) (one : SerialBlock) → Decides (test.is_legal_block sys machine one) (LegalBlock sys machine one)
unfolding test.is_legal_block
block sys machine (Out t) =
    let path : List PathAnswer = (machine.terms t).path in
    like (both (going_on sys machine t) (both (itself_not (machine.terms t).is_left) (out sys t path (sys.ask t path))))
    (λ h. record { live = h.0; not_left = h.1.0; asks = h.1.1 }) (λ l. (l.live, (l.not_left, l.asks)))
block sys machine (Attempted t n how j) =
    let path : List PathAnswer = (machine.terms t).path in
    like (both (going_on sys machine t) (both (itself_not (machine.terms t).is_left) (both (number n (unit_number path))
    (both (attempted sys t path machine.files (machine.terms t).restarts j)
    (over sys t (machine.terms t) (next_attempt sys machine t j) how)))))
    (λ h. record { live = h.0; not_left = h.1.0; number = h.1.1.0; is_attempt = h.1.1.1.0; may_be = h.1.1.1.1 })
    (λ l. (l.live, (l.not_left, (l.number, (l.is_attempt, l.may_be)))))
block sys machine (Done t how) =
    let path : List PathAnswer = (machine.terms t).path in
    like (both (going_on sys machine t) (ending-of sys t (machine.terms t) how (sys.ask t path)))
    (λ h. record { live = h.0; may_end = h.1 }) (λ l. (l.live, l.may_end))

serial_from : (sys : Behaviour) (machine : Machine) (order : List SerialBlock)
    → Decides (test.is_serial_from sys machine order) (IsSerialFrom sys machine order)
serial_from sys machine [] = yes tt
serial_from sys machine (one ∷ rest) = both (block sys machine one) (serial_from sys (run_block sys machine one) rest)

-- whether the one-copy machine is defined on the list of blocks
pub serial : (sys : Behaviour) (order : List SerialBlock) → Decides (test.is_serial sys order) (IsSerial sys order)
serial sys order = serial_from sys (beginning sys) order
