-- A world's log is read for its serial order, entry by entry.
use Rattle.std.proofs.Common.{◌≡◌, ℕ, suc, ◌+◌, ◌≤◌, ◌↔◌, Bool, true, List, [], ◌∷◌, ◌++◌, length, Option, Some, refl, sym, ap, subst, ◌∙◌, arith}
use Rattle.std.proofs.Math.Seq.{take-suc}
use Rattle.std.proofs.lemmas.Bool.{true≢false}
use Rattle.std.proofs.lemmas.List.{take-append-drop, take_all}
use Rattle.std.proofs.lemmas.Option.{get_or_from_slice_get, slice_get-get_or, slice_get_within}
use Rattle.std.specs.Prelude.{Err, IsTrue, Ok, OnOk, Result, drop, slice_get, take}
use Rattle.pw_base.proofs.Plain.{same-truth}
use Rattle.pw_code.specs.declared.system.System.{System}
use Rattle.pw_code.specs.declared.system.TermInfo.{TermInfo}
use Rattle.pw_code.specs.declared.verb.Verb.{Verb}
use Rattle.pw_code.specs.declared.verb.Verb.TheVariants as verb
use Rattle.pw_event.specs.Line.{no_terminal}
use Rattle.pw_event.specs.declared.event.Event.{Event}
use Rattle.pw_event.specs.declared.event.Event.TheVariants as event
use Rattle.pw_event.specs.declared.script.FailLine.{FailLine}
use Rattle.pw_code_meaning.specs.OfSystem.{behaviour, number_by}
use Rattle.pw_world_model.specs.OneSends.{BeginsOneSend}
use Rattle.pw_onecopy.specs.Behaviour.{Behaviour}
use Rattle.pw_serial_order.proofs.Reading.{order-grows}
use Rattle.pw_serial_order.specs.Entries.{Shadow}
use Rattle.pw_serial_order.specs.Order.{blocks_behind, entry_order}
use Rattle.pw_report.specs.Read.{IsReadTo}
use Rattle.pw_serial_order.specs.Shadow.{IsOfSystem, IsOneSendFlag, ShadowStands, is_send}
use Rattle.pw_serial_order.specs.declared.block.Block.{Block}
use Rattle.pw_paired.specs.State.{starting}
use Rattle.pw_paired.specs.Step.{IsRun, after}
use Rattle.pw_paired.specs.Terminal.{next_verb}
use Rattle.pw_laws.proofs.RunSteps.{IsRunFrom-split}

-- a verb that sends names a class and a message
send-of : (v : Verb) → is_send v ≡ true → (c : ℕ) × (message : List ℕ) × (v ≡ verb.Send c message)
send-of (verb.Send c message) is = (c, message, refl)
send-of verb.Show is = absurd (true≢false (sym is))
send-of (verb.Accept screen) is = absurd (true≢false (sym is))
send-of verb.Begin is = absurd (true≢false (sym is))
send-of verb.End is = absurd (true≢false (sym is))
send-of verb.Drop is = absurd (true≢false (sym is))
send-of verb.Redo is = absurd (true≢false (sym is))
send-of verb.Stop is = absurd (true≢false (sym is))
send-of (verb.Fault x) is = absurd (true≢false (sym is))
send-of (verb.File call) is = absurd (true≢false (sym is))
send-of (verb.Reply reply) is = absurd (true≢false (sym is))

begins : (sys : Behaviour) (log : List Event) (place t n r : ℕ) (one : Bool) → slice_get log place ≡ Some (event.Begin t n r)
    → (IsTrue one ↔ BeginsOneSend sys log place) → one ≡ is_send (next_verb sys (after sys (take place log)) t)
begins sys log place t n r one here flag =
    same-truth one (is_send (next_verb sys (after sys (take place log)) t))
    (λ is.
    let begun = flag.0 is in
    let entries : event.Begin begun.t begun.n begun.r ≡ event.Begin t n r = let first = begun.entry in cc (first, here) in
    let own : begun.t ≡ t = cc entries in
    subst (λ j. is_send (next_verb sys (after sys (take place log)) j) ≡ true) own (ap is_send begun.asks))
    (λ is.
    let sent = send-of (next_verb sys (after sys (take place log)) t) is in
    flag.1 (record { t = t; n = n; r = r; entry = here; class = sent.0; message = sent.1; asks = sent.2 }))

-- the flag of a place tells what the reading of its entry asks
pub flag-told : (sys : Behaviour) (log : List Event) (place : ℕ) (entry : Event) (one : Bool) → slice_get log place ≡ Some entry
    → (IsTrue one ↔ BeginsOneSend sys log place) → IsOneSendFlag sys (after sys (take place log)) entry one
flag-told sys log place (event.Begin t n r) one here flag = begins sys log place t n r one here flag
flag-told sys log place (event.Show t phase attempt k) one here flag = tt
flag-told sys log place (event.Key t k) one here flag = tt
flag-told sys log place (event.CheckStart t) one here flag = tt
flag-told sys log place (event.CheckEnd t) one here flag = tt
flag-told sys log place (event.CheckCopy t) one here flag = tt
flag-told sys log place (event.Applied t) one here flag = tt
flag-told sys log place (event.Send t n c) one here flag = tt
flag-told sys log place (event.Take c i t) one here flag = tt
flag-told sys log place (event.File c i op mode f status) one here flag = tt
flag-told sys log place (event.Reply c i t fault) one here flag = tt
flag-told sys log place (event.Again t n) one here flag = tt
flag-told sys log place (event.Commit t n) one here flag = tt
flag-told sys log place (event.Back t n) one here flag = tt
flag-told sys log place (event.Restart t n cause) one here flag = tt
flag-told sys log place (event.FailTcp p primary k) one here flag = tt
flag-told sys log place (event.FailServer c i k) one here flag = tt
flag-told sys log place (event.Takeover p) one here flag = tt
flag-told sys log place (event.Raise p) one here flag = tt
flag-told sys log place (event.End t ending) one here flag = tt

-- one entry more of a log
pub more : (log : List Event) (place : ℕ) (entry : Event) → slice_get log place ≡ Some entry → take (place + 1) log ≡ take place log ++ entry ∷ []
more log place entry here =
    let next : place + 1 ≡ suc place = omega arith in
    ap (λ n. take n log) next ∙ take-suc log place entry (slice_get_within log place entry here)
    ∙ ap (λ e. take place log ++ e ∷ []) (get_or_from_slice_get log place entry entry here)

-- the beginning of a run is one
pub run-to : (sys : Behaviour) (log : List Event) (n : ℕ) → IsRun sys log → IsRun sys (take n log)
run-to sys log n run = (IsRunFrom-split sys (starting sys) (take n log) (drop n log) (subst (IsRun sys) (sym (take-append-drop n log)) run)).0

-- a system is that of its behaviour
pub is-of : (system : System) (script : List FailLine) → IsOfSystem system (behaviour script system)
is-of system script = record {
  terminals = refl;
  pairs = refl;
  pair_of = λ t low. ap (λ (at : Option TermInfo). number_by (λ (info : TermInfo). info.tcp) at) (sym (slice_get-get_or system.terminals t no_terminal low));
}

-- the reading is on behind one entry more
pub read-on : (sys : Behaviour) (log : List Event) (place : ℕ) (entry : Event) (reading next : Shadow) (before behind : List Block)
    → slice_get log place ≡ Some entry → IsReadTo sys log place reading before
    → ShadowStands sys (take place log ++ entry ∷ []) next × (behind ≡ before ++ blocks_behind sys (take place log) entry)
    → IsReadTo sys log (place + 1) next behind
read-on sys log place entry reading next before behind here read both = record {
  stands = subst (λ l. ShadowStands sys l next) (sym (more log place entry here)) both.0;
  blocks =
      both.1
      ∙ (ap (λ l. l ++ blocks_behind sys (take place log) entry) read.blocks
      ∙ (sym (order-grows sys (take place log) entry) ∙ ap (entry_order sys) (sym (more log place entry here))));
}

-- what follows from what holds at an Ok holds at an Ok
pub on-ok : {A E : Type 0} {P Q : Type 0} → (P → Q) → (r : Result A E) → OnOk r P → OnOk r Q
on-ok f (Ok a) p = f p
on-ok f (Err e) p = tt

-- all entries are read
pub read-all : (sys : Behaviour) (log : List Event) (n : ℕ) (reading : Shadow) (order : List Block) → IsReadTo sys log n reading order → length log ≤ n
    → ShadowStands sys log reading × (order ≡ entry_order sys log)
read-all sys log n reading order read all =
    let whole : take n log ≡ log = take_all n log all in
    (subst (λ l. ShadowStands sys l reading) whole read.stands, read.blocks ∙ ap (entry_order sys) whole)
