-- Only a SEND lets more requests wait for a class.
use Rattle.std.proofs.Common.{◌≡◌, ℕ, ◌<◌, ◌≤◌, ⊎_elim, Bool, List, [], ◌∷◌, ◌++◌, length, Option, Some, None, refl, sym, ap, subst, ◌∙◌, arith}
use Rattle.std.proofs.Math.ListN.{get_or, set}
use Rattle.std.proofs.lemmas.Bool.{cases_eq}
use Rattle.std.proofs.lemmas.List.{get_or-set_other, get_or-set_same, length-set}
use Rattle.std.proofs.lemmas.List.Sums.{count_by-le-length, length-filter}
use Rattle.std.specs.Prelude.{filter, max, not}
use Rattle.pw_class.specs.declared.request.Request.{Request}
use Rattle.pw_status.specs.Counts.{longest_from, waiting}
use Rattle.pw_status.specs.Longest.{AreLongestOf, longest_with, sent_to}
use Rattle.pw_event.specs.declared.event.Event.{Event}
use Rattle.pw_event.specs.declared.event.Event.TheVariants as event
use Rattle.pw_onecopy.proofs.Update.{upd_elim}
use Rattle.pw_onecopy.specs.Behaviour.{Behaviour}
use Rattle.pw_onecopy.specs.Update.{upd}
use Rattle.pw_paired.specs.Failure.{is_of_pair}
use Rattle.pw_paired.specs.Server.{with_first_taken}
use Rattle.pw_paired.specs.State.{Class, State, starting}
use Rattle.pw_paired.specs.Step.{after, after_from, effect}
use Rattle.pw_paired.specs.Terminal.{message_of, next_verb, with_request}
use Rattle.pw_paired.specs.Units.{only, without_requests}
use Rattle.pw_laws.proofs.RunSteps.{after_from-append}
use Rattle.pw_laws.proofs.induction.Failed.{end-any, fail-cases, process-cases}
use Rattle.pw_laws.proofs.induction.Served.{file-cases, reply-any}

-- ---- entries that are no SEND to the class

cancelled-few : (whose : ℕ → Bool) (requests : List Request) → length (filter (λ request. not (whose request.terminal)) requests) ≤ length requests
cancelled-few whose requests =
    omega (arith, length-filter (λ (request : Request). not (whose request.terminal)) requests, count_by-le-length (λ (request : Request). not (whose request.terminal)) requests)

-- one class changes, and no more wait for it
changed-few : (classes : ℕ → Class) (own : ℕ) (next : Class) (c : ℕ) → length next.waiting ≤ length (classes own).waiting
    → length (upd classes own next c).waiting ≤ length (classes c).waiting
changed-few classes own next c few =
    upd_elim classes own next c (λ (class : Class). length class.waiting ≤ length (classes c).waiting)
    (λ same. subst (λ (k : ℕ). length next.waiting ≤ length (classes k).waiting) (sym same) few)
    (λ _. omega arith)

taken-few : (i : ℕ) (requests : List Request) (class : Class) → class.waiting ≡ requests → length (with_first_taken i requests class).waiting ≤ length class.waiting
taken-few i [] class is = omega arith
taken-few i (request ∷ others) class is = let more = ap length is in omega (arith, more)

module _ (sys : Behaviour) (s : State) (c : ℕ) where
  abbrev Few : State → Type 0
  Few next = waiting next c ≤ waiting s c

  same-few : Few s
  same-few = omega arith

  cancelled : (whose : ℕ → Bool) → length (without_requests whose (s.classes c)).waiting ≤ length (s.classes c).waiting
  cancelled whose = cancelled-few whose (s.classes c).waiting

  -- a process gets or loses a job
  at-process : (own : ℕ) (next : Class) → next.waiting ≡ (s.classes own).waiting → length (upd s.classes own next c).waiting ≤ length (s.classes c).waiting
  at-process own next is = changed-few s.classes own next c (let same = ap length is in omega (arith, same))

  -- what is waited for behind an entry, but for a SEND to the class
  pub falls : (entry : Event) → (sent_to entry ≡ Some c → ⊥) → Few (effect sys s entry)
  falls (event.Show t phase attempt k) other = same-few
  falls (event.Key t k) other = same-few
  falls (event.CheckStart t) other = same-few
  falls (event.CheckEnd t) other = same-few
  falls (event.CheckCopy t) other = same-few
  falls (event.Applied t) other = same-few
  falls (event.Begin t n r) other = same-few
  falls (event.Send t n own) other =
      upd_elim s.classes own (with_request (record { terminal = t; unit = n; message = message_of (next_verb sys s t) }) (s.classes own)) c (λ (class : Class). length class.waiting ≤ length (s.classes c).waiting)
      (λ same. absurd (other (ap Some (sym same))))
      (λ _. omega arith)
  falls (event.Take own i t) other = changed-few s.classes own (with_first_taken i (s.classes own).waiting (s.classes own)) c (taken-few i (s.classes own).waiting (s.classes own) refl)
  falls (event.File own i op mode f status) other =
      file-cases sys s own i Few same-few (λ job call works asks. at-process own _ refl)
  falls (event.Reply own i t fault) other =
      reply-any sys s own i t Few fault (λ _ _. at-process own _ refl) (λ _ _. at-process own _ refl) (λ _. at-process own _ refl)
  falls (event.Again t n) other = same-few
  falls (event.Commit t n) other = same-few
  falls (event.Back t n) other = same-few
  falls (event.Restart t n cause) other = cancelled (only t)
  falls (event.FailTcp p primary k) other = fail-cases sys s Few p same-few (λ _. cancelled (is_of_pair sys p)) (λ _ _. cancelled (is_of_pair sys p)) (λ _. same-few) primary
  falls (event.FailServer own i k) other = process-cases sys s Few own i k same-few (λ job works. at-process own _ refl)
  falls (event.Takeover p) other = same-few
  falls (event.Raise p) other = same-few
  falls (event.End t ending) other = end-any sys s Few t ending same-few (cancelled (only t))

-- ---- the greatest number

longest-more : (sys : Behaviour) (s : State) (c : ℕ) (log : List Event) (entry : Event)
    → longest_from sys s c (log ++ entry ∷ []) ≡ max (longest_from sys s c log) (waiting (after_from sys s (log ++ entry ∷ [])) c)
longest-more sys s c [] entry = refl
longest-more sys s c (first ∷ log) entry =
    let rest = longest-more sys (effect sys s first) c log entry in
    omega (arith, rest)

waiting-low : (sys : Behaviour) (s : State) (c : ℕ) (log : List Event) → waiting (after_from sys s log) c ≤ longest_from sys s c log
waiting-low sys s c [] = omega arith
waiting-low sys s c (first ∷ log) = let rest = waiting-low sys (effect sys s first) c log in omega (arith, rest)

-- of the log with one more entry
whole : (sys : Behaviour) (log : List Event) (entry : Event) (c : ℕ)
    → longest_from sys (starting sys) c (log ++ entry ∷ []) ≡ max (longest_from sys (starting sys) c log) (waiting (effect sys (after sys log) entry) c)
whole sys log entry c =
    longest-more sys (starting sys) c log entry
    ∙ ap (λ (s : State). max (longest_from sys (starting sys) c log) (waiting s c)) (after_from-append sys (starting sys) log (entry ∷ []))

-- an entry that is no SEND to the class
stays : (sys : Behaviour) (log : List Event) (entry : Event) (c n : ℕ) → (sent_to entry ≡ Some c → ⊥) → n ≡ longest_from sys (starting sys) c log
    → n ≡ longest_from sys (starting sys) c (log ++ entry ∷ [])
stays sys log entry c n other is =
    let all = whole sys log entry c in
    let low = waiting-low sys (starting sys) c log in
    let few = falls sys (after sys log) c entry other in
    omega (arith, all, low, few)

rises : (sys : Behaviour) (log : List Event) (entry : Event) (c n m : ℕ) → m ≡ longest_from sys (starting sys) c log → n ≡ waiting (after sys (log ++ entry ∷ [])) c
    → max m n ≡ longest_from sys (starting sys) c (log ++ entry ∷ [])
rises sys log entry c n m is count =
    let all = longest-more sys (starting sys) c log entry in
    omega (arith, all)

by-class : (sys : Behaviour) (log : List Event) (entry : Event) (longest : List ℕ) (n : ℕ) (own : Option ℕ) → sent_to entry ≡ own → AreLongestOf sys log longest
    → ((c : ℕ) → own ≡ Some c → n ≡ waiting (after sys (log ++ entry ∷ [])) c) → AreLongestOf sys (log ++ entry ∷ []) (longest_with own n longest)
by-class sys log entry longest n None is are count c low = stays sys log entry c (get_or longest c 0) (λ sent. absurd (cc)) (are c low)
by-class sys log entry longest n (Some own) is are count c low =
    let value = max (get_or longest own 0) n in
    let within : c < length longest = subst (λ (k : ℕ). c < k) (length-set longest own value) low in
    ⊎_elim
    (λ same.
    ap (λ (i : ℕ). get_or (set longest own value) i 0) (sym same)
    ∙ (get_or-set_same longest own value 0 (subst (λ (i : ℕ). i < length longest) (sym same) within)
    ∙ (ap (λ (i : ℕ). max (get_or longest i 0) n) same ∙ rises sys log entry c n (get_or longest c 0) (are c within) (count c (ap Some same)))))
    (λ differ.
    get_or-set_other longest own c value 0 (λ e. differ (sym e))
    ∙ stays sys log entry c (get_or longest c 0) (λ sent. differ (let e : Some own ≡ Some c = sym is ∙ sent in cc)) (are c within))
    (cases_eq own c)

pub next-longest : (sys : Behaviour) (log : List Event) (entry : Event) (longest : List ℕ) (n : ℕ) → AreLongestOf sys log longest
    → ((c : ℕ) → sent_to entry ≡ Some c → n ≡ waiting (after sys (log ++ entry ∷ [])) c) → AreLongestOf sys (log ++ entry ∷ []) (longest_with (sent_to entry) n longest)
next-longest sys log entry longest n are count = by-class sys log entry longest n (sent_to entry) refl are count
