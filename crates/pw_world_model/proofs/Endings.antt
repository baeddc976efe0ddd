-- An entry gives an ending to the terminal of an END, and to no other one; so it is known how many terminals are live.
use Rattle.std.proofs.Common.{◌≡◌, ◌≢◌, ℕ, zero, suc, ◌+◌, ◌-◌, ◌<◌, Option, Some, None, Bool, true, false, is_none, refl, sym, ap, ap₂, ◌∙◌, ⊎_elim, arith}
use Rattle.std.specs.Prelude.{if◌then◌else◌}
use Rattle.std.proofs.lemmas.Bool.{cases_eq}
use Rattle.pw_pair.proofs.Calling.{start-ending, ending-stays, resume-ending}
use Rattle.pw_event.specs.declared.event.Ending.{Ending}
use Rattle.pw_event.specs.declared.event.Ending.TheVariants.{Stopped, NoEntries, Fault, Suspended, Lost}
use Rattle.pw_event.specs.declared.event.Event.{Event}
use Rattle.pw_event.specs.declared.event.Event.TheVariants.{Show, Key, CheckStart, CheckEnd, CheckCopy, Applied, Begin, Send, Take, File, Reply, Again, Commit, Back, Restart, FailTcp, FailServer, Takeover, Raise, End}
use Rattle.pw_world_model.specs.Pushed.{live_behind}
use Rattle.pw_world_model.specs.Worlds.{live_below}
use Rattle.pw_onecopy.specs.Behaviour.{Behaviour}
use Rattle.pw_onecopy.specs.Update.{upd}
use Rattle.pw_onecopy.proofs.Update.{upd-other, upd-same}
use Rattle.pw_paired.specs.Failure.{is_live_of, is_of_pair, resume_terminal, without_path}
use Rattle.pw_paired.specs.State.{State, Term}
use Rattle.pw_paired.specs.Step.{change}
use Rattle.pw_paired.specs.Units.{attempt_of}
use Rattle.pw_laws.proofs.induction.Failed.{fail-cases, process-cases}
use Rattle.pw_laws.proofs.induction.Served.{file-cases, reply-any}

-- the entry is an END
abbrev is_end : Event → Bool
is_end (End t ending) = true
is_end _ = false

picks : (c : Bool) (a b : Term) → a.ending ≡ b.ending → (if c then a else b).ending ≡ b.ending
picks true a b e = e
picks false a b e = refl

module _ (sys : Behaviour) (s : State) where
  abbrev Same : State → Type 0
  Same x = (u : ℕ) → (x.terms u).ending ≡ (s.terms u).ending

  pub endings : (entry : Event) → is_end entry ≡ false → Same (change sys s entry)
  endings (Show t phase attempt k) plain = ending-stays s.terms t _ refl
  endings (Key t k) plain = ending-stays s.terms t _ refl
  endings (CheckStart t) plain = λ u. refl
  endings (CheckEnd t) plain = λ u. refl
  endings (CheckCopy t) plain = λ u. refl
  endings (Applied t) plain = λ u. refl
  endings (Begin t n r) plain = ending-stays s.terms t _ refl
  endings (Send t n c) plain = λ u. refl
  endings (Take c i t) plain = λ u. refl
  endings (File c i op mode f status) plain = file-cases sys s c i Same (λ u. refl) (λ job call works asks u. refl)
  endings (Reply c i t fault) plain =
      reply-any sys s c i t Same fault (λ reply outside. ending-stays s.terms t _ refl) (λ reply inside. ending-stays s.terms t _ refl) (λ x. ending-stays s.terms t _ refl)
  endings (Again t n) plain = ending-stays s.terms t _ refl
  endings (Commit t n) plain = ending-stays s.terms t _ refl
  endings (Back t n) plain = ending-stays s.terms t _ refl
  endings (Restart t n cause) plain = ending-stays s.terms t _ (start-ending (attempt_of (s.units t)) (s.terms t))
  endings (FailTcp p primary k) plain =
      fail-cases sys s Same p (λ u. refl) (λ paired u. picks (is_of_pair sys p u) (without_path (s.terms u)) (s.terms u) refl)
      (λ member breaks u. picks (is_of_pair sys p u) (without_path (s.terms u)) (s.terms u) refl) (λ has u. refl) primary
  endings (FailServer c i k) plain = process-cases sys s Same c i k (λ u. refl) (λ job works. ending-stays s.terms job.request.terminal _ refl)
  endings (Takeover p) plain =
      λ u. picks (is_live_of sys p s u) (resume_terminal p (s.memory u) (s.units u) (s.ended u) (s.terms u)) (s.terms u) (resume-ending p (s.memory u) (s.units u) (s.ended u) (s.terms u))
  endings (Raise p) plain = λ u. refl
  endings (End t ending) plain = absurd (cc plain)

  ended-terms : (t : ℕ) (ending : Ending) → (change sys s (End t ending)).terms ≡ upd s.terms t (record (s.terms t) { pending = None; ending = Some ending })
  ended-terms t Stopped = refl
  ended-terms t NoEntries = refl
  ended-terms t (Fault x) = refl
  ended-terms t (Suspended cause) = refl
  ended-terms t Lost = refl

  pub ends-there : (t : ℕ) (ending : Ending) → ((change sys s (End t ending)).terms t).ending ≡ Some ending
  ends-there t ending = ap (λ f. (f t).ending) (ended-terms t ending) ∙ ap (λ (x : Term). x.ending) (upd-same s.terms t _ t refl)

  pub ends-others : (t : ℕ) (ending : Ending) (u : ℕ) → u ≢ t → (change sys s (End t ending)).terms u ≡ s.terms u
  ends-others t ending u differ = ap (λ f. f u) (ended-terms t ending) ∙ upd-other s.terms t _ u differ

-- ---- live terminals

pub same-live : (n : ℕ) (s x : State) → ((u : ℕ) → u < n → (x.terms u).ending ≡ (s.terms u).ending) → live_below n x ≡ live_below n s
same-live zero s x same = refl
same-live (suc n) s x same =
    let last = same n (omega arith) in
    let rest = same-live n s x (λ u low. same u (omega (arith, low))) in
    ap₂ (λ (e : Option Ending) m. if is_none e then m + 1 else m) last rest

-- one terminal less
one-less : (n t : ℕ) (s x : State) → t < n → (s.terms t).ending ≡ None → is_none (x.terms t).ending ≡ false → ((u : ℕ) → u ≢ t → (x.terms u).ending ≡ (s.terms u).ending)
    → live_below n s ≡ live_below n x + 1
one-less zero t s x low live over same = absurd (omega (arith, low))
one-less (suc n) t s x low live over same = ⊎_elim
    (λ here.
    let old : is_none (s.terms n).ending ≡ true = ap (λ u. is_none (s.terms u).ending) (sym here) ∙ ap is_none live in
    let new : is_none (x.terms n).ending ≡ false = ap (λ u. is_none (x.terms u).ending) (sym here) ∙ over in
    let rest : live_below n x ≡ live_below n s = same-live n s x (λ u lower. same u (λ e. omega (arith, e, here, lower))) in
    ap₂ (λ b m. if b then m + 1 else m) old (sym rest) ∙ ap (λ b. (if b then live_below n x + 1 else live_below n x) + 1) (sym new))
    (λ other.
    let last : (x.terms n).ending ≡ (s.terms n).ending = same n (λ e. other (sym e)) in
    let rest : live_below n s ≡ live_below n x + 1 = one-less n t s x (omega (arith, low, other)) live over same in
    ap₂ (λ (e : Option Ending) m. if is_none e then m + 1 else m) (sym last) rest ∙ more (is_none (x.terms n).ending) (live_below n x))
    (cases_eq t n)
  where
    more : (b : Bool) (m : ℕ) → (if b then m + 1 + 1 else m + 1) ≡ (if b then m + 1 else m) + 1
    more true m = refl
    more false m = refl

live-then : (sys : Behaviour) (s : State) (t : ℕ) (ending : Ending) → (t < sys.terminals) × ((s.terms t).ending ≡ None) → live_below sys.terminals (change sys s (End t ending)) ≡ live_below sys.terminals s - 1
live-then sys s t ending live =
    let there = ends-there sys s t ending in
    let e : live_below sys.terminals s ≡ live_below sys.terminals (change sys s (End t ending)) + 1 =
    one-less sys.terminals t s (change sys s (End t ending)) live.0 live.1 (ap is_none there) (λ u differ. ap (λ (x : Term). x.ending) (ends-others sys s t ending u differ)) in
    omega (arith, e)

pub live-more : (sys : Behaviour) (s : State) (entry : Event) → ((t : ℕ) (ending : Ending) → entry ≡ End t ending → (t < sys.terminals) × ((s.terms t).ending ≡ None))
    → live_behind entry (live_below sys.terminals s) ≡ live_below sys.terminals (change sys s entry)
live-more sys s (End t ending) live = sym (live-then sys s t ending (live t ending refl))
live-more sys s (Show t phase attempt k) live = sym (same-live sys.terminals s (change sys s (Show t phase attempt k)) (λ u low. endings sys s (Show t phase attempt k) refl u))
live-more sys s (Key t k) live = sym (same-live sys.terminals s (change sys s (Key t k)) (λ u low. endings sys s (Key t k) refl u))
live-more sys s (CheckStart t) live = sym (same-live sys.terminals s (change sys s (CheckStart t)) (λ u low. endings sys s (CheckStart t) refl u))
live-more sys s (CheckEnd t) live = sym (same-live sys.terminals s (change sys s (CheckEnd t)) (λ u low. endings sys s (CheckEnd t) refl u))
live-more sys s (CheckCopy t) live = sym (same-live sys.terminals s (change sys s (CheckCopy t)) (λ u low. endings sys s (CheckCopy t) refl u))
live-more sys s (Applied t) live = sym (same-live sys.terminals s (change sys s (Applied t)) (λ u low. endings sys s (Applied t) refl u))
live-more sys s (Begin t n r) live = sym (same-live sys.terminals s (change sys s (Begin t n r)) (λ u low. endings sys s (Begin t n r) refl u))
live-more sys s (Send t n c) live = sym (same-live sys.terminals s (change sys s (Send t n c)) (λ u low. endings sys s (Send t n c) refl u))
live-more sys s (Take c i t) live = sym (same-live sys.terminals s (change sys s (Take c i t)) (λ u low. endings sys s (Take c i t) refl u))
live-more sys s (File c i op mode f status) live = sym (same-live sys.terminals s (change sys s (File c i op mode f status)) (λ u low. endings sys s (File c i op mode f status) refl u))
live-more sys s (Reply c i t fault) live = sym (same-live sys.terminals s (change sys s (Reply c i t fault)) (λ u low. endings sys s (Reply c i t fault) refl u))
live-more sys s (Again t n) live = sym (same-live sys.terminals s (change sys s (Again t n)) (λ u low. endings sys s (Again t n) refl u))
live-more sys s (Commit t n) live = sym (same-live sys.terminals s (change sys s (Commit t n)) (λ u low. endings sys s (Commit t n) refl u))
live-more sys s (Back t n) live = sym (same-live sys.terminals s (change sys s (Back t n)) (λ u low. endings sys s (Back t n) refl u))
live-more sys s (Restart t n cause) live = sym (same-live sys.terminals s (change sys s (Restart t n cause)) (λ u low. endings sys s (Restart t n cause) refl u))
live-more sys s (FailTcp p primary k) live = sym (same-live sys.terminals s (change sys s (FailTcp p primary k)) (λ u low. endings sys s (FailTcp p primary k) refl u))
live-more sys s (FailServer c i k) live = sym (same-live sys.terminals s (change sys s (FailServer c i k)) (λ u low. endings sys s (FailServer c i k) refl u))
live-more sys s (Takeover p) live = sym (same-live sys.terminals s (change sys s (Takeover p)) (λ u low. endings sys s (Takeover p) refl u))
live-more sys s (Raise p) live = sym (same-live sys.terminals s (change sys s (Raise p)) (λ u low. endings sys s (Raise p) refl u))
