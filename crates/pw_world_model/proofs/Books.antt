-- What is kept beside a log, and what one more entry adds to it.
use Rattle.std.proofs.Common.{◌≡◌, ◌↔◌, ℕ, zero, suc, rules, ◌+◌, ◌++◌, ◌∷◌, [], Bool, true, false, not, List, Option, Some, None, take, refl, sym, ap, ◌∙◌, append_assoc}
use Rattle.std.specs.Prelude.{◌==◌, ◌||◌, slice_get, slice_index_or, if◌then◌else◌}
use Rattle.std.proofs.lemmas.Bool.{false≢true}
use Rattle.std.proofs.lemmas.List.{append-nil}
use Rattle.pw_code.specs.declared.verb.Verb.{Verb}
use Rattle.pw_code.specs.declared.verb.Verb.TheVariants as verb
use Rattle.pw_event.specs.declared.event.Event.{Event}
use Rattle.pw_event.specs.declared.event.Event.TheVariants.{Show, Key, CheckStart, CheckEnd, CheckCopy, Applied, Begin, Send, Take, File, Reply, Again, Commit, Back, Restart, FailTcp, FailServer, Takeover, Raise, End}
use Rattle.pw_laws.specs.legal.Verbs.{asks_send}
use Rattle.pw_world_model.specs.OneSends.{BeginsOneSend, begins_one_send, one_sends_from}
use Rattle.pw_world_model.specs.Worlds.{live_below}
use Rattle.pw_onecopy.specs.Behaviour.{Behaviour}
use Rattle.pw_paired.specs.Shown.{refresh_of, refreshes_from}
use Rattle.pw_paired.specs.State.{State, starting}
use Rattle.pw_paired.specs.Step.{after, after_from, effect, is_going_on}
use Rattle.pw_paired.specs.Terminal.{next_verb}
use Rattle.pw_paired.specs.Units.{any_below}

-- ---- one more entry

pub sends-more : (sys : Behaviour) (state : State) (log : List Event) (entry : Event)
    → one_sends_from sys state (log ++ entry ∷ []) ≡ one_sends_from sys state log ++ begins_one_send sys (after_from sys state log) entry ∷ []
sends-more sys state [] entry = refl
sends-more sys state (e ∷ log) entry = ap (λ bs. begins_one_send sys state e ∷ bs) (sends-more sys (effect sys state e) log entry)

pub screens-more : (sys : Behaviour) (state : State) (log : List Event) (entry : Event)
    → refreshes_from sys state (log ++ entry ∷ []) ≡ refreshes_from sys state log ++ refresh_of sys (after_from sys state log) entry
screens-more sys state [] entry = append-nil (refresh_of sys state entry)
screens-more sys state (e ∷ log) entry =
    ap (λ rs. refresh_of sys state e ++ rs) (screens-more sys (effect sys state e) log entry)
    ∙ sym (append_assoc (refresh_of sys state e) (refreshes_from sys (effect sys state e) log) (refresh_of sys (after_from sys (effect sys state e) log) entry))

-- ---- an entry that begins one SEND

-- the same of an entry that may be there
abbrev begins-at : Behaviour → State → Option Event → Bool
begins-at sys state None = false
begins-at sys state (Some entry) = begins_one_send sys state entry

tells : (sys : Behaviour) (state : State) (log : List Event) (place : ℕ)
    → slice_index_or (one_sends_from sys state log) place false ≡ begins-at sys (after_from sys state (take place log)) (slice_get log place)
tells sys state [] zero = refl
tells sys state [] (suc place) = refl
tells sys state (e ∷ log) zero = refl
tells sys state (e ∷ log) (suc place) = tells sys (effect sys state e) log place

-- a verb that passes is Send
sends : (v : Verb) → asks_send v ≡ true → (class : ℕ) × ((message : List ℕ) × (v ≡ verb.Send class message))
sends verb.Show e = absurd (false≢true e)
sends (verb.Accept screen) e = absurd (false≢true e)
sends verb.Begin e = absurd (false≢true e)
sends (verb.Send class message) e = (class, (message, refl))
sends verb.End e = absurd (false≢true e)
sends verb.Drop e = absurd (false≢true e)
sends verb.Redo e = absurd (false≢true e)
sends verb.Stop e = absurd (false≢true e)
sends (verb.Fault x) e = absurd (false≢true e)
sends (verb.File call) e = absurd (false≢true e)
sends (verb.Reply reply) e = absurd (false≢true e)

-- the entry at a place passes, and so it is one
begins : (sys : Behaviour) (log : List Event) (place : ℕ) (entry : Option Event) → slice_get log place ≡ entry
    → begins-at sys (after sys (take place log)) entry ≡ true → BeginsOneSend sys log place
begins sys log place None here e = absurd (false≢true e)
begins sys log place (Some (Begin t n r)) here e =
    let found = sends (next_verb sys (after sys (take place log)) t) e in
    record { t = t; n = n; r = r; entry = here; class = found.0; message = found.1.0; asks = found.1.1 }
begins sys log place (Some (Show a b c d)) here is = absurd (false≢true is)
begins sys log place (Some (Key a b)) here is = absurd (false≢true is)
begins sys log place (Some (CheckStart a)) here is = absurd (false≢true is)
begins sys log place (Some (CheckEnd a)) here is = absurd (false≢true is)
begins sys log place (Some (CheckCopy a)) here is = absurd (false≢true is)
begins sys log place (Some (Applied a)) here is = absurd (false≢true is)
begins sys log place (Some (Send a b c)) here is = absurd (false≢true is)
begins sys log place (Some (Take a b c)) here is = absurd (false≢true is)
begins sys log place (Some (File a b c d e f)) here is = absurd (false≢true is)
begins sys log place (Some (Reply a b c d)) here is = absurd (false≢true is)
begins sys log place (Some (Again a b)) here is = absurd (false≢true is)
begins sys log place (Some (Commit a b)) here is = absurd (false≢true is)
begins sys log place (Some (Back a b)) here is = absurd (false≢true is)
begins sys log place (Some (Restart a b c)) here is = absurd (false≢true is)
begins sys log place (Some (FailTcp a b c)) here is = absurd (false≢true is)
begins sys log place (Some (FailServer a b c)) here is = absurd (false≢true is)
begins sys log place (Some (Takeover a)) here is = absurd (false≢true is)
begins sys log place (Some (Raise a)) here is = absurd (false≢true is)
begins sys log place (Some (End a b)) here is = absurd (false≢true is)

pub one-send-is : (sys : Behaviour) (log : List Event) (place : ℕ)
    → (slice_index_or (one_sends_from sys (starting sys) log) place false ≡ true) ↔ BeginsOneSend sys log place
one-send-is sys log place = (
  λ e. begins sys log place (slice_get log place) refl (sym (tells sys (starting sys) log place) ∙ e),
  λ own.
      tells sys (starting sys) log place
      ∙ (ap (begins-at sys (after sys (take place log))) own.entry ∙ ap asks_send own.asks),
)

-- ---- live terminals

live-step : (b : Bool) (n : ℕ) (any : Bool) → not any ≡ (n == 0) → not (any || b) ≡ ((if b then n + 1 else n) == 0)
live-step true n true e = search rules
live-step true n false e = search rules
live-step false n true e = e
live-step false n false e = e

pub live-is : (n : ℕ) (state : State) → not (any_below n (is_going_on state)) ≡ (live_below n state == 0)
live-is zero state = refl
live-is (suc n) state = live-step (is_going_on state n) (live_below n state) (any_below n (is_going_on state)) (live-is n state)
