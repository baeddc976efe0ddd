-- What is kept, where a terminal's program is answered.
use Rattle.std.proofs.Common.{◌≡◌, ℕ, Bool, true, false, not, List, Option, Some, None, if◌then◌else◌, ◌∙◌, refl, subst, sym, ap}
use Rattle.std.specs.Option.{option_map}
use Rattle.pw_entry_effects.specs.Can.{CanAnswer, CanSend}
use Rattle.pw_entry_effects.specs.Verbs.{one_send}
use Rattle.pw_code.specs.declared.context.Context.{Context}
use Rattle.pw_code.specs.declared.system.System.{System}
use Rattle.pw_code.specs.declared.verb.Answer.{Answer}
use Rattle.pw_code.specs.declared.verb.Verb.{Verb}
use Rattle.pw_code_meaning.specs.Contexts.{PutsAnswer}
use Rattle.pw_code_meaning.specs.Sound.{IsSoundContext}
use Rattle.pw_world_store.specs.Calls.{before_verb}
use Rattle.pw_world_store.specs.Keeps.{IsChanged, KeepState, kept_in}
use Rattle.pw_world_state.specs.Asked.{answered_with, unit_in, verb_in}
use Rattle.pw_world_state.specs.Changes.{at_terminal, kept_send, kept_show, with_context}
use Rattle.pw_world_state.specs.Entered.{answer_terminal, answering, entered_reply, entered_send, is_outside_at, replies_last, replies_to, reply_by, sent_by, unit_of_ready}
use Rattle.pw_world_state.specs.Kept.{Kept, KeptTerminal}
use Rattle.pw_world_state.proofs.Behind.{takes-one}
use Rattle.pw_onecopy.specs.Update.{upd}
use Rattle.pw_onecopy.proofs.Update.{upd-same}
use Rattle.pw_world_store.proofs.Parts.{upd-twice}
use Rattle.pw_tmf.specs.Told.{Told}

-- an answer that was put into a sound context
pub takes-is : (system : System) (a : Answer) (old new : Context) → IsSoundContext system old
    → PutsAnswer system a old new → new ≡ answered_with system a old
takes-is system a old new sound takes =
    takes sound.at sound.is ∙ sym (takes-one system a old sound.at sound.is)

-- the terminal goes on with the context that the answer makes
pub answering-is : (system : System) (a : Answer) (next : Context) (own : KeptTerminal)
    → option_map (answered_with system a) own.ready ≡ Some next → with_context next own ≡ answering system a own
answering-is system a next own e =
    ap (λ (o : Option Context). record own { context = o; ready = None }) (sym e)

-- one terminal is changed so, with this disc and these births
abbrev put-in : Kept → ℕ → Told → ℕ → KeptTerminal → Kept
put-in kept t disc births own =
    record kept { terminals = upd kept.terminals t own; disc = disc; births = births }

module _ (system : System) (t : ℕ) (a : Answer) (next : Context) (kept : Kept) (e : option_map (answered_with system a) (kept.terminals t).ready ≡ Some next) where
  own-is : with_context next (kept.terminals t) ≡ answering system a (kept.terminals t)
  own-is = answering-is system a next (kept.terminals t) e

  pub show-is : kept_show t next kept ≡ answer_terminal system t a kept
  show-is = ap (put-in kept t kept.disc kept.births) own-is

-- ---- in place

-- what is done to a terminal in two steps
pub at-twice : (t : ℕ) (f g : KeptTerminal → KeptTerminal) (disc : Told) (births : ℕ) (kept : Kept)
    → at_terminal t g (record (at_terminal t f kept) { disc = disc; births = births })
    ≡ record (at_terminal t (λ own. g (f own)) kept) { disc = disc; births = births }
at-twice t f g disc births kept =
    ap (λ (terminals : ℕ → KeptTerminal). record kept { terminals = terminals; disc = disc; births = births })
    (upd-twice kept.terminals t (f (kept.terminals t)) _
    ∙ ap (λ (own : KeptTerminal). upd kept.terminals t (g own)) (upd-same kept.terminals t (f (kept.terminals t)) t refl))

-- the context with which a terminal stood at its verb
pub own-context : (left ready : Option Context) (own context : Context) → left ≡ ready → ready ≡ Some own → left ≡ Some context → own ≡ context
own-context left ready own context is at stood = cc

-- it goes on with the context that the answer makes of the one with which it left
pub gone-behind : (system : System) (t : ℕ) (a : Answer) (old next : Context) (kept left new : Kept) → IsSoundContext system old
    → (kept.terminals t).ready ≡ Some old → PutsAnswer system a old next
    → left ≡ at_terminal t before_verb kept → new ≡ kept_show t next left → new ≡ answer_terminal system t a kept
gone-behind system t a old next kept left new sound ready puts leaves goes =
    goes
    ∙ (ap (kept_show t next) leaves
    ∙ (at-twice t before_verb (with_context next) kept.disc kept.births kept
    ∙ show-is system t a next kept
    (ap (option_map (answered_with system a)) ready ∙ ap (λ (c : Context). Some c) (sym (takes-is system a old next sound puts)))))

-- ---- behind a call

-- a call has changed a terminal, which stands at its verb still
pub can-still : {D : Type 0} (told : D → Told) (t : ℕ) (change : KeptTerminal → KeptTerminal) (disc : Kept → Told) (births : Kept → ℕ) (old left : KeepState D)
    → ((own : KeptTerminal) → (change own).ready ≡ own.ready)
    → IsChanged told (λ kept. record (at_terminal t change kept) { disc = disc kept; births = births kept }) old left
    → CanAnswer old.system (kept_in told old) t → CanAnswer left.system (kept_in told left) t
can-still told t change disc births old left same called can =
    let kept : Kept = kept_in told old in
    subst (λ (s : System). CanAnswer s (kept_in told left) t) (sym called.system)
    (record {
      placed = can.placed;
      context = can.context;
      ready =
          ap (λ (k : Kept). (k.terminals t).ready) called.kept
          ∙ (ap (λ (own : KeptTerminal). own.ready) (upd-same kept.terminals t (change (kept.terminals t)) t refl) ∙ (same (kept.terminals t) ∙ can.ready));
      sound = can.sound;
      room = can.room;
    })

-- and goes on behind the answer
pub goes-behind : {D : Type 0} (told : D → Told) (t : ℕ) (a : Answer) (change : KeptTerminal → KeptTerminal) (disc : Kept → Told) (births : Kept → ℕ) (old left new : KeepState D)
    → IsChanged told (λ kept. record (at_terminal t change kept) { disc = disc kept; births = births kept }) old left
    → IsChanged told (answer_terminal left.system t a) left new
    → IsChanged told (λ kept. record (at_terminal t (λ own. answering old.system a (change own)) kept) { disc = disc kept; births = births kept }) old new
goes-behind told t a change disc births old left new called goes =
    let kept : Kept = kept_in told old in
    record {
      system = goes.system ∙ called.system;
      kept =
          goes.kept
          ∙ (ap (λ (s : System). answer_terminal s t a (kept_in told left)) called.system
          ∙ (ap (answer_terminal old.system t a) called.kept ∙ at-twice t change (answering old.system a) (disc kept) (births kept) kept));
    }

-- ---- SEND

-- the message is that of the verb
pub sent-is : (system : System) (t n c : ℕ) (kept : Kept) (can : CanSend system kept t c) (message : List ℕ)
    → message ≡ can.message → kept_send t n c message kept ≡ entered_send system t n c kept
sent-is system t n c kept can message is =
    ap (λ (m : List ℕ). kept_send t n c m kept)
    (is ∙ (sym (ap (λ (v : Verb). sent_by (Some v)) can.asks)
    ∙ sym (ap (λ (o : Option Context). sent_by (option_map (verb_in system) o)) can.can.ready)))

-- ---- REPLY

-- which of the two a reply is: outside a transaction it ends the unit
last-by : (last : ℕ → Kept) (on : Kept) (inside : Bool) (u n : ℕ)
    → (if inside then None else Some u) ≡ Some n → last n ≡ (if not inside then last u else on)
last-by last on true u n e = absurd (cc e)
last-by last on false u n e = let same : n ≡ u = cc e in ap last same

last-at : (last : ℕ → Kept) (on : Kept) (ready : Option Context) (n : ℕ)
    → one_send ready ≡ Some n
    → last n ≡ (if is_outside_at ready then last (unit_of_ready ready) else on)
last-at last on None n e = absurd (cc e)
last-at last on (Some context) n e = last-by last on context.in_unit (unit_in context) n e

on-by : (last on : Kept) (inside : Bool) (u : ℕ)
    → (if inside then None else Some u) ≡ None → on ≡ (if not inside then last else on)
on-by last on true u e = refl
on-by last on false u e = absurd (cc e)

on-at : (last : ℕ → Kept) (on : Kept) (ready : Option Context)
    → one_send ready ≡ None
    → on ≡ (if is_outside_at ready then last (unit_of_ready ready) else on)
on-at last on None e = refl
on-at last on (Some context) e = on-by (last (unit_in context)) on context.in_unit (unit_in context) e

pub replied-last : (system : System) (c i t n : ℕ) (reply : List ℕ) (kept : Kept)
    → reply ≡ reply_by system (kept.jobs c i) → one_send (kept.terminals t).ready ≡ Some n
    → replies_last system c i t n reply kept ≡ entered_reply system c i t None kept
replied-last system c i t n reply kept is e =
    ap (λ (r : List ℕ). replies_last system c i t n r kept) is
    ∙ last-at (λ u. replies_last system c i t u (reply_by system (kept.jobs c i)) kept)
    (replies_to system c i t (reply_by system (kept.jobs c i)) kept) (kept.terminals t).ready n e

pub replied-on : (system : System) (c i t : ℕ) (reply : List ℕ) (kept : Kept)
    → reply ≡ reply_by system (kept.jobs c i) → one_send (kept.terminals t).ready ≡ None
    → replies_to system c i t reply kept ≡ entered_reply system c i t None kept
replied-on system c i t reply kept is e =
    ap (λ (r : List ℕ). replies_to system c i t r kept) is
    ∙ on-at (λ u. replies_last system c i t u (reply_by system (kept.jobs c i)) kept)
    (replies_to system c i t (reply_by system (kept.jobs c i)) kept) (kept.terminals t).ready e

-- the unit that a reply ends
one-send-by : (inside : Bool) (u n : ℕ) → (if inside then None else Some u) ≡ Some n → (inside ≡ false) × (n ≡ u)
one-send-by true u n e = absurd (cc e)
one-send-by false u n e = let same : n ≡ u = cc e in (refl, same)

pub one-send-is : (context : Context) (n : ℕ) → one_send (Some context) ≡ Some n
    → (context.in_unit ≡ false) × (n ≡ unit_in context)
one-send-is context n e = one-send-by context.in_unit (unit_in context) n e
