-- The tests of verbs decide what they say.
use Rattle.std.proofs.Common.{◌≡◌, ℕ, Bool, List, Option, Some, None, Decides, refl, ap, subst}
use Rattle.pw_code.specs.declared.file.FileCall.{FileCall}
use Rattle.pw_code.specs.declared.verb.Verb.{Verb}
use Rattle.pw_code.specs.declared.verb.Verb.TheVariants as verb
use Rattle.pw_laws.proofs.Deciding.{yes, no, like, itself, number}
use Rattle.pw_laws.specs.legal.Verbs.{asks_show, asks_accept, asks_send, asks_send_to, asks_end, asks_drop, asks_redo, asks_stop, asks_fault, asks_file, begins_unit, replies}
use Rattle.pw_onecopy.specs.Path.{PathAnswer, is_outside}
use Rattle.pw_paired.specs.Server.{Replies}
use Rattle.pw_onecopy.specs.Attempt.{BeginsUnit}

-- whether the verb is Show
pub show : (asked : Verb) → Decides (asks_show asked) (asked ≡ verb.Show)
show verb.Show = yes refl
show _ = no (λ e. cc e)

-- whether the verb is Accept
pub accept : (asked : Verb) → Decides (asks_accept asked) ((screen : ℕ) × (asked ≡ verb.Accept screen))
accept (verb.Accept screen) = yes (screen, refl)
accept _ = no (λ h. let e = h.1 in cc e)

-- whether the verb is Send
pub send : (asked : Verb) → Decides (asks_send asked) ((class : ℕ) × (message : List ℕ) × (asked ≡ verb.Send class message))
send (verb.Send class message) = yes (class, message, refl)
send _ = no (λ h. let e = h.2 in cc e)

-- whether the verb is Send to class c
pub send_to : (c : ℕ) (asked : Verb) → Decides (asks_send_to c asked) ((message : List ℕ) × (asked ≡ verb.Send c message))
send_to c (verb.Send class message) =
    like (number class c) (λ e. (message, ap (λ (d : ℕ). verb.Send d message) e)) (λ h. let e = h.1 in cc)
send_to c _ = no (λ h. let e = h.1 in cc e)

-- whether the verb is End
pub end : (asked : Verb) → Decides (asks_end asked) (asked ≡ verb.End)
end verb.End = yes refl
end _ = no (λ e. cc e)

-- whether the verb is Drop
pub drop : (asked : Verb) → Decides (asks_drop asked) (asked ≡ verb.Drop)
drop verb.Drop = yes refl
drop _ = no (λ e. cc e)

-- whether the verb is Redo
pub redo : (asked : Verb) → Decides (asks_redo asked) (asked ≡ verb.Redo)
redo verb.Redo = yes refl
redo _ = no (λ e. cc e)

-- whether the verb is Stop
pub stop : (asked : Verb) → Decides (asks_stop asked) (asked ≡ verb.Stop)
stop verb.Stop = yes refl
stop _ = no (λ e. cc e)

-- whether the verb is Fault(x)
pub fault : (x : ℕ) (asked : Verb) → Decides (asks_fault x asked) (asked ≡ verb.Fault x)
fault x (verb.Fault code) = like (number code x) (λ e. ap verb.Fault e) (λ e. cc)
fault x _ = no (λ e. cc e)

-- whether the verb is File, of a call that the test decides
pub file : {test : FileCall → Bool} {P : FileCall → Type 0} → ((call : FileCall) → Decides (test call) (P call)) → (asked : Verb)
    → Decides (asks_file test asked) ((call : FileCall) × (asked ≡ verb.File call) × P call)
file {P = P} each (verb.File call) =
    like (each call) (λ p. (call, refl, p)) (λ h. let e = h.1 in let same : h.0 ≡ call = cc in subst P same h.2)
file each _ = no (λ h. let e = h.1 in cc e)

-- whether the verb begins a unit: it is Begin, or Send outside a transaction
pub beginning : (asked : Verb) (path : List PathAnswer) → Decides (begins_unit asked path) (BeginsUnit asked path)
beginning verb.Begin path = yes tt
beginning (verb.Send class message) path = itself (is_outside path)
beginning _ path = no (λ h. absurd h)

-- whether the server asks what a REPLY needs: a reply, or the run fault of the entry
pub reply : (asked : Verb) (fault : Option ℕ) → Decides (replies asked fault) (Replies asked fault)
reply (verb.Reply own) None = yes tt
reply (verb.Fault code) (Some x) = number code x
reply _ _ = no (λ h. absurd h)
