-- What the entries of a class do, by the verb of the server: FILE, TAKE and REPLY.
use Rattle.std.proofs.Common.{◌≡◌, ℕ, Bool, true, false, List, ◌∷◌, Option, Some, None, if◌then◌else◌, refl, ap, sym, subst, ◌∙◌}
use Rattle.pw_code.specs.declared.file.FileCall.{FileCall}
use Rattle.pw_code.specs.declared.file.FileOp.{FileOp}
use Rattle.pw_code.specs.declared.lock.LockMode.{LockMode}
use Rattle.pw_code.specs.declared.verb.Verb.{Verb}
use Rattle.pw_code.specs.declared.verb.Verb.TheVariants as verb
use Rattle.pw_onecopy.specs.Behaviour.{Behaviour}
use Rattle.pw_onecopy.specs.Path.{Failed, Replied, is_outside, unit_number}
use Rattle.pw_onecopy.specs.Update.{upd}
use Rattle.pw_paired.specs.Server.{LegalFile, LegalReply, LegalTake, Replies, do_file, do_job, do_operation, do_reply, do_take, do_verb, free_process, reply_at, reply_of, server_verb, with_first_taken}
use Rattle.pw_paired.specs.State.{Job, State}
use Rattle.pw_paired.specs.Terminal.{path_of}
use Rattle.pw_paired.specs.Units.{give_answer, commit_unit}

-- a REPLY OK is a server's reply
pub reply-verb : (v : Verb) → Replies v None → v ≡ verb.Reply (reply_of v)
reply-verb (verb.Reply reply) replies = refl
reply-verb verb.Show replies = absurd replies
reply-verb (verb.Accept screen) replies = absurd replies
reply-verb verb.Begin replies = absurd replies
reply-verb (verb.Send class message) replies = absurd replies
reply-verb verb.End replies = absurd replies
reply-verb verb.Drop replies = absurd replies
reply-verb verb.Redo replies = absurd replies
reply-verb verb.Stop replies = absurd replies
reply-verb (verb.Fault x) replies = absurd replies
reply-verb (verb.File call) replies = absurd replies

-- a REPLY FAULT x is its run fault x
pub fault-verb : (v : Verb) (x : ℕ) → Replies v (Some x) → v ≡ verb.Fault x
fault-verb (verb.Fault code) x replies = ap (λ (n : ℕ). verb.Fault n) replies
fault-verb verb.Show x replies = absurd replies
fault-verb (verb.Accept screen) x replies = absurd replies
fault-verb verb.Begin x replies = absurd replies
fault-verb (verb.Send class message) x replies = absurd replies
fault-verb verb.End x replies = absurd replies
fault-verb verb.Drop x replies = absurd replies
fault-verb verb.Redo x replies = absurd replies
fault-verb verb.Stop x replies = absurd replies
fault-verb (verb.File call) x replies = absurd replies
fault-verb (verb.Reply reply) x replies = absurd replies

module _ (sys : Behaviour) (s : State) (c p : ℕ) where
  -- a FILE does one operation
  pub file-is : (op : FileOp) (mode : LockMode) (f status : ℕ) → (l : LegalFile sys s c p op mode f status)
      → do_file sys c p s ≡ do_operation sys c p l.job l.call s
  file-is op mode f status l =
      ap (λ (job : Option Job). do_job sys c p job s) l.at_work ∙ ap (λ (v : Verb). do_verb sys c p l.job v s) l.asks

  -- Legal or not: nothing happens, or the server's operation is done.
  module _ (P : State → Type 0) (same : P s) (operates : (job : Job) (call : FileCall) → (s.classes c).busy p ≡ Some job
      → server_verb sys c job ≡ verb.File call → P (do_operation sys c p job call s)) where
    verb-cases : (job : Job) → (s.classes c).busy p ≡ Some job → (v : Verb) → server_verb sys c job ≡ v → P (do_verb sys c p job v s)
    verb-cases job works (verb.File call) asks = operates job call works asks
    verb-cases job works verb.Show asks = same
    verb-cases job works (verb.Accept screen) asks = same
    verb-cases job works verb.Begin asks = same
    verb-cases job works (verb.Send class message) asks = same
    verb-cases job works verb.End asks = same
    verb-cases job works verb.Drop asks = same
    verb-cases job works verb.Redo asks = same
    verb-cases job works verb.Stop asks = same
    verb-cases job works (verb.Fault x) asks = same
    verb-cases job works (verb.Reply reply) asks = same

    job-cases : (job : Option Job) → (s.classes c).busy p ≡ job → P (do_job sys c p job s)
    job-cases None works = same
    job-cases (Some job) works = verb-cases job works (server_verb sys c job) refl

    -- a FILE leaves the state as it was, or with the operation done
    pub file-cases : P (do_file sys c p s)
    file-cases = job-cases ((s.classes c).busy p) refl

  -- a TAKE hands the first waiting request to the process
  pub take-is : (t : ℕ) → (l : LegalTake sys s c p t)
      → do_take c p s ≡ record s { classes = upd s.classes c (with_first_taken p (l.request ∷ l.others) (s.classes c)) }
  take-is t l = ap (λ waiting. record s { classes = upd s.classes c (with_first_taken p waiting (s.classes c)) }) l.first

  module _ (t : ℕ) (P : State → Type 0) where
    replied : (reply : List ℕ) (outside : Bool) → is_outside (path_of s t) ≡ outside
        → (is_outside (path_of s t) ≡ true → P (give_answer t (Replied reply) (commit_unit t (unit_number (path_of s t)) (Some reply) (free_process c p s))))
        → (is_outside (path_of s t) ≡ false → P (give_answer t (Replied reply) (free_process c p s)))
        → P (give_answer t (Replied reply) (if outside then commit_unit t (unit_number (path_of s t)) (Some reply) (free_process c p s) else free_process c p s))
    replied reply true is send within = send is
    replied reply false is send within = within is

    -- Legal or not: the terminal is answered, and a unit that is one SEND commits.
    pub reply-any : (fault : Option ℕ)
        → ((reply : List ℕ) → is_outside (path_of s t) ≡ true
        → P (give_answer t (Replied reply) (commit_unit t (unit_number (path_of s t)) (Some reply) (free_process c p s))))
        → ((reply : List ℕ) → is_outside (path_of s t) ≡ false → P (give_answer t (Replied reply) (free_process c p s)))
        → ((x : ℕ) → P (give_answer t (Failed x) (free_process c p s)))
        → P (do_reply sys c p t fault s)
    reply-any None send within fails =
        let reply : List ℕ = reply_at sys c ((s.classes c).busy p) in
        replied reply (is_outside (path_of s t)) refl (send reply) (within reply)
    reply-any (Some x) send within fails = fails x

    -- A REPLY answers the terminal: it commits a unit that is one SEND, goes on in a transaction, or has the run fault.
    pub reply-cases : (fault : Option ℕ) → (l : LegalReply sys s c p t fault)
        → ((reply : List ℕ) → fault ≡ None → server_verb sys c l.job ≡ verb.Reply reply → is_outside (path_of s t) ≡ true
        → P (give_answer t (Replied reply) (commit_unit t (unit_number (path_of s t)) (Some reply) (free_process c p s))))
        → ((reply : List ℕ) → fault ≡ None → server_verb sys c l.job ≡ verb.Reply reply → is_outside (path_of s t) ≡ false
        → P (give_answer t (Replied reply) (free_process c p s)))
        → ((x : ℕ) → fault ≡ Some x → server_verb sys c l.job ≡ verb.Fault x → P (give_answer t (Failed x) (free_process c p s)))
        → P (do_reply sys c p t fault s)
    reply-cases None l send within fails =
        let asks = reply-verb (server_verb sys c l.job) l.replies in
        let reply : List ℕ = reply_of (server_verb sys c l.job) in
        subst (λ (r : List ℕ). P (give_answer t (Replied r) (if is_outside (path_of s t) then commit_unit t (unit_number (path_of s t)) (Some r) (free_process c p s) else free_process c p s)))
        (sym (ap (reply_at sys c) l.at_work))
        (replied reply (is_outside (path_of s t)) refl (send reply refl asks) (within reply refl asks))
    reply-cases (Some x) l send within fails = fails x refl (fault-verb (server_verb sys c l.job) x l.replies)
