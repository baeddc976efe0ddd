-- Each event keeps what holds, and the marks that are final.
use Rattle.std.proofs.Common.{◌≡◌, ◌≢◌, ◌⊎◌, inl, inr, ⊎_elim, ℕ, ◌+◌, List, [], ◌∷◌, ◌++◌, Option, Some, None, Contains, refl, sym, ap, subst, ◌∙◌, arith, append-nil}
use Rattle.std.proofs.lemmas.Bool.{cases_eq}
use Rattle.pw_net.specs.Agreement.{WasSent, IsFrom, TakesNumber, Begins}
use Rattle.pw_net.specs.Member.{Member, standing_of, turned, replied, own_id, start, handle, refuse, ask, give_up, restart}
use Rattle.pw_net.specs.Rules.{Reply, on_word, on_refuse, on_wait, on_end}
use Rattle.pw_net.specs.World.{NetWorld, NetEvent, Start, Refuse, Ask, GiveUp, Restart, Deliver, done, message_at, delivered, effect, first_world, after_from}
use Rattle.pw_net.specs.declared.message.Net.{Net}
use Rattle.pw_net.specs.declared.message.NetId.{NetId}
use Rattle.pw_net.specs.declared.message.NetWord.TheVariants.{Prepare}
use Rattle.pw_net.specs.declared.standing.TransactionState.{TransactionState}
use Rattle.pw_net.specs.declared.standing.TransactionState.TheVariants.{Collecting, Committed, Aborted}
use Rattle.pw_net.proofs.Moves.{Holds, Moves, IsPrepare, moved}
use Rattle.pw_net.proofs.Replies.{keeps-word, keeps-refuse, keeps-wait, keeps-give-up, keeps-restart}
use Rattle.pw_net.proofs.Sent.{in-contains, each-sent, at-sent, sent-before, sent-after}
use Rattle.pw_net.proofs.Standings.{behind, same_id, turned-same, turned-other, restart-standing, restarted_mark}
use Rattle.pw_net.proofs.Worlds.{Sound, standings, with-same, with-other, with-kept, reply-sound, start-sound}

-- what is committed or aborted stays so
pub record Lasts (w next : NetWorld) : Type 0 where
  pub committed : (id : NetId) (t : ℕ) → standings w id t ≡ Some Committed → standings next id t ≡ Some Committed
  pub aborted : (id : NetId) (t : ℕ) → standings w id t ≡ Some Aborted → standings next id t ≡ Some Aborted

-- a step to a world in which this holds too
abbrev pub Steps : NetWorld → NetWorld → Type 0
Steps w next = Sound next × Lasts w next

-- a standing that one change leaves, left by each system and transaction
stays : (w : NetWorld) (s : ℕ) (id : NetId) (turns : Option TransactionState) (new : List Net) (x : TransactionState)
    → (standings w id s ≡ Some x → behind (standings w id s) turns ≡ Some x) → (other : NetId) (t : ℕ) → standings w other t ≡ Some x
    → standings (done w s (record { member = turned (w.members s) id turns; messages = new })) other t ≡ Some x
stays w s id turns new x keeps other t is = ⊎_elim (λ e. here e (same_id other id)) (λ ne. ap (λ m. standing_of m other) (with-other w.members s (turned (w.members s) id turns) t ne) ∙ is) (cases_eq t s)
  where
    here : t ≡ s → (other ≡ id) ⊎ (other ≢ id) → standings (done w s (record { member = turned (w.members s) id turns; messages = new })) other t ≡ Some x
    here e (inl same) = ap (λ m. standing_of m other) (with-same w.members s (turned (w.members s) id turns) t e)
        ∙ (ap (standing_of (turned (w.members s) id turns)) same ∙ (turned-same (w.members s) id turns ∙ keeps (ap (λ k. standings w k s) (sym same) ∙ (ap (standings w other) (sym e) ∙ is))))
    here e (inr differs) = ap (λ m. standing_of m other) (with-same w.members s (turned (w.members s) id turns) t e)
        ∙ (turned-other (w.members s) other id turns differs ∙ (ap (standings w other) (sym e) ∙ is))

reply-steps : (w : NetWorld) (s : ℕ) (id : NetId) (reply : Reply) → Sound w
    → Moves id (standings w id) (w.members id.home).last w.sent s (behind (standings w id s) reply.turns) reply.messages
    → Steps w (done w s (replied (w.members s) id reply))
reply-steps w s id reply sound move = (
  reply-sound w s id reply sound move,
  record {
    committed = stays w s id reply.turns reply.messages Committed move.stays_committed;
    aborted = stays w s id reply.turns reply.messages Aborted move.stays_aborted;
  },
)

-- a reply that the member gives under its system's number
own-steps : (w : NetWorld) (s : ℕ) (id : NetId) (reply : ℕ → Reply) → Sound w
    → Moves id (standings w id) (w.members id.home).last w.sent s (behind (standings w id s) (reply s).turns) (reply s).messages
    → Steps w (done w s (replied (w.members s) id (reply (w.members s).system)))
own-steps w s id reply sound move = reply-steps w s id (reply (w.members s).system) sound
    (subst (λ own. Moves id (standings w id) (w.members id.home).last w.sent s (behind (standings w id s) (reply own).turns) (reply own).messages) (sym (sound.systems s)) move)

start-steps : (w : NetWorld) (s : ℕ) (others : List ℕ) → Sound w → Steps w (done w s (start (w.members s) others))
start-steps w s others sound = (start-sound w s others sound, record { committed = lasting Committed; aborted = lasting Aborted })
  where
    id : NetId
    id = own_id (w.members s) ((w.members s).last + 1)

    turns : Option TransactionState
    turns = Some (Collecting (record { others = others; missing = others }))

    none : standings w id s ≡ None
    none = let e = ap (λ k. (w.members k).last) (sound.systems s) in
        ap (standings w id) (sym (sound.systems s)) ∙ ((sound.holds id).fresh (omega (arith, e))).0

    now : Member
    now = (start (w.members s) others).member

    lasting : (x : TransactionState) (other : NetId) (t : ℕ) → standings w other t ≡ Some x → standings (done w s (start (w.members s) others)) other t ≡ Some x
    lasting x other t is = ⊎_elim (λ e. here e (same_id other id)) (λ ne. ap (λ m. standing_of m other) (with-other w.members s now t ne) ∙ is) (cases_eq t s)
      where
        here : t ≡ s → (other ≡ id) ⊎ (other ≢ id) → standings (done w s (start (w.members s) others)) other t ≡ Some x
        here e (inl same) =
            let stood : standings w id s ≡ Some x = ap (λ k. standings w k s) (sym same) ∙ (ap (standings w other) (sym e) ∙ is) in
            absurd (cc (none, stood))
        here e (inr differs) = ap (λ m. standing_of m other) (with-same w.members s now t e)
            ∙ (turned-other (w.members s) other id turns differs ∙ (ap (standings w other) (sym e) ∙ is))

restart-steps : (w : NetWorld) (s : ℕ) → Sound w → Steps w (effect w (Restart s))
restart-steps w s sound = (
  record {
    systems = λ t. with-kept (λ m. m.system) w.members s (restart (w.members s)) refl t ∙ sound.systems t;
    holds = λ id. subst (Holds id (standings next id) (next.members id.home).last) (append-nil w.sent)
        (subst (λ k. Holds id (standings next id) k (w.sent ++ [])) (sym (with-kept (λ m. m.last) w.members s (restart (w.members s)) refl id.home))
        (moved id (standings w id) (standings next id) (w.members id.home).last w.sent [] s (restarted_mark (standings w id s)) (sound.holds id) (change id) (at id s refl) (elsewhere id)));
  },
  record { committed = λ id t. lasting id t Committed (change id).stays_committed; aborted = λ id t. lasting id t Aborted (change id).stays_aborted },
)
  where
    next : NetWorld
    next = effect w (Restart s)

    change : (id : NetId) → Moves id (standings w id) (w.members id.home).last w.sent s (restarted_mark (standings w id s)) []
    change id = keeps-restart id (standings w id) (w.members id.home).last w.sent s (sound.holds id) (standings w id s) refl

    at : (id : NetId) (t : ℕ) → t ≡ s → standings next id t ≡ restarted_mark (standings w id s)
    at id t is = ap (λ m. standing_of m id) (with-same w.members s (restart (w.members s)) t is) ∙ restart-standing (w.members s) id

    elsewhere : (id : NetId) (t : ℕ) → t ≢ s → standings next id t ≡ standings w id t
    elsewhere id t ne = ap (λ m. standing_of m id) (with-other w.members s (restart (w.members s)) t ne)

    lasting : (id : NetId) (t : ℕ) (x : TransactionState) → (standings w id s ≡ Some x → restarted_mark (standings w id s) ≡ Some x) → standings w id t ≡ Some x → standings next id t ≡ Some x
    lasting id t x keeps is = ⊎_elim (λ e. at id t e ∙ keeps (ap (standings w id) (sym e) ∙ is)) (λ ne. elsewhere id t ne ∙ is) (cases_eq t s)

deliver-steps : (w : NetWorld) (k : ℕ) (found : Option Net) → message_at w.sent k ≡ found → Sound w → Steps w (delivered w found)
deliver-steps w k None is sound = (sound, record { committed = λ _ _ e. e; aborted = λ _ _ e. e })
deliver-steps w k (Some m) is sound = own-steps w m.to m.id (λ own. on_word own m.id m.from m.word (standings w m.id m.to)) sound
    (keeps-word m.id (standings w m.id) (w.members m.id.home).last w.sent m.to (sound.holds m.id) m.from m.word (standings w m.id m.to) refl
    (at-sent (IsFrom m.word m.id m.from) w.sent k m is (refl, refl, refl)))

pub event-steps : (w : NetWorld) (event : NetEvent) → Sound w → Steps w (effect w event)
event-steps w (Start s others) sound = start-steps w s others sound
event-steps w (Refuse s id) sound = own-steps w s id (λ own. on_refuse own id (standings w id s)) sound
    (keeps-refuse id (standings w id) (w.members id.home).last w.sent s (sound.holds id) (standings w id s) refl)
event-steps w (Ask s id) sound = own-steps w s id (λ own. on_wait own id (standings w id s)) sound
    (keeps-wait id (standings w id) (w.members id.home).last w.sent s (sound.holds id) (standings w id s) refl)
event-steps w (GiveUp s number) sound = let id = own_id (w.members s) number in
    own-steps w s id (λ own. on_end own id (standings w id s)) sound
    (keeps-give-up id (standings w id) (w.members id.home).last w.sent s (sound.holds id) (standings w id s) refl (sym (sound.systems s)))
event-steps w (Restart s) sound = restart-steps w s sound
event-steps w (Deliver k) sound = deliver-steps w k (message_at w.sent k) refl sound

pub events-sound : (w : NetWorld) (events : List NetEvent) → Sound w → Sound (after_from w events)
events-sound w [] sound = sound
events-sound w (event ∷ events) sound = events-sound (effect w event) events (event-steps w event sound).0

pub events-committed : (w : NetWorld) (events : List NetEvent) → Sound w → (id : NetId) (t : ℕ) → standings w id t ≡ Some Committed → standings (after_from w events) id t ≡ Some Committed
events-committed w [] sound id t is = is
events-committed w (event ∷ events) sound id t is = let next = event-steps w event sound in
    events-committed (effect w event) events next.0 id t (next.1.committed id t is)

pub events-aborted : (w : NetWorld) (events : List NetEvent) → Sound w → (id : NetId) (t : ℕ) → standings w id t ≡ Some Aborted → standings (after_from w events) id t ≡ Some Aborted
events-aborted w [] sound id t is = is
events-aborted w (event ∷ events) sound id t is = let next = event-steps w event sound in
    events-aborted (effect w event) events next.0 id t (next.1.aborted id t is)

pub after_from-append : (w : NetWorld) (events more : List NetEvent) → after_from w (events ++ more) ≡ after_from (after_from w events) more
after_from-append w [] more = refl
after_from-append w (event ∷ events) more = after_from-append (effect w event) events more

-- the first world is sound
pub first-sound : Sound first_world
first-sound = record {
  systems = λ t. refl;
  holds = λ id. record {
    fresh = λ _. (refl, λ w. absurd w);
    own = λ s b e. absurd (cc e);
    voted = λ s ne w. absurd w;
    commits = λ w. absurd w;
    aborts = λ w. absurd w;
    committed = λ s e. absurd (cc e);
    collecting = λ b e. absurd (cc e);
    all = λ e. absurd (cc e);
  };
}

-- what was sent stays sent
event-sent : (P : Net → Type 0) (w : NetWorld) (event : NetEvent) → WasSent P w.sent → WasSent P (effect w event).sent
event-sent P w (Start s others) v = sent-before P w.sent (start (w.members s) others).messages v
event-sent P w (Refuse s id) v = sent-before P w.sent (refuse (w.members s) id).messages v
event-sent P w (Ask s id) v = sent-before P w.sent (ask (w.members s) id).messages v
event-sent P w (GiveUp s number) v = sent-before P w.sent (give_up (w.members s) number).messages v
event-sent P w (Restart s) v = v
event-sent P w (Deliver k) v = came (message_at w.sent k)
  where
    came : (found : Option Net) → WasSent P (delivered w found).sent
    came None = v
    came (Some m) = sent-before P w.sent (handle (w.members m.to) m).messages v

events-sent : (P : Net → Type 0) (w : NetWorld) (events : List NetEvent) → WasSent P w.sent → WasSent P (after_from w events).sent
events-sent P w [] v = v
events-sent P w (event ∷ events) v = events-sent P (effect w event) events (event-sent P w event v)

-- the start that takes a number sends Prepare to each of the others
takes-sent : (w : NetWorld) (event : NetEvent) (id : NetId) (others : List ℕ) (t : ℕ) → TakesNumber w event id others → Contains others t → WasSent (IsPrepare id t) (effect w event).sent
takes-sent w (Start s own) id others t (is, same) among = sent-after (IsPrepare id t) w.sent (start (w.members s) own).messages
    (each-sent (IsPrepare id t) (w.members s).system (own_id (w.members s) ((w.members s).last + 1)) Prepare own t (refl, sym is, refl)
    (in-contains own t (subst (λ xs. Contains xs t) same among)))
takes-sent w (Refuse s other) id others t takes among = absurd takes
takes-sent w (Ask s other) id others t takes among = absurd takes
takes-sent w (GiveUp s number) id others t takes among = absurd takes
takes-sent w (Restart s) id others t takes among = absurd takes
takes-sent w (Deliver k) id others t takes among = absurd takes

pub begins-sent : (w : NetWorld) (events : List NetEvent) (id : NetId) (others : List ℕ) (t : ℕ) → Begins w events id others → Contains others t → WasSent (IsPrepare id t) (after_from w events).sent
begins-sent w [] id others t begins among = absurd begins
begins-sent w (event ∷ events) id others t (inl takes) among = events-sent (IsPrepare id t) (effect w event) events (takes-sent w event id others t takes among)
begins-sent w (event ∷ events) id others t (inr begins) among = begins-sent (effect w event) events id others t begins among
