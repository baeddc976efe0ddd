-- The requests of each unit that runs alone and commits meet the fact.
use Rattle.std.proofs.Common.{◌≡◌, ℕ, zero, suc, ◌+◌, ◌<◌, Bool, true, false, not, List, [], ◌∷◌, ◌++◌, length, drop, is_none, refl, sym, ap, ◌∙◌, subst, append-nil, append_assoc, arith}
use Rattle.std.proofs.Math.Seq.{drop-append_seam}
use Rattle.std.proofs.lemmas.Bool.{false≢true, true≢false}
use Rattle.pw_code.specs.declared.lock.LockRule.{LockRule}
use Rattle.pw_code.specs.declared.verb.Verb.{Verb}
use Rattle.pw_code.specs.declared.verb.Verb.TheVariants as verb
use Rattle.pw_invariants.specs.Requests.{RepliedRequest, request_by, requests_of, requests_on}
use Rattle.pw_invariants.specs.Units.{CommittedUnit, FileRecords, RunsAlone}
use Rattle.pw_laws.proofs.AttemptFiles.{attempt-fine}
use Rattle.pw_laws.proofs.Paths.{Begun-inside, Dropped-closing, Ended-closing, Entry-plain, Failed-plain, Shown-plain, closing-number, closing-outside, plain-outside, reply-inside, reply-outside}
use Rattle.pw_laws.specs.locking.Seen.{AreFiles}
use Rattle.pw_onecopy.specs.Attempt.{Attempt, BeginsUnit, GoesOn, IsAttempt, TakesAnswer, answer_verb, attempt, attempt_starts, attempt_with_served}
use Rattle.pw_onecopy.specs.Behaviour.{Behaviour, Served, Reply, Fault}
use Rattle.pw_onecopy.specs.IsBehaviour.{IsBehaviour, IsPath, Suits, SuitsFrom}
use Rattle.pw_onecopy.specs.OneCopy.{EndsCommitted}
use Rattle.pw_onecopy.specs.Path.{PathAnswer, Shown, Entry, Begun, Replied, Failed, Ended, Dropped, Standing, entries_on, is_outside, unit_number}
use Rattle.pw_program_laws.specs.Texts.{HaveSizes, texts_in}
use Rattle.pw_program_laws.proofs.requests.Follows.{Answers, Commits, Follows, follows-same, open_after, sent_after}
use Rattle.pw_program_laws.proofs.requests.Programs.{program-follows}
use Rattle.pw_program_laws.specs.Requests.{AloneMeets, ProgramMeets}
use Rattle.pw_tree_meaning.proofs.Resolved.{below-got, each-got}
use Rattle.pw_tree_meaning.specs.Runs.{run_after, verb_of}
use Rattle.pw_tree_meaning.specs.OfDeck.{asked_by, behaviour}
use Rattle.pw_tree_meaning.specs.Program.{DeckModel, program_at}
use Rattle.pw_tree_meaning.specs.Sound.{IsSoundDeck, IsSoundTerminal}
use Rattle.pw_tree_meaning.specs.State.{Out}
use Rattle.pw_tree_meaning.specs.Store.{initial_store}

suits-answers : (sys : Behaviour) (t : ℕ) (path : List PathAnswer) (v : Verb) (a : PathAnswer) → Suits sys t path v a → Answers v a
suits-answers sys t path verb.Show Shown suits = tt
suits-answers sys t path (verb.Accept screen) (Entry k) suits = tt
suits-answers sys t path verb.Begin (Begun r) suits = tt
suits-answers sys t path (verb.Send c message) (Replied reply) suits = tt
suits-answers sys t path (verb.Send c message) (Failed code) suits = tt
suits-answers sys t path verb.End Ended suits = tt
suits-answers sys t path verb.Drop Dropped suits = tt
suits-answers sys t path _ _ suits = absurd suits

-- whether a path is in a transaction, behind one answer more
outside-reply : (path : List PathAnswer) (reply : List ℕ) (inside : Bool) → is_outside path ≡ not inside → is_outside (path ++ Replied reply ∷ []) ≡ not inside
outside-reply path reply true is = ap (λ (at : Standing). is_none at.within) (reply-inside reply path is) ∙ is
outside-reply path reply false is = ap (λ (at : Standing). is_none at.within) (reply-outside reply path is)

outside-more : (path : List PathAnswer) (a : PathAnswer) (inside : Bool) → is_outside path ≡ not inside → is_outside (path ++ a ∷ []) ≡ not (open_after a inside)
outside-more path Shown inside is = plain-outside Shown Shown-plain path ∙ is
outside-more path (Entry k) inside is = plain-outside (Entry k) (Entry-plain k) path ∙ is
outside-more path (Begun r) inside is = Begun-inside r path
outside-more path (Replied reply) inside is = outside-reply path reply inside is
outside-more path (Failed code) inside is = plain-outside (Failed code) (Failed-plain code) path ∙ is
outside-more path Ended inside is = closing-outside Ended Ended-closing path
outside-more path Dropped inside is = closing-outside Dropped Dropped-closing path

-- the requests with one answer more
requests-push : (sys : Behaviour) (t : ℕ) (path answers : List PathAnswer) (answer : PathAnswer)
    → requests_on sys t path (answers ++ answer ∷ []) ≡ requests_on sys t path answers ++ request_by (sys.ask t (path ++ answers)) answer
requests-push sys t path [] answer =
    append-nil (request_by (sys.ask t path) answer) ∙ ap (λ (p : List PathAnswer). request_by (sys.ask t p) answer) (sym (append-nil path))
requests-push sys t path (first ∷ answers) answer =
    let own : List RepliedRequest = request_by (sys.ask t path) first in
    ap (λ (requests : List RepliedRequest). own ++ requests)
    (requests-push sys t (path ++ first ∷ []) answers answer
    ∙ ap (λ (p : List PathAnswer). requests_on sys t (path ++ first ∷ []) answers ++ request_by (sys.ask t p) answer) (append_assoc path (first ∷ []) answers))
    ∙ sym (append_assoc own (requests_on sys t (path ++ first ∷ []) answers) (request_by (sys.ask t (path ++ first ∷ answers)) answer))

module _ (sys : Behaviour) (b : IsBehaviour sys) (holds : List RepliedRequest → Type 0) (t : ℕ) (run : List PathAnswer → Out)
    (asks : (path : List PathAnswer) → sys.ask t path ≡ verb_of (run path)) (follows : (path : List PathAnswer) → Follows holds false [] run path) where
  -- the fact holds along each way on from a path
  abbrev Good : Bool → List RepliedRequest → List PathAnswer → Type 0
  Good inside sent path = (future : List PathAnswer) → Follows holds inside sent (λ rest. run (path ++ rest)) future

  good-more : (inside : Bool) (sent : List RepliedRequest) (path : List PathAnswer) → Good inside sent path → (a : PathAnswer) (v : Verb) → sys.ask t path ≡ v → Answers v a
      → Commits holds v a inside sent × Good (open_after a inside) (sent_after a v inside sent) (path ++ a ∷ [])
  good-more inside sent path good a v is fits =
      let asked : verb_of (run (path ++ [])) ≡ v = ap (λ (p : List PathAnswer). verb_of (run p)) (append-nil path) ∙ sym (asks path) ∙ is in
      let P : Verb → Type 0 = λ w.
      (future : List PathAnswer) → Answers w a
      → Commits holds w a inside sent × Follows holds (open_after a inside) (sent_after a w inside sent) (λ rest. run (path ++ a ∷ rest)) future in
      let now : P v = subst P asked (λ future. good (a ∷ future)) in (
        (now [] fits).0,
        λ future. follows-same holds (open_after a inside) (sent_after a v inside sent) (λ rest. run (path ++ a ∷ rest)) (λ rest. run ((path ++ a ∷ []) ++ rest)) future
            (λ rest short. ap run (sym (append_assoc path (a ∷ []) rest))) (now future fits).1,
      )

  -- what is known behind a path
  record Reached (path : List PathAnswer) : Type 0 where
    inside : Bool
    sent : List RepliedRequest
    good : Good inside sent path
    outside : is_outside path ≡ not inside

  reach : (before path : List PathAnswer) → Reached before → SuitsFrom sys t before path → Reached (before ++ path)
  reach before [] now suits = subst Reached (sym (append-nil before)) now
  reach before (a ∷ path) now suits =
      let next = good-more now.inside now.sent before now.good a (sys.ask t before) refl (suits-answers sys t before (sys.ask t before) a suits.0) in
      let one : Reached (before ++ a ∷ []) = record { inside = open_after a now.inside; sent = sent_after a (sys.ask t before) now.inside now.sent; good = next.1; outside = outside-more before a now.inside now.outside } in
      subst Reached (append_assoc before (a ∷ []) path) (reach (before ++ a ∷ []) path one suits.1)

  reached : (path : List PathAnswer) → IsPath sys t path → Reached path
  reached path is = reach [] path (record { inside = false; sent = []; good = follows; outside = refl }) is.suits

  module _ (r : ℕ) (q : List PathAnswer) (records : FileRecords) (path : IsPath sys t q) (are : AreFiles sys records) where
    -- an attempt in its transaction
    record Open (at : Attempt) : Type 0 where
      answers : List PathAnswer
      reaches : at.path ≡ q ++ answers
      good : Good true (requests_on sys t q answers) at.path
      inside : is_outside at.path ≡ false

    -- one answer more
    open-more : (at next : Attempt) (a : PathAnswer) (v : Verb) → next.path ≡ at.path ++ a ∷ [] → sys.ask t at.path ≡ v → Answers v a → open_after a true ≡ true
        → ((sent : List RepliedRequest) → sent_after a v true sent ≡ sent ++ request_by v a) → Open at → Open next
    open-more at next a v longer is fits stays adds now =
        let answers : List PathAnswer = now.answers ++ a ∷ [] in
        let sent : List RepliedRequest = requests_on sys t q now.answers in
        let more : requests_on sys t q answers ≡ sent_after a v true sent =
        requests-push sys t q now.answers a
        ∙ ap (λ (p : List PathAnswer). sent ++ request_by (sys.ask t p) a) (sym now.reaches)
        ∙ ap (λ (w : Verb). sent ++ request_by w a) is ∙ sym (adds sent) in
        let good = (good-more true sent at.path now.good a v is fits).1 in
        record {
          answers = answers;
          reaches = longer ∙ ap (λ (p : List PathAnswer). p ++ a ∷ []) now.reaches ∙ append_assoc q now.answers (a ∷ []);
          good =
              subst (Good true (requests_on sys t q answers)) (sym longer)
              (subst (λ (sent : List RepliedRequest). Good true sent (at.path ++ a ∷ [])) (sym more)
              (subst (λ (b : Bool). Good b (sent_after a v true sent) (at.path ++ a ∷ [])) stays good));
          inside = ap is_outside longer ∙ outside-more at.path a true now.inside ∙ ap not stays;
        }

    open-sent : (at : Attempt) (c : ℕ) (message : List ℕ) (sv : Served) → sys.ask t at.path ≡ verb.Send c message → Open at → Open (attempt_with_served sv at)
    open-sent at c message (Reply reply left) is now = open-more at (attempt_with_served (Reply reply left) at) (Replied reply) (verb.Send c message) refl is tt refl (λ sent. refl) now
    open-sent at c message (Fault x) is now = open-more at (attempt_with_served (Fault x) at) (Failed x) (verb.Send c message) refl is tt refl (λ sent. sym (append-nil sent)) now

    open-verb : (at : Attempt) (v : Verb) → sys.ask t at.path ≡ v → TakesAnswer sys t at.path v → IsPath sys t at.path
        → unit_number at.path ≡ unit_number q → unit_number (answer_verb sys t r records v at).path ≡ unit_number q → Open at → Open (answer_verb sys t r records v at)
    open-verb at verb.Begin is takes fine before behind now = absurd (true≢false (sym (b.begins t at.path fine is) ∙ now.inside))
    open-verb at verb.Show is takes fine before behind now = open-more at _ Shown verb.Show refl is tt refl (λ sent. sym (append-nil sent)) now
    open-verb at (verb.Accept screen) is takes fine before behind now =
        open-more at _ (Entry (entries_on at.path + 1)) (verb.Accept screen) refl is tt refl (λ sent. sym (append-nil sent)) now
    open-verb at (verb.Send c message) is takes fine before behind now = open-sent at c message (sys.serve c message at.files) is now
    open-verb at verb.End is takes fine before behind now = absurd (let more = closing-number Ended Ended-closing at.path in omega (arith, more, before, behind))
    open-verb at verb.Drop is takes fine before behind now = absurd (let more = closing-number Dropped Dropped-closing at.path in omega (arith, more, before, behind))
    open-verb at verb.Redo is takes fine before behind now = absurd takes
    open-verb at verb.Stop is takes fine before behind now = absurd takes
    open-verb at (verb.Fault x) is takes fine before behind now = absurd takes
    open-verb at (verb.File call) is takes fine before behind now = absurd takes
    open-verb at (verb.Reply reply) is takes fine before behind now = absurd takes

    -- the first answer of a transaction
    opened : (v : Verb) → sys.ask t q ≡ v → v ≡ verb.Begin → Open (answer_verb sys t r records v (attempt_starts q records))
    opened verb.Begin is begins =
        let now = reached q path in
        let next = (good-more now.inside now.sent q now.good (Begun r) verb.Begin is tt).1 in
        record {
          answers = Begun r ∷ [];
          reaches = refl;
          good =
              subst (λ (sent : List RepliedRequest). Good true sent (q ++ Begun r ∷ []))
              (sym (append-nil (request_by (sys.ask t q) (Begun r)) ∙ ap (λ (v : Verb). request_by v (Begun r)) is)) next;
          inside = Begun-inside r q;
        }
    opened _ is begins = absurd (cc begins)

    module _ (begins : sys.ask t q ≡ verb.Begin) where
      open-along : (j : ℕ) → IsAttempt sys t q records r (suc (suc j)) → Open (attempt sys t q records r (suc j))
      open-along zero is = opened (sys.ask t q) refl begins
      open-along (suc j) is =
          let at : Attempt = attempt sys t q records r (suc j) in
          let fine = attempt-fine sys b t q r path records are (suc j) is.0.0 in
          open-verb at (sys.ask t at.path) refl is.0.1.takes fine.is_path is.0.1.is_open is.1.is_open (open-along j is.0)

      -- the last answer is that of END-TRANSACTION
      last-ends : (at : Attempt) (v : Verb) → sys.ask t at.path ≡ v → TakesAnswer sys t at.path v → EndsCommitted verb.Begin (answer_verb sys t r records v at).last → Open at
          → (answers : List PathAnswer) × ((answer_verb sys t r records v at).path ≡ q ++ answers) × holds (requests_on sys t q answers)
      last-ends at verb.End is takes ends now = (
        now.answers ++ Ended ∷ [],
        ap (λ (p : List PathAnswer). p ++ Ended ∷ []) now.reaches ∙ append_assoc q now.answers (Ended ∷ []),
        subst holds
            (sym (requests-push sys t q now.answers Ended
            ∙ ap (λ (p : List PathAnswer). requests_on sys t q now.answers ++ request_by (sys.ask t p) Ended) (sym now.reaches)
            ∙ ap (λ (w : Verb). requests_on sys t q now.answers ++ request_by w Ended) is
            ∙ append-nil (requests_on sys t q now.answers)))
            (good-more true (requests_on sys t q now.answers) at.path now.good Ended verb.End is tt).0,
      )
      last-ends at verb.Begin is takes ends now = absurd ends
      last-ends at verb.Show is takes ends now = absurd ends
      last-ends at (verb.Accept screen) is takes ends now = absurd ends
      last-ends at (verb.Send c message) is takes ends now = absurd (no-reply (sys.serve c message at.files) ends)
        where
          no-reply : (sv : Served) → EndsCommitted verb.Begin (attempt_with_served sv at).last → ⊥
          no-reply (Reply reply left) ends = ends
          no-reply (Fault x) ends = ends
      last-ends at verb.Drop is takes ends now = absurd ends
      last-ends at verb.Redo is takes ends now = absurd takes
      last-ends at verb.Stop is takes ends now = absurd takes
      last-ends at (verb.Fault x) is takes ends now = absurd takes
      last-ends at (verb.File call) is takes ends now = absurd takes
      last-ends at (verb.Reply reply) is takes ends now = absurd takes

      begun-requests : (j : ℕ) → IsAttempt sys t q records r j → EndsCommitted verb.Begin (attempt sys t q records r j).last
          → (answers : List PathAnswer) × ((attempt sys t q records r j).path ≡ q ++ answers) × holds (requests_on sys t q answers)
      begun-requests zero is ends = absurd ends
      begun-requests (suc zero) is ends = absurd (first-no (sys.ask t q) begins ends)
        where
          first-no : (v : Verb) → v ≡ verb.Begin → EndsCommitted verb.Begin (answer_verb sys t r records v (attempt_starts q records)).last → ⊥
          first-no verb.Begin e ends = ends
          first-no _ e ends = absurd (cc e)
      begun-requests (suc (suc j)) is ends =
          let at : Attempt = attempt sys t q records r (suc j) in
          last-ends at (sys.ask t at.path) refl is.1.takes ends (open-along j is)

    module _ (c : ℕ) (message : List ℕ) (sends : sys.ask t q ≡ verb.Send c message) (outside : is_outside q ≡ true) where
      -- a request outside a transaction is a unit by itself
      sent-requests : (sv : Served) → EndsCommitted (verb.Send c message) (attempt_with_served sv (attempt_starts q records)).last
          → (answers : List PathAnswer) × ((attempt_with_served sv (attempt_starts q records)).path ≡ q ++ answers) × holds (requests_on sys t q answers)
      sent-requests (Fault x) ends = absurd ends
      sent-requests (Reply reply left) ends =
          let now = reached q path in
          let request : RepliedRequest = record { class = c; message = message; reply = reply } in
          let alone : now.inside ≡ false = closed now.inside (sym now.outside ∙ outside) in
          let met : AloneMeets holds now.inside request = (good-more now.inside now.sent q now.good (Replied reply) (verb.Send c message) sends tt).0 in (
            Replied reply ∷ [],
            refl,
            subst holds (sym (append-nil (request_by (sys.ask t q) (Replied reply)) ∙ ap (λ (v : Verb). request_by v (Replied reply)) sends))
                (subst (λ (b : Bool). AloneMeets holds b request) alone met),
          )
        where
          closed : (b : Bool) → not b ≡ true → b ≡ false
          closed true e = absurd (false≢true e)
          closed false e = refl

      -- behind it nothing more of the unit comes
      no-more : (sv : Served) → GoesOn sys t q (attempt_with_served sv (attempt_starts q records)) → ⊥
      no-more (Reply reply left) goes =
          let more : unit_number (q ++ Replied reply ∷ []) ≡ unit_number q + 1 = ap (λ (at : Standing). at.ended + 1) (reply-outside reply q outside) in
          omega (arith, more, goes.is_open)
      no-more (Fault x) goes = subst (λ (v : Verb). TakesAnswer sys t (q ++ Failed x ∷ []) v) (b.fails t c x message q path sends) goes.takes

      goes-first : (j : ℕ) → IsAttempt sys t q records r (suc (suc j)) → GoesOn sys t q (attempt sys t q records r 1)
      goes-first zero is = is.1
      goes-first (suc j) is = goes-first j is.0

      sent-by : (v : Verb) → v ≡ verb.Send c message → (P : Attempt → Type 0) → P (answer_verb sys t r records v (attempt_starts q records))
          → P (attempt_with_served (sys.serve c message records) (attempt_starts q records))
      sent-by v e P now = subst (λ (w : Verb). P (answer_verb sys t r records w (attempt_starts q records))) e now

      single-requests : (j : ℕ) → IsAttempt sys t q records r j → EndsCommitted (verb.Send c message) (attempt sys t q records r j).last
          → (answers : List PathAnswer) × ((attempt sys t q records r j).path ≡ q ++ answers) × holds (requests_on sys t q answers)
      single-requests zero is ends = absurd ends
      single-requests (suc zero) is ends =
          let Ends : Attempt → Type 0 = λ at. EndsCommitted (verb.Send c message) at.last in
          let Done : Verb → Type 0 = λ v.
          (answers : List PathAnswer) × ((answer_verb sys t r records v (attempt_starts q records)).path ≡ q ++ answers) × holds (requests_on sys t q answers) in
          subst Done (sym sends) (sent-requests (sys.serve c message records) (sent-by (sys.ask t q) sends Ends ends))
      single-requests (suc (suc j)) is ends =
          absurd (no-more (sys.serve c message records) (sent-by (sys.ask t q) sends (GoesOn sys t q) (goes-first j is)))

    begins-unit : (j : ℕ) → IsAttempt sys t q records r j → BeginsUnit (sys.ask t q) q
    begins-unit zero is = is
    begins-unit (suc j) is = begins-unit j is.0

    unit-by : (v : Verb) → sys.ask t q ≡ v → BeginsUnit v q → (j : ℕ) → IsAttempt sys t q records r j → EndsCommitted v (attempt sys t q records r j).last
        → (answers : List PathAnswer) × ((attempt sys t q records r j).path ≡ q ++ answers) × holds (requests_on sys t q answers)
    unit-by verb.Begin is begins j attempts ends = begun-requests is j attempts ends
    unit-by (verb.Send c message) is begins j attempts ends = single-requests c message is begins j attempts ends
    unit-by _ is begins j attempts ends = absurd begins

-- each unit that runs alone
pub unit-requests : (sys : Behaviour) (b : IsBehaviour sys) (holds : List RepliedRequest → Type 0) (unit : CommittedUnit) (run : List PathAnswer → Out)
    → ((path : List PathAnswer) → sys.ask unit.terminal path ≡ verb_of (run path)) → ((path : List PathAnswer) → Follows holds false [] run path)
    → (records left : FileRecords) → RunsAlone sys unit records left → holds (requests_of sys unit)
unit-requests sys b holds unit run asks follows records left alone =
    let t : ℕ = unit.terminal in
    let q : List PathAnswer = unit.start in
    let found =
    unit-by sys b holds t run asks follows alone.restarts q records alone.is_path alone.are_files (sys.ask t q) refl
    (begins-unit sys b holds t run asks follows alone.restarts q records alone.is_path alone.are_files alone.answers alone.is_attempt)
    alone.answers alone.is_attempt alone.commits in
    let own : drop (length q) unit.path ≡ found.0 = ap (λ (p : List PathAnswer). drop (length q) p) (alone.path ∙ found.1) ∙ drop-append_seam q found.0 in
    subst (λ (answers : List PathAnswer). holds (requests_on sys t q answers)) (sym own) found.2

module _ (rule : LockRule) (deck : DeckModel) (sound : IsSoundDeck deck) (b : IsBehaviour (behaviour rule deck)) (holds : List RepliedRequest → Type 0) (sizes : ℕ → List ℕ)
    (met : (q : ℕ) → q < length deck.programs → HaveSizes (sizes q) (texts_in (initial_store (program_at deck.programs q))) × ProgramMeets deck (program_at deck.programs q) (sizes q) holds) where
  -- each unit of a deck
  pub deck-requests : (unit : CommittedUnit) (records left : FileRecords) → RunsAlone (behaviour rule deck) unit records left → holds (requests_of (behaviour rule deck) unit)
  deck-requests unit records left alone =
      let terminal = below-got deck.terminals unit.terminal alone.is_path.known in
      let q : ℕ = terminal.0.program in
      let known : q < length deck.programs = (each-got (IsSoundTerminal deck) deck.terminals unit.terminal terminal.0 sound.terminals terminal.1).program in
      unit-requests (behaviour rule deck) b holds unit (run_after deck q terminal.0.entries)
      (λ path. ap (λ o. asked_by deck o path) terminal.1)
      (λ path. program-follows deck q (sizes q) holds terminal.0.entries (length path) (met q known).0 (met q known).1 path (omega arith))
      records left alone
