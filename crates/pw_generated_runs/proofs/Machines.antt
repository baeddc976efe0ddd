-- The one-copy machine of a deck that counts its entries: its terminals stand in their rounds, and its records are what was counted.
use Rattle.std.proofs.Common.{◌≡◌, ◌⊎◌, inl, inr, ℕ, zero, suc, ◌+◌, ◌<◌, true, false, List, [], ◌∷◌, ◌++◌, length, Option, Some, None, refl, ap, sym, subst, append-nil, append_assoc, arith, ◌∙◌, length-append}
use Rattle.std.specs.Prelude.{codes, slice_get}
use Rattle.std.specs.List.{AllByRecursion}
use Rattle.std.proofs.lemmas.Bool.{true≢false}
use Rattle.pw_base.proofs.Plain.{all-append}
use Rattle.pw_code.specs.declared.verb.Verb.{Verb}
use Rattle.pw_code.specs.declared.verb.Verb.TheVariants as verb
use Rattle.pw_event.specs.declared.event.Ending.{Ending}
use Rattle.pw_event.specs.declared.event.Ending.TheVariants as ending
use Rattle.pw_event.specs.declared.event.Event.{Event}
use Rattle.pw_generated_runs.proofs.Singles.{RoundPlace, Between, Taken, Answered, CountedAt, EndedAt, StandsInRounds, answers_at, asks-answered, asks-between, asks-taken, digit-at, entries-between, path-shown}
use Rattle.pw_generated_runs.proofs.Sums.{all-counted, none-counted, one-more, so_far, some-left}
use Rattle.pw_generated_runs.specs.Counts.{asked_for, stock_record, stock_with}
use Rattle.pw_generated_runs.specs.Rounds.{CountsEntries, HasCodeZero, MayHaveEnded, RunsInRounds, request_of, rounds}
use Rattle.pw_laws.proofs.Paths.{reply-outside}
use Rattle.pw_onecopy.proofs.Update.{upd_both, upd_elim}
use Rattle.pw_onecopy.specs.Attempt.{Attempt, BeginsUnit, IsAttempt, answer_verb, attempt, attempt_starts, attempt_with_served}
use Rattle.pw_onecopy.specs.Behaviour.{Behaviour, Served, Reply}
use Rattle.pw_onecopy.specs.Blocks.{SerialBlock, Out, Attempted, Done, AttemptEnding, Committed, Aborted, Restarted, Left}
use Rattle.pw_onecopy.specs.OneCopy.{AsksOut, EndsCommitted, IsSerialFrom, LegalAttempted, LegalBlock, LegalDone, LegalOut, Machine, MayBe, MayEnd, Single, beginning, files_behind, one_copy, run_block, run_blocks, single_behind, single_behind_out, with_term}
use Rattle.pw_onecopy.specs.Path.{PathAnswer, Entry, Replied, Standing, entries_on, is_outside, unit_number}
use Rattle.pw_onecopy.specs.Update.{upd}
use Rattle.pw_paired.specs.Headline.{IsSerializable}
use Rattle.pw_paired.specs.Serial.{blocks}
use Rattle.pw_paired.specs.Step.{after}
use Rattle.pw_paired.specs.Units.{committed_files}

-- ---- attempts of one SEND

module _ (sys : Behaviour) (t : ℕ) (q : List PathAnswer) (files : ℕ → List (List ℕ)) (r : ℕ) where
  -- an attempt begins a unit
  begins-unit : (j : ℕ) → IsAttempt sys t q files r j → BeginsUnit (sys.ask t q) q
  begins-unit zero is = is
  begins-unit (suc j) is = begins-unit j is.0

  -- it is at its start at first
  first-two : (j : ℕ) → IsAttempt sys t q files r (suc (suc j)) → IsAttempt sys t q files r 2
  first-two zero is = is
  first-two (suc j) is = first-two j is.0

  module _ (c : ℕ) (message reply : List ℕ) (left : ℕ → List (List ℕ)) (asks : sys.ask t q ≡ verb.Send c message) (served : sys.serve c message files ≡ Reply reply left) where
    -- its one answer is the reply
    abbrev replied : Attempt
    replied = attempt_with_served (Reply reply left) (attempt_starts q files)

    one-answer : attempt sys t q files r 1 ≡ replied
    one-answer =
        ap (λ (v : Verb). answer_verb sys t r files v (attempt_starts q files)) asks
        ∙ ap (λ (s : Served). attempt_with_served s (attempt_starts q files)) served

    -- which ends the unit
    not-two : is_outside q ≡ true → (j : ℕ) → IsAttempt sys t q files r (suc (suc j)) → ⊥
    not-two outside j is =
        let two = first-two j is in
        let same : unit_number (replied).path ≡ unit_number q = subst (λ (at : Attempt). unit_number at.path ≡ unit_number q) one-answer two.1.is_open in
        let ended : unit_number (q ++ Replied reply ∷ []) ≡ unit_number q + 1 = ap (λ (at : Standing). at.ended + 1) (reply-outside reply q outside) in
        omega (arith, same, ended)

module _ (sys : Behaviour) (digits : ℕ → List ℕ) (deck : CountsEntries sys digits) where
  abbrev n : ℕ
  n = sys.terminals

  -- the machine is that of so many counted requests of each terminal
  pub record CountsMachine (machine : Machine) : Type 0 where
    pub counts : ℕ → ℕ
    pub terms : (t : ℕ) → t < sys.terminals → StandsInRounds (digits t) (machine.terms t) (counts t)
    pub files : machine.files 0 ≡ stock_with (so_far sys.terminals digits counts)

  begins-counting : CountsMachine (beginning sys)
  begins-counting = record {
    counts = λ t. 0;
    terms = λ t lt. record { replies = []; good = tt; place = Between; path = refl; counted = (omega arith, refl); ended = tt };
    files = deck.records ∙ ap stock_with (λ i d. sym (none-counted n digits d) i);
  }

  module _ (machine : Machine) (now : CountsMachine machine) (t : ℕ) (lt : t < sys.terminals) where
    abbrev single : Single
    single = machine.terms t

    abbrev runs : RunsInRounds sys t (digits t)
    runs = deck.terminals t lt

    abbrev size : ℕ
    size = length (digits t)

    -- the terminal stands elsewhere, and nothing more is counted
    kept : (next : Single) → StandsInRounds (digits t) next (now.counts t) → CountsMachine (with_term t next machine)
    kept next stands = record {
      counts = now.counts;
      terms = λ j less. upd_elim machine.terms t next j (λ (s : Single). StandsInRounds (digits j) s (now.counts j))
          (λ same. subst (λ (k : ℕ). StandsInRounds (digits k) next (now.counts k)) (sym same) stands)
          (λ _. now.terms j less);
      files = now.files;
    }

    -- a request of it is counted
    counted_more : (next : Single) (files : ℕ → List (List ℕ)) (d : ℕ) → slice_get (digits t) (now.counts t) ≡ Some d
        → StandsInRounds (digits t) next (now.counts t + 1) → files 0 ≡ stock_with (upd (so_far n digits now.counts) d (so_far n digits now.counts d + 1))
        → CountsMachine (record (with_term t next machine) { files = files })
    counted_more next files d has stands is = record {
      counts = upd now.counts t (now.counts t + 1);
      terms = λ j less. upd_both machine.terms now.counts t next (now.counts t + 1) j (λ (s : Single) (k : ℕ). StandsInRounds (digits j) s k)
          (λ same. subst (λ (k : ℕ). StandsInRounds (digits k) next (now.counts t + 1)) (sym same) stands)
          (λ _. now.terms j less);
      files = is ∙ ap stock_with (λ i x. one-more n digits now.counts t d lt has x i);
    }

    module _ (replies : List (List ℕ)) (good : AllByRecursion HasCodeZero replies) where
      abbrev k : ℕ
      k = length replies

      -- it has no ending
      abbrev open-ended : (count : ℕ) → single.ending ≡ None → EndedAt single.ending count size
      open-ended count live = subst (λ (e : Option Ending). EndedAt e count size) (sym live) tt

      -- ---- an answer outside units
      out-at : (place : RoundPlace) → single.path ≡ rounds replies ++ answers_at place k → CountedAt place k size (now.counts t) single.is_left
          → single.ending ≡ None → single.is_left ≡ false → AsksOut sys t single.path (sys.ask t single.path)
          → StandsInRounds (digits t) (single_behind_out sys t (sys.ask t single.path) single) (now.counts t)
      out-at Between path counted live not_left may =
          let asks = asks-between sys t (digits t) runs replies good single.path path counted.0 in
          let few : entries_on single.path < sys.entries t = subst (AsksOut sys t single.path) asks may in
          let entries = entries-between sys t (digits t) runs replies good single.path path in
          subst (λ (v : Verb). StandsInRounds (digits t) (single_behind_out sys t v single) (now.counts t)) (sym asks)
          (record {
            replies = replies;
            good = good;
            place = Taken;
            path =
                ap (λ (j : ℕ). single.path ++ Entry (j + 1) ∷ []) entries
                ∙ ap (λ (p : List PathAnswer). p ++ Entry (k + 1) ∷ []) (path ∙ append-nil (rounds replies));
            counted = (omega (arith, few, entries, runs.entries), counted.1);
            ended = open-ended (now.counts t) live;
          })
      out-at Taken path counted live not_left may =
          let digit = digit-at (digits t) k counted.0 in
          absurd (subst (AsksOut sys t single.path) (asks-taken sys t (digits t) runs replies good single.path digit.0 path digit.1) may)
      out-at (Answered reply) path counted live not_left may =
          let asks = asks-answered sys t (digits t) runs replies good single.path reply path counted.0 counted.1 in
          let more : now.counts t ≡ k + 1 = elim counted.2 [ inl is ↦ is | inr left ↦ absurd (true≢false (sym left ∙ not_left)) ] in
          subst (λ (v : Verb). StandsInRounds (digits t) (single_behind_out sys t v single) (now.counts t)) (sym asks)
          (record {
            replies = replies ++ reply ∷ [];
            good = all-append HasCodeZero replies (reply ∷ []) good (counted.1, tt);
            place = Between;
            path = path-shown sys t (digits t) runs replies good single.path reply path;
            counted = (omega (arith, counted.0, length-append replies (reply ∷ [])), omega (arith, more, length-append replies (reply ∷ [])));
            ended = open-ended (now.counts t) live;
          })

      -- ---- an attempt of a SEND
      module _ (path : single.path ≡ rounds replies ++ answers_at Taken k) (few : k < size) (count : now.counts t ≡ k) (live : single.ending ≡ None) where
        -- what is asked is the request of a digit, to which the server replies
        abbrev digit : (d : ℕ) × (slice_get (digits t) k ≡ Some d)
        digit = digit-at (digits t) k few

        abbrev d : ℕ
        d = digit.0

        has : slice_get (digits t) (now.counts t) ≡ Some d
        has = ap (slice_get (digits t)) count ∙ digit.1

        asks : sys.ask t single.path ≡ verb.Send 0 (request_of d)
        asks = asks-taken sys t (digits t) runs replies good single.path d path digit.1

        served : (left : ℕ → List (List ℕ))
            × (sys.serve 0 (request_of d) machine.files ≡ Reply (codes "00000000" ++ stock_record d (so_far n digits now.counts d + 1)) left)
            × (left 0 ≡ stock_with (upd (so_far n digits now.counts) d (so_far n digits now.counts d + 1)))
        served =
            deck.server (so_far n digits now.counts) d machine.files (deck.are_digits t k d digit.1)
            (omega (arith, some-left n digits now.counts t d lt has d, deck.few)) now.files

        abbrev reply : List ℕ
        reply = codes "00000000" ++ stock_record d (so_far n digits now.counts d + 1)

        -- the terminal stands where it stood
        stays : (next : Single) → next.path ≡ single.path → next.ending ≡ None → StandsInRounds (digits t) next (now.counts t)
        stays next same alive = record {
          replies = replies;
          good = good;
          place = Taken;
          path = same ∙ path;
          counted = (few, count);
          ended = subst (λ (e : Option Ending). EndedAt e (now.counts t) size) (sym alive) tt;
        }

        -- or behind the reply
        answered : (next : Single) (counts : ℕ) → next.path ≡ single.path ++ Replied reply ∷ [] → next.ending ≡ None → ((counts ≡ k + 1) ⊎ (next.is_left ≡ true))
            → StandsInRounds (digits t) next counts
        answered next counts same alive counted = record {
          replies = replies;
          good = good;
          place = Answered reply;
          path = same ∙ (ap (λ (p : List PathAnswer). p ++ Replied reply ∷ []) path ∙ append_assoc (rounds replies) (Entry (k + 1) ∷ []) (Replied reply ∷ []));
          counted = (few, refl, counted);
          ended = subst (λ (e : Option Ending). EndedAt e counts size) (sym alive) tt;
        }

        -- an attempt without an answer, and one with the reply
        none-at : (how : AttemptEnding) → let at : Attempt = attempt_starts single.path machine.files in MayBe sys t single at how
            → CountsMachine (record (with_term t (single_behind how at single) machine) { files = files_behind how at machine.files })
        none-at Committed may = absurd (subst (λ (v : Verb). EndsCommitted v None) asks may)
        none-at Aborted may = absurd cc
        none-at Restarted may = kept _ (stays _ refl live)
        none-at Left may = kept _ (stays _ refl live)

        one-at : (at : Attempt) → at.path ≡ single.path ++ Replied reply ∷ [] → at.files ≡ served.0 → at.last ≡ Some (Replied reply) → (how : AttemptEnding) → MayBe sys t single at how
            → CountsMachine (record (with_term t (single_behind how at single) machine) { files = files_behind how at machine.files })
        one-at at same files last Committed may =
            counted_more _ at.files d has (answered _ (now.counts t + 1) same live (inl (omega (arith, count)))) (ap (λ (f : ℕ → List (List ℕ)). f 0) files ∙ served.2)
        one-at at same files last Aborted may = absurd cc
        one-at at same files last Restarted may = kept _ (stays _ refl live)
        one-at at same files last Left may = kept _ (answered _ (now.counts t) same live (inr refl))

        attempted-at : (how : AttemptEnding) (j : ℕ) → IsAttempt sys t single.path machine.files single.restarts j → let at : Attempt = attempt sys t single.path machine.files single.restarts j in MayBe sys t single at how
            → CountsMachine (record (with_term t (single_behind how at single) machine) { files = files_behind how at machine.files })
        attempted-at how zero is may = none-at how may
        attempted-at how (suc zero) is may =
            let one = one-answer sys t single.path machine.files single.restarts 0 (request_of d) reply served.0 asks served.1 in
            one-at (attempt sys t single.path machine.files single.restarts 1) (ap (λ (a : Attempt). a.path) one) (ap (λ (a : Attempt). a.files) one) (ap (λ (a : Attempt). a.last) one) how may
        attempted-at how (suc (suc j)) is may =
            let begins = begins-unit sys t single.path machine.files single.restarts (suc (suc j)) is in
            let outside : is_outside single.path ≡ true = subst (λ (v : Verb). BeginsUnit v single.path) asks begins in
            absurd (not-two sys t single.path machine.files single.restarts 0 (request_of d) reply served.0 asks served.1 outside j is)

      attempted : (place : RoundPlace) → single.path ≡ rounds replies ++ answers_at place k → CountedAt place k size (now.counts t) single.is_left → single.ending ≡ None
          → (how : AttemptEnding) (j : ℕ) → IsAttempt sys t single.path machine.files single.restarts j → let at : Attempt = attempt sys t single.path machine.files single.restarts j in MayBe sys t single at how
          → CountsMachine (record (with_term t (single_behind how at single) machine) { files = files_behind how at machine.files })
      attempted Between path counted live how j is may =
          absurd (subst (λ (v : Verb). BeginsUnit v single.path) (asks-between sys t (digits t) runs replies good single.path path counted.0)
          (begins-unit sys t single.path machine.files single.restarts j is))
      attempted Taken path counted live how j is may = attempted-at path counted.0 counted.1 live how j is may
      attempted (Answered reply) path counted live how j is may =
          absurd (subst (λ (v : Verb). BeginsUnit v single.path) (asks-answered sys t (digits t) runs replies good single.path reply path counted.0 counted.1)
          (begins-unit sys t single.path machine.files single.restarts j is))

      -- ---- an ending
      -- which verbs are asked: to accept, to send, or to show
      abbrev IsOfRounds : Verb → Type 0
      IsOfRounds (verb.Accept screen) = Unit {0}
      IsOfRounds (verb.Send c message) = Unit {0}
      IsOfRounds verb.Show = Unit {0}
      IsOfRounds _ = ⊥

      asks-some : (place : RoundPlace) → single.path ≡ rounds replies ++ answers_at place k → CountedAt place k size (now.counts t) single.is_left → IsOfRounds (sys.ask t single.path)
      asks-some Between path counted = subst IsOfRounds (sym (asks-between sys t (digits t) runs replies good single.path path counted.0)) tt
      asks-some Taken path counted =
          let digit = digit-at (digits t) k counted.0 in
          subst IsOfRounds (sym (asks-taken sys t (digits t) runs replies good single.path digit.0 path digit.1)) tt
      asks-some (Answered reply) path counted = subst IsOfRounds (sym (asks-answered sys t (digits t) runs replies good single.path reply path counted.0 counted.1)) tt

      no-entries : (place : RoundPlace) → single.path ≡ rounds replies ++ answers_at place k → CountedAt place k size (now.counts t) single.is_left
          → (screen : ℕ) → sys.ask t single.path ≡ verb.Accept screen → entries_on single.path ≡ sys.entries t → now.counts t ≡ size
      no-entries Between path counted screen asks all =
          omega (arith, counted.1, all, runs.entries, entries-between sys t (digits t) runs replies good single.path path)
      no-entries Taken path counted screen asks all =
          let digit = digit-at (digits t) k counted.0 in
          let sends = asks-taken sys t (digits t) runs replies good single.path digit.0 path digit.1 in
          absurd cc
      no-entries (Answered reply) path counted screen asks all =
          let shows = asks-answered sys t (digits t) runs replies good single.path reply path counted.0 counted.1 in
          absurd cc

      done-at : (place : RoundPlace) → single.path ≡ rounds replies ++ answers_at place k → CountedAt place k size (now.counts t) single.is_left
          → (how : Ending) → MayEnd sys t single how (sys.ask t single.path) → EndedAt (Some how) (now.counts t) size
      done-at place path counted ending.Stopped may = absurd (subst IsOfRounds may (asks-some place path counted))
      done-at place path counted ending.NoEntries may = no-entries place path counted may.0 may.1 may.2
      done-at place path counted (ending.Fault x) may = absurd (subst IsOfRounds may (asks-some place path counted))
      done-at place path counted (ending.Suspended cause) may = tt
      done-at place path counted ending.Lost may = tt

    -- ---- the blocks of this terminal
    abbrev stands : StandsInRounds (digits t) single (now.counts t)
    stands = now.terms t lt

    out-keeps : LegalOut sys machine t → CountsMachine (run_block sys machine (Out t))
    out-keeps legal = kept _ (out-at stands.replies stands.good stands.place stands.path stands.counted legal.live.live legal.not_left legal.asks)

    attempt-keeps : (number : ℕ) (how : AttemptEnding) (j : ℕ) → LegalAttempted sys machine t number how j → CountsMachine (run_block sys machine (Attempted t number how j))
    attempt-keeps number how j legal =
        attempted stands.replies stands.good stands.place stands.path stands.counted legal.live.live how j legal.is_attempt legal.may_be

    done-keeps : (how : Ending) → LegalDone sys machine t how → CountsMachine (run_block sys machine (Done t how))
    done-keeps how legal = kept _ (record {
      replies = stands.replies;
      good = stands.good;
      place = stands.place;
      path = stands.path;
      counted = stands.counted;
      ended = done-at stands.replies stands.good stands.place stands.path stands.counted how legal.may_end;
    })

  block-keeps : (machine : Machine) (block : SerialBlock) → LegalBlock sys machine block → CountsMachine machine → CountsMachine (run_block sys machine block)
  block-keeps machine (Out t) legal now = out-keeps machine now t legal.live.known legal
  block-keeps machine (Attempted t number how j) legal now = attempt-keeps machine now t legal.live.known number how j legal
  block-keeps machine (Done t how) legal now = done-keeps machine now t legal.live.known how legal

  blocks-keep : (machine : Machine) (order : List SerialBlock) → IsSerialFrom sys machine order → CountsMachine machine → CountsMachine (run_blocks sys machine order)
  blocks-keep machine [] serial now = now
  blocks-keep machine (block ∷ rest) serial now = blocks-keep (run_block sys machine block) rest serial.1 (block-keeps machine block serial.0 now)

  -- behind the serial order of a log
  counted-by : (log : List Event) → IsSerializable sys log → CountsMachine (one_copy sys (blocks sys log))
  counted-by log serial = blocks-keep (beginning sys) (blocks sys log) serial.legal begins-counting

  may-have : (e : Option Ending) (count most : ℕ) → EndedAt e count most → MayHaveEnded e
  may-have None count most is = tt
  may-have (Some ending.Stopped) count most is = absurd is
  may-have (Some ending.NoEntries) count most is = tt
  may-have (Some (ending.Fault x)) count most is = absurd is
  may-have (Some (ending.Suspended cause)) count most is = tt
  may-have (Some ending.Lost) count most is = tt

  -- how terminals end
  pub endings-may : (log : List Event) → IsSerializable sys log → (t : ℕ) → t < sys.terminals → MayHaveEnded ((after sys log).terms t).ending
  endings-may log serial t lt =
      let now = counted-by log serial in
      subst MayHaveEnded (sym (serial.endings t)) (may-have _ (now.counts t) (length (digits t)) (now.terms t lt).ended)

  -- what is left where each has taken all its entries
  pub records-counted : (log : List Event) → IsSerializable sys log → ((t : ℕ) → t < sys.terminals → ((after sys log).terms t).ending ≡ Some ending.NoEntries)
      → committed_files sys (after sys log) 0 ≡ stock_with (asked_for sys.terminals digits)
  records-counted log serial all =
      let now = counted-by log serial in
      let whole : (t : ℕ) → t < sys.terminals → now.counts t ≡ length (digits t) =
      λ t lt. subst (λ (e : Option Ending). EndedAt e (now.counts t) (length (digits t))) (sym (serial.endings t) ∙ all t lt) (now.terms t lt).ended in
      serial.records 0 ∙ (now.files ∙ ap stock_with (λ i d. all-counted sys.terminals digits now.counts whole d i))
