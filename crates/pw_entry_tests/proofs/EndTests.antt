-- The tests of the end of a transaction, by the context behind it.
use Rattle.std.proofs.Common.{◌≡◌, ℕ, ◌==◌, ◌&&◌, Bool, true, false, not, is_some, refl, ap, sym, ◌∙◌}
use Rattle.pw_code.specs.declared.context.Context.{Context}
use Rattle.pw_code.specs.declared.system.System.{System}
use Rattle.pw_code.specs.declared.verb.Answer.{Answer}
use Rattle.pw_code.specs.declared.verb.Answer.TheVariants as answer
use Rattle.pw_code.specs.declared.verb.Verb.{Verb}
use Rattle.pw_code.specs.declared.verb.Verb.TheVariants as verb
use Rattle.pw_image.specs.Image.{image_of}
use Rattle.pw_world_state.specs.Asked.{unit_in, verb_in}
use Rattle.pw_world_state.specs.Kept.{Kept}
use Rattle.pw_world_state.specs.NextSteps.{closed_held}
use Rattle.pw_world_state.specs.TerminalTests.{closing, end_held, flies, seat_at}
use Rattle.pw_laws.specs.legal.Values.{some_with}
use Rattle.pw_laws.specs.legal.Verbs.{asks_drop, asks_end}
use Rattle.pw_pair.specs.Pairs.{passes}
use Rattle.pw_pair.specs.Seats.{holds_end}
use Rattle.pw_tcp.specs.NextStep.{ends_unit}
use Rattle.pw_entry_tests.specs.Images.{behind_end}
use Rattle.pw_entry_tests.proofs.Ends.{drop-behind, end-behind}

-- where a test fails
shut : (calm a b : Bool) → ((calm && false) && a) ≡ ((calm && false) && b)
shut true a b = refl
shut false a b = refl

module _ (system : System) (kept : Kept) (t : ℕ) (context : Context) where
  -- the backup holds the context behind the end
  abbrev held : Bool
  held = passes (holds_end (image_of (behind_end context))) (seat_at system kept t)

  end-held : verb_in system context ≡ verb.End → held ≡ end_held system kept t answer.Ended context
  end-held e = ap (λ one. passes (holds_end (image_of one)) (seat_at system kept t)) (sym (end-behind system context answer.Ended e))

  drop-held : verb_in system context ≡ verb.Drop → held ≡ end_held system kept t answer.Dropped context
  drop-held e = ap (λ one. passes (holds_end (image_of one)) (seat_at system kept t)) (sym (drop-behind system context answer.Dropped e))

  abbrev wanted : Answer → Bool
  wanted a = not (end_held system kept t a context) && not (flies system kept t)

  check-at : (v : Verb) → verb_in system context ≡ v
      → (is_some (closing v) && (not held && not (flies system kept t))) ≡ some_with wanted (closing v)
  check-at verb.End e = ap (λ b. not b && not (flies system kept t)) (end-held e)
  check-at verb.Drop e = ap (λ b. not b && not (flies system kept t)) (drop-held e)
  check-at verb.Show e = refl
  check-at (verb.Accept screen) e = refl
  check-at verb.Begin e = refl
  check-at (verb.Send class message) e = refl
  check-at verb.Redo e = refl
  check-at verb.Stop e = refl
  check-at (verb.Fault code) e = refl
  check-at (verb.File call) e = refl
  check-at (verb.Reply reply) e = refl

  pub check-end-same : (v : Verb) → v ≡ verb_in system context
      → (is_some (closing v) && (not (passes (holds_end (image_of (behind_end context))) (seat_at system kept t)) && not (flies system kept t)))
      ≡ some_with (λ a. not (end_held system kept t a context) && not (flies system kept t)) (closing (verb_in system context))
  check-end-same v e = check-at v (sym e) ∙ ap (λ w. some_with wanted (closing w)) e

  -- the end that the step depends on
  module _ (calm : Bool) where
    abbrev closed : Verb → Bool
    closed v = some_with (λ a. end_held system kept t a context) (closing v)

    closed-at : (v : Verb) → verb_in system context ≡ v → ((calm && ends_unit v) && held) ≡ ((calm && ends_unit v) && closed v)
    closed-at verb.End e = ap (λ b. (calm && true) && b) (end-held e)
    closed-at verb.Drop e = ap (λ b. (calm && true) && b) (drop-held e)
    closed-at verb.Show e = shut calm _ _
    closed-at (verb.Accept screen) e = shut calm _ _
    closed-at verb.Begin e = shut calm _ _
    closed-at (verb.Send class message) e = shut calm _ _
    closed-at verb.Redo e = shut calm _ _
    closed-at verb.Stop e = shut calm _ _
    closed-at (verb.Fault code) e = shut calm _ _
    closed-at (verb.File call) e = shut calm _ _
    closed-at (verb.Reply reply) e = shut calm _ _

    pub closed-same : (v : Verb) → v ≡ verb_in system context
        → ((calm && ends_unit v) && passes (holds_end (image_of (behind_end context))) (seat_at system kept t))
        ≡ ((calm && ends_unit v) && closed_held system kept t context)
    closed-same v e = closed-at v (sym e) ∙ ap (λ w. (calm && ends_unit v) && closed w) e

  module _ (n : ℕ) where
    commit-at : (v : Verb) → verb_in system context ≡ v
        → (asks_end v && (n == unit_in context && held)) ≡ (asks_end v && (n == unit_in context && end_held system kept t answer.Ended context))
    commit-at verb.End e = ap (λ b. n == unit_in context && b) (end-held e)
    commit-at verb.Drop e = refl
    commit-at verb.Show e = refl
    commit-at (verb.Accept screen) e = refl
    commit-at verb.Begin e = refl
    commit-at (verb.Send class message) e = refl
    commit-at verb.Redo e = refl
    commit-at verb.Stop e = refl
    commit-at (verb.Fault code) e = refl
    commit-at (verb.File call) e = refl
    commit-at (verb.Reply reply) e = refl

    back-at : (v : Verb) → verb_in system context ≡ v
        → (asks_drop v && (n == unit_in context && held)) ≡ (asks_drop v && (n == unit_in context && end_held system kept t answer.Dropped context))
    back-at verb.Drop e = ap (λ b. n == unit_in context && b) (drop-held e)
    back-at verb.End e = refl
    back-at verb.Show e = refl
    back-at (verb.Accept screen) e = refl
    back-at verb.Begin e = refl
    back-at (verb.Send class message) e = refl
    back-at verb.Redo e = refl
    back-at verb.Stop e = refl
    back-at (verb.Fault code) e = refl
    back-at (verb.File call) e = refl
    back-at (verb.Reply reply) e = refl

    pub commit-same : (v : Verb) → v ≡ verb_in system context
        → (asks_end v && (n == unit_in context && passes (holds_end (image_of (behind_end context))) (seat_at system kept t)))
        ≡ (asks_end (verb_in system context) && (n == unit_in context && end_held system kept t answer.Ended context))
    commit-same v e = commit-at v (sym e) ∙ ap (λ w. asks_end w && (n == unit_in context && end_held system kept t answer.Ended context)) e

    pub back-same : (v : Verb) → v ≡ verb_in system context
        → (asks_drop v && (n == unit_in context && passes (holds_end (image_of (behind_end context))) (seat_at system kept t)))
        ≡ (asks_drop (verb_in system context) && (n == unit_in context && end_held system kept t answer.Dropped context))
    back-same v e = back-at v (sym e) ∙ ap (λ w. asks_drop w && (n == unit_in context && end_held system kept t answer.Dropped context)) e
