-- A behaviour over other records is one that a deck may have.
use Rattle.std.proofs.Common.{◌≡◌, ℕ, zero, suc, List, [], ◌∷◌, ◌++◌, refl, sym, subst}
use Rattle.pw_code.specs.declared.verb.Verb.{Verb}
use Rattle.pw_code.specs.declared.verb.Verb.TheVariants as verb
use Rattle.pw_files.specs.Records.{IsFile}
use Rattle.pw_onecopy.specs.Behaviour.{Behaviour}
use Rattle.pw_onecopy.specs.IsBehaviour.{AddsUp, ComesTo, IsBehaviour, IsPath, Suits, SuitsFrom}
use Rattle.pw_onecopy.specs.Path.{PathAnswer, Shown, Entry, Begun, Replied, Failed, Ended, Dropped}
use Rattle.pw_onecopy.specs.Play.{Play, play_after, play_operation}
use Rattle.pw_records.specs.Records.{over_records}

module _ (sys : Behaviour) (records : ℕ → List (List ℕ)) where
  abbrev over : Behaviour
  over = over_records sys records

  -- ---- paths

  suits : (t : ℕ) (path : List PathAnswer) (asked : Verb) (answer : PathAnswer) → Suits over t path asked answer → Suits sys t path asked answer
  suits t path verb.Show Shown h = h
  suits t path verb.Show (Entry k) h = h
  suits t path verb.Show (Begun r) h = h
  suits t path verb.Show (Replied reply) h = h
  suits t path verb.Show (Failed code) h = h
  suits t path verb.Show Ended h = h
  suits t path verb.Show Dropped h = h
  suits t path (verb.Accept screen) Shown h = h
  suits t path (verb.Accept screen) (Entry k) h = h
  suits t path (verb.Accept screen) (Begun r) h = h
  suits t path (verb.Accept screen) (Replied reply) h = h
  suits t path (verb.Accept screen) (Failed code) h = h
  suits t path (verb.Accept screen) Ended h = h
  suits t path (verb.Accept screen) Dropped h = h
  suits t path verb.Begin Shown h = h
  suits t path verb.Begin (Entry k) h = h
  suits t path verb.Begin (Begun r) h = h
  suits t path verb.Begin (Replied reply) h = h
  suits t path verb.Begin (Failed code) h = h
  suits t path verb.Begin Ended h = h
  suits t path verb.Begin Dropped h = h
  suits t path (verb.Send class message) Shown h = h
  suits t path (verb.Send class message) (Entry k) h = h
  suits t path (verb.Send class message) (Begun r) h = h
  suits t path (verb.Send class message) (Replied reply) h = h
  suits t path (verb.Send class message) (Failed code) h = h
  suits t path (verb.Send class message) Ended h = h
  suits t path (verb.Send class message) Dropped h = h
  suits t path verb.End Shown h = h
  suits t path verb.End (Entry k) h = h
  suits t path verb.End (Begun r) h = h
  suits t path verb.End (Replied reply) h = h
  suits t path verb.End (Failed code) h = h
  suits t path verb.End Ended h = h
  suits t path verb.End Dropped h = h
  suits t path verb.Drop Shown h = h
  suits t path verb.Drop (Entry k) h = h
  suits t path verb.Drop (Begun r) h = h
  suits t path verb.Drop (Replied reply) h = h
  suits t path verb.Drop (Failed code) h = h
  suits t path verb.Drop Ended h = h
  suits t path verb.Drop Dropped h = h
  suits t path verb.Redo Shown h = h
  suits t path verb.Redo (Entry k) h = h
  suits t path verb.Redo (Begun r) h = h
  suits t path verb.Redo (Replied reply) h = h
  suits t path verb.Redo (Failed code) h = h
  suits t path verb.Redo Ended h = h
  suits t path verb.Redo Dropped h = h
  suits t path verb.Stop Shown h = h
  suits t path verb.Stop (Entry k) h = h
  suits t path verb.Stop (Begun r) h = h
  suits t path verb.Stop (Replied reply) h = h
  suits t path verb.Stop (Failed code) h = h
  suits t path verb.Stop Ended h = h
  suits t path verb.Stop Dropped h = h
  suits t path (verb.Fault fault) Shown h = h
  suits t path (verb.Fault fault) (Entry k) h = h
  suits t path (verb.Fault fault) (Begun r) h = h
  suits t path (verb.Fault fault) (Replied reply) h = h
  suits t path (verb.Fault fault) (Failed code) h = h
  suits t path (verb.Fault fault) Ended h = h
  suits t path (verb.Fault fault) Dropped h = h
  suits t path (verb.File call) Shown h = h
  suits t path (verb.File call) (Entry k) h = h
  suits t path (verb.File call) (Begun r) h = h
  suits t path (verb.File call) (Replied reply) h = h
  suits t path (verb.File call) (Failed code) h = h
  suits t path (verb.File call) Ended h = h
  suits t path (verb.File call) Dropped h = h
  suits t path (verb.Reply own) Shown h = h
  suits t path (verb.Reply own) (Entry k) h = h
  suits t path (verb.Reply own) (Begun r) h = h
  suits t path (verb.Reply own) (Replied reply) h = h
  suits t path (verb.Reply own) (Failed code) h = h
  suits t path (verb.Reply own) Ended h = h
  suits t path (verb.Reply own) Dropped h = h

  suits-from : (t : ℕ) (before path : List PathAnswer) → SuitsFrom over t before path → SuitsFrom sys t before path
  suits-from t before [] h = tt
  suits-from t before (answer ∷ path) h = (suits t before (sys.ask t before) answer h.0, suits-from t (before ++ answer ∷ []) path h.1)

  is-path : (t : ℕ) (path : List PathAnswer) → IsPath over t path → IsPath sys t path
  is-path t path h = record { known = h.known; suits = suits-from t [] path h.suits }

  -- ---- servers

  play-step : (asked : Verb) (at : Play) → play_operation over asked at ≡ play_operation sys asked at
  play-step verb.Show at = refl
  play-step (verb.Accept screen) at = refl
  play-step verb.Begin at = refl
  play-step (verb.Send class message) at = refl
  play-step verb.End at = refl
  play-step verb.Drop at = refl
  play-step verb.Redo at = refl
  play-step verb.Stop at = refl
  play-step (verb.Fault fault) at = refl
  play-step (verb.File call) at = refl
  play-step (verb.Reply own) at = refl

  play-same : (c : ℕ) (message : List ℕ) (files : ℕ → List (List ℕ)) (n : ℕ) → play_after over c message files n ≡ play_after sys c message files n
  play-same c message files zero = refl
  play-same c message files (suc n) = λ i.
      play-step (sys.ops c message (play-same c message files n i).done) (play-same c message files n i) i

  adds-up : (c : ℕ) (message : List ℕ) (files : ℕ → List (List ℕ)) → AddsUp sys c message files → AddsUp over c message files
  adds-up c message files h = record {
    operations = h.operations;
    comes =
        subst (λ (at : Play). ComesTo (sys.serve c message files) (sys.ops c message at.done) at.files)
        (sym (play-same c message files h.operations)) h.comes;
  }

  pub behaves-over : IsBehaviour sys → ((f : ℕ) → IsFile (sys.key_length f) (records f)) → IsBehaviour over
  behaves-over b are = record {
    pairs = b.pairs;
    asks = λ t path h. b.asks t path (is-path t path h);
    begins = λ t path h. b.begins t path (is-path t path h);
    stops = λ t path h. b.stops t path (is-path t path h);
    ends = λ t path h. b.ends t path (is-path t path h);
    drops = λ t path h. b.drops t path (is-path t path h);
    redoes = λ t path h. b.redoes t path (is-path t path h);
    fails = λ t c x message path h. b.fails t c x message path (is-path t path h);
    sends = λ t c message path h. b.sends t c message path (is-path t path h);
    staffed = b.staffed;
    calls = b.calls;
    keys = b.keys;
    writes = b.writes;
    adds_up = λ c message files there h. adds-up c message files (b.adds_up c message files there h);
    files = are;
  }
