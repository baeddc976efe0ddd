-- What is enough for each unit to keep an invariant.
use Rattle.std.proofs.Common.{◌≡◌, ℕ, zero, suc, ◌<◌, List, refl, sym, subst, ◌∙◌}
use Rattle.pw_code.specs.declared.verb.Verb.{Verb}
use Rattle.pw_code.specs.declared.verb.Verb.TheVariants as verb
use Rattle.pw_invariants.specs.Invariants.{KeepsInvariant}
use Rattle.pw_invariants.specs.Servers.{OperationsKeep, ServersKeep}
use Rattle.pw_invariants.specs.Units.{FileRecords}
use Rattle.pw_laws.proofs.AttemptFiles.{attempt-fine}
use Rattle.pw_laws.proofs.seeing.Plays.{ServerWrites-behaviour, played_files}
use Rattle.pw_laws.specs.locking.Seen.{AreFiles}
use Rattle.pw_onecopy.specs.Attempt.{Attempt, IsAttempt, answer_verb, attempt, attempt_with_served}
use Rattle.pw_onecopy.specs.Behaviour.{Behaviour, Served, Reply, Fault}
use Rattle.pw_onecopy.specs.IsBehaviour.{AddsUp, ComesTo, IsBehaviour, IsPath}
use Rattle.pw_onecopy.specs.Path.{PathAnswer}
use Rattle.pw_onecopy.specs.Play.{Play, play_after, play_operation}

module _ (sys : Behaviour) (b : IsBehaviour sys) (holds : FileRecords → Type 0) where
  module _ (servers : ServersKeep sys holds) where
    -- behind a SEND
    sent-keeps : (c : ℕ) (message : List ℕ) (at : Attempt) (sv : Served) → sys.serve c message at.files ≡ sv → c < sys.classes → AreFiles sys at.files
        → holds at.files → holds (attempt_with_served sv at).files
    sent-keeps c message at (Reply reply left) is known are now = servers c message reply at.files left known are is now
    sent-keeps c message at (Fault x) is known are now = now

    -- behind an answer
    answer-keeps : (t r : ℕ) (records : FileRecords) (at : Attempt) (v : Verb) → sys.ask t at.path ≡ v → IsPath sys t at.path → AreFiles sys at.files
        → holds records → holds at.files → holds (answer_verb sys t r records v at).files
    answer-keeps t r records at verb.Begin asks path are first now = now
    answer-keeps t r records at verb.Show asks path are first now = now
    answer-keeps t r records at (verb.Accept screen) asks path are first now = now
    answer-keeps t r records at (verb.Send c message) asks path are first now =
        sent-keeps c message at (sys.serve c message at.files) refl (b.sends t c message at.path path asks) are now
    answer-keeps t r records at verb.End asks path are first now = now
    answer-keeps t r records at verb.Drop asks path are first now = first
    answer-keeps t r records at verb.Redo asks path are first now = now
    answer-keeps t r records at verb.Stop asks path are first now = now
    answer-keeps t r records at (verb.Fault x) asks path are first now = now
    answer-keeps t r records at (verb.File call) asks path are first now = now
    answer-keeps t r records at (verb.Reply reply) asks path are first now = now

    -- along an attempt
    attempt-keeps : (t r : ℕ) (start : List PathAnswer) (records : FileRecords) → IsPath sys t start → AreFiles sys records → (j : ℕ) → IsAttempt sys t start records r j
        → holds records → holds (attempt sys t start records r j).files
    attempt-keeps t r start records path are zero is first = first
    attempt-keeps t r start records path are (suc j) is first =
        let at : Attempt = attempt sys t start records r j in
        let fine = attempt-fine sys b t start r path records are j is.0 in
        answer-keeps t r records at (sys.ask t at.path) refl fine.is_path fine.are_files first (attempt-keeps t r start records path are j is.0 first)

    pub servers-keep : KeepsInvariant sys holds
    servers-keep unit records left alone first =
        subst holds (sym alone.leaves)
        (attempt-keeps unit.terminal alone.restarts unit.start records alone.is_path alone.are_files alone.answers alone.is_attempt first)

  module _ (operations : OperationsKeep sys holds) where
    -- behind a verb of a server
    operation-keeps : (c : ℕ) (message : List ℕ) (at : Play) (v : Verb) → sys.ops c message at.done ≡ v → c < sys.classes → AreFiles sys at.files
        → holds at.files → holds (play_operation sys v at).files
    operation-keeps c message at (verb.File call) is known are now = operations c message at.done call at.files known are is now
    operation-keeps c message at verb.Show is known are now = now
    operation-keeps c message at (verb.Accept screen) is known are now = now
    operation-keeps c message at verb.Begin is known are now = now
    operation-keeps c message at (verb.Send class sent) is known are now = now
    operation-keeps c message at verb.End is known are now = now
    operation-keeps c message at verb.Drop is known are now = now
    operation-keeps c message at verb.Redo is known are now = now
    operation-keeps c message at verb.Stop is known are now = now
    operation-keeps c message at (verb.Fault x) is known are now = now
    operation-keeps c message at (verb.Reply reply) is known are now = now

    -- behind n operations
    play-keeps : (c : ℕ) (message : List ℕ) (records : FileRecords) → c < sys.classes → AreFiles sys records → (n : ℕ)
        → holds records → holds (play_after sys c message records n).files
    play-keeps c message records known are zero first = first
    play-keeps c message records known are (suc n) first =
        let at : Play = play_after sys c message records n in
        operation-keeps c message at (sys.ops c message at.done) refl known
        (played_files sys c message (ServerWrites-behaviour sys b c message known) records are n)
        (play-keeps c message records known are n first)

    -- what a server leaves that replies is what its operations leave
    reply-leaves : (sv : Served) (v : Verb) (files left : FileRecords) (reply : List ℕ) → ComesTo sv v files → sv ≡ Reply reply left → files ≡ left
    reply-leaves (Reply own own_left) (verb.Reply said) files left reply comes is = let same : own_left ≡ left = cc is in comes.1 ∙ same
    reply-leaves (Fault x) (verb.Fault said) files left reply comes is = absurd (cc is)
    reply-leaves _ _ files left reply comes is = absurd comes

    pub operations-keep : ServersKeep sys holds
    operations-keep c message reply records left known are is first =
        let adds : AddsUp sys c message records = b.adds_up c message records known are in
        let at : Play = play_after sys c message records adds.operations in
        subst holds (reply-leaves (sys.serve c message records) (sys.ops c message at.done) at.files left reply adds.comes is)
        (play-keeps c message records known are adds.operations first)
