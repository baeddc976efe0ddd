use Rattle.std.proofs.Common.{◌≡◌, List, Option, Some, sym, subst}
use Rattle.pw_base.specs.First.{Gives}
use Rattle.pw_code.specs.declared.system.System.{System}
use Rattle.pw_event.specs.declared.event.Event.{Event}
use Rattle.pw_deck_tables.proofs.Settled.{settled_is}
use Rattle.pw_deck_tables.specs.Pieces.{DeckPieceModel}
use Rattle.pw_deck_tables.specs.Unknown.{events_in}
use Rattle.pw_deck_tables.proofs.unknown.events_in.Goals as goal

pub returns-in_ok-names-in-Some : goal.returns-in_ok-names-in-Some
returns-in_ok-names-in-Some c =
    let piece : DeckPieceModel = record { bytes = c.piece.inside.bytes.now; first_line = c.piece.inside.first_line } in
    let same : c.args.piece.now ≡ Some piece = cc in
    let P : System → Option DeckPieceModel → Type 0 = λ s p. Gives (λ (a : List Event). a) c.events.result (events_in s p) in
    settled_is c.events.result (events_in c.args.system.now c.args.piece.now) c.settled.result c.settled.ensures
    (subst (λ p. P c.args.system.now p) (sym same) (subst (λ s. P s (Some piece)) c.in_ok-names-in-Some.ensures c.events.ensures))
