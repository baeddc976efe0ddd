use Rattle.pw_program_laws.proofs.requests.Units.{deck-requests}
use Rattle.pw_program_laws.proofs.requests.requests_are_as_statements_meet.Goals as goal

pub returns : goal.returns
returns g c = λ rule deck sound sizes met unit records left alone.
    deck-requests rule deck sound (c.deck_laws.ensures rule deck sound) g.F.RequestsFact.holds sizes met unit records left alone
