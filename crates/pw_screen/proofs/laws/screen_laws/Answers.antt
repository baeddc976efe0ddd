use Rattle.pw_screen.proofs.ApartLaws.{screens-apart}
use Rattle.pw_screen.proofs.laws.screen_laws.Goals as goal

pub returns : goal.returns
returns c = record { apart = screens-apart }
