use Rattle.std.proofs.Common.{◌≡◌, ◌∙◌, ℕ, zero, suc, List, [], ◌∷◌, ap, refl}
use Rattle.std.specs.Prelude.{slice_get, slice_index_or}
use Rattle.std.proofs.Math.Path.{fun_ext}
use Rattle.pw_code.specs.declared.system.TermInfo.{TermInfo}
use Rattle.pw_event.specs.Due.{owner_of}
use Rattle.pw_event.specs.Line.{no_terminal}
use Rattle.pw_code_meaning.specs.OfSystem.{number_by}
use Rattle.pw_world.proofs.actors.owner_of.Goals as goal

-- the pair of a terminal, and the first one where it is not there
pair-is : (terminals : List TermInfo) (t : ℕ) → (slice_index_or terminals t no_terminal).tcp ≡ number_by (λ info. info.tcp) (slice_get terminals t)
pair-is [] t = refl
pair-is (info ∷ terminals) zero = refl
pair-is (info ∷ terminals) (suc t) = pair-is terminals t

pub returns : goal.returns
returns c = c.owner_of.ensures ∙ ap (λ (pair_of : ℕ → ℕ). owner_of pair_of c.args.event.now) (fun_ext (pair-is c.args.system.now.terminals))
