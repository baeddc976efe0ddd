use Rattle.std.proofs.Common.{ap, sym, ◌∙◌, refl}
use Rattle.pw_code_meaning.specs.OfSystem.{behaviour}
use Rattle.pw_pair.specs.Follows.{has_flights}
use Rattle.pw_world_state.proofs.Checked.{checked}
use Rattle.pw_world_state.proofs.Components.{pair-of}
use Rattle.pw_onecopy.specs.Path.{unit_number}
use Rattle.pw_paired.specs.Raising.{copied_path}
use Rattle.pw_paired.specs.State.{Start, End, Copy}
use Rattle.pw_paired.specs.Terminal.{closed_path, path_of}
use Rattle.pw_world_state.proofs.pairs.check_laws.Goals as goal

pub returns-clause-start : goal.returns-clause-start
returns-clause-start c system script state kept t terminal image stands here legal is_image =
    checked system script state kept t terminal (Start (unit_number (path_of state t)) (path_of state t)) (unit_number (path_of state t)) image stands here
    (ap (λ p. has_flights (state.modes p)) (sym (pair-of system script t terminal here)) ∙ ap has_flights legal.can.paired) refl is_image

pub returns-clause-end : goal.returns-clause-end
returns-clause-end c system script state kept t unit terminal image stands here legal is_image =
    checked system script state kept t terminal (End (closed_path (behaviour script system) state t)) unit image stands here
    (ap (λ p. has_flights (state.modes p)) (sym (pair-of system script t terminal here)) ∙ ap has_flights legal.can.paired) tt is_image

pub returns-clause-copy : goal.returns-clause-copy
returns-clause-copy c system script state kept t terminal image stands here legal is_image =
    checked system script state kept t terminal (Copy (unit_number (copied_path state t)) (copied_path state t)) (unit_number (copied_path state t)) image stands here
    (ap (λ p. has_flights (state.modes p)) (sym (pair-of system script t terminal here)) ∙ ap has_flights legal.raising) refl is_image
