use Rattle.pw_forms.proofs.operands.key_place.Goals as goal

pub returns-clause-place : goal.returns-clause-place
returns-clause-place c = c.place_in.ensures.place
