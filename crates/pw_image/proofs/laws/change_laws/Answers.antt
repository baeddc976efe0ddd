-- The laws of records that changed.
use Rattle.pw_image.proofs.Patching as patching
use Rattle.pw_image.proofs.laws.change_laws.Goals as goal

pub returns-clause-patch : goal.returns-clause-patch
returns-clause-patch c = patching.patch

pub returns-clause-within : goal.returns-clause-within
returns-clause-within c = patching.within

pub returns-clause-rising : goal.returns-clause-rising
returns-clause-rising c = patching.rising

pub returns-clause-none : goal.returns-clause-none
returns-clause-none c = patching.none
