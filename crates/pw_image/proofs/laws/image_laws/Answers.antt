-- The laws of images.
use Rattle.pw_image.proofs.ImageForms.{is-image, read-again}
use Rattle.pw_image.proofs.laws.image_laws.Goals as goal

pub returns-clause-again : goal.returns-clause-again
returns-clause-again c = read-again

pub returns-clause-only : goal.returns-clause-only
returns-clause-only c = is-image
