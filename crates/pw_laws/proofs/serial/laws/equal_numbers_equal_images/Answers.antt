use Rattle.pw_laws.proofs.blocks.Images.{equal-numbers-equal-images}
use Rattle.pw_laws.proofs.serial.laws.equal_numbers_equal_images.Goals as goal

pub returns : goal.returns
returns c = equal-numbers-equal-images
