-- The image format.
use Rattle.std.specs.Prelude.{◌≡◌, List, ℕ}
use Rattle.pw_code.specs.declared.context.Context.{Context}
use Rattle.pw_image.specs.Image.{HasImage, image_of}
use Rattle.pw_image.specs.Values.{HasValues}

-- the bytes are the image of the context
pub record IsImageOf (bytes : List ℕ) (context : Context) : Type 0 where
  pub has_image : HasImage context
  pub has_values : HasValues context
  pub is : bytes ≡ image_of context
