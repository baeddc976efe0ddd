-- The names of USING.
use Rattle.std.specs.Prelude.{◌≡◌, true, find, Some}
use Rattle.pw_words.specs.Words.{Word}
use Rattle.pw_data.specs.declared.item.Item.{Item}
use Rattle.pw_data.specs.Names.{is_this_name}
use Rattle.pw_data.specs.Layouts.{Laid}

-- the name is that of a level-01 item of LINKAGE SECTION
pub record IsParameter (layout : Laid) (name : Word) : Type 0 where
  pub item : Item
  pub found : find (λ item. is_this_name item.name name) layout.items ≡ Some item
  pub level : item.level ≡ 1
  pub linked : item.linked ≡ true
