-- What the divisions of a source are.
use Rattle.std.specs.Prelude.{List}
use Rattle.pw_text.specs.declared.token.Token.{Token}

-- The data division: the tokens of working storage and linkage with the headings of the two, and the entries of
-- LINKAGE SECTION and of SCREEN SECTION.
pub record DataDivision : Type 0 where
  pub stored : List Token
  pub linkage : List Token
  pub screens : List Token

-- The divisions of a source: the tokens of working storage and linkage with the headings of the two, the entries of
-- SCREEN SECTION, the names of USING, and the procedure.
pub record Divided : Type 0 where
  pub stored : List Token
  pub screens : List Token
  pub using_names : List Token
  pub procedure : List Token
