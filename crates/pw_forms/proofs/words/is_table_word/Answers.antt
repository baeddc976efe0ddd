use Rattle.std.proofs.Common.{refl, sym}
use Rattle.pw_forms.proofs.words.is_table_word.Goals as goal

pub returns-else-may_be_table_word : goal.returns-else-may_be_table_word
returns-else-may_be_table_word c = sym (c.if-may_be_table_word.ensures refl c.args.server)
