use Rattle.pw_code.proofs.Uppers.{name_by}
use Rattle.pw_code.proofs.names.may_name.Goals as goal

pub returns-then-word-le-MAX_NAME : goal.returns-then-word-le-MAX_NAME
returns-then-word-le-MAX_NAME c = name_by c.args.word.now c.are_name_bytes.result c.if-begins_with_letter.ensures c.if-word-le-MAX_NAME.true c.are_name_bytes.ensures
