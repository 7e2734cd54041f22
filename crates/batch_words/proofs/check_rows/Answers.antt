use Rattle.std.proofs.Common.{rules}
use Rattle.batch_words.specs.Clear.{records_clear}
use Rattle.batch_words.proofs.check_rows.Goals as goal

pub check_word_row-requires-clause-from_value : goal.check_word_row-requires-clause-from_value
check_word_row-requires-clause-from_value c = search (records_clear, rules)

pub check_word_row-requires-2-clause-from_value : goal.check_word_row-requires-2-clause-from_value
check_word_row-requires-2-clause-from_value c = search (records_clear, rules)

pub check_word_row-requires-3-clause-from_value : goal.check_word_row-requires-3-clause-from_value
check_word_row-requires-3-clause-from_value c = search (records_clear, rules)
