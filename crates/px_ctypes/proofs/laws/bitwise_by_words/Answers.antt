use Rattle.px_ctypes.proofs.WrapLaws.{word_below}
use Rattle.px_ctypes.proofs.ResultLaws.{word-and, word-or, word-xor, word-not}
use Rattle.px_ctypes.proofs.laws.bitwise_by_words.Goals as goal

pub returns-clause-small : goal.returns-clause-small
returns-clause-small c = word_below

pub returns-clause-and : goal.returns-clause-and
returns-clause-and c = word-and

pub returns-clause-or : goal.returns-clause-or
returns-clause-or c = word-or

pub returns-clause-xor : goal.returns-clause-xor
returns-clause-xor c = word-xor

pub returns-clause-not : goal.returns-clause-not
returns-clause-not c = word-not
