-- Each lookup finds what is asked for, in the entries' index.
use Rattle.replay.proofs.Answers.{id_answer, ord_answer, key_answer, addr_answer}
use Rattle.replay.proofs.questions.Index.answer.Goals as goal

pub returns-in-ById : goal.returns-in-ById
returns-in-ById c = λ S terms es x. rw c.in-ById.is (id_answer x _ _ _ c.get_block.ensures c.answered.ensures)

pub returns-in-ByOrdinal : goal.returns-in-ByOrdinal
returns-in-ByOrdinal c = λ S terms es x. rw c.in-ByOrdinal.is (ord_answer x _ _ _ c.locate_with_ord.ensures c.answered-in-ByOrdinal.ensures)

pub returns-in-ByKey : goal.returns-in-ByKey
returns-in-ByKey c = λ S terms es x. rw c.in-ByKey.is (key_answer x _ _ _ c.locate_with_key.ensures c.answered-in-ByKey.ensures)

pub returns-in-AddressByKey : goal.returns-in-AddressByKey
returns-in-AddressByKey c = λ S terms es x.
    rw c.in-AddressByKey.is (addr_answer x _ _ _ c.get_block_with_key.ensures c.answered-in-AddressByKey.ensures)
