-- The code's calls and questions as the definitions have them.
use Rattle.machine.specs.Plain.{Call, add, shorten_last}
use Rattle.replay_format.specs.declared.Call.{Call as ReadCall}
use Rattle.replay_format.specs.declared.Call.TheVariants.{Add, ShortenLast}
use Rattle.replay_format.specs.declared.Question.{Question as ReadQuestion}
use Rattle.replay_format.specs.declared.Question.TheVariants.{ById, ByOrdinal, ByKey, AddressByKey, SeparatorOf, MarkOf}
use Rattle.replay_format.specs.Format.{Question, by_id, by_ordinal, by_key, address_by_key, separator_of, mark_of}

abbrev pub call_of : ReadCall → Call
call_of (Add key block) = add key.now block
call_of (ShortenLast next) = shorten_last next.now

abbrev pub question_of : ReadQuestion → Question
question_of (ById id) = by_id id
question_of (ByOrdinal ord) = by_ordinal ord
question_of (ByKey key) = by_key key.now
question_of (AddressByKey key) = address_by_key key.now
question_of (SeparatorOf id) = separator_of id
question_of (MarkOf block automaton) = mark_of block automaton.now
