-- The number of the exported interface: one more with each landing that adds or changes a function, or changes the opened record.
use Rattle.std.specs.Prelude.{ℕ}

abbrev pub interface : ℕ
interface = 5
