-- An opened record as its nine numbers, read back.
use mathlib.Core.Path.{◌≡◌, refl}
use Rattle.index.specs.declared.SSTableIndexV3.{SSTableIndexV3}
use Rattle.index.specs.Words.{opened_words, opened_at}

pub words_back : (o : SSTableIndexV3) → opened_at (opened_words o) ≡ o
words_back o = refl
