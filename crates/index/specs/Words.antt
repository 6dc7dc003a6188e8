-- The opened record as nine numbers, and back.
use Rattle.std.specs.Prelude.{ℕ, List, [], ◌∷◌, get_or}
use Rattle.index.specs.declared.SSTableIndexV3.{SSTableIndexV3}

-- the record's nine numbers in their order (SPECIFICATION 20.4)
abbrev pub opened_words : SSTableIndexV3 → List ℕ
opened_words o =
    o.n ∷ o.directory ∷ o.directory_len ∷ o.metas ∷ o.metas_len ∷ o.addrs ∷ o.addrs_len ∷ o.terms ∷ o.version ∷ []

abbrev pub opened_at : List ℕ → SSTableIndexV3
opened_at w = record {
  n = get_or w 0 0;
  directory = get_or w 1 0;
  directory_len = get_or w 2 0;
  metas = get_or w 3 0;
  metas_len = get_or w 4 0;
  addrs = get_or w 5 0;
  addrs_len = get_or w 6 0;
  terms = get_or w 7 0;
  version = get_or w 8 0;
}
