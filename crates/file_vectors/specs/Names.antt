-- What a file's name says.
use Rattle.std.specs.Prelude.{ℕ, List, [], ◌∷◌, cond, nat_eq}
use Rattle.std.specs.List.{starts_with}

-- the version that the file is read with: 4 where its name begins with `v4-`
abbrev pub version_of : List ℕ → ℕ
version_of name = cond (starts_with nat_eq name (118 ∷ 52 ∷ 45 ∷ [])) 4 3
