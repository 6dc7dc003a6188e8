-- What a line says of itself.
use Rattle.std.specs.Prelude.{ℕ, ◌≡◌, ◌≤◌, ◌<◌, List, [], ◌∷◌, get_or, length}
use Rattle.case_text.specs.declared.Line.{Line}
use Rattle.case_text.specs.declared.Line.TheVariants.{Comment, Case, Bad}

-- a comment begins with `#`, a case with its kind
abbrev pub BeginsWith : List ℕ → Line → Type 0
BeginsWith [] Comment = ⊥
BeginsWith (b ∷ bs) Comment = b ≡ 35
BeginsWith [] (Case c) = ⊥
BeginsWith (b ∷ bs) (Case c) = c.kind ≡ b
BeginsWith bs Bad = Unit {0}

-- a case holds at most so many numbers, bytes and byte strings
abbrev pub FitsInto : ℕ → ℕ → ℕ → Line → Type 0
FitsInto numbers bytes strings Comment = Unit {0}
FitsInto numbers bytes strings (Case c) =
    (length c.numbers.now ≤ numbers) × (length c.bytes.now ≤ bytes) × (length c.spans.now ≤ strings)
FitsInto numbers bytes strings Bad = Unit {0}

-- one decimal digit or more, and nothing else
abbrev pub Digits : List ℕ → Type 0
Digits token = (0 < length token) × ((k : ℕ) → k < length token → (48 ≤ get_or token k 0) × (get_or token k 0 ≤ 57))
