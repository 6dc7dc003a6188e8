-- Strings that leave a key at a place, and the first accepted string of an interval, kept as one of them.
use Rattle.std.specs.Prelude.{ℕ, ◌+◌, ◌-◌, ◌^◌, ◌≤◌, ◌<◌, ◌≡◌, List, ◌∷◌, ◌++◌, length, take, get_or, Option, None, Some}
use Rattle.std.proofs.lemmas.List.Edits.{sets}
use Rattle.keys.specs.Order.{◌≺◌, ◌≼◌}
use Rattle.automaton.specs.Table.{states, next}
use Rattle.automaton.specs.Words.{run, Hits}
use Rattle.example_leaving.specs.First.{FirstIn}
use Rattle.example_leaving.specs.declared.Leaving.{Leaving}

-- an accepted string that isn't below a, and is below b
pub record AcceptedBetween (t a b v : List ℕ) : Type 0 where
  pub hits : Hits t 0 v
  pub from-a : a ≼ v
  pub below-b : v ≺ b

-- of the bytes from lo on and below hi the lowest that leads from s to a state of least distance; or none leads to one that can match
pub record NearestByte (t d : List ℕ) (s lo hi byte : ℕ) : Type 0 where
  pub from-lo : lo ≤ byte
  pub below-hi : byte < hi
  pub near : get_or d (next t s byte) 0 < 64
  pub least : (b : ℕ) → lo ≤ b → b < hi → get_or d (next t s byte) 0 ≤ get_or d (next t s b) 0
  pub lowest : (b : ℕ) → lo ≤ b → b < byte → get_or d (next t s byte) 0 < get_or d (next t s b) 0

abbrev pub NearestByteOf : (t d : List ℕ) (s lo hi : ℕ) → Option ℕ → Type 0
NearestByteOf t d s lo hi None = (b : ℕ) → lo ≤ b → b < hi → 64 ≤ get_or d (next t s b) 0
NearestByteOf t d s lo hi (Some byte) = NearestByte t d s lo hi byte

-- no string: no place of a byte is as high
abbrev pub no_place : ℕ
no_place = 2 ^ 64 - 1

-- the string with this tail behind the byte
abbrev pub string_with : Leaving → List ℕ → List ℕ
string_with c tail = take c.place c.key.now ++ (c.byte ∷ tail)

-- the key's first bytes and the byte lead to the state, and the last place is that of a shortest string
pub record LeavesTo (t d : List ℕ) (c : Leaving) : Type 0 where
  pub inside : c.place ≤ length c.key.now
  pub byte-fits : c.byte < 256
  pub led : c.state ≡ next t (run t 0 (take c.place c.key.now)) c.byte
  pub small : c.state < states t
  pub near : get_or d c.state 0 < 64
  pub whole : c.last ≡ c.place + get_or d c.state 0

-- with the first of all strings from its state to acceptance behind the byte, c is the first accepted string from a on and below b; or
-- there is none
pub record FirstBetween (t d a b : List ℕ) (c : Leaving) : Type 0 where
  pub least : (v : List ℕ) → AcceptedBetween t a b v → (c.last < no_place) × (c.last < length v)
  pub leads : c.last < no_place → LeavesTo t d c
  pub first : c.last < no_place → (tail : List ℕ) → FirstIn (Hits t c.state) tail → FirstIn (AcceptedBetween t a b) (string_with c tail)

-- the lowest byte that leads from s to a state one nearer
pub record Nearer (t d : List ℕ) (s byte : ℕ) : Type 0 where
  pub one : get_or d (next t s byte) 0 + 1 ≡ get_or d s 0
  pub lowest : (b : ℕ) → b < byte → get_or d s 0 ≤ get_or d (next t s b) 0

-- the first of all strings from s to acceptance stands in the output from `at` on
pub record TailPut (t : List ℕ) (s at : ℕ) (old new : List ℕ) : Type 0 where
  pub tail : List ℕ
  pub is-first : FirstIn (Hits t s) tail
  pub put : new ≡ sets old at tail

-- what writing a string leaves, and the length it returns
pub record StringPut (t : List ℕ) (c : Leaving) (old new : List ℕ) (len : ℕ) : Type 0 where
  pub tail : List ℕ
  pub is-first : FirstIn (Hits t c.state) tail
  pub put : new ≡ sets old 0 (string_with c tail)
  pub whole : len ≡ length (string_with c tail)
