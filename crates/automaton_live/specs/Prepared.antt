-- What the walks have of a table beside its bytes.
use Rattle.std.specs.Prelude.{ℕ, ◌≡◌, List}
use Rattle.automaton.specs.Words.{Reach}
use Rattle.automaton.specs.Live.{Firsts, Ends}
use Rattle.automaton_live.specs.declared.Prepared.{Prepared}

-- the word of the states that can match in the table t; the lowest and the highest byte that leads on, for the states asked for so far
pub record IsPrepared (t : List ℕ) (p : Prepared) : Type 0 where
  pub same : p.table.bytes.now ≡ t
  pub found : Reach t p.reach
  pub lowest : Firsts t p.firsts
  pub highest : Ends t p.ends

-- what a search for the lowest byte asks for of it
pub record FirstsReady (t : List ℕ) (p : Prepared) : Type 0 where
  pub same : p.table.bytes.now ≡ t
  pub found : Reach t p.reach
  pub lowest : Firsts t p.firsts

-- and one for the highest
pub record EndsReady (t : List ℕ) (p : Prepared) : Type 0 where
  pub same : p.table.bytes.now ≡ t
  pub found : Reach t p.reach
  pub highest : Ends t p.ends
