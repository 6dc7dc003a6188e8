-- What is kept of the groups' plans from planning to writing: two numbers a group, one group after the other.
use Rattle.std.specs.Prelude.{ℕ, zero, suc, ◌≡◌, List, [], ◌∷◌, ◌++◌, length, take, drop}
use Rattle.group.specs.declared.BlockAddr.{BlockAddr}
use Rattle.group.specs.Write.{meta_of, plan_of}

-- of one group
unfoldable pub group_plan : (List ℕ → ℕ) → List BlockAddr → List ℕ
group_plan choose [] = []
group_plan choose (b ∷ bs) = plan_of (meta_of choose 0 b bs)

-- of k groups
unfoldable pub plans : (List ℕ → ℕ) → ℕ → ℕ → List BlockAddr → List ℕ
plans choose L zero bs = []
plans choose L (suc k) bs = group_plan choose (take L bs) ++ plans choose L k (drop L bs)

-- w stands at place i of l
abbrev pub StandsAt : List ℕ → ℕ → List ℕ → Type 0
StandsAt l i w = take (length w) (drop i l) ≡ w
