-- The walk over a list's items: one more item is there, or none.
use Rattle.std.proofs.Common.{◌≡◌, ℕ, zero, suc, ◌+◌, ◌-◌, ◌≤◌, ◌<◌, List, false, length, Option, Some, refl, arith}
use Rattle.std.proofs.lemmas.Bool.Decides.{nat_tests}
use Rattle.replay_format.specs.Format.{question_len, behind, question_count, questions_from, head_bad, list_bad}
use Rattle.replay_format.specs.Tags.{IsItem}

cases_of : {P : Type 0} (n : ℕ) → (n ≡ 0 → P) → (0 < n → P) → P
cases_of zero z p = z refl
cases_of (suc n) z p = p (omega arith)

module _ (len : ℕ → ℕ) (at : ℕ) where
  pub behind_none : behind len at 0 ≡ at
  unfolding behind
  behind_none = refl

  -- one more item, as the code counts
  pub behind_next : (left : ℕ) → 0 < left → 0 < len at → behind len at left ≡ behind len (at + len at) (left - 1)
  unfolding behind
  behind_next zero h f = absurd (let z : ⊥ = omega arith in z)
  behind_next (suc k) h f = grind arith

  pub behind_missing : (left : ℕ) → 0 < left → len at ≡ 0 → behind len at left ≡ 0
  unfolding behind
  behind_missing zero h f = absurd (let z : ⊥ = omega arith in z)
  behind_missing (suc k) h f = grind arith

  -- while items are left, and none is missing, there is one
  pub behind_there : (left : ℕ) → 0 < left → (behind len at left ≡ 0 → ⊥) → 0 < len at
  behind_there left h f = cases_of (len at) (λ z. absurd (f (behind_missing left h z))) (λ p. p)

-- ---- the list

pub record ListOk (s : List ℕ) : Type 0 where
  pub head : head_bad s ≡ false
  pub calls_there : questions_from s ≡ 0 → ⊥
  pub ends : behind (question_len s) (questions_from s) (question_count s) ≡ length s

pub list_ok : (s : List ℕ) → list_bad s ≡ false → ListOk s
unfolding list_bad
list_ok s e = record {
  head = grind (arith, nat_tests, e);
  calls_there = λ z. grind (arith, nat_tests, e, z);
  ends = grind (arith, nat_tests, e);
}

-- an item's length that is there
pub item_some : (s : List ℕ) (at : ℕ) {r : Option ℕ} {n len : ℕ} → IsItem s at r n → r ≡ Some len
    → (len ≡ n) × (0 < n) × (at + n ≤ length s)
item_some s at h e = rw e at h
