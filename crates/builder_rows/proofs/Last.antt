-- What the last separator, or that there is none, says of a key.
use Rattle.std.proofs.Common.{◌≡◌, ◌<◌, ℕ, Bool, false, List, ap, sym, ◌∙◌, arith}
use Rattle.std.specs.Prelude.{Option, None, Some, MatchOption, not}
use borrow.Author.Tests.{lt-ltb, le-ltb}
use Rattle.keys.specs.Order.{less, common_prefix_len}
use Rattle.builder.specs.View.{View}
use Rattle.builder.specs.Rows.{key_bad}
use Rattle.builder.specs.Area.{area_view}
use Rattle.builder.proofs.Views.{key-none}

-- what follows from two facts about one Option
pub both-ways : {A P R T : Type 0} {Q S : A → Type 0} (o : Option A) → MatchOption o P Q → MatchOption o R S → (P → R → T)
    → ((x : A) → Q x → S x → T) → T
both-ways None p r f g = f p r
both-ways (Some x) q s f g = g x q s

pub key-bad-none : (v : View) (key : List ℕ) → v.n ≡ 0 → false ≡ key_bad v key
unfolding key_bad
key-bad-none v key none = simp (le-ltb 0 v.n (omega arith))

pub key-bad-some : (v : View) (key last : List ℕ) (t : Bool) → (0 < v.n) × (last ≡ v.last_key) → t ≡ less last key → not t ≡ key_bad v key
unfolding key_bad
key-bad-some v key last t is e = rw (lt-ltb 0 v.n is.0, e, is.1)

-- how much a key has in common with the last separator where there is none: nothing
pub common-none : (n : ℕ) (B K key : List ℕ) {r : ℕ} → (area_view n B K).n ≡ 0 → r ≡ 0 → r ≡ common_prefix_len (area_view n B K).last_key
    key
unfolding area_view common_prefix_len
common-none n B K key none zero = zero ∙ sym (ap (λ (l : List ℕ). common_prefix_len l key) (key-none n B K none))
