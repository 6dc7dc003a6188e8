-- The order, by the common prefix and the bytes behind it: a key that has none there is below each that has one.
use Rattle.std.proofs.Common.{◌≡◌, ◌<◌, ℕ, List, Bool, Option, Some, None, MatchOption, length, get_or, ltb, sym, ◌∙◌, arith, rules}
use denote.Bor.{Bor}
use Rattle.std.specs.Option.{is_some, option_map, unwrap_or}
use Rattle.std.specs.Prelude.{IsTrue}
use borrow.Author.Tests.{le-ltb, ltb-true, ltb-false}
use Rattle.keys.specs.Order.{less, common_prefix_len}
use Rattle.keys.proofs.Order.{less-end-left, less-end-right, less-at}
use Rattle.keys.proofs.lt_behind.Goals as goal

module _ (a b : List ℕ) {len : ℕ} (is : len ≡ common_prefix_len a b) (behind : len < length b) (result : Bool) {Q : Bor ℕ → Type 0} where
  decided : (o : Option (Bor ℕ)) → is_some o ≡ ltb len (length a)
      → unwrap_or (option_map (λ (x : Bor ℕ). x.now) o) 0 ≡ get_or a len 0
      → MatchOption o (IsTrue result) Q → ((x : Bor ℕ) → Q x → result ≡ ltb x.now (get_or b len 0)) → result ≡ less a b
  decided None s g h f = h ∙ sym (less-end-left a b (omega (arith, is, ltb-false _ _ (sym s))) (omega (arith, is)))
  decided (Some x) s g h f =
      rw (g, is) at (f x h) ∙ sym (less-at a b (omega (arith, is, ltb-true _ _ (sym s))) (omega (arith, is)))

pub returns-then-len-right : goal.returns-then-len-right
returns-then-len-right c e =
    decided c.args.left.now c.args.right.now e c.if-len-right.true c.is_none_or.result c.get.result c.get.ensures.lookup.0
    (c.get.ensures.lookup.4 (omega arith) 0) c.is_none_or.ensures
    (λ x q. search rules)

pub returns-else-len-right : goal.returns-else-len-right
returns-else-len-right c e =
    le-ltb c.args.len (length c.args.right.now) c.if-len-right.false
    ∙ sym (less-end-right c.args.left.now c.args.right.now (omega arith))
