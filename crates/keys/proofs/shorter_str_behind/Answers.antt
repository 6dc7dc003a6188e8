-- What the code leaves in the three ways out is the key with the shortened key stored.
use Rattle.std.proofs.Common.{◌+◌, ◌-◌, ◌≡◌, ◌≢◌, ◌<◌, ◌≤◌, ℕ, List, length, get_or, take, drop, sym, ◌∙◌, ap, arith}
use Rattle.std.proofs.Math.Seq.{get_or-drop}
use Rattle.std.proofs.lemmas.List.{take_rest}
use Rattle.keys.proofs.Shorten.{length_rest, shortened-unchanged, shortened-raised, shorten-prefix, shorten-all-ff}
use Rattle.keys.proofs.shorter_str_behind.Goals as goal

-- byte i of the part from n on
behind : (K : List ℕ) (n i : ℕ) → get_or (take (length K - n) (drop n K)) i 0 ≡ get_or K (n + i) 0
behind K n i = rw (take_rest K n) (get_or-drop n K i 0)

-- what is FF in the part is FF in the whole
all-ff : (K : List ℕ) (n m : ℕ) → ((k : ℕ) → k < m → get_or (take (length K - n) (drop n K)) k 0 ≡ 255)
    → (i : ℕ) → n ≤ i → i < n + m → get_or K i 0 ≡ 255
all-ff K n m h i l u =
    let e : n + (i - n) ≡ i = omega arith in
    ap (λ j. get_or K j 0) (sym e) ∙ sym (behind K n (i - n)) ∙ h (i - n) (omega arith)

pub returns-then-common_len-len : goal.returns-then-common_len-len
returns-then-common_len-len c right e =
    shortened-unchanged c.args.key.now right (shorten-prefix c.args.key.now right (sym e ∙ c.if-common_len-len.true))

pub returns-in_default : goal.returns-in_default
returns-in_default c right e =
    let K = c.args.key.now in
    let n = c.args.common_len + 1 in
    let w = length_rest K n in
    shortened-unchanged K right
    (shorten-all-ff K right
    (λ i m l. all-ff K n (length K - n) (λ k u. c.in_default.ensures k (omega arith)) i (omega arith) (omega arith)))

pub overflow_add-key : goal.overflow_add-key
overflow_add-key c =
    let K = c.args.key.now in
    let pos = c.args.common_len + 1 + c.in-Some.passed in
    let other : get_or K pos 0 ≢ 255 = λ q. c.in-Some.ensures.2 (behind K (c.args.common_len + 1) c.in-Some.passed ∙ q) in
    omega arith

pub returns : goal.returns
returns c right e =
    let K = c.args.key.now in
    let n = c.args.common_len + 1 in
    let w = length_rest K n in
    let within = c.in-Some.ensures.0 in
    shortened-raised K right (n + c.in-Some.passed) (omega arith) (omega arith)
    (λ i m l. all-ff K n c.in-Some.passed c.in-Some.ensures.1 i (omega arith) l)
    (λ q. c.in-Some.ensures.2 (behind K n c.in-Some.passed ∙ q))
