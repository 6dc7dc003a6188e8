-- The key's first bytes, the byte and the first tail are one string at the front.
use Rattle.std.proofs.Common.{◌≡◌, ℕ, ◌+◌, ◌≤◌, List, ◌∷◌, ◌++◌, ap, ◌∙◌, arith, length, set, take, drop, length-append}
use native.Mathlib.Numerals.{add-one}
use lib.Seq.{sets, length-take-le}
use Rattle.serialize.proofs.Stores.{sets-append, copied}
use Rattle.example_leaving.proofs.Class.{tail-length}
use Rattle.example_leaving.proofs.Leaving.write.Goals as goal

-- a front that was copied, a byte and what stands behind it
put-front : (p out to : List ℕ) (place b : ℕ) (v : List ℕ) → length p ≡ place → place ≤ length out
    → to ≡ take (length p) p ++ drop (length p) out → sets (set to place b) (place + 1) v ≡ sets out 0 (p ++ (b ∷ v))
put-front p out to place b v long room copy =
    let e : place ≡ 0 + length p = omega (arith, long) in
    rw (add-one place) (ap (λ (x : List ℕ). sets x place (b ∷ v)) (copy ∙ copied out p (omega (arith, long)))
    ∙ ap (λ (n : ℕ). sets (sets out 0 p) n (b ∷ v)) e
    ∙ sets-append out p (b ∷ v) 0)

pub returns : goal.returns
returns c =
    let s = c.args.self in
    let leads = c.requires.1 in
    let p = take s.place s.key.now in
    let long = length-take-le s.place s.key.now leads.inside in
    let w = c.write_tail.ensures.tail in
    record {
      tail = w.tail;
      is-first = w.is-first;
      put = w.put
          ∙ put-front p c.args.out.now c.copy.new.to s.place s.byte w.tail long (omega (arith, leads.whole, c.requires.2))
          c.copy.ensures.copied;
      whole = omega (
        arith,
        long,
        length-append p (s.byte ∷ w.tail),
        c.write_tail.ensures.value,
        tail-length c.requires.0 s.state leads.small leads.near w.tail w.is-first,
      );
    }
