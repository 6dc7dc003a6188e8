-- No byte leads on, or the nearest does, and the first tail from there ends the first string.
use Rattle.std.proofs.Common.{◌≡◌, ℕ, ◌+◌, ap, ◌∙◌, subst, arith, take, get_or, length-take}
use Rattle.automaton.specs.Table.{next}
use Rattle.automaton.specs.Words.{Hits}
use Rattle.automaton.proofs.Strings.{bytes_of, bytes_take}
use Rattle.example_leaving.specs.First.{FirstIn}
use Rattle.example_leaving.proofs.Class.{class-byte, class-between, none-between}
use Rattle.example_leaving.proofs.Leaving.first_at.Goals as goal

pub returns-in_default : goal.returns-in_default
returns-in_default c =
    let a = c.args in
    let m = a.measured.now in
    let p = take a.place a.key.now in
    let (x, hs, e) = c.requires.measured in
    none-between c.none.ensures
    (λ v i.
    let k = class-byte x m.table.well_formed p a.state a.lo a.hi e hs c.requires.place_in_bounds.2 v i in
    omega (arith, k.near, c.in_default.ensures k.byte k.low k.high))

pub returns : goal.returns
returns c =
    let a = c.args in
    let m = a.measured.now in
    let wf = m.table.well_formed in
    let p = take a.place a.key.now in
    let byte = c.in-Some.byte in
    let to = c.accept-to.ensures.0 in
    let (x, hs, e) = c.requires.measured in
    let (inside, room, fits) = c.requires.place_in_bounds in
    let n = c.in-Some.ensures in
    let far : c.from.result ≡ get_or m.distances (next m.table.bytes.now a.state byte) 0
    = c.from.ensures ∙ ap (λ (q : ℕ). get_or m.distances q 0) to in
    record {
      least = λ v i.
          let k = class-byte x wf p a.state a.lo a.hi e hs fits v i in
          (omega (arith, n.near), omega (arith, n.least k.byte k.low k.high, k.longer, length-take a.place a.key.now));
      leads = λ l. record {
        inside = inside;
        byte-fits = omega (arith, n.below-hi);
        led = to ∙ ap (λ (q : ℕ). next m.table.bytes.now q byte) e;
        small = c.accept-to.ensures.1;
        near = omega (arith, n.near, c.from.ensures);
        whole = ap (λ (k : ℕ). a.place + k) c.from.ensures;
      };
      first = λ l tail f.
          let bytes = bytes_take a.place a.key.now (bytes_of a.key.now (λ i. omega (arith, c.type_inv.key i))) in
          class-between x wf p a.state a.lo a.hi e hs fits bytes byte n tail
          (subst (λ (q : ℕ). FirstIn (Hits m.table.bytes.now q) tail) to f);
    }
