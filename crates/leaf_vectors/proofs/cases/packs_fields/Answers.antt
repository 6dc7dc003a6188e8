-- The fields fit their width, and the part holds them.
use Rattle.std.proofs.Common.{◌≡◌, rules, arith, refl, ◌+◌, ◌*◌, ◌/◌, ◌%◌, ◌≤◌, length}
use Rattle.std.specs.Prelude.{min}
use Rattle.std.proofs.lemmas.Grind.{div_ceil_times}
use Rattle.leaf_vectors.proofs.Turns.{below-turns}
use Rattle.leaf_vectors.proofs.Parts.{part_length}
use Rattle.leaf_vectors.proofs.cases.packs_fields.Goals as goal

pub pack_fields-requires : goal.pack_fields-requires
pack_fields-requires c =
    let bits = c.product.result in
    let n = c.div_ceil-len.result in
    let small = c.if-not-fit.ensures refl in
    let inside : 16 + n ≤ length c.args.area.now = search rules in
    let part = part_length c.args.area.now 16 (16 + n) (omega arith) inside in
    let up : n ≡ bits / 8 + min 1 (bits % 8) = c.div_ceil-len.ensures in
    let whole : bits ≤ n * 8 = rw up (div_ceil_times bits 8 (omega arith)).0 in
    let product : bits ≡ c.args.width * length c.args.fields.now = rw c.from.ensures at c.product.ensures.0 in
    (c.requires.0, below-turns _ _ small.0 small.1, omega (arith, whole, product, part))
