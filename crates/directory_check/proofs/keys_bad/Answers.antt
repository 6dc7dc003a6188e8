-- Keys of a directory that keeps row 12 are inside, and one that doesn't rise makes the directory bad.
use Rattle.std.proofs.Common.{◌∙◌, ◌≡◌, ◌-◌, ◌<◌, ℕ, List, false, refl, rules, tests, arith}
use Rattle.std.proofs.lemmas.Iterator.{serves_from_Range, YieldsList-from_range}
use Rattle.std.proofs.lemmas.Iterator.Search.{any_from_yields_List}
use Rattle.directory.specs.Read.{count_of, directory_bad, key_outside}
use Rattle.directory.proofs.Rules.{directory-kept, keys-inside}
use Rattle.directory_check.proofs.Rises.{falls, keys-of}
use Rattle.directory_check.proofs.keys_bad.Goals as goal

inside : (d : List ℕ) (n : ℕ) → directory_bad d ≡ false → n ≡ count_of d → (i : ℕ) → i < n → key_outside d n i ≡ false
inside d n good e i h = rw e (keys-inside d (directory-kept d good) i (rw e at h))

pub any-requires-clause-callable : goal.any-requires-clause-callable
any-requires-clause-callable c =
    let within = inside c.args.directory.bytes.now c.args.directory.n c.requires.0 c.requires.1 in
    serves_from_Range (λ x q k. search (rules, tests)) (λ x low high.
    let before = within (x - 1) (omega arith) in
    let here = within x (omega arith) in
    search (rules, arith, before, here))

pub returns : goal.returns
returns c =
    let d = c.args.directory.bytes.now in
    let n = c.args.directory.n in
    any_from_yields_List (falls d n) _ _ c.any.result c.any.ensures.ran
    (YieldsList-from_range 1 n (n - 1) refl (omega arith)) (λ x b q k. search (rules, tests))
    ∙ keys-of d n (omega arith)
