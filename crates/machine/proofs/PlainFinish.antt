-- The plain machine's finish by cases: its number is 9 or 0, and what it leaves with each.
use Prim.Native.Nat.{ℕ, ◌+◌, ◌≤◌, ◌<◌}
use mathlib.Core.Path.{◌≡◌, ap}
use mathlib.Core.Logic.{◌⊎◌, inl, inr, ⊎_elim}
use mathlib.Core.List.{List, []}
use native.Mathlib.Nat.{zero-add}
use native.Mathlib.Omega.{arith}
use lib.Dec.{ltb}
use lib.ListN.{length, take, drop}
use lib.Seq.{sets, sets-eq, drop-append_seam}
use borrow.Author.Tests.{lt-ltb, le-ltb, ltb-true, ltb-false}
use borrow.Table.Steps.{cases}
use Rattle.serialize.proofs.Stores.{sets-part}
use Rattle.directory.specs.Directory.{directory_bytes}
use Rattle.builder.specs.Calls.{builder_of}
use Rattle.builder.specs.Index.{Settings, index_bytes}
use Rattle.builder.specs.Finish.{Finish, unwritten}
use Rattle.machine.specs.Plain.{Entry, blocks_of, separators_of, plain_index, plain_directory}
use Rattle.machine.specs.Finished.{plain_finish}

-- 0 or 1 entries have no index, two or more have one
module _ (es : List Entry) where
  pub plain-none : (S : Settings) → length es < 2 → plain_index S es ≡ []
  unfolding plain_index
  plain-none S h = simp (lt-ltb (length es) 2 h)

  pub plain-some : (S : Settings) → 2 ≤ length es → plain_index S es ≡ index_bytes S (blocks_of es) (separators_of es)
  unfolding plain_index
  plain-some S h = simp (le-ltb (length es) 2 h)

  pub directory-none : length es < 2 → plain_directory es ≡ []
  unfolding plain_directory
  directory-none h = simp (lt-ltb (length es) 2 h)

  pub directory-some : 2 ≤ length es → plain_directory es ≡ directory_bytes (separators_of es)
  unfolding plain_directory
  directory-some h = simp (le-ltb (length es) 2 h)

module _ (S : Settings) (es : List Entry) (out : List ℕ) where
  pub plain-refused : length out < length (plain_index S es) → plain_finish S es out ≡ unwritten 9 (builder_of (length es)) out
  unfolding plain_finish
  plain-refused h = simp (lt-ltb (length out) (length (plain_index S es)) h)

  pub plain-taken : length (plain_index S es) ≤ length out → plain_finish S es out ≡ record {
    no = 0;
    builder = builder_of (length es);
    out = sets out 0 (plain_index S es);
    total = length (plain_index S es);
    directory = length (plain_directory es);
  }
  unfolding plain_finish
  plain-taken h = simp (le-ltb (length out) (length (plain_index S es)) h)

  -- refused exactly when row 9 holds
  pub plain-number : ((length out < length (plain_index S es)) × ((plain_finish S es out).no ≡ 9))
      ⊎ ((length (plain_index S es) ≤ length out) × ((plain_finish S es out).no ≡ 0))
  plain-number =
      cases (ltb (length out) (length (plain_index S es)))
      (λ t. let h = ltb-true (length out) (length (plain_index S es)) t in inl (h, ap (λ (f : Finish). f.no) (plain-refused h)))
      (λ t. let h = ltb-false (length out) (length (plain_index S es)) t in inr (h, ap (λ (f : Finish). f.no) (plain-taken h)))

  module _ (accepted : (plain_finish S es out).no ≡ 0) where
    pub plain_fits : length (plain_index S es) ≤ length out
    plain_fits = ⊎_elim (λ p. absurd (let z : ⊥ = omega (arith, p.1) in z)) (λ p. p.0) plain-number

    pub plain-total : (plain_finish S es out).total ≡ length (plain_index S es)
    plain-total = ap (λ (f : Finish). f.total) (plain-taken plain_fits)

    -- the index is the first total bytes of the output, and the bytes after it stay
    pub plain-front : take (plain_finish S es out).total (plain_finish S es out).out ≡ plain_index S es
    plain-front = rw (plain-taken plain_fits) (sets-part out (plain_index S es) 0 (omega (arith, plain_fits)))

    pub plain-rest : drop (plain_finish S es out).total (plain_finish S es out).out ≡ drop (plain_finish S es out).total out
    plain-rest =
        let f = plain_index S es in
        let fits : 0 + length f ≤ length out = omega (arith, plain_fits) in
        rw (plain-taken plain_fits, sets-eq f out 0 fits, zero-add (length f)) (drop-append_seam f (drop (length f) out))
