-- What a finish leaves, refused and accepted, with any settings, and of a version.
use Prim.Native.Nat.{ℕ, zero, suc, ◌≤◌, ◌<◌}
use mathlib.Core.Path.{◌≡◌, refl, sym}
use mathlib.Core.List.{List}
use native.Mathlib.Omega.{arith}
use lib.ListN.{length}
use lib.Seq.{sets}
use borrow.Author.Tests.{lt-ltb, le-ltb}
use Rattle.layout.specs.Versions.{version_no}
use Rattle.layout.proofs.GroupLengths.{version-hit, version-kept}
use Rattle.group.specs.Rows.{or_row}
use Rattle.builder.specs.Index.{Settings, settings}
use Rattle.builder.specs.Finish.{
  list_no,
  area_directory,
  area_index,
  finish_no,
  Finish,
  unwritten,
  step_of_finish,
  finish_def,
  finish_in,
  finish_len_def,
  finish_len_in,
  FinishLen,
  len_step,
}
use Rattle.builder.specs.declared.SSTableIndexBuilder.{SSTableIndexBuilder}
use Rattle.builder.proofs.IndexWritten.{index-none, directory-none}

module _ (S : Settings) (s : SSTableIndexBuilder) (B K : List ℕ) where
  module _ (out : List ℕ) where
    refused-step : (k j : ℕ) → 0 < k → unwritten k s out ≡ step_of_finish S (or_row k j) s B K out
    unfolding step_of_finish
    refused-step zero j h = absurd (let z : ⊥ = omega arith in z)
    refused-step (suc k) j h = refl

    pub finish-refused : (k : ℕ) → k ≡ list_no s B K → 0 < k → unwritten k s out ≡ finish_def S s B K out
    unfolding finish_def finish_no
    finish-refused k e h = rw (← e) (refused-step k _ h)

    module _ (listed : list_no s B K ≡ 0) where
      -- row 9
      pub finish-short : length out < length (area_index S s B K) → unwritten 9 s out ≡ finish_def S s B K out
      unfolding finish_def finish_no step_of_finish
      finish-short h = rw (listed, lt-ltb (length out) (length (area_index S s B K)) h)

      pub finish-taken : (out' : List ℕ) (total directory : ℕ) → length (area_index S s B K) ≤ length out
          → out' ≡ sets out 0 (area_index S s B K) → total ≡ length (area_index S s B K) → directory ≡ length (area_directory s B K)
          → ◌≡◌ {A = Finish} (record { no = 0; builder = s; out = out'; total = total; directory = directory }) (finish_def S s B K out)
      unfolding finish_def finish_no step_of_finish
      finish-taken out' total directory h e f g = rw (listed, le-ltb (length out) (length (area_index S s B K)) h, e, f, g)

      -- with 0 or 1 blocks there is nothing to write
      pub finish-none : length (area_index S s B K) ≤ length out → s.n < 2 → ◌≡◌ {A = Finish} (record {
        no = 0;
        builder = s;
        out = out;
        total = 0;
        directory = 0;
      }) (finish_def S s B K out)
      finish-none h few =
          finish-taken out 0 0 h (rw (index-none S s B K few)) (rw (index-none S s B K few)) (rw (directory-none s B K few))

  len-step : (k t : ℕ) → 0 < k → ◌≡◌ {A = FinishLen} (record { no = k; total = 0 }) (len_step k t)
  len-step zero t h = absurd (let z : ⊥ = omega arith in z)
  len-step (suc k) t h = refl

  pub len-refused : (k : ℕ) → k ≡ list_no s B K → 0 < k → ◌≡◌ {A = FinishLen} (record { no = k; total = 0 }) (finish_len_def S s B K)
  unfolding finish_len_def
  len-refused k e h = rw (← e) (len-step k _ h)

  pub len-taken : (total : ℕ) → list_no s B K ≡ 0 → total ≡ length (area_index S s B K)
      → ◌≡◌ {A = FinishLen} (record { no = 0; total = total }) (finish_len_def S s B K)
  unfolding finish_len_def
  len-taken total e f = rw (e, f)

-- the test of the version comes first
module _ (version : ℕ) (s : SSTableIndexBuilder) (B K : List ℕ) where
  module _ (number : ℕ) (e : number ≡ version_no version) (hit : 0 < number) where
    pub version-refused : (out : List ℕ) → unwritten number s out ≡ finish_in version s B K out
    unfolding finish_in
    version-refused out = let bad = version-hit version number e hit in rw (bad.0, bad.1) refl

    pub len-version-refused : ◌≡◌ {A = FinishLen} (record { no = number; total = 0 }) (finish_len_in version s B K)
    unfolding finish_len_in
    len-version-refused = let bad = version-hit version number e hit in rw (bad.0, bad.1) refl

  module _ (e : 0 ≡ version_no version) where
    pub version-taken : (out : List ℕ) → finish_def (settings version) s B K out ≡ finish_in version s B K out
    unfolding finish_in
    version-taken out = rw (version-kept version (sym e)) refl

    pub len-version-taken : finish_len_def (settings version) s B K ≡ finish_len_in version s B K
    unfolding finish_len_in
    len-version-taken = rw (version-kept version (sym e)) refl
