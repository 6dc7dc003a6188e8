-- Row 20 for the record, as a test and as facts: a test that fails is the facts, and the facts make the test fail.
use mathlib.Core.Path.{◌≡◌, sym, ◌∙◌}
use mathlib.Core.Bool.{true, false, true≢false}
use Prim.Native.Nat.{ℕ, ◌+◌, ◌*◌, ◌≤◌}
use lib.Dec.{ltb}
use borrow.Author.Tests.{ltb-false, le-ltb}
use Rattle.std.proofs.lemmas.Bool.{or_parts}
use borrow.Table.Steps.{cases}
use Rattle.layout.specs.Versions.{version_bad}
use Rattle.store.specs.Store.{group_count}
use Rattle.index.specs.declared.SSTableIndexV3.{SSTableIndexV3}
use Rattle.index.specs.Lookups.{opened_bad_by, OpenedFits}

module _ (L : ℕ) (opened : SSTableIndexV3) (len : ℕ) where
  pub opened-fits : opened_bad_by L opened len ≡ false → OpenedFits L opened len
  unfolding opened_bad_by
  opened-fits e =
      let v = or_parts (version_bad opened.version) _ e in
      let a = or_parts (ltb opened.n 1) _ v.1 in
      let b = or_parts (ltb 65536 opened.n) _ a.1 in
      let c = or_parts (ltb len (opened.directory + opened.directory_len)) _ b.1 in
      let d = or_parts (ltb len (opened.metas + opened.metas_len)) _ c.1 in
      let g = or_parts (ltb len (opened.addrs + opened.addrs_len)) _ d.1 in
      record {
        version = v.0;
        some = ltb-false opened.n 1 a.0;
        few = ltb-false 65536 opened.n b.0;
        directory = ltb-false len (opened.directory + opened.directory_len) c.0;
        metas = ltb-false len (opened.metas + opened.metas_len) d.0;
        addrs = ltb-false len (opened.addrs + opened.addrs_len) g.0;
        records = ltb-false opened.metas_len (36 * group_count L opened.n) g.1;
      }

  -- with the tests before it passed, the last one decides
  pub last-test : version_bad opened.version ≡ false → 1 ≤ opened.n → opened.n ≤ 65536 → opened.directory + opened.directory_len ≤ len
      → opened.metas + opened.metas_len ≤ len → opened.addrs + opened.addrs_len ≤ len
      → opened_bad_by L opened len ≡ ltb opened.metas_len (36 * group_count L opened.n)
  unfolding opened_bad_by
  last-test version some few directory metas addrs =
      rw (
        version,
        le-ltb opened.n 1 some,
        le-ltb 65536 opened.n few,
        le-ltb len (opened.directory + opened.directory_len) directory,
        le-ltb len (opened.metas + opened.metas_len) metas,
        le-ltb len (opened.addrs + opened.addrs_len) addrs,
      )

  pub fits-passes : OpenedFits L opened len → opened_bad_by L opened len ≡ false
  fits-passes h =
      last-test h.version h.some h.few h.directory h.metas h.addrs ∙ le-ltb opened.metas_len (36 * group_count L opened.n) h.records

  -- and so with a test that is hit
  pub bad-unfit : opened_bad_by L opened len ≡ true → OpenedFits L opened len → ⊥
  bad-unfit e h = true≢false (sym e ∙ fits-passes h)

  pub unfit-bad : (OpenedFits L opened len → ⊥) → opened_bad_by L opened len ≡ true
  unfit-bad h = cases (opened_bad_by L opened len) (λ e. e) (λ e. absurd (h (opened-fits e)))
