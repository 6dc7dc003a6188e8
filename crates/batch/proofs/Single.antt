-- Each entry of a batch is what the single lookup of its key says: the id that it finds, and 2^64 - 1 exactly where it says 19.
use mathlib.Core.Path.{◌≡◌, refl, sym, ap, ◌∙◌}
use mathlib.Core.Bool.{Bool, true, false, cond}
use mathlib.Core.List.{List}
use mathlib.Core.Logic.{inl, inr}
use Prim.Native.Nat.{ℕ, zero, suc, ◌≤◌, ◌<◌}
use native.Mathlib.Nat.{zero-add}
use native.Mathlib.Omega.{arith}
use lib.ListN.{length, get_or}
use lib.Seq.{sets, ext_get_or}
use Rattle.layout.specs.Layout.{max_blocks}
use Rattle.serialize.proofs.Stores.{get_or-sets}
use Rattle.index.specs.declared.SSTableIndexV3.{SSTableIndexV3}
use Rattle.index.specs.Parts.{separator_in}
use Rattle.index.specs.Opening.{Opens}
use Rattle.index.specs.Lookups.{ByKeyExact, LocateWithKey}
use Rattle.index.proofs.OpenFacts.{opens-facts}
use Rattle.key_list.specs.KeyList.{key_list_count, key_list_key}
use Rattle.batch_search.specs.Entries.{no_id, EntryExact}
use Rattle.batch_search.proofs.Entries.{entry-unique}
use Rattle.batch.specs.Batch.{batch_bad, LocateWithKeys}
use Rattle.batch.proofs.Batches.{batch-ok}

module _ (separator : ℕ → List ℕ) (n : ℕ) (key : List ℕ) where
  -- the single lookup's answer as an entry
  lookup_entry : (k id : ℕ) → ByKeyExact separator n key k id → (k ≡ 0 → EntryExact separator n key id)
      × (k ≡ 19 → EntryExact separator n key no_id)
  lookup_entry k id (inl a) = (λ e. inl a.1, λ e. absurd (let z : ⊥ = omega (arith, a.0, e) in z))
  lookup_entry k id (inr a) = (λ e. absurd (let z : ⊥ = omega (arith, a.0, e) in z), λ e. inr (refl, a.2))

  -- a found key's entry is its id, and none is 2^64 - 1
  pub entry-single : (k id e : ℕ) → ByKeyExact separator n key k id → EntryExact separator n key e → (k ≡ 0 → e ≡ id) × (k ≡ 19 → e ≡ no_id)
  entry-single k id e a b =
      let single = lookup_entry k id a in
      (λ h. entry-unique separator n key e id b (single.0 h), λ h. entry-unique separator n key e no_id b (single.1 h))

  -- and an entry of 2^64 - 1 is none
  pub none-single : n ≤ max_blocks → (k id e : ℕ) → ByKeyExact separator n key k id → EntryExact separator n key e → e ≡ no_id → k ≡ 19
  none-single few k id e (inl a) b h =
      let same = (entry-single k id e (inl a) b).0 a.0 in
      absurd (let z : ⊥ = omega (arith, a.1.inside, same, h, few) in z)
  none-single few k id e (inr a) b h = a.0

-- ---- a batch as its caller sees it

-- for bytes and record of one opening, entry i of an accepted batch is what the single lookup of key i says
pub batch-single : (f : List ℕ) (opened : SSTableIndexV3) (pairs bytes ids written : List ℕ) → Opens f opened
    → LocateWithKeys f opened pairs bytes ids written 0 → (i k id : ℕ) → i < key_list_count pairs
    → LocateWithKey f opened (key_list_key pairs bytes i) k id
    → (k ≡ 0 → get_or written i 0 ≡ id) × (k ≡ 19 → get_or written i 0 ≡ no_id) × (get_or written i 0 ≡ no_id → k ≡ 19)
batch-single f opened pairs bytes ids written o b i k id h s =
    let t = (b.exact o).taken refl in
    let room = (batch-ok pairs bytes (length ids) (accepted (batch_bad pairs bytes (length ids)) (b.exact-number o))).room-enough in
    let at : get_or written i 0 ≡ get_or t.list i 0 =
    ap (λ (l : List ℕ). get_or l i 0) t.stands
    ∙ (rw (zero-add i) at (get_or-sets ids t.list 0 i (omega (arith, t.long, room)) (omega (arith, t.long)))) in
    let same = entry-single (separator_in f) opened.n (key_list_key pairs bytes i) k id (get_or t.list i 0) (s.exact o) (t.each i h) in
    let few : opened.n ≤ max_blocks =
    (opens-facts f opened o).fits.few in (
      λ e. at ∙ same.0 e,
      λ e. at ∙ same.1 e,
      λ e. none-single (separator_in f) opened.n (key_list_key pairs bytes i) few k id (get_or t.list i 0) (s.exact o) (t.each i h)
          (sym at ∙ e),
    )
  where
    accepted : (t : Bool) → ◌≡◌ {A = ℕ} 0 (cond t 26 0) → t ≡ false
    accepted true e = absurd (let z : ⊥ = omega (arith, e) in z)
    accepted false e = refl

-- ---- one answer

module _ (f : List ℕ) (opened : SSTableIndexV3) (pairs bytes ids : List ℕ) (o : Opens f opened) where
  -- the entries of two accepted batches
  same-list : (written written' : List ℕ) → LocateWithKeys f opened pairs bytes ids written 0
      → LocateWithKeys f opened pairs bytes ids written' 0 → written ≡ written'
  same-list written written' a b =
      let s = (a.exact o).taken refl in
      let t = (b.exact o).taken refl in
      s.stands
      ∙ ap (λ (l : List ℕ). sets ids 0 l)
      (ext_get_or 0 s.list t.list (s.long ∙ sym t.long)
      (λ i h. entry-unique (separator_in f) opened.n (key_list_key pairs bytes i) _ _ (s.each i (omega (arith, s.long)))
      (t.each i (omega (arith, s.long)))))
      ∙ sym t.stands

  -- two answers for the same bytes, record, list and ids have the same number and leave the same ids
  pub batch-unique : (written written' : List ℕ) (k k' : ℕ) → LocateWithKeys f opened pairs bytes ids written k
      → LocateWithKeys f opened pairs bytes ids written' k' → (k ≡ k') × (written ≡ written')
  batch-unique written written' k k' a b = (same k k' a b, leaves k k' (same k k' a b) a b)
    where
      same : (k k' : ℕ) → LocateWithKeys f opened pairs bytes ids written k → LocateWithKeys f opened pairs bytes ids written' k' → k ≡ k'
      same k k' a b = a.exact-number o ∙ sym (b.exact-number o)

      leaves : (k k' : ℕ) → k ≡ k' → LocateWithKeys f opened pairs bytes ids written k → LocateWithKeys f opened pairs bytes ids written' k'
          → written ≡ written'
      leaves zero zero e a b = same-list written written' a b
      leaves zero (suc k') e a b = absurd (let z : ⊥ = omega (arith, e) in z)
      leaves (suc k) zero e a b = absurd (let z : ⊥ = omega (arith, e) in z)
      leaves (suc k) (suc k') e a b = a.leaves.refused (omega arith) ∙ sym (b.leaves.refused (omega arith))
