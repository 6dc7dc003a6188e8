-- Areas that were checked show what the builder and the lent slices show.
use Rattle.std.proofs.Common.{◌≡◌, List, ℕ}
use Rattle.builder.specs.Area.{view_of}
use Rattle.builder.specs.declared.SSTableIndexBuilder.{SSTableIndexBuilder}
use Rattle.builder_rows.specs.Shown.{shown}
use Rattle.builder_rows.specs.declared.Areas.{Areas}

pub same-shown : (a : Areas) (b : SSTableIndexBuilder) (B K : List ℕ)
    → (a.builder ≡ b) × (a.blocks.now ≡ B) × (a.keys.now ≡ K) → shown a ≡ view_of b B K
same-shown a b B K e = rw (e.0, e.1, e.2)
