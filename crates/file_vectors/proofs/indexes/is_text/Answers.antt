-- The lines are those of an opened index: the record has the version and the number of terms that it was opened with.
use Rattle.std.proofs.Common.{◌≡◌, ℕ, List, Ok, sym, subst, ◌∙◌}
use Rattle.layout.specs.Versions.{group_len_of}
use Rattle.index.specs.declared.SSTableIndexV3.{SSTableIndexV3}
use Rattle.index.specs.Opening.{load_least_def, least_terms, OpensBy, Opens}
use Rattle.index.proofs.Terms.{own-version, opens-own}
use Rattle.file_vectors.proofs.indexes.is_text.Goals as goal

opens : (version : ℕ) (f : List ℕ) (opened : SSTableIndexV3) → load_least_def version f ≡ Ok opened → Opens f opened
opens version f opened e =
    let L = group_len_of version in
    subst (λ (v : ℕ). OpensBy (group_len_of v) f opened) (sym (own-version L version (least_terms L f) f opened e))
    (opens-own L version (least_terms L f) f opened e)

pub lines-requires : goal.lines-requires
lines-requires c =
    opens c.args.version c.args.«data».now c.in-Ok.opened (sym c.load_least.ensures ∙ c.in-Ok.is)
