-- A shorten and a finish hand the builder back as it was, so that its count needn't be handed out.
use Prim.Native.Nat.{ℕ, zero, suc}
use mathlib.Core.Path.{◌≡◌, refl, sym, ap, ◌∙◌}
use mathlib.Core.List.{List}
use borrow.Table.Steps.{cases}
use Rattle.builder.specs.declared.SSTableIndexBuilder.{SSTableIndexBuilder}
use Rattle.builder.specs.Calls.{Called, builder_of, called_with, step_of_shorten, shorten_def}
use Rattle.layout.specs.Versions.{version_bad}
use Rattle.builder.specs.Index.{Settings, settings}
use Rattle.builder.specs.Finish.{Finish, step_of_finish, finish_def, finish_in}
use Rattle.rosmarel.specs.Answers.{finish_by}

step_kept : (k : ℕ) (b : SSTableIndexBuilder) (B K next : List ℕ) → (step_of_shorten k b B K next).state.builder ≡ b
unfolding step_of_shorten
step_kept zero b B K next = refl
step_kept (suc k) b B K next = refl

shorten-kept : (b : SSTableIndexBuilder) (B K next : List ℕ) → (shorten_def b B K next).state.builder ≡ b
unfolding shorten_def
shorten-kept b B K next = step_kept _ b B K next

pub shorten-with : (k n : ℕ) (b : SSTableIndexBuilder) (B K B' K' next : List ℕ)
    → record { no = k; state = record { builder = b; blocks = B'; keys = K' } } ≡ shorten_def (builder_of n) B K next
    → called_with k (builder_of n) B' K' ≡ shorten_def (builder_of n) B K next
shorten-with k n b B K B' K' next e =
    let same : b ≡ builder_of n = ap (λ (c : Called). c.state.builder) e ∙ shorten-kept (builder_of n) B K next in
    ap (λ (x : SSTableIndexBuilder). record { no = k; state = record { builder = x; blocks = B'; keys = K' } }) (sym same) ∙ e

-- ---- finish

finish-step-kept : (S : Settings) (k : ℕ) (b : SSTableIndexBuilder) (B K out : List ℕ) → (step_of_finish S k b B K out).builder ≡ b
unfolding step_of_finish
finish-step-kept S zero b B K out = refl
finish-step-kept S (suc k) b B K out = refl

finish-kept : (S : Settings) (b : SSTableIndexBuilder) (B K out : List ℕ) → (finish_def S b B K out).builder ≡ b
unfolding finish_def
finish-kept S b B K out = finish-step-kept S _ b B K out

finish-in-kept : (version : ℕ) (b : SSTableIndexBuilder) (B K out : List ℕ) → (finish_in version b B K out).builder ≡ b
unfolding finish_in
finish-in-kept version b B K out =
    cases (version_bad version) (λ t. rw t) (λ t. rw t (finish-kept (settings version) b B K out))

pub finish_with : (version k n total directory : ℕ) (b : SSTableIndexBuilder) (B K out out' : List ℕ)
    → record { no = k; builder = b; out = out'; total = total; directory = directory } ≡ finish_in version (builder_of n) B K out
    → finish_by k n out' total directory ≡ finish_in version (builder_of n) B K out
finish_with version k n total directory b B K out out' e =
    let same : b ≡ builder_of n = ap (λ (f : Finish). f.builder) e ∙ finish-in-kept version (builder_of n) B K out in
    ap (λ (x : SSTableIndexBuilder). record { no = k; builder = x; out = out'; total = total; directory = directory }) (sym same) ∙ e
