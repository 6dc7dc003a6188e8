-- Two replayed lists of one version: equal bytes exactly when blocks and separators are, whatever their numbers of terms.
use Prim.Native.Nat.{ℕ}
use mathlib.Core.Path.{◌≡◌, refl, sym, ap, subst, ◌∙◌}
use mathlib.Core.List.{List}
use lib.ListN.{take}
use Rattle.machine.specs.Plain.{SameLists}
use Rattle.demands.specs.Demand3.{Finishes, index_of_calls}
use Rattle.replay_format.specs.Format.{calls, list_version}
use Rattle.replay.specs.Made.{fresh_of, entries_of, finish_of_list}
use Rattle.replay.specs.Replay.{Replayed}
use Rattle.replay.proofs.Entries.{list-demand}
use Rattle.replay.proofs.Opening.{list-after, list-finishes}

-- the first total bytes of what a replay left in the output
abbrev replayed_index : (s B K out out' : List ℕ) → List ℕ
replayed_index s B K out out' = take (finish_of_list s B K out).total out'

pub record SameIndex (es-same : Type 0) (left right : List ℕ) : Type 0 where
  pub equal : left ≡ right → es-same
  pub equal-bytes : es-same → left ≡ right

pub equal-replays : {s B K out answers B₁ K₁ out₁ answers₁ s' B' K' out' answers' B₂ K₂ out₂ answers₂ : List ℕ}
    → list_version s' ≡ list_version s
    → Replayed s B K out answers B₁ K₁ out₁ answers₁ → Replayed s' B' K' out' answers' B₂ K₂ out₂ answers₂
    → ((finish_of_list s B K out).total ≡ 0 → ⊥) → ((finish_of_list s' B' K' out').total ≡ 0 → ⊥)
    → SameIndex (SameLists (entries_of s B K) (entries_of s' B' K')) (replayed_index s B K out out₁) (replayed_index s' B' K' out' out₂)
equal-replays {s} {B} {K} {out} {answers} {B₁} {K₁} {out₁} {answers₁}
    {s'} {B'} {K'} {out'} {answers'} {B₂} {K₂} {out₂} {answers₂} one x y some some' =
    let d = list-demand s B K out in
    let left = ap (take (finish_of_list s B K out).total) x.output ∙ sym (list-after s B K out) in
    let after' = ap (λ (v : ℕ). index_of_calls v (calls s') (fresh_of B' K') out') (sym one) ∙ list-after s' B' K' out' in
    let right = ap (take (finish_of_list s' B' K' out').total) y.output ∙ sym after' in
    let h = list-finishes s B K out some in
    let h' = subst (λ (v : ℕ). Finishes v (calls s') (fresh_of B' K') out') one (list-finishes s' B' K' out' some') in
    record {
      equal = λ e. d.equal (calls s') (fresh_of B' K') out' refl h h' (sym left ∙ e ∙ right);
      equal-bytes = λ e. left ∙ d.equal-bytes (calls s') (fresh_of B' K') out' refl h h' e ∙ sym right;
    }
