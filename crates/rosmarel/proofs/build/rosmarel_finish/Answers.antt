-- A finish keeps the builder, and hands out its two counts, or zeros.
use Rattle.std.proofs.Common.{◌≡◌, ℕ, List, Result, Ok, Err, MatchResult, ◌∙◌, rules}
use Rattle.layout.specs.declared.refusals.Refusal.{Refusal}
use Rattle.layout.specs.Refusals.{no_of}
use Rattle.builder.specs.declared.Refused.{Refused}
use Rattle.builder.specs.declared.SSTableIndexBuilder.{SSTableIndexBuilder}
use Rattle.builder.specs.declared.Written.{Written}
use Rattle.builder.specs.Finish.{Finish, finish_of}
use Rattle.rosmarel.proofs.Kept.{finish_with}
use Rattle.rosmarel.proofs.build.rosmarel_finish.Goals as goal

finished : (r : Result Written Refused) (m : Result Written Refusal) (p : ℕ × ℕ) (out : List ℕ) (P : Refused → Type 0)
    (Q : Written → Type 0) → MatchResult r (λ w. m ≡ Ok w) P → MatchResult m Q (λ e. p ≡ (0, 0))
    → ((e : Refused) → P e → m ≡ Err e.refusal) → ((w : Written) → Q w → p ≡ (w.total, w.directory_len))
    → (d : Finish) → finish_of r out ≡ d
    → (b : SSTableIndexBuilder) × (record { no = no_of m; builder = b; out = out; total = p.0; directory = p.1 } ≡ d)
finished (Ok w) m p out P Q h v f g d k =
    let q = g w (rw h at v) in
    (w.builder, (λ i. record { no = no_of (h i); builder = w.builder; out = out; total = (q i).0; directory = (q i).1 }) ∙ k)
finished (Err e) m p out P Q h v f g d k =
    let refused = f e h in
    let q : p ≡ (0, 0) = rw refused at v in
    (e.builder, (λ i. record { no = no_of (refused i); builder = e.builder; out = out; total = (q i).0; directory = (q i).1 }) ∙ k)

pub returns : goal.returns
returns c =
    let told = finished c.finish.result c.map_err-written.result c.map_or-len.result c.finish.new.out _ _ c.map_err-written.ensures.cases
    c.map_or-len.ensures (λ e p. search rules) (λ w q. search rules) _ (rw c.new-builder.ensures at c.finish.ensures.finishes) in
    rw c.number.ensures (finish_with c.args.version _ c.args.n _ _ told.0 _ _ _ _ told.1)
