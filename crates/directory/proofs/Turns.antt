-- What the turns of a try_fold over a range keep, where one that goes on leaves its closure as it was.
use Rattle.std.proofs.Common.{
  ◌≡◌,
  ℕ,
  ◌+◌,
  ◌<◌,
  ◌≤◌,
  List,
  [],
  ◌∷◌,
  refl,
  ◌∙◌,
  arith,
}
use Rattle.std.specs.Prelude.{Option, None, Some, MatchOption}
use Rattle.std.specs.declared.ops.Range.{Range}
use Rattle.std.specs.Fn.{Called}
use Rattle.std.specs.List.{FoldsTo}
use Rattle.std.proofs.iter.Yields.{nat_range_steps}
use Rattle.std.specs.Iterator.{Yields, TryFoldTurn, TryFoldsItems}
use Rattle.layout.proofs.Turns.{goes}
use denote.Param.Members.{Mut}

module _ {F B : Type 0} (E : Type 0) (g : Mut F (B × (ℕ × Unit {0})) (Option B)) (f : F) (Good : ℕ → B → Type 0)
    (step : (i : ℕ) (a b : B) (f' : F) → Good i a → Called g f (a, (i, tt)) (Some b) f' → (f' ≡ f) × Good (i + 1) b) where
  passed : (xs : List ℕ) (s t : Range ℕ) (p q : F × B) → Yields nat_range_steps s xs t → FoldsTo (TryFoldTurn g (goes E)) p xs q
      → p.0 ≡ f → Good s.start p.1 → s.start ≤ s.end → (q.0 ≡ f) × Good t.start q.1 × (t.start ≤ t.end) × (t.end ≡ s.end)
  passed [] s t p q y c k h l = rw (← y, ← c) (k, h, l, refl)
  passed (x ∷ xs) s t p q y c k h l =
      let called : Called g f (p.1, (s.start, tt)) (Some c.0.1) c.0.0 = rw (k, y.1.1.1, c.1.2) at c.1.1 in
      let one = step s.start p.1 c.0.1 c.0.0 h called in
      let next : Good y.0.start c.0.1 = rw (y.1.1.2) one.1 in
      let rest = passed xs y.0 t c.0 q y.2 c.2 one.0 next (omega (arith, y.1.1.0, y.1.1.2, y.1.0)) in
      (rest.0, rest.1, rest.2, rest.3 ∙ y.1.0)

  -- r is none where a turn stopped, and else what the last turn handed on
  pub tried : (n : ℕ) (a : B) (r : Option B) (u : Range ℕ)
      → TryFoldsItems nat_range_steps g (goes E) (λ e r. r ≡ None) (record { start = 0; end = n }) f a r u → Good 0 a
      → (Stop : Type 0) → ((i : ℕ) (b : B) (f' : F) → i < n → Good i b → Called g f (b, (i, tt)) None f' → Stop)
      → MatchOption r Stop (Good n)
  tried n a r u (xs, None, f', b, y, c, e) h Stop stop =
      let all = passed xs (record { start = 0; end = n }) y.0 (f, a) (f', b) y.1 c refl h (omega arith) in
      let end : y.0.start ≡ n = omega (arith, all.2, all.3, y.2.1.0) in
      rw e (rw end at all.1)
  tried n a r u (xs, Some x, f', b, y, c, (v, j, e, k, stops, back)) h Stop stop =
      let all = passed xs (record { start = 0; end = n }) y.0 (f, a) (f', b) y.1 c refl h (omega arith) in
      let here : x ≡ y.0.start = y.2.1.1 in
      let below : y.0.start < n = omega (arith, y.2.1.0, all.3) in
      let called : Called g f (b, (y.0.start, tt)) None j = rw (all.0, here, stops) at k in
      rw back (stop y.0.start b j below all.1 called)
