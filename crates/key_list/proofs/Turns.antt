-- What the turns of a try_fold over a slice of rows keep, where one that goes on leaves its closure as it was.
use Rattle.std.proofs.Common.{◌≡◌, ℕ, ◌+◌, ◌<◌, ◌≤◌, List, [], ◌∷◌, refl, sym, ap}
use Rattle.std.proofs.Common.{◌∙◌, arith, length, Bor, zero, suc}
use Rattle.std.specs.Prelude.{Option, None, Some, MatchOption, get_or, drop}
use Rattle.std.specs.declared.slice.Iter.{Iter}
use Rattle.std.specs.Slice.Iter.{iter_rest, iter_steps}
use Rattle.std.specs.Fn.{Called}
use Rattle.std.specs.List.{FoldsTo}
use Rattle.std.specs.Iterator.{Yields, TryFoldTurn, TryFoldsItems}
use Rattle.std.proofs.lemmas.List.{length-drop}
use Rattle.layout.proofs.Turns.{goes}
use denote.Param.Members.{Mut}

-- the row in front of the rest
front : (rows : List (List ℕ)) (k : ℕ) (x : List ℕ) (rest : List (List ℕ)) → drop k rows ≡ x ∷ rest
    → (k < length rows) × (x ≡ get_or rows k []) × (rest ≡ drop (suc k) rows)
front [] zero x rest e = absurd (let z : 0 ≡ suc (length rest) = ap length e in let w : ⊥ = omega (arith, z) in w)
front [] (suc k) x rest e = absurd (let z : 0 ≡ suc (length rest) = ap length e in let w : ⊥ = omega (arith, z) in w)
front (y ∷ rows) zero x rest e = (omega arith, ap (λ l. get_or l 0 []) (sym e), ap (drop 1) (sym e))
front (y ∷ rows) (suc k) x rest e = let p = front rows k x rest e in (omega (arith, p.0), p.1, p.2)

module _ {F B : Type 0} (E : Type 0) (g : Mut F (B × (Bor (List ℕ) × Unit {0})) (Option B)) (f : F) (rows : List (List ℕ)) (Good : ℕ →
    B → Type 0)
    (step : (i : ℕ) (x : Bor (List ℕ)) (a b : B) (f' : F) → i < length rows → x.now ≡ get_or rows i [] → Good i a
    → Called g f (a, (x, tt)) (Some b) f' → (f' ≡ f) × Good (i + 1) b) where
  passed : (k : ℕ) (xs : List (Bor (List ℕ))) (s t : Iter (List ℕ)) (p q : F × B) → Yields iter_steps s xs t
      → FoldsTo (TryFoldTurn g (goes E)) p xs q → p.0 ≡ f → Good k p.1 → iter_rest s ≡ drop k rows → k ≤ length rows
      → (m : ℕ) × (q.0 ≡ f) × Good m q.1 × (iter_rest t ≡ drop m rows) × (m ≤ length rows)
  passed k [] s t p q y c h good e l = rw (← y, ← c) (k, h, good, e, l)
  passed k (x ∷ xs) s t p q y c h good e l =
      let here = front rows k x.now (iter_rest y.0) (sym e ∙ y.1) in
      let called : Called g f (p.1, (x, tt)) (Some c.0.1) c.0.0 = rw (h, c.1.2) at c.1.1 in
      let next : suc k ≡ k + 1 = omega arith in
      let one = step k x p.1 c.0.1 c.0.0 here.0 here.1 good called in
      passed (k + 1) xs y.0 t c.0 q y.2 c.2 one.0 one.1 (here.2 ∙ ap (λ (n : ℕ). drop n rows) next) (omega (arith, here.0))

  -- r is none where a turn stopped, and else what the last turn handed on
  pub tried : (s u : Iter (List ℕ)) (a : B) (r : Option B) → TryFoldsItems iter_steps g (goes E) (λ e r. r ≡ None) s f a r u
      → iter_rest s ≡ rows → Good 0 a → (Stop : Type 0)
      → ((i : ℕ) (x : Bor (List ℕ)) (b : B) (f' : F) → i < length rows → x.now ≡ get_or rows i [] → Good i b
      → Called g f (b, (x, tt)) None f' → Stop)
      → MatchOption r Stop (Good (length rows))
  tried s u a r (xs, None, f', b, y, c, e) whole h Stop stop =
      let all = passed 0 xs s y.0 (f, a) (f', b) y.1 c refl h whole (omega arith) in
      let left : length (drop all.0 rows) ≡ 0 = rw (← all.3) y.2.0 in
      let end : all.0 ≡ length rows = omega (arith, left, length-drop all.0 rows, all.4) in
      rw e (rw end at all.2)
  tried s u a r (xs, Some x, f', b, y, c, (v, j, e, k, stops, back)) whole h Stop stop =
      let all = passed 0 xs s y.0 (f, a) (f', b) y.1 c refl h whole (omega arith) in
      let here = front rows all.0 x.now (iter_rest u) (sym all.3 ∙ y.2) in
      let called : Called g f (b, (x, tt)) None j = rw (all.1, stops) at k in
      rw back (stop all.0 x b j here.0 here.1 all.2 called)
