-- The strings that leave a prefix by a byte of a range: the least distance and the lowest byte that reaches it give the first of them.
use mathlib.Core.Path.{◌≡◌, refl, sym, subst}
use mathlib.Core.List.{List, [], ◌∷◌, ◌++◌}
use mathlib.Core.Logic.{inl, ⊎_elim}
use Prim.Native.Nat.{ℕ, ◌+◌, ◌≤◌, ◌<◌}
use native.Mathlib.Omega.{arith}
use lib.ListN.{length, get_or, length-append}
use Rattle.std.proofs.lemmas.Bool.{cases_eq, cases_lt}
use Rattle.keys.specs.Order.{◌≺◌, ◌≼◌}
use Rattle.automaton.specs.Table.{WellFormed, states, next}
use Rattle.automaton.specs.Words.{Bytes, run, Hits}
use Rattle.automaton.proofs.Strings.{hits-cons, hits-tail, hits-append, can-match-hits}
use Rattle.pruning.proofs.Intervals.{≼-lower, ≺-heads, ≼-heads, not-≺-nil, not-cons-≼-nil}
use Rattle.example_distance.specs.Distance.{Distances}
use Rattle.example_leaving.specs.First.{NotAfter, FirstIn}
use Rattle.example_leaving.specs.Leaving.{AcceptedBetween, NearestByte, FirstBetween, no_place}
use Rattle.example_leaving.specs.declared.Leaving.{Leaving}
use Rattle.example_leaving.proofs.Bounds.{leaving, begins-with}
use Rattle.example_leaving.proofs.First.{not-after, not-longer, not-after-behind, first-map}

-- w is p, a byte from lo on and below hi, and a string to acceptance from the state that the byte leads to from s
pub record InClass (t p : List ℕ) (s lo hi : ℕ) (w : List ℕ) : Type 0 where
  pub byte : ℕ
  pub rest : List ℕ
  pub low : lo ≤ byte
  pub high : byte < hi
  pub hits : Hits t (next t s byte) rest
  pub whole : w ≡ p ++ (byte ∷ rest)

pub hits-behind : {t : List ℕ} (s : ℕ) (p w : List ℕ) → Hits t s (p ++ w) → Hits t (run t s p) w
unfolding run
hits-behind s [] w h = h
hits-behind {t} s (x ∷ p) w h = hits-behind (next t s x) p w (hits-tail s x h).1

-- a string of the class by its byte, and what it is longer than
pub record ClassByte (t d p : List ℕ) (s lo hi : ℕ) (v : List ℕ) : Type 0 where
  pub byte : ℕ
  pub rest : List ℕ
  pub whole : v ≡ p ++ (byte ∷ rest)
  pub low : lo ≤ byte
  pub high : byte < hi
  pub fits : byte < 256
  pub near : get_or d (next t s byte) 0 < 64
  pub longer : length p + get_or d (next t s byte) 0 < length v
  pub from-state : length p + get_or d s 0 ≤ length v

module _ {t d : List ℕ} (x : Distances t d) where
  -- the first string that leads from a state to acceptance is as long as the state is far
  pub tail-length : (s : ℕ) → s < states t → get_or d s 0 < 64 → (v : List ℕ) → FirstIn (Hits t s) v → length v ≡ get_or d s 0
  tail-length s hs near v f =
      let m = x.near s hs near in
      omega (arith, m.good, not-longer v m.string (f.first m.string m.hits), x.least s v hs f.is-one)

  module _ (wf : WellFormed t) (p : List ℕ) (s lo hi : ℕ) (hs : s < states t) (h : hi ≤ 256) where
    class-byte-of : (v : List ℕ) → InClass t p s lo hi v → ClassByte t d p s lo hi v
    class-byte-of v c =
        let fits : c.byte < 256 = omega (arith, c.high) in
        let to = wf.closed s c.byte hs fits in
        let long : length v ≡ length p + length (c.byte ∷ c.rest) = rw c.whole (length-append p (c.byte ∷ c.rest)) in
        record {
          byte = c.byte;
          rest = c.rest;
          whole = c.whole;
          low = c.low;
          high = c.high;
          fits = fits;
          near = x.far (next t s c.byte) to (can-match-hits c.hits);
          longer = omega (arith, x.least (next t s c.byte) c.rest to c.hits);
          from-state = omega (arith, x.least s (c.byte ∷ c.rest) hs (hits-cons s c.byte fits c.hits));
        }

    -- ---- with the lowest byte of least distance and the first tail from there
    module _ (b : ℕ) (n : NearestByte t d s lo hi b) (v : List ℕ) (f : FirstIn (Hits t (next t s b)) v) where
      -- against a string that leaves by c
      against : (c : ℕ) (u : List ℕ) → lo ≤ c → c < hi → Hits t (next t s c) u → NotAfter (b ∷ v) (c ∷ u)
      against c u l g i =
          let long = tail-length (next t s b) (wf.closed s b hs (omega (arith, n.below-hi))) n.near v f in
          let far = x.least (next t s c) u (wf.closed s c hs (omega arith)) i in
          let near = n.least c l g in
          ⊎_elim
          (λ m. inl (omega (arith, n.lowest c l m, far, long)))
          (λ m. ⊎_elim
          (λ e. subst (λ (k : ℕ). NotAfter (b ∷ v) (k ∷ u)) e
          (not-after-behind (b ∷ []) v u (f.first u (subst (λ (k : ℕ). Hits t (next t s k) u) (sym e) i))))
          (λ e. not-after (b ∷ v) (c ∷ u) (omega (arith, far, near, long)) (≼-lower b c v u (omega arith)))
          (cases_eq b c))
          (cases_lt c b)

      pub class-first : FirstIn (InClass t p s lo hi) (p ++ (b ∷ v))
      class-first = record {
        is-one = record { byte = b; rest = v; low = n.from-lo; high = n.below-hi; hits = f.is-one; whole = refl };
        first = λ u i. subst (NotAfter (p ++ (b ∷ v))) (sym i.whole)
            (not-after-behind p (b ∷ v) (i.byte ∷ i.rest) (against i.byte i.rest i.low i.high i.hits));
      }

  -- ---- the accepted strings of the class, where p leads to s
  module _ (wf : WellFormed t) (p : List ℕ) (s lo hi : ℕ) (e : s ≡ run t 0 p) (hs : s < states t) (h : hi ≤ 256) where
    in-class : (v w : List ℕ) → v ≡ p ++ w → (lo ∷ []) ≼ w → w ≺ (hi ∷ []) → Hits t s w → InClass t p s lo hi v
    in-class v [] q l u i = absurd (not-cons-≼-nil lo [] l)
    in-class v (b ∷ w) q l u i = record {
      byte = b;
      rest = w;
      low = ⊎_elim (λ y. omega arith) (λ y. omega (arith, y.0)) (≼-heads lo b [] w l);
      high = ⊎_elim (λ y. y) (λ y. absurd (not-≺-nil w y.1)) (≺-heads b hi w [] u);
      hits = (hits-tail s b i).1;
      whole = q;
    }

    in-between : (v : List ℕ) → AcceptedBetween t (p ++ (lo ∷ [])) (p ++ (hi ∷ [])) v → InClass t p s lo hi v
    in-between v i =
        let w = begins-with p (lo ∷ []) (hi ∷ []) v i.from-a i.below-b in
        in-class v w.rest w.whole w.from-a w.below-b (rw (← e) at (hits-behind 0 p w.rest (rw w.whole at i.hits)))

    pub class-byte : (v : List ℕ) → AcceptedBetween t (p ++ (lo ∷ [])) (p ++ (hi ∷ [])) v → ClassByte t d p s lo hi v
    class-byte v i = class-byte-of wf p s lo hi hs h v (in-between v i)

    pub class-between : Bytes p → (b : ℕ) → NearestByte t d s lo hi b → (v : List ℕ) → FirstIn (Hits t (next t s b)) v
        → FirstIn (AcceptedBetween t (p ++ (lo ∷ [])) (p ++ (hi ∷ []))) (p ++ (b ∷ v))
    class-between bytes b n v f =
        let l = leaving p v b lo hi n.from-lo n.below-hi in
        let i = hits-cons s b (omega (arith, n.below-hi)) f.is-one in
        first-map (AcceptedBetween t (p ++ (lo ∷ [])) (p ++ (hi ∷ [])))
        (λ c. record {
          hits = hits-append 0 p bytes (subst (λ (q : ℕ). Hits t q (b ∷ v)) e i);
          from-a = l.0;
          below-b = l.1;
        })
        in-between
        (class-first wf p s lo hi hs h b n v f)

-- no string in between
pub none-between : {t d a b : List ℕ} {c : Leaving} → c.last ≡ no_place → ((v : List ℕ) → AcceptedBetween t a b v → ⊥)
    → FirstBetween t d a b c
none-between e f = record { least = λ v i. absurd (f v i); leads = λ l. absurd (omega arith); first = λ l. absurd (omega arith) }
