-- The first example: there is one at most, so that two calls write the same bytes; it isn't long; and it lies between two bounds.
use mathlib.Core.Path.{◌≡◌, refl, sym, ap, ◌∙◌, subst}
use mathlib.Core.List.{List, [], ◌∷◌, ◌++◌}
use mathlib.Core.Bool.{false≢true}
use mathlib.Core.Option.{Option, none, some}
use mathlib.Core.Logic.{⊎_elim}
use Prim.Native.Nat.{ℕ, ◌+◌, ◌≤◌, ◌<◌, zero-le}
use native.Mathlib.Omega.{arith}
use borrow.Table.Steps.{cases}
use lib.Dec.{eqb}
use lib.ListN.{length, take, drop, length-append, take-append-drop}
use lib.Seq.{length-take-le, take_at, sets-eq}
use Rattle.std.proofs.lemmas.Bool.{cases_lt}
use Rattle.keys.specs.Order.{less, ◌≺◌, ◌≼◌}
use Rattle.keys.proofs.Order.{less-trans, ≼-cases, ≺-≼-trans, prefix-≺}
use Rattle.automaton.specs.Table.{WellFormed, flag}
use Rattle.automaton.specs.Words.{Bytes, run, Hits}
use Rattle.automaton.proofs.Strings.{bytes_take, run-states, hits-append, can-match-hits}
use Rattle.pruning.specs.Interval.{Marked}
use Rattle.example_distance.specs.Distance.{Distances}
use Rattle.example_leaving.specs.First.{FirstIn}
use Rattle.example_leaving.specs.Leaving.{AcceptedBetween, FirstBetween, StringPut, string_with, no_place}
use Rattle.example_leaving.specs.declared.Leaving.{Leaving}
use Rattle.example_leaving.proofs.Bounds.{≼-byte, next-string}
use Rattle.example_leaving.proofs.Class.{hits-behind}
use Rattle.example_leaving.proofs.First.{not-longer, first-unique, first-map}
use Rattle.example_leaving.proofs.Tails.{tail-exists}
use Rattle.example_walk.proofs.Keep.{string-length}
use Rattle.example.specs.Example.{longer, ExampleNo, Accepted, FirstExample, Shown, ExampleFor}

-- ---- there is one at most
pub example-unique : (t : List ℕ) (start : Option (List ℕ)) (end v w : List ℕ) → FirstExample t start end v → FirstExample t start end w
    → v ≡ w
example-unique t start end v w x y = first-unique v w x y

pub shown-same : {t : List ℕ} {start : Option (List ℕ)} {end out new out' new' : List ℕ} {l m : ℕ} (x : Shown t start end out new l)
    (y : Shown t start end out' new' m) → (x.string ≡ y.string) × (l ≡ m)
shown-same {t} {start} {end} x y =
    let e = example-unique t start end x.string y.string x.first y.first in (e, x.whole ∙ ap length e ∙ sym y.whole)

-- so two calls for an interval write the same bytes, whatever stood in their outputs
shown-front : {t : List ℕ} {start : Option (List ℕ)} {end out new : List ℕ} {l : ℕ} (x : Shown t start end out new l)
    → longer start end + 64 ≤ length out → take l new ≡ x.string
shown-front {out = out} x fits =
    rw (x.bytes, x.whole, sets-eq x.string out 0 (omega (arith, x.whole, x.short)))
    (take_at x.string (drop (0 + length x.string) out) (length x.string) refl)

fits-room : {t : List ℕ} {start : Option (List ℕ)} {end : List ℕ} {room k : ℕ} → ExampleNo t start end room k → k ≡ 0
    → longer start end + 64 ≤ room
fits-room (ExampleNo.table k pos e) z = absurd (omega arith)
fits-room (ExampleNo.short ok room) z = absurd (omega arith)
fits-room (ExampleNo.nothing ok fits n) z = fits
fits-room (ExampleNo.accepted ok fits m) z = fits

pub same-bytes : {t : List ℕ} {start : Option (List ℕ)} {end out new out' new' : List ℕ} {l m : ℕ} → ExampleFor t start end out new 0 l
    → ExampleFor t start end out' new' 0 m → (l ≡ m) × (take l new ≡ take m new')
same-bytes x y =
    let a = x.leaves.taken refl in
    let b = y.leaves.taken refl in
    let (e, long) = shown-same a b in
    (long, shown-front a (fits-room x.number refl) ∙ e ∙ sym (shown-front b (fits-room y.number refl)))

-- ---- it isn't long: behind more bytes than the longer key has, each string to acceptance stays in the interval
less-long : (a p u v : List ℕ) → length a < length p → less a (p ++ u) ≡ less a (p ++ v)
unfolding less
less-long a [] u v h = absurd (omega arith)
less-long [] (x ∷ p) u v h = refl
less-long (y ∷ a) (x ∷ p) u v h = cases (eqb y x) (λ e. simp e (less-long a p u v (omega arith))) (λ e. simp e)

accepted-long : {t : List ℕ} (start : Option (List ℕ)) (end p u v : List ℕ) → longer start end < length p → Hits t 0 (p ++ v)
    → Accepted t start end (p ++ u) → Accepted t start end (p ++ v)
accepted-long none end p u v h i (j, l, r) = (i, tt, sym (less-long end p u v h) ∙ r)
accepted-long (some start) end p u v h i (j, l, r) =
    (i, sym (less-long start p u v (omega arith)) ∙ l, sym (less-long end p u v (omega arith)) ∙ r)

module _ {t d : List ℕ} (x : Distances t d) (wf : WellFormed t) (start : Option (List ℕ)) (end : List ℕ) where
  -- and the first is no longer than p with a shortest of them
  short-behind : (p u : List ℕ) → Bytes p → length p ≡ longer start end + 1 → FirstExample t start end (p ++ u)
      → length (p ++ u) ≤ longer start end + 64
  short-behind p u bytes long f =
      let s = run t 0 p in
      let hs = run-states wf 0 p wf.some bytes in
      let near = x.far s hs (can-match-hits (hits-behind 0 p u f.is-one.0)) in
      let m = x.near s hs near in
      let v = m.string in
      let accepted = accepted-long start end p u v (omega arith) (hits-append 0 p bytes m.hits) f.is-one in
      omega (arith, not-longer (p ++ u) (p ++ v) (f.first (p ++ v) accepted), length-append p v, long, m.good, near)

  pub example-short : (w : List ℕ) → FirstExample t start end w → length w ≤ longer start end + 64
  example-short w f =
      ⊎_elim
      (λ h.
      let n = longer start end + 1 in
      let p = take n w in
      let u = drop n w in
      let e : p ++ u ≡ w = take-append-drop n w in
      subst (λ (v : List ℕ). length v ≤ longer start end + 64) e
      (short-behind p u (bytes_take n w f.is-one.0.bytes) (length-take-le n w (omega arith))
      (subst (FirstExample t start end) (sym e) f)))
      (λ h. omega arith)
      (cases_lt (longer start end) (length w))

-- ---- the bounds: what isn't above a key is below the key and a 0. No start is the same as an empty one but for the empty string
abbrev pub key_of : Option (List ℕ) → List ℕ
key_of none = []
key_of (some start) = start

abbrev pub EmptyLeft : List ℕ → Option (List ℕ) → Type 0
EmptyLeft t none = flag t 0 ≡ 1 → ⊥
EmptyLeft t (some start) = Unit {0}

-- c is the first string between the bounds
pub record FirstInside (t d : List ℕ) (start : Option (List ℕ)) (end : List ℕ) (c : Leaving) : Type 0 where
  pub measured : Distances t d
  pub well_formed : WellFormed t
  pub empty-left : EmptyLeft t start
  pub between : FirstBetween t d (key_of start ++ (0 ∷ [])) (end ++ (0 ∷ [])) c

up-to : (key v : List ℕ) → v ≼ key → v ≺ (key ++ (0 ∷ []))
up-to key v h =
    ⊎_elim
    (λ l. less-trans v key (key ++ (0 ∷ [])) l (prefix-≺ key 0 []))
    (λ e. rw e (prefix-≺ key 0 []))
    (≼-cases v key h)

not-above : (key v : List ℕ) → v ≺ (key ++ (0 ∷ [])) → v ≼ key
not-above key v h = cases (less key v) (λ e. absurd (false≢true (sym (next-string key v e) ∙ h))) (λ e. e)

module _ {t : List ℕ} (end : List ℕ) where
  from-bounds : (start : Option (List ℕ)) (v : List ℕ) → AcceptedBetween t (key_of start ++ (0 ∷ [])) (end ++ (0 ∷ [])) v
      → Accepted t start end v
  from-bounds none v i = (i.hits, tt, not-above end v i.below-b)
  from-bounds (some start) v i =
      (i.hits, ≺-≼-trans start (start ++ (0 ∷ [])) v (prefix-≺ start 0 []) i.from-a, not-above end v i.below-b)

  to-bounds : (start : Option (List ℕ)) → EmptyLeft t start → (v : List ℕ) → Accepted t start end v
      → AcceptedBetween t (key_of start ++ (0 ∷ [])) (end ++ (0 ∷ [])) v
  unfolding run
  to-bounds none o [] (i, l, h) = absurd (o i.ends)
  to-bounds none o (b ∷ v) (i, l, h) = record { hits = i; from-a = ≼-byte 0 b v zero-le; below-b = up-to end (b ∷ v) h }
  to-bounds (some start) o v (i, l, h) = record { hits = i; from-a = next-string start v l; below-b = up-to end v h }

-- ---- the first string between the bounds is the example
module _ {t d : List ℕ} {start : Option (List ℕ)} {end : List ℕ} {c : Leaving} (z : FirstInside t d start end c) where
  pub none-marked : c.last ≡ no_place → Marked t start end → ⊥
  none-marked e m =
      let (there, l) = z.between.least m.string (to-bounds end start z.empty-left m.string (m.hits, m.good.0, m.good.1)) in
      omega (arith, e, there)

  module _ (there : c.last < no_place) where
    first-example : (tail : List ℕ) → FirstIn (Hits t c.state) tail → FirstExample t start end (string_with c tail)
    first-example tail f =
        first-map (Accepted t start end) (from-bounds end start (string_with c tail)) (to-bounds end start z.empty-left)
        (z.between.first there tail f)

    short-example : (tail : List ℕ) → FirstIn (Hits t c.state) tail → length (string_with c tail) ≤ longer start end + 64
    short-example tail f = example-short z.measured z.well_formed start end (string_with c tail) (first-example tail f)

    pub last-short : c.last < longer start end + 64
    last-short =
        let l = z.between.leads there in
        let (tail, f) = tail-exists z.measured z.well_formed c.state l.small l.near in
        omega (arith, string-length z.measured z.well_formed l tail f, short-example tail f)

    pub written-shown : {old new : List ℕ} {len : ℕ} → StringPut t c old new len → Shown t start end old new len
    written-shown w = record {
      string = string_with c w.tail;
      first = first-example w.tail w.is-first;
      whole = w.whole;
      short = omega (arith, w.whole, short-example w.tail w.is-first);
      bytes = w.put;
    }
