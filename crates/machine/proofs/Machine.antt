-- A list of calls on the builder with its areas answers what the plain machine answers, and leaves areas that stand for its entries.
use Prim.Native.Nat.{ℕ, zero, suc, ◌+◌, ◌-◌, ◌*◌, ◌≤◌, ◌<◌}
use mathlib.Core.Path.{◌≡◌, refl, sym, ap, ap₂, ◌∙◌}
use mathlib.Core.List.{List, [], ◌∷◌}
use native.Mathlib.Omega.{arith}
use Rattle.std.proofs.lemmas.Bool.Decides.{nat_tests}
use lib.ListN.{length, length-set}
use lib.Seq.{sets, length-sets}
use borrow.Author.Tests.{ne_eqb}
use Rattle.layout.specs.Layout.{max_blocks}
use Rattle.keys.specs.Shorten.{shorten}
use Rattle.keys.proofs.Shorten.{shorten-length}
use Rattle.group.specs.declared.BlockAddr.{BlockAddr}
use Rattle.builder.specs.View.{stride, View}
use Rattle.builder.specs.Rows.{add_no, shorten_no}
use Rattle.builder.specs.Area.{record_numbers, view_of}
use Rattle.builder.specs.Calls.{
  with_blocks,
  State,
  Called,
  step_of_add,
  add_def,
  short_blocks,
  short_keys,
  step_of_shorten,
  shorten_def,
}
use Rattle.builder.proofs.Numbers.{AddOk, add_ok}
use Rattle.machine.specs.Plain.{
  Entry,
  Call,
  add,
  shorten_last,
  key_bytes_taken,
  plain_view,
  call_no,
  taken,
  plain_next,
  plain_numbers,
  plain_end,
}
use Rattle.machine.specs.Runs.{FreshState, rooms_of, call_def, run_numbers, run_end}
use Rattle.machine.proofs.Entries.{
  Rep,
  fresh,
  rep-held,
  rep-view,
  plain-n,
  plain-next,
  plain-room,
  place_at,
  holds-added,
  holds-shortened,
}

-- ---- a call

-- what a call c on s, which stands for es, answers and leaves
pub record Step (c : Call) (es : List Entry) (s : State) (r : Called) : Type 0 where
  pub number : r.no ≡ call_no (plain_view (rooms_of s) es) c
  pub rooms : rooms_of r.state ≡ rooms_of s
  pub rep : Rep (plain_next (call_no (plain_view (rooms_of s) es) c) c es) r.state

-- an accepted add
module _ (es : List Entry) (s : State) (r : Rep es s) (key : List ℕ) (b : BlockAddr) where
  add-rep : add_no (plain_view (rooms_of s) es) key b ≡ 0
      → Rep (record { block = b; key = key } ∷ es) (record {
        builder = with_blocks s.builder (s.builder.n + 1);
        blocks =
            sets s.blocks (stride * s.builder.n) (record_numbers b (place_at (view_of s.builder s.blocks s.keys).next_key key));
        keys = sets s.keys (view_of s.builder s.blocks s.keys).next_key key;
      })
  unfolding key_bytes_taken
  add-rep e =
      let ok : AddOk (plain_view (rooms_of s) es) key b = add_ok (plain_view (rooms_of s) es) key b e in
      let n : (plain_view (rooms_of s) es).n ≡ length es = plain-n (rooms_of s) es in
      let k : (plain_view (rooms_of s) es).next_key ≡ key_bytes_taken es = plain-next (rooms_of s) es in
      let m = plain-room (rooms_of s) es in
      let five-fit : stride * length es + stride ≤ length s.blocks = omega (arith, ok.room.five) in
      let key_fits : key_bytes_taken es + length key ≤ length s.keys = omega (arith, ok.room.bytes) in
      let few : length es < max_blocks = omega (arith, ok.room.few, r.few) in
      rw (rep-view es s r, k, r.count)
      (record {
        count = omega arith;
        few = omega arith;
        inside = simp length-set (omega arith);
        within = simp length-sets key_fits;
        holds = holds-added es b key s.blocks s.keys five-fit key_fits r.holds;
      })

  add_step : (k : ℕ) → k ≡ add_no (view_of s.builder s.blocks s.keys) key b
      → Step (add key b) es s (step_of_add k s.builder s.blocks s.keys key b)
  unfolding step_of_add call_no plain_next taken
  add_step zero e =
      let z : add_no (plain_view (rooms_of s) es) key b ≡ 0 = sym (e ∙ ap (λ (v : View). add_no v key b) (rep-view es s r)) in
      record { number = sym z; rooms = simp (length-set, length-sets); rep = rw z (add-rep z) }
  add_step (suc k) e =
      let z : add_no (plain_view (rooms_of s) es) key b ≡ suc k = sym (e ∙ ap (λ (v : View). add_no v key b) (rep-view es s r)) in
      record { number = sym z; rooms = refl; rep = rw z r }

-- an accepted shorten
abbrev shortened : State → List ℕ → State
shortened s next = record {
  builder = s.builder;
  blocks = short_blocks s.builder.n s.blocks s.keys next;
  keys = short_keys s.builder.n s.blocks s.keys next;
}

short-some : (e : Entry) (es : List Entry) (s : State) (next : List ℕ) → Rep (e ∷ es) s
    → Rep (record { block = e.block; key = shorten e.key next } ∷ es) (shortened s next)
unfolding short_blocks short_keys key_bytes_taken
short-some e es s next r =
    let h = rep-held e es s r in
    let l = shorten-length e.key next in
    let fits : key_bytes_taken es + length (shorten e.key next) ≤ length s.keys = omega (arith, r.within) in
    let last : s.builder.n - 1 ≡ length es = omega (arith, r.count) in
    rw (ne_eqb s.builder.n 0 (λ z. omega (arith, r.count)), last, h.key, h.offset)
    (record {
      count = r.count;
      few = r.few;
      inside = simp length-set r.inside;
      within = simp length-sets fits;
      holds = holds-shortened e es (shorten e.key next) s.blocks s.keys (omega (arith, r.inside)) fits r.holds;
    })

short-rep : (es : List Entry) (s : State) (next : List ℕ) → Rep es s → Rep (taken (shorten_last next) es) (shortened s next)
unfolding taken
short-rep [] s next r = fresh (shortened s next) r.count
short-rep (e ∷ es) s next r = short-some e es s next r

length-short_blocks : (n : ℕ) (B K next : List ℕ) → length (short_blocks n B K next) ≡ length B
unfolding short_blocks
length-short_blocks n B K next = grind (arith, nat_tests, length-set)

length-short_keys : (n : ℕ) (B K next : List ℕ) → length (short_keys n B K next) ≡ length K
unfolding short_keys
length-short_keys n B K next = grind (arith, nat_tests, length-sets)

shorten-step : (es : List Entry) (s : State) → Rep es s → (next : List ℕ) (k : ℕ)
    → k ≡ shorten_no (view_of s.builder s.blocks s.keys) next
    → Step (shorten_last next) es s (step_of_shorten k s.builder s.blocks s.keys next)
unfolding step_of_shorten call_no plain_next
shorten-step es s r next zero e =
    let z : shorten_no (plain_view (rooms_of s) es) next ≡ 0 = sym (e ∙ ap (λ (v : View). shorten_no v next) (rep-view es s r)) in
    record { number = sym z; rooms = simp (length-short_blocks, length-short_keys); rep = rw z (short-rep es s next r) }
shorten-step es s r next (suc k) e =
    let z : shorten_no (plain_view (rooms_of s) es) next ≡ suc k = sym (e ∙ ap (λ (v : View). shorten_no v next) (rep-view es s r)) in
    record { number = sym z; rooms = refl; rep = rw z r }

pub step : (c : Call) (es : List Entry) (s : State) → Rep es s → Step c es s (call_def c s)
unfolding call_def add_def shorten_def
step (add key b) es s r = add_step es s r key b _ refl
step (shorten_last next) es s r = shorten-step es s r next _ refl

-- ---- a list of calls

-- what a list of calls on s, which stands for es, answers and leaves
pub record Run (cs : List Call) (es : List Entry) (s : State) : Type 0 where
  pub numbers : run_numbers cs s ≡ plain_numbers (rooms_of s) cs es
  pub rooms : rooms_of (run_end cs s) ≡ rooms_of s
  pub rep : Rep (plain_end (rooms_of s) cs es) (run_end cs s)

pub run : (cs : List Call) (es : List Entry) (s : State) → Rep es s → Run cs es s
unfolding run_numbers plain_numbers run_end plain_end
run [] es s r = record { numbers = refl; rooms = refl; rep = r }
run (c ∷ cs) es s r =
    let t = step c es s r in
    let k : ℕ = call_no (plain_view (rooms_of s) es) c in
    let ih : Run cs (plain_next k c es) (call_def c s).state = run cs (plain_next k c es) (call_def c s).state t.rep in
    let w : rooms_of (call_def c s).state ≡ rooms_of s = t.rooms in
    record {
      numbers = ap₂ (λ (x : ℕ) (l : List ℕ). x ∷ l) t.number (rw w at ih.numbers);
      rooms = ih.rooms ∙ w;
      rep = rw w at ih.rep;
    }

pub run-fresh : (cs : List Call) (s : State) → FreshState s → Run cs [] s
run-fresh cs s e = run cs [] s (fresh s e)
