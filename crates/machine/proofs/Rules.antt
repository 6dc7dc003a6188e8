-- The entries that a list of calls leaves keep rows 2 to 6.
use Prim.Native.Nat.{ℕ, zero, suc, ◌≤◌}
use mathlib.Core.Path.{◌≡◌, refl}
use mathlib.Core.List.{List, [], ◌∷◌}
use native.Mathlib.Omega.{arith}
use lib.ListN.{length}
use Rattle.layout.specs.Layout.{max_key_len}
use Rattle.keys.specs.Order.{◌≺◌}
use Rattle.keys.specs.Shorten.{shorten}
use Rattle.keys.proofs.Order.{≺-≼-trans}
use Rattle.keys.proofs.Shorten.{shorten-not-below, shorten-length}
use Rattle.group.specs.declared.BlockAddr.{BlockAddr}
use Rattle.group.specs.Legal.{NumbersOk, Follows}
use Rattle.builder.specs.Calls.{State}
use Rattle.builder.proofs.Numbers.{BlockOk, add_ok}
use Rattle.machine.specs.Plain.{Entry, Call, add, shorten_last, Rooms, plain_view, call_no, taken, plain_next, plain_end}
use Rattle.machine.specs.Runs.{FreshState, rooms_of}
use Rattle.machine.proofs.Machine.{Run, run-fresh}

-- rows 2 and 3: an entry by itself
pub record EntryOk (e : Entry) : Type 0 where
  pub short : length e.key ≤ max_key_len
  pub numbers : NumbersOk e.block

-- rows 4, 5 and 6: an entry e after p
pub record Behind (p e : Entry) : Type 0 where
  pub follows : Follows p.block e.block
  pub rises : p.key ≺ e.key

-- entries, newest first, keep the rows
pub data EntriesOk : List Entry → Type 0 where
  none : EntriesOk []
  first : {e : Entry} → EntryOk e → EntriesOk (e ∷ [])
  more : {e p : Entry} {es : List Entry} → EntryOk e → Behind p e → EntriesOk (p ∷ es) → EntriesOk (e ∷ p ∷ es)

-- an accepted add
added : (rooms : Rooms) (es : List Entry) (key : List ℕ) (b : BlockAddr) → BlockOk (plain_view rooms es) key key b → EntriesOk es
    → EntriesOk (record { block = b; key = key } ∷ es)
unfolding plain_view
added rooms [] key b k ok = first (record { short = k.short; numbers = k.numbers })
added rooms (p ∷ es) key b k ok =
    more
    (record { short = k.short; numbers = k.numbers })
    (record { follows = k.follows (λ z. omega arith); rises = k.above (λ z. omega arith) })
    ok

-- an accepted shorten: the shortened key is no longer than the old one and not below it
shorter : (e : Entry) (next : List ℕ) → EntryOk e → EntryOk (record { block = e.block; key = shorten e.key next })
shorter e next k = record { short = omega (arith, k.short, shorten-length e.key next); numbers = k.numbers }

shortened : (es : List Entry) (next : List ℕ) → EntriesOk es → EntriesOk (taken (shorten_last next) es)
unfolding taken
shortened [] next ok = none
shortened (e ∷ []) next (first k) = first (shorter e next k)
shortened (e ∷ p ∷ es) next (more k b ok) =
    more
    (shorter e next k)
    (record {
      follows = b.follows;
      rises = ≺-≼-trans p.key e.key (shorten e.key next) b.rises (shorten-not-below e.key next);
    })
    ok

accepted : (rooms : Rooms) (es : List Entry) (c : Call) → call_no (plain_view rooms es) c ≡ 0 → EntriesOk es
    → EntriesOk (taken c es)
unfolding call_no taken
accepted rooms es (add key b) e ok = added rooms es key b (add_ok (plain_view rooms es) key b e).block ok
accepted rooms es (shorten_last next) e ok = shortened es next ok

-- each call keeps the rows
next-ok : (rooms : Rooms) (es : List Entry) (c : Call) (k : ℕ) → call_no (plain_view rooms es) c ≡ k → EntriesOk es
    → EntriesOk (plain_next k c es)
unfolding plain_next
next-ok rooms es c zero e ok = accepted rooms es c e ok
next-ok rooms es c (suc k) e ok = ok

pub entries-step : (rooms : Rooms) (es : List Entry) (c : Call) → EntriesOk es → EntriesOk (plain_next (call_no (plain_view rooms es) c) c
    es)
entries-step rooms es c ok = next-ok rooms es c (call_no (plain_view rooms es) c) refl ok

pub entries-run : (rooms : Rooms) (cs : List Call) (es : List Entry) → EntriesOk es → EntriesOk (plain_end rooms cs es)
unfolding plain_end
entries-run rooms [] es ok = ok
entries-run rooms (c ∷ cs) es ok = entries-run rooms cs _ (entries-step rooms es c ok)

-- from no entry on
pub entries-ok : (rooms : Rooms) (cs : List Call) → EntriesOk (plain_end rooms cs [])
entries-ok rooms cs = entries-run rooms cs [] none

-- a fresh builder's areas stand for entries that keep the rows
pub run-rules : (cs : List Call) (s : State) → FreshState s → Run cs [] s × EntriesOk (plain_end (rooms_of s) cs [])
run-rules cs s e = (run-fresh cs s e, entries-ok (rooms_of s) cs)
