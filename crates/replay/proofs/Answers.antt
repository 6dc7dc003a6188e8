-- What each lookup and the listing answer in the entries' index, as the answer's five numbers.
use Prim.Native.Nat.{ℕ, zero, suc, ◌+◌, ◌-◌, ◌≤◌}
use mathlib.Core.Path.{◌≡◌, refl, sym, ap, ap₂, ◌∙◌}
use mathlib.Core.List.{List, [], ◌++◌}
use Rattle.std.specs.Prelude.{Result, Ok, Err, MatchResult}
use borrow.Table.Steps.{cases}
use Rattle.layout.specs.declared.refusals.Refusal.{Refusal}
use Rattle.layout.specs.Refusals.{number_of}
use Rattle.layout.proofs.Numbers.{number_positive}
use Rattle.store.specs.declared.Located.{Located}
use Rattle.index.specs.Answers.{by_id_no, by_id_addr, id_no, id_of, located_no, located_id, located_addr}
use native.Mathlib.Nat.{zero-add, le_refl}
use native.Mathlib.Omega.{arith}
use lib.Dec.{ltb}
use lib.ListN.{length, get_or, drop, replicate, length-replicate, get_or-append, get_or-eq_default}
use lib.Seq.{sets, sets-eq, get_or-append-add, get_or-drop}
use borrow.Author.Tests.{ltb-true, ltb-false, le-ltb}
use Rattle.group.specs.declared.BlockAddr.{BlockAddr}
use Rattle.group.specs.Rows.{or_row}
use Rattle.builder.specs.Index.{Settings}
use Rattle.machine.specs.Plain.{Entry}
use Rattle.automaton.specs.Table.{table_no}
use Rattle.index.specs.declared.SSTableIndexV3.{SSTableIndexV3}
use Rattle.index.specs.Lookups.{GetBlock, LocateWithOrd, LocateWithKey, GetBlockWithKey}
use Rattle.listing.specs.Listing.{Listing, GetBlockForAutomaton, listed_no, listed_count}
use Rattle.demands.specs.Demand3.{entry_separator}
use Rattle.replay_cells.specs.Cells.{cells}
use Rattle.replay.specs.Replay.{IdAnswer, OrdAnswer, KeyAnswer, AddrAnswer, MarkAnswer}
use Rattle.replay.specs.Asked.{Indexed}

abbrev zeros : ℕ → List ℕ
zeros n = replicate n 0

pub zeros-long : (n : ℕ) → n ≤ length (zeros n)
zeros-long n = rw (length-replicate {A = ℕ} n 0) (le_refl n)

-- a run written over zeros, read at any place
pub over_zeros : (l w : List ℕ) → length w ≤ length l → ((i : ℕ) → get_or l i 0 ≡ 0) → (i : ℕ) → get_or (sets l 0 w) i 0 ≡ get_or w i 0
over_zeros l w h zeros i =
    rw (sets-eq w l 0 (omega arith), zero-add (length w))
    (cases (ltb i (length w))
    (λ t. get_or-append w (drop (length w) l) 0 i (ltb-true i (length w) t))
    (λ t.
    let behind : length w ≤ i = ltb-false i (length w) t in
    let rest : ℕ = i - length w in
    let place : i ≡ length w + rest = omega arith in
    ap (λ (j : ℕ). get_or (w ++ drop (length w) l) j 0) place
    ∙ get_or-append-add w (drop (length w) l) rest 0 ∙ get_or-drop (length w) l rest 0 ∙ zeros (length w + rest)
    ∙ sym (get_or-eq_default w 0 behind)))

or-none : (k : ℕ) → or_row k 0 ≡ k
or-none zero = refl
or-none (suc k) = refl

-- ---- an answer's five numbers, from what Cells::answered says

abbrev Refused : List ℕ → Refusal → Type 0
Refused cs e = cs ≡ cells (number_of e) 0 0 0 0

id_written : (r : Result BlockAddr Refusal) (cs : List ℕ) → MatchResult r (λ b. cs ≡ cells 0 0 b.start b.end b.first_ordinal) (Refused cs)
    → cs ≡ cells (by_id_no r) 0 (by_id_addr r).start (by_id_addr r).end (by_id_addr r).first_ordinal
id_written (Ok b) cs w = w
id_written (Err e) cs w = w

key_written : (r : Result ℕ Refusal) (cs : List ℕ) → MatchResult r (λ id. cs ≡ cells 0 id 0 0 0) (Refused cs)
    → cs ≡ cells (id_no r) (id_of r) 0 0 0
key_written (Ok id) cs w = w
key_written (Err e) cs w = w

abbrev Located_as : List ℕ → Located → Type 0
Located_as cs l = cs ≡ cells 0 l.block_id l.addr.start l.addr.end l.addr.first_ordinal

located_written : (r : Result Located Refusal) (cs : List ℕ) → MatchResult r (Located_as cs) (Refused cs)
    → cs ≡ cells (located_no r) (located_id r) (located_addr r).start (located_addr r).end (located_addr r).first_ordinal
located_written (Ok l) cs w = w
located_written (Err e) cs w = w

module _ {S : Settings} {terms : ℕ} {es : List Entry} {f : List ℕ} {opened : SSTableIndexV3} (x : Indexed S terms es f opened) where
  pub id_answer : (id : ℕ) (r : Result BlockAddr Refusal) (cs : List ℕ) → GetBlock f opened id (by_id_no r) (by_id_addr r)
      → MatchResult r (λ b. cs ≡ cells 0 0 b.start b.end b.first_ordinal) (Refused cs) → IdAnswer es id cs
  id_answer id r cs g w = record {
    no = by_id_no r;
    addr = by_id_addr r;
    written = id_written r cs w;
    right = x.finds.by-id id _ _ g;
  }

  pub ord_answer : (ord : ℕ) (r : Result Located Refusal) (cs : List ℕ)
      → LocateWithOrd f opened ord (located_no r) (located_id r) (located_addr r)
      → MatchResult r (Located_as cs) (Refused cs) → OrdAnswer terms es ord cs
  ord_answer ord r cs g w = record {
    no = located_no r;
    id = located_id r;
    addr = located_addr r;
    written = located_written r cs w;
    right = x.finds.by-ordinal ord _ _ _ g;
  }

  pub key_answer : (key : List ℕ) (r : Result ℕ Refusal) (cs : List ℕ) → LocateWithKey f opened key (id_no r) (id_of r)
      → MatchResult r (λ id. cs ≡ cells 0 id 0 0 0) (Refused cs) → KeyAnswer es key cs
  key_answer key r cs g w = record { no = id_no r; id = id_of r; written = key_written r cs w; right = x.finds.by_key key _ _ g }

  pub addr_answer : (key : List ℕ) (r : Result Located Refusal) (cs : List ℕ)
      → GetBlockWithKey f opened key (located_no r) (located_id r) (located_addr r)
      → MatchResult r (Located_as cs) (Refused cs) → AddrAnswer es key cs
  addr_answer key r cs g w = record {
    no = located_no r;
    id = located_id r;
    addr = located_addr r;
    written = located_written r cs w;
    right = x.finds.address-by-key key _ _ _ g;
  }

  -- a listing
  module _ (i : ℕ) (t marks written : List ℕ) (r : Result ℕ Refusal)
      (g : GetBlockForAutomaton f opened t marks written (listed_no r) (listed_count r)) (room : 65536 ≤ length marks) where
    fits : length es ≤ length marks
    fits = omega (arith, x.few)

    -- refused for the table alone: there is room for all marks
    number : listed_no r ≡ table_no t
    number =
        (x.finds.listing t marks written (listed_no r) (listed_count r) g).0
        ∙ rw (le-ltb (length marks) (length es) fits) (or-none (table_no t))

    pub unlisted_answer : (e : Refusal) → r ≡ Err e → MarkAnswer es i t (cells (number_of e) 0 0 0 0)
    unlisted_answer e is =
        let same : number_of e ≡ table_no t = rw is at number in
        record {
          refused = λ h. ap (λ (j : ℕ). cells j 0 0 0 0) same;
          marks = [];
          listed = λ z. absurd (let y : ⊥ = omega (arith, number_positive e) in y);
        }

    pub listed_answer : (count : ℕ) → r ≡ Ok count → ((j : ℕ) → get_or marks j 0 ≡ 0)
        → MarkAnswer es i t (cells 0 count (get_or written i 0) 0 0)
    listed_answer count is zeros =
        let none : table_no t ≡ 0 = sym (rw is at number) in
        let l : Listing t (entry_separator es) (length es) marks written count
        = rw is at ((x.finds.listing t marks written (listed_no r) (listed_count r) g).1.taken (number ∙ none)) in
        let mark : get_or written i 0 ≡ get_or l.list i 0
        = ap (λ (w : List ℕ). get_or w i 0) l.bytes ∙ over_zeros marks l.list (omega (arith, l.right.long, fits)) zeros i in
        record {
          refused = λ h. absurd (let y : ⊥ = omega arith in y);
          marks = l.list;
          listed = λ e. (l.right, ap₂ (λ (a b : ℕ). cells 0 a b 0 0) l.counted mark);
        }
