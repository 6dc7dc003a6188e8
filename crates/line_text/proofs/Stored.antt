-- Parts stored one behind the other at the front of an area are their texts joined.
use mathlib.Core.Path.{◌≡◌, ◌∙◌}
use mathlib.Core.List.{List, [], ◌∷◌, ◌++◌, append_assoc}
use Prim.Native.Nat.{ℕ, ◌+◌, ◌≤◌}
use native.Mathlib.Nat.{zero-add}
use native.Mathlib.Numerals.{add-one}
use Rattle.std.proofs.lemmas.List.{drop-drop}
use Rattle.std.proofs.lemmas.List.Edits.{sets-eq}
use native.Mathlib.Omega.{arith}
use lib.ListN.{length, take, drop, set, length-append}
use lib.Seq.{sets}
use Rattle.serialize.proofs.Stores.{sets-append}
use Rattle.group.specs.declared.BlockAddr.{BlockAddr}
use Rattle.line_text.specs.Lines.{decimal, separator_text, line_of, refused_text, refused_line}
use Rattle.line_text.proofs.Written.{to_start, to_end, to-ordinal, to-separator, parts-line}

-- a text at the front of what was the area d, and where the next part goes
pub record Wrote (d out : List ℕ) (at : ℕ) (text : List ℕ) : Type 0 where
  pub end : at ≡ length text
  pub stored : out ≡ sets d 0 text

pub wrote-first : (d out w : List ℕ) (r : ℕ) → (r ≡ 0 + length w) × (out ≡ sets d 0 w) → Wrote d out r w
wrote-first d out w r q = record { end = q.0 ∙ zero-add (length w); stored = q.1 }

pub wrote-next : (d out : List ℕ) (at : ℕ) (text : List ℕ) → Wrote d out at text → (out' w : List ℕ) (r : ℕ)
    → (r ≡ at + length w) × (out' ≡ sets out at w) → Wrote d out' r (text ++ w)
wrote-next d out at text p out' w r q = record {
  end = omega (arith, p.end, q.0, length-append text w);
  stored = q.1 ∙ rw (p.stored, p.end) (rw (zero-add (length text)) at (sets-append d text w 0));
}

-- a text over a part of the area, behind a sign
pub stored-behind : (out new text : List ℕ) (at sign r : ℕ) → (r ≡ at + 1) × (new ≡ set out at sign) → r + length text ≤ length new
    → take r new ++ (text ++ drop (length text) (drop r new)) ≡ sets out at (sign ∷ text)
stored-behind out new text at sign r p h =
    let here : take r new ++ (text ++ drop (length text) (drop r new)) ≡ sets new r text =
    rw (sets-eq text new r h, append_assoc, drop-drop) (cc) in
    here ∙ rw (p.0, p.1, add-one at)

-- how long a line is, by its parts
pub line-parts : (id : ℕ) (b : BlockAddr) (s : List ℕ)
    → length (line_of id b s) ≡ length (decimal id) + length (32 ∷ decimal b.start) + length (32 ∷ decimal b.end)
    + length (32 ∷ decimal b.first_ordinal) + length (32 ∷ separator_text s) + 1
line-parts id b s =
    rw (← (parts-line id b s))
    (omega (
      arith,
      length-append (decimal id) (32 ∷ decimal b.start),
      length-append (to_start id b) (32 ∷ decimal b.end),
      length-append (to_end id b) (32 ∷ decimal b.first_ordinal),
      length-append (to-ordinal id b) (32 ∷ separator_text s),
      length-append (to-separator id b s) (10 ∷ []),
    ))

pub refused-parts : (k : ℕ) → length (refused_line k) ≡ 8 + length (decimal k) + 1
unfolding refused_line
refused-parts k = omega (arith, length-append refused_text (decimal k ++ (10 ∷ [])), length-append (decimal k) (10 ∷ []))
