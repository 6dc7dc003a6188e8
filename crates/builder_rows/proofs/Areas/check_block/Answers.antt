-- `Areas::check_block` meets its contract: each way out is the first row that is hit.
use Rattle.std.proofs.Common.{◌≡◌, ◌<◌, Bool, false, refl, sym, ap, ◌∙◌}
use Rattle.std.specs.Prelude.{◌&&◌, ltb}
use borrow.Author.Tests.{lt-ltb}
use Rattle.layout.proofs.Numbers.{number_positive}
use Rattle.group.specs.declared.BlockAddr.{BlockAddr}
use Rattle.group.specs.Rows.{is_join_bad, is_ordinal_bad}
use Rattle.builder.specs.View.{View}
use Rattle.builder.proofs.Cased.{passed-number}
use Rattle.builder.proofs.Numbers.{row-key, row-three, row-four, row-five, row-six, no_row, behind-good}
use Rattle.builder_rows.specs.Shown.{shown}
use Rattle.builder_rows.proofs.Areas.check_block.Goals as goal
use Rattle.builder_rows.proofs.Areas.check_block.Goals.{in-Some+else-join_bad+else-ordinal_bad, in_default}

-- a test of the last block, as the view has it
seen : (test : BlockAddr → BlockAddr → Bool) {block last shown : BlockAddr} {r t : Bool}
    → r ≡ test last block → last ≡ shown → r ≡ t → test shown block ≡ t
seen test {block} e w h = sym (ap (λ (l : BlockAddr). test l block) w) ∙ sym e ∙ h

pub returns-in_err-check_key : goal.returns-in_err-check_key
returns-in_err-check_key c =
    let e = c.in_err-check_key.field-0.0 in
    passed-number c.from_residual.result e c.from_residual.ensures.1
    ∙ row-key (shown c.args.self.now) c.args.given.now c.args.key.now c.args.block _ c.in_err-check_key.ensures (number_positive e)

pub returns-then-numbers_bad : goal.returns-then-numbers_bad
returns-then-numbers_bad c =
    row-three _ _ _ _ _ c.in_ok-check_key.ensures refl (sym c.numbers_bad.ensures ∙ c.if-numbers_bad.true)

pub returns-then-join_bad : goal.returns-then-join_bad
returns-then-join_bad c =
    let last = c.in-Some.ensures in
    row-four _ _ _ _ _ c.in_ok-check_key.ensures refl (sym c.numbers_bad.ensures ∙ c.if-numbers_bad.false) last.0
    (seen is_join_bad c.join_bad.ensures last.1 c.if-join_bad.true)

pub returns-then-ordinal_bad : goal.returns-then-ordinal_bad
returns-then-ordinal_bad c =
    let last = c.in-Some.ensures in
    row-five _ _ _ _ _ c.in_ok-check_key.ensures refl (sym c.numbers_bad.ensures ∙ c.if-numbers_bad.false) last.0
    (seen is_join_bad c.join_bad.ensures last.1 c.if-join_bad.false)
    (seen is_ordinal_bad c.ordinal_bad.ensures last.1 c.if-ordinal_bad.true)

-- rows 4 and 5 aren't hit, with a block before and with none
abbrev Behind : View → BlockAddr → Type 0
Behind v b = ((ltb 0 v.n && is_join_bad v.last b) ≡ false) × ((ltb 0 v.n && is_ordinal_bad v.last b) ≡ false)

behind-last : (v : View) (b : BlockAddr) {last : BlockAddr} {j o : Bool} → (0 < v.n) × (last ≡ v.last)
    → j ≡ is_join_bad last b → j ≡ false → o ≡ is_ordinal_bad last b → o ≡ false → Behind v b
behind-last v b last e j f o = rw (lt-ltb 0 v.n last.0) (seen is_join_bad e last.1 j, seen is_ordinal_bad f last.1 o)

behind-none : (v : View) (b : BlockAddr) → v.n ≡ 0 → Behind v b
behind-none v b none = (behind-good v.n _ (λ some. absurd (some none)), behind-good v.n _ (λ some. absurd (some none)))

pub returns-then-key_bad : goal.returns-then-key_bad
returns-then-key_bad c =
    let v = shown c.args.self.now in
    let b = c.args.block in
    let behind : Behind v b =
    elim c.match-last_block.branch [
      | in-Some+else-join_bad+else-ordinal_bad w ↦
          behind-last v b w.in-Some.ensures w.join_bad.ensures w.if-join_bad.false w.ordinal_bad.ensures w.if-ordinal_bad.false
      | in_default w ↦ behind-none v b w.in_default.ensures
    ] in
    row-six _ _ _ _ _ c.in_ok-check_key.ensures refl (sym c.numbers_bad.ensures ∙ c.if-numbers_bad.false) behind.0 behind.1 _
    c.key_bad.ensures c.if-key_bad.true

pub returns : goal.returns
returns c =
    let v = shown c.args.self.now in
    let b = c.args.block in
    let behind : Behind v b =
    elim c.match-last_block.branch [
      | in-Some+else-join_bad+else-ordinal_bad w ↦
          behind-last v b w.in-Some.ensures w.join_bad.ensures w.if-join_bad.false w.ordinal_bad.ensures w.if-ordinal_bad.false
      | in_default w ↦ behind-none v b w.in_default.ensures
    ] in
    no_row _ _ _ _ _ c.in_ok-check_key.ensures refl (sym c.numbers_bad.ensures ∙ c.if-numbers_bad.false) behind.0 behind.1 _
    c.key_bad.ensures c.if-key_bad.false
