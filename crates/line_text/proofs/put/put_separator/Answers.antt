-- A space and a sign, or a space and the digits of each byte.
use Rattle.std.proofs.Common.{◌≡◌, ◌-◌, ◌+◌, ◌*◌, length, arith, sym, ◌∙◌}
use borrow.Author.Tests.{eqb-false}
use Rattle.line_text.specs.Lines.{separator_text}
use Rattle.line_text.proofs.Stored.{stored-behind}
use Rattle.line_text.proofs.Hexed.{encoded, shown, length-shown, went}
use Rattle.line_text.proofs.put.put_separator.Goals as goal

pub overflow_add-end : goal.overflow_add-end
overflow_add-end c =
    let long = length-shown c.args.bytes.now (eqb-false _ 0 (sym c.is_empty.ensures ∙ c.if-is_empty.false)) in
    omega (arith, c.put-next.ensures.0, c.requires, c.put-next.auto.out, long)

pub slice_bounds-encode_to_slice-end : goal.slice_bounds-encode_to_slice-end
slice_bounds-encode_to_slice-end c =
    let long = length-shown c.args.bytes.now (eqb-false _ 0 (sym c.is_empty.ensures ∙ c.if-is_empty.false)) in
    omega (arith, c.put-next.ensures.0, c.requires, c.put-next.auto.out, long)

pub returns : goal.returns
returns c =
    let bytes = c.args.bytes.now in
    let r = c.put-next.result in
    let some : length bytes ≡ 0 → ⊥ = eqb-false _ 0 (sym c.is_empty.ensures ∙ c.if-is_empty.false) in
    let long = length-shown bytes some in
    let part : r + 2 * length bytes - r ≡ 2 * length bytes = omega arith in
    let text : c.encode_to_slice.new.output ≡ separator_text bytes =
    went _ _ _ c.unwrap.ensures c.encode_to_slice.ensures.written
    ∙ encoded bytes (λ i. let b = c.type_inv.bytes i in omega arith) ∙ sym (shown bytes some) in (
      omega (arith, long, c.put-next.ensures.0),
      rw (part, text, ← long)
          (stored-behind c.args.out.now c.put-next.new.out (separator_text bytes) c.args.at 32 r c.put-next.ensures
          (omega (arith, long, c.requires, c.put-next.ensures.0, c.put-next.auto.out))),
    )
