use Rattle.std.proofs.Common.{◌<◌, ◌∙◌, sym, ap, refl, arith}
use Rattle.memory_areas.specs.Areas.{bit_of_byte, byte_with}
use Rattle.memory_areas.proofs.Bytes.{bit_set, bit_set_fits, bit_cleared, bit_clear_fits, bit_stays, clear_bit, set_bit, same_bit}
use Rattle.memory_areas.proofs.parts.byte_with.Goals as goal

pub overflow_add-result : goal.overflow_add-result
overflow_add-result c =
    let byte : c.args.byte < 256 = omega arith in
    let within =
    bit_set_fits c.args.byte c.args.x byte c.requires
    (sym c.bit_of_byte.ensures ∙ clear_bit c.bit_of_byte.result c.args.value c.if-bit_of_byte-value.false c.if-value.true) in
    omega arith

pub overflow_sub-result : goal.overflow_sub-result
overflow_sub-result c =
    bit_clear_fits c.args.byte c.args.x c.requires
    (sym c.bit_of_byte.ensures ∙ set_bit c.bit_of_byte.result c.args.value c.if-bit_of_byte-value.false c.if-value.false)

pub returns-then-bit_of_byte-value : goal.returns-then-bit_of_byte-value
returns-then-bit_of_byte-value c =
    bit_stays c.args.byte c.args.x (bit_of_byte c.args.byte c.args.x) c.args.value c.requires refl
    (sym (same_bit c.bit_of_byte.result c.args.value c.if-bit_of_byte-value.true) ∙ c.bit_of_byte.ensures)

pub returns-then-value : goal.returns-then-value
returns-then-value c =
    bit_set c.args.byte c.args.x c.requires
    (sym c.bit_of_byte.ensures ∙ clear_bit c.bit_of_byte.result c.args.value c.if-bit_of_byte-value.false c.if-value.true)
    ∙ ap (byte_with c.args.byte c.args.x) (sym c.if-value.true)

pub returns-else-value : goal.returns-else-value
returns-else-value c =
    bit_cleared c.args.byte c.args.x c.requires
    (sym c.bit_of_byte.ensures ∙ set_bit c.bit_of_byte.result c.args.value c.if-bit_of_byte-value.false c.if-value.false)
    ∙ ap (byte_with c.args.byte c.args.x) (sym c.if-value.false)
