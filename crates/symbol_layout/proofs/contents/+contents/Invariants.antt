use Rattle.std.proofs.Common.{◌≡◌, ◌∷◌, [], take, drop}
use Rattle.std.specs.List.{flat_map}
use Rattle.stl_tree.specs.declared.raw.Constant.{Constant}
use Rattle.stl_rules.specs.Contents.{bits_behind, type_bits}
use Rattle.symbol_layout.proofs.contents.«+contents».Given as goal

abbrev pub invariant-put_bits-loop-d : goal.invariant-put_bits-loop-d
invariant-put_bits-loop-d l = bits_behind l.bits.items (drop l.d-index l.decls) ≡ bits_behind l.initial.bits.items l.decls

abbrev pub invariant-type_bits-loop-value : goal.invariant-type_bits-loop-value
invariant-type_bits-loop-value l =
    l.bits.items ≡ flat_map (λ (c : Constant). type_bits l.element (c ∷ [])) (take l.value-index l.values)
