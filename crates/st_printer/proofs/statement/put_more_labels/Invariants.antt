use Rattle.st_tree.proofs.Common.{◌≡◌, ◌++◌, take, flat_map, label_text}
use Rattle.st_printer.proofs.statement.put_more_labels.Given as goal

-- the labels passed so far stand after what stood there
abbrev pub invariant-loop-label : goal.invariant-loop-label
invariant-loop-label l = l.out.items ≡ l.fn.out.items ++ flat_map (label_text l.ty) (take l.label-index l.labels)
