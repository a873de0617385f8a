use Rattle.stl_declarations.proofs.declaration.+type_at.Given as goal

abbrev pub decreases-type_at : goal.decreases-type_at
decreases-type_at l = l.left
