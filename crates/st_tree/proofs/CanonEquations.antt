-- What `canon` is at each variant of an expression, under the path by which other crates know it.
pub use Rattle.st_tree.proofs.Equations.{canon_literal, canon_read, canon_unary, canon_binary, canon_convert, canon_select, canon_shift, canon_area_read, canon_equations}
