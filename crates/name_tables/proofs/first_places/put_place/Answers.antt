use Rattle.std.proofs.Common.{◌≡◌, rules, true, false, is_some, map, nat_eq}
use Rattle.std.specs.Cmp.Lexicographic.{pointwise}
use Rattle.std.specs.Map.{lookup}
use Rattle.name_tables.proofs.PlaceTables.{kept, put}
use Rattle.name_tables.proofs.first_places.put_place.Goals as goal

pub returns-then-is_some : goal.returns-then-is_some
returns-then-is_some c =
    let h : is_some (lookup (pointwise nat_eq c.args.key.items) (map (λ e. (e.0.items, e.1)) c.args.places.now.entries)) ≡ true = search rules in
    kept (pointwise nat_eq) (λ k. k.items) c.args.key c.args.place c.args.places.now.entries h

pub returns : goal.returns
returns c =
    let h : is_some (lookup (pointwise nat_eq c.args.key.items) (map (λ e. (e.0.items, e.1)) c.args.places.now.entries)) ≡ false = search rules in
    put (pointwise nat_eq) (λ k. k.items) c.args.key c.args.place c.args.places.now.entries c.insert.new.self.entries h c.in_ok-insert.ensures.entries
