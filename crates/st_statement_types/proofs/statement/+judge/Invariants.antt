use Rattle.std.proofs.Common.{◌≡◌, ◌++◌, map, take}
use Rattle.st_rules.proofs.Common.{breaks_in, found_in, arm, arms_on, case_arm, case_arms_on, statements}
use Rattle.st_statement_types.proofs.statement.«+judge».Given as goal

abbrev pub invariant-arms-loop-raw : goal.invariant-arms-loop-raw
invariant-arms-loop-raw l = record {
  found : l.arms ≡ found_in (arms_on l.at.line (map (arm l.at.scope.now) (take l.raw-index l.raws)));
  breaks : l.breaks ≡ l.initial.breaks ++ breaks_in (arms_on l.at.line (map (arm l.at.scope.now) (take l.raw-index l.raws)));
}

abbrev pub invariant-case_arms-loop-raw : goal.invariant-case_arms-loop-raw
invariant-case_arms-loop-raw l = record {
  found : l.arms ≡ found_in (case_arms_on l.at.line l.selector (map (case_arm l.at.scope.now) (take l.raw-index l.raws)));
  breaks : l.breaks ≡ l.initial.breaks ++ breaks_in (case_arms_on l.at.line l.selector (map (case_arm l.at.scope.now) (take l.raw-index l.raws)));
}

abbrev pub invariant-statements-loop-raw : goal.invariant-statements-loop-raw
invariant-statements-loop-raw l = record {
  found : l.body ≡ found_in (statements l.scope (take l.raw-index l.raws));
  breaks : l.breaks ≡ l.initial.breaks ++ breaks_in (statements l.scope (take l.raw-index l.raws));
}
