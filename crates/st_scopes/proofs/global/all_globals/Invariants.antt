use Rattle.std.proofs.Common.{◌≡◌, take}
use Rattle.st_rules.specs.Globals.{all_located, all_blocks, all_global_breaks}
use Rattle.st_scopes.proofs.global.all_globals.Given as goal

abbrev pub invariant-loop-raw : goal.invariant-loop-raw
invariant-loop-raw l = record {
  located : l.all.located ≡ all_located (take l.raw-index l.raws);
  blocks : l.all.blocks.items ≡ all_blocks (take l.raw-index l.raws);
  breaks : l.all.breaks ≡ all_global_breaks (take l.raw-index l.raws);
}
