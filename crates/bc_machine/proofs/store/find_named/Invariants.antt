use Rattle.std.proofs.Common.{◌≡◌, ◌-◌, ◌+◌, ◌++◌, take, length}
use Rattle.bc_machine_defs.specs.Text.{bytes_from}
use Rattle.bc_machine.proofs.store.find_named.Given as goal

abbrev pub invariant-loop-k : goal.invariant-loop-k
invariant-loop-k g l = record {
  copied : take l.k l.name ++ bytes_from (l.length - l.k) (l.k + 1) l.address l.store ≡ bytes_from l.length 1 l.address l.store;
  long : length l.name ≡ 255;
}
