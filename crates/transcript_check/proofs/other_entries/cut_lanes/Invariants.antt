use Rattle.std.proofs.Common.{◌≡◌, length}
use Rattle.transcript_check.specs.Rows.{AreWide}
use Rattle.transcript_check.proofs.other_entries.cut_lanes.Given as goal

abbrev pub invariant-loop-cpu : goal.invariant-loop-cpu
invariant-loop-cpu l = record {
  long : length l.cut.items ≡ l.cpu;
  wide : AreWide l.cut.items;
}
