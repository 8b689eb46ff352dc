use Rattle.lane_table.specs.Calls.{visit_by}
use Rattle.lane_table.proofs.lanes.Lanes.put.Given as goal

abbrev pub ghosts-decide : goal.ghosts-decide
ghosts-decide g a = record { visit = visit_by a._who a.content.stamp (g.E.Entry.entry a._entry) }
