use Rattle.key_names.proofs.History.HistoryLanes as histories
use Rattle.key_names.proofs.laws.history_keeps_lanes.Goals as goal

pub returns : goal.returns
returns c = histories.history_keeps_lanes
