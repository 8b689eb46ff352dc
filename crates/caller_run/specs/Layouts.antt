-- The content of a room (the memory of a caller) as data.
use Rattle.std.specs.Prelude.{ℕ, List}
use Rattle.caller_run.specs.declared.forking.rooms.Buffers.{Buffers}
use Rattle.caller_run.specs.declared.forking.rooms.Room.{Room, Room-F, fold-Room}
use Rattle.caller_run.specs.ForkTree.{Layout, fork_tree_of}

-- a caller with its buffers, and the rooms of its children
abbrev pub layout_by : ℕ → Buffers → List Layout → Layout
layout_by c buffers kids = record { caller = c; buffers = buffers; kids = fork_tree_of kids }

-- the content of a room, if the contents of its children's rooms are given
abbrev pub layout_step : Room-F Layout → Layout
layout_step a = layout_by a.caller a.buffers a.kids.items

-- the content of a room
unfoldable pub layout : Room → Layout
layout r = fold-Room Layout layout_step r
