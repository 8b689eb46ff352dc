-- The rooms (the memory) of callers as data: first a caller's buffers, then the rooms of its children, then the room of
-- the next caller.
use Rattle.std.specs.Prelude.{ℕ, List, [], ◌∷◌, ◌++◌}
use Rattle.key_names.specs.Transcripts.SeenLine.{SeenLine}
use Rattle.caller_run.specs.declared.forking.rooms.Buffers.{Buffers}
use Rattle.caller_run.specs.Forest.{Forest, no_more, more}

pub data ForkTree : Type 0 where
  cleared : ForkTree
  planted : (caller : ℕ) (buffers : Buffers) (kids rest : ForkTree) → ForkTree

-- one room: the caller, its buffers, and the rooms of its children
pub record Layout : Type 0 where
  pub caller : ℕ
  pub buffers : Buffers
  pub kids : ForkTree

-- the room p, put in front of the rooms f
abbrev pub plant : Layout → ForkTree → ForkTree
plant p f = planted p.caller p.buffers p.kids f

-- the rooms f, after the rooms of a list were put in front of them, one after another
abbrev pub seeded : ForkTree → List Layout → ForkTree
seeded f [] = f
seeded f (p ∷ ps) = seeded (plant p f) ps

-- the tree of the rooms `ps`; the last of `ps` comes first in the tree
abbrev pub fork_tree_of : List Layout → ForkTree
fork_tree_of ps = seeded cleared ps

-- the tree of the same callers, with only their numbers
abbrev pub tree : ForkTree → Forest
tree cleared = no_more
tree (planted c s ks rest) = more c (tree ks) (tree rest)

-- the number and the lines of each caller that has a room in the tree
abbrev pub emitted_in : ForkTree → List (ℕ × List SeenLine)
emitted_in cleared = []
emitted_in (planted c s ks rest) = (c, s.log.lines.lines) ∷ (emitted_in ks ++ emitted_in rest)

-- the number and the lines of the caller of one room, and of each caller in its children's rooms
abbrev pub emitted_by : Layout → List (ℕ × List SeenLine)
emitted_by p = (p.caller, p.buffers.log.lines.lines) ∷ emitted_in p.kids
