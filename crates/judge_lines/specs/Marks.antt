-- Sorting marks by lane and stamp: the marks of one lane then come one after the other.
use Rattle.std.specs.Prelude.{ℕ, suc, ◌+◌, ◌≡◌, ◌<◌, ◌≤◌, ◌⊎◌, ⊤, Bool, true, false, MatchBool, Option, Some, None, List, [], ◌∷◌}
use Rattle.key_names.specs.declared.names.LaneId.{LaneId}
use Rattle.key_names.specs.declared.names.LaneId.TheVariants.{Pool as PoolLane, Base as BaseLane, Cpu as CpuLane}
use Rattle.key_names.specs.declared.names.Mark.{Mark}
use Rattle.key_names.specs.Transcripts.IsTranscript.{MarkBy, is_same_lane}
use Rattle.judge_lines.specs.declared.marks.Group.{Group}
use Rattle.judge_lines.specs.declared.marks.Group.TheVariants.{Pool, Base, Cpus}
use Rattle.judge_lines.specs.declared.marks.MarkOf.{MarkOf}

abbrev pub seen_mark : MarkOf → MarkBy
seen_mark of = record { mark = of.mark; who = of.who }

-- whether the lane belongs to this group
abbrev pub is_in : Group → LaneId → Bool
is_in Pool PoolLane = true
is_in Base BaseLane = true
is_in Cpus (CpuLane c) = true
is_in _ _ = false

abbrev pub is_by : Group → MarkBy → Bool
is_by group by = is_in group by.mark.lane

-- the number by which marks are sorted: 0 for the pool, 1 for the base, and 2 + c for CPU c
abbrev pub lane_rank : LaneId → ℕ
lane_rank PoolLane = 0
lane_rank BaseLane = 1
lane_rank (CpuLane c) = 2 + c

-- mark `a` may come before mark `b`: the lane of `a` has a lower rank, or both lanes have the same rank and the stamp
-- of `a` is not higher
abbrev pub NotAfter : Mark → Mark → Type 0
NotAfter a b = (lane_rank a.lane < lane_rank b.lane) ⊎ ((lane_rank a.lane ≡ lane_rank b.lane) × (a.stamp ≤ b.stamp))

-- any two marks that are next to each other are in order
abbrev pub IsSortedByLane : List MarkOf → Type 0
IsSortedByLane [] = ⊤
IsSortedByLane (a ∷ []) = ⊤
IsSortedByLane (a ∷ b ∷ marks) = NotAfter a.mark b.mark × IsSortedByLane (b ∷ marks)

-- the first mark has place 0. A mark in the lane of the mark before it, `last`, has the next place and a higher stamp.
-- A mark in another lane than `last` has place 0
abbrev pub Follows : Option Mark → Mark → Type 0
Follows None mark = mark.place ≡ 0
Follows (Some last) mark =
    MatchBool (is_same_lane last.lane mark.lane) ((last.stamp < mark.stamp) × (mark.place ≡ suc last.place))
    (mark.place ≡ 0)

abbrev pub RunsCount : Option Mark → List MarkOf → Type 0
RunsCount last [] = ⊤
RunsCount last (of ∷ marks) = Follows last of.mark × RunsCount (Some of.mark) marks
