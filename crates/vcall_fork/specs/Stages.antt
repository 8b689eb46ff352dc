-- The stage of a vgetrandom call that can be stopped at its points.
use Rattle.std.specs.Prelude.{ℕ, ◌+◌, ◌*◌, ◌^◌, Bool, true, false}
use Rattle.vdso_state.specs.Turns.{looks_for, calls_for, copies_by, turn_number}
use Rattle.vcall_fork.specs.declared.stage.Stage.{Stage}
use Rattle.vcall_fork.specs.declared.stage.Stage.TheVariants.{New, At, Over}

abbrev pub is_open : Stage → Bool
is_open New = true
is_open (At place) = true
is_open Over = false

abbrev pub is_stopped : Stage → Bool
is_stopped New = false
is_stopped (At place) = true
is_stopped Over = false

-- the generation that the call read last, or `other` if it read none
abbrev pub published_or : ℕ → Stage → ℕ
published_or other New = other
published_or other (At place) = place.published
published_or other Over = other

-- how many looks at the generation the rest of the call may need; `calls_needed` is how many system calls it may need
abbrev pub looks_needed : Stage → ℕ
looks_needed New = 5
looks_needed (At place) = looks_for place.turn
looks_needed Over = 0

abbrev pub calls_needed : Stage → ℕ
calls_needed New = 3
calls_needed (At place) = calls_for place.turn place.point
calls_needed Over = 0

-- the number of the block that the call uses next; `block_limit` is an upper bound on this number
abbrev pub block_of : Stage → ℕ
block_of New = 0
block_of (At place) = place.next_block
block_of Over = 0

abbrev pub block_limit : Stage → ℕ
block_limit New = 0
block_limit (At place) = copies_by place.turn place.point * (2 ^ 14 + 2)
block_limit Over = 0

-- how many attempts of the call began
abbrev pub turns_begun : Stage → ℕ
turns_begun New = 0
turns_begun (At place) = turn_number place.turn
turns_begun Over = 0
