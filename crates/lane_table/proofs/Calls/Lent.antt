-- Lemmas about the end of a loan of a lane's value. `lent`: equal values represent the same models. `kept`: if a value
-- represents a model, the value represents each equal model.
use Rattle.std.proofs.Common.{◌≡◌, ℕ, sym}
use Rattle.lane_table.specs.declared.values.LaneState.{LaneState}
use Rattle.lane_table.specs.Meaning.{Model, ValueRepresents}
use Rattle.std.proofs.Common.{subst}

pub lent : (lane : ℕ) (s : Model) (a b : LaneState) → a ≡ b → ValueRepresents lane b s → ValueRepresents lane a s
lent lane s a b e k = subst (λ (z : LaneState). ValueRepresents lane z s) (sym e) k

pub kept : (lane : ℕ) (s t : Model) (a : LaneState) → t ≡ s → ValueRepresents lane a s → ValueRepresents lane a t
kept lane s t a e k = subst (λ (z : Model). ValueRepresents lane a z) (sym e) k
