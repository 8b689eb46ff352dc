use Rattle.std.proofs.Common.{ℕ, List, length, get_or, ap, arith}
use Rattle.transcript_text.proofs.Answered.{matched_none}
use Rattle.transcript_text.proofs.Fronts.{pool_front, base_front, cpu_front, no_cpu_front, no_lane_front}
use Rattle.transcript_text.proofs.StepTexts.{begins_so}
use Rattle.transcript_text.proofs.parsing.steps.lane_front.Goals as goal

pub returns-in-112 : goal.returns-in-112
returns-in-112 c = pool_front c.args.text.now _ (begins_so 112 c.args.text.now (omega arith) (omega arith))

pub returns-in-98 : goal.returns-in-98
returns-in-98 c = base_front c.args.text.now _ (begins_so 98 c.args.text.now (omega arith) (omega arith))

pub returns-in_err-cpu-in-99 : goal.returns-in_err-cpu-in-99
returns-in_err-cpu-in-99 c = matched_none _ _ _ c.from_residual.ensures
    (no_cpu_front c.args.text.now _ (begins_so 99 c.args.text.now (omega arith) (omega arith))
    c.in_err-cpu-in-99.ensures.front)

pub returns-in_ok-cpu-in-99 : goal.returns-in_ok-cpu-in-99
returns-in_ok-cpu-in-99 c =
    cpu_front c.args.text.now _ _ _ (begins_so 99 c.args.text.now (omega arith) (omega arith))
    c.in_ok-cpu-in-99.ensures.front

pub returns-in-empty : goal.returns-in-empty
returns-in-empty c = no_lane_front c.args.text.now (λ rest e. omega (arith, ap length e, c.in-empty.len_below))
    (λ rest e. omega (arith, ap length e, c.in-empty.len_below))
    (λ rest e. omega (arith, ap length e, c.in-empty.len_below))

pub returns-in_default : goal.returns-in_default
returns-in_default c = no_lane_front c.args.text.now
    (λ rest e. omega (arith, ap (λ (t : List ℕ). get_or t 0 0) e))
    (λ rest e. omega (arith, ap (λ (t : List ℕ). get_or t 0 0) e))
    (λ rest e. omega (arith, ap (λ (t : List ℕ). get_or t 0 0) e))
