use Rattle.std.proofs.Common.{◌≡◌, ℕ, length, refl}
use Rattle.key_names.specs.declared.events.Event.{Event}
use Rattle.key_names.specs.declared.events.Event.TheVariants.{Vread, Inside, Fork}
use Rattle.key_names.specs.declared.events.InsideAct.{InsideAct}
use Rattle.key_names.specs.declared.point.Point.{Point}
use Rattle.caller_run.specs.Kinds.{ForksNobody, IsCall}
use Rattle.caller_run.proofs.making.caller.Caller.step.Goals as goal

-- an event that is no vread, no act and no fork is a call of the core
is_call : (event : Event) → ForksNobody event → ((len flags : ℕ) → event ≡ Vread len flags → ⊥) →
    ((point : Point) (act : InsideAct) → event ≡ Inside point act → ⊥) → IsCall event
is_call (Vread len flags) plain no_vread no_act = no_vread len flags refl
is_call (Inside point act) plain no_vread no_act = no_act point act refl
is_call (Fork child) plain no_vread no_act = plain
is_call event plain no_vread no_act = tt

pub make-requires : goal.make-requires
make-requires g c = record {
  can = (length c.args.inside.now, c.requires.can);
  kind = is_call c.args.event.now c.requires.plain c.in_default.not-Vread c.in_default.not-Inside;
}

pub returns-in-Inside : goal.returns-in-Inside
returns-in-Inside g c = c.wait.ensures c.args.shared.now.lanes.now (length c.args.served.now) (length c.args.inside.now)

pub returns-in_default : goal.returns-in_default
returns-in_default g c = c.make.ensures (length c.args.inside.now)
