use Rattle.std.proofs.Common.{◌≡◌, true, false}
use Rattle.serial_replay.proofs.Replays.{early_stops, is_the_transcript, looks_stop}
use Rattle.serial_replay.proofs.ShownKinds.{all_kinds}
use Rattle.serial_replay.proofs.replay.replay_steps.Goals as goal

pub returns-in-No : goal.returns-in-No
returns-in-No c =
    early_stops c.args.script.now c.args.steps.now c.in-No.clause (rw c.in-No.is at c.in_ok-clause.ensures.made)

pub returns-then-not-made : goal.returns-then-not-made
returns-then-not-made c =
    let a = rw c.in-Made.is at c.in_ok-clause.ensures.made in
    looks_stop c.args.script.now c.args.steps.now c.in-Made.made a
    (λ conform. let fall : c.in-Made.made.looks_conform ≡ false = c.if-not-made.true in
    let conforms : c.in-Made.made.looks_conform ≡ true = conform in cc)

pub all_lines-requires-clause-kinds : goal.all_lines-requires-clause-kinds
all_lines-requires-clause-kinds c =
    let a = rw c.in-Made.is at c.in_ok-clause.ensures.made in
    rw c.deref.ensures.value (all_kinds c.args.script.now c.args.steps.now c.in-Made.made a)

pub returns : goal.returns
returns c =
    let a = rw c.in-Made.is at c.in_ok-clause.ensures.made in
    let of = rw c.in-Made.is at c.in_ok-clause.ensures.of_steps in
    rw (c.in_ok-all_lines.ensures, c.deref.ensures.value)
    (is_the_transcript c.args.script.now c.args.steps.now c.in-Made.made of a.long
    (all_kinds c.args.script.now c.args.steps.now c.in-Made.made a) c.if-not-made.false)
