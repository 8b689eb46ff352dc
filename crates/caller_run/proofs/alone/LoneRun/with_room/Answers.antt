use Rattle.std.proofs.Common.{sym, subst, ◌∙◌, ◌+◌, ◌≤◌, ℕ, []}
use Rattle.std.specs.Prelude.{vec_len}
use Rattle.std.specs.List.{AllByRecursion}
use Rattle.lane_table.specs.Calls.{plan_of}
use Rattle.lane_table.proofs.Calls.HandLemmas.{has_new}
use Rattle.caller_run.specs.Alone.{GoesAlone, first_start}
use Rattle.caller_run.specs.Says.{most_shown}
use Rattle.caller_run.specs.declared.making.caller.Caller.{Caller}
use Rattle.caller_run.proofs.Forks.AllCallers.{starts_first, starts_whole}
use Rattle.caller_run.proofs.Forks.Alone.{starts_alone}
use Rattle.caller_run.proofs.alone.LoneRun.with_room.Goals as goal

pub returns : goal.returns
returns c script events well cpus one there once longest =
    let made = c.in_ok-lanes in let t = made.lanes in let p = made.pass in
    let plan = plan_of (c.args.cpus + 2) 0 in let seat = made.ensures.seat in
    let served = vec_len c.in_ok-vec.field-0 in let states = c.in_ok-states.states in
    let same = made.ensures.table.0 ∙ sym cpus in
    record {
      well = well;
      cpus = same;
      alone = one;
      events = events;
      there = there;
      once = once;
      pass = p;
      first = starts_first plan p seat;
      whole = starts_whole plan p seat;
      goes = subst (λ (caller : Caller). GoesAlone t served (first_start p) events events caller [])
          (sym (λ i. record { pass = p; set = c.first.ensures i; states = states }))
          (starts_alone t script p events served
          (has_new t 0 plan p made.ensures.pass.0 made.ensures.pass.1 seat) well same there
          (subst (λ (n : ℕ). AllByRecursion (λ event. most_shown event ≤ n) events) (sym c.in_ok-vec.ensures.len) longest)
          once states c.in_ok-states.ensures);
    }
