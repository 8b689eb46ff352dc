use Rattle.std.proofs.Common.{◌∷◌, ◌++◌, [], length, ap, ◌∙◌, arith}
use Rattle.key_names.specs.declared.events.Word.TheVariants.{Inside as InsideWord}
use Rattle.rng_core.specs.declared.vdso.acts.Bound.{Bound}
use Rattle.caller_run.specs.Says.{line_of}
use Rattle.caller_run.proofs.Planning.ActWaits.{Keeps, can_keep, gone_keep}
use Rattle.caller_run.proofs.making.caller.Caller.wait.Goals as goal
use Rattle.caller_run.proofs.making.caller.Caller.wait.Goals.{After-go_on}

-- the caller keeps the act of the event `c.args.event` for its next vread (`Keeps`)
kept : (c : After-go_on) → Keeps c.args.event.now c.args.self.now c.go_on.new.self c.args.log.now.lines
    c.tell.new.lines
    c.args.log.now.acts.items c.push_reserved.new.self.items
kept c =
    let set = c.args.self.now.set in
    let lines = c.args.log.now.lines.lines in
    record {
      point = c.args.point;
      act = c.args.act;
      event_is = c.requires.is;
      on = c.go_on.ensures;
      lines = c.tell.ensures.lines
          ∙ (λ i. lines ++ line_of set InsideWord [] (c.only-unused.ensures i) (c.empty.ensures i) ∷ []);
      line_room = c.tell.ensures.line_room;
      step_room = (let b = c.tell.ensures.step_room in let e = ap length c.empty.ensures in omega arith);
      byte_room = (let b = c.tell.ensures.byte_room in omega arith);
      kept = c.push_reserved.ensures.items ∙ ap (λ (b : Bound). c.args.log.now.acts.items ++ b ∷ [])
          c.of-bound.ensures;
    }

pub returns : goal.returns
returns c t served inside = record {
  can = λ rest can. record {
    goes = can_keep (kept c) can.goes;
    act_room = (let a = c.push_reserved.ensures.capacity in let b = can.act_room in omega arith);
  };
  gone = gone_keep (kept c) c.requires.can.3.goes.at;
}
