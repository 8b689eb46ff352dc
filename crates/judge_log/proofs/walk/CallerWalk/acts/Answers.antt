use Rattle.judge_lines.specs.Called.{seen_act}
use Rattle.judge_log.specs.CallSays.{ActDone}
use Rattle.judge_log.proofs.AnswersMade.Going.{each_mapped_more, each_mapped_at}
use Rattle.judge_log.proofs.AnswersMade.ActsSaid.{not_done, is_done, acts_written}
use Rattle.judge_log.proofs.walk.CallerWalk.acts.Goals as goal

pub returns-in-None-clause-said : goal.returns-in-None-clause-said
returns-in-None-clause-said g c = λ all.
    let a = c.bound-item.result in
    let said = rw c.loop-bound.invariant.lists at c.in_ok-said.ensures in
    not_done c.args.self.now.lists.now c.args.set.now c.args.reached (seen_act a) c.includes-done.result
    c.in_ok-said.field-0 c.includes-done.ensures said c.in-None.is
    (each_mapped_at c.args.acts.now c.loop-bound.bound-index a c.loop-bound-test.true c.bound-item.is seen_act
    (ActDone c.args.self.now.lists.now c.args.set.now c.args.reached) all)

pub loop-bound-preserved : goal.loop-bound-preserved
loop-bound-preserved g c =
    let a = c.bound-item.result in
    let lists = c.args.self.now.lists.now in
    let said = rw c.loop-bound.invariant.lists at c.in_ok-said.ensures in
    let put = rw c.loop-bound.invariant.notes at c.in_ok-put-in-Some.ensures.put in
    let done = is_done lists c.args.set.now c.args.reached (seen_act a) c.includes-done.result c.in_ok-said.field-0
    c.includes-done.ensures said c.in-Some.said c.in-Some.is in record {
      lists = c.loop-bound.invariant.lists;
      states = c.loop-bound.invariant.states;
      notes = rw c.loop-bound.invariant.notes at c.in_ok-put-in-Some.ensures.same;
      conform = each_mapped_more c.args.acts.now c.loop-bound.bound-index a c.loop-bound-test.true c.bound-item.is seen_act
          (ActDone lists c.args.set.now c.args.reached) c.loop-bound.invariant.conform done.0;
      written = acts_written lists c.args.set.now c.args.reached
          (g.N.Note.IsNoted c.args.self.now.notes.how.now c.args.self.now.notes.caller) c.args.acts.now
          c.loop-bound.bound-index a c.loop-bound-test.true c.bound-item.is c.args.self.now.notes.noted.items
          c.loop-bound.self.notes.noted.items c.put.new.self.noted.items c.in-Some.said c.loop-bound.invariant.written
          done.1 put;
    }
