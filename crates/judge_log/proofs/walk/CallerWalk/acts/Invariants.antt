use Rattle.std.proofs.Common.{◌≡◌, map, take}
use Rattle.std.specs.List.{AllByRecursion}
use Rattle.judge_lines.specs.Called.{seen_act}
use Rattle.judge_log.specs.Writes.{Written}
use Rattle.judge_log.specs.CallSays.{ActDone, act_write}
use Rattle.judge_log.proofs.walk.CallerWalk.acts.Given as goal

abbrev pub invariant-loop-bound : goal.invariant-loop-bound
invariant-loop-bound g l = record {
  lists : l.self.lists ≡ l.initial.self.lists;
  states : l.self.states ≡ l.initial.self.states;
  notes : l.self.notes ≡ record l.initial.self.notes { noted = l.self.notes.noted };
  conform : AllByRecursion (ActDone l.initial.self.lists.now l.set l.reached) (map seen_act (take l.bound-index l.acts));
  written : Written (g.N.Note.IsNoted l.initial.self.notes.how.now l.initial.self.notes.caller)
      (map (act_write l.initial.self.lists.now l.set l.reached) (map seen_act (take l.bound-index l.acts)))
      l.initial.self.notes.noted.items l.self.notes.noted.items;
}
