use Rattle.std.proofs.Common.{refl}
use Rattle.caller_run.specs.Forest.{forks}
use Rattle.caller_run.specs.Layouts.{layout}
use Rattle.caller_run.specs.RunningCallers.{kids_of}
use Rattle.caller_run.proofs.Planning.ForkTrees.{took_room, fork_tree_pushed}
use Rattle.caller_run.proofs.Forks.WentOn.{can_still, at_floor, at_fits}
use Rattle.caller_run.proofs.forking.running_callers.RunningCaller.begin_fork.Goals as goal

pub returns-clause-tree : goal.returns-clause-tree
returns-clause-tree g c =
    fork_tree_pushed c.args.self.now.kids.items c.pop.new.self.items c.in-Some.kid c.in-Some.ensures.items

pub returns-clause-can : goal.returns-clause-can
returns-clause-can g c script rest can =
    let m = c.args.self.now.caller in let f = c.fork-theirs in let w = f.new.self in let at = f.ensures.at in
    let ready = can.can.goes.ready in
    let r = took_room script.callers (kids_of c.args.self.now) _ (layout c.in-Some.kid) c.args.child (forks rest)
    (returns-clause-tree g c) can.ready in
    record {
      child_can = record {
        has = f.ensures.child;
        cpu = rw at.set ready.cpu;
        now' = rw at.set ready.moment;
        none_yet = refl;
        well = can.well;
        cpus = can.cpus;
        is = r.is;
        there = r.there;
        new = r.new;
        ready = r.ready;
      };
      parent_can = record {
        can = can_still c.args.lanes.now m w c.args.self.now.buffers.log at.set at.states f.ensures.has
            (at_floor m w f.new.trace c.args.child f.result at) can.can;
        well = can.well;
        cpus = can.cpus;
        ready = r.rest;
        long = f.ensures.room;
        fits = at_fits m w f.new.trace c.args.child f.result at;
      };
    }
