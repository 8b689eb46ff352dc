-- What the acts inside a vgetrandom call do to its state, after one more act.
use Rattle.std.specs.Prelude.{◌&&◌, ◌||◌, true}
use Rattle.key_names.specs.declared.point.Point.{Point}
use Rattle.key_names.specs.declared.point.Point.TheVariants.{Start, Written, Serve, End}
use Rattle.key_names.specs.declared.events.InsideAct.{InsideAct}
use Rattle.key_names.specs.Kernel.Points.{is_same_point}
use Rattle.key_names.specs.Callers.VreadSteps.{is_wipe}
use Rattle.judge_vread.specs.declared.inside.Inside.{Inside}

abbrev pub inside_after : Inside → Point → InsideAct → Inside
inside_after inside point act = record {
  any = true;
  start = inside.start || (is_same_point point Start && is_wipe act);
  written = inside.written || (is_same_point point Written && is_wipe act);
  serve = inside.serve || (is_same_point point Serve && is_wipe act);
  end = inside.end || (is_same_point point End && is_wipe act);
}
