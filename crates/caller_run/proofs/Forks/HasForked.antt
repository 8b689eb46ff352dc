-- If a caller forked children, these remain its children after each further event.
use Rattle.std.proofs.Common.{◌≡◌, List, ◌∷◌, ◌++◌, length, ap, ◌∙◌, append_assoc, arith}
use Rattle.std.specs.List.{AllByRecursion}
use Rattle.key_names.specs.declared.events.Event.TheVariants.{Fork}
use Rattle.key_names.specs.Callers.Calls.{Call, alone}
use Rattle.key_names.proofs.Lists.Each.{each_weaker}
use Rattle.lane_table.specs.declared.view.View.{View}
use Rattle.lane_table.specs.WorldRule.{known_of}
use Rattle.lane_table.specs.Steps.{Grows}
use Rattle.lane_table.proofs.Lists.VisitLists.{begins_trans}
use Rattle.caller_run.specs.Standing.{Start, Forked}

pub forked_more : (begun : Start) (v w : View) (calls more : List Call) (kids : List Start) →
    length w.lanes ≡ length v.lanes → Grows v w → AllByRecursion (Forked begun v calls) kids →
    AllByRecursion (Forked begun w (calls ++ more)) kids
forked_more begun v w calls more kids sized grows all =
    each_weaker (Forked begun v calls) (Forked begun w (calls ++ more)) kids (λ child f. record {
      before = f.before;
      line = f.line;
      after = f.after ++ more;
      calls_are = ap (λ (l : List Call). l ++ more) f.calls_are
          ∙ append_assoc f.before (alone (Fork child.caller) f.line ∷ f.after) more;
      above = f.above;
      splits = f.splits;
      middle = f.middle;
      numbered_steps = f.numbered_steps;
      ran = f.ran;
      order = f.order;
      sized = sized ∙ f.sized;
      grows = λ lane low. begins_trans (known_of f.middle lane) (known_of v lane) (known_of w lane) (f.grows lane low)
          (grows lane (let e = f.sized in omega arith));
      view_is = f.view_is;
      set_is = f.set_is;
    }) all
