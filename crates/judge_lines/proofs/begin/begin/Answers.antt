use Rattle.std.proofs.Common.{◌≡◌, ◌<◌, ◌≤◌, List, length, map, refl, sym, subst, ap, ◌∙◌, arith}
use Rattle.std.specs.List.{AllByRecursion}
use Rattle.std.specs.Global.{Vec}
use Rattle.std.proofs.lemmas.List.{length-map}
use Rattle.key_names.specs.Callers.History.{caller_orders}
use Rattle.key_names.specs.Transcripts.IsTranscript.{all_marks, script_calls}
use Rattle.judge_lines.specs.declared.bare.BareLine.{BareLine}
use Rattle.key_names.specs.Transcripts.SeenLine.{SeenLine}
use Rattle.key_names.specs.Texts.ScriptGrammar.{Script, WellFormed}
use Rattle.judge_lines.specs.declared.called.CalledLines.{CalledLines}
use Rattle.judge_lines.specs.declared.order.Fork.{Fork}
use Rattle.judge_lines.specs.Seen.{seen_bare, seen_callers}
use Rattle.judge_lines.specs.Called.{seen_call, seen_calls}
use Rattle.judge_lines.specs.Marks.{seen_mark}
use Rattle.judge_lines.specs.Orders.{all_forks}
use Rattle.judge_lines.proofs.LineFits.{callers_long}
use Rattle.judge_lines.proofs.AllCalls.{calls_long}
use Rattle.judge_lines.proofs.MarksMoved.{lane_moved, lane_moved_back}
use Rattle.judge_lines.proofs.ForksRise.{all_rise}
use Rattle.judge_lines.proofs.StampsRise.{stamps_rise}
use Rattle.judge_lines.proofs.begin.begin.Goals as goal

pub returns-then-not-places_count : goal.returns-then-not-places_count
returns-then-not-places_count c = (
  c.if-not-lines_fit.ensures.0 refl,
  (λ conform. let f = c.if-not-places_count.ensures.1 (rw c.deref.ensures.value (λ lane.
      lane_moved lane (all_marks (seen_callers c.args.lines.now)) (map seen_mark c.in_ok-marks.marks.items)
      c.in_ok-marks.ensures.all (conform.lanes lane))) in cc),
)

pub all_calls-requires-clause-few : goal.all_calls-requires-clause-few
all_calls-requires-clause-few c =
    let many : length c.args.lines.now ≡ length c.args.script.now.callers =
    sym (length-map c.args.lines.now (λ (lines : Vec BareLine). map seen_bare lines.items))
    ∙ callers_long 0 c.args.script.now.callers (seen_callers c.args.lines.now) (c.if-not-lines_fit.ensures.0 refl) in
    omega (arith, c.requires.well.callers.1)

few_callers : (script : Script) (t : List (List SeenLine)) (calls : List (Vec CalledLines)) → WellFormed script →
    seen_calls calls ≡ script_calls script t → length calls ≤ 64
few_callers script t calls well are =
    let many : length calls ≡ length script.callers =
    sym (length-map calls (λ (of : Vec CalledLines). map seen_call of.items)) ∙ ap length are
    ∙ calls_long script.callers t in
    omega (arith, well.callers.1)

pub all_forks-requires : goal.all_forks-requires
all_forks-requires c = rw c.deref-2.ensures.value
    (few_callers c.args.script.now (seen_callers c.args.lines.now) c.in_ok-calls.calls.items c.requires.well
    c.in_ok-calls.ensures)

pub all_may_follow-requires : goal.all_may_follow-requires
all_may_follow-requires c =
    let forks : c.in_ok-forks.forks.items ≡ all_forks 0 (seen_calls c.in_ok-calls.calls.items) =
    c.in_ok-forks.ensures ∙ ap (λ (calls : List (Vec CalledLines)). all_forks 0 (seen_calls calls)) c.deref-2.ensures.value in
    rw (c.deref-3.ensures.value, c.deref-4.ensures.value) (record {
      forks = forks;
      above = subst (λ (fs : List Fork). AllByRecursion (λ fork. fork.parent < fork.child) fs)
          (sym (forks ∙ ap (all_forks 0) c.in_ok-calls.ensures))
          (all_rise 0 c.args.script.now.callers (seen_callers c.args.lines.now) c.requires.well.above);
    })

pub returns-then-not-branch : goal.returns-then-not-branch
returns-then-not-branch c =
    let conforms = rw (c.deref-3.ensures.value, c.in_ok-calls.ensures) at c.in_ok-all_may_follow.ensures in (
      c.if-not-lines_fit.ensures.0 refl,
      (λ conform. let f = conforms.1
          ((stamps_rise (caller_orders (script_calls c.args.script.now (seen_callers c.args.lines.now)))).1 conform.callers) in cc),
    )

pub returns : goal.returns
returns c =
    let conforms = rw (c.deref-3.ensures.value, c.in_ok-calls.ensures) at c.in_ok-all_may_follow.ensures in record {
      lines = c.if-not-lines_fit.ensures.0 refl;
      marks_conform = record {
        lanes = λ lane.
            lane_moved_back lane (all_marks (seen_callers c.args.lines.now)) (map seen_mark c.in_ok-marks.marks.items)
            c.in_ok-marks.ensures.all
            (rw (← c.deref.ensures.value) (c.if-not-places_count.ensures.0 refl lane));
        callers = (stamps_rise (caller_orders (script_calls c.args.script.now (seen_callers c.args.lines.now)))).0
            (conforms.0 c.if-not-branch.false);
      };
      calls = c.in_ok-calls.ensures;
      all_marks = c.in_ok-marks.ensures.all;
      sorted = c.in_ok-marks.ensures.sorted;
      forks = c.in_ok-forks.ensures
          ∙ ap (λ (calls : List (Vec CalledLines)). all_forks 0 (seen_calls calls)) c.deref-2.ensures.value
          ∙ ap (all_forks 0) c.in_ok-calls.ensures;
    }
