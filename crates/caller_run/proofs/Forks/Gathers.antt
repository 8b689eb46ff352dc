-- If one pass has joined all others, the runs of a whole script fulfil the premises of the law of all callers.
use Rattle.std.proofs.Common.{◌≡◌, inl, inr, ℕ, suc, ◌+◌, ◌<◌, Bool, true, false, Some, List, [], ◌∷◌, ◌++◌, length, refl, sym, ap, ◌∙◌, subst, arith}
use Rattle.std.specs.Prelude.{slice_get, if◌then◌else◌}
use Rattle.std.specs.List.{AllByRecursion, sum_by, flat_map}
use Rattle.std.proofs.lemmas.List.Sums.{sum_by-cons, sum_by-append}
use Rattle.key_names.specs.declared.events.Event.{Event}
use Rattle.key_names.specs.declared.names.LaneId.{LaneId}
use Rattle.key_names.specs.declared.names.Mark.{Mark}
use Rattle.key_names.specs.Callers.Calls.{first_setting}
use Rattle.key_names.specs.Texts.ScriptGrammar.{Script}
use Rattle.key_names.specs.Transcripts.SeenLine.{SeenLine}
use Rattle.key_names.specs.Transcripts.IsTranscript.{MarkBy, EachCaller, all_marks, line_marks, lane_marks, is_same_lane}
use Rattle.lane_table.specs.declared.view.View.{View}
use Rattle.lane_table.specs.LaneNumbers.{index_of}
use Rattle.lane_table.specs.WorldRule.{at}
use Rattle.lane_table.specs.Steps.{Grows}
use Rattle.lane_table.specs.Calls.{Ended}
use Rattle.caller_run.specs.Families.{RunsIn, Family, marked_by}
use Rattle.caller_run.specs.Laws.{Run, HasRun, Began, IsOneOf, lines_of_all, marked, RanAll}
use Rattle.caller_run.specs.Standing.{Start, RunEnded}
use Rattle.caller_run.proofs.Orders.InOrder.{number, AllOnce, first_once, rest_once, one_of, in_order, in_order_all, in_order_of, same_sum}
use Rattle.caller_run.proofs.Planning.Parents.{each_of}

lane_append : (lane : LaneId) (xs ys : List MarkBy) →
    lane_marks lane (xs ++ ys) ≡ lane_marks lane xs ++ lane_marks lane ys
lane_append lane [] ys = refl
lane_append lane (by ∷ xs) ys = go (is_same_lane by.mark.lane lane) (lane_append lane xs ys)
  where
    go : (b : Bool) → lane_marks lane (xs ++ ys) ≡ lane_marks lane xs ++ lane_marks lane ys →
        (if b then by.mark ∷ lane_marks lane (xs ++ ys) else lane_marks lane (xs ++ ys))
        ≡ (if b then by.mark ∷ lane_marks lane xs else lane_marks lane xs) ++ lane_marks lane ys
    go true rest = ap (λ (l : List Mark). by.mark ∷ l) rest
    go false rest = rest

marked_cons : (f : ℕ → ℕ) (lane : LaneId) (lines : List SeenLine) (t : List (List SeenLine)) →
    marked f lane (lines ∷ t) ≡ marked f lane (lines ∷ []) + marked f lane t
marked_cons f lane lines t =
    let g : Mark → ℕ = λ mark. f mark.place in
    let a = ap (sum_by g) (lane_append lane (flat_map line_marks lines) (all_marks t)) in
    let b = ap (sum_by g) (lane_append lane (flat_map line_marks lines) []) in
    let c = sum_by-append g (lane_marks lane (flat_map line_marks lines)) (lane_marks lane (all_marks t)) in
    let d = sum_by-append g (lane_marks lane (flat_map line_marks lines)) [] in omega arith

pub marked_all : (f : ℕ → ℕ) (lane : LaneId) (runs : List Run) →
    sum_by (marked_by f lane) runs ≡ marked f lane (lines_of_all runs)
marked_all f lane [] = refl
marked_all f lane (r ∷ rs) =
    let rest = marked_all f lane rs in
    let a = sum_by-cons (marked_by f lane) r rs in
    let b = marked_cons f lane r.lines (lines_of_all rs) in omega arith

module _ (script : Script) (root : Start) (runs : List Run) (family : Family script (root ∷ []) runs) where
  each_from : (es : List (List Event)) (k : ℕ) (once : AllOnce k (length es) runs) →
      ((i : ℕ) (e : List Event) → slice_get es i ≡ Some e → slice_get script.callers (k + i) ≡ Some e) →
      EachCaller HasRun k es (in_order (length es) k runs once)
  each_from [] k once there = tt
  each_from (e ∷ es) k once there =
      let one = one_of k runs (first_once (length es) k runs once) in let r = one.run in
      let runs_in = each_of (RunsIn script) r runs family.each one.there in
      let here : slice_get script.callers r.begun.caller ≡ Some e =
      ap (slice_get script.callers) (one.own ∙ (let q : k ≡ k + 0 = omega arith in q)) ∙ there 0 e refl in
      let same : runs_in.events ≡ e = (let a = runs_in.there in cc) in (
        record {
          own = one.own;
          ended = subst (λ (es : List Event). RunEnded r.begun es r.end r.lines r.kids) same runs_in.has.ended;
          seen = runs_in.has.seen;
        },
        each_from es (suc k) (rest_once (length es) k runs once)
            (λ i x is. ap (slice_get script.callers) (let q : suc k + i ≡ k + suc i = omega arith in q)
            ∙ there (suc i) x is),
      )

  module _ (first : (root.caller ≡ 0) × (root.set ≡ first_setting)) (once : AllOnce 0 (length script.callers) runs)
      (low : AllByRecursion (λ r. number r < length script.callers) runs) where
    abbrev pub ordered : List Run
    ordered = in_order (length script.callers) 0 runs once

    began : (r : Run) → IsOneOf r runs → Began ordered r
    began r here = record {
      how = elim (each_of _ r runs family.began here) [
        | inl start ↦ inl (elim start [
          | inl is ↦ (ap (λ (s : Start). s.caller) (sym is) ∙ first.0, ap (λ (s : Start). s.set) (sym is) ∙ first.1)
          | inr none ↦ absurd none
        ])
        | inr p ↦ inr (
          p.0,
          in_order_all (length script.callers) 0 runs once p.0 p.1 (omega arith)
              (let l = each_of (λ r. number r < length script.callers) p.0 runs low p.1 in omega arith),
          p.2,
        )
      ];
    }

    pub ran_all : (w : View) → AllByRecursion (λ r. length w.lanes ≡ length r.end.lanes) runs →
        AllByRecursion (λ r. Grows r.end w) runs →
        ((f : ℕ → ℕ) (lane : LaneId) → index_of lane < length w.lanes →
        sum_by f (at (index_of lane) w).places ≡ sum_by (marked_by f lane) runs) →
        ((lane : LaneId) → index_of lane < length w.lanes →
        (at (index_of lane) w).made ≡ sum_by (marked_by (λ p. 1) lane) runs) →
        length w.lanes ≡ script.cpus + 2 → Ended (script.cpus + 2) w → RanAll script ordered w
    ran_all w sized known placed made wide ended = record {
      each = each_from script.callers 0 once
          (λ i e is. ap (slice_get script.callers) (let q : 0 + i ≡ i = omega arith in q) ∙ is);
      began = in_order_of (Began ordered) (length script.callers) 0 runs once began;
      sized = in_order_of (λ r. length w.lanes ≡ length r.end.lanes) (length script.callers) 0 runs once
          (λ r here. each_of (λ r. length w.lanes ≡ length r.end.lanes) r runs sized here);
      known = in_order_of (λ r. Grows r.end w) (length script.callers) 0 runs once
          (λ r here. each_of (λ r. Grows r.end w) r runs known here);
      placed = λ f lane near. placed f lane near
          ∙ sym (same_sum (marked_by f lane) (length script.callers) runs once low) ∙ marked_all f lane ordered;
      made = λ lane near. made lane near
          ∙ sym (same_sum (marked_by (λ p. 1) lane) (length script.callers) runs once low)
          ∙ marked_all (λ p. 1) lane ordered;
      wide = wide;
      ended = ended;
    }
