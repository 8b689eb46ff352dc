-- The setting at the start of each caller of a script, and the steps that its ancestors made before that start. A
-- parent has a lower number than its child.
use Rattle.std.proofs.Common.{◌≡◌, ◌⊎◌, inl, inr, ℕ, zero, suc, ◌<◌, ◌≤◌, max, Bool, true, false, None, List, [], ◌∷◌, ◌++◌, length, map, refl, sym, ap, ◌∙◌, subst, arith, length-append, append_assoc}
use Rattle.std.specs.Prelude.{nat_lt, ◌&&◌, if◌then◌else◌}
use Rattle.std.specs.List.{AllByRecursion, fold}
use Rattle.std.proofs.lemmas.List.{map-append}
use Rattle.std.proofs.Math.ListN.{get_or-map}
use Rattle.key_names.specs.declared.names.Step.{Step}
use Rattle.key_names.specs.Lanes.Book.{list_at}
use Rattle.key_names.specs.Callers.Calls.{Setting, Call, parent_from, first_setting, first_settings, setting_of, setting_after_call, inherited_setting, all_calls}
use Rattle.key_names.specs.Callers.History.{ancestors_steps, inherited_steps, calls_steps, through_visit}
use Rattle.key_names.specs.Transcripts.IsTranscript.{EachCaller, start_setting}
use Rattle.key_names.specs.Texts.ScriptGrammar.{Script, WellFormed, times_forked}
use Rattle.key_names.proofs.History.CallerOrders.{below, list_front, list_last, long_ancestors}
use Rattle.key_names.proofs.Transcripts.Settings.{setting_front, setting_last, long_settings}
use Rattle.lane_table.specs.declared.view.LaneView.{LaneView}
use Rattle.lane_table.specs.declared.view.View.{View}
use Rattle.lane_table.specs.LaneNumbers.{index_of}
use Rattle.lane_table.specs.Meaning.{replay}
use Rattle.lane_table.specs.WorldRule.{blank, known_of}
use Rattle.lane_table.specs.Steps.{Grows, recorded, child as split_off}
use Rattle.lane_table.specs.Advances.{MadeStep, looked, visited, step_of, stamps_in, Climbs, Sees, floor}
use Rattle.lane_table.proofs.Rule.Sights.{AllKnown, sees_append, sees_grown}
use Rattle.lane_table.proofs.Lists.VisitLists.{begins_trans}
use Rattle.lane_table.proofs.Calls.AdvanceLemmas.{stamps_append, climbs_append}
use Rattle.caller_run.specs.NumberedSteps.{NumberedStep, made_steps_of, items_of}
use Rattle.caller_run.specs.Items.{steps_of}
use Rattle.caller_run.specs.Laws.{Run, HasRun, Began, IsOneOf, lines_of_all}
use Rattle.caller_run.specs.Ran.{RanBy}
use Rattle.caller_run.proofs.Orders.Chains.{stood_known}
use Rattle.caller_run.proofs.Planning.Parents.{ParentIs, parent_is, no_parent, each_of}

-- The steps of a caller and its ancestors, in order

-- a caller and its ancestors made these steps, in this order, up to the view v of the caller's pass; w has all visits
-- at the end of the run
pub record Path (w v : View) (steps : List Step) : Type 0 where
  pub made_steps : List MadeStep
  pub first : ℕ
  pub steps_are : map step_of made_steps ≡ steps
  pub climbs : Climbs first (stamps_in made_steps) v.stamp
  pub sees : Sees w 0 made_steps (floor v)
  pub known : AllKnown w made_steps

pub path_start : (w v : View) → Path w v []
path_start w v =
    record { made_steps = []; first = v.stamp; steps_are = refl; climbs = refl; sees = omega arith; known = tt }

known_append : (w : View) (xs ys : List MadeStep) → AllKnown w xs → AllKnown w ys → AllKnown w (xs ++ ys)
known_append w [] ys a b = b
known_append w (looked g ∷ xs) ys a b = known_append w xs ys a b
known_append w (visited mark e ∷ xs) ys a b = (a.0, a.1, known_append w xs ys a.2 b)

known_grown : (v w : View) (made_steps : List MadeStep) → length w.lanes ≡ length v.lanes → Grows v w →
    AllKnown v made_steps → AllKnown w made_steps
known_grown v w [] sized grows a = tt
known_grown v w (looked g ∷ made_steps) sized grows a = known_grown v w made_steps sized grows a
known_grown v w (visited mark e ∷ made_steps) sized grows a =
    let lane : ℕ = index_of mark.lane in let more = grows lane a.0 in let long = ap length more.1 in (
      (let n = a.0 in omega arith),
      (let n = a.1 in omega (arith, length-append (known_of v lane) more.0)),
      known_grown v w made_steps sized grows a.2,
    )

pub steps_of_doings : (numbered_steps : List NumberedStep) →
    map step_of (made_steps_of numbered_steps) ≡ steps_of (items_of numbered_steps)
steps_of_doings [] = refl
steps_of_doings (d ∷ numbered_steps) = ap (λ (l : List Step). step_of d.made_step ∷ l) (steps_of_doings numbered_steps)

pub path_more : (w u v : View) (caller n : ℕ) (numbered_steps : List NumberedStep) (steps : List Step) →
    RanBy caller n u v numbered_steps → length w.lanes ≡ length v.lanes → Grows v w → Path w u steps →
    Path w v (steps ++ steps_of (items_of numbered_steps))
path_more w u v caller n numbered_steps steps ran sized grows c =
    let here = stood_known v caller numbered_steps ran.stood in record {
      made_steps = c.made_steps ++ made_steps_of numbered_steps;
      first = c.first;
      steps_are = map-append step_of c.made_steps (made_steps_of numbered_steps)
          ∙ (λ i. c.steps_are i ++ steps_of_doings numbered_steps i);
      climbs = subst (λ (l : List ℕ). Climbs c.first l v.stamp)
          (sym (stamps_append c.made_steps (made_steps_of numbered_steps)))
          (climbs_append c.first u.stamp v.stamp (stamps_in c.made_steps) (stamps_in (made_steps_of numbered_steps))
          c.climbs ran.climbs);
      sees = sees_append w 0 (floor u) (floor v) c.made_steps (made_steps_of numbered_steps) c.sees
          (sees_grown v w (floor u) (floor v) (made_steps_of numbered_steps) grows here ran.sees);
      known = known_append w c.made_steps (made_steps_of numbered_steps) c.known
          (known_grown v w (made_steps_of numbered_steps) sized grows here);
    }

-- a pass that was split off has seen as much as the pass that was split
pub floor_child : (v : View) → floor (split_off v) ≡ floor v
floor_child v = ap (λ (a : LaneView). max v.seen (replay a.known).base.generation) (get_or-map recorded v.lanes 1 blank)

pub path_child : (w v : View) (steps : List Step) → Path w v steps → Path w (split_off v) steps
path_child w v steps c = record {
  made_steps = c.made_steps;
  first = c.first;
  steps_are = c.steps_are;
  climbs = c.climbs;
  sees = subst (Sees w 0 c.made_steps) (sym (floor_child v)) c.sees;
  known = c.known;
}

at_most : (b : Bool) → (if b then 1 else 0) ≤ 1
at_most true = omega arith
at_most false = omega arith

module _ (script : Script) (runs : List Run) (w : View) (ok : WellFormed script)
    (each : EachCaller HasRun 0 script.callers runs) (began : AllByRecursion (Began runs) runs)
    (sized : AllByRecursion (λ r. length w.lanes ≡ length r.end.lanes) runs)
    (grows : AllByRecursion (λ r. Grows r.end w) runs) where
  abbrev callers : List (List Call)
  callers = all_calls script.callers (lines_of_all runs)

  once : (c : ℕ) → times_forked script.callers c ≤ 1
  once c = subst (λ (n : ℕ). n ≤ 1) (sym (ok.forked c)) (at_most (nat_lt 0 c && nat_lt c (length script.callers)))

  nobody : parent_from 0 0 callers ≡ None
  nobody = no_parent 0 0 script.callers runs each (ok.forked 0)

  abbrev HowBegan : Run → Type 0
  HowBegan r = ((r.begun.caller ≡ 0) × (r.begun.set ≡ first_setting))
      ⊎ ((p : Run) × IsOneOf p runs × IsOneOf r.begun p.kids)

  how : (r : Run) → IsOneOf r runs → HowBegan r
  how r here = (each_of (Began runs) r runs began here).how

  -- The setting that a caller starts with

  abbrev HasSet : ℕ → Type 0
  HasSet n = (r : Run) → IsOneOf r runs → r.begun.caller < n →
      setting_of (first_settings callers n) r.begun.caller ≡ r.begun.set

  next_set : (n : ℕ) → HasSet n → (r : Run) → IsOneOf r runs → r.begun.caller ≡ n →
      inherited_setting (first_settings callers n) (parent_from n 0 callers) ≡ r.begun.set
  next_set n before r here is = go (how r here)
    where
      go : HowBegan r → inherited_setting (first_settings callers n) (parent_from n 0 callers) ≡ r.begun.set
      go (inl first) =
          ap (λ (k : ℕ). inherited_setting (first_settings callers n) (parent_from k 0 callers)) (sym is ∙ first.0)
          ∙ ap (inherited_setting (first_settings callers n)) nobody ∙ sym first.1
      go (inr child) =
          let p : ParentIs 0 script.callers runs child.0 r.begun =
          parent_is 0 script.callers runs child.0 r.begun each child.1 child.2 (once r.begun.caller) in
          let low : child.0.begun.caller < n = (let a = p.forked.above in omega arith) in
          ap (λ (k : ℕ). inherited_setting (first_settings callers n) (parent_from k 0 callers)) (sym is)
          ∙ ap (inherited_setting (first_settings callers n)) p.is
          ∙ ap (λ (set : Setting). fold setting_after_call set p.forked.before) (before child.0 child.1 low)
          ∙ sym p.forked.set_is

  has_set : (n : ℕ) → HasSet n
  has_set zero r here low = absurd (omega arith)
  has_set (suc n) r here low =
      let sets = first_settings callers n in
      let x : Setting = inherited_setting sets (parent_from n 0 callers) in
      let long = long_settings callers n in
      elim (below r.begun.caller n low) [
        | inl less ↦ setting_front sets x r.begun.caller (omega arith) ∙ has_set n r here less
        | inr same ↦ ap (setting_of (sets ++ x ∷ [])) (same ∙ sym long) ∙ setting_last sets x
            ∙ next_set n (has_set n) r here same
      ]

  pub starts_so : (r : Run) → IsOneOf r runs → r.begun.caller < length callers →
      start_setting callers r.begun.caller ≡ r.begun.set
  starts_so r here low = has_set (length callers) r here low

  -- The steps that a caller's ancestors made before its start

  abbrev HasPath : ℕ → Type 0
  HasPath n = (r : Run) → IsOneOf r runs → r.begun.caller < n →
      Path w r.begun.view (list_at (ancestors_steps callers n) r.begun.caller)

  next_path : (n : ℕ) → HasPath n → (r : Run) → IsOneOf r runs → r.begun.caller ≡ n →
      Path w r.begun.view (inherited_steps (ancestors_steps callers n) (parent_from n 0 callers))
  next_path n before r here is = go (ancestors_steps callers n) before (how r here)
    where
      go : (earlier : List (List Step)) → ((r : Run) → IsOneOf r runs → r.begun.caller < n →
          Path w r.begun.view (list_at earlier r.begun.caller)) → HowBegan r →
          Path w r.begun.view (inherited_steps earlier (parent_from n 0 callers))
      go earlier before (inl first) =
          subst (Path w r.begun.view)
          (sym (ap (λ (k : ℕ). inherited_steps earlier (parent_from k 0 callers)) (sym is ∙ first.0)
          ∙ ap (inherited_steps earlier) nobody)) (path_start w r.begun.view)
      go earlier before (inr child) =
          let p : ParentIs 0 script.callers runs child.0 r.begun =
          parent_is 0 script.callers runs child.0 r.begun each child.1 child.2 (once r.begun.caller) in
          let f = p.forked in let q = child.0 in
          let low : q.begun.caller < n = (let a = f.above in omega arith) in
          let long = each_of (λ r. length w.lanes ≡ length r.end.lanes) q runs sized child.1 in
          let more = each_of (λ r. Grows r.end w) q runs grows child.1 in
          let all : Path w f.middle (list_at earlier q.begun.caller ++ steps_of (items_of f.numbered_steps)) =
          path_more w q.begun.view f.middle q.begun.caller f.splits f.numbered_steps (list_at earlier q.begun.caller)
          f.ran (long ∙ f.sized)
          (λ lane near. begins_trans (known_of f.middle lane) (known_of q.end lane) (known_of w lane)
          (f.grows lane near) (more lane (let e = f.sized in omega arith)))
          (before q child.1 low) in
          let is_so : list_at earlier q.begun.caller ++ steps_of (items_of f.numbered_steps)
          ≡ inherited_steps earlier (parent_from n 0 callers) =
          ap (λ (l : List Step). list_at earlier q.begun.caller ++ l) f.order
          ∙ sym (append_assoc (list_at earlier q.begun.caller) (calls_steps f.before) (through_visit f.line.steps))
          ∙ sym (ap (λ (k : ℕ). inherited_steps earlier (parent_from k 0 callers)) (sym is)
          ∙ ap (inherited_steps earlier) p.is) in
          subst (λ (v : View). Path w v (inherited_steps earlier (parent_from n 0 callers))) (sym f.view_is)
          (path_child w f.middle (inherited_steps earlier (parent_from n 0 callers))
          (subst (Path w f.middle) is_so all))

  pub has_path : (n : ℕ) → HasPath n
  has_path zero r here low = absurd (omega arith)
  has_path (suc n) r here low =
      let lists = ancestors_steps callers n in
      let x : List Step = inherited_steps lists (parent_from n 0 callers) in
      let long = long_ancestors callers n in
      elim (below r.begun.caller n low) [
        | inl less ↦ subst (Path w r.begun.view) (sym (list_front lists x r.begun.caller (omega arith)))
            (has_path n r here less)
        | inr same ↦ subst (Path w r.begun.view)
            (sym (ap (list_at (lists ++ x ∷ [])) (same ∙ sym long) ∙ list_last lists x))
            (next_path n (has_path n) r here same)
      ]
