-- All callers of a script ran, and their lines are in their slots.
use Rattle.std.proofs.Common.{zero, suc, replicate, get_or, ◌≡◌, ℕ, ◌+◌, ◌*◌, ◌<◌, ◌^◌, List, [], ◌∷◌, ◌++◌, length, map, refl, sym, ap, ◌∙◌, subst, arith, append-nil}
use Rattle.std.specs.List.{AllByRecursion}
use Rattle.std.proofs.lemmas.List.{map-append}
use Rattle.std.proofs.lemmas.Nat.{pow_pos}
use Rattle.std.proofs.Math.Nat.{eq_of_mul-eq-mul_right, mul_comm}
use Rattle.key_names.specs.declared.events.Event.{Event}
use Rattle.key_names.specs.Lanes.Book.{list_at}
use Rattle.key_names.specs.Texts.ScriptGrammar.{Script, WellFormed}
use Rattle.key_names.specs.Transcripts.SeenLine.{SeenLine}
use Rattle.key_names.specs.Texts.TranscriptGrammar.{LastHasLines}
use Rattle.lane_table.specs.declared.lanes.Lanes.{Lanes}
use Rattle.lane_table.specs.declared.lanes.Pass.{Pass}
use Rattle.lane_table.specs.declared.view.LaneView.{LaneView}
use Rattle.lane_table.specs.declared.view.TableSize.{TableSize as TablePlan}
use Rattle.lane_table.specs.declared.view.View.{View}
use Rattle.lane_table.specs.Steps.{Seated, first_view}
use Rattle.lane_table.specs.WorldRule.{blank}
use Rattle.lane_table.specs.Calls.{view, count_of, Ended}
use Rattle.lane_table.specs.Hands.{HoldsLanes}
use Rattle.rng_core.specs.declared.setting.Setting.{Setting}
use Rattle.transcript_text.specs.Gathered.{Gathered}
use Rattle.caller_run.specs.Families.{SameShare, RunsIn}
use Rattle.caller_run.specs.Forest.{Forest, no_more, more, numbers, AreForked, forks}
use Rattle.caller_run.specs.ForkTree.{ForkTree, cleared, planted, Layout, tree, emitted_in, emitted_by}
use Rattle.caller_run.specs.Laws.{Run, LawfulRuns, lines_of_all}
use Rattle.caller_run.specs.Plans.{IsNewRoom, IsPlanned, HaveSlots, put_in}
use Rattle.caller_run.specs.Standing.{Start}
use Rattle.rng_core.specs.Settings.{first_setting}
use Rattle.caller_run.specs.RunningCallers.{ArePrepared, CanRun, Returned, WholeRan, IsFirst, numbered, start_of}
use Rattle.caller_run.proofs.Law.Whole.{lawful_runs}
use Rattle.caller_run.proofs.Orders.InOrder.{number, numbers_of, AllOnce, in_order, in_order_of}
use Rattle.caller_run.proofs.Planning.OnceEach.{times_in, below, once_each}
use Rattle.caller_run.proofs.Orders.OwnPlaces.{MadeNothing}
use Rattle.caller_run.proofs.Planning.Parents.{each_of}
use Rattle.caller_run.proofs.Forks.Runs.{once, whole}
use Rattle.caller_run.proofs.Planning.Slots.{put_all, have_slots, fit_long, last_has}

prepared_forked : (callers : List (List Event)) (g : ForkTree) (cs : List ℕ) → ArePrepared callers g cs →
    AreForked callers (tree g) cs
prepared_forked callers cleared [] h = tt
prepared_forked callers cleared (x ∷ xs) h = absurd h
prepared_forked callers (planted c s ks rest) [] h = absurd h
prepared_forked callers (planted c s ks rest) (x ∷ xs) h =
    (h.0, prepared_forked callers ks (forks (list_at callers c)) h.3, prepared_forked callers rest xs h.4)

abbrev pub number_in : ℕ × List SeenLine → ℕ
number_in x = x.0

numbers_emitted : (g : ForkTree) → map number_in (emitted_in g) ≡ numbers (tree g)
numbers_emitted cleared = refl
numbers_emitted (planted c s ks rest) = ap (λ (l : List ℕ). c ∷ l)
    (map-append number_in (emitted_in ks) (emitted_in rest) ∙ (λ i. numbers_emitted ks i ++ numbers_emitted rest i))

numbers_numbered : (runs : List Run) → map number_in (map numbered runs) ≡ numbers_of runs
numbers_numbered [] = refl
numbers_numbered (r ∷ rs) = ap (λ (l : List ℕ). r.begun.caller ∷ l) (numbers_numbered rs)

pub whole_share : (v w : View) → SameShare v w → v.share ≡ 2 ^ v.halvings → w.share ≡ 2 ^ w.halvings
whole_share v w same whole =
    eq_of_mul-eq-mul_right (2 ^ v.halvings) (pow_pos v.halvings) w.share (2 ^ w.halvings) (same ∙ ap (λ (n : ℕ). n * 2 ^ w.halvings) whole
    ∙ mul_comm (2 ^ v.halvings) (2 ^ w.halvings))

pub can_caller : (t : Lanes) (script : Script) (set : Setting) (caller : ℕ) (p : Pass) (a : Layout) →
    HoldsLanes t caller [] p → (set.cpu < t.cpus) × (set.now < 2 ^ 40) → WellFormed script → t.cpus ≡ script.cpus →
    IsNewRoom script.callers caller a → CanRun t script (record set { caller = caller; event = 0 }) p a
can_caller t script set caller p a has fits well cpus room = record {
  has = has;
  cpu = fits.0;
  now' = fits.1;
  none_yet = refl;
  well = well;
  cpus = cpus;
  is = room.is;
  there = room.there;
  new = room.new;
  ready = room.ready;
}

pub can_all : {t : Lanes} {script : Script} {p : Pass} {a : Layout} {slots : List Gathered} → HoldsLanes t 0 [] p →
    WellFormed script → t.cpus ≡ script.cpus → IsPlanned script a slots → CanRun t script (first_setting 0) p a
can_all {t = t} {script = script} {p = p} {a = a} has well cpus planned =
    can_caller t script (first_setting 0) 0 p a has (let some = well.cpus.0 in (omega arith, omega arith)) well cpus
    planned.root

low_of : (n : ℕ) (rs : List Run) → AllByRecursion (λ x. x < n) (numbers_of rs) → AllByRecursion (λ r. number r < n) rs
low_of n [] low = tt
low_of n (r ∷ rs) low = (low.0, low_of n rs low.1)

module _ {t : Lanes} {script : Script} {p : Pass} {a : Layout} {q : Pass} {b : Layout}
    (can : CanRun t script (first_setting 0) p a) (back : Returned t script (start_of (first_setting 0) p) a q b) where
  abbrev f : Forest
  f = more a.caller (tree a.kids) no_more

  abbrev runs : List Run
  runs = back.own ∷ back.runs

  are : AreForked script.callers f (0 ∷ [])
  are = (can.is, prepared_forked script.callers a.kids (forks (list_at script.callers a.caller)) can.ready, tt)

  same : numbers_of runs ≡ numbers f
  same = sym (numbers_numbered runs) ∙ ap (map number_in) (sym back.recorded)
      ∙ (λ i. back.caller i ∷ (numbers_emitted b.kids ∙ ap numbers back.shape) i)
      ∙ ap (λ (l : List ℕ). a.caller ∷ l) (sym (append-nil (numbers (tree a.kids))))

  each_once : AllOnce 0 (length script.callers) runs
  each_once c from to = ap (times_in c) same ∙ once_each script can.well f are c (omega arith)

  all_low : AllByRecursion (λ r. number r < length script.callers) runs
  all_low = low_of (length script.callers) runs
      (subst (AllByRecursion (λ x. x < length script.callers)) (sym same) (below script can.well f are))

  -- each caller of the script has a slot for its lines
  pub slots_there : (n : ℕ) → n ≡ length script.callers → HaveSlots n (emitted_by b)
  slots_there n is = subst (HaveSlots n) (sym back.recorded)
      (have_slots n runs (subst (λ (m : ℕ). AllByRecursion (λ r. number r < m) runs) (sym is) all_low))

  module _ (slots t' : List (List SeenLine)) (long : length slots ≡ length script.callers)
      (put : t' ≡ put_in slots (emitted_by b)) where
    lines_are : (o : AllOnce 0 (length script.callers) runs) →
        t' ≡ lines_of_all (in_order (length script.callers) 0 runs o)
    lines_are o = put ∙ ap (put_in slots) back.recorded ∙ put_all (length script.callers) runs o slots long

    -- the last caller of the script has at least one line
    pub last_there : LastHasLines t'
    last_there = subst LastHasLines (sym (lines_are each_once))
        (last_has (in_order (length script.callers) 0 runs each_once)
        (in_order_of (λ r. 0 < length r.lines) (length script.callers) 0 runs each_once
        (λ r here. let i = each_of (RunsIn script) r runs back.ran.family.each here in
        fit_long r.begun.caller 0 i.events r.lines i.has.ended.fit)))

    pub whole_ran : (r : Pass) → r.seat.me ≡ q.seat.me →
        ((view q).share ≡ 2 ^ (view q).halvings → Ended (count_of t) (view q)) → IsFirst (view p) →
        (view p).share ≡ 2 ^ (view p).halvings → WholeRan script t' (view r)
    whole_ran r kept ends first whole_at =
        let root : Start = start_of (first_setting 0) p in
        let none : MadeNothing root.view = record { places = first.places; made = first.made } in
        let wide : length (view q).lanes ≡ script.cpus + 2 = back.has.pass.sized ∙ ap (λ (n : ℕ). n + 2) can.cpus in
        let ended : Ended (script.cpus + 2) (view q) =
        subst (λ (n : ℕ). Ended (n + 2) (view q)) can.cpus (ends (whole_share (view p) (view q) back.ran.share whole_at)) in
        let all = whole script can.well root (view q) back.own back.runs back.ran none (refl, refl) f are same wide ended in
        let is = lines_are (once script can.well root (view q) back.own back.runs back.ran none (refl, refl) f are same wide ended) in
        subst (WholeRan script t') (sym (ap (λ s. s.0) kept)) (record {
          runs = _;
          ran = all;
          recorded = is;
          lawful = subst (λ (l : List (List SeenLine)). LawfulRuns script l (view q)) (sym is)
              (lawful_runs script _ (view q) can.well all);
        })

-- the pass of a new table has made no visit, and has the whole share of the table
pub new_first : (plan : TablePlan) → IsFirst (first_view plan)
new_first plan = record {
  places = λ lane. ap (λ (a : LaneView). a.places) (blank_at plan.count lane);
  made = λ lane. ap (λ (a : LaneView). a.made) (blank_at plan.count lane);
}
  where
    blank_at : (n lane : ℕ) → get_or (replicate n blank) lane blank ≡ blank
    blank_at zero lane = refl
    blank_at (suc n) zero = refl
    blank_at (suc n) (suc lane) = blank_at n lane

module _ (plan : TablePlan) (p : Pass) (seat : p.seat.me ≡ (first_view plan, [])) where
  seen_so : view p ≡ first_view plan
  seen_so = ap (λ (m : Seated). m.0) seat

  pub starts_first : IsFirst (view p)
  starts_first = subst IsFirst (sym seen_so) (new_first plan)

  pub starts_whole : (view p).share ≡ 2 ^ (view p).halvings
  starts_whole = subst (λ (v : View). v.share ≡ 2 ^ v.halvings) (sym seen_so) (omega arith)

  pub ends_whole : (q : Pass) → SameShare (view p) (view q) → (view q).share ≡ 2 ^ (view q).halvings
  ends_whole q same' = whole_share (view p) (view q) same' starts_whole
