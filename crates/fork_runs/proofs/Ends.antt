-- What the code did on a new table implies the facts of `AreForkedBytes` about the table's book and the bytes of parent
-- and child.
use Rattle.std.proofs.Common.{◌≡◌, ℕ, ◌+◌, ◌-◌, ◌^◌, ◌<◌, ◌≤◌, false, true, List, [], ◌∷◌, ◌++◌, length, refl, sym, ap, ◌∙◌, subst, arith}
use Rattle.std.proofs.lemmas.List.{length-map, map-append}
use Rattle.std.proofs.lemmas.List.FromFn.{length-range_with_len}
use Rattle.std.specs.List.{AllByRecursion, range_with_len}
use Rattle.key_names.specs.declared.entries.VEntry.{VEntry}
use Rattle.key_names.specs.declared.entries.VEntry.TheVariants.{Wipe}
use Rattle.key_names.specs.declared.events.Answer.TheVariants.{Ok as Done}
use Rattle.key_names.specs.declared.events.Event.TheVariants.{Add}
use Rattle.key_names.specs.declared.names.LaneId.{LaneId}
use Rattle.key_names.specs.declared.names.LaneId.TheVariants.{Pool as PoolLane, Base as BaseLane, Cpu as CpuLane}
use Rattle.key_names.specs.declared.names.Step.{Step}
use Rattle.key_names.specs.declared.point.Point.{Point}
use Rattle.key_names.specs.declared.point.Point.TheVariants.{Serve}
use Rattle.key_names.specs.Lanes.Book.{Book, LawfulBook, LawfulLanes, Lists, cpu_list}
use Rattle.key_names.specs.Callers.Effects.{Effect, effects_of}
use Rattle.key_names.specs.Transcripts.IsTranscript.{MarkBy, VisitsAre, stamped_at}
use Rattle.key_names.specs.Transcripts.SeenLine.{no_data}
use Rattle.key_names.specs.Keys.ServedNamed.{VisitsServeNamed}
use Rattle.key_names.specs.Lanes.StateList.{OrderedStateList, TakesRead, state_start}
use Rattle.key_names.specs.Keys.Uses.{is_rekeyed}
use Rattle.key_names.specs.Kernel.Vgetrandom.{HostStep, IsCall, Outcome, at_point, prefix_outcome}
use Rattle.key_names.specs.Kernel.VgetrandomState.{VgetrandomState, wiped_state}
use Rattle.key_names.specs.Callers.VreadSteps.{Shows, published_by}
use Rattle.key_names.proofs.Lists.Each.{each_append, each_right, each_weaker}
use Rattle.key_names.proofs.Transcripts.KeyVisits.{all_there, key_reads}
use Rattle.key_names.proofs.Transcripts.TakenMarks.{effects_within, mark_takes}
use Rattle.key_names.proofs.Uses.BookUses.{lawful_is_disjoint}
use Rattle.key_names.proofs.Values.BatchNamed as batch
use Rattle.key_names.proofs.Values.ServedNamed.{lawful_serves_named}
use Rattle.key_names.proofs.Vgetrandom.CallsKeep.{call_keeps}
use Rattle.key_names.proofs.Vgetrandom.KeyReads.{KeyReads, call_names}
use Rattle.key_names.proofs.Vgetrandom.KeyTakes.{call_bounded, ending_takes, shown_takes, step_append, step_takes, takes}
use Rattle.key_names.proofs.Vgetrandom.StatesReplay.{Good, GoodAfter}
use Rattle.lane_table.specs.declared.view.LaneView.{LaneView}
use Rattle.lane_table.specs.declared.view.View.{View}
use Rattle.lane_table.specs.declared.view.Visit.{Visit}
use Rattle.lane_table.specs.Advances.{Climbs, floor}
use Rattle.lane_table.specs.BookLaws.{Continues}
use Rattle.lane_table.specs.BookLists.{StateLists, book_lists, book_of}
use Rattle.lane_table.specs.Calls.{Ended}
use Rattle.lane_table.specs.Steps.{Grows, both_of, halved, merged, recorded}
use Rattle.lane_table.specs.Steps as steps
use Rattle.lane_table.specs.WorldRule.{AllBegin, at, known_of}
use Rattle.lane_table.proofs.Book.BookEnds.{continues_before, ended_lanes, ended_lawful}
use Rattle.lane_table.proofs.Calls.AdvanceLemmas.{climbs_append}
use Rattle.lane_table.proofs.Rule.Shares.{merged_at, length_merged}
use Rattle.lane_table.proofs.Lists.VisitLists.{begins_refl, with_both}
use Rattle.vdso_state.specs.declared.place.Place.{Place}
use Rattle.vdso_state.specs.declared.place.Turn.{Turn}
use Rattle.vdso_state.specs.declared.place.Turn.TheVariants.{First, Second}
use Rattle.vdso_state.specs.Places.{AfterPlace, Climbs as HostClimbs}
use Rattle.vdso_state.proofs.Leading.{climbs_append as host_climbs_append}
use Rattle.vcall_fork.specs.declared.stage.Stage.{Stage}
use Rattle.vcall_fork.specs.declared.stage.Stage.TheVariants.{At}
use Rattle.vcall_fork.specs.Stops.{RestOfCall}
use Rattle.vcall_fork.specs.Forks.{ForksAreRecorded, ChildTakesKey}
use Rattle.vcall_fork.proofs.Rests.{child_ordered, rest_asked, rest_bounded, rest_named}
use Rattle.rng_core.specs.declared.setting.Setting.{Setting}
use Rattle.rng_core.specs.Makes.{IsOutcomeOf, setting_of}
use Rattle.rng_core.specs.Settings.{first_setting}
use Rattle.rng_core.proofs.Makings.{did_floor}
use Rattle.rng_core.proofs.Paths.{Path, IsKnown, known_grown, marks_both, marks_in, none_made, start, three_visits}
use Rattle.rng_core.proofs.Hosting.{published_more}
use Rattle.rng_core.specs.Traces.{knowing}
use Rattle.fork_runs.specs.Stretches.{FinishedOver}
use Rattle.fork_runs.specs.Runs.{DidAll, RanBy, ReachedStop, ForkedOver}
use Rattle.fork_runs.specs.TableForks.{AreForkedBytes, IsEnd, ShowsNamed, CallsUpTo, call_entries, marks_of, stamps_of, two_states}
use Rattle.fork_runs.proofs.HostPaths.{path_did, path_calls}
use Rattle.fork_runs.proofs.Joining.{child_at, floor_child, joined_floor, whole_again}
use Rattle.fork_runs.proofs.Lines.{apart, begun, fronts, lawful, line_named, rekeyed_counts, start_holds}
use Rattle.fork_runs.proofs.Looks.{found_some, good_first, good_here, good_parts, reads_both}
use Rattle.fork_runs.proofs.Marks.{IsAt, at_most_once, calls_append, calls_have, hits_append, hits_calls}
use Rattle.fork_runs.proofs.Stretching.{climbs_up}
use Rattle.fork_runs.proofs.TwoStops.{parents_call, childs_call}

stamps_up : (low high : ℕ) (stamps : List ℕ) → Climbs low stamps high → low ≤ high
stamps_up low high [] h = omega arith
stamps_up low high (stamp ∷ stamps) h = let a = h.0 in let b = stamps_up stamp high stamps h.1 in omega arith

-- the visits in a book do not depend on its lists of vgetrandom states
module _ (book : Book) (callers : StateLists) where
  same_at : (lane : LaneId) (place : ℕ) → stamped_at book lane place ≡
      stamped_at (record book { callers = callers }) lane place
  same_at PoolLane place = refl
  same_at BaseLane place = refl
  same_at (CpuLane c) place = refl

  with_callers : (marks : List MarkBy) → VisitsAre book marks → VisitsAre (record book { callers = callers }) marks
  with_callers marks k = record {
    conform = each_weaker (IsAt book) (IsAt (record book { callers = callers })) marks
        (λ by is. sym (same_at by.mark.lane by.mark.place) ∙ is) k.conform;
    no_others = k.no_others;
  }

-- The calls of the parent before the fork

ran_path : (n : ℕ) (s : VgetrandomState) (turn : Turn) (point : Point) (before : List HostStep) (v w : View)
    (calls : List (List Step)) → RanBy (first_setting 0) n 0 s turn point before v calls w →
    Path v w (marks_of 0 calls)
ran_path n s First point before v w calls k =
    subst (λ (l : List (List Step)). Path v w (marks_of 0 l)) (sym k.1) (path_did 0 v w k.0 k.2)
ran_path n s Second point before v w calls k =
    subst (λ (l : List (List Step)). Path v w (marks_of 0 l)) (sym k.calls_are)
    (path_calls 0 v k.at_serve w (k.own ∷ []) (k.reseeded ∷ k.more ∷ [])
    (path_did 0 v k.at_serve k.own k.shown)
    (path_calls 0 k.at_serve k.following w (k.reseeded ∷ []) (k.more ∷ [])
    (path_did 0 k.at_serve k.following k.reseeded k.reseeds) (path_did 0 k.following w k.more k.shown_more)))

module _ (lanes : ℕ) (visits : ℕ → List Visit) (callers : StateLists) where
  abbrev book : Lists
  book = book_lists lanes visits callers

  -- if `P` holds for what a call did, it holds for the effects of the call's steps in the final book
  shown_in : {P : List Effect → Type 0} (set : Setting) (v w : View) (own : List Step) → DidAll P set v own w →
      Continues lanes w visits → P (effects_of book own)
  shown_in {P} set v w own k c = subst (λ (l : List Step). P (effects_of book l)) (sym k.recorded.trace)
      (k.conforms lanes visits callers c)

  before_call : {P : List Effect → Type 0} (set : Setting) (v w : View) (own : List Step) → DidAll P set v own w →
      Continues lanes w visits → Continues lanes v visits
  before_call set v w own k c = continues_before lanes v w visits k.recorded.went.same.sized k.recorded.went.grows c

  way_in : (n : ℕ) (turn : Turn) (point : Point) (before : List HostStep) (v w : View) (calls : List (List Step)) →
      RanBy (first_setting 0) n 0 wiped_state turn point before v calls w → Continues lanes w visits →
      CallsUpTo book n turn point before calls
  way_in n First point before v w calls k c = (k.0, k.1, shown_in (first_setting 0) v w k.0 k.2 c)
  way_in n Second point before v w calls k c =
      let following = before_call (first_setting 0) k.following w k.more k.shown_more c in
      let serve = before_call (first_setting 0) k.at_serve k.following k.reseeded k.reseeds following in record {
        earlier = k.earlier;
        later = k.later;
        before_is = k.before_is;
        own = k.own;
        reseeded = k.reseeded;
        more = k.more;
        calls_are = k.calls_are;
        shown = shown_in (first_setting 0) v k.at_serve k.own k.shown serve;
        reseeds = shown_in (first_setting 0) k.at_serve k.following k.reseeded k.reseeds following;
        shown_more = shown_in (first_setting 0) k.following w k.more k.shown_more c;
      }

  ran_good : (n : ℕ) (turn : Turn) (point : Point) (before : List HostStep) (v w : View) (calls : List (List Step)) →
      RanBy (first_setting 0) n 0 wiped_state turn point before v calls w → Continues lanes w visits →
      GoodAfter book 0 0 before
  ran_good n First point before v w calls k c =
      good_first lanes visits callers (first_setting 0) v w k.0 before k.2 c 0 0
  ran_good n Second point before v w calls k c =
      let following = before_call (first_setting 0) k.following w k.more k.shown_more c in
      let serve = before_call (first_setting 0) k.at_serve k.following k.reseeded k.reseeds following in
      let more = published_more (floor k.at_serve) (floor k.following)
      (did_floor (first_setting 0) (knowing k.at_serve []) (knowing k.following k.reseeded) k.reseeds) in
      let ready : 1 ≤ published_by (floor k.following) =
      (let a = k.earlier.ready in let b = k.known in omega arith) in
      subst (GoodAfter book 0 0) (sym k.before_is) (good_parts book 0 0 k.earlier.before k.later.before Serve false
      (good_first lanes visits callers (first_setting 0) v k.at_serve k.own k.earlier.before k.shown serve 0 0)
      (good_here lanes visits callers (first_setting 0) k.following w k.more k.later.before k.shown_more c
      (found_some (floor k.following) ready)))

  abbrev end_in : (caller n : ℕ) (place : Place) (left : Stage) (out held : List ℕ) (t s : VgetrandomState) (bytes : List ℕ)
      (v w : View) (own : List Step) → left ≡ At place → out ≡ held → t ≡ s →
      FinishedOver (first_setting caller) n 0 left out t bytes (knowing v []) (knowing w own) →
      Continues lanes w visits → IsEnd book caller n place held s bytes
  end_in caller n place left out held t s bytes v w own stage_is held_is state_is k c = record {
    steps = k.steps;
    outcome = k.outcome;
    rest = subst (λ (z : VgetrandomState). AfterPlace n 0 place held z k.steps k.outcome) state_is
        (subst (λ (l : List ℕ). AfterPlace n 0 place l t k.steps k.outcome) held_is
        (subst (λ (x : Stage). RestOfCall x n 0 out t k.steps k.outcome) stage_is k.rest));
    unwiped = k.unwiped;
    gives = k.gives;
    own = own;
    shown = shown_in (first_setting caller) v w own k.did c;
  }

-- The reads that the call took as keys before the fork

module _ (lists : Lists) (n : ℕ) where
  abbrev shown_by : List HostStep → List Step → Type 0
  shown_by steps own = Shows (setting_of (first_setting 0)) steps (effects_of lists own)

  own_reads : (steps : List HostStep) (own : List Step) → shown_by steps own → KeyReads (cpu_list lists) steps
  own_reads steps own shows =
      key_reads lists (setting_of (first_setting 0)) steps (effects_of lists own) (all_there lists own) shows

  reads_on_way : (turn : Turn) (point : Point) (before : List HostStep) (calls : List (List Step)) →
      CallsUpTo lists n turn point before calls → KeyReads (cpu_list lists) before
  reads_on_way First point before calls k = own_reads before k.0 k.2
  reads_on_way Second point before calls k = subst (KeyReads (cpu_list lists)) (sym k.before_is)
      (reads_both (cpu_list lists) k.earlier.before (at_point Serve false ∷ k.later.before)
      (own_reads k.earlier.before k.own k.shown) (own_reads k.later.before k.more k.shown_more))

  module _ (c p : ℕ) where
    own_takes : (steps : List HostStep) (own : List Step) → shown_by steps own →
        step_takes c p steps ≤ mark_takes (CpuLane c) p own
    own_takes steps own shows =
        omega (
          arith,
          shown_takes c p (setting_of (first_setting 0)) steps (effects_of lists own) shows,
          effects_within c p lists own,
        )

    takes_on_way : (turn : Turn) (point : Point) (before : List HostStep) (calls : List (List Step)) →
        CallsUpTo lists n turn point before calls → step_takes c p before ≤ calls_have (CpuLane c) p calls
    takes_on_way First point before calls k =
        let have : calls_have (CpuLane c) p calls ≡ mark_takes (CpuLane c) p k.0 + 0 =
        ap (calls_have (CpuLane c) p) k.1 in
        omega (arith, own_takes before k.0 k.2)
    takes_on_way Second point before calls k =
        let have : calls_have (CpuLane c) p calls
        ≡ mark_takes (CpuLane c) p k.own + (mark_takes (CpuLane c) p k.reseeded + (mark_takes (CpuLane c) p k.more + 0)) =
        ap (calls_have (CpuLane c) p) k.calls_are in
        let parts : step_takes c p before ≡ step_takes c p (k.earlier.before ++ at_point Serve false ∷ k.later.before) =
        ap (step_takes c p) k.before_is in
        omega (
          arith,
          step_append c p k.earlier.before (at_point Serve false ∷ k.later.before),
          own_takes k.earlier.before k.own k.shown,
          own_takes k.later.before k.more k.shown_more,
        )

-- suppose that caller 0 added a sample to a new table, ran a vgetrandom call until it was stopped, and forked there
module _ (turn : Turn) (point : Point) (n : ℕ) (p q w x : View) (left : Stage) (out : List ℕ) (t : VgetrandomState)
    (parent child : List ℕ) (new : p ≡ start)
    (sampled : (own : List Step)
    × DidAll (IsOutcomeOf (setting_of (first_setting 0)) (Add (range_with_len 0 32) 256) Done no_data) (first_setting 0)
    p own q)
    (reached : ReachedStop (first_setting 0) n 0 wiped_state turn point left out t q w)
    (over : ForkedOver (first_setting 0) n 0 left out t parent child w x) where
  abbrev mid : View
  mid = over.at_fork

  abbrev parents_marks : List MarkBy
  parents_marks = marks_of 0 (sampled.0 ∷ reached.calls ++ over.forked ∷ [])

  abbrev rest_marks : List MarkBy
  rest_marks = marks_of 0 (over.parents ∷ [])

  abbrev child_marks : List MarkBy
  child_marks = marks_of 1 (over.childs ∷ [])

  to_stop : Path q w (marks_of 0 reached.calls)
  to_stop = ran_path n wiped_state turn point reached.stop.before q w reached.calls reached.ran

  forking : Path w mid (marks_of 0 (over.forked ∷ []))
  forking = path_did 0 w mid over.forked over.forks

  fork_path : Path start mid parents_marks
  fork_path = subst (λ (z : View). Path z mid parents_marks) new
      (path_calls 0 p q mid (sampled.0 ∷ []) (reached.calls ++ over.forked ∷ []) (path_did 0 p q sampled.0 sampled.1)
      (path_calls 0 q w mid reached.calls (over.forked ∷ []) to_stop forking))

  parent_path : Path (halved mid) over.parent_end rest_marks
  parent_path = path_did 0 (halved mid) over.parent_end over.parents over.parent_ends.did

  abbrev half : View
  half = steps.child mid

  -- the view of the child's pass (what it knows of the lanes) after it took in the parent's pass
  abbrev pub both : View
  both = both_of half over.parent_end

  child_path : Path both x child_marks
  child_path = path_did 1 both x over.childs over.child_ends.did

  half_wide : length half.lanes ≡ 3
  half_wide = length-map mid.lanes recorded ∙ fork_path.same.sized

  parent_wide : length over.parent_end.lanes ≡ 3
  parent_wide = parent_path.same.sized ∙ fork_path.same.sized

  long : length half.lanes ≡ length over.parent_end.lanes
  long = half_wide ∙ sym parent_wide

  both_wide : length both.lanes ≡ 3
  both_wide = length_merged half.lanes over.parent_end.lanes long ∙ half_wide

  pub share_is : x.share ≡ 2 ^ x.halvings
  share_is =
      let whole : both.share ≡ 2 ^ both.halvings =
      whole_again half.share over.parent_end.share half.halvings over.parent_end.halvings
      fork_path.same.share (parent_path.same.share ∙ fork_path.same.share)
      (ap (λ (k : ℕ). k + 1) fork_path.same.halvings)
      (parent_path.same.halvings ∙ ap (λ (k : ℕ). k + 1) fork_path.same.halvings) in
      child_path.same.share ∙ whole ∙ ap (λ (k : ℕ). 2 ^ k) (sym child_path.same.halvings)

  wide : length x.lanes ≡ 3
  wide = child_path.same.sized ∙ both_wide

  both_at : (lane : ℕ) → at lane both ≡ merged (at lane half) (at lane over.parent_end)
  both_at lane = merged_at half.lanes over.parent_end.lanes lane long

  module _ (some : 1 ≤ n) (at_end : Ended 3 x) (fork_law : ForksAreRecorded) (key_law : ChildTakesKey) where
    ended : Ended (length x.lanes) x
    ended = subst (λ (k : ℕ). Ended k x) (sym wide) at_end

    low : 2 ≤ length x.lanes
    low = let e = wide in omega arith

    parent_grows : Grows over.parent_end x
    parent_grows lane near =
        let below : lane < 3 = (let e = parent_wide in omega arith) in
        let here : (at lane x).heard ≡ (at lane both).heard = over.child_ends.did.recorded.went.heard lane
        (let e = both_wide in omega arith) in
        let all : AllBegin (at lane both).heard (known_of x lane) =
        subst (λ (l : List (List Visit)). AllBegin l (known_of x lane)) here (at_end.heard lane below) in
        let both_heard : AllBegin (merged (at lane half) (at lane over.parent_end)).heard (known_of x lane) =
        subst (λ (a : LaneView). AllBegin a.heard (known_of x lane)) (both_at lane) all in
        (with_both (known_of over.parent_end lane) _ (known_of x lane)
        (with_both (known_of half lane) _ (known_of x lane) both_heard).1).0

    goes_on : Continues (length x.lanes) x (known_of x)
    goes_on = record {
      long = refl;
      begins = λ lane near. begins_refl (known_of x lane);
      closed = ended_lanes x [] low ended;
    }

    parent_goes : Continues (length x.lanes) over.parent_end (known_of x)
    parent_goes = continues_before (length x.lanes) over.parent_end x (known_of x) (wide ∙ sym parent_wide) parent_grows
        goes_on

    fork_goes : Continues (length x.lanes) mid (known_of x)
    fork_goes = continues_before (length x.lanes) mid over.parent_end (known_of x) parent_path.same.sized
        parent_path.grows parent_goes

    stop_goes : Continues (length x.lanes) w (known_of x)
    stop_goes = continues_before (length x.lanes) w mid (known_of x) forking.same.sized forking.grows fork_goes

    sample_goes : Continues (length x.lanes) q (known_of x)
    sample_goes = continues_before (length x.lanes) q w (known_of x) to_stop.same.sized to_stop.grows stop_goes

    -- The visits of the final book

    abbrev marks : List MarkBy
    marks = parents_marks ++ rest_marks ++ child_marks

    known : AllByRecursion (IsKnown x) marks
    known =
        let fork_known =
        known_grown mid over.parent_end parents_marks parent_path.same.sized parent_path.grows fork_path.known in
        each_append (IsKnown x) (parents_marks ++ rest_marks) child_marks
        (known_grown over.parent_end x (parents_marks ++ rest_marks) (wide ∙ sym parent_wide) parent_grows
        (each_append (IsKnown over.parent_end) parents_marks rest_marks fork_known parent_path.known))
        child_path.known

    made_at : (lane : ℕ) → lane < 3 → (at lane x).made ≡ marks_in lane marks
    made_at lane near =
        let all = child_path.made lane (let e = both_wide in omega arith) in
        let both_made = ap (λ (a : LaneView). a.made) (both_at lane) in
        let a = fork_path.made lane near in
        let start_made = none_made lane near in
        let b = parent_path.made lane (let e = fork_path.same.sized in omega arith) in
        let d = ap (λ (z : LaneView). z.made) (child_at mid lane) in
        let e = marks_both lane (parents_marks ++ rest_marks) child_marks in
        let f = marks_both lane parents_marks rest_marks in
        omega arith

    -- The stamps climb in each part of the run, and from each part to the next

    later : both.stamp ≡ over.parent_end.stamp
    later = let up = stamps_up mid.stamp over.parent_end.stamp (stamps_of rest_marks) parent_path.climbs in omega arith

    child_later : Climbs over.parent_end.stamp (stamps_of child_marks) x.stamp
    child_later = subst (λ (stamp : ℕ). Climbs stamp (stamps_of child_marks) x.stamp) later child_path.climbs

    climbing : Climbs 0 (stamps_of marks) x.stamp
    climbing =
        let one = climbs_append 0 mid.stamp over.parent_end.stamp (stamps_of parents_marks) (stamps_of rest_marks)
        fork_path.climbs parent_path.climbs in
        let two = climbs_append 0 over.parent_end.stamp x.stamp (stamps_of parents_marks ++ stamps_of rest_marks)
        (stamps_of child_marks) one child_later in
        subst (λ (l : List ℕ). Climbs 0 l x.stamp)
        (sym (map-append (λ (by : MarkBy). by.mark.stamp) (parents_marks ++ rest_marks) child_marks
        ∙ ap (λ (l : List ℕ). l ++ stamps_of child_marks)
        (map-append (λ (by : MarkBy). by.mark.stamp) parents_marks rest_marks))) two

    -- The lists of the two vgetrandom states

    abbrev parents_entries : List VEntry
    parents_entries = reached.stop.entries ++ over.parent_ends.outcome.entries

    abbrev childs_entries : List VEntry
    childs_entries = over.child_ends.outcome.entries

    abbrev callers : StateLists
    callers = two_states parents_entries childs_entries

    abbrev whole : Book
    whole = book_of (length x.lanes) (known_of x) callers

    abbrev lists : Lists
    lists = book_lists (length x.lanes) (known_of x) callers

    visits : VisitsAre whole marks
    visits = with_callers (book_of (length x.lanes) (known_of x) []) callers marks
        (three_visits x marks wide ended made_at known)

    lanes : LawfulLanes lists
    lanes = ended_lawful x callers low ended

    -- The end of the call in the parent, and its end in the child

    abbrev parent_is : IsEnd lists 0 n reached.stop.place reached.stop.held reached.stop.state parent
    parent_is = end_in (length x.lanes) (known_of x) callers 0 n reached.stop.place left out reached.stop.held t
        reached.stop.state parent (halved mid) over.parent_end over.parents reached.stage_is reached.held_is
        reached.state_is over.parent_ends parent_goes

    abbrev child_is : IsEnd lists 1 n reached.stop.place reached.stop.held wiped_state child
    child_is = end_in (length x.lanes) (known_of x) callers 1 n reached.stop.place left out reached.stop.held wiped_state
        wiped_state child both x over.childs reached.stage_is reached.held_is refl over.child_ends goes_on

    abbrev parent_call : IsCall n 0 wiped_state (reached.stop.before ++ at_point point false ∷ parent_is.steps)
        (prefix_outcome reached.stop.entries parent_is.outcome)
    parent_call = parents_call fork_law n 0 wiped_state turn point reached.stop parent_is.steps parent_is.outcome parent_is.rest

    abbrev child_call : IsCall n 0 wiped_state (reached.stop.before ++ at_point point true ∷ child_is.steps)
        (prefix_outcome reached.stop.entries (prefix_outcome (Wipe ∷ []) child_is.outcome))
    child_call = childs_call fork_law n 0 wiped_state turn point reached.stop child_is.steps child_is.outcome child_is.rest

    fork_knows : reached.stop.place.published ≤ published_by (floor mid)
    fork_knows =
        let a = reached.known in
        let b = published_more (floor w) (floor mid) (did_floor (first_setting 0) (knowing w []) (knowing mid over.forked)
        over.forks) in
        omega arith

    both_knows : reached.stop.place.published ≤ published_by (floor both)
    both_knows =
        let as_much = ap published_by (floor_child mid) in
        let own = fork_knows in
        let parents = climbs_up (published_by (floor (halved mid))) (published_by (floor over.parent_end))
        over.parent_ends.steps over.parent_ends.climbs in
        joined_floor reached.stop.place.published half over.parent_end long (omega arith) (omega arith)

    child_climbs : HostClimbs reached.stop.place.published (published_by (floor x)) over.child_ends.steps
    child_climbs = host_climbs_append reached.stop.place.published (published_by (floor both)) (published_by (floor x)) []
        over.child_ends.steps both_knows over.child_ends.climbs

    -- The parts of the forked call, in the final book

    abbrev the_calls : CallsUpTo lists n turn point reached.stop.before reached.calls
    the_calls = way_in (length x.lanes) (known_of x) callers n turn point reached.stop.before q w reached.calls reached.ran
        stop_goes

    way_good : GoodAfter lists 0 0 reached.stop.before
    way_good = ran_good (length x.lanes) (known_of x) callers n turn point reached.stop.before q w reached.calls
        reached.ran stop_goes

    way_reads : KeyReads (cpu_list lists) reached.stop.before
    way_reads = reads_on_way lists n turn point reached.stop.before reached.calls the_calls

    parent_good : Good lists parent_is.steps
    parent_good = good_here (length x.lanes) (known_of x) callers (first_setting 0) (halved mid) over.parent_end over.parents
        over.parent_ends.steps over.parent_ends.did parent_goes
        (found_some (floor mid) (let a = reached.stop.ready in let b = fork_knows in omega arith))

    child_good : Good lists child_is.steps
    child_good = good_here (length x.lanes) (known_of x) callers (first_setting 1) both x over.childs over.child_ends.steps
        over.child_ends.did goes_on
        (found_some (floor both) (let a = reached.stop.ready in let b = both_knows in omega arith))

    parents_after : GoodAfter lists 0 0 (reached.stop.before ++ at_point point false ∷ parent_is.steps)
    parents_after = good_parts lists 0 0 reached.stop.before parent_is.steps point false way_good parent_good

    parents_reads : AllByRecursion (TakesRead (cpu_list lists)) parents_entries
    parents_reads = call_names (cpu_list lists) n 0 wiped_state
        (reached.stop.before ++ at_point point false ∷ parent_is.steps)
        (prefix_outcome reached.stop.entries parent_is.outcome)
        (reads_both (cpu_list lists) reached.stop.before (at_point point false ∷ parent_is.steps) way_reads
        (own_reads lists n parent_is.steps parent_is.own parent_is.shown)) parent_call

    childs_reads : AllByRecursion (TakesRead (cpu_list lists)) childs_entries
    childs_reads = (each_right (TakesRead (cpu_list lists)) reached.stop.entries (Wipe ∷ childs_entries)
        (call_names (cpu_list lists) n 0 wiped_state (reached.stop.before ++ at_point point true ∷ child_is.steps)
        (prefix_outcome reached.stop.entries (prefix_outcome (Wipe ∷ []) child_is.outcome))
        (reads_both (cpu_list lists) reached.stop.before (at_point point true ∷ child_is.steps) way_reads
        (own_reads lists n child_is.steps child_is.own child_is.shown)) child_call)).1

    -- No place of a lane is visited twice

    marked_once : (lane : LaneId) (p : ℕ) →
        calls_have lane p reached.calls + mark_takes lane p over.parents + mark_takes lane p over.childs ≤ 1
    marked_once lane p =
        omega (
          arith,
          at_most_once lane p whole 0 x.stamp marks climbing visits.conform,
          hits_append lane p (parents_marks ++ rest_marks) child_marks,
          hits_append lane p parents_marks rest_marks,
          hits_calls lane p 0 (sampled.0 ∷ reached.calls ++ over.forked ∷ []),
          hits_calls lane p 0 (over.parents ∷ []),
          hits_calls lane p 1 (over.childs ∷ []),
          calls_append lane p reached.calls (over.forked ∷ []),
        )

    -- each read at place p of CPU c is at most once taken as a key or given out
    taken_once : (c p : ℕ) → takes c p parents_entries + ending_takes c p parent_is.outcome.ending
        + (takes c p childs_entries + ending_takes c p child_is.outcome.ending) ≤ 1
    taken_once c p =
        let parents = (call_bounded c p n 0 wiped_state (reached.stop.before ++ at_point point false ∷ parent_is.steps)
        (prefix_outcome reached.stop.entries parent_is.outcome) parent_call).is in
        let childs = (rest_bounded c p n 0 reached.stop.place reached.stop.held wiped_state child_is.steps child_is.outcome
        child_is.rest).is in
        omega (
          arith,
          parents,
          childs,
          step_append c p reached.stop.before (at_point point false ∷ parent_is.steps),
          takes_on_way lists n c p turn point reached.stop.before reached.calls the_calls,
          own_takes lists n c p parent_is.steps parent_is.own parent_is.shown,
          own_takes lists n c p child_is.steps child_is.own child_is.shown,
          marked_once (CpuLane c) p,
        )

    free_of : (c p e : ℕ) → is_rekeyed lists c p ≡ true →
        takes c p parents_entries + e + takes c p childs_entries ≤ 1 → e ≡ 0
    free_of c p e rekeyed le =
        let one = rekeyed_counts lists parents_entries childs_entries refl c p rekeyed in omega arith

    -- The final book is lawful

    ordered : (steps : List HostStep) (outcome : Outcome) → IsCall n 0 wiped_state steps outcome →
        OrderedStateList 0 0 outcome.entries
    ordered steps outcome is =
        let k = call_keeps 0 0 n 0 state_start wiped_state steps outcome is
        (record { same_pos = refl; within = omega arith; expects = refl; zeros = refl }) in
        record { comes = k.lawful; ends = k.after.expects }

    lawful_book : LawfulBook lists
    lawful_book = lawful lists parents_entries childs_entries refl
        (λ c p. let le = taken_once c p in omega arith) lanes
        (ordered (reached.stop.before ++ at_point point false ∷ parent_is.steps)
        (prefix_outcome reached.stop.entries parent_is.outcome) parent_call)
        (child_ordered 0 0 1 reached.stop.entries childs_entries
        (ordered (reached.stop.before ++ at_point point true ∷ child_is.steps)
        (prefix_outcome reached.stop.entries (prefix_outcome (Wipe ∷ []) child_is.outcome)) child_call))
        parents_reads childs_reads

    -- The lines of the parent and of the child

    serves : VisitsServeNamed lists
    serves = lawful_serves_named lists lanes

    abbrev parents_line : ShowsNamed lists (call_entries 0 parents_entries) parent_is.own parent
    parents_line = line_named lists serves 0 parents_entries refl parent_is.own parent (setting_of (first_setting 0))
        parent_is.steps parent_is.shown parent_is.outcome.ending parent_is.gives
        (λ bytes is. batch.call_named lists 0 0 n 0 (begun lists serves 0 parents_entries refl) wiped_state
        (reached.stop.before ++ at_point point false ∷ parent_is.steps)
        (prefix_outcome reached.stop.entries parent_is.outcome) parents_after parent_call
        (start_holds lists serves 0 parents_entries refl)
        (fronts lists serves 0 parents_entries refl (lawful_book.states.states 0 0)) bytes is)
        (λ answer is. rest_asked answer n 0 reached.stop.place reached.stop.held reached.stop.state parent_is.steps
        parent_is.outcome is parent_is.rest)
        (λ c p rekeyed. free_of c p (ending_takes c p parent_is.outcome.ending) rekeyed
        (let le = taken_once c p in omega arith))

    abbrev childs_line : ShowsNamed lists (call_entries 1 childs_entries) child_is.own child
    childs_line = line_named lists serves 1 childs_entries refl child_is.own child (setting_of (first_setting 1))
        child_is.steps child_is.shown child_is.outcome.ending child_is.gives
        (λ bytes is. rest_named lists 1 0 n 0 reached.stop.place reached.stop.held some
        (begun lists serves 1 childs_entries refl) child_is.steps child_is.outcome child_good child_is.rest
        (start_holds lists serves 1 childs_entries refl)
        (fronts lists serves 1 childs_entries refl (lawful_book.states.states 1 0)) bytes is)
        (λ answer is. rest_asked answer n 0 reached.stop.place reached.stop.held wiped_state child_is.steps
        child_is.outcome is child_is.rest)
        (λ c p rekeyed. free_of c p (ending_takes c p child_is.outcome.ending) rekeyed
        (let le = taken_once c p in omega arith))

    pub forked_bytes : AreForkedBytes turn point n parent child
    forked_bytes = record {
      book = whole;
      cpus = length-map (range_with_len 0 (length x.lanes - 2)) _ ∙ length-range_with_len 0 (length x.lanes - 2)
          ∙ (let e = wide in omega arith);
      lawful = lawful_book;
      disjoint = lawful_is_disjoint lists lawful_book;
      added = sampled.0;
      adds = shown_in (length x.lanes) (known_of x) callers (first_setting 0) p q sampled.0 sampled.1 sample_goes;
      stop = reached.stop;
      calls = reached.calls;
      came_by = the_calls;
      forked = over.forked;
      forks = shown_in (length x.lanes) (known_of x) callers (first_setting 0) w mid over.forked over.forks fork_goes;
      parent_end = parent_is;
      child_end = child_is;
      callers_are = refl;
      parent_call = parent_call;
      child_call = child_call;
      child_keyed = λ bytes is. key_law n 0 reached.stop.place reached.stop.held over.child_ends.steps
          over.child_ends.outcome (published_by (floor x)) bytes child_is.rest reached.stop.ready child_climbs is;
      parent_line = parents_line;
      child_line = childs_line;
      apart = apart lists lawful_book parents_entries childs_entries over.parents over.childs parent child parents_line
          childs_line (λ lane p. let le = marked_once lane p in omega arith);
      visits = visits;
      at_fork = mid.stamp;
      parents_last = over.parent_end.stamp;
      childs_last = x.stamp;
      to_fork = fork_path.climbs;
      parents_rest = parent_path.climbs;
      childs_rest = child_later;
    }

-- if the arguments that the code passed equal the arguments above, the facts hold for what the code did
module _ (set : Setting) (n m k f g : ℕ) (s : VgetrandomState) (plain : set ≡ first_setting 0) (same : m ≡ n)
    (again : k ≡ m) (none : f ≡ 0) (none_again : g ≡ f) (wiped : s ≡ wiped_state) where
  pub plain_sample : (p q : View) → ((own : List Step)
      × DidAll (IsOutcomeOf (setting_of set) (Add (range_with_len 0 32) 256) Done no_data) set p own q) →
      (own : List Step)
      × DidAll (IsOutcomeOf (setting_of (first_setting 0)) (Add (range_with_len 0 32) 256) Done no_data)
      (first_setting 0) p own q
  plain_sample p q d = subst (λ (z : Setting). (own : List Step)
      × DidAll (IsOutcomeOf (setting_of z) (Add (range_with_len 0 32) 256) Done no_data) z p own q) plain d

  pub plain_reached : (turn : Turn) (point : Point) (left : Stage) (out : List ℕ) (t : VgetrandomState) (q w : View) →
      ReachedStop set m f s turn point left out t q w →
      ReachedStop (first_setting 0) n 0 wiped_state turn point left out t q w
  plain_reached turn point left out t q w d =
      subst (λ (z : VgetrandomState). ReachedStop (first_setting 0) n 0 z turn point left out t q w) wiped
      (subst (λ (z : ℕ). ReachedStop (first_setting 0) n z s turn point left out t q w) none
      (subst (λ (z : ℕ). ReachedStop (first_setting 0) z f s turn point left out t q w) same
      (subst (λ (z : Setting). ReachedStop z m f s turn point left out t q w) plain d)))

  pub plain_over : (left : Stage) (out : List ℕ) (t : VgetrandomState) (parent child : List ℕ) (w x : View) →
      ForkedOver set k g left out t parent child w x →
      ForkedOver (first_setting 0) n 0 left out t parent child w x
  plain_over left out t parent child w x d =
      subst (λ (z : ℕ). ForkedOver (first_setting 0) n z left out t parent child w x) (none_again ∙ none)
      (subst (λ (z : ℕ). ForkedOver (first_setting 0) z g left out t parent child w x) (again ∙ same)
      (subst (λ (z : Setting). ForkedOver z k g left out t parent child w x) plain d))
