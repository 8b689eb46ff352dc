-- A running caller makes its events, forks and joins, and ends (`WentOn`, `Returned`).
use Rattle.std.proofs.Common.{◌≡◌, ℕ, zero, suc, Some, ◌+◌, ◌<◌, ◌≤◌, ◌^◌, List, [], ◌∷◌, ◌++◌, length, map, refl, sym, ap, ◌∙◌, subst, arith, append_assoc, append-nil, length-append, replicate}
use Rattle.std.specs.Prelude.{slice_get, vec_len, vec_capacity, sum_by}
use Rattle.std.specs.List.{AllByRecursion}
use Rattle.std.proofs.lemmas.List.{map-append}
use Rattle.std.proofs.lemmas.List.Elements.{recursion_from_All}
use Rattle.std.proofs.lemmas.List.Sums.{sum_by-cons}
use Rattle.key_names.specs.declared.events.Event.{Event}
use Rattle.key_names.specs.declared.events.Event.TheVariants.{Fork}
use Rattle.key_names.specs.declared.entries.BaseEntry.TheVariants.{Fork as Forks, Stall, Unstall}
use Rattle.key_names.specs.declared.names.Step.{Step}
use Rattle.key_names.specs.declared.names.Step.TheVariants.{Visit as Marked}
use Rattle.key_names.specs.Lanes.Book.{list_at}
use Rattle.key_names.specs.Callers.Forms.{BaseOnly}
use Rattle.key_names.specs.Texts.ScriptGrammar.{Script, InRange, FewActs, ForksAbove}
use Rattle.key_names.specs.Transcripts.SeenLine.{SeenLine}
use Rattle.key_names.specs.Texts.TranscriptGrammar.{StepFits}
use Rattle.key_names.specs.Kernel.VgetrandomState.{wiped_state}
use Rattle.key_names.proofs.Lists.Each.{each_append}
use Rattle.key_names.proofs.Lists.ListFacts.{list_is}
use Rattle.lane_table.specs.declared.lanes.Lanes.{Lanes}
use Rattle.lane_table.specs.declared.lanes.Pass.{Pass}
use Rattle.lane_table.specs.declared.view.View.{View}
use Rattle.lane_table.specs.Calls.{view, slots, IsSamePass}
use Rattle.lane_table.specs.Hands.{HoldsLanes, model}
use Rattle.lane_table.specs.Steps.{halved, both_of}
use Rattle.lane_table.specs.Advances.{floor, step_of}
use Rattle.lane_table.proofs.Calls.HandLemmas.{has_joined}
use Rattle.rng_core.specs.declared.setting.Setting.{Setting}
use Rattle.rng_core.specs.declared.vdso.acts.Bound.{Bound}
use Rattle.rng_core.specs.Acts.{Ask, asks_of, all_wanted}
use Rattle.rng_core.specs.Makes.{Makes, setting_of}
use Rattle.rng_core.specs.InsideMakes.{IsWaitingAct}
use Rattle.rng_core.specs.Traces.{Moment, knowing, moment}
use Rattle.rng_core.proofs.Makings.{did_floor}
use Rattle.transcript_text.specs.Gathered.{Gathered}
use Rattle.caller_run.specs.declared.making.caller.Caller.{Caller}
use Rattle.caller_run.specs.declared.forking.rooms.Room.{Room}
use Rattle.caller_run.specs.declared.forking.rooms.Buffers.{Buffers}
use Rattle.caller_run.specs.declared.output.logs.Log.{Log}
use Rattle.caller_run.specs.declared.forking.running_callers.RunningCaller.{RunningCaller}
use Rattle.caller_run.specs.Calling.{Seen, caller_at, conform, StatesConform}
use Rattle.caller_run.specs.declared.making.states.States.{States}
use Rattle.std.specs.Global.{Box}
use Rattle.caller_run.specs.Families.{SameHalves, RanOn, RanSo}
use Rattle.caller_run.specs.Forest.{more, forks}
use Rattle.caller_run.specs.ForkTree.{ForkTree, Layout, plant, fork_tree_of, tree, emitted_in}
use Rattle.caller_run.specs.Kinds.{ForksNobody}
use Rattle.caller_run.specs.Laws.{Run}
use Rattle.caller_run.specs.Layouts.{layout, layout_by}
use Rattle.caller_run.specs.Says.{most_shown}
use Rattle.caller_run.specs.Standing.{Start, CanAdvanceWith, CanAdvance, HasAdvanced, RunEnded, waiting_in}
use Rattle.caller_run.specs.Took.{Took}
use Rattle.caller_run.specs.RunningCallers.{IsNewBuffers, ArePrepared, kids_of, child_set, start_of, CanAdvanceIn, GoneIn, AreAbove, CanRun, CanAdvanceOn, CanTell, RanPlain, AtFork, RanHere, TookFrom, kid_of, numbered, Returned, WentOn, SameKids, Past, WentBeside}
use Rattle.caller_run.proofs.Events.CanAdvance.{GoesOn, can_next}
use Rattle.caller_run.proofs.Forks.Forking.{took_thread, took_here}
use Rattle.caller_run.proofs.Forks.HasAdvanced.{gone_nothing}
use Rattle.caller_run.proofs.Planning.ForkTrees.{prepared_none, fork_tree_pushed}
use Rattle.caller_run.proofs.Planning.LogFills.{Fills}
use Rattle.caller_run.proofs.Forks.Runs.{low, ran_end, ran_fork, ran_so}
use Rattle.caller_run.proofs.Law.Seeing.{seen_start, seen_up}
use Rattle.caller_run.proofs.Orders.EmittedAnew.{AreEmitted, emitted_more}

-- ---- a caller's events up to its next fork ----

pub plain_event : (e : Event) → ((x : ℕ) → e ≡ Fork x → ⊥) → ForksNobody e
plain_event (Fork child) other = other child refl
plain_event e other = tt

-- if P holds for the lengths a and b of two buffers, it holds for the lengths c and d of their slices
pub as_slices : (P : ℕ → ℕ → Type 0) (a b c d : ℕ) → c ≡ a → d ≡ b → P a b → P c d
as_slices P a b c d first second here = subst (λ (n : ℕ). P n d) (sym first) (subst (P a) (sym second) here)

-- if no caller was forked between c and d, the pass was not split between them
gone_halves : {begun : Start} {events es rest : List Event} {c d : Caller} {ls ls' : List SeenLine} {xs ys : List Ask}
    {kids : List Start} → HasAdvanced begun events es c ls xs kids → HasAdvanced begun events rest d ls' ys kids →
    SameHalves (view c.pass) (view d.pass)
gone_halves g h = record {
  share = h.done.ran.same.share ∙ sym g.done.ran.same.share;
  halvings = h.done.ran.same.halvings ∙ sym g.done.ran.same.halvings;
}

ended_halves : {begun : Start} {events es : List Event} {c : Caller} {w : View} {ls ls' : List SeenLine} {xs : List Ask}
    {kids : List Start} → HasAdvanced begun events es c ls xs kids → RunEnded begun events w ls' kids →
    SameHalves (view c.pass) w
ended_halves g h = record {
  share = h.done.ran.same.share ∙ sym g.done.ran.same.share;
  halvings = h.done.ran.same.halvings ∙ sym g.done.ran.same.halvings;
}

same_kids : (x y : RunningCaller) → y.kids ≡ x.kids → SameKids x.kids y.kids
same_kids x y is = record {
  shape = ap (λ ks. tree (fork_tree_of (map layout ks.items))) is;
  many = ap vec_len is;
  space = ap vec_capacity is;
}

-- a caller that forks no more callers made its last events, and its run ended
module _ (t : Lanes) (script : Script) {events : List Event} {x m : RunningCaller} (y : RunningCaller) where
  pub went_end : CanAdvanceOn t script events x → RanPlain t events x [] m → y.kids ≡ m.kids →
      y.caller.set ≡ m.caller.set → HoldsLanes t y.caller.set.caller [] y.caller.pass →
      floor (view y.caller.pass) ≤ (model y.caller.pass 1).base.generation →
      ((begun : Start) (all : List Event) (kids : List Start) → GoneIn begun all [] m.caller m kids →
      RunEnded begun all (view y.caller.pass) y.buffers.log.lines.lines kids) → WentOn t script events x y
  went_end can plain kept set has reached ended = record {
    has = has;
    same = same_kids x y (kept ∙ plain.kids);
    goes = λ begun all kids above gone.
        let g = plain.gone begun all kids gone in let e = ended begun all kids g in record {
          own = ap (λ (s : Setting). s.caller) set ∙ g.own;
          end = view y.caller.pass;
          starts = [];
          runs = [];
          ran = ran_end script (view x.caller.pass) (view y.caller.pass) (ended_halves gone e);
          ended = subst (RunEnded begun all (view y.caller.pass) y.buffers.log.lines.lines) (sym (append-nil kids)) e;
          seen = reached;
          recorded = ap (λ ks. emitted_in (fork_tree_of (map layout ks.items))) (kept ∙ plain.kids)
              ∙ prepared_none script.callers (kids_of x)
              (subst (ArePrepared script.callers (kids_of x)) plain.forks' can.ready);
        };
  }

-- ---- the steps of a fork's line ----

module _ (m w : Caller) (steps : List Step) (child : ℕ) (theirs : Pass) (at : AtFork m w steps child theirs) where
  abbrev u : View
  u = at.forked.before

  did : Makes (BaseOnly (Forks child)) m.set (knowing (view m.pass) []) (knowing u (Marked at.forked.mark ∷ []))
  did = subst (λ (l : List Step). Makes (BaseOnly (Forks child)) m.set (knowing (view m.pass) []) (knowing u l))
      at.forked.visit at.forked.did

  pub thread_took : TookFrom m w child u steps
  thread_took = record {
    set = at.set;
    states = at.states;
    took = subst (λ (v : View). Took m.set child (view m.pass) u v steps) (sym at.forked.pass_is)
        (subst (Took m.set child (view m.pass) u (halved u)) (sym at.forked.visit)
        (took_thread m.set child (view m.pass) u at.forked.mark did));
  }

  pub here_took : (p : Pass) (after : List Step) → RanHere w.set (moment w.pass steps) (moment p after) →
      TookFrom m (record w { pass = p }) child u after
  here_took p after here = record {
    set = at.set;
    states = at.states;
    took = took_here m.set child (view m.pass) u at.forked.mark did here.middle.view (view p) here.middle.steps after
        (subst (λ (l : List Step). Makes (BaseOnly Stall) m.set (knowing (halved u) l) here.middle) at.forked.visit
        (subst (λ (v : View). Makes (BaseOnly Stall) m.set (knowing v steps) here.middle) at.forked.pass_is
        (subst (λ (s : Setting). Makes (BaseOnly Stall) s (moment w.pass steps) here.middle) at.set here.stall)))
        (subst (λ (s : Setting). Makes (BaseOnly Unstall) s here.middle (moment p after)) at.set here.unstall);
  }

-- ---- the preconditions of a caller's next events ----

-- if a caller can go on (`CanAdvance`), it can still go on after its pass has seen later generations
pub can_still : (t : Lanes) (c d : Caller) (log : Log) {served inside : ℕ} {rest : List Event} → d.set ≡ c.set →
    d.states ≡ c.states → HoldsLanes t d.set.caller [] d.pass → floor (view c.pass) ≤ floor (view d.pass) →
    CanAdvance t c log served inside rest → CanAdvance t d log served inside rest
can_still t c d log {served = served} {inside = inside} {rest = rest} set states has up can =
    subst (λ (e : Caller). CanAdvance t e log served inside rest)
    (λ i. record { pass = d.pass; set = sym set i; states = sym states i }) (record {
      goes = record {
        ready = record {
          has = subst (λ (s : Setting). HoldsLanes t s.caller [] d.pass) set has;
          cpu = can.goes.ready.cpu;
          moment = can.goes.ready.moment;
        };
        states = seen_up (floor (view c.pass)) (floor (view d.pass)) (conform c) up can.goes.states;
        range = can.goes.range;
        numbers = can.goes.numbers;
        at = can.goes.at;
        line_room = can.goes.line_room;
        step_room = can.goes.step_room;
        byte_room = can.goes.byte_room;
        longest = can.goes.longest;
        wanted = can.goes.wanted;
        few = can.goes.few;
        fresh = can.goes.fresh;
        recorded = can.goes.recorded;
      };
      act_room = can.act_room;
    })

pub at_floor : (m w : Caller) (steps : List Step) (child : ℕ) (theirs : Pass) → AtFork m w steps child theirs →
    floor (view m.pass) ≤ floor (view w.pass)
at_floor m w steps child theirs at =
    subst (λ (v : View). floor (view m.pass) ≤ floor v) (sym at.forked.pass_is)
    (did_floor m.set (moment m.pass []) (record { view = at.forked.before; steps = steps }) at.forked.did)

pub at_fits : (m w : Caller) (steps : List Step) (child : ℕ) (theirs : Pass) → AtFork m w steps child theirs →
    AllByRecursion StepFits steps
at_fits m w steps child theirs at =
    subst (AllByRecursion StepFits) (sym at.forked.did.recorded.trace) at.forked.did.recorded.fits

module _ (set : Setting) (m n : Moment) (here : RanHere set m n) where
  pub here_floor : floor m.view ≤ floor n.view
  here_floor =
      let a = did_floor set m here.middle here.stall in let b = did_floor set here.middle n here.unstall in omega arith

  pub here_fits : AllByRecursion StepFits m.steps → AllByRecursion StepFits n.steps
  here_fits fits =
      subst (AllByRecursion StepFits) (sym here.unstall.recorded.trace)
      (each_append StepFits here.middle.steps (map step_of here.unstall.made_steps)
      (subst (AllByRecursion StepFits) (sym here.stall.recorded.trace)
      (each_append StepFits m.steps (map step_of here.stall.made_steps) fits here.stall.recorded.fits))
      here.unstall.recorded.fits)

-- suppose that the line of a fork was appended to the lines `before`
module _ (before after : Gathered) (line : SeenLine) (lines : after.lines ≡ before.lines ++ line ∷ [])
    (line_room : after.line_room + 1 ≡ before.line_room) (step_room : before.step_room ≤ after.step_room + 20)
    (byte_room : before.byte_room ≤ after.byte_room) where
  fills_fork : (child : ℕ) (acts : List Bound) → AllByRecursion IsWaitingAct acts →
      AreEmitted (length before.lines) (asks_of acts) → Fills (Fork child) before after acts acts
  fills_fork child acts fresh recorded = record {
    lines = ap length lines ∙ length-append before.lines (line ∷ []);
    line_room = line_room;
    step_room = omega arith;
    byte_room = omega arith;
    wanted = omega arith;
    many = refl;
    fresh = fresh;
    recorded = subst (λ (ls : List SeenLine). AreEmitted (length ls) (asks_of acts)) (sym lines)
        (emitted_more before.lines line (asks_of acts) recorded);
  }

  pub can_past : (t : Lanes) (child : ℕ) (c e : Caller) (log : Log) {served inside : ℕ} {rest : List Event} →
      log.lines ≡ before → GoesOn (Fork child) c e → CanAdvance t c log served inside (Fork child ∷ rest) →
      CanAdvance t e (record log { lines = after }) served inside rest
  can_past t child c e log {served = served} {inside = inside} {rest = rest} is on can =
      let goes : CanAdvanceWith t c before log.acts.items served inside (Fork child ∷ rest) =
      subst (λ (l : Gathered). CanAdvanceWith t c l log.acts.items served inside (Fork child ∷ rest)) is can.goes in
      record {
        goes = can_next c refl goes.ready.has goes.states on (fills_fork child log.acts.items goes.fresh goes.recorded) goes;
        act_room = can.act_room;
      }

pub can_on : (t : Lanes) (script : Script) (child : ℕ) (rest : List Event) (w z : RunningCaller) (steps : List Step) →
    CanTell t script child rest w steps → z.kids ≡ w.kids → CanAdvanceIn t z rest → CanAdvanceOn t script rest z
can_on t script child rest w z steps tell kids can = record {
  can = can;
  well = tell.well;
  cpus = tell.cpus;
  ready = subst (λ ks. ArePrepared script.callers (fork_tree_of (map layout ks.items)) (forks rest)) (sym kids) tell.ready;
}

-- suppose that the line of the fork was made, and that the parent then went on to its end
module _ (t : Lanes) (script : Script) (child : ℕ) {rest : List Event} (w : RunningCaller) {z y : RunningCaller} (d : Caller) (steps : List Step)
    (gone : (begun : Start) (events : List Event) (kids : List Start) (m : Caller) (u : View) →
    TookFrom m d child u steps → begun.caller < child → GoneIn begun events (Fork child ∷ rest) m w kids →
    GoneIn begun events rest z.caller z (kids ++ kid_of m child u ∷ []))
    (pass : z.caller.pass ≡ d.pass) (on : WentOn t script rest z y) where
  pub past : (begun : Start) (events : List Event) (kids : List Start) (m : Caller) (u : View) →
      TookFrom m d child u steps → begun.caller < child → AreAbove begun.caller rest →
      GoneIn begun events (Fork child ∷ rest) m w kids → Past script begun events kids u (kid_of m child u) y
  past begun events kids m v from low above g = record {
    following = view z.caller.pass;
    after = record {
      share = ap (λ (p : Pass). (view p).share) pass ∙ from.took.following.ran.same.share;
      halvings = ap (λ (p : Pass). (view p).halvings) pass ∙ from.took.following.ran.same.halvings;
    };
    went = on.goes begun events (kids ++ kid_of m child v ∷ []) above (gone begun events kids m v from low g);
  }

-- ---- a fork, and the rest of the parent's run ----

module _ (t : Lanes) (script : Script) (child : ℕ) {events rest : List Event} {x m w y : RunningCaller} {steps : List Step}
    {theirs q : Pass} (kid back : Room) (z : RunningCaller) where
  pub went_fork : RanPlain t events x (Fork child ∷ rest) m → AtFork m.caller w.caller steps child theirs →
      w.buffers ≡ m.buffers → kids_of m ≡ plant (layout kid) (kids_of w) →
      (vec_len w.kids + 1 ≡ vec_len m.kids) × (vec_capacity w.kids ≡ vec_capacity m.kids) →
      WentBeside t script child rest w steps theirs (layout kid) y q (layout back) →
      z.caller.set ≡ y.caller.set → z.buffers ≡ y.buffers → IsSamePass t y.caller.pass z.caller.pass →
      z.caller.pass.seat.me ≡ (both_of (view y.caller.pass) (view q), slots y.caller.pass) →
      z.kids.items ≡ y.kids.items ++ back ∷ [] → vec_len z.kids ≡ vec_len y.kids + 1 →
      vec_capacity z.kids ≡ vec_capacity y.kids → WentOn t script events x z
  went_fork plain at buffers took space beside set filled same joined pushed longer log =
      let put : kids_of z ≡ plant (layout back) (kids_of y) = fork_tree_pushed z.kids.items y.kids.items back pushed in
      record {
        has = subst (λ (s : Setting). HoldsLanes t s.caller [] z.caller.pass) (sym set)
            (has_joined t y.caller.set.caller (view q) y.caller.pass z.caller.pass
            (beside.has.pass.sized ∙ sym beside.of_child.has.pass.sized) beside.has same joined);
        same = record {
          shape = ap tree put
              ∙ (λ i. more (beside.of_child.caller i) (beside.of_child.shape i) (beside.same.shape i))
              ∙ sym (ap tree took) ∙ ap (λ ks. tree (fork_tree_of (map layout ks.items))) plain.kids;
          many = (let a = beside.same.many in let b = space.0 in let e = ap vec_len plain.kids in omega arith);
          space = log ∙ beside.same.space ∙ space.1 ∙ ap vec_capacity plain.kids;
        };
        goes = λ begun all kids above gone.
            let u = at.forked.before in
            let g = plain.gone begun all kids gone in
            let high = plain.above begun.caller above in
            let first = (thread_took m.caller w.caller steps child theirs at).took.first.ran.same in
            let to_m : SameHalves (view x.caller.pass) (view m.caller.pass) = gone_halves gone g in
            let gw : GoneIn begun all (Fork child ∷ rest) m.caller w kids =
            subst (λ (s : Buffers). HasAdvanced begun all (Fork child ∷ rest) m.caller s.log.lines.lines
            (waiting_in s.log) kids) (sym buffers) g in
            let p = beside.goes begun all kids m.caller at high.0 high.1 gw in
            let new : Start = kid_of m.caller child u in
            let is : start_of (child_set child w.caller.set) theirs ≡ new =
            (λ i. record { caller = child; set = setting_of (at.set i); view = at.forked.child_is i }) in
            let theirs_ran : RanSo script new (view q) beside.of_child.own beside.of_child.runs =
            subst (λ (s : Start). RanSo script s (view q) beside.of_child.own beside.of_child.runs) is
            beside.of_child.ran in
            record {
              own = ap (λ (s : Setting). s.caller) set ∙ p.went.own;
              end = p.went.end;
              starts = new ∷ p.went.starts;
              runs = (beside.of_child.own ∷ beside.of_child.runs) ++ p.went.runs;
              ran = subst (λ (v : View). RanOn script (view x.caller.pass) p.went.end v (new ∷ p.went.starts)
                  ((beside.of_child.own ∷ beside.of_child.runs) ++ p.went.runs))
                  (sym (ap (λ s. s.0) joined))
                  (ran_fork script (view x.caller.pass) u p.following p.went.end (view y.caller.pass) (view q) new
                  p.went.starts p.went.runs beside.of_child.own beside.of_child.runs
                  (record {
                    share = first.share ∙ to_m.share;
                    halvings = (let a = first.halvings in let b = to_m.halvings in omega arith);
                  })
                  p.after p.went.ran refl theirs_ran
                  (sym theirs_ran.joined.sized ∙ beside.of_child.has.pass.sized ∙ sym beside.has.pass.sized
                  ∙ p.went.ran.joined.sized));
              ended = subst (RunEnded begun all p.went.end z.buffers.log.lines.lines)
                  (append_assoc kids (new ∷ []) p.went.starts)
                  (subst (λ (s : Buffers). RunEnded begun all p.went.end s.log.lines.lines
                  ((kids ++ new ∷ []) ++ p.went.starts)) (sym filled) p.went.ended);
              seen = p.went.seen;
              recorded = ap emitted_in put
                  ∙ (λ i. beside.of_child.recorded i ++ p.went.recorded i)
                  ∙ sym (map-append numbered (beside.of_child.own ∷ beside.of_child.runs) p.went.runs);
            };
      }

-- ---- a caller's run from its start to its end ----

pub at_number : (P : List Event → Type 0) (callers : List (List Event)) (c : ℕ) (es : List Event) →
    slice_get callers c ≡ Some es → AllByRecursion P callers → P es
at_number P [] c es there all = cc
at_number P (x ∷ xs) zero es there all = let same : x ≡ es = cc in subst P same all.0
at_number P (x ∷ xs) (suc c) es there all = at_number P xs c es there all.1

pub above_number : (k : ℕ) (callers : List (List Event)) (c : ℕ) (es : List Event) → slice_get callers c ≡ Some es →
    ForksAbove k callers → AreAbove (c + k) es
above_number k [] c es there all = cc
above_number k (x ∷ xs) zero es there all = let same : x ≡ es = cc in
    subst (λ (n : ℕ). AreAbove n es) (let q : k ≡ 0 + k = omega arith in q) (subst (AreAbove k) same all.0)
above_number k (x ∷ xs) (suc c) es there all =
    subst (λ (n : ℕ). AreAbove n es) (let q : c + suc k ≡ suc c + k = omega arith in q)
    (above_number (suc k) xs c es there all.1)

pub few_events : (callers : List (List Event)) (c : ℕ) (es : List Event) → slice_get callers c ≡ Some es →
    length es ≤ sum_by length callers
few_events [] c es there = cc
few_events (x ∷ xs) zero es there = let same : x ≡ es = cc in let long = ap length same in
    omega (arith, sum_by-cons length x xs)
few_events (x ∷ xs) (suc c) es there = let rest = few_events xs c es there in
    omega (arith, sum_by-cons length x xs)

-- the sixteen vgetrandom states of a caller at its start
abbrev pub all_wiped : States
all_wiped = record { all = replicate 16 wiped_state; current = 0 }

-- a caller at its start
abbrev pub newly : Pass → Setting → Box States → Caller
newly p set states = record { pass = p; set = set; states = states }

module _ (t : Lanes) (script : Script) (set : Setting) (p : Pass) (a : Layout) (buffers : Buffers) (x : RunningCaller)
    {events : List Event} (can : CanRun t script set p a) (begins : x.caller ≡ newly p set x.caller.states)
    (wiped : x.caller.states.value ≡ all_wiped) (filled : x.buffers ≡ buffers)
    (kids : fork_tree_of (map layout x.kids.items) ≡ a.kids) (is : a.buffers ≡ buffers)
    (there : slice_get script.callers a.caller ≡ Some events) where
  listed : list_at script.callers a.caller ≡ events
  listed = list_is script.callers a.caller events there

  own_there : slice_get script.callers set.caller ≡ Some events
  own_there = ap (slice_get script.callers) (sym can.is) ∙ there

  new : IsNewBuffers x.buffers events
  new = subst (λ (s : Buffers). IsNewBuffers s events) (is ∙ sym filled)
      (subst (IsNewBuffers a.buffers) listed can.new)

  starts_well : CanAdvanceIn t x events
  starts_well = record {
    goes = record {
      ready = record {
        has = subst (λ (c : Caller). HoldsLanes t c.set.caller [] c.pass) (sym begins) can.has;
        cpu = subst (λ (c : Caller). c.set.cpu < t.cpus) (sym begins) can.cpu;
        moment = subst (λ (c : Caller). c.set.now < 2 ^ 40) (sym begins) can.now';
      };
      states = subst (λ (c : Caller). Seen' c) (sym begins)
          (subst (λ (s : States). Seen (floor (view p)) (caller_at (setting_of set) s)) (sym wiped)
          (seen_start (floor (view p)) (setting_of set)));
      range = (
        script.version,
        subst (λ (n : ℕ). AllByRecursion (InRange script.version n) events) (sym can.cpus)
            (at_number (AllByRecursion (InRange script.version script.cpus)) script.callers a.caller events there
            can.well.ranges),
      );
      numbers = (let q = few_events script.callers a.caller events there in let n = none_yet in
          let b = can.well.events in omega arith);
      at = none_yet ∙ ap length (sym new.lines);
      line_room = (let n = new.line_room in omega arith);
      step_room = (let n = new.step_room in let none = ap length new.acts in omega arith);
      byte_room = (let n = new.byte_room in let b = ap (λ (l : List Bound). all_wanted (asks_of l)) new.acts in
          omega arith);
      longest = recursion_from_All (λ event. most_shown event ≤ vec_len x.buffers.served) events new.longest;
      wanted = (let n = new.inside_is in let b = ap (λ (l : List Bound). all_wanted (asks_of l)) new.acts in
          omega arith);
      few = subst (λ (l : List Bound). (length l ≤ 8) × FewActs (length l) events) (sym new.acts)
          (omega arith, at_number (FewActs 0) script.callers a.caller events there can.well.acts);
      fresh = subst (AllByRecursion IsWaitingAct) (sym new.acts) tt;
      recorded = subst (λ (l : List Bound). AllByRecursion (λ b. b.event < length x.buffers.log.lines.lines) (asks_of l))
          (sym new.acts) tt;
    };
    act_room = new.act_room;
  }
    where
      none_yet : x.caller.set.event ≡ 0
      none_yet = ap (λ (c : Caller). c.set.event) begins ∙ can.none_yet

      Seen' : Caller → Type 0
      Seen' c = StatesConform c

  pub can_start : CanAdvanceOn t script events x
  can_start = record {
    can = starts_well;
    well = can.well;
    cpus = can.cpus;
    ready = subst (λ (g : ForkTree). ArePrepared script.callers g (forks events)) (sym kids)
        (subst (λ (es : List Event). ArePrepared script.callers a.kids (forks es)) listed can.ready);
  }

  -- a caller that went on from its start to its end has returned (`Returned`)
  pub returned : (y : RunningCaller) (b : Layout) → b ≡ layout_by a.caller y.buffers (map layout y.kids.items) →
      WentOn t script events x y → Returned t script (start_of set p) a y.caller.pass b
  returned y b put on =
      let begun : Start = start_of set p in
      let none : HasAdvanced begun events events x.caller [] [] [] =
      subst (λ (c : Caller). HasAdvanced begun events events c [] [] []) (sym begins)
      (gone_nothing begun events (newly p set x.caller.states) refl can.none_yet (ap (caller_at (setting_of set)) wiped)
      refl) in
      let gone : GoneIn begun events events x.caller x [] =
      subst (λ (l : List SeenLine). HasAdvanced begun events events x.caller l (waiting_in x.buffers.log) [])
      (sym new.lines)
      (subst (λ (l : List Bound). HasAdvanced begun events events x.caller [] (asks_of l) []) (sym new.acts) none) in
      let high : AreAbove set.caller events =
      subst (λ (n : ℕ). AreAbove n events) (let q : set.caller + 0 ≡ set.caller = omega arith in q)
      (above_number 0 script.callers set.caller events own_there can.well.above) in
      let w = on.goes begun events [] high gone in
      let own : Run = record {
        begun = begun;
        end = w.end;
        lines = y.buffers.log.lines.lines;
        kids = w.starts;
      } in
      let from : view x.caller.pass ≡ view p = ap (λ (c : Caller). view c.pass) begins in
      record {
        has = subst (λ (n : ℕ). HoldsLanes t n [] y.caller.pass) w.own on.has;
        own = own;
        runs = w.runs;
        ran = ran_so script begun (view y.caller.pass) own w.runs refl (record {
          events = events;
          there = own_there;
          has = record { own = refl; ended = w.ended; seen = w.seen };
        })
            (subst (λ (v : View). RanOn script v w.end (view y.caller.pass) w.starts w.runs) from w.ran);
        recorded = ap (λ (c : Layout). (c.caller, c.buffers.log.lines.lines) ∷ emitted_in c.kids) put
            ∙ (λ i. (can.is i, y.buffers.log.lines.lines) ∷ w.recorded i);
        caller = ap (λ (c : Layout). c.caller) put;
        shape = ap (λ (c : Layout). tree c.kids) put ∙ on.same.shape ∙ ap tree kids;
      }
