-- The first sample makes the core of a new table ready. No other caller visited the pool, so the sample's credit
-- reaches 256 bits.
use Rattle.std.proofs.Common.{◌≡◌, ℕ, suc, ◌+◌, ◌^◌, ◌<◌, ◌≤◌, min, Bool, true, false, Option, Some, None, List, [], ◌∷◌, length, map, take, refl, sym, subst, ap, ◌∙◌, arith, nat_lt, slice_get}
use Rattle.std.specs.Prelude.{◌==◌, ◌&&◌, if◌then◌else◌}
use Rattle.std.specs.List.{range_with_len}
use Rattle.std.proofs.lemmas.Bool.{ltb-true, ltb-false}
use Rattle.std.proofs.lemmas.Option.{slice_get_within}
use mathlib.Core.Logic.{dite}
use mathlib.Core.Option.{some}
use native.Mathlib.Decide.{dec_le}
use lib.ListN.{get_elem?}
use Rattle.key_names.specs.declared.entries.BaseEntry.{BaseEntry}
use Rattle.key_names.specs.declared.entries.BaseEntry.TheVariants.{Reseed}
use Rattle.key_names.specs.declared.entries.CpuEntry.{CpuEntry}
use Rattle.key_names.specs.declared.entries.PoolEntry.{PoolEntry}
use Rattle.key_names.specs.declared.entries.PoolEntry.TheVariants.{Mix}
use Rattle.key_names.specs.declared.events.Answer.TheVariants.{Ok as Done}
use Rattle.key_names.specs.declared.events.Event.TheVariants.{Add}
use Rattle.key_names.specs.declared.names.LaneId.{LaneId}
use Rattle.key_names.specs.declared.names.LaneId.TheVariants.{Pool as PoolLane, Base as BaseLane, Cpu as CpuLane}
use Rattle.key_names.specs.declared.names.Step.{Step}
use Rattle.key_names.specs.Lanes.Book.{Lists, cpu_list}
use Rattle.key_names.specs.Callers.Calls.{Setting as CallSetting}
use Rattle.key_names.specs.Callers.Effects.{BaseVisit, PoolVisit, at_base, at_cpu, at_pool, base_visit, cpu_visit, effect_at, effect_of, effect_or, effects_of, pool_visit}
use Rattle.key_names.specs.Callers.Forms.{CreditForm, Cross, Rooted}
use Rattle.key_names.specs.Lanes.PoolList.{Crossing, PoolState, crossing, early, none, pool_after, pool_step, ready}
use Rattle.key_names.specs.Transcripts.SeenLine.{no_data}
use Rattle.lane_table.specs.declared.lanes.Lanes.{Lanes}
use Rattle.lane_table.specs.declared.lanes.Pass.{Pass}
use Rattle.lane_table.specs.declared.view.LaneEntry.TheVariants.{Base}
use Rattle.lane_table.specs.declared.view.View.{View}
use Rattle.lane_table.specs.Advances.{AllConform, MadeStep, Sees, floor, looked, places_in, step_of, visited}
use Rattle.lane_table.specs.BookLaws.{Continues}
use Rattle.lane_table.specs.BookLists.{book_lists}
use Rattle.lane_table.specs.Calls.{Ended, IsSamePass}
use Rattle.lane_table.specs.Hands.{HoldsLanes}
use Rattle.lane_table.specs.LaneNumbers.{index_of}
use Rattle.lane_table.specs.Meaning.{replay}
use Rattle.lane_table.specs.Steps.{Seated}
use Rattle.lane_table.specs.WorldRule.{at, known_of}
use Rattle.lane_table.proofs.Book.BookEnds.{ended_lanes}
use Rattle.lane_table.proofs.Book.BookEntries.{base_kind, lane_at}
use Rattle.lane_table.proofs.Lists.Places.{conforms_at}
use Rattle.lane_table.proofs.Lists.VisitLists.{begins_refl}
use Rattle.lane_table.proofs.Rule.Sights.{sees_up}
use Rattle.rng_core.specs.declared.setting.Setting.{Setting}
use Rattle.rng_core.specs.Makes.{IsOutcomeOf, setting_of}
use Rattle.rng_core.specs.Settings.{first_setting}
use Rattle.rng_core.proofs.Paths.{none_made, start}
use Rattle.rng_core.proofs.Rising.{reseeded_at}
use Rattle.fork_runs.specs.Runs.{DidAll}

-- The threshold that a credit of 256 bits crosses in the pool

all_credited : (bits : ℕ) → min 256 (bits + min 256 256) ≡ 256
all_credited bits = omega arith

crosses_none : (bits : ℕ) → 256 ≤ bits → crossing bits 256 ≡ none
crosses_none bits full = go (nat_lt bits 256) (nat_lt bits 128) refl refl
  where
    go : (x y : Bool) → nat_lt bits 256 ≡ x → nat_lt bits 128 ≡ y →
        (if x && true then ready else (if y && true then early else none)) ≡ none
    go true y low lower = let below = ltb-true bits 256 low in absurd (omega arith)
    go false true low lower = let below = ltb-true bits 128 lower in absurd (omega arith)
    go false false low lower = refl

crosses_ready : (bits : ℕ) → bits < 256 → crossing bits 256 ≡ ready
crosses_ready bits open_yet = go (nat_lt bits 256) refl
  where
    go : (x : Bool) → nat_lt bits 256 ≡ x →
        (if x && true then ready else (if nat_lt bits 128 && true then early else none)) ≡ ready
    go true low = refl
    go false low = let above = ltb-false bits 256 low in absurd (omega arith)

-- The effect of a step at a mark's lane and place

module _ (lists : Lists) where
  record PoolMark (lane : LaneId) (place : ℕ) (x : PoolVisit) : Type 0 where
    lane_is : lane ≡ PoolLane
    visit_is : x ≡ pool_visit lists place x.entry

  pool_mark : (lane : LaneId) (place : ℕ) (x : PoolVisit) → effect_at lists lane place ≡ at_pool x → PoolMark lane place x
  pool_mark PoolLane place x is = go (slice_get lists.pool place) is
    where
      go : (o : Option PoolEntry) → effect_or (λ e. at_pool (pool_visit lists place e)) o ≡ at_pool x →
          PoolMark PoolLane place x
      go None is = absurd (cc is)
      go (Some e) is =
          let same : pool_visit lists place e ≡ x = cc in
          let entry : e ≡ x.entry = ap (λ (v : PoolVisit). v.entry) same in
          record { lane_is = refl; visit_is = sym same ∙ ap (pool_visit lists place) entry }
  pool_mark BaseLane place x is = absurd (go (slice_get lists.base place) is)
    where
      go : (o : Option BaseEntry) → effect_or (λ e. at_base (base_visit lists place e)) o ≡ at_pool x → ⊥
      go None is = cc
      go (Some e) is = cc
  pool_mark (CpuLane c) place x is = absurd (go (slice_get (cpu_list lists c) place) is)
    where
      go : (o : Option CpuEntry) → effect_or (λ e. at_cpu (cpu_visit lists c place e)) o ≡ at_pool x → ⊥
      go None is = cc
      go (Some e) is = cc

  record BaseMark (lane : LaneId) (place : ℕ) (x : BaseVisit) : Type 0 where
    lane_is : lane ≡ BaseLane
    conforms : slice_get lists.base place ≡ Some x.entry

  base_mark : (lane : LaneId) (place : ℕ) (x : BaseVisit) → effect_at lists lane place ≡ at_base x → BaseMark lane place x
  base_mark BaseLane place x is = go (slice_get lists.base place) refl is
    where
      go : (o : Option BaseEntry) → slice_get lists.base place ≡ o →
          effect_or (λ e. at_base (base_visit lists place e)) o ≡ at_base x → BaseMark BaseLane place x
      go None there is = absurd (cc is)
      go (Some e) there is =
          let same : base_visit lists place e ≡ x = cc in
          record { lane_is = refl; conforms = there ∙ ap (λ (v : BaseVisit). Some v.entry) same }
  base_mark PoolLane place x is = absurd (go (slice_get lists.pool place) is)
    where
      go : (o : Option PoolEntry) → effect_or (λ e. at_pool (pool_visit lists place e)) o ≡ at_base x → ⊥
      go None is = cc
      go (Some e) is = cc
  base_mark (CpuLane c) place x is = absurd (go (slice_get (cpu_list lists c) place) is)
    where
      go : (o : Option CpuEntry) → effect_or (λ e. at_cpu (cpu_visit lists c place e)) o ≡ at_base x → ⊥
      go None is = cc
      go (Some e) is = cc

-- The lists of a new table after its first sample

module _ (q : View) (wide : length q.lanes ≡ 3) (at_end : Ended 3 q) where
  abbrev lists : Lists
  lists = book_lists (length q.lanes) (known_of q) []

  ended : Ended (length q.lanes) q
  ended = subst (λ (k : ℕ). Ended k q) (sym wide) at_end

  goes_on : Continues (length q.lanes) q (known_of q)
  goes_on = record {
    long = refl;
    begins = λ lane near. begins_refl (known_of q lane);
    closed = ended_lanes q [] (let e = wide in omega arith) ended;
  }

  -- if the effects of some steps are an extraction and then a reseed, a caller has seen a generation of at least 1
  -- after the steps
  rooted_seen : (caller event step low high root now : ℕ) (pool : PoolVisit) (base : BaseVisit)
      (made_steps : List MadeStep) → AllConform q caller event step made_steps → Sees q low made_steps high →
      base.entry ≡ Reseed root now → effects_of lists (map step_of made_steps) ≡ at_pool pool ∷ at_base base ∷ [] →
      1 ≤ high
  rooted_seen caller event step low high root now pool base [] conform sees names is = absurd (cc is)
  rooted_seen caller event step low high root now pool base (one ∷ []) conform sees names is = absurd (cc is)
  rooted_seen caller event step low high root now pool base (looked g ∷ two ∷ more) conform sees names is = absurd (cc is)
  rooted_seen caller event step low high root now pool base (visited mark e ∷ looked g ∷ more) conform sees names is =
      absurd (cc is)
  rooted_seen caller event step low high root now pool base (visited mark e ∷ visited next f ∷ more) conform sees names is =
      let effects : effect_at lists mark.lane mark.place ∷ effect_at lists next.lane next.place ∷ effects_of lists (map step_of more)
      ≡ at_pool pool ∷ at_base base ∷ [] = is in
      let there : effect_at lists next.lane next.place ≡ at_base base = cc in
      let k = base_mark lists next.lane next.place base there in
      let m = conform.1.0 in
      let visit : get_elem? (known_of q 1) next.place ≡ some m.visit =
      subst (λ (lane : LaneId). get_elem? (known_of q (index_of lane)) next.place ≡ some m.visit) k.lane_is m.there in
      let entry = lane_at base_kind (length q.lanes) (known_of q 1) (ended.lawful 1 (let e = wide in omega arith))
      next.place m.visit (conforms_at (known_of q 1) next.place m.visit visit) in
      let both : Some entry.entry ≡ Some base.entry = sym entry.conforms ∙ k.conforms in
      let same : entry.entry ≡ base.entry = cc in
      let raised = reseeded_at (known_of q 1) next.place root now m.visit visit
      (entry.is ∙ ap Base (same ∙ names)) in
      let seen = sees.3 in
      let reached : (replay (take (suc next.place) (known_of q 1))).base.generation ≤ seen.0 =
      subst (λ (lane : LaneId). (replay (take (suc next.place) (known_of q (index_of lane)))).base.generation ≤ seen.0)
      k.lane_is (let a = seen.2 in omega arith) in
      let up = sees_up q seen.0 high more seen.3 in omega arith

  no_steps : (made_steps : List MadeStep) → effects_of lists (map step_of made_steps) ≡ [] → made_steps ≡ []
  no_steps [] is = refl
  no_steps (one ∷ more) is = absurd (cc is)

  credit_seen : (caller event step low high : ℕ) (set : CallSetting) (text : List ℕ) (made_steps : List MadeStep) →
      AllConform q caller event step made_steps → Sees q low made_steps high →
      length (places_in 0 made_steps) ≡ length (known_of q 0) →
      CreditForm set (Mix text 256) (effects_of lists (map step_of made_steps)) → 1 ≤ high
  credit_seen caller event step low high set text [] conform sees many f =
      let is : [] ≡ at_pool f.pool ∷ f.rest = f.effects_are in absurd (cc is)
  credit_seen caller event step low high set text (looked g ∷ more) conform sees many f =
      let is : effect_of lists (step_of (looked g)) ∷ effects_of lists (map step_of more) ≡ at_pool f.pool ∷ f.rest =
      f.effects_are in absurd (cc is)
  credit_seen caller event step low high set text (visited mark e ∷ more) conform sees many f =
      let effects : effect_at lists mark.lane mark.place ∷ effects_of lists (map step_of more) ≡ at_pool f.pool ∷ f.rest =
      f.effects_are in
      let here : effect_at lists mark.lane mark.place ≡ at_pool f.pool = cc in
      let rest : effects_of lists (map step_of more) ≡ f.rest = cc in
      let k = pool_mark lists mark.lane mark.place f.pool here in
      let bits = f.pool.before.bits in
      let full : f.pool.after.bits ≡ 256 =
      ap (λ (v : PoolVisit). v.after.bits) k.visit_is
      ∙ ap (λ (s : PoolState). (pool_step s f.pool.entry).bits) (sym (ap (λ (v : PoolVisit). v.before) k.visit_is))
      ∙ ap (λ (x : PoolEntry). (pool_step f.pool.before x).bits) f.credits ∙ all_credited bits in
      dite (dec_le 256 bits)
      (λ spent.
      let crosses : f.rest ≡ [] =
      subst (λ (z : Crossing). Cross set z f.rest) (ap (crossing bits) full ∙ crosses_none bits spent) f.crosses in
      let no_more = no_steps more (rest ∙ crosses) in
      let one : length (known_of q 0) ≡ 1 =
      sym many ∙ ap (λ (l : List MadeStep). length (places_in 0 (visited mark e ∷ l))) no_more
      ∙ ap (λ (lane : LaneId). length (if index_of lane == 0 then mark.place ∷ [] else [])) k.lane_is in
      let m = conform.0 in
      let visit : get_elem? (known_of q 0) mark.place ≡ some m.visit =
      subst (λ (lane : LaneId). get_elem? (known_of q (index_of lane)) mark.place ≡ some m.visit) k.lane_is m.there in
      let within = slice_get_within (known_of q 0) mark.place m.visit
      (conforms_at (known_of q 0) mark.place m.visit visit) in
      let first : mark.place ≡ 0 = omega arith in
      let empty : bits ≡ 0 =
      ap (λ (v : PoolVisit). v.before.bits) k.visit_is
      ∙ ap (λ (place : ℕ). (pool_after (take place lists.pool)).bits) first in
      absurd (omega arith))
      (λ short.
      let root : Rooted set (λ r. Reseed r set.now) f.rest =
      subst (λ (z : Crossing). Cross set z f.rest) (ap (crossing bits) full ∙ crosses_ready bits (omega arith)) f.crosses in
      rooted_seen caller event (suc step) sees.0 high root.pool.place set.now root.pool root.base more conform.1 sees.3
      root.names (rest ∙ root.effects_are))

  -- if the first sample was added to a new table, the caller has seen the core ready
  pub sample_readies : (own : List Step)
      × DidAll (IsOutcomeOf (setting_of (first_setting 0)) (Add (range_with_len 0 32) 256) Done no_data) (first_setting 0)
      start own q → 1 ≤ floor q
  sample_readies did =
      let k = did.1 in
      let made = k.recorded.went.made 0 (omega arith) in
      let none_yet = none_made 0 (omega arith) in
      let all = at_end.made 0 (omega arith) in
      credit_seen 0 0 0 (floor start) (floor q) (setting_of (first_setting 0)) (range_with_len 0 32) k.made_steps
      k.recorded.went.conform k.recorded.went.sees (omega arith) (k.conforms (length q.lanes) (known_of q) [] goes_on).form

-- `sample_readies` for the arguments that the code passes
pub readied : (set : Setting) (p q : View) (lanes : ℕ) → set ≡ first_setting 0 → p ≡ start → lanes ≡ 3 →
    length q.lanes ≡ lanes → (q.share ≡ 2 ^ q.halvings → Ended lanes q) → ((own : List Step)
    × DidAll (IsOutcomeOf (setting_of set) (Add (range_with_len 0 32) 256) Done no_data) set p own q) → 1 ≤ floor q
readied set p q lanes first new three wide ends did =
    let same = did.1.recorded.went.same in
    let share : q.share ≡ 1 = same.share ∙ ap (λ (v : View). v.share) new in
    let halvings : q.halvings ≡ 0 = same.halvings ∙ ap (λ (v : View). v.halvings) new in
    let whole : q.share ≡ 2 ^ q.halvings = share ∙ sym (ap (λ (h : ℕ). 2 ^ h) halvings) in
    sample_readies q (wide ∙ three) (subst (λ (n : ℕ). Ended n q) three (ends whole))
    (subst (λ (v : View). (own : List Step)
    × DidAll (IsOutcomeOf (setting_of (first_setting 0)) (Add (range_with_len 0 32) 256) Done no_data) (first_setting 0)
    v own q) new
    (subst (λ (z : Setting). (own : List Step)
    × DidAll (IsOutcomeOf (setting_of z) (Add (range_with_len 0 32) 256) Done no_data) z p own q) first did))

-- if the pass `p` holds no lane, and `p'` is the same pass, then `p'` holds no lane
pub has_settled : (t : Lanes) (caller : ℕ) (p p' : Pass) → HoldsLanes t caller [] p → IsSamePass t p p' →
    p'.seat.me ≡ p.seat.me → HoldsLanes t caller [] p'
has_settled t caller p p' k same is = record {
  pass = same.pass;
  own = same.caller ∙ k.own;
  out = ap (λ (m : Seated). m.1) is ∙ k.out;
  held = tt;
  away = λ lane low no. ap (λ (m : Seated). (at lane m.0).stage) is ∙ k.away lane low no;
}
