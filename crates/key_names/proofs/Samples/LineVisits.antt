-- If the visits of a book are the marks of lines, then each visit is an effect of the line of its event. Conversely, if
-- a visit is among the effects of a line, the line's event made the visit.
use Rattle.std.proofs.Common.{◌≡◌, ℕ, ◌<◌, List, sym, ap, ◌∙◌, subst, arith, Some}
use Rattle.std.specs.Prelude.{slice_get, option_map}
use Rattle.std.proofs.lemmas.Option.{slice_get_within, slice_get-map}
use Rattle.key_names.specs.declared.names.LaneId.{LaneId}
use Rattle.key_names.specs.declared.names.LaneId.TheVariants.{Pool as PoolLane, Cpu as CpuLane}
use Rattle.key_names.specs.declared.names.Mark.{Mark}
use Rattle.key_names.specs.declared.names.Who.{Who}
use Rattle.key_names.specs.declared.names.Step.{Step}
use Rattle.key_names.specs.declared.names.Step.TheVariants.{Look, Visit as Marked}
use Rattle.key_names.specs.declared.entries.PoolEntry.{PoolEntry}
use Rattle.key_names.specs.declared.entries.CpuEntry.{CpuEntry}
use Rattle.key_names.specs.Lanes.Book.{Book, Lists, Visit, cpu_list, entries_of, lists_of}
use Rattle.key_names.specs.Callers.Effects.{Effect, PoolVisit, CpuVisit, at_pool, at_cpu}
use Rattle.key_names.specs.Callers.Effects.{effect_or, effect_at, effect_of, effects_of, pool_visit, cpu_visit}
use Rattle.key_names.specs.Lanes.Samples.{visits_of}
use Rattle.key_names.specs.Transcripts.SeenLine.{SeenLine}
use Rattle.key_names.specs.Transcripts.IsTranscript.{MarkBy, all_marks, lane_marks, stamped, stamped_at, PlacesConform, VisitsAre}
use Rattle.key_names.proofs.Transcripts.LaneCounts.{every_place, lane_length, lane_counts}
use Rattle.key_names.proofs.History.SortedVisits.{IsIn}
use Rattle.key_names.proofs.Unique.UniqueEvents.{entries_at}
use Rattle.key_names.proofs.Unique.UniqueMarks.{Found, found}
use Rattle.key_names.proofs.Samples.EffectPlaces.{CpuAt, PoolAt, cpu_at, pool_at}
use Rattle.key_names.proofs.Samples.Lines.{each_in, each_of, effect_in, step_of_effect, Among, LineOf, line_of, MarkOf, mark_of}

pub entry_at : {E : Type 0} (visits : List (Visit E)) (place : ℕ) (v : Visit E) → slice_get visits place ≡ Some v →
    slice_get (entries_of visits) place ≡ Some v.entry
entry_at {E = E} visits place v at =
    let entry : Visit E → E = λ visit. visit.entry in
    slice_get-map entry visits place ∙ ap (λ o. option_map entry o) at

module _ (t : List (List SeenLine)) (book : Book) (visits : VisitsAre book (all_marks t)) where
  abbrev lists : Lists
  lists = lists_of book

  -- if the book has the visit `v` at `place` of CPU `c`, the CPU's list has the entry of `v` at `place`. Below, the
  -- same for the pool
  pub cpu_entry_at : (c place : ℕ) (v : Visit CpuEntry) → slice_get (visits_of book c) place ≡ Some v →
      slice_get (cpu_list lists c) place ≡ Some v.entry
  cpu_entry_at c place v at =
      ap (λ es. slice_get es place) (sym (entries_at book.cpus c)) ∙ entry_at (visits_of book c) place v at

  pub pool_entry_at : (place : ℕ) (v : Visit PoolEntry) → slice_get book.pool place ≡ Some v →
      slice_get lists.pool place ≡ Some v.entry
  pool_entry_at place v at = entry_at book.pool place v at

  -- the event of `who` has a line, and `effect` is one of the effects of that line
  pub record InLine (who : Who) (effect : Effect) : Type 0 where
    pub line : SeenLine
    pub among : Among line t
    pub event : line.event ≡ who.event
    pub by : who.caller ≡ line.caller
    pub effect_there : IsIn effect (effects_of lists line.steps)

  marked_in : (by : MarkBy) → IsIn by (all_marks t) → InLine by.who (effect_at lists by.mark.lane by.mark.place)
  marked_in by there =
      let f : LineOf t by = line_of t by there in
      record {
        line = f.line;
        among = f.among;
        event = sym f.event_is;
        by = f.caller_is;
        effect_there = effect_in lists (Marked by.mark) f.line.steps f.step;
      }

  stamp_of : (by : MarkBy) → IsIn by (all_marks t) →
      stamped_at book by.mark.lane by.mark.place ≡ Some (by.mark.stamp, by.who)
  stamp_of by there =
      each_in (λ b. stamped_at book b.mark.lane b.mark.place ≡ Some (b.mark.stamp, b.who)) by (all_marks t) visits.conform
      there

  -- ---- each visit is an effect of the line of its event

  module _ (places : (lane : LaneId) → PlacesConform (lane_marks lane (all_marks t))) where
    -- the stamp and the maker of the visit at `place` of `lane`, and the line that has the visit's mark
    record MadeAt (lane : LaneId) (place : ℕ) : Type 0 where
      stamp : ℕ
      who : Who
      at : stamped_at book lane place ≡ Some (stamp, who)
      within : InLine who (effect_at lists lane place)

    made_at : (lane : LaneId) (place : ℕ) → place < lane_length book lane → MadeAt lane place
    made_at lane place lt =
        let counts = lane_counts book (all_marks t) places visits lane in
        every_place MadeAt lane (all_marks t) (places lane)
        (each_of (λ by. MadeAt by.mark.lane by.mark.place) (all_marks t)
        (λ by there. record {
          stamp = by.mark.stamp;
          who = by.who;
          at = stamp_of by there;
          within = marked_in by there;
        })) place (omega arith)

    who_is : {E : Type 0} (visits : List (Visit E)) (place stamp : ℕ) (who : Who) (v : Visit E) →
        stamped visits place ≡ Some (stamp, who) → slice_get visits place ≡ Some v → who ≡ v.who
    who_is {E = E} visits place stamp who v at is =
        let f : Found visits place who = found visits place stamp who at in
        let same : f.visit ≡ v = (let p = f.is in cc) in
        sym f.made ∙ ap (λ (x : Visit E). x.who) same

    pub cpu_in_line : (c place : ℕ) (v : Visit CpuEntry) → slice_get (visits_of book c) place ≡ Some v →
        InLine v.who (at_cpu (cpu_visit lists c place v.entry))
    cpu_in_line c place v at =
        let m : MadeAt (CpuLane c) place =
        made_at (CpuLane c) place (slice_get_within (visits_of book c) place v at) in
        let effect : effect_at lists (CpuLane c) place ≡ at_cpu (cpu_visit lists c place v.entry) =
        ap (effect_or (λ e. at_cpu (cpu_visit lists c place e))) (cpu_entry_at c place v at) in
        subst (λ d. InLine v.who d) effect
        (subst (λ w. InLine w (effect_at lists (CpuLane c) place))
        (who_is (visits_of book c) place m.stamp m.who v m.at at) m.within)

    pub pool_in_line : (place : ℕ) (v : Visit PoolEntry) → slice_get book.pool place ≡ Some v →
        InLine v.who (at_pool (pool_visit lists place v.entry))
    pool_in_line place v at =
        let m : MadeAt PoolLane place = made_at PoolLane place (slice_get_within book.pool place v at) in
        let effect : effect_at lists PoolLane place ≡ at_pool (pool_visit lists place v.entry) =
        ap (effect_or (λ e. at_pool (pool_visit lists place e))) (pool_entry_at place v at) in
        subst (λ d. InLine v.who d) effect
        (subst (λ w. InLine w (effect_at lists PoolLane place)) (who_is book.pool place m.stamp m.who v m.at at) m.within)

  -- ---- each visit among the effects of a line was made by the line's event

  pub record After {E : Type 0} (list : List (Visit E)) (place : ℕ) (entry : E) (line : SeenLine) : Type 0 where
    pub visit : Visit E
    pub at : slice_get list place ≡ Some visit
    pub is : visit.entry ≡ entry
    pub by : visit.who.caller ≡ line.caller
    pub event : visit.who.event ≡ line.event

  -- if the visit at `place` has the mark's stamp and maker, and its entry is `entry`, then `After` holds
  visit_after : {E : Type 0} (list : List (Visit E)) (place : ℕ) (entry : E) (line : SeenLine) (mark : Mark) →
      (m : MarkOf t line mark) → stamped list place ≡ Some (m.by.mark.stamp, m.by.who) →
      ((v : Visit E) → slice_get list place ≡ Some v → v.entry ≡ entry) → After list place entry line
  visit_after list place entry line mark m stamp is =
      let f : Found list place m.by.who = found list place m.by.mark.stamp m.by.who stamp in
      record {
        visit = f.visit;
        at = f.is;
        is = is f.visit f.is;
        by = ap (λ (w : Who). w.caller) f.made ∙ m.caller_is;
        event = ap (λ (w : Who). w.event) f.made ∙ m.event_is;
      }

  -- the visit at a mark's place has the mark's stamp and maker
  pub stamp_at : (lane : LaneId) (place : ℕ) (line : SeenLine) (mark : Mark) (m : MarkOf t line mark) → mark.lane ≡ lane →
      mark.place ≡ place → stamped_at book lane place ≡ Some (m.by.mark.stamp, m.by.who)
  stamp_at lane place line mark m p q =
      (λ i. stamped_at book (sym p i) (sym q i))
      ∙ ap (λ (k : Mark). stamped_at book k.lane k.place) (sym m.mark_is) ∙ stamp_of m.by m.there

  pub cpu_after : (line : SeenLine) (s : CpuVisit) → Among line t → IsIn (at_cpu s) (effects_of lists line.steps) →
      After (visits_of book s.cpu) s.place s.entry line
  cpu_after line s among here =
      let f = step_of_effect lists (at_cpu s) line.steps here in go f.0 f.1 f.2
    where
      go : (step : Step) → IsIn step line.steps → effect_of lists step ≡ at_cpu s →
          After (visits_of book s.cpu) s.place s.entry line
      go (Look g) at is = absurd (cc is)
      go (Marked mark) at is =
          let d : CpuAt lists mark.lane mark.place s = cpu_at lists mark.lane mark.place s is in
          let m : MarkOf t line mark = mark_of t line mark among at in
          visit_after (visits_of book s.cpu) s.place s.entry line mark m
          (stamp_at (CpuLane s.cpu) s.place line mark m d.lane_is d.place_is)
          (λ v there. let p = cpu_entry_at s.cpu s.place v there in let q = d.entry in cc)

  pub pool_after : (line : SeenLine) (s : PoolVisit) → Among line t → IsIn (at_pool s) (effects_of lists line.steps) →
      After book.pool s.place s.entry line
  pool_after line s among here =
      let f = step_of_effect lists (at_pool s) line.steps here in go f.0 f.1 f.2
    where
      go : (step : Step) → IsIn step line.steps → effect_of lists step ≡ at_pool s →
          After book.pool s.place s.entry line
      go (Look g) at is = absurd (cc is)
      go (Marked mark) at is =
          let d : PoolAt lists mark.lane mark.place s = pool_at lists mark.lane mark.place s is in
          let m : MarkOf t line mark = mark_of t line mark among at in
          visit_after book.pool s.place s.entry line mark m
          (stamp_at PoolLane s.place line mark m d.lane_is d.place_is)
          (λ v there. let p = pool_entry_at s.place v there in let q = d.entry in cc)
