-- If the book's visits are the marks of the lines, each mark has a visit in the book.
use Rattle.std.proofs.Common.{◌≡◌, ℕ, inl, inr, List, [], ◌∷◌, refl, sym, subst, Some, Option}
use Rattle.key_names.specs.declared.names.LaneId.{LaneId}
use Rattle.key_names.specs.declared.names.LaneId.TheVariants.{Pool as PoolLane, Base as BaseLane, Cpu as CpuLane}
use Rattle.key_names.specs.declared.names.Mark.{Mark}
use Rattle.key_names.specs.declared.names.Who.{Who}
use Rattle.key_names.specs.declared.names.Step.{Step}
use Rattle.key_names.specs.declared.names.Step.TheVariants.{Look, Visit as Marked}
use Rattle.key_names.specs.declared.entries.PoolEntry.{PoolEntry}
use Rattle.key_names.specs.declared.entries.BaseEntry.{BaseEntry}
use Rattle.key_names.specs.declared.entries.CpuEntry.{CpuEntry}
use Rattle.key_names.specs.Lanes.Book.{Book, Lists, lists_of}
use Rattle.key_names.specs.Callers.Effects.{effect_or, effect_at, effects_of, at_pool, at_base, at_cpu}
use Rattle.key_names.specs.Callers.Effects.{pool_visit, base_visit, cpu_visit}
use Rattle.key_names.specs.Lanes.Samples.{visits_of}
use Rattle.key_names.specs.Transcripts.SeenLine.{SeenLine}
use Rattle.key_names.specs.Transcripts.IsTranscript.{all_marks, stamped_at, VisitsAre}
use Rattle.key_names.proofs.History.SortedVisits.{IsIn}
use Rattle.key_names.proofs.Unique.UniqueMarks.{Found, found}
use Rattle.key_names.proofs.Samples.Lines.{Among, MarkOf, mark_of}
use Rattle.key_names.proofs.Samples.LineVisits.{entry_at, cpu_entry_at, pool_entry_at, stamp_at}
use Rattle.judge_lines.specs.Inferred.{IsThere, AllThere}

module _ (t : List (List SeenLine)) (book : Book) (visits : VisitsAre book (all_marks t)) where
  abbrev lists : Lists
  lists = lists_of book

  there_at : (lane : LaneId) (place stamp : ℕ) (who : Who) → stamped_at book lane place ≡ Some (stamp, who) →
      IsThere (effect_at lists lane place)
  there_at PoolLane place stamp who at =
      let f : Found book.pool place who = found book.pool place stamp who at in
      let P : Option PoolEntry → Type 0 = λ o. IsThere (effect_or (λ e. at_pool (pool_visit lists place e)) o) in
      subst P (sym (pool_entry_at t book visits place f.visit f.is)) tt
  there_at BaseLane place stamp who at =
      let f : Found book.base place who = found book.base place stamp who at in
      let P : Option BaseEntry → Type 0 = λ o. IsThere (effect_or (λ e. at_base (base_visit lists place e)) o) in
      subst P (sym (entry_at book.base place f.visit f.is)) tt
  there_at (CpuLane c) place stamp who at =
      let f : Found (visits_of book c) place who = found (visits_of book c) place stamp who at in
      let P : Option CpuEntry → Type 0 = λ o. IsThere (effect_or (λ e. at_cpu (cpu_visit lists c place e)) o) in
      subst P (sym (cpu_entry_at t book visits c place f.visit f.is)) tt

  all_there : (steps : List Step) →
      ((mark : Mark) → IsIn (Marked mark) steps → IsThere (effect_at lists mark.lane mark.place)) →
      AllThere (effects_of lists steps)
  all_there [] each = tt
  all_there (Look g ∷ steps) each = (tt, all_there steps (λ mark here. each mark (inr here)))
  all_there (Marked mark ∷ steps) each =
      (each mark (inl refl), all_there steps (λ mark here. each mark (inr here)))

  pub line_there : (line : SeenLine) → Among line t → AllThere (effects_of lists line.steps)
  line_there line among = all_there line.steps
      (λ mark here. let m : MarkOf t line mark = mark_of t line mark among here in
      there_at mark.lane mark.place m.by.mark.stamp m.by.who (stamp_at t book visits mark.lane mark.place line mark m refl refl))
