-- If the samples of each line are correct, then LawfulSamples holds for the book.
use Rattle.std.proofs.Common.{◌≡◌, ℕ, ◌<◌, inl, inr, List, [], ◌∷◌, refl, sym, ap, ◌∙◌, subst, arith, Some}
use Rattle.std.specs.Prelude.{slice_get}
use Rattle.std.specs.List.{AllByRecursion}
use Rattle.key_names.specs.declared.names.LaneId.{LaneId}
use Rattle.key_names.specs.declared.names.Who.{Who}
use Rattle.key_names.specs.declared.entries.PoolEntry.{PoolEntry}
use Rattle.key_names.specs.declared.entries.PoolEntry.TheVariants.{Mix}
use Rattle.key_names.specs.declared.entries.CpuEntry.{CpuEntry}
use Rattle.key_names.specs.declared.entries.CpuEntry.TheVariants.{Irq, Dump}
use Rattle.key_names.specs.Lanes.Book.{Book, Lists, Visit, lists_of}
use Rattle.key_names.specs.Callers.Effects.{Effect, PoolVisit, CpuVisit, at_pool, at_cpu, effects_of, pool_visit, cpu_visit}
use Rattle.key_names.specs.Kernel.FastPool.{FastPool, dump_bytes, dump_bits}
use Rattle.key_names.specs.Callers.LineSamples.{EntryIsQuiet, IsQuiet, Dumps, IsMix, IsCrossing, SamplesConform}
use Rattle.key_names.specs.Lanes.Samples.{SameEvent, fast_before, MakesDue, IsDump, DueAt, DumpAt, MixAt, visits_of, LawfulSamples}
use Rattle.key_names.specs.Transcripts.SeenLine.{SeenLine}
use Rattle.key_names.specs.Transcripts.IsTranscript.{all_marks, lane_marks, PlacesConform, VisitsAre}
use Rattle.key_names.proofs.History.SortedVisits.{IsIn}
use Rattle.key_names.proofs.Samples.Lines.{each_in, Among, Apart}
use Rattle.key_names.proofs.Samples.LineVisits.{InLine, After, cpu_in_line, pool_in_line, cpu_after, pool_after}

-- at most one of three facts is true of an entry: it is quiet (`EntryIsQuiet`), it is a dump, or it makes a dump due

pub quiet_dump : (f : FastPool) (e : CpuEntry) → EntryIsQuiet f e → IsDump e → ⊥
quiet_dump f (Dump now) quiet dump = quiet
quiet_dump f _ quiet dump = dump

quiet_due : (f : FastPool) (e : CpuEntry) → EntryIsQuiet f e → MakesDue f e → ⊥
quiet_due f (Irq v1 v2 now) quiet due = cc
quiet_due f _ quiet due = due

pub due_dump : (f : FastPool) (e : CpuEntry) → MakesDue f e → IsDump e → ⊥
due_dump f (Dump now) due dump = due
due_dump f _ due dump = dump

abbrev Crosses : List Effect → Type 0
Crosses rest = AllByRecursion IsCrossing rest

-- let the samples of a line be correct. If the line has a dump or makes one due, then Dumps holds for the line's
-- effects
module _ (fast : ℕ → ℕ → FastPool) (effects : List Effect) where
  must_dump : SamplesConform fast effects → (s : CpuVisit) → IsIn (at_cpu s) effects → IsDump s.entry →
      Dumps fast Crosses effects
  must_dump (inl quiet) s here dump = absurd (quiet_dump (fast s.cpu s.place) s.entry
      (each_in (IsQuiet fast) (at_cpu s) effects quiet here) dump)
  must_dump (inr d) s here dump = d

  was_due : SamplesConform fast effects → (s : CpuVisit) → IsIn (at_cpu s) effects → MakesDue (fast s.cpu s.place) s.entry →
      Dumps fast Crosses effects
  was_due (inl quiet) s here due = absurd (quiet_due (fast s.cpu s.place) s.entry
      (each_in (IsQuiet fast) (at_cpu s) effects quiet here) due)
  was_due (inr d) s here due = d

  module _ (d : Dumps fast Crosses effects) where
    abbrev Front : Effect → Type 0
    Front effect = IsIn effect (at_cpu d.sample ∷ at_cpu d.dump ∷ at_pool d.mix ∷ d.rest)

    front : (effect : Effect) → IsIn effect effects → Front effect
    front effect here = subst (IsIn effect) d.effects_are here

    is_the_dump : (s : CpuVisit) → IsIn (at_cpu s) effects → IsDump s.entry → d.dump ≡ s
    is_the_dump s here dump = go (front (at_cpu s) here)
      where
        go : Front (at_cpu s) → d.dump ≡ s
        go (inl same) =
            let e : d.sample ≡ s = cc in
            let due : MakesDue (fast s.cpu s.place) s.entry =
            subst (λ (v : CpuVisit). MakesDue (fast v.cpu v.place) v.entry) e d.due in
            absurd (due_dump (fast s.cpu s.place) s.entry due dump)
        go (inr (inl same)) = cc
        go (inr (inr (inl same))) = cc
        go (inr (inr (inr rest))) = absurd (each_in IsCrossing (at_cpu s) d.rest d.crosses rest)

    is_the_sample : (s : CpuVisit) → IsIn (at_cpu s) effects → MakesDue (fast s.cpu s.place) s.entry → d.sample ≡ s
    is_the_sample s here due = go (front (at_cpu s) here)
      where
        go : Front (at_cpu s) → d.sample ≡ s
        go (inl same) = cc
        go (inr (inl same)) =
            let e : d.dump ≡ s = cc in
            absurd (due_dump (fast s.cpu s.place) s.entry due (subst (λ (v : CpuVisit). IsDump v.entry) e d.dumps))
        go (inr (inr (inl same))) = cc
        go (inr (inr (inr rest))) = absurd (each_in IsCrossing (at_cpu s) d.rest d.crosses rest)

    is_the_mix : (s : PoolVisit) → IsIn (at_pool s) effects → IsMix s.entry → d.mix ≡ s
    is_the_mix s here mix = go (front (at_pool s) here)
      where
        go : Front (at_pool s) → d.mix ≡ s
        go (inl same) = cc
        go (inr (inl same)) = cc
        go (inr (inr (inl same))) = cc
        go (inr (inr (inr rest))) = absurd (each_in IsCrossing (at_pool s) d.rest d.crosses rest mix)

    sample_in : IsIn (at_cpu d.sample) effects
    sample_in = subst (IsIn (at_cpu d.sample)) (sym d.effects_are) (inl refl)

    dump_in : IsIn (at_cpu d.dump) effects
    dump_in = subst (IsIn (at_cpu d.dump)) (sym d.effects_are) (inr (inl refl))

    mix_in : IsIn (at_pool d.mix) effects
    mix_in = subst (IsIn (at_pool d.mix)) (sym d.effects_are) (inr (inr (inl refl)))

-- the bytes that a `Mix` entry of the pool mixes, and no bytes for any other entry; below, the bits that the entry
-- credits
abbrev text_or : PoolEntry → List ℕ
text_or (Mix text bits) = text
text_or _ = []

abbrev bits_or : PoolEntry → ℕ
bits_or (Mix text bits) = bits
bits_or _ = 0

-- `fast` gives the fast pool of a CPU before the visit at a place
module _ (t : List (List SeenLine)) (book : Book) (fast : ℕ → ℕ → FastPool)
    (fast_is : (c place : ℕ) (v : Visit CpuEntry) → slice_get (visits_of book c) place ≡ Some v →
    fast_before (visits_of book c) place ≡ fast c place)
    (apart : Apart t) (visits : VisitsAre book (all_marks t))
    (places : (lane : LaneId) → PlacesConform (lane_marks lane (all_marks t))) where
  abbrev lists : Lists
  lists = lists_of book

  abbrev InSome : Who → Effect → Type 0
  InSome who effect = InLine t book visits who effect

  abbrev effects : SeenLine → List Effect
  effects line = effects_of lists line.steps

  abbrev Conforms : SeenLine → Type 0
  Conforms line = SamplesConform fast (effects line)

  cpu_line : (c place : ℕ) (v : Visit CpuEntry) → slice_get (visits_of book c) place ≡ Some v →
      InSome v.who (at_cpu (cpu_visit lists c place v.entry))
  cpu_line = cpu_in_line t book visits places

  pool_line : (place : ℕ) (v : Visit PoolEntry) → slice_get book.pool place ≡ Some v →
      InSome v.who (at_pool (pool_visit lists place v.entry))
  pool_line = pool_in_line t book visits places

  of_cpu : (line : SeenLine) (s : CpuVisit) → Among line t → IsIn (at_cpu s) (effects line) →
      After t book visits (visits_of book s.cpu) s.place s.entry line
  of_cpu = cpu_after t book visits

  of_pool : (line : SeenLine) (s : PoolVisit) → Among line t → IsIn (at_pool s) (effects line) →
      After t book visits book.pool s.place s.entry line
  of_pool = pool_after t book visits

  -- in the book, each visit among a line's effects was made by the line's event
  pub due_at : (line : SeenLine) (s : CpuVisit) (who : Who) → Among line t → IsIn (at_cpu s) (effects line) →
      line.event ≡ who.event → who.caller ≡ line.caller → MakesDue (fast s.cpu s.place) s.entry →
      DueAt (visits_of book s.cpu) s.place who
  due_at line s who among here event by due =
      let b = of_cpu line s among here in
      record {
        visit = b.visit;
        is = b.at;
        event = (b.by ∙ sym by, b.event ∙ event);
        due = subst (λ (e : CpuEntry). MakesDue (fast_before (visits_of book s.cpu) s.place) e) (sym b.is)
            (subst (λ (f : FastPool). MakesDue f s.entry) (sym (fast_is s.cpu s.place b.visit b.at)) due);
      }

  pub dump_at : (line : SeenLine) (s : CpuVisit) (who : Who) → Among line t → IsIn (at_cpu s) (effects line) →
      line.event ≡ who.event → who.caller ≡ line.caller → IsDump s.entry → DumpAt (visits_of book s.cpu) s.place who
  dump_at line s who among here event by dump =
      let b = of_cpu line s among here in
      record {
        visit = b.visit;
        is = b.at;
        event = (b.by ∙ sym by, b.event ∙ event);
        dumps = subst IsDump (sym b.is) dump;
      }

  pub mix_at : (line : SeenLine) (s : PoolVisit) (who : Who) (text : List ℕ) (bits : ℕ) → Among line t →
      IsIn (at_pool s) (effects line) → line.event ≡ who.event → who.caller ≡ line.caller → s.entry ≡ Mix text bits →
      MixAt book.pool s.place who text bits
  mix_at line s who text bits among here event by mixes =
      let b = of_pool line s among here in
      record { visit = b.visit; is = b.at; event = (b.by ∙ sym by, b.event ∙ event); mixes = b.is ∙ mixes }

  -- if the line's event made a visit, the visit is among the effects of the line
  own_line : (line : SeenLine) (a who : Who) (effect : Effect) → Among line t → line.event ≡ who.event →
      who.caller ≡ line.caller → SameEvent a who → InSome a effect → IsIn effect (effects line)
  own_line line a who effect among event by same g =
      let is : g.line ≡ line =
      apart g.line line g.among among (sym g.by ∙ same.0 ∙ by) (g.event ∙ same.1 ∙ sym event) in
      subst (λ l. IsIn effect (effects l)) is g.effect_there

  pub due_in : (line : SeenLine) (c i : ℕ) (who : Who) → Among line t → line.event ≡ who.event →
      who.caller ≡ line.caller → (a : DueAt (visits_of book c) i who) →
      IsIn (at_cpu (cpu_visit lists c i a.visit.entry)) (effects line) × MakesDue (fast c i) a.visit.entry
  due_in line c i who among event by a = (
    own_line line a.visit.who who (at_cpu (cpu_visit lists c i a.visit.entry)) among event by a.event
        (cpu_line c i a.visit a.is),
    subst (λ (f : FastPool). MakesDue f a.visit.entry) (fast_is c i a.visit a.is) a.due,
  )

  pub dump_in_line : (line : SeenLine) (c k : ℕ) (who : Who) → Among line t → line.event ≡ who.event →
      who.caller ≡ line.caller → (a : DumpAt (visits_of book c) k who) →
      IsIn (at_cpu (cpu_visit lists c k a.visit.entry)) (effects line)
  dump_in_line line c k who among event by a =
      own_line line a.visit.who who (at_cpu (cpu_visit lists c k a.visit.entry)) among event by a.event
      (cpu_line c k a.visit a.is)

  -- ---- if the samples of each line are correct, LawfulSamples holds for the book

  module _ (samples : AllByRecursion (AllByRecursion Conforms) t) where
    conforms : (line : SeenLine) → Among line t → Conforms line
    conforms line (lines, lines_in, line_in) =
        each_in Conforms line lines (each_in (AllByRecursion Conforms) lines t samples lines_in) line_in

    -- the line of the event of `who`. The dump among the line's effects is at place `k` of CPU `c`
    record OfDump (c k : ℕ) (who : Who) : Type 0 where
      line : SeenLine
      among : Among line t
      event : line.event ≡ who.event
      by : who.caller ≡ line.caller
      dumps : Dumps fast Crosses (effects line)
      on : dumps.dump.cpu ≡ c
      at : dumps.dump.place ≡ k

    of_dump : (c k : ℕ) (who : Who) → DumpAt (visits_of book c) k who → OfDump c k who
    of_dump c k who a =
        let f : InSome a.visit.who (at_cpu (cpu_visit lists c k a.visit.entry)) = cpu_line c k a.visit a.is in
        let s : CpuVisit = cpu_visit lists c k a.visit.entry in
        let d : Dumps fast Crosses (effects f.line) =
        must_dump fast (effects f.line) (conforms f.line f.among) s f.effect_there a.dumps in
        let same : d.dump ≡ s = is_the_dump fast (effects f.line) d s f.effect_there a.dumps in
        record {
          line = f.line;
          among = f.among;
          event = f.event ∙ a.event.1;
          by = sym a.event.0 ∙ f.by;
          dumps = d;
          on = ap (λ (v : CpuVisit). v.cpu) same;
          at = ap (λ (v : CpuVisit). v.place) same;
        }

    dump_due : (c k : ℕ) (who : Who) → DumpAt (visits_of book c) k who →
        (i : ℕ) × (i < k) × DueAt (visits_of book c) i who
    dump_due c k who a =
        let o : OfDump c k who = of_dump c k who a in
        let d : Dumps fast Crosses (effects o.line) = o.dumps in
        let cpu : d.sample.cpu ≡ c = sym d.on ∙ o.on in (
          d.sample.place,
          (let lt = d.after in let e = o.at in omega arith),
          subst (λ (n : ℕ). DueAt (visits_of book n) d.sample.place who) cpu
              (due_at o.line d.sample who o.among (sample_in fast (effects o.line) d) o.event o.by d.due),
        )

    due_dumped : (c i : ℕ) (who : Who) → DueAt (visits_of book c) i who →
        (k : ℕ) × (i < k) × DumpAt (visits_of book c) k who
    due_dumped c i who a =
        let f : InSome a.visit.who (at_cpu (cpu_visit lists c i a.visit.entry)) = cpu_line c i a.visit a.is in
        let s : CpuVisit = cpu_visit lists c i a.visit.entry in
        let due : MakesDue (fast c i) a.visit.entry =
        subst (λ (f : FastPool). MakesDue f a.visit.entry) (fast_is c i a.visit a.is) a.due in
        let d : Dumps fast Crosses (effects f.line) =
        was_due fast (effects f.line) (conforms f.line f.among) s f.effect_there due in
        let same : d.sample ≡ s = is_the_sample fast (effects f.line) d s f.effect_there due in
        let cpu : d.dump.cpu ≡ c = d.on ∙ ap (λ (v : CpuVisit). v.cpu) same in
        let from : d.sample.place ≡ i = ap (λ (v : CpuVisit). v.place) same in (
          d.dump.place,
          (let lt = d.after in omega arith),
          subst (λ (n : ℕ). DumpAt (visits_of book n) d.dump.place who) cpu
              (dump_at f.line d.dump who f.among (dump_in fast (effects f.line) d) (f.event ∙ a.event.1)
              (sym a.event.0 ∙ f.by) d.dumps),
        )

    one_dump : (c j k : ℕ) (who : Who) → DumpAt (visits_of book c) j who → DumpAt (visits_of book c) k who → j ≡ k
    one_dump c j k who a b =
        let o : OfDump c j who = of_dump c j who a in
        let v : CpuVisit = cpu_visit lists c k b.visit.entry in
        let here : IsIn (at_cpu v) (effects o.line) = dump_in_line o.line c k who o.among o.event o.by b in
        let same : o.dumps.dump ≡ v = is_the_dump fast (effects o.line) o.dumps v here b.dumps in
        sym o.at ∙ ap (λ (v : CpuVisit). v.place) same

    -- at the dump of `who`, the fast pool that `fast` gives is the fast pool that the book gives
    dumped : (c k : ℕ) (who : Who) (o : OfDump c k who) → DumpAt (visits_of book c) k who →
        fast o.dumps.dump.cpu o.dumps.dump.place ≡ fast_before (visits_of book c) k
    dumped c k who o a = (λ i. fast (o.on i) (o.at i)) ∙ sym (fast_is c k a.visit a.is)

    mixed : (c k : ℕ) (who : Who) (o : OfDump c k who) → DumpAt (visits_of book c) k who → o.dumps.mix.entry
        ≡ Mix (dump_bytes (fast_before (visits_of book c) k)) (dump_bits (fast_before (visits_of book c) k))
    mixed c k who o a = o.dumps.mixes ∙ ap (λ (f : FastPool). Mix (dump_bytes f) (dump_bits f)) (dumped c k who o a)

    dump_mixed : (c k : ℕ) (who : Who) → DumpAt (visits_of book c) k who →
        (p : ℕ) × MixAt book.pool p who (dump_bytes (fast_before (visits_of book c) k))
        (dump_bits (fast_before (visits_of book c) k))
    dump_mixed c k who a =
        let o : OfDump c k who = of_dump c k who a in
        let d : Dumps fast Crosses (effects o.line) = o.dumps in (
          d.mix.place,
          mix_at o.line d.mix who (dump_bytes (fast_before (visits_of book c) k))
              (dump_bits (fast_before (visits_of book c) k)) o.among (mix_in fast (effects o.line) d) o.event o.by
              (mixed c k who o a),
        )

    mix_dumped : (c k p : ℕ) (who : Who) (text : List ℕ) (bits : ℕ) → DumpAt (visits_of book c) k who →
        MixAt book.pool p who text bits →
        (text ≡ dump_bytes (fast_before (visits_of book c) k))
        × (bits ≡ dump_bits (fast_before (visits_of book c) k))
    mix_dumped c k p who text bits a b =
        let o : OfDump c k who = of_dump c k who a in
        let s : PoolVisit = pool_visit lists p b.visit.entry in
        let here : IsIn (at_pool s) (effects o.line) =
        own_line o.line b.visit.who who (at_pool s) o.among o.event o.by b.event (pool_line p b.visit b.is) in
        let same : o.dumps.mix ≡ s =
        is_the_mix fast (effects o.line) o.dumps s here (subst IsMix (sym b.mixes) tt) in
        let f : FastPool = fast_before (visits_of book c) k in
        let is : Mix text bits ≡ Mix (dump_bytes f) (dump_bits f) =
        sym b.mixes ∙ sym (ap (λ (v : PoolVisit). v.entry) same) ∙ mixed c k who o a in
        (ap text_or is, ap bits_or is)

    pub samples_lawful : LawfulSamples book
    samples_lawful = record {
      dump_is_due = dump_due;
      due_is_dumped = due_dumped;
      one_dump = one_dump;
      dump_is_mixed = dump_mixed;
      mix_is_dump = mix_dumped;
    }
