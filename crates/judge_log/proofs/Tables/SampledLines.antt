-- If a book's samples are lawful, and a line's call has a lawful meaning in this book, the line's samples are lawful.
use Rattle.std.proofs.Common.{◌≡◌, ℕ, ◌<◌, inl, inr, Bool, true, false, List, [], ◌∷◌, refl, sym, ap, ◌∙◌, subst, Some}
use Rattle.std.specs.Prelude.{slice_get, take}
use Rattle.std.specs.List.{AllByRecursion}
use Rattle.key_names.specs.declared.names.LaneId.{LaneId}
use Rattle.key_names.specs.declared.names.Who.{Who}
use Rattle.key_names.specs.declared.entries.PoolEntry.TheVariants.{Mix}
use Rattle.key_names.specs.declared.entries.CpuEntry.TheVariants.{Irq as IrqSample}
use Rattle.key_names.specs.declared.events.Event.{Event}
use Rattle.key_names.specs.Lanes.Book.{Book, Lists, LawfulLanes, Visit, lists_of, list_at}
use Rattle.key_names.specs.Callers.Calls.{Setting, Call, alone, vread_call, unbound, ending, setting_after_call}
use Rattle.key_names.specs.Callers.Effects.{Effect, CpuVisit, at_pool, at_cpu, effects_of, cpu_visit}
use Rattle.key_names.specs.declared.entries.CpuEntry.{CpuEntry}
use Rattle.key_names.specs.Kernel.FastPool.{FastPool, fast_after, makes_due, dump_bytes, dump_bits}
use Rattle.key_names.specs.Callers.Forms.{IrqForm}
use Rattle.key_names.specs.Callers.LineSamples.{IsQuiet, IsCrossing, SamplesConform}
use Rattle.key_names.specs.Lanes.Samples.{MakesDue, IsDump, DueAt, DumpAt, visits_of, fast_before, LawfulSamples}
use Rattle.key_names.specs.Texts.ScriptGrammar.{Script}
use Rattle.key_names.specs.Transcripts.SeenLine.{SeenLine}
use Rattle.key_names.specs.Callers.Meaning.{CallMeaning}
use Rattle.key_names.specs.Transcripts.IsTranscript.{HasLines, MarksConform, script_calls, start_setting, all_marks, lane_marks}
use Rattle.key_names.specs.Transcripts.IsTranscript.{PlacesConform, VisitsAre}
use Rattle.key_names.proofs.History.SortedVisits.{IsIn}
use Rattle.key_names.proofs.Unique.UniqueEvents.{entries_at}
use Rattle.key_names.proofs.Unique.UniqueMeanings.{OfCall}
use Rattle.judge_lines.specs.LaneFacts.{facts_of}
use Rattle.judge_log.specs.Gathered.{IsBookOf, AllMean}
use Rattle.judge_log.proofs.Tables.CallForms.{CallsForm, all_forms}
use Rattle.judge_log.proofs.Tables.CallLines.{to_calls, to_lines}
use Rattle.judge_log.proofs.Tables.IrqShapes.{IrqOnly, IrqDumps, irq_shape, crosses, sample_quiet, sample_due}
use Rattle.judge_log.proofs.Tables.IrqShapes.{CallsHere, calls_conform}
use Rattle.key_names.proofs.Samples.Lines.{Among, Apart, apart, each_among, each_in}
use Rattle.key_names.proofs.Samples.SampleLaw.{due_dump, due_at, dump_at, mix_at, due_in, dump_in_line}

-- the entries of CPU `c` determine its fast pool before each place
fast_before_is : (book : Book) (c place : ℕ) →
    fast_before (visits_of book c) place ≡ (facts_of (lists_of book)).fast c place
fast_before_is book c place = ap (λ es. fast_after (take place es)) (entries_at book.cpus c)

pub fast_is : (book : Book) (c place : ℕ) (v : Visit CpuEntry) → slice_get (visits_of book c) place ≡ Some v →
    fast_before (visits_of book c) place ≡ (facts_of (lists_of book)).fast c place
fast_is book c place v at = fast_before_is book c place

module _ (t : List (List SeenLine)) (book : Book) (apart : Apart t) (visits : VisitsAre book (all_marks t))
    (places : (lane : LaneId) → PlacesConform (lane_marks lane (all_marks t))) (samples : LawfulSamples book) where
  abbrev lists : Lists
  lists = lists_of book

  abbrev fast : ℕ → ℕ → FastPool
  fast = (facts_of lists).fast

  abbrev effects : SeenLine → List Effect
  effects line = effects_of lists line.steps

  abbrev Conforms : SeenLine → Type 0
  Conforms line = SamplesConform fast (effects line)

  module _ (line : SeenLine) (here : Among line t) (set : Setting) (v1 v2 : ℕ) where
    abbrev who : Who
    who = record { caller = line.caller; event = line.event; step = 0 }

    -- if `s` is the visit of a sample and `d` is the visit of a dump, they are different visits
    not_dump : (s d : CpuVisit) → s.entry ≡ IrqSample v1 v2 set.now → at_cpu s ≡ at_cpu d → IsDump d.entry → ⊥
    not_dump s d is same dump =
        let p : s ≡ d = cc in
        let q : d.entry ≡ IrqSample v1 v2 set.now = sym (ap (λ (v : CpuVisit). v.entry) p) ∙ is in subst IsDump q dump

    only_conforms : IrqOnly set v1 v2 (effects line) → Conforms line
    only_conforms f = go (makes_due (fast f.sample.cpu f.sample.place) set.now) refl
      where
        there : IsIn (at_cpu f.sample) (effects line)
        there = subst (IsIn (at_cpu f.sample)) (sym f.effects_are) (inl refl)

        no_dump : (v : CpuVisit) → IsDump v.entry → IsIn (at_cpu v) (at_cpu f.sample ∷ []) → ⊥
        no_dump v dump (inl same) = not_dump f.sample v f.samples same dump
        no_dump v dump (inr none) = none

        go : (b : Bool) → makes_due (fast f.sample.cpu f.sample.place) set.now ≡ b → Conforms line
        go false not_due = inl (subst (AllByRecursion (IsQuiet fast)) (sym f.effects_are)
            (sample_quiet (fast f.sample.cpu f.sample.place) f.sample.entry v1 v2 set.now f.samples not_due, tt))
        go true due_now =
            let due : DueAt (visits_of book f.sample.cpu) f.sample.place who =
            due_at t book fast (fast_is book) apart visits places line f.sample who here there refl refl
            (sample_due (fast f.sample.cpu f.sample.place) f.sample.entry v1 v2 set.now f.samples due_now) in
            let d = samples.due_is_dumped f.sample.cpu f.sample.place who due in
            let v : CpuVisit = cpu_visit lists f.sample.cpu d.0 d.2.visit.entry in
            let in_line : IsIn (at_cpu v) (effects line) =
            dump_in_line t book fast (fast_is book) apart visits places line f.sample.cpu d.0 who here refl refl d.2 in
            absurd (no_dump v d.2.dumps (subst (IsIn (at_cpu v)) f.effects_are in_line))

    dumps_conform : IrqDumps set v1 v2 (effects line) → Conforms line
    dumps_conform f = inr (record {
      sample = f.sample;
      dump = f.dump;
      mix = f.mix;
      rest = f.rest;
      effects_are = f.effects_are;
      due = the_sample.0;
      on = f.on;
      after = the_sample.1;
      dumps = is_dump;
      mixes = f.mixes ∙ (λ i. Mix (mixed.0 i) (mixed.1 i))
          ∙ ap (λ (p : FastPool). Mix (dump_bytes p) (dump_bits p)) (fast_before_is book f.dump.cpu f.dump.place);
      crosses = crosses f.rest f.crossed;
    })
      where
        is_dump : IsDump f.dump.entry
        is_dump = subst IsDump (sym f.dumps) tt

        there : (d : Effect) → IsIn d (at_cpu f.sample ∷ at_cpu f.dump ∷ at_pool f.mix ∷ f.rest) → IsIn d (effects line)
        there d among = subst (IsIn d) (sym f.effects_are) among

        dumped : DumpAt (visits_of book f.dump.cpu) f.dump.place who
        dumped = dump_at t book fast (fast_is book) apart visits places line f.dump who here (there (at_cpu f.dump) (inr (inl refl))) refl
            refl is_dump

        mixed : (f.text ≡ dump_bytes (fast_before (visits_of book f.dump.cpu) f.dump.place))
            × (f.bits ≡ dump_bits (fast_before (visits_of book f.dump.cpu) f.dump.place))
        mixed = samples.mix_is_dump f.dump.cpu f.dump.place f.mix.place who f.text f.bits dumped
            (mix_at t book fast (fast_is book) apart visits places line f.mix who f.text f.bits here
            (there (at_pool f.mix) (inr (inr (inl refl)))) refl refl f.mixes)

        -- in a line with a dump, let the visit `v` make a dump due at a place before the dump's place. Then `v` is the
        -- line's sample
        at_sample : (v : CpuVisit) → v.place < f.dump.place → MakesDue (fast v.cpu v.place) v.entry →
            IsIn (at_cpu v) (at_cpu f.sample ∷ at_cpu f.dump ∷ at_pool f.mix ∷ f.rest) →
            MakesDue (fast f.sample.cpu f.sample.place) f.sample.entry × (f.sample.place < f.dump.place)
        at_sample v lt due (inl same) =
            let p : v ≡ f.sample = cc in
            let P : CpuVisit → Type 0 = λ v. MakesDue (fast v.cpu v.place) v.entry × (v.place < f.dump.place) in
            subst P p (due, lt)
        at_sample v lt due (inr (inl same)) =
            let p : f.dump ≡ v = cc in
            absurd (due_dump (fast v.cpu v.place) v.entry due (subst (λ (v : CpuVisit). IsDump v.entry) p is_dump))
        at_sample v lt due (inr (inr (inl same))) = absurd (cc same)
        at_sample v lt due (inr (inr (inr rest))) =
            absurd (each_in IsCrossing (at_cpu v) f.rest (crosses f.rest f.crossed) rest)

        the_sample : MakesDue (fast f.sample.cpu f.sample.place) f.sample.entry × (f.sample.place < f.dump.place)
        the_sample =
            let d = samples.dump_is_due f.dump.cpu f.dump.place who dumped in
            let v : CpuVisit = cpu_visit lists f.dump.cpu d.0 d.2.visit.entry in
            let found = due_in t book fast (fast_is book) apart visits places line f.dump.cpu d.0 who here refl refl d.2 in
            at_sample v d.1 found.1 (subst (IsIn (at_cpu v)) f.effects_are found.0)

  abbrev Here : Setting → Event → SeenLine → Type 0
  Here set event line = Among line t

  irq_conforms : (set : Setting) (v1 v2 : ℕ) (line : SeenLine) → Among line t → IrqForm set v1 v2 (effects line) →
      Conforms line
  irq_conforms set v1 v2 line here f = elim (irq_shape set v1 v2 (effects line) f) [
    | inl only ↦ only_conforms line here set v1 v2 only
    | inr dumps ↦ dumps_conform line here set v1 v2 dumps
  ]

  all_here : (set : Setting) (calls : List Call) → AllByRecursion (OfCall (λ line. Among line t)) calls →
      CallsHere lists Here irq_conforms set calls
  all_here set [] among = tt
  all_here set (alone event line ∷ calls) among =
      (among.0, all_here (setting_after_call set (alone event line)) calls among.1)
  all_here set (vread_call n flags line acts ∷ calls) among = (tt, all_here set calls among.1)
  all_here set (unbound bound ∷ calls) among = (tt, all_here set calls among.1)
  all_here set (ending line ∷ calls) among = (tt, all_here set calls among.1)

  pub calls_sampled : (set : Setting) (calls : List Call) → AllByRecursion (OfCall (λ line. Among line t)) calls →
      CallsForm lists set calls → AllByRecursion (OfCall Conforms) calls
  calls_sampled set calls among form = calls_conform lists Here irq_conforms set calls (all_here set calls among) form

-- if the visits of a book are the marks of `t`, and the book's lanes and samples are lawful, the samples of each line
-- are lawful
pub all_sampled : (script : Script) (t : List (List SeenLine)) (book : Book) (ms : List (List CallMeaning)) →
    HasLines script t → MarksConform script t → IsBookOf script t book → AllMean script t book ms →
    LawfulLanes (lists_of book) → LawfulSamples book →
    AllByRecursion (AllByRecursion (λ line. SamplesConform (facts_of (lists_of book)).fast
    (effects_of (lists_of book) line.steps))) t
all_sampled script t book ms lines marks of means lawful samples =
    to_lines (λ line. SamplesConform (facts_of (lists_of book)).fast (effects_of (lists_of book) line.steps)) script.callers
    t lines
    (λ c lt. calls_sampled t book (apart script.callers t lines) of.visits marks.lanes samples
    (start_setting (script_calls script t) c) (list_at (script_calls script t) c)
    (to_calls (λ line. Among line t) script.callers t lines (each_among t) c)
    (all_forms script t book ms means lawful c lt))
