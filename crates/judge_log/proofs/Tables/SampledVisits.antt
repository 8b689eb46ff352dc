-- If lists match the rows of the lines, the book's samples are lawful exactly if the tables meet the conditions on
-- dumps.
use Rattle.std.proofs.Common.{◌≡◌, ℕ, ◌<◌, inl, inr, List, [], ◌∷◌, length, refl, sym, ap, ◌∙◌, subst, arith, Some, None, Option}
use Rattle.std.specs.Prelude.{◌↔◌, slice_get}
use Rattle.std.specs.List.{AllByRecursion}
use Rattle.std.proofs.lemmas.List.{length-map}
use Rattle.std.proofs.lemmas.Option.{slice_get_within, slice_get-get_or}
use Rattle.key_names.specs.declared.names.LaneId.{LaneId}
use Rattle.key_names.specs.declared.names.LaneId.TheVariants.{Pool as PoolLane, Cpu as CpuLane}
use Rattle.key_names.specs.declared.names.Step.TheVariants.{Visit as Marked}
use Rattle.key_names.specs.declared.entries.Taken.TheVariants.{User}
use Rattle.key_names.specs.declared.entries.PoolEntry.{PoolEntry}
use Rattle.key_names.specs.declared.entries.PoolEntry.TheVariants.{Bits as ReadBits}
use Rattle.key_names.specs.declared.entries.CpuEntry.{CpuEntry}
use Rattle.key_names.specs.declared.events.Event.{Event}
use Rattle.key_names.specs.declared.events.Event.TheVariants.{Irq}
use Rattle.key_names.specs.declared.events.InsideAct.{InsideAct}
use Rattle.key_names.specs.declared.events.InsideAct.TheVariants.{Wipe as WipeAct, Vread as VreadAct, Reseed as ReseedAct}
use Rattle.key_names.specs.Lanes.Book.{Book, Lists, LawfulLanes, lists_of, list_at, cpu_list}
use Rattle.key_names.specs.Callers.Calls.{Setting, Call, alone, vread_call, unbound, ending, BoundAct, setting_after_call}
use Rattle.key_names.specs.Callers.Effects.{Effect, at_pool, at_cpu, effect_or, effect_at, effects_of, pool_visit, cpu_visit}
use Rattle.key_names.specs.Callers.Forms.{Form, IrqForm}
use Rattle.key_names.specs.Callers.LineSamples.{IsQuiet, SamplesConform}
use Rattle.key_names.specs.Lanes.Samples.{LawfulSamples}
use Rattle.key_names.specs.Texts.ScriptGrammar.{Script}
use Rattle.key_names.specs.Transcripts.SeenLine.{SeenLine}
use Rattle.key_names.specs.Callers.History.{stamps_of}
use Rattle.key_names.specs.Callers.Meaning.{CallMeaning}
use Rattle.key_names.specs.Transcripts.IsTranscript.{HasLines, MarksConform, Rises, script_calls, start_setting, all_marks, lane_marks}
use Rattle.key_names.specs.Transcripts.IsTranscript.{MarkBy, PlacesConform, VisitsAre}
use Rattle.key_names.proofs.Transcripts.LaneCounts.{every_place, lane_length, lane_counts}
use Rattle.key_names.proofs.History.SortedVisits.{IsIn}
use Rattle.key_names.proofs.Unique.UniqueEvents.{entries_at}
use Rattle.key_names.proofs.Unique.UniqueMeanings.{OfCall}
use Rattle.judge_lines.specs.LaneFacts.{facts_of}
use Rattle.judge_lines.specs.declared.inferred.Neighbours.{Neighbours}
use Rattle.judge_lines.specs.declared.inferred.Sign.{Sign}
use Rattle.judge_lines.specs.declared.inferred.Sign.TheVariants.{Nowhere as nowhere}
use Rattle.judge_lines.specs.Inferred.{Telling, telling, act_telling, silent, ends, AllFill, first_sign, AllThere}
use Rattle.judge_log.specs.declared.inferred.InferredPool.TheVariants.{Dumped as dumped}
use Rattle.judge_log.specs.declared.inferred.InferredCpu.{InferredCpu}
use Rattle.judge_log.specs.Fills.{Fills}
use Rattle.judge_log.specs.Lawful.{Lawful, DueConforms, DumpsAt}
use Rattle.judge_log.specs.Tables.{Tables}
use Rattle.judge_log.specs.Gathered.{IsBookOf, AllMean}
use Rattle.judge_log.specs.Rows.{part_telling, LineRows, ActRows, CallRows, CallsRows, AllCallsRows}
use Rattle.judge_log.proofs.Tables.CallForms.{ActDone, CallForm, CallsForm, AllCallsForm, all_forms}
use Rattle.judge_log.proofs.Tables.CallLines.{to_calls, to_lines}
use Rattle.judge_log.proofs.Tables.DumpRows.{TablesConform, IsNoSample, quiet_tables, irq_tables}
use Rattle.judge_log.proofs.Tables.DumpRows.{only_samples, dumps_samples}
use Rattle.judge_log.proofs.Tables.RowsAfter.{RowAfter, rows_after, first_is}
use Rattle.judge_log.proofs.Tables.IrqShapes.{irq_shape, act_quiet, none_quiet, part_quiet}
use Rattle.judge_log.proofs.Tables.IrqShapes.{CallsHere, calls_conform}
use Rattle.key_names.proofs.Samples.Lines.{Among, apart, each_among, each_in, each_of, effect_in, LineOf, line_of}
use Rattle.judge_log.proofs.Tables.LineVisits.{line_there}
use Rattle.key_names.proofs.Transcripts.QuietForms.{quiet, end_quiet}
use Rattle.judge_log.proofs.Tables.RisingSteps.{LineRises, lines_rise, after}
use Rattle.judge_log.proofs.Tables.SampledLines.{all_sampled, fast_is}
use Rattle.key_names.proofs.Samples.SampleLaw.{samples_lawful}

module _ (inferred : Tables) (t : List (List SeenLine)) (book : Book) (visits : VisitsAre book (all_marks t))
    (places : (lane : LaneId) → PlacesConform (lane_marks lane (all_marks t))) where
  abbrev lists : Lists
  lists = lists_of book

  abbrev effects : SeenLine → List Effect
  effects line = effects_of lists line.steps

  abbrev Conforms : SeenLine → Type 0
  Conforms line = SamplesConform (facts_of lists).fast (effects line)

  abbrev Here : SeenLine → Type 0
  Here line = Among line t

  -- the places that a line visits have the line's rows and entries
  line_rows : (set : Setting) (tell : Neighbours → Telling) (line : SeenLine) → Here line →
      LineRows inferred set tell line.steps →
      AllFill (RowAfter inferred lists set tell (first_sign (effects line))) nowhere nowhere (effects line)
  line_rows set tell line here rows =
      let there : AllThere (effects line) = line_there t book visits line here in
      let P : Sign → Type 0 = λ first. AllFill (RowAfter inferred lists set tell first) nowhere nowhere (effects line) in
      subst P (first_is inferred lists set tell nowhere line.steps there)
      (rows_after inferred lists set tell _ nowhere nowhere line.steps there rows)

  -- ---- if the samples of each line are lawful, the tables meet the conditions on dumps

  abbrev LineTables : SeenLine → Type 0
  LineTables line = AllByRecursion (TablesConform inferred lists) (effects line)

  quiet_line : (set : Setting) (tell : Neighbours → Telling) (line : SeenLine) →
      ((neighbours : Neighbours) → IsNoSample (tell neighbours)) → Here line →
      AllByRecursion (IsQuiet (facts_of lists).fast) (effects line) → LineRows inferred set tell line.steps → LineTables line
  quiet_line set tell line plain here quiet rows =
      quiet_tables inferred lists set tell (first_sign (effects line)) plain nowhere nowhere (effects line) quiet
      (line_rows set tell line here rows)

  alone_tables : (set : Setting) (event : Event) (line : SeenLine) → Here line → Conforms line →
      Form set event (effects line) → LineRows inferred set (λ neighbours. telling set event) line.steps → LineTables line
  alone_tables set (Irq v1 v2) line here conforms form rows =
      irq_tables inferred lists set v1 v2 (effects line) (irq_shape set v1 v2 (effects line) form) conforms
      (line_rows set (λ neighbours. telling set (Irq v1 v2)) line here rows)
  alone_tables set event line here conforms form rows =
      quiet_line set (λ neighbours. telling set event) line (λ neighbours. tt) here (quiet (facts_of lists).fast set event (effects line) tt form) rows

  act_plain : (act : InsideAct) → IsNoSample (act_telling act)
  act_plain WipeAct = tt
  act_plain (VreadAct n) = tt
  act_plain ReseedAct = tt

  acts_tables : (set : Setting) (acts : List BoundAct) → AllByRecursion (λ bound. Here bound.line) acts →
      AllByRecursion (ActDone lists set) acts → AllByRecursion (ActRows inferred set) acts →
      AllByRecursion (λ bound. LineTables bound.line) acts
  acts_tables set [] here done rows = tt
  acts_tables set (bound ∷ acts) here done rows = (
    quiet_line set (λ neighbours. act_telling bound.act) bound.line (λ neighbours. act_plain bound.act) here.0 (act_quiet lists set bound done.0) rows.0,
    acts_tables set acts here.1 done.1 rows.1,
  )

  call_tables : (set : Setting) (call : Call) → OfCall Here call → OfCall Conforms call → CallForm lists set call →
      CallRows inferred set call → OfCall LineTables call
  call_tables set (alone event line) here conforms form rows = alone_tables set event line here conforms form rows
  call_tables set (vread_call n flags line acts) here conforms form rows = (
    quiet_line set (part_telling n) line (λ neighbours. tt) here.0
        (part_quiet (facts_of lists) set (User 32) (User n) (first_sign (effects line)) nowhere nowhere (effects line)
        form.0) rows.0,
    acts_tables set acts here.1 form.1 rows.1,
  )
  call_tables set (unbound bound) here conforms form rows =
      quiet_line set (λ neighbours. silent) bound.line (λ neighbours. tt) here (none_quiet lists bound.line form) rows
  call_tables set (ending line) here conforms form rows =
      quiet_line set (λ neighbours. ends) line (λ neighbours. tt) here (end_quiet (facts_of lists).fast (effects line) form) rows

  calls_tables : (set : Setting) (calls : List Call) → AllByRecursion (OfCall Here) calls →
      AllByRecursion (OfCall Conforms) calls → CallsForm lists set calls → CallsRows inferred set calls →
      AllByRecursion (OfCall LineTables) calls
  calls_tables set [] here conforms form rows = tt
  calls_tables set (call ∷ calls) here conforms form rows = (
    call_tables set call here.0 conforms.0 form.0 rows.0,
    calls_tables (setting_after_call set call) calls here.1 conforms.1 form.1 rows.1,
  )

  -- a fact that holds of each visit of each line holds of each place
  module _ (fills : Fills inferred lists) (tables : AllByRecursion (AllByRecursion LineTables) t) where
    abbrev At : LaneId → ℕ → Type 0
    At lane place = TablesConform inferred lists (effect_at lists lane place)

    mark_conforms : (by : MarkBy) → IsIn by (all_marks t) → At by.mark.lane by.mark.place
    mark_conforms by here =
        let f : LineOf t by = line_of t by here in
        let tables : LineTables f.line =
        each_in LineTables f.line f.among.0 (each_in (AllByRecursion LineTables) f.among.0 t tables f.among.1)
        f.among.2 in
        each_in (TablesConform inferred lists) (effect_at lists by.mark.lane by.mark.place) (effects f.line) tables
        (effect_in lists (Marked by.mark) f.line.steps f.step)

    place_conforms : (lane : LaneId) (place : ℕ) → place < lane_length book lane → At lane place
    place_conforms lane place lt =
        let counts = lane_counts book (all_marks t) places visits lane in
        every_place At lane (all_marks t) (places lane)
        (each_of (λ by. At by.mark.lane by.mark.place) (all_marks t) mark_conforms) place (omega arith)

    dues : (c k : ℕ) (row : InferredCpu) (e : CpuEntry) → slice_get (list_at inferred.cpus c) k ≡ Some row →
        slice_get (cpu_list lists c) k ≡ Some e → DueConforms ((facts_of lists).fast c k) row.dumps e
    dues c k row e is at =
        let count : length (cpu_list lists c) ≡ lane_length book (CpuLane c) =
        ap length (sym (entries_at book.cpus c)) ∙ length-map (list_at book.cpus c) _ in
        let within : k < length (cpu_list lists c) = slice_get_within (cpu_list lists c) k e at in
        let P : Option CpuEntry → Type 0 = λ o.
        TablesConform inferred lists (effect_or (λ e. at_cpu (cpu_visit lists c k e)) o) in
        subst P at (place_conforms (CpuLane c) k (omega arith)) row e is at

    mixes : (p cpu place : ℕ) → slice_get inferred.pool p ≡ Some (dumped cpu place) → DumpsAt lists cpu place
    mixes p cpu place is = go (slice_get lists.pool p) refl
      where
        within : p < length lists.pool
        within = let lt = slice_get_within inferred.pool p (dumped cpu place) is in let same = fills.pool_count in
            omega arith

        count : length lists.pool ≡ length book.pool
        count = length-map book.pool _

        go : (o : Option PoolEntry) → slice_get lists.pool p ≡ o → DumpsAt lists cpu place
        go None at = absurd (past at)
          where
            past : slice_get lists.pool p ≡ None → ⊥
            past at = let some = slice_get-get_or lists.pool p ReadBits within in cc
        go (Some e) at =
            let lt = within in let same = count in
            let P : Option PoolEntry → Type 0 = λ o.
            TablesConform inferred lists (effect_or (λ e. at_pool (pool_visit lists p e)) o) in
            subst P at (place_conforms PoolLane p (omega arith)) cpu place is

    pub tables_lawful : LawfulLanes lists → Lawful inferred lists
    tables_lawful lanes = record { lanes = lanes; dues = dues; mixes = mixes }

  -- ---- if the tables meet the conditions on dumps, the samples of each line are lawful

  module _ (fills : Fills inferred lists) (lawful : Lawful inferred lists) where
    record Ready (set : Setting) (event : Event) (line : SeenLine) : Type 0 where
      among : Among line t
      rows : LineRows inferred set (λ neighbours. telling set event) line.steps
      rises : Rises (stamps_of line.steps)

    irq_conforms : (set : Setting) (v1 v2 : ℕ) (line : SeenLine) → Ready set (Irq v1 v2) line →
        IrqForm set v1 v2 (effects line) → Conforms line
    irq_conforms set v1 v2 line ready form =
        let rows = line_rows set (λ neighbours. telling set (Irq v1 v2)) line ready.among ready.rows in
        elim (irq_shape set v1 v2 (effects line) form) [
          | inl f ↦ only_samples inferred lists set v1 v2 (effects line) fills lawful f rows
          | inr f ↦ dumps_samples inferred lists set v1 v2 (effects line) fills lawful f
              (after t book visits places line ready.among ready.rises f.sample f.dump (at_pool f.mix ∷ f.rest)
              f.effects_are f.on) rows
        ]

    all_ready : (set : Setting) (calls : List Call) → AllByRecursion (OfCall Here) calls → CallsRows inferred set calls →
        AllByRecursion LineRises calls → CallsHere lists Ready irq_conforms set calls
    all_ready set [] here rows rises = tt
    all_ready set (alone event line ∷ calls) here rows rises = (
      record { among = here.0; rows = rows.0; rises = rises.0 },
      all_ready (setting_after_call set (alone event line)) calls here.1 rows.1 rises.1,
    )
    all_ready set (vread_call n flags line acts ∷ calls) here rows rises =
        (tt, all_ready set calls here.1 rows.1 rises.1)
    all_ready set (unbound bound ∷ calls) here rows rises = (tt, all_ready set calls here.1 rows.1 rises.1)
    all_ready set (ending line ∷ calls) here rows rises = (tt, all_ready set calls here.1 rows.1 rises.1)

    pub calls_samples : (set : Setting) (calls : List Call) → AllByRecursion (OfCall Here) calls →
        CallsRows inferred set calls → AllByRecursion LineRises calls → CallsForm lists set calls →
        AllByRecursion (OfCall Conforms) calls
    calls_samples set calls here rows rises form =
        calls_conform lists Ready irq_conforms set calls (all_ready set calls here rows rises) form

-- ---- the samples of a whole transcript

module _ (script : Script) (t : List (List SeenLine)) (inferred : Tables) (lines : HasLines script t)
    (marks : MarksConform script t) (rows : AllCallsRows inferred (script_calls script t)) (book : Book)
    (ms : List (List CallMeaning)) (of : IsBookOf script t book) (means : AllMean script t book ms)
    (fills : Fills inferred (lists_of book)) (lanes : LawfulLanes (lists_of book)) where
  abbrev calls_at : ℕ → List Call
  calls_at c = list_at (script_calls script t) c

  abbrev start : ℕ → Setting
  start c = start_setting (script_calls script t) c

  forms : AllCallsForm (lists_of book) (script_calls script t)
  forms = all_forms script t book ms means lanes

  here : (c : ℕ) → AllByRecursion (OfCall (λ line. Among line t)) (calls_at c)
  here c = to_calls (λ line. Among line t) script.callers t lines (each_among t) c

  abbrev Sampled : SeenLine → Type 0
  Sampled line = SamplesConform (facts_of (lists_of book)).fast (effects_of (lists_of book) line.steps)

  to_tables : LawfulSamples book → Lawful inferred (lists_of book)
  to_tables samples =
      let conform : AllByRecursion (AllByRecursion Sampled) t =
      all_sampled script t book ms lines marks of means lanes samples in
      tables_lawful inferred t book of.visits marks.lanes fills
      (to_lines (λ line. AllByRecursion (TablesConform inferred (lists_of book)) (effects_of (lists_of book) line.steps))
      script.callers t lines
      (λ c lt. calls_tables inferred t book of.visits marks.lanes (start c) (calls_at c) (here c)
      (to_calls Sampled script.callers t lines conform c) (forms c lt) (rows c lt))) lanes

  from_tables : Lawful inferred (lists_of book) → LawfulSamples book
  from_tables lawful =
      samples_lawful t book (facts_of (lists_of book)).fast (fast_is book) (apart script.callers t lines) of.visits
      marks.lanes
      (to_lines Sampled script.callers t lines
      (λ c lt. calls_samples inferred t book of.visits marks.lanes fills lawful (start c) (calls_at c) (here c) (rows c lt)
      (lines_rise script t marks c lt) (forms c lt)))

  pub all_samples : LawfulSamples book ↔ Lawful inferred (lists_of book)
  all_samples = (to_tables, from_tables)
