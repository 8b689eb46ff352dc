-- An interrupt's line has a sample alone, or a sample and a dump. No other line makes a dump due.
use Rattle.std.proofs.Common.{◌≡◌, ℕ, ◌⊎◌, inl, inr, true, false, List, [], ◌∷◌, sym, ap, ◌∙◌, subst}
use Rattle.std.specs.Prelude.{⊤}
use Rattle.std.specs.List.{AllByRecursion}
use Rattle.key_names.specs.declared.entries.Taken.{Taken}
use Rattle.key_names.specs.declared.entries.Taken.TheVariants.{User}
use Rattle.key_names.specs.declared.entries.PoolEntry.TheVariants.{Mix, Extract}
use Rattle.key_names.specs.declared.entries.BaseEntry.{BaseEntry}
use Rattle.key_names.specs.declared.entries.CpuEntry.{CpuEntry}
use Rattle.key_names.specs.declared.entries.CpuEntry.TheVariants.{Irq as IrqSample, Dump}
use Rattle.key_names.specs.declared.events.Event.{Event}
use Rattle.key_names.specs.declared.events.Event.TheVariants.{Irq, Reseed}
use Rattle.key_names.specs.declared.events.InsideAct.{InsideAct}
use Rattle.key_names.specs.declared.events.InsideAct.TheVariants.{Wipe as WipeAct, Vread as VreadAct, Reseed as ReseedAct}
use Rattle.key_names.specs.Lanes.PoolList.{Crossing, crossing, ready, early, none}
use Rattle.key_names.specs.Lanes.Book.{Lists}
use Rattle.key_names.specs.Callers.Calls.{Setting, Call, alone, vread_call, unbound, ending, BoundAct, setting_after_call}
use Rattle.key_names.specs.Callers.Effects.{Effect, PoolVisit, BaseVisit, CpuVisit, looked, at_pool, at_base, at_cpu, nothing_there, effects_of}
use Rattle.key_names.specs.Kernel.FastPool.{FastPool, makes_due}
use Rattle.key_names.specs.Callers.Forms.{Form, Rooted, Cross, DumpForm, IrqForm}
use Rattle.key_names.specs.Callers.LineSamples.{EntryIsQuiet, IsQuiet, IsCrossing, IsMix, SamplesConform}
use Rattle.key_names.specs.Lanes.Samples.{MakesDue}
use Rattle.key_names.specs.Transcripts.SeenLine.{SeenLine}
use Rattle.key_names.proofs.Unique.UniqueMeanings.{OfCall}
use Rattle.judge_lines.specs.LaneFacts.{LaneFacts, facts_of}
use Rattle.judge_lines.specs.Laws.{ActForm}
use Rattle.judge_lines.specs.Inferred.{AllFill, FillsPart, FillsCpu, cpu_read_inferred, taken_by, first_sign}
use Rattle.judge_lines.specs.declared.inferred.Sign.{Sign}
use Rattle.judge_lines.specs.declared.inferred.Sign.TheVariants.{Saw as saw, InPool as in_pool, InBase as in_base, InCpu as in_cpu, Nowhere as nowhere}
use Rattle.judge_log.proofs.Tables.CallForms.{ActDone, CallForm, CallsForm}
use Rattle.key_names.proofs.Transcripts.QuietForms.{quiet, end_quiet, sys}

-- ---- a read makes no dump due

module _ (c : LaneFacts) (set : Setting) (sooner taken : Taken) (first : Sign) where
  entry_quiet : (v : CpuVisit) (e : CpuEntry) → v.entry ≡ e → EntryIsQuiet (c.fast v.cpu v.place) e →
      IsQuiet c.fast (at_cpu v)
  entry_quiet v e is quiet = subst (EntryIsQuiet (c.fast v.cpu v.place)) (sym is) quiet

  read_quiet : (v : CpuVisit) (t : Taken) (a b : Sign) → FillsCpu (cpu_read_inferred t a b) v → IsQuiet c.fast (at_cpu v)
  read_quiet v t a (in_base place) is = entry_quiet v _ is tt
  read_quiet v t a (saw g) is = entry_quiet v _ is tt
  read_quiet v t a (in_pool place) is = entry_quiet v _ is tt
  read_quiet v t a (in_cpu cpu place) is = entry_quiet v _ is tt
  read_quiet v t a nowhere is = entry_quiet v _ is tt

  pub part_quiet : (a b : Sign) (ds : List Effect) → AllFill (FillsPart c set sooner taken first) a b ds →
      AllByRecursion (IsQuiet c.fast) ds
  part_quiet a b [] fill = tt
  part_quiet a b (looked g ∷ ds) fill = (tt, part_quiet b (saw g) ds fill.1)
  part_quiet a b (at_pool v ∷ ds) fill = (tt, part_quiet b (in_pool v.place) ds fill.1)
  part_quiet a b (at_base v ∷ ds) fill = (tt, part_quiet b (in_base v.place) ds fill.1)
  part_quiet a b (at_cpu v ∷ ds) fill = (
    read_quiet v (taken_by sooner taken (first_sign ds)) a b fill.0,
    part_quiet b (in_cpu v.cpu v.place) ds fill.1,
  )
  part_quiet a b (nothing_there ∷ ds) fill = (tt, part_quiet b nowhere ds fill.1)

-- ---- the steps of a line after a credit of the pool

pub record RootAndBase (rest : List Effect) : Type 0 where
  pub pool : PoolVisit
  pub base : BaseVisit
  pub no_mix : IsCrossing (at_pool pool)
  pub are : rest ≡ at_pool pool ∷ at_base base ∷ []

pub record BaseAlone (rest : List Effect) : Type 0 where
  pub base : BaseVisit
  pub are : rest ≡ at_base base ∷ []

abbrev pub Crossed : List Effect → Type 0
Crossed rest = (rest ≡ []) ⊎ (BaseAlone rest ⊎ RootAndBase rest)

pub crosses : (rest : List Effect) → Crossed rest → AllByRecursion IsCrossing rest
crosses rest (inl empty) = subst (AllByRecursion IsCrossing) (sym empty) tt
crosses rest (inr (inl f)) = subst (AllByRecursion IsCrossing) (sym f.are) (tt, tt)
crosses rest (inr (inr f)) = subst (AllByRecursion IsCrossing) (sym f.are) (f.no_mix, (tt, tt))

extract_crosses : (v : PoolVisit) (hw : List ℕ) (place : ℕ) → v.entry ≡ Extract hw place → IsCrossing (at_pool v)
extract_crosses v hw place is mix = subst IsMix is mix

rooted_crossed : (set : Setting) (entry : ℕ → BaseEntry) (ds : List Effect) → Rooted set entry ds → Crossed ds
rooted_crossed set entry ds f = inr (inr (record {
  pool = f.pool;
  base = f.base;
  no_mix = extract_crosses f.pool set.hw f.base.place f.extracts;
  are = f.effects_are;
}))

cross_crossed : (set : Setting) (x : Crossing) (ds : List Effect) → Cross set x ds → Crossed ds
cross_crossed set none ds is = inl is
cross_crossed set ready ds f = rooted_crossed set _ ds f
cross_crossed set early ds (inl f) = rooted_crossed set _ ds f
cross_crossed set early ds (inr f) = inr (inl (record { base = f.base; are = f.effects_are }))

-- ---- the line of an interrupt

-- the steps of an interrupt with a dump
pub record IrqDumps (set : Setting) (v1 v2 : ℕ) (ds : List Effect) : Type 0 where
  pub sample : CpuVisit
  pub dump : CpuVisit
  pub mix : PoolVisit
  pub rest : List Effect
  pub effects_are : ds ≡ at_cpu sample ∷ at_cpu dump ∷ at_pool mix ∷ rest
  pub samples : sample.entry ≡ IrqSample v1 v2 set.now
  pub on : dump.cpu ≡ sample.cpu
  pub dumps : dump.entry ≡ Dump set.now
  pub text : List ℕ
  pub bits : ℕ
  pub mixes : mix.entry ≡ Mix text bits
  pub crossed : Crossed rest

-- the steps of an interrupt without a dump
pub record IrqOnly (set : Setting) (v1 v2 : ℕ) (ds : List Effect) : Type 0 where
  pub sample : CpuVisit
  pub effects_are : ds ≡ at_cpu sample ∷ []
  pub samples : sample.entry ≡ IrqSample v1 v2 set.now

pub irq_shape : (set : Setting) (v1 v2 : ℕ) (ds : List Effect) → IrqForm set v1 v2 ds →
    IrqOnly set v1 v2 ds ⊎ IrqDumps set v1 v2 ds
irq_shape set v1 v2 ds f = go f.dumps
  where
    go : (f.rest ≡ []) ⊎ DumpForm set f.rest → IrqOnly set v1 v2 ds ⊎ IrqDumps set v1 v2 ds
    go (inl empty) = inl (record {
      sample = f.sample;
      effects_are = f.effects_are ∙ ap (λ r. at_cpu f.sample ∷ r) empty;
      samples = f.samples;
    })
    go (inr d) = inr (record {
      sample = f.sample;
      dump = d.dump;
      mix = d.mixes.pool;
      rest = d.mixes.rest;
      effects_are = f.effects_are
          ∙ ap (λ r. at_cpu f.sample ∷ r) (d.effects_are ∙ ap (λ r. at_cpu d.dump ∷ r) d.mixes.effects_are);
      samples = f.samples;
      on = d.on ∙ sym f.on;
      dumps = d.dumps;
      text = d.text;
      bits = d.bits;
      mixes = d.mixes.credits;
      crossed = cross_crossed set (crossing d.mixes.pool.before.bits d.mixes.pool.after.bits) d.mixes.rest
          d.mixes.crosses;
    })

pub sample_quiet : (f : FastPool) (e : CpuEntry) (v1 v2 now : ℕ) → e ≡ IrqSample v1 v2 now →
    makes_due f now ≡ false → EntryIsQuiet f e
sample_quiet f e v1 v2 now is not_due = subst (EntryIsQuiet f) (sym is) not_due

pub sample_due : (f : FastPool) (e : CpuEntry) (v1 v2 now : ℕ) → e ≡ IrqSample v1 v2 now → makes_due f now ≡ true →
    MakesDue f e
sample_due f e v1 v2 now is due = subst (MakesDue f) (sym is) due

-- ---- if the samples of interrupts are lawful, the samples of all calls are lawful

module _ (lists : Lists) where
  abbrev c : LaneFacts
  c = facts_of lists

  abbrev effects : SeenLine → List Effect
  effects line = effects_of lists line.steps

  abbrev Conforms : SeenLine → Type 0
  Conforms line = SamplesConform c.fast (effects line)

  abbrev Quiet : SeenLine → Type 0
  Quiet line = AllByRecursion (IsQuiet c.fast) (effects line)

  pub none_quiet : (line : SeenLine) → effects line ≡ [] → Quiet line
  none_quiet line empty = subst (AllByRecursion (IsQuiet c.fast)) (sym empty) tt

  act_form_quiet : (set : Setting) (act : InsideAct) (line : SeenLine) → ActForm set act (effects line) → Quiet line
  act_form_quiet set WipeAct line form = none_quiet line form
  act_form_quiet set (VreadAct n) line form = sys c.fast set n 0 (effects line) form
  act_form_quiet set ReseedAct line form = quiet c.fast set Reseed (effects line) tt form

  pub act_quiet : (set : Setting) (bound : BoundAct) → ActDone lists set bound → Quiet bound.line
  act_quiet set bound (inl form) = act_form_quiet set bound.act bound.line form
  act_quiet set bound (inr empty) = none_quiet bound.line empty

  acts_conform : (set : Setting) (acts : List BoundAct) → AllByRecursion (ActDone lists set) acts →
      AllByRecursion (λ bound. Conforms bound.line) acts
  acts_conform set [] done = tt
  acts_conform set (bound ∷ acts) done = (inl (act_quiet set bound done.0), acts_conform set acts done.1)

  module _ (Here : Setting → Event → SeenLine → Type 0)
      (irq : (set : Setting) (v1 v2 : ℕ) (line : SeenLine) → Here set (Irq v1 v2) line →
      IrqForm set v1 v2 (effects line) → Conforms line) where
    -- if a call is a single event, `Here` holds of its setting, event and line; nothing is required of other calls
    abbrev pub CallHere : Setting → Call → Type 0
    CallHere set (alone event line) = Here set event line
    CallHere set (vread_call n flags line acts) = ⊤
    CallHere set (unbound bound) = ⊤
    CallHere set (ending line) = ⊤

    abbrev pub CallsHere : Setting → List Call → Type 0
    CallsHere set [] = ⊤
    CallsHere set (call ∷ calls) = CallHere set call × CallsHere (setting_after_call set call) calls

    alone_conforms : (set : Setting) (event : Event) (line : SeenLine) → Here set event line →
        Form set event (effects line) → Conforms line
    alone_conforms set (Irq v1 v2) line here form = irq set v1 v2 line here form
    alone_conforms set event line here form = inl (quiet c.fast set event (effects line) tt form)

    call_conforms : (set : Setting) (call : Call) → CallHere set call → CallForm lists set call → OfCall Conforms call
    call_conforms set (alone event line) here form = alone_conforms set event line here form
    call_conforms set (vread_call n flags line acts) here form = (
      inl (part_quiet c set (User 32) (User n) (first_sign (effects line)) nowhere nowhere (effects line) form.0),
      acts_conform set acts form.1,
    )
    call_conforms set (unbound bound) here form = inl (none_quiet bound.line form)
    call_conforms set (ending line) here form = inl (end_quiet c.fast (effects line) form)

    pub calls_conform : (set : Setting) (calls : List Call) → CallsHere set calls → CallsForm lists set calls →
        AllByRecursion (OfCall Conforms) calls
    calls_conform set [] here form = tt
    calls_conform set (call ∷ calls) here form =
        (call_conforms set call here.0 form.0, calls_conform (setting_after_call set call) calls here.1 form.1)
