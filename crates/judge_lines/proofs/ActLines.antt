-- The laws of forms, rows and inferred entries hold for the acts inside a `vread`. If lists are lawful, the effects of
-- any steps fit them.
use Rattle.std.proofs.Common.{◌≡◌, ℕ, [], ◌∷◌, refl, ap, Option, Some, None, take, slice_get}
use Rattle.key_names.specs.declared.names.LaneId.{LaneId}
use Rattle.key_names.specs.declared.names.LaneId.TheVariants.{Pool as PoolLane, Base as BaseLane, Cpu as CpuLane}
use Rattle.key_names.specs.declared.names.Step.{Step}
use Rattle.key_names.specs.declared.names.Step.TheVariants.{Look, Visit as Marked}
use Rattle.key_names.specs.declared.entries.PoolEntry.{PoolEntry}
use Rattle.key_names.specs.declared.entries.BaseEntry.{BaseEntry}
use Rattle.key_names.specs.declared.entries.CpuEntry.{CpuEntry}
use Rattle.key_names.specs.declared.events.InsideAct.TheVariants.{Wipe as WipeAct, Vread as VreadAct}
use Rattle.key_names.specs.declared.events.InsideAct.TheVariants.{Reseed as ReseedAct}
use Rattle.key_names.specs.Lanes.PoolList.{pool_after}
use Rattle.key_names.specs.Lanes.BaseList.{BaseMayCome, base_step, base_start}
use Rattle.key_names.specs.Lanes.CpuList.{CpuMayCome, cpu_step, cpu_start}
use Rattle.key_names.specs.Lanes.Book.{cpu_list}
use Rattle.key_names.specs.Callers.Effects.{at_pool, at_base, at_cpu, pool_visit, base_visit, cpu_visit}
use Rattle.key_names.specs.Callers.Effects.{effect_or, effect_at, effect_of}
use Rattle.key_names.proofs.Lists.Growing.{may_at}
use Rattle.judge_lines.specs.LaneFacts.{EffectFits, facts_of, crossed_by}
use Rattle.judge_lines.specs.Laws.{LawfulListsFit, ActHasForm, ActIsInferred, ActRowIsForm}
use Rattle.judge_lines.specs.Laws.{ActFormIsRow}
use Rattle.judge_lines.specs.Inferred.{silent}
use Rattle.judge_lines.proofs.InferredReads.{system_inferred}
use Rattle.judge_lines.proofs.InferredEvents.{none_inferred, reseed_line}
use Rattle.judge_lines.proofs.RowReads.{system_rows, no_more}
use Rattle.judge_lines.proofs.RowEvents.{reseed_row}
use Rattle.judge_lines.proofs.FormRows.{system_form, none_row, reseed}

pub lists_fit : LawfulListsFit
lists_fit lists lawful [] = tt
lists_fit lists lawful (step ∷ steps) = (one step, lists_fit lists lawful steps)
  where
    lane : (l : LaneId) (place : ℕ) → EffectFits (facts_of lists) (effect_at lists l place)
    lane PoolLane place = go (slice_get lists.pool place) refl
      where
        go : (o : Option PoolEntry) → slice_get lists.pool place ≡ o →
            EffectFits (facts_of lists) (effect_or (λ e. at_pool (pool_visit lists place e)) o)
        go None is = tt
        go (Some e) is = ap (λ o. crossed_by (pool_after (take place lists.pool)) o) is
    lane BaseLane place = go (slice_get lists.base place) refl
      where
        go : (o : Option BaseEntry) → slice_get lists.base place ≡ o →
            EffectFits (facts_of lists) (effect_or (λ e. at_base (base_visit lists place e)) o)
        go None is = tt
        go (Some e) is = (may_at (BaseMayCome lists.pool) base_step base_start lists.base place e lawful.base is).fits
    lane (CpuLane c) place = go (slice_get (cpu_list lists c) place) refl
      where
        go : (o : Option CpuEntry) → slice_get (cpu_list lists c) place ≡ o →
            EffectFits (facts_of lists) (effect_or (λ e. at_cpu (cpu_visit lists c place e)) o)
        go None is = tt
        go (Some e) is =
            (may_at (CpuMayCome lists.base c) (cpu_step lists.base c) cpu_start (cpu_list lists c) place e
            (lawful.cpus c) is).fits

    one : (step : Step) → EffectFits (facts_of lists) (effect_of lists step)
    one (Look g) = tt
    one (Marked mark) = lane mark.lane mark.place

pub act_form : ActHasForm
act_form set WipeAct m is = ap (λ x. x.effects) is
act_form set (VreadAct n) m is = is.0
act_form set ReseedAct m is = is.0

pub act_inferred : ActIsInferred
act_inferred c set WipeAct ds form fit = none_inferred c set silent ds form
act_inferred c set (VreadAct n) ds form fit = system_inferred c set n 0 ds form fit
act_inferred c set ReseedAct ds form fit = reseed_line c set ds form

pub act_row : ActRowIsForm
act_row c set WipeAct ds fill row = no_more set.cpu ds row
act_row c set (VreadAct n) ds fill row = system_rows c set n 0 ds fill row
act_row c set ReseedAct ds fill row = reseed_row c set ds fill row

pub act_is_row : ActFormIsRow
act_is_row c set WipeAct ds form fit = none_row c set ds form
act_is_row c set (VreadAct n) ds form fit = system_form c set n 0 ds form fit
act_is_row c set ReseedAct ds form fit = reseed c set ds form
