-- The effects of steps stay the same if the lists of vgetrandom states are replaced by others.
use Rattle.std.proofs.Common.{◌≡◌, ℕ, true, false, Option, Some, None, List, map, take, refl, sym, subst, ap, ◌∙◌}
use Rattle.std.specs.Prelude.{if◌then◌else◌, slice_get}
use Rattle.std.specs.List.{fold}
use Rattle.key_names.specs.declared.names.LaneId.{LaneId}
use Rattle.key_names.specs.declared.names.LaneId.TheVariants.{Pool as PoolLane, Base as BaseLane, Cpu as CpuLane}
use Rattle.key_names.specs.declared.names.Step.{Step}
use Rattle.key_names.specs.declared.names.Step.TheVariants.{Look, Visit as Marked}
use Rattle.key_names.specs.declared.entries.CpuEntry.{CpuEntry}
use Rattle.key_names.specs.declared.entries.CpuEntry.TheVariants.{Read, Int, Irq, Dump, Prepare, Online}
use Rattle.key_names.specs.declared.entries.VEntry.{VEntry}
use Rattle.key_names.specs.Kernel.Keystream.{keystream}
use Rattle.key_names.specs.Kernel.Batches.{Fill, batched_int}
use Rattle.key_names.specs.Lanes.CpuList.{CpuState, cpu_after, cpu_step, cpu_erases, base_refill_of}
use Rattle.key_names.specs.Keys.KeyInUse.{zero_key, call_value_or, cpu_value_in_use, cpu_value_step, cpu_value_after}
use Rattle.key_names.specs.Keys.KeyInUse.{cpu_value_at, cpu_used_at}
use Rattle.key_names.specs.Lanes.Book.{Lists, LawfulLanes, cpu_list}
use Rattle.key_names.specs.Callers.Calls.{Setting, Call}
use Rattle.key_names.specs.Callers.Effects.{Effect, at_cpu, effect_or, effect_at, effect_of, effects_of, cpu_visit, cpu_serves, int_of}
use Rattle.key_names.specs.Transcripts.IsTranscript.{CallerMeans, EachLine}
use Rattle.key_names.specs.Callers.Meaning.{CallMeaning}
use Rattle.judge_log.specs.Tables.{Tables}
use Rattle.judge_log.specs.Fills.{Fills}
use Rattle.judge_log.specs.Lawful.{Lawful}
use Rattle.judge_lines.specs.Inferred.{FillsCpu}

or_same : {E : Type 0} (f g : E → Effect) → ((e : E) → f e ≡ g e) → (o : Option E) → effect_or f o ≡ effect_or g o
or_same f g each None = refl
or_same f g each (Some e) = each e

module _ (lists : Lists) (states : List (List (List VEntry))) where
  abbrev pub aside : Lists
  aside = record lists { callers = states }

  call_same : (o : Option ℕ) (value : List ℕ) → call_value_or aside o value ≡ call_value_or lists o value
  call_same None value = refl
  call_same (Some b) value = refl

  step_same : (value : List ℕ) (e : CpuEntry) → cpu_value_step aside value e ≡ cpu_value_step lists value e
  step_same value e =
      ap (λ (v : List ℕ). if cpu_erases e then keystream v 0 32 else v) (call_same (base_refill_of e) value)

  after_same : (es : List CpuEntry) → cpu_value_after aside es ≡ cpu_value_after lists es
  after_same es = λ i. fold (λ value e. step_same value e i) zero_key es

  at_same : (o : Option CpuEntry) (value value' : List ℕ) → value ≡ value' →
      cpu_value_at aside value o ≡ cpu_value_at lists value' o
  at_same None value value' is = is
  at_same (Some e) value value' is =
      call_same (base_refill_of e) value ∙ ap (λ (v : List ℕ). cpu_value_in_use lists e v) is

  used_same : (c k : ℕ) → cpu_used_at aside c k ≡ cpu_used_at lists c k
  used_same c k = at_same (slice_get (cpu_list lists c) k) (cpu_value_after aside (take k (cpu_list lists c)))
      (cpu_value_after lists (take k (cpu_list lists c))) (after_same (take k (cpu_list lists c)))

  int_same : (c width : ℕ) (o : Option Fill) → int_of aside c width o ≡ int_of lists c width o
  int_same c width None = refl
  int_same c width (Some fill) = ap (λ key. batched_int key width fill.count) (used_same c fill.place)

  serves_same : (c : ℕ) (fills : ℕ → Option Fill) (key : List ℕ) (e : CpuEntry) →
      cpu_serves aside c fills key e ≡ cpu_serves lists c fills key e
  serves_same c fills key (Read look refill taken) = refl
  serves_same c fills key (Int look refill width true) = refl
  serves_same c fills key (Int look refill width false) = int_same c width (fills width)
  serves_same c fills key (Irq v1 v2 now) = refl
  serves_same c fills key (Dump now) = refl
  serves_same c fills key Prepare = refl
  serves_same c fills key Online = refl

  visit_same : (c k : ℕ) (e : CpuEntry) → cpu_visit aside c k e ≡ cpu_visit lists c k e
  visit_same c k e =
      let before : CpuState = cpu_after lists.base c (take k (cpu_list lists c)) in
      let old : List ℕ = cpu_value_in_use aside e (cpu_value_after aside (take k (cpu_list lists c))) in
      let used : old ≡ cpu_value_in_use lists e (cpu_value_after lists (take k (cpu_list lists c))) =
      call_same (base_refill_of e) (cpu_value_after aside (take k (cpu_list lists c)))
      ∙ ap (λ (v : List ℕ). cpu_value_in_use lists e v) (after_same (take k (cpu_list lists c))) in
      let serves : cpu_serves aside c before.fills old e
      ≡ cpu_serves lists c before.fills (cpu_value_in_use lists e (cpu_value_after lists (take k (cpu_list lists c)))) e =
      serves_same c before.fills old e ∙ ap (λ (key : List ℕ). cpu_serves lists c before.fills key e) used in
      λ i. record {
        cpu = c;
        place = k;
        before = before;
        after = cpu_step lists.base c before e;
        entry = e;
        serves = serves i;
      }

  lane_same : (lane : LaneId) (place : ℕ) → effect_at aside lane place ≡ effect_at lists lane place
  lane_same PoolLane place = refl
  lane_same BaseLane place = refl
  lane_same (CpuLane c) place = or_same (λ (e : CpuEntry). at_cpu (cpu_visit aside c place e))
      (λ (e : CpuEntry). at_cpu (cpu_visit lists c place e)) (λ e. ap at_cpu (visit_same c place e))
      (slice_get (cpu_list lists c) place)

  effect_same : (step : Step) → effect_of aside step ≡ effect_of lists step
  effect_same (Look g) = refl
  effect_same (Marked mark) = lane_same mark.lane mark.place

  pub effects_same : (steps : List Step) → effects_of aside steps ≡ effects_of lists steps
  effects_same steps = λ i. map (λ step. effect_same step i) steps

  pub lanes_aside : LawfulLanes lists → LawfulLanes aside
  lanes_aside l = record {
    forward = record { base = l.forward.base; cpus = l.forward.cpus };
    extractions = l.extractions;
    refills = l.refills;
  }

  pub fills_aside : (inferred : Tables) → Fills inferred lists → Fills inferred aside
  fills_aside inferred f = record {
    pool_count = f.pool_count;
    base_count = f.base_count;
    cpus_count = f.cpus_count;
    cpu_count = f.cpu_count;
    pool = f.pool;
    base = f.base;
    cpu = λ c k t e is there. subst (FillsCpu t.entry) (sym (visit_same c k e)) (f.cpu c k t e is there);
  }

  pub lawful_aside : (inferred : Tables) → Lawful inferred lists → Lawful inferred aside
  lawful_aside inferred l = record {
    lanes = lanes_aside l.lanes;
    dues = l.dues;
    mixes = λ p cpu place is. (let at = l.mixes p cpu place is in record { now = at.now; is = at.is });
  }

  pub means_aside : (set : Setting) (calls : List Call) (ms : List CallMeaning) → CallerMeans lists set calls ms →
      CallerMeans aside set calls ms
  means_aside set calls ms m = record {
    follows = m.follows;
    effects = subst (λ (f : List Step → List Effect). EachLine (λ line m. f line.steps ≡ m.effects) calls ms)
        (sym (λ i steps. effects_same steps i)) m.effects;
  }
