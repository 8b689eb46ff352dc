-- The samples of an interrupt. The interrupt's CPU visits find the fast pool that the caller knows. A dump, and the
-- visit of the pool that mixes it, satisfy `DumpConforms`.
use Rattle.std.proofs.Common.{◌≡◌, ℕ, ◌+◌, ◌<◌, ◌≤◌, inl, inr, false, List, [], ◌∷◌, ◌++◌, length, refl, sym, ap, ◌∙◌, subst, arith}
use Rattle.std.specs.Prelude.{IsTrue}
use Rattle.std.specs.List.{AllByRecursion}
use Rattle.key_names.specs.declared.entries.PoolEntry.{PoolEntry}
use Rattle.key_names.specs.declared.entries.PoolEntry.TheVariants.{Mix}
use Rattle.key_names.specs.declared.entries.BaseEntry.{BaseEntry}
use Rattle.key_names.specs.declared.entries.CpuEntry.{CpuEntry}
use Rattle.key_names.specs.declared.entries.CpuEntry.TheVariants.{Irq, Dump}
use Rattle.key_names.specs.declared.events.Event.TheVariants.{Irq as IrqEvent}
use Rattle.key_names.specs.declared.events.Answer.TheVariants.{Ok as Done}
use Rattle.key_names.specs.Transcripts.SeenLine.{no_data}
use Rattle.key_names.specs.Callers.Calls.{Setting as CallSetting}
use Rattle.key_names.specs.Lanes.PoolList.{Crossing, ready, early, none}
use Rattle.key_names.specs.Callers.Effects.{Effect, at_cpu, at_pool}
use Rattle.key_names.specs.Kernel.FastPool.{FastPool, makes_due, dump_bytes, dump_bits}
use Rattle.key_names.specs.Lanes.Samples.{MakesDue, IsDump}
use Rattle.key_names.specs.Callers.Forms.{Rooted, Cross, CpuOnly, CreditForm}
use Rattle.lane_table.specs.declared.view.Handed.{Handed}
use Rattle.lane_table.specs.declared.view.LaneEntry.{LaneEntry}
use Rattle.lane_table.specs.declared.view.LaneEntry.TheVariants.{Cpu}
use Rattle.lane_table.specs.declared.view.Visit.{Visit}
use Rattle.lane_table.specs.LaneNumbers.{index_of}
use Rattle.lane_table.specs.Meaning.{Model}
use Rattle.lane_table.specs.VisitsMet.{IsIntOfBatch}
use Rattle.lane_table.specs.Advances.{visited}
use Rattle.lane_table.specs.WorldRule.{known_of}
use Rattle.lane_table.proofs.Lists.Lists.{at_below}
use Rattle.rng_core.specs.declared.setting.Setting.{Setting}
use Rattle.rng_core.specs.Traces.{Moment, Visited}
use Rattle.rng_core.specs.Makes.{MakesIn, IsOutcomeOf}
use Rattle.key_names.specs.Callers.LineSamples.{EntryIsQuiet, IsMix, IsCrossing}
use Rattle.rng_core.specs.SampleEffects.{Sampled, DumpConforms, fast_in}
use Rattle.rng_core.proofs.Makings.{After}
use Rattle.rng_core.proofs.Finding.{found_cpu}

-- the steps for a threshold that a credit crossed mix no bytes into the pool, and visit no CPU
rooted : (set : CallSetting) (entry : ℕ → BaseEntry) (effects : List Effect) → Rooted set entry effects →
    AllByRecursion IsCrossing effects
rooted set entry effects f = subst (AllByRecursion IsCrossing) (sym f.effects_are)
    (subst (λ (e : PoolEntry). IsMix e → ⊥) (sym f.extracts) (λ k. k), (tt, tt))

crossed : (set : CallSetting) (to : Crossing) (effects : List Effect) → Cross set to effects → AllByRecursion IsCrossing effects
crossed set none effects f = subst (AllByRecursion IsCrossing) (sym f) tt
crossed set ready effects f = rooted set _ effects f
crossed set early effects (inl f) = rooted set _ effects f
crossed set early effects (inr f) = subst (AllByRecursion IsCrossing) (sym f.effects_are) (tt, tt)

-- the effects are one visit of CPU `cpu`, at `place` with the entry `e`, and the visit found the fast pool `fast`
pub record CpuMet (cpu place : ℕ) (e : CpuEntry) (fast : FastPool) (visits : ℕ → List Visit)
    (effects : List Effect) : Type 0 where
  pub only : CpuOnly cpu e effects
  pub at : only.visit.place ≡ place
  pub met : fast_in visits only.visit.cpu only.visit.place ≡ fast

pub did_met : (set : Setting) (m n : Moment) (cpu place : ℕ) (s : Model) (e : CpuEntry) (got : Handed) →
    IsIntOfBatch e → Visited set m n (cpu + 2) place s (Cpu e) got → MakesIn (CpuMet cpu place e s.cpu.fast) set m n
did_met set m n cpu place s e got fits x = record {
  made_steps = visited x.mark (Cpu e) ∷ [];
  recorded = x.recorded;
  conforms = λ lanes visits callers c.
      let f = found_cpu lanes visits callers set m n place s got c cpu e x fits in record {
        only = record { visit = f.visit; effects_are = ap (λ (d : Effect). d ∷ []) f.effect_is; on = f.on; is = f.is };
        at = f.at;
        met = f.fast;
      };
}

-- after a visit of `lane` at `place`, the pass knows the list of `lane` through that place
pub visited_below : (set : Setting) (m n : Moment) (lane place : ℕ) (s : Model) (e : LaneEntry) (got : Handed) →
    Visited set m n lane place s e got → place < length (known_of n.view lane)
visited_below set m n lane place s e got x =
    let low = at_below (known_of n.view (index_of x.mark.lane)) x.mark.place x.met.visit x.met.there in
    let on = ap (λ (l : ℕ). length (known_of n.view l)) x.lane_is in let at = x.place_is in omega arith

-- a dump at `place`, and the visit of the pool that mixes the dump's bytes, satisfy `DumpConforms`
pub dump_conforms : (set : CallSetting) (place from : ℕ) (fast : FastPool) (text : List ℕ) (bits : ℕ)
    (visits : ℕ → List Visit)
    (effects : List Effect) → from ≤ place → text ≡ dump_bytes fast → bits ≡ dump_bits fast →
    After (CpuMet set.cpu place (Dump set.now) fast visits) (CreditForm set (Mix text bits)) effects →
    DumpConforms set from visits effects
dump_conforms set place from fast text bits visits effects late bytes_are bits_are h =
    let only = h.before.only in let credit = h.following in record {
      dump = only.visit;
      mix = credit.pool;
      rest = credit.rest;
      effects_are = h.effects_are ∙ (λ i. only.effects_are i ++ credit.effects_are i);
      on = only.on;
      following = (let at = h.before.at in omega arith);
      dumps = only.is;
      mixes = credit.credits ∙ (λ i. Mix (bytes_are i) (bits_are i))
          ∙ ap (λ (f : FastPool). Mix (dump_bytes f) (dump_bits f)) (sym h.before.met);
      crosses = credit.crosses;
    }

-- the samples of an interrupt that made no dump due are correct
pub sample_quiet : (set : CallSetting) (v1 v2 place : ℕ) (fast : FastPool) (visits : ℕ → List Visit)
    (effects : List Effect) →
    makes_due fast set.now ≡ false → CpuMet set.cpu place (Irq v1 v2 set.now) fast visits effects →
    Sampled (IsOutcomeOf set (IrqEvent v1 v2) Done no_data) visits effects
sample_quiet set v1 v2 place fast visits effects quiet h = let only = h.only in record {
  holds = record {
    form = record {
      sample = only.visit;
      rest = [];
      effects_are = only.effects_are;
      on = only.on;
      samples = only.is;
      dumps = inl refl;
    };
    answers = refl;
    shows = refl;
  };
  samples = inl (subst (AllByRecursion _) (sym only.effects_are) (
    subst (EntryIsQuiet (fast_in visits only.visit.cpu only.visit.place)) (sym only.is)
        (ap (λ (f : FastPool). makes_due f set.now) h.met ∙ quiet),
    tt,
  ));
}

-- the samples of an interrupt that made a dump due are correct, if the dump follows
pub sample_dumped : (set : CallSetting) (v1 v2 place from : ℕ) (fast : FastPool) (visits : ℕ → List Visit)
    (effects : List Effect) → IsTrue (makes_due fast set.now) → place < from →
    After (CpuMet set.cpu place (Irq v1 v2 set.now) fast visits) (DumpConforms set from visits) effects →
    Sampled (IsOutcomeOf set (IrqEvent v1 v2) Done no_data) visits effects
sample_dumped set v1 v2 place from fast visits effects due before h =
    let only = h.before.only in let dump = h.following in
    let effects_are : effects ≡ at_cpu only.visit ∷ at_cpu dump.dump ∷ at_pool dump.mix ∷ dump.rest =
    h.effects_are ∙ (λ i. only.effects_are i ++ dump.effects_are i) in record {
      holds = record {
        form = record {
          sample = only.visit;
          rest = at_cpu dump.dump ∷ at_pool dump.mix ∷ dump.rest;
          effects_are = effects_are;
          on = only.on;
          samples = only.is;
          dumps = inr (record {
            dump = dump.dump;
            text = _;
            bits = _;
            rest = at_pool dump.mix ∷ dump.rest;
            effects_are = refl;
            on = dump.on;
            dumps = dump.dumps;
            mixes = record {
              pool = dump.mix;
              rest = dump.rest;
              effects_are = refl;
              credits = dump.mixes;
              crosses = dump.crosses;
            };
          });
        };
        answers = refl;
        shows = refl;
      };
      samples = inr (record {
        sample = only.visit;
        dump = dump.dump;
        mix = dump.mix;
        rest = dump.rest;
        effects_are = effects_are;
        due = subst (MakesDue (fast_in visits only.visit.cpu only.visit.place)) (sym only.is)
            (subst (λ (f : FastPool). IsTrue (makes_due f set.now)) (sym h.before.met) due);
        on = dump.on ∙ sym only.on;
        after = (let at = h.before.at in let late = dump.following in omega arith);
        dumps = subst IsDump (sym dump.dumps) tt;
        mixes = dump.mixes;
        crosses = crossed set _ dump.rest dump.crosses;
      });
    }
