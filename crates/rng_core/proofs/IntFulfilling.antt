-- An integer that a CPU serves out of a batch has its form, and completes its event.
use Rattle.std.proofs.Common.{◌≡◌, ◌≢◌, ℕ, ◌+◌, ◌/◌, ◌<◌, Bool, true, false, List, [], ◌∷◌, ◌++◌, Option, Some, None, refl, sym, ap, subst, ◌∙◌, inl, inr, ⊎_elim, arith}
use Rattle.std.proofs.lemmas.Bool.{ne_eqb}
use Rattle.key_names.specs.declared.entries.Taken.TheVariants.{Kernel}
use Rattle.key_names.specs.declared.entries.BaseEntry.{BaseEntry}
use Rattle.key_names.specs.declared.entries.BaseEntry.TheVariants.{Refill}
use Rattle.key_names.specs.declared.entries.CpuEntry.{CpuEntry}
use Rattle.key_names.specs.declared.entries.CpuEntry.TheVariants.{Int}
use Rattle.key_names.specs.declared.events.Answer.TheVariants.{Ok as Done}
use Rattle.key_names.specs.Kernel.Batches.{Fill, must_fill, batched_int}
use Rattle.key_names.specs.Callers.Calls.{Setting as FormSetting}
use Rattle.key_names.specs.Callers.Effects.{Effect, BaseVisit, CpuVisit, looked, at_base, at_cpu}
use Rattle.key_names.specs.Callers.Answers.{served_bytes}
use Rattle.key_names.specs.Transcripts.SeenLine.{bytes_or_none}
use Rattle.key_names.specs.Callers.Forms.{CpuOnly, DrawForm, CpuReadForm, ReadForm, BatchForm, RefilledBatch, IntForm, Looked}
use Rattle.int_batch.specs.BatchValue.{wants, filled, next_bytes}
use Rattle.int_batch.proofs.Fills.{wants-start, next_bytes-batched_int, IsBatchOf-filled}
use Rattle.key_names.specs.Kernel.Keystream.{keystream}
use Rattle.lane_table.specs.declared.view.Handed.{Handed}
use Rattle.lane_table.specs.declared.view.LaneEntry.TheVariants.{Base, Cpu}
use Rattle.lane_table.specs.Meaning.{CpuModel, Model, batch_of, batch_at, cpu_entered, generator_of}
use Rattle.cpu_gen.specs.CpuValue.{CpuValue}
use Rattle.lane_table.specs.VisitsMet.{FitsBatch, IsIntOfBatch}
use Rattle.lane_table.specs.Advances.{visited}
use Rattle.lane_table.specs.Advances as went
use Rattle.rng_core.specs.declared.setting.Setting.{Setting}
use Rattle.rng_core.specs.Traces.{Moment, TraceRecords, Visited}
use Rattle.rng_core.specs.Makes.{Makes, Serving, Served, IsOutcomeOf, setting_of}
use Rattle.rng_core.specs.Integers.{IsWidth, int_event}
use Rattle.rng_core.proofs.Finding.{found_base, found_cpu}
use Rattle.rng_core.proofs.Makings.{did_map, did_after_look, did_then, did_cpu, serving_looked}

-- a batch's last fill `f` decides whether the batch has to be filled at the generation `look`; its bytes do not matter
pub wants_of : (look width : ℕ) (f : Option Fill) (bytes : List ℕ) →
    wants look width (batch_of width f bytes) ≡ must_fill look width f
wants_of look width None bytes = wants-start look width
wants_of look width (Some fill) bytes = refl

-- a batch that was just filled has integers left, and serves the first of them
pub some_of : (width : ℕ) → IsWidth width → 0 < 96 / width
some_of width (inl e) = subst (λ (w : ℕ). 0 < 96 / w) (sym e) (omega arith)
some_of width (inr (inl e)) = subst (λ (w : ℕ). 0 < 96 / w) (sym e) (omega arith)
some_of width (inr (inr (inl e))) = subst (λ (w : ℕ). 0 < 96 / w) (sym e) (omega arith)
some_of width (inr (inr (inr e))) = subst (λ (w : ℕ). 0 < 96 / w) (sym e) (omega arith)

pub filled_bytes : (width look : ℕ) (key : List ℕ) → 0 < 96 / width →
    next_bytes width (filled (keystream key 32 96) look) ≡ batched_int key width 0
filled_bytes width look key some = let fill : Fill = record { key = None; place = 0; count = 0; look = look } in
    next_bytes-batched_int width key fill (filled (keystream key 32 96) look) (IsBatchOf-filled width key fill refl)
    some

-- an integer of `width` bytes does not change the batch of another width `w`
pub other_width : (w width look : ℕ) (refill : Option ℕ) (filled : Bool) (got : Handed) (c : CpuModel) → w ≢ width →
    batch_at w c ≡ batch_at w (cpu_entered (Int look refill width filled) got c)
other_width w width look refill true got c ne = rw (ne_eqb w width ne) refl
other_width w width look refill false got c ne = rw (ne_eqb w width ne) refl

pub generator_is : (key : List ℕ) (generation : ℕ) (got : Handed) → got.key ≡ key → got.generation ≡ generation →
    ◌≡◌ {A = CpuValue} (record { key = key; generation = generation }) (generator_of got)
generator_is key generation got ek eg = λ i. record { key = sym ek i; generation = sym eg i }

-- The effects of an integer have one of the integer's forms
pub did_batch : (set : Setting) (l m n : Moment) (g place width : ℕ) (fills : Bool) (bytes : List ℕ) →
    FitsBatch width → TraceRecords set l m (went.looked g ∷ []) →
    Served set m n (set.cpu + 2) place (Cpu (Int g None width fills)) bytes
    → Makes (Serving (BatchForm (setting_of set) width) bytes) set l n
did_batch set l m n g place width fills bytes fits a x =
    did_map set l n (λ effects h. let f = h.form.3 in record {
      form = record {
        look = h.form.0;
        cpu = f.visit;
        filled = fills;
        effects_are = h.form.2 ∙ ap (λ (rest : List Effect). looked h.form.0 ∷ rest) f.effects_are;
        on = f.on;
        serves = f.is;
      };
      bytes_are = h.bytes_are;
    }) (serving_looked {P = λ (look : ℕ). CpuOnly set.cpu (Int look None width fills)} set l m n g a
    (did_cpu set m n set.cpu place (Int g None width fills) bytes fits x))

-- the effects are one visit of the base (`BaseAt`) or of a CPU (`CpuAt`), with the entry `entry` at place `place`
record BaseAt (place : ℕ) (entry : BaseEntry) (effects : List Effect) : Type 0 where
  visit : BaseVisit
  effects_are : effects ≡ at_base visit ∷ []
  at : visit.place ≡ place
  is : visit.entry ≡ entry

record CpuAt (cpu place : ℕ) (entry : CpuEntry) (bytes : List ℕ) (effects : List Effect) : Type 0 where
  visit : CpuVisit
  effects_are : effects ≡ at_cpu visit ∷ []
  on : visit.cpu ≡ cpu
  at : visit.place ≡ place
  is : visit.entry ≡ entry
  serves : bytes ≡ visit.serves

did_base_at : (set : Setting) (m n : Moment) (place : ℕ) (s : Model) (e : BaseEntry) (got : Handed) →
    Visited set m n 1 place s (Base e) got → Makes (BaseAt place e) set m n
did_base_at set m n place s e got x = record {
  made_steps = visited x.mark (Base e) ∷ [];
  recorded = x.recorded;
  conforms = λ lanes visits callers c. let f = found_base lanes visits callers set m n place s got c e x in
      record { visit = f.visit; effects_are = ap (λ (d : Effect). d ∷ []) f.effect_is; at = f.at; is = f.is };
}

did_cpu_at : (set : Setting) (m n : Moment) (cpu place : ℕ) (e : CpuEntry) (bytes : List ℕ) → IsIntOfBatch e →
    Served set m n (cpu + 2) place (Cpu e) bytes → Makes (CpuAt cpu place e bytes) set m n
did_cpu_at set m n cpu place e bytes fits x = record {
  made_steps = visited x.visited.mark (Cpu e) ∷ [];
  recorded = x.visited.recorded;
  conforms = λ lanes visits callers c. let f = found_cpu lanes visits callers set m n place x.model x.got c cpu e
      x.visited fits in record {
        visit = f.visit;
        effects_are = ap (λ (d : Effect). d ∷ []) f.effect_is;
        on = f.on;
        at = f.at;
        is = f.is;
        serves = x.serves ∙ sym f.serves;
      };
}

pub did_refilled_batch : (set : Setting) (k l m n : Moment) (g base place width : ℕ) (s : Model) (got : Handed)
    (bytes : List ℕ) → FitsBatch width → TraceRecords set k l (went.looked g ∷ []) →
    Visited set l m 1 base s (Base (Refill set.cpu place)) got
    → Served set m n (set.cpu + 2) place (Cpu (Int g (Some base) width true)) bytes →
    Makes (Serving (RefilledBatch (setting_of set) width) bytes) set k n
did_refilled_batch set k l m n g base place width s got bytes fits a x y =
    did_map set k n (λ effects h. let b = h.holds.before in let v = h.holds.following in
    let is : effects ≡ looked g ∷ at_base b.visit ∷ at_cpu v.visit ∷ [] =
    h.effects_are ∙ ap (λ (rest : List Effect). looked g ∷ rest)
    (h.holds.effects_are ∙ (λ i. b.effects_are i ++ v.effects_are i)) in record {
      form = record {
        look = g;
        base = b.visit;
        cpu = v.visit;
        effects_are = is;
        on = v.on;
        refills = b.is ∙ ap (λ (p : ℕ). Refill set.cpu p) (sym v.at);
        serves = v.is ∙ ap (λ (p : ℕ). Int g (Some p) width true) (sym b.at);
      };
      bytes_are = v.serves ∙ ap served_bytes (sym is);
    }) (did_after_look set k l n g a (did_then set l m n (did_base_at set l m base s (Refill set.cpu place) got x)
    (did_cpu_at set m n set.cpu place (Int g (Some base) width true) bytes fits y)))

pub fits_batch : (width : ℕ) → IsWidth width → FitsBatch width
fits_batch width (inl e) = record { some = omega arith; within = omega arith }
fits_batch width (inr (inl e)) = record { some = omega arith; within = omega arith }
fits_batch width (inr (inr (inl e))) = record { some = omega arith; within = omega arith }
fits_batch width (inr (inr (inr e))) = record { some = omega arith; within = omega arith }

-- after a look that found the core not ready, a kernel read of `width` bytes has the form of an integer
pub int_unready : (set : FormSetting) (width g : ℕ) (rest : List Effect) → g ≡ 0 → ReadForm set (Kernel width) g rest →
    IntForm set width g rest
int_unready set width g rest zero h = ⊎_elim (λ (d : (g ≡ 0) × DrawForm set (Kernel width) rest). inl (zero, inl d.1))
    (λ (r : CpuReadForm set (Kernel width) rest). inl (zero, inr r)) h

at_width : (set : FormSetting) (bytes : List ℕ) (effects : List Effect) (width v : ℕ) → width ≡ v →
    (Serving (Looked (IntForm set v)) bytes effects → IsOutcomeOf set (int_event v) Done (bytes_or_none bytes) effects)
    → Serving (Looked (IntForm set width)) bytes effects → IsOutcomeOf set (int_event width) Done (bytes_or_none bytes)
    effects
at_width set bytes effects width v e k = subst (λ (w : ℕ). Serving (Looked (IntForm set w)) bytes effects →
    IsOutcomeOf set (int_event w) Done (bytes_or_none bytes) effects) (sym e) k

pub int_fulfils : (set : FormSetting) (width : ℕ) (bytes : List ℕ) (effects : List Effect) → IsWidth width →
    Serving (Looked (IntForm set width)) bytes effects → IsOutcomeOf set (int_event width) Done (bytes_or_none bytes)
    effects
int_fulfils set width bytes effects (inl e) h = at_width set bytes effects width 1 e
    (λ k. record { form = k.form; answers = refl; shows = ap bytes_or_none k.bytes_are }) h
int_fulfils set width bytes effects (inr (inl e)) h =
    at_width set bytes effects width 2 e (λ k. record {
      form = k.form;
      answers = refl;
      shows = ap bytes_or_none k.bytes_are;
    }) h
int_fulfils set width bytes effects (inr (inr (inl e))) h =
    at_width set bytes effects width 4 e (λ k. record {
      form = k.form;
      answers = refl;
      shows = ap bytes_or_none k.bytes_are;
    }) h
int_fulfils set width bytes effects (inr (inr (inr e))) h =
    at_width set bytes effects width 8 e (λ k. record {
      form = k.form;
      answers = refl;
      shows = ap bytes_or_none k.bytes_are;
    }) h
