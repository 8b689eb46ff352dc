-- A text begins with at most one lane that no digit follows. The same holds of visits and of steps.
use Rattle.std.proofs.Common.{◌≡◌, ℕ, ◌-◌, ◌^◌, ◌<◌, ◌≤◌, ◌⊎◌, inl, inr, List, [], ◌∷◌, ◌++◌, length, refl, sym, ap, subst, ◌∙◌, append_assoc, arith}
use Rattle.std.specs.Prelude.{decimal}
use Rattle.std.specs.List.{flat_map, AllByRecursion}
use Rattle.key_names.specs.declared.names.LaneId.{LaneId}
use Rattle.key_names.specs.declared.names.LaneId.TheVariants.{Pool, Base, Cpu}
use Rattle.key_names.specs.declared.names.Mark.{Mark}
use Rattle.key_names.specs.declared.names.Step.{Step}
use Rattle.key_names.specs.declared.names.Step.TheVariants.{Look, Visit}
use Rattle.key_names.specs.Texts.TranscriptGrammar.{lane_text, mark_text, step_text, steps_text, LaneFits, MarkFits, StepFits}
use Rattle.event_script.specs.ValueFronts.{EndsNumber, IsFront, NoFront}
use Rattle.transcript_text.specs.Reading.{StepsFit}
use Rattle.transcript_text.proofs.StepLists.{next_text, steps_text-cons}
use Rattle.transcript_text.proofs.StepTexts.{StepsRead, after_read, heads, no_mark_after}

-- ---- a lane at the front of a text

only_pool : (rest : List ℕ) (y : LaneId) (other : List ℕ) → 112 ∷ rest ≡ lane_text y ++ other → (y ≡ Pool) ×
    (rest ≡ other)
unfolding lane_text
only_pool rest Pool other e = (refl, cc)
only_pool rest Base other e = absurd (omega (arith, heads 112 98 rest other e))
only_pool rest (Cpu n) other e = absurd (omega (arith, heads 112 99 rest (decimal n ++ other) e))

only_base : (rest : List ℕ) (y : LaneId) (other : List ℕ) → 98 ∷ rest ≡ lane_text y ++ other → (y ≡ Base) ×
    (rest ≡ other)
unfolding lane_text
only_base rest Pool other e = absurd (omega (arith, heads 98 112 rest other e))
only_base rest Base other e = (refl, cc)
only_base rest (Cpu n) other e = absurd (omega (arith, heads 98 99 rest (decimal n ++ other) e))

only_cpu : (rest : List ℕ) (y : LaneId) (other : List ℕ) → 99 ∷ rest ≡ lane_text y ++ other
    → (n : ℕ) × (y ≡ Cpu n) × (rest ≡ decimal n ++ other)
unfolding lane_text
only_cpu rest Pool other e = absurd (omega (arith, heads 99 112 rest other e))
only_cpu rest Base other e = absurd (omega (arith, heads 99 98 rest other e))
only_cpu rest (Cpu n) other e = (n, refl, cc)

pub pool_front : (text rest : List ℕ) → text ≡ 112 ∷ rest → IsFront lane_text LaneFits text Pool rest
unfolding lane_text
pool_front text rest is =
    record { fits = tt; whole = is; only = λ y other fits after e. only_pool rest y other (sym is ∙ e) }

pub base_front : (text rest : List ℕ) → text ≡ 98 ∷ rest → IsFront lane_text LaneFits text Base rest
unfolding lane_text
base_front text rest is =
    record { fits = tt; whole = is; only = λ y other fits after e. only_base rest y other (sym is ∙ e) }

pub cpu_front : (text following rest : List ℕ) (cpu : ℕ) → text ≡ 99 ∷ following
    → IsFront decimal (λ n. n ≤ 2 ^ 32 - 1) following cpu rest → IsFront lane_text LaneFits text (Cpu cpu) rest
unfolding lane_text
cpu_front text following rest cpu is f = record {
  fits = omega (arith, f.fits);
  whole = is ∙ ap (λ (x : List ℕ). 99 ∷ x) f.whole;
  only = λ y other fits after e.
      let p = only_cpu following y other (sym is ∙ e) in
      let small : p.0 < 2 ^ 32 = subst LaneFits p.1 fits in
      let same = f.only p.0 other (omega arith) after p.2 in
      (p.1 ∙ ap Cpu same.0, same.1);
}

pub no_cpu_front : (text following : List ℕ) → text ≡ 99 ∷ following → NoFront decimal (λ n. n ≤ 2 ^ 32 - 1) following
    → NoFront lane_text LaneFits text
no_cpu_front text following is none y other fits after e =
    let p = only_cpu following y other (sym is ∙ e) in
    let small : p.0 < 2 ^ 32 = subst LaneFits p.1 fits in
    none p.0 other (omega arith) after p.2

lane_letter : (y : LaneId) (other : List ℕ)
    → (rest : List ℕ) × ((lane_text y ++ other ≡ 112 ∷ rest) ⊎ (lane_text y ++ other ≡ 98 ∷ rest)
    ⊎ (lane_text y ++ other ≡ 99 ∷ rest))
unfolding lane_text
lane_letter Pool other = (other, inl refl)
lane_letter Base other = (other, inr (inl refl))
lane_letter (Cpu n) other = (decimal n ++ other, inr (inr refl))

pub no_lane_front : (text : List ℕ) → ((rest : List ℕ) → text ≡ 112 ∷ rest → ⊥)
    → ((rest : List ℕ) → text ≡ 98 ∷ rest → ⊥) → ((rest : List ℕ) → text ≡ 99 ∷ rest → ⊥)
    → NoFront lane_text LaneFits text
no_lane_front text p b c y other fits after e =
    let letter = lane_letter y other in
    elim letter.1 [
      | inl is ↦ p letter.0 (e ∙ is)
      | inr more ↦ elim more [ inl is ↦ b letter.0 (e ∙ is) | inr is ↦ c letter.0 (e ∙ is) ]
    ]

-- ---- a visit of a lane at the front of a text

mark_split : (y : Mark) (other : List ℕ)
    → mark_text y ++ other ≡ lane_text y.lane ++ 58 ∷ (decimal y.place ++ 64 ∷ (decimal y.stamp ++ other))
mark_split y other = simp append_assoc

pub no_mark_lane : (text : List ℕ) → NoFront lane_text LaneFits text → NoFront mark_text MarkFits text
no_mark_lane text none y other fits after e = none y.lane _ fits.lane (λ d. omega arith) (e ∙ mark_split y other)

-- ---- a step at the front of a text

only_look : (digits : List ℕ) (y : Step) (other : List ℕ) → 126 ∷ digits ≡ step_text y ++ other
    → (n : ℕ) × (y ≡ Look n) × (digits ≡ decimal n ++ other)
unfolding step_text
only_look digits (Look n) other e = (n, refl, cc)
only_look digits (Visit mark) other e = absurd (no_mark_after digits other mark e)

pub look_front : (text digits rest : List ℕ) (n : ℕ) → text ≡ 126 ∷ digits
    → IsFront decimal (λ m. m ≤ 2 ^ 63 - 1) digits n rest → IsFront step_text StepFits text (Look n) rest
unfolding step_text
look_front text digits rest n is f = record {
  fits = omega (arith, f.fits);
  whole = is ∙ ap (λ (x : List ℕ). 126 ∷ x) f.whole;
  only = λ y other fits after e.
      let p = only_look digits y other (sym is ∙ e) in
      let small : p.0 < 2 ^ 63 = subst StepFits p.1 fits in
      let same = f.only p.0 other (omega arith) after p.2 in
      (p.1 ∙ ap Look same.0, same.1);
}

pub no_look_front : (text digits : List ℕ) → text ≡ 126 ∷ digits → NoFront decimal (λ m. m ≤ 2 ^ 63 - 1) digits
    → NoFront step_text StepFits text
no_look_front text digits is none y other fits after e =
    let p = only_look digits y other (sym is ∙ e) in
    let small : p.0 < 2 ^ 63 = subst StepFits p.1 fits in
    none p.0 other (omega arith) after p.2

only_visit : (text : List ℕ) → ((r : List ℕ) → text ≡ 126 ∷ r → ⊥) → (y : Step) (other : List ℕ)
    → text ≡ step_text y ++ other → (mark : Mark) × (y ≡ Visit mark) × (text ≡ mark_text mark ++ other)
unfolding step_text
only_visit text not (Look n) other e = absurd (not (decimal n ++ other) e)
only_visit text not (Visit mark) other e = (mark, refl, e)

pub visit_front : (text rest : List ℕ) (mark : Mark) → ((r : List ℕ) → text ≡ 126 ∷ r → ⊥)
    → IsFront mark_text MarkFits text mark rest → IsFront step_text StepFits text (Visit mark) rest
unfolding step_text
visit_front text rest mark not f = record {
  fits = f.fits;
  whole = f.whole;
  only = λ y other fits after e.
      let p = only_visit text not y other e in
      let same = f.only p.0 other (subst StepFits p.1 fits) after p.2 in
      (p.1 ∙ ap Visit same.0, same.1);
}

pub no_visit_front : (text : List ℕ) → ((r : List ℕ) → text ≡ 126 ∷ r → ⊥) → NoFront mark_text MarkFits text
    → NoFront step_text StepFits text
no_visit_front text not none y other fits after e =
    let p = only_visit text not y other e in none p.0 other (subst StepFits p.1 fits) after p.2

pub no_empty_front : (text : List ℕ) → text ≡ [] → NoFront step_text StepFits text
no_empty_front text none =
    let some : (b : ℕ) (rest : List ℕ) → text ≡ b ∷ rest → ⊥ = λ b rest e. omega (arith, ap length none, ap length e) in
    no_visit_front text (some 126) (no_mark_lane text (no_lane_front text (some 112) (some 98) (some 99)))

-- ---- several steps, with commas between them

-- `rest` begins with a step, which is followed by a comma or by the end of `rest`
record BeginsSo (rest : List ℕ) : Type 0 where
  step : Step
  other : List ℕ
  fits : StepFits step
  whole : rest ≡ step_text step ++ other
  after : (other ≡ []) ⊎ ((r : List ℕ) × (other ≡ 44 ∷ r))

begins_after : (rest : List ℕ) (following : List Step) → 0 < length following → AllByRecursion StepFits following
    → rest ≡ steps_text following → BeginsSo rest
begins_after rest [] some fits e = absurd (omega arith)
begins_after rest (s ∷ []) some fits e = record {
  step = s;
  other = [];
  fits = fits.0;
  whole = e ∙ steps_text-cons s [];
  after = inl refl;
}
begins_after rest (s ∷ t ∷ following) some fits e = record {
  step = s;
  other = flat_map next_text (t ∷ following);
  fits = fits.0;
  whole = e ∙ steps_text-cons s (t ∷ following);
  after = inr (step_text t ++ flat_map next_text following, refl);
}

ends_step : (other : List ℕ) → (other ≡ []) ⊎ ((r : List ℕ) × (other ≡ 44 ∷ r)) → EndsNumber other
ends_step other after =
    elim after [
      | inl none ↦ subst EndsNumber (sym none) tt
      | inr some ↦ subst EndsNumber (sym some.1) (λ d. omega arith)
    ]

module _ (text rest : List ℕ) (read : List Step) (so_far : StepsRead text read rest) where
  begins_next : (all : List Step) → StepsFit all → text ≡ steps_text all → BeginsSo rest
  begins_next all fits e =
      let b = after_read text rest read all so_far fits e in begins_after rest b.following b.some b.fits b.spelt

  -- if `rest`, the text after the steps read so far, begins with no step, the whole text spells no steps
  pub no_next_front : NoFront step_text StepFits rest → (all : List Step) → StepsFit all → text ≡ steps_text all → ⊥
  no_next_front none all fits e =
      let b = begins_next all fits e in none b.step b.other b.fits (ends_step b.other b.after) b.whole

  -- if a byte other than a comma comes after the next step, the whole text spells no steps
  pub no_comma : (step : Step) (following : List ℕ) → IsFront step_text StepFits rest step following → (following ≡ [] → ⊥)
      → ((r : List ℕ) → following ≡ 44 ∷ r → ⊥) → (all : List Step) → StepsFit all → text ≡ steps_text all → ⊥
  no_comma step following f some other all fits e =
      let b = begins_next all fits e in
      let same = f.only b.step b.other b.fits (ends_step b.other b.after) b.whole in
      elim b.after [ inl none ↦ some (same.1 ∙ none) | inr comma ↦ other comma.0 (same.1 ∙ comma.1) ]
