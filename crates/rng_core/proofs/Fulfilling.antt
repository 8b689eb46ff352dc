-- On each path of a read, a reseed or a tick, the call's effects complete the call's event.
use Rattle.std.proofs.Common.{◌≡◌, ℕ, zero, suc, ◌<◌, ◌≤◌, List, [], ◌∷◌, length, Some, None, refl, sym, ap, ◌∙◌, subst, inl, inr, arith, Bool, cond}
use Rattle.std.proofs.lemmas.Bool.{ne_eqb}
use Rattle.std.specs.Prelude.{MatchBool, ◌==◌}
use Rattle.key_names.specs.declared.entries.Taken.TheVariants.{User, Kernel}
use Rattle.key_names.specs.declared.entries.BaseEntry.TheVariants.{Reseed as Reseeded, Tick as Ticked}
use Rattle.key_names.specs.declared.events.Event.TheVariants.{Kread, Uread, Reseed, Tick}
use Rattle.key_names.specs.declared.events.Answer.TheVariants.{Ok as Done, NoData, Fired, Idle}
use Rattle.key_names.specs.Transcripts.SeenLine.{bytes_or_none, no_data}
use Rattle.key_names.specs.Callers.Calls.{Setting}
use Rattle.key_names.specs.Callers.Effects.{Effect, looked}
use Rattle.key_names.specs.Callers.Forms.{Looked, ReadForm, Rooted, BaseOnly}
use Rattle.key_names.specs.Callers.Answers.{answer_of}
use Rattle.rng_core.specs.Makes.{IsOutcomeOf, Serving}

match_some : (P Q : Type 0) (n : ℕ) → 0 < n → Q → MatchBool (n == 0) P Q
match_some P Q n h q = subst (λ (b : Bool). MatchBool b P Q) (sym (ne_eqb n 0 (λ e. omega arith))) q

pub kernel_none : (set : Setting) (buf : List ℕ) → length buf ≡ 0 →
    IsOutcomeOf set (Kread (length buf)) Done (bytes_or_none buf) []
kernel_none set [] e = record { form = refl; answers = refl; shows = refl }
kernel_none set (b ∷ bs) e = absurd (omega arith)

pub user_none : (set : Setting) (buf : List ℕ) → length buf ≡ 0 →
    IsOutcomeOf set (Uread (length buf)) Done (bytes_or_none buf) []
user_none set [] e = record { form = refl; answers = refl; shows = refl }
user_none set (b ∷ bs) e = absurd (omega arith)

pub kernel_some : (set : Setting) (n m : ℕ) (bytes : List ℕ) (effects : List Effect) → m ≡ n → 0 < n →
    Serving (Looked (ReadForm set (Kernel m))) bytes effects → IsOutcomeOf set (Kread n) Done (bytes_or_none bytes) effects
kernel_some set n m bytes effects e some h = record {
  form = match_some _ _ n some
      (subst (λ (k : ℕ). Looked (ReadForm set (Kernel k)) effects) e h.form);
  answers = refl;
  shows = ap bytes_or_none h.bytes_are;
}

pub user_some : (set : Setting) (n m : ℕ) (bytes : List ℕ) (effects : List Effect) → m ≡ n → 0 < n →
    Serving (Looked (ReadForm set (User m))) bytes effects → IsOutcomeOf set (Uread n) Done (bytes_or_none bytes) effects
user_some set n m bytes effects e some h = record {
  form = match_some _ _ n some
      (subst (λ (k : ℕ). Looked (ReadForm set (User k)) effects) e h.form);
  answers = refl;
  shows = ap bytes_or_none h.bytes_are;
}

pub reseed_unready : (set : Setting) (g : ℕ) (effects : List Effect) → g ≡ 0 → effects ≡ looked g ∷ [] →
    IsOutcomeOf set Reseed NoData no_data effects
reseed_unready set zero effects z e = record {
  form = (zero, [], e, inl (refl, refl));
  answers = ap (answer_of Reseed) (sym e);
  shows = refl;
}
reseed_unready set (suc g) effects z e = absurd (omega arith)

pub reseed_ready : (set : Setting) (g : ℕ) (effects rest : List Effect) → 1 ≤ g → effects ≡ looked g ∷ rest →
    Rooted set (λ (r : ℕ). Reseeded r set.now) rest → IsOutcomeOf set Reseed Done no_data effects
reseed_ready set g effects rest one e h = record {
  form = (g, rest, e, inr (one, h));
  answers = ap (λ (b : Bool). cond b NoData Done) (sym (ne_eqb g 0 (λ z. omega arith))) ∙ ap (answer_of Reseed) (sym e);
  shows = refl;
}

pub tick_idle : (set : Setting) (effects : List Effect) → BaseOnly (Ticked set.now None) effects →
    IsOutcomeOf set Tick Idle no_data effects
tick_idle set effects h = record { form = inl h; answers = ap (answer_of Tick) (sym h.effects_are); shows = refl }

pub tick_fired : (set : Setting) (effects : List Effect) → Rooted set (λ (r : ℕ). Ticked set.now (Some r)) effects →
    IsOutcomeOf set Tick Fired no_data effects
tick_fired set effects h = record { form = inr h; answers = ap (answer_of Tick) (sym h.effects_are); shows = refl }
