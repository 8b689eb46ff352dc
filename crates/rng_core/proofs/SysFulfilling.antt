-- On each path of getrandom, the effects have the form of the system call and give its answer.
use Rattle.std.proofs.Common.{◌≡◌, ℕ, ◌<◌, List, [], ◌∷◌, ◌++◌, refl, sym, ap, ◌∙◌, subst, inl, inr, ◌⊎◌, ⊎_elim, arith, append-nil, Bool, true, false, cond}
use Rattle.std.specs.Prelude.{MatchBool, ◌==◌, ◌&&◌, not}
use Rattle.std.proofs.lemmas.Bool.{ne_eqb, eq-eqb}
use Rattle.key_names.specs.declared.entries.Taken.TheVariants.{User}
use Rattle.key_names.specs.declared.entries.BaseEntry.{BaseEntry}
use Rattle.key_names.specs.declared.entries.BaseEntry.TheVariants.{Wait, Resume, Interrupt}
use Rattle.key_names.specs.declared.events.Event.TheVariants.{Read}
use Rattle.key_names.specs.declared.events.Answer.TheVariants.{Ok as Done, Again, Invalid, Interrupted}
use Rattle.key_names.specs.Transcripts.SeenLine.{bytes_or_none}
use Rattle.key_names.specs.Kernel.Flags.{is_bad, is_nonblock, is_insecure}
use Rattle.key_names.specs.Callers.Calls.{Setting}
use Rattle.key_names.specs.Callers.Effects.{Effect, looked, at_pool, at_base, at_cpu, nothing_there}
use Rattle.key_names.specs.Callers.Forms.{Looked, LookedForm, SysForm, ReadForm, CpuReadForm, DrawForm, BaseOnly, WaitedInVain, Waited, PlainRead, RefilledRead}
use Rattle.key_names.specs.Callers.Answers.{system_answer, was_interrupted, is_interrupt, served_bytes}
use Rattle.rng_core.specs.Makes.{IsOutcomeOf, Serving}

all_true : (x y z : Bool) → (x && not z) ≡ true → y ≡ true → (x && (y && not z)) ≡ true
all_true true true z e f = e
all_true true false z e f = f
all_true false y z e f = e

not_all : (x y z : Bool) → y ≡ false → (x && (y && not z)) ≡ false
not_all true true z f = absurd (cc f)
not_all true false z f = refl
not_all false y z f = refl

not_both : (x y z : Bool) → (x && not z) ≡ false → (x && (y && not z)) ≡ false
not_both true true z e = e
not_both true false z e = refl
not_both false y z e = refl

pub sys_invalid : (set : Setting) (n flags : ℕ) → is_bad flags ≡ true →
    IsOutcomeOf set (Read n flags) Invalid (bytes_or_none []) []
sys_invalid set n flags bad = record {
  form = subst (λ (b : Bool). MatchBool b (◌≡◌ {A = List Effect} [] []) (Looked (LookedForm set n flags) [])) (sym bad)
      refl;
  answers = ap (λ (b : Bool). cond b Invalid (cond false Again (cond false Interrupted Done))) (sym bad);
  shows = refl;
}

module _ (set : Setting) (n flags g : ℕ) (good : is_bad flags ≡ false) where
  form_of : (rest effects : List Effect) → effects ≡ looked g ∷ rest → LookedForm set n flags g rest →
      SysForm set n flags effects
  form_of rest effects e h = subst (λ (b : Bool). MatchBool b (effects ≡ []) (Looked (LookedForm set n flags) effects))
      (sym good) (g, rest, e, h)

  answer_is : (rest effects : List Effect) (b c : Bool) → effects ≡ looked g ∷ rest →
      (g == 0 && (is_nonblock flags && not (is_insecure flags))) ≡ b → was_interrupted (looked g ∷ rest) ≡ c →
      cond b Again (cond c Interrupted Done) ≡ system_answer flags effects
  answer_is rest effects b c e is was = (λ i. cond (sym good i) Invalid
      (cond (sym is i) Again (cond (sym was i) Interrupted Done))) ∙ ap (system_answer flags) (sym e)

  -- the look found the core not ready, and the flags do not have `GRND_INSECURE`
  module _ (must : (g == 0 && not (is_insecure flags)) ≡ true) where
    waits_form : (rest : List Effect) → MatchBool (is_nonblock flags) (rest ≡ [])
        (WaitedInVain rest ⊎ Waited set n rest) → LookedForm set n flags g rest
    waits_form rest h = subst (λ (b : Bool). MatchBool b
        (MatchBool (is_nonblock flags) (rest ≡ []) (WaitedInVain rest ⊎ Waited set n rest))
        (MatchBool (n == 0) (rest ≡ []) (ReadForm set (User n) g rest))) (sym must) h

    pub sys_again : is_nonblock flags ≡ true → (effects : List Effect) → effects ≡ looked g ∷ [] →
        IsOutcomeOf set (Read n flags) Again (bytes_or_none []) effects
    sys_again now effects e = record {
      form = form_of [] effects e (waits_form [] (subst
          (λ (b : Bool). MatchBool b (◌≡◌ {A = List Effect} [] []) (WaitedInVain [] ⊎ Waited set n [])) (sym now) refl));
      answers = answer_is [] effects true false e (all_true (g == 0) (is_nonblock flags) (is_insecure flags) must now)
          refl;
      shows = ap (λ (d : List Effect). bytes_or_none (served_bytes d)) (sym e);
    }

    module _ (patient : is_nonblock flags ≡ false) where
      waited_form : (rest : List Effect) → WaitedInVain rest ⊎ Waited set n rest → LookedForm set n flags g rest
      waited_form rest h = waits_form rest (subst (λ (b : Bool). MatchBool b (rest ≡ [])
          (WaitedInVain rest ⊎ Waited set n rest)) (sym patient) h)

      not_again : (g == 0 && (is_nonblock flags && not (is_insecure flags))) ≡ false
      not_again = not_all (g == 0) (is_nonblock flags) (is_insecure flags) patient

      -- the effects are a look, a wait's entry, the entry that ended the wait, and then `rest`
      ended_is : (first second effects rest : List Effect) (e : BaseEntry) (w : BaseOnly Wait first)
          (x : BaseOnly e second) → effects ≡ looked g ∷ (first ++ (second ++ rest)) →
          effects ≡ looked g ∷ (at_base w.base ∷ at_base x.base ∷ rest)
      ended_is first second effects rest e w x is = is ∙ (λ i. looked g ∷ (w.effects_are i ++ (x.effects_are i ++ rest)))

      shows_none : (first second effects : List Effect) (e : BaseEntry) (w : BaseOnly Wait first)
          (x : Serving (BaseOnly e) [] second) → effects ≡ looked g ∷ (at_base w.base ∷ at_base x.form.base ∷ []) →
          bytes_or_none [] ≡ bytes_or_none (served_bytes effects)
      shows_none first second effects e w x is = ap bytes_or_none
          (x.bytes_are ∙ ap served_bytes x.form.effects_are ∙ ap served_bytes (sym is))

      pub sys_interrupted : (first second effects : List Effect) → BaseOnly Wait first →
          Serving (BaseOnly Interrupt) [] second → effects ≡ looked g ∷ (first ++ second) →
          IsOutcomeOf set (Read n flags) Interrupted (bytes_or_none []) effects
      sys_interrupted first second effects w x is = let e =
          ended_is first second effects [] Interrupt w x.form
          (is ∙ ap (λ (l : List Effect). looked g ∷ (first ++ l)) (sym (append-nil second))) in let rest : List Effect =
          at_base w.base ∷ at_base x.form.base ∷ [] in record {
            form = form_of rest effects e (waited_form rest (inl
                record {
                  wait = w.base;
                  interrupt = x.form.base;
                  effects_are = refl;
                  waits = w.is;
                  interrupts = x.form.is;
                }));
            answers = answer_is rest effects false true e not_again (ap is_interrupt x.form.is);
            shows = shows_none first second effects Interrupt w x e;
          }

      pub sys_waited_none : n ≡ 0 → (first second effects : List Effect) → BaseOnly Wait first →
          Serving (BaseOnly Resume) [] second → effects ≡ looked g ∷ (first ++ second) →
          IsOutcomeOf set (Read n flags) Done (bytes_or_none []) effects
      sys_waited_none none first second effects w x is = let e =
          ended_is first second effects [] Resume w x.form
          (is ∙ ap (λ (l : List Effect). looked g ∷ (first ++ l)) (sym (append-nil second))) in let rest : List Effect =
          at_base w.base ∷ at_base x.form.base ∷ [] in record {
            form = form_of rest effects e (waited_form rest (inr record {
              wait = w.base;
              resume = x.form.base;
              rest = [];
              effects_are = refl;
              waits = w.is;
              resumes = x.form.is;
              reads = subst (λ (b : Bool). MatchBool b (◌≡◌ {A = List Effect} [] []) (CpuReadForm set (User n) []))
                  (sym (eq-eqb n 0 none)) refl;
            }));
            answers = answer_is rest effects false false e not_again (ap is_interrupt x.form.is);
            shows = shows_none first second effects Resume w x e;
          }

      three : (a b c : Effect) (rest : List Effect) → was_interrupted (looked g ∷ a ∷ b ∷ c ∷ rest) ≡ false
      three (looked h) b c rest = refl
      three (at_pool v) b c rest = refl
      three (at_base v) (looked h) c rest = refl
      three (at_base v) (at_pool w) c rest = refl
      three (at_base v) (at_base w) c rest = refl
      three (at_base v) (at_cpu w) c rest = refl
      three (at_base v) nothing_there c rest = refl
      three (at_cpu v) b c rest = refl
      three nothing_there b c rest = refl

      cpu_read_on : (a b : Effect) (reads : List Effect) → CpuReadForm set (User n) reads →
          (was_interrupted (looked g ∷ a ∷ b ∷ reads) ≡ false)
          × (served_bytes (looked g ∷ a ∷ b ∷ reads) ≡ served_bytes reads)
      cpu_read_on a b reads h = ⊎_elim (λ (p : PlainRead set (User n) reads). subst
          (λ (z : List Effect). (was_interrupted (looked g ∷ a ∷ b ∷ z) ≡ false)
          × (served_bytes (looked g ∷ a ∷ b ∷ z) ≡ served_bytes z)) (sym p.effects_are)
          (three a b (looked p.look) (at_cpu p.cpu ∷ []), refl))
          (λ (p : RefilledRead set (User n) reads). subst
          (λ (z : List Effect). (was_interrupted (looked g ∷ a ∷ b ∷ z) ≡ false)
          × (served_bytes (looked g ∷ a ∷ b ∷ z) ≡ served_bytes z)) (sym p.effects_are)
          (three a b (looked p.look) (at_base p.base ∷ at_cpu p.cpu ∷ []), refl)) h

      pub sys_waited : 0 < n → (first second reads effects : List Effect) (bytes : List ℕ) → BaseOnly Wait first →
          BaseOnly Resume second → Serving (CpuReadForm set (User n)) bytes reads →
          effects ≡ looked g ∷ (first ++ (second ++ reads)) → IsOutcomeOf set (Read n flags) Done (bytes_or_none bytes)
          effects
      sys_waited some first second reads effects bytes w x r is = let e =
          ended_is first second effects reads Resume w x is in let rest : List Effect =
          at_base w.base ∷ at_base x.base ∷ reads in
          let on = cpu_read_on (at_base w.base) (at_base x.base) reads r.form in record {
            form = form_of rest effects e (waited_form rest (inr record {
              wait = w.base;
              resume = x.base;
              rest = reads;
              effects_are = refl;
              waits = w.is;
              resumes = x.is;
              reads = subst (λ (b : Bool). MatchBool b (reads ≡ []) (CpuReadForm set (User n) reads))
                  (sym (ne_eqb n 0 (λ z. omega arith))) r.form;
            }));
            answers = answer_is rest effects false false e not_again on.0;
            shows = ap bytes_or_none (r.bytes_are ∙ sym on.1 ∙ ap served_bytes (sym e));
          }

  -- the look found the core ready, or the flags have `GRND_INSECURE`
  module _ (takes : (g == 0 && not (is_insecure flags)) ≡ false) where
    takes_form : (rest : List Effect) → MatchBool (n == 0) (rest ≡ []) (ReadForm set (User n) g rest) →
        LookedForm set n flags g rest
    takes_form rest h = subst (λ (b : Bool). MatchBool b
        (MatchBool (is_nonblock flags) (rest ≡ []) (WaitedInVain rest ⊎ Waited set n rest))
        (MatchBool (n == 0) (rest ≡ []) (ReadForm set (User n) g rest))) (sym takes) h

    no_again : (g == 0 && (is_nonblock flags && not (is_insecure flags))) ≡ false
    no_again = not_both (g == 0) (is_nonblock flags) (is_insecure flags) takes

    pub sys_none : n ≡ 0 → (effects : List Effect) → effects ≡ looked g ∷ [] →
        IsOutcomeOf set (Read n flags) Done (bytes_or_none []) effects
    sys_none none effects e = record {
      form = form_of [] effects e (takes_form [] (subst
          (λ (b : Bool). MatchBool b (◌≡◌ {A = List Effect} [] []) (ReadForm set (User n) g [])) (sym (eq-eqb n 0 none))
          refl));
      answers = answer_is [] effects false false e no_again refl;
      shows = ap (λ (d : List Effect). bytes_or_none (served_bytes d)) (sym e);
    }

    read_on : (rest : List Effect) → ReadForm set (User n) g rest →
        (was_interrupted (looked g ∷ rest) ≡ false) × (served_bytes (looked g ∷ rest) ≡ served_bytes rest)
    read_on rest h = ⊎_elim (λ (d : (g ≡ 0) × DrawForm set (User n) rest). ⊎_elim
        (λ p. subst (λ (z : List Effect). (was_interrupted (looked g ∷ z) ≡ false)
        × (served_bytes (looked g ∷ z) ≡ served_bytes z)) (sym p.effects_are) (refl, refl))
        (λ p. subst (λ (z : List Effect). (was_interrupted (looked g ∷ z) ≡ false)
        × (served_bytes (looked g ∷ z) ≡ served_bytes z)) (sym p.effects_are) (refl, refl)) d.1)
        (λ (r : CpuReadForm set (User n) rest). ⊎_elim
        (λ p. subst (λ (z : List Effect). (was_interrupted (looked g ∷ z) ≡ false)
        × (served_bytes (looked g ∷ z) ≡ served_bytes z)) (sym p.effects_are) (refl, refl))
        (λ p. subst (λ (z : List Effect). (was_interrupted (looked g ∷ z) ≡ false)
        × (served_bytes (looked g ∷ z) ≡ served_bytes z)) (sym p.effects_are) (refl, refl)) r) h

    pub sys_read : 0 < n → (rest effects : List Effect) (bytes : List ℕ) → Serving (ReadForm set (User n) g) bytes rest →
        effects ≡ looked g ∷ rest → IsOutcomeOf set (Read n flags) Done (bytes_or_none bytes) effects
    sys_read some rest effects bytes r e = let on = read_on rest r.form in record {
      form = form_of rest effects e (takes_form rest (subst
          (λ (b : Bool). MatchBool b (rest ≡ []) (ReadForm set (User n) g rest)) (sym (ne_eqb n 0 (λ z. omega arith)))
          r.form));
      answers = answer_is rest effects false false e no_again on.0;
      shows = ap bytes_or_none (r.bytes_are ∙ sym on.1 ∙ ap served_bytes (sym e));
    }
