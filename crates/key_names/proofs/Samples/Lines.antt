-- Each mark belongs to one line, and no two lines of a transcript have the same caller and event.
use Rattle.std.proofs.Common.{◌≡◌, ℕ, suc, ◌+◌, ◌≤◌, ◌⊎◌, inl, inr, List, [], ◌∷◌, ◌++◌, length, refl, sym, ap, ◌∙◌, subst, arith}
use Rattle.std.specs.List.{AllByRecursion, flat_map}
use Rattle.key_names.specs.declared.events.Event.{Event}
use Rattle.key_names.specs.declared.names.Mark.{Mark}
use Rattle.key_names.specs.declared.names.Step.{Step}
use Rattle.key_names.specs.declared.names.Step.TheVariants.{Look, Visit as Marked}
use Rattle.key_names.specs.Lanes.Book.{Lists}
use Rattle.key_names.specs.Callers.Effects.{Effect, effect_of, effects_of}
use Rattle.key_names.specs.Transcripts.SeenLine.{SeenLine}
use Rattle.key_names.specs.Transcripts.IsTranscript.{LinesFit, EachCaller, MarkBy, marks_from, line_marks, all_marks}
use Rattle.key_names.proofs.History.SortedVisits.{IsIn}

pub each_in : {X : Type 0} (P : X → Type 0) (x : X) (xs : List X) → AllByRecursion P xs → IsIn x xs → P x
each_in P x [] all here = absurd here
each_in P x (y ∷ ys) all (inl same) = subst P same all.0
each_in P x (y ∷ ys) all (inr rest) = each_in P x ys all.1 rest

pub each_of : {X : Type 0} (P : X → Type 0) (xs : List X) → ((x : X) → IsIn x xs → P x) → AllByRecursion P xs
each_of P [] each = tt
each_of P (x ∷ xs) each = (each x (inl refl), each_of P xs (λ y here. each y (inr here)))

pub in_append : {X : Type 0} (x : X) (xs ys : List X) → IsIn x (xs ++ ys) → IsIn x xs ⊎ IsIn x ys
in_append x [] ys here = inr here
in_append x (y ∷ xs) ys (inl same) = inl (inl same)
in_append x (y ∷ xs) ys (inr rest) = elim (in_append x xs ys rest) [ inl left ↦ inl (inr left) | inr right ↦ inr right ]

in_front : {X : Type 0} (x : X) (xs ys : List X) → IsIn x xs → IsIn x (xs ++ ys)
in_front x [] ys here = absurd here
in_front x (y ∷ xs) ys (inl same) = inl same
in_front x (y ∷ xs) ys (inr rest) = inr (in_front x xs ys rest)

in_back : {X : Type 0} (x : X) (xs ys : List X) → IsIn x ys → IsIn x (xs ++ ys)
in_back x [] ys here = here
in_back x (y ∷ xs) ys here = inr (in_back x xs ys here)

in_flat : {X Y : Type 0} (f : X → List Y) (y : Y) (xs : List X) → IsIn y (flat_map f xs) →
    (x : X) × IsIn x xs × IsIn y (f x)
in_flat f y [] here = absurd here
in_flat f y (x ∷ xs) here = elim (in_append y (f x) (flat_map f xs) here) [
  | inl first ↦ (x, inl refl, first)
  | inr rest ↦ (let more = in_flat f y xs rest in (more.0, inr more.1, more.2))
]

into_flat : {X Y : Type 0} (f : X → List Y) (x : X) (y : Y) (xs : List X) → IsIn x xs → IsIn y (f x) →
    IsIn y (flat_map f xs)
into_flat f x y [] here there = absurd here
into_flat f x y (z ∷ xs) (inl same) there =
    in_front y (f z) (flat_map f xs) (subst (λ l. IsIn y (f l)) (sym same) there)
into_flat f x y (z ∷ xs) (inr rest) there = in_back y (f z) (flat_map f xs) (into_flat f x y xs rest there)

-- ---- the effects and the marks of a line's steps

pub effect_in : (lists : Lists) (step : Step) (steps : List Step) → IsIn step steps →
    IsIn (effect_of lists step) (effects_of lists steps)
effect_in lists step [] here = absurd here
effect_in lists step (s ∷ steps) (inl same) = inl (ap (effect_of lists) same)
effect_in lists step (s ∷ steps) (inr rest) = inr (effect_in lists step steps rest)

pub step_of_effect : (lists : Lists) (effect : Effect) (steps : List Step) → IsIn effect (effects_of lists steps) →
    (step : Step) × IsIn step steps × (effect_of lists step ≡ effect)
step_of_effect lists effect [] here = absurd here
step_of_effect lists effect (s ∷ steps) (inl same) = (s, inl refl, same)
step_of_effect lists effect (s ∷ steps) (inr rest) =
    let more = step_of_effect lists effect steps rest in (more.0, inr more.1, more.2)

record FromSteps (caller event : ℕ) (steps : List Step) (by : MarkBy) : Type 0 where
  caller_is : by.who.caller ≡ caller
  event_is : by.who.event ≡ event
  step : IsIn (Marked by.mark) steps

from_steps : (caller event i : ℕ) (steps : List Step) (by : MarkBy) → IsIn by (marks_from caller event i steps) →
    FromSteps caller event steps by
from_steps caller event i [] by here = absurd here
from_steps caller event i (Look g ∷ steps) by here =
    let rest : FromSteps caller event steps by = from_steps caller event (suc i) steps by here in
    record { caller_is = rest.caller_is; event_is = rest.event_is; step = inr rest.step }
from_steps caller event i (Marked mark ∷ steps) by (inl same) = record {
  caller_is = ap (λ (b : MarkBy). b.who.caller) (sym same);
  event_is = ap (λ (b : MarkBy). b.who.event) (sym same);
  step = inl (ap (λ (b : MarkBy). Marked b.mark) same);
}
from_steps caller event i (Marked mark ∷ steps) by (inr more) =
    let rest : FromSteps caller event steps by = from_steps caller event (suc i) steps by more in
    record { caller_is = rest.caller_is; event_is = rest.event_is; step = inr rest.step }

mark_in : (caller event i : ℕ) (mark : Mark) (steps : List Step) → IsIn (Marked mark) steps →
    (by : MarkBy) × IsIn by (marks_from caller event i steps) × (by.mark ≡ mark)
mark_in caller event i mark [] here = absurd here
mark_in caller event i mark (Look g ∷ steps) (inl same) = absurd (cc same)
mark_in caller event i mark (Look g ∷ steps) (inr rest) = mark_in caller event (suc i) mark steps rest
mark_in caller event i mark (Marked m ∷ steps) (inl same) =
    (record { mark = m; who = record { caller = caller; event = event; step = i } }, inl refl, cc)
mark_in caller event i mark (Marked m ∷ steps) (inr rest) =
    let more = mark_in caller event (suc i) mark steps rest in (more.0, inr more.1, more.2)

-- ---- the lines of a transcript

-- the line is one of some caller's lines in the transcript `t`
abbrev pub Among : SeenLine → List (List SeenLine) → Type 0
Among line t = (lines : List SeenLine) × IsIn lines t × IsIn line lines

-- the line of the transcript `t` that has the mark `by`
pub record LineOf (t : List (List SeenLine)) (by : MarkBy) : Type 0 where
  pub line : SeenLine
  pub among : Among line t
  pub caller_is : by.who.caller ≡ line.caller
  pub event_is : by.who.event ≡ line.event
  pub step : IsIn (Marked by.mark) line.steps

pub line_of : (t : List (List SeenLine)) (by : MarkBy) → IsIn by (all_marks t) → LineOf t by
line_of t by here =
    let a = in_flat (λ lines. flat_map line_marks lines) by t here in
    let b = in_flat line_marks by a.0 a.2 in
    let f : FromSteps b.0.caller b.0.event b.0.steps by = from_steps b.0.caller b.0.event 0 b.0.steps by b.2 in
    record {
      line = b.0;
      among = (a.0, a.1, b.1);
      caller_is = f.caller_is;
      event_is = f.event_is;
      step = f.step;
    }

-- a mark among the steps of a line, with the mark's maker
pub record MarkOf (t : List (List SeenLine)) (line : SeenLine) (mark : Mark) : Type 0 where
  pub by : MarkBy
  pub there : IsIn by (all_marks t)
  pub mark_is : by.mark ≡ mark
  pub caller_is : by.who.caller ≡ line.caller
  pub event_is : by.who.event ≡ line.event

pub mark_of : (t : List (List SeenLine)) (line : SeenLine) (mark : Mark) → Among line t →
    IsIn (Marked mark) line.steps → MarkOf t line mark
mark_of t line mark (lines, lines_in, line_in) here =
    let m = mark_in line.caller line.event 0 mark line.steps here in
    let f : FromSteps line.caller line.event line.steps m.0 =
    from_steps line.caller line.event 0 line.steps m.0 m.1 in
    record {
      by = m.0;
      there = into_flat (λ lines. flat_map line_marks lines) lines m.0 t lines_in
          (into_flat line_marks line m.0 lines line_in m.1);
      mark_is = m.2;
      caller_is = f.caller_is;
      event_is = f.event_is;
    }

-- each line of caller `c` names `c` as its caller, and no two lines of the caller have the same event number

number_from : (c n : ℕ) (events : List Event) (lines : List SeenLine) (line : SeenLine) → LinesFit c n events lines →
    IsIn line lines → (line.caller ≡ c) × (n ≤ line.event)
number_from c n [] [] line fit here = absurd here
number_from c n [] (l ∷ []) line fit (inl same) =
    let e : l.event ≡ n = fit.event in
    let f : l.event ≡ line.event = ap (λ (x : SeenLine). x.event) same in
    (ap (λ (x : SeenLine). x.caller) (sym same) ∙ fit.caller, omega arith)
number_from c n [] (l ∷ []) line fit (inr rest) = absurd rest
number_from c n [] (l ∷ more ∷ lines) line fit here = absurd fit
number_from c n (event ∷ events) [] line fit here = absurd here
number_from c n (event ∷ events) (l ∷ lines) line fit (inl same) =
    let e : l.event ≡ n = fit.0.event in
    let f : l.event ≡ line.event = ap (λ (x : SeenLine). x.event) same in
    (ap (λ (x : SeenLine). x.caller) (sym same) ∙ fit.0.caller, omega arith)
number_from c n (event ∷ events) (l ∷ lines) line fit (inr rest) =
    let up = number_from c (suc n) events lines line fit.1 rest in
    (up.0, let le = up.1 in omega arith)

pub same_line : (c n : ℕ) (events : List Event) (lines : List SeenLine) (a b : SeenLine) → LinesFit c n events lines →
    IsIn a lines → IsIn b lines → a.event ≡ b.event → a ≡ b
same_line c n [] [] a b fit here there same = absurd here
same_line c n [] (l ∷ []) a b fit (inl x) (inl y) same = sym x ∙ y
same_line c n [] (l ∷ []) a b fit (inl x) (inr y) same = absurd y
same_line c n [] (l ∷ []) a b fit (inr x) there same = absurd x
same_line c n [] (l ∷ more ∷ lines) a b fit here there same = absurd fit
same_line c n (event ∷ events) [] a b fit here there same = absurd here
same_line c n (event ∷ events) (l ∷ lines) a b fit (inl x) (inl y) same = sym x ∙ y
same_line c n (event ∷ events) (l ∷ lines) a b fit (inl x) (inr y) same =
    let up = (number_from c (suc n) events lines b fit.1 y).1 in
    let e : l.event ≡ n = fit.0.event in let f : l.event ≡ a.event = ap (λ (z : SeenLine). z.event) x in
    absurd (omega arith)
same_line c n (event ∷ events) (l ∷ lines) a b fit (inr x) (inl y) same =
    let up = (number_from c (suc n) events lines a fit.1 x).1 in
    let e : l.event ≡ n = fit.0.event in let f : l.event ≡ b.event = ap (λ (z : SeenLine). z.event) y in
    absurd (omega arith)
same_line c n (event ∷ events) (l ∷ lines) a b fit (inr x) (inr y) same =
    same_line c (suc n) events lines a b fit.1 x y same

-- if LinesFit holds, a caller has one more line than it has events: the last line is for the caller's end
pub fits_long : (c n : ℕ) (events : List Event) (lines : List SeenLine) → LinesFit c n events lines →
    length lines ≡ length events + 1
fits_long c n [] [] fit = absurd fit
fits_long c n [] (l ∷ []) fit = refl
fits_long c n [] (l ∷ more ∷ lines) fit = absurd fit
fits_long c n (event ∷ events) [] fit = absurd fit
fits_long c n (event ∷ events) (l ∷ lines) fit = omega (arith, fits_long c (suc n) events lines fit.1)

abbrev pub AllFit : ℕ → List (List Event) → List (List SeenLine) → Type 0
AllFit c callers t = EachCaller (λ c events lines. LinesFit c 0 events lines) c callers t

caller_from : (c : ℕ) (callers : List (List Event)) (t : List (List SeenLine)) (line : SeenLine) →
    AllFit c callers t → Among line t → c ≤ line.caller
caller_from c [] [] line fit (lines, here, there) = absurd here
caller_from c [] (lines' ∷ t) line fit among = absurd fit
caller_from c (events ∷ callers) [] line fit among = absurd fit
caller_from c (events ∷ callers) (lines' ∷ t) line fit (lines, inl same, there) =
    let here : IsIn line lines' = subst (λ (ls : List SeenLine). IsIn line ls) (sym same) there in
    let is = (number_from c 0 events lines' line fit.0 here).0 in omega arith
caller_from c (events ∷ callers) (lines' ∷ t) line fit (lines, inr rest, there) =
    let up = caller_from (suc c) callers t line fit.1 (lines, rest, there) in omega arith

lines_apart : (c : ℕ) (callers : List (List Event)) (t : List (List SeenLine)) (a b : SeenLine) → AllFit c callers t →
    Among a t → Among b t → a.caller ≡ b.caller → a.event ≡ b.event → a ≡ b
lines_apart c [] [] a b fit (la, here, ina) among same_caller same = absurd here
lines_apart c [] (lines ∷ t) a b fit among among' same_caller same = absurd fit
lines_apart c (events ∷ callers) [] a b fit among among' same_caller same = absurd fit
lines_apart c (events ∷ callers) (lines ∷ t) a b fit (la, inl x, ina) (lb, inl y, inb) same_caller same =
    same_line c 0 events lines a b fit.0 (subst (λ (ls : List SeenLine). IsIn a ls) (sym x) ina)
    (subst (λ (ls : List SeenLine). IsIn b ls) (sym y) inb) same
lines_apart c (events ∷ callers) (lines ∷ t) a b fit (la, inl x, ina) (lb, inr y, inb) same_caller same =
    let here : IsIn a lines = subst (λ (ls : List SeenLine). IsIn a ls) (sym x) ina in
    let is = (number_from c 0 events lines a fit.0 here).0 in
    let up = caller_from (suc c) callers t b fit.1 (lb, y, inb) in absurd (omega arith)
lines_apart c (events ∷ callers) (lines ∷ t) a b fit (la, inr x, ina) (lb, inl y, inb) same_caller same =
    let here : IsIn b lines = subst (λ (ls : List SeenLine). IsIn b ls) (sym y) inb in
    let is = (number_from c 0 events lines b fit.0 here).0 in
    let up = caller_from (suc c) callers t a fit.1 (la, x, ina) in absurd (omega arith)
lines_apart c (events ∷ callers) (lines ∷ t) a b fit (la, inr x, ina) (lb, inr y, inb) same_caller same =
    lines_apart (suc c) callers t a b fit.1 (la, x, ina) (lb, y, inb) same_caller same

abbrev pub Apart : List (List SeenLine) → Type 0
Apart t = (a b : SeenLine) → Among a t → Among b t → a.caller ≡ b.caller → a.event ≡ b.event → a ≡ b

pub apart : (callers : List (List Event)) (t : List (List SeenLine)) → AllFit 0 callers t → Apart t
apart callers t fit a b = lines_apart 0 callers t a b fit

-- every line of the transcript is a line of some caller
pub each_among : (t : List (List SeenLine)) → AllByRecursion (λ lines. AllByRecursion (λ line. Among line t) lines) t
each_among t = each_of (λ lines. AllByRecursion (λ line. Among line t) lines) t
    (λ lines here. each_of (λ line. Among line t) lines (λ line there. (lines, here, there)))
