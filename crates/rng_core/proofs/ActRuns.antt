-- Acts that run at a point (one of four moments of a vgetrandom call) extend the knowledge of the caller's pass, and
-- leave the caller's own steps as they are. Each act has the meaning of its line.
use Rattle.std.proofs.Common.{◌≡◌, ℕ, ◌≤◌, Bool, true, false, not, List, [], ◌∷◌, ◌++◌, length, map, refl, sym, ap, ◌∙◌, subst, arith, append-nil, append_assoc}
use Rattle.std.specs.Prelude.{MatchBool, ◌&&◌, ◌||◌, ⊤}
use Rattle.std.specs.List.{AllByRecursion, list_any}
use Rattle.key_names.specs.declared.names.Step.{Step}
use Rattle.key_names.specs.declared.point.Point.{Point}
use Rattle.key_names.specs.Callers.Effects.{Effect, effects_of}
use Rattle.key_names.specs.Callers.Meaning.{ActMeans}
use Rattle.key_names.specs.Texts.TranscriptGrammar.{StepFits}
use Rattle.key_names.specs.Kernel.Points.{is_same_point}
use Rattle.key_names.specs.Callers.VreadSteps.{PointReached}
use Rattle.lane_table.specs.declared.view.View.{View}
use Rattle.lane_table.specs.declared.view.Visit.{Visit}
use Rattle.lane_table.specs.BookLists.{StateLists, book_lists}
use Rattle.lane_table.specs.BookLaws.{Continues}
use Rattle.lane_table.specs.Steps.{Grows}
use Rattle.lane_table.specs.WorldRule.{known_of}
use Rattle.lane_table.specs.Advances.{MadeStep, looked, visited, step_of, looks_in, Sees, floor}
use Rattle.lane_table.proofs.Book.BookEnds.{continues_before}
use Rattle.lane_table.proofs.Calls.AdvanceLemmas.{looks_append}
use Rattle.rng_core.specs.declared.setting.Setting.{Setting}
use Rattle.rng_core.specs.Traces.{Moment, TraceRecords}
use Rattle.rng_core.specs.Makes.{MakesIn, Makes, setting_of}
use Rattle.rng_core.specs.Acts.{Ask, ActOutcome, ActRan, ActAt, ActsAt, done_line}
use Rattle.rng_core.proofs.Makings.{After, did_floor, effects_then}
use Rattle.rng_core.proofs.TellLemmas.{recorded_then, trace_then, fits_then}

-- the view `w` has as many lanes as the view `v`, and knows at least as much
pub record Onward (v w : View) : Type 0 where
  pub sized : length w.lanes ≡ length v.lanes
  pub grows : Grows v w
  pub floors : floor v ≤ floor w

pub onward_same : (v : View) → Onward v v
onward_same v = record {
  sized = refl;
  grows = λ lane low. ([], sym (append-nil (known_of v lane)));
  floors = omega arith;
}

pub onward_is : (v w : View) → w ≡ v → Onward v w
onward_is v w same = subst (Onward v) (sym same) (onward_same v)

pub onward_then : (u v w : View) → Onward u v → Onward v w → Onward u w
onward_then u v w a b = record {
  sized = b.sized ∙ a.sized;
  grows = λ lane low.
      let f = a.grows lane low in
      let g = b.grows lane (let s = a.sized in omega arith) in (
        f.0 ++ g.0,
        g.1 ∙ ap (λ (l : List Visit). l ++ g.0) f.1 ∙ append_assoc (known_of u lane) f.0 g.0,
      );
  floors = let x = a.floors in let y = b.floors in omega arith;
}

pub did_onward : {P : (ℕ → List Visit) → List Effect → Type 0} (set : Setting) (l m : Moment) → MakesIn P set l m →
    Onward l.view m.view
did_onward set l m k = record {
  sized = k.recorded.went.same.sized;
  grows = k.recorded.went.grows;
  floors = did_floor set l m k;
}

module _ (set : Setting) (point : Point) where
  pub at_onward : (a : Ask) (v w : View) (x y : ActOutcome) → ActAt set point a v w x y → Onward v w
  at_onward a v w x y k = go (is_same_point point a.point && not x.done) k
    where
      go : (b : Bool) → MatchBool b (ActRan set a v w y) ((y ≡ x) × (w ≡ v)) → Onward v w
      go true h = did_onward _ _ _ h.did
      go false h = onward_is v w h.1

  pub acts_onward : (asks : List Ask) (v w : View) (xs ys : List ActOutcome) → ActsAt set point asks v w xs ys →
      Onward v w
  acts_onward [] v w [] [] k = onward_is v w k
  acts_onward [] v w [] (y ∷ ys) k = absurd k
  acts_onward [] v w (x ∷ xs) ys k = absurd k
  acts_onward (a ∷ asks) v w [] ys k = absurd k
  acts_onward (a ∷ asks) v w (x ∷ xs) [] k = absurd k
  acts_onward (a ∷ asks) v w (x ∷ xs) (y ∷ ys) k =
      onward_then v k.0 w (at_onward a v k.0 x y k.1) (acts_onward asks k.0 w xs ys k.2)

-- The generations that successive looks find: they never fall, and lie between `low` and `high`

abbrev pub Risen : ℕ → List ℕ → ℕ → Type 0
Risen low [] high = low ≤ high
Risen low (g ∷ looks) high = (low ≤ g) × Risen g looks high

risen_lower : (low mid high : ℕ) (looks : List ℕ) → low ≤ mid → Risen mid looks high → Risen low looks high
risen_lower low mid high [] less h = omega arith
risen_lower low mid high (g ∷ looks) less h = (let a = h.0 in omega arith, h.1)

risen_then : (low mid high : ℕ) (xs ys : List ℕ) → Risen low xs mid → Risen mid ys high → Risen low (xs ++ ys) high
risen_then low mid high [] ys a b = risen_lower low mid high ys a b
risen_then low mid high (g ∷ xs) ys a b = (a.0, risen_then g mid high xs ys a.1 b)

pub sees_risen : (w : View) (low high : ℕ) (made_steps : List MadeStep) → Sees w low made_steps high →
    Risen low (looks_in made_steps) high
sees_risen w low high [] h = h
sees_risen w low high (looked g ∷ made_steps) h = (h.0, sees_risen w g high made_steps h.1)
sees_risen w low high (visited mark e ∷ made_steps) h =
    risen_lower low h.0 high (looks_in made_steps) h.1 (sees_risen w h.0 high made_steps h.3)

-- The steps that a caller makes for its vgetrandom call; acts may make steps of their own between them

-- from `l` to `m` the caller's own steps are `made_steps`, and P holds for their effects. If `Alone` holds (no acts run
-- inside), the caller made no other steps
pub record Own (set : Setting) (Alone : Type 0) (P : List Effect → Type 0) (l m : Moment) : Type 0 where
  pub made_steps : List MadeStep
  pub trace : m.steps ≡ l.steps ++ map step_of made_steps
  pub fits : AllByRecursion StepFits (map step_of made_steps)
  pub rises : Risen (floor l.view) (looks_in made_steps) (floor m.view)
  pub onward : Onward l.view m.view
  pub alone : Alone → TraceRecords set l m made_steps
  pub conforms : (lanes : ℕ) (visits : ℕ → List Visit) (callers : StateLists) → Continues lanes m.view visits →
      P (effects_of (book_lists lanes visits callers) (map step_of made_steps))

pub own_did : {P : List Effect → Type 0} {Alone : Type 0} (set : Setting) (l m : Moment) → Makes P set l m →
    Own set Alone P l m
own_did set l m k = record {
  made_steps = k.made_steps;
  trace = k.recorded.trace;
  fits = k.recorded.fits;
  rises = sees_risen m.view (floor l.view) (floor m.view) k.made_steps k.recorded.went.sees;
  onward = did_onward set l m k;
  alone = λ _. k.recorded;
  conforms = k.conforms;
}

pub own_map : {set : Setting} {Alone : Type 0} {P Q : List Effect → Type 0} (l m : Moment) →
    ((effects : List Effect) → P effects → Q effects) → Own set Alone P l m → Own set Alone Q l m
own_map l m f k = record {
  made_steps = k.made_steps;
  trace = k.trace;
  fits = k.fits;
  rises = k.rises;
  onward = k.onward;
  alone = k.alone;
  conforms = λ lanes visits callers c. f _ (k.conforms lanes visits callers c);
}

pub own_then : {set : Setting} {Alone : Type 0} {P Q : List Effect → Type 0} (l m n : Moment) → Own set Alone P l m →
    Own set Alone Q m n → Own set Alone (After P Q) l n
own_then {set} l m n a b = record {
  made_steps = a.made_steps ++ b.made_steps;
  trace = trace_then l m n a.made_steps b.made_steps a.trace b.trace;
  fits = fits_then a.made_steps b.made_steps a.fits b.fits;
  rises = subst (λ (looks : List ℕ). Risen (floor l.view) looks (floor n.view))
      (sym (looks_append a.made_steps b.made_steps))
      (risen_then (floor l.view) (floor m.view) (floor n.view) (looks_in a.made_steps) (looks_in b.made_steps) a.rises
      b.rises);
  onward = onward_then l.view m.view n.view a.onward b.onward;
  alone = λ e. recorded_then set l m n a.made_steps b.made_steps (a.alone e) (b.alone e);
  conforms = λ lanes visits callers c. let book = book_lists lanes visits callers in record {
    first = effects_of book (map step_of a.made_steps);
    rest = effects_of book (map step_of b.made_steps);
    effects_are = effects_then book a.made_steps b.made_steps;
    before = a.conforms lanes visits callers (continues_before lanes m.view n.view visits b.onward.sized b.onward.grows
        c);
    following = b.conforms lanes visits callers c;
  };
}

-- if only acts ran from `l` to `m`, the caller's own steps from `m` to `n` are also its own steps from `l` to `n`
pub own_after : {set : Setting} {Alone : Type 0} {P : List Effect → Type 0} (l m n : Moment) → m.steps ≡ l.steps →
    Onward l.view m.view → (Alone → m.view ≡ l.view) → Own set Alone P m n → Own set Alone P l n
own_after {set} l m n same onward idle k = record {
  made_steps = k.made_steps;
  trace = k.trace ∙ ap (λ (s : List Step). s ++ map step_of k.made_steps) same;
  fits = k.fits;
  rises = risen_lower (floor l.view) (floor m.view) (floor n.view) (looks_in k.made_steps) onward.floors k.rises;
  onward = onward_then l.view m.view n.view onward k.onward;
  alone = λ e. subst (λ (z : Moment). TraceRecords set z n k.made_steps)
      (λ i. record { view = idle e i; steps = same i })
      (k.alone e);
  conforms = k.conforms;
}

-- The meaning of each act's outcome (`ActOutcome`)

-- if the act of the request `a` ran, its outcome `z` has the act's meaning in all lists that continue the lists that
-- the view `w` knows; else `z` has no steps
pub record Meant (set : Setting) (w : View) (a : Ask) (z : ActOutcome) : Type 0 where
  pub done : z.done ≡ true → (lanes : ℕ) (visits : ℕ → List Visit) (callers : StateLists) → Continues lanes w visits →
      ActMeans (setting_of set) a.act (done_line (effects_of (book_lists lanes visits callers) z.steps) z.answer z.bytes)
  pub idle : z.done ≡ false → z.steps ≡ []
  pub fits : AllByRecursion StepFits z.steps

abbrev pub AllMeant : Setting → View → List Ask → List ActOutcome → Type 0
AllMeant set w [] [] = ⊤
AllMeant set w [] (z ∷ zs) = ⊥
AllMeant set w (a ∷ asks) [] = ⊥
AllMeant set w (a ∷ asks) (z ∷ zs) = Meant set w a z × AllMeant set w asks zs

meant_onward : (set : Setting) (v w : View) (a : Ask) (z : ActOutcome) → Onward v w → Meant set v a z → Meant set w a z
meant_onward set v w a z onward k = record {
  done = λ e lanes visits callers c. k.done e lanes visits callers
      (continues_before lanes v w visits onward.sized onward.grows c);
  idle = k.idle;
  fits = k.fits;
}

pub all_onward : (set : Setting) (v w : View) (asks : List Ask) (zs : List ActOutcome) → Onward v w →
    AllMeant set v asks zs → AllMeant set w asks zs
all_onward set v w [] [] onward k = tt
all_onward set v w [] (z ∷ zs) onward k = absurd k
all_onward set v w (a ∷ asks) [] onward k = absurd k
all_onward set v w (a ∷ asks) (z ∷ zs) onward k =
    (meant_onward set v w a z onward k.0, all_onward set v w asks zs onward k.1)

ran_means : (set : Setting) (a : Ask) (v w : View) (y : ActOutcome) → ActRan set a v w y → Meant set w a y
ran_means set a v w y k = record {
  done = λ e lanes visits callers c. subst (λ (l : List Step). ActMeans (setting_of set) a.act
      (done_line (effects_of (book_lists lanes visits callers) l) y.answer y.bytes)) (sym k.did.recorded.trace)
      (k.did.conforms lanes visits callers c);
  idle = λ e. let f : true ≡ false = sym k.done ∙ e in absurd (cc f);
  fits = subst (AllByRecursion StepFits) (sym k.did.recorded.trace) k.did.recorded.fits;
}

module _ (set : Setting) (point : Point) where
  one_meant : (a : Ask) (v w : View) (x y : ActOutcome) → ActAt set point a v w x y → Meant set v a x → Meant set w a y
  one_meant a v w x y k m = go (is_same_point point a.point && not x.done) k
    where
      go : (b : Bool) → MatchBool b (ActRan set a v w y) ((y ≡ x) × (w ≡ v)) → Meant set w a y
      go true h = ran_means set a v w y h
      go false h = subst (Meant set w a) (sym h.0) (meant_onward set v w a x (onward_is v w h.1) m)

  pub meant_at : (asks : List Ask) (v w : View) (xs ys : List ActOutcome) → ActsAt set point asks v w xs ys →
      AllMeant set v asks xs → AllMeant set w asks ys
  meant_at [] v w [] [] k all = tt
  meant_at [] v w [] (y ∷ ys) k all = absurd k
  meant_at [] v w (x ∷ xs) ys k all = absurd k
  meant_at (a ∷ asks) v w [] ys k all = absurd k
  meant_at (a ∷ asks) v w (x ∷ xs) [] k all = absurd k
  meant_at (a ∷ asks) v w (x ∷ xs) (y ∷ ys) k all = (
    meant_onward set k.0 w a y (acts_onward set point asks k.0 w xs ys k.2) (one_meant a v k.0 x y k.1 all.0),
    meant_at asks k.0 w xs ys k.2 (all_onward set v k.0 asks xs (at_onward set point a v k.0 x y k.1) all.1),
  )

-- whether a call that reached the points `points` reached the point of the request `a`
abbrev pub came : List PointReached → Ask → Bool
came points a = list_any (λ reached. is_same_point reached.point a.point) points

-- after a call that reached `points`, an act is done if and only if it was done before or the call reached the act's
-- point
abbrev pub AllDone : List PointReached → List Ask → List ActOutcome → List ActOutcome → Type 0
AllDone points [] [] [] = ⊤
AllDone points [] [] (z ∷ zs) = ⊥
AllDone points [] (x ∷ xs) zs = ⊥
AllDone points (a ∷ asks) [] zs = ⊥
AllDone points (a ∷ asks) (x ∷ xs) [] = ⊥
AllDone points (a ∷ asks) (x ∷ xs) (z ∷ zs) = (z.done ≡ (x.done || came points a)) × AllDone points asks xs zs

or_nothing : (b : Bool) → b ≡ (b || false)
or_nothing true = refl
or_nothing false = refl

pub done_same : (asks : List Ask) (xs : List ActOutcome) → length xs ≡ length asks → AllDone [] asks xs xs
done_same [] [] long = tt
done_same [] (x ∷ xs) long = absurd (omega arith)
done_same (a ∷ asks) [] long = absurd (omega arith)
done_same (a ∷ asks) (x ∷ xs) long = (or_nothing x.done, done_same asks xs (omega arith))

module _ (set : Setting) (point : Point) (wiped : Bool) (points : List PointReached) where
  abbrev here : PointReached
  here = record { point = point; wiped = wiped }

  or_more : (x y z e rest : Bool) → z ≡ (y || rest) → y ≡ (x || e) → z ≡ (x || (e || rest))
  or_more true y z e rest f g = f ∙ ap (λ (b : Bool). b || rest) g
  or_more false y z e rest f g = f ∙ ap (λ (b : Bool). b || rest) g

  one_done : (a : Ask) (v w : View) (x y : ActOutcome) → ActAt set point a v w x y →
      y.done ≡ (x.done || is_same_point point a.point)
  one_done a v w x y k = go (is_same_point point a.point) x.done refl k
    where
      go : (e d : Bool) → x.done ≡ d → MatchBool (e && not d) (ActRan set a v w y) ((y ≡ x) × (w ≡ v)) →
          y.done ≡ (d || e)
      go true true is h = ap (λ (z : ActOutcome). z.done) h.0 ∙ is
      go true false is h = h.done
      go false true is h = ap (λ (z : ActOutcome). z.done) h.0 ∙ is
      go false false is h = ap (λ (z : ActOutcome). z.done) h.0 ∙ is

  pub done_at : (asks : List Ask) (v w : View) (xs ys zs : List ActOutcome) → ActsAt set point asks v w xs ys →
      AllDone points asks ys zs → AllDone (here ∷ points) asks xs zs
  done_at [] v w [] [] [] k rest = tt
  done_at [] v w [] [] (z ∷ zs) k rest = absurd rest
  done_at [] v w [] (y ∷ ys) zs k rest = absurd k
  done_at [] v w (x ∷ xs) ys zs k rest = absurd k
  done_at (a ∷ asks) v w [] ys zs k rest = absurd k
  done_at (a ∷ asks) v w (x ∷ xs) [] zs k rest = absurd k
  done_at (a ∷ asks) v w (x ∷ xs) (y ∷ ys) [] k rest = absurd rest
  done_at (a ∷ asks) v w (x ∷ xs) (y ∷ ys) (z ∷ zs) k rest = (
    or_more x.done y.done z.done (is_same_point point a.point) (came points a) rest.0
        (one_done a v k.0 x y k.1),
    done_at asks k.0 w xs ys zs k.2 rest.1,
  )

  pub long_at : (asks : List Ask) (v w : View) (xs ys : List ActOutcome) → ActsAt set point asks v w xs ys →
      length ys ≡ length asks
  long_at [] v w [] [] k = refl
  long_at [] v w [] (y ∷ ys) k = absurd k
  long_at [] v w (x ∷ xs) ys k = absurd k
  long_at (a ∷ asks) v w [] ys k = absurd k
  long_at (a ∷ asks) v w (x ∷ xs) [] k = absurd k
  long_at (a ∷ asks) v w (x ∷ xs) (y ∷ ys) k = let e = long_at asks k.0 w xs ys k.2 in omega arith
