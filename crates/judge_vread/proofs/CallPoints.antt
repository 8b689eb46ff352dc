-- The code and the definitions agree on the points that a vgetrandom call reached, and on the wipes that acts make at
-- these points.
use Rattle.std.proofs.Common.{◌≡◌, ◌⊎◌, inl, inr, Bool, true, false, List, [], ◌∷◌, refl, sym, subst, ap, ◌∙◌}
use Rattle.std.specs.Prelude.{not, MatchBool}
use Rattle.std.specs.List.{AllByRecursion}
use Rattle.key_names.specs.declared.point.Point.{Point}
use Rattle.key_names.specs.declared.point.Point.TheVariants.{Start, Written, Serve, End}
use Rattle.key_names.specs.Kernel.Points.{is_same_point}
use Rattle.key_names.specs.Callers.Calls.{Setting, BoundAct}
use Rattle.key_names.specs.Callers.VreadSteps.{PointReached, WipesConform, is_wiped, is_reached}
use Rattle.key_names.specs.Callers.Meaning.{LineMeaning, ActMeans, ActsMean, unused_line}
use Rattle.judge_vread.specs.declared.inside.Inside.{Inside}
use Rattle.judge_vread.specs.declared.inside.Reached.TheVariants.{Nothing, AllButWritten, All}
use Rattle.judge_vread.specs.Inside.{inside_of, includes, reached_by}
use Rattle.key_names.proofs.Unique.UniqueTries.{reached}
use Rattle.judge_vread.proofs.AttemptShapes.{with_written}

-- the points of an attempt, followed by the points `ps`; `w1` to `w4` are true if the state is wiped at Start, Written,
-- Serve and End
abbrev pub attempt_points : Bool → Bool → Bool → Bool → Bool → List PointReached → List PointReached
attempt_points keyed w1 w2 w3 w4 ps =
    reached Start w1 ∷ with_written keyed w2 (reached Serve w3 ∷ reached End w4 ∷ ps)

-- `ps` has the points of a second attempt
pub record Second (ps : List PointReached) : Type 0 where
  pub keyed : Bool
  pub w1 : Bool
  pub w2 : Bool
  pub w3 : Bool
  pub w4 : Bool
  pub is : ps ≡ attempt_points keyed w1 w2 w3 w4 []

abbrev pub EndPoints : List PointReached → Type 0
EndPoints ps = (ps ≡ []) ⊎ Second ps

-- `ps` is empty, or has the points of a second attempt without wipes
abbrev pub Unwiped : List PointReached → Type 0
Unwiped ps = (ps ≡ []) ⊎ ((keyed : Bool) × (ps ≡ attempt_points keyed false false false false []))

-- ---- if the code followed a call, the wipes conform (`WipesConform`)

pub none_conform : (acts : List BoundAct) (ps : List PointReached) → ps ≡ [] → WipesConform acts ps
none_conform acts ps is =
    let P : List PointReached → Type 0 = λ x. WipesConform acts x in subst P (sym is) (record { first = tt; second = tt })

pub wipes_conform : (acts : List BoundAct) (keyed : Bool) (all ps : List PointReached) →
    all ≡ attempt_points keyed (inside_of acts).start (inside_of acts).written (inside_of acts).serve
    (inside_of acts).end ps → Unwiped ps → WipesConform acts all
wipes_conform acts keyed all ps is following =
    let P : List PointReached → Type 0 = λ x. WipesConform acts x in subst P (sym is) (go keyed ps following)
  where
    w : Inside
    w = inside_of acts

    go : (keyed : Bool) (ps : List PointReached) → Unwiped ps →
        WipesConform acts (attempt_points keyed w.start w.written w.serve w.end ps)
    go true ps (inl none) =
        let P : List PointReached → Type 0 = λ x. WipesConform acts (attempt_points true w.start w.written w.serve w.end x) in
        subst P (sym none) (record { first = (refl, (refl, (refl, (refl, tt)))); second = tt })
    go false ps (inl none) =
        let P : List PointReached → Type 0 = λ x. WipesConform acts (attempt_points false w.start w.written w.serve w.end x) in
        subst P (sym none) (record { first = (refl, (refl, (refl, tt))); second = tt })
    go true ps (inr (true, is)) =
        let P : List PointReached → Type 0 = λ x. WipesConform acts (attempt_points true w.start w.written w.serve w.end x) in
        subst P (sym is) (record {
          first = (refl, (refl, (refl, (refl, tt))));
          second = (refl, (refl, (refl, (refl, tt))));
        })
    go true ps (inr (false, is)) =
        let P : List PointReached → Type 0 = λ x. WipesConform acts (attempt_points true w.start w.written w.serve w.end x) in
        subst P (sym is) (record {
          first = (refl, (refl, (refl, (refl, tt))));
          second = (refl, (refl, (refl, tt)));
        })
    go false ps (inr (true, is)) =
        let P : List PointReached → Type 0 = λ x. WipesConform acts (attempt_points false w.start w.written w.serve w.end x) in
        subst P (sym is) (record { first = (refl, (refl, (refl, tt))); second = (refl, (refl, (refl, (refl, tt)))) })
    go false ps (inr (false, is)) =
        let P : List PointReached → Type 0 = λ x. WipesConform acts (attempt_points false w.start w.written w.serve w.end x) in
        subst P (sym is) (record { first = (refl, (refl, (refl, tt))); second = (refl, (refl, (refl, tt))) })

-- ---- which points an attempt reached

pub all_included : (point : Point) → true ≡ includes All point
all_included Start = refl
all_included Written = refl
all_included Serve = refl
all_included End = refl

pub included_but_written : (point : Point) → not (is_same_point point Written) ≡ includes AllButWritten point
included_but_written Start = refl
included_but_written Written = refl
included_but_written Serve = refl
included_but_written End = refl

pub none_reached : (ps : List PointReached) → ps ≡ [] → (act : BoundAct) → is_reached ps act ≡ includes Nothing act.point
none_reached ps is act = ap (λ x. is_reached x act) is

pub which_reached : (keyed w1 w2 w3 w4 : Bool) (all ps : List PointReached) →
    all ≡ attempt_points keyed w1 w2 w3 w4 ps → EndPoints ps → (act : BoundAct) →
    is_reached all act ≡ includes (reached_by keyed) act.point
which_reached keyed w1 w2 w3 w4 all ps is following act = ap (λ x. is_reached x act) is ∙ go keyed ps following
  where
    go : (keyed : Bool) (ps : List PointReached) → EndPoints ps →
        is_reached (attempt_points keyed w1 w2 w3 w4 ps) act ≡ includes (reached_by keyed) act.point
    go true ps (inl none) = ap (λ x. is_reached (attempt_points true w1 w2 w3 w4 x) act) none
    go false ps (inl none) = ap (λ x. is_reached (attempt_points false w1 w2 w3 w4 x) act) none
    go true ps (inr second) = ap (λ x. is_reached (attempt_points true w1 w2 w3 w4 x) act) second.is
    go false ps (inr second) = ap (λ x. is_reached (attempt_points false w1 w2 w3 w4 x) act) second.is

-- ---- if the wipes conform (`WipesConform`), they are those that the code assumes

-- for each point that the first attempt reached: the state is wiped there (`w1` to `w4`) exactly if one of `acts` wipes
-- it there
pub record AsInferred (acts : List BoundAct) (keyed w1 w2 w3 w4 : Bool) : Type 0 where
  pub start : w1 ≡ is_wiped acts Start
  pub written : keyed ≡ true → is_wiped acts Written ≡ w2
  pub serve : w3 ≡ is_wiped acts Serve
  pub end : w4 ≡ is_wiped acts End

pub first_as_inferred : (acts : List BoundAct) (keyed w1 w2 w3 w4 : Bool) (all ps : List PointReached) →
    all ≡ attempt_points keyed w1 w2 w3 w4 ps → WipesConform acts all → AsInferred acts keyed w1 w2 w3 w4
first_as_inferred acts keyed w1 w2 w3 w4 all ps is conform =
    let P : List PointReached → Type 0 = λ x. WipesConform acts x in go keyed (subst P is conform)
  where
    go : (keyed : Bool) → WipesConform acts (attempt_points keyed w1 w2 w3 w4 ps) → AsInferred acts keyed w1 w2 w3 w4
    go true h = record {
      start = h.first.0;
      written = λ keyed. sym h.first.1.0;
      serve = h.first.1.1.0;
      end = h.first.1.1.1.0;
    }
    go false h = record {
      start = h.first.0;
      written = λ keyed. absurd cc;
      serve = h.first.1.0;
      end = h.first.1.1.0;
    }

-- the second attempt does not wipe the state at any point that it reached
pub record NotWiped (keyed w1 w2 w3 w4 : Bool) : Type 0 where
  pub start : w1 ≡ false
  pub written : keyed ≡ true → false ≡ w2
  pub serve : w3 ≡ false
  pub end : w4 ≡ false

pub second_not_wiped : (acts : List BoundAct) (keyed w1 w2 w3 w4 keyed' v1 v2 v3 v4 : Bool)
    (all ps more : List PointReached) → all ≡ attempt_points keyed w1 w2 w3 w4 ps →
    ps ≡ attempt_points keyed' v1 v2 v3 v4 more → WipesConform acts all → NotWiped keyed' v1 v2 v3 v4
second_not_wiped acts keyed w1 w2 w3 w4 keyed' v1 v2 v3 v4 all ps more is second conform =
    let P : List PointReached → Type 0 = λ x. WipesConform acts x in
    go keyed keyed' (subst P (is ∙ ap (attempt_points keyed w1 w2 w3 w4) second) conform)
  where
    by : (keyed' : Bool) → AllByRecursion (λ r. r.wiped ≡ false) (attempt_points keyed' v1 v2 v3 v4 more) →
        NotWiped keyed' v1 v2 v3 v4
    by true h = record { start = h.0; written = λ keyed. sym h.1.0; serve = h.1.1.0; end = h.1.1.1.0 }
    by false h = record { start = h.0; written = λ keyed. absurd cc; serve = h.1.0; end = h.1.1.0 }

    go : (keyed keyed' : Bool) →
        WipesConform acts (attempt_points keyed w1 w2 w3 w4 (attempt_points keyed' v1 v2 v3 v4 more)) →
        NotWiped keyed' v1 v2 v3 v4
    go true keyed' h = by keyed' h.second
    go false keyed' h = by keyed' h.second

-- ---- the meaning of the acts inside a vread

-- if the tests `f` and `g` (whether an act is done) agree on each act, the meaning of the acts by `f` is also their
-- meaning by `g`
pub acts_by : (set : Setting) (f g : BoundAct → Bool) → ((act : BoundAct) → f act ≡ g act) →
    (acts : List BoundAct) (ms : List LineMeaning) → ActsMean set f acts ms → ActsMean set g acts ms
acts_by set f g same [] [] h = tt
acts_by set f g same [] (m ∷ ms) h = absurd h
acts_by set f g same (act ∷ acts) [] h = absurd h
acts_by set f g same (act ∷ acts) (m ∷ ms) h =
    let P : Bool → Type 0 = λ b. MatchBool b (ActMeans set act.act m) (m ≡ unused_line) in
    (subst P (same act) h.0, acts_by set f g same acts ms h.1)
