-- A join of two passes: the joined pass has seen what either pass had seen, and has the visits of both passes.
use Rattle.std.proofs.Common.{◌≡◌, inl, inr, ℕ, ◌+◌, ◌*◌, ◌-◌, ◌^◌, ◌<◌, max, List, [], ◌∷◌, ◌++◌, length, refl, sym, ap, ◌∙◌, subst, arith}
use Rattle.std.specs.List.{sum_by}
use Rattle.std.proofs.lemmas.List.Sums.{sum_by-append, sum_by-cons}
use Rattle.std.proofs.lemmas.Nat.{pow-add}
use Rattle.key_names.specs.declared.names.LaneId.{LaneId}
use Rattle.key_names.specs.Texts.ScriptGrammar.{Script}
use Rattle.key_names.proofs.Lists.Each.{each_append, each_weaker}
use Rattle.lane_table.specs.declared.view.Visit.{Visit}
use Rattle.lane_table.specs.declared.view.LaneView.{LaneView}
use Rattle.lane_table.specs.declared.view.View.{View}
use Rattle.lane_table.specs.LaneNumbers.{index_of}
use Rattle.lane_table.specs.WorldRule.{AllBegin, Begins, at, known_of}
use Rattle.lane_table.specs.Steps.{both_of, merged, with_list, halved, child as split_off}
use Rattle.lane_table.proofs.Rule.Shares.{merged_at, length_merged}
use Rattle.lane_table.proofs.Lists.VisitLists.{with_both}
use Rattle.caller_run.specs.Laws.{Run, IsOneOf}
use Rattle.caller_run.specs.Families.{Hears, RunsIn, Family, marked_by, Joined, SameShare}
use Rattle.caller_run.specs.Standing.{Start}

append_both : (xs ys : List (List Visit)) (log : List Visit) → AllBegin (xs ++ ys) log →
    AllBegin xs log × AllBegin ys log
append_both [] ys log all = (tt, all)
append_both (x ∷ xs) ys log all = let rest = append_both xs ys log all.1 in ((all.0, rest.0), rest.1)

module _ (v d : View) (long : length v.lanes ≡ length d.lanes) where
  pub both_at : (lane : ℕ) → at lane (both_of v d) ≡ merged (at lane v) (at lane d)
  both_at lane = merged_at v.lanes d.lanes lane long

  pub both_sized : length (both_of v d).lanes ≡ length v.lanes
  both_sized = length_merged v.lanes d.lanes long

  pub both_hear : (visits : ℕ → List Visit) → Hears visits (both_of v d) → Hears visits v × Hears visits d
  both_hear visits h = (
    record { known = λ lane low. (each lane low).0; heard = λ lane low. (each lane low).1 },
    record {
      known = λ lane low. (each lane (let e = long in omega arith)).2;
      heard = λ lane low. (each lane (let e = long in omega arith)).3;
    },
  )
    where
      each : (lane : ℕ) → lane < length v.lanes → Begins (known_of v lane) (visits lane)
          × AllBegin (at lane v).heard (visits lane) × Begins (known_of d lane) (visits lane)
          × AllBegin (at lane d).heard (visits lane)
      each lane low =
          let all : AllBegin (with_list (known_of v lane) (with_list (known_of d lane)
          ((at lane v).heard ++ (at lane d).heard))) (visits lane) =
          subst (λ (a : LaneView). AllBegin a.heard (visits lane)) (both_at lane)
          (h.heard lane (let e = both_sized in omega arith)) in
          let one = with_both (known_of v lane) (with_list (known_of d lane)
          ((at lane v).heard ++ (at lane d).heard)) (visits lane) all in
          let two = with_both (known_of d lane) ((at lane v).heard ++ (at lane d).heard) (visits lane) one.1 in
          let rest = append_both (at lane v).heard (at lane d).heard (visits lane) two.1 in
          (one.0, rest.0, two.0, rest.1)

  pub both_placed : (f : ℕ → ℕ) (lane : ℕ) →
      sum_by f (at lane (both_of v d)).places ≡ sum_by f (at lane v).places + sum_by f (at lane d).places
  both_placed f lane = ap (λ (a : LaneView). sum_by f a.places) (both_at lane)
      ∙ sum_by-append f (at lane v).places (at lane d).places

  pub both_made : (lane : ℕ) → (at lane (both_of v d)).made ≡ (at lane v).made + (at lane d).made
  both_made lane = ap (λ (a : LaneView). a.made) (both_at lane)

-- if a pass joined no other, `Joined` holds with no runs
pub joined_nothing : (v : View) → Joined v v []
joined_nothing v = record {
  sized = refl;
  hears = λ visits h. (h, tt);
  alike = tt;
  placed = λ f lane low. omega arith;
  made = λ lane low. omega arith;
}

-- the pass of the run `r` has made its last visit. In each lane, a sum over the places of its own visits equals the sum
-- over the places of the marks in the lines of `r`
pub record OwnPlaces (r : Run) : Type 0 where
  pub placed : (f : ℕ → ℕ) (lane : LaneId) → index_of lane < length r.end.lanes →
      sum_by f (at (index_of lane) r.end).places ≡ marked_by f lane r
  pub made : (lane : LaneId) → index_of lane < length r.end.lanes →
      (at (index_of lane) r.end).made ≡ marked_by (λ p. 1) lane r

-- suppose that a pass, after it joined the passes of the runs `xs`, joins the pass of the run `r`. The pass of `r` had
-- joined the passes of the runs `ys`
module _ (v w d : View) (r : Run) (xs ys : List Run) (mine : Joined v w xs) (theirs : Joined r.end d ys)
    (own : OwnPlaces r) (alike : length r.end.lanes ≡ length v.lanes) where
  long : length w.lanes ≡ length d.lanes
  long = let a = mine.sized in let b = theirs.sized in omega arith

  abbrev all : List Run
  all = (r ∷ ys) ++ xs

  pub joined_then : Joined v (both_of w d) all
  joined_then = record {
    sized = both_sized w d long ∙ mine.sized;
    hears = λ visits h. (let k = both_hear w d long visits h in
        let a = mine.hears visits k.0 in let b = theirs.hears visits k.1 in
        (a.0, each_append (λ (q : Run). Hears visits q.end) (r ∷ ys) xs (b.0, b.1) a.1));
    alike = each_append (λ (q : Run). length q.end.lanes ≡ length v.lanes) (r ∷ ys) xs (
      alike,
      each_weaker (λ (q : Run). length q.end.lanes ≡ length r.end.lanes)
          (λ (q : Run). length q.end.lanes ≡ length v.lanes) ys (λ q e. e ∙ alike) theirs.alike,
    ) mine.alike;
    placed = λ f lane low.
        (let a = both_placed w d long f (index_of lane) in let b = mine.placed f lane low in
        let c = theirs.placed f lane (omega arith) in let e = own.placed f lane (omega arith) in
        let g = sum_by-append (marked_by f lane) (r ∷ ys) xs in let h = sum_by-cons (marked_by f lane) r ys in
        omega arith);
    made = λ lane low.
        (let a = both_made w d long (index_of lane) in let b = mine.made lane low in
        let c = theirs.made lane (omega arith) in let e = own.made lane (omega arith) in
        let g = sum_by-append (marked_by (λ p. 1) lane) (r ∷ ys) xs in
        let h = sum_by-cons (marked_by (λ p. 1) lane) r ys in omega arith);
  }

-- an element x of `xs` is also an element of `xs ++ ys`
one_more : {X : Type 0} (x : X) (xs ys : List X) → IsOneOf x xs → IsOneOf x (xs ++ ys)
one_more x [] ys here = absurd here
one_more x (y ∷ xs) ys (inl same) = inl same
one_more x (y ∷ xs) ys (inr rest) = inr (one_more x xs ys rest)

one_after : {X : Type 0} (x : X) (xs ys : List X) → IsOneOf x ys → IsOneOf x (xs ++ ys)
one_after x [] ys here = here
one_after x (y ∷ xs) ys here = inr (one_after x xs ys here)

-- two families of callers together are a family
pub family_both : (script : Script) (ss ts : List Start) (xs ys : List Run) → Family script ss xs →
    Family script ts ys → Family script (ss ++ ts) (xs ++ ys)
family_both script ss ts xs ys a b = record {
  each = each_append (RunsIn script) xs ys a.each b.each;
  began = each_append _ xs ys
      (each_weaker _ _ xs (λ r how. elim how [
        | inl start ↦ inl (one_more r.begun ss ts start)
        | inr p ↦ inr (p.0, one_more p.0 xs ys p.1, p.2)
      ]) a.began)
      (each_weaker _ _ ys (λ r how. elim how [
        | inl start ↦ inl (one_after r.begun ss ts start)
        | inr p ↦ inr (p.0, one_after p.0 xs ys p.1, p.2)
      ]) b.began);
}

-- a caller, with the family of the callers that it forked, is a family
pub family_own : (script : Script) (r : Run) (runs : List Run) → RunsIn script r → Family script r.kids runs →
    Family script (r.begun ∷ []) (r ∷ runs)
family_own script r runs has f = record {
  each = (has, f.each);
  began = (
    inl (inl refl),
    each_weaker _ _ runs (λ q how. elim how [
      | inl kid ↦ inr (r, inl refl, kid)
      | inr p ↦ inr (p.0, inr p.1, p.2)
    ]) f.began,
  );
}

-- The share of a pass after it joined the other part of its split

share_join : (s a b A B W D H T : ℕ) → a * (2 * H) ≡ s * W → b * (2 * H) ≡ s * D → A * W ≡ T → B * D ≡ T →
    (a * A + b * B) * H ≡ s * T
share_join s a b A B W D H T e f g h =
    let e' : a * (2 * H) * A ≡ s * W * A = ap (λ (z : ℕ). z * A) e in
    let f' : b * (2 * H) * B ≡ s * D * B = ap (λ (z : ℕ). z * B) f in
    let g' : s * (A * W) ≡ s * T = ap (λ (z : ℕ). s * z) g in
    let h' : s * (B * D) ≡ s * T = ap (λ (z : ℕ). s * z) h in omega arith

pub share_both : (u w d : View) → SameShare (halved u) w → SameShare (split_off u) d → SameShare u (both_of w d)
share_both u w d mine theirs =
    let most : ℕ = max w.halvings d.halvings in
    let two : 2 ^ (u.halvings + 1) ≡ 2 * 2 ^ u.halvings = (let e = pow-add 2 u.halvings 1 in omega arith) in
    let e : w.share * (2 * 2 ^ u.halvings) ≡ u.share * 2 ^ w.halvings =
    ap (λ (z : ℕ). w.share * z) (sym two) ∙ mine in
    let f : d.share * (2 * 2 ^ u.halvings) ≡ u.share * 2 ^ d.halvings =
    ap (λ (z : ℕ). d.share * z) (sym two) ∙ theirs in
    let g : 2 ^ (most - w.halvings) * 2 ^ w.halvings ≡ 2 ^ most =
    sym (pow-add 2 (most - w.halvings) w.halvings)
    ∙ ap (λ (z : ℕ). 2 ^ z) (let q : most - w.halvings + w.halvings ≡ most = omega arith in q) in
    let h : 2 ^ (most - d.halvings) * 2 ^ d.halvings ≡ 2 ^ most =
    sym (pow-add 2 (most - d.halvings) d.halvings)
    ∙ ap (λ (z : ℕ). 2 ^ z) (let q : most - d.halvings + d.halvings ≡ most = omega arith in q) in
    share_join u.share w.share d.share (2 ^ (most - w.halvings)) (2 ^ (most - d.halvings)) (2 ^ w.halvings)
    (2 ^ d.halvings) (2 ^ u.halvings) (2 ^ most) e f g h
