-- Two successive reads out of one vgetrandom state of a caller satisfy the conditions of the law `OwnStatesAreLawful`.
use Rattle.std.proofs.Common.{◌≡◌, ℕ, ◌+◌, ◌<◌, ◌≤◌, cond, List, [], ◌∷◌, ◌++◌, length, get_or, refl, sym, ap, ◌∙◌, subst, arith}
use Rattle.std.specs.Prelude.{◌==◌}
use Rattle.std.specs.List.{sum_by}
use Rattle.std.proofs.lemmas.List.Sums.{sum_by-append, sum_by-cons}
use Rattle.key_names.specs.declared.events.Answer.{Answer}
use Rattle.key_names.specs.Transcripts.SeenLine.{Shown}
use Rattle.key_names.specs.Kernel.VgetrandomState.{VgetrandomState, wiped_state}
use Rattle.lane_table.specs.declared.view.LaneView.{LaneView}
use Rattle.lane_table.specs.declared.view.View.{View}
use Rattle.lane_table.specs.WorldRule.{Begins, St, WorldRule, at, blank, known_of, times}
use Rattle.lane_table.specs.Steps.{Grows, nobody}
use Rattle.lane_table.specs.RuleLaws.{IsView}
use Rattle.lane_table.specs.Advances.{places_in}
use Rattle.lane_table.proofs.Lists.Lists.{sum_at_set}
use Rattle.lane_table.proofs.Lists.VisitLists.{begins_refl}
use Rattle.rng_core.specs.declared.setting.Setting.{Setting}
use Rattle.rng_core.specs.Traces.{Moment}
use Rattle.rng_core.specs.VreadMakes.{VreadMakes}
use Rattle.rng_core.specs.OwnReads.{TwoReadsHaveABook}
use Rattle.rng_core.specs.OwnStates.{OwnUse, by_vread, IsKnown, OwnStates, visits_at, all_visits_at}
use Rattle.rng_core.proofs.OwnStates.{own_states_are_lawful}
use Rattle.rng_core.proofs.Readings.{stayed}

-- during one read, with the effect `k`, the number of lanes stays the same, and the lists that the pass knows grow. The
-- places of the read's visits are added to the places in the view
module _ {n flags : ℕ} {s t : VgetrandomState} {answer : Answer} {shown : Shown} {set : Setting} {l m : Moment}
    (k : VreadMakes n flags s t answer shown set l m) where
  lanes : k.looked.lanes ≡ l.view.lanes
  lanes = (stayed n flags s t answer shown set l m k).lanes

  read_long : length m.view.lanes ≡ length l.view.lanes
  read_long = k.did.recorded.went.same.sized ∙ ap length lanes

  read_grows : Grows l.view m.view
  read_grows = subst (λ (z : List LaneView). (j : ℕ) → j < length z → Begins (get_or z j blank).known (known_of m.view j))
      lanes k.did.recorded.went.grows

  read_places : (lane : ℕ) → lane < length l.view.lanes →
      (at lane m.view).places ≡ (at lane l.view).places ++ places_in lane k.did.made_steps
  read_places = subst (λ (z : List LaneView). (lane : ℕ) → lane < length z →
      (at lane m.view).places ≡ (get_or z lane blank).places ++ places_in lane k.did.made_steps)
      lanes k.did.recorded.went.places

-- if `f` is 0 for the blank view, `f` of one view is at most the sum of `f` over all views
one_of_all : (f : View → ℕ) (views : List View) (j : ℕ) (v : View) (s : St) → views ≡ s.views → IsView s j v →
    f nobody ≡ 0 → f v ≤ sum_by f views
one_of_all f views j v s are is none = let e = sum_at_set f s.views j v nobody is in
    let same = ap (sum_by f) are in omega arith

-- a first read has the effect `k₁`, and a second read has the effect `k₂`. The second begins with the state and the
-- view that the first left
module _ {n₁ n₂ f₁ f₂ : ℕ} {t₁ t₂ : VgetrandomState} {a₁ a₂ : Answer} {h₁ h₂ : Shown} {set₁ set₂ : Setting}
    {l₁ m₁ l₂ m₂ : Moment} (k₁ : VreadMakes n₁ f₁ wiped_state t₁ a₁ h₁ set₁ l₁ m₁)
    (k₂ : VreadMakes n₂ f₂ t₁ t₂ a₂ h₂ set₂ l₂ m₂) (goes_on : l₂.view ≡ m₁.view) (share : 0 < m₂.view.share) where
  abbrev one : OwnUse
  one = by_vread n₁ f₁ wiped_state t₁ a₁ h₁ set₁ l₁ m₁ k₁

  abbrev two : OwnUse
  two = by_vread n₂ f₂ t₁ t₂ a₂ h₂ set₂ l₂ m₂ k₂

  abbrev uses : List OwnUse
  uses = one ∷ two ∷ []

  module _ {first : ℕ} {s : St} (j : ℕ) (r : WorldRule first s) (is : IsView s j m₂.view) where
    before : IsKnown s m₁.view
    before = record {
      number = j;
      view = m₂.view;
      is = is;
      share = share;
      long = sym (read_long k₂ ∙ ap (λ (v : View). length v.lanes) goes_on);
      grows = subst (λ (v : View). Grows v m₂.view) goes_on (read_grows k₂);
    }

    now : IsKnown s m₂.view
    now = record {
      number = j;
      view = m₂.view;
      is = is;
      share = share;
      long = refl;
      grows = λ lane low. begins_refl (known_of m₂.view lane);
    }

    counted : (c p : ℕ) → c + 2 < length s.homes →
        all_visits_at c p (uses ∷ []) ≤ sum_by (λ (v : View). times p (at (c + 2) v).places) s.views
    counted c p near =
        let wide : length m₂.view.lanes ≡ length s.homes = ((r.views j m₂.view is).sized share).0 in
        let long₂ = read_long k₂ in let long₁ = read_long k₁ in
        let on = ap (λ (v : View). length v.lanes) goes_on in
        let first' : List ℕ = places_in (c + 2) k₁.did.made_steps in
        let then' : List ℕ = places_in (c + 2) k₂.did.made_steps in
        let e₁ = ap (times p) (read_places k₁ (c + 2) (omega arith)) in
        let e₂ = ap (times p) (read_places k₂ (c + 2) (omega arith)) in
        let e = ap (λ (v : View). times p (at (c + 2) v).places) goes_on in
        let one_more = λ (xs ys : List ℕ). sum_by-append (λ (q : ℕ). cond (q == p) 1 0) xs ys in
        let s₁ = one_more (at (c + 2) l₁.view).places first' in
        let s₂ = one_more (at (c + 2) l₂.view).places then' in
        let all = one_of_all (λ (v : View). times p (at (c + 2) v).places) s.views j m₂.view s refl is refl in
        let c₀ = sum_by-cons (λ (us : List OwnUse). sum_by (visits_at c p) us) uses [] in
        let c₁ = sum_by-cons (visits_at c p) one (two ∷ []) in
        let c₂ = sum_by-cons (visits_at c p) two [] in omega arith

    own_two : OwnStates s (uses ∷ [])
    own_two = record { follow = ((refl, (refl, tt)), tt); known = ((before, (now, tt)), tt); counted = counted }

pub two_reads_have_a_book : TwoReadsHaveABook
two_reads_have_a_book n₁ n₂ f₁ f₂ t₁ t₂ a₁ a₂ h₁ h₂ set₁ set₂ l₁ m₁ l₂ m₂ k₁ k₂ goes_on share first s j r is =
    own_states_are_lawful first s r (uses k₁ k₂ goes_on share ∷ []) (own_two k₁ k₂ goes_on share j r is)
