-- The numbers that `try_take` reads, and the view if it does not get the lane.
use Rattle.std.proofs.Common.{◌≡◌, ◌≢◌, ℕ, ◌+◌, ◌^◌, ◌<◌, ◌≤◌, length, ap, ◌∙◌, inl, inr, arith}
use Rattle.lane_table.specs.declared.view.LaneView.{LaneView}
use Rattle.lane_table.specs.WorldRule.{at}
use Rattle.lane_table.specs.Steps.{Seated, finding, loaded, found, waiting, queued_found}
use Rattle.lane_table.specs.Calls.{IsBusy, IsSpent, Tried}
use Rattle.lane_table.proofs.Rule.Restaging.{Restages, restages_both, restages_loaded, restages_found, restages_queued_found, restages_to, to_here, to_long, to_tried}

-- the serving number `n` was loaded, and then the ticket number `k` was found
module _ (i n k : ℕ) (m m₁ m₂ : Seated) (near : i < length m.0.lanes) (at₁ : m₁ ≡ loaded i n m)
    (at₂ : m₂ ≡ found i k m₁) where
  one : Restages i m m₁
  one = restages_to (restages_loaded i n m) at₁

  near₁ : i < length m₁.0.lanes
  near₁ = let e = to_long one near in omega arith

  pub two : Restages i m m₂
  two = restages_both near one (restages_to (restages_found i k m₁) at₂)

  near₂ : i < length m₂.0.lanes
  near₂ = let e = to_long two near in omega arith

  here₁ : at i m₁.0 ≡ record (at i m.0) { loaded = n }
  here₁ = ap (λ (z : Seated). at i z.0) at₁ ∙ to_here (restages_loaded i n m) near

  here₂ : at i m₂.0 ≡ record (at i m.0) { loaded = n; found = k }
  here₂ = ap (λ (z : Seated). at i z.0) at₂ ∙ to_here (restages_found i k m₁) near₁
      ∙ ap (λ (a : LaneView). record a { found = k }) here₁

  -- the loaded serving number is at most a ticket number found later
  pub loaded_below : (r : ℕ) → (at i m₁.0).loaded ≤ r → n ≤ r
  loaded_below r low = let e = ap (λ (a : LaneView). a.loaded) here₁ in omega arith

  pub loaded_still : (at i m₂.0).loaded ≡ n
  loaded_still = ap (λ (a : LaneView). a.loaded) here₂

  pub away_still : (at i m₂.0).stage ≡ (at i m.0).stage
  away_still = ap (λ (a : LaneView). a.stage) here₂

  pub found_now : (at i m₂.0).found ≡ k
  found_now = ap (λ (a : LaneView). a.found) here₂

  still_drawn : m₂.0.drawn ≡ m.0.drawn
  still_drawn = ap (λ (z : Seated). z.0.drawn) at₂ ∙ ap (λ (z : Seated). z.0.drawn) at₁

  pub tried : Tried i m m₂
  tried = to_tried two near away_still still_drawn

  -- the exchange of the ticket word found the number `q`
  module _ (q : ℕ) (m₃ : Seated) where
    module _ (at₃ : m₃ ≡ found i q m₂) where
      missed : at i m₃.0 ≡ record (at i m.0) { loaded = n; found = q }
      missed = ap (λ (z : Seated). at i z.0) at₃ ∙ to_here (restages_found i q m₂) near₂
          ∙ ap (λ (a : LaneView). record a { found = q }) here₂

      not_drawn : m₃.0.drawn ≡ m.0.drawn
      not_drawn = ap (λ (z : Seated). z.0.drawn) at₃ ∙ still_drawn

      pub missed_tried : Tried i m m₃
      missed_tried = to_tried (restages_both near two (restages_to (restages_found i q m₂) at₃)) near
          (ap (λ (a : LaneView). a.stage) missed) not_drawn

      pub missed_spent : 2 ^ 62 ≤ q → IsSpent i m m₃
      missed_spent high = inr (inl (let e = ap (λ (a : LaneView). a.found) missed in omega arith))

      pub missed_busy : m.0.stamp < 2 ^ 62 → q < 2 ^ 62 → n ≤ q → n ≢ q → IsBusy i n q m m₃
      missed_busy stamp low above ne = let e = ap (λ (a : LaneView). a.found) missed in record {
        unspent = record {
          stamp = stamp;
          ticket = omega arith;
          last = λ d. (let f = not_drawn in absurd (omega arith));
        };
        above = omega arith;
        loaded = ap (λ (a : LaneView). a.loaded) missed;
        found = e;
        drawn = not_drawn;
      }

    module _ (at₃ : m₃ ≡ queued_found i q m₂) where
      pub three : Restages i m m₃
      three = restages_both near two (restages_to (restages_queued_found i q m₂) at₃)

      pub three_drawn : m₃.0.drawn ≡ m.0.drawn + 1
      three_drawn = ap (λ (z : Seated). z.0.drawn) at₃ ∙ ap (λ (n : ℕ). n + 1) still_drawn

      pub three_here : at i m₃.0 ≡ waiting q (record (at i m.0) { loaded = n; found = q })
      three_here = ap (λ (z : Seated). at i z.0) at₃ ∙ to_here (restages_queued_found i q m₂) near₂
          ∙ ap (λ (a : LaneView). waiting q (finding q a)) here₂
