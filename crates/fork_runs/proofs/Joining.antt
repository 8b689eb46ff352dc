-- What a child's pass knows of the lanes after it took in its parent's pass.
use Rattle.std.proofs.Common.{◌≡◌, ℕ, ◌+◌, ◌*◌, ◌-◌, ◌^◌, ◌≤◌, ◌⊎◌, inl, inr, Bool, true, false, max, List, length, refl, sym, ap, ◌∙◌, arith}
use Rattle.std.specs.Prelude.{if◌then◌else◌, nat_lt}
use Rattle.std.proofs.Math.ListN.{get_or-map}
use Rattle.key_names.specs.Callers.VreadSteps.{published_by}
use Rattle.lane_table.specs.declared.view.LaneView.{LaneView}
use Rattle.lane_table.specs.declared.view.View.{View}
use Rattle.lane_table.specs.declared.view.Visit.{Visit}
use Rattle.lane_table.specs.Advances.{floor}
use Rattle.lane_table.specs.Meaning.{replay}
use Rattle.lane_table.specs.Steps.{both_of, longer, merged, recorded}
use Rattle.lane_table.specs.Steps as steps
use Rattle.lane_table.specs.WorldRule.{at, blank, known_of}
use Rattle.lane_table.proofs.Rule.Shares.{merged_at}
use Rattle.rng_core.proofs.Hosting.{published_more}

-- if two passes each have a half of the share, they have the whole share together
pub whole_again : (a b c d : ℕ) → a ≡ 1 → b ≡ 1 → c ≡ 1 → d ≡ 1 →
    a * 2 ^ (max c d - c) + b * 2 ^ (max c d - d) ≡ 2 ^ max c d
whole_again a b c d p q r s =
    (λ i. p i * 2 ^ (max (r i) (s i) - r i) + q i * 2 ^ (max (r i) (s i) - s i)) ∙ sym (λ i. 2 ^ max (r i) (s i))

pub child_at : (v : View) (lane : ℕ) → at lane (steps.child v) ≡ recorded (at lane v)
child_at v lane = get_or-map recorded v.lanes lane blank

pub floor_child : (v : View) → floor (steps.child v) ≡ floor v
floor_child v = ap (λ (a : LaneView). max v.seen (replay a.known).base.generation) (child_at v 1)

one_of_them : (xs ys : List Visit) → (longer xs ys ≡ xs) ⊎ (longer xs ys ≡ ys)
one_of_them xs ys = go (nat_lt (length xs) (length ys))
  where
    go : (b : Bool) → ((if b then ys else xs) ≡ xs) ⊎ ((if b then ys else xs) ≡ ys)
    go true = inr refl
    go false = inl refl

-- if each of the two views `v` and `w` has seen a generation that is published as `low` or a higher number, the joined
-- view has seen one too
pub joined_floor : (low : ℕ) (v w : View) → length v.lanes ≡ length w.lanes → low ≤ published_by (floor v) →
    low ≤ published_by (floor w) → low ≤ published_by (floor (both_of v w))
joined_floor low v w long first second =
    let base : List Visit → ℕ = λ l. (replay l).base.generation in
    let known : known_of (both_of v w) 1 ≡ longer (known_of v 1) (known_of w 1) =
    ap (λ (a : LaneView). a.known) (merged_at v.lanes w.lanes 1 long) in
    elim (one_of_them (known_of v 1) (known_of w 1)) [
      | inl same ↦
          let e : base (known_of (both_of v w) 1) ≡ base (known_of v 1) = ap base (known ∙ same) in
          let up : floor v ≤ floor (both_of v w) = omega arith in
          let more = published_more (floor v) (floor (both_of v w)) up in omega arith
      | inr same ↦
          let e : base (known_of (both_of v w) 1) ≡ base (known_of w 1) = ap base (known ∙ same) in
          let up : floor w ≤ floor (both_of v w) = omega arith in
          let more = published_more (floor w) (floor (both_of v w)) up in omega arith
    ]
