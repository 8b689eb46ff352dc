-- An example of the law of a caller's own states: two reads out of one state.
use Rattle.std.specs.Prelude.{◌≡◌, ℕ, ◌<◌, List, [], ◌∷◌}
use Rattle.key_names.specs.declared.events.Answer.{Answer}
use Rattle.key_names.specs.Transcripts.SeenLine.{Shown}
use Rattle.key_names.specs.Kernel.VgetrandomState.{VgetrandomState, wiped_state}
use Rattle.lane_table.specs.WorldRule.{St, WorldRule}
use Rattle.lane_table.specs.RuleLaws.{IsView}
use Rattle.rng_core.specs.declared.setting.Setting.{Setting}
use Rattle.rng_core.specs.Traces.{Moment}
use Rattle.rng_core.specs.VreadMakes.{VreadMakes}
use Rattle.rng_core.specs.OwnStates.{OwnUse, by_vread, OwnBook, own_lists}

-- suppose that two reads have the effect `VreadMakes`, and that the first one begins with a wiped state. The second
-- begins with the state and the view that the first left. If a pass of the table has the view after both reads,
-- `OwnBook` holds for the table's lists and this state's entries
abbrev pub TwoReadsHaveABook : Type 0
TwoReadsHaveABook = (n₁ n₂ flags₁ flags₂ : ℕ) (t₁ t₂ : VgetrandomState) (answer₁ answer₂ : Answer)
    (shown₁ shown₂ : Shown) (set₁ set₂ : Setting) (l₁ m₁ l₂ m₂ : Moment)
    (first_read : VreadMakes n₁ flags₁ wiped_state t₁ answer₁ shown₁ set₁ l₁ m₁)
    (then_read : VreadMakes n₂ flags₂ t₁ t₂ answer₂ shown₂ set₂ l₂ m₂) →
    l₂.view ≡ m₁.view → 0 < m₂.view.share → (first : ℕ) (s : St) (j : ℕ) (r : WorldRule first s) → IsView s j m₂.view →
    let uses : List OwnUse = by_vread n₁ flags₁ wiped_state t₁ answer₁ shown₁ set₁ l₁ m₁ first_read
    ∷ by_vread n₂ flags₂ t₁ t₂ answer₂ shown₂ set₂ l₂ m₂ then_read ∷ [] in
    OwnBook (own_lists s r.logs (uses ∷ [])) (uses ∷ [])
