-- The setting (CPU, moment and hardware words) that a caller has before each of its calls.
use Rattle.std.specs.Prelude.{ℕ, ◌≡◌, Option, Some, None, List, [], ◌∷◌, length, slice_get, unwrap_or}
use Rattle.std.specs.Global.{Vec}
use Rattle.key_names.specs.Lanes.Book.{list_at}
use Rattle.key_names.specs.Callers.Calls.{Setting, Call, first_setting, setting_after_call}
use Rattle.key_names.specs.Transcripts.IsTranscript.{start_setting}
use Rattle.judge_lines.specs.declared.order.Fork.{Fork}

abbrev pub settings_from : Setting → List Call → List Setting
settings_from set [] = []
settings_from set (call ∷ calls) = set ∷ settings_from (setting_after_call set call) calls

-- the setting kept for the caller's call k, or the first setting if none is kept
abbrev pub found_by : Option (Vec Setting) → ℕ → Setting
found_by None k = first_setting
found_by (Some settings) k = unwrap_or (slice_get settings.items k) first_setting

-- the setting with which a fork's child starts: the parent's setting before the call that forks, or the first setting
-- if there is no fork
abbrev pub first_found : List (Vec Setting) → Option Fork → Setting
first_found settings None = first_setting
first_found settings (Some fork) = found_by (slice_get settings fork.parent) fork.calls

-- `settings` has, for each of `callers`, the setting before each of its calls
pub record AreSettings (callers : List (List Call)) (settings : List (Vec Setting)) : Type 0 where
  pub long : length settings ≡ length callers
  pub each : (c : ℕ) (found : Vec Setting) → slice_get settings c ≡ Some found →
      found.items ≡ settings_from (start_setting callers c) (list_at callers c)
