-- Counts of samples and bits, from the visits of the pool that are kept.
use Rattle.std.specs.Prelude.{ℕ, suc, ◌+◌, Bool, not, ◌&&◌, Option, Some, None, List, [], ◌∷◌, if◌then◌else◌, slice_get}
use Rattle.std.specs.Option.{is_some}
use Rattle.key_names.specs.Texts.ScriptGrammar.{Script}
use Rattle.judge_log.specs.declared.kept.KeptPool.{KeptPool}
use Rattle.audit_keys.specs.declared.moments.Moment.{Moment}
use Rattle.key_audit.specs.Sources.{event_at, hands_sample}

abbrev pub is_kept_sample : Script → KeptPool → Moment → Bool
is_kept_sample script kept moment =
    not (is_some kept.root) && hands_sample (event_at script moment.line.caller moment.line.event)

-- 1 if the pool's visit `kept` was made for a sample, and 0 otherwise or if it has no moment
abbrev pub sample_count : Script → KeptPool → Option Moment → ℕ
sample_count script kept None = 0
sample_count script kept (Some moment) = if is_kept_sample script kept moment then 1 else 0

-- how many of `kept`, the pool's visits from place `i` on, were made for a sample
abbrev pub kept_samples : Script → ℕ → List KeptPool → List Moment → ℕ
kept_samples script i [] moments = 0
kept_samples script i (k ∷ kept) moments =
    sample_count script k (slice_get moments i) + kept_samples script (suc i) kept moments

abbrev pub kept_bits : Option KeptPool → ℕ
kept_bits None = 0
kept_bits (Some kept) = kept.before
