-- The visits that a caller's calls make, one call after the other.
use Rattle.std.proofs.Common.{ℕ, List, [], ◌∷◌, ◌++◌, sym, subst}
use Rattle.std.proofs.lemmas.Grind.{flat_map-append}
use Rattle.key_names.specs.declared.names.Step.{Step}
use Rattle.key_names.specs.Callers.Effects.{Effect}
use Rattle.key_names.specs.Transcripts.IsTranscript.{marks_from}
use Rattle.lane_table.specs.declared.view.View.{View}
use Rattle.rng_core.proofs.Paths.{Path, path_none, path_then, path_recorded}
use Rattle.fork_runs.specs.Runs.{DidAll}
use Rattle.rng_core.specs.Settings.{first_setting}
use Rattle.fork_runs.specs.TableForks.{marks_of}

-- if a caller made one call with the steps `steps`, it made exactly the visits of these steps
pub path_did : {P : List Effect → Type 0} (caller : ℕ) (v w : View) (steps : List Step) →
    DidAll P (first_setting caller) v steps w → Path v w (marks_of caller (steps ∷ []))
path_did caller v w steps k = path_then v w w (marks_from caller 0 0 steps) []
    (path_recorded (first_setting caller) v w steps k.made_steps k.recorded) (path_none w)

-- if a caller made the calls `xs`, and then the calls `ys`, it made the visits of both
pub path_calls : (caller : ℕ) (u v w : View) (xs ys : List (List Step)) → Path u v (marks_of caller xs) →
    Path v w (marks_of caller ys) → Path u w (marks_of caller (xs ++ ys))
path_calls caller u v w xs ys a b = subst (Path u w) (sym (flat_map-append (marks_from caller 0 0) xs ys))
    (path_then u v w (marks_of caller xs) (marks_of caller ys) a b)
