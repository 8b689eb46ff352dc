-- If a call is stopped in its first attempt, goes on, and is stopped in its second attempt, the second stop is a stop
-- of the whole call. If a stopped call forks, the state is not wiped at that point in the parent's call, and is wiped
-- at that point in the child's call.
use Rattle.std.proofs.Common.{◌≡◌, ℕ, false, true, List, [], ◌∷◌, ◌++◌, refl, sym, subst, append_assoc}
use Rattle.std.specs.List.{AllByRecursion}
use Rattle.key_names.specs.declared.entries.VEntry.{VEntry}
use Rattle.key_names.specs.declared.entries.VEntry.TheVariants.{Wipe}
use Rattle.key_names.specs.declared.point.Point.{Point}
use Rattle.key_names.specs.declared.point.Point.TheVariants.{Serve}
use Rattle.key_names.specs.Kernel.Vgetrandom.{HostStep, at_point, Outcome, prefix_outcome, IsCall}
use Rattle.key_names.specs.Kernel.VgetrandomState.{VgetrandomState, wiped_state}
use Rattle.key_names.specs.Callers.VreadSteps.{PointReached, points_of}
use Rattle.key_names.proofs.Lists.Each.{each_append}
use Rattle.vdso_state.specs.declared.place.Turn.{Turn}
use Rattle.vdso_state.specs.declared.place.Turn.TheVariants.{First, Second}
use Rattle.vdso_state.specs.Places.{AfterPlace}
use Rattle.vdso_state.proofs.Leading.{points_append}
use Rattle.vcall_fork.specs.declared.stage.Stage.TheVariants.{New}
use Rattle.vcall_fork.specs.Forks.{ForkIsRecorded, ForksAreRecorded}
use Rattle.fork_runs.specs.Stretches.{Stop}

module _ (law : ForksAreRecorded) (n flags : ℕ) (s : VgetrandomState) (turn : Turn) (point : Point)
    (stop : Stop (IsCall n flags s) n flags turn point) where
  is_recorded : ForkIsRecorded New [] s n flags stop.place stop.held stop.state stop.before stop.entries
  is_recorded = law New [] s n flags stop.place stop.held stop.state stop.before stop.entries stop.leads

  pub parents_call : (rest : List HostStep) (outcome : Outcome) →
      AfterPlace n flags stop.place stop.held stop.state rest outcome →
      IsCall n flags s (stop.before ++ at_point point false ∷ rest) (prefix_outcome stop.entries outcome)
  parents_call rest outcome r =
      subst (λ (p : Point). IsCall n flags s (stop.before ++ at_point p false ∷ rest)
      (prefix_outcome stop.entries outcome)) stop.point_is (is_recorded.parent rest outcome r)

  pub childs_call : (rest : List HostStep) (outcome : Outcome) →
      AfterPlace n flags stop.place stop.held wiped_state rest outcome →
      IsCall n flags s (stop.before ++ at_point point true ∷ rest)
      (prefix_outcome stop.entries (prefix_outcome (Wipe ∷ []) outcome))
  childs_call rest outcome r =
      subst (λ (p : Point). IsCall n flags s (stop.before ++ at_point p true ∷ rest)
      (prefix_outcome stop.entries (prefix_outcome (Wipe ∷ []) outcome))) stop.point_is (is_recorded.child rest outcome r)

module _ (law : ForksAreRecorded) (n flags : ℕ) (s : VgetrandomState) (point : Point) (a : Stop (IsCall n flags s) n flags First Serve)
    (b : Stop (AfterPlace n flags a.place a.held a.state) n flags Second point) where
  abbrev pub both : List HostStep
  both = a.before ++ at_point Serve false ∷ b.before

  pub leads_on : (rest : List HostStep) (outcome : Outcome) →
      IsCall n flags s (a.before ++ at_point Serve false ∷ (b.before ++ rest))
      (prefix_outcome a.entries (prefix_outcome b.entries outcome)) →
      IsCall n flags s (both ++ rest) (prefix_outcome (a.entries ++ b.entries) outcome)
  leads_on rest outcome k =
      subst (λ (steps : List HostStep). IsCall n flags s steps (prefix_outcome (a.entries ++ b.entries) outcome))
      (sym (append_assoc a.before (at_point Serve false ∷ b.before) rest))
      (subst (λ (es : List VEntry). IsCall n flags s (a.before ++ at_point Serve false ∷ (b.before ++ rest))
      (record outcome { entries = es })) (sym (append_assoc a.entries b.entries outcome.entries)) k)

  abbrev pub stop_then : Stop (IsCall n flags s) n flags Second point
  stop_then = record {
    place = b.place;
    turn_is = b.turn_is;
    point_is = b.point_is;
    ready = b.ready;
    held = b.held;
    state = b.state;
    before = both;
    unwiped = subst (AllByRecursion (λ (reached : PointReached). reached.wiped ≡ false))
        (sym (points_append a.before (at_point Serve false ∷ b.before)))
        (each_append (λ (reached : PointReached). reached.wiped ≡ false) (points_of a.before)
        (points_of (at_point Serve false ∷ b.before)) a.unwiped (refl, b.unwiped));
    entries = a.entries ++ b.entries;
    leads = λ rest outcome is. leads_on rest outcome
        (parents_call law n flags s First Serve a (b.before ++ rest) (prefix_outcome b.entries outcome)
        (b.leads rest outcome is));
  }
