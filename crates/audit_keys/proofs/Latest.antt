-- `latest_of`, the greatest stamp of some visits, does not depend on their order. So the code may count the vread's own
-- visits first, and the visits of the acts after them.
use Rattle.std.proofs.Common.{◌≡◌, ℕ, ◌≤◌, max, Bool, true, false, List, [], ◌∷◌, ◌++◌, refl, sym, ap, ◌∙◌, append_assoc, arith, take, drop}
use Rattle.std.specs.Prelude.{if◌then◌else◌, slice_get}
use Rattle.std.specs.Option.{option_map_or}
use Rattle.key_names.specs.declared.names.Step.{Step}
use Rattle.key_names.specs.declared.names.Step.TheVariants.{Look, Visit as Marked}
use Rattle.key_names.specs.declared.point.Point.{Point}
use Rattle.key_names.specs.declared.point.Point.TheVariants.{Start, Written, Serve, End}
use Rattle.key_names.specs.Callers.Calls.{BoundAct}
use Rattle.key_names.specs.Callers.History.{is_mark, steps_at_point, cut_after_visits, cut_after_rekey, vread_steps}
use Rattle.key_names.specs.Kernel.Points.{is_same_point}
use Rattle.std.proofs.lemmas.List.{take-append-drop}
use Rattle.audit_keys.specs.Stamps.{latest_of}

pub latest-append : (stamp : ℕ) (a b : List Step) → latest_of stamp (a ++ b) ≡ latest_of (latest_of stamp a) b
latest-append stamp [] b = refl
latest-append stamp (Look g ∷ a) b = latest-append stamp a b
latest-append stamp (Marked mark ∷ a) b = latest-append (max stamp mark.stamp) a b

latest_max : (stamp : ℕ) (a : List Step) → latest_of stamp a ≡ max stamp (latest_of 0 a)
latest_max stamp [] = omega arith
latest_max stamp (Look g ∷ a) = latest_max stamp a
latest_max stamp (Marked mark ∷ a) =
    let one = latest_max (max stamp mark.stamp) a in
    let other = latest_max (max 0 mark.stamp) a in omega arith

pub latest_above : (stamp : ℕ) (a : List Step) → stamp ≤ latest_of stamp a
latest_above stamp a = let is = latest_max stamp a in omega arith

latest_swaps : (stamp : ℕ) (a b : List Step) → latest_of (latest_of stamp a) b ≡ latest_of (latest_of stamp b) a
latest_swaps stamp a b =
    let one = latest_max stamp a in let two = latest_max (latest_of stamp a) b in
    let three = latest_max stamp b in let four = latest_max (latest_of stamp b) a in omega arith

-- ---- the order of the visits in a vread ----

visits_whole : (steps : List Step) → (cut_after_visits steps).0 ++ (cut_after_visits steps).1 ≡ steps
visits_whole [] = refl
visits_whole (Look g ∷ steps) = refl
visits_whole (Marked mark ∷ steps) = ap (λ s. Marked mark ∷ s) (visits_whole steps)

rekey_whole : (steps : List Step) → (cut_after_rekey steps).0 ++ (cut_after_rekey steps).1 ≡ steps
rekey_whole steps = go (option_map_or is_mark (slice_get steps 2) false)
  where
    cut : List Step × List Step
    cut = cut_after_visits (drop 2 steps)

    go : (b : Bool) → let parts : List Step × List Step = if b then (take 2 steps ++ cut.0, cut.1) else ([], steps) in
        parts.0 ++ parts.1 ≡ steps
    go true = append_assoc (take 2 steps) cut.0 cut.1 ∙ ap (λ s. take 2 steps ++ s) (visits_whole (drop 2 steps))
        ∙ take-append-drop 2 steps
    go false = refl

-- the steps of the act `bound` count at the act's own point; at other points they do not count
pub at_point : (stamp : ℕ) (bound : BoundAct) (acts : List BoundAct) (point : Point) → is_same_point bound.point point ≡ true →
    latest_of stamp (steps_at_point (bound ∷ acts) point)
    ≡ latest_of (latest_of stamp bound.line.steps) (steps_at_point acts point)
at_point stamp bound acts point is =
    rw is (latest-append stamp bound.line.steps (steps_at_point acts point))

pub elsewhere : (stamp : ℕ) (bound : BoundAct) (acts : List BoundAct) (point : Point) → is_same_point bound.point point ≡ false →
    latest_of stamp (steps_at_point (bound ∷ acts) point) ≡ latest_of stamp (steps_at_point acts point)
elsewhere stamp bound acts point is = rw is refl

-- in the greatest stamp of seven lists of steps, the lists `c` and `d` may be counted right after `a`
parts_move : (s : ℕ) (a p q c r t d : List Step) →
    latest_of s (a ++ p ++ q ++ c ++ r ++ t ++ d)
    ≡ latest_of (latest_of (latest_of (latest_of (latest_of s (a ++ c ++ d)) p) q) r) t
parts_move s a p q c r t d =
    latest-append s (a ++ p ++ q ++ c ++ r ++ t) d
    ∙ ap (λ z. latest_of z d) (latest-append s (a ++ p ++ q ++ c ++ r) t)
    ∙ ap (λ z. latest_of (latest_of z t) d) (latest-append s (a ++ p ++ q ++ c) r)
    ∙ ap (λ z. latest_of (latest_of (latest_of z r) t) d)
    (latest-append s (a ++ p ++ q) c ∙ ap (λ z. latest_of z c) (latest-append s (a ++ p) q)
    ∙ ap (λ z. latest_of (latest_of z q) c) (latest-append s a p) ∙ latest_swaps (latest_of x p) q c
    ∙ ap (λ z. latest_of z q) (latest_swaps x p c))
    ∙ latest_swaps (latest_of (latest_of (latest_of y p) q) r) t d
    ∙ ap (λ z. latest_of z t) (latest_swaps (latest_of (latest_of y p) q) r d)
    ∙ ap (λ z. latest_of (latest_of z r) t) (latest_swaps (latest_of y p) q d)
    ∙ ap (λ z. latest_of (latest_of (latest_of z q) r) t) (latest_swaps y p d)
    ∙ ap (λ z. latest_of (latest_of (latest_of (latest_of z p) q) r) t)
    (sym (latest-append s (a ++ c) d ∙ ap (λ z. latest_of z d) (latest-append s a c)))
  where
    x : ℕ
    x = latest_of s a

    y : ℕ
    y = latest_of (latest_of s a) c

-- the visits of the acts inside a vread may be counted after the vread's own visits
pub latest_vread : (stamp : ℕ) (steps : List Step) (acts : List BoundAct) →
    latest_of stamp (vread_steps steps acts)
    ≡ latest_of (latest_of (latest_of (latest_of (latest_of stamp steps) (steps_at_point acts Start))
    (steps_at_point acts Written)) (steps_at_point acts Serve)) (steps_at_point acts End)
latest_vread stamp steps acts =
    let cut : List Step × List Step = cut_after_rekey (drop 2 steps) in
    let whole : take 2 steps ++ cut.0 ++ cut.1 ≡ steps =
    append_assoc (take 2 steps) cut.0 cut.1 ∙ ap (λ s. take 2 steps ++ s) (rekey_whole (drop 2 steps))
    ∙ take-append-drop 2 steps in
    parts_move stamp (take 2 steps) (steps_at_point acts Start) (steps_at_point acts Written) cut.0 (steps_at_point acts Serve)
    (steps_at_point acts End) cut.1
    ∙ ap (λ s. latest_of (latest_of (latest_of (latest_of (latest_of stamp s) (steps_at_point acts Start))
    (steps_at_point acts Written)) (steps_at_point acts Serve)) (steps_at_point acts End)) whole
