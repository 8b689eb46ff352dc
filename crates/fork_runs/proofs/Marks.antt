-- If the stamps of some marks climb, no two of these marks are of the same place of a lane.
use Rattle.std.proofs.Common.{◌≡◌, ℕ, suc, ◌+◌, ◌<◌, ◌≤◌, ◌⊎◌, inl, inr, Bool, true, false, List, [], ◌∷◌, ◌++◌, Some, Option, refl, sym, ap, ◌∙◌, arith, eqb-true}
use Rattle.std.specs.Prelude.{◌==◌, if◌then◌else◌}
use Rattle.std.specs.List.{AllByRecursion}
use Rattle.std.specs.Option.{option_map_or}
use Rattle.key_names.specs.declared.names.LaneId.{LaneId}
use Rattle.key_names.specs.declared.names.Step.{Step}
use Rattle.key_names.specs.declared.names.Step.TheVariants.{Look, Visit as Marked}
use Rattle.key_names.specs.declared.names.Who.{Who}
use Rattle.key_names.specs.Lanes.Book.{Book}
use Rattle.key_names.specs.Transcripts.IsTranscript.{MarkBy, marks_from, is_same_lane, stamped_at}
use Rattle.key_names.proofs.Transcripts.LaneCounts.{same_lane}
use Rattle.key_names.proofs.Transcripts.TakenMarks.{hit, lane_takes, mark_takes}
use Rattle.lane_table.specs.Advances.{Climbs}
use Rattle.fork_runs.specs.TableForks.{marks_of, stamps_of}

-- the book has a visit at the lane and place of the mark `by`, with the same stamp, made by the same caller, line and
-- step
abbrev pub IsAt : Book → MarkBy → Type 0
IsAt book by = stamped_at book by.mark.lane by.mark.place ≡ Some (by.mark.stamp, by.who)

-- for a place `p` of the lane `lane`
module _ (lane : LaneId) (p : ℕ) where
  -- how many of the marks are of place `p` of `lane`
  abbrev pub hits : List MarkBy → ℕ
  hits [] = 0
  hits (by ∷ marks) = lane_takes lane p by.mark.lane by.mark.place + hits marks

  pub hits_append : (xs ys : List MarkBy) → hits (xs ++ ys) ≡ hits xs + hits ys
  hits_append [] ys = omega arith
  hits_append (by ∷ xs) ys = omega (arith, hits_append xs ys)

  hits_steps : (caller event i : ℕ) (steps : List Step) → hits (marks_from caller event i steps) ≡ mark_takes lane p steps
  hits_steps caller event i [] = refl
  hits_steps caller event i (Look g ∷ steps) = hits_steps caller event (suc i) steps
  hits_steps caller event i (Marked mark ∷ steps) =
      ap (λ n. lane_takes lane p mark.lane mark.place + n) (hits_steps caller event (suc i) steps)

  -- how many of the steps of `calls` visit place `p` of `lane`
  abbrev pub calls_have : List (List Step) → ℕ
  calls_have [] = 0
  calls_have (steps ∷ calls) = mark_takes lane p steps + calls_have calls

  pub calls_append : (xs ys : List (List Step)) → calls_have (xs ++ ys) ≡ calls_have xs + calls_have ys
  calls_append [] ys = omega arith
  calls_append (steps ∷ xs) ys = omega (arith, calls_append xs ys)

  pub hits_calls : (caller : ℕ) (calls : List (List Step)) → hits (marks_of caller calls) ≡ calls_have calls
  hits_calls caller [] = refl
  hits_calls caller (steps ∷ calls) =
      omega (
        arith,
        hits_append (marks_from caller 0 0 steps) (marks_of caller calls),
        hits_steps caller 0 0 steps,
        hits_calls caller calls,
      )

  has_it : (other : LaneId) (place : ℕ) → (lane_takes lane p other place ≡ 0)
      ⊎ ((lane_takes lane p other place ≡ 1) × (other ≡ lane) × (place ≡ p))
  has_it other place = go (is_same_lane other lane) (place == p) refl refl
    where
      go : (a b : Bool) → is_same_lane other lane ≡ a → (place == p) ≡ b → ((if a then hit b else 0) ≡ 0)
          ⊎ (((if a then hit b else 0) ≡ 1) × (other ≡ lane) × (place ≡ p))
      go true true x y = inr (refl, same_lane other lane x, eqb-true place p y)
      go true false x y = inl refl
      go false b x y = inl refl

  module _ (book : Book) where
    stamp_there : (by : MarkBy) → IsAt book by → by.mark.lane ≡ lane → by.mark.place ≡ p →
        stamped_at book lane p ≡ Some (by.mark.stamp, by.who)
    stamp_there by at same place = sym (λ i. stamped_at book (same i) (place i)) ∙ at

    abbrev stamp_of : Option (ℕ × Who) → ℕ
    stamp_of o = option_map_or (λ (x : ℕ × Who). x.0) o 0

    -- if a mark is of place `p` of `lane`, no later mark is
    no_more : (stamp low high : ℕ) (who : Who) (marks : List MarkBy) → stamped_at book lane p ≡ Some (stamp, who) →
        stamp ≤ low → Climbs low (stamps_of marks) high → AllByRecursion (IsAt book) marks → hits marks ≡ 0
    no_more stamp low high who [] is below climbs all = refl
    no_more stamp low high who (by ∷ marks) is below climbs all =
        let above : low < by.mark.stamp = climbs.0 in
        let rest = no_more stamp by.mark.stamp high who marks is (omega arith) climbs.1 all.1 in
        elim (has_it by.mark.lane by.mark.place) [
          | inl none ↦ omega arith
          | inr one ↦
              let same : stamp ≡ by.mark.stamp =
              ap stamp_of (sym is ∙ stamp_there by all.0 one.1 one.2) in absurd (omega arith)
        ]

    pub at_most_once : (low high : ℕ) (marks : List MarkBy) → Climbs low (stamps_of marks) high →
        AllByRecursion (IsAt book) marks → hits marks ≤ 1
    at_most_once low high [] climbs all = omega arith
    at_most_once low high (by ∷ marks) climbs all =
        let rest = at_most_once by.mark.stamp high marks climbs.1 all.1 in
        elim (has_it by.mark.lane by.mark.place) [
          | inl none ↦ omega arith
          | inr one ↦
              let none = no_more by.mark.stamp by.mark.stamp high by.who marks (stamp_there by all.0 one.1 one.2)
              (omega arith) climbs.1 all.1 in
              let here = one.0 in omega arith
        ]
