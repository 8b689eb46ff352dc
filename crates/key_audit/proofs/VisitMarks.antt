-- If the marks of a lane are sorted by stamp, they are the marks of the lane's visits in the order of places.
use Rattle.std.proofs.Common.{◌≡◌, ℕ, suc, ◌+◌, Bool, true, false, cond, Some, List, [], ◌∷◌, length, map, refl, sym, subst, ap, ◌∙◌, arith}
use Rattle.std.specs.Prelude.{IsPermutation, unwrap_or}
use Rattle.std.specs.List.{AllByRecursion}
use Rattle.std.proofs.lemmas.List.{length-map}
use Rattle.std.proofs.lemmas.List.Elements.{All-from_recursion, recursion_from_All}
use Rattle.std.proofs.lemmas.List.Sorted.{All-permutation}
use Rattle.key_names.specs.declared.names.LaneId.{LaneId}
use Rattle.key_names.specs.declared.names.LaneId.TheVariants.{Pool as PoolLane, Base as BaseLane, Cpu as CpuLane}
use Rattle.key_names.specs.declared.names.Who.{Who}
use Rattle.key_names.specs.Lanes.Book.{Book, Visit, list_at}
use Rattle.key_names.specs.Transcripts.IsTranscript.{MarkBy, PlacesConform, VisitsAre, is_same_lane, lane_marks, stamped, stamped_at}
use Rattle.key_names.specs.Transcripts.PlacesInOrder.{InOrder}
use Rattle.key_names.proofs.Transcripts.LaneCounts.{lane_counts, same_lane}
use Rattle.key_names.proofs.Transcripts.PlacesInOrder.{places_count_up}
use Rattle.judge_lines.specs.declared.marks.MarkOf.{MarkOf}
use Rattle.judge_lines.specs.Marks.{IsSortedByLane, seen_mark}
use Rattle.judge_lines.proofs.MarksMoved.{lane_moved, same_long}
use Rattle.judge_lines.proofs.Runs.{lane_sorted}
use Rattle.key_audit.specs.Moments.{MarksVisits, marks_on, moment_by, moments_on, visit_moment, visit_moments}

-- the visit at the place of the mark `by` has the mark's stamp, and was made by the same caller, line and step
abbrev ConformsIn : {E : Type 0} → List (Visit E) → MarkBy → Type 0
ConformsIn visits by = stamped visits by.mark.place ≡ Some (by.mark.stamp, by.who)

-- if the places of the marks `bys` count up from `i`, the moments of `bys` are the moments of `rest`, the visits from
-- place `i` on
counted : {E : Type 0} (i : ℕ) (whole rest : List (Visit E)) (bys : List MarkBy) →
    ((j : ℕ) → stamped rest j ≡ stamped whole (i + j)) → length bys ≡ length rest →
    InOrder i (map (λ by. by.mark) bys) → AllByRecursion (ConformsIn whole) bys → map moment_by bys ≡ visit_moments rest
counted i whole [] [] at long order conform = refl
counted i whole (v ∷ rest) [] at long order conform = absurd (omega arith)
counted i whole [] (by ∷ bys) at long order conform = absurd (omega arith)
counted i whole (v ∷ rest) (by ∷ bys) at long order conform =
    let place : i + 0 ≡ by.mark.place = (let p : by.mark.place ≡ i = order.0 in omega arith) in
    let there : ℕ × Who = (v.stamp, v.who) in
    let here : Some there ≡ Some (by.mark.stamp, by.who) =
    at 0 ∙ ap (λ n. stamped whole n) place ∙ conform.0 in
    let mark : there ≡ (by.mark.stamp, by.who) = ap (λ o. unwrap_or o there) here in
    let first : visit_moment v ≡ moment_by by = λ j. record {
      stamp = (mark j).0;
      line = record { caller = (mark j).1.caller; event = (mark j).1.event };
    } in
    let more : map moment_by bys ≡ visit_moments rest =
    counted (suc i) whole rest bys
    (λ j. at (suc j) ∙ ap (λ n. stamped whole n) (let p : i + suc j ≡ suc i + j = omega arith in p))
    (omega arith) order.2 conform.1 in
    λ j. sym first j ∷ more j

module _ (lane : LaneId) where
  marks_alone : (marks : List MarkBy) → map (λ by. by.mark) (marks_on lane marks) ≡ lane_marks lane marks
  marks_alone [] = refl
  marks_alone (by ∷ marks) = go (is_same_lane by.mark.lane lane) (marks_alone marks)
    where
      go : (b : Bool) → map (λ by. by.mark) (marks_on lane marks) ≡ lane_marks lane marks →
          map (λ by. by.mark) (cond b (by ∷ marks_on lane marks) (marks_on lane marks))
          ≡ cond b (by.mark ∷ lane_marks lane marks) (lane_marks lane marks)
      go true rest = ap (λ ms. by.mark ∷ ms) rest
      go false rest = rest

  -- if `Q` holds for each mark with the mark's own lane, `Q` holds with `lane` for each mark of `lane`
  all_on : (Q : LaneId → MarkBy → Type 0) (marks : List MarkBy) → AllByRecursion (λ by. Q by.mark.lane by) marks →
      AllByRecursion (λ by. Q lane by) (marks_on lane marks)
  all_on Q [] all = tt
  all_on Q (by ∷ marks) all = go (is_same_lane by.mark.lane lane) refl (all_on Q marks all.1)
    where
      go : (b : Bool) → is_same_lane by.mark.lane lane ≡ b → AllByRecursion (λ by. Q lane by) (marks_on lane marks) →
          AllByRecursion (λ by. Q lane by) (cond b (by ∷ marks_on lane marks) (marks_on lane marks))
      go true is rest = let P : LaneId → Type 0 = λ l. Q l by in
          (subst P (same_lane by.mark.lane lane is) all.0, rest)
      go false is rest = rest

module _ (book : Book) (all : List MarkBy) (marks : List MarkOf) (same : IsPermutation all (map seen_mark marks))
    (sorted : IsSortedByLane marks) (places : (lane : LaneId) → PlacesConform (lane_marks lane all))
    (visits : VisitsAre book all) where
  abbrev here : LaneId → List MarkBy
  here lane = marks_on lane (map seen_mark marks)

  conform : AllByRecursion (λ by. stamped_at book by.mark.lane by.mark.place ≡ Some (by.mark.stamp, by.who))
      (map seen_mark marks)
  conform =
      let P : MarkBy → Type 0 = λ by. stamped_at book by.mark.lane by.mark.place ≡ Some (by.mark.stamp, by.who) in
      recursion_from_All P (map seen_mark marks)
      (All-permutation P all (map seen_mark marks) same (All-from_recursion P all visits.conform))

  lane_conform : (lane : LaneId) →
      AllByRecursion (λ by. stamped_at book lane by.mark.place ≡ Some (by.mark.stamp, by.who)) (here lane)
  lane_conform lane =
      all_on lane (λ l by. stamped_at book l by.mark.place ≡ Some (by.mark.stamp, by.who)) (map seen_mark marks) conform

  in_order : (lane : LaneId) → InOrder 0 (map (λ by. by.mark) (here lane))
  in_order lane = subst (InOrder 0) (sym (marks_alone lane (map seen_mark marks)))
      ((places_count_up (lane_marks lane (map seen_mark marks))).1 (lane_sorted lane marks sorted)
      (lane_moved lane all (map seen_mark marks) same (places lane)))

  long : (lane : LaneId) → length (here lane) ≡ length (lane_marks lane all)
  long lane = sym (length-map (here lane) (λ by. by.mark))
      ∙ ap length (marks_alone lane (map seen_mark marks)) ∙ same_long lane all (map seen_mark marks) same

  one_lane : {E : Type 0} (lane : LaneId) (list : List (Visit E)) →
      AllByRecursion (ConformsIn list) (here lane) → length (lane_marks lane all) ≡ length list →
      moments_on lane (map seen_mark marks) ≡ visit_moments list
  one_lane lane list conform count =
      counted 0 list list (here lane)
      (λ j. ap (λ n. stamped list n) (let p : j ≡ 0 + j = omega arith in p)) (long lane ∙ count) (in_order lane) conform

  pub marks_visits : MarksVisits book (map seen_mark marks)
  marks_visits = record {
    pool = one_lane PoolLane book.pool (lane_conform PoolLane) (lane_counts book all places visits PoolLane);
    base = one_lane BaseLane book.base (lane_conform BaseLane) (lane_counts book all places visits BaseLane);
    cpus = λ c. one_lane (CpuLane c) (list_at book.cpus c) (lane_conform (CpuLane c))
        (lane_counts book all places visits (CpuLane c));
  }
