-- The place of each mark of a lane is below the number of the lane's marks.
use Rattle.std.proofs.Common.{◌≡◌, ℕ, zero, suc, ◌+◌, ◌<◌, ◌≤◌, Bool, true, false, cond, List, [], ◌∷◌, length, refl, sym, ap, ◌∙◌, ◌⊎◌, inl, inr, arith}
use Rattle.std.specs.Prelude.{count_by, ◌==◌, nat_lt, if◌then◌else◌}
use Rattle.std.specs.List.{AllByRecursion}
use Rattle.std.proofs.lemmas.Bool.{eq-eqb}
use Rattle.std.proofs.lemmas.Bool.Decides.{nat_tests}
use Rattle.std.proofs.lemmas.List.Sums.{sum_by-cons}
use Rattle.key_names.specs.declared.names.LaneId.{LaneId}
use Rattle.key_names.specs.declared.names.Mark.{Mark}
use Rattle.key_names.specs.Transcripts.IsTranscript.{MarkBy, is_same_lane, lane_marks, PlacesConform}
use Rattle.key_names.proofs.Transcripts.LaneCounts.{lane_itself}
use Rattle.key_names.proofs.Transcripts.TakenMarks.{from_range}
use Rattle.key_names.proofs.Transcripts.TranscriptBooks.{lt_or_le}

-- ---- counting the marks at a place

abbrev hit : Bool → ℕ
hit b = cond b 1 0

-- how many marks in the list have the place `q`
abbrev at : ℕ → List Mark → ℕ
at q [] = 0
at q (m ∷ ms) = hit (m.place == q) + at q ms

abbrev below : ℕ → List Mark → ℕ
below n [] = 0
below n (m ∷ ms) = hit (nat_lt m.place n) + below n ms

at_is_count : (q : ℕ) (ms : List Mark) → count_by (λ mark. mark.place == q) ms ≡ at q ms
at_is_count q [] = refl
at_is_count q (m ∷ ms) =
    sum_by-cons (λ (mark : Mark). hit (mark.place == q)) m ms ∙ ap (λ n. hit (m.place == q) + n) (at_is_count q ms)

one_more : (x n : ℕ) → hit (nat_lt x (suc n)) ≡ hit (nat_lt x n) + hit (x == n)
one_more x n = grind (arith, nat_tests)

none_below : (x : ℕ) → hit (nat_lt x 0) ≡ 0
none_below x = grind (arith, nat_tests)

one_of_both : (x n q : ℕ) → n ≤ q → hit (nat_lt x n) + hit (x == q) ≤ 1
one_of_both x n q le = grind (arith, nat_tests)

below_zero : (ms : List Mark) → below 0 ms ≡ 0
below_zero [] = refl
below_zero (m ∷ ms) = omega (arith, none_below m.place, below_zero ms)

below_next : (n : ℕ) (ms : List Mark) → below (suc n) ms ≡ below n ms + at n ms
below_next n [] = omega arith
below_next n (m ∷ ms) = omega (arith, one_more m.place n, below_next n ms)

all_below : (n : ℕ) (ms : List Mark) → ((i : ℕ) → i < n → at i ms ≡ 1) → below n ms ≡ n
all_below zero ms once = below_zero ms
all_below (suc n) ms once =
    let rest : below n ms ≡ n = all_below n ms (λ i low. once i (omega arith)) in
    let here : at n ms ≡ 1 = once n (omega arith) in omega (arith, below_next n ms)

no_room : (n q : ℕ) (ms : List Mark) → n ≤ q → below n ms + at q ms ≤ length ms
no_room n q [] le = omega arith
no_room n q (m ∷ ms) le = omega (arith, no_room n q ms le, one_of_both m.place n q le)

none_at : (q : ℕ) (ms : List Mark) → PlacesConform ms → length ms ≤ q → at q ms ≡ 0
none_at q ms conform le =
    let all : below (length ms) ms ≡ length ms = all_below (length ms) ms once in
    omega (arith, no_room (length ms) q ms le)
  where
    once : (i : ℕ) → i < length ms → at i ms ≡ 1
    once i low =
        let p : 0 + i ≡ i = omega arith in
        sym (at_is_count i ms) ∙ sym (ap (λ j. count_by (λ (mark : Mark). mark.place == j) ms) p)
        ∙ from_range (λ place. count_by (λ mark. mark.place == place) ms ≡ 1) 0 (length ms) conform.once i low

-- if no mark in `ms` has a place of n or more, all places in `ms` are below n
low_places : (n : ℕ) (ms : List Mark) → ((q : ℕ) → n ≤ q → at q ms ≡ 0) → AllByRecursion (λ m. m.place < n) ms
low_places n [] none = tt
low_places n (m ∷ ms) none = (
  here (lt_or_le m.place n),
  low_places n ms (λ q le. (let whole : hit (m.place == q) + at q ms ≡ 0 = none q le in omega arith)),
)
  where
    here : (m.place < n) ⊎ (n ≤ m.place) → m.place < n
    here (inl low) = low
    here (inr le) =
        let itself : hit (m.place == m.place) ≡ 1 = ap hit (eq-eqb m.place m.place refl) in
        let whole : hit (m.place == m.place) + at m.place ms ≡ 0 = none m.place le in absurd (omega arith)

pub places_low : (ms : List Mark) → PlacesConform ms → AllByRecursion (λ m. m.place < length ms) ms
places_low ms conform = low_places (length ms) ms (λ q le. none_at q ms conform le)

-- ---- if a fact holds of each lane's marks, it holds of all marks

module _ (P : LaneId → Mark → Type 0) where
  first_of : (b : Bool) (lane : LaneId) (m : Mark) (ms : List Mark) → b ≡ true →
      AllByRecursion (P lane) (if b then m ∷ ms else ms) → P lane m
  first_of true lane m ms is all = all.0
  first_of false lane m ms is all = cc

  rest_of : (b : Bool) (lane : LaneId) (m : Mark) (ms : List Mark) →
      AllByRecursion (P lane) (if b then m ∷ ms else ms) → AllByRecursion (P lane) ms
  rest_of true lane m ms all = all.1
  rest_of false lane m ms all = all

  -- if P holds of each lane with the marks of this lane, P holds of all marks
  pub in_lanes : (marks : List MarkBy) → ((lane : LaneId) → AllByRecursion (P lane) (lane_marks lane marks)) →
      AllByRecursion (λ by. P by.mark.lane by.mark) marks
  in_lanes [] all = tt
  in_lanes (by ∷ marks) all = (
    first_of (is_same_lane by.mark.lane by.mark.lane) by.mark.lane by.mark (lane_marks by.mark.lane marks)
        (lane_itself by.mark.lane) (all by.mark.lane),
    in_lanes marks (λ lane. rest_of (is_same_lane by.mark.lane lane) lane by.mark (lane_marks lane marks) (all lane)),
  )

pub marks_low : (marks : List MarkBy) → ((lane : LaneId) → PlacesConform (lane_marks lane marks)) →
    AllByRecursion (λ by. by.mark.place < length (lane_marks by.mark.lane marks)) marks
marks_low marks conform =
    in_lanes (λ lane m. m.place < length (lane_marks lane marks)) marks
    (λ lane. places_low (lane_marks lane marks) (conform lane))
