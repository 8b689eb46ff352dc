-- The rows of spots are put into tables one after another. Then a place that exactly one spot visits has that spot's
-- row.
use Rattle.std.proofs.Common.{◌≡◌, ℕ, ◌+◌, ◌<◌, ◌≤◌, Bool, true, false, cond, List, [], ◌∷◌, ◌++◌, length, Option, Some, None, refl, sym, subst, ap, ◌∙◌, arith}
use Rattle.std.specs.Prelude.{MatchOption, ◌==◌, ◌&&◌, if◌then◌else◌}
use Rattle.std.specs.List.{AllByRecursion}
use Rattle.std.proofs.lemmas.Bool.{eq-eqb}
use Rattle.key_names.specs.declared.names.LaneId.{LaneId}
use Rattle.key_names.specs.declared.names.LaneId.TheVariants.{Pool as PoolLane, Base as BaseLane, Cpu as CpuLane}
use Rattle.key_names.specs.declared.names.Step.{Step}
use Rattle.key_names.specs.declared.names.Step.TheVariants.{Look, Visit as Marked}
use Rattle.key_names.specs.Transcripts.IsTranscript.{is_same_lane}
use Rattle.judge_log.specs.Tables.{Tables}
use Rattle.judge_log.specs.Spots.{Spot, rows_in, SameRow, is_visit, or_else, last_at, SpotRow, Changes}
use Rattle.key_names.proofs.Transcripts.LaneCounts.{lane_itself}
use Rattle.judge_log.proofs.Tables.MarkedSteps.{StepHas}

or_none : {A : Type 0} (o : Option A) → or_else o None ≡ o
or_none None = refl
or_none (Some a) = refl

or_or : {A : Type 0} (a b c : Option A) → or_else (or_else a b) c ≡ or_else a (or_else b c)
or_or None b c = refl
or_or (Some x) b c = refl

last_append : (lane : LaneId) (place : ℕ) (xs ys : List Spot) →
    last_at lane place (xs ++ ys) ≡ or_else (last_at lane place ys) (last_at lane place xs)
last_append lane place [] ys = sym (or_none (last_at lane place ys))
last_append lane place (x ∷ xs) ys =
    let here : Option Spot = if is_visit lane place x.step then Some x else None in
    ap (λ o. or_else o here) (last_append lane place xs ys)
    ∙ or_or (last_at lane place ys) (last_at lane place xs) here

same_row : (b c : Tables) (s : Spot) (lane : LaneId) (place : ℕ) → SameRow b c lane place → SpotRow b s lane place →
    SpotRow c s lane place
same_row b c s PoolLane place same row = record { row = row.row; is = same ∙ row.is; tells = row.tells }
same_row b c s BaseLane place same row = same ∙ row
same_row b c s (CpuLane d) place same row = same ∙ row

same_both : (a b c : Tables) (lane : LaneId) (place : ℕ) → SameRow a b lane place → SameRow b c lane place →
    SameRow a c lane place
same_both a b c PoolLane place p q = q ∙ p
same_both a b c BaseLane place p q = q ∙ p
same_both a b c (CpuLane d) place p q = q ∙ p

pub unchanged : (a : Tables) (lane : LaneId) (place : ℕ) → SameRow a a lane place
unchanged a PoolLane place = refl
unchanged a BaseLane place = refl
unchanged a (CpuLane c) place = refl

pub changes_none : (a : Tables) → Changes [] a a
changes_none a = record { cpus = refl; sizes = λ lane. refl; rows = λ lane place. unchanged a lane place }

-- if `o` is a spot and the place exists, `b` has the spot's row at the place; if `o` is none, `a` and `b` have the same
-- row there
abbrev pub RowBy : Option Spot → Tables → Tables → LaneId → ℕ → Type 0
RowBy o a b lane place = MatchOption o (SameRow a b lane place) (λ spot. place < rows_in a lane → SpotRow b spot lane place)

row_both : (a b c : Tables) (lane : LaneId) (place : ℕ) (p q : Option Spot) → rows_in b lane ≡ rows_in a lane →
    RowBy p a b lane place → RowBy q b c lane place → RowBy (or_else q p) a c lane place
row_both a b c lane place p (Some s) size x y = λ low. y (subst (λ n. place < n) (sym size) low)
row_both a b c lane place (Some s) None size x y = λ low. same_row b c s lane place y (x low)
row_both a b c lane place None None size x y = same_both a b c lane place x y

pub changes_both : (xs ys : List Spot) (a b c : Tables) → Changes xs a b → Changes ys b c → Changes (xs ++ ys) a c
changes_both xs ys a b c p q = record {
  cpus = q.cpus ∙ p.cpus;
  sizes = λ lane. q.sizes lane ∙ p.sizes lane;
  rows = λ lane place. subst (λ o. RowBy o a c lane place) (sym (last_append lane place xs ys))
      (row_both a b c lane place (last_at lane place xs) (last_at lane place ys) (p.sizes lane) (p.rows lane place)
      (q.rows lane place));
}

-- ---- putting the row of one spot

row_if : (b : Bool) (spot : Spot) (old new : Tables) (lane : LaneId) (place : ℕ) →
    (b ≡ true → place < rows_in old lane → SpotRow new spot lane place) → (b ≡ false → SameRow old new lane place) →
    RowBy (if b then Some spot else None) old new lane place
row_if true spot old new lane place put same = put refl
row_if false spot old new lane place put same = same refl

-- if `new` has the spot's row at the place that the spot visits, and the rows of `old` at all other places, the tables
-- change by this row
pub one_row : (spot : Spot) (old new : Tables) → length new.cpus ≡ length old.cpus →
    ((lane : LaneId) → rows_in new lane ≡ rows_in old lane) →
    ((lane : LaneId) (place : ℕ) → is_visit lane place spot.step ≡ true → place < rows_in old lane →
    SpotRow new spot lane place) →
    ((lane : LaneId) (place : ℕ) → is_visit lane place spot.step ≡ false → SameRow old new lane place) →
    Changes (spot ∷ []) old new
one_row spot old new cpus sizes put same = record {
  cpus = cpus;
  sizes = sizes;
  rows = λ lane place. row_if (is_visit lane place spot.step) spot old new lane place (put lane place) (same lane place);
}

-- ---- a place that exactly one spot visits

abbrev pub hit : Bool → ℕ
hit b = cond b 1 0

module _ (lane : LaneId) (place : ℕ) where
  -- how many of the given spots visit the place
  abbrev pub spots_takes : List Spot → ℕ
  spots_takes [] = 0
  spots_takes (spot ∷ spots) = hit (is_visit lane place spot.step) + spots_takes spots

  pub takes_append : (xs ys : List Spot) → spots_takes (xs ++ ys) ≡ spots_takes xs + spots_takes ys
  takes_append [] ys = omega arith
  takes_append (x ∷ xs) ys = omega (arith, takes_append xs ys)

  last_none : (spots : List Spot) → spots_takes spots ≡ 0 → last_at lane place spots ≡ None
  last_none [] none = refl
  last_none (spot ∷ spots) none = go (is_visit lane place spot.step) none (last_none spots)
    where
      go : (b : Bool) → hit b + spots_takes spots ≡ 0 →
          (spots_takes spots ≡ 0 → last_at lane place spots ≡ None) →
          or_else (last_at lane place spots) (if b then Some spot else None) ≡ None
      go true none rest = absurd (omega arith)
      go false none rest = or_none (last_at lane place spots) ∙ rest (omega arith)

  -- if the first spot visits the place and no other spot does, the last spot that visits the place is the first spot
  last_first : (spot : Spot) (spots : List Spot) → spots_takes (spot ∷ spots) ≤ 1 →
      is_visit lane place spot.step ≡ true → last_at lane place (spot ∷ spots) ≡ Some spot
  last_first spot spots once is =
      let one : hit (is_visit lane place spot.step) ≡ 1 = ap hit is in
      let none : spots_takes spots ≡ 0 = omega arith in
      ap (λ o. or_else o (if is_visit lane place spot.step then Some spot else None)) (last_none spots none)
      ∙ ap (λ (b : Bool). if b then Some spot else None) is

  last_after : (s spot : Spot) (spots : List Spot) → last_at lane place spots ≡ Some s →
      last_at lane place (spot ∷ spots) ≡ Some s
  last_after s spot spots is = ap (λ o. or_else o (if is_visit lane place spot.step then Some spot else None)) is

-- if the spot is a visit, the table `inferred` has the row inferred for this spot at the visit's place
abbrev pub SpotConforms : Tables → Spot → Type 0
SpotConforms inferred spot = StepHas (λ lane place. SpotRow inferred spot lane place) spot.step

module _ (old new : Tables) (whole : List Spot) (changes : Changes whole old new)
    (once : (lane : LaneId) (place : ℕ) → spots_takes lane place whole ≤ 1) where
  abbrev Within : LaneId → ℕ → Type 0
  Within lane place = place < rows_in old lane

  row_of : (spot : Spot) (lane : LaneId) (place : ℕ) → last_at lane place whole ≡ Some spot → Within lane place →
      SpotRow new spot lane place
  row_of spot lane place is low = subst (λ o. RowBy o old new lane place) is (changes.rows lane place) low

  spots_conform : (spots : List Spot) → ((lane : LaneId) (place : ℕ) → spots_takes lane place spots ≤ 1) →
      ((lane : LaneId) (place : ℕ) (s : Spot) → last_at lane place spots ≡ Some s →
      last_at lane place whole ≡ Some s) →
      AllByRecursion (λ spot. StepHas Within spot.step) spots → AllByRecursion (SpotConforms new) spots
  spots_conform [] few last low = tt
  spots_conform (spot ∷ spots) few last low = (
    one spot.step refl low.0,
    spots_conform spots (λ lane place. (let f : spots_takes lane place (spot ∷ spots) ≤ 1 = few lane place in omega arith))
        (λ lane place s is. last lane place s (last_after lane place s spot spots is)) low.1,
  )
    where
      itself : (lane : LaneId) (place : ℕ) → (is_same_lane lane lane && place == place) ≡ true
      itself lane place = ap (λ (b : Bool). b && place == place) (lane_itself lane) ∙ eq-eqb place place refl

      one : (step : Step) → spot.step ≡ step → StepHas Within step →
          StepHas (λ lane place. SpotRow new spot lane place) step
      one (Look g) is low = tt
      one (Marked mark) is low =
          row_of spot mark.lane mark.place
          (last mark.lane mark.place spot
          (last_first mark.lane mark.place spot spots (few mark.lane mark.place)
          (ap (is_visit mark.lane mark.place) is ∙ itself mark.lane mark.place))) low

  pub all_conform : AllByRecursion (λ spot. StepHas Within spot.step) whole → AllByRecursion (SpotConforms new) whole
  all_conform low = spots_conform whole once (λ lane place s is. is) low
