-- The code goes along a lane's visits and keeps the data of the visits up to a stamp. The kept data are `list_to`, and
-- the entries in these data are those of `visits_to`.
use Rattle.std.proofs.Common.{◌≡◌, ◌+◌, ℕ, zero, suc, Bool, true, false, List, [], ◌∷◌, ◌++◌, take, refl, sym, ap, ◌∙◌, append-nil, arith}
use Rattle.std.specs.Prelude.{Some, slice_get, map, nat_le, if◌then◌else◌}
use Rattle.std.specs.Global.{Vec}
use Rattle.key_names.specs.Lanes.Book.{Visit, entries_of, list_at}
use Rattle.key_names.specs.declared.entries.CpuEntry.{CpuEntry}
use Rattle.judge_log.specs.declared.kept.KeptCpu.{KeptCpu}
use Rattle.audit_keys.specs.KeptEntries.{cpu_entries}
use Rattle.audit_keys.specs.Moments.{visits_to}
use Rattle.audit_keys.specs.declared.moments.Moment.{Moment}
use Rattle.audit_keys.specs.Listed.{cpu_lists}
use Rattle.audit_keys.specs.Cut.{is_by, lane_moments, list_to, moment_lists, stamps_of, visit_stamps}

module _ {K : Type 0} (stamp : ℕ) where
  -- the kept data `k` of a visit if `b` is true, and otherwise nothing; `b` is whether the visit's stamp is at most
  -- `stamp`
  abbrev kept_by : Bool → K → List K
  kept_by b k = if b then k ∷ [] else []

  one_more : (moments : List Moment) (kept : List K) (place : ℕ) (k : K) → slice_get kept place ≡ Some k →
      list_to stamp moments (take (suc place) kept)
      ≡ list_to stamp moments (take place kept) ++ kept_by (is_by stamp (slice_get moments place)) k
  one_more moments [] place k is = cc
  one_more [] (x ∷ kept) zero k is = refl
  one_more [] (x ∷ kept) (suc place) k is = refl
  one_more (m ∷ moments) (x ∷ kept) zero k is = let e : x ≡ k = cc in ap (kept_by (nat_le m.stamp stamp)) e
  one_more (m ∷ moments) (x ∷ kept) (suc place) k is =
      go (nat_le m.stamp stamp) (one_more moments kept place k is)
    where
      go : (b : Bool) → list_to stamp moments (take (suc place) kept)
          ≡ list_to stamp moments (take place kept) ++ kept_by (is_by stamp (slice_get moments place)) k →
          (if b then x ∷ list_to stamp moments (take (suc place) kept) else list_to stamp moments (take (suc place) kept))
          ≡ (if b then x ∷ list_to stamp moments (take place kept) else list_to stamp moments (take place kept))
          ++ kept_by (is_by stamp (slice_get moments place)) k
      go true h = ap (λ ks. x ∷ ks) h
      go false h = h

  cut_more : (moments : List Moment) (kept : List K) (place : ℕ) (k : K) (cut cut' : List K) (b : Bool) →
      slice_get kept place ≡ Some k → cut ≡ list_to stamp moments (take place kept) →
      b ≡ is_by stamp (slice_get moments place) → cut' ≡ cut ++ kept_by b k →
      cut' ≡ list_to stamp moments (take (place + 1) kept)
  cut_more moments kept place k cut cut' b is so by more =
      more ∙ (λ i. so i ++ kept_by (by i) k)
      ∙ sym (ap (λ n. list_to stamp moments (take n kept)) (let next : place + 1 ≡ suc place = omega arith in next)
      ∙ one_more moments kept place k is)

  pub cut_then : (moments : List Moment) (kept : List K) (place : ℕ) (k : K) (cut cut' : List K) (b : Bool) →
      slice_get kept place ≡ Some k → cut ≡ list_to stamp moments (take place kept) →
      b ≡ is_by stamp (slice_get moments place) → b ≡ true → cut' ≡ cut ++ k ∷ [] →
      cut' ≡ list_to stamp moments (take (place + 1) kept)
  cut_then moments kept place k cut cut' b is so by e more =
      cut_more moments kept place k cut cut' b is so by (more ∙ ap (λ t. cut ++ kept_by t k) (sym e))

  pub cut_else : (moments : List Moment) (kept : List K) (place : ℕ) (k : K) (cut cut' : List K) (b : Bool) →
      slice_get kept place ≡ Some k → cut ≡ list_to stamp moments (take place kept) →
      b ≡ is_by stamp (slice_get moments place) → b ≡ false → cut' ≡ cut →
      cut' ≡ list_to stamp moments (take (place + 1) kept)
  cut_else moments kept place k cut cut' b is so by e more =
      cut_more moments kept place k cut cut' b is so by
      (more ∙ sym (append-nil cut) ∙ ap (λ t. cut ++ kept_by t k) (sym e))

-- if the kept data of a lane's visits are cut at `stamp` by the moments of the visits, the entries of the visits up to
-- `stamp` remain
pub visits_kept : {K E : Type 0} (entry : K → E) (stamp : ℕ) (kept : List K) (moments : List Moment)
    (visits : List (Visit E)) → map entry kept ≡ entries_of visits → stamps_of moments ≡ visit_stamps visits →
    map entry (list_to stamp moments kept) ≡ entries_of (visits_to stamp visits)
visits_kept entry stamp [] moments [] same stamps = refl
visits_kept entry stamp [] moments (v ∷ visits) same stamps = cc
visits_kept entry stamp (k ∷ kept) moments [] same stamps = cc
visits_kept entry stamp (k ∷ kept) [] (v ∷ visits) same stamps = cc
visits_kept entry stamp (k ∷ kept) (m ∷ moments) (v ∷ visits) same stamps =
    let f : map entry kept ≡ entries_of visits = cc in
    let g : stamps_of moments ≡ visit_stamps visits = cc in
    let s : m.stamp ≡ v.stamp = cc in
    let e : entry k ≡ v.entry = cc in
    rw s (go (nat_le v.stamp stamp) refl e (visits_kept entry stamp kept moments visits f g))
  where
    go : (b : Bool) → nat_le v.stamp stamp ≡ b → entry k ≡ v.entry →
        map entry (list_to stamp moments kept) ≡ entries_of (visits_to stamp visits) →
        map entry (if nat_le v.stamp stamp then k ∷ list_to stamp moments kept else list_to stamp moments kept)
        ≡ entries_of (visits_to stamp (v ∷ visits))
    go true is e h = rw is (λ i. e i ∷ h i)
    go false is e h = rw is h

pub moments_at : (cpus : List (Vec Moment)) (i : ℕ) → lane_moments (slice_get cpus i) ≡ list_at (moment_lists cpus) i
moments_at [] i = refl
moments_at (lane ∷ cpus) zero = refl
moments_at (lane ∷ cpus) (suc i) = moments_at cpus i

-- the cut lists of the first `i + 1` CPUs are the cut lists of the first `i` CPUs, and then the cut list of CPU `i`
pub lane_more : (stamp : ℕ) (lanes : List (Vec KeptCpu)) (moments : List (List Moment))
    (cpus : List (List (Visit CpuEntry))) (i : ℕ) (lane cut : Vec KeptCpu) (ms : List Moment) →
    cpu_lists lanes ≡ map entries_of cpus → map stamps_of moments ≡ map visit_stamps cpus →
    slice_get lanes i ≡ Some lane → ms ≡ list_at moments i →
    ((visits : List (Visit CpuEntry)) → cpu_entries lane.items ≡ entries_of visits →
    stamps_of ms ≡ visit_stamps visits → cpu_entries cut.items ≡ entries_of (visits_to stamp visits)) →
    map entries_of (map (visits_to stamp) (take (suc i) cpus))
    ≡ map entries_of (map (visits_to stamp) (take i cpus)) ++ cpu_entries cut.items ∷ []
lane_more stamp [] moments cpus i lane cut ms same stamps is at cuts = cc
lane_more stamp (l ∷ lanes) moments [] i lane cut ms same stamps is at cuts = cc
lane_more stamp (l ∷ lanes) [] (v ∷ cpus) i lane cut ms same stamps is at cuts = cc
lane_more stamp (l ∷ lanes) (m ∷ moments) (v ∷ cpus) zero lane cut ms same stamps is at cuts =
    let e : l ≡ lane = cc in
    let f : cpu_entries l.items ≡ entries_of v = cc in
    let g : stamps_of m ≡ visit_stamps v = cc in
    ap (λ (es : List CpuEntry). es ∷ [])
    (sym (cuts v (ap (λ (x : Vec KeptCpu). cpu_entries x.items) (sym e) ∙ f) (ap stamps_of at ∙ g)))
lane_more stamp (l ∷ lanes) (m ∷ moments) (v ∷ cpus) (suc i) lane cut ms same stamps is at cuts =
    let f : cpu_lists lanes ≡ map entries_of cpus = cc in
    let g : map stamps_of moments ≡ map visit_stamps cpus = cc in
    ap (λ (ess : List (List CpuEntry)). entries_of (visits_to stamp v) ∷ ess)
    (lane_more stamp lanes moments cpus i lane cut ms f g is at cuts)
