-- The lists of a book up to a stamp.
use Rattle.std.specs.Prelude.{ℕ, ◌≡◌, Bool, false, Option, Some, None, List, [], ◌∷◌, map, nat_le, if◌then◌else◌}
use Rattle.std.specs.Global.{Vec}
use Rattle.key_names.specs.Lanes.Book.{Book, Visit, entries_of}
use Rattle.audit_keys.specs.KeptEntries.{base_entries}
use Rattle.judge_log.specs.declared.kept.Lists.{Lists as KeptLists}
use Rattle.audit_keys.specs.declared.moments.Moment.{Moment}
use Rattle.audit_keys.specs.declared.moments.Moments.{Moments}
use Rattle.audit_keys.specs.Listed.{cpu_lists}

abbrev pub stamps_of : List Moment → List ℕ
stamps_of moments = map (λ m. m.stamp) moments

abbrev pub moment_lists : List (Vec Moment) → List (List Moment)
moment_lists cpus = map (λ lane. lane.items) cpus

abbrev pub lane_moments : Option (Vec Moment) → List Moment
lane_moments None = []
lane_moments (Some lane) = lane.items

-- whether there is a moment and its stamp is at most `stamp`
abbrev pub is_by : ℕ → Option Moment → Bool
is_by stamp None = false
is_by stamp (Some moment) = nat_le moment.stamp stamp

-- the kept data of those visits of a lane whose stamps are at most `stamp`; `moments` has the stamps of the lane's
-- visits
abbrev pub list_to : {K : Type 0} → ℕ → List Moment → List K → List K
list_to stamp moments [] = []
list_to stamp [] (k ∷ kept) = []
list_to stamp (m ∷ moments) (k ∷ kept) =
    if nat_le m.stamp stamp then k ∷ list_to stamp moments kept else list_to stamp moments kept

abbrev pub visit_stamps : {E : Type 0} → List (Visit E) → List ℕ
visit_stamps visits = map (λ v. v.stamp) visits

-- `kept` has the entries of the book's visits of the base and of the CPUs, and `moments` has the stamps of these visits
pub record KeepsVisits (book : Book) (kept : KeptLists) (moments : Moments) : Type 0 where
  pub base : base_entries kept.base.items ≡ entries_of book.base
  pub base_stamps : stamps_of moments.base.items ≡ visit_stamps book.base
  pub cpus : cpu_lists kept.cpus.items ≡ map entries_of book.cpus
  pub cpu_stamps : map stamps_of (moment_lists moments.cpus.items) ≡ map visit_stamps book.cpus
