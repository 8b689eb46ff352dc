-- If the kept lanes have the data of a book's visits, their entries are the entries of the book's lists.
use Rattle.std.proofs.Common.{◌≡◌, ℕ, suc, Some, List, [], ◌∷◌, length, map, refl, ◌∙◌, arith}
use Rattle.std.specs.Prelude.{slice_get}
use Rattle.std.specs.Global.{Vec}
use Rattle.key_names.specs.declared.entries.VEntry.{VEntry}
use Rattle.key_names.specs.Lanes.Book.{Lists}
use Rattle.judge_log.specs.declared.kept.KeptBase.{KeptBase}
use Rattle.judge_log.specs.declared.kept.KeptCpu.{KeptCpu}
use Rattle.judge_log.specs.declared.kept.Lists.{Lists as KeptLists}
use Rattle.judge_log.specs.Kept.{Keeps}
use Rattle.audit_keys.specs.KeptEntries.{base_entries, cpu_entries}
use Rattle.audit_keys.specs.Listed.{caller_lists, cpu_lists, HasEntries}

-- `kept` and `list` have the same entries if they have the same length, and equal entries at each place
same_entries : {K E : Type 0} (entry : K → E) (kept : List K) (list : List E) → length kept ≡ length list →
    ((i : ℕ) (k : K) (e : E) → slice_get kept i ≡ Some k → slice_get list i ≡ Some e → entry k ≡ e) →
    map entry kept ≡ list
same_entries entry [] [] count each = refl
same_entries entry [] (e ∷ es) count each = absurd (omega arith)
same_entries entry (k ∷ ks) [] count each = absurd (omega arith)
same_entries entry (k ∷ ks) (e ∷ es) count each =
    let first : entry k ≡ e = each 0 k e refl refl in
    let rest : map entry ks ≡ es = same_entries entry ks es (omega arith) (λ i l f there is. each (suc i) l f there is) in
    λ i. first i ∷ rest i

cpus_are : (cpus : List (Vec KeptCpu)) → cpu_lists cpus ≡ map cpu_entries (map (λ lane. lane.items) cpus)
cpus_are [] = refl
cpus_are (lane ∷ cpus) = λ i. cpu_entries lane.items ∷ cpus_are cpus i

module _ (kept : KeptLists) (lists : Lists) (keeps : Keeps kept lists) where
  pub base_kept : base_entries kept.base.items ≡ lists.base
  base_kept = same_entries (λ (k : KeptBase). k.entry) kept.base.items lists.base keeps.base.count
      (λ i k e there is. (keeps.base.each i k e there is).entry)

  pub cpus_kept : cpu_lists kept.cpus.items ≡ lists.cpus
  cpus_kept = cpus_are kept.cpus.items
      ∙ same_entries cpu_entries (map (λ (lane : Vec KeptCpu). lane.items) kept.cpus.items) lists.cpus keeps.cpus.count
      (λ c ks es there is.
      let lane = keeps.cpus.each c ks es there is in
      same_entries (λ (k : KeptCpu). k.entry) ks es lane.count (λ i k e at e_is. (lane.each i k e at e_is).entry))

  pub has_entries : (callers : List (Vec (Vec VEntry))) → caller_lists callers ≡ lists.callers →
      HasEntries lists kept callers
  has_entries callers states = record { base = base_kept; cpus = cpus_kept; states = states }
