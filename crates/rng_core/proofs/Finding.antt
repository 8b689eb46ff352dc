-- A visit that a pass made has the effect that the pass's own model of the lane (the lane's value in the proofs) gives.
-- This holds in all lists that continue the lists that the pass knows.
use Rattle.std.proofs.Common.{◌≡◌, ℕ, ◌+◌, List, ◌++◌, take, Some, refl, ap, ◌∙◌, subst, arith}
use Rattle.std.specs.Prelude.{slice_get}
use Rattle.std.proofs.lemmas.List.{take-append-le}
use Rattle.atomic_table.proofs.Lists.{at_longer}
use Rattle.key_names.specs.declared.names.LaneId.{LaneId}
use Rattle.key_names.specs.declared.names.LaneId.TheVariants.{Pool as PoolLane, Base as BaseLane, Cpu as CpuLane}
use Rattle.key_names.specs.declared.names.Mark.{Mark}
use Rattle.key_names.specs.declared.names.Step.TheVariants.{Visit as Marked}
use Rattle.key_names.specs.declared.entries.PoolEntry.{PoolEntry}
use Rattle.key_names.specs.declared.entries.BaseEntry.{BaseEntry}
use Rattle.key_names.specs.declared.entries.CpuEntry.{CpuEntry}
use Rattle.key_names.specs.declared.entries.VEntry.{VEntry}
use Rattle.key_names.specs.Lanes.PoolList.{PoolState, pool_step}
use Rattle.key_names.specs.Lanes.Book.{Lists}
use Rattle.key_names.specs.Callers.Effects.{Effect, PoolVisit, BaseVisit, CpuVisit, at_pool, at_base, at_cpu, effect_of, effect_at, pool_visit, base_visit, cpu_visit}
use Rattle.lane_table.specs.declared.view.Visit.{Visit}
use Rattle.lane_table.specs.declared.view.View.{View}
use Rattle.lane_table.specs.declared.view.Handed.{Handed}
use Rattle.lane_table.specs.declared.view.LaneEntry.{LaneEntry}
use Rattle.lane_table.specs.declared.view.LaneEntry.TheVariants.{Pool, Base, Cpu}
use Rattle.lane_table.specs.Meaning.{Model, replay}
use Rattle.lane_table.specs.LaneNumbers.{index_of}
use Rattle.lane_table.specs.WorldRule.{known_of}
use Rattle.lane_table.specs.BookLists.{book_lists}
use Rattle.lane_table.specs.BookLaws.{Continues}
use Rattle.lane_table.specs.VisitsMet.{IsIntOfBatch, base_serving, cpu_serving}
use Rattle.lane_table.proofs.Lists.Lists.{at_below}
use Rattle.lane_table.proofs.Lists.Places.{conforms_at}
use Rattle.lane_table.proofs.Book.BookEffects.{pool_effect, base_effect, cpu_effect}
use Rattle.rng_core.specs.declared.setting.Setting.{Setting}
use Rattle.rng_core.specs.Traces.{Moment, Met, Visited}
use Rattle.rng_core.specs.SampleEffects.{fast_in}

lane_pool : (l : LaneId) → index_of l ≡ 0 → l ≡ PoolLane
lane_pool PoolLane e = refl
lane_pool BaseLane e = absurd (omega arith)
lane_pool (CpuLane c) e = absurd (omega arith)

lane_base : (l : LaneId) → index_of l ≡ 1 → l ≡ BaseLane
lane_base PoolLane e = absurd (omega arith)
lane_base BaseLane e = refl
lane_base (CpuLane c) e = absurd (omega arith)

lane_cpu : (l : LaneId) (c : ℕ) → index_of l ≡ c + 2 → l ≡ CpuLane c
lane_cpu PoolLane c e = absurd (omega arith)
lane_cpu BaseLane c e = absurd (omega arith)
lane_cpu (CpuLane d) c e = let h : d ≡ c = omega arith in ap CpuLane h

-- the list `xs` has a visit at `place`, with the entry `e` and the received key `got`; the visits before it give the
-- model `s` (the lane's value in the proofs)
record InList (xs : List Visit) (place : ℕ) (s : Model) (e : LaneEntry) (got : Handed) : Type 0 where
  pub visit : Visit
  pub there : slice_get xs place ≡ Some visit
  pub is : visit.entry ≡ e
  pub was_handed : visit.got ≡ got
  pub before : replay (take place xs) ≡ s

in_list : (lanes : ℕ) (v : View) (visits : ℕ → List Visit) (mark : Mark) (lane : ℕ) (s : Model) (e : LaneEntry)
    (got : Handed) → index_of mark.lane ≡ lane → Met v mark s e got → Continues lanes v visits →
    InList (visits lane) mark.place s e got
in_list lanes v visits mark lane s e got on m k = subst (λ (l : ℕ). InList (visits l) mark.place s e got) on (
    let l : ℕ = index_of mark.lane in let b = k.begins l (let n = m.near in let f = k.long in omega arith) in let low =
    at_below (known_of v l) mark.place m.visit m.there in record {
      visit = m.visit;
      there = ap (λ (xs : List Visit). slice_get xs mark.place) b.1
          ∙ conforms_at (known_of v l ++ b.0) mark.place m.visit
          (at_longer (known_of v l) b.0 mark.place m.visit m.there);
      is = m.is;
      was_handed = m.was_handed;
      before = ap (λ (xs : List Visit). replay (take mark.place xs)) b.1
          ∙ ap replay (take-append-le mark.place (known_of v l) b.0 (omega arith)) ∙ m.before;
    })

pub record FoundPool (effect : Effect) (place : ℕ) (s : PoolState) (e : PoolEntry) : Type 0 where
  pub visit : PoolVisit
  pub effect_is : effect ≡ at_pool visit
  pub at : visit.place ≡ place
  pub is : visit.entry ≡ e
  pub before : visit.before ≡ s
  pub after : visit.after ≡ pool_step s e

pub record FoundBase (effect : Effect) (place : ℕ) (s : Model) (e : BaseEntry) (got : Handed) : Type 0 where
  pub visit : BaseVisit
  pub effect_is : effect ≡ at_base visit
  pub at : visit.place ≡ place
  pub is : visit.entry ≡ e
  pub serves : visit.serves ≡ base_serving s.base got e

pub record FoundCpu (visits : ℕ → List Visit) (effect : Effect) (c place : ℕ) (s : Model) (e : CpuEntry)
    (got : Handed) : Type 0 where
  pub visit : CpuVisit
  pub effect_is : effect ≡ at_cpu visit
  pub on : visit.cpu ≡ c
  pub fast : fast_in visits visit.cpu visit.place ≡ s.cpu.fast
  pub at : visit.place ≡ place
  pub is : visit.entry ≡ e
  pub serves : visit.serves ≡ cpu_serving s.cpu got e

module _ (lanes : ℕ) (visits : ℕ → List Visit) (callers : List (List (List VEntry))) (set : Setting) (m n : Moment)
    (place : ℕ) (s : Model) (got : Handed) (k : Continues lanes n.view visits) where
  abbrev book : Lists
  book = book_lists lanes visits callers

  pub found_pool : (e : PoolEntry) (x : Visited set m n 0 place s (Pool e) got) →
      FoundPool (effect_of book (Marked x.mark)) place s.pool e
  found_pool e x = let h = in_list lanes n.view visits x.mark 0 s (Pool e) got x.lane_is x.met k in let d =
      pool_effect lanes visits callers k.closed x.mark.place h.visit e h.there h.is in record {
        visit = pool_visit book x.mark.place e;
        effect_is = ap (λ (l : LaneId). effect_at book l x.mark.place) (lane_pool x.mark.lane x.lane_is) ∙ d.effect;
        at = x.place_is;
        is = refl;
        before = d.before ∙ ap (λ (z : Model). z.pool) h.before;
        after = d.after ∙ ap (λ (z : Model). pool_step z.pool e) h.before;
      }

  pub found_base : (e : BaseEntry) (x : Visited set m n 1 place s (Base e) got) →
      FoundBase (effect_of book (Marked x.mark)) place s e got
  found_base e x = let h = in_list lanes n.view visits x.mark 1 s (Base e) got x.lane_is x.met k in let d =
      base_effect lanes visits callers k.closed x.mark.place h.visit e h.there h.is in record {
        visit = base_visit book x.mark.place e;
        effect_is = ap (λ (l : LaneId). effect_at book l x.mark.place) (lane_base x.mark.lane x.lane_is) ∙ d.effect;
        at = x.place_is;
        is = refl;
        serves = d.serves ∙ (λ i. base_serving (h.before i).base (h.was_handed i) e);
      }

  pub found_cpu : (c : ℕ) (e : CpuEntry) (x : Visited set m n (c + 2) place s (Cpu e) got) → IsIntOfBatch e →
      FoundCpu visits (effect_of book (Marked x.mark)) c place s e got
  found_cpu c e x fits = let h = in_list lanes n.view visits x.mark (c + 2) s (Cpu e) got x.lane_is x.met k in
      let d = cpu_effect lanes visits callers k.closed c x.mark.place h.visit e
      (let a = x.met.near in let b = x.lane_is in let f = k.long in omega arith) h.there h.is fits in record {
        visit = cpu_visit book c x.mark.place e;
        effect_is = ap (λ (l : LaneId). effect_at book l x.mark.place) (lane_cpu x.mark.lane c x.lane_is) ∙ d.effect;
        on = refl;
        fast = ap (λ (z : Model). z.cpu.fast) h.before;
        at = x.place_is;
        is = refl;
        serves = d.serves ∙ (λ i. cpu_serving (h.before i).cpu (h.was_handed i) e);
      }
